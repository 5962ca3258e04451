-- What is written from two tables is the joined model.
use Rattle.machine.specs.All.{ℕ, suc, ◌+◌, ◌*◌, ◌-◌, ◌<◌, add-zero, arith, ◌≡◌, refl, sym, ap, ap₂, subst, ◌∙◌, List, [], ◌∷◌, ◌++◌, map, append-nil, T, length, get_or, replicate, length-append, length-replicate, get_or-append-add, flat, Each, Sum, nothing, Block, terminate, BlockModel, block_at}
use Rattle.machine.specs.Limits as Limits
use Rattle.machine.proofs.Decoding.Proper.{ProperBlock, Proper}
use Rattle.layout.specs.Layout as Layout
use Rattle.layout.specs.All.{terms, sum_numbers, signed_terms, block_numbers, At, header_of, Represents}
use Rattle.evaluation.specs.Nested.{nested_sum, nested_block, Nested}
use Rattle.evaluation.proofs.Found.{at_first}
use Rattle.joined.specs.Join.{Part, first, second, sum_in, block_in, join_models}
use Rattle.join_laws.specs.declared.shift.Shift.{Shift}
use Rattle.join_laws.specs.{stored_sum, stored_block, stored_model, moved_by, value_row_lem, value_rows, block_rows, first_shift, second_shift, joined_counter, cell_row_lem, server_rows, thing_rows, all_blocks_lem, program_rows, joined_rows, stored_terms, items_from}
use Rattle.join_laws.proofs.{Numbered.NumberedSum, CarriedBlocks.NumberedBlock, CarriedValues.terms_in, Decoded.Decoded, Joint.stored-both, Joint.length_both, BlockRows.Moves, BlockRows.block-row, ValueRows.sum-writes}

-- ---- Rows

later : (k i : ℕ) → k + suc i ≡ suc k + i
later k i = omega arith

pub from_zero : (i : ℕ) → i ≡ 0 + i
from_zero i = omega arith

module _ (p : Part) (by : Shift) (joint : ℕ) (same : Moves p by joint) (tables : List ℕ) where
  value_row : (e : Sum) (at : ℕ) → NumberedSum p.facilities e → T (nested_sum Limits.max_brackets e) → At tables at (sum_numbers e)
      → value_row_lem tables by at ≡ stored_sum joint (sum_in p e)
  unfolding value_row_lem stored_sum sum_numbers moved_by
  value_row e at k d h =
      let f = at_first tables at (terms e) (signed_terms e) h in
      ap (λ n. n ∷ (items_from tables by 4 n 1 (at + 1)).numbers) (sym f.found)
      ∙ ap (λ i. terms e ∷ i.numbers)
      (sum-writes p by joint same tables e k 4 (at + 1) [] d (subst (At tables (at + 1)) (sym (append-nil (signed_terms e))) f.after))
      ∙ ap (λ n. n ∷ stored_terms joint (sum_in p e)) (sym (terms_in p e))

  pub value-rows : (l : List Sum) (k : ℕ)
      → ((i : ℕ) → i < length l → At tables (Layout.values + Layout.value_width * (k + i)) (sum_numbers (get_or l i nothing)))
      → Each (NumberedSum p.facilities) l → ((i : ℕ) → T (nested_sum Limits.max_brackets (get_or l i nothing)))
      → value_rows tables by (length l) k ≡ flat (map (λ e. stored_sum joint (sum_in p e)) l)
  unfolding value_rows flat
  value-rows [] k h n d = refl
  value-rows (e ∷ l) k h n d =
      let here : At tables (Layout.values + Layout.value_width * k) (sum_numbers e) =
      subst (λ i. At tables (Layout.values + Layout.value_width * i) (sum_numbers e)) (add-zero k) (h 0 (omega arith)) in
      ap₂ (λ u v. u ++ v) (value_row e (Layout.values + Layout.value_width * k) n.0 (d 0) here)
      (value-rows l (suc k)
      (λ i low. subst (λ j. At tables (Layout.values + Layout.value_width * j) (sum_numbers (get_or l i nothing))) (later k i)
      (h (suc i) (omega arith))) n.1 (λ i. d (suc i)))

  block-rows : (m : BlockModel) → m.facilities ≡ p.facilities → (l : List Block) (k : ℕ)
      → ((i : ℕ) → i < length l → At tables (Layout.block_width * (k + i)) (block_numbers (get_or l i (terminate 0))))
      → ((i : ℕ) → ProperBlock m (get_or l i (terminate 0))) → Each (NumberedBlock p.facilities) l
      → ((i : ℕ) → T (nested_block (get_or l i (terminate 0))))
      → block_rows tables by (length l) k ≡ flat (map (λ b. stored_block joint (block_in p b)) l)
  unfolding block_rows flat
  block-rows m own [] k h q n d = refl
  block-rows m own (b ∷ l) k h q n d =
      let here : At tables (Layout.block_width * k) (block_numbers b) =
      subst (λ i. At tables (Layout.block_width * i) (block_numbers b)) (add-zero k) (h 0 (omega arith)) in
      ap₂ (λ u v. u ++ v) (block-row p by joint same tables m own (Layout.block_width * k) b (q 0) n.0 (d 0) here)
      (block-rows m own l (suc k)
      (λ i low. subst (λ j. At tables (Layout.block_width * j) (block_numbers (get_or l i (terminate 0)))) (later k i)
      (h (suc i) (omega arith))) (λ i. q (suc i)) n.1 (λ i. d (suc i)))

-- the cells that hold a list
cell_row : (tables l : List ℕ) (at : ℕ) → ((i : ℕ) → i < length l → get_or tables (at + i) 0 ≡ get_or l i 0) → cell_row_lem tables (length l) at ≡ l
unfolding cell_row_lem
cell_row tables [] at h = refl
cell_row tables (x ∷ l) at h =
    ap₂ (λ u v. u ∷ v) (ap (λ i. get_or tables i 0) (sym (add-zero at)) ∙ h 0 (omega arith))
    (cell_row tables l (suc at) (λ i low. ap (λ j. get_or tables j 0) (omega arith) ∙ h (suc i) (omega arith)))

-- ---- Tables that stand for a model

pub record Table (m : BlockModel) (tables : List ℕ) : Type 0 where
  pub edition : get_or tables Layout.edition 0 ≡ m.edition
  -- the tables of a model that was decoded hold its numbers, cell by cell
  pub capacities : cell_row_lem tables (length m.capacities) (Layout.capacities + m.facilities) ≡ m.capacities
  pub blocks : (b : ℕ) → b < length m.blocks → At tables (Layout.block_width * b) (block_numbers (get_or m.blocks b (terminate 0)))
  pub values : (k : ℕ) → k < length m.values
      → At tables (Layout.values + Layout.value_width * k) (sum_numbers (get_or m.values k nothing))
  pub decoded : Decoded m
  pub nested : Nested m
  pub proper : (n : ℕ) → ProperBlock m (block_at m n)

-- what decoding promises is all that writing needs
pub table : (m : BlockModel) (tape : List (List ℕ)) (bytes tables lists : List ℕ) → Represents m tape bytes tables lists → Decoded m
    → Nested m → Proper m tape → Table m tables
table m tape bytes tables lists r d n q =
    record {
      edition = r.edition;
      capacities =
          cell_row tables m.capacities (Layout.capacities + m.facilities)
          (λ i low.
          let e : Layout.capacities + m.facilities + i ≡ Layout.capacities + (m.facilities + i) = omega arith in
          let ones : length (replicate m.facilities 1) ≡ m.facilities = length-replicate m.facilities 1 in
          ap (λ j. get_or tables j 0) e ∙ r.capacities (m.facilities + i) (omega (arith, d.facilities, d.storages))
          ∙ ap (λ j. get_or (replicate m.facilities 1 ++ m.capacities) (j + i) 0) (sym ones)
          ∙ get_or-append-add (replicate m.facilities 1) m.capacities i 0);
      blocks = r.blocks;
      values = r.values;
      decoded = d;
      nested = n;
      proper = q.block;
    }

module _ (m₁ m₂ : BlockModel) (tables₁ tables₂ : List ℕ) (t₁ : Table m₁ tables₁) (t₂ : Table m₂ tables₂) where
  abbrev facilities : ℕ
  facilities = m₁.facilities + m₂.facilities

  pub moves₁ : Moves (first m₁ m₂) (first_shift (header_of m₁)) facilities
  unfolding header_of
  moves₁ =
      record {
        own = refl;
        facilities = refl;
        servers = omega arith;
        queues = refl;
        values = refl;
        lists = refl;
        blocks = refl;
        room = omega arith;
      }

  -- the second part is moved on by the counts of the first
  pub moves₂ : Moves (second m₁ m₂) (second_shift (header_of m₁) (header_of m₂)) facilities
  unfolding header_of
  moves₂ =
      record {
        own = refl;
        facilities = refl;
        servers = omega arith;
        queues = refl;
        values = refl;
        lists = refl;
        blocks = refl;
        room = omega arith;
      }

  proper-at : (m : BlockModel) → ((n : ℕ) → ProperBlock m (block_at m n)) → (i : ℕ) → ProperBlock m (get_or m.blocks i (terminate 0))
  proper-at m q i = let e : suc i - 1 ≡ i = omega arith in subst (λ j. ProperBlock m (get_or m.blocks j (terminate 0))) e (q (suc i))

  values_are : value_rows tables₁ (first_shift (header_of m₁)) (length m₁.values) 0 ++ value_rows tables₂
      (second_shift (header_of m₁) (header_of m₂)) (length m₂.values) 0
      ≡ flat (map (stored_sum facilities) (map (sum_in (first m₁ m₂)) m₁.values ++ map (sum_in (second m₁ m₂)) m₂.values))
  values_are =
      ap₂ (λ u v. u ++ v)
      (value-rows (first m₁ m₂) (first_shift (header_of m₁)) facilities moves₁ tables₁ m₁.values 0
      (λ i low. subst (λ j. At tables₁ (Layout.values + Layout.value_width * j) (sum_numbers (get_or m₁.values i nothing))) (from_zero i)
      (t₁.values i low))
      t₁.decoded.sums-numbered t₁.nested.values)
      (value-rows (second m₁ m₂) (second_shift (header_of m₁) (header_of m₂)) facilities moves₂ tables₂ m₂.values 0
      (λ i low. subst (λ j. At tables₂ (Layout.values + Layout.value_width * j) (sum_numbers (get_or m₂.values i nothing))) (from_zero i)
      (t₂.values i low))
      t₂.decoded.sums-numbered t₂.nested.values)
      ∙ stored-both (stored_sum facilities) (sum_in (first m₁ m₂)) (sum_in (second m₁ m₂)) m₁.values m₂.values

  blocks_are : block_rows tables₁ (first_shift (header_of m₁)) (length m₁.blocks) 0 ++ block_rows tables₂
      (second_shift (header_of m₁) (header_of m₂)) (length m₂.blocks) 0
      ≡ flat (map (stored_block facilities) (map (block_in (first m₁ m₂)) m₁.blocks ++ map (block_in (second m₁ m₂)) m₂.blocks))
  blocks_are =
      ap₂ (λ u v. u ++ v)
      (block-rows (first m₁ m₂) (first_shift (header_of m₁)) facilities moves₁ tables₁ m₁ refl m₁.blocks 0
      (λ i low. subst (λ j. At tables₁ (Layout.block_width * j) (block_numbers (get_or m₁.blocks i (terminate 0)))) (from_zero i)
      (t₁.blocks i low))
      (proper-at m₁ t₁.proper) t₁.decoded.blocks-numbered t₁.nested.blocks)
      (block-rows (second m₁ m₂) (second_shift (header_of m₁) (header_of m₂)) facilities moves₂ tables₂ m₂ refl m₂.blocks 0
      (λ i low. subst (λ j. At tables₂ (Layout.block_width * j) (block_numbers (get_or m₂.blocks i (terminate 0)))) (from_zero i)
      (t₂.blocks i low))
      (proper-at m₂ t₂.proper) t₂.decoded.blocks-numbered t₂.nested.blocks)
      ∙ stored-both (stored_block facilities) (block_in (first m₁ m₂)) (block_in (second m₁ m₂)) m₁.blocks m₂.blocks

  counter-is : joined_counter (header_of m₁) (header_of m₂) ≡ m₁.counter + m₂.counter
  unfolding header_of
  counter-is = refl

  -- the code's numbers are the joined model's
  pub rows_are : joined_rows tables₁ (header_of m₁) tables₂ (header_of m₂) ≡ stored_model (join_models m₁ m₂)
  unfolding joined_rows server_rows thing_rows program_rows all_blocks_lem header_of stored_model join_models
  rows_are =
      ap₂ (λ e l. e ∷ facilities ∷ (length m₁.capacities + length m₂.capacities) ∷ l) t₁.edition
      (ap₂ (λ u v. u ++ v) (ap₂ (λ u v. u ++ v) t₁.capacities t₂.capacities)
      (ap₂ (λ u v. (m₁.queues + m₂.queues) ∷ (length m₁.values + length m₂.values) ∷ (u ++ v)) values_are
      (ap (λ u. (m₁.lists + m₂.lists) ∷ (m₁.counter + m₂.counter) ∷ (length m₁.blocks + length m₂.blocks) ∷ u) blocks_are)))
      ∙ rw (
        length-append m₁.capacities m₂.capacities,
        length_both (sum_in (first m₁ m₂)) (sum_in (second m₁ m₂)) m₁.values m₂.values,
        length_both (block_in (first m₁ m₂)) (block_in (second m₁ m₂)) m₁.blocks m₂.blocks,
      )
