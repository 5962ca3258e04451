-- The cells of a whole model (specs/Models) represent it, pure.
use Rattle.machine.specs.All.{ℕ, zero, suc, ◌+◌, ◌*◌, ◌-◌, ◌≤◌, ◌<◌, arith, ◌≡◌, refl, sym, ap, ◌∙◌, Bool, true, false, List, [], ◌∷◌, ◌++◌, ltb, T, length, get_or, drop, replicate, length-set, length-replicate, get_or-replicate, length-take, length-drop, get_or-append, get_or-eq_default, sets, get_or-set_same, get_or-set_other, length-sets, ext_get_or, get_or-take, get_or-drop, get_or-append-add, ltb-true, ltb-false, Sum, nothing, terminate, BlockModel}
use Rattle.constants.specs.declared.model.Model.{Model}
use Rattle.layout.specs.All.{block_forms, sum_numbers, block_numbers, At, small_block, small_sum, Watching, Sharing}
use Rattle.parse_values.specs.{Keeps.number_shape, Filled.stored_rows, Filled.Each, Shapes.ProperValue}
use Rattle.parse_values.proofs.Cells.{sets-above, sets-inside, at_each, length-rows, rows-below, rows_above, rows_inside}
use Rattle.parse_values.proofs.Filled.{each_at, each_map}
use Rattle.program.specs.{Shapes.capacities_of, Formed.Formed}
use Rattle.program.proofs.Question.{Standing}
use Rattle.watch.specs.Watch.{watched}
use Rattle.watch.proofs.Reaching.{Stored}
use Rattle.watch.proofs.Watching.{watched_frame, watched-length, stored_same, watching, sharing}
use Rattle.decode.specs.{empty_tables, Capacity, Servers, ProperServers, servers_cells, tables_of, ProperModel}

-- ---- Before decoding

pub zeros : (n i : ℕ) → ◌≡◌ {A = ℕ} (get_or (replicate n 0) i 0) 0
zeros zero i = refl
zeros (suc n) zero = refl
zeros (suc n) (suc i) = zeros n i

length-empty : (edition : ℕ) → length (empty_tables edition) ≡ 2890
unfolding empty_tables
length-empty edition = length-set (replicate 2890 0) 2624 edition ∙ length-replicate {A = ℕ} 2890 0

empty-zero : (edition i : ℕ) → (i ≡ 2624 → ⊥) → get_or (empty_tables edition) i 0 ≡ 0
unfolding empty_tables
empty-zero edition i ne = get_or-set_other (replicate 2890 0) 2624 i edition 0 ne ∙ zeros 2890 i

empty-edition : (edition : ℕ) → get_or (empty_tables edition) 2624 0 ≡ edition
unfolding empty_tables
empty-edition edition = get_or-set_same (replicate 2890 0) 2624 edition 0 (omega (arith, length-replicate {A = ℕ} 2890 0))

-- ---- Facilities and storages

abbrev number : ℕ → List ℕ
number = (number_shape 1 65535 1).numbers

module _ (a : Servers) (w : ProperServers a) where
  abbrev empty : List ℕ
  empty = empty_tables a.edition

  pub length-servers : length (servers_cells a) ≡ 2890
  length-servers =
      length-rows number 1 a.capacities (2560 + a.facilities) _ ∙ length-sets empty 2560 (replicate a.facilities 1)
      ∙ length-empty a.edition

  single : (l : List ℕ) → Each (λ v. length (number v) ≤ 1) l
  single [] = tt
  single (v ∷ l) = (omega arith, single l)

  -- a storage's capacity
  pub storage-cell : (k : ℕ) → k < length a.capacities → get_or (servers_cells a) (2560 + a.facilities + k) 0 ≡ get_or a.capacities k 0
  storage-cell k h =
      let f = w.facilities in
      let n = w.storages in
      let c = w.count in
      let room : 2560 + a.facilities + 1 * length a.capacities ≤ length (sets empty 2560 (replicate a.facilities 1))
      = simp length-sets (omega (arith, length-empty a.edition)) in
      let e : 2560 + a.facilities + k ≡ 2560 + a.facilities + 1 * k + 0 = omega arith in
      let v = each_at Capacity a.capacities 0 w.each k h in
      rw e
      (rows_inside number 1 a.capacities (2560 + a.facilities) k 0 (sets empty 2560 (replicate a.facilities 1)) 0
      (single a.capacities) room h (omega arith)
      ∙ omega (arith, v.0))

  facility-cell : (v : ℕ) → v < a.facilities → get_or (servers_cells a) (2560 + v) 0 ≡ 1
  facility-cell v h =
      let f = w.facilities in
      let l = length-replicate {A = ℕ} a.facilities 1 in
      rows-below number 1 a.capacities (2560 + a.facilities) (2560 + v) (sets empty 2560 (replicate a.facilities 1)) (omega arith)
      ∙ sets-inside (replicate a.facilities 1) empty 2560 v (omega (arith, length-empty a.edition)) (omega arith)
      ∙ get_or-replicate a.facilities v 1 0 h

  other-cell : (i : ℕ) → 2560 + a.facilities + length a.capacities ≤ i → get_or (servers_cells a) i 0 ≡ get_or empty i 0
  other-cell i h =
      let l = length-replicate {A = ℕ} a.facilities 1 in
      rows_above number 1 a.capacities (2560 + a.facilities) i (sets empty 2560 (replicate a.facilities 1))
      (single a.capacities) (omega arith)
      ∙ sets-above (replicate a.facilities 1) empty 2560 i (omega arith)

  pub edition-cell : get_or (servers_cells a) 2624 0 ≡ a.edition
  edition-cell = other-cell 2624 (omega (arith, w.facilities, w.storages, w.count)) ∙ empty-edition a.edition

  -- the capacity of each server
  pub server-cell : (v : ℕ) → v < 64 → get_or (servers_cells a) (2560 + v) 0 ≡ get_or (replicate a.facilities 1 ++ a.capacities) v 0
  server-cell v small = go (ltb v a.facilities) (ltb v (a.facilities + length a.capacities)) refl refl
    where
      l : length (replicate {A = ℕ} a.facilities 1) ≡ a.facilities
      l = length-replicate {A = ℕ} a.facilities 1

      past : a.facilities ≤ v → get_or (replicate a.facilities 1 ++ a.capacities) v 0 ≡ get_or a.capacities (v - a.facilities) 0
      past h =
          let e : v ≡ length (replicate {A = ℕ} a.facilities 1) + (v - a.facilities) = omega (arith, l) in
          ap (λ (i : ℕ). get_or (replicate a.facilities 1 ++ a.capacities) i 0) e
          ∙ get_or-append-add (replicate a.facilities 1) a.capacities (v - a.facilities) 0

      go : (x y : Bool) → ltb v a.facilities ≡ x → ltb v (a.facilities + length a.capacities) ≡ y →
          get_or (servers_cells a) (2560 + v) 0 ≡ get_or (replicate a.facilities 1 ++ a.capacities) v 0
      go true y e f =
          let h = ltb-true v a.facilities e in
          facility-cell v h
          ∙ sym (get_or-append (replicate a.facilities 1) a.capacities 0 v (omega (arith, l))
          ∙ get_or-replicate a.facilities v 1 0 h)
      go false true e f =
          let h = ltb-false v a.facilities e in
          let g = ltb-true v (a.facilities + length a.capacities) f in
          let i : 2560 + v ≡ 2560 + a.facilities + (v - a.facilities) = omega arith in
          rw i (storage-cell (v - a.facilities) (omega arith)) ∙ sym (past h)
      go false false e f =
          let h = ltb-false v a.facilities e in
          let g = ltb-false v (a.facilities + length a.capacities) f in
          other-cell (2560 + v) (omega arith) ∙ empty-zero a.edition (2560 + v) (λ z. omega arith)
          ∙ sym (past h ∙ get_or-eq_default a.capacities 0 (omega arith))

-- ---- Values leave them

fits-value : (l : List Sum) → Each ProperValue l → Each (λ e. length (sum_numbers e) ≤ 64) l
fits-value = each_map ProperValue (λ e. length (sum_numbers e) ≤ 64) (λ e h. h.0)

module _ (a : Servers) (w : ProperServers a) (sums : List Sum) (few : length sums ≤ 8) (proper : Each ProperValue sums) where
  abbrev cells : List ℕ
  cells = stored_rows sum_numbers 64 2048 sums (servers_cells a)

  length-cells : length cells ≡ 2890
  length-cells = length-rows sum_numbers 64 sums 2048 (servers_cells a) ∙ length-servers a w

  after-values : (i : ℕ) → 2560 ≤ i → get_or cells i 0 ≡ get_or (servers_cells a) i 0
  after-values i h = rows_above sum_numbers 64 sums 2048 i (servers_cells a) (fits-value sums proper) (omega arith)

  -- what blocks see of the storages
  pub capacities_stand : (m : Model) → m.facilities ≡ a.facilities → m.storages ≡ a.storages → capacities_of m cells ≡ a.capacities
  capacities_stand m f n =
      let c = w.count in
      let wf = w.facilities in
      let ws = w.storages in
      let lc = length-cells in
      let size : length (capacities_of m cells) ≡ length a.capacities = simp (length-take, length-drop) (omega arith) in
      ext_get_or 0 (capacities_of m cells) a.capacities size
      (λ i h.
      let b : i < length a.capacities = omega arith in
      let e : 2560 + m.facilities + i ≡ 2560 + a.facilities + i = omega arith in
      get_or-take m.storages (drop (2560 + m.facilities) cells) i 0 (omega arith)
      ∙ get_or-drop (2560 + m.facilities) cells i 0
      ∙ ap (λ (j : ℕ). get_or cells j 0) e
      ∙ after-values (2560 + a.facilities + i) (omega arith)
      ∙ storage-cell a w i b)

-- ---- The whole model

module _ (m : BlockModel) (w : ProperModel m) where
  abbrev servers : Servers
  servers = record { edition = m.edition; facilities = m.facilities; storages = length m.capacities; capacities = m.capacities }

  proper-servers : ProperServers servers
  proper-servers = record { facilities = w.facilities; storages = w.storages; count = refl; each = w.capacity }

  abbrev below-blocks : List ℕ
  below-blocks = cells servers proper-servers m.values w.values w.value

  length-below : length below-blocks ≡ 2890
  length-below = length-cells servers proper-servers m.values w.values w.value

  fits-block : Each (λ b. length (block_numbers b) ≤ 8) m.blocks
  fits-block = each_map (Formed (length m.blocks)) (λ b. length (block_numbers b) ≤ 8) (λ b h. h.width) m.blocks w.block

  pub length-tables : length (tables_of m) ≡ 2890
  unfolding tables_of
  length-tables = length-rows block_numbers 8 m.blocks 0 below-blocks ∙ length-below

  pub blocks_stand : Standing (tables_of m) 0 m.blocks
  unfolding tables_of
  blocks_stand j i h g =
      let most = w.blocks in
      rows_inside block_numbers 8 m.blocks 0 j i below-blocks (terminate 0) fits-block (omega (arith, length-below)) h g

  after-blocks : (i : ℕ) → 2048 ≤ i → get_or (tables_of m) i 0 ≡ get_or below-blocks i 0
  unfolding tables_of
  after-blocks i h = let most = w.blocks in rows_above block_numbers 8 m.blocks 0 i below-blocks fits-block (omega arith)

  -- the eight numbers of a block stand in its row of the tables
  pub block-at : (b : ℕ) → b < length m.blocks → At (tables_of m) (8 * b) (block_numbers (get_or m.blocks b (terminate 0)))
  block-at b h =
      let most = w.blocks in
      let width = (each_at (Formed (length m.blocks)) m.blocks (terminate 0) w.block b h).width in
      at_each (tables_of m) (8 * b) (block_numbers (get_or m.blocks b (terminate 0))) (omega (arith, length-tables))
      (λ i g. let z : 8 * b + i ≡ 0 + 8 * b + i = omega arith in rw z (blocks_stand b i h g))

  -- the numbers of a value stand in its row
  pub value-at : (k : ℕ) → k < length m.values → At (tables_of m) (2048 + 64 * k) (sum_numbers (get_or m.values k nothing))
  value-at k h =
      let most = w.values in
      let width = (each_at ProperValue m.values nothing w.value k h).0 in
      at_each (tables_of m) (2048 + 64 * k) (sum_numbers (get_or m.values k nothing)) (omega (arith, length-tables))
      (λ i g.
      after-blocks (2048 + 64 * k + i) (omega arith)
      ∙ rows_inside sum_numbers 64 m.values 2048 k i (servers_cells servers) nothing (fits-value m.values w.value)
      (omega (arith, length-servers servers proper-servers)) h g)

  -- a facility has capacity 1, a storage its own, and a server that is not there 0
  pub capacity-at : (v : ℕ) → v < 64 → get_or (tables_of m) (2560 + v) 0 ≡ get_or (replicate m.facilities 1 ++ m.capacities) v 0
  capacity-at v small =
      after-blocks (2560 + v) (omega arith)
      ∙ after-values servers proper-servers m.values w.values w.value (2560 + v) (omega arith)
      ∙ server-cell servers proper-servers v small

  pub edition-at : get_or (tables_of m) 2624 0 ≡ m.edition
  edition-at =
      after-blocks 2624 (omega arith)
      ∙ after-values servers proper-servers m.values w.values w.value 2624 (omega arith)
      ∙ edition-cell servers proper-servers

  pub block-small : (b : ℕ) → T (small_block (get_or m.blocks b (terminate 0)))
  unfolding block_forms
  block-small b = go (ltb b (length m.blocks)) refl
    where
      go : (x : Bool) → ltb b (length m.blocks) ≡ x → T (small_block (get_or m.blocks b (terminate 0)))
      go true e = (each_at (Formed (length m.blocks)) m.blocks (terminate 0) w.block b (ltb-true b (length m.blocks) e)).small
      go false e = rw (get_or-eq_default m.blocks (terminate 0) (ltb-false b (length m.blocks) e)) tt

  pub value-small : (k : ℕ) → T (small_sum (get_or m.values k nothing))
  unfolding small_sum
  value-small k = go (ltb k (length m.values)) refl
    where
      go : (x : Bool) → ltb k (length m.values) ≡ x → T (small_sum (get_or m.values k nothing))
      go true e = (each_at ProperValue m.values nothing w.value k (ltb-true k (length m.values) e)).1
      go false e = rw (get_or-eq_default m.values nothing (ltb-false k (length m.values) e)) tt

  -- ---- With the cells that say what the WAITIFs read

  stored : Stored m (tables_of m)
  stored =
      record {
        blocks = block-at;
        narrow = λ b h. (each_at (Formed (length m.blocks)) m.blocks (terminate 0) w.block b h).width;
        values = value-at;
        short = λ k h. (each_at ProperValue m.values nothing w.value k h).0;
        few = w.values;
        most = w.blocks;
      }

  abbrev pub all_tables : List ℕ
  all_tables = watched (length m.blocks) (length m.values) (tables_of m)

  stored-all : Stored m all_tables
  stored-all =
      stored_same (tables_of m) all_tables (watched-length (length m.blocks) (length m.values) (tables_of m))
      (watched_frame (length m.blocks) (length m.values) (tables_of m)) stored

  -- what `watch` adds leaves the blocks,
  pub block-stays : (b : ℕ) → b < length m.blocks → At all_tables (8 * b) (block_numbers (get_or m.blocks b (terminate 0)))
  block-stays = stored-all.blocks

  -- the values
  pub value_stays : (k : ℕ) → k < length m.values → At all_tables (2048 + 64 * k) (sum_numbers (get_or m.values k nothing))
  value_stays = stored-all.values

  -- and the capacities
  pub capacity-stays : (v : ℕ) → v < 64 → get_or all_tables (2560 + v) 0 ≡ get_or (replicate m.facilities 1 ++ m.capacities) v 0
  capacity-stays v small =
      watched_frame (length m.blocks) (length m.values) (tables_of m) (2560 + v) (omega arith) ∙ capacity-at v small

  pub edition-stays : get_or all_tables 2624 0 ≡ m.edition
  edition-stays = watched_frame (length m.blocks) (length m.values) (tables_of m) 2624 (omega arith) ∙ edition-at

  pub all-watching : Watching m all_tables
  all-watching = watching stored (omega (arith, length-tables))

  pub all-sharing : Sharing m all_tables
  all-sharing = sharing stored (omega (arith, length-tables))
