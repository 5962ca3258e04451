-- A joined model is at most 8,632 numbers, so it fits the room that is kept for it; and there its bytes stand at the front.
use Rattle.machine.specs.All.{ℕ, zero, suc, ◌+◌, ◌*◌, ◌-◌, ◌≤◌, ◌<◌, zero-add, arith, ◌≡◌, refl, sym, ap, ap₂, ◌∙◌, List, [], ◌∷◌, ◌++◌, map, append_assoc, append-nil, length, get_or, take, drop, length-append, length-drop, take-append-drop, sets, length-sets, sets-eq, take-append_seam, flat, number_bytes, Term, constant, minus_constant, parameter, clock_term, entries_of, content_of, units_in_use, units_free, facility_in_use, value, comparison, bracket, Sum, nothing, plus, minus, BlockModel, subst, Each}
use Rattle.layout.specs.Layout as Layout
use Rattle.layout.specs.All.{term_numbers, signed_terms, sum_numbers, At, header_of}
use Rattle.codec.specs.Writing.{Written, written, put}
use Rattle.codec.proofs.{Stores.sets-append, Writing.put-room}
use Rattle.joined.specs.Join.{Part, term_in, sum_in, first, second}
use Rattle.join_laws.specs.declared.shift.Shift.{Shift}
use Rattle.join_laws.specs.{stored_term, stored_terms, stored_sum, numbers_bytes, puts, value_rows, block_rows, kept_room, first_shift, second_shift, cell_row_lem, server_rows, thing_rows, all_blocks_lem, program_rows, joined_rows, joined_bytes_lem}
use Rattle.joined.proofs.Joining.ProperJoined.{Fits}
use Rattle.join_laws.proofs as our
use our.{BlockRows.Moves, Room.bytes_most, Room.blocks-most, Numbered.NumberedSum}
use our.JoinedRows.{from_zero, value-rows, Table, moves₁, moves₂}

-- ---- A value has as many numbers as its cells

module _ (joint : ℕ) (p : Part) where
  mutual
    unfolding stored_term term_in term_numbers

    term-size : (t : Term) → length (stored_term joint (term_in p t)) ≡ length (term_numbers t)
    term-size (constant n) = refl
    term-size (minus_constant n) = refl
    term-size (parameter k) = refl
    term-size clock_term = refl
    term-size (entries_of b) = refl
    term-size (content_of q) = refl
    term-size (units_in_use v) = refl
    term-size (units_free v) = refl
    term-size (facility_in_use v) = refl
    term-size (value k) = refl
    term-size (comparison r a b) =
        let n = length-append (stored_term joint (term_in p a)) (stored_term joint (term_in p b)) in
        omega (arith, n, length-append (term_numbers a) (term_numbers b), term-size a, term-size b)
    term-size (bracket e) = omega (arith, terms-size e)

    terms-size : (e : Sum) → length (stored_terms joint (sum_in p e)) ≡ length (signed_terms e)
    terms-size nothing = refl
    terms-size (plus t e) =
        let n = length-append (stored_term joint (term_in p t)) (stored_terms joint (sum_in p e)) in
        omega (arith, n, length-append (term_numbers t) (signed_terms e), term-size t, terms-size e)
    terms-size (minus t e) =
        let n = length-append (stored_term joint (term_in p t)) (stored_terms joint (sum_in p e)) in
        omega (arith, n, length-append (term_numbers t) (signed_terms e), term-size t, terms-size e)

  sum-size : (e : Sum) → length (stored_sum joint (sum_in p e)) ≡ length (sum_numbers e)
  unfolding stored_sum sum_numbers
  sum-size e = omega (arith, terms-size e)

  sums-most : (l : List Sum) → ((i : ℕ) → i < length l → length (sum_numbers (get_or l i nothing)) ≤ 850)
      → length (flat (map (λ e. stored_sum joint (sum_in p e)) l)) ≤ 850 * length l
  unfolding flat
  sums-most [] h = omega arith
  sums-most (e ∷ l) h =
      let n = length-append (stored_sum joint (sum_in p e)) (flat (map (λ e. stored_sum joint (sum_in p e)) l)) in
      let one : length (sum_numbers e) ≤ 850 = h 0 (omega arith) in
      omega (arith, n, one, sum-size e, sums-most l (λ i low. h (suc i) (omega arith)))

-- numbers that stand in a list are no more than it has from there on
at_most : (l : List ℕ) (at : ℕ) (numbers : List ℕ) → At l at numbers → length numbers ≤ length l - at
at_most l at numbers h =
    let front = take (length numbers) (drop at l) in
    let n = length-append front (drop (length numbers) (drop at l)) in
    omega (arith, ap length h, n, ap length (take-append-drop (length numbers) (drop at l)), length-drop at l)

cells-size : (tables : List ℕ) (left at : ℕ) → length (cell_row_lem tables left at) ≡ left
unfolding cell_row_lem
cells-size tables zero at = refl
cells-size tables (suc left) at = ap suc (cells-size tables left (suc at))

-- ---- All of them

values-most : (p : Part) (by : Shift) (joint : ℕ) → Moves p by joint → (m : BlockModel) (tables : List ℕ)
    → length tables ≡ Layout.tables_size → p.facilities ≡ m.facilities → Table m tables
    → length (value_rows tables by (length m.values) 0) ≤ 850 * length m.values
values-most p by joint same m tables size own t =
    let rows = value-rows p by joint same tables m.values 0
    (λ i low. subst (λ j. At tables (Layout.values + Layout.value_width * j) (sum_numbers (get_or m.values i nothing))) (from_zero i)
    (t.values i low))
    (subst (λ f. Each (NumberedSum f) m.values) (sym own) t.decoded.sums-numbered) t.nested.values in
    omega (
      arith,
      ap length rows,
      sums-most joint p m.values
          (λ i low.
          omega (
            arith,
            size,
            at_most tables (Layout.values + Layout.value_width * i) (sum_numbers (get_or m.values i nothing)) (t.values i low),
          )),
    )

module _ (m₁ m₂ : BlockModel) (tables₁ tables₂ : List ℕ) (size₁ : length tables₁ ≡ Layout.tables_size)
    (size₂ : length tables₂ ≡ Layout.tables_size) (t₁ : Table m₁ tables₁) (t₂ : Table m₂ tables₂) (within : Fits m₁ m₂) where
  abbrev shift₁ : Shift
  shift₁ = first_shift (header_of m₁)

  abbrev shift₂ : Shift
  shift₂ = second_shift (header_of m₁) (header_of m₂)

  servers-most : length (server_rows tables₁ (header_of m₁) tables₂ (header_of m₂)) ≤ 35
  unfolding server_rows header_of
  servers-most =
      let n =
      length-append (cell_row_lem tables₁ (length m₁.capacities) (Layout.capacities + m₁.facilities))
      (cell_row_lem tables₂ (length m₂.capacities) (Layout.capacities + m₂.facilities)) in
      omega (
        arith,
        n,
        cells-size tables₁ (length m₁.capacities) (Layout.capacities + m₁.facilities),
        cells-size tables₂ (length m₂.capacities) (Layout.capacities + m₂.facilities),
        within.storages,
      )

  things-most : length (thing_rows tables₁ (header_of m₁) tables₂ (header_of m₂)) ≤ 6802
  unfolding thing_rows header_of
  things-most =
      let n = length-append (value_rows tables₁ shift₁ (length m₁.values) 0) (value_rows tables₂ shift₂ (length m₂.values) 0) in
      let v₁ =
      values-most (first m₁ m₂) shift₁ (m₁.facilities + m₂.facilities) (moves₁ m₁ m₂ tables₁ tables₂ t₁ t₂) m₁ tables₁ size₁ refl t₁ in
      let v₂ =
      values-most (second m₁ m₂) shift₂ (m₁.facilities + m₂.facilities) (moves₂ m₁ m₂ tables₁ tables₂ t₁ t₂) m₂ tables₂ size₂ refl t₂ in
      omega (arith, n, v₁, v₂, within.values)

  program-most : length (program_rows tables₁ (header_of m₁) tables₂ (header_of m₂)) ≤ 1795
  unfolding program_rows all_blocks_lem header_of
  program-most =
      let n = length-append (block_rows tables₁ shift₁ (length m₁.blocks) 0) (block_rows tables₂ shift₂ (length m₂.blocks) 0) in
      omega (
        arith,
        n,
        blocks-most tables₁ shift₁ (length m₁.blocks) 0,
        blocks-most tables₂ shift₂ (length m₂.blocks) 0,
        within.blocks,
      )

  rows-most : length (joined_rows tables₁ (header_of m₁) tables₂ (header_of m₂)) ≤ 8632
  unfolding joined_rows
  rows-most =
      let s = server_rows tables₁ (header_of m₁) tables₂ (header_of m₂) in
      let t = thing_rows tables₁ (header_of m₁) tables₂ (header_of m₂) in
      let p = program_rows tables₁ (header_of m₁) tables₂ (header_of m₂) in
      omega (arith, length-append s (t ++ p), length-append t p, servers-most, things-most, program-most)

  -- the room that is kept is enough for any two models that may be joined
  pub joined-most : length (joined_bytes_lem tables₁ (header_of m₁) tables₂ (header_of m₂)) ≤ kept_room
  joined-most = omega (arith, rows-most, bytes_most (joined_rows tables₁ (header_of m₁) tables₂ (header_of m₂)))

-- ---- Written with room

-- behind bytes that stand at the front
put-behind : (u l : List ℕ) (v : ℕ) → length (u ++ number_bytes v) ≤ length l
    → put v (written (length u) (sets l 0 u)) ≡ written (length (u ++ number_bytes v)) (sets l 0 (u ++ number_bytes v))
put-behind u l v h =
    let n = length-append u (number_bytes v) in
    put-room (length u) v (sets l 0 u) (omega (arith, length-sets l 0 u))
    ∙ ap₂ written (sym n)
    (ap (λ (i : ℕ). sets (sets l 0 u) i (number_bytes v)) (sym (zero-add (length u))) ∙ sets-append u (number_bytes v) l 0)

puts-behind : (l u base : List ℕ) → length (u ++ numbers_bytes l) ≤ length base
    → puts l (written (length u) (sets base 0 u)) ≡ written (length (u ++ numbers_bytes l)) (sets base 0 (u ++ numbers_bytes l))
unfolding puts numbers_bytes flat
puts-behind [] u base h = sym (ap (λ b. written (length b) (sets base 0 b)) (append-nil u))
puts-behind (v ∷ l) u base h =
    let same : u ++ (number_bytes v ++ numbers_bytes l) ≡ (u ++ number_bytes v) ++ numbers_bytes l = sym
    (append_assoc u (number_bytes v) (numbers_bytes l)) in
    let n = length-append (u ++ number_bytes v) (numbers_bytes l) in
    let all : length ((u ++ number_bytes v) ++ numbers_bytes l) ≤ length base = subst (λ b. length b ≤ length base) same h in
    ap (puts l) (put-behind u base v (omega (arith, n, all)))
    ∙ puts-behind l (u ++ number_bytes v) base all
    ∙ sym (ap (λ b. written (length b) (sets base 0 b)) same)

pub record Front (l base : List ℕ) (at : ℕ) (bytes : List ℕ) : Type 0 where
  pub size : at ≡ length (numbers_bytes l)
  pub taken : take at bytes ≡ numbers_bytes l
  pub stays : length bytes ≡ length base

-- stores from the first byte on replace as many bytes and leave the rest
pub front-sets : (u base : List ℕ) → length u ≤ length base → sets base 0 u ≡ u ++ drop (length u) base
front-sets u base h = let start : 0 + length u ≡ length u = omega arith in sets-eq u base 0 (omega arith) ∙ ap (λ n. u ++ drop n base) start

-- numbers that are put one after the other stand as their bytes
pub puts-front : (l base : List ℕ) (at : ℕ) (bytes : List ℕ) → length (numbers_bytes l) ≤ length base
    → written at bytes ≡ puts l (written 0 base) → Front l base at bytes
unfolding written
puts-front l base at bytes h e =
    let all = e ∙ puts-behind l [] base h in
    let size : at ≡ length (numbers_bytes l) = ap (λ (w : Written). w.at) all in
    let whole : bytes ≡ sets base 0 (numbers_bytes l) = ap (λ (w : Written). w.bytes) all in
    record {
      size = size;
      stays = ap length whole ∙ length-sets base 0 (numbers_bytes l);
      taken =
          ap₂ (λ n b. take n b) size (whole ∙ front-sets (numbers_bytes l) base h)
          ∙ take-append_seam (numbers_bytes l) (drop (length (numbers_bytes l)) base);
    }
