-- What each function over operands keeps, pure: from what its calls kept, by the machine's `operands` at each kind.
use Rattle.machine.specs.All.{ℕ, suc, ◌+◌, ◌*◌, ◌-◌, ◌≤◌, ◌<◌, le_antisymm, arith, ◌≡◌, refl, sym, ap, ◌∙◌, List, [], ◌∷◌, ◌++◌, append_assoc, length, get_or, take, drop, length-append, length-drop, sets, length-sets, get_or-set_other, get_or-take, get_or-drop, ext_get_or, le-leb, lt-leb, Cursor, Parsed, parsed, refused, Parser, continue, field, Term, code_index, Block, generate, advance, terminate, seize, release, enter, leave, wait_server, wait_terms, branch, goto, assign, priority, split, arrive, depart, assemble, preempt, give_back, Counts, block_term, relation_of, code_of, code_server, storage_units, operands, block_field, nth}
use Rattle.std.specs.Prelude.{Ok, Err}
use Rattle.constants.specs.{declared.model.Model.Model, declared.refusals.Refusal.Refusal}
use Rattle.layout.specs.All.{block_forms, term_numbers, block_numbers}
use Rattle.parse_values.specs.{declared.Place.Place, declared.Range.Range, Keeps.Taken, Keeps.Stored, Shapes.counts_of, Shapes.range, Shapes.block_term_shape, Keeps.place_of}
use Rattle.parse_values.specs.Keeps.{cursor_of, Shape, Takes, Stores, number_shape}
use Rattle.parse_values.proofs.Binds.{takes-refused, takes-known, takes-stop, takes_bind, stores-stop, stores_bind, stores-last, stores_as}
use Rattle.parse_values.proofs.{Steps.sets_then, Cells.sets-above, Tags.by-tag, Tags.relation-number}
use Rattle.program.specs.Formed.{Formed}
use Rattle.program.specs.{pair_field, pair_shape, Pair, units_field, units_shape, watched_field, watched_shape, compared_field, compared_shape, operands_shape, block_shape, capacities_of}
use Rattle.program.proofs.Formed.{formed-plain, formed-generate, formed-terminate, formed_wait-server, joined-row, formed_wait-terms, formed-branch, formed-goto, formed-assign, formed-split}

-- ---- One number, and two

module _ {sh : Shape ℕ} {p : Place} {to : ℕ} {l l' : List ℕ} {r : Taken} {P : Parsed ℕ} (k : Takes sh p to l l' r P) where
  pub single-refused : {d : Refusal} → r ≡ Err d → Stores sh p to l l' (Err d) P
  single-refused told = rw (takes-refused P k told) (record { held = refl })

  -- one number as the whole operand
  pub single-read : {v : ℕ} {q : Place} → r ≡ Ok (v, q) → Stores sh p to l l' (Ok q) P
  single-read {v} {q} told =
      takes-known (Stores _ _ _ _ _ _) P k told
      (λ named cells fact. record { held = (ap (λ (m : ℕ). Ok (place_of (cursor_of q) m)) named, cells, fact) })

module _ (s : List ℕ) (a b : Range) {p : Place} {to : ℕ} {l₀ l₁ : List ℕ} {r₁ : Taken}
    (k₁ : Takes (number_shape a.lo a.hi a.plus) p to l₀ l₁ r₁ (field s 3 a.lo a.hi (cursor_of p))) where
  -- the first of two numbers fails
  pub pair-stop : {d : Refusal} (after : List ℕ) → r₁ ≡ Err d
      → Stores (pair_shape a b) p to l₀ after (Err d) (pair_field s a b (cursor_of p))
  unfolding pair_field
  pair-stop after told = takes-stop (Stores _ _ _ _ _ _) _ _ k₁ told (record { held = refl })

  -- two numbers, stored side by side
  pub pair-kept : {v : ℕ} {q : Place} {l₂ : List ℕ} {r₂ : Stored} → r₁ ≡ Ok (v, q) →
      Stores (number_shape b.lo b.hi b.plus) q (to + 1) l₁ l₂ r₂ (field s 3 b.lo b.hi (cursor_of q)) →
      Stores (pair_shape a b) p to l₀ l₂ r₂ (pair_field s a b (cursor_of p))
  unfolding pair_field
  pair-kept {v} {q} {l₂} {r₂} told k₂ =
      takes_bind (Stores _ _ _ _ _ _) _ _ k₁ told
      (λ named cells fact.
      stores-last (pair_shape a b) p to l₀ (λ y. record { first = v; second = y }) _ k₂
      (λ y c cells₂ fact₂. (
        named,
        sets_then l₀ ((a.plus + (v - a.lo)) ∷ []) ((b.plus + (y - b.lo)) ∷ []) to (to + 1) cells cells₂ refl,
        ((fact.0, fact.1), (fact₂.0, fact₂.1)),
      )))

-- ---- A storage and units

module _ (s : List ℕ) (m : Model) {p : Place} {to : ℕ} {l₀ l₁ : List ℕ} {r₁ : Taken}
    (k₁ : Takes (number_shape 1 m.storages m.facilities) p to l₀ l₁ r₁ (field s 3 1 m.storages (cursor_of p))) where
  pub units-stop : {d : Refusal} (after : List ℕ) → r₁ ≡ Err d →
      Stores (units_shape (counts_of m)) p to l₀ after (Err d) (units_field s (counts_of m) (capacities_of m l₀) (cursor_of p))
  unfolding units_field
  units-stop after told = takes-stop (Stores _ _ _ _ _ _) _ _ k₁ told (record { held = refl })

  -- a storage, then units up to its capacity, read from the tables
  pub units-kept : {k : ℕ} {q : Place} {l₂ : List ℕ} {r₂ : Stored} (capacity : ℕ) → r₁ ≡ Ok (k, q) → to < 2048 →
      capacity ≡ get_or l₁ (2560 + m.facilities + (k - 1)) 0 →
      Stores (number_shape 1 capacity 1) q (to + 1) l₁ l₂ r₂ (field s 3 1 capacity (cursor_of q)) →
      Stores (units_shape (counts_of m)) p to l₀ l₂ r₂ (units_field s (counts_of m) (capacities_of m l₀) (cursor_of p))
  unfolding units_field
  units-kept {k} {q} {l₂} {r₂} capacity told low read k₂ =
      takes_bind (Stores _ _ _ _ _ _) _ _ k₁ told
      (λ named cells fact.
      let f = fact.0 in
      let x : m.facilities + (k - 1) ≡ m.facilities + k - 1 = omega arith in
      let there : capacity ≡ nth (capacities_of m l₀) k 0
      = read
      ∙ ap (λ (l : List ℕ). get_or l (2560 + m.facilities + (k - 1)) 0) cells
      ∙ get_or-set_other l₀ to (2560 + m.facilities + (k - 1)) _ 0 (omega arith)
      ∙ sym (get_or-take m.storages (drop (2560 + m.facilities) l₀) (k - 1) 0 (omega arith)
      ∙ get_or-drop (2560 + m.facilities) l₀ (k - 1) 0) in
      stores-last (units_shape (counts_of m)) p to l₀ (λ b. record { first = m.facilities + k; second = b }) _ (rw there at k₂)
      (λ b c cells₂ fact₂.
      let g = fact₂.0 in
      let y : 1 + (b - 1) ≡ b = omega arith in (
        named,
        sets_then l₀ ((m.facilities + k - 1) ∷ []) (b ∷ []) to (to + 1) (rw x at cells) (rw y at cells₂) refl,
        tt,
      )))

-- ---- Parsers one after the other

continue-map : {A B C : Type 0} (P : Parsed A) (g : A → B) (h : B → C) →
    continue (continue P (λ a c. parsed (g a) c)) (λ b c. parsed (h b) c) ≡ continue P (λ a c. parsed (h (g a)) c)
unfolding continue
continue-map (parsed a c) g h = refl
continue-map (refused n) g h = refl

-- parsers one after the other may be grouped either way
pub continue_assoc : {A B C : Type 0} (P : Parsed A) (f : A → Parser B) (g : B → Parser C) →
    continue (continue P f) g ≡ continue P (λ a c. continue (f a c) g)
unfolding continue
continue_assoc (parsed a c) f g = refl
continue_assoc (refused n) f g = refl

pair_then : (s : List ℕ) (a b : Range) (f : ℕ → ℕ → Block) (c : Cursor) →
    continue (pair_field s a b c) (λ x d. parsed (f x.first x.second) d)
    ≡ continue (field s 3 a.lo a.hi c) (λ x d. continue (field s 3 b.lo b.hi d) (λ y e. parsed (f x y) e))
unfolding pair_field continue
pair_then s a b f c = simp continue_assoc

units-then : (s : List ℕ) (n : Counts) (capacities : List ℕ) (f : ℕ → ℕ → Block) (c : Cursor) →
    continue (units_field s n capacities c) (λ x d. parsed (f x.first x.second) d) ≡ storage_units s n capacities f c
unfolding units_field storage_units continue
units-then s n capacities f c = simp continue_assoc

compared-then : {B : Type 0} (s : List ℕ) (n : Counts) (f : Term → ℕ → Term → Parser B) (c : Cursor) →
    continue (compared_field s n c) (λ x d. f x.left x.relation x.right d)
    ≡ continue (block_term s n c) (λ a d. continue (field s 3 1 6 d) (λ r e. continue (block_term s n e) (λ b g. f a r b g)))
unfolding compared_field continue
compared-then s n f c = simp continue_assoc

watched-then : {B : Type 0} (s : List ℕ) (n : Counts) (f : ℕ → ℕ → Parser B) (c : Cursor) →
    continue (watched_field s n c) (λ x d. f x.first x.second d)
    ≡ continue (field s 3 1 6 c) (λ code d. continue (code_server s n code d) (λ v e. f code v e))
unfolding watched_field continue
watched-then s n f c = simp continue_assoc

-- ---- A code and a server

abbrev watching : ℕ → ℕ → Pair
watching code v = record { first = code; second = v }

code-index : (v : ℕ) → 1 ≤ v → v ≤ 6 → code_index (code_of v) ≡ v - 1
unfolding code_index code_of
code-index v l h =
    by-tag (λ t. 1 ≤ t → t ≤ 6 → code_index (code_of t) ≡ t - 1)
    (λ a b. absurd (omega arith)) (λ a b. refl) (λ a b. refl) (λ a b. refl) (λ a b. refl) (λ a b. refl) (λ a b. refl)
    (λ a b. absurd (omega arith)) (λ a b. absurd (omega arith)) (λ a b. absurd (omega arith))
    v (omega arith) l h

module _ (s : List ℕ) (n : Counts) {p : Place} {to : ℕ} {l₀ l₁ : List ℕ} {r₁ : Taken}
    (k₁ : Takes (number_shape 1 6 0) p to l₀ l₁ r₁ (field s 3 1 6 (cursor_of p))) where
  -- the code of a WAITIF fails
  pub watched-stop : {d : Refusal} (after : List ℕ) → r₁ ≡ Err d
      → Stores watched_shape p to l₀ after (Err d) (watched_field s n (cursor_of p))
  unfolding watched_field
  watched-stop after told = takes-stop (Stores _ _ _ _ _ _) _ _ k₁ told (record { held = refl })

  module _ {code : ℕ} {q : Place} {l₂ : List ℕ} {r₂ : Stored} (told : r₁ ≡ Ok (code, q)) where
    -- codes up to 2 watch a facility
    pub watched-facility : code ≤ 2
        → Stores (number_shape 1 n.facilities 0) q (to + 1) l₁ l₂ r₂ (field s 3 1 n.facilities (cursor_of q)) →
        Stores watched_shape p to l₀ l₂ r₂ (watched_field s n (cursor_of p))
    unfolding watched_field code_server
    watched-facility h k₂ =
        takes_bind (Stores _ _ _ _ _ _) _ _ k₁ told
        (λ named cells fact.
        let x : 0 + (code - 1) ≡ code_index (code_of code) = omega (arith, code-index code fact.0 fact.1) in
        rw (le-leb code 2 h)
        (stores-last watched_shape p to l₀ (λ v. record { first = code; second = v }) _ k₂
        (λ v c cells₂ fact₂.
        let y : 0 + (v - 1) ≡ v - 1 = omega arith in (
          named,
          sets_then l₀ (code_index (code_of code) ∷ []) ((v - 1) ∷ []) to (to + 1) (rw x at cells) (rw y at cells₂) refl,
          tt,
        ))))

    -- codes above 2 a storage
    pub watched-storage : 2 < code → Stores (number_shape 1 n.storages n.facilities) q (to + 1) l₁ l₂ r₂
        (field s 3 1 n.storages (cursor_of q)) →
        Stores watched_shape p to l₀ l₂ r₂ (watched_field s n (cursor_of p))
    unfolding watched_field code_server
    watched-storage h k₂ =
        takes_bind (Stores _ _ _ _ _ _) _ _ k₁ told
        (λ named cells fact.
        let x : 0 + (code - 1) ≡ code_index (code_of code) = omega (arith, code-index code fact.0 fact.1) in
        rw (lt-leb code 2 h, continue-map (field s 3 1 n.storages (cursor_of q)) (λ k. n.facilities + k) (λ v. watching code v))
        (stores-last watched_shape p to l₀ (λ k. watching code (n.facilities + k)) _ k₂
        (λ k c cells₂ fact₂.
        let f = fact₂.0 in
        let y : n.facilities + (k - 1) ≡ n.facilities + k - 1 = omega arith in (
          named,
          sets_then l₀ (code_index (code_of code) ∷ []) ((n.facilities + k - 1) ∷ []) to (to + 1) (rw x at cells) (rw y at cells₂) refl,
          tt,
        ))))

-- ---- A joined WAITIF

module _ (s : List ℕ) (n : Counts) (capacities : List ℕ) {p : Place} {to : ℕ} {l₀ l₁ : List ℕ} {r₁ : Stored}
    (k₁ : Stores watched_shape p to l₀ l₁ r₁ (watched_field s n (cursor_of p))) where
  abbrev counting : ℕ → ℕ → Parser Block
  counting code v d = continue (field s 3 1 7 d) (λ b e. parsed (wait_server (code_of code) v b) e)

  -- a WAITIF with a back count fails where its operands do
  pub joined-stop : {d : Refusal} (after : List ℕ) → r₁ ≡ Err d
      → Stores (operands_shape n.blocks 17) p to l₀ after (Err d) (operands s n capacities 17 (cursor_of p))
  unfolding operands
  joined-stop after told =
      rw (← watched-then s n counting (cursor_of p))
      (stores-stop (Stores _ _ _ _ _ _) _ _ k₁ told (record { held = refl }))

  -- 17 WAITIF code, server, back count
  pub joined-kept : {q : Place} {l₂ : List ℕ} {r₂ : Stored} → r₁ ≡ Ok q →
      Stores (number_shape 1 7 1) q (to + 2) l₁ l₂ r₂ (field s 3 1 7 (cursor_of q)) →
      Stores (operands_shape n.blocks 17) p to l₀ l₂ r₂ (operands s n capacities 17 (cursor_of p))
  unfolding operands
  joined-kept {q} {l₂} {r₂} told k₂ =
      rw (← watched-then s n counting (cursor_of p))
      (stores_bind (Stores _ _ _ _ _ _) _ _ k₁ told
      (λ x named cells fact.
      stores-last (operands_shape n.blocks 17) p to l₀ (λ b. wait_server (code_of x.first) x.second b) _ k₂
      (λ b c cells₂ fact₂.
      let y : 1 + (b - 1) ≡ b = omega (arith, fact₂.0) in
      let row = joined-row (code_of x.first) x.second b fact₂.0 in (
        named,
        rw row
            (sets_then l₀ (code_index (code_of x.first) ∷ (x.second - 1) ∷ []) (b ∷ []) to (to + 2) cells (rw y at cells₂) refl),
        (formed_wait-server n.blocks (code_of x.first) x.second b, rw row refl),
      ))))

-- ---- A term, a relation and a term

module _ (s : List ℕ) (n : Counts) {p : Place} {to : ℕ} {l₀ l₁ : List ℕ} {r₁ : Stored}
    (k₁ : Stores block_term_shape p to l₀ l₁ r₁ (block_term s n (cursor_of p))) where
  -- the first term of a comparison fails
  pub compared-stop : {d : Refusal} (after : List ℕ) → r₁ ≡ Err d
      → Stores compared_shape p to l₀ after (Err d) (compared_field s n (cursor_of p))
  unfolding compared_field
  compared-stop after told = stores-stop (Stores _ _ _ _ _ _) _ _ k₁ told (record { held = refl })

  module _ {left : Place} {l₂ : List ℕ} {r₂ : Stored} (told₁ : r₁ ≡ Ok left)
      (k₂ : Stores (number_shape 1 6 1) left (to + 2) l₁ l₂ r₂ (field s 3 1 6 (cursor_of left))) where
    -- its relation fails
    pub compared-stop-2 : {d : Refusal} (after : List ℕ) → r₂ ≡ Err d
        → Stores compared_shape p to l₀ after (Err d) (compared_field s n (cursor_of p))
    unfolding compared_field
    compared-stop-2 after told =
        stores_bind (Stores _ _ _ _ _ _) _ _ k₁ told₁
        (λ a named cells fact. stores-stop (Stores _ _ _ _ _ _) _ _ k₂ told (record { held = refl }))

    -- term, relation, term
    pub compared-kept : {q : Place} {l₃ : List ℕ} {r₃ : Stored} → r₂ ≡ Ok q
        → Stores block_term_shape q (to + 3) l₂ l₃ r₃ (block_term s n (cursor_of q)) →
        Stores compared_shape p to l₀ l₃ r₃ (compared_field s n (cursor_of p))
    unfolding compared_field
    compared-kept {q} {l₃} {r₃} told₂ k₃ =
        stores_bind (Stores _ _ _ _ _ _) _ _ k₁ told₁
        (λ a named₁ cells₁ fact₁.
        stores_bind (Stores _ _ _ _ _ _) _ _ k₂ told₂
        (λ v named₂ cells₂ fact₂.
        stores-last compared_shape p to l₀ (λ b. record { left = a; relation = v; right = b }) _ k₃
        (λ b c cells₃ fact₃.
        let x : 1 + (v - 1) ≡ v = omega (arith, fact₂.0) in
        let two = fact₁.0 in (
          named₂ ∙ named₁,
          sets_then l₀ (term_numbers a) (v ∷ term_numbers b) to (to + 2) cells₁
              (sets_then l₁ (v ∷ []) (term_numbers b) (to + 2) (to + 3) (rw x at cells₂) cells₃ (omega arith)) (omega arith),
          record {
            left-two = fact₁.0;
            left-small = fact₁.1;
            from = fact₂.0;
            to = fact₂.1;
            right-two = fact₃.0;
            right-small = fact₃.1;
          },
        ))))

module _ (s : List ℕ) (n : Counts) (capacities : List ℕ) {p : Place} {to : ℕ} {l₀ l₁ : List ℕ} {r₁ : Stored}
    (k₁ : Stores compared_shape p to l₀ l₁ r₁ (compared_field s n (cursor_of p))) where
  -- 9 WAITIF left, relation, right
  pub kind-9 : Stores (operands_shape n.blocks 9) p to l₀ l₁ r₁ (operands s n capacities 9 (cursor_of p))
  unfolding operands block_forms
  kind-9 =
      rw (← compared-then s n (λ a r b d. parsed (wait_terms a (relation_of r) b) d) (cursor_of p))
      (stores-last (operands_shape n.blocks 9) p to l₀ (λ x. wait_terms x.left (relation_of x.relation) x.right) _ k₁
      (λ x c cells fact.
      let e = relation-number x.relation fact.from fact.to in (
        refl,
        rw e cells,
        (
          formed_wait-terms n.blocks x.left (relation_of x.relation) x.right fact.left-two fact.left-small fact.right-two
              fact.right-small,
          refl,
        ),
      )))

  -- an IF fails where its comparison does
  pub branch-stop : {d : Refusal} (after : List ℕ) → r₁ ≡ Err d
      → Stores (operands_shape n.blocks 10) p to l₀ after (Err d) (operands s n capacities 10 (cursor_of p))
  unfolding operands
  branch-stop after told =
      rw (← compared-then s n (λ a r b d. continue (field s 3 1 n.blocks d) (λ t e. parsed (branch a (relation_of r) b t) e))
      (cursor_of p))
      (stores-stop (Stores _ _ _ _ _ _) _ _ k₁ told (record { held = refl }))

  -- 10 IF left, relation, right, target
  pub branch_kept : {q : Place} {l₂ : List ℕ} {r₂ : Stored} → r₁ ≡ Ok q →
      Stores (number_shape 1 n.blocks 1) q (to + 5) l₁ l₂ r₂ (field s 3 1 n.blocks (cursor_of q)) →
      Stores (operands_shape n.blocks 10) p to l₀ l₂ r₂ (operands s n capacities 10 (cursor_of p))
  unfolding operands block_forms
  branch_kept {q} {l₂} {r₂} told k₂ =
      rw (← compared-then s n (λ a r b d. continue (field s 3 1 n.blocks d) (λ t e. parsed (branch a (relation_of r) b t) e))
      (cursor_of p))
      (stores_bind (Stores _ _ _ _ _ _) _ _ k₁ told
      (λ x named cells fact.
      let e = relation-number x.relation fact.from fact.to in
      let two_a = fact.left-two in
      let two-b = fact.right-two in
      let xs = term_numbers x.left in
      let ys = term_numbers x.right in
      let five : length (term_numbers x.left ++ (x.relation ∷ term_numbers x.right)) ≡ 5 = simp length-append (omega arith) in
      stores-last (operands_shape n.blocks 10) p to l₀ (λ t. branch x.left (relation_of x.relation) x.right t) _ k₂
      (λ t c cells₂ fact₂.
      let y : 1 + (t - 1) ≡ t = omega (arith, fact₂.0) in
      let all : term_numbers x.left ++ (x.relation ∷ (term_numbers x.right ++ (t ∷ [])))
      ≡ (term_numbers x.left ++ (x.relation ∷ term_numbers x.right)) ++ (t ∷ [])
      = sym (append_assoc (term_numbers x.left) (x.relation ∷ term_numbers x.right) (t ∷ [])) in (
        named,
        rw (e, all)
            (sets_then l₀ (term_numbers x.left ++ (x.relation ∷ term_numbers x.right)) (t ∷ []) to (to + 5) cells (rw y at cells₂)
            (omega arith)),
        (
          formed-branch n.blocks x.left (relation_of x.relation) x.right two_a fact.left-small two-b fact.right-small t
              (omega (arith, fact₂.1)),
          refl,
        ),
      ))))

-- ---- LET parameter, term

module _ (s : List ℕ) (n : Counts) (capacities : List ℕ) {p : Place} {to : ℕ} {l₀ l₁ : List ℕ} {r₁ : Stored}
    (k₁ : Stores (number_shape 1 4 0) p to l₀ l₁ r₁ (field s 3 1 4 (cursor_of p))) where
  -- a LET fails where its parameter does
  pub assign-stop : {d : Refusal} (after : List ℕ) → r₁ ≡ Err d
      → Stores (operands_shape n.blocks 12) p to l₀ after (Err d) (operands s n capacities 12 (cursor_of p))
  unfolding operands
  assign-stop after told = stores-stop (Stores _ _ _ _ _ _) _ _ k₁ told (record { held = refl })

  -- parameter, then term
  pub assign-kept : {q : Place} {l₂ : List ℕ} {r₂ : Stored} → r₁ ≡ Ok q
      → Stores block_term_shape q (to + 1) l₁ l₂ r₂ (block_term s n (cursor_of q)) →
      Stores (operands_shape n.blocks 12) p to l₀ l₂ r₂ (operands s n capacities 12 (cursor_of p))
  unfolding operands block_forms
  assign-kept {q} {l₂} {r₂} told k₂ =
      stores_bind (Stores _ _ _ _ _ _) _ _ k₁ told
      (λ k named cells fact.
      let x : 0 + (k - 1) ≡ k - 1 = omega arith in
      stores-last (operands_shape n.blocks 12) p to l₀ (λ a. assign k a) _ k₂
      (λ a c cells₂ fact₂. (
        named,
        sets_then l₀ ((k - 1) ∷ []) (term_numbers a) to (to + 1) (rw x at cells) cells₂ refl,
        (formed-assign n.blocks k a fact₂.0 fact₂.1, refl),
      )))

range-of : {a : Range} {lo hi above : ℕ} → (a.lo ≡ lo) × (a.hi ≡ hi) × (a.plus ≡ above) → a ≡ range lo hi above
range-of h = λ i. record { lo = h.0 i; hi = h.1 i; plus = h.2 i }

-- ---- Kinds of one number

module _ (s : List ℕ) (n : Counts) (capacities : List ℕ) {p : Place} {to : ℕ} {l₀ l₁ : List ℕ} {r₁ : Stored} where
  -- a block that its one number makes
  made : (kind : ℕ) (make : ℕ → Block) (above : ℕ) {lo hi : ℕ} (P : Parsed ℕ) → Stores (number_shape lo hi above) p to l₀ l₁ r₁ P →
      ((v : ℕ) → lo ≤ v → v ≤ hi → (above + (v - lo)) ∷ [] ≡ drop 1 (block_numbers (make v)))
      → ((v : ℕ) → lo ≤ v → v ≤ hi → Formed n.blocks (make v)) →
      ((v : ℕ) → block_numbers (make v) ≡ kind ∷ drop 1 (block_numbers (make v)))
      → Stores (operands_shape n.blocks kind) p to l₀ l₁ r₁ (continue P (λ v c. parsed (make v) c))
  made kind make above P k numbers formed row =
      stores-last (operands_shape n.blocks kind) p to l₀ make P k
      (λ v c cells fact. (
        refl,
        cells ∙ ap (λ (xs : List ℕ). sets l₀ to xs) (numbers v fact.0 fact.1),
        (formed v fact.0 fact.1, row v),
      ))

  pub kind_2 : Stores (number_shape 1 n.lists 0) p to l₀ l₁ r₁ (field s 3 1 n.lists (cursor_of p))
      → Stores (operands_shape n.blocks 2) p to l₀ l₁ r₁ (operands s n capacities 2 (cursor_of p))
  unfolding operands block_forms
  kind_2 k =
      made 2 advance 0 _ k (λ v l h. ap (λ (x : ℕ). x ∷ []) (omega arith))
      (λ v l h. formed-plain n.blocks (advance v) 2 _ refl (omega arith) tt refl refl) (λ v. refl)

  pub kind_3 : Stores (number_shape 0 65535 0) p to l₀ l₁ r₁ (field s 3 0 65535 (cursor_of p))
      → Stores (operands_shape n.blocks 3) p to l₀ l₁ r₁ (operands s n capacities 3 (cursor_of p))
  unfolding operands block_forms
  kind_3 k = made 3 terminate 0 _ k (λ v l h. ap (λ (x : ℕ). x ∷ []) (omega arith)) (λ v l h. formed-terminate n.blocks v) (λ v. refl)

  pub kind-4 : Stores (number_shape 1 n.facilities 0) p to l₀ l₁ r₁ (field s 3 1 n.facilities (cursor_of p))
      → Stores (operands_shape n.blocks 4) p to l₀ l₁ r₁ (operands s n capacities 4 (cursor_of p))
  unfolding operands block_forms
  kind-4 k =
      made 4 seize 0 _ k (λ v l h. ap (λ (x : ℕ). x ∷ []) (omega arith))
      (λ v l h. formed-plain n.blocks (seize v) 4 _ refl (omega arith) tt refl refl) (λ v. refl)

  pub kind-5 : Stores (number_shape 1 n.facilities 0) p to l₀ l₁ r₁ (field s 3 1 n.facilities (cursor_of p))
      → Stores (operands_shape n.blocks 5) p to l₀ l₁ r₁ (operands s n capacities 5 (cursor_of p))
  unfolding operands block_forms
  kind-5 k =
      made 5 release 0 _ k (λ v l h. ap (λ (x : ℕ). x ∷ []) (omega arith))
      (λ v l h. formed-plain n.blocks (release v) 5 _ refl (omega arith) tt refl refl) (λ v. refl)

  pub kind-11 : Stores (number_shape 1 n.blocks 1) p to l₀ l₁ r₁ (field s 3 1 n.blocks (cursor_of p))
      → Stores (operands_shape n.blocks 11) p to l₀ l₁ r₁ (operands s n capacities 11 (cursor_of p))
  unfolding operands block_forms
  kind-11 k =
      made 11 goto 1 _ k (λ v l h. ap (λ (x : ℕ). x ∷ []) (omega arith)) (λ v l h. formed-goto n.blocks v (omega arith)) (λ v. refl)

  pub kind-13 : Stores (number_shape 0 127 0) p to l₀ l₁ r₁ (field s 3 0 127 (cursor_of p))
      → Stores (operands_shape n.blocks 13) p to l₀ l₁ r₁ (operands s n capacities 13 (cursor_of p))
  unfolding operands block_forms
  kind-13 k =
      made 13 priority 0 _ k (λ v l h. ap (λ (x : ℕ). x ∷ []) (omega arith))
      (λ v l h. formed-plain n.blocks (priority v) 13 _ refl (omega arith) tt refl refl) (λ v. refl)

  pub kind-15 : Stores (number_shape 1 n.queues 0) p to l₀ l₁ r₁ (field s 3 1 n.queues (cursor_of p))
      → Stores (operands_shape n.blocks 15) p to l₀ l₁ r₁ (operands s n capacities 15 (cursor_of p))
  unfolding operands block_forms
  kind-15 k =
      made 15 arrive 0 _ k (λ v l h. ap (λ (x : ℕ). x ∷ []) (omega arith))
      (λ v l h. formed-plain n.blocks (arrive v) 15 _ refl (omega arith) tt refl refl) (λ v. refl)

  pub kind-16 : Stores (number_shape 1 n.queues 0) p to l₀ l₁ r₁ (field s 3 1 n.queues (cursor_of p))
      → Stores (operands_shape n.blocks 16) p to l₀ l₁ r₁ (operands s n capacities 16 (cursor_of p))
  unfolding operands block_forms
  kind-16 k =
      made 16 depart 0 _ k (λ v l h. ap (λ (x : ℕ). x ∷ []) (omega arith))
      (λ v l h. formed-plain n.blocks (depart v) 16 _ refl (omega arith) tt refl refl) (λ v. refl)

  pub kind-18 : Stores (number_shape 2 255 2) p to l₀ l₁ r₁ (field s 3 2 255 (cursor_of p))
      → Stores (operands_shape n.blocks 18) p to l₀ l₁ r₁ (operands s n capacities 18 (cursor_of p))
  unfolding operands block_forms
  kind-18 k =
      made 18 assemble 2 _ k (λ v l h. ap (λ (x : ℕ). x ∷ []) (omega arith))
      (λ v l h. formed-plain n.blocks (assemble v) 18 _ refl (omega arith) tt refl refl) (λ v. refl)

  pub kind-19 : Stores (number_shape 1 n.facilities 0) p to l₀ l₁ r₁ (field s 3 1 n.facilities (cursor_of p))
      → Stores (operands_shape n.blocks 19) p to l₀ l₁ r₁ (operands s n capacities 19 (cursor_of p))
  unfolding operands block_forms
  kind-19 k =
      made 19 preempt 0 _ k (λ v l h. ap (λ (x : ℕ). x ∷ []) (omega arith))
      (λ v l h. formed-plain n.blocks (preempt v) 19 _ refl (omega arith) tt refl refl) (λ v. refl)

  pub kind-20 : Stores (number_shape 1 n.facilities 0) p to l₀ l₁ r₁ (field s 3 1 n.facilities (cursor_of p))
      → Stores (operands_shape n.blocks 20) p to l₀ l₁ r₁ (operands s n capacities 20 (cursor_of p))
  unfolding operands block_forms
  kind-20 k =
      made 20 give_back 0 _ k (λ v l h. ap (λ (x : ℕ). x ∷ []) (omega arith))
      (λ v l h. formed-plain n.blocks (give_back v) 20 _ refl (omega arith) tt refl refl) (λ v. refl)

  -- ---- Kinds of two numbers

  pub kind-6 : Stores (units_shape n) p to l₀ l₁ r₁ (units_field s n capacities (cursor_of p))
      → Stores (operands_shape n.blocks 6) p to l₀ l₁ r₁ (operands s n capacities 6 (cursor_of p))
  unfolding operands block_forms
  kind-6 k =
      rw (← units-then s n capacities enter (cursor_of p))
      (stores-last (operands_shape n.blocks 6) p to l₀ (λ x. enter x.first x.second) _ k
      (λ x c cells fact.
      (refl, cells, (formed-plain n.blocks (enter x.first x.second) 6 _ refl (omega arith) tt refl refl, refl))))

  pub kind-8 : Stores watched_shape p to l₀ l₁ r₁ (watched_field s n (cursor_of p))
      → Stores (operands_shape n.blocks 8) p to l₀ l₁ r₁ (operands s n capacities 8 (cursor_of p))
  unfolding operands block_forms
  kind-8 k =
      rw (← watched-then s n (λ code v d. parsed (wait_server (code_of code) v 0) d) (cursor_of p))
      (stores-last (operands_shape n.blocks 8) p to l₀ (λ x. wait_server (code_of x.first) x.second 0) _ k
      (λ x c cells fact. (refl, cells, (formed_wait-server n.blocks (code_of x.first) x.second 0, refl))))

  pub kind-7 : Stores (units_shape n) p to l₀ l₁ r₁ (units_field s n capacities (cursor_of p))
      → Stores (operands_shape n.blocks 7) p to l₀ l₁ r₁ (operands s n capacities 7 (cursor_of p))
  unfolding operands block_forms
  kind-7 k =
      rw (← units-then s n capacities leave (cursor_of p))
      (stores-last (operands_shape n.blocks 7) p to l₀ (λ x. leave x.first x.second) _ k
      (λ x c cells fact.
      (refl, cells, (formed-plain n.blocks (leave x.first x.second) 7 _ refl (omega arith) tt refl refl, refl))))

  pub kind_1 : (a b : Range) → (a.lo ≡ 1) × (a.hi ≡ n.lists) × (a.plus ≡ 0) → (b.lo ≡ 0) × (b.hi ≡ 127) × (b.plus ≡ 0) →
      Stores (pair_shape a b) p to l₀ l₁ r₁ (pair_field s a b (cursor_of p))
      → Stores (operands_shape n.blocks 1) p to l₀ l₁ r₁ (operands s n capacities 1 (cursor_of p))
  unfolding operands block_forms
  kind_1 a b ea eb k =
      rw (← pair_then s (range 1 n.lists 0) (range 0 127 0) generate (cursor_of p))
      (stores-last (operands_shape n.blocks 1) p to l₀ (λ x. generate x.first x.second) _ (rw (range-of ea, range-of eb) at k)
      (λ x c cells fact.
      let u : 0 + (x.first - 1) ≡ x.first - 1 = omega arith in
      let v : 0 + (x.second - 0) ≡ x.second = omega arith in
      (refl, rw (u, v) at cells, (formed-generate n.blocks x.first x.second fact.0.0, refl))))

  pub kind-14 : (a b : Range) → (a.lo ≡ 1) × (a.hi ≡ 255) × (a.plus ≡ 1) → (b.lo ≡ 1) × (b.hi ≡ n.blocks) × (b.plus ≡ 1) →
      Stores (pair_shape a b) p to l₀ l₁ r₁ (pair_field s a b (cursor_of p))
      → Stores (operands_shape n.blocks 14) p to l₀ l₁ r₁ (operands s n capacities 14 (cursor_of p))
  unfolding operands block_forms
  kind-14 a b ea eb k =
      rw (← pair_then s (range 1 255 1) (range 1 n.blocks 1) split (cursor_of p))
      (stores-last (operands_shape n.blocks 14) p to l₀ (λ x. split x.first x.second) _ (rw (range-of ea, range-of eb) at k)
      (λ x c cells fact.
      let u : 1 + (x.first - 1) ≡ x.first = omega (arith, fact.0.0) in
      let v : 1 + (x.second - 1) ≡ x.second = omega (arith, fact.1.0) in
      (refl, rw (u, v) at cells, (formed-split n.blocks x.first x.second (omega (arith, fact.1.1)), refl))))

-- ---- A block

module _ (s : List ℕ) (n : Counts) (capacities : List ℕ) {p : Place} {to : ℕ} {l₀ l₁ : List ℕ} {r₁ : Taken}
    (k₁ : Takes (number_shape 1 20 1) p to l₀ l₁ r₁ (field s 3 1 20 (cursor_of p))) where
  -- the kind fails
  pub block-stop : {d : Refusal} (after : List ℕ) → r₁ ≡ Err d
      → Stores (block_shape n.blocks) p to l₀ after (Err d) (block_field s 20 n capacities (cursor_of p))
  unfolding block_field
  block-stop after told = takes-stop (Stores _ _ _ _ _ _) _ _ k₁ told (record { held = refl })

  -- the kind, then the operands of that kind
  pub block-kept : {kind : ℕ} {q : Place} {l₂ : List ℕ} {r₂ : Stored} → r₁ ≡ Ok (kind, q) →
      (l₁ ≡ sets l₀ to (kind ∷ []) → Stores (operands_shape n.blocks kind) q (to + 1) l₁ l₂ r₂
      (operands s n capacities kind (cursor_of q))) →
      Stores (block_shape n.blocks) p to l₀ l₂ r₂ (block_field s 20 n capacities (cursor_of p))
  unfolding block_field
  block-kept {kind} {q} {l₂} {r₂} told k₂ =
      takes_bind (Stores _ _ _ _ _ _) _ _ k₁ told
      (λ named cells fact.
      let x : 1 + (kind - 1) ≡ kind = omega (arith, fact.0) in
      stores_as (block_shape n.blocks) p to l₀ _ (k₂ (rw x at cells))
      (λ b c cells₂ fact₂. (
        named,
        sets_then l₀ (kind ∷ []) (drop 1 (block_numbers b)) to (to + 1) (rw x at cells) cells₂ refl
            ∙ ap (λ (xs : List ℕ). sets l₀ to xs) (sym fact₂.1),
        fact₂.0,
      )))

-- stores below the capacities leave them
pub capacities-kept : (m : Model) (xs l : List ℕ) (to : ℕ) → to + length xs ≤ 2048 → capacities_of m (sets l to xs) ≡ capacities_of m l
capacities-kept m xs l to h =
    ap (λ (t : List ℕ). take m.storages t)
    (ext_get_or 0 _ _ (simp (length-drop, length-sets))
    (λ i b. get_or-drop (2560 + m.facilities) (sets l to xs) i 0 ∙ sets-above xs l to _ (omega arith)
    ∙ sym (get_or-drop (2560 + m.facilities) l i 0)))

past : {i k : ℕ} → i ≤ k → (k ≡ i → ⊥) → suc i ≤ k
past {i} {k} h n = omega arith

-- a kind that is none of the others is the last
pub the_last : (k : ℕ) → k ≤ 20 → 1 ≤ k →
    ((((((((((((((((((Unit {0} × (k ≡ 1 → ⊥)) × (k ≡ 2 → ⊥)) × (k ≡ 3 → ⊥)) × (k ≡ 4 → ⊥)) × (k ≡ 5 → ⊥)) × (k ≡ 6 → ⊥)) × (k ≡ 7 → ⊥))
    × (k ≡ 8 → ⊥)) × (k ≡ 9 → ⊥)) × (k ≡ 10 → ⊥)) × (k ≡ 11 → ⊥)) × (k ≡ 12 → ⊥)) × (k ≡ 13 → ⊥)) × (k ≡ 14 → ⊥)) × (k ≡ 15 → ⊥))
    × (k ≡ 16 → ⊥)) × (k ≡ 17 → ⊥)) × (k ≡ 18 → ⊥)) × (k ≡ 19 → ⊥) → k ≡ 20
the_last k h l n =
    le_antisymm h
    (past (past (past
    (past (past (past
    (past (past (past
    (past (past (past
    (past (past (past
    (past (past (past (past l n.0.0.0.0.0.0.0.0.0.0.0.0.0.0.0.0.0.0.1)
    n.0.0.0.0.0.0.0.0.0.0.0.0.0.0.0.0.0.1) n.0.0.0.0.0.0.0.0.0.0.0.0.0.0.0.0.1)
    n.0.0.0.0.0.0.0.0.0.0.0.0.0.0.0.1) n.0.0.0.0.0.0.0.0.0.0.0.0.0.0.1)
    n.0.0.0.0.0.0.0.0.0.0.0.0.0.1) n.0.0.0.0.0.0.0.0.0.0.0.0.1) n.0.0.0.0.0.0.0.0.0.0.0.1)
    n.0.0.0.0.0.0.0.0.0.0.1) n.0.0.0.0.0.0.0.0.0.1) n.0.0.0.0.0.0.0.0.1)
    n.0.0.0.0.0.0.0.1) n.0.0.0.0.0.0.1) n.0.0.0.0.0.1) n.0.0.0.0.1) n.0.0.0.1) n.0.0.1)
    n.0.1) n.1)

-- a block leaves the capacities
pub block-capacities : (m : Model) {n b : ℕ} {q next : Place} {l l₁ : List ℕ} {r : Stored} (P : Parsed Block) → b < 256 →
    Stores (block_shape n) q (0 + 8 * b) l l₁ r P → r ≡ Ok next → capacities_of m l₁ ≡ capacities_of m l
block-capacities m {n} {b} {q} {next} {l} {l₁} {r} (parsed a c) h k told =
    let w = k.held.2.width in
    ap (λ (t : List ℕ). capacities_of m t) k.held.1 ∙ capacities-kept m (block_numbers a) l (0 + 8 * b) (omega arith)
block-capacities m (refused i) h k told = absurd (rw told at k.held)
