-- The numbers that are written for a block are those that the joined model stores for it.
use Rattle.machine.specs.All.{ℕ, zero, suc, ◌+◌, ◌-◌, ◌/◌, ◌%◌, ◌≤◌, ◌<◌, arith, ◌≡◌, refl, sym, ap, ap₂, subst, ◌∙◌, true, cond, List, [], ◌∷◌, ◌++◌, le-leb, lt-leb, T, eqb, get_or, all_of, Term, constant, minus_constant, parameter, clock_term, entries_of, content_of, units_in_use, units_free, facility_in_use, value, comparison, bracket, always, when_true, Code, U, NU, E, NE, F, NF, code_index, facility, storage, up, down, Block, generate, advance, terminate, takes, frees, wait_server, wait_terms, moves, assign, priority, split, counts, assemble, preempt, give_back, facts, compared, BlockModel}
use Rattle.machine.proofs.{Decoding.Groups.and_left, Decoding.Groups.and_right, Decoding.Proper.ProperBlock}
use Rattle.layout.specs.All.{relation_number, term_numbers, take_numbers, free_numbers, move_numbers, wait_numbers, count_kind, block_numbers, At}
use Rattle.evaluation.specs.Nested.{nested_term, nested_block}
use Rattle.evaluation.proofs.Found.{at_first}
use Rattle.joined.specs.Join.{Part, server_in, term_in, share_in, condition_in, block_in}
use Rattle.join_laws.specs.declared.shift.Shift.{Shift}
use Rattle.join_laws.specs.{own_number, stored_term, stored_take, stored_free, stored_wait, stored_move, stored_count, stored_block, moved_by, shape_of, role_of, operand_at, operands_from, block_row}
use Rattle.join_laws.proofs.{Numbered.Numbered, CarriedBlocks.NumberedBlock}

-- ---- A shift and the part that it moves on

pub record Moves (p : Part) (by : Shift) (joint : ℕ) : Type 0 where
  pub own : by.own ≡ p.facilities
  pub facilities : by.facilities ≡ p.to_facility
  pub servers : joint + by.storages ≡ p.facilities + p.to_storage
  pub queues : by.queues ≡ p.to_queue
  pub values : by.values ≡ p.to_value
  pub lists : by.lists ≡ p.to_list
  pub blocks : by.blocks ≡ p.to_block
  pub room : p.facilities + p.to_facility ≤ joint

module _ (p : Part) (by : Shift) (joint : ℕ) (same : Moves p by joint) where
  facility-moved : (v : ℕ) → 1 ≤ v → v ≤ p.facilities → v - 1 + 1 + by.facilities ≡ server_in p v
  unfolding server_in
  facility-moved v low high = rw (le-leb v p.facilities high) (omega (arith, same.facilities))

  facility-own : (v : ℕ) → 1 ≤ v → v ≤ p.facilities → v - 1 + 1 + by.facilities ≡ own_number joint (server_in p v)
  unfolding own_number server_in
  facility-own v low high =
      rw (le-leb v p.facilities high, le-leb (v + p.to_facility) joint (omega (arith, same.room))) (omega (arith, same.facilities))

  storage-own : (v : ℕ) → p.facilities < v → v - 1 - by.own + 1 + by.storages ≡ own_number joint (server_in p v)
  unfolding own_number server_in
  storage-own v high =
      rw (lt-leb v p.facilities high, lt-leb (v + p.to_storage) joint (omega (arith, same.servers)))
      (omega (arith, same.servers, same.own))

  -- ---- A term of a block

  pub record Pair (t : Term) : Type 0 where
    pub tag : ℕ
    pub number : ℕ
    pub small : tag ≤ 9
    pub numbers : term_numbers t ≡ tag ∷ number ∷ []
    -- the two numbers that a plain term takes in a block's row
    pub stored : stored_term joint (term_in p t) ≡ tag ∷ moved_by by tag number ∷ []

  one : (tag x y : ℕ) → x ≡ y → tag ∷ y ∷ [] ≡ tag ∷ x ∷ []
  one tag x y e = ap (λ i. tag ∷ i ∷ []) (sym e)

  -- a block's own terms are never nested
  pub pair : (t : Term) → T (nested_term 0 t) → Numbered p.facilities t → Pair t
  unfolding nested_term term_numbers term_in stored_term moved_by
  pair (constant n) h k = record { tag = 0; number = n; small = omega arith; numbers = refl; stored = refl }
  pair (minus_constant n) h k = record { tag = 1; number = n; small = omega arith; numbers = refl; stored = refl }
  pair (parameter n) h k =
      record { tag = 2; number = n - 1; small = omega arith; numbers = refl; stored = one 2 (n - 1 + 1) n (omega arith) }
  pair clock_term h k = record { tag = 3; number = 0; small = omega arith; numbers = refl; stored = refl }
  pair (entries_of b) h k =
      record {
        tag = 4;
        number = b - 1;
        small = omega arith;
        numbers = refl;
        stored = one 4 (b - 1 + 1 + by.blocks) (b + p.to_block) (omega (arith, same.blocks));
      }
  pair (content_of q) h k =
      record {
        tag = 5;
        number = q - 1;
        small = omega arith;
        numbers = refl;
        stored = one 5 (q - 1 + 1 + by.queues) (q + p.to_queue) (omega (arith, same.queues));
      }
  pair (units_in_use v) h k = record { tag = 6; number = v - 1; small = omega arith; numbers = refl; stored = one 6 _ _ (storage-own v k) }
  pair (units_free v) h k = record { tag = 7; number = v - 1; small = omega arith; numbers = refl; stored = one 7 _ _ (storage-own v k) }
  pair (facility_in_use v) h k =
      record { tag = 8; number = v - 1; small = omega arith; numbers = refl; stored = one 8 _ _ (facility-moved v k.0 k.1) }
  pair (value n) h k =
      record {
        tag = 9;
        number = n - 1;
        small = omega arith;
        numbers = refl;
        stored = one 9 (n - 1 + 1 + by.values) (n + p.to_value) (omega (arith, same.values));
      }
  pair (comparison r a b) h k = absurd h
  pair (bracket e) h k = absurd h

  -- ---- Operands, from the numbers of the block itself

  operands_of : (left before : ℕ) (cells : List ℕ) (digits : ℕ) → List ℕ
  operands_of zero before cells digits = []
  operands_of (suc left) before [] digits = []
  operands_of (suc left) before (n ∷ l) digits =
      cond (eqb (digits % 32) 0) [] (moved_by by (role_of (digits % 32) before) n ∷ []) ++ operands_of left n l (digits / 32)

  -- no operand is left behind the cells
  abbrev Spent : List ℕ → ℕ → Type 0
  Spent [] digits = digits ≡ 0
  Spent (n ∷ l) digits = Spent l (digits / 32)

  module _ (tables : List ℕ) where
    none_left : (left at : ℕ) → operands_from tables by left at 0 ≡ []
    unfolding operands_from operand_at
    none_left zero at = refl
    none_left (suc left) at = none_left left (suc at)

    operands_are : (left at before : ℕ) (cells : List ℕ) (digits : ℕ) → before ≡ get_or tables (at - 1) 0 → At tables at cells
        → Spent cells digits
        → operands_from tables by left at digits ≡ operands_of left before cells digits
    unfolding operands_from operands_of operand_at
    operands_are zero at before cells digits eb h s = refl
    operands_are (suc left) at before [] digits eb h s = ap (λ d. operands_from tables by (suc left) at d) s ∙ none_left (suc left) at
    operands_are (suc left) at before (n ∷ l) digits eb h s =
        let f = at_first tables at n l h in
        let next : at + 1 ≡ suc at = omega arith in
        let back : at ≡ suc at - 1 = omega arith in
        ap₂ (λ x y. cond (eqb (digits % 32) 0) [] (moved_by by (role_of (digits % 32) x) y ∷ []) ++ operands_from tables by left (suc at)
        (digits / 32)) (sym eb) (sym f.found)
        ∙ ap (λ u. cond (eqb (digits % 32) 0) [] (moved_by by (role_of (digits % 32) before) n ∷ []) ++ u)
        (operands_are left (suc at) n l (digits / 32) (f.found ∙ ap (λ i. get_or tables i 0) back)
        (subst (λ i. At tables i l) next f.after) s)

    row_is : (at kind : ℕ) (cells : List ℕ) → At tables at (kind ∷ cells) → Spent cells (shape_of kind)
        → block_row tables by at ≡ moved_by by 0 kind ∷ operands_of 6 kind cells (shape_of kind)
    unfolding block_row
    row_is at kind cells h s =
        let f = at_first tables at kind cells h in
        let next : at + 1 ≡ suc at = omega arith in
        let back : at ≡ suc at - 1 = omega arith in
        ap (λ k. moved_by by 0 k ∷ operands_from tables by 6 (suc at) (shape_of k)) (sym f.found)
        ∙ ap (λ l. moved_by by 0 kind ∷ l)
        (operands_are 6 (suc at) kind cells (shape_of kind) (f.found ∙ ap (λ i. get_or tables i 0) back)
        (subst (λ i. At tables i cells) next f.after) s)

    -- ---- Blocks

    module _ (m : BlockModel) (own : m.facilities ≡ p.facilities) (at : ℕ) where
      watched : (code : Code) (v c : ℕ) → ProperBlock m (wait_server code v c) → At tables at (wait_numbers code v c)
          → block_row tables by at ≡ stored_wait joint code (server_in p v) c
      unfolding wait_numbers code_index operands_of moved_by shape_of role_of stored_wait
      watched U v zero k h =
          row_is at 8 (0 ∷ (v - 1) ∷ []) h refl ∙ ap (λ n. 8 ∷ 1 ∷ n ∷ []) (facility-own v k.0.0 (omega (arith, own, k.0.1)))
      watched U v (suc c) k h =
          row_is at 17 (0 ∷ (v - 1) ∷ suc c ∷ []) h refl
          ∙ ap (λ n. 17 ∷ 1 ∷ n ∷ suc c ∷ []) (facility-own v k.0.0 (omega (arith, own, k.0.1)))
      watched NU v zero k h =
          row_is at 8 (1 ∷ (v - 1) ∷ []) h refl ∙ ap (λ n. 8 ∷ 2 ∷ n ∷ []) (facility-own v k.0.0 (omega (arith, own, k.0.1)))
      watched NU v (suc c) k h =
          row_is at 17 (1 ∷ (v - 1) ∷ suc c ∷ []) h refl
          ∙ ap (λ n. 17 ∷ 2 ∷ n ∷ suc c ∷ []) (facility-own v k.0.0 (omega (arith, own, k.0.1)))
      watched E v zero k h = row_is at 8 (2 ∷ (v - 1) ∷ []) h refl ∙ ap (λ n. 8 ∷ 3 ∷ n ∷ []) (storage-own v (omega (arith, own, k.0.0)))
      watched E v (suc c) k h =
          row_is at 17 (2 ∷ (v - 1) ∷ suc c ∷ []) h refl ∙ ap (λ n. 17 ∷ 3 ∷ n ∷ suc c ∷ []) (storage-own v (omega (arith, own, k.0.0)))
      watched NE v zero k h = row_is at 8 (3 ∷ (v - 1) ∷ []) h refl ∙ ap (λ n. 8 ∷ 4 ∷ n ∷ []) (storage-own v (omega (arith, own, k.0.0)))
      watched NE v (suc c) k h =
          row_is at 17 (3 ∷ (v - 1) ∷ suc c ∷ []) h refl ∙ ap (λ n. 17 ∷ 4 ∷ n ∷ suc c ∷ []) (storage-own v (omega (arith, own, k.0.0)))
      watched F v zero k h = row_is at 8 (4 ∷ (v - 1) ∷ []) h refl ∙ ap (λ n. 8 ∷ 5 ∷ n ∷ []) (storage-own v (omega (arith, own, k.0.0)))
      watched F v (suc c) k h =
          row_is at 17 (4 ∷ (v - 1) ∷ suc c ∷ []) h refl ∙ ap (λ n. 17 ∷ 5 ∷ n ∷ suc c ∷ []) (storage-own v (omega (arith, own, k.0.0)))
      watched NF v zero k h = row_is at 8 (5 ∷ (v - 1) ∷ []) h refl ∙ ap (λ n. 8 ∷ 6 ∷ n ∷ []) (storage-own v (omega (arith, own, k.0.0)))
      watched NF v (suc c) k h =
          row_is at 17 (5 ∷ (v - 1) ∷ suc c ∷ []) h refl ∙ ap (λ n. 17 ∷ 6 ∷ n ∷ suc c ∷ []) (storage-own v (omega (arith, own, k.0.0)))

      going : (target : ℕ) → At tables at (11 ∷ target ∷ []) → block_row tables by at ≡ 11 ∷ (target + p.to_block) ∷ []
      unfolding operands_of moved_by shape_of role_of
      going target h = row_is at 11 _ h refl ∙ ap (λ i. 11 ∷ i ∷ []) (omega arith)

      -- by kind: which numbers of the row name something, and by how much each is moved on
      pub block-row : (b : Block) → ProperBlock m b → NumberedBlock p.facilities b → T (nested_block b) → At tables at (block_numbers b)
          → block_row tables by at ≡ stored_block joint (block_in p b)
      unfolding block_numbers take_numbers free_numbers move_numbers count_kind operands_of moved_by shape_of role_of facts compared all_of
          nested_block block_in share_in condition_in stored_block stored_take stored_free stored_move stored_count
      block-row (generate list q) k n d h =
          row_is at 1 ((list - 1) ∷ q ∷ []) h refl ∙ ap (λ i. 1 ∷ i ∷ q ∷ []) (omega (arith, same.lists, k.0.0))
      block-row (advance list) k n d h = row_is at 2 ((list - 1) ∷ []) h refl ∙ ap (λ i. 2 ∷ i ∷ []) (omega (arith, same.lists, k.0))
      block-row (terminate a) k n d h = row_is at 3 (a ∷ []) h refl
      block-row (takes (facility v)) k n d h =
          row_is at 4 ((v - 1) ∷ []) h refl ∙ ap (λ i. 4 ∷ i ∷ []) (facility-moved v k.0 (omega (arith, own, k.1)))
      block-row (takes (storage v b)) k n d h =
          row_is at 6 ((v - 1) ∷ b ∷ []) h refl ∙ ap (λ i. 6 ∷ i ∷ b ∷ []) (storage-own v (omega (arith, own, k.0.0)))
      block-row (frees (facility v)) k n d h =
          row_is at 5 ((v - 1) ∷ []) h refl ∙ ap (λ i. 5 ∷ i ∷ []) (facility-moved v k.0 (omega (arith, own, k.1)))
      block-row (frees (storage v b)) k n d h =
          row_is at 7 ((v - 1) ∷ b ∷ []) h refl ∙ ap (λ i. 7 ∷ i ∷ b ∷ []) (storage-own v (omega (arith, own, k.0.0)))
      block-row (wait_server code v c) k n d h = watched code v c k h
      block-row (wait_terms a r b) k n d h =
          let x = pair a (and_left (nested_term 0 a) _ d) n.0 in
          let y = pair b (and_left (nested_term 0 b) true (and_right (nested_term 0 a) _ d)) n.1.0 in
          row_is at 9 (x.tag ∷ x.number ∷ relation_number r ∷ y.tag ∷ y.number ∷ [])
          (subst (λ l. At tables at (9 ∷ l)) (ap₂ (λ u v. u ++ (relation_number r ∷ v)) x.numbers y.numbers) h) refl
          ∙ sym (ap₂ (λ u v. 9 ∷ (u ++ (relation_number r ∷ v))) x.stored y.stored)
      block-row (moves always target) k n d h = row_is at 11 (target ∷ []) h refl ∙ ap (λ i. 11 ∷ i ∷ []) (omega (arith, same.blocks))
      block-row (moves (when_true a r b) target) k n d h =
          let x = pair a (and_left (nested_term 0 a) _ d) n.0 in
          let y = pair b (and_left (nested_term 0 b) true (and_right (nested_term 0 a) _ d)) n.1.0 in
          let e : target + by.blocks ≡ target + p.to_block = omega (arith, same.blocks) in
          row_is at 10 (x.tag ∷ x.number ∷ relation_number r ∷ y.tag ∷ y.number ∷ target ∷ [])
          (subst (λ l. At tables at (10 ∷ l))
          (ap₂ (λ u v. u ++ (relation_number r ∷ (v ++ (target ∷ [])))) x.numbers y.numbers) h) refl
          ∙ ap (λ i. 10 ∷ x.tag ∷ moved_by by x.tag x.number ∷ relation_number r ∷ y.tag ∷ moved_by by y.tag y.number ∷ i ∷ []) e
          ∙ sym (ap₂ (λ u v. 10 ∷ (u ++ (relation_number r ∷ (v ++ ((target + p.to_block) ∷ []))))) x.stored y.stored)
      block-row (assign j a) k n d h =
          let x = pair a (and_left (nested_term 0 a) true d) n.0 in
          let e : j - 1 + 1 ≡ j = omega (arith, k.0) in
          row_is at 12 ((j - 1) ∷ x.tag ∷ x.number ∷ []) (subst (λ l. At tables at (12 ∷ (j - 1) ∷ l)) x.numbers h) refl
          ∙ ap (λ i. 12 ∷ i ∷ x.tag ∷ moved_by by x.tag x.number ∷ []) e ∙ sym (ap (λ u. 12 ∷ j ∷ u) x.stored)
      block-row (priority q) k n d h = row_is at 13 (q ∷ []) h refl
      block-row (split j target) k n d h = row_is at 14 (j ∷ target ∷ []) h refl ∙ ap (λ i. 14 ∷ j ∷ i ∷ []) (omega (arith, same.blocks))
      block-row (counts up q) k n d h = row_is at 15 ((q - 1) ∷ []) h refl ∙ ap (λ i. 15 ∷ i ∷ []) (omega (arith, same.queues, k.0))
      block-row (counts down q) k n d h = row_is at 16 ((q - 1) ∷ []) h refl ∙ ap (λ i. 16 ∷ i ∷ []) (omega (arith, same.queues, k.0))
      block-row (assemble j) k n d h = row_is at 18 (j ∷ []) h refl
      block-row (preempt f) k n d h =
          row_is at 19 ((f - 1) ∷ []) h refl ∙ ap (λ i. 19 ∷ i ∷ []) (facility-moved f k.0 (omega (arith, own, k.1)))
      block-row (give_back f) k n d h =
          row_is at 20 ((f - 1) ∷ []) h refl ∙ ap (λ i. 20 ∷ i ∷ []) (facility-moved f k.0 (omega (arith, own, k.1)))
