-- Each kind of block, with operands in their ranges, is formed (specs/Formed).
use Rattle.machine.specs.All.{ℕ, zero, suc, ◌-◌, ◌≤◌, ◌<◌, arith, ◌≡◌, refl, ap, Bool, true, false, ◌||◌, true≢false, List, [], ◌∷◌, ◌++◌, T, eqb, length, get_or, length-append, ne_eqb, lt-ltb, Term, Relation, Facts, Block, Code, code_index, wel_index, generate, terminate, wait_server, wait_terms, branch, goto, assign, split, facts, ◌&&◌}
use Rattle.layout.specs.All.{block_forms, block_numbers, term_numbers, relation_number, small_block, small_term}
use Rattle.parse_values.proofs.Steps.{both}
use Rattle.program.specs.{target_from, back_from, target_inside}
use Rattle.program.specs.Formed.{Formed}

-- two numbers
two : (xs : List ℕ) → length xs ≡ 2 → xs ≡ get_or xs 0 0 ∷ get_or xs 1 0 ∷ []
two [] h = absurd (omega arith)
two (x ∷ []) h = absurd (omega arith)
two (x ∷ y ∷ []) h = refl
two (x ∷ y ∷ z ∷ l) h = absurd (omega arith)

-- ---- Kinds that question 7 passes by: no GENERATE, no target or back count, no wait for a server, and the next block follows

abbrev asked_of : Facts → ℕ × Bool × ℕ × ℕ × ℕ
asked_of f = (f.generates, f.leaves, f.target, f.back, f.wel)

abbrev nothing : ℕ × Bool × ℕ × ℕ × ℕ
nothing = (0, false, 0, 0, 0)

abbrev asked : ℕ → Bool
asked kind = eqb kind 1 || (eqb kind 3 || (eqb kind 8 || (eqb kind 10 || (eqb kind 11 || (eqb kind 14 || eqb kind 17)))))

either : (a b : Bool) → (a || b) ≡ false → (a ≡ false) × (b ≡ false)
either true b e = absurd (true≢false e)
either false b e = (refl, e)

-- a kind whose number no part of question 7 looks at
pub formed-plain : (most : ℕ) (b : Block) (kind : ℕ) (rest : List ℕ) → block_numbers b ≡ kind ∷ rest → length rest ≤ 7 → T (small_block b)
    → asked kind ≡ false → asked_of (facts b) ≡ nothing
    → Formed most b
unfolding target_from back_from target_inside
formed-plain most b kind rest row short small unasked told =
    let a = either (eqb kind 1) _ unasked in
    let c = either (eqb kind 3) _ a.1 in
    let d = either (eqb kind 8) _ c.1 in
    let e = either (eqb kind 10) _ d.1 in
    let f = either (eqb kind 11) _ e.1 in
    let g = either (eqb kind 14) _ f.1 in
    let target : (facts b).target ≡ 0 = ap (λ x. x.2) told in
    let back : (facts b).back ≡ 0 = ap (λ x. x.3) told in
    record {
      width = rw row (omega arith);
      small = small;
      generates = rw (row, a.0, ap (λ x. x.0) told);
      leaves = rw (row, c.0, f.0, ap (λ x. x.1) told);
      target = rw (row, e.0, f.0, g.0, target);
      back = rw (row, g.1, back);
      waits = rw (row, d.0, ap (λ x. x.4) told);
      inside = rw (row, lt-ltb 0 (suc (length rest)) (omega arith), e.0, f.0, g.0, g.1) tt;
      names = omega (arith, target);
    }

-- GENERATE, which nothing may reach from above
pub formed-generate : (most : ℕ) (list p : ℕ) → 1 ≤ list → Formed most (generate list p)
unfolding target_from back_from target_inside block_forms
formed-generate most list p h =
    record {
      width = omega arith;
      small = tt;
      generates = rw (ne_eqb list 0 (omega arith)) refl;
      leaves = refl;
      target = refl;
      back = refl;
      waits = refl;
      inside = tt;
      names = omega arith;
    }

pub formed-terminate : (most : ℕ) (a : ℕ) → Formed most (terminate a)
unfolding target_from back_from target_inside block_forms
formed-terminate most a =
    record {
      width = omega arith;
      small = tt;
      generates = refl;
      leaves = refl;
      target = refl;
      back = refl;
      waits = refl;
      inside = tt;
      names = omega arith;
    }

-- WAITIF on a server, which back counts may reach over
pub formed_wait-server : (most : ℕ) (code : Code) (v c : ℕ) → Formed most (wait_server code v c)
unfolding target_from back_from target_inside block_forms
formed_wait-server most code v zero =
    record {
      width = omega arith;
      small = tt;
      generates = refl;
      leaves = refl;
      target = refl;
      back = refl;
      waits = rw (ne_eqb (suc (wel_index v code)) 0 (omega arith)) refl;
      inside = tt;
      names = omega arith;
    }
formed_wait-server most code v (suc c) =
    record {
      width = omega arith;
      small = tt;
      generates = refl;
      leaves = refl;
      target = refl;
      back = refl;
      waits = rw (ne_eqb (suc (wel_index v code)) 0 (omega arith), ne_eqb (suc c) 0 (omega arith)) refl;
      inside = tt;
      names = omega arith;
    }

-- with a back count
pub joined-row : (code : Code) (v c : ℕ) → 1 ≤ c → block_numbers (wait_server code v c) ≡ 17 ∷ code_index code ∷ (v - 1) ∷ c ∷ []
unfolding block_forms
joined-row code v zero h = absurd (omega arith)
joined-row code v (suc c) h = refl

module _ (most : ℕ) (a : Term) (r : Relation) (b : Term) (two_a : length (term_numbers a) ≡ 2) (small-a : T (small_term a))
    (two-b : length (term_numbers b) ≡ 2) (small_b : T (small_term b)) where
  pub formed_wait-terms : Formed most (wait_terms a r b)
  unfolding target_from back_from target_inside block_forms
  formed_wait-terms =
      let n : 0 < length (block_numbers (wait_terms a r b)) = omega arith in
      record {
        width = simp length-append (omega arith);
        small = both (small_term a) (small_term b && true) small-a (both (small_term b) true small_b tt);
        generates = refl;
        leaves = refl;
        target = refl;
        back = refl;
        waits = refl;
        inside = rw (lt-ltb 0 _ n) tt;
        names = omega arith;
      }

  -- the target stands at 6
  sixth : (xs ys : List ℕ) (x t : ℕ) → length xs ≡ 2 → length ys ≡ 2 → t ≡ get_or (10 ∷ (xs ++ (x ∷ (ys ++ (t ∷ []))))) 6 0
  sixth xs ys x t h g = rw (two xs h, two ys g)

  pub formed-branch : (t : ℕ) → t ≤ most → Formed most (branch a r b t)
  unfolding target_from back_from target_inside block_forms
  formed-branch t h =
      let some : 0 < length (block_numbers (branch a r b t)) = omega arith in
      let n : 6 < length (10 ∷ (term_numbers a ++ (relation_number r ∷ (term_numbers b ++ (t ∷ []))))) = simp length-append (omega arith) in
      record {
        width = simp length-append (omega arith);
        small = both (small_term a) (small_term b && true) small-a (both (small_term b) true small_b tt);
        generates = refl;
        leaves = refl;
        target = sixth (term_numbers a) (term_numbers b) (relation_number r) t two_a two-b;
        back = refl;
        waits = refl;
        inside = rw (lt-ltb 0 _ some, lt-ltb 6 _ n) tt;
        names = h;
      }

pub formed-goto : (most : ℕ) (t : ℕ) → t ≤ most → Formed most (goto t)
unfolding target_from back_from target_inside block_forms
formed-goto most t h =
    record {
      width = omega arith;
      small = tt;
      generates = refl;
      leaves = refl;
      target = refl;
      back = refl;
      waits = refl;
      inside = tt;
      names = h;
    }

-- LET, whose term lies in the block's row
pub formed-assign : (most : ℕ) (k : ℕ) (a : Term) → length (term_numbers a) ≡ 2 → T (small_term a) → Formed most (assign k a)
unfolding target_from back_from target_inside block_forms
formed-assign most k a h g =
    let n : 0 < length (block_numbers (assign k a)) = omega arith in
    record {
      width = omega arith;
      small = both (small_term a) true g tt;
      generates = refl;
      leaves = refl;
      target = refl;
      back = refl;
      waits = refl;
      inside = rw (lt-ltb 0 _ n) tt;
      names = omega arith;
    }

pub formed-split : (most : ℕ) (n t : ℕ) → t ≤ most → Formed most (split n t)
unfolding target_from back_from target_inside block_forms
formed-split most n t h =
    record {
      width = omega arith;
      small = tt;
      generates = refl;
      leaves = refl;
      target = refl;
      back = refl;
      waits = refl;
      inside = tt;
      names = h;
    }
