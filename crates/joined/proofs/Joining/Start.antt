-- The start: GENERATEs of the part make what they make in the part alone, those of the other are not seen.
use Rattle.machine.specs.All.{ℕ, suc, ◌+◌, ◌-◌, ◌≤◌, ◌<◌, ◌≡◌, refl, subst, false, List, [], ◌∷◌, ◌++◌, map, arith, length, get_or, ne_eqb, Block, generate, advance, terminate, takes, frees, wait_server, wait_terms, moves, assign, priority, split, counts, assemble, preempt, give_back, facts, BlockModel, wel_index, State, to_fel, times_left, arrival, start_of, start_at, sym, ap, ◌∙◌}
use Rattle.machine.proofs.Decoding.Proper.{Names, ProperBlock, Role, role, generating, taking, preempting, neither}
use Rattle.machine.proofs.Lists.Cases.{start_of-cases}
use Rattle.joined.specs.{Part, block_in, in_part}
use Rattle.joined.proofs as our
use our.{Relation.Naming.Naming, Own.Moves.Together, Own.Steps.times-seen, Own.Effect.in-part}
use our.Other.Steps.{OtherList, Beside}
use our.Relation.Seen.{size, Tables}
use our.Other.Effect.{Outside, arrival-other}
use our.Own.Makes.{After, after-here, after_then, arrival-own}

-- ---- Nobody waits on a WEL

abbrev NoGates : State → Type 0
NoGates s = (i : ℕ) → get_or s.wel i [] ≡ []

arrival-gates : (l : List ℕ) (list r n : ℕ) (s : State) → NoGates s → NoGates (arrival l list r n s)
unfolding arrival to_fel
arrival-gates [] list r n s h = h
arrival-gates (x ∷ l) list r n s h = h

pub start_at-gates : (n : ℕ) (l : List Block) (s : State) → NoGates s → NoGates (start_at n l s)
unfolding start_at
start_at-gates n [] s h = h
start_at-gates n (b ∷ l) s h = start_at-gates (suc n) l _ (start_of-cases NoGates b n s (λ e. h) (λ e. arrival-gates _ _ _ n s h))

-- GENERATEs of the joined model are started part by part
pub start_at-append : (n : ℕ) (k l : List Block) (s : State) → start_at n (k ++ l) s ≡ start_at (n + length k) l (start_at n k s)
unfolding start_at
start_at-append n [] l s = ap (λ (i : ℕ). start_at i l s) (plus-zero n)
  where
    plus-zero : (n : ℕ) → n ≡ n + 0
    plus-zero n = omega arith
start_at-append n (b ∷ k) l s =
    start_at-append (suc n) k l (start_of b n s) ∙ ap (λ (i : ℕ). start_at i l (start_at (suc n) k (start_of b n s))) (step n (length k))
  where
    step : (n k : ℕ) → suc n + k ≡ n + suc k
    step n k = omega arith

module _ (p : Part) (m : BlockModel) (T : Tables p m) where
  -- ---- Blocks of the other part

  generates-outside : (b : Block) → Outside p m b → ((facts b).generates ≡ 0 → ⊥) → OtherList p m (facts b).generates
  generates-outside b o n = go (role b) o n
    where
      go : {b : Block} → Role b → Outside p m b → ((facts b).generates ≡ 0 → ⊥) → OtherList p m (facts b).generates
      go (generating list r) o n = unfold facts in o
      go (taking x) o n = absurd (n (unfold facts in refl))
      go (preempting f) o n = absurd (n (unfold facts in refl))
      go (neither e z) o n = absurd (n e)

  -- a state of the joined start
  pub record Starting (N : Naming) (s s' : State) : Type 0 where
    pub together : Together p m N s s'
    pub gates : NoGates s

  starting-other : (N : Naming) (b : Block) (n : ℕ) → Outside p m b → in_part p (size p m) n ≡ false → (s s' : State) → Starting N s s'
      → Starting N (start_of b n s) s'
  starting-other N b n o e s s' h =
      start_of-cases (λ (r : State). Starting N r s') b n s (λ q. h)
      (λ q.
      let beside : Beside p m N s.view.clock s s' =
      record {
        seen = h.together.seen;
        time = refl;
        still = h.together.still.0;
        gates = λ v code o. rw (h.gates (wel_index v code)) tt;
      } in
      let after =
      arrival-other p m T N s.view.clock s' (times_left s (facts b).generates) (facts b).generates (facts b).rank n
      (generates-outside b o q) e s beside in
      record {
        together =
            record { seen = after.seen; clock = h.together.clock ∙ sym after.time; still = (after.still, h.together.still.1) };
        gates = arrival-gates _ _ _ n s h.gates;
      })

  -- starting the other part's blocks shows nothing
  pub others-start : (N : Naming) (s' : State) (l : List Block) (n : ℕ) (s : State)
      → ((i : ℕ) → i < length l → Outside p m (get_or l i (terminate 0)) × (in_part p (size p m) (n + i) ≡ false))
      → Starting N s s' → Starting N (start_at n l s) s'
  unfolding start_at
  others-start N s' [] n s o h = h
  others-start N s' (b ∷ l) n s o h =
      others-start N s' l (suc n) (start_of b n s) (λ i lt. ((o (suc i) (omega arith)).0, rw (step n i) at (o (suc i) (omega arith)).1))
      (starting-other N b n (o 0 (omega arith)).0 (rw (plus-zero n) at (o 0 (omega arith)).1) s s' h)
    where
      step : (n i : ℕ) → n + suc i ≡ suc n + i
      step n i = omega arith

      plus-zero : (n : ℕ) → n + 0 ≡ n
      plus-zero n = omega arith

  -- ---- Blocks of the part

  starting-own : (N : Naming) (b : Block) (k : ℕ) → ProperBlock m b → Names (size p m) k → (s s' : State) → Together p m N s s'
      → After p m N (start_of (block_in p b) (k + p.to_block) s) (start_of b k s')
  unfolding start_of facts block_in
  starting-own N (generate list r) k ok i s s' h =
      rw (
        ne_eqb (list + p.to_list) 0 (λ e. omega (arith, ok.0.0)),
        ne_eqb list 0 (λ e. omega (arith, ok.0.0)),
        times-seen p m T N s s' h list ok.0,
      )
      (rw back at (arrival-own p m T (times_left s (list + p.to_list)) list r (k + p.to_block) ok.0 (in-part p m k i) N s s' h))
    where
      back : k + p.to_block - p.to_block ≡ k
      back = omega arith
  starting-own N (advance list) k ok i s s' h = after-here p m h
  starting-own N (terminate a) k ok i s s' h = after-here p m h
  starting-own N (takes x) k ok i s s' h = after-here p m h
  starting-own N (frees x) k ok i s s' h = after-here p m h
  starting-own N (wait_server code v c) k ok i s s' h = after-here p m h
  starting-own N (wait_terms a r b) k ok i s s' h = after-here p m h
  starting-own N (moves c target) k ok i s s' h = after-here p m h
  starting-own N (assign x a) k ok i s s' h = after-here p m h
  starting-own N (priority x) k ok i s s' h = after-here p m h
  starting-own N (split x target) k ok i s s' h = after-here p m h
  starting-own N (counts c q) k ok i s s' h = after-here p m h
  starting-own N (assemble x) k ok i s s' h = after-here p m h
  starting-own N (preempt f) k ok i s s' h = after-here p m h
  starting-own N (give_back f) k ok i s s' h = after-here p m h

  -- starting the part's blocks starts the part
  pub own-start : (l : List Block) (k : ℕ) (N : Naming) (s s' : State) → 1 ≤ k → k + length l ≤ suc (size p m)
      → ((i : ℕ) → i < length l → ProperBlock m (get_or l i (terminate 0)))
      → Together p m N s s' → After p m N (start_at (k + p.to_block) (map (block_in p) l) s) (start_at k l s')
  unfolding start_at
  own-start [] k N s s' one le ok h = after-here p m h
  own-start (b ∷ l) k N s s' one le ok h =
      let a = starting-own N b k (ok 0 (omega arith)) (one, omega arith) s s' h in
      after_then p m a
      (subst
      (λ (n : ℕ). After p m a.naming (start_at n (map (block_in p) l) (start_of (block_in p b) (k + p.to_block) s))
      (start_at (suc k) l (start_of b k s'))) step
      (own-start l (suc k) a.naming _ _ (omega arith) (omega arith) (λ i lt. ok (suc i) (omega arith)) a.together))
    where
      step : suc k + p.to_block ≡ suc (k + p.to_block)
      step = omega arith
