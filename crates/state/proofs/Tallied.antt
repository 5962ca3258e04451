-- What a report counts from the records: of an outcome at blocks that pass a test, the sum over the blocks of what is counted
-- block by block.
use Rattle.machine.specs.All.{ℕ, zero, suc, ◌+◌, ◌≡◌, refl, sym, subst, Bool, true, false, cond, ◌&&◌, List, [], ◌∷◌, ◌++◌, arith, eqb-true, eqb-false, eq-eqb, ne_eqb, eqb, length, in_force, those, Record, Facts, facts, BlockModel, block_at, State, Logged, records_at, records_of, Each, count, bit, up_to, InModel}
use Rattle.machine.proofs.Decoding.Proper.{Names}
use Rattle.machine.proofs.Lists.Sums.{count-cons, up_to_cong, up_to-zero, up_to-one}
use Rattle.trace.specs.Whole.{AllInRanges}
use Rattle.state.specs.All.{at_block}
use Rattle.state.proofs.Written.{at-block-cons, Traced, in_order_lem, in-order-cons}
use mathlib.Core.Path.{ap, ◌∙◌}
use Rattle.machine.specs.Rules.{Rules}
use Rattle.machine.specs.Trace.{in_ranges}

-- ---- Sums over the numbers from 1 on

up_to-add : (f g : ℕ → ℕ) (n : ℕ) → up_to n (λ k. f k + g k) ≡ up_to n f + up_to n g
unfolding up_to
up_to-add f g zero = refl
up_to-add f g (suc n) = omega (arith, up_to-add f g n)

module _ (m : BlockModel) (outcome : ℕ) (p : Facts → Bool) where
  abbrev passes : ℕ → Bool
  passes b = p (facts (block_at m b))

  -- what block b adds
  abbrev pub share : List Logged → ℕ → ℕ
  share l b = cond (p (facts (block_at m b))) (at_block outcome b l) 0

  -- one record more adds to its own block only
  share-cons : (r : Logged) (l : List Logged) (b : ℕ)
      → share (r ∷ l) b ≡ cond (eqb r.entry.outcome outcome && passes r.entry.block) (bit (eqb b r.entry.block)) 0 + share l b
  share-cons r l b = go (eqb b r.entry.block) refl
    where
      o : Bool
      o = eqb r.entry.outcome outcome

      none : (x y z : Bool) (n k : ℕ) → n ≡ bit (x && false) + k → cond z n 0 ≡ cond (x && y) 0 0 + cond z k 0
      none true true true n k e = e
      none true true false n k e = refl
      none true false true n k e = e
      none true false false n k e = refl
      none false y true n k e = e
      none false y false n k e = refl

      one : (x z : Bool) (n k : ℕ) → n ≡ bit (x && true) + k → cond z n 0 ≡ cond (x && z) 1 0 + cond z k 0
      one true true n k e = e
      one true false n k e = refl
      one false true n k e = e
      one false false n k e = refl

      go : (c : Bool) → eqb b r.entry.block ≡ c → share (r ∷ l) b ≡ cond (o && passes r.entry.block) (bit c) 0 + share l b
      go true e =
          let is : b ≡ r.entry.block = eqb-true _ _ e in
          subst (λ (i : ℕ). share (r ∷ l) b ≡ cond (o && passes i) 1 0 + share l b) is
          (one o (passes b) _ _
          (at-block-cons outcome b r l ∙ ap (λ (x : Bool). bit (o && x) + at_block outcome b l) (eq-eqb r.entry.block b (sym is))))
      go false e =
          none o (passes r.entry.block) (passes b) _ _
          (at-block-cons outcome b r l
          ∙ ap (λ (x : Bool). bit (o && x) + at_block outcome b l) (ne_eqb r.entry.block b (λ q. eqb-false _ _ e (sym q))))

  records-cons : (r : Logged) (l : List Logged)
      → records_at m outcome p (r ∷ l) ≡ bit (eqb r.entry.outcome outcome && passes r.entry.block) + records_at m outcome p l
  unfolding records_at
  records-cons r l = counted ∙ refl
    where
      test : Logged → Bool
      test r = eqb r.entry.outcome outcome && p (facts (block_at m r.entry.block))

      counted : length (those test (r ∷ l)) ≡ bit (test r) + length (those test l)
      counted = unfold count in count-cons test r l

  pub records-tallied : (l : List Logged) → Each (λ (r : Logged). InModel m r.entry) l
      → records_at m outcome p l ≡ up_to (length m.blocks) (share l)
  records-tallied [] h = empty ∙ sym (up_to-zero (length m.blocks) (share []) (λ k low high. nothing k))
    where
      empty : records_at m outcome p [] ≡ 0
      empty = unfold records_at those in refl

      zeros : (x : Bool) → ◌≡◌ {A = ℕ} (cond x 0 0) 0
      zeros true = refl
      zeros false = refl

      nothing : (b : ℕ) → share [] b ≡ 0
      nothing b = unfold at_block count those in zeros (passes b)
  records-tallied (r ∷ l) h =
      omega (
        arith,
        records-cons r l,
        records-tallied l h.1,
        up_to_cong (share (r ∷ l))
            (λ b. cond (eqb r.entry.outcome outcome && passes r.entry.block) (bit (eqb b r.entry.block)) 0 + share l b)
            (length m.blocks) (λ b low high. share-cons r l b),
        up_to-add (λ b. cond (eqb r.entry.outcome outcome && passes r.entry.block) (bit (eqb b r.entry.block)) 0) (share l)
            (length m.blocks),
        own (eqb r.entry.outcome outcome && passes r.entry.block) r.entry.block h.0.block,
      )
    where
      own : (c : Bool) (i : ℕ) → Names (length m.blocks) i → up_to (length m.blocks) (λ b. cond c (bit (eqb b i)) 0) ≡ bit c
      own true i names = up_to-one (length m.blocks) i names.0 names.1
      own false i names = up_to-zero (length m.blocks) (λ b. 0) (λ k low high. refl)

-- ---- In the order of writing

ranges-end : (k : List Record) (r : Record) → AllInRanges k → AllInRanges (r ∷ []) → AllInRanges (k ++ (r ∷ []))
ranges-end [] r h e = e
ranges-end (x ∷ k) r h e = (h.0, ranges-end k r h.1 e)

all_in-ranges : (m : BlockModel) → m.rules ≡ in_force → (l : List Logged) → Each (λ (r : Logged). InModel m r.entry) l
    → AllInRanges (in_order_lem l)
all_in-ranges m rules [] h = tt
all_in-ranges m rules (r ∷ l) h =
    subst AllInRanges (sym (in-order-cons r l))
    (ranges-end (in_order_lem l) r.entry (all_in-ranges m rules l h.1)
    (subst (λ (q : Rules). in_ranges q r.entry ≡ true) rules h.0.ranges, tt))

pub traced-ranges : {m : BlockModel} {room : ℕ} (s : State) → Traced m room s → AllInRanges (records_of s)
unfolding records_of
traced-ranges {m} s h = all_in-ranges m h.rules s.records h.records
