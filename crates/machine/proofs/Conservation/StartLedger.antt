-- The books at the start: each GENERATE, in block order, gets the next time of its list where one is left.
use Rattle.machine.specs.All.{ℕ, suc, ◌+◌, ◌-◌, ◌≤◌, ◌<◌, ◌≡◌, refl, sym, ap, ◌∙◌, subst, Bool, true, false, not, ◌&&◌, List, [], ◌∷◌, arith, ne_eqb, eqb-true, lt-ltb, le-ltb, eqb, ltb, length, get_or, length-set, those, Block, facts, BlockModel, State, to_fel, times_left, arrival, start_of, start_at, idle, start, Each, bit, count, times_of, generates_of, gets_time, made_at_start, used_by, made_by, ended_by_lem, drop}
use Rattle.machine.proofs as our
use our.Decoding.Proper.{Proper, ProperBlock, Names, generates-list}
use our.{Lists.Cases.start_of-cases, Lists.Sums.count-cons}
use our.Conservation.Ledger.{Booked, Books, used-length}

-- what holds at every index of a list holds of each member
pub each_of : {A : Type 0} (P : A → Type 0) (d : A) (l : List A) → ((i : ℕ) → P (get_or l i d)) → Each P l
each_of P d [] h = tt
each_of P d (x ∷ l) h = (h 0, each_of P d l (λ i. h (suc i)))

module _ (m : BlockModel) (tape : List (List ℕ)) where
  pub proper-blocks : Proper m tape → Each (ProperBlock m) m.blocks
  proper-blocks proper = each_of (ProperBlock m) _ m.blocks (λ i. rw (less_one i) at (proper.block (suc i)))
    where
      less_one : (i : ℕ) → suc i - 1 ≡ i
      less_one i = omega arith

  generates-more : (list : ℕ) (b : Block) (l : List Block)
      → generates_of m tape list (b ∷ l) ≡ bit (eqb (facts b).generates list) + generates_of m tape list l
  unfolding generates_of
  generates-more list b l = count-cons (λ b. eqb (facts b).generates list) b l

  -- where the blocks in `before` had their turn, and those in l follow
  record Opening (before l : List Block) (s : State) : Type 0 where
    makes : s.made + made_at_start m tape before l ≡ made_at_start m tape [] m.blocks
    no_end : s.ended ≡ 0
    no_record : s.records ≡ []
    times : (list : ℕ) → Names m.lists list → length (times_left s list) ≡ times_of m tape list - generates_of m tape list before
    all_blocks : (list : ℕ) → generates_of m tape list before + generates_of m tape list l ≡ generates_of m tape list m.blocks
    sample-lists : length s.samples ≡ m.lists

  module _ (before l : List Block) (b : Block) (s : State) (o : Opening before (b ∷ l) s) where
    one-over : (list : ℕ) → generates_of m tape list (b ∷ before) + generates_of m tape list l ≡ generates_of m tape list m.blocks
    one-over list = omega (arith, o.all_blocks list, generates-more list b before, generates-more list b l)

    opening-none : (facts b).generates ≡ 0 → Opening (b ∷ before) l s
    unfolding made_at_start
    opening-none e =
        record {
          makes =
              omega (arith, o.makes, ap (λ g. bit (not (eqb g 0) && ltb (generates_of m tape g before) (times_of m tape g))) e);
          no_end = o.no_end;
          no_record = o.no_record;
          times = λ list names.
              omega (
                arith,
                o.times list names,
                generates-more list b before,
                ap bit (ne_eqb (facts b).generates list (λ z. omega (arith, names.0))),
              );
          all_blocks = one-over;
          sample-lists = o.sample-lists;
        }

    module _ (list p n : ℕ) (names : Names m.lists list) (gen : (facts b).generates ≡ list) where
      gets : gets_time m tape (facts b) (λ list. generates_of m tape list before) ≡ ltb (generates_of m tape list before) (times_of m tape list)
      gets =
          ap (λ g. not (eqb g 0) && ltb (generates_of m tape g before) (times_of m tape g)) gen
          ∙ ap (λ b. not b && ltb (generates_of m tape list before) (times_of m tape list)) (ne_eqb list 0 (λ z. omega arith))

      used-here : (other : ℕ) → generates_of m tape other (b ∷ before) ≡ bit (eqb list other) + generates_of m tape other before
      used-here other = generates-more other b before ∙ ap (λ g. bit (eqb g other) + generates_of m tape other before) gen

      opening-arrival : (left : List ℕ) → times_left s list ≡ left → Opening (b ∷ before) l (arrival left list p n s)
      unfolding arrival to_fel made_at_start
      opening-arrival [] e =
          let spent : times_of m tape list ≤ generates_of m tape list before = omega (arith, o.times list names, ap length e) in
          record {
            makes = omega (arith, o.makes, ap bit gets, ap bit (le-ltb _ _ spent));
            no_end = o.no_end;
            no_record = o.no_record;
            times = λ other names'. still other names' (eqb list other) refl;
            all_blocks = one-over;
            sample-lists = o.sample-lists;
          }
        where
          still : (other : ℕ) → Names m.lists other → (b' : Bool) → eqb list other ≡ b'
              → length (times_left s other) ≡ times_of m tape other - generates_of m tape other (b ∷ before)
          still other names' true q =
              let same : list ≡ other = eqb-true _ _ q in
              omega (arith, o.times other names', used-here other, ap length (rw same at e))
          still other names' false q = omega (arith, o.times other names', used-here other, ap bit q)
      opening-arrival (x ∷ left) e =
          let more : generates_of m tape list before < times_of m tape list = omega (arith, o.times list names, ap length e) in
          record {
            makes = omega (arith, o.makes, ap bit gets, ap bit (lt-ltb _ _ more));
            no_end = o.no_end;
            no_record = o.no_record;
            times = λ other names'.
                omega (
                  arith,
                  used-length s.samples list other names.0 names'.0 (omega (arith, o.sample-lists)),
                  o.times other names',
                  used-here other,
                );
            all_blocks = one-over;
            sample-lists = length-set s.samples (list - 1) (drop 1 (times_left s list)) ∙ o.sample-lists;
          }

  opening-step : (before l : List Block) (b : Block) (n : ℕ) (s : State) → ProperBlock m b → Opening before (b ∷ l) s
      → Opening (b ∷ before) l (start_of b n s)
  unfolding facts
  opening-step before l b n s good o =
      start_of-cases (Opening (b ∷ before) l) b n s (opening-none before l b s o)
      (λ e. opening-arrival before l b s o _ _ n (generates-list m b good e).0 refl (times_left s (facts b).generates) refl)

  opening-all : (before l : List Block) (n : ℕ) (s : State) → Each (ProperBlock m) l → Opening before l s → Books m tape (start_at n l s)
  unfolding start_at made_at_start made_by ended_by_lem used_by generates_of count those
  opening-all before [] n s good o =
      subst (Booked m tape s.samples s.made s.ended) (sym o.no_record)
      (record {
        makes = omega (arith, o.makes);
        ends = o.no_end;
        times = λ list names. omega (arith, o.times list names, o.all_blocks list);
      })
  opening-all before (b ∷ l) n s good o =
      opening-all (b ∷ before) l (suc n) (start_of b n s) good.1 (opening-step before l b n s good.0 o)

  pub booked-start : Proper m tape → Books m tape (start m tape)
  unfolding start idle
  booked-start proper =
      opening-all [] m.blocks 1 (idle m tape) (proper-blocks proper)
      (record {
        makes = omega arith;
        no_end = refl;
        no_record = refl;
        times = λ list names. none_before list;
        all_blocks = λ list. omega (arith, nothing-before list);
        sample-lists = proper.tapes;
      })
    where
      nothing-before : (list : ℕ) → generates_of m tape list [] ≡ 0
      nothing-before list = unfold generates_of count those in refl

      none_before : (list : ℕ) → times_of m tape list ≡ times_of m tape list - generates_of m tape list []
      none_before list = omega (arith, nothing-before list)
