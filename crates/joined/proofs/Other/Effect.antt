-- One block of the other part: what the part sees stays as it is.
use Rattle.machine.specs.All.{ℕ, zero, suc, ◌+◌, ◌-◌, ◌≤◌, ◌≡◌, refl, Bool, true, false, cond, true≢false, List, [], ◌∷◌, Option, none, some, arith, leb, eqb-true, Transaction, precedes, Event, Interrupted, newborn, replace_first, Condition, always, when_true, server_at, truth, compare, Share, facility, share_server, share_units, Block, generate, advance, terminate, takes, frees, wait_server, wait_terms, moves, assign, priority, split, counts, assemble, preempt, give_back, facts, BlockModel, unconditional, State, set_ended, set_fel, log, enters, move_to, to_wsl, begin_wait, must_wait, set_use, arrival, copies, to_gatherers, comes, released, of_facility, interrupted_at, loses_to, losers_to, interrupt, resume, ql_of, check_wels, wake_for, free_units, ends_one, delay, take_units, effect, Each, Gatherer, free, with_next, with_serial, with_returning, fresh, to_ql, to_wel, sym, ap, ◌∙◌}
use Rattle.machine.proofs.{Decoding.Proper.Names, Basic.Bools.cond_cases, Lists.Lines.both-part_for}
use Rattle.machine.proofs.Basic.Each.{each_map, each-pair, each-insert, each-those, each_replace, each-passes}
use Rattle.machine.proofs.Lists.Cases.{check_wels-kept, wait_server-cases, wait_terms-cases, assemble-cases, preempt-cases, give_back-cases}
use Rattle.joined.specs.{Part, server_in, in_part}
use Rattle.joined.proofs as our
use our.Lists.Members.{those-insert-other, those_replace-other, sorted_insert, sorted_replace, by-holder}
use our.Relation.Naming.{Naming, mine}
use our.Relation.Seen.{size, Tables, OfPart, Seen}
use our.Other.Steps.{OtherServer, OtherQueue, OtherList, OtherRow, Beside, put-fel, put-interrupted, log-other, enters-other, to_rel-other, to_fel-other, wsl-other, ql-other, wel-other, wake_ql-other, wake_first_wel-other, set_use-other, set_content-other, use_time-other, gatherers-other, fresh-other, made_other}

-- ---- What a block of the other part names

module _ (p : Part) (m : BlockModel) where
  abbrev pub Outside : Block → Type 0
  Outside (generate list r) = OtherList p m list
  Outside (advance list) = OtherList p m list
  Outside (terminate a) = Unit {0}
  Outside (takes x) = OtherServer p m (share_server x)
  Outside (frees x) = OtherServer p m (share_server x)
  Outside (wait_server code v c) = OtherServer p m v
  Outside (wait_terms a r b) = Unit {0}
  Outside (moves c target) = in_part p (size p m) target ≡ false
  Outside (assign k a) = Unit {0}
  Outside (priority r) = Unit {0}
  Outside (split n target) = in_part p (size p m) target ≡ false
  Outside (counts c q) = OtherQueue p m q
  Outside (assemble n) = Unit {0}
  Outside (preempt f) = OtherServer p m f
  Outside (give_back f) = OtherServer p m f

  -- nobody moves, or one of the other part
  pub data Away : Option Transaction → Type 0 where
    nobody : Away none
    other : (t : Transaction) → mine p (size p m) t ≡ false → Away (some t)

  pub record Left (N : Naming) (c : ℕ) (s s' : State) : Type 0 where
    pub seen : Seen p m N s s'
    pub time : s.view.clock ≡ c
    pub moving : Away s.moving

  module _ (T : Tables p m) (N : Naming) (c : ℕ) (s' : State) where
    abbrev B : State → Type 0
    B s = Beside p m N c s s'

    abbrev L : State → Type 0
    L s = Left N c s s'

    abbrev mine? : Transaction → Bool
    mine? = mine p (size p m)

    left-still : (s : State) → B s → L s
    left-still s h = record { seen = h.seen; time = h.time; moving = rw h.still nobody }

    left-goes : (s : State) → B s → (b : ℕ) (t : Transaction) → in_part p (size p m) b ≡ false → L (move_to b t s)
    unfolding move_to
    left-goes s h b t e =
        record {
          seen =
              record {
                counted = h.seen.counted;
                fixtures = h.seen.fixtures;
                lined = h.seen.lined;
                listed = h.seen.listed;
                told = h.seen.told;
              };
          time = h.time;
          moving = other (with_returning false (with_next b t)) e;
        }

    -- ---- More steps

    check_wels-other : (v : ℕ) → OtherServer p m v → (s : State) → B s → B (check_wels v s)
    check_wels-other v o s h = check_wels-kept B v (λ code s h. wake_first_wel-other p m T N c s' s h v code o) s h

    -- an arrival of another part draws from another list and stands before another block
    pub arrival-other : (l : List ℕ) (list r block : ℕ) → OtherList p m list → in_part p (size p m) block ≡ false → (s : State) → B s
        → B (arrival l list r block s)
    unfolding arrival newborn
    arrival-other [] list r block o e s h = h
    arrival-other (time ∷ left) list r block o e s h =
        to_fel-other p m T N c s' _ (made_other p m T N c s' _ (use_time-other p m T N c s' s h list o)) _ _ e

    delay-other : (l : List ℕ) (list : ℕ) (t : Transaction) → OtherList p m list → in_part p (size p m) (suc t.next) ≡ false
        → (s : State) → B s → B (delay l list t s)
    unfolding delay
    delay-other [] list t o e s h = h
    delay-other (time ∷ left) list t o e s h = to_fel-other p m T N c s' _ (use_time-other p m T N c s' s h list o) _ _ e

    copies-other : (n target : ℕ) (t : Transaction) → in_part p (size p m) target ≡ false → (s : State) → B s → B (copies n target t s)
    unfolding copies
    copies-other zero target t e s h = h
    copies-other (suc n) target t e s h = copies-other n target t e _ (to_rel-other p m T N c s' _ (made_other p m T N c s' s h) _ e)

    begins-other : (put : Transaction → State → State) (t : Transaction) → mine? t ≡ false
        → ((u : Transaction) → mine? u ≡ false → u.next ≡ t.next → (s : State) → B s → B (put u s)) → (s : State) → B s
        → B (begin_wait put t s)
    unfolding log
    begins-other put t e P s h = P (with_serial (fresh s) t) e refl _ (fresh-other p m T N c s' _ (log-other p m T N c s' s h 1 t e))

    waits-other : (put : Transaction → State → State) (t : Transaction) → mine? t ≡ false
        → ((u : Transaction) → mine? u ≡ false → u.next ≡ t.next → (s : State) → B s → B (put u s)) → (s : State) → B s
        → B (must_wait put t s)
    unfolding must_wait
    waits-other put t e P s h = cond_cases B t.returning _ _ (λ d. P t e refl s h) (λ d. begins-other put t e P s h)

    -- ---- Facilities that are taken over

    interrupt-other : (e : Event) (t : Transaction) (f : ℕ) → OtherServer p m f → mine? e.who ≡ false → (s : State) → B s
        → Each (λ (y : Event). loses_to t (server_at s.view f) y ≡ true → mine? y.who ≡ false) s.fel → B (interrupt e t f s)
    unfolding interrupt
    interrupt-other e t f o d s h q =
        put-interrupted p m T N c s' _ gone _
        (record {
          part =
              rw (← those-insert-other (λ (i : Interrupted). mine? i.who) (λ a b. precedes a.who b.who) _
              s.interrupted d) at h.seen.listed.interrupted.part;
          sorted =
              sorted_insert (λ a b. precedes a.who b.who) (by-holder (λ (i : Interrupted). i.who)) _ s.interrupted
              h.seen.listed.interrupted.sorted;
        })
        (each-insert (OfPart p m N) (λ a b. precedes a.who b.who) _ s.interrupted
        (record { own = λ x. absurd (true≢false (sym x ∙ d)); other = λ x u i same. o u i (ap (λ (n : ℕ). n - 1) same) })
        h.seen.listed.facilities)
      where
        gone : B (set_fel (replace_first (loses_to t (server_at s.view f)) [] s.fel) s)
        gone =
            put-fel p m T N c s' s h _
            (record {
              part =
                  rw (those_replace-other (λ (y : Event). mine? y.who) (loses_to t (server_at s.view f)) s.fel q)
                  h.seen.listed.fel.part;
              sorted = sorted_replace _ _ s.fel h.seen.listed.fel.sorted;
            })

    -- who was taken from a facility of the other part is of the other part
    module _ (facilities : (u : ℕ) → Names m.facilities u → server_in p u ≡ u + p.to_facility) where
      taken-other : (f : ℕ) → OtherServer p m f → (i : Interrupted) → OfPart p m N i → of_facility f i ≡ true → mine? i.who ≡ false
      unfolding of_facility
      taken-other f o i k e = go (mine? i.who) refl
        where
          back : 1 ≤ i.facility - p.to_facility → i.facility - p.to_facility + p.to_facility ≡ i.facility
          back h = omega arith

          never : Names m.facilities (i.facility - p.to_facility) → i.facility ≡ f → ⊥
          never u same =
              o (i.facility - p.to_facility) (u.0, omega (arith, u.1))
              (ap (λ (n : ℕ). n - 1) (facilities (i.facility - p.to_facility) u ∙ back u.0 ∙ same))

          go : (b : Bool) → mine? i.who ≡ b → mine? i.who ≡ false
          go true d = absurd (never (k.own d) (eqb-true _ _ e))
          go false d = d

      resume-other : (i : Interrupted) (f : ℕ) → OtherServer p m f → mine? i.who ≡ false → (s : State) → B s → B (resume i f s)
      unfolding resume
      resume-other i f o d s h =
          to_fel-other p m T N c s' _
          (put-interrupted p m T N c s' s h _
          (record {
            part =
                rw (those_replace-other (λ (y : Interrupted). mine? y.who) (of_facility f) s.interrupted
                (each_map (λ (y : Interrupted) k. taken-other f o y k) s.interrupted h.seen.listed.facilities))
                h.seen.listed.interrupted.part;
            sorted = sorted_replace _ _ s.interrupted h.seen.listed.interrupted.sorted;
          })
          (each_replace (OfPart p m N) (of_facility f) [] s.interrupted tt h.seen.listed.facilities)) _ _ d

      -- ---- A block

      module _ (M : BlockModel) (t : Transaction) (e : mine? t ≡ false) (row : OtherRow p m t.next) (s : State) (h : B s)
          (ql : (v : ℕ) → OtherServer p m v → Each (λ u. mine? u ≡ false) (ql_of s v))
          (losers : (f : ℕ) → OtherServer p m f → Each (λ (y : Event). loses_to t (server_at s.view f) y ≡ true → mine? y.who ≡ false)
          s.fel) where
        abbrev On : Type 0
        On = in_part p (size p m) (suc t.next) ≡ false

        h₁ : B (enters t s)
        h₁ = enters-other p m T N c s' s h t e row

        units-other : (x : Share) (preempts : Bool) → OtherServer p m (share_server x) → On → L (take_units M x preempts t s)
        unfolding take_units
        units-other x preempts o on =
            let v : ℕ = share_server x in
            cond_cases L (leb (share_units x) (free (server_at s.view v))) _ _
            (λ d. left-goes _ (check_wels-other v o _ (set_use-other p m T N c s' _ h₁ v _ _ _ o)) _ t on)
            (λ d. left-still _ (waits-other (to_ql M.edition v) t e (λ u k n s h. ql-other p m T N c s' s h M.edition v u o) s h))

        frees-other : (x : Share) → OtherServer p m (share_server x)
            → B (wake_for M x (free_units (share_server x) (share_units x) (enters t s)))
        unfolding wake_for enters log set_use
        frees-other x o =
            wake_ql-other p m T N c s' _ (set_use-other p m T N c s' _ h₁ (share_server x) _ _ _ o) _ (share_server x) o
            (both-part_for (λ u. mine? u ≡ false) M x _ _ (ql (share_server x) o)).0

        loser : (f : ℕ) → OtherServer p m f → (y : Event) (l : List Event) → losers_to t f s ≡ y ∷ l → mine? y.who ≡ false
        loser f o y l k =
            let v = server_at s.view f in
            let both = each-pair (λ (z : Event). loses_to t v z ≡ true → mine? z.who ≡ false) (λ z. loses_to t v z ≡ true) (losers_to t f s)
            (each-those (λ (z : Event). loses_to t v z ≡ true → mine? z.who ≡ false) (loses_to t v) s.fel (losers f o))
            (each-passes (loses_to t v) s.fel) in
            first (rw k at both).0
          where
            first : {A C : Type 0} → (A → C) × A → C
            first q = q.0 q.1

        entered-losers : (f : ℕ) → OtherServer p m f
            → Each (λ (y : Event). loses_to t (server_at (enters t s).view f) y ≡ true → mine? y.who ≡ false) (enters t s).fel
        unfolding enters log server_at
        entered-losers f o = losers f o

        -- the other part's counter, ends, gatherers and interrupted ones
        ends-other : (a : ℕ) → B (ends_one a (enters t s))
        unfolding ends_one
        ends-other a =
            record {
              seen =
                  record {
                    counted = h₁.seen.counted;
                    fixtures = h₁.seen.fixtures;
                    lined = h₁.seen.lined;
                    listed = h₁.seen.listed;
                    told = h₁.seen.told;
                  };
              time = h₁.time;
              still = h₁.still;
              gates = h₁.gates;
            }

        ended-other : B (set_ended (suc (enters t s).ended) (enters t s))
        ended-other =
            record {
              seen =
                  record {
                    counted = h₁.seen.counted;
                    fixtures = h₁.seen.fixtures;
                    lined = h₁.seen.lined;
                    listed = h₁.seen.listed;
                    told = h₁.seen.told;
                  };
              time = h₁.time;
              still = h₁.still;
              gates = h₁.gates;
            }

        gathers-other : (u : Transaction) → mine? u ≡ false → u.next ≡ t.next → (s : State) → B s → B (to_gatherers u s)
        unfolding to_gatherers
        gathers-other u d n s h = gatherers-other p m T N c s' s h u.next _ (rw n row)

        comes-other : (g : Gatherer) → B (comes g t (set_ended (suc (enters t s).ended) (enters t s)))
        unfolding comes
        comes-other g = gatherers-other p m T N c s' _ ended-other t.next _ row

        released-other : (g : Gatherer) → On → B (released g t (set_ended (suc (enters t s).ended) (enters t s)))
        unfolding released
        released-other g on = to_rel-other p m T N c s' _ (gatherers-other p m T N c s' _ ended-other t.next _ row) _ on

        stopped : (f : ℕ) → OtherServer p m f → (i : Interrupted) (l : List Interrupted) → interrupted_at s f ≡ i ∷ l
            → mine? i.who ≡ false
        stopped f o i l k =
            let both =
            each-pair (OfPart p m N) (λ x. of_facility f x ≡ true) (interrupted_at s f)
            (each-those (OfPart p m N) (of_facility f) s.interrupted h.seen.listed.facilities)
            (each-passes (of_facility f) s.interrupted) in
            let first = (rw k at both).0 in
            taken-other f o i first.0 first.1

        goes_out : (k : Condition) (target : ℕ) → in_part p (size p m) target ≡ false → (unconditional k ≡ false → On)
            → in_part p (size p m) (cond (truth M.values s.view t.parameters k) target (suc t.next)) ≡ false
        unfolding truth unconditional
        goes_out always target o on = o
        goes_out (when_true a r b) target o on =
            cond_cases (λ (n : ℕ). in_part p (size p m) n ≡ false) (compare M.values s.view t.parameters a r b) _ _ (λ d. o)
            (λ d. on refl)

        -- whatever a block of another part does, the part sees the same state
        pub effect-other : (b : Block) → Outside b → ((facts b).leaves ≡ false → On) → in_part p (size p m) (t.next - (facts b).back) ≡ false
            → L (effect M b t s)
        unfolding effect facts take_units share_server share_units
        effect-other (generate list r) o on back = left-goes _ (arrival-other _ list r t.next o e _ h₁) _ t (on refl)
        effect-other (advance list) o on back = left-still _ (delay-other _ list t o (on refl) _ h₁)
        effect-other (terminate a) o on back = left-still _ (ends-other a)
        effect-other (takes x) o on back = units-other x false o (on refl)
        effect-other (frees x) o on back = left-goes _ (check_wels-other (share_server x) o _ (frees-other x o)) _ t (on refl)
        effect-other (wait_server code v k) o on back =
            wait_server-cases L M code v k t s
            (λ d. left-still _
            (waits-other (to_wel M.edition v code) t e (λ u q n s h. wel-other p m T N c s' s h M.edition v code u o q) s h))
            (λ d. left-goes _ (wake_first_wel-other p m T N c s' s h v code o) _ t back)
            (λ d. left-goes _ (wake_first_wel-other p m T N c s' _ h₁ v code o) _ _ (on refl))
        effect-other (wait_terms a r b) o on back =
            wait_terms-cases L M a r b t s (λ d. left-still _ (waits-other to_wsl t e (λ u q n s h. wsl-other p m T N c s' s h u q) s h))
            (λ d. left-goes _ h₁ _ t (on refl))
        effect-other (moves k target) o on back = left-goes _ h₁ _ t (goes_out k target o on)
        effect-other (assign k a) o on back = left-goes _ h₁ _ _ (on refl)
        effect-other (priority r) o on back = left-still _ (to_rel-other p m T N c s' _ h₁ _ (on refl))
        effect-other (split n target) o on back = left-goes _ (copies-other n target t o _ h₁) _ t (on refl)
        effect-other (counts k q) o on back = left-goes _ (set_content-other p m T N c s' _ h₁ q _ o) _ t (on refl)
        effect-other (assemble n) o on back =
            assemble-cases L M n t s (λ d. left-still _ (begins-other to_gatherers t e gathers-other s h))
            (λ g l d q. left-still _ (released-other g (on refl))) (λ g l d q. left-still _ (comes-other g))
        effect-other (preempt f) o on back =
            preempt-cases L M f t s (λ d. units-other (facility f) true o (on refl))
            (λ x l d.
            left-goes _
            (check_wels-other f o _
            (set_use-other p m T N c s' _ (interrupt-other x t f o (loser f o x l d) _ h₁ (entered-losers f o)) f _ _ _ o)) _ t (on refl))
        effect-other (give_back f) o on back =
            give_back-cases L M f t s (λ d. left-goes _ (check_wels-other f o _ (frees-other (facility f) o)) _ t (on refl))
            (λ i l d.
            left-goes _ (check_wels-other f o _ (resume-other i f o (stopped f o i l d) _ (set_use-other p m T N c s' _ h₁ f _ _ _ o))) _ t
            (on refl))
