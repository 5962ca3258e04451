-- The first walk over a trace, pure: one record by the reader's answer, and the totals of a walk that has the rest of the trace to come.
use Rattle.machine.specs.All.{clash, ℕ, zero, suc, ◌+◌, ◌-◌, ◌≤◌, ◌<◌, add-zero, arith, Bool, true, false, cond, List, [], ◌∷◌, ◌++◌, Option, none, some, ◌≡◌, refl, sym, ap, ltb, eqb, length, length-append, lt-ltb, le-ltb, eq-eqb, ne_eqb, le-leb, lt-leb, ltb-true, ltb-false, eqb-true, eqb-false, in_force, taken, refusal, no_more, read_record, ◌∙◌}
use Rattle.machine.specs.Trace as machine
use Rattle.codec.proofs.Numbers.{number_bytes-longest}
use Rattle.std.specs.{Prelude.Some, Prelude.None, Prelude.Option as Maybe, Prelude.Result, Prelude.Ok, Prelude.Err, Option.option_flatten, Result.result_ok}
use Rattle.constants.specs.declared.refusals.Refusal.{Refusal}
use Rattle.trace.specs.{declared.Record.Record, Answers.entry, Answers.reading_of}
use Rattle.trace.proofs.{Reader.past_end, RoundTrip.no-more-end}
use Rattle.columns_laws.specs.declared.walk.Walk.{Walk}
use Rattle.columns_laws.specs.{max_records, clocks, differences, column, never_fall, behind, whole_from, Short, longer, measuring, Totals, totalled, totals, totals_of}
use Rattle.columns_laws.proofs.Whole.{whole-refusal, whole-more, whole-none, whole-taken}

-- ---- One record

-- a refusal, or no more
pub measured-none : (count : ℕ) (t : Walk) (x : Result (Maybe (Record × ℕ)) Refusal) {y : machine.Reading} → reading_of x ≡ y →
    option_flatten (result_ok x) ≡ None → None ≡ measuring count t y
unfolding measuring
measured-none count t (Ok (Some z)) e h = clash (cc)
measured-none count t (Ok None) e h = rw (← e) refl
measured-none count t (Err r) e h = rw (← e) refl

read-some : (x : Result (Maybe (Record × ℕ)) Refusal) (r : Record) (next : ℕ) → option_flatten (result_ok x) ≡ Some (r, next) →
    x ≡ Ok (Some (r, next))
read-some (Ok (Some z)) r next h = ap Ok h
read-some (Ok None) r next h = clash (cc)
read-some (Err n) r next h = clash (cc)

module _ (count : ℕ) (t : Walk) (x : Result (Maybe (Record × ℕ)) Refusal) {y : machine.Reading} (e : reading_of x ≡ y)
    {r : Record} {next : ℕ} (h : option_flatten (result_ok x) ≡ Some (r, next)) where
  pub measured_fallen : r.clock < t.clock → None ≡ measuring count t y
  unfolding measuring
  measured_fallen low = rw (← e, read-some x r next h, lt-ltb _ _ low)

  -- one record more than the limit
  pub measured-many : t.clock ≤ r.clock → count ≡ max_records → None ≡ measuring count t y
  unfolding measuring
  measured-many high full = rw (← e, read-some x r next h, le-ltb _ _ high, eq-eqb _ _ full)

  -- a record lengthens each column by its own number
  pub measured-taken : t.clock ≤ r.clock → (count ≡ max_records → ⊥) → {w : Walk} →
      w ≡ longer t (entry r.clock r.transaction r.block r.outcome) next → Some (count + 1, w) ≡ measuring count t y
  unfolding measuring
  measured-taken high room f = rw (f, ← e, read-some x r next h, le-ltb _ _ high, ne_eqb _ _ room)

-- ---- Totals

module _ (count : ℕ) (t : Walk) (r : machine.Record) (next : ℕ) where
  totals_fallen : r.clock < t.clock → (o : Option (List machine.Record)) → none ≡ totals count t (behind r o)
  unfolding totals behind never_fall
  totals_fallen low none = refl
  totals_fallen low (some l) = rw (lt-leb _ _ low)

  totals-longer : t.clock ≤ r.clock → (o : Option (List machine.Record))
      → totals (count + 1) (longer t r next) o ≡ totals count t (behind r o)
  unfolding totals behind longer never_fall
  totals-longer high none = refl
  totals-longer high (some l) = rw (le-leb _ _ high) (go (never_fall r.clock (clocks l)))
    where
      sum : (a : ℕ) (u w : List ℕ) → a + length u + length w ≡ a + length (u ++ w)
      sum a u w = rw length-append (omega arith)

      same : totalled (count + 1) (longer t r next) l ≡ totalled count t (r ∷ l)
      same = unfold column differences longer in
          (let c : count + 1 + length l ≡ count + suc (length l) = omega arith in
          rw (c, sum t.differences, sum t.transactions, sum t.blocks, sum t.outcomes))

      go : (b : Bool) → cond b (some (totalled (count + 1) (longer t r next) l)) none ≡ cond b (some (totalled count t (r ∷ l))) none
      go true = ap some same
      go false = refl

-- ---- The walk

-- what the whole walk gives, from where it stands
abbrev pub Rest : List ℕ → ℕ → Walk → Option Totals
Rest s count t = totals count t (whole_from (max_records - count) s (read_record in_force s t.at))

-- a step that took a record
pub record Stepped (s : List ℕ) (count : ℕ) (t : Walk) (n : ℕ) (t' : Walk) : Type 0 where
  pub room : count < max_records
  pub count-more : n ≡ count + 1
  pub short : Short n t'
  pub same : Rest s n t' ≡ Rest s count t

module _ (s : List ℕ) (count : ℕ) (t : Walk) (short : Short count t) where
  -- a step that refuses refuses the trace
  pub step-refused : t.at < length s → None ≡ measuring count t (read_record in_force s t.at) → totals_of None ≡ Rest s count t
  unfolding measuring totals_of
  step-refused inside e = go (read_record in_force s t.at) refl e
    where
      choose : (r : machine.Record) (next : ℕ) (a b : Bool) → ltb r.clock t.clock ≡ a → eqb count max_records ≡ b →
          ◌≡◌ {A = Maybe (ℕ × Walk)} None (cond a None (cond b None (Some (count + 1, longer t r next)))) →
          none ≡ totals count t (whole_from (max_records - count) s (taken r next))
      choose r next true b f g h = fallen (max_records - count)
        where
          fallen : (k : ℕ) → none ≡ totals count t (whole_from k s (taken r next))
          fallen zero = rw (whole-none s r next zero refl) (unfold totals in refl)
          fallen (suc k) = rw (whole-taken s r next k) (totals_fallen count t r next (ltb-true _ _ f) _)
      choose r next false true f g h =
          let full : count ≡ max_records = eqb-true _ _ g in
          rw (whole-none s r next (max_records - count) (omega arith)) (unfold totals in refl)
      choose r next false false f g h = clash (cc)

      go : (y : machine.Reading) → read_record in_force s t.at ≡ y → None ≡ measuring count t y →
          none ≡ totals count t (whole_from (max_records - count) s y)
      go (taken r next) f h = choose r next _ _ refl refl h
      go (refusal n) f h = rw (whole-refusal s (max_records - count) n) (unfold totals in refl)
      go no_more f h = absurd (omega (arith, no-more-end s t.at f))

  -- a step that takes one leaves the rest of the trace to be measured
  pub step-taken : (n : ℕ) (t' : Walk) → Some (n, t') ≡ measuring count t (read_record in_force s t.at) → Stepped s count t n t'
  unfolding measuring
  step-taken n t' e = go (read_record in_force s t.at) refl e
    where
      longer-short : (r : machine.Record) (next : ℕ) → count < max_records → Short (count + 1) (longer t r next)
      longer-short r next h = unfold longer in record {
        few = omega arith;
        differences = omega (arith, short, number_bytes-longest (r.clock - t.clock));
        transactions = omega (arith, short, number_bytes-longest r.transaction);
        blocks = omega (arith, short, number_bytes-longest r.block);
        outcomes = omega (arith, short, number_bytes-longest r.outcome);
      }

      choose : (r : machine.Record) (next : ℕ) → read_record in_force s t.at ≡ taken r next → (a b : Bool) → ltb r.clock t.clock ≡ a
          → eqb count max_records ≡ b →
          ◌≡◌ {A = Maybe (ℕ × Walk)} (Some (n, t')) (cond a None (cond b None (Some (count + 1, longer t r next)))) → Stepped s count t n t'
      choose r next y true b f g h = clash (cc)
      choose r next y false true f g h = clash (cc)
      choose r next y false false f g h =
          let same : ◌≡◌ {A = ℕ × Walk} (n, t') (count + 1, longer t r next) = cc in
          let en : n ≡ count + 1 = ap (λ (p : ℕ × Walk). p.0) same in
          let et : t' ≡ longer t r next = ap (λ (p : ℕ × Walk). p.1) same in
          let differs : count ≡ max_records → ⊥ = eqb-false _ _ g in
          let room : count < max_records = below differs short.few in
          let k : max_records - count ≡ suc (max_records - (count + 1)) = omega arith in
          rw (en, et)
          (record {
            room = room;
            count-more = refl;
            short = longer-short r next room;
            same =
                sym
                (ap (totals count t)
                (ap (whole_from (max_records - count) s) y
                ∙ ap (λ (m : ℕ). whole_from m s (taken r next)) k
                ∙ whole-taken s r next (max_records - (count + 1)))
                ∙ sym (totals-longer count t r next (ltb-false _ _ f) (whole_from (max_records - (count + 1)) s (read_record in_force s next)))
                ∙ at_next (whole_from (max_records - (count + 1)) s) r next);
          })
        where
          below : {a b : ℕ} → (a ≡ b → ⊥) → a ≤ b → a < b
          below {a} {b} n le = omega (arith, le)

          at_next : (f : machine.Reading → Option (List machine.Record)) (r : machine.Record) (next : ℕ) →
              totals (count + 1) (longer t r next) (f (read_record in_force s next))
              ≡ totals (count + 1) (longer t r next) (f (read_record in_force s (longer t r next).at))
          at_next f r next = unfold longer in refl

      go : (y : machine.Reading) → read_record in_force s t.at ≡ y → Some (n, t') ≡ measuring count t y → Stepped s count t n t'
      go (taken r next) f h = choose r next f _ _ refl refl h
      go (refusal k) f h = clash (cc)
      go no_more f h = clash (cc)

  -- past the end nothing is to come
  pub step_end : length s ≤ t.at → totals_of (Some (count, t)) ≡ Rest s count t
  unfolding totals_of
  step_end past = rw (← past_end s t.at past, whole-more s (max_records - count)) (unfold totals never_fall in sym go)
    where
      go : some (totalled count t []) ≡ totals_of (Some (count, t))
      go = unfold column differences totals_of in simp add-zero
