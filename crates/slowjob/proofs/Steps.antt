-- What each block of the program does to the line.
use Rattle.machine.specs.All.{map-append, ℕ, zero, suc, ◌+◌, ◌≤◌, ◌<◌, max, ◌≡◌, refl, ap, subst, ◌∙◌, Bool, true, cond, List, [], ◌∷◌, ◌++◌, map, reverse, reverse-cons, append-nil, Option, none, some, arith, ltb-true, ltb-false, eqb, length, get_or, take, drop, Transaction, Event, precedes, earlier, insert, those, bit, with_returning, facts, BlockModel, block_at, Record, Logged, line_up, wake, Each, sym, false, ltb}
use Rattle.machine.proofs.{Basic.Each.each-insert, Lists.Lines.sum-line_up, Lists.Lines.each-line_up, Lists.Sums.sum_on, Lists.Sums.sum-insert, Lists.Sums.sum-length}
use Rattle.slowjob.specs.{ends, comes, leaves}
use Rattle.slowjob.proofs as our
use our.Events.{at, Ready, seizes, Pending, insert-coming, insert-served}
use our.Line.{Seeking, Coming, nobody, later, here-now, Serving, idle, seized, busy, done, before, Gone, Lined}
use our.Line.{firsts}

-- ---- Times used up in order

-- the next time of a list, and what is left of it
pub drop-step : (l : List ℕ) (k x : ℕ) (rest : List ℕ) → x ∷ rest ≡ drop k l → (x ≡ get_or l k 0) × (rest ≡ drop (suc k) l)
drop-step [] zero x rest e = absurd (omega (arith, ap length e))
drop-step [] (suc k) x rest e = absurd (omega (arith, ap length e))
drop-step (y ∷ l) zero x rest e = (ap (λ l. get_or l 0 0) e, ap (drop 1) e)
drop-step (y ∷ l) (suc k) x rest e = drop-step l k x rest e

module _ (m : BlockModel) where
  -- ---- Ends, one record more

  abbrev terminating : Record → Bool
  terminating r = eqb (facts (block_at m r.block)).terminates 1

  those-end : (l : List Record) (r : Record) → those terminating (l ++ (r ∷ [])) ≡ those terminating l ++ cond (terminating r) (r ∷ []) []
  unfolding those
  those-end [] r = refl
  those-end (x ∷ l) r = go (terminating x) (those-end l r)
    where
      go : (b : Bool) → those terminating (l ++ (r ∷ [])) ≡ those terminating l ++ cond (terminating r) (r ∷ []) []
          → cond b (x ∷ those terminating (l ++ (r ∷ []))) (those terminating (l ++ (r ∷ []))) ≡ cond b (x ∷ those terminating l)
          (those terminating l) ++ cond (terminating r) (r ∷ []) []
      go true e = ap (λ k. x ∷ k) e
      go false e = e

  ends_more : (r : Logged) (l : List Logged) → ends m (map (λ r. r.entry) (reverse (r ∷ l)))
      ≡ ends m (map (λ r. r.entry) (reverse l)) ++ map (λ r. r.clock) (cond (terminating r.entry) (r.entry ∷ []) [])
  unfolding ends
  ends_more r l =
      ap (λ k. map (λ r. r.clock) (those terminating k))
      (ap (map (λ r. r.entry)) (reverse-cons r l) ∙ map-append (λ r. r.entry) (reverse l) (r ∷ []))
      ∙ ap (map (λ r. r.clock)) (those-end (map (λ r. r.entry) (reverse l)) r.entry)
      ∙ map-append (λ (r : Record). r.clock) (those terminating (map (λ r. r.entry) (reverse l)))
      (cond (terminating r.entry) (r.entry ∷ []) [])

  ends_same : (r : Logged) (l : List Logged) → (facts (block_at m r.entry.block)).terminates ≡ 0
      → ends m (map (λ r. r.entry) (reverse (r ∷ l))) ≡ ends m (map (λ r. r.entry) (reverse l))
  ends_same r l e =
      ends_more r l ∙ ap (λ n. ends m (map (λ r. r.entry) (reverse l)) ++ map (λ r. r.clock) (cond (eqb n 1) (r.entry ∷ []) [])) e
      ∙ append-nil _

  ends-one : (r : Logged) (l : List Logged) → (facts (block_at m r.entry.block)).terminates ≡ 1
      → ends m (map (λ r. r.entry) (reverse (r ∷ l))) ≡ ends m (map (λ r. r.entry) (reverse l)) ++ (r.entry.clock ∷ [])
  ends-one r l e =
      ends_more r l ∙ ap (λ n. ends m (map (λ r. r.entry) (reverse l)) ++ map (λ r. r.clock) (cond (eqb n 1) (r.entry ∷ []) [])) e

-- ---- Clocks of the recurrence

comes_mono : (arrivals : List ℕ) (j k : ℕ) → j ≤ k → comes arrivals j ≤ comes arrivals k
unfolding comes
comes_mono arrivals zero zero le = omega arith
comes_mono arrivals (suc j) zero le = absurd (omega arith)
comes_mono arrivals j (suc k) le = go (ltb k j) refl (comes_mono arrivals j k)
  where
    go : (b : Bool) → ltb k j ≡ b → (j ≤ k → comes arrivals j ≤ comes arrivals k) → comes arrivals j ≤ comes arrivals (suc k)
    go true e h = let same : j ≡ suc k = omega (arith, ltb-true k j e) in omega (arith, ap (comes arrivals) same)
    go false e h = omega (arith, h (ltb-false k j e))

-- ---- Arrivals and services

module _ (arrivals services : List ℕ) where
  -- one who stands before GENERATE has come at this clock
  record Here (clock arrived one : ℕ) (times : List ℕ) (o : Option ℕ) : Type 0 where
    absent : o ≡ none
    single : one ≡ 1
    now : clock ≡ comes arrivals (suc arrived)
    rest : times ≡ drop (suc arrived) arrivals

  is-here : {clock arrived one : ℕ} {times : List ℕ} {o : Option ℕ} → 0 < one → Coming arrivals services clock arrived one times o
      → Here clock arrived one times o
  is-here p (nobody z) = absurd (omega arith)
  is-here p (later t z is l) = absurd (omega arith)
  is-here p (here-now one now l) = record { absent = refl; single = one; now = now; rest = l }

  -- one who stands before ADVANCE has seized the facility at this clock
  record Seized (clock in_use begun over four : ℕ) (times : List ℕ) (o : Option ℕ) : Type 0 where
    absent : o ≡ none
    taken : in_use ≡ 1
    nobody_out : four ≡ 0
    begins : begun ≡ suc over
    rest : times ≡ drop over services
    now : clock ≡ max (comes arrivals begun) (leaves arrivals services over)

  -- one who stands before RELEASE was served up to this clock
  record Served (clock begun over three four : ℕ) (times : List ℕ) (o : Option ℕ) : Type 0 where
    absent : o ≡ none
    single : four ≡ 1
    nobody_in : three ≡ 0
    ends : begun ≡ suc over
    rest : times ≡ drop begun services
    now : clock ≡ leaves arrivals services begun

  module _ {clock arrived begun over two three four queued in_use : ℕ} {times : List ℕ} where
    is-seized : {o : Option ℕ} → 0 < three → Serving arrivals services clock arrived begun over two three four queued in_use times o
        → Seized clock in_use begun over four times o
    is-seized p (idle u e3 e4 all l since next woken) = absurd (omega arith)
    is-seized p (seized u e3 e4 one l now) = record { absent = refl; taken = u; nobody_out = e4; begins = one; rest = l; now = now }
    is-seized p (busy t u e3 e4 one l is) = absurd (omega arith)
    is-seized p (done u e3 e4 one l now) = absurd (omega arith)

    is-served : {o : Option ℕ} → 0 < four → Serving arrivals services clock arrived begun over two three four queued in_use times o
        → Served clock begun over three four times o
    is-served p (idle u e3 e4 all l since next woken) = absurd (omega arith)
    is-served p (seized u e3 e4 one l now) = absurd (omega arith)
    is-served p (busy t u e3 e4 one l is) = absurd (omega arith)
    is-served p (done u e3 e4 one l now) = record { absent = refl; single = e4; nobody_in = e3; ends = one; rest = l; now = now }

    -- one more has come, and stands before SEIZE
    serving-come : {two' : ℕ} {o : Option ℕ} → 0 < two' → clock ≡ comes arrivals (suc arrived) → arrived ≡ begun + queued + two
        → Serving arrivals services clock arrived begun over two three four queued in_use times o
        → Serving arrivals services clock (suc arrived) begun over two' three four queued in_use times o
    serving-come some-two now between (idle u e3 e4 all l since next woken) =
        idle u e3 e4 all l since (λ lt. go (ltb begun arrived) refl lt) (λ p. some-two)
      where
        go : (b : Bool) → ltb begun arrived ≡ b → begun < suc arrived
            → clock ≡ max (comes arrivals (suc begun)) (leaves arrivals services begun)
        go true e lt = next (ltb-true _ _ e)
        go false e lt =
            let same : begun ≡ arrived = omega (arith, ltb-false begun arrived e) in
            omega (arith, ap (λ n. comes arrivals (suc n)) same)
    serving-come some-two now between (seized u e3 e4 one l then) = seized u e3 e4 one l then
    serving-come some-two now between (busy t u e3 e4 one l is) = busy t u e3 e4 one l is
    serving-come some-two now between (done u e3 e4 one l then) = done u e3 e4 one l then

    -- SEIZE of the idle facility, and of the facility in use
    serving-seized : {two' : ℕ} {o : Option ℕ} → in_use ≡ 0 → begun < arrived
        → Serving arrivals services clock arrived begun over two three four queued in_use times o
        → Serving arrivals services clock arrived (suc begun) over two' 1 four queued 1 times o
    serving-seized free some-came (idle u e3 e4 all l since next woken) =
        seized refl refl e4 (ap suc all) (l ∙ ap (λ k. drop k services) all)
        (next some-came ∙ ap (λ k. max (comes arrivals (suc begun)) (leaves arrivals services k)) all)
    serving-seized free some-came (seized u e3 e4 one l now) = absurd (omega arith)
    serving-seized free some-came (busy t u e3 e4 one l is) = absurd (omega arith)
    serving-seized free some-came (done u e3 e4 one l now) = absurd (omega arith)

    serving-queued : {two' queued' : ℕ} {o : Option ℕ} → (in_use ≡ 0 → ⊥)
        → Serving arrivals services clock arrived begun over two three four queued in_use times o
        → Serving arrivals services clock arrived begun over two' three four queued' in_use times o
    serving-queued taken (idle u e3 e4 all l since next woken) = absurd (taken u)
    serving-queued taken (seized u e3 e4 one l now) = seized u e3 e4 one l now
    serving-queued taken (busy t u e3 e4 one l is) = busy t u e3 e4 one l is
    serving-queued taken (done u e3 e4 one l now) = done u e3 e4 one l now

-- ---- The blocks

module _ (m : BlockModel) (arrivals services : List ℕ) {clock in_use : ℕ} {rel : List Transaction} {fel : List Event} {ql : List Transaction}
    {wel : List (List Transaction)} {wsl : List Transaction} {records : List Logged} where
  -- GENERATE, with no time left
  pub lined_spent : {times times' : List ℕ} → Lined m arrivals services 1 clock in_use rel fel ql wel wsl times times' records
      → Lined m arrivals services 2 clock in_use rel fel ql wel wsl times times' records
  lined_spent h =
      let x = is-here arrivals services (omega arith) h.coming in
      record {
        arrived = suc h.arrived;
        begun = h.begun;
        over = h.over;
        next-arrival = none;
        next_service = h.next_service;
        lists = h.lists;
        pending = subst (λ o. Pending clock fel o h.next_service) x.absent h.pending;
        coming = nobody (omega (arith, x.single));
        serving = serving-come arrivals services (omega arith) x.now h.between h.serving;
        between = omega (arith, h.between);
        past = omega (arith, x.now);
        gone = h.gone;
      }

  -- GENERATE, and the next one is made
  pub lined_generated : {times' : List ℕ} (time : ℕ) (times : List ℕ) (who : Transaction) → who.next ≡ 1
      → Lined m arrivals services 1 clock in_use rel fel ql wel wsl (time ∷ times) times' records
      → Lined m arrivals services 2 clock in_use rel
      (insert earlier (record { time = clock + time; who = who }) fel) ql wel wsl times times' records
  unfolding comes
  lined_generated time times who n h =
      let x = is-here arrivals services (omega arith) h.coming in
      let d = drop-step arrivals (suc h.arrived) time times x.rest in
      record {
        arrived = suc h.arrived;
        begun = h.begun;
        over = h.over;
        next-arrival = some (clock + time);
        next_service = h.next_service;
        lists = h.lists;
        pending =
            insert-coming (subst (λ o. Pending clock fel o h.next_service) x.absent h.pending)
            (record { time = clock + time; who = who }) n (omega arith);
        coming = later (clock + time) (omega (arith, x.single)) (omega (arith, x.now, d.0)) d.1;
        serving = serving-come arrivals services (omega arith) x.now h.between h.serving;
        between = omega (arith, h.between);
        past = omega (arith, x.now);
        gone = h.gone;
      }

  -- ADVANCE
  pub lined_advanced : {times : List ℕ} (time : ℕ) (times' : List ℕ) (who : Transaction) → who.next ≡ 4
      → Lined m arrivals services 3 clock in_use rel fel ql wel wsl times (time ∷ times') records
      → Lined m arrivals services 0 clock in_use rel
      (insert earlier (record { time = clock + time; who = who }) fel) ql wel wsl times times' records
  unfolding leaves
  lined_advanced time times' who n h =
      let x = is-seized arrivals services (omega arith) h.serving in
      let d = drop-step services h.over time times' x.rest in
      record {
        arrived = h.arrived;
        begun = h.begun;
        over = h.over;
        next-arrival = h.next-arrival;
        next_service = some (clock + time);
        lists = h.lists;
        pending =
            insert-served (subst (λ o. Pending clock fel h.next-arrival o) x.absent h.pending)
            (record { time = clock + time; who = who }) n (omega arith);
        coming = h.coming;
        serving =
            busy (clock + time) x.taken refl x.nobody_out x.begins (d.1 ∙ ap (λ k. drop k services) (sym x.begins))
            (omega (arith, x.now, d.0, ap (leaves arrivals services) x.begins, ap (comes arrivals) x.begins));
        between = h.between;
        past = h.past;
        gone = h.gone;
      }

  module _ {times times' : List ℕ} where
    -- SEIZE of the idle facility
    pub lined-seized : in_use ≡ 0 → Lined m arrivals services 2 clock in_use rel fel ql wel wsl times times' records
        → Lined m arrivals services 3 clock 1 rel fel ql wel wsl times times' records
    lined-seized free h =
        record {
          arrived = h.arrived;
          begun = suc h.begun;
          over = h.over;
          next-arrival = h.next-arrival;
          next_service = h.next_service;
          lists = h.lists;
          pending = h.pending;
          coming = h.coming;
          serving = serving-seized arrivals services free (omega (arith, h.between)) h.serving;
          between = omega (arith, h.between);
          past = h.past;
          gone = h.gone;
        }

    -- SEIZE of the facility in use, under either edition
    pub lined-queued : (edition : ℕ) (who : Transaction) → who.next ≡ 2 → (in_use ≡ 0 → ⊥)
        → Lined m arrivals services 2 clock in_use rel fel ql wel wsl times times' records
        → Lined m arrivals services 0 clock in_use rel fel (line_up edition who ql) wel wsl times times' records
    lined-queued edition who n taken h =
        let longer : length (line_up edition who ql) ≡ suc (length ql) =
        omega (arith, sum-length (line_up edition who ql), sum-length ql, sum-line_up (λ (t : Transaction). 1) edition who ql) in
        record {
          arrived = h.arrived;
          begun = h.begun;
          over = h.over;
          next-arrival = h.next-arrival;
          next_service = h.next_service;
          lists =
              record {
                ready = h.lists.ready;
                queued = each-line_up Seeking edition who ql n h.lists.queued;
                no-wel = h.lists.no-wel;
                no-wsl = h.lists.no-wsl;
              };
          pending = h.pending;
          coming = h.coming;
          serving = serving-queued arrivals services taken h.serving;
          between = omega (arith, h.between);
          past = h.past;
          gone = h.gone;
        }

    -- a record that is no end
    pub lined-logged : {b : ℕ} (r : Logged) → (facts (block_at m r.entry.block)).terminates ≡ 0
        → Lined m arrivals services b clock in_use rel fel ql wel wsl times times' records
        → Lined m arrivals services b clock in_use rel fel ql wel wsl times times' (r ∷ records)
    lined-logged r e h =
        record {
          arrived = h.arrived;
          begun = h.begun;
          over = h.over;
          next-arrival = h.next-arrival;
          next_service = h.next_service;
          lists = h.lists;
          pending = h.pending;
          coming = h.coming;
          serving = h.serving;
          between = h.between;
          past = h.past;
          gone =
              record {
                ended = h.gone.ended;
                count = h.gone.count;
                now = h.gone.now;
                finished = ends_same m r records e ∙ h.gone.finished;
              };
        }

    -- TERMINATE
    pub lined-ended : (r : Logged) → (facts (block_at m r.entry.block)).terminates ≡ 1 → r.entry.clock ≡ clock
        → Lined m arrivals services 5 clock in_use rel fel ql wel wsl times times' records
        → Lined m arrivals services 0 clock in_use rel fel ql wel wsl times times' (r ∷ records)
    lined-ended r e now h =
        let last : r.entry.clock ≡ leaves arrivals services (suc h.gone.ended) =
        now ∙ h.gone.now (omega arith) ∙ ap (leaves arrivals services) (omega (arith, h.gone.count)) in
        record {
          arrived = h.arrived;
          begun = h.begun;
          over = h.over;
          next-arrival = h.next-arrival;
          next_service = h.next_service;
          lists = h.lists;
          pending = h.pending;
          coming = h.coming;
          serving = h.serving;
          between = h.between;
          past = h.past;
          gone =
              record {
                ended = suc h.gone.ended;
                count = omega (arith, h.gone.count);
                now = λ p. absurd (omega arith);
                finished =
                    ends-one m r records e ∙ ap (λ l. l ++ (r.entry.clock ∷ [])) h.gone.finished
                    ∙ ap (λ n. firsts arrivals services h.gone.ended ++ (n ∷ [])) last;
              };
        }

    -- RELEASE: the service is over, and the first who waits goes to REL
    pub lined-released : Lined m arrivals services 4 clock in_use rel fel ql wel wsl times times' records
        → Lined m arrivals services 5 clock 0 (wake (take 1 ql) rel) fel (drop 1 ql) wel wsl times times' records
    unfolding wake
    lined-released h = go ql h.lists.queued h.between
      where
        x : Served arrivals services clock h.begun h.over 0 (before 4 4 rel) times' h.next_service
        x = is-served arrivals services (omega arith) h.serving

        begins : h.begun < h.arrived → clock ≡ max (comes arrivals (suc h.begun)) (leaves arrivals services h.begun)
        begins lt = omega (arith, x.now, h.past, comes_mono arrivals (suc h.begun) h.arrived lt)

        pending-then : Pending clock fel h.next-arrival none
        pending-then = subst (λ o. Pending clock fel h.next-arrival o) x.absent h.pending

        gone-then : Gone m arrivals services 1 clock (suc h.over) records
        gone-then =
            record {
              ended = h.gone.ended;
              count = omega (arith, h.gone.count);
              now = λ p. x.now ∙ ap (leaves arrivals services) x.ends;
              finished = h.gone.finished;
            }

        go : (q : List Transaction) → Each Seeking q → h.arrived ≡ h.begun + length q + before 2 4 rel
            → Lined m arrivals services 5 clock 0 (wake (take 1 q) rel) fel (drop 1 q) wel wsl times times' records
        go [] each between =
            record {
              arrived = h.arrived;
              begun = h.begun;
              over = suc h.over;
              next-arrival = h.next-arrival;
              next_service = none;
              lists = record { ready = h.lists.ready; queued = tt; no-wel = h.lists.no-wel; no-wsl = h.lists.no-wsl };
              pending = pending-then;
              coming = h.coming;
              serving =
                  idle refl refl (omega (arith, x.single)) x.ends x.rest (omega (arith, x.now)) begins (λ p. absurd (omega arith));
              between = between;
              past = h.past;
              gone = gone-then;
            }
        go (t ∷ q) each between =
            let woken : Transaction = with_returning true t in
            let more : (n : ℕ) → sum_on (at n) (insert precedes woken rel) ≡ bit (eqb 2 n) + sum_on (at n) rel =
            λ n. omega (arith, sum-insert (at n) precedes woken rel, ap (λ k. bit (eqb k n)) each.0) in
            record {
              arrived = h.arrived;
              begun = h.begun;
              over = suc h.over;
              next-arrival = h.next-arrival;
              next_service = none;
              lists =
                  record {
                    ready =
                        each-insert (λ (t : Transaction). Ready t.next) precedes woken rel (subst Ready (sym each.0) seizes)
                        h.lists.ready;
                    queued = each.1;
                    no-wel = h.lists.no-wel;
                    no-wsl = h.lists.no-wsl;
                  };
              pending = pending-then;
              coming =
                  subst (λ n. Coming arrivals services clock h.arrived n times h.next-arrival) (omega (arith, more 1)) h.coming;
              serving =
                  idle refl refl (omega (arith, x.single, more 4)) x.ends x.rest (omega (arith, x.now)) begins
                  (λ p. omega (arith, more 2));
              between = omega (arith, more 2);
              past = h.past;
              gone = gone-then;
            }
