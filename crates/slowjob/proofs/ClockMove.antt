-- A clock move keeps the line: REL is empty, so nobody stands before a block, and an idle facility has nobody waiting.
use Rattle.machine.specs.All.{ℕ, ◌+◌, ◌-◌, ◌≤◌, ◌≡◌, refl, sym, ap, subst, ◌∙◌, List, [], ◌∷◌, Option, arith, get_or, Transaction, Event, those, others, Server, idle_server, BlockModel, State, set_clock, set_view, set_fel, set_rel, set_serial, sample_servers, sample, due, move_clock, next_events}
use Rattle.machine.proofs.Lists.Sums.{sum_on}
use Rattle.slowjob.proofs as our
use our.Events.{at, Pending, Step, absent, stays, falls-due, Moved, moved, Arrival, arrive}
use our.Line.{Coming, nobody, later, here-now, Serving, idle, seized, busy, done, Line}

-- statistics leave the units in use
sampled_use : (ticks : ℕ) (l : List Server) (ql : List (List Transaction))
    → (get_or (sample_servers ticks l ql) 0 (idle_server 0)).in_use ≡ (get_or l 0 (idle_server 0)).in_use
unfolding sample_servers
sampled_use ticks [] ql = refl
sampled_use ticks (v ∷ l) [] = refl
sampled_use ticks (v ∷ l) (q ∷ ql) = refl

module _ (arrivals services : List ℕ) where
  -- nobody stood before GENERATE, and `now` do
  coming-moved : {clock time arrived here now n : ℕ} {times : List ℕ} {o o' : Option ℕ} → here ≡ 0 → now ≡ n
      → Coming arrivals services clock arrived here times o
      → Step time o o' n → Coming arrivals services time arrived now times o'
  coming-moved z is (nobody e) absent = nobody is
  coming-moved z is (later t e due l) (stays u) = later t is due l
  coming-moved z is (later t e due l) (falls-due u at) = here-now is (omega arith) l
  coming-moved z is (here-now e due l) absent = absurd (omega arith)

  -- nobody stood before SEIZE, ADVANCE or RELEASE, and `now` stand before RELEASE
  serving-moved : {clock time arrived begun over two two' three four now queued in_use in_use' n : ℕ} {times : List ℕ} {p p' : Option ℕ}
      → clock ≤ time → two ≡ 0 → three ≡ 0 → four ≡ 0 → now ≡ n → in_use' ≡ in_use → arrived ≡ begun + queued + two
      → Serving arrivals services clock arrived begun over two three four queued in_use times p → Step time p p' n
      → Serving arrivals services time arrived begun over two' three now queued in_use' times p'
  serving-moved ahead z2 z3 z4 is same between (idle u e3 e4 all l since next woken) absent =
      idle (same ∙ u) z3 is all l (omega arith) (λ lt. absurd (omega (arith, woken (omega arith)))) (λ p. absurd (omega (arith, woken p)))
  serving-moved ahead z2 z3 z4 is same between (seized u e3 e4 one l at) absent = absurd (omega arith)
  serving-moved ahead z2 z3 z4 is same between (busy t u e3 e4 one l due) (stays v) = busy t (same ∙ u) z3 is one l due
  serving-moved ahead z2 z3 z4 is same between (busy t u e3 e4 one l due) (falls-due v at) = done (same ∙ u) z3 is one l (omega arith)
  serving-moved ahead z2 z3 z4 is same between (done u e3 e4 one l at) absent = absurd (omega arith)

module _ (m : BlockModel) (arrivals services : List ℕ) where
  line-moved : (s : State) (e : Event) (l : List Event) → s.fel ≡ e ∷ l → s.rel ≡ [] → Line m arrivals services 0 s
      → Line m arrivals services 0 (move_clock e.time s)
  unfolding move_clock sample
  line-moved s e l is empty h =
      let time : ℕ = e.time in
      let base : State = set_fel (others (due time) s.fel) (set_view (set_clock time (sample (time - s.view.clock) s).view) s) in
      let x : Moved s.view.clock time (those (due time) s.fel) (others (due time) s.fel) h.next-arrival h.next_service =
      subst (λ f. Moved s.view.clock time (those (due time) f) (others (due time) f) h.next-arrival h.next_service) (sym is)
      (moved (subst (λ f. Pending s.view.clock f h.next-arrival h.next_service) is h.pending)) in
      let y : Arrival (those (due time) s.fel) base = arrive (those (due time) s.fel) base in
      let none-at : (n : ℕ) → sum_on (at n) s.rel ≡ 0 = λ n. ap (sum_on (at n)) empty in
      let now : Line m arrivals services 0 (set_rel y.rel (set_serial y.serial base)) =
      record {
        arrived = h.arrived;
        begun = h.begun;
        over = h.over;
        next-arrival = x.o';
        next_service = x.p';
        lists =
            record {
              ready = y.ready x.ready h.lists.ready;
              queued = h.lists.queued;
              no-wel = h.lists.no-wel;
              no-wsl = h.lists.no-wsl;
            };
        pending = x.rest;
        coming =
            coming-moved arrivals services (omega (arith, none-at 1)) (omega (arith, y.sums 1, x.counts 1, none-at 1)) h.coming
            x.coming;
        serving =
            serving-moved arrivals services x.ahead (omega (arith, none-at 2)) refl (omega (arith, none-at 4))
            (omega (arith, y.sums 4, x.counts 4, none-at 4))
            (sampled_use _ s.view.servers s.ql) h.between h.serving x.serving;
        between = omega (arith, h.between, none-at 2, y.sums 2, x.counts 2);
        past = omega (arith, h.past, x.ahead);
        gone = record { ended = h.gone.ended; count = h.gone.count; now = λ p. absurd (omega arith); finished = h.gone.finished };
      } in
      subst (Line m arrivals services 0) (sym y.is) now

  pub line-next : (l : List Event) (s : State) → s.fel ≡ l → s.rel ≡ [] → Line m arrivals services 0 s
      → Line m arrivals services 0 (next_events l s)
  unfolding next_events
  line-next [] s is empty h = h
  line-next (e ∷ l) s is empty h = line-moved s e l is empty h
