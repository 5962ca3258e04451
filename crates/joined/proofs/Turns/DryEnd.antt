-- No turn ends a run dry: end 1 comes before a turn alone. So a run that ends dry has no other end anywhere.
use Rattle.machine.specs.All.{ℕ, zero, suc, ◌+◌, ◌≡◌, refl, sym, ap, ◌∙◌, Bool, true, false, not, ◌&&◌, ◌||◌, List, [], ◌∷◌, Option, none, some, arith, leb, eqb, eqb-true, eqb-false, max_living, Transaction, Event, Gatherer, Interrupted, server_at, queue_at, Share, facility, storage, share_units, Change, up, down, Block, generate, advance, terminate, takes, frees, wait_server, wait_terms, moves, assign, priority, split, counts, assemble, preempt, give_back, BlockModel, State, set_turns, set_end, log, enters, move_to, to_rel, to_fel, to_ql, to_wel, to_wsl, must_wait, wake_ql, wake_first_wel, wake_wsl, set_use, set_content, times_left, arrival, copies, waits_for, to_gatherers, comes, released, interrupted_at, interrupt, resume, unless, living, ask_generate, ask_advance, ask_content, ask_holder, held, ask_gathers, ask_resume, ask_gives_back, question, check_wels, wake_for, ends_one, delay, take_units, effect, next_events, take_first, take_ready, taking, answer, execute, turn, end_before_lem, nobody_left, run_from, free, share_server, share_holder, block_at, set_moving, set_holder, free_units}
use Rattle.machine.proofs.Runs.RunLaws.{Before, before, taken, own, closing, run_on, run-off}
use Rattle.machine.proofs.Basic.Bools.{cond_cases}
use Rattle.machine.proofs.Lists.Cases.{check_wels-kept, wait_server-cases, wait_terms-cases, assemble-cases, preempt-cases, give_back-cases, ws_scheme-cases}
use Rattle.joined.proofs.Turns.ClockMove.{move_clock-unmoved}

abbrev Not1 : ℕ → Type 0
Not1 n = n ≡ 1 → ⊥

-- ---- Questions

unless_not : (b : Bool) (n later : ℕ) → Not1 n → Not1 later → Not1 (unless b n later)
unless_not true n later h k = k
unless_not false n later h k = h

far : {k : ℕ} → Not1 (suc (suc k))
far e = omega arith

none_of : Not1 0
none_of e = omega arith

ask-generate : (m : BlockModel) (l : List ℕ) (s : State) → Not1 (ask_generate m l s)
unfolding ask_generate
ask-generate m [] s = none_of
ask-generate m (x ∷ l) s =
    unless_not (leb (living s + 1) max_living) 21 _ far (unless_not (leb (s.view.clock + x) m.rules.max_clock) 22 0 far none_of)

ask-advance : (m : BlockModel) (l : List ℕ) (s : State) → Not1 (ask_advance m l s)
unfolding ask_advance
ask-advance m [] s = far
ask-advance m (x ∷ l) s = unless_not (leb (s.view.clock + x) m.rules.max_clock) 22 0 far none_of

ask-content : (c : Change) (n : ℕ) → Not1 (ask_content c n)
unfolding ask_content
ask-content up n = none_of
ask-content down n = unless_not (leb 1 n) 25 0 far none_of

ask-holder : (m : BlockModel) (x : Share) (t : Transaction) (s : State) → Not1 (ask_holder m x t s)
unfolding ask_holder
ask-holder m (facility v) t s =
    unless_not (not (server_at s.view v).preempted) 27 _ far
    (unless_not (not m.rules.holders || eqb (server_at s.view v).holder t.number) 27 0 far none_of)
ask-holder m (storage v b) t s = none_of

ask-ends : (m : BlockModel) (t : Transaction) (s : State)
    → Not1 (unless (not m.rules.holders || eqb (held m s.view t.number) 0) 28 0)
ask-ends m t s = unless_not (not m.rules.holders || eqb (held m s.view t.number) 0) 28 0 far none_of

ask-gathers : (m : BlockModel) (l : List Gatherer) (t : Transaction) (s : State) → Not1 (ask_gathers m l t s)
unfolding ask_gathers
ask-gathers m [] t s = none_of
ask-gathers m (g ∷ l) t s = ask-ends m t s

ask-resume : (m : BlockModel) (l : List Interrupted) (s : State) → Not1 (ask_resume m l s)
unfolding ask_resume
ask-resume m [] s = none_of
ask-resume m (i ∷ l) s = unless_not (leb (s.view.clock + i.remaining) m.rules.max_clock) 22 0 far none_of

ask-gives_back : (m : BlockModel) (f : ℕ) (t : Transaction) (s : State) → Not1 (ask_gives_back m f t s)
unfolding ask_gives_back
ask-gives_back m f t s =
    unless_not (leb 1 (server_at s.view f).in_use) 24 _ far
    (unless_not ((server_at s.view f).preempted && eqb (server_at s.view f).holder t.number) 27 _ far
    (ask-resume m (interrupted_at s f) s))

asks : (m : BlockModel) (b : Block) (t : Transaction) (s : State) → Not1 (question m b t s)
unfolding question
asks m (generate list p) t s = ask-generate m (times_left s list) s
asks m (advance list) t s = ask-advance m (times_left s list) s
asks m (terminate a) t s = ask-ends m t s
asks m (takes x) t s = none_of
asks m (frees x) t s = unless_not (leb (share_units x) (server_at s.view (share_server x)).in_use) 24 _ far (ask-holder m x t s)
asks m (wait_server code v c) t s = none_of
asks m (wait_terms a r b) t s = none_of
asks m (moves c target) t s = none_of
asks m (assign k a) t s = none_of
asks m (priority p) t s = none_of
asks m (split n target) t s = unless_not (leb (living s + n) max_living) 21 0 far none_of
asks m (counts c q) t s = ask-content c (queue_at s.view q).content
asks m (assemble n) t s = ask-gathers m (waits_for t s) t s
asks m (preempt f) t s = none_of
asks m (give_back f) t s = ask-gives_back m f t s

-- ---- Blocks

abbrev Going : State → Type 0
Going s = Not1 s.end

check_going : (v : ℕ) (s : State) → Going s → Going (check_wels v s)
unfolding wake_first_wel
check_going v s h = check_wels-kept Going v (λ code s h. h) s h

arrival_going : (l : List ℕ) (list p n : ℕ) (s : State) → Going s → Going (arrival l list p n s)
unfolding arrival to_fel
arrival_going [] list p n s h = h
arrival_going (x ∷ l) list p n s h = h

copies_going : (n target : ℕ) (t : Transaction) (s : State) → Going s → Going (copies n target t s)
unfolding copies to_rel
copies_going zero target t s h = h
copies_going (suc n) target t s h = copies_going n target t _ h

delay_going : (l : List ℕ) (list : ℕ) (t : Transaction) (s : State) → Going s → Going (delay l list t s)
unfolding delay to_fel
delay_going [] list t s h = h
delay_going (x ∷ l) list t s h = h

waits_going : (put : Transaction → State → State) → ((t : Transaction) (s : State) → Going s → Going (put t s))
    → (t : Transaction) (s : State) → Going s → Going (must_wait put t s)
unfolding must_wait log
waits_going put k t s h = cond_cases Going t.returning _ _ (λ e. k t s h) (λ e. k _ _ h)

units_going : (m : BlockModel) (x : Share) (preempts : Bool) (t : Transaction) (s : State) → Going s → Going (take_units m x preempts t s)
unfolding take_units move_to enters log set_use to_ql
units_going m x preempts t s h =
    cond_cases Going (leb (share_units x) (free (server_at s.view (share_server x)))) _ _
    (λ e. check_going (share_server x)
    (set_use (share_server x) ((server_at s.view (share_server x)).in_use + share_units x) (share_holder x t.number) preempts
    (enters t s)) h) (λ e. waits_going (to_ql m.edition (share_server x)) (λ t s h. h) t s h)

effect_going : (m : BlockModel) (b : Block) (t : Transaction) (s : State) → Going s → Going (effect m b t s)
unfolding effect take_units move_to enters log set_use set_content to_wel to_wsl to_rel to_fel wake_first_wel wake_for wake_ql ends_one to_gatherers
    comes released interrupt resume
effect_going m (generate list p) t s h = arrival_going _ list p _ (enters t s) h
effect_going m (advance list) t s h = delay_going _ list t (enters t s) h
effect_going m (terminate a) t s h = cond_cases Not1 (leb s.counter a) 2 0 (λ e. far) (λ e. none_of)
effect_going m (takes x) t s h = units_going m x false t s h
effect_going m (frees x) t s h = check_going (share_server x) (wake_for m x (free_units (share_server x) (share_units x) (enters t s))) h
effect_going m (wait_server code v c) t s h =
    wait_server-cases Going m code v c t s (λ e. waits_going (to_wel m.edition v code) (λ t s h. h) t s h) (λ e. h) (λ e. h)
effect_going m (wait_terms a r b) t s h = wait_terms-cases Going m a r b t s (λ e. waits_going to_wsl (λ t s h. h) t s h) (λ e. h)
effect_going m (moves c target) t s h = h
effect_going m (assign k a) t s h = h
effect_going m (priority p) t s h = h
effect_going m (split n target) t s h = copies_going n target t (enters t s) h
effect_going m (counts c q) t s h = h
effect_going m (assemble n) t s h = assemble-cases Going m n t s (λ e. h) (λ g l e z. h) (λ g l e z. h)
effect_going m (preempt f) t s h =
    preempt-cases Going m f t s (λ e. units_going m (facility f) true t s h)
    (λ x l e. check_going f (set_holder f t.number true (interrupt x t f (enters t s))) h)
effect_going m (give_back f) t s h =
    give_back-cases Going m f t s (λ e. check_going f (wake_for m (facility f) (free_units f 1 (enters t s))) h)
    (λ i l e. check_going f (resume i f (set_holder f i.who.number false (enters t s))) h)

-- ---- Turns

first_going : (l : List Transaction) (s : State) → Going s → Going (take_first l s)
unfolding take_first
first_going [] s h = h
first_going (t ∷ l) s h = h

events_going : (l : List Event) (s : State) → Going s → Going (next_events l s)
unfolding next_events
events_going [] s h = h
events_going (e ∷ l) s h = λ q. h (sym (move_clock-unmoved e.time s).end ∙ q)

ready_going : (l : List Transaction) (s : State) → Going s → Going (take_ready l s)
unfolding take_ready
ready_going [] s h = first_going _ _ (events_going s.fel s h)
ready_going (t ∷ l) s h = first_going (t ∷ l) s h

taking_going : (o : Option Transaction) (s : State) → Going s → Going (taking o s)
unfolding taking
taking_going none s h = ready_going s.rel s h
taking_going (some t) s h = h

answer_going : (n : ℕ) → Not1 n → (m : BlockModel) (b : Block) (t : Transaction) (s : State) → Going s → Going (answer n m b t s)
unfolding answer
answer_going zero q m b t s h = effect_going m b t (set_moving none s) h
answer_going (suc n) q m b t s h = q

execute_going : (o : Option Transaction) (m : BlockModel) (s : State) → Going s → Going (execute o m s)
unfolding execute
execute_going none m s h = h
execute_going (some t) m s h = answer_going _ (asks m (block_at m t.next) t s) m _ t s h

-- so the end 1 is set only where nobody was left before a turn
pub turn_going : (m : BlockModel) (s : State) → s.end ≡ 0 → (turn m s).end ≡ 1 → ⊥
unfolding turn wake_wsl
turn_going m s e =
    let r : State = set_turns (suc s.turns) (taking s.moving s) in
    let h : Going r = taking_going s.moving s (λ q. omega arith) in
    let x : Going (execute r.moving m r) = execute_going r.moving m r h in
    ws_scheme-cases Going m (execute r.moving m r) (λ q. x) (λ q. x)

-- ---- A run that ends dry

module _ (m : BlockModel) (budget room : ℕ) where
  -- nobody is left, or the next turn is taken and ends nothing
  pub data Dries (s : State) : ℕ → Type 0 where
    dry : {k : ℕ} → nobody_left s ≡ true → run_from (suc k) m budget room s ≡ set_end 1 s → Dries s (suc k)
    turns : {k : ℕ} → nobody_left s ≡ false → (turn m s).end ≡ 0 → run_from (suc k) m budget room s ≡ run_from k m budget room (turn m s)
        → Dries s (suc k)

  -- a run from a state whose end is not 1 comes to 1 only if the state has no end
  no_end : (k : ℕ) (x : State) → Not1 x.end → (run_from k m budget room x).end ≡ 1 → x.end ≡ 0
  unfolding run_from
  no_end zero x h z = absurd (h z)
  no_end (suc k) x h z = go (eqb x.end 0) refl
    where
      stops : (x.end ≡ 0 → ⊥) → end_before_lem budget room x ≡ x.end
      stops n = found (before budget room x)
        where
          found : {e : ℕ} → Before budget room x e → e ≡ x.end
          found (taken t) = absurd (n t.no_end)
          found (own o) = refl
          found (closing c) = absurd (n c.no_end)

      go : (b : Bool) → eqb x.end 0 ≡ b → x.end ≡ 0
      go true e = eqb-true _ _ e
      go false e =
          let n : (x.end ≡ 0 → ⊥) = eqb-false _ _ e in
          absurd (h (sym (stops n) ∙ sym (ap (λ (r : State). r.end) (run-off m budget room k x (λ q. n (sym (stops n) ∙ q)))) ∙ z))

  -- a run that ends dry comes to it turn by turn, and none of these turns sets an end
  pub dries : (k : ℕ) (s : State) → s.end ≡ 0 → (run_from k m budget room s).end ≡ 1 → Dries s k
  unfolding run_from
  dries zero s e z = absurd (omega arith)
  dries (suc k) s e z = go (before budget room s) refl
    where
      go : {n : ℕ} → Before budget room s n → end_before_lem budget room s ≡ n → Dries s (suc k)
      go (taken t) q =
          let on = run_on m budget room k s q in
          turns t.somebody (no_end k (turn m s) (turn_going m s e) (ap (λ (r : State). r.end) (sym on) ∙ z)) on
      go (own o) q = absurd (o e)
      go (closing {e = n} c) q =
          let off : run_from (suc k) m budget room s ≡ set_end (suc n) s =
          run-off m budget room k s (λ d. nonzero (sym q ∙ d)) ∙ ap (λ (i : ℕ). set_end i s) q in
          let one : suc n ≡ 1 = ap (λ (r : State). r.end) (sym off) ∙ z in
          dry (c.dry one) (off ∙ ap (λ (i : ℕ). set_end i s) one)
        where
          nonzero : suc n ≡ 0 → ⊥
          nonzero d = omega arith
