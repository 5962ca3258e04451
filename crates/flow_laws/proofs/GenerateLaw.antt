-- 1 GENERATE: the row machine does what the machine does.
use Rattle.machine.specs.All.{ℕ, suc, ◌+◌, ◌-◌, ◌≤◌, ◌≡◌, refl, ap, ◌∙◌, false, cond, List, [], ◌∷◌, none, arith, ne_eqb, eqb, length, get_or, Transaction, generate, BlockModel, State, with_next, with_returning, set_moving, ask_generate, question, max_clock}
use Rattle.machine.specs.Moves as Moves
use Rattle.machine.proofs.Decoding.Proper.{Names}
use Rattle.layout.specs.All.{block_forms}
use Rattle.state.specs.declared.scalars.Scalars.{Scalars}
use Rattle.state.specs.All.{bare, bare_answer, rows_of, note_of, Done}
use Rattle.state.proofs.StandsLaws.{stands-moving}
use Rattle.moves.proofs.Before.{place_of, bare_block, Before}
use Rattle.moves.specs.Motion.{moved, go_to, stopped}
use Rattle.moves.proofs.BeforeLaws.{next_low, serial-low, few-lists, proper-block, operand, asked}
use Rattle.moves.proofs.MotionLaws.{go-to-listing, go-to-counting, next-read, go-on-is, go-on-done}
use Rattle.flow_laws.specs.declared.samples.Sample.{Sample}
use Rattle.flow_laws.specs.{next_sample, ask_arrival, arrives, arrive_on, generate_with, generate_next, generate_rows}
use Rattle.flow_laws.proofs.{New.Roomy, Arrival.sampled, Arrival.arrives-stands, Arrival.arrives-note, Asked.time-most, Asked.arrival-asked, Asked.arrival_yes}
use mathlib.Core.Option.{some}
use Rattle.state.specs.Stands.{Stands}

module _ {m : BlockModel} {tape : List (List ℕ)} {tape_bytes tables lists w tally : List ℕ} {x : Scalars} {t : Transaction} {s : State}
    {list p : ℕ} (h : Before m tape tape_bytes tables lists w tally x t s (generate list p)) where
  list-is : get_or tables (place_of t + 1) 0 ≡ list - 1
  unfolding block_forms
  list-is = operand h 1 (omega arith)

  priority-is : get_or tables (place_of t + 2) 0 ≡ p
  unfolding block_forms
  priority-is = operand h 2 (omega arith)

  named : Names m.lists list × (p ≤ 127)
  named = proper-block h

  there : list ≤ length s.samples
  there = omega (arith, named.0.1, h.sane.shape.sample-lists)

  left-cell : get_or tally (944 + (list - 1)) 0 ≡ length (Moves.times_left s list)
  left-cell = h.tallying.samples.left (list - 1) (omega (arith, named.0.0, there, few-lists h))

  abbrev s₀ : State
  s₀ = set_moving none s

  -- ---- A spent list

  -- ---- A list with a time

  module _ (time : ℕ) (left : List ℕ) (e : Moves.times_left s list ≡ time ∷ left) where
    abbrev sample : Sample
    sample = next_sample tape_bytes tally (list - 1)

    abbrev q : ℕ
    q = ask_generate m (time ∷ left) s

    ask-is : ask_arrival x sample.time ≡ q
    ask-is =
        ap (ask_arrival x) (sampled s h.tallying list named.0.0 there (few-lists h) e)
        ∙ arrival-asked h time left (omega (arith, time-most h list e))

    unspent : generate_rows tables tape_bytes w tally x (place_of t)
        ≡ cond (eqb q 0) (arrive_on w tally x sample (list - 1) p) (rows_of (stopped x q) w tally)
    unfolding generate_rows generate_next generate_with
    unspent =
        let n : eqb (get_or tally (944 + (list - 1)) 0) 0 ≡ false =
        ne_eqb (get_or tally (944 + (list - 1)) 0) 0 (λ z. omega (arith, left-cell, ap length e)) in
        rw (list-is, priority-is, n, ask-is)

    abbrev t' : Transaction
    t' = with_returning false (with_next (suc t.next) t)

    abbrev w' : List ℕ
    w' = (go_to w x (suc t.next)).work

    abbrev x' : Scalars
    x' = (go_to w x (suc t.next)).scalars

    on-is : arrive_on w tally x sample (list - 1) p ≡ arrives w' tally x' sample (list - 1) p t.next
    unfolding arrive_on
    on-is = rw (next-read h.listing, go-on-is x h.listing (next_low h))

    module _ (yes : q ≡ 0) where
      says : (s.made - s.ended + 1 ≤ 1024) × (s.view.clock + time ≤ max_clock)
      says = arrival_yes h time left yes

      roomy : Roomy s₀
      roomy =
          record {
            room = omega (arith, says.0);
            order = h.sane.ended;
            serials = serial-low h;
            numbers = omega (arith, h.sane.serials, h.sane.made);
          }

      new-stands : Stands tape_bytes (arrives w' tally x' sample (list - 1) p t.next) (some t')
          (Moves.arrival (time ∷ left) list p t.next s₀)
      new-stands =
          arrives-stands s₀ h.tallying list named.0.0 there (few-lists h) e x' (go-to-listing x h.listing (suc t.next))
          (go-to-counting w x (suc t.next) s₀ h.counting) roomy h.sane.timely.serials p t.next named.1 says.1

      new-note : (arrives w' tally x' sample (list - 1) p t.next).scalars.note ≡ 0
      new-note =
          arrives-note s₀ h.tallying list named.0.0 there (few-lists h) e x' (go-to-listing x h.listing _)
          (go-to-counting w x _ s₀ h.counting) roomy h.sane.timely.serials p _ named.1 says.1
          ∙ (unfold go_to moved in refl)

      new-done : Done tape_bytes (arrive_on w tally x sample (list - 1) p) (bare m (generate list p) t s₀)
      unfolding bare Moves.move_to note_of
      new-done = rw (on-is, e) (record { stands = stands-moving tape_bytes _ (some t') (some t') _ new-stands; note = ap note_of new-note })

    unspent-done : Done tape_bytes (generate_rows tables tape_bytes w tally x (place_of t)) (bare_answer q m (generate list p) t s)
    unspent-done = rw unspent (asked h q (arrive_on w tally x sample (list - 1) p) new-done)

  spent-done : Moves.times_left s list ≡ []
      → Done tape_bytes (generate_rows tables tape_bytes w tally x (place_of t)) (bare m (generate list p) t s₀)
  unfolding generate_rows bare Moves.arrival
  spent-done e = rw (list-is, left-cell, e) (go-on-done x s₀ h.listing h.tallying h.counting (next_low h))

  pub generate-done : Done tape_bytes (generate_rows tables tape_bytes w tally x (place_of t)) (bare_block m (generate list p) t s)
  unfolding question ask_generate bare_answer
  generate-done = go (Moves.times_left s list) refl
    where
      go : (l : List ℕ) → Moves.times_left s list ≡ l
          → Done tape_bytes (generate_rows tables tape_bytes w tally x (place_of t)) (bare_answer (ask_generate m l s) m (generate list p) t s)
      go [] e = spent-done e
      go (time ∷ left) e = unspent-done time left e
