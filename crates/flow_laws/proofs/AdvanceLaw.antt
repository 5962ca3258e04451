-- 2 ADVANCE: the row machine does what the machine does.
use Rattle.machine.specs.All.{ℕ, suc, ◌+◌, ◌-◌, ◌≤◌, ◌≡◌, refl, ap, ◌∙◌, false, cond, List, [], ◌∷◌, none, arith, ne_eqb, eqb, leb, length, get_or, max_clock, Transaction, advance, BlockModel, State, with_next, with_returning, set_moving, unless, ask_advance, question, delay}
use Rattle.machine.specs.Moves as Moves
use Rattle.machine.proofs.Decoding.Proper.{Names}
use Rattle.layout.specs.All.{block_forms}
use Rattle.state.specs.declared.scalars.Scalars.{Scalars}
use Rattle.state.specs.All.{bare, bare_answer, rows_of, Done}
use Rattle.moves.proofs.Before.{place_of, bare_block, Before}
use Rattle.moves.specs.Motion.{with_tally, stopped}
use Rattle.moves.proofs.BeforeLaws.{next_low, serial-low, few-lists, proper-block, operand, stop-done, asked}
use Rattle.flow_laws.specs.declared.samples.Sample.{Sample}
use Rattle.flow_laws.specs.{next_sample, use_time, ask_time, send_on, delay_rows, advance_with, advance_next, advance_rows}
use Rattle.flow_laws.proofs.{New.follows-done, Arrival.sampled, Arrival.used-tallying, Arrival.move-time, Asked.time-most, Asked.time-asked, Asked.time_yes, Sent.send-follows}
use Rattle.flow_laws.proofs.New.{Follows}

module _ {m : BlockModel} {tape : List (List ℕ)} {tape_bytes tables lists w tally : List ℕ} {x : Scalars} {t : Transaction} {s : State}
    {list : ℕ} (h : Before m tape tape_bytes tables lists w tally x t s (advance list)) where
  list-is : get_or tables (place_of t + 1) 0 ≡ list - 1
  unfolding block_forms
  list-is = operand h 1 (omega arith)

  named : Names m.lists list
  named = proper-block h

  there : list ≤ length s.samples
  there = omega (arith, named.1, h.sane.shape.sample-lists)

  left-cell : get_or tally (944 + (list - 1)) 0 ≡ length (Moves.times_left s list)
  left-cell = h.tallying.samples.left (list - 1) (omega (arith, named.0, there, few-lists h))

  abbrev s₀ : State
  s₀ = set_moving none s

  -- ---- A spent list

  spent : Moves.times_left s list ≡ [] → advance_rows tables tape_bytes w tally x (place_of t) ≡ rows_of (stopped x 23) w tally
  unfolding advance_rows
  spent e = rw (list-is, left-cell ∙ ap length e)

  -- ---- A list with a time

  module _ (time : ℕ) (left : List ℕ) (e : Moves.times_left s list ≡ time ∷ left) where
    abbrev sample : Sample
    sample = next_sample tape_bytes tally (list - 1)

    abbrev q : ℕ
    q = unless (leb (s.view.clock + time) m.rules.max_clock) 22 0

    ask-is : ask_time x sample.time ≡ q
    ask-is =
        ap (ask_time x) (sampled s h.tallying list named.0 there (few-lists h) e)
        ∙ time-asked h time (omega (arith, time-most h list e))

    unspent : advance_rows tables tape_bytes w tally x (place_of t)
        ≡ cond (eqb q 0) (delay_rows w tally x sample (list - 1)) (rows_of (stopped x q) w tally)
    unfolding advance_rows advance_next advance_with
    unspent =
        let n : eqb (get_or tally (944 + (list - 1)) 0) 0 ≡ false =
        ne_eqb (get_or tally (944 + (list - 1)) 0) 0 (λ z. omega (arith, left-cell, ap length e)) in
        rw (list-is, n, ask-is)

    abbrev t' : Transaction
    t' = with_returning false (with_next (suc t.next) t)

    abbrev s₁ : State
    s₁ = Moves.use_time list s₀

    abbrev time' : ℕ
    time' = s.view.clock + time

    module _ (most : time' ≤ max_clock) where
      delay-is : delay_rows w tally x sample (list - 1) ≡ with_tally (send_on w x time') (use_time tally (list - 1) sample.next)
      unfolding delay_rows
      delay-is =
          ap (λ (n : ℕ). with_tally (send_on w x n) (use_time tally (list - 1) sample.next))
          (move-time s₀ h.tallying list named.0 there (few-lists h) e x h.counting most)

      sent : Follows (send_on w x time') 0 none (Moves.to_fel time' t' s₁)
      sent = send-follows x s₁ h.listing h.counting (next_low h) (serial-low h) time' h.sane.timely.serials

      delay-done : Done tape_bytes (delay_rows w tally x sample (list - 1)) (bare m (advance list) t s₀)
      unfolding bare delay Moves.to_fel
      delay-done = rw (delay-is, e) (follows-done sent refl (used-tallying s₀ h.tallying list named.0 there (few-lists h) e))

    unspent-done : Done tape_bytes (advance_rows tables tape_bytes w tally x (place_of t)) (bare_answer q m (advance list) t s)
    unspent-done = rw unspent (asked h q (delay_rows w tally x sample (list - 1)) (λ z. delay-done (time_yes h time z)))

  pub advance-done : Done tape_bytes (advance_rows tables tape_bytes w tally x (place_of t)) (bare_block m (advance list) t s)
  unfolding question ask_advance
  advance-done = go (Moves.times_left s list) refl
    where
      go : (l : List ℕ) → Moves.times_left s list ≡ l
          → Done tape_bytes (advance_rows tables tape_bytes w tally x (place_of t)) (bare_answer (ask_advance m l s) m (advance list) t s)
      go [] e = rw (spent e) (stop-done h 22)
      go (time ∷ left) e = unspent-done time left e
