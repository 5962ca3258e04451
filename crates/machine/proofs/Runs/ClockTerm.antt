-- Below 2 to the 31 the clock term is the clock; so it is in every state of a run whose clock limit is below it, as document 01's.
use Rattle.machine.specs.All.{ℕ, ◌≤◌, ◌<◌, ◌%◌, ◌≡◌, ap, ◌∙◌, List, arith, lt-ltb, Rules, document01, View, signed, low32, wrap, clock_term, term, BlockModel, State, states, Each, ReadsClock, KeepsClockTerm, taking}
use lib.IntN.{ℤ, pos}
use Rattle.machine.proofs as our
use our.{Decoding.Proper.Proper, Basic.Each.each_map}
use our.Decoding.ProperFrom.{proper-from, rules-from}
use our.Runs.Clocks.{Timely, taking-timely, timely}

pub wrap_pos : (n : ℕ) → n < 2147483648 → wrap (pos n) ≡ pos n
unfolding wrap low32 signed
wrap_pos n h =
    let low : n % 4294967296 ≡ n = omega arith in
    ap signed low ∙ rw (lt-ltb n 2147483648 h)

-- the wrap of 32 bits does not show below 2 to the 31
pub clock-term : (w : View) (parameters lower : List ℤ) → w.clock < 2147483648 → term w parameters lower clock_term ≡ pos w.clock
unfolding term
clock-term w parameters lower h = wrap_pos w.clock h

module _ {m : BlockModel} {tape : List (List ℕ)} (proper : Proper m tape) (below : m.rules.max_time ≤ m.rules.max_clock)
    (small : m.rules.max_clock < 2147483648) where
  reads-clock : (s : State) → Timely m.rules.max_clock s → ReadsClock s
  reads-clock s h =
      record {
        now = λ parameters lower. clock-term s.view parameters lower (omega (arith, h.clock));
        next = λ parameters lower.
            clock-term (taking s.moving s).view parameters lower (omega (arith, (taking-timely s.moving s h).clock));
      }

  clock-terms : (budget room : ℕ) → Each ReadsClock (states m tape budget room)
  clock-terms budget room = each_map reads-clock (states m tape budget room) (timely m tape proper below budget room)

pub keeps-clock-term : (rules : Rules) → rules.max_time ≤ rules.max_clock → rules.max_clock < 2147483648 → KeepsClockTerm rules
keeps-clock-term rules below small model tape work report budget room m times e =
    let own : m.rules ≡ rules = rules-from rules model tape work report e in
    clock-terms (proper-from rules model tape work report e) (rw own below)
    (rw own small) budget room

pub older-clock-term : KeepsClockTerm document01
older-clock-term = keeps-clock-term document01 (omega arith) (omega arith)
