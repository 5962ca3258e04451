-- 13 PRIORITY: the row machine does what the machine does.
use Rattle.machine.specs.All.{ℕ, ◌+◌, ◌≡◌, refl, List, arith, get_or, Transaction, priority, BlockModel, State, to_rel, question}
use Rattle.layout.specs.All.{block_forms}
use Rattle.state.specs.{declared.scalars.Scalars.Scalars, All.bare, All.bare_answer, All.Done}
use Rattle.moves.proofs.Before.{place_of, bare_block, Before}
use Rattle.moves.specs.Motion.{with_tally}
use Rattle.moves.proofs.BeforeLaws.{next_low, serial-low, proper-block, operand}
use Rattle.flow_laws.specs.{priority_rows}
use Rattle.flow_laws.proofs.{New.follows-done, Sent.rank-follows}
use Prim.Native.Nat.{suc}
use mathlib.Core.Bool.{false}
use mathlib.Core.Option.{none}
use Rattle.machine.specs.Setters.{with_next, with_priority, with_returning, set_moving}
use Rattle.flow_laws.specs.Kinds.{rank_on}
use Rattle.flow_laws.proofs.New.{Follows}

module _ {m : BlockModel} {tape : List (List ℕ)} {tape_bytes tables lists w tally : List ℕ} {x : Scalars} {t : Transaction} {s : State}
    {p : ℕ} (h : Before m tape tape_bytes tables lists w tally x t s (priority p)) where
  operand-is : get_or tables (place_of t + 1) 0 ≡ p
  unfolding block_forms
  operand-is = operand h 1 (omega arith)

  ranked : Follows (rank_on w x p) 0 none (to_rel (with_priority p (with_returning false (with_next (suc t.next) t))) (set_moving none s))
  ranked = rank-follows x (set_moving none s) h.listing h.counting (next_low h) (serial-low h) p (proper-block h)

  pub priority-done : Done tape_bytes (with_tally (priority_rows tables w x (place_of t)) tally) (bare_block m (priority p) t s)
  unfolding priority_rows question bare_answer bare to_rel
  priority-done = rw operand-is (follows-done ranked refl h.tallying)
