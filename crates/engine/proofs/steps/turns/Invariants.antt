-- `turns` meets its contract. The invariant of both loops: the rest of the run from here is the run from where the loop began, and the
-- buffers keep their lengths; of the inner one also that a turn was taken where it ends. The measures are the steps left. Assumes nothing.
use Rattle.machine.specs.All.{◌≤◌, ◌<◌, ◌≡◌, false, length}
use Rattle.state.specs.All.{rows_of}
use Rattle.turn_laws.specs.Turn.{traced}
use Rattle.engine_laws.specs.{Turns.turns_from}
use Rattle.engine.proofs.steps.turns.Given as goal

abbrev pub invariant-loop-plain : goal.invariant-loop-plain
invariant-loop-plain l =
    (turns_from l.model l.tables l.tape l.budget (length l.initial.trace) l.left (traced (rows_of l.y l.work l.tally) l.trace)
    ≡ turns_from l.model l.tables l.tape l.budget (length l.initial.trace) l.initial.left (traced (rows_of l.initial.y l.initial.work l.initial.tally) l.initial.trace))
    × (length l.work ≡ length l.initial.work) × (length l.trace ≡ length l.initial.trace) × (l.left ≤ l.initial.left) × (l.plain ≡ false → l.left < l.initial.left)

abbrev pub decreases-loop-plain : goal.decreases-loop-plain
decreases-loop-plain l = l.left

abbrev pub invariant-loop-left : goal.invariant-loop-left
invariant-loop-left l =
    (turns_from l.model l.tables l.tape l.budget (length l.initial.trace) l.left (traced (rows_of l.y l.work l.tally) l.trace)
    ≡ turns_from l.model l.tables l.tape l.budget (length l.initial.trace) l.initial.left (traced (rows_of l.initial.y l.initial.work l.initial.tally) l.initial.trace))
    × (length l.work ≡ length l.initial.work) × (length l.trace ≡ length l.initial.trace)

abbrev pub decreases-loop-left : goal.decreases-loop-left
decreases-loop-left l = l.left
