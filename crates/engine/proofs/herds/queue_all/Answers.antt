-- `queue_all` meets its contract: no turn, or those that `queued` speaks of.
use Rattle.machine.specs.All.{◌≤◌, sym, ◌∙◌, arith}
use Rattle.state.proofs.Ends.{goes-on}
use Rattle.engine_laws.proofs.Herding.{queued, queued-still, queued-none, fits-left}
use Rattle.engine.proofs.herds.queue_all.Goals as goal

pub returns-then-ended : goal.returns-then-ended
returns-then-ended c =
    let h = queued-none c.args.tables.now c.args.budget c.args.room c.args.block c.args.x.now c.args.left c.args.work.now c.args.tally.now in
    record { where_enter = h.0; least = h.1.0; most = h.1.1 }

pub returns-then-not-crowded : goal.returns-then-not-crowded
returns-then-not-crowded c =
    let h = queued-none c.args.tables.now c.args.budget c.args.room c.args.block c.args.x.now c.args.left c.args.work.now c.args.tally.now in
    record { where_enter = h.0; least = h.1.0; most = h.1.1 }

pub returns-then-n-eq0 : goal.returns-then-n-eq0
returns-then-n-eq0 c =
    let h =
    queued-still c.args.tables.now c.args.budget c.args.room c.args.block c.args.x.now c.args.left c.args.work.now c.args.tally.now c.line_all-n.new.work c.line_all-n.result c.if-n-eq0.true
    c.line_all-n.ensures.lines in
    record { where_enter = h.0; least = h.1.0; most = h.1.1 }

pub overflow_add-result : goal.overflow_add-result
overflow_add-result c =
    let fits = fits-left _ _ _ _ _ (omega (arith, c.if-n-eq0.false)) c.line_all-n.ensures.few
    c.turns_left-most.ensures in
    omega (arith, fits.limit)

pub returns : goal.returns
returns c =
    let some : 1 ≤ c.line_all-n.result = omega (arith, c.if-n-eq0.false) in
    let h =
    queued c.args.tables.now c.args.budget c.args.room c.args.block c.args.x.now c.args.left c.args.work.now c.args.tally.now c.line_all-n.new.work c.lengthen.new.tally c.line_all-n.result c.turns_left-most.result
    (sym c.end_before.ensures ∙ goes-on _ (sym c.ended.ensures ∙ c.if-ended.false)) (sym c.crowded.ensures ∙ c.if-not-crowded.false) some
    c.line_all-n.ensures.few c.turns_left-most.ensures c.line_all-n.ensures.lines c.lengthen.ensures in
    record { where_enter = h.0; least = h.1.0; most = h.1.1 }
