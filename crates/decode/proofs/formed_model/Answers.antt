-- `formed_model` meets its contract: the model, and then the two questions asked of the whole.
use Rattle.machine.specs.All.{refl, sym, ◌∙◌}
use Rattle.decode.proofs.Models.{model-passed, formed-stop, few-blocks, formed_long, formed_misplaced, formed-target, formed_name, formed-broken, formed-model}
use Rattle.decode.proofs.formed_model.Goals as goal

pub returns-in_err-m : goal.returns-in_err-m
returns-in_err-m c = model-passed c.from_residual.ensures.1 (formed-stop _ c.in_err-m.ensures refl)

pub returns-then-p-s : goal.returns-then-p-s
returns-then-p-s c = formed_long _ c.in_ok-m.ensures refl c.if-p-s.true

pub well_placed-requires : goal.well_placed-requires
well_placed-requires c = few-blocks _ c.in_ok-m.ensures refl

pub returns-then-not-well_placed : goal.returns-then-not-well_placed
returns-then-not-well_placed c =
    formed_misplaced _ c.in_ok-m.ensures refl c.if-p-s.false (sym c.well_placed.ensures ∙ c.if-not-well_placed.true)

pub targets_move-requires : goal.targets_move-requires
targets_move-requires c = few-blocks _ c.in_ok-m.ensures refl

pub returns-then-not-targets_move : goal.returns-then-not-targets_move
returns-then-not-targets_move c =
    formed-target _ c.in_ok-m.ensures refl c.if-p-s.false
    (sym c.well_placed.ensures ∙ c.if-not-well_placed.false) (sym c.targets_move.ensures ∙ c.if-not-targets_move.true)

pub returns-then-count-p : goal.returns-then-count-p
returns-then-count-p c =
    formed_name _ c.in_ok-m.ensures refl c.if-p-s.false
    (sym c.well_placed.ensures ∙ c.if-not-well_placed.false)
    (sym c.targets_move.ensures ∙ c.if-not-targets_move.false) c.if-count-p.true

pub groups_whole-requires : goal.groups_whole-requires
groups_whole-requires c = few-blocks _ c.in_ok-m.ensures refl

pub returns-then-not-groups_whole : goal.returns-then-not-groups_whole
returns-then-not-groups_whole c =
    formed-broken _ c.in_ok-m.ensures refl c.if-p-s.false
    (sym c.well_placed.ensures ∙ c.if-not-well_placed.false)
    (sym c.targets_move.ensures ∙ c.if-not-targets_move.false) c.if-count-p.false
    (sym c.groups_whole.ensures ∙ c.if-not-groups_whole.true)

pub returns : goal.returns
returns c =
    formed-model _ c.in_ok-m.ensures refl c.if-p-s.false
    (sym c.well_placed.ensures ∙ c.if-not-well_placed.false)
    (sym c.targets_move.ensures ∙ c.if-not-targets_move.false) c.if-count-p.false
    (sym c.groups_whole.ensures ∙ c.if-not-groups_whole.false)
