-- What `run` promises, from what decoding tells and what the run over rows leaves.
use Rattle.machine.specs.All.{ℕ, ◌≤◌, ◌≡◌, List, length, in_force, validate}
use Rattle.constants.specs.declared.model.Model.{Model}
use Rattle.machine.proofs.Decoding.ProperFrom.{proper-from}
use Rattle.layout.specs.All.{header_of}
use Rattle.std.specs.Prelude.{Result, Ok, Err}
use Rattle.constants.specs.{declared.refusals.Refusal.Refusal, Numbers.refusal_number}
use Rattle.decode.specs.{Decodes.Decodes}
use Rattle.engine_laws.specs.{declared.outcome.Outcome.Outcome as Results, Contract.Contract}
use Rattle.engine_laws.specs.{refused_with, last_rows, Finishes}
use Rattle.decode.proofs.Told.{Told, decoded-refused, decoded-model}
use Rattle.engine_laws.proofs.{Outcomes.rooms, Outcomes.refused-runs, Following.run-accepted, Laws.started, Laws.turned}
use Rattle.evaluation.proofs.NestedFrom.{nested-from}

module _ (model tape : List ℕ) (budget : ℕ) (work trace report tables lists : List ℕ) (r : Result Model Refusal)
    (decodes : Decodes tape r tables lists (validate in_force model tape (length work) (length report))) where
  pub run-refused : (n : Refusal) (o : Results) → r ≡ Err n → o ≡ refused_with (refusal_number n)
      → Contract model tape budget work trace report o work trace report
  run-refused n o e f =
      rw f (refused-runs model tape budget work trace report (refusal_number n)
      (decoded-refused tape tables lists r (validate in_force model tape (length work) (length report)) n decodes e))

  module _ (h : Model) (e : r ≡ Ok h) where
    told : Told tape h tables lists (validate in_force model tape (length work) (length report))
    told = decoded-model tape tables lists r (validate in_force model tape (length work) (length report)) h decodes e

    -- an accepted pair has room for the rows
    pub work-room : 16384 ≤ length work
    work-room = (rooms model tape (length work) (length report) told.model told.times told.accepted).0

    -- what a run over rows asks
    pub fits : (h.facilities ≤ 32) × (h.blocks ≤ 256)
    fits =
        rw told.header
        (unfold header_of in (
          (proper-from in_force model tape (length work) (length report) told.accepted).facilities,
          (proper-from in_force model tape (length work) (length report) told.accepted).blocks.1,
        ))

    -- over the part of the work buffer that has room for the rows
    pub run-finished : (part : List ℕ) → 16384 ≤ length part → (o : Results) (work' trace' report' : List ℕ)
        → Finishes h tables (last_rows h tables lists tape budget part trace) report o trace' report'
        → Contract model tape budget work trace report o work' trace' report'
    run-finished part room o work' trace' report' f =
        let proper = proper-from in_force model tape _ _ told.accepted in
        let nested = nested-from model tape _ _ told.accepted in
        run-accepted model tape budget work part trace report _ _ told.accepted tables lists told.represents
        (started proper told.represents nested trace part room)
        (turned proper told.represents nested trace budget) o work' trace' report'
        (rw told.header at f)
