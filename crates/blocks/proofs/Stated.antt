-- Scalars stay stated in each block, by its kind.
use Rattle.machine.specs.All.{ℕ, List, eqb, get_or}
use Rattle.state.specs.{declared.scalars.Scalars.Scalars, Notes.Stated, All.rows_of}
use Rattle.state.proofs.Stated.{if-rows}
use Rattle.flow_laws.proofs.Stated.{generate-stated, advance-stated, terminate-stated, priority-stated, split-stated, assemble-stated}
use Rattle.servers_laws.proofs.Stated.{seize-stated, enter-stated, release-stated, leave-stated, wait-server-stated}
use Rattle.preempt_laws.proofs.Stated.{preempt-stated, give-back-stated}
use Rattle.values_queues_laws.proofs.Stated.{goto-stated, branch-stated, assign-stated, wait-terms-stated, arrive-stated, depart-stated}
use Rattle.blocks.specs.Execute.{later, by_kind, execute}

module _ {x : Scalars} (h : Stated x) (tables : List ℕ) (values facilities : ℕ) (tape w tally : List ℕ) (at : ℕ) where
  later-stated : (kind : ℕ) → Stated (later tables values facilities tape w tally x at kind).scalars
  unfolding later rows_of
  later-stated kind =
      if-rows (eqb kind 9) _ _ (wait-terms-stated h tables w at tally values)
      (if-rows (eqb kind 10) _ _ (branch-stated h tables w at tally values)
      (if-rows (eqb kind 11) _ _ (goto-stated h tables w at)
      (if-rows (eqb kind 12) _ _ (assign-stated h tables w at tally values)
      (if-rows (eqb kind 13) _ _ (priority-stated h tables w at)
      (if-rows (eqb kind 14) _ _ (split-stated h tables w at)
      (if-rows (eqb kind 15) _ _ (arrive-stated h tables w at tally)
      (if-rows (eqb kind 16) _ _ (depart-stated h tables w at tally)
      (if-rows (eqb kind 17) _ _ (wait-server-stated h tables w tally at)
      (if-rows (eqb kind 18) _ _ (assemble-stated h tables facilities w tally at)
      (if-rows (eqb kind 19) _ _ (preempt-stated h tables w tally at)
      (if-rows (eqb kind 20) _ _ (give-back-stated h tables w tally at) h)))))))))))

  by-kind-stated : (kind : ℕ) → Stated (by_kind tables values facilities tape w tally x at kind).scalars
  unfolding by_kind rows_of
  by-kind-stated kind =
      if-rows (eqb kind 1) _ _ (generate-stated h tables tape w tally at)
      (if-rows (eqb kind 2) _ _ (advance-stated h tables tape w tally at)
      (if-rows (eqb kind 3) _ _ (terminate-stated h tables w at facilities tally)
      (if-rows (eqb kind 4) _ _ (seize-stated h w tally tables at)
      (if-rows (eqb kind 5) _ _ (release-stated h w tally tables at)
      (if-rows (eqb kind 6) _ _ (enter-stated h w tally tables at)
      (if-rows (eqb kind 7) _ _ (leave-stated h w tally tables at)
      (if-rows (eqb kind 8) _ _ (wait-server-stated h tables w tally at) (later-stated kind))))))))

  -- the block of the moving one
  pub execute-stated : Stated (execute tables values facilities tape w tally x at).scalars
  unfolding execute
  execute-stated = by-kind-stated (get_or tables at 0)
