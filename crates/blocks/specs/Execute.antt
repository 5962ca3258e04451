-- The row machine: one block, by its kind.
use Rattle.machine.specs.All.{ℕ, cond, List, eqb, get_or}
use Rattle.state.specs.{declared.scalars.Scalars.Scalars, All.Rows, All.rows_of}
use Rattle.moves.specs.Motion.{with_tally}
use Rattle.flow_laws.specs.Kinds.{generate_rows, advance_rows, terminate_rows, priority_rows, split_rows}
use Rattle.flow_laws.specs.Gathering.{assemble_rows}
use Rattle.servers_laws.specs.{Taking.seize_rows, Taking.enter_rows, Freeing.release_rows, Freeing.leave_rows, WaitServer.wait_server_rows}
use Rattle.preempt_laws.specs.Preempting.{preempt_rows, give_back_rows}
use Rattle.values_queues_laws.specs.{Comparison.branch_rows, Comparison.assign_rows, Jumps.goto_rows, Queues.arrive_rows, Queues.depart_rows, Waits.wait_terms_rows}

module _ (tables : List ℕ) (values facilities : ℕ) (tape w tally : List ℕ) (x : Scalars) (at : ℕ) where
  -- kinds 9 to 20
  unfoldable pub later : ℕ → Rows
  later kind =
      cond (eqb kind 9) (with_tally (wait_terms_rows tables values w tally x at) tally)
      (cond (eqb kind 10) (with_tally (branch_rows tables values w tally x at) tally)
      (cond (eqb kind 11) (with_tally (goto_rows tables w x at) tally)
      (cond (eqb kind 12) (with_tally (assign_rows tables values w tally x at) tally)
      (cond (eqb kind 13) (with_tally (priority_rows tables w x at) tally)
      (cond (eqb kind 14) (with_tally (split_rows tables w x at) tally)
      (cond (eqb kind 15) (arrive_rows tables w tally x at)
      (cond (eqb kind 16) (depart_rows tables w tally x at)
      (cond (eqb kind 17) (with_tally (wait_server_rows tables w tally x at) tally)
      (cond (eqb kind 18) (with_tally (assemble_rows tables facilities w tally x at) tally)
      (cond (eqb kind 19) (preempt_rows tables w tally x at)
      (cond (eqb kind 20) (give_back_rows tables w tally x at) (rows_of x w tally))))))))))))

  unfoldable pub by_kind : ℕ → Rows
  by_kind kind =
      cond (eqb kind 1) (generate_rows tables tape w tally x at)
      (cond (eqb kind 2) (advance_rows tables tape w tally x at)
      (cond (eqb kind 3) (with_tally (terminate_rows tables facilities w tally x at) tally)
      (cond (eqb kind 4) (seize_rows tables w tally x at)
      (cond (eqb kind 5) (release_rows tables w tally x at)
      (cond (eqb kind 6) (enter_rows tables w tally x at)
      (cond (eqb kind 7) (leave_rows tables w tally x at)
      (cond (eqb kind 8) (with_tally (wait_server_rows tables w tally x at) tally) (later kind))))))))

  unfoldable pub execute : Rows
  execute = by_kind (get_or tables at 0)
