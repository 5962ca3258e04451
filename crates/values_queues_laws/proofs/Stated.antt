-- Scalars stay stated in the blocks with terms, in GOTO and at the queues.
use Rattle.std.specs.Prelude.{◌+◌, ◌-◌}
use Rattle.machine.specs.All.{ℕ, min, refl, List, eqb, get_or}
use Rattle.layout.specs.All.{most64}
use Rattle.rows_laws.specs.All.{wsl}
use Rattle.state.specs.{declared.scalars.Scalars.Scalars, Notes.Stated, All.rows_of}
use Rattle.state.proofs.Stated.{if-rows}
use Rattle.moves.specs.Motion.{in_order_lem, go_to, go_on_lem, wait_on, stopped}
use Rattle.moves.proofs.Stated.{if-moved, go-to-stated, go-on-stated, wait-on-stated, stopped-stated}
use Rattle.values_queues_laws.specs.Comparison.{holds_at, branch_rows, assign_rows}
use Rattle.values_queues_laws.specs.{Jumps.goto_rows, Waits.held_at, Waits.wait_terms_rows}
use Rattle.values_queues_laws.specs.Queues.{queue_of, content, change, arrive_rows, depart_rows}

module _ {x : Scalars} (h : Stated x) (tables w : List ℕ) (at : ℕ) where
  -- GOTO
  pub goto-stated : Stated (goto_rows tables w x at).scalars
  unfolding goto_rows
  goto-stated = go-to-stated h w (get_or tables (at + 1) 0)

  module _ (tally : List ℕ) where
    module _ (values : ℕ) where
      -- IF
      pub branch-stated : Stated (branch_rows tables values w tally x at).scalars
      unfolding branch_rows
      branch-stated =
          if-moved (holds_at tables values w tally x.clock x.moving at) (go_to w x (get_or tables (at + 6) 0)) (go_on_lem w x)
          (go-to-stated h w (get_or tables (at + 6) 0)) (go-on-stated h w)

      -- LET
      pub assign-stated : Stated (assign_rows tables values w tally x at).scalars
      unfolding assign_rows
      assign-stated = go-on-stated h _

      -- WAITIF on a comparison
      pub wait-terms-stated : Stated (wait_terms_rows tables values w tally x at).scalars
      unfolding wait_terms_rows
      wait-terms-stated =
          if-moved (held_at tables values w tally x.clock x.moving at) (wait_on w x wsl in_order_lem) (go_on_lem w x)
          (wait-on-stated h w wsl in_order_lem) (go-on-stated h w)

    change-stated : (q n : ℕ) → Stated (change w tally x q n).scalars
    unfolding change rows_of
    change-stated q n = go-on-stated h w

    abbrev q : ℕ
    q = queue_of tables at

    -- ARRIVE
    pub arrive-stated : Stated (arrive_rows tables w tally x at).scalars
    unfolding arrive_rows
    arrive-stated = change-stated q (min (content tally q + 1) most64)

    -- DEPART
    pub depart-stated : Stated (depart_rows tables w tally x at).scalars
    unfolding depart_rows rows_of
    depart-stated =
        if-rows (eqb (content tally q) 0) (rows_of (stopped x 25) w tally) (change w tally x q (content tally q - 1))
        (stopped-stated h 25 refl) (change-stated q (content tally q - 1))
