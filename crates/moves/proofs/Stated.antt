-- Scalars stay stated where the moving one goes on or comes to wait, and where a question stops the turn.
use Rattle.std.specs.Prelude.{◌%◌, ◌≤◌}
use Rattle.machine.specs.All.{ℕ, Bool, cond, List, arith, eqb}
use Rattle.machine.proofs.Basic.Bools.{cond_cases}
use Rattle.rows_laws.specs.All.{standing_field, read}
use Rattle.state.specs.{declared.scalars.Scalars.Scalars, Notes.NoneOrEnd, Notes.Stated}
use Rattle.state.proofs.Stated.{if-stated}
use Rattle.moves.specs.Motion.{Moved, moved, with_outcome, go_to, go_on_lem, go_back, put_back, begin_wait, wait_on, stopped}

-- the scalars of what is chosen are stated, if both are
pub if-moved : (b : Bool) (m n : Moved) → Stated m.scalars → Stated n.scalars → Stated (cond b m n).scalars
if-moved b m n h g = cond_cases (λ (q : Moved). Stated q.scalars) b m n (λ e. h) (λ e. g)

module _ {x : Scalars} (h : Stated x) where
  -- it entered (0), began to wait (1) or came back to wait (2)
  pub outcome-stated : (outcome : ℕ) → outcome ≤ 2 → Stated (with_outcome x outcome)
  unfolding with_outcome
  outcome-stated outcome small =
      if-stated (eqb outcome 0) _ _ (record { end = h.end; note = small })
      (if-stated (eqb outcome 1) _ _ (record { end = h.end; note = small }) (record { end = h.end; note = small }))

  -- a question stops the turn, with an end or none
  pub stopped-stated : (n : ℕ) → NoneOrEnd n → Stated (stopped x n)
  unfolding stopped
  stopped-stated n e = record { end = e; note = omega arith }

  module _ (w : List ℕ) where
    -- it goes to a block
    pub go-to-stated : (block : ℕ) → Stated (go_to w x block).scalars
    unfolding go_to moved
    go-to-stated block = record { end = h.end; note = omega arith }

    -- to the next one
    pub go-on-stated : Stated (go_on_lem w x).scalars
    unfolding go_on_lem
    go-on-stated = go-to-stated _

    -- back by so many
    pub go-back-stated : (blocks : ℕ) → Stated (go_back w x blocks).scalars
    unfolding go_back moved
    go-back-stated blocks = record { end = h.end; note = omega arith }

    module _ (p edition : ℕ) where
      put-back-stated : Stated (put_back w x p edition).scalars
      unfolding put_back moved
      put-back-stated = record { end = h.end; note = omega arith }

      -- it begins to wait
      pub begin-wait-stated : Stated (begin_wait w x p edition).scalars
      unfolding begin_wait moved
      begin-wait-stated = record { end = h.end; note = omega arith }

      -- it must wait
      pub wait-on-stated : Stated (wait_on w x p edition).scalars
      unfolding wait_on
      wait-on-stated =
          if-moved (eqb (read w standing_field x.moving % 2) 1) (put_back w x p edition) (begin_wait w x p edition) put-back-stated
          begin-wait-stated
