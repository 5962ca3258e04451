-- The blocks of the start, one after the other.
use Rattle.machine.specs.All.{ℕ, suc, ◌+◌, ◌-◌, ◌<◌, ◌≡◌, ap, List, arith, add-one, sym, ◌∙◌}
use Rattle.state.specs.All.{Rows}
use Rattle.start.specs.{begin_block, begin_blocks}

module _ (tables tape : List ℕ) (r : Rows) where
  -- the loop over the blocks begins with all of them
  pub begin-first : (n : ℕ) → begin_blocks (n - 0) tables tape r 0 ≡ begin_blocks n tables tape r 0
  begin-first n = ap (λ (k : ℕ). begin_blocks k tables tape r 0) (omega arith)

  pub begin-end : (n b : ℕ) → n ≡ 0 → begin_blocks n tables tape r b ≡ r
  unfolding begin_blocks
  begin-end n b e = rw e

  step : (n k b : ℕ) → n ≡ suc k → begin_blocks n tables tape r b ≡ begin_blocks k tables tape (begin_block tables tape r b) (suc b)
  unfolding begin_blocks
  step n k b e = rw e

  -- one block, and the others behind it
  pub begin-again : (r' : Rows) (n b : ℕ) → r' ≡ begin_block tables tape r b → b < n
      → begin_blocks (n - (b + 1)) tables tape r' (b + 1) ≡ begin_blocks (n - b) tables tape r b
  begin-again r' n b e h =
      ap (λ (k : ℕ). begin_blocks (n - (b + 1)) tables tape r' k) (add-one b)
      ∙ ap (λ (x : Rows). begin_blocks (n - (b + 1)) tables tape x (suc b)) e
      ∙ sym (step (n - b) (n - (b + 1)) b (omega arith))
