-- Copies, one after the other.
use Rattle.machine.specs.All.{ℕ, suc, ◌+◌, ◌-◌, ◌<◌, ◌≡◌, ap, List, arith, ltb}
use Rattle.rows_laws.specs.All.{free, first}
use Rattle.state.specs.declared.scalars.Scalars.{Scalars}
use Rattle.moves.specs.Motion.{Moved, moved, go_to, go_on_lem}
use Rattle.flow_laws.specs.{to_ready, copy_to, copy_one, copies_of}
use mathlib.Core.Path.{refl, sym, ◌∙◌}
use mathlib.Core.Bool.{Bool, true, false, cond}
use Rattle.rows_laws.specs.Lists.{take_first}

module _ (w : List ℕ) (x : Scalars) (target : ℕ) where
  pub copies-begin : (n : ℕ) → copies_of (n - 0) w x target ≡ copies_of n w x target
  copies-begin n = ap (λ (k : ℕ). copies_of k w x target) (omega arith)

  pub copies-end : (n : ℕ) → n ≡ 0 → copies_of n w x target ≡ moved x w
  unfolding copies_of
  copies-end n e = rw e

  copies-next : (n m : ℕ) → n ≡ suc m → copies_of n w x target ≡ copies_of m (copy_one w x target).work (copy_one w x target).scalars target
  unfolding copies_of
  copies-next n m e = rw e

  -- the same transaction moves
  copy-moving : (copy_one w x target).scalars.moving ≡ x.moving
  unfolding copy_one copy_to to_ready moved
  copy-moving = go (ltb (first w free) 1024)
    where
      go : (b : Bool) → (cond b (copy_to (take_first w free) x (first w free) target) (moved x (take_first w free))).scalars.moving ≡ x.moving
      go true = refl
      go false = refl

  -- one copy more, with scalars and rows apart
  module _ (r : Scalars) (l : List ℕ) (e : moved r l ≡ copy_one w x target) where
    -- one copy more: the rest of the copies from here is all of them
    pub copies-again : (n i : ℕ) → i < n → copies_of (n - (i + 1)) l r target ≡ copies_of (n - i) w x target
    unfolding moved
    copies-again n i h =
        ap (λ (m : Moved). copies_of (n - (i + 1)) m.work m.scalars target) e ∙ sym (copies-next (n - i) (n - (i + 1)) (omega arith))

    pub copy-moved : r.moving ≡ x.moving
    unfolding moved
    copy-moved = ap (λ (m : Moved). m.scalars.moving) e ∙ copy-moving

pub go-on-moved : (w : List ℕ) (x r : Scalars) (l : List ℕ) → moved r l ≡ go_on_lem w x → r.moving ≡ x.moving
unfolding go_on_lem go_to moved
go-on-moved w x r l e = ap (λ (m : Moved). m.scalars.moving) e
