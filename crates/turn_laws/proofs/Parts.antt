-- The parts of a turn, each given by an equation, make the turn.
use Rattle.machine.specs.All.{ℕ, ◌≤◌, Bool, true, false, cond, ◌≡◌, refl, sym, ap, subst, List, eqb, ◌∙◌}
use Rattle.constants.specs.declared.model.Model.{Model}
use Rattle.rows_laws.specs.All.{head, wsl, first, wake_all}
use Rattle.rows_laws.proofs.Steps.{wake_all-stop}
use Rattle.state.specs.{declared.scalars.Scalars.Scalars, All.Rows, All.rows_of}
use Rattle.clock.specs.Taking.{take}
use Rattle.values_queues_laws.specs.Scheme.{leaves, ws_scheme}
use Rattle.turn_laws.specs.{Noted, noted, note_record, Traced, traced, with_note, act_moving, next_of, asks, scheme_if, with_scheme, after_taking, turn}

-- the block's rows and the note of its record
pub note-joined : (y : Scalars) (w tally : List ℕ) (r : Rows) (z : Scalars) (tally' trace trace' : List ℕ) (number block : ℕ)
    → rows_of y w tally ≡ r → noted z tally' trace' ≡ note_record tally trace y number block
    → traced (rows_of z w tally') trace' ≡ with_note r trace number block
unfolding with_note rows_of noted
note-joined y w tally r z tally' trace trace' number block e f =
    rw (← e) (ap (λ (n : Noted). traced (rows_of n.scalars w n.tally) n.trace) f)

-- the scheme, where they are asked, and nothing where they are not
pub scheme-not : (b : Bool) (tables : List ℕ) (blocks values : ℕ) (tally : List ℕ) (x : Scalars) (w : List ℕ) → b ≡ false
    → w ≡ scheme_if b tables blocks values tally x w
unfolding scheme_if
scheme-not b tables blocks values tally x w e = ap (λ (c : Bool). cond c (ws_scheme tables blocks values tally x w) w) (sym e)

-- the WS scheme where it is asked for
pub scheme_so : (b : Bool) (tables : List ℕ) (blocks values : ℕ) (tally : List ℕ) (x : Scalars) (w w' : List ℕ) → b ≡ true
    → w' ≡ ws_scheme tables blocks values tally x w → w' ≡ scheme_if b tables blocks values tally x w
unfolding scheme_if
scheme_so b tables blocks values tally x w w' e f = f ∙ ap (λ (c : Bool). cond c (ws_scheme tables blocks values tally x w) w) (sym e)

-- where nobody is on the WSL, asked or not
pub scheme-none : (b : Bool) (tables : List ℕ) (blocks values : ℕ) (tally : List ℕ) (x : Scalars) (w : List ℕ) → 1024 ≤ first w wsl
    → w ≡ scheme_if b tables blocks values tally x w
unfolding scheme_if ws_scheme
scheme-none b tables blocks values tally x w h = go b (eqb x.end 0)
  where
    go : (c e : Bool) → w ≡ cond c (cond e (wake_all (leaves tables blocks values tally x.clock) 1024 w wsl (head wsl)) w) w
    go true true = sym (wake_all-stop _ _ _ _ 1024 h)
    go true false = refl
    go false e = refl

-- behind the taking: the block, then the WS scheme if the block or the clock asks for it
pub after-turned : (tables : List ℕ) (blocks values facilities : ℕ) (tape trace : List ℕ) (before block : ℕ) (y : Scalars)
    (w₁ tally₁ : List ℕ) (z : Scalars) (w₂ tally₂ trace₂ w₃ : List ℕ)
    → block ≡ next_of w₁ y.moving → traced (rows_of z w₂ tally₂) trace₂ ≡ act_moving tables values facilities tape w₁ tally₁ trace y
    → w₃ ≡ scheme_if (asks tables before z.clock block) tables blocks values tally₂ z w₂
    → traced (rows_of z w₃ tally₂) trace₂ ≡ after_taking tables blocks values facilities tape trace before (rows_of y w₁ tally₁)
unfolding after_taking with_scheme rows_of traced
after-turned tables blocks values facilities tape trace before block y w₁ tally₁ z w₂ tally₂ trace₂ w₃ next acted schemed =
    subst (λ (a : Traced). traced (rows_of z w₃ tally₂) trace₂
    ≡ with_scheme (asks tables before a.rows.scalars.clock (next_of w₁ y.moving)) tables blocks values a) acted
    (rw next at (ap (λ (v : List ℕ). traced (rows_of z v tally₂) trace₂) schemed))

-- taking, and what comes behind it, are the turn
pub turned : (model : Model) (tables tape w tally trace : List ℕ) (x y : Scalars) (w₁ tally₁ : List ℕ) (a : Traced)
    → rows_of y w₁ tally₁ ≡ take w tally x
    → a ≡ after_taking tables model.blocks model.values model.facilities tape trace x.clock (rows_of y w₁ tally₁)
    → a ≡ turn model tables tape w tally trace x
unfolding turn
turned model tables tape w tally trace x y w₁ tally₁ a taken after =
    after ∙ ap (after_taking tables model.blocks model.values model.facilities tape trace x.clock) taken
