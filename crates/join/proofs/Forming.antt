-- The operands of a block by their forms, pure: the forms are the digits of `shape_of`.
use Rattle.machine.specs.All.{ℕ, zero, suc, ◌+◌, ◌*◌, ◌/◌, ◌%◌, ◌≤◌, ◌<◌, arith, ◌≡◌, refl, sym, ap, ◌∙◌, ne_eqb, List, [], ◌∷◌, ◌++◌, length, drop, get_or, add-zero}
use Rattle.constants.specs.{declared.kinds.Kind.Kind, Numbers.kind_number}
use Rattle.constants.specs.declared.kinds.Kind.TheVariants as K
use Rattle.join_laws.specs.declared.shift.Shift.{Shift}
use Rattle.join_laws.specs.Rows.{puts, shape_of, role_of, operand_at, operands_from}
use Rattle.join_laws.proofs.RowSteps.{puts-append}
use Rattle.join.specs.declared.rows.Form.{Form}
use Rattle.join.specs.declared.rows.Form.TheVariants.{Is, ByTag, ByCode}
use Rattle.join.specs.declared.moving.Role.TheVariants.{Plain, Parameter, Block, Queue, Server, Facility, Value, List as SampleList, Target}
use Rattle.join.specs.declared.moving.Role.{Role}
use Rattle.join.specs.Forms.{role_number, form_number, digits_of}
use Rattle.codec.specs.Writing.{Written}
use Rattle.std.proofs.lemmas.List.{drop_more, drop_all}

pub small-form : (f : Form) → (1 ≤ form_number f) × (form_number f < 32)
small-form (Is Plain) = (omega arith, omega arith)
small-form (Is Parameter) = (omega arith, omega arith)
small-form (Is Block) = (omega arith, omega arith)
small-form (Is Queue) = (omega arith, omega arith)
small-form (Is Server) = (omega arith, omega arith)
small-form (Is Facility) = (omega arith, omega arith)
small-form (Is Value) = (omega arith, omega arith)
small-form (Is SampleList) = (omega arith, omega arith)
small-form (Is Target) = (omega arith, omega arith)
small-form ByTag = (omega arith, omega arith)
small-form ByCode = (omega arith, omega arith)

module _ (tables : List ℕ) (by : Shift) where
  abbrev pub forms_from : (at : ℕ) → List Form → List ℕ
  forms_from at [] = []
  forms_from at (f ∷ l) = operand_at tables by at (form_number f) ++ forms_from (at + 1) l

  nothing_from : (n at : ℕ) → operands_from tables by n at 0 ≡ []
  unfolding operands_from operand_at
  nothing_from zero at = refl
  nothing_from (suc n) at = nothing_from n (suc at)

  pub forms-are : (n at : ℕ) (l : List Form) → length l ≤ n → operands_from tables by n at (digits_of l) ≡ forms_from at l
  unfolding operands_from
  forms-are n at [] h = nothing_from n at
  forms-are zero at (f ∷ l) h = absurd (omega arith)
  forms-are (suc n) at (f ∷ l) h =
      let s = small-form f in
      let low : (form_number f + 32 * digits_of l) % 32 ≡ form_number f = omega (arith, s.1) in
      let high : (form_number f + 32 * digits_of l) / 32 ≡ digits_of l = omega (arith, s.1) in
      let next : suc at ≡ at + 1 = omega arith in
      rw (low, high, next) (ap (λ (x : List ℕ). operand_at tables by at (form_number f) ++ x) (forms-are n (at + 1) l (omega arith)))

module _ (tables : List ℕ) (by : Shift) (at : ℕ) (forms : List Form) (w : Written) where
  -- the loop over the operands: before it,
  pub forms-start : puts (forms_from tables by (at + 0) forms) w ≡ puts (forms_from tables by at forms) w
  forms-start = ap (λ (p : ℕ). puts (forms_from tables by p forms) w) (add-zero at)

  -- one further,
  pub forms-step : (i : ℕ) (d : Form) (w₁ w₂ : Written) → i < length forms
      → puts (forms_from tables by (at + i) (drop i forms)) w₁ ≡ puts (forms_from tables by at forms) w
      → w₂ ≡ puts (operand_at tables by (at + i) (form_number (get_or forms i d))) w₁
      → puts (forms_from tables by (at + (i + 1)) (drop (i + 1) forms)) w₂ ≡ puts (forms_from tables by at forms) w
  forms-step i d w₁ w₂ h inv e =
      let more = drop_more forms i d h in
      let next : at + i + 1 ≡ at + (i + 1) = omega arith in
      let here = operand_at tables by (at + i) (form_number (get_or forms i d)) in
      ap (puts (forms_from tables by (at + (i + 1)) (drop (i + 1) forms))) e
      ∙ ap (λ (p : ℕ). puts (forms_from tables by p (drop (i + 1) forms)) (puts here w₁)) (sym next)
      ∙ sym (puts-append here (forms_from tables by (at + i + 1) (drop (i + 1) forms)) w₁)
      ∙ ap (λ (l : List Form). puts (forms_from tables by (at + i) l) w₁) (sym more)
      ∙ inv

  -- and behind it
  pub forms-done : (i : ℕ) (w₁ : Written) → length forms ≤ i → length forms ≤ 6
      → puts (forms_from tables by (at + i) (drop i forms)) w₁ ≡ puts (forms_from tables by at forms) w
      → w₁ ≡ puts (operands_from tables by 6 at (digits_of forms)) w
  forms-done i w₁ h most inv =
      sym (ap (λ (l : List Form). puts (forms_from tables by (at + i) l) w₁) (drop_all i forms h) ∙ none)
      ∙ inv ∙ ap (λ (l : List ℕ). puts l w) (sym (forms-are tables by 6 at forms most))
    where
      none : puts [] w₁ ≡ w₁
      none = unfold puts in refl

pub is-role : (r : Role) (before : ℕ) → role_of (role_number r + 1) before ≡ role_number r
unfolding role_of
is-role Plain before = refl
is-role Parameter before = refl
is-role Block before = refl
is-role Queue before = refl
is-role Server before = refl
is-role Facility before = refl
is-role Value before = refl
is-role SampleList before = refl
is-role Target before = refl

-- a number that is no kind has no line of its own
pub no-kind : (n : ℕ) → ((k : Kind) → kind_number k ≡ n → ⊥) → 9 ≡ shape_of n
unfolding shape_of
no-kind n h =
    rw (
      ne_eqb n 1 (λ e. h K.Generate (sym e)),
      ne_eqb n 2 (λ e. h K.Advance (sym e)),
      ne_eqb n 3 (λ e. h K.Terminate (sym e)),
      ne_eqb n 4 (λ e. h K.Seize (sym e)),
      ne_eqb n 5 (λ e. h K.Release (sym e)),
      ne_eqb n 6 (λ e. h K.Enter (sym e)),
      ne_eqb n 7 (λ e. h K.Leave (sym e)),
      ne_eqb n 8 (λ e. h K.WaitServer (sym e)),
      ne_eqb n 9 (λ e. h K.WaitTerms (sym e)),
      ne_eqb n 10 (λ e. h K.Branch (sym e)),
      ne_eqb n 11 (λ e. h K.Goto (sym e)),
      ne_eqb n 12 (λ e. h K.Assign (sym e)),
      ne_eqb n 13 (λ e. h K.Priority (sym e)),
      ne_eqb n 14 (λ e. h K.Split (sym e)),
      ne_eqb n 15 (λ e. h K.Arrive (sym e)),
      ne_eqb n 16 (λ e. h K.Depart (sym e)),
      ne_eqb n 17 (λ e. h K.JoinedWait (sym e)),
      ne_eqb n 18 (λ e. h K.Assemble (sym e)),
    )
    refl
