-- `units_at` meets its contract, by cases on the kind.
use Rattle.std.proofs.Common.{inl, inr}
use Rattle.std.specs.Prelude.{◌⊎◌}
use Rattle.machine.specs.All.{ℕ, cond, eqb, ◌≡◌, ◌≢◌, refl, sym, ne_eqb}
use Rattle.constants.specs.{declared.kinds.Kind.Kind, Numbers.kind_number}
use Rattle.constants.specs.declared.kinds.Kind.TheVariants.{Generate, Advance, Terminate, Seize, Release, Enter, Leave, WaitServer, WaitTerms, Branch, Goto, Assign, Priority, Split, Arrive, Depart, JoinedWait, Assemble, Preempt, Return}
use Rattle.servers_laws.specs.Waking.{units_at}
use Rattle.servers.proofs.waking.units_at.Goals as goal

abbrev by_number : ℕ → ℕ → ℕ
by_number n units = cond (eqb n 4) 1 (cond (eqb n 6) units (cond (eqb n 19) 1 0))

one : (k : Kind) (units : ℕ) → (k ≡ Seize) ⊎ (k ≡ Preempt) → 1 ≡ by_number (kind_number k) units
one k units (inl e) = rw e
one k units (inr e) = rw e

other : (k : Kind) (units : ℕ) → k ≢ Seize → k ≢ Enter → k ≢ Preempt → 0 ≡ by_number (kind_number k) units
other Generate units a b c = refl
other Advance units a b c = refl
other Terminate units a b c = refl
other Seize units a b c = absurd (a refl)
other Release units a b c = refl
other Enter units a b c = absurd (b refl)
other Leave units a b c = refl
other WaitServer units a b c = refl
other WaitTerms units a b c = refl
other Branch units a b c = refl
other Goto units a b c = refl
other Assign units a b c = refl
other Priority units a b c = refl
other Split units a b c = refl
other Arrive units a b c = refl
other Depart units a b c = refl
other JoinedWait units a b c = refl
other Assemble units a b c = refl
other Preempt units a b c = absurd (c refl)
other Return units a b c = refl

pub returns-in_default : goal.returns-in_default
unfolding units_at
returns-in_default c =
    rw (
      ← c.number.ensures,
      ne_eqb _ 4 (λ e. c.in_default.ensures Seize (sym e)),
      ne_eqb _ 6 (λ e. c.in_default.ensures Enter (sym e)),
      ne_eqb _ 19 (λ e. c.in_default.ensures Preempt (sym e)),
    )

pub returns-in-Seize : goal.returns-in-Seize
unfolding units_at
returns-in-Seize c = rw (← c.number.ensures, ← c.in-Some.ensures) (one _ _ c.in-Seize.is)

pub returns-in-Enter : goal.returns-in-Enter
unfolding units_at
returns-in-Enter c = rw (← c.number.ensures, ← c.in-Some.ensures, c.in-Enter.is) c.number-in-Enter.ensures

pub returns-in_default-kind : goal.returns-in_default-kind
unfolding units_at
returns-in_default-kind c =
    rw (← c.number.ensures, ← c.in-Some.ensures)
    (other _ _ c.in_default-kind.not-Seize c.in_default-kind.not-Enter c.in_default-kind.not-Preempt)
