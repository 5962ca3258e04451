-- The number of an end is none that stands for going on.
use Rattle.machine.specs.All.{ℕ, ◌≡◌, ◌≢◌, refl, sym, ap, ◌∙◌, true, false, true≢false, not, not-false, eqb, eq-eqb, eqb-true}
use Rattle.constants.specs.{Numbers.end_number, declared.ends.End.End}
use Rattle.constants.specs.declared.ends.End.TheVariants.{Dry, Counted, Budget, TraceFull, NoPlace, TooLate, NoTime, NotInUse, NoContent, WornOut, NotHolder, Holding}

pub end_eqb : (e : End) → eqb (end_number e) 0 ≡ false
end_eqb Dry = refl
end_eqb Counted = refl
end_eqb Budget = refl
end_eqb TraceFull = refl
end_eqb NoPlace = refl
end_eqb TooLate = refl
end_eqb NoTime = refl
end_eqb NotInUse = refl
end_eqb NoContent = refl
end_eqb WornOut = refl
end_eqb NotHolder = refl
end_eqb Holding = refl

-- A run has ended where its number is not 0.
pub ended : (n : ℕ) → not (eqb n 0) ≡ true → n ≢ 0
ended n e q = true≢false (sym e ∙ ap not (eq-eqb n 0 q))

pub goes-on : (n : ℕ) → not (eqb n 0) ≡ false → n ≡ 0
goes-on n e = eqb-true n 0 (not-false (eqb n 0) e)
