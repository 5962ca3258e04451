-- What every outcome keeps to, for any bytes: the refusal is a number from 0 to 10, the end is a stated one exactly where there is
-- no refusal, and the turns stay within the budget and the machine's own limit.
use Rattle.machine.specs.All.{ℕ, ◌≡◌, refl, List, arith, Rules, Validation, accept, reject, validate, accepted_run, refused_run, outcome_of, outcome, Keeping}
use Rattle.machine.proofs.{Runs.Bounds.bounded, Decoding.ProperFrom.refusal-from}

pub outcome-keeps : (rules : Rules) (model tape : List ℕ) (budget work room report : ℕ)
    → Keeping budget (outcome rules model tape budget work room report)
unfolding outcome outcome_of accepted_run refused_run
outcome-keeps rules model tape budget work room report = go (validate rules model tape work report) refl
  where
    go : (v : Validation) → validate rules model tape work report ≡ v → Keeping budget (outcome_of budget room v)
    go (accept m t) e =
        let b = bounded m budget room t in
        record {
          refusals = omega arith;
          stated = λ z. b.stated;
          only_then = λ h. refl;
          within-budget = b.within-budget;
          within-limit = b.within-limit;
        }
    go (reject n) e =
        let r = refusal-from rules model tape work report e in
        record {
          refusals = r.1;
          stated = λ z. absurd (omega (arith, r.0));
          only_then = λ h. absurd h;
          within-budget = omega arith;
          within-limit = omega arith;
        }
