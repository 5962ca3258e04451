-- The answers of the join in the numbers that cross the boundary.
use Rattle.machine.specs.All.{clash, ℕ, [], ◌∷◌, ◌≡◌, refl, ap, length}
use Rattle.std.proofs.Common.{Ok, Err}
use Rattle.constants.specs.{declared.refusals.Refusal.Refusal, Numbers.refusal_number}
use Rattle.join.specs.Contract.{Joined, Answers}
use Rattle.join_laws.specs.Joining.{Joining, joined, refused}
use Rattle.covrith.specs.{join_answer, join_lengths}

module _ (x : Joined) (j : Joining) (e : Answers x j) where
  pub joined-bytes : (m t : ℕ) → x ≡ Ok (m, t) → (0 ≡ join_answer j) × (m ∷ t ∷ [] ≡ join_lengths j)
  unfolding join_answer join_lengths
  joined-bytes m t case = go j (rw case at e)
    where
      go : (j : Joining) → Answers (Ok (m, t)) j → (0 ≡ join_answer j) × (m ∷ t ∷ [] ≡ join_lengths j)
      go (joined model tape) h =
          let both : (m, t) ≡ (length model, length tape) = cc in
          let one : m ≡ length model = ap (λ (p : ℕ × ℕ). p.0) both in
          let two : t ≡ length tape = ap (λ (p : ℕ × ℕ). p.1) both in
          (refl, cc)
      go (refused k) h = absurd h

  pub joined-nothing : (d : Refusal) → x ≡ Err d → (refusal_number d ≡ join_answer j) × (0 ∷ 0 ∷ [] ≡ join_lengths j)
  unfolding join_answer join_lengths
  joined-nothing d case = go j (rw case at e)
    where
      go : (j : Joining) → Answers (Err d) j → (refusal_number d ≡ join_answer j) × (0 ∷ 0 ∷ [] ≡ join_lengths j)
      go (joined model tape) h = clash (cc)
      go (refused k) h = (h, refl)
