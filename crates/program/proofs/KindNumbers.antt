-- The kind of each number from 1 to 20.
use Rattle.machine.specs.All.{ℕ, zero, suc, ◌≤◌, ◌<◌, ◌-◌, ◌≡◌, refl, ◌∙◌, arith}
use Rattle.std.specs.Prelude.{Option, Some, None, IsSome}
use Rattle.constants.specs.{declared.kinds.Kind.Kind, Numbers.kind_number, Numbers.Names}
use Rattle.constants.specs.declared.kinds.Kind.TheVariants.{Generate, Advance, Terminate, Seize, Release, Enter, Leave, WaitServer, WaitTerms, Branch, Goto, Assign, Priority, Split, Arrive, Depart, JoinedWait, Assemble, Preempt, Return}

-- the kinds from 1 on, by how many are before
kind-after : (n : ℕ) → n < 20 → (k : Kind) × (kind_number k ≡ suc n)
kind-after zero h = (Generate, refl)
kind-after (suc zero) h = (Advance, refl)
kind-after (suc (suc zero)) h = (Terminate, refl)
kind-after (suc (suc (suc zero))) h = (Seize, refl)
kind-after (suc (suc (suc (suc zero)))) h = (Release, refl)
kind-after (suc (suc (suc (suc (suc zero))))) h = (Enter, refl)
kind-after (suc (suc (suc (suc (suc (suc zero)))))) h = (Leave, refl)
kind-after (suc (suc (suc (suc (suc (suc (suc zero))))))) h = (WaitServer, refl)
kind-after (suc (suc (suc (suc (suc (suc (suc (suc zero)))))))) h = (WaitTerms, refl)
kind-after (suc (suc (suc (suc (suc (suc (suc (suc (suc zero))))))))) h = (Branch, refl)
kind-after (suc (suc (suc (suc (suc (suc (suc (suc (suc (suc zero)))))))))) h = (Goto, refl)
kind-after (suc (suc (suc (suc (suc (suc (suc (suc (suc (suc (suc zero))))))))))) h = (Assign, refl)
kind-after (suc (suc (suc (suc (suc (suc (suc (suc (suc (suc (suc (suc zero)))))))))))) h = (Priority, refl)
kind-after (suc (suc (suc (suc (suc (suc (suc (suc (suc (suc (suc (suc (suc zero))))))))))))) h = (Split, refl)
kind-after (suc (suc (suc (suc (suc (suc (suc (suc (suc (suc (suc (suc (suc (suc zero)))))))))))))) h = (Arrive, refl)
kind-after (suc (suc (suc (suc (suc (suc (suc (suc (suc (suc (suc (suc (suc (suc (suc zero))))))))))))))) h = (Depart, refl)
kind-after (suc (suc (suc (suc (suc (suc (suc (suc (suc (suc (suc (suc (suc (suc (suc (suc zero)))))))))))))))) h = (JoinedWait, refl)
kind-after (suc (suc (suc (suc (suc (suc (suc (suc (suc (suc (suc (suc (suc (suc (suc (suc (suc zero))))))))))))))))) h = (Assemble, refl)
kind-after (suc (suc (suc (suc (suc (suc (suc (suc (suc (suc (suc (suc (suc (suc (suc (suc (suc (suc zero)))))))))))))))))) h = (Preempt, refl)
kind-after (suc (suc (suc (suc (suc (suc (suc (suc (suc (suc (suc (suc (suc (suc (suc (suc (suc (suc (suc zero))))))))))))))))))) h = (Return, refl)
kind-after (suc (suc (suc (suc (suc (suc (suc (suc (suc (suc (suc (suc (suc (suc (suc (suc (suc (suc (suc (suc n)))))))))))))))))))) h = absurd (omega arith)

-- it is found
pub kind_found : (n : ℕ) → 1 ≤ n → n ≤ 20 → (o : Option Kind) → Names n o → IsSome o
kind_found n l h None none =
    let k = kind-after (n - 1) (omega arith) in
    let same : suc (n - 1) ≡ n = omega arith in
    absurd (none k.0 (k.1 ∙ same))
kind_found n l h (Some k) named = refl
