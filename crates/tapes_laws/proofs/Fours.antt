-- Four numbers of many, pure: a list stands in its four numbers alone.
use Rattle.machine.specs.All.{ℕ, zero, suc, ◌+◌, ◌*◌, ◌<◌, add-zero, arith, List, ◌≡◌, refl, ap, ◌∙◌, get_or, take, drop}
use lib.Ieee.{Float}
use Rattle.std.specs.Simd.{first_chunks}
use Rattle.std.proofs.lemmas.List.{get_or-take, get_or-drop, drop-drop}
use Rattle.tapes_laws.specs.{list_at_lem, lists_from, lists_in}

-- list k stands in its four numbers alone
pub four-at : (flat : List ℕ) (numbers : List Float) (k : ℕ) → list_at_lem (take 4 (drop (k * 4) flat)) numbers 0 ≡ list_at_lem flat numbers k
unfolding list_at_lem
four-at flat numbers k =
    rw (at 0 (omega arith) ∙ ap (λ (i : ℕ). get_or flat i 0) (add-zero (k * 4)), at 1 (omega arith), at 2 (omega arith), at 3 (omega arith)) refl
  where
    at : (i : ℕ) → i < 4 → get_or (take 4 (drop (k * 4) flat)) i 0 ≡ get_or flat (k * 4 + i) 0
    at i h = get_or-take 4 (drop (k * 4) flat) i 0 h ∙ get_or-drop (k * 4) flat i 0

-- and so do all of them
pub fours-in : (flat : List ℕ) (numbers : List Float) (n k : ℕ) →
    lists_in (first_chunks 4 n (drop (k * 4) flat)) numbers ≡ lists_from flat numbers n k
unfolding lists_in lists_from
fours-in flat numbers zero k = refl
fours-in flat numbers (suc n) k =
    let behind : drop 4 (drop (k * 4) flat) ≡ drop ((k + 1) * 4) flat = drop-drop 4 (k * 4) flat ∙ ap (λ (i : ℕ). drop i flat) (omega arith) in
    rw (four-at flat numbers k, behind, fours-in flat numbers n (k + 1)) refl
