-- The definition of a line says what it should: a numeral's digits are worth its number, and the lines of document 01's first
-- example come out.
use Rattle.machine.specs.All.{ℕ, zero, suc, ◌+◌, ◌*◌, ◌-◌, ◌/◌, ◌%◌, ◌^◌, ◌<◌, pow-suc, arith, Bool, true, false, List, [], ◌∷◌, ◌++◌, ◌≡◌, refl, ◌∙◌, ltb}
use Rattle.runmodel.specs.{numeral, behind, numerals, line}

-- what decimal digits in ASCII are worth, behind digits worth v
abbrev worth : ℕ → List ℕ → ℕ
worth v [] = v
worth v (d ∷ l) = worth (v * 10 + (d - 48)) l

worth-more : (l : List ℕ) (v d : ℕ) → worth v (l ++ (d ∷ [])) ≡ worth v l * 10 + (d - 48)
worth-more [] v d = refl
worth-more (c ∷ l) v d = worth-more l (v * 10 + (c - 48)) d

pub numeral-worth : (k n : ℕ) → n < 10 ^ k → worth 0 (numeral k n) ≡ n
unfolding numeral
numeral-worth zero n h = omega arith
numeral-worth (suc k) n h = go (ltb n 10) refl (numeral-worth k (n / 10) below)
  where
    below : n / 10 < 10 ^ k
    below = omega (arith, pow-suc 10 k)

    go : (t : Bool) → ltb n 10 ≡ t → worth 0 (numeral k (n / 10)) ≡ n / 10 → worth 0 (numeral (suc k) n) ≡ n
    go true e ih = rw e (omega arith)
    go false e ih = rw e (worth-more (numeral k (n / 10)) 0 (48 + n % 10) ∙ rw ih (omega arith))

-- `12 2 5 0` and `end 2 12 2 2 0`
record-line : line [] (12 ∷ 2 ∷ 5 ∷ 0 ∷ []) ≡ 49 ∷ 50 ∷ 32 ∷ 50 ∷ 32 ∷ 53 ∷ 32 ∷ 48 ∷ 10 ∷ []
unfolding numeral behind numerals line
record-line = refl

end_line : line (101 ∷ 110 ∷ 100 ∷ 32 ∷ []) (2 ∷ 12 ∷ 2 ∷ 2 ∷ 0 ∷ [])
    ≡ 101 ∷ 110 ∷ 100 ∷ 32 ∷ 50 ∷ 32 ∷ 49 ∷ 50 ∷ 32 ∷ 50 ∷ 32 ∷ 50 ∷ 32 ∷ 48 ∷ 10 ∷ []
unfolding numeral behind numerals line
end_line = refl
