-- What stands in the cells after stores, pure: inside and outside of a run of stores (`sets`), and of rows (`stored_rows`).
use Rattle.machine.specs.All.{ℕ, zero, suc, ◌+◌, ◌*◌, ◌≤◌, ◌<◌, arith, ◌≡◌, refl, ◌∙◌, List, [], ◌∷◌, length, get_or, take, drop, length-set, length-take, length-drop, sets, length-sets, get_or-set_other, get_or-set_same, ext_get_or, get_or-take, get_or-drop, set}
use native.Mathlib.Nat.{mul-suc, mul-zero}
use Rattle.layout.specs.All.{At}
use Rattle.parse_values.specs.{stored_rows, Each}

-- ---- A run of stores

-- numbers stored from `at` on leave those before,
pub sets_below : (xs l : List ℕ) (at i : ℕ) → i < at → get_or (sets l at xs) i 0 ≡ get_or l i 0
sets_below [] l at i h = refl
sets_below (x ∷ xs) l at i h = sets_below xs (set l at x) (suc at) i (omega arith) ∙ get_or-set_other l at i x 0 (omega arith)

-- those behind,
pub sets-above : (xs l : List ℕ) (at i : ℕ) → at + length xs ≤ i → get_or (sets l at xs) i 0 ≡ get_or l i 0
sets-above [] l at i h = refl
sets-above (x ∷ xs) l at i h = sets-above xs (set l at x) (suc at) i (omega arith) ∙ get_or-set_other l at i x 0 (omega arith)

-- and stand there
pub sets-inside : (xs l : List ℕ) (at i : ℕ) → at + length xs ≤ length l → i < length xs → get_or (sets l at xs) (at + i) 0 ≡ get_or xs i 0
sets-inside [] l at i h b = absurd (omega arith)
sets-inside (x ∷ xs) l at zero h b =
    let e : at + 0 ≡ at = omega arith in
    rw e (sets_below xs (set l at x) (suc at) at (omega arith) ∙ get_or-set_same l at x 0 (omega arith))
sets-inside (x ∷ xs) l at (suc i) h b =
    let e : at + suc i ≡ suc at + i = omega arith in
    rw e (sets-inside xs (set l at x) (suc at) i (simp length-set (omega arith)) (omega arith))

-- numbers stand where each of them does
pub at_each : (l : List ℕ) (at : ℕ) (xs : List ℕ) → at + length xs ≤ length l
    → ((i : ℕ) → i < length xs → get_or l (at + i) 0 ≡ get_or xs i 0) → At l at xs
at_each l at xs h f =
    let n : length (take (length xs) (drop at l)) ≡ length xs = simp (length-take, length-drop) (omega arith) in
    ext_get_or 0 _ xs n (λ i b. let j : i < length xs = omega arith in get_or-take (length xs) (drop at l) i 0 j ∙ get_or-drop at l i 0 ∙ f i j)

-- ---- Filled

module _ {A : Type 0} (numbers : A → List ℕ) (w : ℕ) where
  -- rows of width w, one for each element, leave the length of the tables,
  pub length-rows : (l : List A) (at : ℕ) (cells : List ℕ) → length (stored_rows numbers w at l cells) ≡ length cells
  length-rows [] at cells = refl
  length-rows (a ∷ l) at cells = length-rows l (at + w) (sets cells at (numbers a)) ∙ length-sets cells at (numbers a)

  -- what stands before them,
  pub rows-below : (l : List A) (at i : ℕ) (cells : List ℕ) → i < at → get_or (stored_rows numbers w at l cells) i 0 ≡ get_or cells i 0
  rows-below [] at i cells h = refl
  rows-below (a ∷ l) at i cells h = rows-below l (at + w) i (sets cells at (numbers a)) (omega arith) ∙ sets_below (numbers a) cells at i h

  -- what stands behind them,
  pub rows_above : (l : List A) (at i : ℕ) (cells : List ℕ) → Each (λ a. length (numbers a) ≤ w) l → at + w * length l ≤ i →
      get_or (stored_rows numbers w at l cells) i 0 ≡ get_or cells i 0
  rows_above [] at i cells fits h = refl
  rows_above (a ∷ l) at i cells fits h =
      let e = mul-suc w (length l) in
      let f = fits.0 in
      rows_above l (at + w) i (sets cells at (numbers a)) fits.1 (omega arith) ∙ sets-above (numbers a) cells at i (omega arith)

  -- and hold each element's numbers
  pub rows_inside : (l : List A) (at j i : ℕ) (cells : List ℕ) (d : A) → Each (λ a. length (numbers a) ≤ w) l
      → at + w * length l ≤ length cells →
      j < length l → i < length (numbers (get_or l j d))
      → get_or (stored_rows numbers w at l cells) (at + w * j + i) 0 ≡ get_or (numbers (get_or l j d)) i 0
  rows_inside [] at j i cells d fits h b c = absurd (omega arith)
  rows_inside (a ∷ l) at zero i cells d fits h b c =
      let f = fits.0 in
      let e = mul-suc w (length l) in
      let g : at + w * 0 + i ≡ at + i = omega (arith, mul-zero w) in
      rw g (rows-below l (at + w) (at + i) (sets cells at (numbers a)) (omega arith) ∙ sets-inside (numbers a) cells at i (omega arith) c)
  rows_inside (a ∷ l) at (suc j) i cells d fits h b c =
      let e = mul-suc w (length l) in
      let g : at + w * suc j + i ≡ (at + w) + w * j + i = omega (arith, mul-suc w j) in
      rw g (rows_inside l (at + w) j i (sets cells at (numbers a)) d fits.1 (simp length-sets (omega arith)) (omega arith) c)
