-- Lines, pure: digits, letters and numbers stored one after the other are the line stored at once.
use Rattle.machine.specs.All.{ℕ, zero, suc, ◌+◌, ◌*◌, ◌-◌, ◌/◌, ◌%◌, ◌≤◌, ◌<◌, arith, Bool, true, false, List, [], ◌∷◌, ◌++◌, ◌≡◌, refl, sym, ap, ◌∙◌, ltb, length, get_or, set, take, drop, replicate, length-append, drop_of_length-le, sets, length-sets, length-take-le, drop-cons, lt-ltb, le-ltb}
use Rattle.codec.proofs.Stores.{sets-append}
use Rattle.runmodel.specs.{numeral, behind, numerals, line}

-- ---- Digits

pub numeral-length : (k n : ℕ) → length (numeral k n) ≤ k
unfolding numeral
numeral-length zero n = omega arith
numeral-length (suc k) n = go (ltb n 10) refl (numeral-length k (n / 10))
  where
    go : (t : Bool) → ltb n 10 ≡ t → length (numeral k (n / 10)) ≤ k → length (numeral (suc k) n) ≤ suc k
    go true e h = rw e (omega arith)
    go false e h = rw (e, length-append (numeral k (n / 10)) ((48 + n % 10) ∷ [])) (omega arith)

numeral_digit : (k n : ℕ) → (k ≡ 0 → ⊥) → n < 10 → numeral k n ≡ (48 + n) ∷ []
unfolding numeral
numeral_digit zero n k-pos h = absurd (k-pos refl)
numeral_digit (suc k) n k-pos h = rw (lt-ltb n 10 h)

numeral-digits : (k n : ℕ) → (k ≡ 0 → ⊥) → 10 ≤ n → numeral k n ≡ numeral (k - 1) (n / 10) ++ ((48 + n % 10) ∷ [])
unfolding numeral
numeral-digits zero n k-pos h = absurd (k-pos refl)
numeral-digits (suc k) n k-pos h =
    let e : k ≡ suc k - 1 = omega arith in
    rw (le-ltb n 10 h) (ap (λ (j : ℕ). numeral j (n / 10) ++ ((48 + n % 10) ∷ [])) e)

-- what is stored at a position, and the position after it
abbrev pub Stored : (l after : List ℕ) (at next : ℕ) (text : List ℕ) → Type 0
Stored l after at next text = (next ≡ at + length text) × (after ≡ sets l at text)

-- with the bound that a caller asks for
pub numeral-within : (k n at next : ℕ) (l after : List ℕ) → Stored l after at next (numeral k n)
    → (next ≤ at + k) × Stored l after at next (numeral k n)
numeral-within k n at next l after s = (omega (arith, s.0, numeral-length k n), s)

pub numeral-nothing : (k n at : ℕ) (l : List ℕ) → k ≡ 0 → Stored l l at at (numeral k n)
unfolding numeral
numeral-nothing zero n at l e = (omega arith, refl)
numeral-nothing (suc k) n at l e = absurd (omega arith)

-- a number as digits: one digit,
pub numeral-one : (k n at : ℕ) (l : List ℕ) → (k ≡ 0 → ⊥) → n < 10 → Stored l (set l at (48 + n)) at (at + 1) (numeral k n)
numeral-one k n at l k-pos h = rw (numeral_digit k n k-pos h) (refl, refl)

-- one more byte behind a text
more_byte : (l m text : List ℕ) (at next x : ℕ) → Stored l m at next text → Stored l (set m next x) at (next + 1) (text ++ (x ∷ []))
more_byte l m text at next x (e, s) =
    (rw (e, length-append text (x ∷ [])) (omega arith), rw (s, e) (sets-append text (x ∷ []) l at))

-- and those before the last
pub numeral-more : (k n at next : ℕ) (l m : List ℕ) → (k ≡ 0 → ⊥) → 10 ≤ n → Stored l m at next (numeral (k - 1) (n / 10))
    → Stored l (set m next (48 + n % 10)) at (next + 1) (numeral k n)
numeral-more k n at next l m k-pos h s = rw (numeral-digits k n k-pos h) (more_byte l m (numeral (k - 1) (n / 10)) at next (48 + n % 10) s)

-- ---- Numbers in a row

-- a space between numbers,
pub behind_more : (l : List ℕ) (i : ℕ) → i + 1 < length l → 32 ≡ behind (drop (i + 1) l)
unfolding behind
behind_more l i h = rw (drop-cons l (i + 1) 0 h)

-- a line's end behind the last
pub behind-last : (l : List ℕ) (i : ℕ) → length l ≤ i + 1 → 10 ≡ behind (drop (i + 1) l)
unfolding behind
behind-last l i h = rw (drop_of_length-le l h)

drop-one : (l : List ℕ) (i : ℕ) → i < length l → drop i l ≡ get_or l i 0 ∷ drop (i + 1) l
drop-one l i h = let e : suc i ≡ i + 1 = omega arith in drop-cons l i 0 h ∙ ap (λ (k : ℕ). get_or l i 0 ∷ drop k l) e

numerals-step : (l : List ℕ) (i : ℕ) → i < length l
    → numerals (drop i l) ≡ numeral 20 (get_or l i 0) ++ (behind (drop (i + 1) l) ∷ []) ++ numerals (drop (i + 1) l)
unfolding numerals
numerals-step l i h = rw (drop-one l i h)

pub numerals-length : (l : List ℕ) → length (numerals l) ≤ 21 * length l
unfolding numerals
numerals-length [] = omega arith
numerals-length (n ∷ l) =
    rw (length-append (numeral 20 n ++ (behind l ∷ [])) (numerals l), length-append (numeral 20 n) (behind l ∷ []))
    (omega (arith, numeral-length 20 n, numerals-length l))

pub numerals-nothing : (numbers : List ℕ) (i at : ℕ) (l : List ℕ) → length numbers ≤ i → Stored l l at at (numerals (drop i numbers))
unfolding numerals
numerals-nothing numbers i at l h = rw (drop_of_length-le numbers h) (omega arith, refl)

-- a text behind a text
joined : (l m k one two : List ℕ) (at next end : ℕ) → Stored l m at next one → Stored m k next end two → Stored l k at end (one ++ two)
joined l m k one two at next end (e, s) (f, t) =
    (rw (f, e, length-append one two) (omega arith), t ∙ rw (s, e) (sets-append one two l at))

pub numerals-more : (numbers : List ℕ) (i at next end : ℕ) (l m k : List ℕ) → i < length numbers
    → Stored l m at next (numeral 20 (get_or numbers i 0))
    → Stored (set m next (behind (drop (i + 1) numbers))) k (next + 1) end (numerals (drop (i + 1) numbers))
    → Stored l k at end (numerals (drop i numbers))
numerals-more numbers i at next end l m k h s t =
    rw (numerals-step numbers i h)
    (joined l (set m next (behind (drop (i + 1) numbers))) k (numeral 20 (get_or numbers i 0) ++ (behind (drop (i + 1) numbers) ∷ []))
    (numerals (drop (i + 1) numbers)) at (next + 1) end
    (more_byte l m (numeral 20 (get_or numbers i 0)) at next (behind (drop (i + 1) numbers)) s) t)

-- ---- Letters, and the line

pub spell-nothing : (letters : List ℕ) (i : ℕ) (l : List ℕ) → length letters ≤ i → l ≡ sets l i (drop i letters)
spell-nothing letters i l h = rw (drop_of_length-le letters h)

pub spell-more : (letters : List ℕ) (i : ℕ) (l m : List ℕ) → i < length letters
    → m ≡ sets (set l i (get_or letters i 0)) (i + 1) (drop (i + 1) letters) → m ≡ sets l i (drop i letters)
spell-more letters i l m h s =
    let e : i + 1 ≡ suc i = omega arith in
    rw (drop-one letters i h) (s ∙ ap (λ (k : ℕ). sets (set l i (get_or letters i 0)) k (drop (i + 1) letters)) e)

module _ (letters numbers l m k : List ℕ) (end : ℕ) (room : length letters + 21 * length numbers ≤ 134) where
  -- a word and its numbers are one line, of at most 134 bytes
  pub line-stored : m ≡ sets l 0 (drop 0 letters) → Stored m k (length letters) end (numerals (drop 0 numbers))
      → (end ≤ 134) × ((end ≡ length (line letters numbers)) × (k ≡ sets l 0 (line letters numbers)))
  unfolding line
  line-stored s t =
      let whole = joined l m k letters (numerals numbers) 0 (length letters) end (omega arith, s) t in
      (omega (arith, t.0, numerals-length numbers), (omega (arith, whole.0), whole.1))

-- the part of a line's buffer that is printed
pub line-part : (letters numbers k : List ℕ) (n : ℕ) → k ≡ sets (replicate 134 0) 0 (line letters numbers) → n ≤ 134
    → (n ≤ length k) × (n ≡ length (take n k))
line-part letters numbers k n s h =
    let inside : n ≤ length k = rw (s, length-sets (replicate 134 0) 0 (line letters numbers)) h in
    (inside, sym (length-take-le n k inside))
