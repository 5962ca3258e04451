-- Counts of lists: together, at most their length, byte by byte, and of lists cut into pieces.
use Rattle.machine.specs.All.{ℕ, zero, suc, ◌+◌, ◌*◌, ◌≤◌, ◌<◌, arith, Bool, true, false, cond, List, [], ◌∷◌, ◌++◌, ◌≡◌, refl, ap, sym, ◌∙◌, ltb, length, take, drop, get_or, take-append-drop, drop-drop, count_low}
use Rattle.trace.specs.{part}
use mir.Val.{bool_byte}
use Rattle.std.specs.{List.concat, Simd.first_chunks}
use Rattle.std.proofs.lemmas.{List.take_more, List.Folds.concat-append}

pub count_low-append : (l k : List ℕ) → count_low (l ++ k) ≡ count_low l + count_low k
unfolding count_low
count_low-append [] k = omega arith
count_low-append (b ∷ l) k = go (ltb b 128) (count_low-append l k)
  where
    go : (x : Bool) → {n : ℕ} → n ≡ count_low l + count_low k → cond x (suc n) n ≡ cond x (suc (count_low l)) (count_low l) + count_low k
    go true e = omega arith
    go false e = omega arith

pub count_low-most : (l : List ℕ) → count_low l ≤ length l
unfolding count_low
count_low-most [] = omega arith
count_low-most (b ∷ l) = go (ltb b 128) (count_low-most l)
  where
    go : (x : Bool) → {n : ℕ} → n ≤ length l → cond x (suc n) n ≤ suc (length l)
    go true e = omega arith
    go false e = omega arith

-- one byte more, low or not
pub one_more : (l : List ℕ) (i : ℕ) → i < length l → count_low (take (i + 1) l) ≡ count_low (take i l) + bool_byte (ltb (get_or l i 0) 128)
unfolding count_low
one_more l i h = rw (take_more l i 0 h) (count_low-append (take i l) (get_or l i 0 ∷ []) ∙ ap (λ (n : ℕ). count_low (take i l) + n) (go (ltb (get_or l i 0) 128)))
  where
    go : (x : Bool) → cond x 1 0 ≡ bool_byte x
    go true = refl
    go false = refl

pub count_low-part : (i : ℕ) (l : List ℕ) → count_low (take i l) ≤ count_low l
count_low-part i l = omega (arith, count_low-append (take i l) (drop i l), ap count_low (take-append-drop i l))

-- ---- Pieces

-- words of n bytes each, and the bytes behind them
pub in-words : (n k : ℕ) (s : List ℕ) → count_low (concat (first_chunks n k s)) + count_low (drop (k * n) s) ≡ count_low s
unfolding count_low
in-words n zero s = let none : 0 * n ≡ 0 = omega arith in rw none (omega arith)
in-words n (suc k) s =
    let first = ap count_low (take-append-drop n s) in
    let behind = ap count_low (drop-drop (k * n) n s) in
    let at : n + k * n ≡ suc k * n = omega arith in
    omega (
      arith,
      count_low-append (take n s) (concat (first_chunks n k (drop n s))),
      count_low-append (take n s) (drop n s),
      in-words n k (drop n s),
      first,
      rw at at behind,
    )

-- groups of words
unfoldable pub in_groups : List (List (List ℕ)) → ℕ
in_groups [] = 0
in_groups (g ∷ l) = count_low (concat g) + in_groups l

in_groups-append : (l m : List (List (List ℕ))) → in_groups (l ++ m) ≡ in_groups l + in_groups m
unfolding in_groups
in_groups-append [] m = omega arith
in_groups-append (g ∷ l) m = omega (arith, in_groups-append l m)

pub in_groups-more : (l : List (List (List ℕ))) (i : ℕ) → i < length l →
    in_groups (take (i + 1) l) ≡ in_groups (take i l) + count_low (concat (get_or l i []))
unfolding in_groups
in_groups-more l i h =
    let one : in_groups (take i l) + (count_low (concat (get_or l i [])) + 0) ≡ in_groups (take i l) + count_low (concat (get_or l i [])) = omega arith in
    rw (take_more l i [] h) (in_groups-append (take i l) (get_or l i [] ∷ []) ∙ one)

pub in-groups : (n k : ℕ) (l : List (List ℕ)) →
    in_groups (first_chunks n k l) + count_low (concat (drop (k * n) l)) ≡ count_low (concat l)
unfolding in_groups
in-groups n zero l = let none : 0 * n ≡ 0 = omega arith in rw none (omega arith)
in-groups n (suc k) l =
    let all : count_low (concat (take n l)) + count_low (concat (drop n l)) ≡ count_low (concat l) =
    sym (count_low-append (concat (take n l)) (concat (drop n l)))
    ∙ ap count_low (sym (concat-append (take n l) (drop n l)) ∙ ap concat (take-append-drop n l)) in
    let behind = ap (λ (w : List (List ℕ)). count_low (concat w)) (drop-drop (k * n) n l) in
    let at : n + k * n ≡ suc k * n = omega arith in
    omega (arith, in-groups n k (drop n l), all, rw at at behind)

pub in_groups-part : (i : ℕ) (l : List (List (List ℕ))) → in_groups (take i l) ≤ in_groups l
in_groups-part i l = omega (arith, in_groups-append (take i l) (drop i l), ap in_groups (take-append-drop i l))

-- groups of words, the words that are left, and the bytes behind them
pub in-all : (n m : ℕ) (s : List ℕ) {words : List (List ℕ)} {ends : List ℕ} {groups : List (List (List ℕ))} {left : List (List ℕ)} (j k : ℕ) →
    words ≡ first_chunks n k s → ends ≡ drop (k * n) s → groups ≡ first_chunks m j words → left ≡ drop (j * m) words →
    count_low (concat left) + in_groups groups + count_low ends ≡ count_low s
in-all n m s {words} j k w e g l =
    omega (arith, ap (λ (x : List (List ℕ)). count_low (concat x)) w, ap count_low e, ap in_groups g, ap (λ (x : List (List ℕ)). count_low (concat x)) l, in-words n k s, in-groups m j words)

-- the part of n bytes from i on is counted, and what follows it is left
pub counted : (s : List ℕ) (i n count : ℕ) {r : ℕ} → r ≡ count_low (part s i n) → count + count_low (drop i s) ≡ count_low s →
    count + r + count_low (drop (i + n) s) ≡ count_low s
unfolding part
counted s i n count e all =
    let rest = sym (take-append-drop n (drop i s)) ∙ ap (λ (l : List ℕ). take n (drop i s) ++ l) (drop-drop n i s) in
    omega (arith, ap count_low rest, count_low-append (take n (drop i s)) (drop (i + n) s))
