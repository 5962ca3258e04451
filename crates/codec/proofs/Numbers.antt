-- Whole numbers, pure: a written number reads back whatever stands before and after it; every number that is accepted
-- is, written again, the same bytes; how many bytes a number takes.
use Rattle.machine.specs.All.{ℕ, zero, suc, ◌+◌, ◌-◌, ◌/◌, ◌%◌, ◌^◌, ◌≤◌, ◌<◌, arith, Bool, true, false, cond, List, [], ◌∷◌, ◌++◌, append_assoc, Option, none, some, ◌≡◌, refl, sym, ap, ap₂, ◌∙◌, leb, lit≤, length, drop, take, length-append, drop-append_seam, le-leb, leb-true, max_number_bytes, five_groups, max_report_number_bytes, max_report_number, Number, upper, number_bytes, groups, padded, within, read_number}
use Rattle.codec.proofs.Groups.{Bytes, above-lt, above-le, upper-zero, upper-length, upper-least, upper_fuel, lengthened, lengthened-some, groups-last, groups-upper, groups-bytes, groups-size, padded-upper, none-some}

-- ---- Length

pub number_bytes-length : (j v : ℕ) → v < 128 ^ suc j → length (number_bytes v) ≤ suc j
unfolding number_bytes
number_bytes-length j v h = rw length-append (omega (arith, upper-length 8 j (v / 128) (above-lt j h)))

pub number_bytes-longest : (v : ℕ) → length (number_bytes v) ≤ 9
unfolding number_bytes
number_bytes-longest v = rw length-append (omega (arith, upper_fuel 8 (v / 128)))

pub number_bytes-positive : (v : ℕ) → 1 ≤ length (number_bytes v)
unfolding number_bytes
number_bytes-positive v = rw length-append (omega arith)

-- and as many as its groups
pub number_bytes-least : (j v : ℕ) → 128 ^ j ≤ v → j ≤ 8 → suc j ≤ length (number_bytes v)
number_bytes-least zero v h most = number_bytes-positive v
number_bytes-least (suc j) v h most = go (upper-least 8 j (v / 128) (above-le j h) most)
  where
    go : suc j ≤ length (upper 8 (v / 128)) → suc (suc j) ≤ length (number_bytes v)
    go up = unfold number_bytes in rw length-append (omega arith)

-- so between two powers of 128 there is one length
pub number_bytes-one : (v : ℕ) → v < 128 → length (number_bytes v) ≡ 1
number_bytes-one v h = omega (arith, number_bytes-length 0 v h, number_bytes-positive v)

-- a number between two powers of 128 has so many bytes
pub number_bytes_exact : (j v : ℕ) → 128 ^ j ≤ v → v < 128 ^ suc j → j ≤ 8 → length (number_bytes v) ≡ suc j
number_bytes_exact j v least h most = omega (arith, number_bytes-length j v h, number_bytes-least j v least most)

pub number_bytes-nine : (v : ℕ) → 128 ^ 8 ≤ v → length (number_bytes v) ≡ 9
number_bytes-nine v h = omega (arith, number_bytes-longest v, number_bytes-least 8 v h (lit≤ tt))

-- ---- Written, then read

-- the one answer to the bytes of v
abbrev pub written : ℕ → Option Number
written v = some (record { value = v; size = length (number_bytes v) })

pub number_bytes-reads : (k most v : ℕ) (rest : List ℕ) →
    v ≤ most → v < 128 ^ 9 → length (number_bytes v) ≤ k → read_number k most (number_bytes v ++ rest) ≡ written v
unfolding number_bytes read_number within
number_bytes-reads k most v rest h small fits =
    let u = upper 8 (v / 128) in
    let n : length (u ++ (v % 128 ∷ [])) ≡ length u + 1 = length-append u (v % 128 ∷ []) in
    let short : padded (u ++ (v % 128 ∷ rest)) ≡ false = padded-upper 8 (v / 128) (v % 128) rest (above-lt 8 small) (λ a b. omega arith) in
    let fuel : k ≡ length u + suc (k - suc (length u)) = omega arith in
    let read : groups k 0 (u ++ (v % 128 ∷ rest)) ≡ some (record { value = v; size = length (u ++ (v % 128 ∷ [])) }) =
    ap (λ (m : ℕ). groups m 0 (u ++ (v % 128 ∷ rest))) fuel
    ∙ groups-upper 8 (v / 128) (suc (k - suc (length u))) (v % 128 ∷ rest) (above-lt 8 small)
    ∙ ap (lengthened (length u)) (groups-last _ (v / 128) (v % 128) rest (omega arith))
    ∙ lengthened-some (length u) _ 1
    ∙ ap₂ (λ (x y : ℕ). some (record { value = x; size = y })) (omega arith) (sym n) in
    rw (append_assoc u, short, read, le-leb v most h)

-- behind any bytes, for the two sizes of the paper
pub number-reads-back : (before rest : List ℕ) (most v : ℕ) → v ≤ most → most ≤ five_groups →
    read_number max_number_bytes most (drop (length before) (before ++ (number_bytes v ++ rest))) ≡ written v
number-reads-back before rest most v h groups =
    let small : v < 128 ^ 5 = omega arith in
    rw (drop-append_seam before (number_bytes v ++ rest))
    (number_bytes-reads 5 most v rest h (omega arith) (number_bytes-length 4 v small))

pub report-number-reads-back : (before rest : List ℕ) (v : ℕ) → v ≤ max_report_number →
    read_number max_report_number_bytes max_report_number (drop (length before) (before ++ (number_bytes v ++ rest))) ≡ written v
report-number-reads-back before rest v h =
    rw (drop-append_seam before (number_bytes v ++ rest))
    (number_bytes-reads 9 max_report_number v rest h (omega arith) (number_bytes-longest v))

-- ---- Read, then written

-- what an accepted number says of the bytes
pub record Accepted (k most : ℕ) (l : List ℕ) (n : Number) : Type 0 where
  pub whole : groups k 0 l ≡ some n
  pub shortest : padded l ≡ false
  pub within-most : n.value ≤ most
  pub positive : 1 ≤ n.size
  pub groups-most : n.size ≤ k
  pub inside : n.size ≤ length l

-- bytes that are read as a number are the shortest of that number
pub accepted : (k most : ℕ) (l : List ℕ) (n : Number) → read_number k most l ≡ some n → Accepted k most l n
unfolding read_number within
accepted k most l n e = go (padded l) refl (groups k 0 l) refl e
  where
    found : (m : Number) → groups k 0 l ≡ some m → padded l ≡ false → (t : Bool) → leb m.value most ≡ t → cond t (some m) none ≡ some n →
        Accepted k most l n
    found m g p true t r =
        let f : m ≡ n = cc in
        let same : groups k 0 l ≡ some n = g ∙ r in
        let sizes = groups-size k 0 l n same in
        let below : n.value ≤ most = rw f at (leb-true m.value most t) in
        record { whole = same; shortest = p; within-most = below; positive = sizes.0; groups-most = sizes.1; inside = sizes.2 }
    found m g p false t r = absurd (none-some n r)

    go : (t : Bool) → padded l ≡ t → (o : Option Number) → groups k 0 l ≡ o → cond t none (within most o) ≡ some n → Accepted k most l n
    go true p o g r = absurd (none-some n r)
    go false p none g r = absurd (none-some n r)
    go false p (some m) g r = found m g p (leb m.value most) refl r

-- every accepted number, written again, is the same bytes
pub number_bytes-read : (k most : ℕ) (l : List ℕ) (n : Number) → k ≤ 9 → Bytes l → read_number k most l ≡ some n →
    number_bytes n.value ≡ take n.size l
number_bytes-read k most l n h bytes e =
    let a = accepted k most l n e in
    sym (groups-bytes k 0 0 l n bytes (omega arith) (omega arith) (λ z. a.shortest) a.whole)
    ∙ ap (λ (u : List ℕ). u ++ take n.size l) (upper-zero 8)
