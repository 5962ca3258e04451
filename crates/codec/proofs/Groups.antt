-- Groups of seven bits, pure: a number of j groups is below 128 ^ j; `upper` does not depend on its fuel; what `upper`
-- writes, `groups` reads, and the other way round.
use Rattle.machine.specs.All.{clash, ℕ, zero, suc, ◌+◌, ◌*◌, ◌-◌, ◌/◌, ◌%◌, ◌^◌, ◌≤◌, ◌<◌, pow-suc, pow-le-pow_right, one-le-pow, lt_of_lt_of_le, arith, Bool, true, false, List, [], ◌∷◌, ◌++◌, append_assoc, Option, none, some, ◌≡◌, refl, sym, ap, ◌∙◌, ltb, eqb, lit<, length, drop, take, get_or, length-append, get_or-drop, lt-ltb, le-ltb, ne_eqb, eqb-true, eqb-false, ltb-true, ltb-false, Number, upper, number_bytes, longer, groups, padded}

-- ---- Groups written

pub upper-zero : (k : ℕ) → upper k 0 ≡ []
unfolding upper
upper-zero zero = refl
upper-zero (suc k) = refl

-- the groups above the last, each with 128 added
pub upper-step : (k v : ℕ) → (v ≡ 0 → ⊥) → upper (suc k) v ≡ upper k (v / 128) ++ ((128 + v % 128) ∷ [])
unfolding upper
upper-step k v h = rw (ne_eqb v 0 h)

-- a number below 128 ^ (j + 1) has its upper groups below 128 ^ j
pub above-lt : (j : ℕ) {v : ℕ} → v < 128 ^ suc j → v / 128 < 128 ^ j
above-lt j {v} h = omega (arith, rw (pow-suc 128 j) at h)

pub above-le : (j : ℕ) {v : ℕ} → 128 ^ suc j ≤ v → 128 ^ j ≤ v / 128
above-le j {v} h = omega (arith, rw (pow-suc 128 j) at h)

-- more fuel than groups changes nothing
pub upper-more : (j v : ℕ) → v < 128 ^ j → upper (suc j) v ≡ upper j v
upper-more zero v h = let e : v ≡ 0 = omega arith in rw e (simp upper-zero)
upper-more (suc j) v h = go (eqb v 0) refl (upper-more j (v / 128) (above-lt j h))
  where
    go : (t : Bool) → eqb v 0 ≡ t → upper (suc j) (v / 128) ≡ upper j (v / 128) → upper (suc (suc j)) v ≡ upper (suc j) v
    go true e ih = rw (eqb-true v 0 e) (simp upper-zero)
    go false e ih = rw (upper-step (suc j) v (eqb-false v 0 e), upper-step j v (eqb-false v 0 e), ih)

-- a number below 128 ^ j has at most j upper groups
pub upper-length : (k j v : ℕ) → v < 128 ^ j → length (upper k v) ≤ j
upper-length zero j v h = unfold upper in omega arith
upper-length (suc k) zero v h = let e : v ≡ 0 = omega arith in rw (e, upper-zero) (omega arith)
upper-length (suc k) (suc j) v h = go (eqb v 0) refl (upper-length k j (v / 128) (above-lt j h))
  where
    go : (t : Bool) → eqb v 0 ≡ t → length (upper k (v / 128)) ≤ j → length (upper (suc k) v) ≤ suc j
    go true e ih = rw (eqb-true v 0 e, upper-zero) (omega arith)
    go false e ih = rw (upper-step k v (eqb-false v 0 e), length-append) (omega arith)

-- one that is not has more, where the fuel lasts
pub upper-least : (k j v : ℕ) → 128 ^ j ≤ v → suc j ≤ k → suc j ≤ length (upper k v)
upper-least zero j v h fuel = absurd (omega arith)
upper-least (suc k) zero v h fuel =
    rw (upper-step k v (λ e. omega (arith, one-le-pow 0 128 (lit< tt))), length-append) (omega arith)
upper-least (suc k) (suc j) v h fuel =
    rw (upper-step k v (λ e. omega (arith, one-le-pow (suc j) 128 (lit< tt))), length-append)
    (omega (arith, upper-least k j (v / 128) (above-le j h) (omega arith)))

-- no more groups than fuel
pub upper_fuel : (k v : ℕ) → length (upper k v) ≤ k
unfolding upper
upper_fuel zero v = omega arith
upper_fuel (suc k) v = go (eqb v 0) refl (upper_fuel k (v / 128))
  where
    go : (t : Bool) → eqb v 0 ≡ t → length (upper k (v / 128)) ≤ k → length (upper (suc k) v) ≤ suc k
    go true e ih = rw (eqb-true v 0 e) (omega arith)
    go false e ih = rw (upper-step k v (eqb-false v 0 e), length-append) (omega arith)

-- ---- Groups read

-- n bytes more in front
unfoldable pub lengthened : ℕ → Option Number → Option Number
lengthened zero o = o
lengthened (suc n) o = lengthened n (longer o)

pub lengthened-some : (n v size : ℕ) →
    lengthened n (some (record { value = v; size = size })) ≡ some (record { value = v; size = n + size })
unfolding lengthened longer
lengthened-some zero v size = ap (λ (m : ℕ). some (record { value = v; size = m })) (omega arith)
lengthened-some (suc n) v size =
    lengthened-some n v (suc size) ∙ ap (λ (m : ℕ). some (record { value = v; size = m })) (omega arith)

-- a byte below 128 ends the number
pub groups-last : (k v b : ℕ) (l : List ℕ) → b < 128 → groups (suc k) v (b ∷ l) ≡ some (record { value = v * 128 + b; size = 1 })
unfolding groups
groups-last k v b l h = rw (lt-ltb b 128 h)

pub groups-more : (k v b : ℕ) (l : List ℕ) → 128 ≤ b →
    groups (suc k) v (b ∷ l) ≡ longer (groups k (v * 128 + (b - 128)) l)
unfolding groups
groups-more k v b l h = rw (le-ltb b 128 h)

none_above : (j k : ℕ) (l : List ℕ) →
    groups (length (upper j 0) + k) 0 (upper j 0 ++ l) ≡ lengthened (length (upper j 0)) (groups k 0 l)
unfolding lengthened
none_above j k l = rw (upper-zero j) (ap (λ (n : ℕ). groups n 0 l) (omega arith))

one_more : (u : List ℕ) (x k : ℕ) (l : List ℕ) (o : Option Number) →
    groups (length u + suc k) 0 (u ++ (x ∷ l)) ≡ lengthened (length u) (longer o) →
    groups (length (u ++ (x ∷ [])) + k) 0 ((u ++ (x ∷ [])) ++ l) ≡ lengthened (length (u ++ (x ∷ []))) o
unfolding lengthened
one_more u x k l o e =
    let n : length (u ++ (x ∷ [])) ≡ suc (length u) = rw length-append (omega arith) in
    rw (n, append_assoc) (ap (λ (m : ℕ). groups m 0 (u ++ (x ∷ l))) (omega arith) ∙ e)

-- the upper groups of w are read as w
pub groups-upper : (j w k : ℕ) (l : List ℕ) → w < 128 ^ j →
    groups (length (upper j w) + k) 0 (upper j w ++ l) ≡ lengthened (length (upper j w)) (groups k w l)
groups-upper zero w k l h = let e : w ≡ 0 = omega arith in rw (e) (none_above zero k l)
groups-upper (suc j) w k l h =
    go (eqb w 0) refl (groups-upper j (w / 128) (suc k) ((128 + w % 128) ∷ l) (above-lt j h))
  where
    go : (t : Bool) → eqb w 0 ≡ t →
        groups (length (upper j (w / 128)) + suc k) 0 (upper j (w / 128) ++ ((128 + w % 128) ∷ l))
        ≡ lengthened (length (upper j (w / 128))) (groups (suc k) (w / 128) ((128 + w % 128) ∷ l)) →
        groups (length (upper (suc j) w) + k) 0 (upper (suc j) w ++ l) ≡ lengthened (length (upper (suc j) w)) (groups k w l)
    go true e ih = rw (eqb-true w 0 e) (none_above (suc j) k l)
    go false e ih =
        let more : groups (suc k) (w / 128) ((128 + w % 128) ∷ l) ≡ longer (groups k w l) =
        groups-more k (w / 128) (128 + w % 128) l (omega arith)
        ∙ ap (λ (v : ℕ). longer (groups k v l)) (omega arith) in
        rw (upper-step j w (eqb-false w 0 e))
        (one_more (upper j (w / 128)) (128 + w % 128) k l (groups k w l) (ih ∙ ap (lengthened (length (upper j (w / 128)))) more))

-- ---- Shortest form

pub padded-cons : (b : ℕ) (l : List ℕ) → (b ≡ 128 → ⊥) → padded (b ∷ l) ≡ false
unfolding padded
padded-cons b l n = ne_eqb b 128 n

pub padded-not : (b : ℕ) (l : List ℕ) → padded (b ∷ l) ≡ false → b ≡ 128 → ⊥
unfolding padded
padded-not b l e = eqb-false b 128 e

-- the first of the upper groups is not empty
pub padded-upper : (j w x : ℕ) (l : List ℕ) → w < 128 ^ j → (w ≡ 0 → x ≡ 128 → ⊥) → padded (upper j w ++ (x ∷ l)) ≡ false
padded-upper zero w x l h n = let e : w ≡ 0 = omega arith in rw (e, upper-zero) (padded-cons x l (n e))
padded-upper (suc j) w x l h n =
    go (eqb w 0) refl (λ f. padded-upper j (w / 128) (128 + w % 128) (x ∷ l) (above-lt j h) f)
  where
    go : (t : Bool) → eqb w 0 ≡ t →
        ((w / 128 ≡ 0 → 128 + w % 128 ≡ 128 → ⊥) → padded (upper j (w / 128) ++ ((128 + w % 128) ∷ x ∷ l)) ≡ false) →
        padded (upper (suc j) w ++ (x ∷ l)) ≡ false
    go true e ih = rw (eqb-true w 0 e, upper-zero) (padded-cons x l (n (eqb-true w 0 e)))
    go false e ih =
        let w0 : w ≡ 0 → ⊥ = eqb-false w 0 e in
        rw (upper-step j w w0, append_assoc) (ih (λ a b. w0 (omega arith)))

-- ---- Read, and written again

-- every element is a byte
abbrev pub Bytes : List ℕ → Type 0
Bytes l = (i : ℕ) → get_or l i 0 < 256

pub bytes-tail : (b : ℕ) (l : List ℕ) → Bytes (b ∷ l) → Bytes l
bytes-tail b l h i = h (suc i)

pub bytes_drop : (n : ℕ) (l : List ℕ) → Bytes l → Bytes (drop n l)
bytes_drop n l h i = rw (get_or-drop n l i 0) (h (n + i))

-- one more group of w, which is not the first or not empty
pub upper-push : (w b : ℕ) → w < 128 ^ 7 → 128 ≤ b → b < 256 → (w ≡ 0 → b ≡ 128 → ⊥) →
    upper 8 (w * 128 + (b - 128)) ≡ upper 8 w ++ (b ∷ [])
upper-push w b h lo hi n =
    let v = w * 128 + (b - 128) in
    let d : v / 128 ≡ w = omega arith in
    let m : 128 + v % 128 ≡ b = omega arith in
    rw (upper-step 7 v (λ e. n (omega arith) (omega arith)), d, m, upper-more 7 w h)

pub some-value : (a b : Number) → some a ≡ some b → a.value ≡ b.value
some-value a b e = let f : a ≡ b = cc in ap (λ (n : Number). n.value) f

pub some_size : (a b : Number) → some a ≡ some b → a.size ≡ b.size
some_size a b e = let f : a ≡ b = cc in ap (λ (n : Number). n.size) f

pub none-some : (a : Number) → none ≡ some a → ⊥
none-some a e = clash (cc)

-- a number lengthened by one byte was a number
pub longer-some : (o : Option Number) (n : Number) → longer o ≡ some n →
    (m : Number) × (o ≡ some m) × (m.value ≡ n.value) × (suc m.size ≡ n.size)
unfolding longer
longer-some none n e = absurd (none-some n e)
longer-some (some m) n e = (m, refl, some-value _ n e, some_size _ n e)

number_bytes-push : (w b : ℕ) → b < 128 → upper 8 w ++ (b ∷ []) ≡ number_bytes (w * 128 + b)
unfolding number_bytes
number_bytes-push w b h =
    let d : (w * 128 + b) / 128 ≡ w = omega arith in
    let m : (w * 128 + b) % 128 ≡ b = omega arith in
    rw (d, m)

one_pushed : (w b : ℕ) (l : List ℕ) (m n : Number) → m.value ≡ n.value → suc m.size ≡ n.size →
    w < 128 ^ 7 → 128 ≤ b → b < 256 → (w ≡ 0 → b ≡ 128 → ⊥) →
    upper 8 (w * 128 + (b - 128)) ++ take m.size l ≡ number_bytes m.value →
    upper 8 w ++ take n.size (b ∷ l) ≡ number_bytes n.value
one_pushed w b l m n ev es h lo hi first e =
    rw (← ev, ← es)
    (sym (append_assoc (upper 8 w) (b ∷ []) (take m.size l))
    ∙ ap (λ (u : List ℕ). u ++ take m.size l) (sym (upper-push w b h lo hi first))
    ∙ e)

groups-positive : (k w : ℕ) (l : List ℕ) (n : Number) → groups k w l ≡ some n → 1 ≤ k
unfolding groups
groups-positive zero w l n e = absurd (none-some n e)
groups-positive (suc k) w l n e = omega arith

-- groups read behind those of w are, with them, the bytes of the number
pub groups-bytes : (k w j : ℕ) (l : List ℕ) (n : Number) →
    Bytes l → w < 128 ^ j → j + k ≤ 9 → (w ≡ 0 → padded l ≡ false) → groups k w l ≡ some n →
    upper 8 w ++ take n.size l ≡ number_bytes n.value
unfolding groups
groups-bytes zero w j l n bytes h jk short e = absurd (none-some n e)
groups-bytes (suc k) w j [] n bytes h jk short e = absurd (none-some n e)
groups-bytes (suc k) w j (b ∷ l) n bytes h jk short e =
    go (ltb b 128) refl (λ m. groups-bytes k (w * 128 + (b - 128)) (suc j) l m (bytes-tail b l bytes))
  where
    go : (t : Bool) → ltb b 128 ≡ t →
        ((m : Number) → w * 128 + (b - 128) < 128 ^ suc j → suc j + k ≤ 9 → (w * 128 + (b - 128) ≡ 0 → padded l ≡ false) →
        groups k (w * 128 + (b - 128)) l ≡ some m →
        upper 8 (w * 128 + (b - 128)) ++ take m.size l ≡ number_bytes m.value) →
        upper 8 w ++ take n.size (b ∷ l) ≡ number_bytes n.value
    go true t ih =
        let r : some (record { value = w * 128 + b; size = 1 }) ≡ some n = sym (groups-last k w b l (ltb-true b 128 t)) ∙ e in
        rw (← some-value _ n r, ← some_size _ n r) (number_bytes-push w b (ltb-true b 128 t))
    go false t ih =
        let lo : 128 ≤ b = ltb-false b 128 t in
        let hi : b < 256 = bytes 0 in
        let r = longer-some _ n (sym (groups-more k w b l lo) ∙ e) in
        let kp : 1 ≤ k = groups-positive k _ l r.0 r.1 in
        let first : w ≡ 0 → b ≡ 128 → ⊥ = λ z. padded-not b l (short z) in
        let small : w < 128 ^ 7 = lt_of_lt_of_le h (pow-le-pow_right (lit< tt) {i = j} {j = 7} (omega arith)) in
        let below : w * 128 + (b - 128) < 128 ^ suc j = rw (pow-suc 128 j) (omega arith) in
        one_pushed w b l r.0 n r.2 r.3 small lo hi first
        (ih r.0 below (omega arith) (λ z. absurd (first (omega arith) (omega arith))) r.1)

-- a number read takes at least one byte and no more than there are, or than were asked for
pub groups-size : (k w : ℕ) (l : List ℕ) (n : Number) → groups k w l ≡ some n →
    (1 ≤ n.size) × (n.size ≤ k) × (n.size ≤ length l)
unfolding groups
groups-size zero w l n e = absurd (none-some n e)
groups-size (suc k) w [] n e = absurd (none-some n e)
groups-size (suc k) w (b ∷ l) n e = go (ltb b 128) refl (groups-size k (w * 128 + (b - 128)) l)
  where
    go : (t : Bool) → ltb b 128 ≡ t →
        ((m : Number) → groups k (w * 128 + (b - 128)) l ≡ some m → (1 ≤ m.size) × (m.size ≤ k) × (m.size ≤ length l)) →
        (1 ≤ n.size) × (n.size ≤ suc k) × (n.size ≤ suc (length l))
    go true t ih =
        let r = some_size _ n (sym (groups-last k w b l (ltb-true b 128 t)) ∙ e) in
        omega (arith, r)
    go false t ih =
        let r = longer-some _ n (sym (groups-more k w b l (ltb-false b 128 t)) ∙ e) in
        omega (arith, r.3, ih r.0 r.1)
