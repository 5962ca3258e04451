-- One turn of the reading loop, pure: what the rest of the bytes gives is what is left after one more group.
-- And its numbers fit: a number of at most nine groups with `left` groups to come has (v + 1) * 128 ^ left ≤ 128 ^ 9.
use Rattle.machine.specs.All.{ℕ, zero, suc, ◌+◌, ◌*◌, ◌-◌, ◌^◌, ◌≤◌, ◌<◌, pow-suc, pow-le-pow_right, one-le-pow, mul_assoc, mul_comm, mul-le-mul_right, le-mul_of_pos_right, le_trans, one-mul, arith, Bool, true, false, cond, List, [], ◌∷◌, Option, none, some, ◌≡◌, refl, sym, ap, ◌∙◌, leb, lit<, length, drop, get_or, drop_of_length-le, drop-cons, Number, groups, longer, within}
use Rattle.std.specs.{Prelude.Some, Prelude.None, Prelude.Option as Maybe, Bool.then_some}
use Rattle.codec.specs.{read_as}
use Rattle.codec.proofs.Groups.{groups-last, groups-more}

-- the answer at p to the groups that begin there
abbrev pub at-groups : List ℕ → ℕ → ℕ → ℕ → ℕ → Maybe (ℕ × ℕ)
at-groups s most left v p = read_as p (within most (groups left v (drop p s)))

pub groups-empty : (k v : ℕ) → groups k v [] ≡ none
unfolding groups
groups-empty zero v = refl
groups-empty (suc k) v = refl

read-longer : (most p : ℕ) (o : Option Number) → read_as p (within most (longer o)) ≡ read_as (p + 1) (within most o)
unfolding within longer read_as
read-longer most p none = refl
read-longer most p (some n) = go (leb n.value most)
  where
    go : (t : Bool) →
        read_as p (cond t (some (record { value = n.value; size = suc n.size })) none) ≡ read_as (p + 1) (cond t (some n) none)
    go true = ap (λ (q : ℕ). Some (n.value, q)) (omega arith)
    go false = refl

module _ (s : List ℕ) (most v p : ℕ) where
  -- no byte there
  pub read-end : (left : ℕ) → length s ≤ p → at-groups s most left v p ≡ None
  unfolding within read_as
  read-end left h = rw (drop_of_length-le s h, groups-empty left v)

  -- no group to come
  pub read-limit : (left : ℕ) → left ≤ 0 → at-groups s most left v p ≡ None
  unfolding groups within read_as
  read-limit zero h = refl
  read-limit (suc k) h = absurd (omega arith)

  -- a byte at p, and `less` groups to come behind it
  module _ (left less b : ℕ) (one : left ≡ suc less) (inl : p < length s) (is : b ≡ get_or s p 0) where
    begins : groups left v (drop p s) ≡ groups (suc less) v (b ∷ drop (suc p) s)
    begins = rw (is, drop-cons s p 0 inl, one) refl

    pub read-last : b < 128 →
        at-groups s most left v p ≡ then_some (leb (v * 128 + b) most) (v * 128 + b, p + 1)
    unfolding within read_as
    read-last h = rw (begins, groups-last less v b _ h) (go (leb (v * 128 + b) most))
      where
        go : (t : Bool) →
            read_as p (cond t (some (record { value = v * 128 + b; size = 1 })) none)
            ≡ then_some t (v * 128 + b, p + 1)
        go true = refl
        go false = refl

    pub read_more : 128 ≤ b → at-groups s most left v p ≡ at-groups s most less (v * 128 + (b - 128)) (p + 1)
    read_more h =
        let next : suc p ≡ p + 1 = omega arith in
        rw (begins, groups-more less v b _ h)
        (read-longer most p _
        ∙ ap (λ (q : ℕ). read_as (p + 1) (within most (groups less (v * 128 + (b - 128)) (drop q s)))) next)

-- ---- The numbers fit

pub room-start : (limit : ℕ) → limit ≤ 9 → (0 + 1) * 128 ^ limit ≤ 128 ^ 9
room-start limit h = rw (one-mul (128 ^ limit)) (pow-le-pow_right (lit< tt) h)

room_split : (v left less : ℕ) → left ≡ suc less → (v + 1) * 128 ^ left ≡ (v + 1) * 128 * 128 ^ less
room_split v left less one =
    ap (λ (k : ℕ). (v + 1) * 128 ^ k) one
    ∙ ap (λ (x : ℕ). (v + 1) * x) (pow-suc 128 less ∙ mul_comm (128 ^ less) 128)
    ∙ sym (mul_assoc (v + 1) 128 (128 ^ less))

-- the value so far, with the groups that may still come, fits 64 bits
pub room-step : (v b left less : ℕ) → left ≡ suc less → b < 128 → (v + 1) * 128 ^ left ≤ 128 ^ 9 → (v * 128 + b + 1) * 128 ^ less ≤ 128 ^ 9
room-step v b left less one h room =
    let le : v * 128 + b + 1 ≤ (v + 1) * 128 = omega arith in
    le_trans (mul-le-mul_right (128 ^ less) le) (rw (room_split v left less one) at room)

-- and with the next one
pub room_fits : (v left less : ℕ) → left ≡ suc less → (v + 1) * 128 ^ left ≤ 128 ^ 9 → (v + 1) * 128 ≤ 128 ^ 9
room_fits v left less one room =
    le_trans (le-mul_of_pos_right ((v + 1) * 128) (one-le-pow less 128 (lit< tt))) (rw (room_split v left less one) at room)
