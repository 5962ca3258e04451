-- The bytes of numbers and records are bytes.
use Rattle.machine.specs.All.{ℕ, zero, suc, ◌+◌, ◌/◌, ◌%◌, ◌<◌, arith, List, [], ◌∷◌, ◌++◌, eqb, eqb-true, eqb-false, upper, number_bytes, Record, record_bytes, trace_bytes_lem, Bool, true, false, ◌≡◌, refl}
use Rattle.codec.proofs.Groups.{Bytes, upper-zero, upper-step}

bytes-none : Bytes []
bytes-none i = omega arith

bytes_one : (x : ℕ) → x < 256 → Bytes (x ∷ [])
bytes_one x h zero = h
bytes_one x h (suc i) = omega arith

bytes-append : (u w : List ℕ) → Bytes u → Bytes w → Bytes (u ++ w)
bytes-append [] w h k = k
bytes-append (x ∷ u) w h k = go (bytes-append u w (λ i. h (suc i)) k)
  where
    go : Bytes (u ++ w) → Bytes (x ∷ (u ++ w))
    go rest zero = h zero
    go rest (suc i) = rest i

bytes-upper : (k v : ℕ) → Bytes (upper k v)
bytes-upper zero v = unfold upper in bytes-none
bytes-upper (suc k) v = go (eqb v 0) refl (bytes-upper k (v / 128))
  where
    go : (b : Bool) → eqb v 0 ≡ b → Bytes (upper k (v / 128)) → Bytes (upper (suc k) v)
    go true e h = rw (eqb-true v 0 e, upper-zero (suc k)) bytes-none
    go false e h =
        rw (upper-step k v (eqb-false v 0 e))
        (bytes-append (upper k (v / 128)) ((128 + v % 128) ∷ []) h (bytes_one (128 + v % 128) (omega arith)))

bytes-number : (v : ℕ) → Bytes (number_bytes v)
unfolding number_bytes
bytes-number v = bytes-append (upper 8 (v / 128)) (v % 128 ∷ []) (bytes-upper 8 (v / 128)) (bytes_one (v % 128) (omega arith))

bytes_record : (r : Record) → Bytes (record_bytes r)
unfolding record_bytes
bytes_record r =
    let a = number_bytes r.clock in
    let b = number_bytes r.transaction in
    let c = number_bytes r.block in
    bytes-append (a ++ b ++ c) (number_bytes r.outcome)
    (bytes-append (a ++ b) c (bytes-append a b (bytes-number r.clock) (bytes-number r.transaction)) (bytes-number r.block))
    (bytes-number r.outcome)

pub bytes-trace : (l : List Record) → Bytes (trace_bytes_lem l)
unfolding trace_bytes_lem
bytes-trace [] = bytes-none
bytes-trace (r ∷ l) = bytes-append (record_bytes r) (trace_bytes_lem l) (bytes_record r) (bytes-trace l)
