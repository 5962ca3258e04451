-- A number at a position, pure: with room its bytes stand there, without room nothing changes.
use Rattle.machine.specs.All.{ℕ, ◌+◌, ◌≤◌, ◌<◌, arith, List, ◌≡◌, ap, ◌∙◌, leb, length, sets, length-sets, le-leb, lt-leb, leb-true, leb-false, number_bytes, Bool, true, false, refl}
use Rattle.codec.specs.{Written, written, put}

-- a number is put where there is room,
pub put-room : (at v : ℕ) (l : List ℕ) → at + length (number_bytes v) ≤ length l →
    put v (written at l) ≡ written (at + length (number_bytes v)) (sets l at (number_bytes v))
unfolding put written
put-room at v l h = rw (le-leb _ _ h)

-- and else not begun
pub put_full : (at v : ℕ) (l : List ℕ) → length l < at + length (number_bytes v) → put v (written at l) ≡ written at l
unfolding put written
put_full at v l h = rw (lt-leb _ _ h)

-- ---- What a caller learns

written_at : (p q : ℕ) (l m : List ℕ) → written p l ≡ written q m → p ≡ q
unfolding written
written_at p q l m e = ap (λ (w : Written). w.at) e

pub written-bytes : (p q : ℕ) (l m : List ℕ) → written p l ≡ written q m → l ≡ m
unfolding written
written-bytes p q l m e = ap (λ (w : Written). w.bytes) e

-- from a position inside the buffer it leads to one inside
pub put-inside : (at v r : ℕ) (l m : List ℕ) → at ≤ length l → written r m ≡ put v (written at l) → r ≤ length m
put-inside at v r l m h e = go (leb (at + length (number_bytes v)) (length l)) refl
  where
    go : (t : Bool) → leb (at + length (number_bytes v)) (length l) ≡ t → r ≤ length m
    go true f =
        let room = leb-true (at + length (number_bytes v)) (length l) f in
        let same = e ∙ put-room at v l room in
        omega (arith, written_at _ _ _ _ same, ap length (written-bytes _ _ _ _ same), length-sets l at (number_bytes v))
    go false f =
        let same = e ∙ put_full at v l (leb-false _ _ f) in
        omega (arith, written_at _ _ _ _ same, ap length (written-bytes _ _ _ _ same))
