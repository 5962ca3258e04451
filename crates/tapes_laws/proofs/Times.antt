-- Bytes of numbers, pure.
use Rattle.machine.specs.All.{ℕ, List, [], ◌∷◌, ◌++◌, append_assoc, ◌≡◌, refl, ap, ◌∙◌, flat, number_bytes, sym}
use Rattle.codec.specs.{Writing.written, Writing.Written}
use Rattle.tapes_laws.specs.{bytes_of}

-- the position after a number
pub written_at : (p q : ℕ) (l m : List ℕ) → written p l ≡ written q m → p ≡ q
unfolding written
written_at p q l m e = ap (λ (w : Written). w.at) e

-- ---- Bytes of numbers

pub bytes-none : bytes_of [] ≡ []
unfolding bytes_of flat
bytes-none = refl

pub bytes-cons : (x : ℕ) (l : List ℕ) → bytes_of (x ∷ l) ≡ number_bytes x ++ bytes_of l
unfolding bytes_of flat
bytes-cons x l = refl

pub bytes-append : (a b : List ℕ) → bytes_of (a ++ b) ≡ bytes_of a ++ bytes_of b
bytes-append [] b = rw bytes-none
bytes-append (x ∷ a) b =
    bytes-cons x (a ++ b) ∙ ap (λ (u : List ℕ). number_bytes x ++ u) (bytes-append a b)
    ∙ sym (append_assoc (number_bytes x) (bytes_of a) (bytes_of b)) ∙ ap (λ (u : List ℕ). u ++ bytes_of b) (sym (bytes-cons x a))
