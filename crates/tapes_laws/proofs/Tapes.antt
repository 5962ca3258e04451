-- A whole tape, pure: its bytes list by list.
use Rattle.machine.specs.All.{ℕ, List, [], ◌∷◌, ◌++◌, ◌≡◌, ap, ◌∙◌, number_bytes}
use Rattle.tapes_laws.specs.{state_after, Listed, list_numbers, tape_numbers, tape_bytes, times_bytes, times_of}
use Rattle.tapes_laws.proofs as our
use our.Times.{bytes-none, bytes-cons, bytes-append}

-- ---- One list, and the rest

pub tape-none : (r : ℕ) → tape_bytes [] r ≡ []
unfolding tape_numbers
tape-none r = bytes-none

abbrev pub behind : Listed → ℕ → ℕ
behind x r = state_after x.source x.count r

pub tape-step : (x : Listed) (ls : List Listed) (r : ℕ) →
    tape_bytes (x ∷ ls) r ≡ number_bytes x.count ++ (times_bytes x.source x.count r ++ tape_bytes ls (behind x r))
unfolding tape_numbers list_numbers
tape-step x ls r =
    bytes-cons x.count (times_of x.source x.count r ++ tape_numbers ls (behind x r))
    ∙ ap (λ (u : List ℕ). number_bytes x.count ++ u) (bytes-append (times_of x.source x.count r) (tape_numbers ls (behind x r)))
