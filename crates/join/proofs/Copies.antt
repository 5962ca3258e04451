-- Bytes copied one by one, pure.
use Rattle.machine.specs.All.{ℕ, suc, ◌+◌, ◌≤◌, ◌<◌, arith, ◌≡◌, sym, ap, ap₂, ◌∙◌, zero-add, List, [], ◌∷◌, ◌++◌, length, take, drop, set, get_or, sets, take-suc, take_all, append-nil, drop_of_length-le, length-take-le}
use Rattle.codec.proofs.Stores.{sets-append}
use Rattle.join_laws.proofs.Fitting.{front-sets}

module _ (s l : List ℕ) where
  -- the loop's invariant, one byte further
  pub copy_step : (i : ℕ) (m : List ℕ) → i < length s → m ≡ sets l 0 (take i s) → set m i (get_or s i 0) ≡ sets l 0 (take (i + 1) s)
  copy_step i m h e =
      let n : length (take i s) ≡ i = length-take-le i s (omega arith) in
      let next : suc i ≡ i + 1 = omega arith in
      ap (λ j. set m j (get_or s i 0)) (sym (zero-add i))
      ∙ ap₂ (λ u j. set u (0 + j) (get_or s i 0)) e (sym n) ∙ sets-append (take i s) (get_or s i 0 ∷ []) l 0
      ∙ ap (sets l 0) (sym (take-suc s i 0 h) ∙ ap (λ j. take j s) next)

  -- and at its end
  pub copy_done : (i : ℕ) (m : List ℕ) → length s ≤ i → length l ≡ length s → m ≡ sets l 0 (take i s) → m ≡ s
  copy_done i m high same e =
      let high-enough : length l ≤ length s = omega arith in
      e ∙ ap (sets l 0) (take_all i s high) ∙ front-sets s l (omega arith)
      ∙ ap (λ x. s ++ x) (drop_of_length-le l high-enough) ∙ append-nil s
