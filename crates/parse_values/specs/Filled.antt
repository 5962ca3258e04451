-- Several things, read one after the other and stored in rows of one width.
use Rattle.std.specs.Prelude.{◌+◌, ◌≡◌, ◌∷◌, Ok}
use Rattle.machine.specs.All.{ℕ, zero, suc, List, [], sets, Parsed, parsed, refused, Parser, continue}
use Rattle.parse_values.specs.{declared.Place.Place, Keeps.Stored, Keeps.Refuses, Keeps.place_of, Keeps.Shape}

module _ {A : Type 0} where
  -- `left` things, the first of them thing k
  unfoldable pub rows_field : (ℕ → Parser A) → (left k : ℕ) → Parser (List A)
  rows_field p zero k = λ c. parsed [] c
  rows_field p (suc left) k = λ c. continue (p k c) (λ a d. continue (rows_field p left (suc k) d) (λ l e. parsed (a ∷ l) e))

  abbrev pub all_named : (ℕ → A → ℕ) → ℕ → List A → ℕ
  all_named named n [] = n
  all_named named n (a ∷ l) = all_named named (named n a) l

  -- rows of w cells from a place on
  abbrev pub stored_rows : (A → List ℕ) → (w at : ℕ) → List A → List ℕ → List ℕ
  stored_rows numbers w at [] cells = cells
  stored_rows numbers w at (a ∷ l) cells = stored_rows numbers w (at + w) l (sets cells at (numbers a))

  abbrev pub Each : (A → Type 0) → List A → Type 0
  Each holds [] = Unit {0}
  Each holds (a ∷ l) = holds a × Each holds l

  abbrev pub HeldRows : Shape A → (A → Type 0) → (w at : ℕ) → Place → (cells after : List ℕ) → Stored → Parsed (List A) → Type 0
  HeldRows sh holds w at p cells after r (parsed l c) =
      (r ≡ Ok (place_of c (all_named sh.named p.named l))) × (after ≡ stored_rows sh.numbers w at l cells) × Each holds l
  HeldRows sh holds w at p cells after r (refused n) = Refuses r n

  pub record Filled (sh : Shape A) (holds : A → Type 0) (w at : ℕ) (p : Place) (cells after : List ℕ) (r : Stored)
      (P : Parsed (List A)) : Type 0 where
    pub held : HeldRows sh holds w at p cells after r P
