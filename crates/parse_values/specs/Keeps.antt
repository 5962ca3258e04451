-- What reading and storing gives: by cases on what a parser of the machine gives, the answer, the cells of the tables and
-- what else is known of the thing that was read.
use Rattle.std.specs.Prelude.{◌+◌, ◌-◌, ◌≤◌, ◌<◌, ◌≡◌, ◌∷◌, Result, Ok, IsErrAnd}
use Rattle.machine.specs.All.{ℕ, suc, List, [], sets, max_value_numbers, Cursor, Parsed, parsed, refused}
use Rattle.constants.specs.{declared.refusals.Refusal.Refusal, Numbers.refusal_number}
use Rattle.layout.specs.All.{word_end}
use Rattle.parse_values.specs.declared.Place.{Place}

abbrev pub cursor_of : Place → Cursor
cursor_of p = record { position = p.position; numbers = p.numbers; mentions = p.mentions }

abbrev pub place_of : Cursor → ℕ → Place
place_of c named = record { position = c.position; numbers = c.numbers; mentions = c.mentions; named = named }

-- what reading gives: a number and the place behind it, or the place alone
abbrev pub Taken : Type 0
Taken = Result (ℕ × Place) Refusal

abbrev pub Stored : Type 0
Stored = Result Place Refusal

-- the refusal of a number
abbrev pub Refuses : {A : Type 0} → Result A Refusal → ℕ → Type 0
Refuses r n = IsErrAnd r (λ x. refusal_number x ≡ n)

-- How a thing is kept: the numbers that stand for it, the largest block that it names besides those named before, and
-- what is known of it.
pub record Shape (A : Type 0) : Type 1 where
  pub numbers : A → List ℕ
  pub named : ℕ → A → ℕ
  pub fact : Place → A → Cursor → Type 0

abbrev pub Held : {A : Type 0} → Shape A → (A → Place → Type 0) → (ℕ → Type 0) → Place → ℕ → (cells after : List ℕ) → Parsed A → Type 0
Held sh done stopped p to cells after (parsed a c) =
    done a (place_of c (sh.named p.named a)) × (after ≡ sets cells to (sh.numbers a)) × sh.fact p a c
Held sh done stopped p to cells after (refused n) = stopped n

-- a number, with its value in the answer
pub record Takes (sh : Shape ℕ) (p : Place) (to : ℕ) (cells after : List ℕ) (r : Taken) (P : Parsed ℕ) : Type 0 where
  pub held : Held sh (λ v q. r ≡ Ok (v, q)) (λ n. Refuses r n) p to cells after P

-- a thing that stands in the tables only
pub record Stores {A : Type 0} (sh : Shape A) (p : Place) (to : ℕ) (cells after : List ℕ) (r : Stored) (P : Parsed A) : Type 0 where
  pub held : Held sh (λ a q. r ≡ Ok q) (λ n. Refuses r n) p to cells after P

-- ---- Numbers

-- what is stored for lo to hi fits 32 bits
abbrev pub Fits : ℕ → ℕ → ℕ → Type 0
Fits lo hi above = hi + above < word_end + lo

-- a number that is not stored
abbrev pub plain_shape : ℕ → ℕ → Shape ℕ
plain_shape lo hi =
    record { numbers = λ v. []; named = λ n v. n; fact = λ p v c. (lo ≤ v) × (v ≤ hi) × (c.numbers ≡ p.numbers) }

-- a number that is stored, less lo and plus more
abbrev pub number_shape : ℕ → ℕ → ℕ → Shape ℕ
number_shape lo hi plus =
    record { numbers = λ v. (plus + (v - lo)) ∷ []; named = λ n v. n; fact = λ p v c. (lo ≤ v) × (v ≤ hi) × (c.numbers ≡ p.numbers) }

-- the same in a value, where it counts
abbrev pub counted_shape : ℕ → ℕ → ℕ → Shape ℕ
counted_shape lo hi plus =
    record {
      numbers = λ v. (plus + (v - lo)) ∷ [];
      named = λ n v. n;
      fact = λ p v c. (lo ≤ v) × (v ≤ hi) × (c.numbers ≡ suc p.numbers) × (p.numbers < max_value_numbers);
    }
