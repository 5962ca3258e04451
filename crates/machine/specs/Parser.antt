-- Reading number by number: "whole, shortest, in size?", then "within its field's range?", each asked before the next
-- number is read. The byte list is fixed and a cursor is passed along, so the order of refusals is the order of the text.
use Rattle.std.specs.Prelude.{◌+◌, ◌&&◌, ◌∷◌}
use Rattle.machine.specs.Basics.{ℕ, zero, suc, Bool, true, false, cond, List, [], Option, none, some, leb, drop}
use Rattle.machine.specs.Limits as Limits
use Rattle.machine.specs.Number.{Number, read_number}

-- Where reading stands: the position and, inside a value, how many of its numbers and mentions of values were read.
pub record Cursor : Type 0 where
  pub position : ℕ
  pub numbers : ℕ
  pub mentions : ℕ

pub data Parsed (A : Type 0) : Type 0 where
  parsed : A → Cursor → Parsed A
  refused : ℕ → Parsed A

abbrev pub Parser : Type 0 → Type 0
Parser A = Cursor → Parsed A

-- ---- One after the other

unfoldable pub continue : {A B : Type 0} → Parsed A → (A → Parser B) → Parsed B
continue (parsed a c) f = f a c
continue (refused n) f = refused n

infixl 20 ◌>>=◌
abbrev pub ◌>>=◌ : {A B : Type 0} → Parser A → (A → Parser B) → Parser B
◌>>=◌ p f = λ c. continue (p c) f

infixl 20 ◌>>◌
abbrev pub ◌>>◌ : {A B : Type 0} → Parser A → Parser B → Parser B
◌>>◌ p q = p >>= λ a. q

abbrev pub give : {A : Type 0} → A → Parser A
give a = λ c. parsed a c

abbrev pub refuse : {A : Type 0} → ℕ → Parser A
refuse n = λ c. refused n

-- go on where the answer is yes
unfoldable pub ask : Bool → ℕ → Parser (Unit {0})
ask true n = give tt
ask false n = refuse n

-- n things, one after the other
unfoldable pub times : {A : Type 0} → ℕ → Parser A → Parser (List A)
times zero p = give []
times (suc n) p = do
  a ← p
  l ← times n p
  give (a ∷ l)

-- ---- One number

abbrev pub forward : Cursor → ℕ → Cursor
forward c size = record { position = c.position + size; numbers = c.numbers; mentions = c.mentions }

unfoldable pub field_of : ℕ → ℕ → ℕ → Option Number → Parser ℕ
field_of code lo hi none = refuse code
field_of code lo hi (some n) = λ c.
    cond (leb lo n.value && leb n.value hi) (parsed n.value (forward c n.size)) (refused (suc code))

-- A number from lo to hi: refusal `code` for one that is not whole, not shortest or above `most`, the next for one out of range.
-- The pairs of the paper are 3 and 4 for the model, 8 and 9 for the tape, 31 and 32 for the trace.
unfoldable pub field_up_to : (most : ℕ) → List ℕ → (code lo hi : ℕ) → Parser ℕ
field_up_to most s code lo hi = λ c. field_of code lo hi (read_number Limits.max_number_bytes most (drop c.position s)) c

-- one of the size that document 01 gives every number
abbrev pub field : List ℕ → (code lo hi : ℕ) → Parser ℕ
field s code lo hi = field_up_to Limits.max_number s code lo hi
