-- What a parser ensures: of whatever it gives, a claim; of whatever it refuses with, that it is a number from 1 to 10. One law for
-- each way to build a parser.
use Rattle.machine.specs.All.{ℕ, zero, suc, ◌≤◌, ◌≡◌, refl, Bool, true, false, cond, ◌&&◌, false≢true, List, Option, none, some, arith, leb-true, T, leb, length, Number, Cursor, Parsed, parsed, refused, Parser, continue, ◌>>=◌, give, refuse, ask, times, field_of, field_up_to, Each, drop, max_number_bytes, read_number, forward}
use Rattle.machine.proofs.{Basic.Bools.cond_cases}
pub use Rattle.machine.proofs.Basic.Bools.{and_true}

-- ---- Definition

abbrev pub Refusal : ℕ → Type 0
Refusal n = (1 ≤ n) × (n ≤ 10)

abbrev pub Gives : {A : Type 0} → (A → Type 0) → Parsed A → Type 0
Gives P (parsed a c) = P a
Gives P (refused n) = Refusal n

pub record Ensures {A : Type 0} (P : A → Type 0) (p : Parser A) : Type 0 where
  pub from : (c : Cursor) → Gives P (p c)

-- nothing but the refusals
abbrev pub Any : {A : Type 0} → A → Type 0
Any a = Unit {0}

-- ---- Ways to build a parser

continued : {A B : Type 0} (P : A → Type 0) (Q : B → Type 0) (r : Parsed A) (f : A → Parser B) → Gives P r
    → ((a : A) → P a → (c : Cursor) → Gives Q (f a c))
    → Gives Q (continue r f)
unfolding continue
continued P Q (parsed a c) f h k = k a h c
continued P Q (refused n) f h k = h

module _ {A : Type 0} where
  -- one parser behind another: the second may rest on what the first ensured
  pub then : {B : Type 0} {P : A → Type 0} {Q : B → Type 0} {p : Parser A} {f : A → Parser B} → Ensures P p
      → ((a : A) → P a → Ensures Q (f a))
      → Ensures Q (p >>= f)
  then {P = P} {Q = Q} {p = p} {f = f} e k = record { from = λ c. continued P Q (p c) f (e.from c) (λ a h c. (k a h).from c) }

  pub gives : {P : A → Type 0} {a : A} → P a → Ensures P (give a)
  gives h = record { from = λ c. h }

  pub refuses : {P : A → Type 0} (n : ℕ) → Refusal n → Ensures P (refuse n)
  refuses n h = record { from = λ c. h }

  -- each arm is read only under its answer of the test
  pub choice : {P : A → Type 0} (b : Bool) {p q : Parser A} → (b ≡ true → Ensures P p) → (b ≡ false → Ensures P q) → Ensures P (cond b p q)
  choice {P} b {p} {q} h k = cond_cases (Ensures P) b p q h k

  pub weaken : {P Q : A → Type 0} {p : Parser A} → ((a : A) → P a → Q a) → Ensures P p → Ensures Q p
  weaken {P} {Q} {p} f e = record { from = λ c. go (p c) (e.from c) }
    where
      go : (r : Parsed A) → Gives P r → Gives Q r
      go (parsed a c) h = f a h
      go (refused n) h = h

-- n times the same parser: a list of n, of which each is as that parser ensures
pub repeated : {A : Type 0} {P : A → Type 0} {p : Parser A} (n : ℕ) → Ensures P p → Ensures (λ l. (length l ≡ n) × Each P l) (times n p)
unfolding times
repeated zero e = gives (refl, tt)
repeated (suc n) e = then e (λ a h. then (repeated n e) (λ l k. gives (omega (arith, k.0), (h, k.1))))

-- whoever comes past a question knows its answer
pub asked : (b : Bool) (n : ℕ) → Refusal n → Ensures (λ u. T b) (ask b n)
unfolding ask
asked true n h = gives tt
asked false n h = refuses n h

-- ---- One number

field-of : (code lo hi : ℕ) → 1 ≤ code → code ≤ 9 → (o : Option Number) (c : Cursor)
    → Gives (λ n. (lo ≤ n) × (n ≤ hi)) (field_of code lo hi o c)
unfolding field_of
field-of code lo hi low high none c = (omega arith, omega arith)
field-of code lo hi low high (some n) c =
    cond_cases (Gives (λ n. (lo ≤ n) × (n ≤ hi))) (leb lo n.value && leb n.value hi) (parsed n.value (forward c n.size))
    (refused (suc code))
    (λ e.
    let tests = and_true (leb lo n.value) (leb n.value hi) e in
    (leb-true lo n.value tests.0, leb-true n.value hi tests.1))
    (λ e. (omega arith, omega arith))

pub in-range : (most : ℕ) (s : List ℕ) (code lo hi : ℕ) → 1 ≤ code → code ≤ 9
    → Ensures (λ n. (lo ≤ n) × (n ≤ hi)) (field_up_to most s code lo hi)
unfolding field_up_to
in-range most s code lo hi low high =
    record { from = λ c. field-of code lo hi low high (read_number max_number_bytes most (drop c.position s)) c }
