-- The numbers of a report, one after the other.
use Rattle.machine.specs.All.{clash, ℕ, suc, ◌+◌, ◌-◌, ◌≤◌, ◌<◌, arith, List, ◌∷◌, ◌≡◌, refl, sym, ap, ◌∙◌, set, drop, sets, max_report_number_bytes, max_report_number, read_number, Validation, accept, reject}
use Rattle.constants.specs.declared.model.Model.{Model}
use Rattle.std.specs.Prelude.{Option, Some, None, Ok, Err}
use Rattle.std.specs.Result.{result_unwrap_or}
use Rattle.codec.specs.Answers.{number_of}
use Rattle.decode.specs.{Models.Decoded, Decodes.Decodes}
use Rattle.runmodel.specs.declared.printing.Field.{Field}
use Rattle.runmodel.specs.{field_of, field_at, numbers_at, behind_numbers, behind_things, header_for}

-- ---- One number

abbrev field : ℕ → ℕ → Field
field value next = record { value = value; next = next }

module _ (s : List ℕ) (at : ℕ) (r : Option (ℕ × ℕ)) (e : number_of at r ≡ read_number max_report_number_bytes max_report_number (drop at s)) where
  pub field-none : r ≡ None → field 0 at ≡ field_at s at
  unfolding field_at field_of number_of
  field-none q = rw (← e, q)

  pub field-read : (v next : ℕ) → r ≡ Some (v, next) → at < next → field v next ≡ field_at s at
  unfolding field_at field_of number_of
  field-read v next q h = rw (← e, q) (ap (field v) (omega arith))

-- ---- From one number to the next

none_yet : (n : ℕ) → n - 0 ≡ n
none_yet n = omega arith

module _ (s : List ℕ) where
  -- of n steps, k are done
  next-behind : (n at : ℕ) → behind_numbers s (suc n) at ≡ behind_numbers s n (field_at s at).next
  unfolding behind_numbers
  next-behind n at = refl

  next_things : (count n at : ℕ) → behind_things s count (suc n) at ≡ behind_things s count n (behind_numbers s count at)
  unfolding behind_things
  next_things count n at = refl

  -- the loops over the report's numbers begin with all of them
  pub behind-start : (n at : ℕ) → behind_numbers s (n - 0) at ≡ behind_numbers s n at
  behind-start n at = ap (λ (k : ℕ). behind_numbers s k at) (none_yet n)

  pub things-start : (count n at : ℕ) → behind_things s count (n - 0) at ≡ behind_things s count n at
  things-start count n at = ap (λ (k : ℕ). behind_things s count k at) (none_yet n)

  pub stored-start : (n at : ℕ) (l : List ℕ) → sets l 1 (numbers_at s (n - 0) at) ≡ sets l 1 (numbers_at s n at)
  stored-start n at l = ap (λ (k : ℕ). sets l 1 (numbers_at s k at)) (none_yet n)

  -- one number, and the others
  pub behind-on : (n k at next whole : ℕ) → k < n → next ≡ (field_at s at).next → behind_numbers s (n - k) at ≡ whole
      → behind_numbers s (n - (k + 1)) next ≡ whole
  behind-on n k at next whole h e so_far =
      let left : n - k ≡ suc (n - (k + 1)) = omega arith in
      ap (behind_numbers s (n - (k + 1))) e ∙ sym (next-behind (n - (k + 1)) at) ∙ ap (λ (i : ℕ). behind_numbers s i at) (sym left) ∙ so_far

  pub things-on : (count n k at next whole : ℕ) → k < n → next ≡ behind_numbers s count at → behind_things s count (n - k) at ≡ whole
      → behind_things s count (n - (k + 1)) next ≡ whole
  things-on count n k at next whole h e so_far =
      let left : n - k ≡ suc (n - (k + 1)) = omega arith in
      ap (behind_things s count (n - (k + 1))) e ∙ sym (next_things count (n - (k + 1)) at)
      ∙ ap (λ (i : ℕ). behind_things s count i at) (sym left) ∙ so_far

  -- none is left
  pub behind-done : (n k at whole : ℕ) → n ≤ k → behind_numbers s (n - k) at ≡ whole → at ≡ whole
  unfolding behind_numbers
  behind-done n k at whole h so_far = let none : 0 ≡ n - k = omega arith in ap (λ (i : ℕ). behind_numbers s i at) none ∙ so_far

  pub things-done : (count n k at whole : ℕ) → n ≤ k → behind_things s count (n - k) at ≡ whole → at ≡ whole
  unfolding behind_things
  things-done count n k at whole h so_far = let none : 0 ≡ n - k = omega arith in ap (λ (i : ℕ). behind_things s count i at) none ∙ so_far

  -- ---- Numbers stored one after the other

  pub stored_on : (n k at value next : ℕ) (l whole : List ℕ) → k < n
      → field value next ≡ field_at s at → sets l (k + 1) (numbers_at s (n - k) at) ≡ whole
      → sets (set l (k + 1) value) (k + 1 + 1) (numbers_at s (n - (k + 1)) next) ≡ whole
  unfolding numbers_at
  stored_on n k at value next l whole h e so_far =
      let left : suc (n - (k + 1)) ≡ n - k = omega arith in
      let place : k + 1 + 1 ≡ suc (k + 1) = omega arith in
      ap (λ (i : ℕ). sets (set l (k + 1) value) i (numbers_at s (n - (k + 1)) next)) place
      ∙ ap (λ (f : Field). sets l (k + 1) (f.value ∷ numbers_at s (n - (k + 1)) f.next)) e
      ∙ ap (λ (i : ℕ). sets l (k + 1) (numbers_at s i at)) left
      ∙ so_far

  pub stored-done : (n k at : ℕ) (l whole : List ℕ) → n ≤ k → sets l (k + 1) (numbers_at s (n - k) at) ≡ whole → l ≡ whole
  unfolding numbers_at
  stored-done n k at l whole h so_far =
      let none : 0 ≡ n - k = omega arith in ap (λ (i : ℕ). sets l (k + 1) (numbers_at s i at)) none ∙ so_far

-- ---- The header

-- the header that is printed with is the accepted model's, or all zeros
pub header-of : (tape tables lists : List ℕ) (r : Decoded) (none : Model) (a : Validation) → Decodes tape r tables lists a
    → (none.facilities ≡ 0) × (none.storages ≡ 0) × (none.queues ≡ 0) × (none.values ≡ 0) × (none.lists ≡ 0) × (none.counter ≡ 0)
    × (none.blocks ≡ 0)
    → result_unwrap_or r none ≡ header_for a
unfolding header_for
header-of tape tables lists (Ok h) none (accept m times) d z = let e = d.0 in cc
header-of tape tables lists (Err x) none (accept m times) d z = let e = d.0 in clash (cc)
header-of tape tables lists (Ok h) none (reject k) d z = absurd d
header-of tape tables lists (Err x) none (reject k) d z =
    λ i. record {
      facilities = z.0 i;
      storages = z.1 i;
      queues = z.2 i;
      values = z.3 i;
      lists = z.4 i;
      counter = z.5 i;
      blocks = z.6 i;
    }
