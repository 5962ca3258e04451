-- The answers, pure: from the definition's number to the `Option`, and from that to a field.
use Rattle.machine.specs.All.{clash, ℕ, suc, ◌+◌, ◌-◌, ◌≤◌, ◌<◌, add-sub_cancel_left, arith, List, Option, none, some, ◌≡◌, refl, length, drop, get_or, drop_of_length-le, length-drop, drop-cons, eq-eqb, ne_eqb, le-leb, lt-leb, max_number_bytes, Number, groups, padded, within, read_number, parsed, refused, field_of, field_up_to, sym, ap, ◌∙◌}
use Rattle.constants.specs.{declared.refusals.Text.Text, Numbers.refusal_number, Numbers.malformed, Numbers.out_of_range}
use Rattle.constants.specs.declared.refusals.Text.TheVariants.{Model, Tape, Trace}
use Rattle.std.specs.Prelude.{Some, None, Result, Err, IsErrAnd, Option as Maybe}
use Rattle.std.specs.Option.{ok_or}
use Rattle.std.proofs.lemmas.Result.{err_from_is_err_and}
use Rattle.codec.specs.{number_of, read_as, cursor_at}
use Rattle.codec.proofs.{Numbers.Accepted, Numbers.accepted, Steps.groups-empty}

-- ---- Shortest form

module _ (s : List ℕ) (k most at : ℕ) where
  -- a read behind the end
  pub read_past : length s ≤ at → None ≡ read_as at (read_number k most (drop at s))
  unfolding read_number padded within read_as
  read_past h = rw (drop_of_length-le s h, groups-empty k 0)

  -- a number that begins with an empty group is not the shortest
  pub read-padded : at < length s → get_or s at 0 ≡ 128 → None ≡ read_as at (read_number k most (drop at s))
  unfolding read_number padded read_as
  read-padded h e = rw (drop-cons s at 0 h, eq-eqb (get_or s at 0) 128 e)

  pub read_unpadded : at < length s → (get_or s at 0 ≡ 128 → ⊥) →
      read_as at (within most (groups k 0 (drop at s))) ≡ read_as at (read_number k most (drop at s))
  unfolding read_number padded
  read_unpadded h n = rw (drop-cons s at 0 h, ne_eqb (get_or s at 0) 128 n)

-- ---- A number

number_of-read : (at : ℕ) (o : Option Number) → number_of at (read_as at o) ≡ o
unfolding number_of read_as
number_of-read at none = refl
number_of-read at (some n) = ap (λ (m : ℕ). some (record { value = n.value; size = m })) (add-sub_cancel_left at n.size)

module _ (s : List ℕ) (k most at : ℕ) (r : Maybe (ℕ × ℕ)) (e : r ≡ read_as at (read_number k most (drop at s))) where
  pub number-answer : number_of at r ≡ read_number k most (drop at s)
  number-answer = ap (number_of at) e ∙ number_of-read at _

  -- a number that is read is at most the limit, and ends inside the bytes
  pub number-inside : (v next : ℕ) → r ≡ Some (v, next) → (v ≤ most) × (at < next) × (next ≤ length s)
  unfolding read_as
  number-inside v next h = go (read_number k most (drop at s)) refl (sym h ∙ e)
    where
      go : (o : Option Number) → read_number k most (drop at s) ≡ o → Some (v, next) ≡ read_as at o →
          (v ≤ most) × (at < next) × (next ≤ length s)
      go none f g = clash (cc)
      go (some n) f g =
          let a : Accepted k most (drop at s) n = accepted k most (drop at s) n f in
          let same : ◌≡◌ {A = ℕ × ℕ} (v, next) (n.value, at + n.size) = cc in
          let ev : v ≡ n.value = ap (λ (p : ℕ × ℕ). p.0) same in
          let en : next ≡ at + n.size = ap (λ (p : ℕ × ℕ). p.1) same in
          grind (arith, simp length-drop at a.inside)

-- ---- What a `?` passes on

pub passed-on : {A E : Type 0} (r : Result A E) (x : E) → IsErrAnd r (λ y. y ≡ x) → r ≡ Err x
passed-on r x h = let p = err_from_is_err_and r h in p.1 ∙ ap Err p.2

-- where nothing is behind an `ok_or`
pub refused-by : {A B E : Type 0} (o : Maybe A) (e : E) (r : Result B E) (x : E) → IsErrAnd r (λ y. y ≡ x) → Err x ≡ ok_or o e → r ≡ Err e
refused-by None e r x h same = let is : x ≡ e = cc in passed-on r x h ∙ ap Err is
refused-by (Some y) e r x h same = clash (cc)

-- ---- A field

-- the two refusals of a text stand side by side
pub next_refusal : (text : Text) → refusal_number (out_of_range text) ≡ suc (refusal_number (malformed text))
next_refusal Model = refl
next_refusal Tape = refl
next_refusal Trace = refl

module _ (s : List ℕ) (most code lo hi at numbers mentions : ℕ) (r : Maybe (ℕ × ℕ))
    (e : number_of at r ≡ read_number max_number_bytes most (drop at s)) where
  -- the first of a field's two questions: no number
  pub field-unread : r ≡ None → refused code ≡ field_up_to most s code lo hi (cursor_at at numbers mentions)
  unfolding field_up_to field_of number_of
  field-unread h = rw (← e, h)

  module _ (v next : ℕ) (h : r ≡ Some (v, next)) where
    whole : read_number max_number_bytes most (drop at s) ≡ some (record { value = v; size = next - at })
    unfolding number_of
    whole = rw (← e, h)

    -- the second: below its range,
    pub field-low : v < lo → refused (suc code) ≡ field_up_to most s code lo hi (cursor_at at numbers mentions)
    unfolding field_up_to field_of
    field-low low = rw (whole, lt-leb lo v low)

    -- or above it
    pub field-high : lo ≤ v → hi < v → refused (suc code) ≡ field_up_to most s code lo hi (cursor_at at numbers mentions)
    unfolding field_up_to field_of
    field-high low high = rw (whole, le-leb lo v low, lt-leb v hi high)

    pub field-within : lo ≤ v → v ≤ hi → at < next
        → parsed v (cursor_at next numbers mentions) ≡ field_up_to most s code lo hi (cursor_at at numbers mentions)
    unfolding field_up_to field_of
    field-within low high after =
        let n : next ≡ at + (next - at) = omega arith in
        rw (whole, le-leb lo v low, le-leb v hi high) (ap (λ (p : ℕ). parsed v (cursor_at p numbers mentions)) n)
