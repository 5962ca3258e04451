-- A field, pure: the answer of `read_field` in the paper's terms; a number within the range reads back; what a field takes
-- is, written again, the same bytes.
use Rattle.machine.specs.All.{clash, ℕ, suc, ◌+◌, ◌≤◌, arith, Bool, true, false, cond, ◌&&◌, List, ◌++◌, Option, none, some, ◌≡◌, refl, sym, ap, ◌∙◌, leb, length, drop, take-append-drop, drop-append_seam, drop-drop, length-take-le, le-leb, leb-true, max_number_bytes, five_groups, Number, number_bytes, read_number, Cursor, Parsed, parsed, refused, field_of, field_up_to, take}
use Rattle.std.specs.Prelude.{Result, Ok, Err}
use Rattle.constants.specs.{declared.refusals.Refusal.Refusal, Numbers.refusal_number}
use Rattle.codec.specs.{cursor_at, parsed_of}
use Rattle.codec.proofs as our
use our.Groups.{Bytes, bytes_drop}
use our.Numbers.{number_bytes-length, number_bytes-reads, number_bytes-read, accepted}

-- ---- The answer

module _ (numbers mentions : ℕ) (r : Result (ℕ × ℕ) Refusal) {p : Parsed ℕ} (e : parsed_of numbers mentions r ≡ p) where
  pub value-parsed : {v next : ℕ} → r ≡ Ok (v, next) → p ≡ parsed v (cursor_at next numbers mentions)
  unfolding parsed_of
  value-parsed h = sym e ∙ ap (parsed_of numbers mentions) h

  pub refusal-parsed : {n : Refusal} → r ≡ Err n → p ≡ refused (refusal_number n)
  unfolding parsed_of
  refusal-parsed h = sym e ∙ ap (parsed_of numbers mentions) h

-- ---- Two tests in one

pub both_true : (a b : Bool) → a && b ≡ true → (a ≡ true) × (b ≡ true)
both_true true b e = (refl, e)
both_true false b e = clash (cc)

pub between : (lo v hi : ℕ) → leb lo v && leb v hi ≡ true → (lo ≤ v) × (v ≤ hi)
between lo v hi e =
    let t = both_true (leb lo v) (leb v hi) e in
    (leb-true lo v t.0, leb-true v hi t.1)

-- ---- Written, then read

-- what follows a number that stands at a position
pub drop_past : (s u rest : List ℕ) (at : ℕ) → drop at s ≡ u ++ rest → drop (at + length u) s ≡ rest
drop_past s u rest at e = sym (drop-drop (length u) at s) ∙ ap (drop (length u)) e ∙ drop-append_seam u rest

-- a field whose bytes stand there is read, and ends behind them
pub field-reads : (s rest : List ℕ) (most at v code lo hi numbers mentions : ℕ) →
    drop at s ≡ number_bytes v ++ rest → lo ≤ v → v ≤ hi → hi ≤ most → most ≤ five_groups →
    field_up_to most s code lo hi (cursor_at at numbers mentions) ≡ parsed v (cursor_at (at + length (number_bytes v)) numbers mentions)
unfolding field_up_to field_of
field-reads s rest most at v code lo hi numbers mentions e low high size groups =
    let fits = number_bytes-length 4 v (omega arith) in
    rw (e, number_bytes-reads max_number_bytes most v rest (omega arith) (omega arith) fits, le-leb lo v low, le-leb v hi high)

-- ---- Read, then written

-- what a field that was taken says of the bytes
pub record FieldTaken (s : List ℕ) (at lo hi v : ℕ) (after : Cursor) (numbers mentions : ℕ) : Type 0 where
  pub low : lo ≤ v
  pub high : v ≤ hi
  -- its bytes stand at the cursor
  pub bytes : drop at s ≡ number_bytes v ++ drop (at + length (number_bytes v)) s
  -- the cursor goes behind them
  pub cursor : after ≡ cursor_at (at + length (number_bytes v)) numbers mentions

-- what a field took were a number's shortest bytes, in its range
pub field-taken : (s : List ℕ) (most at v code lo hi numbers mentions : ℕ) (after : Cursor) → Bytes s →
    field_up_to most s code lo hi (cursor_at at numbers mentions) ≡ parsed v after → FieldTaken s at lo hi v after numbers mentions
unfolding field_up_to field_of
field-taken s most at v code lo hi numbers mentions after bytes e =
    go (read_number max_number_bytes most (drop at s)) refl e
  where
    found : (n : Number) → read_number max_number_bytes most (drop at s) ≡ some n → (t : Bool) →
        leb lo n.value && leb n.value hi ≡ t →
        cond t (parsed n.value (cursor_at (at + n.size) numbers mentions)) (refused (suc code)) ≡ parsed v after →
        FieldTaken s at lo hi v after numbers mentions
    found n f true t g =
        let ev : n.value ≡ v = cc in
        let ec : cursor_at (at + n.size) numbers mentions ≡ after = cc in
        let inside = (accepted max_number_bytes most (drop at s) n f).inside in
        let nb : number_bytes v ≡ take n.size (drop at s) =
        ap number_bytes (sym ev) ∙ number_bytes-read max_number_bytes most (drop at s) n (omega arith) (bytes_drop at s bytes) f in
        let len : length (number_bytes v) ≡ n.size = ap length nb ∙ length-take-le n.size (drop at s) inside in
        let range = between lo n.value hi t in
        record {
          low = rw ev at range.0;
          high = rw ev at range.1;
          bytes =
              sym (take-append-drop n.size (drop at s))
              ∙ ap (λ (u : List ℕ). u ++ drop n.size (drop at s)) (sym nb)
              ∙ ap (λ (u : List ℕ). number_bytes v ++ u)
              (drop-drop n.size at s ∙ ap (λ (m : ℕ). drop (at + m) s) (sym len));
          cursor = sym ec ∙ ap (λ (m : ℕ). cursor_at (at + m) numbers mentions) (sym len);
        }
    found n f false t g = clash (cc)

    go : (o : Option Number) → read_number max_number_bytes most (drop at s) ≡ o →
        field_of code lo hi o (cursor_at at numbers mentions) ≡ parsed v after → FieldTaken s at lo hi v after numbers mentions
    go none f g = clash (cc)
    go (some n) f g = found n f (leb lo n.value && leb n.value hi) refl g
