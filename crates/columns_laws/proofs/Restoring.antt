-- The second walk over columns, pure: the records found, written one after the other, are the trace.
use Rattle.machine.specs.All.{ℕ, zero, suc, ◌+◌, ◌-◌, ◌≤◌, arith, List, ◌++◌, Option, ◌≡◌, refl, ap, ap₂, ◌∙◌, length, length-append, sets, length-sets, number_bytes, Record, record_bytes, trace_bytes_lem, ◌∷◌, sym}
use Rattle.machine.specs.Number as bytes
use Rattle.codec.specs.{Writing.put, Writing.written, Answers.number_of, Writing.Written}
use Rattle.codec.proofs.{Stores.sets-append, Writing.put-room}
use Rattle.trace.proofs.Writer.{record_bytes-length}
use Rattle.std.specs.{Prelude.Some, Prelude.None, Prelude.Option as Maybe, Option.unwrap_or}
use Rattle.columns_laws.specs.declared.walk.Walk.{Walk}
use Rattle.columns_laws.specs.{number_or, number_at, later, moved, found, passed, restore, restore_all, found_all, Moved}

-- ---- The number at a position, by the codec's answer

-- a number that is read, and the place behind it; else zero, at the same place
pub number_read : (at : ℕ) (x : Maybe (ℕ × ℕ)) {o : Option bytes.Number} → number_of at x ≡ o →
    ((v next : ℕ) → x ≡ Some (v, next) → at ≤ next) → unwrap_or x (0, at) ≡ number_or at o
unfolding number_or number_of
number_read at (Some (v, next)) e after =
    let n : next ≡ at + (next - at) = omega (arith, after v next refl) in
    rw (← e) (ap (λ (i : ℕ). (v, i)) n)
number_read at None e after = rw (← e) refl

-- ---- One step of the code

-- one number of each column is one record of the trace
pub restored : (s : List ℕ) (t : Walk) (d n b o : ℕ × ℕ) (clock p1 p2 p3 p4 : ℕ) (out o1 o2 o3 o4 : List ℕ) →
    d ≡ number_at s t.differences → n ≡ number_at s t.transactions → b ≡ number_at s t.blocks → o ≡ number_at s t.outcomes →
    clock ≡ later t.clock d.0 →
    written p1 o1 ≡ put clock (written t.at out) →
    written p2 o2 ≡ put n.0 (written p1 o1) →
    written p3 o3 ≡ put b.0 (written p2 o2) →
    written p4 o4 ≡ put o.0 (written p3 o3) →
    moved (record { at = p4; clock = clock; differences = d.1; transactions = n.1; blocks = b.1; outcomes = o.1 }) o4
    ≡ restore s t out
unfolding restore found passed
restored s t d n b o clock p1 p2 p3 p4 out o1 o2 o3 o4 ed en eb eo ec w1 w2 w3 w4 =
    rw (← ed, ← en, ← eb, ← eo, ← ec, ← w1, ← w2, ← w3, ← w4) (unfold written in refl)

pub restore-more : (left less : ℕ) (s : List ℕ) (t t' : Walk) (out out' : List ℕ) → left ≡ suc less → moved t' out' ≡ restore s t out →
    restore_all less s t' out' ≡ restore_all left s t out
restore-more left less s t t' out out' one e =
    first ∙ ap (λ (p : Moved). restore_all less s p.walk p.bytes) e ∙ last ∙ ap (λ (n : ℕ). restore_all n s t out) (sym one)
  where
    first : restore_all less s t' out' ≡ restore_all less s (moved t' out').walk (moved t' out').bytes
    first = unfold moved in refl

    last : restore_all less s (restore s t out).walk (restore s t out).bytes ≡ restore_all (suc less) s t out
    last = unfold restore_all in refl

pub restore-none : (left : ℕ) (s : List ℕ) (t : Walk) (out : List ℕ) → left ≤ 0 → out ≡ restore_all left s t out
unfolding restore_all
restore-none left s t out h = let e : left ≡ 0 = omega arith in rw e

-- ---- One record

module _ (r : Record) (at : ℕ) (out : List ℕ) (room : at + length (record_bytes r) ≤ length out) where
  -- its four numbers are its bytes
  pub record-put : put r.outcome (put r.block (put r.transaction (put r.clock (written at out))))
      ≡ written (at + length (record_bytes r)) (sets out at (record_bytes r))
  record-put =
      let a = number_bytes r.clock in
      let b = number_bytes r.transaction in
      let c = number_bytes r.block in
      let d = number_bytes r.outcome in
      let n = record_bytes-length r in
      let ab = length-append a b in
      let abc = length-append (a ++ b) c in
      let l1 = length-sets out at a in
      let l2 = length-sets out at (a ++ b) in
      let l3 = length-sets out at (a ++ b ++ c) in
      let p1 = put-room at r.clock out (omega arith) in
      let p2 : put r.transaction (written (at + length a) (sets out at a)) ≡ written (at + length (a ++ b)) (sets out at (a ++ b)) =
      put-room (at + length a) r.transaction (sets out at a) (omega arith) ∙ ap₂ written (omega arith) (sets-append a b out at) in
      let p3 : put r.block (written (at + length (a ++ b)) (sets out at (a ++ b)))
      ≡ written (at + length (a ++ b ++ c)) (sets out at (a ++ b ++ c)) =
      put-room (at + length (a ++ b)) r.block (sets out at (a ++ b)) (omega arith)
      ∙ ap₂ written (omega arith) (sets-append (a ++ b) c out at) in
      let p4 : put r.outcome (written (at + length (a ++ b ++ c)) (sets out at (a ++ b ++ c)))
      ≡ written (at + length (record_bytes r)) (sets out at (a ++ b ++ c ++ d)) =
      put-room (at + length (a ++ b ++ c)) r.outcome (sets out at (a ++ b ++ c)) (omega arith)
      ∙ ap₂ written (omega arith) (sets-append (a ++ b ++ c) d out at) in
      let all : a ++ b ++ c ++ d ≡ record_bytes r = unfold record_bytes in refl in
      ap (λ (w : Written). put r.outcome (put r.block (put r.transaction w))) p1
      ∙ ap (λ (w : Written). put r.outcome (put r.block w)) p2
      ∙ ap (put r.outcome) p3
      ∙ p4
      ∙ ap (λ (u : List ℕ). written (at + length (record_bytes r)) (sets out at u)) all

-- ---- All records

-- where the trace is written plays no part
found_at : (n : ℕ) (s : List ℕ) (t : Walk) (a b : ℕ) → found_all n s (passed s t a) ≡ found_all n s (passed s t b)
unfolding found_all found passed
found_at zero s t a b = refl
found_at (suc n) s t a b = ap (λ (l : List Record). found s (passed s t a) ∷ l) (found_at n s (passed s t a) a b)

-- all records restored are the trace
pub restored-all : (n : ℕ) (s : List ℕ) (t : Walk) (out : List ℕ) → t.at + length (trace_bytes_lem (found_all n s t)) ≤ length out →
    restore_all n s t out ≡ sets out t.at (trace_bytes_lem (found_all n s t))
restored-all zero s t out room = unfold restore_all found_all trace_bytes_lem in refl
restored-all (suc n) s t out room =
    step
    (restored-all n s (passed s t (t.at + length (record_bytes (found s t)))) (sets out t.at (record_bytes (found s t))))
  where
    r : Record
    r = found s t

    after : ℕ
    after = t.at + length (record_bytes r)

    rest : List ℕ
    rest = trace_bytes_lem (found_all n s (passed s t t.at))

    bytes-is : trace_bytes_lem (found_all (suc n) s t) ≡ record_bytes r ++ rest
    bytes-is = unfold found_all trace_bytes_lem in refl

    same : trace_bytes_lem (found_all n s (passed s t after)) ≡ rest
    same = ap trace_bytes_lem (found_at n s t after t.at)

    sum : length (trace_bytes_lem (found_all (suc n) s t)) ≡ length (record_bytes r) + length rest
    sum = ap length bytes-is ∙ length-append (record_bytes r) rest

    one : restore s t out ≡ moved (passed s t after) (sets out t.at (record_bytes r))
    one = unfold restore in rw (record-put r t.at out (omega (arith, sum))) (unfold written in refl)

    first : restore_all (suc n) s t out ≡ restore_all n s (restore s t out).walk (restore s t out).bytes
    first = unfold restore_all in refl

    last : restore_all n s (moved (passed s t after) (sets out t.at (record_bytes r))).walk
        (moved (passed s t after) (sets out t.at (record_bytes r))).bytes
        ≡ restore_all n s (passed s t after) (sets out t.at (record_bytes r))
    last = unfold moved in refl

    position : (passed s t after).at ≡ after
    position = unfold passed in refl

    step : ((passed s t after).at + length (trace_bytes_lem (found_all n s (passed s t after))) ≤ length (sets out t.at (record_bytes r)) →
        restore_all n s (passed s t after) (sets out t.at (record_bytes r))
        ≡ sets (sets out t.at (record_bytes r)) (passed s t after).at (trace_bytes_lem (found_all n s (passed s t after)))) →
        restore_all (suc n) s t out ≡ sets out t.at (trace_bytes_lem (found_all (suc n) s t))
    step again =
        first
        ∙ ap (λ (p : Moved). restore_all n s p.walk p.bytes) one
        ∙ last
        ∙ again (omega (arith, position, ap length same, sum, length-sets out t.at (record_bytes r)))
        ∙ ap₂ (λ (i : ℕ) (u : List ℕ). sets (sets out t.at (record_bytes r)) i u) position same
        ∙ sets-append (record_bytes r) rest out t.at
        ∙ ap (sets out t.at) (sym bytes-is)
