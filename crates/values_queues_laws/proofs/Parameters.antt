-- Parameters as bits are the machine's signed ones, and whatever a term of a block is worth lies in the range of 32 bits.
use Rattle.machine.specs.All.{ℕ, zero, suc, ◌-◌, ◌≤◌, ◌<◌, ◌≡◌, Bool, true, false, List, [], ◌∷◌, ◌++◌, arith, ltb-true, ltb-false, T, ltb, leb→le, lit<, get_or, max_constant, View, server_at, queue_at, signed, wrap, one_if, Term, constant, minus_constant, parameter, clock_term, entries_of, content_of, units_in_use, units_free, facility_in_use, value, comparison, bracket, Sum, nothing, plus, minus, term, sum, worths, evaluate, Each}
use lib.IntN.{ℤ, pos, neg_ℤ}
use lib.Signed.{mag}
use mir.Syntax.{w32}
use mir.Val.{to_z}
use Rattle.machine.proofs.Runs.Shape.{each-get_or}
use Rattle.layout.specs.All.{small_term}
use Rattle.rows_laws.specs.All.{transaction_at}
use Rattle.evaluation.specs.Evaluation as Evaluation
use Rattle.evaluation.specs.{Nested.nested_term, Sees.parameters_of, Sees.Sees}
use Rattle.evaluation.proofs.Seen.{sees-entries, sees-content, sees_in_use, sees-free}
use Rattle.values_queues_laws.specs.{parameters_at}
use mathlib.Core.Path.{refl, ap, subst}
use mathlib.Core.Bool.{cond}
use lib.IntN.{negsuc}
use mir.Val.{sel}
use Rattle.machine.specs.Term.{idle_server, low32}
use Rattle.rows_laws.specs.Cells.{read}

-- ---- Parameters

pub signed_to_z : (n : ℕ) → signed n ≡ to_z w32 n
unfolding signed
signed_to_z n = go (ltb n 2147483648)
  where
    same : 4294967295 - n ≡ 4294967296 - suc n
    same = omega arith

    go : (b : Bool) → cond b (pos n) (negsuc (4294967295 - n)) ≡ sel b (pos n) (negsuc (4294967296 - suc n))
    go true = refl
    go false = ap negsuc same

pub parameters_are : (w : List ℕ) (k : ℕ) → parameters_of (parameters_at w k) ≡ (transaction_at w k).parameters
unfolding parameters_of parameters_at transaction_at
parameters_are w k =
    rw (signed_to_z (read w 2 k), signed_to_z (read w 3 k), signed_to_z (read w 4 k), signed_to_z (read w 5 k))

-- ---- The range

abbrev Small : ℤ → Type 0
Small z = mag z < 2147483648

signed-small : (n : ℕ) → Small (signed n)
unfolding signed
signed-small n = go (ltb n 2147483648) refl
  where
    go : (b : Bool) → ltb n 2147483648 ≡ b → Small (cond b (pos n) (negsuc (4294967295 - n)))
    go true e = ltb-true n 2147483648 e
    go false e = omega (arith, ltb-false n 2147483648 e)

parameters-small : (p : List ℕ) → Each Small (parameters_of p)
unfolding parameters_of
parameters-small [] = tt
parameters-small (n ∷ p) = (signed-small n, parameters-small p)

wrap-small : (z : ℤ) → Small (wrap z)
unfolding wrap
wrap-small z = signed-small (low32 z)

small-small : (n : ℕ) → Small (Evaluation.small n)
unfolding Evaluation.small
small-small n = go (ltb n 2147483648) refl
  where
    go : (b : Bool) → ltb n 2147483648 ≡ b → Small (cond b (pos n) (pos 0))
    go true e = ltb-true n 2147483648 e
    go false e = lit< tt

minus-small : (n : ℕ) → n ≤ max_constant → Small (neg_ℤ (pos n))
minus-small zero h = lit< tt
minus-small (suc n) h = omega arith

one-small : (b : Bool) → Small (one_if b)
one-small true = lit< tt
one-small false = lit< tt

each_append : (k l : List ℤ) → Each Small k → Each Small l → Each Small (k ++ l)
each_append [] l h g = g
each_append (x ∷ k) l h g = (h.0, each_append k l h.1 g)

module _ (w : View) (ps : List ℤ) where
  sum-small : (lower : List ℤ) (e : Sum) (z : ℤ) → Small z → Small (sum w ps lower e z)
  unfolding sum
  sum-small lower nothing z h = h
  sum-small lower (plus t e) z h = sum-small lower e _ (wrap-small _)
  sum-small lower (minus t e) z h = sum-small lower e _ (wrap-small _)

  worths-small : (l : List Sum) (lower : List ℤ) → Each Small lower → Each Small (worths w ps l lower)
  unfolding worths
  worths-small [] lower h = h
  worths-small (e ∷ l) lower h =
      worths-small l _ (each_append lower _ h (sum-small lower e (pos 0) (lit< tt), tt))

module _ {w : View} {tables tally : List ℕ} {clock : ℕ} (s : Sees w tables tally clock) (ps lower : List ℤ) (hp : Each Small ps)
    (hl : Each Small lower) where
  seen-small : (n : ℕ) (z : ℤ) → Evaluation.small n ≡ z → Small z
  seen-small n z e = subst Small e (small-small n)

  term-small : (t : Term) → T (small_term t) → T (nested_term 0 t) → Small (term w ps lower t)
  unfolding term small_term nested_term server_at queue_at
  term-small (constant n) small nested = omega (arith, leb→le n max_constant small)
  term-small (minus_constant n) small nested = minus-small n (leb→le n max_constant small)
  term-small (parameter k) small nested = each-get_or Small ps (k - 1) (pos 0) hp (lit< tt)
  term-small clock_term small nested = wrap-small _
  term-small (entries_of b) small nested = seen-small _ _ (sees-entries s (b - 1))
  term-small (content_of q) small nested = seen-small _ _ (sees-content s (q - 1))
  term-small (units_in_use v) small nested = seen-small _ _ (sees_in_use s (v - 1))
  term-small (units_free v) small nested = seen-small _ _ (sees-free s (v - 1))
  term-small (facility_in_use v) small nested = one-small (ltb 0 (get_or w.servers (v - 1) (idle_server 0)).in_use)
  term-small (value k) small nested = each-get_or Small lower (k - 1) (pos 0) hl (lit< tt)
  term-small (comparison r a b) small nested = absurd nested
  term-small (bracket e) small nested = absurd nested

-- whatever is evaluated fits into 32 bits with its sign
pub evaluate-small : {w : View} {tables tally : List ℕ} {clock : ℕ} → Sees w tables tally clock → (p : List ℕ) (values : List Sum)
    (t : Term) → T (small_term t)
    → T (nested_term 0 t)
    → mag (evaluate values w (parameters_of p) t) < 2147483648
unfolding evaluate
evaluate-small {w} s p values t = term-small s _ _ (parameters-small p) (worths-small w _ values [] tt) t
