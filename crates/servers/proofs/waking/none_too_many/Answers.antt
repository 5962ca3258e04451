-- `none_too_many` meets its contract. The invariant: the blocks from here on tell it.
use Rattle.machine.specs.All.{ℕ, zero, suc, ◌+◌, ◌*◌, ◌<◌, ◌≡◌, ◌≢◌, refl, sym, ◌∙◌, true, false, List, arith, eq-eqb, ne_eqb, get_or}
use Rattle.servers_laws.specs.Waking.{too_many_lem, none_too_many}
use Rattle.servers.proofs.waking.none_too_many.Goals as goal

module _ (tables : List ℕ) (b v left : ℕ) where
  none_end : (n : ℕ) → n ≡ 0 → none_too_many n tables b v left ≡ true
  unfolding none_too_many
  none_end n e = rw e

  none-stop : (n : ℕ) → get_or tables (8 * b) 0 ≡ 0 → none_too_many n tables b v left ≡ true
  unfolding none_too_many
  none-stop zero is = refl
  none-stop (suc n) is = rw (eq-eqb _ 0 is)

  none_found : (n : ℕ) → 0 < n → get_or tables (8 * b) 0 ≢ 0 → too_many_lem tables (8 * b) v left ≡ true → none_too_many n tables b v left ≡ false
  unfolding none_too_many
  none_found zero some is found = absurd (omega arith)
  none_found (suc n) some is found = rw (ne_eqb _ 0 is, found)

  none-next : (n m : ℕ) → n ≡ suc m → get_or tables (8 * b) 0 ≢ 0 → too_many_lem tables (8 * b) v left ≡ false
      → none_too_many n tables b v left ≡ none_too_many m tables (b + 1) v left
  unfolding none_too_many
  none-next n m e is found = rw (e, ne_eqb _ 0 is, found)

pub returns-then-number-eq0 : goal.returns-then-number-eq0
returns-then-number-eq0 c =
    sym (none-stop _ _ _ _ _ (sym c.number.ensures ∙ c.if-number-eq0.true)) ∙ c.loop-b.invariant

pub returns-then-too_many : goal.returns-then-too_many
returns-then-too_many c =
    sym
    (none_found _ _ _ _ _ (omega arith) (λ e. c.if-number-eq0.false (c.number.ensures ∙ e))
    (sym c.too_many.ensures ∙ c.if-too_many.true))
    ∙ c.loop-b.invariant

pub loop-b-preserved : goal.loop-b-preserved
loop-b-preserved c =
    sym
    (none-next _ _ _ _ _ _ (omega arith) (λ e. c.if-number-eq0.false (c.number.ensures ∙ e))
    (sym c.too_many.ensures ∙ c.if-too_many.false))
    ∙ c.loop-b.invariant

pub returns : goal.returns
returns c = sym (none_end _ _ _ _ _ (omega arith)) ∙ c.loop-b.invariant
