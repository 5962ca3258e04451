-- The rows of a block's list are its gatherers; what is asked of the rows of one family, and what one of them changes, is what the machine
-- asks and changes.
use Rattle.machine.specs.All.{ℕ, ◌≡◌, refl, ap, Bool, true, false, List, [], ◌∷◌, ◌++◌, map, arith, eqb, length, Transaction, Gatherer, those, replace_first, in_family, Each}
use Rattle.rows_laws.specs.All.{read, transaction_at, All}
use Rattle.rows_laws.proofs.ByKind.Families.{Other}
use Rattle.state.specs.All.{gatherer_row}
use mathlib.Core.Path.{sym, ◌∙◌}
use lib.ListN.{get_or, drop}

module _ (w : List ℕ) where
  abbrev pub Match : List ℕ → List Gatherer → Type 0
  Match l gatherers = map (transaction_at w) l ≡ map gatherer_row gatherers

  match-one : (k : ℕ) (l : List ℕ) (g : Gatherer) (gs : List Gatherer) → Match (k ∷ l) (g ∷ gs)
      → (transaction_at w k ≡ gatherer_row g) × Match l gs
  match-one k l g gs e = (ap (λ (m : List Transaction). get_or m 0 (transaction_at w k)) e, ap (λ (m : List Transaction). drop 1 m) e)

  family-read : (k : ℕ) (g : Gatherer) → transaction_at w k ≡ gatherer_row g → read w 10 k ≡ g.who.family
  unfolding transaction_at
  family-read k g e = ap (λ (t : Transaction). t.family) e

  -- ---- One of them between the others

  pub record Split (gatherers : List Gatherer) (a b : List ℕ) (k : ℕ) : Type 0 where
    pub ahead : List Gatherer
    pub one : Gatherer
    pub behind : List Gatherer
    pub parts : gatherers ≡ ahead ++ one ∷ behind
    pub before : Match a ahead
    pub here : transaction_at w k ≡ gatherer_row one
    pub after : Match b behind

  -- the rows in front of row k are the gatherers in front of its own
  pub split : (a b : List ℕ) (k : ℕ) (gs : List Gatherer) → Match (a ++ k ∷ b) gs → Split gs a b k
  split [] b k [] e = absurd (omega (arith, ap (λ (m : List Transaction). length m) e))
  split [] b k (g ∷ gs) e =
      let x = match-one k b g gs e in
      record { ahead = []; one = g; behind = gs; parts = refl; before = refl; here = x.0; after = x.1 }
  split (j ∷ a) b k [] e = absurd (omega (arith, ap (λ (m : List Transaction). length m) e))
  split (j ∷ a) b k (g ∷ gs) e =
      let x = match-one j (a ++ k ∷ b) g gs e in
      let r = split a b k gs x.1 in
      record {
        ahead = g ∷ r.ahead;
        one = r.one;
        behind = r.behind;
        parts = ap (λ (m : List Gatherer). g ∷ m) r.parts;
        before = both x.0 r.before;
        here = r.here;
        after = r.after;
      }
    where
      both : {t t' : Transaction} {l l' : List Transaction} → t ≡ t' → l ≡ l' → t ∷ l ≡ t' ∷ l'
      both {t} {t'} {l} {l'} e f = ap (λ (u : Transaction). u ∷ l) e ∙ ap (λ (m : List Transaction). t' ∷ m) f

  module _ (t : Transaction) where
    -- ---- None of the family

    pub none_of : (l : List ℕ) (gs : List Gatherer) → Match l gs → All (Other w t.family) l → Each (λ g. in_family t g ≡ false) gs
    unfolding All in_family
    none_of [] [] e h = tt
    none_of [] (g ∷ gs) e h = absurd (omega (arith, ap (λ (m : List Transaction). length m) e))
    none_of (k ∷ l) [] e h = absurd (omega (arith, ap (λ (m : List Transaction). length m) e))
    none_of (k ∷ l) (g ∷ gs) e h =
        let x = match-one k l g gs e in
        (ap (λ (f : ℕ). eqb f t.family) (sym (family-read k g x.0)) ∙ h.0, none_of l gs x.1 h.1)

    pub one_of : (k : ℕ) (g : Gatherer) → transaction_at w k ≡ gatherer_row g → eqb (read w 10 k) t.family ≡ true → in_family t g ≡ true
    unfolding in_family
    one_of k g e h = ap (λ (f : ℕ). eqb f t.family) (sym (family-read k g e)) ∙ h

module _ {A : Type 0} (p : A → Bool) where
  -- where nobody ahead passes, the first that passes is g
  pub those-first : (ahead : List A) (g : A) (behind : List A) → Each (λ g. p g ≡ false) ahead → p g ≡ true
      → those p (ahead ++ g ∷ behind) ≡ g ∷ those p behind
  unfolding those
  those-first [] g behind h e = rw e
  those-first (x ∷ ahead) g behind h e = rw h.0 (those-first ahead g behind h.1 e)

  -- only the first that passes is replaced
  pub replaced : (few ahead : List A) (g : A) (behind : List A) → Each (λ g. p g ≡ false) ahead → p g ≡ true
      → replace_first p few (ahead ++ g ∷ behind) ≡ ahead ++ (few ++ behind)
  unfolding replace_first
  replaced few [] g behind h e = rw e
  replaced few (x ∷ ahead) g behind h e = rw h.0 (ap (λ (m : List A). x ∷ m) (replaced few ahead g behind h.1 e))

pub each_at : (P : Gatherer → Type 0) (ahead : List Gatherer) (g : Gatherer) (behind : List Gatherer) → Each P (ahead ++ g ∷ behind) → P g
each_at P [] g behind h = h.0
each_at P (x ∷ ahead) g behind h = each_at P ahead g behind h.1
