-- Pairs of open waits, the later one first, and one wait weighed alone.
use Rattle.machine.specs.All.{ℕ, ◌≤◌, ◌<◌, ◌≡◌, refl, sym, ap, inl, inr, Bool, true, false, ◌&&◌, List, [], ◌∷◌, map, arith, eqb, eqb-true, eq-eqb, bit}
use Rattle.machine.proofs as our
use our.Order.Records.{Key, Member, Behind}
use our.{Lists.Sums.sum_on, Order.Weights.Wait, Order.OpenWaits.Falling}

-- ---- Two open waits, the later one first

abbrev pub key : Wait → Key
key w = w.key

pub record Pair (l : List Wait) (older k : Key) : Type 0 where
  pub first : Wait
  pub second : Wait
  pub first_open : Member first l
  pub second_open : Member second l
  pub first_key : first.key ≡ older
  pub second_key : second.key ≡ k
  pub serials : first.serial < second.serial

falling_member : (n : ℕ) (w : Wait) (l : List Wait) → Falling n l → Member w l → w.serial < n
falling_member n w [] h i = absurd i
falling_member n w (x ∷ l) h (inl e) = omega (arith, ap (λ (y : Wait). y.serial) e)
falling_member n w (x ∷ l) h (inr i) = omega (arith, falling_member x.serial w l h.1 i)

member-key : (k : Key) (l : List Wait) → Member k (map key l) → (w : Wait) × Member w l × (w.key ≡ k)
member-key k [] h = absurd h
member-key k (x ∷ l) (inl e) = (x, inl refl, sym e)
member-key k (x ∷ l) (inr h) = let r = member-key k l h in (r.0, inr r.1, r.2)

-- two members of a falling list, where the older one stands behind
pub pair : (n : ℕ) (older k : Key) (l : List Wait) → Falling n l → Behind older k (map key l) → Pair l older k
pair n older k [] f h = absurd h
pair n older k (x ∷ l) f (inl h) =
    let r = member-key older l h.1 in
    record {
      first = r.0;
      second = x;
      first_open = inr r.1;
      second_open = inl refl;
      first_key = r.2;
      second_key = sym h.0;
      serials = falling_member x.serial r.0 l f.1 r.1;
    }
pair n older k (x ∷ l) f (inr h) =
    let r = pair x.serial older k l f.1 h in
    record {
      first = r.first;
      second = r.second;
      first_open = inr r.first_open;
      second_open = inr r.second_open;
      first_key = r.first_key;
      second_key = r.second_key;
      serials = r.serials;
    }

-- ---- One wait, weighed

unfoldable pub is : Wait → Wait → Bool
is a b =
    eqb a.key.number b.key.number && eqb a.key.block b.key.block && eqb a.key.priority b.key.priority
    && eqb a.serial b.serial

unfoldable pub only : Wait → Wait → ℕ
only a b = bit (is a b)

pub only_self : (a : Wait) → only a a ≡ 1
unfolding only is
only_self a =
    rw (eq-eqb a.key.number _ refl, eq-eqb a.key.block _ refl, eq-eqb a.key.priority _ refl, eq-eqb a.serial _ refl)

all-four : (a b c d : Bool) → 0 < bit (a && b && c && d) → (a ≡ true) × (b ≡ true) × (c ≡ true) × (d ≡ true)
all-four true true true true h = (refl, refl, refl, refl)
all-four true true true false h = absurd (omega arith)
all-four true true false d h = absurd (omega arith)
all-four true false c d h = absurd (omega arith)
all-four false b c d h = absurd (omega arith)

pub only-equal : (a b : Wait) → 0 < only a b → a ≡ b
unfolding only is
only-equal a b h =
    let e = all-four (eqb a.key.number b.key.number) (eqb a.key.block b.key.block)
    (eqb a.key.priority b.key.priority) (eqb a.serial b.serial) h in
    let number = eqb-true a.key.number b.key.number e.0 in
    let block = eqb-true a.key.block b.key.block e.1 in
    let priority = eqb-true a.key.priority b.key.priority e.2 in
    let serial = eqb-true a.serial b.serial e.3 in
    λ i. record { key = record { number = number i; block = block i; priority = priority i }; serial = serial i }

pub member-sum : (f : Wait → ℕ) (w : Wait) (l : List Wait) → Member w l → f w ≤ sum_on f l
member-sum f w [] h = absurd h
member-sum f w (x ∷ l) (inl e) = omega (arith, ap f e)
member-sum f w (x ∷ l) (inr h) = omega (arith, member-sum f w l h)
