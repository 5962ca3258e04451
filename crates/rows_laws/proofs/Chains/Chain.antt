-- Chains of cells: what a chain needs of the buffer, and where it ends.
use Rattle.machine.specs.All.{ℕ, ◌≤◌, ◌≡◌, refl, ◌∙◌, ◌≢◌, List, [], ◌∷◌, ◌++◌, arith}
use Rattle.rows_laws.specs.All.{link, load, occurs, Chain, ending}
use Rattle.rows_laws.proofs.Counting.Occurs.{same_refl}

-- the rows of l, read from cell c' of another buffer, where the links of l are the same
pub chain-moved : (w w' : List ℕ) (c c' : ℕ) (l : List ℕ) → load w' c' ≡ load w c
    → ((j : ℕ) → 1 ≤ occurs j l → load w' (link j) ≡ load w (link j)) → Chain w c l
    → Chain w' c' l
unfolding Chain occurs
chain-moved w w' c c' [] e kept h = rw e h
chain-moved w w' c c' (k ∷ l) e kept h =
    (e ∙ h.0, h.1, chain-moved w w' (link k) (link k) l (kept k (omega (arith, same_refl k k refl))) (λ j m. kept j (omega arith)) h.2)

-- ---- Where it ends

-- the last cell of a chain of two parts is that of the second, read from the last cell of the first
pub ending-append : (c : ℕ) (a b : List ℕ) → ending c (a ++ b) ≡ ending (ending c a) b
unfolding ending
ending-append c [] b = refl
ending-append c (k ∷ a) b = ending-append (link k) a b

-- at its first cell, or at the link of one of its rows
pub data EndsAt (c : ℕ) (a : List ℕ) : Type 0 where
  start : ending c a ≡ c → EndsAt c a
  behind : (j : ℕ) → 1 ≤ occurs j a → ending c a ≡ link j → EndsAt c a

pub ends : (c : ℕ) (a : List ℕ) → EndsAt c a
unfolding ending occurs
ends c [] = start refl
ends c (k ∷ a) = go (ends (link k) a)
  where
    go : EndsAt (link k) a → EndsAt c (k ∷ a)
    go (start e) = behind k (omega (arith, same_refl k k refl)) e
    go (behind j m e) = behind j (omega arith) e

-- what follows a part of a chain
pub chain-after : (w : List ℕ) (c : ℕ) (a b : List ℕ) → Chain w c (a ++ b) → Chain w (ending c a) b
unfolding Chain ending
chain-after w c [] b h = h
chain-after w c (k ∷ a) b h = chain-after w (link k) a b h.2

-- a chain whose first part stays but for the cell behind it, which now leads to b'
pub chain-joined : (w w' : List ℕ) (c : ℕ) (a b b' : List ℕ) → ((j : ℕ) → 1 ≤ occurs j a → c ≢ link j) → ((j : ℕ) → occurs j a ≤ 1)
    → (c ≢ ending c a → load w' c ≡ load w c) → ((j : ℕ) → 1 ≤ occurs j a → link j ≢ ending c a → load w' (link j) ≡ load w (link j))
    → Chain w c (a ++ b) → Chain w' (ending c a) b'
    → Chain w' c (a ++ b')
unfolding Chain ending occurs
chain-joined w w' c [] b b' fresh once here kept h t = t
chain-joined w w' c (k ∷ a) b b' fresh once here kept h t = (
  here (go (ends (link k) a)) ∙ h.0,
  h.1,
  chain-joined w w' (link k) a b b'
      (λ j m e. absurd (omega (arith, once j, same_refl j k (omega arith))))
      (λ j. omega (arith, once j))
      (kept k (omega (arith, same_refl k k refl)))
      (λ j m. kept j (omega arith))
      h.2
      t,
)
  where
    go : EndsAt (link k) a → c ≢ ending (link k) a
    go (start e) q = fresh k (omega (arith, same_refl k k refl)) (q ∙ e)
    go (behind j m e) q = fresh j (omega arith) (q ∙ e)
