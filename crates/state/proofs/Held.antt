-- How many servers are held by the numbers of a residue: it follows the holders, one by one.
use Rattle.machine.specs.All.{ℕ, zero, suc, ◌+◌, ◌-◌, ◌≤◌, ◌<◌, ◌≡◌, refl, sym, ap, ◌≢◌, Bool, true, false, cond, List, arith, ℕ_discrete, eqb, length, get_or, set, get_or-set_same, get_or-set_other, bit, up_to, Server, idle_server}
use Rattle.machine.proofs.Lists.Sums.{up_to_cong, up_to-zero}
use Rattle.state.specs.All.{of_residue, held_in}
use Prim.Native.Nat.{◌%◌}

-- ---- Sums

up_to-at : (n : ℕ) (f : ℕ → ℕ) (i : ℕ) → 1 ≤ i → i ≤ n → f i ≤ up_to n f
unfolding up_to
up_to-at zero f i low high = absurd (omega arith)
up_to-at (suc n) f i low high = go (ℕ_discrete i (suc n)) (up_to-at n f i low)
  where
    go : Dec (i ≡ suc n) → (i ≤ n → f i ≤ up_to n f) → f i ≤ up_to n f + f (suc n)
    go (yes e) h = rw e (omega arith)
    go (no d) h = omega (arith, h (omega arith))

up_to-most : (n : ℕ) (f : ℕ → ℕ) → ((k : ℕ) → f k ≤ 1) → up_to n f ≤ n
unfolding up_to
up_to-most zero f h = omega arith
up_to-most (suc n) f h = omega (arith, up_to-most n f h, h (suc n))

-- one of them is another
up_to-change : (n : ℕ) (f g : ℕ → ℕ) (i : ℕ) → 1 ≤ i → i ≤ n → ((k : ℕ) → k ≢ i → 1 ≤ k → f k ≡ g k) → up_to n f + g i ≡ up_to n g + f i
unfolding up_to
up_to-change zero f g i low high same = absurd (omega arith)
up_to-change (suc n) f g i low high same = go (ℕ_discrete i (suc n)) (λ h. up_to-change n f g i low h same)
  where
    go : Dec (i ≡ suc n) → (i ≤ n → up_to n f + g i ≡ up_to n g + f i) → up_to n f + f (suc n) + g i ≡ up_to n g + g (suc n) + f i
    go (yes e) h =
        rw e (omega (arith, up_to_cong f g n (λ k a b. same k (λ q. omega arith) a)))
    go (no d) h = omega (arith, h (omega arith), same (suc n) (λ q. d (sym q)) (omega arith))

-- ---- One number

pub residue-most : (r n : ℕ) → of_residue r n ≤ 1
unfolding of_residue
residue-most r n = go (eqb n 0) (eqb (n % 256) r)
  where
    go : (a b : Bool) → cond a 0 (bit b) ≤ 1
    go true b = omega arith
    go false true = omega arith
    go false false = omega arith

-- ---- All servers

module _ (r : ℕ) where
  abbrev holder_of : List Server → ℕ → ℕ
  holder_of servers v = (get_or servers v (idle_server 0)).holder

  -- only the holders count
  pub held_same : (servers servers' : List Server) → ((v : ℕ) → v < 64 → holder_of servers v ≡ holder_of servers' v)
      → held_in servers r ≡ held_in servers' r
  unfolding held_in
  held_same servers servers' same =
      up_to_cong (λ v. of_residue r (holder_of servers (v - 1))) (λ v. of_residue r (holder_of servers' (v - 1))) 64
      (λ k a b. ap (of_residue r) (same (k - 1) (omega arith)))

  pub held_none : (servers : List Server) → ((v : ℕ) → v < 64 → holder_of servers v ≡ 0) → held_in servers r ≡ 0
  unfolding held_in of_residue
  held_none servers idle = up_to-zero 64 (λ v. of_residue r (holder_of servers (v - 1))) (λ k a b. rw (idle (k - 1) (omega arith)) refl)

  pub held-most : (servers : List Server) → held_in servers r ≤ 64
  unfolding held_in
  held-most servers = up_to-most 64 (λ v. of_residue r (holder_of servers (v - 1))) (λ k. residue-most r (holder_of servers (k - 1)))

  -- each server adds at most what it holds
  pub held_at : (servers : List Server) (v : ℕ) → v < 64 → of_residue r (holder_of servers v) ≤ held_in servers r
  unfolding held_in
  held_at servers v hv =
      let e : suc v - 1 ≡ v = omega arith in
      omega (
        arith,
        up_to-at 64 (λ k. of_residue r (holder_of servers (k - 1))) (suc v) (omega arith) (omega arith),
        ap (λ (u : ℕ). of_residue r (holder_of servers u)) e,
      )

  -- a server has another holder
  pub held-set : (servers : List Server) (v : ℕ) (a : Server) → v < 64 → v < length servers
      → held_in (set servers v a) r + of_residue r (holder_of servers v) ≡ held_in servers r + of_residue r a.holder
  unfolding held_in
  held-set servers v a hv there =
      let e : suc v - 1 ≡ v = omega arith in
      let f : ℕ → ℕ = λ k. of_residue r (holder_of (set servers v a) (k - 1)) in
      let g : ℕ → ℕ = λ k. of_residue r (holder_of servers (k - 1)) in
      omega (
        arith,
        up_to-change 64 f g (suc v) (omega arith) (omega arith)
            (λ k d low. ap (λ (x : Server). of_residue r x.holder) (get_or-set_other servers v (k - 1) a (idle_server 0) (λ q. d (omega arith)))),
        ap (λ (u : ℕ). of_residue r (holder_of servers u)) e,
        ap (λ (u : ℕ). of_residue r (holder_of (set servers v a) u)) e,
        ap (λ (x : Server). of_residue r x.holder) (get_or-set_same servers v a (idle_server 0) there),
      )
