-- Weights over the places of a state: those of everybody on its lists.
use Rattle.machine.specs.All.{ℕ, ◌+◌, ◌≡◌, List, ◌++◌, map, arith, eqb, Transaction, Event, Gatherer, Interrupted, flat, State, Place, placed, moving_one, places, bit, everyone, standing}
use Rattle.machine.proofs as our
use our.Lists.Sums.{sum_on, sum-append, sum-map, sum-count}
use our.Lists.Sorting.{times}

module _ (f : Place → ℕ) where
  abbrev at : ℕ → Transaction → ℕ
  at p t = f (record { number = t.number; place = p })

  sum-placed : (p : ℕ) (l : List Transaction) → sum_on f (placed p l) ≡ sum_on (at p) l
  unfolding placed
  sum-placed p l = sum-map f (λ t. record { number = t.number; place = p }) l

  pub sum-places : (s : State) →
      sum_on f (places s)
      ≡ sum_on (at 1) (flat s.ql) + sum_on (at 2) (flat s.wel) + sum_on (at 3) s.wsl + sum_on (λ (e : Event). at 4 e.who)
      s.fel + sum_on (at 5) s.rel
      + sum_on (at 6) (moving_one s.moving) + sum_on (λ (g : Gatherer). at 7 g.who) (flat s.gatherers) + sum_on
      (λ (i : Interrupted). at 8 i.who) s.interrupted
  unfolding places
  sum-places s =
      omega (
        arith,
        sum-append f
            (placed 1 (flat s.ql) ++ placed 2 (flat s.wel) ++ placed 3 s.wsl ++ placed 4 (map (λ e. e.who) s.fel) ++ placed 5
            s.rel ++ placed 6 (moving_one s.moving)
            ++ placed 7 (map (λ g. g.who) (flat s.gatherers)))
            (placed 8 (map (λ i. i.who) s.interrupted)),
        sum-append f
            (placed 1 (flat s.ql) ++ placed 2 (flat s.wel) ++ placed 3 s.wsl ++ placed 4 (map (λ e. e.who) s.fel) ++ placed 5
            s.rel ++ placed 6 (moving_one s.moving))
            (placed 7 (map (λ g. g.who) (flat s.gatherers))),
        sum-append f
            (placed 1 (flat s.ql) ++ placed 2 (flat s.wel) ++ placed 3 s.wsl ++ placed 4 (map (λ e. e.who) s.fel) ++ placed 5
            s.rel) (placed 6 (moving_one s.moving)),
        sum-append f (placed 1 (flat s.ql) ++ placed 2 (flat s.wel) ++ placed 3 s.wsl ++ placed 4 (map (λ e. e.who) s.fel))
            (placed 5 s.rel),
        sum-append f (placed 1 (flat s.ql) ++ placed 2 (flat s.wel) ++ placed 3 s.wsl) (placed 4 (map (λ e. e.who) s.fel)),
        sum-append f (placed 1 (flat s.ql) ++ placed 2 (flat s.wel)) (placed 3 s.wsl),
        sum-append f (placed 1 (flat s.ql)) (placed 2 (flat s.wel)),
        sum-placed 1 (flat s.ql),
        sum-placed 2 (flat s.wel),
        sum-placed 3 s.wsl,
        sum-placed 4 (map (λ e. e.who) s.fel),
        sum-map (at 4) (λ (e : Event). e.who) s.fel,
        sum-placed 5 s.rel,
        sum-placed 6 (moving_one s.moving),
        sum-placed 7 (map (λ g. g.who) (flat s.gatherers)),
        sum-map (at 7) (λ (g : Gatherer). g.who) (flat s.gatherers),
        sum-placed 8 (map (λ i. i.who) s.interrupted),
        sum-map (at 8) (λ (i : Interrupted). i.who) s.interrupted,
      )

-- ---- How often a number stands there

pub times-standing : (s : State) (n : ℕ) → times n (places s) ≡ standing s n
unfolding standing everyone
times-standing s n =
    omega (
      arith,
      sum-places (λ p. bit (eqb p.number n)) s,
      sum-count (λ (t : Transaction). eqb t.number n)
          (flat s.ql ++ flat s.wel ++ s.wsl ++ s.rel ++ map (λ e. e.who) s.fel ++ moving_one s.moving ++ map (λ g. g.who)
          (flat s.gatherers) ++ map (λ i. i.who) s.interrupted),
      sum-append is
          (flat s.ql ++ flat s.wel ++ s.wsl ++ s.rel ++ map (λ e. e.who) s.fel ++ moving_one s.moving ++ map (λ g. g.who)
          (flat s.gatherers)) (map (λ i. i.who) s.interrupted),
      sum-append is (flat s.ql ++ flat s.wel ++ s.wsl ++ s.rel ++ map (λ e. e.who) s.fel ++ moving_one s.moving)
          (map (λ g. g.who) (flat s.gatherers)),
      sum-append is (flat s.ql ++ flat s.wel ++ s.wsl ++ s.rel ++ map (λ e. e.who) s.fel) (moving_one s.moving),
      sum-append is (flat s.ql ++ flat s.wel ++ s.wsl ++ s.rel) (map (λ e. e.who) s.fel),
      sum-append is (flat s.ql ++ flat s.wel ++ s.wsl) s.rel,
      sum-append is (flat s.ql ++ flat s.wel) s.wsl,
      sum-append is (flat s.ql) (flat s.wel),
      sum-map is (λ (e : Event). e.who) s.fel,
      sum-map is (λ (g : Gatherer). g.who) (flat s.gatherers),
      sum-map is (λ (i : Interrupted). i.who) s.interrupted,
    )
  where
    is : Transaction → ℕ
    is t = bit (eqb t.number n)
