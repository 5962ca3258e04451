-- The numbered lists of a state: what stands under a number, and what a change of the state's lists does to them.
use Rattle.machine.specs.All.{ℕ, suc, ◌+◌, ◌-◌, ◌≤◌, ◌<◌, ◌≡◌, refl, sym, ◌≢◌, Bool, true, false, cond, List, [], map, arith, lt-ltb, le-ltb, ltb-true, ltb-false, eqb-true, eqb-false, ne_eqb, ltb, eqb, length, get_or, set, get_or-set_same, get_or-set_other, Transaction, Gatherer, Interrupted, those, State, set_ql, set_wel, set_wsl, set_rel, set_gatherers, set_interrupted, of_facility, interrupted_at}
use Rattle.rows_laws.specs.All.{wsl, rel, update, moved}
use Rattle.state.specs.All.{gatherer_row, interrupted_row, lists_in, lists_of}
use mathlib.Core.Path.{ap, ◌∙◌}

-- REL, the gatherers and the interrupted ones
abbrev beyond : State → ℕ → List Transaction
beyond s q = cond (ltb q 706) (map gatherer_row (get_or s.gatherers (q - 450) [])) (map interrupted_row (interrupted_at s (suc (q - 706))))

abbrev above : State → ℕ → List Transaction
above s q = cond (eqb q 449) s.rel (beyond s q)

-- ---- What stands under a number

-- lists 0 to 63 are the QLs
pub lists-ql : (s : State) (i : ℕ) → i < 64 → lists_of s i ≡ get_or s.ql i []
unfolding lists_in
lists-ql s i h = rw (lt-ltb i 64 h)

-- lists 64 to 447 are the WELs
pub lists-wel : (s : State) (i : ℕ) → i < 384 → lists_of s (64 + i) ≡ get_or s.wel i []
unfolding lists_in
lists-wel s i h =
    let back : 64 + i - 64 ≡ i = omega arith in
    rw (le-ltb (64 + i) 64 (omega arith), lt-ltb (64 + i) 448 (omega arith), back)

pub lists-wsl : (s : State) → lists_of s wsl ≡ s.wsl
unfolding lists_in
lists-wsl s = refl

pub lists-rel : (s : State) → lists_of s rel ≡ s.rel
unfolding lists_in
lists-rel s = refl

-- lists 450 to 705 are those who gather
pub lists-gatherers : (s : State) (i : ℕ) → i < 256 → lists_of s (450 + i) ≡ map gatherer_row (get_or s.gatherers i [])
unfolding lists_in
lists-gatherers s i h =
    let back : 450 + i - 450 ≡ i = omega arith in
    rw (
      le-ltb (450 + i) 64 (omega arith),
      le-ltb (450 + i) 448 (omega arith),
      ne_eqb (450 + i) 448 (λ e. omega arith),
      ne_eqb (450 + i) 449 (λ e. omega arith),
      lt-ltb (450 + i) 706 (omega arith),
      back,
    )

-- lists 706 to 769 are those who lost a facility
pub lists-interrupted : (s : State) (i : ℕ) → i < 64 → lists_of s (706 + i) ≡ map interrupted_row (interrupted_at s (suc i))
unfolding lists_in
lists-interrupted s i h =
    let back : 706 + i - 706 ≡ i = omega arith in
    rw (
      le-ltb (706 + i) 64 (omega arith),
      le-ltb (706 + i) 448 (omega arith),
      ne_eqb (706 + i) 448 (λ e. omega arith),
      ne_eqb (706 + i) 449 (λ e. omega arith),
      le-ltb (706 + i) 706 (omega arith),
      back,
    )

-- ---- One list replaced

pub lists-set-ql : (s : State) (i : ℕ) (l : List Transaction) → i < 64 → i < length s.ql → (q : ℕ)
    → update i l (lists_of s) q ≡ lists_of (set_ql (set s.ql i l) s) q
unfolding lists_in
lists-set-ql s i l h len q = go (eqb q i) refl (ltb q 64) refl
  where
    go : (b : Bool) → eqb q i ≡ b → (c : Bool) → ltb q 64 ≡ c
        → cond b l (cond c (get_or s.ql q []) (cond (ltb q 448) (get_or s.wel (q - 64) []) (cond (eqb q 448) s.wsl (above s q))))
        ≡ cond c (get_or (set s.ql i l) q []) (cond (ltb q 448) (get_or s.wel (q - 64) []) (cond (eqb q 448) s.wsl (above s q)))
    go true e true f = rw (eqb-true q i e) (sym (get_or-set_same s.ql i l [] len))
    go true e false f = absurd (omega (arith, eqb-true q i e, ltb-false q 64 f))
    go false e true f = sym (get_or-set_other s.ql i q l [] (eqb-false q i e))
    go false e false f = refl

pub lists-set-wel : (s : State) (i : ℕ) (l : List Transaction) → i < 384 → i < length s.wel → (q : ℕ)
    → update (64 + i) l (lists_of s) q ≡ lists_of (set_wel (set s.wel i l) s) q
unfolding lists_in
lists-set-wel s i l h len q = go (eqb q (64 + i)) refl (ltb q 64) refl (ltb q 448) refl
  where
    go : (b : Bool) → eqb q (64 + i) ≡ b → (c : Bool) → ltb q 64 ≡ c → (d : Bool) → ltb q 448 ≡ d
        → cond b l (cond c (get_or s.ql q []) (cond d (get_or s.wel (q - 64) []) (cond (eqb q 448) s.wsl (above s q))))
        ≡ cond c (get_or s.ql q []) (cond d (get_or (set s.wel i l) (q - 64) []) (cond (eqb q 448) s.wsl (above s q)))
    go true e true f d g = absurd (omega (arith, eqb-true q (64 + i) e, ltb-true q 64 f))
    go true e false f true g =
        let back : q - 64 ≡ i = omega (arith, eqb-true q (64 + i) e) in
        rw back (sym (get_or-set_same s.wel i l [] len))
    go true e false f false g = absurd (omega (arith, eqb-true q (64 + i) e, ltb-false q 448 g))
    go false e true f d g = refl
    go false e false f true g =
        sym (get_or-set_other s.wel i (q - 64) l [] (λ x. eqb-false q (64 + i) e (omega (arith, ltb-false q 64 f))))
    go false e false f false g = refl

pub lists-set-wsl : (s : State) (l : List Transaction) (q : ℕ) → update wsl l (lists_of s) q ≡ lists_of (set_wsl l s) q
unfolding lists_in
lists-set-wsl s l q = go (eqb q 448) refl (ltb q 64) refl (ltb q 448) refl
  where
    go : (b : Bool) → eqb q 448 ≡ b → (c : Bool) → ltb q 64 ≡ c → (d : Bool) → ltb q 448 ≡ d
        → cond b l (cond c (get_or s.ql q []) (cond d (get_or s.wel (q - 64) []) (cond b s.wsl (above s q))))
        ≡ cond c (get_or s.ql q []) (cond d (get_or s.wel (q - 64) []) (cond b l (above s q)))
    go true e true f d g = absurd (omega (arith, eqb-true q 448 e, ltb-true q 64 f))
    go true e false f true g = absurd (omega (arith, eqb-true q 448 e, ltb-true q 448 g))
    go true e false f false g = refl
    go false e c f d g = refl

pub lists-set-rel : (s : State) (l : List Transaction) (q : ℕ) → q < 770 → update rel l (lists_of s) q ≡ lists_of (set_rel l s) q
unfolding lists_in
lists-set-rel s l q h = go (eqb q 449) refl (ltb q 64) refl (ltb q 448) refl (eqb q 448) refl
  where
    G : List Transaction
    G = beyond s q

    go : (b : Bool) → eqb q 449 ≡ b → (c : Bool) → ltb q 64 ≡ c → (d : Bool) → ltb q 448 ≡ d → (e : Bool) → eqb q 448 ≡ e
        → cond b l (cond c (get_or s.ql q []) (cond d (get_or s.wel (q - 64) []) (cond e s.wsl (cond b s.rel G))))
        ≡ cond c (get_or s.ql q []) (cond d (get_or s.wel (q - 64) []) (cond e s.wsl (cond b l G)))
    go true i true f d g e j = absurd (omega (arith, eqb-true q 449 i, ltb-true q 64 f))
    go true i false f true g e j = absurd (omega (arith, eqb-true q 449 i, ltb-true q 448 g))
    go true i false f false g true j = absurd (omega (arith, eqb-true q 449 i, eqb-true q 448 j))
    go true i false f false g false j = refl
    go false i c f d g e j = refl

pub lists-set-gatherers : (s : State) (i : ℕ) (l : List Gatherer) → i < 256 → i < length s.gatherers → (q : ℕ)
    → update (450 + i) (map gatherer_row l) (lists_of s) q ≡ lists_of (set_gatherers (set s.gatherers i l) s) q
unfolding lists_in
lists-set-gatherers s i l h len q =
    go (eqb q (450 + i)) refl (ltb q 64) refl (ltb q 448) refl (eqb q 448) refl (eqb q 449) refl (ltb q 706) refl
  where
    I : List Transaction
    I = map interrupted_row (interrupted_at s (suc (q - 706)))

    go : (b : Bool) → eqb q (450 + i) ≡ b → (c : Bool) → ltb q 64 ≡ c → (d : Bool) → ltb q 448 ≡ d → (e : Bool) → eqb q 448 ≡ e
        → (f : Bool) → eqb q 449 ≡ f → (g : Bool)
        → ltb q 706 ≡ g
        → cond b (map gatherer_row l)
        (cond c (get_or s.ql q [])
        (cond d (get_or s.wel (q - 64) [])
        (cond e s.wsl (cond f s.rel (cond g (map gatherer_row (get_or s.gatherers (q - 450) [])) I)))))
        ≡ cond c (get_or s.ql q [])
        (cond d (get_or s.wel (q - 64) [])
        (cond e s.wsl (cond f s.rel (cond g (map gatherer_row (get_or (set s.gatherers i l) (q - 450) [])) I))))
    go true x true y d z e u f v g o = absurd (omega (arith, eqb-true q (450 + i) x, ltb-true q 64 y))
    go true x false y true z e u f v g o = absurd (omega (arith, eqb-true q (450 + i) x, ltb-true q 448 z))
    go true x false y false z true u f v g o = absurd (omega (arith, eqb-true q (450 + i) x, eqb-true q 448 u))
    go true x false y false z false u true v g o = absurd (omega (arith, eqb-true q (450 + i) x, eqb-true q 449 v))
    go true x false y false z false u false v false o = absurd (omega (arith, eqb-true q (450 + i) x, ltb-false q 706 o))
    go true x false y false z false u false v true o =
        let back : q - 450 ≡ i = omega (arith, eqb-true q (450 + i) x) in
        rw back (ap (map gatherer_row) (sym (get_or-set_same s.gatherers i l [] len)))
    go false x true y d z e u f v g o = refl
    go false x false y true z e u f v g o = refl
    go false x false y false z true u f v g o = refl
    go false x false y false z false u true v g o = refl
    go false x false y false z false u false v false o = refl
    go false x false y false z false u false v true o =
        ap (map gatherer_row)
        (sym
        (get_or-set_other s.gatherers i (q - 450) l []
        (λ k. eqb-false q (450 + i) x (from (ltb-false q 448 z) (eqb-false q 448 u) (eqb-false q 449 v) k))))
      where
        from : 448 ≤ q → q ≢ 448 → q ≢ 449 → q - 450 ≡ i → q ≡ 450 + i
        from low a b k = omega arith

-- the interrupted one of a facility comes or goes
pub lists-set-interrupted : (s : State) (i : ℕ) (l : List Interrupted) (here : List Transaction) → i < 64
    → map interrupted_row (those (of_facility (suc i)) l) ≡ here
    → ((j : ℕ) → j ≢ i → those (of_facility (suc j)) l ≡ interrupted_at s (suc j)) → (q : ℕ)
    → update (706 + i) here (lists_of s) q ≡ lists_of (set_interrupted l s) q
unfolding lists_in
lists-set-interrupted s i l here h is others q =
    go (eqb q (706 + i)) refl (ltb q 64) refl (ltb q 448) refl (eqb q 448) refl (eqb q 449) refl (ltb q 706) refl
  where
    G : List Transaction
    G = map gatherer_row (get_or s.gatherers (q - 450) [])

    go : (b : Bool) → eqb q (706 + i) ≡ b → (c : Bool) → ltb q 64 ≡ c → (d : Bool) → ltb q 448 ≡ d → (e : Bool) → eqb q 448 ≡ e
        → (f : Bool) → eqb q 449 ≡ f → (g : Bool)
        → ltb q 706 ≡ g
        → cond b here
        (cond c (get_or s.ql q [])
        (cond d (get_or s.wel (q - 64) [])
        (cond e s.wsl (cond f s.rel (cond g G (map interrupted_row (interrupted_at s (suc (q - 706)))))))))
        ≡ cond c (get_or s.ql q [])
        (cond d (get_or s.wel (q - 64) [])
        (cond e s.wsl (cond f s.rel (cond g G (map interrupted_row (those (of_facility (suc (q - 706))) l))))))
    go true x true y d z e u f v g o = absurd (omega (arith, eqb-true q (706 + i) x, ltb-true q 64 y))
    go true x false y true z e u f v g o = absurd (omega (arith, eqb-true q (706 + i) x, ltb-true q 448 z))
    go true x false y false z true u f v g o = absurd (omega (arith, eqb-true q (706 + i) x, eqb-true q 448 u))
    go true x false y false z false u true v g o = absurd (omega (arith, eqb-true q (706 + i) x, eqb-true q 449 v))
    go true x false y false z false u false v true o = absurd (omega (arith, eqb-true q (706 + i) x, ltb-true q 706 o))
    go true x false y false z false u false v false o =
        let back : q - 706 ≡ i = omega (arith, eqb-true q (706 + i) x) in
        rw back (sym is)
    go false x true y d z e u f v g o = refl
    go false x false y true z e u f v g o = refl
    go false x false y false z true u f v g o = refl
    go false x false y false z false u true v g o = refl
    go false x false y false z false u false v true o = refl
    go false x false y false z false u false v false o =
        ap (map interrupted_row) (sym (others (q - 706) (λ k. eqb-false q (706 + i) x (omega (arith, ltb-false q 706 o)))))

-- ---- One list replaced, and REL

pub lists-moved : (s s' : State) (p : ℕ) (l r : List Transaction) → ((q : ℕ) → q < 770 → update p l (lists_of s) q ≡ lists_of s' q)
    → (q : ℕ) → q < 770
    → moved p l r (lists_of s) q ≡ lists_of (set_rel r s') q
lists-moved s s' p l r e q hq =
    ap (λ (x : List Transaction). cond (eqb q rel) r x) (e q hq) ∙ lists-set-rel s' r q hq
