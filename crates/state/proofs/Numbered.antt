-- Every transaction of a sound state has one of the numbers 1..made, and so has the one that a turn takes.
use Rattle.machine.specs.All.{ℕ, ◌<◌, ◌≡◌, refl, ap, List, [], ◌∷◌, map, ◌++◌, Option, none, some, arith, eq-eqb, eqb, Transaction, Event, Gatherer, Interrupted, flat, BlockModel, State, taking, moving_one, Each, count, bit, everyone, standing}
use Rattle.machine.proofs.{Decoding.Proper.Names, Lists.Sums.count-cons, Conservation.Conservation.Sound, Conservation.Conservation.stands-made}
use Rattle.machine.proofs.Runs.Everybody.{Maybe, Everybody, taking-everybody}
use Rattle.state.proofs.Gains.{each_mapped}
use mathlib.Core.Path.{subst}
use Rattle.machine.proofs.Runs.Everybody.{Unmoved}

-- what holds of each number that occurs holds of each transaction
each_number : (P : ℕ → Type 0) (l : List Transaction) → ((n : ℕ) → 0 < count (λ t. eqb t.number n) l → P n) → Each (λ t. P t.number) l
each_number P [] h = tt
each_number P (x ∷ l) h = (
  h x.number (omega (arith, count-cons (λ t. eqb t.number x.number) x l, ap bit (eq-eqb x.number x.number refl))),
  each_number P l (λ n p. h n (omega (arith, count-cons (λ t. eqb t.number n) x l))),
)

module _ {A : Type 0} (P : A → Type 0) where
  each_left : (k l : List A) → Each P (k ++ l) → Each P k
  each_left [] l h = tt
  each_left (x ∷ k) l h = (h.0, each_left k l h.1)

  each_right : (k l : List A) → Each P (k ++ l) → Each P l
  each_right [] l h = h
  each_right (x ∷ k) l h = each_right k l h.1

  each-flat : (ls : List (List A)) → Each P (flat ls) → Each (Each P) ls
  unfolding flat
  each-flat [] h = tt
  each-flat (l ∷ ls) h = (each_left l (flat ls) h, each-flat ls (each_right l (flat ls) h))

module _ (P : Transaction → Type 0) where
  each-moving : (o : Option Transaction) → Each P (moving_one o) → Maybe P o
  unfolding moving_one
  each-moving none h = tt
  each-moving (some t) h = h.0

  each-everyone : (s : State) → Each P (everyone s) → Everybody P s
  unfolding everyone
  each-everyone s h =
      let fel = map (λ (e : Event). e.who) s.fel in
      let gatherers = map (λ (g : Gatherer). g.who) (flat s.gatherers) in
      let stopped = map (λ (i : Interrupted). i.who) s.interrupted in
      let all = flat s.ql ++ flat s.wel ++ s.wsl ++ s.rel ++ fel ++ moving_one s.moving in
      let h9 = each_left P (all ++ gatherers) stopped h in
      let h0 = each_left P all gatherers h9 in
      let h1 = each_left P (flat s.ql ++ flat s.wel ++ s.wsl ++ s.rel ++ fel) (moving_one s.moving) h0 in
      let h2 = each_left P (flat s.ql ++ flat s.wel ++ s.wsl ++ s.rel) fel h1 in
      let h3 = each_left P (flat s.ql ++ flat s.wel ++ s.wsl) s.rel h2 in
      let h4 = each_left P (flat s.ql ++ flat s.wel) s.wsl h3 in
      record {
        ql = each-flat P s.ql (each_left P (flat s.ql) (flat s.wel) h4);
        wel = each-flat P s.wel (each_right P (flat s.ql) (flat s.wel) h4);
        wsl = each_right P (flat s.ql ++ flat s.wel) s.wsl h3;
        rel = each_right P (flat s.ql ++ flat s.wel ++ s.wsl) s.rel h2;
        fel = each_mapped (λ (e : Event). e.who) P s.fel (each_right P (flat s.ql ++ flat s.wel ++ s.wsl ++ s.rel) fel h1);
        gatherers =
            each-flat (λ (g : Gatherer). P g.who) s.gatherers
            (each_mapped (λ (g : Gatherer). g.who) P (flat s.gatherers) (each_right P all gatherers h9));
        interrupted = each_mapped (λ (i : Interrupted). i.who) P s.interrupted (each_right P (all ++ gatherers) stopped h);
        moving =
            each-moving s.moving (each_right P (flat s.ql ++ flat s.wel ++ s.wsl ++ s.rel ++ fel) (moving_one s.moving) h0);
      }

abbrev pub Numbered : ℕ → Transaction → Type 0
Numbered made t = Names made t.number

module _ (m : BlockModel) (tape : List (List ℕ)) (s : State) (sound : Sound m tape s) where
  pub numbered : Everybody (Numbered s.made) s
  unfolding standing
  numbered = each-everyone (Numbered s.made) s (each_number (Names s.made) (everyone s) (λ n p. stands-made m tape s sound n p))

  -- whoever is taken has one of the numbers that were given
  pub numbered-taken : (t : Transaction) → (taking s.moving s).moving ≡ some t → Names s.made t.number
  numbered-taken t e =
      let U : Unmoved (Numbered s.made) = record { mark = λ b t p. p; serial = λ n t p. p } in
      subst (Maybe (Numbered s.made)) e (taking-everybody (Numbered s.made) U s.moving s numbered).moving
