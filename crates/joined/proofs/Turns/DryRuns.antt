-- Three runs that end dry: the joined one and those of its parts end in related states.
use Rattle.machine.specs.All.{ℕ, zero, suc, ◌≡◌, refl, sym, ap, ◌∙◌, Bool, true, false, true≢false, List, [], ◌∷◌, map, Option, none, some, arith, Transaction, Event, those, BlockModel, State, set_end, next_events, take_first, take_ready, taking, turn, is_none, is_empty, nobody_left, run_from}
use Rattle.machine.proofs.{Decoding.Proper.Proper, Basic.Bools.and-three}
use Rattle.joined.specs.{Part}
use Rattle.joined.proofs as our
use our.Relation.Naming.{Naming, mine, event_as}
use our.Relation.Seen.{size, alone_as, Seen}
use our.{Own.Inside.Inside, Other.Strangers.Facing}
use our.Turns.DryEnd.{Dries, dry, turns, dries}
use our.Relation.Paces.{Stands, same, behind, Pace, moving-none}
use our.Turns.Simulation.{Sane, sane-turn, Joint, Turns, one, two, whose}

-- ---- Nobody is left

pub record Empty (s : State) : Type 0 where
  pub moving : s.moving ≡ none
  pub rel : s.rel ≡ []
  pub fel : s.fel ≡ []

pub empty_of : (s : State) → nobody_left s ≡ true → Empty s
unfolding nobody_left is_none is_empty
empty_of s e =
    let h = and-three (is_none s.moving) (is_empty s.rel) (is_empty s.fel) e in
    record { moving = none_of s.moving h.0; rel = empty-rel s.rel h.1; fel = empty-fel s.fel h.2 }
  where
    none_of : (o : Option Transaction) → is_none o ≡ true → o ≡ none
    none_of none e = refl
    none_of (some t) e = absurd (true≢false (sym e))

    empty-rel : (l : List Transaction) → is_empty l ≡ true → l ≡ []
    empty-rel [] e = refl
    empty-rel (x ∷ l) e = absurd (true≢false (sym e))

    empty-fel : (l : List Event) → is_empty l ≡ true → l ≡ []
    empty-fel [] e = refl
    empty-fel (x ∷ l) e = absurd (true≢false (sym e))

nobody_in : (s : State) → Empty s → nobody_left s ≡ true
unfolding nobody_left is_none is_empty
nobody_in s e = rw (e.moving, e.rel, e.fel) refl

-- then nobody is taken
none-taken : (s : State) → Empty s → (taking s.moving s).moving ≡ none
unfolding taking take_ready take_first next_events
none-taken s e = ap (λ (o : Option Transaction). (taking o s).moving) e.moving ∙ rest
  where
    rest : (take_ready s.rel s).moving ≡ none
    rest =
        ap (λ (l : List Transaction). (take_ready l s).moving) e.rel
        ∙ ap (λ (f : List Event). (take_first (next_events f s).rel (next_events f s)).moving) e.fel
        ∙ ap (λ (l : List Transaction). (take_first l s).moving) e.rel ∙ e.moving

module _ (p : Part) (m M : BlockModel) (I : Inside p m M) where
  -- neither in the part
  empty-there : (N : Naming) (s a : State) → Pace p m N s a → Empty s → Empty a × Seen p m N s a
  unfolding those
  empty-there N s a h e = go h.seen_as h.stands h.seen (moving-none p m M I h.moving e.moving)
    where
      go : (b : State) → Stands p m a b → Seen p m N s b → b.moving ≡ none → Empty a × Seen p m N s a
      go b same k o = (
        record {
          moving = o;
          rel = k.listed.rel.part.same ∙ ap (λ (l : List Transaction). map (alone_as p m N) (those (mine p (size p m)) l)) e.rel;
          fel =
              k.listed.fel.part.same
              ∙ ap (λ (l : List Event). map (event_as p (size p m) N) (those (λ x. mine p (size p m) x.who) l)) e.fel;
        },
        k,
      )
      go b (behind x z n) k o =
          absurd
          (n (k.listed.rel.part.same ∙ ap (λ (l : List Transaction). map (alone_as p m N) (those (mine p (size p m)) l)) e.rel))

  -- the last states
  pub record Last (s a : State) : Type 0 where
    pub naming : Naming
    pub seen : Seen p m naming s a
    pub nobody : naming.numbers 0 ≡ false

  module _ (budget room : ℕ) where
    -- the part has nobody left either
    last_of : (N : Naming) (s a : State) → N.numbers 0 ≡ false → Pace p m N s a → Empty s → {k : ℕ} → Dries m budget room a k
        → Last (set_end 1 s) (run_from k m budget room a)
    last_of N s a z h e (dry left q) =
        rw q (record {
          naming = N;
          seen =
              record {
                counted = (empty-there N s a h e).1.counted;
                fixtures = (empty-there N s a h e).1.fixtures;
                lined = (empty-there N s a h e).1.lined;
                listed = (empty-there N s a h e).1.listed;
                told = (empty-there N s a h e).1.told;
              };
          nobody = z;
        })
    last_of N s a o h e (turns left z q) = absurd (true≢false (cc (nobody_in a (empty-there N s a h e).0, left)))

-- ---- The runs

module _ {M : BlockModel} {tape : List (List ℕ)} (proper : Proper M tape) (p : Part) (m : BlockModel) (p' : Part) (m' : BlockModel)
    (I : Inside p m M) (I' : Inside p' m' M)
    (F : Facing p m p' m' M) (F' : Facing p' m' p m M) (budget room budget₁ room₁ budget₂ room₂ : ℕ) where
  pub record Both (s a b : State) : Type 0 where
    pub first : Last p m M I s a
    pub second : Last p' m' M I' s b

  -- all three end dry; each turn of the joined run uses up one of one part, until all stand at their ends
  pub run-both : (n : ℕ) (s a b : State) → Joint p m p' m' s a b → Sane M s → s.end ≡ 0 → a.end ≡ 0 → b.end ≡ 0 → (k k' : ℕ)
      → (run_from n M budget room s).end ≡ 1 → (run_from k m budget₁ room₁ a).end ≡ 1 → (run_from k' m' budget₂ room₂ b).end ≡ 1
      → Both (run_from n M budget room s) (run_from k m budget₁ room₁ a) (run_from k' m' budget₂ room₂ b)
  unfolding run_from
  run-both zero s a b j sane zs za zb k k' e e₁ e₂ = absurd (omega arith)
  run-both (suc n) s a b j sane zs za zb k k' e e₁ e₂ =
      go (dries M budget room (suc n) s zs e) (dries m budget₁ room₁ k a za e₁) (dries m' budget₂ room₂ k' b zb e₂) e e₁ e₂ (run-both n)
    where
      Rest : Type 0
      Rest =
          (s a b : State) → Joint p m p' m' s a b → Sane M s → s.end ≡ 0 → a.end ≡ 0 → b.end ≡ 0 → (k k' : ℕ)
          → (run_from n M budget room s).end ≡ 1 → (run_from k m budget₁ room₁ a).end ≡ 1 → (run_from k' m' budget₂ room₂ b).end ≡ 1
          → Both (run_from n M budget room s) (run_from k m budget₁ room₁ a) (run_from k' m' budget₂ room₂ b)

      somebody : (x : State) (t : Transaction) → (taking x.moving x).moving ≡ some t → nobody_left x ≡ true → ⊥
      somebody x t taken left = true≢false (ap blank (sym (none-taken x (empty_of x left)) ∙ taken))
        where
          blank : Option Transaction → Bool
          blank none = true
          blank (some t) = false

      first_on : (turn M s).end ≡ 0 → (t : Transaction) → (taking a.moving a).moving ≡ some t
          → ((turn m a).end ≡ 0 → Joint p m p' m' (turn M s) (turn m a) b) → {k : ℕ} → Dries m budget₁ room₁ a k
          → (run_from n M budget room (turn M s)).end ≡ 1 → (run_from k m budget₁ room₁ a).end ≡ 1 → (run_from k' m' budget₂ room₂ b).end ≡ 1
          → Rest
          → Both (run_from n M budget room (turn M s)) (run_from k m budget₁ room₁ a) (run_from k' m' budget₂ room₂ b)
      first_on zt t taken next (dry left q) f f₁ f₂ rest = absurd (somebody a t taken left)
      first_on zt t taken next (turns {k = i} left z q) f f₁ f₂ rest =
          rw q (rest (turn M s) (turn m a) b (next z) (sane-turn proper s zs sane) zt z zb i k' f
          (ap (λ (x : State). x.end) (sym q) ∙ f₁) f₂)

      second-on : (turn M s).end ≡ 0 → (t : Transaction) → (taking b.moving b).moving ≡ some t
          → ((turn m' b).end ≡ 0 → Joint p m p' m' (turn M s) a (turn m' b)) → {k' : ℕ} → Dries m' budget₂ room₂ b k'
          → (run_from n M budget room (turn M s)).end ≡ 1 → (run_from k m budget₁ room₁ a).end ≡ 1 → (run_from k' m' budget₂ room₂ b).end ≡ 1
          → Rest
          → Both (run_from n M budget room (turn M s)) (run_from k m budget₁ room₁ a) (run_from k' m' budget₂ room₂ b)
      second-on zt t taken next (dry left q) f f₁ f₂ rest = absurd (somebody b t taken left)
      second-on zt t taken next (turns {k = i} left z q) f f₁ f₂ rest =
          rw q (rest (turn M s) a (turn m' b) (next z) (sane-turn proper s zs sane) zt za z k i f f₁
          (ap (λ (x : State). x.end) (sym q) ∙ f₂))

      go : Dries M budget room s (suc n) → Dries m budget₁ room₁ a k → Dries m' budget₂ room₂ b k'
          → (run_from (suc n) M budget room s).end ≡ 1 → (run_from k m budget₁ room₁ a).end ≡ 1 → (run_from k' m' budget₂ room₂ b).end ≡ 1 → Rest
          → Both (run_from (suc n) M budget room s) (run_from k m budget₁ room₁ a) (run_from k' m' budget₂ room₂ b)
      go (dry left q) d₁ d₂ f f₁ f₂ rest =
          let empty : Empty s = empty_of s left in
          rw q (record {
            first = last_of p m M I budget₁ room₁ j.naming s a j.rolls.nobody j.pace empty d₁;
            second = last_of p' m' M I' budget₂ room₂ j.naming' s b j.rolls.nobody' j.pace' empty d₂;
          })
      go (turns left zt q) d₁ d₂ f f₁ f₂ rest =
          let f' : (run_from n M budget room (turn M s)).end ≡ 1 = ap (λ (x : State). x.end) (sym q) ∙ f in
          rw q (next (whose proper p m p' m' I I' F F' s a b j zs sane left zt) f')
        where
          next : Turns proper p m p' m' I I' F F' s a b → (run_from n M budget room (turn M s)).end ≡ 1
              → Both (run_from n M budget room (turn M s)) (run_from k m budget₁ room₁ a) (run_from k' m' budget₂ room₂ b)
          next (one t taken on) f' = first_on zt t taken on d₁ f' f₁ f₂ rest
          next (two t taken on) f' = second-on zt t taken on d₂ f' f₁ f₂ rest
