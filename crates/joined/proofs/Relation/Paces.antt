-- How far a part alone is, beside the joined run: level with it, at rest at an older clock, or behind by one clock move, which the joined
-- run made
-- before that part had its turn.
use Rattle.machine.specs.All.{ℕ, ◌≤◌, ◌≡◌, refl, sym, ◌∙◌, subst, Bool, true, false, true≢false, List, [], ◌∷◌, map, Option, none, some, arith, Transaction, precedes, Event, those, BlockModel, State, set_moving, set_rel, next_events, move_clock, take_ready, taking, waits_on, Each, View, take_first, suc, ap, cond}
use Rattle.machine.proofs.Basic.Each.{each_map, each-pair, each_unmap, each_mapped}
use Rattle.machine.proofs.Lists.Sorted.{Sorted}
use Rattle.joined.specs.{Part}
use Rattle.joined.proofs as our
use our.Relation.Naming.{Naming, mine, Known}
use our.Relation.Seen.{size, Tables, alone_as, Seen}
use our.Relation.NewNames.{Extends, fixtures-more, lined-more, listed_more, told_more}
use our.Own.Inside.{Inside, waits_on-seen}
use our.{Own.Moves.Together, Own.Makes.After, Own.Effect.still}
use our.Other.Effect.{Away, nobody}
use our.Turns.ClockMove.{Due, not_yet, now, due?, moved, moved-there, moved_here, move_clock-own, move_clock-other, move_clock-unmoved, move_clock-view}
use our.Turns.OneTurn.{Ready, as_is, clock_moved, handed, hand, first_taken}

-- ---- What each member of a renamed list is

-- ---- Definition

module _ (p : Part) (m : BlockModel) where
  -- who moves in the joined run, and in the part's
  pub data Moving (N : Naming) : Option Transaction → Option Transaction → Type 0 where
    own : (t : Transaction) → Known p (size p m) N t → Moving N (some t) (some (alone_as p m N t))
    away : {o : Option Transaction} → Away p m o → Moving N o none

  pub data Clocked (s a : State) : Type 0 where
    level : a.view.clock ≡ s.view.clock → Clocked s a
    resting : a.moving ≡ none → a.rel ≡ [] → Clocked s a

  -- the state that the part is seen in: its own, or the one after its next clock move
  pub data Stands (a : State) : State → Type 0 where
    same : Stands a a
    behind : a.moving ≡ none → a.rel ≡ [] → ((next_events a.fel a).rel ≡ [] → ⊥) → Stands a (next_events a.fel a)

  pub record Pace (N : Naming) (s a : State) : Type 0 where
    pub seen_as : State
    pub stands : Stands a seen_as
    pub seen : Seen p m N s seen_as
    pub moving : Moving N s.moving seen_as.moving
    pub clocked : Clocked s seen_as
    -- everybody on the part's WSL waits on
    pub holding : Each (λ u. waits_on m seen_as.view u ≡ true) seen_as.wsl

  -- ---- The numbers given so far are those before this turn

  abbrev pub rebased : Naming → ℕ → Naming
  rebased N born = record { serials = N.serials; numbers = N.numbers; since = born }

  -- names given since a clock value may be counted from any later one
  pub rebase : (N : Naming) (s a : State) → Seen p m N s a → Seen p m (rebased N s.made) s a
  rebase N s a h =
      let x : Extends N (rebased N s.made) s.serial s.made =
      record { serial-rank = λ k a. refl; number-rank = λ k a. refl; serial-on = λ k a. refl; number-on = λ k a. refl } in
      let us = h.counted.serials-upto in
      let un = h.counted.numbers-upto in
      record {
        counted =
            record { serial = h.counted.serial; made = h.counted.made; serials-upto = us; numbers-upto = un; since = omega arith };
        fixtures = fixtures-more p m N _ _ _ x us un _ _ _ _ h.fixtures;
        lined = lined-more p m N _ _ _ x us un _ _ _ _ _ _ h.lined;
        listed = listed_more p m N _ _ _ x us un _ _ _ _ _ _ _ _ h.listed;
        told = told_more p m N _ _ _ x us un _ _ h.told;
      }

  pub rebase-pace : (N : Naming) (s a : State) → Pace N s a → Pace (rebased N s.made) s a
  rebase-pace N s a h =
      record {
        seen_as = h.seen_as;
        stands = h.stands;
        seen = rebase N s _ h.seen;
        moving = go h.moving;
        clocked = h.clocked;
        holding = h.holding;
      }
    where
      go : {o o' : Option Transaction} → Moving N o o' → Moving (rebased N s.made) o o'
      go (own t k) = own t (record { own = k.own; serial = k.serial; number = k.number; family = k.family })
      go (away a) = away a

  -- ---- Who is taken comes from a REL that is not empty, perhaps after a clock move

  -- the same numbers, of those made before this turn
  abbrev pub SameNumbers : Naming → Naming → Type 0
  SameNumbers N N' = (k : ℕ) → k ≤ N.since → N'.numbers k ≡ N.numbers k

  pub record Paced (N : Naming) (s a : State) : Type 0 where
    pub naming : Naming
    pub pace : Pace naming s a
    pub numbers : SameNumbers N naming
    pub since : naming.since ≡ N.since

  module _ (M : BlockModel) (I : Inside p m M) where
    abbrev T : Tables p m
    T = I.tables

    not_none : {A : Type 0} (t : Transaction) → some t ≡ none → A
    not_none t e = absurd (true≢false (ap filled e))
      where
        filled : Option Transaction → Bool
        filled none = false
        filled (some t) = true

    -- who moves in the one moves in the other
    pub moving-none : {N : Naming} {o o' : Option Transaction} → Moving N o o' → o ≡ none → o' ≡ none
    moving-none (own t k) e = not_none t e
    moving-none (away a) e = refl

    -- nothing of the part is on an empty list
    nothing_seen : (N : Naming) (s a : State) → Seen p m N s a → s.rel ≡ [] → a.rel ≡ []
    unfolding those
    nothing_seen N s a h e = h.listed.rel.part.same ∙ ap (λ (l : List Transaction). map (alone_as p m N) (those (mine p (size p m)) l)) e

    abbrev Arrived : Naming → (s a r : State) → Type 0
    Arrived N s a r = Paced N r a × (r.moving ≡ none)

    module _ (N : Naming) (s a : State) (k : Seen p m N s a) (o : s.moving ≡ none) (q : a.moving ≡ none) (z : a.rel ≡ [])
        (w : Each (λ u. waits_on m a.view u ≡ true) a.wsl) where
      -- r is the joined state after the clock move
      unseen : (r : State) → Seen p m N r a → r.moving ≡ none → Arrived N s a r
      unseen r h e = (
        record {
          naming = N;
          pace =
              record {
                seen_as = a;
                stands = same;
                seen = h;
                moving = subst (λ (x : Option Transaction). Moving N r.moving x) (sym q) (away (subst (Away p m) (sym e) nobody));
                clocked = resting q z;
                holding = w;
              };
          numbers = λ k a. refl;
          since = refl;
        },
        e,
      )

      -- nobody of the WSL is woken by a clock move
      waits-later : (time : ℕ) → Each (λ u. waits_on m (move_clock time a).view u ≡ true) (move_clock time a).wsl
      waits-later time =
          let ours : List Transaction = those (mine p (size p m)) s.wsl in
          let l = k.listed.wsl.part in
          let there = moved-there p m N time s.ql _ _ _ _ k.fixtures in
          let before = each_unmap (alone_as p m N) (λ (u : Transaction). waits_on m a.view u ≡ true) ours (rw l.same at w) in
          let both =
          each-pair (Known p (size p m) N) (λ (t : Transaction). waits_on m a.view (alone_as p m N t) ≡ true) ours l.known before in
          let after : Each (λ (t : Transaction). waits_on m (moved time a.ql a.view) (alone_as p m N t) ≡ true) ours =
          each_map
          (λ (t : Transaction) h.
          waits_on-seen p m M I N _ _ _ _ (moved_here p m N time a.ql _ _ _ _ there) t h.0
          ∙ sym (waits_on-seen p m M I N _ _ _ _ there t h.0) ∙ h.1) ours both in
          subst (λ (v : View). Each (λ u. waits_on m v u ≡ true) (move_clock time a).wsl) (sym (move_clock-view time a))
          (rw ((move_clock-unmoved time a).wsl, l.same)
          (each_mapped (alone_as p m N) (λ (u : Transaction). waits_on m (moved time a.ql a.view) u ≡ true) ours after))

      by_events : (l : List Event) → s.fel ≡ l → Arrived N s a (next_events l s)
      unfolding next_events
      by_events [] f = unseen s k o
      by_events (x ∷ l) f = go (due? p m T N s a k x l f)
        where
          r : State
          r = move_clock x.time s

          e : (move_clock x.time s).moving ≡ none
          e = (move_clock-unmoved x.time s).moving ∙ o

          seen-moved : next_events a.fel a ≡ move_clock x.time a → ((move_clock x.time a).rel ≡ [] → ⊥)
              → After p m N (move_clock x.time s) (move_clock x.time a)
              → Arrived N s a (move_clock x.time s)
          seen-moved same-state filled after = (
            record {
              naming = after.naming;
              pace =
                  record {
                    seen_as = next_events a.fel a;
                    stands = behind q z (subst (λ (b : State). b.rel ≡ [] → ⊥) (sym same-state) filled);
                    seen = subst (Seen p m after.naming (move_clock x.time s)) (sym same-state) after.together.seen;
                    moving =
                        subst (λ (b : State). Moving after.naming (move_clock x.time s).moving b.moving) (sym same-state)
                        (subst (Moving after.naming (move_clock x.time s).moving) (sym after.together.still.1)
                        (away (subst (Away p m) (sym e) nobody)));
                    clocked =
                        level (subst (λ (b : State). b.view.clock ≡ (move_clock x.time s).view.clock) (sym same-state)
                        after.together.clock);
                    holding =
                        subst (λ (b : State). Each (λ u. waits_on m b.view u ≡ true) b.wsl) (sym same-state) (waits-later x.time);
                  };
              numbers = after.keeps.numbers;
              since = after.keeps.since;
            },
            e,
          )

          go : Due p m T s a x.time → Arrived N s a (move_clock x.time s)
          go (not_yet none-due) = unseen (move_clock x.time s) (move_clock-other p m T N s a k x.time none-due) e
          go (now same-state filled) = seen-moved same-state filled (move_clock-own p m T N s a k x.time o q)

    at_rest : (N : Naming) (s a b : State) → s.moving ≡ none → Stands a b → Seen p m N s b → b.moving ≡ none → b.rel ≡ []
        → Each (λ u. waits_on m b.view u ≡ true) b.wsl → Arrived N s a (next_events s.fel s)
    at_rest N s a b o same k q z w = by_events N s a k o q z w s.fel refl
    at_rest N s a b o (behind o' z' n) k q z w = absurd (n z)

    -- where nobody moves: after the clock move, if there is one, the part is level or still at rest
    pub ready-pace : (N : Naming) (s a r : State) → Pace N s a → s.moving ≡ none → Ready s r → Arrived N s a r
    ready-pace N s a r h o (as_is t l e) = (record { naming = N; pace = h; numbers = λ k a. refl; since = refl }, o)
    ready-pace N s a r h o (clock_moved e) =
        at_rest N s a h.seen_as o h.stands h.seen (moving-none h.moving o) (nothing_seen N s h.seen_as h.seen e)
        h.holding

    -- ---- In hand

    -- the part's own state of which the first of REL is taken
    takes_first : (a b : State) → Stands a b → b.moving ≡ none → (t : Transaction) (l : List Transaction) → b.rel ≡ t ∷ l
        → taking a.moving a ≡ set_moving (some t) (set_rel l b)
    unfolding taking take_ready
    takes_first a b same o t l e =
        ap (λ (x : Option Transaction). taking x a) o ∙ ap (λ (r : List Transaction). take_ready r a) e
        ∙ ap (λ (r : List Transaction). take_first r a) (sym e) ∙ first_taken t l a e
    takes_first a b (behind o z n) o' t l e =
        ap (λ (x : Option Transaction). taking x a) o ∙ ap (λ (r : List Transaction). take_ready r a) z ∙ first_taken t l b e

    pub record Takes (N : Naming) (t : Transaction) (q a : State) : Type 0 where
      pub known : Known p (size p m) N t
      pub takes : (taking a.moving a).moving ≡ some (alone_as p m N t)
      pub together : Together p m N q (handed m a)

    module _ (N : Naming) (r b : State) (h : Seen p m N r b) (t : Transaction) (l : List Transaction) (e : r.rel ≡ t ∷ l) (n : ℕ) where
      sorted_rest : Sorted precedes l
      sorted_rest = (rw e at h.listed.rel.sorted).1

      -- one of the part
      module _ (mine! : mine p (size p m) t ≡ true) where
        rest : List Transaction
        rest = those (mine p (size p m)) l

        split : those (mine p (size p m)) r.rel ≡ t ∷ those (mine p (size p m)) l
        unfolding those
        split =
            ap (those (mine p (size p m))) e
            ∙ ap (λ (c : Bool). cond c (t ∷ those (mine p (size p m)) l) (those (mine p (size p m)) l)) mine!

        all_known : Each (Known p (size p m) N) (t ∷ those (mine p (size p m)) l)
        all_known = rw split at h.listed.rel.part.known

        first-seen : b.rel ≡ alone_as p m N t ∷ map (alone_as p m N) (those (mine p (size p m)) l)
        first-seen = h.listed.rel.part.same ∙ ap (map (alone_as p m N)) split

        in-hand : (k : ℕ) → b.view.clock ≡ r.view.clock
            → Together p m N (hand n t l r) (hand k (alone_as p m N t) (map (alone_as p m N) (those (mine p (size p m)) l)) b)
        in-hand k c =
            record {
              seen =
                  record {
                    counted = h.counted;
                    fixtures = h.fixtures;
                    lined = h.lined;
                    listed =
                        record {
                          wsl = h.listed.wsl;
                          rel = record { part = record { same = refl; known = all_known.1 }; sorted = sorted_rest };
                          fel = h.listed.fel;
                          interrupted = h.listed.interrupted;
                          facilities = h.listed.facilities;
                        };
                    told = h.told;
                  };
              clock = c;
              still = (refl, refl);
            }

        -- the first of REL is of the part, so that the part takes it too
        pub own-hand : (a : State) → Stands a b → b.moving ≡ none → Clocked r b → Takes N t (hand n t l r) a
        own-hand a stands o clocked =
            let taken : taking a.moving a ≡ set_moving (some (alone_as p m N t))
            (set_rel (map (alone_as p m N) (those (mine p (size p m)) l)) b) =
            takes_first a b stands o (alone_as p m N t) (map (alone_as p m N) (those (mine p (size p m)) l)) first-seen in
            record {
              known = all_known.0;
              takes = ap (λ (x : State). x.moving) taken;
              together =
                  rw taken (in-hand (suc a.turns) (clocks clocked));
            }
          where
            clocks : Clocked r b → b.view.clock ≡ r.view.clock
            clocks (level c) = c
            clocks (resting o z) = absurd (empty (sym z ∙ first-seen))
              where
                empty : {x : Transaction} {k : List Transaction} → [] ≡ x ∷ k → ⊥
                empty q = true≢false (ap blank q)
                  where
                    blank : List Transaction → Bool
                    blank [] = true
                    blank (x ∷ l) = false

      -- one of the other part
      pub other-hand : mine p (size p m) t ≡ false → Seen p m N (hand n t l r) b
      unfolding those
      other-hand d =
          record {
            counted = h.counted;
            fixtures = h.fixtures;
            lined = h.lined;
            listed =
                record {
                  wsl = h.listed.wsl;
                  rel = record { part = rw gone at h.listed.rel.part; sorted = sorted_rest };
                  fel = h.listed.fel;
                  interrupted = h.listed.interrupted;
                  facilities = h.listed.facilities;
                };
            told = h.told;
          }
        where
          gone : those (mine p (size p m)) r.rel ≡ those (mine p (size p m)) l
          gone =
              ap (those (mine p (size p m))) e ∙ ap (λ (c : Bool). cond c (t ∷ those (mine p (size p m)) l) (those (mine p (size p m)) l)) d
