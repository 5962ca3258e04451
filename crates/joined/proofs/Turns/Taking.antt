-- The taking of a turn of the joined run, as a part sees it: one of its own is in hand, or one of the other part.
use Rattle.machine.specs.All.{ℕ, ◌≡◌, refl, sym, ap, ◌∙◌, Bool, true, false, true≢false, ◌&&◌, List, [], ◌∷◌, Option, none, some, Transaction, Event, BlockModel, State, set_moving, set_turns, next_events, take_first, taking, waits_on, is_none, is_empty, nobody_left, Each, suc, set_rel}
use Rattle.joined.specs.{Part}
use Rattle.joined.proofs as our
use our.Relation.Naming.{Naming, mine, Known}
use our.Relation.Seen.{size, alone_as, Seen}
use our.{Own.Inside.Inside, Other.Effect.other, Turns.ClockMove.move_clock-filled}
use our.Turns.OneTurn.{Ready, as_is, clock_moved, readied, handed, hand, first_taken}
use our.Relation.Paces.{Moving, own, away, Clocked, level, resting, Stands, same, behind, Pace, SameNumbers, Takes, ready-pace, own-hand, other-hand, moving-none}
use Rattle.machine.proofs.Basic.Taking.{next_events-moving}

-- ---- Whom a turn takes

not_some : {A : Type 0} (t : Transaction) → none ≡ some t → A
not_some t e = absurd (true≢false (ap blank e))
  where
    blank : Option Transaction → Bool
    blank none = true
    blank (some t) = false

pub data Takings (s : State) : Type 0 where
  moves : (t : Transaction) → s.moving ≡ some t → Takings s
  first : (r : State) → Ready s r → taking none s ≡ take_first r.rel r → s.moving ≡ none → (t : Transaction) (l : List Transaction)
      → r.rel ≡ t ∷ l → Takings s

pub takings : (s : State) → nobody_left s ≡ false → Takings s
unfolding nobody_left is_none is_empty next_events
takings s e = go s.moving refl
  where
    filled : (o : Option Transaction) (l : List Transaction) (f : List Event) → (is_none o && is_empty l && is_empty f) ≡ false → o ≡ none
        → l ≡ [] → f ≡ [] → ⊥
    filled none [] [] e a b c = true≢false e
    filled none [] (x ∷ f) e a b c = true≢false (ap has c)
      where
        has : List Event → Bool
        has [] = false
        has (x ∷ l) = true
    filled none (x ∷ l) f e a b c = true≢false (ap has b)
      where
        has : List Transaction → Bool
        has [] = false
        has (x ∷ l) = true
    filled (some t) l f e a b c = not_some t (sym a)

    empty-rel : s.moving ≡ none → (r : State) → Ready s r → r.rel ≡ [] → ⊥
    empty-rel o r (as_is t l a) z = true≢false (ap has (sym a ∙ z))
      where
        has : List Transaction → Bool
        has [] = false
        has (x ∷ l) = true
    empty-rel o r (clock_moved a) z = none-due s.fel refl z
      where
        none-due : (f : List Event) → s.fel ≡ f → (next_events f s).rel ≡ [] → ⊥
        none-due [] c z = filled s.moving s.rel s.fel e o a c
        none-due (x ∷ f) c z = move_clock-filled x.time s x f c refl z

    go : (o : Option Transaction) → s.moving ≡ o → Takings s
    go (some t) o = moves t o
    go none o = found (readied s).from.rel refl
      where
        found : (l : List Transaction) → (readied s).from.rel ≡ l → Takings s
        found [] z = absurd (empty-rel o (readied s).from (readied s).ready z)
        found (t ∷ l) z = first (readied s).from (readied s).ready (readied s).taken o t l z

-- ---- As a part sees it

module _ (p : Part) (m M : BlockModel) (I : Inside p m M) where
  -- q is the joined state with t in hand
  pub data Caught (N : Naming) (t : Transaction) (q a : State) : Type 0 where
    ours : mine p (size p m) t ≡ true → Takes p m M I N t q a → Caught N t q a
    theirs : mine p (size p m) t ≡ false → (b : State) → Seen p m N q b → Stands p m a b → b.moving ≡ none
        → Each (λ u. waits_on m b.view u ≡ true) b.wsl → Clocked p m q b
        → Caught N t q a

  clocks-hand : (r b q : State) → q.view.clock ≡ r.view.clock → Clocked p m r b → Clocked p m q b
  clocks-hand r b q e (level c) = level (c ∙ sym e)
  clocks-hand r b q e (resting o z) = resting o z

  catch-first : (N : Naming) (r a : State) → Pace p m N r a → r.moving ≡ none → (t : Transaction) (l : List Transaction) → r.rel ≡ t ∷ l
      → (k : ℕ) → Caught N t (hand k t l r) a
  catch-first N r a h o t l e k = go (mine p (size p m) t) refl
    where
      still : h.seen_as.moving ≡ none
      still = moving-none p m M I h.moving o

      go : (b : Bool) → mine p (size p m) t ≡ b → Caught N t (hand k t l r) a
      go true d = ours d (own-hand p m M I N r h.seen_as h.seen t l e k d a h.stands still h.clocked)
      go false d =
          theirs d h.seen_as (other-hand p m M I N r h.seen_as h.seen t l e k d) h.stands still h.holding
          (clocks-hand r h.seen_as (hand k t l r) refl h.clocked)

  takes-moving : (N : Naming) (s a b : State) → Stands p m a b → Seen p m N s b → (t : Transaction) → Known p (size p m) N t
      → b.moving ≡ some (alone_as p m N t) → Clocked p m s b → (k : ℕ)
      → Takes p m M I N t (set_moving none (set_turns k s)) a
  unfolding taking
  takes-moving N s a b same h t q e clocked k =
      let taken : taking a.moving a ≡ a = ap (λ (o : Option Transaction). taking o a) e in
      record {
        known = q;
        takes = ap (λ (x : State). x.moving) taken ∙ e;
        together =
            rw taken (record {
              seen =
                  record { counted = h.counted; fixtures = h.fixtures; lined = h.lined; listed = h.listed; told = h.told };
              clock = clocks clocked;
              still = (refl, refl);
            });
      }
    where
      clocks : Clocked p m s a → a.view.clock ≡ s.view.clock
      clocks (level c) = c
      clocks (resting o z) = not_some (alone_as p m N t) (sym o ∙ e)
  takes-moving N s a b (behind o z n) h t q e clocked k = not_some (alone_as p m N t) (sym o ∙ sym (next_events-moving a.fel a) ∙ e)

  catch-moving : (N : Naming) (s a : State) → Pace p m N s a → (t : Transaction) → s.moving ≡ some t → (k : ℕ)
      → Caught N t (set_moving none (set_turns k s)) a
  catch-moving N s a h t e k = go (rw e at h.moving) refl
    where
      go : {o' : Option Transaction} → Moving p m N (some t) o' → h.seen_as.moving ≡ o' → Caught N t (set_moving none (set_turns k s)) a
      go (own u q) d = ours q.own (takes-moving N s a h.seen_as h.stands h.seen t q d h.clocked k)
      go (away (other u x)) d =
          theirs x h.seen_as
          (record {
            counted = h.seen.counted;
            fixtures = h.seen.fixtures;
            lined = h.seen.lined;
            listed = h.seen.listed;
            told = h.seen.told;
          })
          h.stands d h.holding (clocks-hand s h.seen_as (set_moving none (set_turns k s)) refl h.clocked)

  -- ---- The taking

  pub record Catch (N : Naming) (t : Transaction) (s a : State) : Type 0 where
    pub naming : Naming
    pub caught : Caught naming t (handed M s) a
    pub numbers : SameNumbers p m N naming
    pub since : naming.since ≡ N.since

  -- a turn that goes on with the one that moves already
  pub catch-moves : (N : Naming) (s a : State) → Pace p m N s a → (t : Transaction) → s.moving ≡ some t → Catch N t s a
  unfolding taking
  catch-moves N s a h t e =
      record {
        naming = N;
        caught =
            rw e (catch-moving N s a h t e (suc s.turns));
        numbers = λ k a. refl;
        since = refl;
      }

  -- a turn that takes the first of REL, after a clock move or without one
  pub catch-ready : (N : Naming) (s a : State) → Pace p m N s a → (r : State) → Ready s r → taking none s ≡ take_first r.rel r
      → s.moving ≡ none
      → (t : Transaction) (l : List Transaction) → r.rel ≡ t ∷ l → Catch N t s a
  catch-ready N s a h r ready taken o t l e =
      let ahead = ready-pace p m M I N s a r h o ready in
      let all : taking s.moving s ≡ set_moving (some t) (set_rel l r) =
      ap (λ (x : Option Transaction). taking x s) o ∙ taken ∙ first_taken t l r e in
      record {
        naming = ahead.0.naming;
        caught =
            rw all (catch-first ahead.0.naming r a ahead.0.pace ahead.1 t l e (suc s.turns));
        numbers = ahead.0.numbers;
        since = ahead.0.since;
      }

  -- who is taken
  pub taken-moves : (s : State) (t : Transaction) → s.moving ≡ some t → (taking s.moving s).moving ≡ some t
  unfolding taking
  taken-moves s t e = ap (λ (o : Option Transaction). (taking o s).moving) e ∙ e

  -- whoever stands first on REL is taken
  pub taken-first : (s r : State) → taking none s ≡ take_first r.rel r → s.moving ≡ none → (t : Transaction) (l : List Transaction)
      → r.rel ≡ t ∷ l → (taking s.moving s).moving ≡ some t
  taken-first s r taken o t l e =
      ap (λ (x : State). x.moving) (ap (λ (x : Option Transaction). taking x s) o ∙ taken ∙ first_taken t l r e)
