-- Steps of the part at a PREEMPT and a RETURN (document 02, item 11).
use Rattle.machine.specs.All.{ℕ, ◌+◌, ◌-◌, ◌≤◌, ◌≡◌, refl, sym, ap, ◌∙◌, subst, Bool, true, false, ◌&&◌, true≢false, List, [], map, arith, ltb, eqb, eqb-true, eqb-false, eq-eqb, ne_eqb, Transaction, precedes, Event, Interrupted, those, replace_first, Server, BlockModel, State, with_stamp, set_interrupted, to_fel, of_facility, interrupted_at, loses_to, interrupt, resume, Each, ap₂, not, insert}
use Rattle.machine.proofs.Decoding.Proper.{Names, servers}
use Rattle.machine.proofs.Basic.Each.{each_map, each-pair, each-insert, each-those, each_replace, each-passes}
use Rattle.joined.specs.{Part, server_in}
use Rattle.joined.proofs as our
use our.Lists.Members.{insert-map, those-map, replace-map, those-those, those-all, those_replace, those-insert, sorted_insert, sorted_replace, by-holder}
use our.Lists.Ranks.{Named, listed, nobody, rank-eqb}
use our.Relation.Naming.{Naming, mine, Known, ours, event_as, precedes-seen}
use our.Relation.Seen.{size, Tables, alone_as, interrupted_as, Alike, SameServer, OfPart}
use our.Own.Moves.{Together, put-fel, put-interrupted}
use our.Own.Steps.{server-seen}
use our.Own.Makes.{After, to_fel-after}

-- a transaction of the other part has no number of this one
pub record NotOurs (N : Naming) (t : Transaction) : Type 0 where
  pub number : N.numbers t.number ≡ false
  pub born : 1 ≤ t.number

-- what passes a test in a list, where only those of another do, is all of that
pub those-passing : {A : Type 0} (p q : A → Bool) (l : List A) → Each (λ x. q x ≡ true → p x ≡ true) l → those p (those q l) ≡ those q l
those-passing {A} p q l h =
    those-all p (those q l)
    (each_map (λ x k. k.0 k.1) (those q l)
    (each-pair (λ x. q x ≡ true → p x ≡ true) (λ x. q x ≡ true) (those q l) (each-those (λ x. q x ≡ true → p x ≡ true) q l h)
    (each-passes q l)))

all-four : (a b c d : Bool) → (a && b && c && d) ≡ true → c ≡ true
all-four true true true d e = refl
all-four true true false d e = absurd (true≢false (sym e))
all-four true false c d e = absurd (true≢false (sym e))
all-four false b c d e = absurd (true≢false (sym e))

module _ (p : Part) (m : BlockModel) (T : Tables p m) where
  abbrev n : ℕ
  n = size p m

  abbrev ours? : Event → Bool
  ours? e = mine p n e.who

  -- every event of the other part is not of this one
  abbrev pub Others : Naming → List Event → Type 0
  Others N l = Each (λ e. mine p n e.who ≡ false → NotOurs N e.who) l

  -- ---- Who loses a facility

  module _ (N : Naming) (t : Transaction) (v v' : Server) (k : SameServer p m N v v') where
    loses-seen : (e : Event) → Known p n N e.who → loses_to (alone_as p m N t) v' (event_as p n N e) ≡ loses_to t v e
    unfolding loses_to
    loses-seen e q =
        rw (
          k.in_use,
          k.preempted,
          k.holder,
          rank-eqb N.numbers e.who.number v.holder (listed q.number) k.holder-named,
        ) refl

    loser-ours : (e : Event) → (mine p n e.who ≡ false → NotOurs N e.who) → loses_to t v e ≡ true → mine p n e.who ≡ true
    unfolding loses_to
    loser-ours e other l = go (mine p n e.who) refl
      where
        holder : e.who.number ≡ v.holder
        holder =
            eqb-true _ _
            (all-four (ltb 0 v.in_use) (not v.preempted) (eqb e.who.number v.holder) (ltb e.who.priority t.priority) l)

        never : {x : ℕ} → Named N.numbers x → e.who.number ≡ x → NotOurs N e.who → ⊥
        never {x} (listed a) q o = true≢false (sym a ∙ ap N.numbers (sym q) ∙ o.number)
        never (nobody a) q o = omega (arith, o.born)

        go : (b : Bool) → mine p n e.who ≡ b → mine p n e.who ≡ true
        go true d = d
        go false d = absurd (never k.holder-named holder (other d))

    -- whom PREEMPT may take a facility from: of other parts nobody holds this facility
    pub losers-seen : (l l' : List Event) → Alike p m N (event_as p n N) (λ e. e.who) (those ours? l) l' → Others N l
        → Alike p m N (event_as p n N) (λ e. e.who) (those (loses_to t v) l) (those (loses_to (alone_as p m N t) v') l')
    losers-seen l l' h o =
        let all = those-passing ours? (loses_to t v) l (each_map (λ e q. loser-ours e q) l o) in
        let turned : those (loses_to t v) (those ours? l) ≡ those (loses_to t v) l = sym (those-those ours? (loses_to t v) l) ∙ all in
        record {
          same =
              ap (those (loses_to (alone_as p m N t) v')) h.same
              ∙ those-map (event_as p n N) (loses_to (alone_as p m N t) v') (loses_to t v) (those ours? l)
              (each_map (λ e q. loses-seen e q) (those ours? l) h.known)
              ∙ ap (map (event_as p n N)) turned;
          known = rw turned at (each-those (λ (e : Event). Known p n N e.who) (loses_to t v) (those ours? l) h.known);
        }

    -- the FEL without its first
    losers-gone : (l l' : List Event) → Alike p m N (event_as p n N) (λ e. e.who) (those ours? l) l' → Others N l
        → Alike p m N (event_as p n N) (λ e. e.who) (those ours? (replace_first (loses_to t v) [] l))
        (replace_first (loses_to (alone_as p m N t) v') [] l')
    losers-gone l l' h o =
        let split = those_replace ours? (loses_to t v) l (each_map (λ e q. loser-ours e q) l o) in
        record {
          same =
              ap (replace_first (loses_to (alone_as p m N t) v') []) h.same
              ∙ replace-map (event_as p n N) (loses_to (alone_as p m N t) v') (loses_to t v) [] (those ours? l)
              (each_map (λ e q. loses-seen e q) (those ours? l) h.known)
              ∙ ap (map (event_as p n N)) (sym split);
          known = rw split (each_replace (λ (e : Event). Known p n N e.who) (loses_to t v) [] (those ours? l) tt h.known);
        }

  abbrev ahead : Interrupted → Interrupted → Bool
  ahead a b = precedes a.who b.who

  abbrev ours-i : Interrupted → Bool
  ours-i i = mine p n i.who

  -- ---- Taking it away

  module _ (N : Naming) (s s' : State) (h : Together p m N s s') (f : ℕ) (ok : Names m.facilities f)
      (own : server_in p f ≡ f + p.to_facility) where
    i : Names (servers m) f
    i = (ok.0, omega arith)

    pub interrupt-own : (e : Event) (t : Transaction) → Known p n N e.who → Others N s.fel
        → Together p m N (interrupt e t (server_in p f) s) (interrupt (event_as p n N e) (alone_as p m N t) f s')
    unfolding interrupt
    interrupt-own e t q o =
        let left : ℕ = e.time - s.view.clock in
        let x : Interrupted = record { who = with_stamp left e.who; facility = server_in p f; remaining = left } in
        let q' : Known p n N x.who = record { own = q.own; serial = q.serial; number = q.number; family = q.family } in
        let l = h.seen.listed.interrupted in
        let split = those-insert ahead (by-holder (λ (y : Interrupted). y.who)) ours-i x s.interrupted l.sorted q.own in
        let named : interrupted_as p m N x
        ≡ record {
          who = with_stamp (e.time - s'.view.clock) (alone_as p m N e.who);
          facility = f;
          remaining = e.time - s'.view.clock;
        } =
        rw (h.clock, own, back) refl in
        let gone = put-fel p m T N s s' h _ _
        (record {
          part = losers-gone N t _ _ (server-seen p m T N s s' h f i) s.fel s'.fel h.seen.listed.fel.part o;
          sorted = sorted_replace _ _ s.fel h.seen.listed.fel.sorted;
        }) in
        put-interrupted p m T N _ _ gone _ _
        (record {
          part =
              record {
                same =
                    ap₂ (insert ahead) (sym named) l.part.same
                    ∙ insert-map (interrupted_as p m N) ahead ahead x (those ours-i s.interrupted)
                    (each_map (λ (y : Interrupted) r. precedes-seen p n N x.who y.who q' r) (those ours-i s.interrupted)
                    l.part.known)
                    ∙ ap (map (interrupted_as p m N)) (sym split);
                known =
                    rw split
                    (each-insert (λ (y : Interrupted). Known p n N y.who) ahead x (those ours-i s.interrupted) q' l.part.known);
              };
          sorted = sorted_insert ahead (by-holder (λ (y : Interrupted). y.who)) x s.interrupted l.sorted;
        })
        (each-insert (OfPart p m N) ahead x s.interrupted
        (record { own = λ d. behind; other = λ d. absurd (true≢false (sym q.own ∙ d)) }) h.seen.listed.facilities)
      where
        back : f + p.to_facility - p.to_facility ≡ f
        back = omega arith

        behind : Names m.facilities (server_in p f - p.to_facility)
        behind = (omega (arith, own, ok.0), omega (arith, own, ok.1))

    -- ---- Giving it back

    of-seen : (x : Interrupted) → Names m.facilities (x.facility - p.to_facility)
        → of_facility f (interrupted_as p m N x) ≡ of_facility (server_in p f) x
    unfolding of_facility
    of-seen x lt = rw own (go (eqb x.facility (f + p.to_facility)) refl)
      where
        go : (b : Bool) → eqb x.facility (f + p.to_facility) ≡ b → eqb (x.facility - p.to_facility) f ≡ b
        go true e = eq-eqb (x.facility - p.to_facility) f (omega (arith, lt.0, eqb-true x.facility (f + p.to_facility) e))
        go false e = ne_eqb (x.facility - p.to_facility) f (λ d. eqb-false x.facility (f + p.to_facility) e (omega (arith, lt.0)))

    of-ours : (x : Interrupted) → OfPart p m N x → of_facility (server_in p f) x ≡ true → mine p n x.who ≡ true
    unfolding of_facility
    of-ours x k e = go (mine p n x.who) refl
      where
        go : (b : Bool) → mine p n x.who ≡ b → mine p n x.who ≡ true
        go true d = d
        go false d = absurd (k.other d f i (sym (eqb-true _ _ e)))

    same_of : Each (λ x. of_facility f (interrupted_as p m N x) ≡ of_facility (server_in p f) x) (those ours-i s.interrupted)
    same_of =
        each_map (λ x q. of-seen x (q.0.own q.1)) (those ours-i s.interrupted)
        (each-pair (OfPart p m N) (λ x. ours-i x ≡ true) (those ours-i s.interrupted)
        (each-those (OfPart p m N) ours-i s.interrupted h.seen.listed.facilities) (each-passes ours-i s.interrupted))

    -- a facility of the part was lost only by those of the part
    pub interrupted_at-seen : Alike p m N (interrupted_as p m N) (λ x. x.who) (interrupted_at s (server_in p f)) (interrupted_at s' f)
    interrupted_at-seen =
        let l = h.seen.listed.interrupted in
        let all =
        those-passing ours-i (of_facility (server_in p f)) s.interrupted
        (each_map (λ x q. of-ours x q) s.interrupted h.seen.listed.facilities) in
        let turned : those (of_facility (server_in p f)) (those ours-i s.interrupted) ≡ interrupted_at s (server_in p f) =
        sym (those-those ours-i (of_facility (server_in p f)) s.interrupted) ∙ all in
        record {
          same =
              ap (those (of_facility f)) l.part.same
              ∙ those-map (interrupted_as p m N) (of_facility f) (of_facility (server_in p f)) (those ours-i s.interrupted) same_of
              ∙ ap (map (interrupted_as p m N)) turned;
          known =
              rw turned at (each-those (λ (x : Interrupted). Known p n N x.who) (of_facility (server_in p f))
              (those ours-i s.interrupted) l.part.known);
        }

    pub resume-own : (x : Interrupted) → Known p n N x.who
        → After p m N (resume x (server_in p f) s) (resume (interrupted_as p m N x) f s')
    unfolding resume
    resume-own x k =
        let l = h.seen.listed.interrupted in
        let split =
        those_replace ours-i (of_facility (server_in p f)) s.interrupted
        (each_map (λ y q. of-ours y q) s.interrupted h.seen.listed.facilities) in
        let gone = put-interrupted p m T N s s' h _ _
        (record {
          part =
              record {
                same =
                    ap (replace_first (of_facility f) []) l.part.same
                    ∙ replace-map (interrupted_as p m N) (of_facility f) (of_facility (server_in p f)) []
                    (those ours-i s.interrupted) same_of
                    ∙ ap (map (interrupted_as p m N)) (sym split);
                known =
                    rw split
                    (each_replace (λ (y : Interrupted). Known p n N y.who) (of_facility (server_in p f)) []
                    (those ours-i s.interrupted) tt l.part.known);
              };
          sorted = sorted_replace ahead (of_facility (server_in p f)) s.interrupted l.sorted;
        })
        (each_replace (OfPart p m N) (of_facility (server_in p f)) [] s.interrupted tt h.seen.listed.facilities) in
        subst (λ (c : ℕ). After p m N (resume x (server_in p f) s)
        (to_fel (c + x.remaining) (alone_as p m N x.who) (set_interrupted (replace_first (of_facility f) [] s'.interrupted) s')))
        (sym h.clock)
        (to_fel-after p m T N _ _ gone (s.view.clock + x.remaining) x.who (ours p n k))
