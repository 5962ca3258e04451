-- One more serial or number of the part: what was named before keeps its name.
use Rattle.machine.specs.All.{ℕ, suc, ◌+◌, ◌-◌, ◌≤◌, ◌≡◌, refl, sym, ◌∙◌, Bool, true, List, map, arith, Transaction, Event, Gatherer, Interrupted, those, Server, View, BlockModel, Record, State, Logged, with_serial, set_serial, set_made, fresh, ap}
use Rattle.machine.proofs.Basic.Each.{each_map}
use Rattle.joined.specs.{Part, in_part}
use Rattle.joined.proofs as our
use our.{Lists.Members.map_same, Lists.Tables.rows-map, Relation.Naming.gatherer_as}
use our.Lists.Ranks.{rank_in, rank-zero, rank_skip, Named, listed, nobody, noting, Upto, noted, noting-below, rank-noting, rank-noted, noting-upto, listed-within}
use our.Relation.Naming.{Naming, Known, Ours, event_as}
use our.Relation.Seen.{size, alone_as, record_as, interrupted_as, Alike, Shown, SameServer, Fixtures, Lined, Listed, Told, Seen}

-- ---- What was given stays

pub record Extends (N N' : Naming) (last born : ℕ) : Type 0 where
  -- the new name is the greatest, so older ranks stay
  pub serial-rank : (k : ℕ) → k ≤ last → rank_in N'.serials k ≡ rank_in N.serials k
  pub number-rank : (k : ℕ) → k ≤ born → rank_in N'.numbers k ≡ rank_in N.numbers k
  pub serial-on : (k : ℕ) → k ≤ last → N'.serials k ≡ N.serials k
  pub number-on : (k : ℕ) → k ≤ born → N'.numbers k ≡ N.numbers k

module _ (p : Part) (m : BlockModel) (N N' : Naming) (last born : ℕ) (E : Extends N N' last born)
    (us : Upto N.serials last) (un : Upto N.numbers born) where
  abbrev K : Transaction → Type 0
  K = Known p (size p m) N

  number_same : (k : ℕ) → N.numbers k ≡ true → rank_in N.numbers k ≡ rank_in N'.numbers k
  number_same k e = sym (E.number-rank k (listed-within N.numbers born k un e))

  number_more : (k : ℕ) → N.numbers k ≡ true → N'.numbers k ≡ true
  number_more k e = E.number-on k (listed-within N.numbers born k un e) ∙ e

  pub known_more : (t : Transaction) → K t → Known p (size p m) N' t
  known_more t h =
      record {
        own = h.own;
        serial = E.serial-on t.serial (listed-within N.serials last t.serial us h.serial) ∙ h.serial;
        number = number_more t.number h.number;
        family = number_more t.family h.family;
      }

  abbrev named_as : Transaction → (number serial family : ℕ) → Transaction
  named_as t a b c =
      record {
        number = a;
        priority = t.priority;
        parameters = t.parameters;
        next = t.next - p.to_block;
        serial = b;
        returning = t.returning;
        stamp = t.stamp;
        family = c;
      }

  pub alone-same : (t : Transaction) → K t → alone_as p m N t ≡ alone_as p m N' t
  alone-same t h =
      ap (λ (k : ℕ). named_as t k (rank_in N.serials t.serial) (rank_in N.numbers t.family)) (number_same t.number h.number)
      ∙ ap (λ (k : ℕ). named_as t (rank_in N'.numbers t.number) k (rank_in N.numbers t.family))
      (sym (E.serial-rank t.serial (listed-within N.serials last t.serial us h.serial)))
      ∙ ap (λ (k : ℕ). named_as t (rank_in N'.numbers t.number) (rank_in N'.serials t.serial) k)
      (number_same t.family h.family)

  -- ---- Lists

  module _ {A : Type 0} (f f' : A → A) (who : A → Transaction) (same : (x : A) → K (who x) → f x ≡ f' x) where
    alike-more : (l l' : List A) → Alike p m N f who l l' → Alike p m N' f' who l l'
    alike-more l l' h =
        record {
          same = h.same ∙ map_same f f' l (each_map (λ x k. same x k) l h.known);
          known = each_map (λ x k. known_more (who x) k) l h.known;
        }

    shown-more : (before : A → A → Bool) (l l' : List A) → Shown p m N f who before l l' → Shown p m N' f' who before l l'
    shown-more before l l' h = record { part = alike-more _ l' h.part; sorted = h.sorted }

  event-same : (e : Event) → K e.who → event_as p (size p m) N e ≡ event_as p (size p m) N' e
  event-same e h = ap {B = Event} (λ (t : Transaction). record { time = e.time; who = t }) (alone-same e.who h)

  gatherer-same : (g : Gatherer) → K g.who → gatherer_as p (size p m) N g ≡ gatherer_as p (size p m) N' g
  gatherer-same g h = ap {B = Gatherer} (λ (t : Transaction). record { who = t; come = g.come }) (alone-same g.who h)

  interrupted-same : (i : Interrupted) → K i.who → interrupted_as p m N i ≡ interrupted_as p m N' i
  interrupted-same i h =
      ap {B = Interrupted} (λ (t : Transaction). record { who = t; facility = i.facility - p.to_facility; remaining = i.remaining })
      (alone-same i.who h)

  server-more : (v v' : Server) → SameServer p m N v v' → SameServer p m N' v v'
  server-more v v' h =
      record {
        capacity = h.capacity;
        in_use = h.in_use;
        holder = h.holder ∙ holder h.holder-named;
        preempted = h.preempted;
        holder-named = named h.holder-named;
      }
    where
      holder : {k : ℕ} → Named N.numbers k → rank_in N.numbers k ≡ rank_in N'.numbers k
      holder {k} (listed e) = number_same k e
      holder {k} (nobody e) =
          ap (rank_in N.numbers) e ∙ rank-zero N.numbers ∙ sym (rank-zero N'.numbers) ∙ ap (rank_in N'.numbers) (sym e)

      named : {k : ℕ} → Named N.numbers k → Named N'.numbers k
      named {k} (listed e) = listed (number_more k e)
      named (nobody e) = nobody e

  -- ---- Each part of the relation

  -- each part of the relation, under one more name
  pub fixtures-more : (w w' : View) (samples samples' : List (List ℕ)) → Fixtures p m N w w' samples samples'
      → Fixtures p m N' w w' samples samples'
  fixtures-more w w' samples samples' h =
      record { entries = h.entries; queues = h.queues; servers = rows-map _ _ _ _ _ _ _ _ _ server-more h.servers; lists = h.lists }

  pub lined-more : (q w q' w' : List (List Transaction)) (g g' : List (List Gatherer)) → Lined p m N q w q' w' g g'
      → Lined p m N' q w q' w' g g'
  lined-more q w q' w' g g' h =
      record {
        ql = rows-map _ _ _ _ _ _ _ _ _ (alike-more (alone_as p m N) (alone_as p m N') (λ t. t) alone-same) h.ql;
        wel = rows-map _ _ _ _ _ _ _ _ _ (alike-more (alone_as p m N) (alone_as p m N') (λ t. t) alone-same) h.wel;
        gatherers =
            rows-map _ _ _ _ _ _ _ _ _ (alike-more (gatherer_as p (size p m) N) (gatherer_as p (size p m) N') (λ x. x.who) gatherer-same)
            h.gatherers;
      }

  pub listed_more : (w r w' r' : List Transaction) (f f' : List Event) (l l' : List Interrupted) → Listed p m N w r w' r' f f' l l'
      → Listed p m N' w r w' r' f f' l l'
  listed_more w r w' r' f f' l l' h =
      record {
        wsl = shown-more (alone_as p m N) (alone_as p m N') (λ t. t) alone-same _ w w' h.wsl;
        rel = shown-more (alone_as p m N) (alone_as p m N') (λ t. t) alone-same _ r r' h.rel;
        fel = shown-more (event_as p (size p m) N) (event_as p (size p m) N') (λ e. e.who) event-same _ f f' h.fel;
        interrupted = shown-more (interrupted_as p m N) (interrupted_as p m N') (λ i. i.who) interrupted-same _ l l' h.interrupted;
        facilities = each_map (λ i k. record { own = k.own; other = k.other }) l h.facilities;
      }

  pub told_more : (l l' : List Logged) → Told p m N l l' → Told p m N' l l'
  told_more l l' h =
      record {
        same = h.same ∙ map_same (record_as p m N) (record_as p m N') ours (each_map same ours h.known);
        known = each_map (λ (r : Record) k. number_more r.transaction k) ours h.known;
      }
    where
      ours : List Record
      ours = those (λ r. in_part p (size p m) r.block) (map (λ r. r.entry) l)

      same : (r : Record) → N.numbers r.transaction ≡ true → record_as p m N r ≡ record_as p m N' r
      same r k =
          ap {B = Record} (λ (n : ℕ). record { clock = r.clock; transaction = n; block = r.block - p.to_block; outcome = r.outcome })
          (number_same r.transaction k)

-- ---- A fresh serial, a new number

abbrev pub with_serial_of : Naming → (last : ℕ) → Naming
with_serial_of N last = record { serials = noting N.serials (suc last) true; numbers = N.numbers; since = N.since }

abbrev pub with_number_of : Naming → (born : ℕ) → Naming
with_number_of N born = record { serials = N.serials; numbers = noting N.numbers (suc born) true; since = N.since }

pub record Keeps (p : Part) (m : BlockModel) (N N' : Naming) : Type 0 where
  pub known : (t : Transaction) → Known p (size p m) N t → Known p (size p m) N' t
  pub same : (t : Transaction) → Known p (size p m) N t → alone_as p m N t ≡ alone_as p m N' t
  pub since : N'.since ≡ N.since
  pub numbers : (k : ℕ) → k ≤ N.since → N'.numbers k ≡ N.numbers k

module _ (p : Part) (m : BlockModel) (N : Naming) (s s' : State) (h : Seen p m N s s') where
  abbrev last : ℕ
  last = s.serial

  abbrev born : ℕ
  born = s.made

  more-serials : Extends N (with_serial_of N last) last born
  more-serials =
      record {
        serial-rank = rank-noting N.serials last true;
        number-rank = λ k a. refl;
        serial-on = noting-below N.serials last true;
        number-on = λ k a. refl;
      }

  more_numbers : Extends N (with_number_of N born) last born
  more_numbers =
      record {
        serial-rank = λ k a. refl;
        number-rank = rank-noting N.numbers born true;
        serial-on = λ k a. refl;
        number-on = noting-below N.numbers born true;
      }

  abbrev us : Upto N.serials last
  us = h.counted.serials-upto

  abbrev un : Upto N.numbers born
  un = h.counted.numbers-upto

  -- both sides take a fresh serial
  pub serial-seen : Seen p m (with_serial_of N last) (set_serial (fresh s) s) (set_serial (fresh s') s')
  serial-seen =
      record {
        counted =
            record {
              serial = ap suc h.counted.serial ∙ one_more ∙ sym (rank-noted N.serials last true);
              made = h.counted.made;
              serials-upto = noting-upto N.serials last true us;
              numbers-upto = un;
              since = h.counted.since;
            };
        fixtures = fixtures-more p m N (with_serial_of N last) last born more-serials us un _ _ _ _ h.fixtures;
        lined = lined-more p m N (with_serial_of N last) last born more-serials us un _ _ _ _ _ _ h.lined;
        listed = listed_more p m N (with_serial_of N last) last born more-serials us un _ _ _ _ _ _ _ _ h.listed;
        told = told_more p m N (with_serial_of N last) last born more-serials us un _ _ h.told;
      }
    where
      one_more : suc (rank_in N.serials last) ≡ rank_in N.serials last + 1
      one_more = omega arith

  -- both make one more
  pub number-seen : Seen p m (with_number_of N born) (set_made (suc s.made) s) (set_made (suc s'.made) s')
  number-seen =
      record {
        counted =
            record {
              serial = h.counted.serial;
              made = ap suc h.counted.made ∙ one_more ∙ sym (rank-noted N.numbers born true);
              serials-upto = us;
              numbers-upto = noting-upto N.numbers born true un;
              since = omega (arith, h.counted.since);
            };
        fixtures = fixtures-more p m N (with_number_of N born) last born more_numbers us un _ _ _ _ h.fixtures;
        lined = lined-more p m N (with_number_of N born) last born more_numbers us un _ _ _ _ _ _ h.lined;
        listed = listed_more p m N (with_number_of N born) last born more_numbers us un _ _ _ _ _ _ _ _ h.listed;
        told = told_more p m N (with_number_of N born) last born more_numbers us un _ _ h.told;
      }
    where
      one_more : suc (rank_in N.numbers born) ≡ rank_in N.numbers born + 1
      one_more = omega arith

  -- who is known so far is known then, by the same names
  pub keeps-serial : Keeps p m N (with_serial_of N last)
  keeps-serial =
      record {
        known = known_more p m N (with_serial_of N last) last born more-serials us un;
        same = alone-same p m N (with_serial_of N last) last born more-serials us un;
        since = refl;
        numbers = λ k a. refl;
      }

  pub keeps-number : Keeps p m N (with_number_of N born)
  keeps-number =
      record {
        known = known_more p m N (with_number_of N born) last born more_numbers us un;
        same = alone-same p m N (with_number_of N born) last born more_numbers us un;
        since = refl;
        numbers = λ k a. noting-below N.numbers born true k (omega (arith, h.counted.since));
      }

  -- the one that takes the serial
  pub known-fresh : (t : Transaction) → Ours p (size p m) N t → Known p (size p m) (with_serial_of N last) (with_serial (fresh s) t)
  known-fresh t k =
      record { own = k.own; serial = noted N.serials last true; number = k.number; family = k.family }

  -- the part's next serial is the rank of the joined run's next
  pub alone-fresh : (t : Transaction) → alone_as p m (with_serial_of N last) (with_serial (fresh s) t) ≡ with_serial (fresh s') (alone_as p m N t)
  alone-fresh t =
      ap (λ (k : ℕ). with_serial k (alone_as p m N t)) (rank-noted N.serials last true ∙ one_more ∙ ap suc (sym h.counted.serial))
    where
      one_more : rank_in N.serials last + 1 ≡ suc (rank_in N.serials last)
      one_more = omega arith

  -- the other part takes a serial, or makes one more
  pub serial-other : Seen p m N (set_serial (fresh s) s) s'
  serial-other =
      record {
        counted =
            record {
              serial = h.counted.serial ∙ sym (rank_skip N.serials last (us (suc last) (omega arith)));
              made = h.counted.made;
              serials-upto = λ k a. us k (omega arith);
              numbers-upto = un;
              since = h.counted.since;
            };
        fixtures = h.fixtures;
        lined = h.lined;
        listed = h.listed;
        told = h.told;
      }

  pub number-other : Seen p m N (set_made (suc s.made) s) s'
  number-other =
      record {
        counted =
            record {
              serial = h.counted.serial;
              made = h.counted.made ∙ sym (rank_skip N.numbers born (un (suc born) (omega arith)));
              serials-upto = us;
              numbers-upto = λ k a. un k (omega arith);
              since = omega (arith, h.counted.since);
            };
        fixtures = h.fixtures;
        lined = h.lined;
        listed = h.listed;
        told = h.told;
      }
