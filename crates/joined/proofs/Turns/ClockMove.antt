-- A clock move of the joined run: of a part that has events due it is that part's clock move, and others see nothing of it.
use Rattle.machine.specs.All.{ℕ, zero, suc, ◌-◌, ◌≤◌, ◌<◌, ◌≡◌, refl, sym, ap, ◌∙◌, Bool, true, false, cond, not, true≢false, List, [], ◌∷◌, map, none, arith, eqb, length, get_or, length-map, eqb-true, eqb-false, eq-eqb, ne_eqb, Transaction, precedes, Event, earlier, insert, those, others, Server, Queue, empty_queue, View, BlockModel, State, with_returning, to_rel, sample_servers, sample_queue, sample, arrive_all, due, move_clock, next_events, Each, idle_server, fresh, with_serial, set_clock, set_view, set_fel, subst}
use Rattle.machine.proofs.{Decoding.Proper.servers, Basic.Each.each_map, Basic.Each.each-those, Basic.Lists.those-none, Lists.Sorted.Sorted, Lists.Sorted.sorted-those, Lists.Sorted.later-time}
use Rattle.joined.specs.{Part}
use Rattle.joined.proofs as our
use our.Lists.Members.{strictly, all_same, those-map, those-those, those-all, those-insert-other, sorted_insert, by_precedence, map_same}
use our.Relation.Naming.{Naming, mine, Known, event_as}
use our.Relation.Seen.{size, Tables, SameServer, Fixtures, Seen}
use our.{Relation.NewNames.serial-other, Own.Moves.Together, Lists.Ranks.rank_in}
use our.Own.Makes.{After, after-here, after_then, to_rel-after}
use our.Relation.Seen.{server_there, queue_there, here}

-- ---- Statistics are not seen

record Likewise (v u : Server) : Type 0 where
  capacity : v.capacity ≡ u.capacity
  in_use : v.in_use ≡ u.in_use
  holder : v.holder ≡ u.holder
  preempted : v.preempted ≡ u.preempted

same-server : (v : Server) → Likewise v v
same-server v = record { capacity = refl; in_use = refl; holder = refl; preempted = refl }

sampled : (k : ℕ) (l : List Server) (q : List (List Transaction)) (i : ℕ) (d : Server)
    → Likewise (get_or (sample_servers k l q) i d) (get_or l i d)
unfolding sample_servers
sampled k [] q i d = same-server d
sampled k (v ∷ l) [] i d = same-server _
sampled k (v ∷ l) (x ∷ q) zero d = record { capacity = refl; in_use = refl; holder = refl; preempted = refl }
sampled k (v ∷ l) (x ∷ q) (suc i) d = sampled k l q i d

sampled-length : (k : ℕ) (l : List Server) (q : List (List Transaction)) → length (sample_servers k l q) ≡ length l
unfolding sample_servers
sampled-length k [] q = refl
sampled-length k (v ∷ l) [] = refl
sampled-length k (v ∷ l) (x ∷ q) = ap suc (sampled-length k l q)

sampled-content : (k : ℕ) (l : List Queue) (i : ℕ) → (get_or (map (sample_queue k) l) i empty_queue).content ≡ (get_or l i empty_queue).content
unfolding sample_queue empty_queue
sampled-content k [] i = refl
sampled-content k (q ∷ l) zero = refl
sampled-content k (q ∷ l) (suc i) = sampled-content k l i

-- ---- Who is due comes to REL

insert-filled : {A : Type 0} (before : A → A → Bool) (x : A) (l : List A) → insert before x l ≡ [] → ⊥
unfolding insert
insert-filled {A} before x [] e = true≢false (ap filled e)
  where
    filled : List A → Bool
    filled [] = false
    filled (x ∷ l) = true
insert-filled {A} before x (y ∷ l) e = go (before x y) e
  where
    filled : List A → Bool
    filled [] = false
    filled (x ∷ l) = true

    go : (b : Bool) → cond b (x ∷ y ∷ l) (y ∷ insert before x l) ≡ [] → ⊥
    go true e = true≢false (ap filled e)
    go false e = true≢false (ap filled e)

arrive_all-filled : (l : List Event) (s : State) → (s.rel ≡ [] → ⊥) → (arrive_all l s).rel ≡ [] → ⊥
unfolding arrive_all to_rel
arrive_all-filled [] s h e = h e
arrive_all-filled (x ∷ l) s h e = arrive_all-filled l (to_rel (with_returning false x.who) s) (insert-filled precedes _ s.rel) e

-- a clock move to the time of the first event leaves somebody ready
pub move_clock-filled : (time : ℕ) (s : State) (x : Event) (l : List Event) → s.fel ≡ x ∷ l → x.time ≡ time → (move_clock time s).rel ≡ []
    → ⊥
unfolding move_clock arrive_all those due to_rel
move_clock-filled time s x l f t e =
    arrive_all-filled (those (due time) l) (to_rel (with_returning false x.who) b) (insert-filled precedes _ _) (rw first at e)
  where
    b : State
    b = set_fel (others (due time) s.fel) (set_view (set_clock time (sample (time - s.view.clock) s).view) s)

    first : those (due time) s.fel ≡ x ∷ those (due time) l
    first = ap (those (due time)) f ∙ ap (λ (c : Bool). cond c (x ∷ those (due time) l) (those (due time) l)) (eq-eqb x.time time t)

-- a view with its clock moved
abbrev pub moved : ℕ → List (List Transaction) → View → View
moved time ql w =
    record {
      clock = time;
      entries = w.entries;
      queues = map (sample_queue (time - w.clock)) w.queues;
      servers = sample_servers (time - w.clock) w.servers ql;
    }

module _ (p : Part) (m : BlockModel) (N : Naming) where
  -- in the joined state
  pub moved-there : (time : ℕ) (ql : List (List Transaction)) (w w' : View) (samples samples' : List (List ℕ))
      → Fixtures p m N w w' samples samples'
      → Fixtures p m N (moved time ql w) w' samples samples'
  moved-there time ql w w' samples samples' h =
      record {
        entries = h.entries;
        queues =
            record {
              exists = λ i k. (rw (length-map w.queues (sample_queue _)) (h.queues.exists i k).0, (h.queues.exists i k).1);
              alike = λ i k. h.queues.alike i k ∙ sym (sampled-content _ w.queues (queue_there p m i));
            };
        servers =
            record {
              exists = λ i k. (rw (sampled-length _ w.servers ql) (h.servers.exists i k).0, (h.servers.exists i k).1);
              alike = λ i k. there (sampled _ w.servers ql (server_there p m i) (idle_server 0)) (h.servers.alike i k);
            };
        lists = h.lists;
      }
    where
      there : {u v v' : Server} → Likewise u v → SameServer p m N v v' → SameServer p m N u v'
      there {u} {v} {v'} l k =
          record {
            capacity = k.capacity ∙ sym l.capacity;
            in_use = k.in_use ∙ sym l.in_use;
            holder = k.holder ∙ ap (rank_in N.numbers) (sym l.holder);
            preempted = k.preempted ∙ sym l.preempted;
            holder-named = rw l.holder k.holder-named;
          }

  -- in the part's own
  pub moved_here : (time : ℕ) (ql : List (List Transaction)) (w w' : View) (samples samples' : List (List ℕ))
      → Fixtures p m N w w' samples samples'
      → Fixtures p m N w (moved time ql w') samples samples'
  moved_here time ql w w' samples samples' h =
      record {
        entries = h.entries;
        queues =
            record {
              exists = λ i k. ((h.queues.exists i k).0, rw (length-map w'.queues (sample_queue _)) (h.queues.exists i k).1);
              alike = λ i k. sampled-content _ w'.queues (here p m i) ∙ h.queues.alike i k;
            };
        servers =
            record {
              exists = λ i k. ((h.servers.exists i k).0, rw (sampled-length _ w'.servers ql) (h.servers.exists i k).1);
              alike = λ i k. own (sampled _ w'.servers ql (here p m i) (idle_server 0)) (h.servers.alike i k);
            };
        lists = h.lists;
      }
    where
      own : {u v v' : Server} → Likewise u v' → SameServer p m N v v' → SameServer p m N v u
      own {u} {v} {v'} l k =
          record {
            capacity = l.capacity ∙ k.capacity;
            in_use = l.in_use ∙ k.in_use;
            holder = l.holder ∙ k.holder;
            preempted = l.preempted ∙ k.preempted;
            holder-named = k.holder-named;
          }

-- ---- Events that are due

module _ (p : Part) (m : BlockModel) (T : Tables p m) where
  abbrev ours? : Event → Bool
  ours? e = mine p (size p m) e.who

  -- one of the other part comes to REL
  arrives-seen : (N : Naming) (s s' : State) → Seen p m N s s' → (t : Transaction) → mine p (size p m) t ≡ false → Seen p m N (to_rel t s) s'
  unfolding to_rel
  arrives-seen N s s' h t e =
      let k = serial-other p m N s s' h in
      let l = k.listed in
      record {
        counted = k.counted;
        fixtures = k.fixtures;
        lined = k.lined;
        listed =
            record {
              wsl = l.wsl;
              rel =
                  record {
                    part =
                        rw (those-insert-other (mine p (size p m)) precedes (with_serial (fresh s) t) s.rel e) l.rel.part;
                    sorted = sorted_insert precedes by_precedence (with_serial (fresh s) t) s.rel l.rel.sorted;
                  };
              fel = l.fel;
              interrupted = l.interrupted;
              facilities = l.facilities;
            };
        told = k.told;
      }

  arrives-other : (N : Naming) (s s' : State) → Together p m N s s' → (t : Transaction) → mine p (size p m) t ≡ false
      → Together p m N (to_rel t s) s'
  unfolding to_rel
  arrives-other N s s' h t e = record { seen = arrives-seen N s s' h.seen t e; clock = h.clock; still = h.still }

  arrive_all-seen : (l : List Event) (N : Naming) (s s' : State) → Each (λ e. ours? e ≡ false) l → Seen p m N s s'
      → Seen p m N (arrive_all l s) s'
  unfolding arrive_all
  arrive_all-seen [] N s s' k h = h
  arrive_all-seen (e ∷ l) N s s' k h = arrive_all-seen l N _ s' k.1 (arrives-seen N s s' h (with_returning false e.who) k.0)

  -- of those that arrive only the part's own are seen, and they arrive in the part alone
  pub arrive_all-own : (l : List Event) (N : Naming) (s s' : State) → Together p m N s s'
      → Each (λ e. Known p (size p m) N e.who) (those ours? l)
      → After p m N (arrive_all l s) (arrive_all (map (event_as p (size p m) N) (those ours? l)) s')
  unfolding arrive_all those
  arrive_all-own [] N s s' h k = after-here p m h
  arrive_all-own (e ∷ l) N s s' h k = go (ours? e) refl k (arrive_all-own l)
    where
      t : Transaction
      t = with_returning false e.who

      Rest : Type 0
      Rest = (N : Naming) (s s' : State) → Together p m N s s' → Each (λ e. Known p (size p m) N e.who) (those ours? l)
          → After p m N (arrive_all l s) (arrive_all (map (event_as p (size p m) N) (those ours? l)) s')

      go : (b : Bool) → ours? e ≡ b → Each (λ e. Known p (size p m) N e.who) (cond b (e ∷ those ours? l) (those ours? l)) → Rest
          → After p m N (arrive_all l (to_rel (with_returning false e.who) s))
          (arrive_all (map (event_as p (size p m) N) (cond b (e ∷ those ours? l) (those ours? l))) s')
      go true d k more =
          let a =
          to_rel-after p m T N s s' h (with_returning false e.who)
          (record { own = k.0.own; number = k.0.number; family = k.0.family }) in
          after_then p m a
          (rw (same a k.1) at (more a.naming _ _ a.together
          (each_map (λ (x : Event) q. a.keeps.known x.who q) (those ours? l) k.1)))
        where
          same : {r r' : State} (a : After p m N r r') → Each (λ e. Known p (size p m) N e.who) (those ours? l)
              → map (event_as p (size p m) a.naming) (those ours? l) ≡ map (event_as p (size p m) N) (those ours? l)
          same a q =
              map_same (event_as p (size p m) a.naming) (event_as p (size p m) N) (those ours? l)
              (each_map
              (λ (x : Event) c. ap {B = Event} (λ (u : Transaction). record { time = x.time; who = u }) (sym (a.keeps.same x.who c)))
              (those ours? l) q)
      go false d k more = more N _ _ (arrives-other N s s' h (with_returning false e.who) d) k

  -- ---- The clock moves

  none_of : (q : Event → Bool) (l : List Event) → those q l ≡ [] → Each (λ e. q e ≡ false) l
  unfolding those
  none_of q [] h = tt
  none_of q (e ∷ l) h = go (q e) refl h (none_of q l)
    where
      go : (b : Bool) → q e ≡ b → cond b (e ∷ those q l) (those q l) ≡ [] → (those q l ≡ [] → Each (λ e. q e ≡ false) l)
          → (q e ≡ false) × Each (λ e. q e ≡ false) l
      go true d k more = absurd (true≢false (ap filled k))
        where
          filled : List Event → Bool
          filled [] = false
          filled (x ∷ l) = true
      go false d k more = (d, more k)

  due-seen : (N : Naming) (time : ℕ) (e : Event) → due time (event_as p (size p m) N e) ≡ due time e
  unfolding due
  due-seen N time e = refl

  module _ (N : Naming) (s s' : State) (h : Seen p m N s s') (time : ℕ) where
    abbrev as_event : Event → Event
    as_event = event_as p (size p m) N

    abbrev later : Event → Bool
    later e = not (due time e)

    -- those due, and the FEL without them
    pub due-now : those (due time) s'.fel ≡ map as_event (those ours? (those (due time) s.fel))
    due-now =
        ap (those (due time)) h.listed.fel.part.same
        ∙ those-map as_event (due time) (due time) (those ours? s.fel)
        (all_same (λ (e : Event). due time (as_event e) ≡ due time e) (due-seen N time) (those ours? s.fel))
        ∙ ap (map as_event) (sym (those-those ours? (due time) s.fel))

    known-now : Each (λ e. Known p (size p m) N e.who) (those ours? (those (due time) s.fel))
    known-now =
        rw (those-those ours? (due time) s.fel)
        (each-those (λ (e : Event). Known p (size p m) N e.who) (due time) (those ours? s.fel) h.listed.fel.part.known)

    later-known : Each (λ e. Known p (size p m) N e.who) (those ours? (others (due time) s.fel))
    later-known =
        rw (those-those ours? later s.fel)
        (each-those (λ (e : Event). Known p (size p m) N e.who) later (those ours? s.fel) h.listed.fel.part.known)

    later-seen : others (due time) s'.fel ≡ map as_event (those ours? (others (due time) s.fel))
    later-seen =
        ap (others (due time)) h.listed.fel.part.same
        ∙ those-map as_event later later (those ours? s.fel)
        (all_same (λ (e : Event). later (as_event e) ≡ later e) (λ e. ap not (due-seen N time e)) (those ours? s.fel))
        ∙ ap (map as_event) (sym (those-those ours? later s.fel))

    -- on both sides
    pub move_clock-own : s.moving ≡ none → s'.moving ≡ none → After p m N (move_clock time s) (move_clock time s')
    unfolding move_clock sample
    move_clock-own o o' =
        subst (λ (l : List Event). After p m N (move_clock time s)
        (arrive_all l (set_fel (others (due time) s'.fel) (set_view (moved time s'.ql s'.view) s')))) (sym due-now)
        (arrive_all-own (those (due time) s.fel) N _ _
        (record {
          seen =
              record {
                counted = h.counted;
                fixtures = moved_here p m N time s'.ql _ _ _ _ (moved-there p m N time s.ql _ _ _ _ h.fixtures);
                lined = h.lined;
                listed =
                    record {
                      wsl = h.listed.wsl;
                      rel = h.listed.rel;
                      fel =
                          record {
                            part = record { same = later-seen; known = later-known };
                            sorted = sorted-those earlier later s.fel h.listed.fel.sorted;
                          };
                      interrupted = h.listed.interrupted;
                      facilities = h.listed.facilities;
                    };
                told = h.told;
              };
          clock = refl;
          still = (o, o');
        }) known-now)

    -- nothing of the part is due
    pub move_clock-other : those ours? (those (due time) s.fel) ≡ [] → Seen p m N (move_clock time s) s'
    unfolding move_clock sample
    move_clock-other e =
        arrive_all-seen (those (due time) s.fel) N _ s' (none_of ours? (those (due time) s.fel) e)
        (record {
          counted = h.counted;
          fixtures = moved-there p m N time s.ql _ _ _ _ h.fixtures;
          lined = h.lined;
          listed =
              record {
                wsl = h.listed.wsl;
                rel = h.listed.rel;
                fel =
                    record {
                      part = record {
                        same = sym (all-later s'.fel (due-now ∙ ap (map as_event) e)) ∙ later-seen;
                        known = later-known;
                      };
                      sorted = sorted-those earlier later s.fel h.listed.fel.sorted;
                    };
                interrupted = h.listed.interrupted;
                facilities = h.listed.facilities;
              };
          told = h.told;
        })
      where
        all-later : (l : List Event) → those (due time) l ≡ [] → others (due time) l ≡ l
        all-later l d = those-all later l (each_map (λ x q. ap not q) l (none_of (due time) l d))

  -- ---- Is anything of the part due?

  not-due : (time : ℕ) (e : Event) → time < e.time → due time e ≡ false
  unfolding due
  not-due time e lt = ne_eqb e.time time (λ q. omega arith)

  pub data Due (s s' : State) (time : ℕ) : Type 0 where
    not_yet : those ours? (those (due time) s.fel) ≡ [] → Due s s' time
    now : next_events s'.fel s' ≡ move_clock time s' → ((move_clock time s').rel ≡ [] → ⊥) → Due s s' time

  pub due? : (N : Naming) (s s' : State) → Seen p m N s s' → (e : Event) (l : List Event) → s.fel ≡ e ∷ l → Due s s' e.time
  unfolding next_events
  due? N s s' h e l k = go (those ours? s.fel) refl
    where
      first : (x : Event) → earlier x e ≡ false → e.time ≤ x.time
      first x d = later-time x e d

      all : Each (λ x. e.time ≤ x.time) s.fel
      all =
          let sorted : Sorted earlier (e ∷ l) = rw k at h.listed.fel.sorted in
          rw k (omega arith, each_map first l sorted.0)

      go : (r : List Event) → those ours? s.fel ≡ r → Due s s' e.time
      go [] d = not_yet (those-those ours? (due e.time) s.fel ∙ ap (those (due e.time)) d ∙ none)
        where
          none : those (due e.time) [] ≡ []
          none = those-none (due e.time) [] tt
      go (x ∷ r) d = either (eqb x.time e.time) refl
        where
          fel' : s'.fel ≡ map (event_as p (size p m) N) (x ∷ r)
          fel' = h.listed.fel.part.same ∙ ap (map (event_as p (size p m) N)) d

          ours-sorted : Sorted earlier (x ∷ r)
          ours-sorted = rw d at (sorted-those earlier ours? s.fel h.listed.fel.sorted)

          ours-later : Each (λ y. e.time ≤ y.time) (x ∷ r)
          ours-later = rw d at (each-those (λ (y : Event). e.time ≤ y.time) ours? s.fel all)

          never : (x.time ≡ e.time → ⊥) → Each (λ y. due e.time y ≡ false) (x ∷ r)
          never n =
              let lt : e.time < x.time = strictly e.time x.time ours-later.0 (λ q. n (sym q)) in
              (not-due e.time x lt, each_map (λ y q. not-due e.time y (omega (arith, later-time y x q))) r ours-sorted.0)

          either : (b : Bool) → eqb x.time e.time ≡ b → Due s s' e.time
          either true q =
              now (ap (λ (f : List Event). next_events f s') fel' ∙ ap (λ (n : ℕ). move_clock n s') (eqb-true x.time e.time q))
              (move_clock-filled e.time s' (event_as p (size p m) N x) (map (event_as p (size p m) N) r) fel'
              (eqb-true x.time e.time q))
          either false q =
              not_yet
              (those-those ours? (due e.time) s.fel ∙ ap (those (due e.time)) d
              ∙ those-none (due e.time) (x ∷ r) (never (eqb-false x.time e.time q)))

-- ---- What a clock move leaves as it was

pub record Unmoved (time : ℕ) (s r : State) : Type 0 where
  pub clock : r.view.clock ≡ time
  pub moving : r.moving ≡ s.moving
  pub wsl : r.wsl ≡ s.wsl
  pub ql : r.ql ≡ s.ql
  pub wel : r.wel ≡ s.wel
  pub end : r.end ≡ s.end
  pub made : r.made ≡ s.made

arrive_all-unmoved : (time : ℕ) (l : List Event) (s r : State) → Unmoved time s r → Unmoved time s (arrive_all l r)
unfolding arrive_all to_rel
arrive_all-unmoved time [] s r h = h
arrive_all-unmoved time (e ∷ l) s r h =
    arrive_all-unmoved time l s _
    (record { clock = h.clock; moving = h.moving; wsl = h.wsl; ql = h.ql; wel = h.wel; end = h.end; made = h.made })

pub move_clock-unmoved : (time : ℕ) (s : State) → Unmoved time s (move_clock time s)
unfolding move_clock
move_clock-unmoved time s =
    arrive_all-unmoved time (those (due time) s.fel) s _
    (record { clock = refl; moving = refl; wsl = refl; ql = refl; wel = refl; end = refl; made = refl })

-- and the view but for its clock and statistics
arrive_all-view : (l : List Event) (s : State) → (arrive_all l s).view ≡ s.view
unfolding arrive_all to_rel
arrive_all-view [] s = refl
arrive_all-view (e ∷ l) s = arrive_all-view l (to_rel (with_returning false e.who) s)

-- who arrives changes no server, queue or entry: the view is moved by sampling alone
pub move_clock-view : (time : ℕ) (s : State) → (move_clock time s).view ≡ moved time s.ql s.view
unfolding move_clock sample
move_clock-view time s = arrive_all-view (those (due time) s.fel) _
