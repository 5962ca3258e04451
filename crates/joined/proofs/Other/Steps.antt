-- The steps of a transaction of the other part: the part sees nothing of them.
use Rattle.machine.specs.All.{ℕ, suc, ◌-◌, ◌<◌, ◌≡◌, Bool, false, List, [], ◌∷◌, none, arith, get_or, take, Transaction, precedes, Event, earlier, Gatherer, Interrupted, insert, those, Server, Queue, idle_server, empty_queue, Code, U, NU, E, NE, F, NF, code_index, BlockModel, wel_index, State, set_entries, set_queues, set_servers, set_view, set_samples, set_ql, set_wel, set_wsl, set_rel, set_fel, set_interrupted, set_serial, set_made, record_of, log, enters, fresh, to_rel, to_fel, to_ql, to_wel, to_wsl, ql_of, wel_of, wake, wake_ql, wake_first_wel, Parted, set_use, set_content, use_time, set_gatherers_at, Each, sym, subst, with_serial, set_gatherers}
use Rattle.machine.proofs.{Decoding.Proper.Names, Decoding.Proper.servers, Lists.Sorted.at_set, Basic.Each.each-drop, Lists.Lines.each-line_up, Basic.Lists.those-none}
use Rattle.joined.specs.{Part}
use Rattle.joined.proofs as our
use our.Lists.Members.{those-insert-other, sorted_insert, by_precedence, by-time}
use our.Lists.Tables.{Rows, rows_other}
use our.Relation.NewNames.{serial-other, number-other}
use our.Own.Steps.{shown-wake}
use our.Relation.Naming.{Naming, mine, event_as}
use our.Relation.Seen.{size, block_there, queue_there, list_there, server_there, here, Gate, AtServer, gate_there, gate_here, alone_as, interrupted_as, Alike, Shown, SameServer, OfPart, Seen, Tables}
use our.Relation.Naming.{Known, gatherer_as}

-- ---- What the part does not have

module _ (p : Part) (m : BlockModel) where
  abbrev pub OtherServer : ℕ → Type 0
  OtherServer v = (u : ℕ) → Names (servers m) u → server_there p m u ≡ v - 1 → ⊥

  abbrev pub OtherQueue : ℕ → Type 0
  OtherQueue q = (u : ℕ) → Names m.queues u → queue_there p m u ≡ q - 1 → ⊥

  abbrev pub OtherList : ℕ → Type 0
  OtherList l = (u : ℕ) → Names m.lists u → list_there p m u ≡ l - 1 → ⊥

  abbrev pub OtherRow : ℕ → Type 0
  OtherRow b = (u : ℕ) → Names (size p m) u → block_there p m u ≡ b - 1 → ⊥

  code_below : (code : Code) → code_index code < 6
  unfolding code_index
  code_below U = omega arith
  code_below NU = omega arith
  code_below E = omega arith
  code_below NE = omega arith
  code_below F = omega arith
  code_below NF = omega arith

  -- nor its WELs
  pub other_gate : (v : ℕ) (code : Code) → OtherServer v → (g : Gate p m) → AtServer p m g → gate_there p m g ≡ wel_index v code → ⊥
  unfolding wel_index
  other_gate v code o g i e = o g.server i (omega (arith, e, code_below code, code_below g.code))

  -- the state beside which the part stands still
  pub record Beside (N : Naming) (c : ℕ) (s s' : State) : Type 0 where
    pub seen : Seen p m N s s'
    pub time : s.view.clock ≡ c
    pub still : s.moving ≡ none
    -- none of the part waits on a WEL that it does not have
    pub gates : (v : ℕ) (code : Code) → OtherServer v → Each (λ t. mine p (size p m) t ≡ false) (wel_of s v code)

  module _ (T : Tables p m) (N : Naming) (c : ℕ) (s' : State) where
    abbrev B : State → Type 0
    B s = Beside N c s s'

    abbrev mine? : Transaction → Bool
    mine? = mine p (size p m)

    abbrev alone : Transaction → Transaction
    alone = alone_as p m N

    abbrev Gates : List (List Transaction) → Type 0
    Gates wel = (v : ℕ) (code : Code) → OtherServer v → Each (λ t. mine? t ≡ false) (get_or wel (wel_index v code) [])

    -- ---- One table or list is another

    module _ (s : State) (h : B s) where
      put-rel : (l : List Transaction) → Shown p m N alone (λ t. t) precedes l s'.rel → B (set_rel l s)
      put-rel l k =
          record {
            seen = record {
              counted = h.seen.counted;
              fixtures = h.seen.fixtures;
              lined = h.seen.lined;
              listed =
                  record {
                    wsl = h.seen.listed.wsl;
                    rel = k;
                    fel = h.seen.listed.fel;
                    interrupted = h.seen.listed.interrupted;
                    facilities = h.seen.listed.facilities;
                  };
              told = h.seen.told;
            };
            time = h.time;
            still = h.still;
            gates = h.gates;
          }

      put-wsl : (l : List Transaction) → Shown p m N alone (λ t. t) precedes l s'.wsl → B (set_wsl l s)
      put-wsl l k =
          record {
            seen = record {
              counted = h.seen.counted;
              fixtures = h.seen.fixtures;
              lined = h.seen.lined;
              listed =
                  record {
                    wsl = k;
                    rel = h.seen.listed.rel;
                    fel = h.seen.listed.fel;
                    interrupted = h.seen.listed.interrupted;
                    facilities = h.seen.listed.facilities;
                  };
              told = h.seen.told;
            };
            time = h.time;
            still = h.still;
            gates = h.gates;
          }

      -- where the part's events among those of the new list are what they were
      pub put-fel : (l : List Event) → Shown p m N (event_as p (size p m) N) (λ e. e.who) earlier l s'.fel → B (set_fel l s)
      put-fel l k =
          record {
            seen = record {
              counted = h.seen.counted;
              fixtures = h.seen.fixtures;
              lined = h.seen.lined;
              listed =
                  record {
                    wsl = h.seen.listed.wsl;
                    rel = h.seen.listed.rel;
                    fel = k;
                    interrupted = h.seen.listed.interrupted;
                    facilities = h.seen.listed.facilities;
                  };
              told = h.seen.told;
            };
            time = h.time;
            still = h.still;
            gates = h.gates;
          }

      -- and so for the interrupted
      pub put-interrupted : (l : List Interrupted)
          → Shown p m N (interrupted_as p m N) (λ i. i.who) (λ a b. precedes a.who b.who) l s'.interrupted → Each (OfPart p m N) l
          → B (set_interrupted l s)
      put-interrupted l k f =
          record {
            seen = record {
              counted = h.seen.counted;
              fixtures = h.seen.fixtures;
              lined = h.seen.lined;
              listed =
                  record {
                    wsl = h.seen.listed.wsl;
                    rel = h.seen.listed.rel;
                    fel = h.seen.listed.fel;
                    interrupted = k;
                    facilities = f;
                  };
              told = h.seen.told;
            };
            time = h.time;
            still = h.still;
            gates = h.gates;
          }

      put-ql : (l : List (List Transaction))
          → Rows (Names (servers m)) (server_there p m) (here p m) (Alike p m N alone (λ t. t)) [] [] l s'.ql → B (set_ql l s)
      put-ql l k =
          record {
            seen = record {
              counted = h.seen.counted;
              fixtures = h.seen.fixtures;
              lined = record { ql = k; wel = h.seen.lined.wel; gatherers = h.seen.lined.gatherers };
              listed = h.seen.listed;
              told = h.seen.told;
            };
            time = h.time;
            still = h.still;
            gates = h.gates;
          }

      put-wel : (l : List (List Transaction))
          → Rows (AtServer p m) (gate_there p m) (gate_here p m) (Alike p m N alone (λ t. t)) [] [] l s'.wel → Gates l → B (set_wel l s)
      put-wel l k g =
          record {
            seen = record {
              counted = h.seen.counted;
              fixtures = h.seen.fixtures;
              lined = record { ql = h.seen.lined.ql; wel = k; gatherers = h.seen.lined.gatherers };
              listed = h.seen.listed;
              told = h.seen.told;
            };
            time = h.time;
            still = h.still;
            gates = g;
          }

      put-gatherers : (l : List (List Gatherer))
          → Rows (Names (size p m)) (block_there p m) (here p m) (Alike p m N (gatherer_as p (size p m) N) (λ x. x.who)) [] [] l
          s'.gatherers → B (set_gatherers l s)
      put-gatherers l k =
          record {
            seen = record {
              counted = h.seen.counted;
              fixtures = h.seen.fixtures;
              lined = record { ql = h.seen.lined.ql; wel = h.seen.lined.wel; gatherers = k };
              listed = h.seen.listed;
              told = h.seen.told;
            };
            time = h.time;
            still = h.still;
            gates = h.gates;
          }

      put-samples : (l : List (List ℕ))
          → Rows (Names m.lists) (list_there p m) (here p m) (λ (x y : List ℕ). y ≡ x) [] [] l s'.samples → B (set_samples l s)
      put-samples l k =
          record {
            seen = record {
              counted = h.seen.counted;
              fixtures =
                  record {
                    entries = h.seen.fixtures.entries;
                    queues = h.seen.fixtures.queues;
                    servers = h.seen.fixtures.servers;
                    lists = k;
                  };
              lined = h.seen.lined;
              listed = h.seen.listed;
              told = h.seen.told;
            };
            time = h.time;
            still = h.still;
            gates = h.gates;
          }

      put-servers : (l : List Server)
          → Rows (Names (servers m)) (server_there p m) (here p m) (SameServer p m N) (idle_server 0) (idle_server 0) l s'.view.servers
          → B (set_view (set_servers l s.view) s)
      put-servers l k =
          record {
            seen = record {
              counted = h.seen.counted;
              fixtures =
                  record {
                    entries = h.seen.fixtures.entries;
                    queues = h.seen.fixtures.queues;
                    servers = k;
                    lists = h.seen.fixtures.lists;
                  };
              lined = h.seen.lined;
              listed = h.seen.listed;
              told = h.seen.told;
            };
            time = h.time;
            still = h.still;
            gates = h.gates;
          }

      put-queues : (l : List Queue)
          → Rows (Names m.queues) (queue_there p m) (here p m) (λ (x y : Queue). y.content ≡ x.content) empty_queue empty_queue l
          s'.view.queues → B (set_view (set_queues l s.view) s)
      put-queues l k =
          record {
            seen = record {
              counted = h.seen.counted;
              fixtures =
                  record {
                    entries = h.seen.fixtures.entries;
                    queues = k;
                    servers = h.seen.fixtures.servers;
                    lists = h.seen.fixtures.lists;
                  };
              lined = h.seen.lined;
              listed = h.seen.listed;
              told = h.seen.told;
            };
            time = h.time;
            still = h.still;
            gates = h.gates;
          }

      -- ---- Records and entries

      pub log-other : (outcome : ℕ) (t : Transaction) → mine? t ≡ false → B (log outcome t s)
      unfolding log record_of those
      log-other outcome t e =
          record {
            seen = record {
              counted = h.seen.counted;
              fixtures = h.seen.fixtures;
              lined = h.seen.lined;
              listed = h.seen.listed;
              told = record { same = rw e h.seen.told.same; known = rw e h.seen.told.known };
            };
            time = h.time;
            still = h.still;
            gates = h.gates;
          }

      entered : (l : List ℕ) → Rows (Names (size p m)) (block_there p m) (here p m) (λ (x y : ℕ). y ≡ x) 0 0 l s'.view.entries
          → B (set_view (set_entries l s.view) s)
      entered l k =
          record {
            seen = record {
              counted = h.seen.counted;
              fixtures =
                  record {
                    entries = k;
                    queues = h.seen.fixtures.queues;
                    servers = h.seen.fixtures.servers;
                    lists = h.seen.fixtures.lists;
                  };
              lined = h.seen.lined;
              listed = h.seen.listed;
              told = h.seen.told;
            };
            time = h.time;
            still = h.still;
            gates = h.gates;
          }

      -- ---- Onto lists

      shown-other : {l l' : List Transaction} → Shown p m N alone (λ t. t) precedes l l' → (t : Transaction) → mine? t ≡ false
          → Shown p m N alone (λ t. t) precedes (insert precedes t l) l'
      shown-other {l} {l'} k t e =
          record {
            part = rw (those-insert-other mine? precedes t l e) k.part;
            sorted = sorted_insert precedes by_precedence t l k.sorted;
          }

      rel-other : (t : Transaction) → mine? t ≡ false → B (set_rel (insert precedes t s.rel) s)
      rel-other t e = put-rel _ (shown-other h.seen.listed.rel t e)

      pub wsl-other : (t : Transaction) → mine? t ≡ false → B (to_wsl t s)
      unfolding to_wsl
      wsl-other t e = put-wsl _ (shown-other h.seen.listed.wsl t e)

      fel-other : (x : Event) → mine? x.who ≡ false → B (set_fel (insert earlier x s.fel) s)
      fel-other x e =
          put-fel _
          (record {
            part =
                rw (those-insert-other (λ (y : Event). mine? y.who) earlier x s.fel e) h.seen.listed.fel.part;
            sorted = sorted_insert earlier by-time x s.fel h.seen.listed.fel.sorted;
          })

      pub ql-other : (edition v : ℕ) (t : Transaction) → OtherServer v → B (to_ql edition v t s)
      unfolding to_ql
      ql-other edition v t o = put-ql _ (rows_other _ _ _ _ _ _ _ _ h.seen.lined.ql (v - 1) o _)

      pub wel-other : (edition v : ℕ) (code : Code) (t : Transaction) → OtherServer v → mine? t ≡ false → B (to_wel edition v code t s)
      unfolding to_wel
      wel-other edition v code t o e =
          put-wel _ (rows_other _ _ _ _ _ _ _ _ h.seen.lined.wel (wel_index v code) (other_gate v code o) _)
          (λ u d q.
          at_set (Each (λ t. mine? t ≡ false)) s.wel (wel_index v code) (wel_index u d) _ []
          (λ same. each-line_up (λ t. mine? t ≡ false) edition t (wel_of s v code) e (h.gates v code o)) (h.gates u d q))

      -- ---- Waking

      rel-woken : (l : List Transaction) → Each (λ t. mine? t ≡ false) l → B (set_rel (wake l s.rel) s)
      unfolding wake
      rel-woken l e =
          let nobody : those mine? l ≡ [] = those-none mine? l e in
          put-rel _
          (rw nobody at (shown-wake p m T N h.seen.listed.rel l (subst (Each (Known p (size p m) N)) (sym nobody) tt)))

      pub set_use-other : (v units holder : ℕ) (preempted : Bool) → OtherServer v → B (set_use v units holder preempted s)
      unfolding set_use
      set_use-other v units holder preempted o = put-servers _ (rows_other _ _ _ _ _ _ _ _ h.seen.fixtures.servers (v - 1) o _)

      pub set_content-other : (q n : ℕ) → OtherQueue q → B (set_content q n s)
      unfolding set_content
      set_content-other q n o = put-queues _ (rows_other _ _ _ _ _ _ _ _ h.seen.fixtures.queues (q - 1) o _)

      pub use_time-other : (l : ℕ) → OtherList l → B (use_time l s)
      use_time-other l o = put-samples _ (rows_other _ _ _ _ _ _ _ _ h.seen.fixtures.lists (l - 1) o _)

      pub gatherers-other : (b : ℕ) (l : List Gatherer) → OtherRow b → B (set_gatherers_at b l s)
      gatherers-other b l o = put-gatherers _ (rows_other _ _ _ _ _ _ _ _ h.seen.lined.gatherers (b - 1) o _)

      pub fresh-other : B (set_serial (fresh s) s)
      fresh-other = record { seen = serial-other p m N s s' h.seen; time = h.time; still = h.still; gates = h.gates }

      pub made_other : B (set_made (suc s.made) s)
      made_other = record { seen = number-other p m N s s' h.seen; time = h.time; still = h.still; gates = h.gates }

    -- ---- Made of these

    module _ (s : State) (h : B s) where
      pub enters-other : (t : Transaction) → mine? t ≡ false → OtherRow t.next → B (enters t s)
      unfolding enters
      enters-other t e o = log-other _ (entered s h _ (rows_other _ _ _ _ _ _ _ _ h.seen.fixtures.entries (t.next - 1) o _)) 0 t e

      pub to_rel-other : (t : Transaction) → mine? t ≡ false → B (to_rel t s)
      unfolding to_rel
      to_rel-other t e = rel-other _ (fresh-other s h) (with_serial (fresh s) t) e

      pub to_fel-other : (time : ℕ) (t : Transaction) → mine? t ≡ false → B (to_fel time t s)
      unfolding to_fel
      to_fel-other time t e = fel-other _ (fresh-other s h) _ e

      -- on a QL of another part nobody of this part waits, so nobody of it is woken
      pub wake_ql-other : (part : List Transaction → Parted) (v : ℕ) → OtherServer v → Each (λ t. mine? t ≡ false) (part (ql_of s v)).go
          → B (wake_ql part v s)
      unfolding wake_ql
      wake_ql-other part v o e =
          put-ql _ (rel-woken s h (part (ql_of s v)).go e) _ (rows_other _ _ _ _ _ _ _ _ h.seen.lined.ql (v - 1) o _)

      pub wake_first_wel-other : (v : ℕ) (code : Code) → OtherServer v → B (wake_first_wel v code s)
      unfolding wake_first_wel
      wake_first_wel-other v code o =
          put-wel _ (rel-woken s h (take 1 (wel_of s v code)) (first (wel_of s v code) (h.gates v code o))) _
          (rows_other _ _ _ _ _ _ _ _ h.seen.lined.wel (wel_index v code) (other_gate v code o) _)
          (λ u d q.
          at_set (Each (λ t. mine? t ≡ false)) s.wel (wel_index v code) (wel_index u d) _ []
          (λ same. each-drop (λ t. mine? t ≡ false) (wel_of s v code) (h.gates v code o)) (h.gates u d q))
        where
          first : (l : List Transaction) → Each (λ t. mine? t ≡ false) l → Each (λ t. mine? t ≡ false) (take 1 l)
          first [] k = tt
          first (t ∷ l) k = (k.0, tt)
