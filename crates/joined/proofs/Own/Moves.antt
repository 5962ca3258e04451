-- The single moves of a transaction of the part, made in the joined state and in the part's own: they keep the relation.
use Rattle.machine.specs.All.{ℕ, suc, ◌+◌, ◌-◌, ◌≤◌, ◌<◌, ◌≡◌, refl, sym, true, List, [], none, arith, ltb-true, leb-true, Transaction, precedes, Event, earlier, Gatherer, Interrupted, insert, those, nth, set_nth, Server, Queue, idle_server, empty_queue, Code, BlockModel, State, set_entries, set_queues, set_servers, set_view, set_samples, set_ql, set_wel, set_wsl, set_rel, set_fel, set_gatherers, set_interrupted, record_of, log, enters, to_ql, to_wel, to_wsl, line_up, Each, ap, ◌∙◌, ◌∷◌, map, ltb, leb, Record}
use Rattle.machine.proofs.{Decoding.Proper.Names, Decoding.Proper.servers, Basic.Each.each_map, Basic.Each.each-insert, Lists.Lines.each-line_up, Basic.Bools.and_true}
use Rattle.joined.specs.{Part, server_in, in_part}
use Rattle.joined.proofs as our
use our.Lists.Members.{insert-map, those-insert, sorted_insert, by-time, by_precedence}
use our.Lists.Tables.{Rows, rows-set, rows-put, rows_at}
use our.Relation.Naming.{Naming, mine, Known, event_as, gatherer_as, earlier-seen, part-insert, known-insert, line_up-seen}
use our.Relation.Seen.{size, block_there, queue_there, list_there, server_there, here, Gate, AtServer, gate_there, gate_here, Tables, alone_as, interrupted_as, Alike, Shown, SameServer, OfPart, Seen}
use our.Relation.Seen.{record_as}

-- where a block of the part stands there and here
pub record Standing (p : Part) (m : BlockModel) (block : ℕ) : Type 0 where
  pub names : Names (size p m) (block - p.to_block)
  pub there : block - p.to_block + p.to_block ≡ block

-- a block number of the joined model that is of the part, and its row in either table
pub standing : (p : Part) (m : BlockModel) (block : ℕ) → in_part p (size p m) block ≡ true → Standing p m block
standing p m block e =
    let h = and_true (ltb p.to_block block) (leb block (p.to_block + size p m)) e in
    let a : p.to_block < block = ltb-true _ _ h.0 in
    let b : block ≤ p.to_block + size p m = leb-true _ _ h.1 in
    record { names = (omega arith, omega arith); there = omega arith }

module _ (p : Part) (m : BlockModel) where
  -- at one clock, while nobody moves
  pub record Together (N : Naming) (s s' : State) : Type 0 where
    pub seen : Seen p m N s s'
    pub clock : s'.view.clock ≡ s.view.clock
    pub still : (s.moving ≡ none) × (s'.moving ≡ none)

  module _ (T : Tables p m) (N : Naming) where
    abbrev K : Transaction → Type 0
    K = Known p (size p m) N

    abbrev alone : Transaction → Transaction
    alone = alone_as p m N

    -- ---- Records and entries

    module _ (s s' : State) (h : Together N s s') where
      pub log-own : (outcome : ℕ) (t : Transaction) → K t → Together N (log outcome t s) (log outcome (alone t) s')
      unfolding log record_of those
      log-own outcome t k =
          record {
            seen =
                record {
                  counted = h.seen.counted;
                  fixtures = h.seen.fixtures;
                  lined = h.seen.lined;
                  listed = h.seen.listed;
                  told =
                      record {
                        same =
                            rw (k.own, h.clock)
                            (ap (λ (l : List Record). record_as p m N (record_of outcome t s) ∷ l) h.seen.told.same);
                        known = rw k.own (k.number, h.seen.told.known);
                      };
                };
            clock = h.clock;
            still = h.still;
          }

    pub enters-own : (s s' : State) → Together N s s' → (t : Transaction) → K t → Together N (enters t s) (enters (alone t) s')
    unfolding enters
    enters-own s s' h t k = log-own _ _ counted 0 t k
      where
        at : Standing p m t.next
        at = standing p m t.next k.own

        index : block_there p m (t.next - p.to_block) ≡ t.next - 1
        index = ap (λ (b : ℕ). b - 1) at.there

        same : nth s'.view.entries (t.next - p.to_block) 0 ≡ nth s.view.entries t.next 0
        same = rows_at _ _ _ _ _ _ _ _ h.seen.fixtures.entries (t.next - p.to_block) at.names _ _ index refl

        counted : Together N
            (set_view (set_entries (set_nth s.view.entries t.next (suc (nth s.view.entries t.next 0))) s.view) s)
            (set_view
            (set_entries (set_nth s'.view.entries (t.next - p.to_block) (suc (nth s'.view.entries (t.next - p.to_block) 0)))
            s'.view) s')
        counted =
            record {
              seen =
                  record {
                    counted = h.seen.counted;
                    fixtures =
                        record {
                          entries =
                              rows-put _ _ _ _ _ _ _ _ h.seen.fixtures.entries T.blocks (t.next - p.to_block)
                              at.names _ _ index refl _ _ (ap suc same);
                          queues = h.seen.fixtures.queues;
                          servers = h.seen.fixtures.servers;
                          lists = h.seen.fixtures.lists;
                        };
                    lined = h.seen.lined;
                    listed = h.seen.listed;
                    told = h.seen.told;
                  };
              clock = h.clock;
              still = h.still;
            }

    -- ---- One more on a list

    shown-insert : {l l' : List Transaction} → Shown p m N alone (λ t. t) precedes l l' → (t : Transaction) → K t
        → Shown p m N alone (λ t. t) precedes (insert precedes t l) (insert precedes (alone t) l')
    shown-insert {l} {l'} h t k =
        record {
          part =
              record {
                same = ap (insert precedes (alone t)) h.part.same ∙ part-insert p (size p m) N t l h.sorted k h.part.known;
                known = known-insert p (size p m) N t l h.sorted k h.part.known;
              };
          sorted = sorted_insert precedes by_precedence t l h.sorted;
        }

    events-insert : {l l' : List Event} → Shown p m N (event_as p (size p m) N) (λ e. e.who) earlier l l' → (e : Event) → K e.who
        → Shown p m N (event_as p (size p m) N) (λ e. e.who) earlier (insert earlier e l) (insert earlier (event_as p (size p m) N e) l')
    events-insert {l} {l'} h e k =
        record {
          part =
              record {
                same =
                    ap (insert earlier (event_as p (size p m) N e)) h.part.same
                    ∙ insert-map (event_as p (size p m) N) earlier earlier e ours
                    (each_map (λ (y : Event) q. earlier-seen p (size p m) N e y k q) ours h.part.known)
                    ∙ ap (map (event_as p (size p m) N)) (sym split);
                known = rw split (each-insert (λ (y : Event). K y.who) earlier e ours k h.part.known);
              };
          sorted = sorted_insert earlier by-time e l h.sorted;
        }
      where
        ours : List Event
        ours = those (λ y. mine p (size p m) y.who) l

        split : those (λ y. mine p (size p m) y.who) (insert earlier e l) ≡ insert earlier e ours
        split = those-insert earlier by-time (λ (y : Event). mine p (size p m) y.who) e l h.sorted k.own

    alike-line_up : (edition : ℕ) {l l' : List Transaction} (t : Transaction) → K t → Alike p m N alone (λ t. t) l l'
        → Alike p m N alone (λ t. t) (line_up edition t l) (line_up edition (alone t) l')
    alike-line_up edition {l} {l'} t k h =
        record {
          same = ap (line_up edition (alone t)) h.same ∙ line_up-seen p (size p m) N edition t l k h.known;
          known = each-line_up K edition t l k h.known;
        }

    -- ---- One table or list is another, on both sides

    module _ (s s' : State) (h : Together N s s') where
      -- one field of both states is replaced by lists that are seen alike; so for each of the fields below
      pub put-rel : (l l' : List Transaction) → Shown p m N alone (λ t. t) precedes l l' → Together N (set_rel l s) (set_rel l' s')
      put-rel l l' k =
          record {
            seen = record {
              counted = h.seen.counted;
              fixtures = h.seen.fixtures;
              lined = h.seen.lined;
              listed =
                  record {
                    wsl = h.seen.listed.wsl;
                    rel = k;
                    fel = h.seen.listed.fel;
                    interrupted = h.seen.listed.interrupted;
                    facilities = h.seen.listed.facilities;
                  };
              told = h.seen.told;
            };
            clock = h.clock;
            still = h.still;
          }

      pub put-wsl : (l l' : List Transaction) → Shown p m N alone (λ t. t) precedes l l' → Together N (set_wsl l s) (set_wsl l' s')
      put-wsl l l' k =
          record {
            seen = record {
              counted = h.seen.counted;
              fixtures = h.seen.fixtures;
              lined = h.seen.lined;
              listed =
                  record {
                    wsl = k;
                    rel = h.seen.listed.rel;
                    fel = h.seen.listed.fel;
                    interrupted = h.seen.listed.interrupted;
                    facilities = h.seen.listed.facilities;
                  };
              told = h.seen.told;
            };
            clock = h.clock;
            still = h.still;
          }

      pub put-fel : (l l' : List Event) → Shown p m N (event_as p (size p m) N) (λ e. e.who) earlier l l'
          → Together N (set_fel l s) (set_fel l' s')
      put-fel l l' k =
          record {
            seen = record {
              counted = h.seen.counted;
              fixtures = h.seen.fixtures;
              lined = h.seen.lined;
              listed =
                  record {
                    wsl = h.seen.listed.wsl;
                    rel = h.seen.listed.rel;
                    fel = k;
                    interrupted = h.seen.listed.interrupted;
                    facilities = h.seen.listed.facilities;
                  };
              told = h.seen.told;
            };
            clock = h.clock;
            still = h.still;
          }

      pub put-interrupted : (l l' : List Interrupted)
          → Shown p m N (interrupted_as p m N) (λ i. i.who) (λ a b. precedes a.who b.who) l l' → Each (OfPart p m N) l
          → Together N (set_interrupted l s) (set_interrupted l' s')
      put-interrupted l l' k f =
          record {
            seen = record {
              counted = h.seen.counted;
              fixtures = h.seen.fixtures;
              lined = h.seen.lined;
              listed =
                  record {
                    wsl = h.seen.listed.wsl;
                    rel = h.seen.listed.rel;
                    fel = h.seen.listed.fel;
                    interrupted = k;
                    facilities = f;
                  };
              told = h.seen.told;
            };
            clock = h.clock;
            still = h.still;
          }

      pub put-ql : (l l' : List (List Transaction))
          → Rows (Names (servers m)) (server_there p m) (here p m) (Alike p m N alone (λ t. t)) [] [] l l'
          → Together N (set_ql l s) (set_ql l' s')
      put-ql l l' k =
          record {
            seen = record {
              counted = h.seen.counted;
              fixtures = h.seen.fixtures;
              lined = record { ql = k; wel = h.seen.lined.wel; gatherers = h.seen.lined.gatherers };
              listed = h.seen.listed;
              told = h.seen.told;
            };
            clock = h.clock;
            still = h.still;
          }

      pub put-wel : (l l' : List (List Transaction))
          → Rows (AtServer p m) (gate_there p m) (gate_here p m) (Alike p m N alone (λ t. t)) [] [] l l'
          → Together N (set_wel l s) (set_wel l' s')
      put-wel l l' k =
          record {
            seen = record {
              counted = h.seen.counted;
              fixtures = h.seen.fixtures;
              lined = record { ql = h.seen.lined.ql; wel = k; gatherers = h.seen.lined.gatherers };
              listed = h.seen.listed;
              told = h.seen.told;
            };
            clock = h.clock;
            still = h.still;
          }

      pub put-gatherers : (l l' : List (List Gatherer))
          → Rows (Names (size p m)) (block_there p m) (here p m) (Alike p m N (gatherer_as p (size p m) N) (λ x. x.who)) [] [] l l'
          → Together N (set_gatherers l s) (set_gatherers l' s')
      put-gatherers l l' k =
          record {
            seen = record {
              counted = h.seen.counted;
              fixtures = h.seen.fixtures;
              lined = record { ql = h.seen.lined.ql; wel = h.seen.lined.wel; gatherers = k };
              listed = h.seen.listed;
              told = h.seen.told;
            };
            clock = h.clock;
            still = h.still;
          }

      pub put-samples : (l l' : List (List ℕ)) → Rows (Names m.lists) (list_there p m) (here p m) (λ (x y : List ℕ). y ≡ x) [] [] l l'
          → Together N (set_samples l s) (set_samples l' s')
      put-samples l l' k =
          record {
            seen = record {
              counted = h.seen.counted;
              fixtures =
                  record {
                    entries = h.seen.fixtures.entries;
                    queues = h.seen.fixtures.queues;
                    servers = h.seen.fixtures.servers;
                    lists = k;
                  };
              lined = h.seen.lined;
              listed = h.seen.listed;
              told = h.seen.told;
            };
            clock = h.clock;
            still = h.still;
          }

      pub put-servers : (l l' : List Server)
          → Rows (Names (servers m)) (server_there p m) (here p m) (SameServer p m N) (idle_server 0) (idle_server 0) l l'
          → Together N (set_view (set_servers l s.view) s) (set_view (set_servers l' s'.view) s')
      put-servers l l' k =
          record {
            seen = record {
              counted = h.seen.counted;
              fixtures =
                  record {
                    entries = h.seen.fixtures.entries;
                    queues = h.seen.fixtures.queues;
                    servers = k;
                    lists = h.seen.fixtures.lists;
                  };
              lined = h.seen.lined;
              listed = h.seen.listed;
              told = h.seen.told;
            };
            clock = h.clock;
            still = h.still;
          }

      pub put-queues : (l l' : List Queue)
          → Rows (Names m.queues) (queue_there p m) (here p m) (λ (x y : Queue). y.content ≡ x.content) empty_queue empty_queue l l'
          → Together N (set_view (set_queues l s.view) s) (set_view (set_queues l' s'.view) s')
      put-queues l l' k =
          record {
            seen = record {
              counted = h.seen.counted;
              fixtures =
                  record {
                    entries = h.seen.fixtures.entries;
                    queues = k;
                    servers = h.seen.fixtures.servers;
                    lists = h.seen.fixtures.lists;
                  };
              lined = h.seen.lined;
              listed = h.seen.listed;
              told = h.seen.told;
            };
            clock = h.clock;
            still = h.still;
          }

      -- ---- Onto lists

      pub rel-own : (t : Transaction) → K t
          → Together N (set_rel (insert precedes t s.rel) s) (set_rel (insert precedes (alone t) s'.rel) s')
      rel-own t k = put-rel _ _ (shown-insert h.seen.listed.rel t k)

      pub wsl-own : (t : Transaction) → K t → Together N (to_wsl t s) (to_wsl (alone t) s')
      unfolding to_wsl
      wsl-own t k = put-wsl _ _ (shown-insert h.seen.listed.wsl t k)

      pub fel-own : (e : Event) → K e.who
          → Together N (set_fel (insert earlier e s.fel) s) (set_fel (insert earlier (event_as p (size p m) N e) s'.fel) s')
      fel-own e k = put-fel _ _ (events-insert h.seen.listed.fel e k)

      pub ql-own : (edition v : ℕ) → Names (servers m) v → (t : Transaction) → K t
          → Together N (to_ql edition (server_in p v) t s) (to_ql edition v (alone t) s')
      unfolding to_ql
      ql-own edition v i t k =
          put-ql _ _
          (rows-set _ _ _ _ _ _ _ _ h.seen.lined.ql T.servers v i _ _ (alike-line_up edition t k (h.seen.lined.ql.alike v i)))

      pub wel-own : (edition v : ℕ) (code : Code) → Names (servers m) v → (t : Transaction) → K t
          → Together N (to_wel edition (server_in p v) code t s) (to_wel edition v code (alone t) s')
      unfolding to_wel
      wel-own edition v code i t k =
          let g : Gate p m = record { server = v; code = code } in
          put-wel _ _
          (rows-set _ _ _ _ _ _ _ _ h.seen.lined.wel T.gates g i _ _ (alike-line_up edition t k (h.seen.lined.wel.alike g i)))
