-- The starts of the joined run and of its parts are related.
use Rattle.machine.specs.All.{ℕ, zero, suc, ◌+◌, ◌-◌, ◌*◌, ◌≤◌, ◌<◌, ◌≡◌, refl, sym, ◌∙◌, subst, true, false, true≢false, List, [], ◌++◌, map, none, arith, length, get_or, replicate, length-replicate, length-append, length-map, get_or-replicate, get_or-append, get_or-map, Transaction, Gatherer, those, idle_server, empty_queue, Block, terminate, BlockModel, State, start_at, idle, start, waits_on, Each, ap, ap₂, ◌∷◌, Server, Queue}
use Rattle.machine.proofs.Decoding.Proper.{Names, servers, ProperBlock, Proper}
use Rattle.machine.proofs.{Runs.Shape.wel-below, NobodyAble.WaitsKept.waits_start, Basic.Lists.same_at}
use Rattle.joined.specs.{Part, first, second, server_in, block_in, join_models, join_tapes}
use Rattle.joined.proofs as our
use our.{Own.Terms.get_or-behind, Relation.Naming.Naming, Own.Inside.Inside, Own.Moves.Together, Own.Makes.After, Own.Effect.in-part, Turns.Simulation.Joint, Relation.Paces.Moving, Other.Effect.nobody as nobodyMoves}
use our.Relation.Seen.{Alike, SameServer}
use our.Other.Strangers.{Facing, outside_in}
use our.Joining.BothParts.{blocks_long, servers_long}
use our.Lists.Ranks.{rank-zero, nobody, listed-within}
use our.Relation.Paces.{away, level, same, Pace, rebased, rebase}
use our.Joining.Start.{Starting, start_at-gates, start_at-append, others-start, own-start}
use our.Joining.Numbering.{Place, facility, storage, place}

-- ---- The empty machine

abbrev pub nobody_yet : Naming
nobody_yet = record { serials = λ k. false; numbers = λ k. false; since = 0 }

-- facilities of capacity 1, then storages
abbrev capacities : BlockModel → List ℕ
capacities m = replicate m.facilities 1 ++ m.capacities

idle-servers : (n : ℕ) (l : List ℕ) → replicate n (idle_server 1) ++ map idle_server l ≡ map idle_server (replicate n 1 ++ l)
idle-servers zero l = refl
idle-servers (suc n) l = ap (λ (r : List Server). idle_server 1 ∷ r) (idle-servers n l)

-- what the two empty machines have to have in common
pub record Rooms (p : Part) (m M : BlockModel) (tape tape' : List (List ℕ)) : Type 0 where
  -- each table of the joined model is long enough for the part's rows
  pub blocks : (b : ℕ) → Names (length m.blocks) b → b + p.to_block - 1 < length M.blocks
  pub queues : (q : ℕ) → Names m.queues q → q + p.to_queue - 1 < M.queues
  pub servers_in : (u : ℕ) → Names (servers m) u → Names (servers M) (server_in p u)
  pub lists : (l : ℕ) → Names m.lists l → (l + p.to_list - 1 < length tape) × (l - 1 < length tape')
  -- and the rows that the part sees are its own
  pub capacity : (u : ℕ) → Names (servers m) u → get_or (capacities m) (u - 1) 0 ≡ get_or (capacities M) (server_in p u - 1) 0
  pub times : (l : ℕ) → Names m.lists l → get_or tape' (l - 1) [] ≡ get_or tape (l + p.to_list - 1) []

module _ (p : Part) (m M : BlockModel) (tape tape' : List (List ℕ)) (R : Rooms p m M tape tape') where
  idle-same : (a b : ℕ) → b ≡ a → SameServer p m nobody_yet (idle_server a) (idle_server b)
  unfolding idle_server
  idle-same a b e =
      record { capacity = e; in_use = refl; holder = sym (rank-zero (λ k. false)); preempted = refl; holder-named = nobody refl }

  servers-same : (u : ℕ) → Names (servers m) u
      → SameServer p m nobody_yet
      (get_or (replicate M.facilities (idle_server 1) ++ map idle_server M.capacities) (server_in p u - 1) (idle_server 0))
      (get_or (replicate m.facilities (idle_server 1) ++ map idle_server m.capacities) (u - 1) (idle_server 0))
  servers-same u i =
      rw (row M (server_in p u - 1))
      (subst (SameServer p m nobody_yet (idle_server (get_or (capacities M) (server_in p u - 1) 0))) (sym (row m (u - 1)))
      (idle-same _ _ (R.capacity u i)))
    where
      row : (m : BlockModel) (i : ℕ)
          → get_or (replicate m.facilities (idle_server 1) ++ map idle_server m.capacities) i (idle_server 0) ≡ idle_server
          (get_or (capacities m) i 0)
      row m i =
          ap (λ (l : List Server). get_or l i (idle_server 0)) (idle-servers m.facilities m.capacities)
          ∙ get_or-map idle_server (capacities m) i 0

  servers-number : (m : BlockModel) → length (replicate m.facilities (idle_server 1) ++ map idle_server m.capacities) ≡ servers m
  servers-number m =
      length-append (replicate m.facilities (idle_server 1)) (map idle_server m.capacities)
      ∙ ap₂ (λ (a b : ℕ). a + b) (length-replicate m.facilities (idle_server 1)) (length-map m.capacities idle_server)

  -- empty lists
  none_here : {A : Type 0} (f : A → A) (who : A → Transaction) (n k i j : ℕ)
      → Alike p m nobody_yet f who (get_or (replicate n []) i []) (get_or (replicate k []) j [])
  none_here {A} f who n k i j =
      subst (λ (l : List A). Alike p m nobody_yet f who l (get_or (replicate k []) j [])) (sym (same_at n i []))
      (subst (Alike p m nobody_yet f who []) (sym (same_at k j [])) (record { same = refl; known = tt }))

  long : {A : Type 0} (n i : ℕ) (a : A) → i < n → i < length (replicate n a)
  long n i a h = rw (length-replicate n a) h

  pub idle-together : Together p m nobody_yet (idle M tape) (idle m tape')
  unfolding idle those
  idle-together =
      record {
        seen =
            record {
              counted =
                  record {
                    serial = sym (rank-zero (λ k. false));
                    made = sym (rank-zero (λ k. false));
                    serials-upto = λ k lt. refl;
                    numbers-upto = λ k lt. refl;
                    since = omega arith;
                  };
              fixtures =
                  record {
                    entries =
                        record {
                          exists =
                              λ b i.
                              (long {A = ℕ} _ _ 0 (R.blocks b i), long {A = ℕ} (length m.blocks) (b - 1) 0 (omega (arith, i.0, i.1)));
                          alike = λ b i. same_at (length m.blocks) (b - 1) 0 ∙ sym (same_at (length M.blocks) (b + p.to_block - 1) 0);
                        };
                    queues =
                        record {
                          exists =
                              λ q i. (long _ _ empty_queue (R.queues q i), long m.queues (q - 1) empty_queue (omega (arith, i.0, i.1)));
                          alike =
                              λ q i. ap (λ (x : Queue). x.content)
                              (same_at m.queues (q - 1) empty_queue ∙ sym (same_at M.queues (q + p.to_queue - 1) empty_queue));
                        };
                    servers =
                        record {
                          exists =
                              λ u i. (
                                omega (arith, servers-number M, (R.servers_in u i).0, (R.servers_in u i).1),
                                omega (arith, servers-number m, i.0, i.1),
                              );
                          alike = servers-same;
                        };
                    lists = record { exists = R.lists; alike = R.times };
                  };
              lined =
                  record {
                    ql =
                        record {
                          exists =
                              λ u i. (
                                long {A = List Transaction} (servers M) (server_in p u - 1) []
                                    (omega (arith, (R.servers_in u i).0, (R.servers_in u i).1)),
                                long {A = List Transaction} (servers m) (u - 1) [] (omega (arith, i.0, i.1)),
                              );
                          alike = λ u i. none_here _ _ (servers M) (servers m) _ _;
                        };
                    wel =
                        record {
                          exists = λ g i. (
                            long {A = List Transaction} _ _ []
                                (wel-below (server_in p g.server) g.code (servers M) (R.servers_in g.server i).0
                                (R.servers_in g.server i).1),
                            long {A = List Transaction} _ _ [] (wel-below g.server g.code (servers m) i.0 i.1),
                          );
                          alike = λ g i. none_here _ _ (servers M * 6) (servers m * 6) _ _;
                        };
                    gatherers =
                        record {
                          exists =
                              λ b i. (
                                long {A = List Gatherer} _ _ [] (R.blocks b i),
                                long {A = List Gatherer} (length m.blocks) (b - 1) []
                                    (omega (arith, i.0, i.1)),
                              );
                          alike = λ b i. none_here _ _ (length M.blocks) (length m.blocks) _ _;
                        };
                  };
              listed =
                  record {
                    wsl = record { part = record { same = refl; known = tt }; sorted = tt };
                    rel = record { part = record { same = refl; known = tt }; sorted = tt };
                    fel = record { part = record { same = refl; known = tt }; sorted = tt };
                    interrupted = record { part = record { same = refl; known = tt }; sorted = tt };
                    facilities = tt;
                  };
              told = record { same = refl; known = tt };
            };
        clock = refl;
        still = (refl, refl);
      }

-- ---- Those of the two parts

facility-row : (n i : ℕ) (l : List ℕ) → i < n → get_or (replicate n 1 ++ l) i 0 ≡ 1
facility-row n i l h = get_or-append (replicate n 1) l 0 i (omega (arith, length-replicate {A = ℕ} n 1)) ∙ get_or-replicate n i 1 0 h

storage-row : (n k : ℕ) (l : List ℕ) → get_or (replicate n 1 ++ l) (k + n) 0 ≡ get_or l k 0
storage-row n k l =
    ap (λ (i : ℕ). get_or (replicate n 1 ++ l) (k + i) 0) (sym (length-replicate {A = ℕ} n 1)) ∙ get_or-behind (replicate n 1) l k 0

module _ (m₁ m₂ : BlockModel) {t₁ t₂ : List (List ℕ)} (proper₁ : Proper m₁ t₁) (proper₂ : Proper m₂ t₂) where
  abbrev p₁ : Part
  p₁ = first m₁ m₂

  abbrev p₂ : Part
  p₂ = second m₁ m₂

  capacity₁ : (u : ℕ) → Names (servers m₁) u → get_or (capacities m₁) (u - 1) 0 ≡ get_or (capacities (join_models m₁ m₂)) (server_in p₁ u - 1) 0
  unfolding join_models
  capacity₁ u i = go (place p₁ u)
    where
      go : Place p₁ u
          → get_or (capacities m₁) (u - 1) 0 ≡ get_or (replicate (m₁.facilities + m₂.facilities) 1 ++ (m₁.capacities ++ m₂.capacities))
          (server_in p₁ u - 1) 0
      go (facility h e) =
          facility-row m₁.facilities (u - 1) m₁.capacities (omega (arith, i.0))
          ∙ sym (facility-row (m₁.facilities + m₂.facilities) (server_in p₁ u - 1) (m₁.capacities ++ m₂.capacities)
          (omega (arith, i.0)))
      go (storage h e) =
          let k : ℕ = u - m₁.facilities - 1 in
          let a : u - m₁.facilities - 1 + m₁.facilities ≡ u - 1 = omega arith in
          let b : u - m₁.facilities - 1 + (m₁.facilities + m₂.facilities) ≡ server_in p₁ u - 1 = omega arith in
          ap (λ (j : ℕ). get_or (capacities m₁) j 0) (sym a) ∙ storage-row m₁.facilities (u - m₁.facilities - 1) m₁.capacities
          ∙ sym (get_or-append m₁.capacities m₂.capacities 0 (u - m₁.facilities - 1) (omega (arith, i.1)))
          ∙ sym (storage-row (m₁.facilities + m₂.facilities) (u - m₁.facilities - 1) (m₁.capacities ++ m₂.capacities))
          ∙ ap (λ (j : ℕ). get_or (replicate (m₁.facilities + m₂.facilities) 1 ++ (m₁.capacities ++ m₂.capacities)) j 0) b

  capacity₂ : (u : ℕ) → Names (servers m₂) u → get_or (capacities m₂) (u - 1) 0 ≡ get_or (capacities (join_models m₁ m₂)) (server_in p₂ u - 1) 0
  unfolding join_models
  capacity₂ u i = go (place p₂ u)
    where
      go : Place p₂ u
          → get_or (capacities m₂) (u - 1) 0 ≡ get_or (replicate (m₁.facilities + m₂.facilities) 1 ++ (m₁.capacities ++ m₂.capacities))
          (server_in p₂ u - 1) 0
      go (facility h e) =
          facility-row m₂.facilities (u - 1) m₂.capacities (omega (arith, i.0))
          ∙ sym (facility-row (m₁.facilities + m₂.facilities) (server_in p₂ u - 1) (m₁.capacities ++ m₂.capacities)
          (omega (arith, i.0)))
      go (storage h e) =
          let a : u - m₂.facilities - 1 + m₂.facilities ≡ u - 1 = omega arith in
          let b : u - m₂.facilities - 1 + length m₁.capacities + (m₁.facilities + m₂.facilities) ≡ server_in p₂ u - 1 = omega arith in
          ap (λ (j : ℕ). get_or (capacities m₂) j 0) (sym a) ∙ storage-row m₂.facilities (u - m₂.facilities - 1) m₂.capacities
          ∙ sym (get_or-behind m₁.capacities m₂.capacities (u - m₂.facilities - 1) 0)
          ∙ sym (storage-row (m₁.facilities + m₂.facilities) (u - m₂.facilities - 1 + length m₁.capacities)
          (m₁.capacities ++ m₂.capacities))
          ∙ ap (λ (j : ℕ). get_or (replicate (m₁.facilities + m₂.facilities) 1 ++ (m₁.capacities ++ m₂.capacities)) j 0) b

  -- a server of a part is one of the joined model
  servers₁ : (u : ℕ) → Names (servers m₁) u → Names (servers (join_models m₁ m₂)) (server_in p₁ u)
  servers₁ u i = go (place p₁ u)
    where
      go : Place p₁ u → Names (servers (join_models m₁ m₂)) (server_in p₁ u)
      go (facility h e) = (omega (arith, i.0), omega (arith, servers_long m₁ m₂))
      go (storage h e) = (omega (arith, i.0), omega (arith, servers_long m₁ m₂, i.1))

  servers₂ : (u : ℕ) → Names (servers m₂) u → Names (servers (join_models m₁ m₂)) (server_in p₂ u)
  servers₂ u i = go (place p₂ u)
    where
      go : Place p₂ u → Names (servers (join_models m₁ m₂)) (server_in p₂ u)
      go (facility h e) = (omega (arith, i.0), omega (arith, servers_long m₁ m₂))
      go (storage h e) = (omega (arith, i.0), omega (arith, servers_long m₁ m₂, i.1))

  rooms₁ : Rooms p₁ m₁ (join_models m₁ m₂) (join_tapes t₁ t₂) t₁
  unfolding join_models
  rooms₁ =
      record {
        blocks = λ b i. omega (arith, i.0, i.1, blocks_long m₁ m₂);
        queues = λ q i. omega (arith, i.0, i.1);
        servers_in = servers₁;
        lists = λ l i. (omega (arith, i.0, i.1, length-append t₁ t₂, proper₁.tapes), omega (arith, i.0, i.1, proper₁.tapes));
        capacity = capacity₁;
        times =
            λ l i. sym
            (ap (λ (j : ℕ). get_or (t₁ ++ t₂) j []) (less l) ∙ get_or-append t₁ t₂ [] (l - 1) (omega (arith, i.0, i.1, proper₁.tapes)));
      }
    where
      less : (l : ℕ) → l + 0 - 1 ≡ l - 1
      less l = omega arith

  rooms₂ : Rooms p₂ m₂ (join_models m₁ m₂) (join_tapes t₁ t₂) t₂
  unfolding join_models
  rooms₂ =
      record {
        blocks = λ b i. omega (arith, i.0, i.1, blocks_long m₁ m₂);
        queues = λ q i. omega (arith, i.0, i.1);
        servers_in = servers₂;
        lists =
            λ l i.
            (omega (arith, i.0, i.1, length-append t₁ t₂, proper₁.tapes, proper₂.tapes), omega (arith, i.0, i.1, proper₂.tapes));
        capacity = capacity₂;
        times = λ l i. sym (ap (λ (j : ℕ). get_or (t₁ ++ t₂) j []) (index l i.0) ∙ get_or-behind t₁ t₂ (l - 1) []);
      }
    where
      index : (l : ℕ) → 1 ≤ l → l + m₁.lists - 1 ≡ l - 1 + length t₁
      index l h = omega (arith, proper₁.tapes)

  -- ---- The starts

  abbrev s₀ : State
  s₀ = idle (join_models m₁ m₂) (join_tapes t₁ t₂)

  abbrev s₁ : State
  s₁ = start_at 1 (map (block_in p₁) m₁.blocks) s₀

  start_is : start (join_models m₁ m₂) (join_tapes t₁ t₂) ≡ start_at (1 + length m₁.blocks) (map (block_in p₂) m₂.blocks) s₁
  unfolding start join_models
  start_is =
      start_at-append 1 (map (block_in p₁) m₁.blocks) (map (block_in p₂) m₂.blocks) s₀
      ∙ ap (λ (i : ℕ). start_at (1 + i) (map (block_in p₂) m₂.blocks) s₁) (length-map m₁.blocks (block_in p₁))

  no-gates : (i : ℕ) → get_or s₀.wel i [] ≡ []
  unfolding idle
  no-gates i = same_at (servers (join_models m₁ m₂) * 6) i []

  at-index : {m : BlockModel} {t : List (List ℕ)} → Proper m t → (i : ℕ) → ProperBlock m (get_or m.blocks i (terminate 0))
  at-index {m} proper i = rw less at (proper.block (suc i))
    where
      less : suc i - 1 ≡ i
      less = omega arith

  image-at : (p : Part) (l : List Block) (i : ℕ) → get_or (map (block_in p) l) i (terminate 0) ≡ block_in p (get_or l i (terminate 0))
  unfolding block_in
  image-at p l i = get_or-map (block_in p) l i (terminate 0)

  module _ (I₁ : Inside p₁ m₁ (join_models m₁ m₂)) (I₂ : Inside p₂ m₂ (join_models m₁ m₂)) (F₁ : Facing p₁ m₁ p₂ m₂ (join_models m₁ m₂))
      (F₂ : Facing p₂ m₂ p₁ m₁ (join_models m₁ m₂)) where
    own₁ : After p₁ m₁ nobody_yet s₁ (start m₁ t₁)
    unfolding start
    own₁ =
        own-start p₁ m₁ I₁.tables m₁.blocks 1 nobody_yet s₀ (idle m₁ t₁) (omega arith) (omega arith) (λ i lt. at-index proper₁ i)
        (idle-together p₁ m₁ (join_models m₁ m₂) (join_tapes t₁ t₂) t₁ rooms₁)

    first-start : Starting p₁ m₁ I₁.tables own₁.naming (start_at (1 + length m₁.blocks) (map (block_in p₂) m₂.blocks) s₁)
        (start m₁ t₁)
    first-start =
        others-start p₁ m₁ I₁.tables own₁.naming (start m₁ t₁) (map (block_in p₂) m₂.blocks) (1 + length m₁.blocks) s₁
        (λ i lt. (
          rw (image-at p₂ m₂.blocks i)
              (outside_in p₁ m₁ p₂ m₂ (join_models m₁ m₂) F₁ (get_or m₂.blocks i (terminate 0)) (at-index proper₂ i)),
          F₁.blocks (1 + length m₁.blocks + i)
              (rw (number i) at (in-part p₂ m₂ (suc i) (omega arith, omega (arith, length-map m₂.blocks (block_in p₂))))),
        )) (record { together = own₁.together; gates = start_at-gates 1 (map (block_in p₁) m₁.blocks) s₀ no-gates })
      where
        number : (i : ℕ) → suc i + length m₁.blocks ≡ 1 + length m₁.blocks + i
        number i = omega arith

    before₂ : Starting p₂ m₂ I₂.tables nobody_yet s₁ (idle m₂ t₂)
    before₂ =
        others-start p₂ m₂ I₂.tables nobody_yet (idle m₂ t₂) (map (block_in p₁) m₁.blocks) 1 s₀
        (λ i lt. (
          rw (image-at p₁ m₁.blocks i)
              (outside_in p₂ m₂ p₁ m₁ (join_models m₁ m₂) F₂ (get_or m₁.blocks i (terminate 0)) (at-index proper₁ i)),
          F₂.blocks (1 + i) (rw (number i) at (in-part p₁ m₁ (suc i) (omega arith, omega (arith, length-map m₁.blocks (block_in p₁))))),
        )) (record { together = idle-together p₂ m₂ (join_models m₁ m₂) (join_tapes t₁ t₂) t₂ rooms₂; gates = no-gates })
      where
        number : (i : ℕ) → suc i + 0 ≡ 1 + i
        number i = omega arith

    own₂ : After p₂ m₂ (rebased p₂ m₂ nobody_yet s₁.made) (start_at (1 + length m₁.blocks) (map (block_in p₂) m₂.blocks) s₁)
        (start m₂ t₂)
    unfolding start
    own₂ =
        own-start p₂ m₂ I₂.tables m₂.blocks 1 (rebased p₂ m₂ nobody_yet s₁.made) s₁ (idle m₂ t₂) (omega arith) (omega arith)
        (λ i lt. at-index proper₂ i)
        (record {
          seen = rebase p₂ m₂ nobody_yet s₁ (idle m₂ t₂) before₂.together.seen;
          clock = before₂.together.clock;
          still = before₂.together.still;
        })

    -- everybody on the WSL of a start waits on: nobody is there
    holding : (m : BlockModel) (t : List (List ℕ)) → (start m t).moving ≡ none → (start m t).end ≡ 0
        → Each (λ u. waits_on m (start m t).view u ≡ true) (start m t).wsl
    holding m t o z = (waits_start m t).1 o (omega arith)

    pace_of : (p : Part) (m : BlockModel) (N : Naming) (s : State) (t : List (List ℕ)) → Together p m N s (start m t) → (start m t).end ≡ 0
        → Pace p m N s (start m t)
    pace_of p m N s t h z =
        record {
          seen_as = start m t;
          stands = same;
          seen = h.seen;
          moving =
              rw h.still.0 (subst (Moving p m N none) (sym h.still.1) (away nobodyMoves));
          clocked = level h.clock;
          holding = holding m t h.still.1 z;
        }

    -- GENERATEs of both parts have made their first arrivals
    pub joint-start : (start m₁ t₁).end ≡ 0 → (start m₂ t₂).end ≡ 0
        → Joint p₁ m₁ p₂ m₂ (start (join_models m₁ m₂) (join_tapes t₁ t₂)) (start m₁ t₁) (start m₂ t₂)
    joint-start z₁ z₂ =
        subst (λ (s : State). Joint p₁ m₁ p₂ m₂ s (start m₁ t₁) (start m₂ t₂)) (sym start_is)
        (record {
          naming = own₁.naming;
          naming' = own₂.naming;
          pace = pace_of p₁ m₁ own₁.naming _ t₁ first-start.together z₁;
          pace' = pace_of p₂ m₂ own₂.naming _ t₂ own₂.together z₂;
          rolls =
              record {
                disjoint = λ k a b.
                    let early = listed-within own₁.naming.numbers s₁.made k own₁.together.seen.counted.numbers-upto a in
                    true≢false (sym b ∙ own₂.keeps.numbers k early);
                nobody = own₁.keeps.numbers 0 (omega arith);
                nobody' = own₂.keeps.numbers 0 (omega arith);
              };
        })
