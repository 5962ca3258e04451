-- What is known of those who wait is kept by every turn, and holds at the start.
use Rattle.machine.specs.All.{ℕ, zero, suc, ◌*◌, ◌-◌, ◌≡◌, refl, ◌∙◌, Bool, not, inl, inr, List, [], ◌∷◌, Option, none, some, arith, get_or, replicate, not-true, not-false, Transaction, Event, precedes, those, others, Server, Code, U, NU, E, NE, F, NF, status, Block, BlockModel, block_at, wel_index, State, wake, to_rel, to_fel, arrival, wake_wsl, effect, sample_servers, sample, arrive_all, move_clock, next_events, take_first, take_ready, taking, answer, execute, waits_on, ws_scheme, turn, start_at, idle, start, Each, sym, true, idle_server, set_turns, set_moving, due}
use Rattle.machine.proofs as our
use our.Decoding.Proper.{Proper, servers}
use our.Basic.Each.{each_map, each-passes}
use our.{Runs.Kept.taking-kept, NobodyAble.Waiting.WaitsOver, Basic.Taking.next_events-moving}
use our.Lists.Cases.{ws_scheme-cases, start_of-cases}
use our.Runs.Shape.{Shape, shape_closed}
use our.Lists.Sorted.{Some, Sorted}
use our.NobodyAble.Waiting.{server_in, AtServer, AtWel, QlWaits, nobody_fits, next_ready, WelWaits, code_true, nobody_waits, one_ready, Waits, ready_of, Settled}
use our.NobodyAble.Ready.{Grows, grows-wake, waits-more}
use our.NobodyAble.WaitsBlocks.{Walked, to_rel-walked, effect-walked}

-- ---- Statistics change nobody's wait

-- capacity, use and holder are the same
abbrev pub Alike : Server → Server → Type 0
Alike x y = (y.capacity ≡ x.capacity) × (y.in_use ≡ x.in_use) × (y.holder ≡ x.holder) × (y.preempted ≡ x.preempted)

-- statistics do not bear on who waits
pub sampled-alike : (ticks : ℕ) (l : List Server) (ql : List (List Transaction)) (k : ℕ) (d : Server)
    → Alike (get_or l k d) (get_or (sample_servers ticks l ql) k d)
unfolding sample_servers
sampled-alike ticks [] ql k d = (refl, refl, refl, refl)
sampled-alike ticks (x ∷ l) [] k d = (refl, refl, refl, refl)
sampled-alike ticks (x ∷ l) (q ∷ ql) zero d = (refl, refl, refl, refl)
sampled-alike ticks (x ∷ l) (q ∷ ql) (suc k) d = sampled-alike ticks l ql k d

status-alike : (code : Code) (x y : Server) → Alike x y → status code y ≡ status code x
unfolding status
status-alike U x y h = rw h.1
status-alike NU x y h = rw h.1
status-alike E x y h = rw h.1
status-alike NE x y h = rw h.1
status-alike F x y h = rw (h.0, h.1)
status-alike NF x y h = rw (h.0, h.1)

ql-alike : {m : BlockModel} {ready : List Transaction} {x y : Server} {v : ℕ} {q : List Transaction} → Alike x y
    → QlWaits m ready x v q → QlWaits m ready y v q
ql-alike {q = q} h (nobody_fits k) = nobody_fits (each_map (λ t n. rw (h.0, h.1) n) q k)
ql-alike h (next_ready f k) = next_ready f k

wel-alike : {m : BlockModel} {ready : List Transaction} {x y : Server} {code : Code} {i : ℕ} {q : List Transaction} → Alike x y
    → WelWaits m ready x code i q → WelWaits m ready y code i q
wel-alike {code = code} h (code_true e) = code_true (status-alike code _ _ h ∙ e)
wel-alike h (nobody_waits e) = nobody_waits e
wel-alike h (one_ready k) = one_ready k

-- ---- Within a turn

-- after the taking: the run has not ended
abbrev Taken : BlockModel → State → Type 0
Taken m s = Waits m s × (s.end ≡ 1 → ⊥)

-- after the block: a question leaves the transaction moving, and no block ends the run dry
abbrev Executed : BlockModel → State → Type 0
Executed m s = Waits m s × (s.moving ≡ none → s.end ≡ 1 → ⊥)

-- ---- The taking

ready-more : (P : Transaction → Type 0) (o : Option Transaction) (rel : List Transaction) → Some P rel → Some P (ready_of o rel)
ready-more P none rel h = h
ready-more P (some t) rel h = inr h

ready_grows : {rel rel' : List Transaction} → Grows rel rel' → (P : Transaction → Type 0) (o : Option Transaction)
    → Some P (ready_of o rel) → Some P (ready_of o rel')
ready_grows g P none h = g.keeps P h
ready_grows g P (some t) (inl p) = inl p
ready_grows g P (some t) (inr h) = inr (g.keeps P h)

module _ (m : BlockModel) where
  arrive_all-walked : (l : List Event) (s : State) → Walked m s → Walked m (arrive_all l s)
  unfolding arrive_all
  arrive_all-walked [] s w = w
  arrive_all-walked (e ∷ l) s w = arrive_all-walked l _ (to_rel-walked m _ s w)

  move_clock-walked : (time : ℕ) (s : State) → Walked m s → Walked m (move_clock time s)
  unfolding move_clock sample
  move_clock-walked time s (w, going) =
      arrive_all-walked (those (due time) s.fel) _ (
        record {
          queued =
              record {
                rel-sorted = w.queued.rel-sorted;
                ql-sorted = w.queued.ql-sorted;
                ql-stands = w.queued.ql-stands;
                ql-waits = λ first v a b. ql-alike (alike v) (w.queued.ql-waits first v a b);
              };
          gated =
              record {
                wel-sorted = w.gated.wel-sorted;
                wel-stands = w.gated.wel-stands;
                wel-waits = λ v code a b. wel-alike (alike v) (w.gated.wel-waits v code a b);
              };
        },
        going,
      )
    where
      alike : (v : ℕ)
          → Alike (server_in s.view.servers v) (server_in (sample_servers (time - s.view.clock) s.view.servers s.ql) v)
      alike v = sampled-alike _ s.view.servers s.ql (v - 1) (idle_server 0)

  next_events-walked : (l : List Event) (s : State) → Walked m s → Walked m (next_events l s)
  unfolding next_events
  next_events-walked [] s w = w
  next_events-walked (e ∷ l) s w = move_clock-walked e.time s w

  -- the first of REL, where it has one, is in front of REL
  take_first-waits : (l : List Transaction) (s : State) → s.moving ≡ none → s.rel ≡ l → Walked m s → Taken m (take_first l s)
  unfolding take_first
  take_first-waits [] s o e w = (rw o w.0, w.1)
  take_first-waits (t ∷ l) s o e w =
      let h : WaitsOver m (t ∷ l) (t ∷ l) s.view.servers s.ql s.wel = rw e at w.0 in
      let q = h.queued in (
        record {
          queued = record { rel-sorted = q.rel-sorted.1; ql-sorted = q.ql-sorted; ql-stands = q.ql-stands; ql-waits = q.ql-waits };
          gated = h.gated;
        },
        w.1,
      )

  take_ready-waits : (l : List Transaction) (s : State) → s.moving ≡ none → s.rel ≡ l → Walked m s → Taken m (take_ready l s)
  unfolding take_ready
  take_ready-waits [] s o e w = take_first-waits _ _ (next_events-moving s.fel s ∙ o) refl (next_events-walked s.fel s w)
  take_ready-waits (t ∷ l) s o e w = take_first-waits (t ∷ l) s o e w

  taking-waits : (o : Option Transaction) (s : State) → s.moving ≡ o → Taken m s → Taken m (taking o s)
  unfolding taking
  taking-waits none s e w = take_ready-waits s.rel s e refl (rw e at w.0, w.1)
  taking-waits (some t) s e w = w

  -- ---- The block

  -- more are ready where somebody moves
  walked-waits : (s : State) → Walked m s → Waits m s
  walked-waits s w = waits-more (λ P. ready-more P s.moving s.rel) (λ h. h) w.0

  module _ {tape : List (List ℕ)} (proper : Proper m tape) where
    answer-waits : (n : ℕ) (t : Transaction) (s : State) → s.moving ≡ some t → Shape m s → Taken m s
        → Executed m (answer n m (block_at m t.next) t s)
    unfolding answer
    answer-waits zero t s e shape (w, going) =
        let x = effect-walked proper t (set_moving none s) shape (rw e at w) going (block_at m t.next) refl (proper.block t.next) in
        (walked-waits (effect m (block_at m t.next) t (set_moving none s)) x, λ o. x.1)
    answer-waits (suc n) t s e shape (w, going) = (w, λ o. absurd (moves (sym e ∙ o)))
      where
        moves : some t ≡ none → ⊥
        moves z = let q : ◌≡◌ {A = ℕ} 0 1 = cc in omega arith

    execute-waits : (o : Option Transaction) (s : State) → s.moving ≡ o → Shape m s → Taken m s → Executed m (execute o m s)
    unfolding execute
    execute-waits none s e shape w = (w.0, λ o. w.1)
    execute-waits (some t) s e shape w = answer-waits _ t s e shape w

  -- ---- The WS scheme

  ws_scheme-waits : (s : State) → Executed m s → Waits m (ws_scheme m s) × Settled m (ws_scheme m s)
  unfolding wake_wsl
  ws_scheme-waits s x =
      ws_scheme-cases (λ s. Waits m s × Settled m s) m s
      (λ e. (waits-more (λ P. ready_grows g P s.moving) g.sorted x.0, λ o e. settled))
      (λ n. (x.0, λ o e. absurd (x.1 o (omega arith))))
    where
      p : Transaction → Bool
      p t = not (waits_on m s.view t)

      g : Grows s.rel (wake (those p s.wsl) s.rel)
      g = grows-wake (those p s.wsl) s.rel

      settled : Each (λ t. waits_on m s.view t ≡ true) (others p s.wsl)
      settled = each_map (λ t h. not-false _ (not-true _ h)) (others p s.wsl) (each-passes (λ t. not (p t)) s.wsl)

-- ---- A turn

-- within it, after the taking
pub waits-taken : (m : BlockModel) (s : State) → s.end ≡ 0 → Waits m s → Waits m (taking s.moving s)
waits-taken m s e w = (taking-waits m s.moving s refl (w, λ z. omega arith)).0

pub waits_kept : {m : BlockModel} {tape : List (List ℕ)} → Proper m tape → (s : State) → s.end ≡ 0 → Shape m s → Waits m s
    → Waits m (turn m s) × Settled m (turn m s)
unfolding turn
waits_kept {m} proper s e shape w =
    ws_scheme-waits m _
    (execute-waits m proper _ (set_turns (suc s.turns) (taking s.moving s)) refl
    (taking-kept (Shape m) (shape_closed m) s.moving s shape) (taking-waits m s.moving s refl (w, λ z. omega arith)))

-- ---- The start

-- and nobody waits on the WSL
abbrev Begun : BlockModel → State → Type 0
Begun m s = Walked m s × (s.wsl ≡ [])

arrival-begun : (m : BlockModel) (l : List ℕ) (list p n : ℕ) (s : State) → Begun m s → Begun m (arrival l list p n s)
unfolding arrival to_fel
arrival-begun m [] list p n s h = h
arrival-begun m (x ∷ l) list p n s h = h

start_at-begun : (m : BlockModel) (n : ℕ) (l : List Block) (s : State) → Begun m s → Begun m (start_at n l s)
unfolding start_at
start_at-begun m n [] s h = h
start_at-begun m n (b ∷ l) s h =
    start_at-begun m (suc n) l _ (start_of-cases (Begun m) b n s (λ e. h) (λ e. arrival-begun m _ _ _ n s h))

-- no list of the empty machine holds anybody
empty-at : (P : List Transaction → Type 0) → P [] → (n k : ℕ) → P (get_or (replicate n []) k [])
empty-at P h zero k = h
empty-at P h (suc n) zero = h
empty-at P h (suc n) (suc k) = empty-at P h n k

idle-begun : (m : BlockModel) (tape : List (List ℕ)) → Begun m (idle m tape)
unfolding idle
idle-begun m tape = (
  (
    record {
      queued =
          record {
            rel-sorted = tt;
            ql-sorted = λ first k. empty-at (Sorted precedes) tt (servers m) k;
            ql-stands = λ v a. empty-at (Each (AtServer m v)) tt (servers m) (v - 1);
            ql-waits = λ first v a b. empty-at (QlWaits m [] _ v) (nobody_fits tt) (servers m) (v - 1);
          };
      gated =
          record {
            wel-sorted = λ first i. empty-at (Sorted precedes) tt (servers m * 6) i;
            wel-stands = λ i. empty-at (Each (AtWel m i)) tt (servers m * 6) i;
            wel-waits =
                λ v code a b. empty-at (WelWaits m [] _ code (wel_index v code)) (nobody_waits refl) (servers m * 6) (wel_index v code);
          };
    },
    λ e. omega arith,
  ),
  refl,
)

pub waits_start : (m : BlockModel) (tape : List (List ℕ)) → Waits m (start m tape) × Settled m (start m tape)
unfolding start
waits_start m tape =
    let h = start_at-begun m 1 m.blocks (idle m tape) (idle-begun m tape) in
    (walked-waits m (start m tape) h.0, λ o e. rw h.1 tt)

-- nobody waits on the WSL
pub wsl-start : (m : BlockModel) (tape : List (List ℕ)) → (start m tape).wsl ≡ []
unfolding start
wsl-start m tape = (start_at-begun m 1 m.blocks (idle m tape) (idle-begun m tape)).1
