-- The tally of the start: all 0, as it was, but where each list begins and how many times it has.
use Rattle.machine.specs.All.{ℕ, zero, suc, ◌+◌, ◌≤◌, ◌<◌, ◌≡◌, refl, sym, ap, ◌∙◌, false, List, [], ◌∷◌, ◌++◌, map, arith, ℕ_discrete, length, get_or, set, replicate, length-set, get_or-set_same, get_or-set_other, those, count, Server, idle_server, empty_queue, BlockModel, idle, bit, Queue}
use Rattle.machine.proofs.Decoding.Proper.{Proper}
use Rattle.layout.specs.Layout as Layout
use Rattle.layout.specs.All.{Represents}
use Rattle.state.specs.All.{sum_now, longest_now, Seen, Serving, Queueing, Sampling, at_block, Tallying}
use Rattle.state.proofs.Held.{held_none}
use Rattle.state.proofs.StatisticsLaws.{sum-current, longest-current, seen-now}
use Rattle.start.specs.{list_set, lists_set}

-- ---- Its numbers

module _ (lists tally : List ℕ) where
  lists-low : (n i : ℕ) → i < 928 → get_or (lists_set n lists tally) i 0 ≡ get_or tally i 0
  unfolding lists_set list_set
  lists-low zero i h = refl
  lists-low (suc n) i h =
      get_or-set_other (set (lists_set n lists tally) (928 + n) (get_or lists n 0)) (944 + n) i (get_or lists (16 + n) 0) 0 (λ e. omega arith)
      ∙ get_or-set_other (lists_set n lists tally) (928 + n) i (get_or lists n 0) 0 (λ e. omega arith)
      ∙ lists-low n i h

  lists-high : (n i : ℕ) → n ≤ 16 → 960 ≤ i → get_or (lists_set n lists tally) i 0 ≡ get_or tally i 0
  unfolding lists_set list_set
  lists-high zero i few h = refl
  lists-high (suc n) i few h =
      get_or-set_other (set (lists_set n lists tally) (928 + n) (get_or lists n 0)) (944 + n) i (get_or lists (16 + n) 0) 0 (λ e. omega arith)
      ∙ get_or-set_other (lists_set n lists tally) (928 + n) i (get_or lists n 0) 0 (λ e. omega arith)
      ∙ lists-high n i (omega arith) h

module _ (lists tally : List ℕ) (size : length tally ≡ Layout.tally_size) where
  lists_length : (n : ℕ) → length (lists_set n lists tally) ≡ Layout.tally_size
  unfolding lists_set list_set
  lists_length zero = size
  lists_length (suc n) =
      length-set (set (lists_set n lists tally) (928 + n) (get_or lists n 0)) (944 + n) (get_or lists (16 + n) 0)
      ∙ length-set (lists_set n lists tally) (928 + n) (get_or lists n 0)
      ∙ lists_length n

  lists_at : (n : ℕ) → n ≤ 16 → (l : ℕ) → l < n → (get_or (lists_set n lists tally) (928 + l) 0 ≡ get_or lists l 0)
      × (get_or (lists_set n lists tally) (944 + l) 0 ≡ get_or lists (16 + l) 0)
  unfolding lists_set list_set
  lists_at zero hn l h = absurd (omega arith)
  lists_at (suc n) hn l h = go (ℕ_discrete l n) (lists_at n (omega arith) l)
    where
      go : Dec (l ≡ n)
          → (l < n → (get_or (lists_set n lists tally) (928 + l) 0 ≡ get_or lists l 0)
          × (get_or (lists_set n lists tally) (944 + l) 0 ≡ get_or lists (16 + l) 0))
          → (get_or (set (set (lists_set n lists tally) (928 + n) (get_or lists n 0)) (944 + n) (get_or lists (16 + n) 0)) (928 + l) 0
          ≡ get_or lists l 0)
          × (get_or (set (set (lists_set n lists tally) (928 + n) (get_or lists n 0)) (944 + n) (get_or lists (16 + n) 0)) (944 + l) 0
          ≡ get_or lists (16 + l) 0)
      go (yes e) rest =
          rw e (
            get_or-set_other (set (lists_set n lists tally) (928 + n) (get_or lists n 0)) (944 + n) (928 + n) (get_or lists (16 + n) 0) 0
                (λ f. omega arith) ∙ get_or-set_same (lists_set n lists tally) (928 + n) (get_or lists n 0) 0 (omega (arith, lists_length n)),
            get_or-set_same (set (lists_set n lists tally) (928 + n) (get_or lists n 0)) (944 + n) (get_or lists (16 + n) 0) 0
                (omega (arith, length-set (lists_set n lists tally) (928 + n) (get_or lists n 0), lists_length n)),
          )
      go (no d) rest =
          let b : l < n = omega arith in (
            get_or-set_other (set (lists_set n lists tally) (928 + n) (get_or lists n 0)) (944 + n) (928 + l) (get_or lists (16 + n) 0) 0
                (λ f. omega arith) ∙ get_or-set_other (lists_set n lists tally) (928 + n) (928 + l) (get_or lists n 0) 0 (λ f. d (omega arith))
                ∙ (rest b).0,
            get_or-set_other (set (lists_set n lists tally) (928 + n) (get_or lists n 0)) (944 + n) (944 + l) (get_or lists (16 + n) 0) 0
                (λ f. d (omega arith)) ∙ get_or-set_other (lists_set n lists tally) (928 + n) (944 + l) (get_or lists n 0) 0 (λ f. omega arith)
                ∙ (rest b).1,
          )

-- ---- The machine's numbers at the start

pub same_at : {A : Type 0} (n i : ℕ) (a : A) → get_or (replicate n a) i a ≡ a
same_at zero i a = refl
same_at (suc n) zero a = refl
same_at (suc n) (suc i) a = same_at n i a

record Idle (v : Server) : Type 0 where
  in_use : v.in_use ≡ 0
  holder : v.holder ≡ 0
  preempted : v.preempted ≡ false
  unit-ticks : v.unit_ticks ≡ 0
  wait-ticks : v.wait_ticks ≡ 0
  longest : v.longest ≡ 0

idle-server : (c : ℕ) → Idle (idle_server c)
unfolding idle_server
idle-server c = record { in_use = refl; holder = refl; preempted = refl; unit-ticks = refl; wait-ticks = refl; longest = refl }

idle-at : (f : ℕ) (l : List ℕ) (v : ℕ) → Idle (get_or (replicate f (idle_server 1) ++ map idle_server l) v (idle_server 0))
idle-at zero [] v = idle-server 0
idle-at zero (c ∷ l) zero = idle-server c
idle-at zero (c ∷ l) (suc v) = idle-at zero l v
idle-at (suc f) l zero = idle-server 1
idle-at (suc f) l (suc v) = idle-at f l v

-- ---- All of it

module _ (m : BlockModel) (tape : List (List ℕ)) (tape_bytes tables lists tally : List ℕ) (proper : Proper m tape)
    (rep : Represents m tape tape_bytes tables lists) (size : length tally ≡ Layout.tally_size)
    (empty : (i : ℕ) → get_or tally i 0 ≡ 0) where
  zero-at : (i : ℕ) → i < 928 → get_or (lists_set 16 lists tally) i 0 ≡ 0
  zero-at i h = lists-low lists tally 16 i h ∙ empty i

  list_at : (l : ℕ) → l < 16 → (get_or (lists_set 16 lists tally) (928 + l) 0 ≡ get_or lists l 0)
      × (get_or (lists_set 16 lists tally) (944 + l) 0 ≡ get_or lists (16 + l) 0)
  list_at l h = lists_at lists tally size 16 (omega arith) l h

  abbrev servers : List Server
  servers = replicate m.facilities (idle_server 1) ++ map idle_server m.capacities

  server : (v : ℕ) → Idle (get_or servers v (idle_server 0))
  server v = idle-at m.facilities m.capacities v

  high-at : (i : ℕ) → 960 ≤ i → get_or (lists_set 16 lists tally) i 0 ≡ 0
  high-at i h = lists-high lists tally 16 i (omega arith) h ∙ empty i

  -- nothing has passed
  no-sum : (at from i : ℕ) → at < 928 → sum_now (lists_set 16 lists tally) at from i 0 ≡ 0
  no-sum at from i h = sum-current (lists_set 16 lists tally) at from i 0 (high-at (1344 + i) (omega arith)) ∙ omega (arith, zero-at at h)

  no-longest : (at from i : ℕ) → at < 928 → longest_now (lists_set 16 lists tally) at from i ≡ 0
  no-longest at from i h =
      longest-current (lists_set 16 lists tally) at from i
      (seen-now (lists_set 16 lists tally) i (high-at (1440 + i) (omega arith) ∙ sym (high-at 1536 (omega arith)))) ∙ zero-at at h

  seen : Seen (lists_set 16 lists tally) 0 0
  seen =
      record {
        moves = omega (arith, high-at 1536 (omega arith));
        before = λ i hi. omega (arith, high-at (1440 + i) (omega arith));
        clocks = λ i hi. omega (arith, high-at (1344 + i) (omega arith));
        current = λ i hi n. high-at (1344 + i) (omega arith);
      }

  serving : Serving (lists_set 16 lists tally) 0 servers (replicate (m.facilities + length m.capacities) [])
  serving =
      record {
        in_use = λ v hv. zero-at (512 + v) (omega arith) ∙ sym (server v).in_use;
        holders = λ v hv. high-at (960 + v) (omega arith) ∙ sym (server v).holder;
        preempts = λ v hv. high-at (1024 + v) (omega arith) ∙ sym (ap bit (server v).preempted);
        held = λ r hr. high-at (1088 + r) (omega arith) ∙ sym (held_none r servers (λ v hv. (server v).holder));
        unit-ticks = λ v hv. no-sum (576 + v) (512 + v) v (omega arith) ∙ sym (server v).unit-ticks;
        wait-ticks = λ v hv. no-sum (640 + v) (768 + v) v (omega arith) ∙ sym (server v).wait-ticks;
        longest = λ v hv. no-longest (704 + v) (768 + v) v (omega arith) ∙ sym (server v).longest;
        waiting = λ v hv. zero-at (768 + v) (omega arith) ∙ sym (ap length (same_at (m.facilities + length m.capacities) v []));
      }

  queueing : Queueing (lists_set 16 lists tally) 0 (replicate m.queues empty_queue)
  unfolding empty_queue
  queueing =
      record {
        contents = λ q hq. zero-at (832 + q) (omega arith) ∙ sym (ap (λ (x : Queue). x.content) (same_at m.queues q empty_queue));
        content-ticks =
            λ q hq. no-sum (864 + q) (832 + q) (64 + q) (omega arith)
            ∙ sym (ap (λ (x : Queue). x.content_ticks) (same_at m.queues q empty_queue));
        longest =
            λ q hq. no-longest (896 + q) (832 + q) (64 + q) (omega arith)
            ∙ sym (ap (λ (x : Queue). x.longest) (same_at m.queues q empty_queue));
      }

  sampling : Sampling tape_bytes (lists_set 16 lists tally) tape
  sampling =
      record {
        begins = λ l hl. rw (list_at l (omega (arith, proper.tapes, proper.lists))).0 (rep.begins l (omega (arith, proper.tapes)));
        left = λ l hl. (list_at l hl).1 ∙ rep.counts l hl;
      }

  start-size : length (lists_set 16 lists tally) ≡ Layout.tally_size
  start-size = lists_length lists tally size 16

  pub idle-tallying : Tallying tape_bytes (lists_set 16 lists tally) (idle m tape)
  unfolding idle at_block count those
  idle-tallying =
      record {
        size = start-size;
        entries = λ b hb. zero-at (0 + b) (omega arith) ∙ sym (same_at (length m.blocks) b 0);
        waits = λ b hb. zero-at (256 + b) (omega arith);
        seen = seen;
        servers = serving;
        queues = queueing;
        samples = sampling;
      }
