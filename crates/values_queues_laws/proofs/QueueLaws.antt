-- ARRIVE and DEPART leave what the machine's do.
use Rattle.machine.specs.All.{ℕ, zero, suc, ◌+◌, ◌-◌, ◌%◌, ◌≤◌, ◌<◌, min, ◌≡◌, refl, ◌∙◌, ◌≢◌, false, cond, List, none, arith, ℕ_discrete, ne_eqb, le-leb, leb, eqb, length, get_or, set, length-set, get_or-set_same, get_or-set_other, Transaction, Queue, empty_queue, queue_at, arrive, depart, BlockModel, Change, counts, State, with_content, set_moving, unless, question, ask_content, changed}
use Rattle.machine.specs.Moves as Moves
use Rattle.machine.proofs.Decoding.Proper.{Names}
use Rattle.layout.specs.Layout as Layout
use Rattle.layout.specs.All.{block_numbers}
use Rattle.state.specs.declared.scalars.Scalars.{Scalars}
use Rattle.state.specs.All.{behind, sum_now, longest_now, rows_of, Queueing, Tallying, Done, entering, bare, bare_answer}
use Rattle.state.proofs.StandsLaws.{entries-set, waits-set, pair_set, seen-set, serving-set, sampling-set}
use Rattle.state.proofs.StatisticsLaws.{SamePair, sum_same, longest-same, sum_moved, longest-moved, queue-tallying, queue-current}
use Rattle.moves.proofs.{Before.place_of, Before.bare_block, Before.Before, MotionLaws.go-on-done}
use Rattle.moves.proofs.BeforeLaws.{next_low, few-lists, proper-block, operand, stop-done}
use Rattle.moves.specs.Motion.{stopped}
use Rattle.values_queues_laws.specs.{queue_of, content, change, arrive_rows, depart_rows}
use Rattle.values_queues_laws.proofs.Sees.{sane-low, content-low}
use mathlib.Core.Path.{sym, ap, subst}
use Rattle.state.specs.Statistics.{update_queue}

-- ---- The content of one queue set, whose statistics are up to date

module _ (tally : List ℕ) (clock : ℕ) (queues : List Queue) (i n : ℕ) (low : i < 32) (there : i < length queues)
    (size : length tally ≡ Layout.tally_size)
    (now : behind tally (64 + i) ≡ false) (at-clock : get_or tally (1344 + (64 + i)) 0 ≡ clock) where
  abbrev q' : Queue
  q' = with_content n (get_or queues i empty_queue)

  abbrev t' : List ℕ
  t' = set tally (Layout.content + i) n

  other : (j : ℕ) → j ≢ 832 + i → get_or t' j 0 ≡ get_or tally j 0
  other j d = get_or-set_other tally (Layout.content + i) j n 0 d

  pair : (j : ℕ) → SamePair tally t' j
  pair j = pair_set tally (Layout.content + i) n (omega arith) j

  -- a part of the queue that stays as it is
  kept : (f : Queue → ℕ) → f q' ≡ f (get_or queues i empty_queue) → (q : ℕ)
      → f (get_or queues q empty_queue) ≡ f (get_or (set queues i q') q empty_queue)
  kept f same q = go (ℕ_discrete q i)
    where
      go : Dec (q ≡ i) → f (get_or queues q empty_queue) ≡ f (get_or (set queues i q') q empty_queue)
      go (yes e) = rw e (sym same ∙ ap f (sym (get_or-set_same queues i q' empty_queue there)))
      go (no d) = ap f (sym (get_or-set_other queues i q q' empty_queue d))

  queueing-content : Queueing tally clock queues → Queueing t' clock (set queues i q')
  queueing-content h =
      record {
        contents = λ q hq. content q hq (ℕ_discrete q i);
        content-ticks = λ q hq. sum q hq (ℕ_discrete q i) ∙ h.content-ticks q hq ∙ kept (λ (x : Queue). x.content_ticks) refl q;
        longest = λ q hq. longest q hq (ℕ_discrete q i) ∙ h.longest q hq ∙ kept (λ (x : Queue). x.longest) refl q;
      }
    where
      content : (q : ℕ) → q < 32 → Dec (q ≡ i) → get_or t' (Layout.content + q) 0 ≡ (get_or (set queues i q') q empty_queue).content
      content q hq (yes e) =
          rw e
          (get_or-set_same tally (Layout.content + i) n 0 (omega arith)
          ∙ ap (λ (a : Queue). a.content) (sym (get_or-set_same queues i q' empty_queue there)))
      content q hq (no d) =
          other (832 + q) (λ e. d (omega arith))
          ∙ h.contents q hq
          ∙ ap (λ (a : Queue). a.content) (sym (get_or-set_other queues i q q' empty_queue d))

      sum : (q : ℕ) → q < 32 → Dec (q ≡ i) → sum_now t' (864 + q) (832 + q) (64 + q) clock ≡ sum_now tally (864 + q) (832 + q) (64 + q) clock
      sum q hq (yes e) =
          rw e (sum_moved tally t' (64 + i) (pair (64 + i)) (864 + i) (832 + i) (other (864 + i) (λ f. omega arith)) clock at-clock)
      sum q hq (no d) =
          sum_same tally t' (64 + q) (pair (64 + q)) (864 + q) (832 + q) clock (other (864 + q) (λ f. omega arith))
          (other (832 + q) (λ f. d (omega arith)))

      longest : (q : ℕ) → q < 32 → Dec (q ≡ i) → longest_now t' (896 + q) (832 + q) (64 + q) ≡ longest_now tally (896 + q) (832 + q) (64 + q)
      longest q hq (yes e) =
          rw e (longest-moved tally t' (64 + i) (pair (64 + i)) (896 + i) (832 + i) (other (896 + i) (λ f. omega arith)) now)
      longest q hq (no d) =
          longest-same tally t' (64 + q) (pair (64 + q)) (896 + q) (832 + q) (other (896 + q) (λ f. omega arith))
          (other (832 + q) (λ f. d (omega arith)))

content-tallying : {tape_bytes tally : List ℕ} (s : State) (q n : ℕ) → q - 1 < 32 → q - 1 < length s.view.queues
    → length s.samples ≤ 16
    → Tallying tape_bytes tally s → behind tally (64 + (q - 1)) ≡ false
    → Tallying tape_bytes (set tally (Layout.content + (q - 1)) n) (Moves.set_content q n s)
unfolding Moves.set_content queue_at
content-tallying {tape_bytes} {tally} s q n low there few h now =
    record {
      size = length-set tally (Layout.content + (q - 1)) n ∙ h.size;
      entries = entries-set tally (Layout.content + (q - 1)) n s.view.entries (omega arith) h.entries;
      waits = waits-set tally (Layout.content + (q - 1)) n s.records (omega arith) h.waits;
      seen = seen-set tally (Layout.content + (q - 1)) n s.view.clock s.turns (omega arith) h.seen;
      servers =
          serving-set tally (Layout.content + (q - 1)) n s.view.clock s.view.servers s.ql (omega arith) (λ j a b e. omega arith)
          h.servers;
      queues =
          queueing-content tally s.view.clock s.view.queues (q - 1) n low there h.size now
          (h.seen.current (64 + (q - 1)) (omega arith) now) h.queues;
      samples = sampling-set tally (Layout.content + (q - 1)) n tape_bytes s.samples few (λ j a b e. omega arith) h.samples;
    }

-- ---- The blocks

module _ {m : BlockModel} {tape : List (List ℕ)} {tape_bytes tables lists w tally : List ℕ} {x : Scalars} {t : Transaction} {s : State}
    {c : Change} {q : ℕ} (h : Before m tape tape_bytes tables lists w tally x t s (counts c q)) where
  named : Names m.queues q
  named = proper-block h

  low : q - 1 < 32
  low = omega (arith, named.0, named.1, h.proper.queues)

  queue-is : queue_of tables (place_of t) ≡ q - 1
  unfolding queue_of block_numbers
  queue-is =
      let small : (q - 1) % 32 ≡ q - 1 = omega (arith, low) in
      rw (operand h 1 (omega arith), small)

  content-is : content tally (q - 1) ≡ (queue_at s.view q).content
  unfolding queue_at
  content-is = h.tallying.queues.contents (q - 1) low

  content-few : (queue_at s.view q).content ≤ 100000001
  unfolding queue_at
  content-few = omega (arith, content-low (sane-low h.sane) (q - 1), h.sane.turns)

  -- go on with another content, its statistics up to date
  counted : (n : ℕ) → Done tape_bytes (change w tally x (q - 1) n) (entering (Moves.go_on_lem t (Moves.set_content q n (set_moving none s))))
  unfolding change Moves.set_content
  counted n =
      go-on-done x (Moves.set_content q n (set_moving none s)) h.listing
      (subst (λ (c : ℕ). Tallying tape_bytes (set (update_queue tally (q - 1) c) (Layout.content + (q - 1)) n) (Moves.set_content q n s))
      (sym h.counting.clock)
      (content-tallying s q n low (omega (arith, named.0, named.1, h.sane.shape.queue-length)) (few-lists h)
      (queue-tallying tape_bytes tally s h.tallying (few-lists h) (q - 1) low)
      (queue-current tape_bytes tally s h.tallying (few-lists h) (q - 1) low)))
      h.counting (next_low h)

module _ {m : BlockModel} {tape : List (List ℕ)} {tape_bytes tables lists w tally : List ℕ} {x : Scalars} {t : Transaction}
    {s : State} {q : ℕ} where
  -- ---- 15 ARRIVE

  pub arrive-done : Before m tape tape_bytes tables lists w tally x t s (arrive q)
      → Done tape_bytes (arrive_rows tables w tally x (place_of t)) (bare_block m (arrive q) t s)
  unfolding arrive_rows question ask_content bare_answer bare changed
  arrive-done h =
      let more : min (content tally (q - 1) + 1) 18446744073709551615 ≡ (queue_at s.view q).content + 1 =
      omega (arith, content-is h, content-few h) in
      rw (queue-is h, more) (counted h ((queue_at s.view q).content + 1))

  -- ---- 16 DEPART

  pub depart-done : Before m tape tape_bytes tables lists w tally x t s (depart q)
      → Done tape_bytes (depart_rows tables w tally x (place_of t)) (bare_block m (depart q) t s)
  unfolding depart_rows question ask_content bare_answer bare changed
  depart-done h = rw (queue-is h, content-is h) (go (queue_at s.view q).content refl)
    where
      go : (n : ℕ) → (queue_at s.view q).content ≡ n
          → Done tape_bytes (cond (eqb n 0) (rows_of (stopped x 25) w tally) (change w tally x (q - 1) (n - 1)))
          (bare_answer (unless (leb 1 n) 25 0) m (depart q) t s)
      go zero e = stop-done h 24
      go (suc n) e = rw (ne_eqb (suc n) 0 (λ z. omega arith), le-leb 1 (suc n) (omega arith), e) (counted h (suc n - 1))
