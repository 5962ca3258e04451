-- `arrives` is the machine's `arrival`: the first time of a list is used, and a new transaction comes onto the FEL at the clock plus
-- that time.
use Rattle.machine.specs.All.{ℕ, suc, ◌+◌, ◌-◌, ◌≤◌, ◌<◌, ◌≡◌, List, ◌∷◌, Option, arith, length, set, Transaction, newborn, State, set_made, max_clock}
use Rattle.machine.specs.Moves as Moves
use Rattle.machine.proofs.Runs.Clocks.{Given}
use Rattle.layout.specs.Layout as Layout
use Rattle.state.specs.declared.scalars.Scalars.{Scalars}
use Rattle.state.specs.All.{rows_of, Listing, Seen, Queueing, Tallying, Counting, Stands}
use Rattle.state.proofs.StandsLaws.{entries-set, waits-set, seen-set, serving-set, queueing-set, stands_of}
use Rattle.moves.specs.Motion.{with_tally}
use Rattle.flow_laws.specs.declared.samples.Sample.{Sample}
use Rattle.flow_laws.specs.{next_sample, use_time, plus64, born, arrives}
use Rattle.flow_laws.proofs.{Drawing.drawn-time, Drawing.drawn-size, Drawing.drawn-sampling, New.Follows, New.Roomy, New.born-follows}
use mathlib.Core.Path.{sym, ap, ◌∙◌, subst}
use lib.ListN.{get_or, drop}
use Rattle.state.specs.Stands.{Rows, at_block, Serving, Sampling}

-- ---- The tally after a draw

module _ {tape_bytes tally : List ℕ} (s : State) (h : Tallying tape_bytes tally s) (list : ℕ) (named : 1 ≤ list)
    (there : list ≤ length s.samples) (few : length s.samples ≤ 16)
    {time : ℕ} {left : List ℕ} (is : Moves.times_left s list ≡ time ∷ left) where
  abbrev l : ℕ
  l = list - 1

  abbrev sample : Sample
  sample = next_sample tape_bytes tally l

  hl : l < length s.samples
  hl = omega arith

  pub sampled : sample.time ≡ time
  sampled = drawn-time tape_bytes tally s.samples l h.samples h.size hl few time left is

  abbrev used : List ℕ
  used = use_time tally l sample.next

  used-entries : (b : ℕ) → b < 256 → get_or used (Layout.entries + b) 0 ≡ get_or s.view.entries b 0
  unfolding use_time
  used-entries =
      entries-set (set tally (928 + l) sample.next) (944 + l) (get_or tally (944 + l) 0 - 1) s.view.entries (omega arith)
      (entries-set tally (928 + l) sample.next s.view.entries (omega arith) h.entries)

  used-waits : (b : ℕ) → b < 256 → get_or used (Layout.waits + b) 0 ≡ at_block 1 (suc b) s.records
  unfolding use_time
  used-waits =
      waits-set (set tally (928 + l) sample.next) (944 + l) (get_or tally (944 + l) 0 - 1) s.records (omega arith)
      (waits-set tally (928 + l) sample.next s.records (omega arith) h.waits)

  used-seen : Seen used s.view.clock s.turns
  unfolding use_time
  used-seen =
      seen-set (set tally (928 + l) sample.next) (944 + l) (get_or tally (944 + l) 0 - 1) s.view.clock s.turns (omega arith)
      (seen-set tally (928 + l) sample.next s.view.clock s.turns (omega arith) h.seen)

  used-servers : Serving used s.view.clock s.view.servers s.ql
  unfolding use_time
  used-servers =
      serving-set (set tally (928 + l) sample.next) (944 + l) (get_or tally (944 + l) 0 - 1) s.view.clock s.view.servers s.ql
      (omega arith) (λ j a b e. omega arith)
      (serving-set tally (928 + l) sample.next s.view.clock s.view.servers s.ql (omega arith) (λ j a b e. omega arith)
      h.servers)

  used-queues : Queueing used s.view.clock s.view.queues
  unfolding use_time
  used-queues =
      queueing-set (set tally (928 + l) sample.next) (944 + l) (get_or tally (944 + l) 0 - 1) s.view.clock s.view.queues
      (omega arith) (λ j a b e. omega arith)
      (queueing-set tally (928 + l) sample.next s.view.clock s.view.queues (omega arith) (λ j a b e. omega arith) h.queues)

  pub used-tallying : Tallying tape_bytes used (Moves.use_time list s)
  used-tallying =
      record {
        size = drawn-size tape_bytes tally s.samples l h.samples h.size hl few time left is;
        entries = used-entries;
        waits = used-waits;
        seen = used-seen;
        servers = used-servers;
        queues = used-queues;
        samples =
            subst (λ (q : List ℕ). Sampling tape_bytes used (set s.samples l q)) (ap (drop 1) (sym is))
            (drawn-sampling tape_bytes tally s.samples l h.samples h.size hl few time left is);
      }

  -- the move time
  pub move-time : (x : Scalars) → Counting x s → s.view.clock + time ≤ max_clock → plus64 x.clock sample.time ≡ s.view.clock + time
  move-time x counting most =
      let c : x.clock ≡ s.view.clock = counting.clock in
      rw (c, sampled) (omega arith)

  -- ---- The new transaction

  module _ {w : List ℕ} (x : Scalars) {o : Option Transaction} (listing : Listing w x.moving o s) (counting : Counting x s)
      (roomy : Roomy s) (given : Given s) (p block : ℕ) (small : p ≤ 127) (most : s.view.clock + time ≤ max_clock) where
    abbrev s₁ : State
    s₁ = Moves.use_time list s

    abbrev time' : ℕ
    time' = s.view.clock + time

    abbrev later : State
    later = Moves.to_fel time' (newborn (suc s.made) p block) (set_made (suc s.made) s₁)

    follows : Follows (born w x time' p block) x.note o later
    follows =
        born-follows x {s = s₁} listing counting
        (record { room = roomy.room; order = roomy.order; serials = roomy.serials; numbers = roomy.numbers }) time' p block small given

    arrives-is : arrives w tally x sample l p block ≡ with_tally (born w x time' p block) used
    unfolding arrives
    arrives-is = ap (λ (n : ℕ). with_tally (born w x n p block) used) (move-time x counting most)

    pub arrives-stands : Stands tape_bytes (arrives w tally x sample l p block) o (Moves.arrival (time ∷ left) list p block s)
    unfolding Moves.arrival Moves.to_fel
    arrives-stands =
        subst (λ (r : Rows). Stands tape_bytes r o later) (sym arrives-is)
        (stands_of (born w x time' p block).scalars follows.listing used-tallying follows.counting)

    pub arrives-note : (arrives w tally x sample l p block).scalars.note ≡ x.note
    unfolding rows_of
    arrives-note = ap (λ (r : Rows). r.scalars.note) arrives-is ∙ follows.note
