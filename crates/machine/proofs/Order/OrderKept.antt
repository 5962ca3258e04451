-- Edition 1: the order of waits is kept by every turn.
use Rattle.machine.specs.All.{ℕ, zero, suc, ◌+◌, ◌*◌, ◌≤◌, ◌≡◌, refl, sym, ap, subst, Bool, true, cond, true≢false, List, [], ◌∷◌, reverse, Option, none, some, arith, length, Transaction, Block, BlockModel, block_at, State, Logged, set_moving, set_turns, set_end, with_serial, record_of, log, enters, to_fel, wake_wsl, arrival, fresh, taking, answer, execute, turn, start_at, idle, start, moving_one, InOrder, ◌∙◌, question}
use Rattle.machine.proofs as our
use our.{Decoding.Proper.Proper, Basic.Bools.cond_cases, Runs.Kept.taking-kept, Order.Rivals.ends_in-order}
use our.Lists.Cases.{ws_scheme-cases, start_of-cases}
use our.Runs.Shape.{Shape, shape_closed}
use our.NobodyAble.Waiting.{Waits, Settled}
use our.Order.Records.{opens, order-more}
use our.Lists.Sums.{sum_on, sum-flat-none}
use our.Order.Weights.{Wait, wait_of, weight, marked, waiting, Unmarked, quiet-wake_wsl}
use our.Order.Steps.{Step, passes, begins, back, returns, assembles, step-effect}
use our.Order.OpenWaits.{ForUnits, Linked, LinkedIn, linked_as, linked-quiet, linked-passes, linked-begins}
use our.Order.Taken.{Once, InHand, Handed, nobody, hand, handed, taking-records}

-- ---- Definition

module _ (m : BlockModel) (tape : List (List ℕ)) where
  pub record Ordered (s : State) : Type 0 where
    pub linked : LinkedIn m s
    pub in_order : InOrder m tape (reverse s.records)
    -- who moves on has no mark
    pub unmarked : s.end ≡ 0 → Unmarked s.moving

  -- ---- After a block

  unmarked_weighs : (f : Wait → ℕ) (o : Option Transaction) → Unmarked o → sum_on (marked f) (moving_one o) ≡ 0
  unfolding moving_one
  unmarked_weighs f none u = refl
  unmarked_weighs f (some t) u = rw u

  ordered_as : (s : State) {rs : List Logged} {n : ℕ} {total : (Wait → ℕ) → ℕ} → s.records ≡ rs → n ≤ s.serial
      → ((f : Wait → ℕ) → ForUnits m f → waiting f s ≡ total f) → Unmarked s.moving → Linked m rs n total → InOrder m tape (reverse rs)
      → Ordered s
  ordered_as s records serials weights free h in_order =
      record {
        linked =
            subst (λ rs. Linked m rs s.serial (λ f. waiting f s + sum_on (marked f) (moving_one s.moving))) (sym records)
            (linked_as serials (λ f k. omega (arith, weights f k, unmarked_weighs f s.moving free)) h);
        in_order = rw records in_order;
        unmarked = λ e. free;
      }

  -- ---- One block, of the transaction in hand

  module _ (first : m.edition ≡ 1) (t : Transaction) (s : State) (h : InHand m t s)
      (in_order : InOrder m tape (reverse s.records)) where
    -- with nobody moving
    abbrev idle-hand : State
    idle-hand = set_moving none s

    weight-back : (b : Bool) (n : ℕ) → b ≡ true → cond b n 0 ≡ n
    weight-back b n e = rw e

    ordered_step : (s' : State) → Step (block_at m t.next) t idle-hand s' → Ordered s'
    unfolding enters log record_of waiting
    ordered_step s' (passes g q) =
        ordered_as s' q.records q.serials (λ f k. q.weights f) (q.moving tt) (linked-passes t idle-hand h.alone h.linked)
        (order-more m tape _ s.records
        (ends_in-order m tape t idle-hand h.alone h.linked first (λ e. (h.in_place e, g))) in_order)
    ordered_step s' (begins e p) =
        ordered_as s' p.records (omega arith) (λ f k. p.weights f) (rw p.moving tt)
        (linked-begins t idle-hand h.alone h.linked)
        (order-more m tape _ s.records
        (ends_in-order m tape t idle-hand h.alone h.linked first (λ r. absurd (true≢false (sym r ∙ e)))) in_order)
    ordered_step s' (back e p) =
        ordered_as s' p.records (omega arith) (λ f k. omega (arith, p.weights f, weight-back t.returning (weight f t) e))
        (rw p.moving tt) h.linked in_order
    ordered_step s' (returns z q) =
        ordered_as s' q.records q.serials
        (λ f k. omega (arith, q.weights f, cond_cases (λ n. n ≡ 0) t.returning (weight f t) 0 (λ e. k (wait_of t) z) (λ e. refl)))
        (q.moving tt) h.linked in_order
    ordered_step s' (assembles z q) =
        ordered_as s' q.records q.serials (λ f k. omega (arith, q.weights f, k (wait_of (with_serial (fresh idle-hand) t)) z))
        (q.moving tt)
        (linked-begins t idle-hand h.alone h.linked)
        (order-more m tape _ s.records
        (ends_in-order m tape t idle-hand h.alone h.linked first (λ r. (h.in_place r, λ n. absurd (n z)))) in_order)

    -- a question stops the run
    ordered-stop : (n : ℕ) → Ordered (set_end (suc n) s)
    unfolding waiting moving_one
    ordered-stop n =
        record {
          linked = linked_as (omega arith) (λ f k. omega (arith, ap (λ o. sum_on (marked f) (moving_one o)) h.moves)) h.linked;
          in_order = in_order;
          unmarked = λ e. absurd (omega arith);
        }

    ordered-answer : Proper m tape → Shape m s → (n : ℕ) → Ordered (answer n m (block_at m t.next) t s)
    unfolding answer
    ordered-answer proper shape zero = ordered_step _ (step-effect m (block_at m t.next) t idle-hand (proper.block t.next) shape)
    ordered-answer proper shape (suc n) = ordered-stop n

  -- ---- A turn

  module _ (first : m.edition ≡ 1) (proper : Proper m tape) where
    ordered-execute : (s : State) → Handed m s → InOrder m tape (reverse s.records) → Shape m s → Ordered (execute s.moving m s)
    unfolding execute
    ordered-execute s (nobody e l) in_order shape =
        subst (λ o. Ordered (execute o m s)) (sym e)
        (record { linked = l; in_order = in_order; unmarked = λ z. rw e tt })
    ordered-execute s (hand t h) in_order shape =
        subst (λ o. Ordered (execute o m s)) (sym h.moves)
        (ordered-answer first t s h in_order proper shape (question m (block_at m t.next) t s))

    ordered-wake_wsl : (p : Transaction → Bool) (s : State) → Ordered s → Ordered (wake_wsl p s)
    unfolding wake_wsl
    ordered-wake_wsl p s h =
        record { linked = linked-quiet (quiet-wake_wsl p s) refl h.linked; in_order = h.in_order; unmarked = h.unmarked }

    -- the count of turns is none of this
    handed-turns : (n : ℕ) (s : State) → Handed m s → Handed m (set_turns n s)
    unfolding waiting
    handed-turns n s (nobody e l) = nobody e l
    handed-turns n s (hand t h) =
        hand t (record { moves = h.moves; alone = h.alone; linked = h.linked; in_place = h.in_place })

    -- edition 1: who gets in has no open rival that began earlier, so the record keeps the order
    pub ordered-turn : (s : State) → s.end ≡ 0 → Shape m s → Waits m s → Settled m s → Once s → Ordered s → Ordered (turn m s)
    unfolding turn
    ordered-turn s z shape w settled once h = ws_scheme-cases Ordered m _ (λ e. ordered-wake_wsl _ _ done) (λ e. done)
      where
        taken : State
        taken = set_turns (suc s.turns) (taking s.moving s)

        done : Ordered (execute taken.moving m taken)
        done =
            ordered-execute taken (handed-turns _ _ (handed m s once h.linked shape w z settled (h.unmarked z)))
            (rw (taking-records s.moving s) h.in_order)
            (taking-kept (Shape m) (shape_closed m) s.moving s shape)

  -- ---- The start and the end before a turn

  ordered-idle : Ordered (idle m tape)
  unfolding idle waiting opens moving_one
  ordered-idle =
      record {
        linked =
            record {
              waits = [];
              keys = refl;
              falling = tt;
              same =
                  λ f k. omega (
                    arith,
                    sum-flat-none (weight f) (m.facilities + length m.capacities),
                    sum-flat-none (weight f) ((m.facilities + length m.capacities) * 6),
                  );
            };
        in_order = λ i k ik h w e. absurd (omega arith);
        unmarked = λ e. tt;
      }

  ordered-arrival : (l : List ℕ) (list p n : ℕ) (s : State) → Ordered s → Ordered (arrival l list p n s)
  unfolding arrival to_fel waiting
  ordered-arrival [] list p n s h = h
  ordered-arrival (time ∷ l) list p n s h =
      record { linked = linked_as (omega arith) (λ f k. refl) h.linked; in_order = h.in_order; unmarked = h.unmarked }

  ordered-start_at : (n : ℕ) (l : List Block) (s : State) → Ordered s → Ordered (start_at n l s)
  unfolding start_at
  ordered-start_at n [] s h = h
  ordered-start_at n (b ∷ l) s h =
      ordered-start_at (suc n) l _ (start_of-cases Ordered b n s (λ e. h) (λ e. ordered-arrival _ _ _ n s h))

  pub ordered-start : Ordered (start m tape)
  unfolding start
  ordered-start = ordered-start_at 1 m.blocks _ ordered-idle

  pub ordered_end : (s : State) (e : ℕ) → s.end ≡ 0 → Ordered s → Ordered (set_end e s)
  unfolding waiting
  ordered_end s e z h = record { linked = h.linked; in_order = h.in_order; unmarked = λ k. h.unmarked z }
