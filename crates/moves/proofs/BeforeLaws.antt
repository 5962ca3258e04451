-- What holds before any block: where the transaction stands, the numbers of its block, and a question that stops the turn.
use Rattle.machine.specs.All.{ℕ, zero, suc, ◌+◌, ◌-◌, ◌≤◌, ◌<◌, ◌≡◌, refl, sym, subst, cond, List, Option, none, arith, ne_eqb, eqb, length, get_or, Transaction, Block, BlockModel, State, set_moving, set_end}
use Rattle.machine.proofs.{Decoding.Proper.Names, Decoding.Proper.ProperBlock, Runs.Placed.Placed}
use Rattle.layout.specs.All.{block_numbers}
use Rattle.layout.proofs.Operands as Operands
use Rattle.state.specs.declared.scalars.Scalars.{Scalars}
use Rattle.state.specs.All.{bare, bare_answer, Rows, rows_of, Stands, note_of, Done}
use Rattle.moves.specs.{Moved, moved, with_tally, stopped}
use Rattle.moves.proofs.Before.{place_of, Before}
use Rattle.machine.proofs.Runs.Everybody.{Maybe}

module _ {m : BlockModel} {tape : List (List ℕ)} {tape_bytes tables lists w tally : List ℕ} {x : Scalars} {t : Transaction} {s : State}
    {b : Block}
    (h : Before m tape tape_bytes tables lists w tally x t s b) where
  pub placed : Placed m t
  placed = subst (Maybe (Placed m)) h.moving h.sane.placed.moving

  pub numbered : Names s.made t.number
  numbered = subst (Maybe (λ u. Names s.made u.number)) h.moving h.sane.mover

  pub inside : t.next - 1 < length m.blocks
  inside = omega (arith, placed.0)

  pub next_low : t.next < 4294967295
  next_low = omega (arith, placed.0, h.proper.blocks)

  pub serial-low : s.serial < 4294967295
  serial-low = omega (arith, h.sane.serials)

  pub few-lists : length s.samples ≤ 16
  few-lists = omega (arith, h.sane.shape.sample-lists, h.proper.lists)

  -- its block is one of a proper model
  pub proper-block : ProperBlock m b
  proper-block = subst (ProperBlock m) h.is (h.proper.block t.next)

  -- number i of its block, the kind being number 0
  pub operand : (i : ℕ) → i < length (block_numbers b) → get_or tables (place_of t + i) 0 ≡ get_or (block_numbers b) i 0
  operand = Operands.operand m tape tape_bytes tables lists h.rep t.next placed.0 b h.is

  -- ---- A question stops the turn

  -- a question that stops the run leaves rows and state as they were
  pub stop-done : (n : ℕ) → Done tape_bytes (rows_of (stopped x (suc n)) w tally) (bare_answer (suc n) m b t s)
  unfolding stopped bare_answer rows_of note_of
  stop-done n =
      record {
        stands =
            subst (λ (o : Option Transaction). Stands tape_bytes (rows_of (stopped x (suc n)) w tally) o (set_end (suc n) s)) (sym h.moving)
            (record {
              listing = h.listing;
              tallying = h.tallying;
              counting =
                  record {
                    clock = h.counting.clock;
                    counter = h.counting.counter;
                    serial = h.counting.serial;
                    made = h.counting.made;
                    ended = h.counting.ended;
                    turns = h.counting.turns;
                    used = h.counting.used;
                    end = refl;
                  };
            });
        note = refl;
      }

  -- asked first
  pub asked : (q : ℕ) (rows : Rows) → (q ≡ 0 → Done tape_bytes rows (bare m b t (set_moving none s)))
      → Done tape_bytes (cond (eqb q 0) rows (rows_of (stopped x q) w tally)) (bare_answer q m b t s)
  unfolding bare_answer
  asked zero rows done = done refl
  asked (suc n) rows done = rw (ne_eqb (suc n) 0 (λ e. omega arith)) (stop-done n)

  -- by a kind that is not lent the tally to write
  pub asked-moved : (q : ℕ) (y : Moved) → (q ≡ 0 → Done tape_bytes (with_tally y tally) (bare m b t (set_moving none s)))
      → Done tape_bytes (with_tally (cond (eqb q 0) y (moved (stopped x q) w)) tally) (bare_answer q m b t s)
  unfolding bare_answer moved
  asked-moved zero y done = done refl
  asked-moved (suc n) y done = rw (ne_eqb (suc n) 0 (λ e. omega arith)) (stop-done n)
