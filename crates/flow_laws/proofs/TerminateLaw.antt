-- 3 TERMINATE: the row machine does what the machine does.
use Rattle.machine.specs.All.{ℕ, ◌+◌, ◌-◌, ◌≡◌, refl, ap, ◌∙◌, subst, List, ◌∷◌, none, some, arith, get_or, Transaction, Event, terminate, BlockModel, State, set_moving, ends_one}
use Rattle.layout.specs.All.{block_forms}
use Rattle.rows_laws.specs.All.{free, free_row, update, Shown}
use Rattle.rows_laws.proofs.{Chains.Showing.update_same, Placing.Spot.short, Life.Making.free-shown}
use Rattle.state.specs.declared.scalars.Scalars.{Scalars}
use Rattle.state.specs.All.{entering, bare, rows_of, lists_of, Listed, Counting, note_of, Done}
use Rattle.moves.proofs.{Before.place_of, Before.bare_block, Before.Before, BeforeLaws.operand, BeforeLaws.asked-moved, MotionLaws.next32-suc, MotionLaws.number_read}
use Rattle.moves.specs.Motion.{moved, with_tally, next32}
use Rattle.flow_laws.specs.{end_one, terminate_rows}
use Rattle.flow_laws.proofs.Asked.{holding-asked}
use Prim.Native.Nat.{suc}
use mathlib.Core.Bool.{cond}
use lib.Dec.{leb}
use Rattle.machine.specs.Execute.{question}
use Rattle.state.specs.Stands.{Listing}

-- ---- The row of the transaction is free

module _ {w : List ℕ} {k : ℕ} {t : Transaction} {lists : ℕ → List Transaction} {fel : List Event} {living : ℕ}
    (h : Listed w k (some t) lists fel living) where
  abbrev L : ℕ → List ℕ
  L = h.shows.rows

  freed : Shown (free_row w k) (update free (k ∷ L free) L) lists fel
  freed = free-shown w L lists fel h.shows.shown k h.mover.0

  -- so fewer than 1,024 rows were free, and the transaction was living
  pub free-listing : Listed (free_row w k) 1024 none lists fel (living - 1)
  free-listing =
      record {
        shows = record { rows = update free (k ∷ L free) L; shown = freed; ordered = h.shows.ordered };
        mover = refl;
        spare = omega (
          arith,
          h.spare,
          short (free_row w k) free (k ∷ L free)
              (rw (update_same free (k ∷ L free) L free refl) at (freed.holds.listed free (omega arith))),
        );
      }

module _ {m : BlockModel} {tape : List (List ℕ)} {tape_bytes tables lists w tally : List ℕ} {x : Scalars} {t : Transaction} {s : State}
    {a : ℕ} (h : Before m tape tape_bytes tables lists w tally x t s (terminate a)) where
  operand-is : get_or tables (place_of t + 1) 0 ≡ a
  unfolding block_forms
  operand-is = operand h 1 (omega arith)

  abbrev s₀ : State
  s₀ = set_moving none s

  counted : Counting (end_one x a) (ends_one a s₀)
  unfolding end_one ends_one
  counted =
      let c : x.counter ≡ s.counter = h.counting.counter in
      record {
        clock = h.counting.clock;
        counter = ap (λ (n : ℕ). n - a) c;
        serial = h.counting.serial;
        made = h.counting.made;
        ended = ap next32 h.counting.ended ∙ next32-suc s.ended (omega (arith, h.sane.ended, h.sane.made, h.sane.serials));
        turns = h.counting.turns;
        used = h.counting.used;
        end = ap (λ (n : ℕ). cond (leb n a) 2 0) c;
      }

  freed-listing : Listing (free_row w x.moving) 1024 none (ends_one a s₀)
  unfolding ends_one
  freed-listing =
      let one : s.made - s.ended - 1 ≡ s.made - suc s.ended = omega arith in
      subst (Listed (free_row w x.moving) 1024 none (lists_of s₀) s.fel) one (free-listing h.listing)

  ended : Done tape_bytes (with_tally (moved (end_one x a) (free_row w x.moving)) tally) (entering (ends_one a s₀))
  unfolding end_one ends_one moved rows_of note_of
  ended = record { stands = record { listing = freed-listing; tallying = h.tallying; counting = counted }; note = refl }

  pub terminate-done : Done tape_bytes (with_tally (terminate_rows tables m.facilities w tally x (place_of t)) tally)
      (bare_block m (terminate a) t s)
  unfolding terminate_rows bare
  terminate-done =
      rw (operand-is, number_read h.listing, holding-asked h a)
      (asked-moved h (question m (terminate a) t s) (moved (end_one x a) (free_row w x.moving)) (λ e. ended))
