-- The start and one turn over rows follow the machine.
use Rattle.machine.specs.All.{ℕ, ◌≤◌, ◌≡◌, refl, sym, ◌∙◌, List, [], length, replicate, length-replicate, trace_bytes_lem, BlockModel, State, turn, idle, start, records_of, ap, Logged}
use Rattle.machine.proofs.{Decoding.Proper.Proper, Runs.RunLaws.Taken}
use Rattle.layout.specs.Layout as Layout
use Rattle.layout.specs.All.{header_of, Represents}
use Rattle.evaluation.specs.Nested.{Nested}
use Rattle.state.specs.All.{Rows}
use Rattle.state.proofs.{Sanity.start_is, Written.Kept, Written.in_order_lem}
use Rattle.start.specs.Start.{start_rows}
use Rattle.start.proofs.{Laws.start-stands, Tally.same_at, AtStart.start-moving}
use Rattle.turn_laws.specs.Turn.{Traced, traced}
use Rattle.turn_laws.proofs.{Runs.Runs, TurnLaws.turn-runs}
use Rattle.engine_laws.specs.{turn_rows}

module _ {m : BlockModel} {times : List (List ℕ)} {tape tables lists : List ℕ} (proper : Proper m times)
    (represents : Represents m times tape tables lists) (nested : Nested m) (trace : List ℕ) where
  abbrev first : List ℕ → Rows
  first work = start_rows (header_of m) tables tape lists work (replicate Layout.tally_size 0)

  no-records : (start m times).records ≡ []
  no-records = (start_is proper represents.rules).records ∙ none_yet
    where
      none_yet : (idle m times).records ≡ []
      none_yet = unfold idle in refl

  nothing_written : (start m times).written ≡ 0
  nothing_written = (start_is proper represents.rules).written ∙ none_yet
    where
      none_yet : (idle m times).written ≡ 0
      none_yet = unfold idle in refl

  no_bytes : trace_bytes_lem (records_of (start m times)) ≡ []
  unfolding records_of trace_bytes_lem
  no_bytes = ap (λ (l : List Logged). trace_bytes_lem (in_order_lem l)) no-records

  -- the rows of the start stand for the machine's first state, and nothing is written yet
  pub started : (work : List ℕ) → 16384 ≤ length work → Runs tape trace (traced (first work) trace) (start m times)
  unfolding traced
  started work room =
      record {
        stands =
            rw (← start-moving m times) at (start-stands m times tape tables lists proper represents work
            (replicate Layout.tally_size 0) room (length-replicate {A = ℕ} Layout.tally_size 0) (λ i. same_at Layout.tally_size i 0));
        writes =
            record {
              bytes = sym (rw (no_bytes, nothing_written));
              written = rw (no_bytes, nothing_written);
            };
      }

  -- a turn over rows is the machine's turn, before which no end is asked
  pub turned : (budget : ℕ) (a : Traced) (s : State) → Taken budget (length trace) s → Kept m times (length trace) s → Runs tape trace a s
      → Runs tape trace (turn_rows (header_of m) tables tape a) (turn m s)
  unfolding turn_rows
  turned budget a s t k h = turn-runs proper represents nested budget s k.sure t k.traced.number a h
