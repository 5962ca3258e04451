-- The row machine: the start of a run, in scalars, work buffer and tally.
use Rattle.std.specs.Prelude.{◌+◌, ◌*◌}
use Rattle.machine.specs.All.{ℕ, zero, suc, min, Bool, cond, List, eqb, get_or, set, max_blocks, max_lists}
use Rattle.rows_laws.specs.All.{row_count, initial}
use Rattle.constants.specs.declared.model.Model.{Model}
use Rattle.layout.specs.All.{list_at_lem, list_left, list_counts, most32, block_width}
use Rattle.state.specs.{declared.scalars.Scalars.Scalars, All.Rows, All.rows_of}
use Rattle.flow_laws.specs.{Samples.next_sample, Sending.arrives}

-- ---- Tally: where each list begins and how many times it has

unfoldable pub list_set : List ℕ → List ℕ → ℕ → List ℕ
list_set lists tally l = set (set tally (list_at_lem + l) (get_or lists l 0)) (list_left + l) (get_or lists (list_counts + l) 0)

unfoldable pub lists_set : ℕ → List ℕ → List ℕ → List ℕ
lists_set zero lists tally = tally
lists_set (suc n) lists tally = list_set lists (lists_set n lists tally) n

-- ---- Scalars

unfoldable pub start_scalars : ℕ → Scalars
start_scalars counter =
    record {
      clock = 0;
      counter = min counter most32;
      moving = row_count;
      serial = 0;
      made = 0;
      ended = 0;
      turns = 0;
      used = 0;
      end = 0;
      note = 0;
    }

-- ---- A transaction for each GENERATE whose list has a time

unfoldable pub spent_at : (tables tally : List ℕ) → ℕ → Bool
spent_at tables tally b = eqb (get_or tally (list_left + get_or tables (block_width * b + 1) 0) 0) 0

unfoldable pub priority_at : List ℕ → ℕ → ℕ
priority_at tables b = get_or tables (block_width * b + 2) 0

unfoldable pub begin_list : (tables tape : List ℕ) → Rows → ℕ → Rows
begin_list tables tape r b =
    cond (spent_at tables r.tally b) r
    (arrives r.work r.tally r.scalars (next_sample tape r.tally (get_or tables (block_width * b + 1) 0))
    (get_or tables (block_width * b + 1) 0) (priority_at tables b) (b + 1))

unfoldable pub begin_block : (tables tape : List ℕ) → Rows → ℕ → Rows
begin_block tables tape r b = cond (eqb (get_or tables (block_width * b) 0) 1) (begin_list tables tape r b) r

-- n blocks from block b on
unfoldable pub begin_blocks : ℕ → (tables tape : List ℕ) → Rows → ℕ → Rows
begin_blocks zero tables tape r b = r
begin_blocks (suc n) tables tape r b = begin_blocks n tables tape (begin_block tables tape r b) (suc b)

unfoldable pub start_rows : Model → (tables tape lists : List ℕ) → List ℕ → List ℕ → Rows
start_rows model tables tape lists w tally =
    begin_blocks (min model.blocks max_blocks) tables tape
    (rows_of (start_scalars model.counter) (initial w) (lists_set max_lists lists tally)) 0
