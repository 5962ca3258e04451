-- The whole join as the code does it, from two headers and their tables.
use Rattle.std.specs.Prelude.{◌+◌, ◌≤◌, ◌≡◌, ◌&&◌, ◌∷◌, ◌++◌}
use Rattle.machine.specs.All.{ℕ, zero, suc, Bool, true, cond, List, [], leb, eqb, length, get_or, drop}
use Rattle.machine.specs.Limits as Limits
use Rattle.constants.specs.declared.model.Model.{Model}
use Rattle.layout.specs.Layout as Layout
use Rattle.parse_values.specs.Shapes.{Within}
use Rattle.join_laws.specs.{declared.shift.Shift.Shift, Written.numbers_bytes, Joining.Joining, Joining.refused, Joining.fitted, Rows.block_rows, Rows.value_rows}

-- the counts of a header and its counter are within their limits
pub record Fits (m : Model) : Type 0 where
  pub within : Within m
  pub counter : m.counter ≤ Limits.max_counter

abbrev pub first_shift : Model → Shift
first_shift a = record { own = a.facilities; facilities = 0; storages = 0; queues = 0; values = 0; lists = 0; blocks = 0 }

abbrev pub second_shift : Model → Model → Shift
second_shift a b =
    record { own = b.facilities; facilities = a.facilities; storages = a.storages; queues = a.queues; values = a.values; lists = a.lists; blocks = a.blocks }

-- 61 where this is false
unfoldable pub may_join : (a b : Model) (edition₁ edition₂ : ℕ) → Bool
may_join a b edition₁ edition₂ =
    eqb edition₁ edition₂
    && leb (a.facilities + b.facilities) Limits.max_facilities
    && leb (a.storages + b.storages) Limits.max_storages
    && leb (a.queues + b.queues) Limits.max_queues
    && leb (a.values + b.values) Limits.max_values
    && leb (a.lists + b.lists) Limits.max_lists
    && leb (a.counter + b.counter) Limits.max_counter
    && leb (a.blocks + b.blocks) Limits.max_blocks

-- "counters are added"
abbrev pub joined_counter : (a b : Model) → ℕ
joined_counter a b = a.counter + b.counter

-- so many cells of the tables
unfoldable pub cell_row_lem : List ℕ → (left at : ℕ) → List ℕ
cell_row_lem tables zero at = []
cell_row_lem tables (suc left) at = get_or tables at 0 ∷ cell_row_lem tables left (suc at)

-- what is kept for the bytes of a joined model
abbrev pub kept_room : ℕ
kept_room = 81920

-- bytes at the front of an output that has room for them
unfoldable pub at_front_lem : (bytes out : List ℕ) → List ℕ
at_front_lem bytes out = cond (leb (length bytes) (length out)) (bytes ++ drop (length bytes) out) out

module _ (tables₁ : List ℕ) (a : Model) (tables₂ : List ℕ) (b : Model) where
  unfoldable pub server_rows : List ℕ
  server_rows =
      get_or tables₁ Layout.edition 0 ∷ (a.facilities + b.facilities) ∷ (a.storages + b.storages)
      ∷ (cell_row_lem tables₁ a.storages (Layout.capacities + a.facilities) ++ cell_row_lem tables₂ b.storages (Layout.capacities + b.facilities))

  unfoldable pub thing_rows : List ℕ
  thing_rows =
      (a.queues + b.queues) ∷ (a.values + b.values)
      ∷ (value_rows tables₁ (first_shift a) a.values 0 ++ value_rows tables₂ (second_shift a b) b.values 0)

  unfoldable pub all_blocks_lem : List ℕ
  all_blocks_lem = block_rows tables₁ (first_shift a) a.blocks 0 ++ block_rows tables₂ (second_shift a b) b.blocks 0

  unfoldable pub program_rows : List ℕ
  program_rows = (a.lists + b.lists) ∷ joined_counter a b ∷ (a.blocks + b.blocks) ∷ all_blocks_lem

  unfoldable pub joined_rows : List ℕ
  joined_rows = server_rows ++ (thing_rows ++ program_rows)

  -- the bytes of the joined model
  abbrev pub joined_bytes_lem : List ℕ
  joined_bytes_lem = numbers_bytes joined_rows

  abbrev pub may_join_tables : Bool
  may_join_tables = may_join a b (get_or tables₁ Layout.edition 0) (get_or tables₂ Layout.edition 0)

  -- 61, 62, or the bytes of both outputs
  unfoldable pub joined_tables : (tape₁ tape₂ : List ℕ) (modelRoom tapeRoom : ℕ) → Joining
  joined_tables tape₁ tape₂ modelRoom tapeRoom = cond may_join_tables (fitted modelRoom tapeRoom joined_bytes_lem (tape₁ ++ tape₂)) (refused 61)

  -- headers within their limits; what may be joined fits the room that is kept for it
  pub record Ready : Type 0 where
    pub first : Fits a
    pub second : Fits b
    pub room : length tables₁ ≡ Layout.tables_size → length tables₂ ≡ Layout.tables_size → may_join_tables ≡ true → length joined_bytes_lem ≤ kept_room
