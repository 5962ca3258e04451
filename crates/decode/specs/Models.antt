-- The whole model: its cells of the tables, and the answer to questions 3 to 7.
use Rattle.std.specs.Prelude.{◌≤◌, ◌≡◌, Result, Ok}
use Rattle.constants.specs.{declared.model.Model.Model, declared.refusals.Refusal.Refusal}
use Rattle.machine.specs.All.{ℕ, List, length, in_force, Parsed, parsed, refused, BlockModel}
use Rattle.machine.specs.Limits as Limits
use Rattle.layout.specs.Layout as Layout
use Rattle.layout.specs.All.{sum_numbers, block_numbers, header_of}
use Rattle.parse_values.specs.{Keeps.Refuses, Filled.stored_rows, Filled.all_named, Filled.Each, Shapes.sum_named, Shapes.ProperValue}
use Rattle.program.specs.Formed.{Formed}
use Rattle.decode.specs.{Stages.Capacity, Stages.StageShape, Stages.servers_cells}

-- all cells of the tables
unfoldable pub tables_of : BlockModel → List ℕ
tables_of m =
    stored_rows block_numbers Layout.block_width 0 m.blocks
    (stored_rows sum_numbers Layout.value_width Layout.values m.values
    (servers_cells
    (record { edition = m.edition; facilities = m.facilities; storages = length m.capacities; capacities = m.capacities })))

pub record ProperModel (m : BlockModel) : Type 0 where
  pub rules : m.rules ≡ in_force
  pub facilities : m.facilities ≤ Limits.max_facilities
  pub storages : length m.capacities ≤ Limits.max_storages
  pub capacity : Each Capacity m.capacities
  pub values : length m.values ≤ Limits.max_values
  pub value : Each ProperValue m.values
  pub lists : m.lists ≤ Limits.max_lists
  pub blocks : length m.blocks ≤ Limits.max_blocks
  pub block : Each (Formed (length m.blocks)) m.blocks

abbrev pub model_shape : StageShape BlockModel
model_shape =
    record {
      header = λ h m. header_of m;
      named = λ n m. all_named sum_named n m.values;
      cells = λ h m cells. tables_of m;
      fact = λ h m. ProperModel m;
    }

-- what decoding gives: the header of the model, or the refusal of the first question answered "no"
abbrev pub Decoded : Type 0
Decoded = Result Model Refusal

abbrev pub HeldModel : List ℕ → Decoded → Parsed BlockModel → Type 0
HeldModel after r (parsed m c) = (r ≡ Ok (header_of m)) × (after ≡ tables_of m) × ProperModel m
HeldModel after r (refused n) = Refuses r n

pub record Models (after : List ℕ) (r : Decoded) (P : Parsed BlockModel) : Type 0 where
  pub held : HeldModel after r P
