-- The numbers of the report, from what a run leaves: header, tables, tally, work buffer and scalars.
use Rattle.std.specs.Prelude.{◌+◌, ◌∷◌, ◌++◌}
use Rattle.machine.specs.All.{ℕ, min, List, [], replicate, max_facilities, max_storages, max_blocks, max_queues}
use Rattle.rows_laws.specs.All.{row_count}
use Rattle.constants.specs.declared.model.Model.{Model}
use Rattle.state.specs.declared.scalars.Scalars.{Scalars}
use Rattle.report_laws.specs.{Counts.server_row, Counts.queue_row, Counts.rows_to, Living.living_count, Living.rank_to, Living.place_row}

unfoldable pub living_numbers : List ℕ → ℕ → List ℕ
living_numbers w moving =
    living_count w moving ∷ rows_to (living_count w moving) (place_row w moving (rank_to w moving row_count (replicate row_count 0)))

-- a header's counts are at most the limits; larger ones are cut
unfoldable pub row_numbers : Model → (tables tally work : List ℕ) → Scalars → List ℕ
row_numbers model tables tally work x =
    (x.clock ∷ x.made ∷ x.ended ∷ [])
    ++ (rows_to (min model.facilities max_facilities + min model.storages max_storages)
    (server_row tables tally x.clock (min model.blocks max_blocks))
    ++ (rows_to (min model.queues max_queues) (queue_row tables tally x.clock (min model.blocks max_blocks))
    ++ living_numbers work x.moving))
