-- The names of these definitions that other crates use, passed on so that a file there has one line for them.
pub use Rattle.rows_laws.specs.Layout.{rel, fel, row_count, serial_end, wsl, head, free, place, number_field, next_field, family_field, gatherers, standing_field, serial_field, interrupted, nowhere, IsRow, list_count, wels, links, link, tail, tails, data_fields, slots, field_at, slot, holder_cell, heads, hint, hints, word_end, Room, parameter_field, field_count, priority_end}
pub use Rattle.rows_laws.specs.Cells.{read, write, set_returning, load, priority_of}
unfoldable pub use Rattle.rows_laws.specs.Cells.{time_of, set_time, store}
unfoldable pub use Rattle.rows_laws.specs.Order.{outranks, sooner, sooner_at}
pub use Rattle.rows_laws.specs.Lists.{first, take_first, put_by, hinted}
unfoldable pub use Rattle.rows_laws.specs.Lists.{remove_at, put, family_cell, begin, walk, cell_of, end_at, in_family, insert_at, note, spot, remove, remove_row, step, spot_before}
pub use Rattle.rows_laws.specs.Lines.{at_least}
unfoldable pub use Rattle.rows_laws.specs.Lines.{line_up, back_before, back_spot, found_at, last_cell, last_meets, second_spot}
pub use Rattle.rows_laws.specs.Future.{up, size}
unfoldable pub use Rattle.rows_laws.specs.Future.{schedule, cancel, loses, find_loser, above, below, cancel_of, fill, fill_by, is_holder, keep, keep_holder, lives, loser_from, loser, loser_at, loser_of, pull, rise, schedule_last, settle, sink, sooner_of, sooner_row, top}
pub use Rattle.rows_laws.specs.Wake.{wake_first}
unfoldable pub use Rattle.rows_laws.specs.Wake.{wake_row, wake_at, after, pass_rows, pass_cell, wake_walk, wake_all}
pub use Rattle.rows_laws.specs.Clock.{Arrived}
unfoldable pub use Rattle.rows_laws.specs.Clock.{arrive, arrivals, arrived, arrive_first, arrive_row, is_due}
pub use Rattle.rows_laws.specs.Make.{empty_fel}
unfoldable pub use Rattle.rows_laws.specs.Make.{newborn_at, copy_at, free_row, clear_parameters, copy_parameters, describe, empty_list, empty_lists, free_rows, initial, loose_rows}
pub use Rattle.rows_laws.specs.Whole.{part_rows, part_count}
unfoldable pub use Rattle.rows_laws.specs.Whole.{join_at, end_ready, join_ready, one_if, ready_rows, ready_count, ready_parts, ready_place, ready_row, ready_standing, wake_whole}
pub use Rattle.rows_laws.specs.Holds.{update, same, Holds, Listed, Heaped, parameter_at}
unfoldable pub use Rattle.rows_laws.specs.Holds.{event_at, transaction_at, ending, occurs, Chain}
pub use Rattle.rows_laws.specs.Ordered.{Strict, Ordered}
unfoldable pub use Rattle.rows_laws.specs.Ordered.{All, Sorted}
unfoldable pub use Rattle.rows_laws.specs.Living.{sum_to, loose, on_lists}
pub use Rattle.rows_laws.specs.Shows.{Shows, moved, Loose, Shown, order_of, Held}
pub use Rattle.rows_laws.specs.First.{KeptFirst, KeptHead, NoneWhenEmpty}
unfoldable pub use Rattle.rows_laws.specs.First.{earlier_of, walk_to, full_walk, or_none, kept}
