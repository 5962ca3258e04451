-- The names of these definitions that other crates use, passed on so that a file there has one line for them.
pub use Rattle.state.specs.Ticks.{count_end, most_ticks}
unfoldable pub use Rattle.state.specs.Ticks.{product}
unfoldable pub use Rattle.state.specs.Statistics.{sum_now, longest_now, update_server, behind, ticks_since, see, store_server, store_queue, update_queue}
pub use Rattle.state.specs.Bare.{Note, entered_note, waits_note, no_note, entering, beginning, Bare, going_back, noted}
unfoldable pub use Rattle.state.specs.Bare.{logged, count_entry, note_as, bare, bare_answer, waiting}
pub use Rattle.state.specs.ScalarSetters.{put_clock, put_serial, put_moving, put_turns, put_end, put_made, put_note, put_counter, put_ended, put_used}
pub use Rattle.state.specs.Stands.{Done, Rows, lists_of, Listing, Tallying, Counting, Stands, Moving, Seen, Serving, Queueing, Sampling, Tallied, gatherer_row, Listed, interrupted_row, Numbers, Counted}
unfoldable pub use Rattle.state.specs.Stands.{rows_of, lists_in, of_residue, note_of, at_block, held_in}
