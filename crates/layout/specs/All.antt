-- The names of these definitions that other crates use, passed on so that a file there has one line for them.
pub use Rattle.layout.specs.Layout.{clock_moves, most64, most32, tally_size, holder, list_left, residues, held, list_at_lem, block_width, word_end, code_count, edition, list_counts, waits, program_size, tables_size, value_width, server_count, measured_count}
unfoldable pub use Rattle.layout.specs.Numbers.{block_numbers, sum_numbers, relation_number, term_numbers, terms, signed_terms, take_numbers, free_numbers, move_numbers, wait_numbers, count_kind}
pub use Rattle.layout.specs.Represents.{Represents, TimesAt, At, Watching, Sharing}
unfoldable pub use Rattle.layout.specs.Represents.{header_of, small_block, small_sum, small_term}
unfoldable pub use Rattle.layout.specs.Forms.{block_forms}
