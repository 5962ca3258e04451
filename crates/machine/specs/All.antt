-- The names of these definitions that other crates use, passed on so that a file there has one line for them.
pub use Rattle.std.specs.Prelude.{◌-◌, ◌≡◌, ◌∷◌, ◌+◌, ◌≤◌, ◌<◌, ◌≢◌, ◌*◌, ◌&&◌, ◌++◌, ◌/◌, ◌%◌, ◌^◌, ◌||◌, ◌⊎◌}
pub use Rattle.machine.specs.Basics.{ℕ, zero, suc, refl, subst, List, length, ne_eqb, rules, cond, eqb, get_or, sym, ◌∙◌, Bool, false, [], none, arith, lt-ltb, le-ltb, cases, ap, Option, eqb-true, eqb-false, eq-eqb, some, drop, max, map, mul-le-mul, ltb-true, ltb-false, ltb, length-map, length-set, get_or-eq_default, get_or-set_same, get_or-set_other, min, set, clash, add-sub_cancel_left, drop_of_length-le, length-drop, drop-cons, le-leb, lt-leb, true, leb, take-append-drop, drop-append_seam, drop-drop, length-take-le, leb-true, pow-suc, pow-le-pow_right, one-le-pow, lt_of_lt_of_le, append_assoc, lit<, take, length-append, get_or-drop, ap₂, lit≤, mul_assoc, mul_comm, mul-le-mul_right, le-mul_of_pos_right, le_trans, one-mul, add-zero, sets, set_comm, length-sets, leb-false, add-one, zero-add, sets-eq, take-append_seam, zero-le, append-nil, subst₂, drop-length, reverse, length-reverse, length-replicate, leb-zero, T, replicate, get_or-replicate, length-take, get_or-append, ext_get_or, get_or-take, get_or-append-add, not-true, not-false, true≢false, not, take_at, leb→le, ltb→lt, take-suc, take-length, get_or_at, map-append, add_assoc, drop-append-le, drop-append-add, get_or-map, map-map, suc-add, fun_ext, inl, inr, reverse_aux, reverse-cons, set_out, false≢true, mod-lt, mod-eq_of_lt, div-add-mod', suc-mul, set-get_or, T_not, eqb→eq, map-set_same, le_antisymm, mul-le-mul_left, decided, add-suc, reverse-append, drop-set-lt, set-set, pos_of_ne-zero, get_or-append_seam, mul-add, add-mul, div-le_of_le-mul, add_comm, mul-add-mod_self_left, add-mul-mod_self_right, add-mul-div_right, take-add, drop_at, take_all}
unfoldable pub use Rattle.machine.specs.Basics.{ℕ_discrete}
pub use Rattle.machine.specs.Basics.{ℕ, zero, suc, refl, subst, List, length, ne_eqb, rules, cond, eqb, get_or, sym, ◌∙◌, Bool, false, [], none, arith, lt-ltb, le-ltb, cases, ap, Option, eqb-true, eqb-false, eq-eqb, some, drop, max, map, mul-le-mul, ltb-true, ltb-false, ltb, length-map, length-set, get_or-eq_default, get_or-set_same, get_or-set_other, min, set, clash, add-sub_cancel_left, drop_of_length-le, length-drop, drop-cons, le-leb, lt-leb, true, leb, take-append-drop, drop-append_seam, drop-drop, length-take-le, leb-true, pow-suc, pow-le-pow_right, one-le-pow, lt_of_lt_of_le, append_assoc, lit<, take, length-append, get_or-drop, ap₂, lit≤, mul_assoc, mul_comm, mul-le-mul_right, le-mul_of_pos_right, le_trans, one-mul, add-zero, sets, set_comm, length-sets, leb-false, add-one, zero-add, sets-eq, take-append_seam, zero-le, append-nil, subst₂, drop-length, reverse, length-reverse, length-replicate, leb-zero, T, replicate, get_or-replicate, length-take, get_or-append, ext_get_or, get_or-take, get_or-append-add, not-true, not-false, true≢false, not, take_at, leb→le, ltb→lt, take-suc, take-length, get_or_at, map-append, add_assoc, drop-append-le, drop-append-add, get_or-map, map-map, suc-add, fun_ext, inl, inr, reverse_aux, reverse-cons, set_out, false≢true, mod-lt, mod-eq_of_lt, div-add-mod', suc-mul, set-get_or, T_not, eqb→eq, map-set_same, le_antisymm, mul-le-mul_left, decided, add-suc, reverse-append, drop-set-lt, set-set, pos_of_ne-zero, get_or-append_seam, mul-add, add-mul, div-le_of_le-mul, add_comm, mul-add-mod_self_left, add-mul-mod_self_right, add-mul-div_right, take-add, drop_at, take_all}
unfoldable pub use Rattle.machine.specs.Basics.{ℕ_discrete}
pub use Rattle.machine.specs.Limits.{max_clock, max_turns, max_number_bytes, five_groups, max_report_number_bytes, max_report_number, max_transaction, max_blocks, max_serial, max_time, max_samples, record_room, work_numbers, report_room, max_queues, max_brackets, max_constant, max_facilities, max_storages, max_living, max_back, max_lists, max_capacity, max_priority, max_split, max_assemble, max_counter, parameter_count, max_value_numbers, max_values, max_terminate, max_terms, max_mentions, max_number}
pub use Rattle.machine.specs.Rules.{in_force, Rules, document01, item6, item11, document02, item1}
pub use Rattle.machine.specs.Number.{Number}
unfoldable pub use Rattle.machine.specs.Number.{groups, padded, within, read_number, number_bytes, upper, longer, count_low}
pub use Rattle.machine.specs.Parser.{parsed, refused, Cursor, Parsed, Parser, ◌>>=◌, ◌>>◌, give, field, forward, refuse}
unfoldable pub use Rattle.machine.specs.Parser.{field_of, field_up_to, times, continue, ask}
pub use Rattle.machine.specs.Trace.{trace_field, Record, Writing, written, rejected, taken, refusal, no_more, Reading}
unfoldable pub use Rattle.machine.specs.Trace.{trace_bytes_lem, read_record, record_bytes, record_fields, reading, in_ranges, write_record}
pub use Rattle.machine.specs.Transaction.{Transaction, Event, Gatherer, Interrupted}
unfoldable pub use Rattle.machine.specs.Transaction.{precedes, newborn, earlier}
pub use Rattle.machine.specs.Lists.{others, bit, set_nth, nth}
unfoldable pub use Rattle.machine.specs.Lists.{insert, those, up_to, replace_first, flat, any_of}
pub use Rattle.machine.specs.Term.{always, when_true, Server, Queue, Sum, nothing, View, constant, value, plus, Relation, Term, minus_constant, parameter, clock_term, entries_of, content_of, units_in_use, units_free, facility_in_use, comparison, bracket, minus, one_if, equal, unequal, less, at_most, greater, at_least, Condition, free}
unfoldable pub use Rattle.machine.specs.Term.{idle_server, empty_queue, signed, low32, wrap, term, worths, evaluate, compare, eq_z, related, queue_at, server_at, sum, truth}
pub use Rattle.machine.specs.Facts.{is_generate, Facts}
pub use Rattle.machine.specs.Block.{Block, generate, advance, terminate, wait_server, wait_terms, assign, priority, split, BlockModel, facility, storage, up, down, takes, frees, moves, counts, assemble, preempt, give_back, Change, branch, block_at, Code, U, NU, E, NE, F, NF, enter, leave, seize, release, goto, arrive, depart, back_at, Share}
unfoldable pub use Rattle.machine.specs.Block.{facts, code_index, compared, wel_index, unconditional, inside_group, share_units, share_server, above_one, begins_group, status, share_holder, arrivals, share_facility}
pub use Rattle.machine.specs.State.{State, Logged}
pub use Rattle.machine.specs.Setters.{set_rel, set_serial, with_serial, with_returning, set_moving, set_turns, set_end, with_next, set_made, set_ended, set_gatherers, with_stamp, with_priority, set_fel, set_entries, set_queues, set_servers, set_view, set_samples, set_ql, set_wel, set_wsl, set_interrupted, with_parameters, with_use, set_clock, set_counter, set_records, set_written, with_content}
pub use Rattle.machine.specs.Moves.{times_left, waits_for, copy_of, interrupted_at, begin_wait, losers_to, ql_of, fresh, wel_of, Parted, use_time, set_gatherers_at, go_on_lem, set_holder, gatherers_at, set_waits_for, first_of, part_by, goes, stays, nobody}
unfoldable pub use Rattle.machine.specs.Moves.{to_rel, record_of, in_family, to_gatherers, comes, released, to_fel, log, enters, move_to, to_ql, to_wel, to_wsl, must_wait, wake_ql, wake_first_wel, wake_wsl, set_use, set_content, arrival, copies, interrupt, resume, line_up, from_back, wake, of_facility, loses_to}
pub use Rattle.machine.specs.Execute.{unless, living, units_of_lem, free_units, stamped, gathering, preempting, ask_time, ask_ends, taking_units, doing}
unfoldable pub use Rattle.machine.specs.Execute.{ask_advance, question, delay, ask_generate, held, ask_gathers, gathers, ends_one, ask_content, ask_holder, ask_resume, ask_gives_back, check_wels, wake_for, take_units, effect, gives_back, fits, first_of_one, from_front, queue_remove, part_for, check_wel, changed}
unfoldable pub use Rattle.machine.specs.Turn.{arrive_all, move_clock, next_events, take_first, take_ready, taking, turn, waits_on, sample_servers, sample_queue, sample, due, answer, execute, holds, ws_scheme}
pub use Rattle.machine.specs.Watched.{Thing, the_clock, entry, Watches, Spares, own, queue, server, worth, Within, SumWithin, WaitWithin, Through}
pub use Rattle.machine.specs.Run.{steps}
unfoldable pub use Rattle.machine.specs.Run.{idle, start, run, is_none, is_empty, nobody_left, end_before_lem, states, run_from, states_from, start_at, start_of}
pub use Rattle.machine.specs.Report.{Place}
unfoldable pub use Rattle.machine.specs.Report.{report_numbers, report_bytes_lem, moving_one, placed, places, server_numbers, queue_numbers, by_number, place_numbers, records_at}
pub use Rattle.machine.specs.Decode.{Counts, number, in_value}
unfoldable pub use Rattle.machine.specs.Decode.{at_end, list_field, model_fields, value_fields, block_field, value_field, simple_term, block_term, counted, mentioned, value_number, sum_terms, sum_field, bracket_field, comparison_field, mention_field, tagged_term, value_term, relation_of, code_of, code_server, storage_units, operands}
pub use Rattle.machine.specs.Validate.{beginning, Validation, accept, reject}
unfoldable pub use Rattle.machine.specs.Validate.{validate, model_of_lem, tape_of, with_tape, with_model, targets_move, well_formed, all_of, term_names, sum_names, well_placed, joined}
pub use Rattle.machine.specs.Outcome.{Outcome}
unfoldable pub use Rattle.machine.specs.Outcome.{records_of, accepted_run, refused_run, outcome_of, outcome}
pub use Rattle.machine.specs.Claims.{Each, LivingListed, InModel, Proved, Keeping, terminates, Keeps, InOrder, Demand3, times_of, facts_at, entered, gets_time, listed_number, listed_place, OneGathers, Held, takes_it, TakenFrom, WholeGroup, Joined, Stamped, no_record_lem, stated_end, Bounded, Ends}
unfoldable pub use Rattle.machine.specs.Claims.{count, everyone, standing, is_living, made_by, ended_by_lem, living_count, used_by, living_at, standing_at, generates_of, made_at_start, family_by, come_by, holder_by, loser_by, preempted_by, last_entry, able_on_ql, able_on_wel, able_on_wels, able_to_go, next_record, wait_end, equal_waits, preempt_names}
pub use Rattle.machine.specs.OlderTapes.{Wider, AllowsNoLess, SameBytes, KeepsRuns, KeepsTraces, ReadsClock, KeepsClockTerm}
pub use Rattle.machine.specs.OnlyHolder.{asking, OwnOnly, KeepsOwnRuns}
unfoldable pub use Rattle.machine.specs.OnlyHolder.{held_by, by_holder, free_handed, own_only}
pub use Rattle.machine.specs.OlderModels.{counting, KeepsModels}
unfoldable pub use Rattle.machine.specs.Bundle.{everything}
