-- One name that unfolds every definition of the machine: `unfolding everything` lets a proof compute.
use Rattle.machine.specs.Number.{upper, number_bytes, longer, groups, padded, within, read_number, count_low}
use Rattle.machine.specs.Parser.{continue, ask, times, field_of, field_up_to}
use Rattle.machine.specs.Trace.{record_bytes, trace_bytes_lem, record_fields, reading, read_record, in_ranges, write_record}
use Rattle.machine.specs.Transaction.{newborn, precedes, earlier}
use Rattle.machine.specs.Lists.{insert, those, any_of, replace_first, flat}
use Rattle.machine.specs.Term.{idle_server, empty_queue, server_at, queue_at, signed, low32, wrap, eq_z, related, worths, evaluate, compare, truth, term, sum}
use Rattle.machine.specs.Block.{status, code_index, share_server, share_units, share_facility, share_holder, wel_index, arrivals, unconditional, compared, facts, above_one, begins_group, inside_group}
use Rattle.machine.specs.Moves.{record_of, log, enters, move_to, to_rel, to_fel, from_back, line_up, to_ql, to_wel, to_wsl, must_wait, wake, wake_ql, wake_first_wel, wake_wsl, set_use, set_content, arrival, copies, in_family, to_gatherers, comes, released, of_facility, loses_to, interrupt, resume}
use Rattle.machine.specs.Execute.{ask_generate, ask_advance, ask_content, ask_holder, held, ask_gathers, ask_resume, ask_gives_back, question, check_wel, check_wels, fits, first_of_one, from_front, queue_remove, part_for, take_units, wake_for, ends_one, delay, changed, gathers, gives_back, effect}
use Rattle.machine.specs.Turn.{sample_servers, sample_queue, sample, arrive_all, due, move_clock, next_events, take_first, take_ready, taking, answer, execute, holds, waits_on, ws_scheme, turn}
use Rattle.machine.specs.Run.{is_none, is_empty, nobody_left, end_before_lem, start_of, start_at, idle, start, run_from, states_from, run, states}
use Rattle.machine.specs.Report.{records_at, server_numbers, queue_numbers, placed, moving_one, places, by_number, place_numbers, report_numbers, report_bytes_lem}
use Rattle.machine.specs.Decode.{relation_of, code_of, simple_term, block_term, counted, mentioned, value_number, sum_terms, sum_field, bracket_field, comparison_field, mention_field, tagged_term, value_term, value_field, value_fields, code_server, storage_units, operands, block_field, model_fields, at_end, list_field}
use Rattle.machine.specs.Validate.{well_placed, all_of, joined, targets_move, well_formed, model_of_lem, tape_of, with_tape, with_model, validate, term_names, sum_names}
use Rattle.machine.specs.Outcome.{records_of, accepted_run, refused_run, outcome_of, outcome}
use Rattle.machine.specs.OnlyHolder.{held_by, by_holder, free_handed, own_only}
use Rattle.machine.specs.Claims.{count, up_to, everyone, standing, next_record, wait_end, last_entry, family_by, come_by, generates_of, made_at_start, used_by, made_by, ended_by_lem, is_living, living_count, able_on_ql, able_on_wel, able_on_wels, able_to_go, equal_waits, preempt_names, holder_by, loser_by, preempted_by, living_at, standing_at}

unfoldable pub everything : Unit {0}
unfolding upper number_bytes longer groups padded within read_number count_low continue ask times field_of field_up_to record_bytes trace_bytes_lem record_fields reading read_record in_ranges write_record newborn precedes earlier insert those any_of replace_first flat idle_server empty_queue server_at queue_at signed low32 wrap eq_z related worths evaluate compare truth term sum status code_index share_server share_units share_facility share_holder wel_index arrivals unconditional compared facts above_one begins_group inside_group record_of log enters move_to to_rel to_fel from_back line_up to_ql to_wel to_wsl must_wait wake wake_ql wake_first_wel wake_wsl set_use set_content arrival copies in_family to_gatherers comes released of_facility loses_to interrupt resume ask_generate ask_advance ask_content ask_holder held ask_gathers ask_resume ask_gives_back question check_wel check_wels fits first_of_one from_front queue_remove part_for take_units wake_for ends_one delay changed gathers gives_back effect sample_servers sample_queue sample arrive_all due move_clock next_events take_first take_ready taking answer execute holds waits_on ws_scheme turn is_none is_empty nobody_left end_before_lem start_of start_at idle start run_from states_from run states records_at server_numbers queue_numbers placed moving_one places by_number place_numbers report_numbers report_bytes_lem relation_of code_of simple_term block_term counted mentioned value_number sum_terms sum_field bracket_field comparison_field mention_field tagged_term value_term value_field value_fields code_server storage_units operands block_field model_fields at_end list_field well_placed all_of joined targets_move well_formed model_of_lem tape_of with_tape with_model validate term_names sum_names records_of accepted_run refused_run outcome_of outcome count up_to everyone standing next_record wait_end last_entry family_by come_by generates_of made_at_start used_by made_by ended_by_lem is_living living_count able_on_ql able_on_wel able_on_wels able_to_go equal_waits preempt_names holder_by loser_by preempted_by living_at standing_at held_by by_holder free_handed own_only
everything = tt
