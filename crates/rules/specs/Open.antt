-- To unfold `opened` is to unfold every definition of these rules: a proof that computes says `unfolding opened`.
use Rattle.std.specs.Prelude.{ℕ}
use Rattle.rules.specs.Bytes.{same, part, among, hex_to, hex}
use Rattle.rules.specs.Numbers.{number, judged_number, loaded_number, outcome_number, told_number, offset, leaves, code, no_error}
use Rattle.rules.specs.Tlv.{length_at, head_of, head_at}
use Rattle.rules.specs.Tlvs.{row, tlvs_up_to, tlvs, plain, count_in, count}
use Rattle.rules.specs.Pieces.{indicates, text_of, pair_at, piece, pieces_up_to, pieces, filled, named}
use Rattle.rules.specs.Grammar.{grammar, cell_in, cell_of, asks, needs_in, need_of, gap_of, misplaced, met_in, met, lacks, beyonds, beyond}
use Rattle.rules.specs.Shape.{shapes, number_in, shape_of, fixed_of, follows_of, kind_of, attributes_in, attributes_end, attribute, added, kind_at, contents, value_at, after_attributes, body_of}
use Rattle.rules.specs.Page.{spot_or, content_at, row_of, attribute_of, page_head, page_row, part_in, page_part, is_held, bytes_of, type_of, keeps_all, page_type, identification, after_one, unlock, password, keep_list, service, pool_in, pool, element_in, element, unit_in, unit_at, unit_count, unit_row, anchor_in, anchor, holds, unrecorded, is_code, entry_in, entry_of, is_place_in, is_place, code_in, code_at}
use Rattle.rules.specs.Reference.{mark_in, mark, unit_from, own_unit, is_own, target_by, target, reference}
use Rattle.rules.specs.Forms.{bad_reference, out_of_place, taken_in, is_marked, bad_anchor, sizes, size_of, out_of_size, long_reference, big_pool, crowded, too_big, odd_head, several, odd_modifier, beyond_at, faulty}
use Rattle.rules.specs.Loader.{shape_look, judged_look, look, or_then, floor, lacking, goes, row_fault, walk, after, class_fault, classes, or_rejected, judge_by, judge_head, judge}
use Rattle.rules.specs.Handler.{go_to, branch_by, action_by, action_at, action_in, in_range, modifier_at, or_else, last_in, default, handle}
use Rattle.rules.specs.Card.{with_environment, with_permanent, with_temporary, with_guard, with_history, with_run, with_wanted, at_rest, runs, is_empty, in_hand, created}
use Rattle.rules.specs.Store.{area, is_record, record_from, is_free, free_from, place_for, value_of, look_for, string_of, read_in, read, value_bytes, value_type, unserved, undefined_in, rank, worse, reading, writing_in, writing, room, record_room, write_temporary, write_permanent, write_in, write}
use Rattle.rules.specs.Value.{pieces_of, defined, complaint, joined, shared_with, shared, inline_type, type_for, shortest}
use Rattle.rules.specs.Keep.{cleared, listed, kept_by, guard_by, rested, unlocks, opened_by, started}
use Rattle.rules.specs.Trail.{pushed, topped, recorded, left, last, lowered}
use Rattle.rules.specs.Command.{execute_of, has_general, optimises, has_output, general_number, output_number, type_at, simple_tlvs, result_complaint, indicator_complaint, execute_complaint, allowed_by, allowed, indicated, expanded, command_body, enveloped, command, fills, first_of, result_in, reply, text_type, optimised, output, write_slot, then_output, results}
use Rattle.rules.specs.Step.{unless, storing, branch_by as branch_by_step, branch, perform, number_before, setting_complaint, then_set, set_all, set_variable, list_at, get_length, case_value, secured_in, case_complaint, cases_complaint, follow, follow_in, is_undefined, case_choice, choose, chosen, branch_on_slot, branch_on_value, exit, execute, byte_code, plan_by, plan_for, here, decide, with_results, answer_by, answer_for, marked, placed, entered, sending, leaving, wanting, back_to, go_back, moved, failed, applied, stepped, answered}
use Rattle.rules.specs.IsCard.{within, value_fine, slot_fine, slots_fine, record_fine, repeats, records_fine, entry_by, entries_fine, history_fine, guard_fine, is_open, is_accepted, complaint_free, sends_by, sends, hand_fine, wanted_fine, run_fine, areas_fine, is_card}
use Rattle.rules.specs.Calls.{answer_number, numbers_of, over, buffer_after, reference_after, tag_of, ready, waiting, admitted, lends, load_by, load_refused, step_done, step_refused, goes_on, steps, run_done, run_refused, respond_done, respond_refused, respond_by, told_refused, environment_done, shown_by, seen, padded, hidden, display, read_done, act, answers, after_all, refused_buffer, act_in}
use Rattle.rules.specs.Cases.{lent, case1, case2, case3, case4a, case4b, case4c, case5a, case5b, case6, case7a, case7b, case7c, case7d, case7e, case8a, case8b, case9, case10, case11, case12, table}
use Rattle.rules.specs.Carried.{equal, cut_after, one_more, two_more, measured, field_then, fields, past_attributes, inside, page_fields, holding, carries, presents}
use Rattle.rules.specs.Hidden.{blank_bytes, blank_type, blank, only, records_of, unguarded, creates, reads, reads_temporary, page_in, some, loads_accepted, before, first_page}

unfoldable pub opened : ℕ
unfolding same part among hex_to hex number judged_number loaded_number outcome_number told_number offset leaves code no_error length_at head_of head_at row tlvs_up_to tlvs plain count_in count indicates text_of pair_at piece pieces_up_to pieces filled named grammar cell_in cell_of asks needs_in need_of gap_of misplaced met_in met lacks beyonds beyond shapes number_in shape_of fixed_of follows_of kind_of attributes_in attributes_end attribute added kind_at contents value_at after_attributes body_of spot_or content_at row_of attribute_of page_head page_row part_in page_part is_held bytes_of type_of keeps_all page_type identification after_one unlock password keep_list service pool_in pool element_in element unit_in unit_at unit_count unit_row anchor_in anchor holds unrecorded is_code entry_in entry_of is_place_in is_place code_in code_at mark_in mark unit_from own_unit is_own target_by target reference bad_reference out_of_place taken_in is_marked bad_anchor sizes size_of out_of_size long_reference big_pool crowded too_big odd_head several odd_modifier beyond_at faulty shape_look judged_look look or_then floor lacking goes row_fault walk after class_fault classes or_rejected judge_by judge_head judge go_to branch_by action_by action_at action_in in_range modifier_at or_else last_in default handle with_environment with_permanent with_temporary with_guard with_history with_run with_wanted at_rest runs is_empty in_hand created area is_record record_from is_free free_from place_for value_of look_for string_of read_in read value_bytes value_type unserved undefined_in rank worse reading writing_in writing room record_room write_temporary write_permanent write_in write pieces_of defined complaint joined shared_with shared inline_type type_for shortest cleared listed kept_by guard_by rested unlocks opened_by started pushed topped recorded left last lowered execute_of has_general optimises has_output general_number output_number type_at simple_tlvs result_complaint indicator_complaint execute_complaint allowed_by allowed indicated expanded command_body enveloped command fills first_of result_in reply text_type optimised output write_slot then_output results unless storing branch_by_step branch perform number_before setting_complaint then_set set_all set_variable list_at get_length case_value secured_in case_complaint cases_complaint follow follow_in is_undefined case_choice choose chosen branch_on_slot branch_on_value exit execute byte_code plan_by plan_for here decide with_results answer_by answer_for marked placed entered sending leaving wanting back_to go_back moved failed applied stepped answered within value_fine slot_fine slots_fine record_fine repeats records_fine entry_by entries_fine history_fine guard_fine is_open is_accepted complaint_free sends_by sends hand_fine wanted_fine run_fine areas_fine is_card answer_number numbers_of over buffer_after reference_after tag_of ready waiting admitted lends load_by load_refused step_done step_refused goes_on steps run_done run_refused respond_done respond_refused respond_by told_refused environment_done shown_by seen padded hidden display read_done act answers after_all refused_buffer act_in lent case1 case2 case3 case4a case4b case4c case5a case5b case6 case7a case7b case7c case7d case7e case8a case8b case9 case10 case11 case12 table equal cut_after one_more two_more measured field_then fields past_attributes inside page_fields holding carries presents blank_bytes blank_type blank only records_of unguarded creates reads reads_temporary page_in some loads_accepted before first_page
opened = 0
