-- One name that opens every definition, for tables that are computed: `unfolding everything`.
use Prim.Native.Nat.{ℕ}
use mathlib.Core.List.{zip_with}
use Rattle.model.specs.Below.{within, sum_below, sum_over, all_below, join_below, list_below, first_below}
use Rattle.model.specs.Word.{◌⊕◌, xors, ones_over, bit_at, places_differing, part}
use Rattle.model.specs.Sizes.{slots_in, width_in, page_words, page_base, slot_base, total, ring_of, disk_at, tail_word, ring_word, log_words, used_entry, unused_entry, entry_in_bounds, counts_in_bounds, sizes_in_bounds}
use Rattle.model.specs.Anchor.{epoch_on, sizes_on, start_word, start_on, backup_at}
use Rattle.model.specs.Record.{header, encode, encode_all, record_size, words_of, in_backup}
use Rattle.model.specs.Decode.{read_log, span, misplaced, decode_words, decode_at}
use Rattle.model.specs.Scan.{scan_at_most, scan, and_then, ring_then_buffer, placed, fate_in, fault_in, updates_in, update_words, oldest}
use Rattle.model.specs.World.{cost, act, perform, stores, covered, run, made, finishes, each}
use Rattle.model.specs.Memory.{owner_at, buffer_at, copy_at, work_words, owner_of, buffer_of, copy_of, lengths_right}
use Rattle.model.specs.State.{with_replay, bases_of, new_core, open_core, with_log, start_of, kept_of, tail_of, fill_of, end_of, with_fill, after_flush, number_at, disk_at_place, first_at, reserved_at, place_of, in_table, is_open, with_place, has_update, served_by, reserved_for, reserved_on, with_reserved, without, base_of, slot_place, bases_right, disk_sound, place_sound, serving_sound, checkpoint_sound, replay_sound, sound}
use Rattle.model.specs.Classes.{in_set, low_at, high_at, set_at, line_count, not_a_table, line_wrong, wrong_line, times_covered, uncovered_class, twice_covered, classes_of, line_for, set_for}
use Rattle.model.specs.Room.{has_room, started_blocks, load_of, idlest_below, eligible, idlest}
use Rattle.model.specs.Refusal.{verdict}
use Rattle.model.specs.Causes.{stage_forbids, anchor_wrong, unformatted, sizes_wrong, lengths_wrong, tail_in, tail_wrong, wrong_tail, retained_from, fault_from, slot_missing, source_missing, not_open, reader_not_open, value_wrong, locked, table_full, spent}
use Rattle.model.specs.Reads.{counts_fit, slot_fits, place_fits, home_fits, scope_fits, sizes_fit, abort_fits, fits_on, update_fits}
use Rattle.model.specs.Append.{flush, buffered, append}
use Rattle.model.specs.Format.{format_rows, format_stores, fresh_memory, format_task}
use Rattle.model.specs.Transaction.{disk_of, begin_rows, begun, begin_task, slot_words, update_record, updated, update_rows, update_task, read_rows, read_words, commit_rows, commit_task}
use Rattle.model.specs.Abort.{abort_scan, updates_left, abort_fault, abort_rows, xor_in, compensate, undo_all, ones_undone, abort_task}
use Rattle.model.specs.Checkpoint.{eight_below, per_disk, checkpoint_begin_rows, checkpoint_begin_task, to_copy, lowest_to_copy, checkpoint_step_rows, copy_page, checkpoint_step_task, least_first, new_start, checkpoint_end_rows, checkpoint_end_task}
use Rattle.model.specs.Restart.{image_rows, restart_begin_rows, restart_begin_task, position_of, remaining, read_disk, fate_from, next_record, step_fault, restart_step_rows, backup_step, moved_to, restart_step_task, restart_run_task, restart_end_rows, restart_end_task}
use Rattle.model.specs.SetClasses.{work_wrong, set_classes_rows, set_classes_task}
use Rattle.model.specs.Text.{last_digits, padded}
use Rattle.model.specs.Listing.{in_columns, heading, kind_name, line_of, listed_in, listed_on, on_pages, listing, lent_wrong, list_rows, line_after, lines_from, lines_after}
use Rattle.model.specs.Call.{look_task, result_of}
use Rattle.model.specs.Image.{words_from, image_from, image_of, xor_at, replayed, log_of, replayed_below, restarted}
use Rattle.model.specs.Reference.{blank, slot_index, has_set, writes_of, added, removed, applied, hear, words_in, laid_over, plain_table, writes_slot, written_by_other}
use Rattle.model.specs.Machine.{result, outcome, follow, allowed_all, formatted, after_steps}
use Rattle.model.specs.History.{nothing_told, records_on, update_put, updates_put, compensation, ones_put, history}

unfoldable pub everything : ℕ
unfolding zip_with within sum_below sum_over all_below join_below list_below first_below ◌⊕◌ xors ones_over bit_at places_differing part slots_in width_in page_words page_base slot_base total ring_of disk_at tail_word ring_word log_words used_entry unused_entry entry_in_bounds counts_in_bounds sizes_in_bounds epoch_on sizes_on start_word start_on backup_at header encode encode_all record_size words_of in_backup read_log span misplaced decode_words decode_at scan_at_most scan and_then ring_then_buffer placed fate_in fault_in updates_in update_words oldest cost act perform stores covered run made finishes each owner_at buffer_at copy_at work_words owner_of buffer_of copy_of lengths_right bases_of new_core open_core with_log start_of tail_of fill_of end_of with_fill after_flush number_at disk_at_place first_at reserved_at place_of in_table is_open with_place has_update served_by reserved_for reserved_on with_reserved without base_of slot_place bases_right disk_sound place_sound serving_sound checkpoint_sound replay_sound sound has_room started_blocks load_of idlest_below in_set low_at high_at set_at line_count not_a_table line_wrong wrong_line times_covered uncovered_class twice_covered classes_of line_for set_for work_wrong set_classes_rows set_classes_task eligible idlest verdict stage_forbids anchor_wrong unformatted sizes_wrong lengths_wrong tail_in tail_wrong wrong_tail retained_from fault_from slot_missing source_missing not_open reader_not_open value_wrong locked table_full spent counts_fit slot_fits place_fits home_fits scope_fits sizes_fit abort_fits fits_on update_fits flush buffered append format_rows format_stores fresh_memory format_task disk_of begin_rows begun begin_task slot_words update_record updated update_rows update_task read_rows read_words commit_rows commit_task abort_scan updates_left abort_fault abort_rows xor_in compensate undo_all ones_undone abort_task eight_below per_disk checkpoint_begin_rows checkpoint_begin_task to_copy lowest_to_copy checkpoint_step_rows copy_page checkpoint_step_task least_first new_start checkpoint_end_rows checkpoint_end_task image_rows restart_begin_rows restart_begin_task position_of remaining with_replay read_disk fate_from next_record step_fault restart_step_rows backup_step moved_to restart_step_task restart_run_task restart_end_rows restart_end_task result_of words_from image_from image_of xor_at replayed log_of replayed_below restarted blank slot_index has_set writes_of added removed applied hear words_in laid_over plain_table writes_slot written_by_other result outcome follow allowed_all formatted after_steps compensation history records_on kept_of look_task nothing_told update_put updates_put ones_put last_digits padded in_columns heading kind_name line_of listed_in listed_on on_pages listing lent_wrong list_rows line_after lines_from lines_after
everything = 0
