-- The definition of an event, computed on the recorded cases, ends each of them as the Rust did.
use lib.Dec.{T}
use Rattle.base.specs.Same.{same_list}
use lib.Ieee.{add, sub, mul, div, lt, le, eq, of_int, of_bits, to_bits, to_unsigned}
use Rattle.base.specs.First.{first, until}
use Rattle.base.specs.Keyed.{at, find, any_of, change, keep, beside}
use Rattle.base.specs.Range.{all, any, count, every}
use Rattle.base.specs.Words.{le64}
use Rattle.float.specs.Leaf.{held, abs_of, clamp_of, floor_of, at_least0, due_of}
use Rattle.protocol.specs.Protocol.{base_of, named_of, kind_of, channel_of, note_of, transport_note, decode_of, bytes_of}
use Rattle.lookup.specs.Gather.{gather}
use Rattle.lookup.specs.Lookup.{reach, entry, bank_named, control_of, same_dest, scenes_of, position, transports_of, transport_of, place, merged, times, top_at, most_common}
use Rattle.drivers.specs.Answers.{items_of, scene_list, live_list, yes_no, to_read, to_playing, to_scenes, to_current, to_live, to_other, answer_of, item_count}
use Rattle.drivers.specs.Talk.{next, ask, is_open, opening, plain_call, open_for, use_call, use_done, read_of, write_call, write_of, toggle_of, command_of, playing_of, scenes_of as drivers-scenes_of, current_of, load_of, live_of, send}
use Rattle.session.specs.Session.{is_marked, mark_at, no_marks, unmark_up_to, unmark_bank, last_move, moved_to, place_move, has_place, turn, is_silenced, level_before, insert_level, has_room, remove_level, seen_strips, strip_at, strip_dest, strip_of, strips_of, same_strip, same_strips, strips_at, strips_for, was_muted, note_muted, none_noted, solo_to, loaded_by, scene_at, scene_to, scene_unknown, flashing, no_flash, none_lit, fresh_session}
use Rattle.event.specs.Event.{event_ok, input_of, read_of as event-read_of}
use Rattle.definition.specs.Banks.{select_bank, next_bank, step_bank}
use Rattle.definition.specs.Buttons.{default_button, run_command, rec_loads, press_of, button, added_by}
use Rattle.definition.specs.Faders.{hold_move, take_move, fader, encoder, turn_refusal, apply_nudge, nudges, writes, drain, drained}
use Rattle.definition.specs.Flash.{phases, phases_to, send_home, finish_flash, flash_number, flash_bank, tick_flash}
use Rattle.definition.specs.Lamps.{push_position, is_muted, push_fader, push_faders, push_state, push_bound, push_transport}
use Rattle.definition.specs.Levels.{read, write, read_mute}
use Rattle.definition.specs.Live.{refresh_live}
use Rattle.definition.specs.Muting.{hand_back, keep_level, zeroed, mute, set_mute, peer, solo_off, note_mutes, solo_on, solo, solo_adds, added_by_solo, added_by_mute}
use Rattle.definition.specs.Rig.{own_fader, destination, encoder_dest, own_drivers, bank_driver, device, first_target}
use Rattle.definition.specs.Scenes.{scene_names, scene_on_device, load_on, load_scene_at, start, step_scene, scene}
use Rattle.definition.specs.Step.{seen, tick, act, refusal, step}
use Rattle.profile.specs.Profile.{kind_count}
use Rattle.drivers.specs.Bytes.{joined}
use Rattle.recorded.specs.Recorded.{runs, agree}
use Rattle.recorded.specs.Table.{recordings}

pub computed : T (agree recordings)
unfolding agree runs same_list joined add sub mul div lt le eq of_int of_bits to_bits to_unsigned first until at find any_of change keep all any count every le64 held abs_of clamp_of floor_of at_least0 due_of base_of named_of kind_of channel_of note_of transport_note decode_of bytes_of gather reach entry bank_named control_of same_dest scenes_of position transports_of transport_of place merged times top_at most_common items_of scene_list live_list yes_no to_read to_playing to_scenes to_current to_live to_other answer_of item_count next ask is_open opening plain_call open_for use_call use_done read_of write_call write_of toggle_of command_of playing_of drivers-scenes_of current_of load_of live_of send is_marked mark_at no_marks unmark_up_to unmark_bank last_move moved_to place_move has_place turn beside is_silenced level_before insert_level has_room remove_level seen_strips strip_at strip_dest strip_of strips_of same_strip same_strips strips_at strips_for was_muted note_muted none_noted solo_to loaded_by scene_at scene_to scene_unknown flashing no_flash none_lit fresh_session event_ok input_of event-read_of select_bank next_bank step_bank default_button run_command rec_loads press_of button added_by hold_move take_move fader encoder turn_refusal apply_nudge nudges writes drain drained phases phases_to send_home finish_flash flash_number flash_bank tick_flash push_position is_muted push_fader push_faders push_state push_bound push_transport read write read_mute refresh_live hand_back keep_level zeroed mute set_mute peer solo_off note_mutes solo_on solo solo_adds added_by_solo added_by_mute own_fader destination encoder_dest own_drivers bank_driver device first_target scene_names scene_on_device load_on load_scene_at start step_scene scene seen tick act refusal step kind_count
computed = tt
