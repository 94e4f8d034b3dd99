-- The starred cases, computed.
use lib.Dec.{T}
use lib.Ieee.{add, sub, mul, div, lt, le, eq, of_int, of_bits}
use Rattle.base.specs.Keyed.{change, beside}
use Rattle.base.specs.Same.{same_list}
use Rattle.base.specs.Words.{le64}
use Rattle.float.specs.Leaf.{held, abs_of, clamp_of}
use Rattle.protocol.specs.Protocol.{decode_of, bytes_of}
use Rattle.drivers.specs.Answers.{to_read, to_other, answer_of, item_count, items_of}
use Rattle.drivers.specs.Talk.{next, ask, is_open, opening, plain_call, open_for, use_call, read_of, send}
use Rattle.session.specs.Session.{is_marked, mark_at, last_move, moved_to, place_move, seen_strips, flashing, no_flash, fresh_session}
use Rattle.definition.specs.Rig.{own_fader, destination}
use Rattle.definition.specs.Levels.{read}
use Rattle.definition.specs.Flash.{finish_flash, flash_number}
use Rattle.definition.specs.Faders.{hold_move, take_move, fader}
use Rattle.definition.specs.Step.{seen, act, refusal, step}
use Rattle.account.specs.Starred.{starred, same_lists, waits, all_pass}

pub starred-pass : T (all_pass starred)
unfolding all_pass same_list same_lists waits add sub mul div lt le eq of_int of_bits change le64 held abs_of clamp_of decode_of bytes_of to_read to_other answer_of item_count items_of next ask is_open opening plain_call open_for use_call read_of send is_marked mark_at last_move moved_to place_move seen_strips flashing no_flash fresh_session own_fader destination read finish_flash flash_number hold_move take_move fader seen act refusal step beside
starred-pass = tt
