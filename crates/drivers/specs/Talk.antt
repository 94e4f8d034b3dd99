-- The line to the devices and to the surface in one event, as the definitions speak of it: no buffer and no offset. A call takes the next answer; once
-- one is missing or does not fit, the line stops, and every further call and message does nothing. Only `ask` and `send` look at the stop, so that what
-- an event does is said straight on. Definitions only.
use Rattle.std.specs.Prelude.{ℕ, ◌+◌, ◌*◌, List, [], ◌∷◌, ◌++◌, map, Bool, true, false, leb, eqb, length, get_or, set, drop, Float, None, Option, Some}
use Rattle.std.specs.Float.{binary64}
use Rattle.std.specs.Float.Ieee.{to_bits}
use Rattle.base.specs.Words.{absent}
use Rattle.base.specs.Choice.{pick}
use Rattle.protocol.specs.Protocol.{bytes_of}
use Rattle.protocol.specs.declared.Out.{Out}
use Rattle.drivers.specs.Answers.{answer_of, item_count, items_of, is_unfit, is_done, is_yes_no, is_list}
use Rattle.drivers.specs.declared.Call.{Call}
use Rattle.drivers.specs.declared.Answer.{Answer}
use Rattle.drivers.specs.declared.Answer.TheVariants as answer
use Rattle.drivers.specs.declared.LiveFader.{LiveFader}
use Rattle.drivers.specs.declared.line.Stop.{Stop}
use Rattle.drivers.specs.declared.line.Stop.TheVariants.{Going, Waits, Declined, Overrun}
use Rattle.drivers.specs.CallKinds.{open_kind, read_kind, toggle_kind, command_kind, playing_kind, scenes_kind, current_scene_kind, load_kind, live_faders_kind}

infixl 1 ◌>>=◌
-- the line goes on; it stops where an answer is missing ("waiting", with that call), where one is cut short or does not fit (14), or where a buffer is full,
-- which no event reaches
abbrev pub is_going : Stop → Bool
is_going Going = true
is_going (Waits c) = false
is_going Declined = false
is_going Overrun = false

-- The answers left and the bytes of them used, the drivers that are open, the calls made and the messages sent, in order
pub record Talk : Type 0 where
  pub left : List ℕ
  pub used : ℕ
  pub opened : List Bool
  pub calls : List Call
  pub messages : List (List ℕ)
  pub stop : Stop

-- what an act gives: a value, and the line after it
pub record Got (A : Type 0) : Type 0 where
  pub value : A
  pub talk : Talk

abbrev pub Act : Type 0 → Type 0
Act A = Talk → Got A

module _ {A : Type 0} where
  abbrev pub got : A → Talk → Got A
  got a t = record { value = a; talk = t }

-- one act, and then another with what the first gave
module _ {A B : Type 0} where
  unfoldable pub next : Got A → (A → Act B) → Got B
  next r f = f r.value r.talk

  abbrev pub ◌>>=◌ : Act A → (A → Act B) → Act B
  ◌>>=◌ m f t = next (m t) f

-- an event's line at its start
abbrev pub start : List ℕ → List Bool → Talk
start answers opened = record { left = answers; used = 0; opened = opened; calls = []; messages = []; stop = Going }

-- ── a call ──

-- the answer of a call, and the items of a list
pub record Reply : Type 0 where
  pub answer : Answer
  pub items : List LiveFader

-- a call that was not made counts as refused
abbrev pub no_reply : Reply
no_reply = record { answer = answer.Refused; items = [] }

abbrev pub halted : Stop → Talk → Talk
halted s t = record { left = t.left; used = t.used; opened = t.opened; calls = t.calls; messages = t.messages; stop = s }

-- the call is made, and its answer's n items are used with it
abbrev pub took : Call → ℕ → Talk → Talk
took c n t =
    record {
      left = drop (16 + 16 * n) t.left;
      used = t.used + (16 + 16 * n);
      opened = t.opened;
      calls = t.calls ++ (c ∷ []);
      messages = t.messages;
      stop = t.stop;
    }

abbrev pub ask_fit : Bool → Call → Answer → Act Reply
ask_fit true c a t = got no_reply (halted Declined t)
ask_fit false c a t = got (record { answer = a; items = items_of (item_count a t.left) t.left }) (took c (item_count a t.left) t)

-- "No bytes left means waiting"
abbrev pub ask_left : Bool → Call → Act Reply
ask_left true c t = got no_reply (halted (Waits c) t)
ask_left false c t = ask_fit (is_unfit (answer_of t.left c.kind)) c (answer_of t.left c.kind) t

abbrev pub ask_room : Bool → Call → Act Reply
ask_room true c t = got no_reply (halted Overrun t)
ask_room false c t = ask_left (eqb (length t.left) 0) c t

abbrev pub ask_at : Stop → Call → Act Reply
ask_at Going c t = ask_room (leb 337 (length t.calls)) c t
ask_at (Waits d) c t = got no_reply t
ask_at Declined c t = got no_reply t
ask_at Overrun c t = got no_reply t

-- "A call takes the next answer."
unfoldable pub ask : Call → Act Reply
ask c t = ask_at t.stop c t

-- ── opening ──

unfoldable pub is_open : ℕ → Talk → Bool
is_open driver t = get_or t.opened driver false

unfoldable pub opening : ℕ → Talk → Talk
opening driver t =
    record { left = t.left; used = t.used; opened = set t.opened driver true; calls = t.calls; messages = t.messages; stop = t.stop }

-- "none or absent written 0"
abbrev pub written : ℕ → ℕ
written name = pick (eqb name absent) 0 name

unfoldable pub plain_call : ℕ → ℕ → ℕ → ℕ → Call
plain_call kind driver name argument = record { kind = kind; driver = driver; name = written name; argument = argument; level = 0 }

abbrev pub opened_by : Bool → ℕ → Act Bool
opened_by true driver t = got true (opening driver t)
opened_by false driver t = got false t

abbrev pub open_if : Bool → ℕ → ℕ → Act Bool
open_if true driver name t = got true t
open_if false driver name t = next (ask (plain_call open_kind driver name 0) t) (λ r. opened_by (is_done r.answer) driver)

-- "An unopened driver is opened before each use until it succeeds"; an open carries the name of its use
unfoldable pub open_for : ℕ → ℕ → Act Bool
open_for driver name t = open_if (is_open driver t) driver name t

abbrev pub ask_if : Bool → Call → Act Reply
ask_if true c t = ask c t
ask_if false c t = got no_reply t

-- a use: its driver is opened first, and a refused open stands for the use
unfoldable pub use_call : Call → Act Reply
use_call c = open_for c.driver c.name >>= λ ok. ask_if ok c

-- ── the uses ──

abbrev pub level_of : Answer → Option Float
level_of answer.Refused = None
level_of answer.Done = None
level_of (answer.Level x) = Some x
level_of answer.Nothing = None
level_of (answer.YesNo b) = None
level_of (answer.Index i) = None
level_of answer.List = None
level_of answer.Unfit = None

abbrev pub index_of : Answer → Option ℕ
index_of answer.Refused = None
index_of answer.Done = None
index_of (answer.Level x) = None
index_of answer.Nothing = None
index_of (answer.YesNo b) = None
index_of (answer.Index i) = Some i
index_of answer.List = None
index_of answer.Unfit = None

-- the use was made and answered done
unfoldable pub use_done : Call → Act Bool
use_done c = use_call c >>= λ r. got (is_done r.answer)

unfoldable pub read_of : ℕ → ℕ → Act (Option Float)
read_of driver name = use_call (plain_call read_kind driver name 0) >>= λ r. got (level_of r.answer)

unfoldable pub write_call : ℕ → ℕ → Float → Call
write_call driver name value = record { kind = 2; driver = driver; name = written name; argument = 0; level = to_bits binary64 value }

unfoldable pub write_of : ℕ → ℕ → Float → Act Bool
write_of driver name value = use_done (write_call driver name value)

unfoldable pub toggle_of : ℕ → ℕ → Act Bool
toggle_of driver name = use_done (plain_call toggle_kind driver name 0)

unfoldable pub command_of : ℕ → ℕ → ℕ → Act Bool
command_of driver name command = use_done (plain_call command_kind driver name command)

-- "the lamp is lit if `playing` answered yes or no"
unfoldable pub playing_of : ℕ → ℕ → Act Bool
playing_of driver name = use_call (plain_call playing_kind driver name 0) >>= λ r. got (is_yes_no r.answer)

-- a list, and whether there was one
pub record Listed (A : Type 0) : Type 0 where
  pub ok : Bool
  pub list : List A

abbrev pub name_of : LiveFader → ℕ
name_of f = f.target

unfoldable pub scenes_of : ℕ → Act (Listed ℕ)
scenes_of driver = use_call (plain_call scenes_kind driver 0 0) >>= λ r. got (record { ok = is_list r.answer; list = map name_of r.items })

unfoldable pub current_of : ℕ → Act (Option ℕ)
current_of driver = use_call (plain_call current_scene_kind driver 0 0) >>= λ r. got (index_of r.answer)

unfoldable pub load_of : ℕ → ℕ → Act Bool
load_of driver place = use_done (plain_call load_kind driver 0 place)

unfoldable pub live_of : ℕ → ℕ → Act (Listed LiveFader)
live_of driver which = use_call (plain_call live_faders_kind driver 0 which) >>= λ r. got (record { ok = is_list r.answer; list = r.items })

-- ── a message ──

abbrev pub send_room : Bool → List ℕ → Talk → Talk
send_room true m t = halted Overrun t
send_room false m t =
    record { left = t.left; used = t.used; opened = t.opened; calls = t.calls; messages = t.messages ++ (m ∷ []); stop = t.stop }

abbrev pub send_at : Stop → List ℕ → Talk → Talk
send_at Going m t = send_room (leb 102 (length t.messages)) m t
send_at (Waits c) m t = t
send_at Declined m t = t
send_at Overrun m t = t

-- "Messages are written behind the same event's messages already there."
unfoldable pub send : Out → Talk → Talk
send out t = send_at t.stop (bytes_of out) t
