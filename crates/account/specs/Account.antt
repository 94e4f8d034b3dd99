-- The account, and what demand 3 claims of it: "one claim on the whole list, not one for each event".
-- The account is fed what is past: for each event whether it finished, what it was, the answers that it was offered, where the definition's run of the same
-- events stood before and after it, and which call took which answer. A `Past` has no mark, last move, line or sum.
use Rattle.std.specs.Prelude.{ℕ, suc, ◌+◌, ◌*◌, ◌≤◌, ◌<◌, ◌≡◌, Bool, true, false, ◌&&◌, ◌||◌, not, List, [], ◌∷◌, ◌++◌, map, eqb, leb, length, get_or, set, replicate, ℤ, pos, ◌+ℤ◌, Float, None, Option, Some}
use Rattle.std.specs.Float.{binary64}
use Rattle.std.specs.Float.Ieee.{neg, sub, mul, div, lt, of_int}
use Rattle.base.specs.Choice.{pick}
use Rattle.float.specs.Leaf.{f0, range_of, nudge}
use Rattle.protocol.specs.Protocol.{kind_of, channel_of}
use Rattle.protocol.specs.declared.Event.TheVariants as event
use Rattle.lookup.specs.Lookup.{same_dest}
use Rattle.lookup.specs.View.{View}
use Rattle.lookup.specs.declared.Destination.{Destination}
use Rattle.drivers.specs.Answers.{is_done}
use Rattle.drivers.specs.Talk.{Reply, no_reply, start, plain_call, write_call, level_of, read_of}
use Rattle.drivers.specs.Paired.{Asked, paired}
use Rattle.drivers.specs.declared.Call.{Call}
use Rattle.drivers.specs.declared.Answer.{Answer}
use Rattle.drivers.specs.declared.Answer.TheVariants as answer
use Rattle.session.specs.Session.{Turn, is_marked, mark_at, no_marks, unmark_bank, last_move, moved_to, move_of, add_to, first_turn, same_strips}
use Rattle.session.specs.declared.Marks.{Marks}
use Rattle.session.specs.declared.Moves.{Moves}
use Rattle.session.specs.declared.Move.{Move}
use Rattle.session.specs.declared.Strip.{Strip}
use Rattle.event.specs.declared.Input.{Input}
use Rattle.event.specs.declared.Input.TheVariants as input
use Rattle.event.specs.declared.Timed.{Timed}
use Rattle.definition.specs.Rig.{Rig, rig_of, destination, encoder_dest}
use Rattle.definition.specs.Levels.{normal}
use Rattle.definition.specs.Faders.{is_zero}
use Rattle.definition.specs.Banks.{next_bank}
use Rattle.definition.specs.Buttons.{or_first}
use Rattle.definition.specs.Step.{Site, Kept, fresh_kept, Ended, done, refused, waiting, Stepped, stepped, step}
use Rattle.protocol.specs.ButtonKinds as kinds
use Rattle.drivers.specs.CallKinds.{open_kind, read_kind, write_kind, load_kind}

-- ── calls and their answers ──

-- An event's calls with what each was answered are `paired`: "A call takes the next answer" of those that the event was offered
abbrev pub saying : Call → Reply → Asked
saying c r = record { call = c; reply = r }

abbrev pub answer_in : Asked → Answer
answer_in x = x.reply.answer

-- the drivers that are open after a call was answered: an open answered done opens its driver
abbrev pub opened_by : Bool → ℕ → List Bool → List Bool
opened_by true driver o = set o driver true
opened_by false driver o = o

abbrev pub opened : Asked → List Bool → List Bool
opened x o = opened_by (eqb x.call.kind open_kind && is_done (answer_in x)) x.call.driver o

unfoldable pub opens : List Asked → List Bool → List Bool
opens [] o = o
opens (x ∷ l) o = opens l (opened x o)

-- a scene was loaded: a load was answered done
abbrev pub is_load : Asked → Bool
is_load x = eqb x.call.kind load_kind && is_done (answer_in x)

unfoldable pub loads : List Asked → Bool
loads [] = false
loads (x ∷ l) = is_load x || loads l

-- ── what is past ──

pub record Past : Type 0 where
  pub what : Input
  pub before : Site
  pub after : Site
  pub answers : List ℕ
  pub asked : List Asked

-- "An event not finished (refused, or short of an answer): no step."
abbrev pub past_at : Ended → Input → Site → Site → List ℕ → Option Past
past_at (done messages calls used saved) e w z answers =
    Some (record { what = e; before = w; after = z; answers = answers; asked = paired calls answers })
past_at (refused n) e w z answers = None
past_at (waiting c) e w z answers = None

abbrev pub past_of : Option Timed → Site → Site → List ℕ → Ended → Option Past
past_of (Some e) w z answers x = past_at x e.what w z answers
past_of None w z answers x = None

-- an event, as it was read, and the answers that are there when it is offered. One that cannot be read, number 10, is offered in vain
pub record Offer : Type 0 where
  pub event : Option Timed
  pub answers : List ℕ

-- The claim is stated of any step, so that a wrong one can be shown to break it; demand 3 is the claim of the definition's
abbrev pub Stepper : Type 0
Stepper = View → Kept → Timed → List ℕ → Stepped

abbrev pub step_of : Stepper → View → Kept → Option Timed → List ℕ → Stepped
step_of f v k (Some e) answers = f v k e answers
step_of f v k None answers = stepped (refused 10) k

-- How each event ended, and its calls, are those of the step that is judged, which runs on k. The current bank and the live lists are the definition's, which
-- runs on d: a step that stays in the wrong bank is not believed
unfoldable pub pasts : Stepper → View → Kept → Kept → List Offer → List (Option Past)
pasts f v k d [] = []
pasts f v k d (o ∷ os) =
    past_of o.event d.site (step_of step v d o.event o.answers).kept.site o.answers (step_of f v k o.event o.answers).ended
    ∷ pasts f v (step_of f v k o.event o.answers).kept (step_of step v d o.event o.answers).kept os

unfoldable pub final : Stepper → View → Kept → List Offer → Kept
final f v k [] = k
final f v k (o ∷ os) = final f v (step_of f v k o.event o.answers).kept os

-- ── the account's books ──

-- a move that waits; it is known by its event's place in the list
pub record Waits : Type 0 where
  pub id : ℕ
  pub channel : ℕ
  pub level : Float

-- a move that is tried, and where
pub record Tried : Type 0 where
  pub id : ℕ
  pub dest : Destination
  pub level : Float

-- a drain: the drivers that are open before it, the sums that it hands over, the moves that it tries
pub record Drain : Type 0 where
  pub opened : List Bool
  pub sums : List Turn
  pub tried : List Tried

-- marks and last moves by bank * 16 + channel, drivers by number
pub record Account : Type 0 where
  pub marks : Marks
  pub last : Moves
  pub line : List Waits
  pub sums : List Turn
  pub opened : List Bool
  pub held : List ℕ
  pub replaced : List ℕ
  pub dropped : List ℕ
  pub drains : List Drain

-- "It starts without marks, last moves or line, all sums 0."
abbrev pub blank : Account
blank =
    record {
      marks = record { on = replicate 256 false };
      last = record { known = replicate 256 false; level = replicate 256 f0 };
      line = [];
      sums = [];
      opened = replicate 16 false;
      held = [];
      replaced = [];
      dropped = [];
      drains = [];
    }

-- The device's level, if it can be read: the definition's use of the driver, made on the answers that the event was offered. What the event's calls show does
-- not count: a bridge that does not ask where the rule asks would be believed
unfoldable pub reading : Destination → List ℕ → List Bool → Option Float
reading d answers o = (read_of d.driver d.target (start answers o)).value

abbrev pub rig_in : View → Site → Rig
rig_in v w = rig_of v w.lives w.bank

-- ── the rule by which a move is held ──

-- Written out from document 01, not taken from the definition: proofs/HeldRule shows that the two agree

abbrev pub whole_number : ℕ → Float
whole_number n = of_int binary64 (pos n)

-- 0.02, the f64 nearest to 2 / 100
abbrev pub two_hundredths : Float
two_hundredths = div binary64 (whole_number 2) (whole_number 100)

-- held in 0 to 1; a NaN stays one
abbrev pub on_travel : Float → Float
on_travel x = pick (lt x (whole_number 0)) (whole_number 0) (pick (lt (whole_number 1) x) (whole_number 1) x)

-- c, the device's level as a fader's value: 0 at low and 1 at high
abbrev pub as_value : Float → Float → Float → Float
as_value low high level = on_travel (div binary64 (sub binary64 level low) (sub binary64 high low))

-- "|value - c| > 0.02": value - c is above 0.02 or below -0.02
abbrev pub away_from : Float → Float → Bool
away_from c value = lt two_hundredths (sub binary64 value c) || lt (sub binary64 value c) (neg two_hundredths)

-- "the last move p there, if any, does not give (p - c)(value - c) < 0"
abbrev pub crosses : Option Float → Float → Float → Bool
crosses (Some p) c value = lt (mul binary64 (sub binary64 p c) (sub binary64 value c)) (whole_number 0)
crosses None c value = false

abbrev pub held_against : Option Float → Float → Float → Bool
held_against last c value = away_from c value && not (crosses last c value)

-- by the last move there, the device's level, its destination's range, and the move's value. Without a level nothing is held
abbrev pub held_by_rule : Option Float → Option Float → Float → Float → Float → Bool
held_by_rule last (Some level) low high value = held_against last (as_value low high level) value
held_by_rule last None low high value = false

-- ── a move ──

-- "takes its channel's place in the line, the end if it has none, and replaces the move there"
unfoldable pub lined : Waits → List Waits → List Waits
lined m [] = m ∷ []
lined m (x ∷ l) = pick (eqb x.channel m.channel) (m ∷ l) (x ∷ lined m l)

unfoldable pub replaced_by : Waits → List Waits → List ℕ
replaced_by m [] = []
replaced_by m (x ∷ l) = pick (eqb x.channel m.channel) (x.id ∷ []) (replaced_by m l)

abbrev pub book_held : ℕ → Waits → Account → Account
book_held key m a =
    record {
      marks = a.marks;
      last = moved_to key m.level a.last;
      line = a.line;
      sums = a.sums;
      opened = a.opened;
      held = m.id ∷ a.held;
      replaced = a.replaced;
      dropped = a.dropped;
      drains = a.drains;
    }

-- "An unheld move sets the mark and waits"
abbrev pub book_taken : ℕ → Waits → Account → Account
book_taken key m a =
    record {
      marks = mark_at key a.marks;
      last = moved_to key m.level a.last;
      line = lined m a.line;
      sums = a.sums;
      opened = a.opened;
      held = a.held;
      replaced = replaced_by m a.line ++ a.replaced;
      dropped = a.dropped;
      drains = a.drains;
    }

abbrev pub book_if : Bool → ℕ → Waits → Account → Account
book_if true key m a = book_held key m a
book_if false key m a = book_taken key m a

-- "held exactly if takeover is on, no mark stands for (bank, channel), the device reads c, |value - c| > 0.02, and the last move p there, if any, does not
-- give (p - c)(value - c) < 0"
abbrev pub holds : Destination → ℕ → Waits → List ℕ → Account → Bool
holds d key m answers a =
    (d.takeover && not (is_marked key a.marks))
    && held_by_rule (last_move key a.last) (reading d answers a.opened) d.low d.high m.level

-- a move without a destination changes nothing
abbrev pub book_move : Option Destination → ℕ → Waits → List ℕ → Account → Account
book_move (Some d) key m answers a = book_if (holds d key m answers a) key m a
book_move None key m answers a = a

-- ── a turn ──

-- "A turn adds to its destination's sum, if it has one." The same destination is Rust's ==, and the first one turned stays
unfoldable pub summed : Destination → ℤ → List Turn → List Turn
summed d n [] = first_turn d n ∷ []
summed d n (x ∷ l) = pick (same_dest x.dest d) (add_to n x ∷ l) (x ∷ summed d n l)

abbrev pub book_turn : Option Destination → ℤ → Account → Account
book_turn (Some d) n a =
    record {
      marks = a.marks;
      last = a.last;
      line = a.line;
      sums = summed d n a.sums;
      opened = a.opened;
      held = a.held;
      replaced = a.replaced;
      dropped = a.dropped;
      drains = a.drains;
    }
book_turn None n a = a

-- ── a drain ──

-- "in line order a move whose channel now has no destination is dropped, any other tried there"
abbrev pub try_at : Option Destination → Waits → List Tried → List Tried
try_at (Some d) m l = record { id = m.id; dest = d; level = m.level } ∷ l
try_at None m l = l

abbrev pub drop_at : Option Destination → Waits → List ℕ → List ℕ
drop_at (Some d) m l = l
drop_at None m l = m.id ∷ l

unfoldable pub tried_of : Rig → List Waits → List Tried
tried_of r [] = []
tried_of r (m ∷ ms) = try_at (destination r (m.channel + 1)) m (tried_of r ms)

unfoldable pub dropped_of : Rig → List Waits → List ℕ
dropped_of r [] = []
dropped_of r (m ∷ ms) = drop_at (destination r (m.channel + 1)) m (dropped_of r ms)

abbrev pub drain_of : Rig → Account → Drain
drain_of r a = record { opened = a.opened; sums = a.sums; tried = tried_of r a.line }

-- "A drain hands over each sum, leaving 0 ..; the line is empty."
abbrev pub book_drain : Rig → Account → Account
book_drain r a =
    record {
      marks = a.marks;
      last = a.last;
      line = [];
      sums = [];
      opened = a.opened;
      held = a.held;
      replaced = a.replaced;
      dropped = dropped_of r a.line ++ a.dropped;
      drains = a.drains ++ (drain_of r a ∷ []);
    }

-- ── marks that are cleared ──

-- "Previous moves stay."
abbrev pub remark : Marks → Account → Account
remark l a =
    record {
      marks = l;
      last = a.last;
      line = a.line;
      sums = a.sums;
      opened = a.opened;
      held = a.held;
      replaced = a.replaced;
      dropped = a.dropped;
      drains = a.drains;
    }

-- a step to the side selects the next bank; "The ends hold", and a bank that the profile does not have is not selected
abbrev pub steps : Bool → ℕ → ℕ → Bool
steps right banks bank = not (eqb (next_bank right banks bank) bank) && not (leb banks (next_bank right banks bank))

-- the press selects a bank: kinds 5 and 9 step right, 4 and 8 left, and 3 jumps where the bank's `select` says so
unfoldable pub selects : View → Site → ℕ → ℕ → Bool
selects v w kind ch =
    pick (eqb kind kinds.bank_right || eqb kind kinds.arrow_down) (steps true v.banks w.bank)
    (pick (eqb kind kinds.bank_left || eqb kind kinds.arrow_up) (steps false v.banks w.bank)
    (pick (eqb kind kinds.select) ((v.here w.bank).select && not (leb v.banks ch)) false))

-- "Bank selection and a loaded scene clear all marks"
abbrev pub book_press : Bool → Account → Account
book_press true a = remark no_marks a
book_press false a = a

abbrev pub press_moves : View → Site → Bool → ℕ → List Asked → Bool
press_moves v w true note asked = selects v w (kind_of note) (or_first (channel_of note)) || loads asked
press_moves v w false note asked = false

-- two live lists of a bank are the same; one that was never asked for is like no other
abbrev pub same_live : Option (List Strip) → Option (List Strip) → Bool
same_live None None = true
same_live None (Some l) = false
same_live (Some k) None = false
same_live (Some k) (Some l) = same_strips k l

-- the live list that a place has for a bank
abbrev pub live_at : ℕ → Site → Option (List Strip)
live_at bank w = get_or w.lives bank None

-- "a changed live list clears its bank's"
abbrev pub book_live : Bool → ℕ → Account → Account
book_live true bank a = a
book_live false bank a = remark (unmark_bank bank a.marks) a

-- ── an event ──

abbrev pub book_event : View → ℕ → Input → Site → Site → List ℕ → List Asked → Account → Account
book_event v i (input.Midi (event.Fader ch x)) w z answers asked a =
    book_move (destination (rig_in v w) (ch + 1)) (w.bank * 16 + ch) (record { id = i; channel = ch; level = x }) answers a
book_event v i (input.Midi (event.Encoder ch n)) w z answers asked a = book_turn (encoder_dest (rig_in v w) (ch + 1)) n a
book_event v i (input.Midi (event.Button b)) w z answers asked a = book_press (press_moves v w b.pressed b.note asked) a
book_event v i (input.Midi event.Other) w z answers asked a = a
-- "Marks and last moves go as above, a tick's live list after its drain."
book_event v i input.Tick w z answers asked a =
    book_live (same_live (live_at w.bank w) (live_at w.bank z)) w.bank (book_drain (rig_in v w) a)
book_event v i input.PushState w z answers asked a = a
book_event v i input.PushTransport w z answers asked a = a
book_event v i input.FlashBank w z answers asked a = a

abbrev pub reopen : List Bool → Account → Account
reopen o a =
    record {
      marks = a.marks;
      last = a.last;
      line = a.line;
      sums = a.sums;
      opened = o;
      held = a.held;
      replaced = a.replaced;
      dropped = a.dropped;
      drains = a.drains;
    }

abbrev pub book : View → ℕ → Option Past → Account → Account
book v i None a = a
book v i (Some x) a =
    reopen (opens x.asked a.opened) (book_event v i x.what x.before x.after x.answers x.asked a)

unfoldable pub account : View → ℕ → List (Option Past) → Account → Account
account v i [] a = a
account v i (x ∷ xs) a = account v (suc i) xs (book v i x a)

-- ── what is counted, from the past alone ──

-- how often a number is in a list
abbrev pub bump : Bool → ℕ → ℕ
bump true n = suc n
bump false n = n

unfoldable pub count : ℕ → List ℕ → ℕ
count i [] = 0
count i (x ∷ l) = bump (eqb i x) (count i l)

abbrev pub if_found : Option Destination → ℕ → List ℕ
if_found (Some d) i = i ∷ []
if_found None i = []

abbrev pub move_in : View → ℕ → Input → Site → List ℕ
move_in v i (input.Midi (event.Fader ch x)) w = if_found (destination (rig_in v w) (ch + 1)) i
move_in v i (input.Midi (event.Encoder ch n)) w = []
move_in v i (input.Midi (event.Button b)) w = []
move_in v i (input.Midi event.Other) w = []
move_in v i input.Tick w = []
move_in v i input.PushState w = []
move_in v i input.PushTransport w = []
move_in v i input.FlashBank w = []

abbrev pub move_at : View → ℕ → Option Past → List ℕ
move_at v i None = []
move_at v i (Some x) = move_in v i x.what x.before

-- the finished moves with a destination
unfoldable pub moves : View → ℕ → List (Option Past) → List ℕ
moves v i [] = []
moves v i (x ∷ xs) = move_at v i x ++ moves v (suc i) xs

-- the sum that a list holds for a destination: "a sum absent .. counts as 0"
abbrev pub if_same : Bool → ℤ → ℤ
if_same true n = n
if_same false n = pos 0

unfoldable pub sum_for : Destination → List Turn → ℤ
sum_for d [] = pos 0
sum_for d (x ∷ l) = if_same (same_dest x.dest d) x.sum +ℤ sum_for d l

abbrev pub turn_to : Option Destination → ℤ → List Turn
turn_to (Some d) n = first_turn d n ∷ []
turn_to None n = []

abbrev pub turn_in : View → Input → Site → List Turn
turn_in v (input.Midi (event.Fader ch x)) w = []
turn_in v (input.Midi (event.Encoder ch n)) w = turn_to (encoder_dest (rig_in v w) (ch + 1)) n
turn_in v (input.Midi (event.Button b)) w = []
turn_in v (input.Midi event.Other) w = []
turn_in v input.Tick w = []
turn_in v input.PushState w = []
turn_in v input.PushTransport w = []
turn_in v input.FlashBank w = []

abbrev pub turn_at : View → Option Past → List Turn
turn_at v None = []
turn_at v (Some x) = turn_in v x.what x.before

-- the finished turns with a destination
unfoldable pub turns : View → List (Option Past) → List Turn
turns v [] = []
turns v (x ∷ xs) = turn_at v x ++ turns v xs

unfoldable pub handed : List Drain → List Turn
handed [] = []
handed (x ∷ xs) = x.sums ++ handed xs

unfoldable pub tried : List Drain → List Tried
tried [] = []
tried (x ∷ xs) = x.tried ++ tried xs

-- what the finished ticks asked
abbrev pub tick_in : Input → List Asked → List (List Asked)
tick_in (input.Midi e) l = []
tick_in input.Tick l = l ∷ []
tick_in input.PushState l = []
tick_in input.PushTransport l = []
tick_in input.FlashBank l = []

abbrev pub tick_at : Option Past → List (List Asked)
tick_at None = []
tick_at (Some x) = tick_in x.what x.asked

unfoldable pub ticks : List (Option Past) → List (List Asked)
ticks [] = []
ticks (x ∷ xs) = tick_at x ++ ticks xs

-- What the other finished events asked, but for a press of mute or solo (kinds 2 and 1), which write levels themselves
abbrev pub other_in : Input → List Asked → List Asked
other_in (input.Midi (event.Fader ch x)) l = l
other_in (input.Midi (event.Encoder ch n)) l = l
other_in (input.Midi (event.Button b)) l = pick (b.pressed && (eqb (kind_of b.note) kinds.mute || eqb (kind_of b.note) kinds.solo)) [] l
other_in (input.Midi event.Other) l = l
other_in input.Tick l = []
other_in input.PushState l = l
other_in input.PushTransport l = l
other_in input.FlashBank l = l

abbrev pub other_at : Option Past → List Asked
other_at None = []
other_at (Some x) = other_in x.what x.asked

unfoldable pub others : List (Option Past) → List Asked
others [] = []
others (x ∷ xs) = other_at x ++ others xs

-- ── what a drain asks ──

-- "An open carries its following use's name"
abbrev pub open_of : Call → Call
open_of c = plain_call open_kind c.driver c.name 0

abbrev pub reading_of : Destination → Call
reading_of d = plain_call read_kind d.driver d.target 0

-- "the write (driver, target and level in its range, written as in Call)"
abbrev pub writing : Destination → Float → Call
writing d x = write_call d.driver d.target (range_of d.low d.high x)

-- an open that was answered done
abbrev pub done_reply : Reply
done_reply = record { answer = answer.Done; items = [] }

-- One use of a driver: "an open, if no open of its driver was answered done before, in this event or an earlier finished one, and, unless that open is
-- refused", the use itself; "a refused open stands for" it
pub data Uses : List Bool → Call → Reply → List Asked → Type 0 where
  used : {o : List Bool} {c : Call} {r : Reply} → get_or o c.driver false ≡ true → Uses o c r (saying c r ∷ [])
  opened-used : {o : List Bool} {c : Call} {r : Reply} →
      get_or o c.driver false ≡ false → Uses o c r (saying (open_of c) done_reply ∷ saying c r ∷ [])
  not-used : {o : List Bool} {c : Call} →
      get_or o c.driver false ≡ false → Uses o c no_reply (saying (open_of c) no_reply ∷ [])

-- "for each tried move": one use, the write of its level at its destination, in the line's order
pub data Tries : List Bool → List Tried → List Asked → Type 0 where
  tried-all : {o : List Bool} → Tries o [] []
  tried-one : {o : List Bool} {t : Tried} {ts : List Tried} {r : Reply} {m l : List Asked} →
      Uses o (writing t.dest t.level) r m → Tries (opens m o) ts l → Tries o (t ∷ ts) (m ++ l)

-- what a read of a destination gives
abbrev pub read_as : Destination → Reply → Option Float
read_as d r = normal d (level_of r.answer)

-- "non-zero encoder sums in first-turned order, one read and, if readable, one write of current + sum/64 held in 0 to 1"
pub data Nudges : List Bool → List Turn → List Asked → Type 0 where
  nudged-all : {o : List Bool} → Nudges o [] []
  zero_sum : {o : List Bool} {e : Turn} {es : List Turn} {l : List Asked} →
      is_zero e.sum ≡ true → Nudges o es l → Nudges o (e ∷ es) l
  not-read : {o : List Bool} {e : Turn} {es : List Turn} {r : Reply} {m l : List Asked} →
      is_zero e.sum ≡ false → Uses o (reading_of e.dest) r m → read_as e.dest r ≡ None → Nudges (opens m o) es l →
      Nudges o (e ∷ es) (m ++ l)
  nudged : {o : List Bool} {e : Turn} {es : List Turn} {r q : Reply} {c : Float} {m k l : List Asked} →
      is_zero e.sum ≡ false → Uses o (reading_of e.dest) r m → read_as e.dest r ≡ Some c →
      Uses (opens m o) (writing e.dest (nudge c e.sum)) q k → Nudges (opens k (opens m o)) es l →
      Nudges o (e ∷ es) (m ++ (k ++ l))

abbrev pub not_write : ℕ → Bool
not_write kind = not (eqb kind write_kind)

-- each call's kind passes
pub data Only (K : ℕ → Bool) : List Asked → Type 0 where
  no_call : Only K []
  one-call : {x : Asked} {l : List Asked} → K x.call.kind ≡ true → Only K l → Only K (x ∷ l)

-- "The drain's calls come first in its event: the encoders', then" the moves'; and nothing is written after them
pub record Drained (asked : List Asked) (d : Drain) : Type 0 where
  pub encoders : List Asked
  pub faders : List Asked
  pub later : List Asked
  pub all : asked ≡ encoders ++ (faders ++ later)
  pub first : Nudges d.opened d.sums encoders
  pub then : Tries (opens encoders d.opened) d.tried faders
  pub last : Only not_write later

pub data Each {A B : Type 0} (R : A → B → Type 0) : List A → List B → Type 0 where
  no_more : Each R [] []
  one_more : {x : A} {y : B} {xs : List A} {ys : List B} → R x y → Each R xs ys → Each R (x ∷ xs) (y ∷ ys)

-- ── demand 3 ──

abbrev pub ids : List Waits → List ℕ
ids l = map (λ m. m.id) l

abbrev pub tried_ids : List Drain → List ℕ
tried_ids l = map (λ t. t.id) (tried l)

abbrev pub in_session : Waits → Move
in_session m = move_of m.channel m.level

-- ps is what is past, k the session at the end, a the account
pub record Holds (v : View) (ps : List (Option Past)) (k : Kept) (a : Account) : Type 0 where
  -- "Waiting is what its line and sums hold": the session's line is the account's, and for each destination its sum
  pub line : k.desk.line ≡ map in_session a.line
  pub sums : (d : Destination) → sum_for d k.desk.turns ≡ sum_for d a.sums
  -- each finished move with a destination is exactly one of held, waiting, replaced, dropped and tried, and nothing else is any of them
  pub fate :
      (i : ℕ) →
      count i a.held + count i (ids a.line) + count i a.replaced + count i a.dropped + count i (tried_ids a.drains) ≡
      count i (moves v 0 ps)
  pub once : (i : ℕ) → count i (moves v 0 ps) ≤ 1
  -- the account's drains are the finished ticks, one for one, and what each drain asked is what the account says
  pub drains : Each Drained (ticks ps) a.drains
  -- no other finished event writes, but a press of mute or solo: a move or a turn waits for a drain
  pub quiet : Only not_write (others ps)
  -- for each destination, its turns are what was handed over and what waits
  pub turned : (d : Destination) → sum_for d (turns v ps) ≡ sum_for d (handed a.drains) +ℤ sum_for d a.sums

abbrev pub fresh : Kept
fresh = fresh_kept

-- for every list of offers, whatever comes of each; banks are 0 to 15
abbrev pub ClaimFrom : Kept → Stepper → Type 0
ClaimFrom k f =
    (v : View) (few : v.banks ≤ 16) (os : List Offer) →
    Holds v (pasts f v k k os) (final f v k os) (account v 0 (pasts f v k k os) blank)

abbrev pub Claim : Stepper → Type 0
Claim f = ClaimFrom fresh f

abbrev pub Demand3 : Type 0
Demand3 = Claim step

-- A session without marks, last moves, line, sums and open drivers, in whatever bank it stands and whatever its lamps know of scenes
pub record Begins (k : Kept) : Type 0 where
  pub desk : k.desk ≡ fresh.desk
  pub opened : k.opened ≡ fresh.opened
  pub bank : k.site.bank < 16
  pub lives : length k.site.lives ≡ 16
