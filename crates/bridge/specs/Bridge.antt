-- What one event of the bridge promises: its outcome, the session after it, and each byte of both lent buffers. Definitions only.
use Rattle.std.specs.Prelude.{ℕ, ◌+◌, ◌*◌, ◌≤◌, ◌≡◌, Bool, true, false, ◌&&◌, ◌||◌, not, List, map, eqb, ltb, ℤ, get_or, Float, None}
use Rattle.definition.specs.Whole.{message_room, call_room}
use Rattle.base.specs.Choice.{pick}
use Rattle.protocol.specs.declared.Event.TheVariants as event
use Rattle.profile.specs.Profile.{verdict}
use Rattle.lookup.specs.View.{view_of}
use Rattle.drivers.specs.Talk.{Talk, Got, start}
use Rattle.session.specs.Session.{SilencedLevel, Turn, seen_strips}
use Rattle.session.specs.declared.Session.{Session}
use Rattle.session.specs.declared.Live.{Live}
use Rattle.session.specs.declared.Move.{Move}
use Rattle.event.specs.declared.Input.TheVariants as input
use Rattle.event.specs.declared.Timed.{Timed}
use Rattle.definition.specs.Rig.{Rig}
use Rattle.definition.specs.Faders.{Desk, fader, nudges, writes}
use Rattle.definition.specs.Live.{is_due}
use Rattle.definition.specs.Shape.{well_shaped}
use Rattle.definition.specs.Step.{Left, Stepped, seen, rig_now, act, step}
use Rattle.bounds.specs.Room.{FewOf}
use Rattle.rig.specs.declared.current.Current.{Current}
use Rattle.after.specs.After.{KnownIf, left_of}
use Rattle.bridge.specs.Which.{is_tick, press_in, bank_by}
use Rattle.after.specs.declared.Setting.{Setting}
use Rattle.delivery.specs.Delivery.{Told, Done, Refused, Waiting, told, outcome_of, is_done, messages_after, calls_after, end_of}
use Rattle.session.specs.declared.Lamps.{Lamps}
use Rattle.bridge.specs.declared.Stepped as declared
use Rattle.bridge.specs.declared.Ran.{Ran}
use Rattle.bridge.specs.declared.Talked as talked
use Rattle.bridge.specs.declared.Asked as asked
use Rattle.hands.specs.Verdicts.{left_by}

-- ── the promise ──

-- at most 102 messages and 337 calls, by an outcome's counts; `FewOf` says it of the event's own lists
abbrev pub Few : Told → Type 0
Few (Done ms cs used saved) = (ms ≤ 102) × (cs ≤ 337)
Few (Refused why) = Unit {0}
Few (Waiting c) = Unit {0}

-- how many answers, records of 16 bytes, an outcome says were used
abbrev pub used_in : Told → ℕ
used_in (Done ms cs used saved) = used
used_in (Refused why) = 0
used_in (Waiting c) = 0

-- d is the definition's event, s the session and ms, cs the lent buffers before it; s₁, ms₁ and cs₁ are they after it.
-- After a numbered refusal or a wait for an answer, buffers and session are untouched
pub record Leaves (d : Stepped) (p : List ℕ) (s : Session) (ms cs : List ℕ) (s₁ : Session) (ms₁ cs₁ : List ℕ) : Type 0 where
  pub session : seen p s₁ ≡ d.kept
  pub still : is_done d.ended ≡ false → s₁ ≡ s
  pub shaped : is_done d.ended ≡ true → well_shaped p s₁ ≡ true
  pub messages : ms₁ ≡ messages_after d.ended ms
  pub calls : cs₁ ≡ calls_after d.ended cs
  pub few : FewOf d.ended

-- and r is what is returned
pub record Delivers (d : Stepped) (p : List ℕ) (s : Session) (ms cs : List ℕ) (r : declared.Stepped) (ms₁ cs₁ : List ℕ) : Type 0 where
  pub outcome : told r.outcome ≡ outcome_of d.ended
  pub same : r.changed ≡ false → r.session ≡ s
  pub leaves : Leaves d p s ms cs r.session ms₁ cs₁

-- where the session is lent: what is returned, with the session after the event
abbrev pub ran : Ran → Session → declared.Stepped
ran r s = record { outcome = r.outcome; session = s; changed = r.changed }

-- ── steps on the way ──

-- the lowest number from 1 to 9 that declines the event, or 0; number 7 is of the saved records alone
abbrev pub declined_of : List ℕ → Session → ℕ → ℕ → ℕ
declined_of p s messages calls =
    pick (eqb (verdict p) 0) (pick (well_shaped p s) (pick (ltb messages message_room || ltb calls call_room) 9 0) 8) (verdict p)

-- the bank b of a profile, with its live faders
pub record IsCurrent (p : List ℕ) (l : Live) (b : ℕ) (c : Current) : Type 0 where
  pub profile : c.profile.now ≡ p
  pub bank : c.bank ≡ b
  pub strips : seen_strips c.strips.now ≡ get_or (map seen_strips l.banks) b None

-- a tick with nothing to do
abbrev pub is_idle : Session → Float → Bool
is_idle s now =
    eqb s.line.count 0 && (eqb s.turns.count 0 && (not (is_due s.livedue s.liveat now) && not s.lamps.flash.on))

-- a tick's drain, and nothing for another event
abbrev pub drain_if : Bool → Rig → List Move → List Turn → Talk → Talk
drain_if true r line turns t = writes r line (nudges turns t)
drain_if false r line turns t = t

-- an event of a hand, at a time
abbrev pub moved_at : Float → ℕ → Float → Timed
moved_at now ch value = record { time = now; what = input.Midi (event.Fader ch value) }

abbrev pub turned_at : Float → ℕ → ℤ → Timed
turned_at now ch delta = record { time = now; what = input.Midi (event.Encoder ch delta) }

-- what a fader does, at any time
abbrev pub Moves : List ℕ → Session → ℕ → Float → List ℕ → List ℕ → List ℕ → declared.Stepped → List ℕ → List ℕ → Type 0
Moves p s ch value answers ms cs r ms₁ cs₁ =
    (now : Float) → Delivers (step (view_of p) (seen p s) (moved_at now ch value) answers) p s ms cs r ms₁ cs₁

-- what a fader's move leaves on the desk, and the line after it
unfoldable pub moved_of : List ℕ → Session → ℕ → Float → List ℕ → Got Desk
moved_of p s ch value answers = fader (rig_now (view_of p) (seen p s)) ch value (seen p s).desk (start answers s.opened)

-- a move that asked its device on scratch buffers: the verdict says what it leaves
pub record Asks (p : List ℕ) (s : Session) (ch : ℕ) (value : Float) (answers ms cs : List ℕ) (r : asked.Asked) (ms₁ cs₁ : List ℕ) : Type 0 where
  pub outcome : told r.outcome ≡ outcome_of (end_of (moved_of p s ch value answers).talk false)
  pub opened : r.opened ≡ (moved_of p s ch value answers).talk.opened
  pub left : left_by r.verdict (s.bank * 16 + ch) ch value (seen p s).desk ≡ (moved_of p s ch value answers).value
  pub messages : ms₁ ≡ messages_after (end_of (moved_of p s ch value answers).talk false) ms
  pub calls : cs₁ ≡ calls_after (end_of (moved_of p s ch value answers).talk false) cs

-- one in control asks and sends nothing
abbrev pub Glides : List ℕ → Session → ℕ → Float → declared.Stepped → Type 0
Glides p s ch value r = (answers ms cs : List ℕ) → Moves p s ch value answers ms cs r ms cs

-- and neither does an encoder
abbrev pub Turns : List ℕ → Session → ℕ → ℤ → declared.Stepped → Type 0
Turns p s ch delta r =
    (now : Float) (answers ms cs : List ℕ) → Delivers (step (view_of p) (seen p s) (turned_at now ch delta) answers) p s ms cs r ms cs

-- what is known before an event runs
abbrev pub setting_of : List ℕ → Session → Timed → Setting
setting_of p s e =
    record {
      after = bank_by p s.bank (press_in e.what);
      ticks = is_tick e.what;
      due = is_due s.livedue s.liveat e.time;
    }

-- what an event does to what is kept, and the line after it
unfoldable pub act_of : List ℕ → Session → Timed → List ℕ → Got Left
act_of p s e answers = act e.what (view_of p) (seen p s) e.time (start answers s.opened)

-- an event that ran on scratch buffers: l₁ and s₁ are the lamps' state and what is silenced after it
pub record Talks (p : List ℕ) (s : Session) (e : Timed) (answers ms cs : List ℕ) (saves : Bool) (r : talked.Talked) (l₁ : Lamps) (s₁ : List SilencedLevel) (ms₁ cs₁ : List ℕ) : Type 0 where
  pub outcome : told r.outcome ≡ outcome_of (end_of (act_of p s e answers).talk ((act_of p s e answers).value.saved && saves))
  pub opened : r.opened ≡ (act_of p s e answers).talk.opened
  pub left : left_of (seen p s) (is_tick e.what) (is_due s.livedue s.liveat e.time) e.time r.left l₁ s₁ ≡ (act_of p s e answers).value
  pub known : KnownIf r.left.strips
  pub messages : ms₁ ≡ messages_after (end_of (act_of p s e answers).talk ((act_of p s e answers).value.saved && saves)) ms
  pub calls : cs₁ ≡ calls_after (end_of (act_of p s e answers).talk ((act_of p s e answers).value.saved && saves)) cs
