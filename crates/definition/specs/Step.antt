-- An event: what it does to the session, which calls and messages it makes, and how it ends. Definitions only.
use Rattle.std.specs.Prelude.{ℕ, ◌+◌, ◌/◌, List, [], map, Bool, true, false, ◌&&◌, eqb, ltb, length, get_or, set, Float, None, Some}
use Rattle.base.specs.Choice.{pick}
use Rattle.protocol.specs.declared.Event.{Event}
use Rattle.protocol.specs.declared.Event.TheVariants as event
use Rattle.lookup.specs.View.{View}
use Rattle.drivers.specs.Talk.{Got, Act, got, next, start}
use Rattle.drivers.specs.declared.line.Stop.{Stop}
use Rattle.drivers.specs.declared.line.Stop.TheVariants.{Going, Waits, Declined, Overrun}
use Rattle.drivers.specs.declared.Call.{Call}
use Rattle.session.specs.Session.{SilencedLevel, fresh_session, targets_of, seen_line, seen_turns, seen_silenced, seen_strips, no_marks, unmark_bank}
use Rattle.session.specs.declared.Session.{Session}
use Rattle.session.specs.declared.Strip.{Strip}
use Rattle.session.specs.declared.Lamps.{Lamps}
use Rattle.event.specs.declared.Input.{Input}
use Rattle.event.specs.declared.Input.TheVariants as input
use Rattle.event.specs.declared.Timed.{Timed}
use Rattle.definition.specs.Rig.{Lives, Rig, rig_of, with_strips}
use Rattle.definition.specs.Lamps.{push_state, push_transport}
use Rattle.definition.specs.Flash.{flash_bank, tick_flash}
use Rattle.definition.specs.Faders.{Desk, desk, fader, encoder, turn_refusal, drain, drained}
use Rattle.definition.specs.Live.{Refreshed, refresh_due, is_due}
use Rattle.definition.specs.Buttons.{Press, Pressed, button, added_by}

-- ── the session as it is seen, by who may change what ──

-- where we are: the current bank, the live lists, and when they are asked for again
pub record Site : Type 0 where
  pub bank : ℕ
  pub due : Bool
  pub at : Float
  pub lives : Lives

pub record Kept : Type 0 where
  pub site : Site
  pub desk : Desk
  pub lamps : Lamps
  pub silenced : List SilencedLevel
  pub opened : List Bool

abbrev pub site : ℕ → Bool → Float → Lives → Site
site b d a l = record { bank = b; due = d; at = a; lives = l }

abbrev pub kept : Site → Desk → Lamps → List SilencedLevel → List Bool → Kept
kept w d l s o = record { site = w; desk = d; lamps = l; silenced = s; opened = o }

-- what is seen of the session's struct over its profile p: lists without capacity
unfoldable pub seen : List ℕ → Session → Kept
seen p s =
    kept (site s.bank s.livedue s.liveat (map seen_strips s.live.banks))
    (desk s.marks s.moves (seen_line s.line) (seen_turns p s.turns)) s.lamps (seen_silenced s.silenced) s.opened

-- a fresh session has no sums, so that it is seen alike over every profile
abbrev pub fresh_kept : Kept
fresh_kept = seen [] fresh_session

-- what an event leaves, drivers opened apart, and whether it called `save`
pub record Left : Type 0 where
  pub site : Site
  pub desk : Desk
  pub lamps : Lamps
  pub silenced : List SilencedLevel
  pub saved : Bool

abbrev pub left : Site → Desk → Lamps → List SilencedLevel → Bool → Left
left w d l s b = record { site = w; desk = d; lamps = l; silenced = s; saved = b }

abbrev pub same : Kept → Left
same k = left k.site k.desk k.lamps k.silenced false

abbrev pub rig_at : View → Kept → ℕ → Rig
rig_at v k bank = rig_of v k.site.lives bank

abbrev pub rig_now : View → Kept → Rig
rig_now v k = rig_at v k k.site.bank

-- ── each event ──

abbrev pub with_desk : Kept → Desk → Left
with_desk k d = left k.site d k.lamps k.silenced false

abbrev pub with_lamps : Kept → Lamps → Left
with_lamps k l = left k.site k.desk l k.silenced false

-- "Bank selection and a loaded scene clear all marks", and the live bank is due
abbrev pub unmarked : Bool → Desk → Desk
unmarked true d = desk no_marks d.moves d.line d.turns
unmarked false d = d

abbrev pub due_after : Bool → Bool → Bool
due_after true due = true
due_after false due = due

abbrev pub after_press : Kept → Pressed → Left
after_press k p =
    left (site p.bank (due_after p.moved k.site.due) k.site.at k.site.lives) (unmarked p.moved k.desk) p.lamps
    p.silenced p.saved

abbrev pub press_at : View → Kept → Float → Press
press_at v k now =
    record {
      rig = rig_now v k;
      rig_at = rig_at v k;
      banks = v.banks;
      moves = k.desk.moves;
      now = now;
      lamps = k.lamps;
      silenced = k.silenced;
    }

-- only a press does something, a release does not
abbrev pub on_button : Bool → View → Kept → Float → ℕ → Act Left
on_button true v k now note t = next (button note (press_at v k now) t) (λ p. got (after_press k p))
on_button false v k now note t = got (same k) t

-- `on_midi`
abbrev pub on_midi : Event → View → Kept → Float → Act Left
on_midi (event.Fader ch value) v k now t = next (fader (rig_now v k) ch value k.desk t) (λ d. got (with_desk k d))
on_midi (event.Encoder ch delta) v k now t = got (with_desk k (encoder (rig_now v k) ch delta k.desk)) t
on_midi (event.Button b) v k now t = on_button b.pressed v k now b.note t
on_midi event.Other v k now t = got (same k) t

-- a tick's live list comes after its drain; "a changed live list clears its bank's" marks
abbrev pub unmarked_at : Bool → ℕ → Desk → Desk
unmarked_at true bank d = desk (unmark_bank bank d.marks) d.moves d.line d.turns
unmarked_at false bank d = d

abbrev pub lives_after : Bool → ℕ → List Strip → Lives → Lives
lives_after true bank l lives = set lives bank (Some l)
lives_after false bank l lives = lives

abbrev pub site_after : Bool → Float → Refreshed → Site → Site
site_after true now r w = site w.bank false now (lives_after r.changed w.bank r.strips w.lives)
site_after false now r w = w

abbrev pub after_tick : Bool → Kept → Float → Refreshed → Lamps → Left
after_tick due k now r l =
    left (site_after due now r k.site) (unmarked_at r.changed k.site.bank (drained k.desk)) l k.silenced false

abbrev pub flash_tick : Bool → View → Kept → Float → Refreshed → Act Left
flash_tick due v k now r t =
    next (tick_flash (with_strips r.strips (rig_now v k)) (targets_of k.silenced) k.desk.moves now k.lamps t)
    (λ l. got (after_tick due k now r l))

abbrev pub tick_with : Bool → View → Kept → Float → Act Left
tick_with due v k now t =
    next (refresh_due due (get_or k.site.lives k.site.bank None) (rig_now v k) k.lamps (targets_of k.silenced) (drain (rig_now v k) k.desk t))
    (λ r. flash_tick due v k now r)

-- `tick`: the drain, a live bank's faders, and the phases of a flash
unfoldable pub tick : View → Kept → Float → Act Left
tick v k now t = tick_with (is_due k.site.due k.site.at now) v k now t

-- what an event does
unfoldable pub act : Input → View → Kept → Float → Act Left
act (input.Midi e) v k now t = on_midi e v k now t
act input.Tick v k now t = tick v k now t
act input.PushState v k now t = got (same k) (push_state (rig_now v k) k.lamps (targets_of k.silenced) t)
act input.PushTransport v k now t = got (same k) (push_transport (rig_now v k) t)
act input.FlashBank v k now t =
    next (flash_bank (rig_now v k) (targets_of k.silenced) k.desk.moves now k.lamps t) (λ l. got (with_lamps k l))

-- ── how it ends ──

-- 11: "silenced targets held, with the distinct others this press adds at any moment, exceed 256"
abbrev pub overfull : Bool → View → Kept → Float → ℕ → ℕ
overfull true v k now note = pick (ltb 256 (length k.silenced + length (added_by note (press_at v k now)))) 11 0
overfull false v k now note = 0

-- 11, 12 or 13, which are decided before the first call; 0 if none
unfoldable pub refusal : Input → View → Kept → Float → ℕ
refusal (input.Midi (event.Button b)) v k now = overfull b.pressed v k now b.note
refusal (input.Midi (event.Encoder ch delta)) v k now = turn_refusal (rig_now v k) ch delta k.desk.turns
refusal (input.Midi (event.Fader ch value)) v k now = 0
refusal (input.Midi event.Other) v k now = 0
refusal input.Tick v k now = 0
refusal input.PushState v k now = 0
refusal input.PushTransport v k now = 0
refusal input.FlashBank v k now = 0

-- how an event ended: its messages, calls, answers used (records of 16 bytes) and whether it saved; the number of its refusal; or the call that waits
pub data Ended : Type 0 where
  done : List (List ℕ) → List Call → ℕ → Bool → Ended
  refused : ℕ → Ended
  waiting : Call → Ended

pub record Stepped : Type 0 where
  pub ended : Ended
  pub kept : Kept

abbrev pub stepped : Ended → Kept → Stepped
stepped e k = record { ended = e; kept = k }

-- "The outcome says if the event saved (remember 1 only)"
abbrev pub finish : Stop → View → Kept → Got Left → Stepped
finish Going v k r =
    stepped (done r.talk.messages r.talk.calls (r.talk.used / 16) (r.value.saved && v.remember))
    (kept r.value.site r.value.desk r.value.lamps r.value.silenced r.talk.opened)
finish (Waits c) v k r = stepped (waiting c) k
finish Declined v k r = stepped (refused 14) k
finish Overrun v k r = stepped (refused 14) k

abbrev pub finished : View → Kept → Got Left → Stepped
finished v k r = finish r.talk.stop v k r

abbrev pub step_if : Bool → ℕ → Timed → View → Kept → List ℕ → Stepped
step_if true why e v k answers = finished v k (act e.what v k e.time (start answers k.opened))
step_if false why e v k answers = stepped (refused why) k

-- an event that is not refused by 1 to 10: a refused or waiting one leaves the session as it was
unfoldable pub step : View → Kept → Timed → List ℕ → Stepped
step v k e answers = step_if (eqb (refusal e.what v k e.time) 0) (refusal e.what v k e.time) e v k answers
