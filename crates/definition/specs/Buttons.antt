-- What a pressed button does: `button`, `default_button`, `run_command`. Definitions only.
use Rattle.std.specs.Prelude.{ℕ, ◌+◌, List, [], Bool, true, false, ◌||◌, eqb, Float, None, Option, Some}
use Rattle.base.specs.Words.{absent}
use Rattle.base.specs.Choice.{pick}
use Rattle.protocol.specs.Protocol.{kind_of, channel_of}
use Rattle.lookup.specs.Lookup.{or_absent, transport_of, before}
use Rattle.drivers.specs.Talk.{Talk, Got, Act, got, next, open_for, command_of}
use Rattle.session.specs.Session.{SilencedLevel, targets_of}
use Rattle.session.specs.declared.Lamps.{Lamps}
use Rattle.session.specs.declared.Moves.{Moves}
use Rattle.definition.specs.Rig.{Rig, Here, bank_driver, first_target}
use Rattle.definition.specs.Banks.{Selected, select_bank, step_bank}
use Rattle.definition.specs.Scenes.{Paged, step_scene, scene}
use Rattle.definition.specs.Muting.{mute, solo, added_by_solo, added_by_mute}
use Rattle.lookup.specs.declared.Command.{Command}
use Rattle.protocol.specs.ButtonKinds as kinds

-- what a press leaves. Where a bank was selected or a scene loaded, `moved`, "clear all marks", and the live bank is due
pub record Pressed : Type 0 where
  pub bank : ℕ
  pub lamps : Lamps
  pub silenced : List SilencedLevel
  pub moved : Bool
  pub saved : Bool

abbrev pub pressed : ℕ → Lamps → List SilencedLevel → Bool → Bool → Pressed
pressed b l s a c = record { bank = b; lamps = l; silenced = s; moved = a; saved = c }

-- ── commands ──

-- the default button's command, with the target of the bank's first fader on the driver
abbrev pub offered : Bool → Here → ℕ → ℕ → Option Command
offered true h driver command = None
offered false h driver command = Some (record { driver = driver; target = or_absent (first_target h driver 16); command = command })

abbrev pub offered_if : Bool → Rig → ℕ → ℕ → Act (Option Command)
offered_if true r driver kind t = got (offered (eqb (r.button driver kind) absent) r.here driver (r.button driver kind)) t
offered_if false r driver kind t = got None t

abbrev pub default_of : Bool → Rig → ℕ → ℕ → Act (Option Command)
default_of true r driver kind t = got None t
default_of false r driver kind t = next (open_for driver 0 t) (λ ok. offered_if ok r driver kind)

-- `default_button`: what the bank's driver says this button does; the driver is opened for it, and its buttons are no call
unfoldable pub default_button : Rig → ℕ → Act (Option Command)
default_button r kind = default_of (eqb (bank_driver r.here) absent) r (bank_driver r.here) kind

abbrev pub run_bound : Option Command → Talk → Talk
run_bound (Some c) t = (command_of c.driver c.target c.command t).talk
run_bound None t = t

abbrev pub run_offered : Got (Option Command) → Talk
run_offered r = run_bound r.value r.talk

abbrev pub run_else : Option Command → Rig → ℕ → Talk → Talk
run_else (Some c) r kind t = run_bound (Some c) t
run_else None r kind t = run_offered (default_button r kind t)

-- the last arm of `button`: the globals' binding, the bank's, or what the bank's driver does with the button
unfoldable pub run_command : Rig → ℕ → Talk → Talk
run_command r kind t =
    run_else (before (transport_of kind r.globals.transports) (transport_of kind r.here.part.transports)) r kind t

-- ── rec ──

abbrev pub is_scene : Option Command → Bool
is_scene (Some c) = eqb c.command 1
is_scene None = false

abbrev pub rec_if : Bool → Rig → Act Bool
rec_if true r t = next (default_button r 0 t) (λ b. got (is_scene b))
rec_if false r t = got (eqb r.here.part.rec 1) t

-- whether R loads a scene: the profile says so, or says nothing and the bank's driver does
unfoldable pub rec_loads : Rig → Act Bool
rec_loads r = rec_if (eqb r.here.part.rec 0) r

-- ── all of them ──

abbrev pub of_bank : List SilencedLevel → Selected → Pressed
of_bank s x = pressed x.bank x.lamps s x.selected x.selected

abbrev pub of_scene : ℕ → List SilencedLevel → Paged → Pressed
of_scene b s x = pressed b x.lamps s x.loaded x.saved

abbrev pub ran : ℕ → Lamps → List SilencedLevel → Talk → Got Pressed
ran b l s t = got (pressed b l s false false) t

-- what every press is handed: the rig, the rig of any bank, their number, last moves, the time, the lamps' state and the silenced levels
pub record Press : Type 0 where
  pub rig : Rig
  pub rig_at : ℕ → Rig
  pub banks : ℕ
  pub moves : Moves
  pub now : Float
  pub lamps : Lamps
  pub silenced : List SilencedLevel

abbrev pub bank_of : Press → ℕ
bank_of p = p.rig.here.bank

abbrev pub page : Bool → Press → Act Pressed
page right p t =
    next (step_scene right p.rig (targets_of p.silenced) p.moves p.now p.lamps t) (λ x. got (of_scene (bank_of p) p.silenced x))

abbrev pub walk : Bool → Press → Act Pressed
walk right p t =
    next (step_bank right p.rig_at p.banks (bank_of p) (targets_of p.silenced) p.moves p.now p.lamps t) (λ x. got (of_bank p.silenced x))

abbrev pub command : ℕ → Press → Act Pressed
command kind p t = ran (bank_of p) p.lamps p.silenced (run_command p.rig kind t)

abbrev pub rec_as : Bool → ℕ → Press → Act Pressed
rec_as true ch p t =
    next (scene p.rig (targets_of p.silenced) p.moves p.now (ch + 1) p.lamps t) (λ x. got (of_scene (bank_of p) p.silenced x))
rec_as false ch p t = command 0 p t

abbrev pub rec : ℕ → Press → Act Pressed
rec ch p t = next (rec_loads p.rig t) (λ b. rec_as b ch p)

abbrev pub select_as : Bool → ℕ → Press → Act Pressed
select_as true ch p t =
    next (select_bank p.rig_at p.banks (bank_of p) ch (targets_of p.silenced) p.moves p.now p.lamps t) (λ x. got (of_bank p.silenced x))
select_as false ch p t = command 3 p t

abbrev pub mute_as : ℕ → Press → Act Pressed
mute_as n p t = next (mute p.rig n p.lamps p.silenced t) (λ s. got (pressed (bank_of p) p.lamps s false false))

abbrev pub solo_as : ℕ → Press → Act Pressed
solo_as n p t = next (solo p.rig n p.lamps p.silenced t) (λ x. got (pressed (bank_of p) x.lamps x.silenced false false))

-- the channel of a channel's button; another's counts as 0
abbrev pub or_first : Option ℕ → ℕ
or_first (Some c) = c
or_first None = 0

-- by kind: 7 and 6 arrows right and left, 5 and 9 bank right and arrow down, 4 and 8 bank left and arrow up, 2 mute, 1 solo, 0 rec, 3 select
unfoldable pub press_of : ℕ → ℕ → Press → Act Pressed
press_of kind ch p =
    pick (eqb kind kinds.arrow_right) (page true p)
    (pick (eqb kind kinds.arrow_left) (page false p)
    (pick (eqb kind kinds.bank_right || eqb kind kinds.arrow_down) (walk true p)
    (pick (eqb kind kinds.bank_left || eqb kind kinds.arrow_up) (walk false p)
    (pick (eqb kind kinds.mute) (mute_as (ch + 1) p)
    (pick (eqb kind kinds.solo) (solo_as (ch + 1) p)
    (pick (eqb kind kinds.rec) (rec ch p)
    (pick (eqb kind kinds.select) (select_as p.rig.here.part.select ch p)
    (command kind p))))))))

-- `button`
unfoldable pub button : ℕ → Press → Act Pressed
button note p = press_of (kind_of note) (or_first (channel_of note)) p

-- the targets that a press adds to those silenced: number 11 counts them with those held
unfoldable pub added_by : ℕ → Press → List ℕ
added_by note p =
    pick (eqb (kind_of note) kinds.mute) (added_by_mute p.rig (or_first (channel_of note) + 1) (targets_of p.silenced))
    (pick (eqb (kind_of note) kinds.solo) (added_by_solo p.rig (or_first (channel_of note) + 1) p.lamps (targets_of p.silenced)) [])
