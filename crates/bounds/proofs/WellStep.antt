-- A finished event leaves a well-shaped session well shaped.
use Rattle.std.specs.Prelude.{ℕ, ◌≤◌, ◌≡◌, Bool, List, ltb, length, Float}
use Rattle.std.proofs.Math.Path.{refl}
use Rattle.std.proofs.Math.Bool.{true, false}
use Rattle.std.proofs.Common.{arith, eqb-true, ltb-false, None}
use Rattle.std.proofs.Math.Dec.{eqb}
use Rattle.std.proofs.Math.ListN.{get_or}
use Rattle.base.specs.Choice.{pick}
use Rattle.base.specs.Keyed.{no_twice}
use Rattle.protocol.specs.declared.Event.{Event}
use Rattle.protocol.specs.declared.Event.TheVariants as event
use Rattle.profile.specs.Profile.{bank_count, verdict}
use Rattle.lookup.specs.View.{View, view_of}
use Rattle.drivers.specs.Talk.{Talk, Got, next, start}
use Rattle.drivers.specs.declared.line.Stop.{Stop}
use Rattle.drivers.specs.declared.line.Stop.TheVariants.{Going, Waits, Declined, Overrun}
use Rattle.session.specs.Session.{SilencedLevel, targets_of}
use Rattle.session.specs.WellLists.{WellStrips}
use Rattle.session.specs.declared.Strip.{Strip}
use Rattle.event.specs.declared.Input.{Input}
use Rattle.event.specs.declared.Input.TheVariants as input
use Rattle.event.specs.declared.Timed.{Timed}
use Rattle.definition.specs.Rig.{with_strips}
use Rattle.definition.specs.Faders.{drain, drained}
use Rattle.definition.specs.Live.{Refreshed, refresh_due, is_due}
use Rattle.definition.specs.Buttons.{button}
use Rattle.definition.specs.Step.{Kept, Left, left, rig_now, press_at, on_button, on_midi, unmarked_at, lives_after, site_after, tick_with, tick, act, overfull, finish, step_if, refusal, step}
use Rattle.bounds.specs.Room.{LowEvent, LowInput}
use Rattle.bounds.specs.Well.{Well}
use Rattle.bounds.proofs.Profiles.{accepted_sound}
use Rattle.bounds.proofs.RoomLaws.{act_room}
use Rattle.bounds.proofs.WellFlash.{Shaped, bank_gives, tick_gives}
use Rattle.bounds.proofs.WellPress.{Settled, button_fine}
use Rattle.bounds.proofs.WellLive.{WellLives, refresh_well, set_well}
use Rattle.bounds.proofs.WellDesk.{WellDesk, fader_well, encoder_well, unmarked_well, unmarked_at_well, drained_well}
use Rattle.bounds.proofs.WellWithin.{well_within}
use Rattle.bounds.proofs.Silencing.{silenced_so}

-- ── what an event leaves ──

-- at most 256 targets, none twice
record WellSilenced (s : List SilencedLevel) : Type 0 where
  held : length s ≤ 256
  targets : no_twice eqb (targets_of s) ≡ true

record WellLeft (p : List ℕ) (x : Left) : Type 0 where
  settled : Settled (bank_count p) x.site.bank x.lamps
  lives : WellLives x.site.lives
  desk : WellDesk p x.desk
  silenced : WellSilenced x.silenced

module _ (p : List ℕ) (yes : verdict p ≡ 0) (k : Kept) (well : Well p k) where
  abbrev v : View
  v = view_of p

  desk-is : WellDesk p k.desk
  desk-is =
      record {
        line = well.line;
        turns = record { few = well.few; wired = well.wired; sums = well.sums; destinations = well.destinations };
      }

  silenced_is : WellSilenced k.silenced
  silenced_is = record { held = well.held; targets = well.targets }

  settled_is : Settled (bank_count p) k.site.bank k.lamps
  settled_is = record { bank = well.bank; lamps = well.flash }

  with_desk_lem : {d : _} → WellDesk p d → WellLeft p (left k.site d k.lamps k.silenced false)
  with_desk_lem h = record { settled = settled_is; lives = well.lives; desk = h; silenced = silenced_is }

  -- number 11 leaves room for what a press silences
  room_for_lem : (n : ℕ) → pick {A = ℕ} (ltb 256 n) 11 0 ≡ 0 → n ≤ 256
  room_for_lem n r = go (ltb 256 n) refl r
    where
      go : (b : Bool) → ltb 256 n ≡ b → pick {A = ℕ} b 11 0 ≡ 0 → n ≤ 256
      go true e q = absurd (omega arith)
      go false e q = ltb-false 256 n e

  button_well : (b : Bool) (now : Float) (note : ℕ) (t : Talk) → overfull b v k now note ≡ 0 → WellLeft p (on_button b v k now note t).value
  unfolding next
  button_well true now note t r =
      let x = button note (press_at v k now) t in
      let s = silenced_so v k now note t well.targets (room_for_lem _ r) in
      record {
        settled = button_fine (press_at v k now) settled_is note t;
        lives = well.lives;
        desk = unmarked_well p x.value.moved k.desk desk-is;
        silenced = record { held = s.0; targets = s.1 };
      }
  button_well false now note t r = with_desk_lem desk-is

  midi_well : (e : Event) (now : Float) (t : Talk) → LowEvent e → refusal (input.Midi e) v k now ≡ 0 → WellLeft p (on_midi e v k now t).value
  unfolding next refusal
  midi_well (event.Fader ch x) now t low r = with_desk_lem (fader_well p (rig_now v k) ch x k.desk t desk-is low)
  midi_well (event.Encoder ch n) now t low r = with_desk_lem (encoder_well p k.site.lives k.site.bank ch n k.desk desk-is low.1 r)
  midi_well (event.Button b) now t low r = button_well b.pressed now b.note t r
  midi_well event.Other now t low r = with_desk_lem desk-is

  lives_after_lem : (c : Bool) (l : List Strip) → WellStrips l → WellLives (lives_after c k.site.bank l k.site.lives)
  lives_after_lem true l h = set_well k.site.lives k.site.bank l well.lives h
  lives_after_lem false l h = well.lives

  tick_well : (due : Bool) (now : Float) (t : Talk) → WellLeft p (tick_with due v k now t).value
  unfolding next
  tick_well due now t =
      let known = get_or k.site.lives k.site.bank None in
      let u = drain (rig_now v k) k.desk t in
      let r = refresh_due due known (rig_now v k) k.lamps (targets_of k.silenced) u in
      let strips = refresh_well (rig_now v k) ((accepted_sound p yes).drivers.devices k.site.bank) (well.lives k.site.bank) due known k.lamps (targets_of k.silenced) u in
      let lamps = tick_gives (with_strips r.value.strips (rig_now v k)) (targets_of k.silenced) k.desk.moves now k.lamps well.flash r.talk in
      go due r.value strips lamps
    where
      go : (b : Bool) (r : Refreshed) {l : _} → WellStrips r.strips → Shaped l →
          WellLeft p (left (site_after b now r k.site) (unmarked_at r.changed k.site.bank (drained k.desk)) l k.silenced false)
      go true r h f =
          record {
            settled = record { bank = well.bank; lamps = f };
            lives = lives_after_lem r.changed r.strips h;
            desk = unmarked_at_well p r.changed k.site.bank (drained k.desk) (drained_well p k.desk);
            silenced = silenced_is;
          }
      go false r h f =
          record {
            settled = record { bank = well.bank; lamps = f };
            lives = well.lives;
            desk = unmarked_at_well p r.changed k.site.bank (drained k.desk) (drained_well p k.desk);
            silenced = silenced_is;
          }

  act_well : (e : Input) (now : Float) (t : Talk) → LowInput e → refusal e v k now ≡ 0 → WellLeft p (act e v k now t).value
  unfolding act tick next
  act_well (input.Midi e) now t low r = midi_well e now t low r
  act_well input.Tick now t low r = tick_well (is_due k.site.due k.site.at now) now t
  act_well input.PushState now t low r = with_desk_lem desk-is
  act_well input.PushTransport now t low r = with_desk_lem desk-is
  act_well input.FlashBank now t low r =
      record {
        settled = record { bank = well.bank; lamps = bank_gives (rig_now v k) (targets_of k.silenced) k.desk.moves now k.lamps t };
        lives = well.lives;
        desk = desk-is;
        silenced = silenced_is;
      }

  finish_well : (s : Stop) (r : Got Left) → WellLeft p r.value → length r.talk.opened ≡ 16 → Well p (finish s v k r).kept
  finish_well Going r h o =
      record {
        bank = h.settled.bank;
        line = h.desk.line;
        lives = h.lives;
        few = h.desk.turns.few;
        wired = h.desk.turns.wired;
        sums = h.desk.turns.sums;
        destinations = h.desk.turns.destinations;
        held = h.silenced.held;
        targets = h.silenced.targets;
        flash = h.settled.lamps;
        opened = o;
      }
  finish_well (Waits c) r h o = well
  finish_well Declined r h o = well
  finish_well Overrun r h o = well

  -- what an event leaves, whether it is done, waits or is refused
  pub step_well : (e : Timed) → LowInput e.what → (answers : List ℕ) → Well p (step (view_of p) k e answers).kept
  unfolding step
  step_well e low answers = at (eqb (refusal e.what v k e.time) 0) refl
    where
      at : (b : Bool) → eqb (refusal e.what v k e.time) 0 ≡ b → Well p (step_if b (refusal e.what v k e.time) e v k answers).kept
      at true q =
          let r = act e.what v k e.time (start answers k.opened) in
          finish_well r.talk.stop r
          (act_well e.what e.time (start answers k.opened) low (eqb-true (refusal e.what v k e.time) 0 q))
          (act_room v k (accepted_sound p yes) (well_within p yes k well) e answers).opened
      at false q = well
