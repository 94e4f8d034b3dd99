-- A press leaves a bank that the profile has, and the flash well shaped.
use Prim.Native.Nat.{ℕ, zero, suc, ◌+◌, ◌-◌, ◌<◌}
use Rattle.std.specs.Prelude.{◌≡◌, Bool, ◌||◌, List, length, get_or, Float, None, Option, Some}
use Rattle.std.proofs.Math.Path.{refl}
use Rattle.std.proofs.Math.Bool.{true, false}
use Rattle.std.proofs.Math.Dec.{eqb, leb}
use borrow.Author.Tests.{leb-false}
use Rattle.base.specs.Choice.{pick}
use Rattle.protocol.specs.Protocol.{kind_of, channel_of}
use Rattle.drivers.specs.Talk.{Talk, Act, next}
use Rattle.session.specs.Session.{SilencedLevel, targets_of, solo_to, none_noted, note_muted, loaded_by, scene_to, scene_unknown, scene_at}
use Rattle.session.specs.declared.Lamps.{Lamps}
use Rattle.session.specs.declared.Moves.{Moves}
use Rattle.definition.specs.Rig.{Rig, destination, device}
use Rattle.definition.specs.Muting.{peer, note_mutes, note_if, solo_if, solo_with, solo}
use Rattle.definition.specs.Scenes.{Started, placed, loaded_if, load_at_if, load_scene_at, start_if, start, shown_if, page_if, step_scene_if, step_scene, scene_if, scene, is_at, next_scene, scene_on_device, scene_names, load_on}
use Rattle.definition.specs.Banks.{Selected, select_if, select_bank, next_bank, step_if, step_bank}
use Rattle.definition.specs.Buttons.{Press, Pressed, bank_of, page, walk, command, rec_as, rec, select_as, mute_as, solo_as, or_first, press_of, button, rec_loads}
use Rattle.bounds.proofs.WellFlash.{Shaped, number_gives, bank_gives}
use Rattle.lookup.specs.declared.Destination.{Destination}

-- ── solo and scenes ──

module _ (r : Rig) where
  notes_shaped : (group : ℕ) (s : List ℕ) (n : ℕ) (l : Lamps) (t : Talk) → Shaped l → Shaped (note_mutes (peer r group) s n l t).value
  unfolding note_mutes next none_noted note_muted
  notes_shaped group s zero l t h = h
  notes_shaped group s (suc n) l t h = notes_shaped group s n l t h

  note_if-shaped : (b : Bool) (group : ℕ) (s : List ℕ) (l : Lamps) (t : Talk) → Shaped l → Shaped (note_if b (peer r group) s l t).value
  note_if-shaped true group s l t h = notes_shaped group s 16 l t h
  note_if-shaped false group s l t h = h

  solo_if-shaped : (b : Bool) (group fader : ℕ) (l : Lamps) (s : List SilencedLevel) (t : Talk) → Shaped l → Shaped (solo_if b r group fader l s t).value.lamps
  unfolding next none_noted solo_to
  solo_if-shaped true group fader l s t h = h
  solo_if-shaped false group fader l s t h = note_if-shaped (eqb l.soloed 0) group (targets_of s) l t h

  solo_with-shaped : (f : Option Destination) (fader : ℕ) (l : Lamps) (s : List SilencedLevel) (t : Talk) → Shaped l → Shaped (solo_with f r fader l s t).value.lamps
  solo_with-shaped (Some d) fader l s t h = solo_if-shaped (eqb l.soloed fader) d.group fader l s t h
  solo_with-shaped None fader l s t h = h

  solo-shaped : (n : ℕ) (l : Lamps) (s : List SilencedLevel) (t : Talk) → Shaped l → Shaped (solo r n l s t).value.lamps
  unfolding solo
  solo-shaped n l s t h = solo_with-shaped (destination r n) n l s t h

  loaded_if-shaped : (b : Bool) (s : List ℕ) (i : ℕ) (l : Lamps) (t : Talk) → Shaped l → Shaped (loaded_if b r s i l t).value.lamps
  unfolding none_noted solo_to scene_to
  loaded_if-shaped true s i l t h = h
  loaded_if-shaped false s i l t h = h

  load_at_shaped : (b : Bool) (s : List ℕ) (i : ℕ) (l : Lamps) (names : List ℕ) (t : Talk) → Shaped l → Shaped (load_at_if b r s i l names t).value.lamps
  unfolding next
  load_at_shaped true s i l names t h = h
  load_at_shaped false s i l names t h =
      let u = load_on (device r.here) (get_or names i 65535) i t in
      loaded_if-shaped u.value s i l u.talk h

  load-shaped : (s : List ℕ) (i : ℕ) (l : Lamps) (t : Talk) → Shaped l → Shaped (load_scene_at r s i l t).value.lamps
  unfolding load_scene_at next
  load-shaped s i l t h =
      let u = scene_names r.here t in
      load_at_shaped (eqb (device r.here) 65535 || leb (length u.value) i) s i l u.value u.talk h

  placed-shaped : (p : Option ℕ) (bank : ℕ) (l : Lamps) → Shaped l → Shaped (placed bank p l)
  unfolding scene_to scene_unknown
  placed-shaped (Some i) bank l h = h
  placed-shaped None bank l h = h

  start_if-shaped : (p : Option ℕ) (names : List ℕ) (l : Lamps) (t : Talk) → Shaped l → Shaped (start_if p r.here names l t).value.lamps
  unfolding next
  start_if-shaped (Some i) names l t h = h
  start_if-shaped None names l t h = placed-shaped (scene_on_device r.here names t).value r.here.bank l h

  start-shaped : (names : List ℕ) (l : Lamps) (t : Talk) → Shaped l → Shaped (start r.here names l t).value.lamps
  unfolding start
  start-shaped names l t h = start_if-shaped (scene_at r.here.bank l) names l t h

  module _ (s : List ℕ) (m : Moves) (now : Float) where
    shown-shaped : (b : Bool) (i : ℕ) (l : Lamps) (saved : Bool) (t : Talk) → Shaped l → Shaped (shown_if b r s m now i l saved t).value.lamps
    unfolding next
    shown-shaped true i l saved t h = number_gives r s m now i 8 l refl t
    shown-shaped false i l saved t h = h

    page_if-shaped : (b : Bool) (i : ℕ) (x : Started) (t : Talk) → Shaped x.lamps → Shaped (page_if b r s m now i x t).value.lamps
    unfolding next
    page_if-shaped true i x t h = h
    page_if-shaped false i x t h =
        let u = load_scene_at r s i x.lamps t in
        shown-shaped u.value.ok i u.value.lamps x.saved u.talk (load-shaped s i x.lamps t h)

    step_if-shaped : (b right : Bool) (l : Lamps) (names : List ℕ) (t : Talk) → Shaped l → Shaped (step_scene_if b right r s m now l names t).value.lamps
    unfolding next
    step_if-shaped true right l names t h = h
    step_if-shaped false right l names t h =
        let u = start r.here names l t in
        let x = u.value in
        let i = next_scene right (scene_at r.here.bank x.lamps) (length names) in
        page_if-shaped (is_at (scene_at r.here.bank x.lamps) i) i x u.talk (start-shaped names l t h)

    page-shaped : (right : Bool) (l : Lamps) (t : Talk) → Shaped l → Shaped (step_scene right r s m now l t).value.lamps
    unfolding step_scene next
    page-shaped right l t h =
        let u = scene_names r.here t in
        step_if-shaped (eqb (length u.value) 0) right l u.value u.talk h

    scene_if-shaped : (b : Bool) (n : ℕ) (l : Lamps) (t : Talk) → Shaped l → Shaped (scene_if b r s m now n l t).value.lamps
    unfolding next
    scene_if-shaped true n l t h = number_gives r s m now (n - 1) 8 (loaded_by n l) refl t
    scene_if-shaped false n l t h = h

    scene-shaped : (n : ℕ) (l : Lamps) (t : Talk) → Shaped l → Shaped (scene r s m now n l t).value.lamps
    unfolding scene next
    scene-shaped n l t h =
        let u = load_scene_at r s (n - 1) l t in
        scene_if-shaped u.value.ok n u.value.lamps u.talk (load-shaped s (n - 1) l t h)

-- ── banks ──

-- a bank below the count, and lamps with a well-shaped flash
pub record Settled (banks b : ℕ) (l : Lamps) : Type 0 where
  pub bank : b < banks
  pub lamps : Shaped l

module _ (rig_at : ℕ → Rig) (banks bank i : ℕ) (s : List ℕ) (m : Moves) (now : Float) (l : Lamps) (h : Settled banks bank l) where
  abbrev Chosen : Selected → Type 0
  Chosen x = Settled banks x.bank x.lamps

  select_if_so : (b : Bool) (t : Talk) → leb banks i ≡ b → Chosen (select_if b rig_at bank i s m now l t).value
  unfolding next
  select_if_so true t e = h
  select_if_so false t e = record { bank = leb-false banks i e; lamps = bank_gives (rig_at i) s m now l _ }

  select_so : (t : Talk) → Chosen (select_bank rig_at banks bank i s m now l t).value
  unfolding select_bank
  select_so t = select_if_so (leb banks i) t refl

  step_if_so : (b : Bool) (t : Talk) → Chosen (step_if b rig_at banks bank i s m now l t).value
  step_if_so true t = h
  step_if_so false t = select_so t

-- ── a press ──

module _ (p : Press) (h : Settled p.banks (bank_of p) p.lamps) where
  abbrev Fine : Act Pressed → Type 0
  Fine f = (t : Talk) → Settled p.banks (f t).value.bank (f t).value.lamps

  stays : {l : Lamps} → Shaped l → Settled p.banks (bank_of p) l
  stays w = record { bank = h.bank; lamps = w }

  rec_as_fine : (b : Bool) (ch : ℕ) → Fine (rec_as b ch p)
  unfolding next
  rec_as_fine true ch t = stays (scene-shaped p.rig (targets_of p.silenced) p.moves p.now (ch + 1) p.lamps t h.lamps)
  rec_as_fine false ch t = h

  rec_fine : (ch : ℕ) → Fine (rec ch p)
  unfolding next
  rec_fine ch t = let u = rec_loads p.rig t in rec_as_fine u.value ch u.talk

  select_fine : (b : Bool) (ch : ℕ) → Fine (select_as b ch p)
  unfolding next
  select_fine true ch t = select_so p.rig_at p.banks (bank_of p) ch (targets_of p.silenced) p.moves p.now p.lamps h t
  select_fine false ch t = h

  page_fine : (right : Bool) → Fine (page right p)
  unfolding next
  page_fine right t = stays (page-shaped p.rig (targets_of p.silenced) p.moves p.now right p.lamps t h.lamps)

  walk_fine : (right : Bool) → Fine (walk right p)
  unfolding next step_bank
  walk_fine right t =
      let i = next_bank right p.banks (bank_of p) in
      step_if_so p.rig_at p.banks (bank_of p) i (targets_of p.silenced) p.moves p.now p.lamps h (eqb i (bank_of p)) t

  mute_fine : (n : ℕ) → Fine (mute_as n p)
  unfolding next
  mute_fine n t = h

  solo_fine : (n : ℕ) → Fine (solo_as n p)
  unfolding next
  solo_fine n t = stays (solo-shaped p.rig n p.lamps p.silenced t h.lamps)

  either_fine : (b : Bool) (f g : Act Pressed) → Fine f → Fine g → Fine (pick b f g)
  either_fine true f g x y = x
  either_fine false f g x y = y

  pub button_fine : (note : ℕ) → Fine (button note p)
  unfolding button press_of
  button_fine note =
      let kind = kind_of note in
      let ch = or_first (channel_of note) in
      either_fine (eqb kind 7) (page true p) _ (page_fine true)
      (either_fine (eqb kind 6) (page false p) _ (page_fine false)
      (either_fine (eqb kind 5 || eqb kind 9) (walk true p) _ (walk_fine true)
      (either_fine (eqb kind 4 || eqb kind 8) (walk false p) _ (walk_fine false)
      (either_fine (eqb kind 2) (mute_as (ch + 1) p) _ (mute_fine (ch + 1))
      (either_fine (eqb kind 1) (solo_as (ch + 1) p) _ (solo_fine (ch + 1))
      (either_fine (eqb kind 0) (rec ch p) _ (rec_fine ch)
      (either_fine (eqb kind 3) (select_as p.rig.here.part.select ch p) (command kind p) (select_fine p.rig.here.part.select ch) (λ t. h))))))))
