-- What any event costs at most, by its kind: every driver that it uses is one that the profile or the session names.
use Prim.Native.Nat.{ℕ, zero, suc, ◌+◌, ◌*◌}
use Rattle.std.specs.Prelude.{◌≡◌, Bool, length, get_or, Float, None, Option, Some}
use Rattle.std.proofs.Math.Path.{refl}
use Rattle.std.proofs.Math.Bool.{true, false}
use Rattle.std.proofs.Common.{true≢false, arith}
use mathlib.Core.List.{List, [], ◌∷◌, ◌++◌}
use Rattle.std.proofs.Math.Dec.{eqb}
use Rattle.base.specs.Choice.{pick}
use Rattle.base.specs.Keyed.{change}
use Rattle.base.specs.First.{first}
use Rattle.protocol.specs.declared.Event.{Event}
use Rattle.protocol.specs.declared.Event.TheVariants as event
use Rattle.lookup.specs.Lookup.{precede, of_kind, merged, place as placed, top_at, value_at, most_common}
use Rattle.lookup.specs.View.{View}
use Rattle.lookup.specs.declared.Entry.{Entry}
use Rattle.session.specs.Session.{targets_of, strips_or, strip_at, found_strip}
use Rattle.session.specs.declared.Strip.{Strip}
use Rattle.event.specs.declared.Input.{Input}
use Rattle.event.specs.declared.Input.TheVariants as input
use Rattle.definition.specs.Rig.{Lives, rig_of, here_of, with_strips, own_fader, destination, driver_in, own_drivers, bank_driver, device}
use Rattle.definition.specs.Lamps.{push_transport}
use Rattle.definition.specs.Faders.{drain}
use Rattle.definition.specs.Live.{Refreshed, refresh_due, is_due}
use Rattle.definition.specs.Step.{Kept, rig_at, rig_now, press_at, on_button, on_midi, after_tick, flash_tick, tick_with, tick, act}
use Rattle.bounds.specs.Drivers.{MayTo, MayAll, no_entry_lem, one_entry, Each, no_more, one_more, MayStrip, MayView, MayKept}
use Rattle.bounds.proofs.Spending.{Rules, Takes, still, done, giving, up_to, behind, bind, bind_so}
use Rattle.bounds.proofs.Surface.{end_cost, push_costs, flash_bank_takes, tick_flash_takes, bound_costs}
use Rattle.bounds.proofs.Hands.{strip_may, with_may, fader_takes, drain_costs, refresh_takes, refresh-leaves}
use Rattle.bounds.proofs.Presses.{MayRig, button_takes}
use Rattle.lookup.specs.declared.Destination.{Destination}

-- ── the drivers of a bank ──

module _ (D : ℕ → Type 0) where
  each_append : (l m : List ℕ) → Each D l → Each D m → Each D (l ++ m)
  each_append [] m h k = k
  each_append (x ∷ l) m (one_more d h) k = one_more d (each_append l m h k)

  each_at : (l : List ℕ) (i : ℕ) → Each D l → D 0 → D (get_or l i 0)
  each_at [] i h z = z
  each_at (x ∷ l) zero (one_more d h) z = d
  each_at (x ∷ l) (suc i) (one_more d h) z = each_at l i h z

  driver_may : (f : Option Destination) → MayTo D f → Each D (driver_in f)
  driver_may (Some d) h = one_more h no_more
  driver_may None h = no_more

  common_may : (l : List ℕ) → Each D l → D 0 → eqb (most_common l) 65535 ≡ false → D (most_common l)
  unfolding most_common
  common_may l h z e = go (first (length l) (top_at l)) e
    where
      go : (p : Option ℕ) → eqb (value_at l p) 65535 ≡ false → D (value_at l p)
      go (Some i) q = each_at l i h z
      go None q = absurd (true≢false q)

  place_may : (e : Entry) (l : List Entry) → D e.command.driver → MayAll D l → MayAll D (placed e l)
  unfolding placed change
  place_may e [] d h = one_entry d no_entry_lem
  place_may e (x ∷ l) d (one_entry c h) = go (of_kind e.kind x) (place_may e l d h)
    where
      go : (b : Bool) → MayAll D (change (of_kind e.kind) (λ x. e) e l) → MayAll D (pick b (e ∷ l) (x ∷ change (of_kind e.kind) (λ x. e) e l))
      go true k = one_entry d h
      go false k = one_entry c k

  merged_may : (g own : List Entry) → MayAll D g → MayAll D own → MayAll D (merged g own)
  unfolding merged
  merged_may [] own h k = k
  merged_may (e ∷ g) own (one_entry d h) k = merged_may g (placed e own) h (place_may e own d k)

  module _ (v : View) (may : MayView D v) (lives : Lives) (b : ℕ) (strips : Each (MayStrip D) (strips_or (get_or lives b None))) where
    own_may : (n : ℕ) → MayTo D (own_fader (here_of v lives b) n)
    unfolding own_fader
    own_may n = go (eqb (v.here b).live 65535)
      where
        go : (c : Bool) → MayTo D (pick c ((v.here b).fader n) (found_strip (strip_at n (strips_or (get_or lives b None)))))
        go true = may.faders b n
        go false = strip_may D n (strips_or (get_or lives b None)) strips

    to_may : (n : ℕ) → MayTo D (destination (rig_of v lives b) n)
    unfolding destination
    to_may n = go (v.globals.fader n) (may.globals n) (own_may n)
      where
        go : (g : Option Destination) → MayTo D g → MayTo D (own_fader (here_of v lives b) n) → MayTo D (precede g (own_fader (here_of v lives b) n))
        go (Some d) h k = h
        go None h k = k

    drivers_may : (n : ℕ) → Each D (own_drivers (here_of v lives b) n)
    unfolding own_drivers
    drivers_may zero = no_more
    drivers_may (suc n) =
        each_append (own_drivers (here_of v lives b) n) (driver_in (own_fader (here_of v lives b) (n + 1))) (drivers_may n)
        (driver_may (own_fader (here_of v lives b) (n + 1)) (own_may (n + 1)))

    bank_may : eqb (bank_driver (here_of v lives b)) 65535 ≡ false → D (bank_driver (here_of v lives b))
    unfolding bank_driver
    bank_may e = common_may (own_drivers (here_of v lives b) 16) (drivers_may 16) may.first e

    device_may : eqb (device (here_of v lives b)) 65535 ≡ false → D (device (here_of v lives b))
    unfolding device
    device_may e = go (eqb (v.here b).device 65535) refl e
      where
        go : (c : Bool) → eqb (v.here b).device 65535 ≡ c → eqb (pick c (bank_driver (here_of v lives b)) (v.here b).device) 65535 ≡ false →
            D (pick c (bank_driver (here_of v lives b)) (v.here b).device)
        go true q f = bank_may f
        go false q f = may.devices b q

    pub rig_may : MayRig D (rig_of v lives b)
    rig_may = record { to = to_may; device = device_may; common = bank_may; global = may.commands; own = may.own b }

-- ── what each event costs ──

abbrev pub tick_messages : Kept → ℕ
tick_messages k = length k.desk.line + (40 + end_cost k.lamps.flash.on k.lamps.flash.sent)

abbrev pub tick_calls : Kept → ℕ
tick_calls k = (2 * length k.desk.turns + length k.desk.line) + 33

abbrev pub lamp_entries : View → Kept → ℕ
lamp_entries v k = length (merged v.globals.transports (v.here k.site.bank).transports)

abbrev pub message_cost : Input → View → Kept → ℕ
message_cost (input.Midi e) v k = 89
message_cost input.Tick v k = tick_messages k
message_cost input.PushState v k = 40
message_cost input.PushTransport v k = lamp_entries v k
message_cost input.FlashBank v k = 49

abbrev pub call_cost : Input → View → Kept → ℕ
call_cost (input.Midi e) v k = 64
call_cost input.Tick v k = tick_calls k
call_cost input.PushState v k = 16
call_cost input.PushTransport v k = lamp_entries v k
call_cost input.FlashBank v k = 16

module _ {D : ℕ → Type 0} (R : Rules D) (v : View) (k : Kept) (may : MayView D v) (held : MayKept D k) where
  rig : (b : ℕ) → MayRig D (rig_at v k b)
  rig b = rig_may D v may k.site.lives b (held.lives b)

  pub here : MayRig D (rig_now v k)
  here = rig k.site.bank

  button_costs : (b : Bool) (now : Float) (note : ℕ) → Takes R 89 64 (on_button b v k now note)
  button_costs true now note = bind R (button_takes R (press_at v k now) here (λ b. (rig b).to) note) (λ p. done R)
  button_costs false now note = still R

  midi_takes : (e : Event) (now : Float) → Takes R 89 64 (on_midi e v k now)
  midi_takes (event.Fader ch x) now =
      up_to R (bind R (fader_takes R (rig_now v k) here.to ch x k.desk) (λ d. done R)) (omega arith) (omega arith)
  midi_takes (event.Encoder ch n) now = still R
  midi_takes (event.Button b) now = button_costs b.pressed now b.note
  midi_takes event.Other now = still R

  abbrev known : Option (List Strip)
  known = get_or k.site.lives k.site.bank None

  flash_takes : (due : Bool) (now : Float) (r : Refreshed) → Each (MayStrip D) r.strips →
      Takes R (end_cost k.lamps.flash.on k.lamps.flash.sent) 16 (flash_tick due v k now r)
  flash_takes due now r h =
      up_to R
      (bind R
      (tick_flash_takes R (with_strips r.strips (rig_now v k)) (with_may D (rig_now v k) here.to r.strips h) (targets_of k.silenced) k.desk.moves now k.lamps)
      (λ l. done R {a = after_tick due k now r l}))
      (omega arith) (omega arith)

  tick_takes : (due : Bool) (now : Float) → Takes R (tick_messages k) (tick_calls k) (tick_with due v k now)
  tick_takes due now =
      up_to R
      (bind_so R {f = λ t. refresh_due due known (rig_now v k) k.lamps (targets_of k.silenced) (drain (rig_now v k) k.desk t)} {g = flash_tick due v k now}
      (λ r. Each (MayStrip D) r.strips)
      (behind R (refresh_takes R (rig_now v k) here.to (may.devices k.site.bank) due known k.lamps (targets_of k.silenced))
      (drain_costs R (rig_now v k) here.to k.desk held.turns))
      (λ t. refresh-leaves R (rig_now v k) here.to (may.devices k.site.bank) (held.lives k.site.bank) due known k.lamps (targets_of k.silenced) (drain (rig_now v k) k.desk t))
      (flash_takes due now))
      (omega arith) (omega arith)

  pub act_takes : (e : Input) (now : Float) → Takes R (message_cost e v k) (call_cost e v k) (act e v k now)
  unfolding act tick push_transport
  act_takes (input.Midi e) now = midi_takes e now
  act_takes input.Tick now = tick_takes (is_due k.site.due k.site.at now) now
  act_takes input.PushState now = giving R (push_costs R (rig_now v k) here.to k.lamps (targets_of k.silenced))
  act_takes input.PushTransport now =
      giving R
      (bound_costs R (merged v.globals.transports (v.here k.site.bank).transports) []
      (merged_may D v.globals.transports (v.here k.site.bank).transports may.commands (may.own k.site.bank)))
  act_takes input.FlashBank now =
      bind R (flash_bank_takes R (rig_now v k) here.to (targets_of k.silenced) k.desk.moves now k.lamps) (λ l. done R)
