-- What each lookup finds. Definitions only. A part is a bank, by its number, or the globals, 255.
use Rattle.std.specs.Prelude.{ℕ, ◌≤◌, ◌≡◌, ◌⊎◌, Bool, ◌&&◌, List, [], ◌∷◌, eqb, leb, ltb, length, get_or, None, Option, Some}
use Rattle.std.specs.Bool.{beq}
use Rattle.base.specs.Words.{absent}
use Rattle.base.specs.Choice.{pick}
use Rattle.base.specs.Range.{all, count, every}
use Rattle.base.specs.First.{first, until, or_else}
use Rattle.base.specs.Keyed.{find, change}
use Rattle.float.specs.Leaf.{same_range}
use Rattle.profile.specs.Profile.{records, byte_at, half_at, double_at, is_kind, bank_count, in_globals}
use Rattle.lookup.specs.declared.Destination.{Destination}
use Rattle.lookup.specs.declared.Command.{Command}
use Rattle.lookup.specs.declared.Entry.{Entry}
use Rattle.lookup.specs.declared.Rec.{Rec}
use Rattle.lookup.specs.declared.Rec.TheVariants as act
use Rattle.lookup.specs.Gather.{gather}

-- ── names ──

-- "65535 is absent"
abbrev pub or_absent : Option ℕ → ℕ
or_absent None = absent
or_absent (Some n) = n

-- the name, if it is one
unfoldable pub named : ℕ → Option ℕ
named n = pick (eqb n absent) None (Some n)

-- ── records ──

-- record k is of the kind, with this byte 1, a part or a driver, and this byte 2
abbrev pub is_entry : List ℕ → ℕ → ℕ → ℕ → ℕ → Bool
is_entry s kind part number k = every (is_kind s kind k ∷ eqb (byte_at s k 1) part ∷ eqb (byte_at s k 2) number ∷ [])

-- record k is of a higher kind
abbrev pub is_past : List ℕ → ℕ → ℕ → Bool
is_past s kind k = ltb kind (byte_at s k 0)

-- how many records come before the first of a higher kind: "Kinds never fall through the file", so in an accepted profile all of the kind are among
-- them (`Known.in_reach`), and no lookup goes on behind them
unfoldable pub reach : List ℕ → ℕ → ℕ
reach s kind = until (records s) (is_past s kind)

-- the first such record
unfoldable pub entry : List ℕ → ℕ → ℕ → ℕ → Option ℕ
entry s kind part number = first (reach s kind) (is_entry s kind part number)

-- record k is of the kind and belongs to the part
abbrev pub of_part : List ℕ → ℕ → ℕ → ℕ → Bool
of_part s kind part k = is_kind s kind k && eqb (byte_at s k 1) part

-- a field of a record that may not be there, d if it is not
abbrev pub half_of : List ℕ → ℕ → ℕ → Option ℕ → ℕ
half_of s o d (Some k) = half_at s k o
half_of s o d None = d

abbrev pub byte_of : List ℕ → ℕ → ℕ → Option ℕ → ℕ
byte_of s o d (Some k) = byte_at s k o
byte_of s o d None = d

-- ── settings: the first record ──

abbrev pub positions_of : List ℕ → Bool
positions_of s = eqb (byte_at s 0 2) 1

abbrev pub remember_of : List ℕ → Bool
remember_of s = eqb (byte_at s 0 3) 1

-- ── banks ──

-- the record of bank b: its byte 2 is unused, 0
abbrev pub bank_at : List ℕ → ℕ → Option ℕ
bank_at s b = entry s 1 b 0

-- name, own driver and `live`, 65535 where there is none
abbrev pub name_of : List ℕ → ℕ → ℕ
name_of s b = half_of s 4 absent (bank_at s b)

abbrev pub device_of : List ℕ → ℕ → ℕ
device_of s b = half_of s 6 absent (bank_at s b)

abbrev pub live_of : List ℕ → ℕ → ℕ
live_of s b = half_of s 8 absent (bank_at s b)

-- what `rec` does: 0 absent, 1 scene, 2 other
abbrev pub rec_of : List ℕ → ℕ → ℕ
rec_of s b = byte_of s 10 0 (bank_at s b)

abbrev pub rec_named : ℕ → Option Rec
rec_named n = pick (eqb n 0) None (Some (pick (eqb n 1) act.Scene (act.Other n)))

-- `select` jumps to a bank
abbrev pub select_of : List ℕ → ℕ → Bool
select_of s b = eqb (byte_of s 11 0 (bank_at s b)) 1

-- the first bank of the name
unfoldable pub bank_named : List ℕ → ℕ → Option ℕ
bank_named s name = first (bank_count s) (λ b. eqb (name_of s b) name)

-- ── faders and encoders ──

-- what record k, a fader or an encoder, is bound to; a driver is 0 to 15, so its low byte is all of it
abbrev pub dest_at : List ℕ → ℕ → Destination
dest_at s k =
    record {
      driver = byte_at s k 4;
      target = half_at s k 6;
      label = half_at s k 8;
      group = half_at s k 10;
      mute = half_at s k 12;
      takeover = eqb (byte_at s k 3) 1;
      low = double_at s k 16;
      high = double_at s k 24;
    }

abbrev pub found_at : List ℕ → Option ℕ → Option Destination
found_at s (Some k) = Some (dest_at s k)
found_at s None = None

-- the control of the part with the number: kind 2 is a fader, 3 an encoder
unfoldable pub control_of : List ℕ → ℕ → ℕ → ℕ → Option Destination
control_of s kind part number = found_at s (entry s kind part number)

abbrev pub fader_of : List ℕ → ℕ → ℕ → Option Destination
fader_of s part number = control_of s 2 part number

abbrev pub encoder_of : List ℕ → ℕ → ℕ → Option Destination
encoder_of s part number = control_of s 3 part number

-- "Globals precede the bank": the first of the two that is there
abbrev pub precede : Option Destination → Option Destination → Option Destination
precede (Some d) f = Some d
precede None f = f

-- the record of the encoder in reach: the globals' or else the bank's
unfoldable pub encoder_place : List ℕ → ℕ → ℕ → Option ℕ
encoder_place s bank number = or_else (entry s 3 in_globals number) (entry s 3 bank number)

-- Rust's `==` on every field, f64 by its own equality
unfoldable pub same_dest : Destination → Destination → Bool
same_dest a b =
    every
    (eqb a.driver b.driver
    ∷ eqb a.target b.target
    ∷ eqb a.label b.label
    ∷ eqb a.group b.group
    ∷ eqb a.mute b.mute
    ∷ beq a.takeover b.takeover
    ∷ same_range a.low a.high b.low b.high
    ∷ [])

-- ── scenes ──

-- the names of the bank's scenes, in file order
unfoldable pub scenes_of : List ℕ → ℕ → List ℕ
scenes_of s b = gather (reach s 4) (of_part s 4 b) (λ k. half_at s k 4)

-- the first position of a name in a list of names
unfoldable pub position : ℕ → List ℕ → Option ℕ
position name l = first (length l) (λ i. eqb (get_or l i absent) name)

-- ── transport ──

-- what record k, a transport, runs
abbrev pub command_at : List ℕ → ℕ → Command
command_at s k = record { driver = byte_at s k 4; target = half_at s k 6; command = half_at s k 8 }

abbrev pub entry_at : List ℕ → ℕ → Entry
entry_at s k = record { kind = byte_at s k 2; command = command_at s k }

-- the part's transport buttons, in file order
unfoldable pub transports_of : List ℕ → ℕ → List Entry
transports_of s part = gather (reach s 5) (of_part s 5 part) (entry_at s)

abbrev pub of_kind : ℕ → Entry → Bool
of_kind kind e = eqb e.kind kind

abbrev pub bound_by : Option Entry → Option Command
bound_by (Some e) = Some e.command
bound_by None = None

-- the first of its kind in a list of transport buttons
unfoldable pub transport_of : ℕ → List Entry → Option Command
transport_of kind l = bound_by (find (of_kind kind) l)

-- "Globals precede the bank"
abbrev pub before : Option Command → Option Command → Option Command
before (Some c) b = Some c
before None b = b

-- "a global entry replaces the first of its kind there, or else comes behind"
unfoldable pub place : Entry → List Entry → List Entry
place e l = change (of_kind e.kind) (λ x. e) e l

-- "Transport lamps come in the bank's order": each global entry in its order is placed in the bank's list
unfoldable pub merged : List Entry → List Entry → List Entry
merged [] own = own
merged (e ∷ globals) own = merged globals (place e own)

-- ── default buttons ──

-- the command of the first default button of the driver and the kind, 65535 if it has none
abbrev pub button_of : List ℕ → ℕ → ℕ → ℕ
button_of s driver kind = half_of s 4 absent (entry s 6 driver kind)

-- ── the driver that most faders have ──

-- how often x is in the list
unfoldable pub times : ℕ → List ℕ → ℕ
times x l = count (length l) (λ i. eqb (get_or l i 0) x)

-- no one in the list is there more often than the one at i
unfoldable pub top_at : List ℕ → ℕ → Bool
top_at l i = all (length l) (λ j. leb (times (get_or l j 0) l) (times (get_or l i 0) l))

abbrev pub value_at : List ℕ → Option ℕ → ℕ
value_at l (Some i) = get_or l i 0
value_at l None = absent

-- a driver's number, or that of none
abbrev pub MayBeDriver : ℕ → Type 0
MayBeDriver n = (n ≤ 255) ⊎ (n ≡ absent)

-- "most_common (first of the most frequent)"; 65535 if the list is empty
unfoldable pub most_common : List ℕ → ℕ
most_common l = value_at l (first (length l) (top_at l))
