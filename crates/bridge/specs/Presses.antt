-- A press, where the handlers are handed the bank that is current after it. Definitions only.
use Rattle.std.specs.Prelude.{ℕ, ◌+◌, ◌≡◌, true, false, ◌&&◌, ◌||◌, List, [], eqb, ltb, Float}
use Rattle.base.specs.Choice.{pick}
use Rattle.protocol.specs.Protocol.{kind_of, channel_of}
use Rattle.profile.specs.Profile.{bank_count}
use Rattle.lookup.specs.Lookup.{select_of}
use Rattle.drivers.specs.Talk.{Talk, Act, got}
use Rattle.session.specs.Session.{SilencedLevel, targets_of}
use Rattle.session.specs.declared.Lamps.{Lamps}
use Rattle.session.specs.declared.Moves.{Moves}
use Rattle.definition.specs.Rig.{Rig}
use Rattle.definition.specs.Banks.{next_bank}
use Rattle.definition.specs.Muting.{added_by_solo, added_by_mute}
use Rattle.definition.specs.Buttons.{Press, Pressed, pressed, or_first}
use Rattle.surface.specs.declared.panel.Panel.{Panel}
use Rattle.rig.specs.Seen.{rig_in}
use Rattle.rig.specs.declared.current.Current.{Current}
use Rattle.bridge.specs.declared.buttons.Pressed as declared
use Rattle.protocol.specs.ButtonKinds as kinds

-- ── the bank after a press ──

-- a selection: a bank that the profile does not have is not selected
unfoldable pub selected_by : List ℕ → ℕ → ℕ → ℕ
selected_by p bank ch = pick (select_of p bank && ltb ch (bank_count p)) ch bank

-- by the kind of the note: the arrows of the banks, a selection, and else the bank stays
unfoldable pub bank_after : List ℕ → ℕ → ℕ → ℕ
bank_after p bank note =
    pick (eqb (kind_of note) kinds.bank_right || eqb (kind_of note) kinds.arrow_down) (next_bank true (bank_count p) bank)
    (pick (eqb (kind_of note) kinds.bank_left || eqb (kind_of note) kinds.arrow_up) (next_bank false (bank_count p) bank)
    (pick (eqb (kind_of note) kinds.select) (selected_by p bank (or_first (channel_of note))) bank))

-- ── what a press is handed, and what it leaves ──

abbrev pub press_with : Rig → (ℕ → Rig) → ℕ → Moves → Float → Lamps → List SilencedLevel → Press
press_with r rig_at banks m now l s =
    record { rig = r; rig_at = rig_at; banks = banks; moves = m; now = now; lamps = l; silenced = s }

-- what the definition sees of what is left, with the lamps' state l and the silenced levels s
abbrev pub seen_pressed : declared.Pressed → Lamps → List SilencedLevel → Pressed
seen_pressed x l s = pressed x.bank l s x.moved x.saved

-- a press in the current bank that leaves the silenced levels alone, whatever they are: a is the panel before it, b after it
abbrev pub PressesHere : (Press → Act Pressed) → Current → Panel → Panel → Talk → declared.Pressed → Talk → Type 0
PressesHere f here a b t x u =
    (rig_at : ℕ → Rig) (s : List SilencedLevel) → targets_of s ≡ a.silenced_targets.now →
    got (seen_pressed x b.lamps s) u ≡ f (press_with (rig_in here) rig_at (bank_count here.profile.now) a.moves.now a.time a.lamps s) t

-- the same where the press may select the bank `there`
abbrev pub PressesThere : (Press → Act Pressed) → Current → Current → Panel → Panel → Talk → declared.Pressed → Talk → Type 0
PressesThere f here there a b t x u =
    (rig_at : ℕ → Rig) (s : List SilencedLevel) → targets_of s ≡ a.silenced_targets.now → rig_at here.bank ≡ rig_in here → rig_at there.bank ≡ rig_in there →
    got (seen_pressed x b.lamps s) u ≡ f (press_with (rig_in here) rig_at (bank_count here.profile.now) a.moves.now a.time a.lamps s) t

-- any press; l and s are the lamps' state and what is silenced before it, m and k after it
abbrev pub Presses : (Press → Act Pressed) → Current → Current → Lamps → List SilencedLevel → Moves → Float → Talk → declared.Pressed → Lamps → List SilencedLevel → Talk → Type 0
Presses f here there l s moves now t x m k u =
    (rig_at : ℕ → Rig) → rig_at here.bank ≡ rig_in here → rig_at there.bank ≡ rig_in there →
    got (seen_pressed x m k) u ≡ f (press_with (rig_in here) rig_at (bank_count here.profile.now) moves now l s) t

-- ── mute and solo ──

-- the targets that a press adds to those silenced, by its note
unfoldable pub added_of : Current → Lamps → ℕ → List ℕ → List ℕ
added_of here l note ts =
    pick (eqb (kind_of note) kinds.mute) (added_by_mute (rig_in here) (or_first (channel_of note) + 1) ts)
    (pick (eqb (kind_of note) kinds.solo) (added_by_solo (rig_in here) (or_first (channel_of note) + 1) l ts) [])
