-- Mute and solo, on gear with and without a mute of its own: `mute`, `solo`, `set_mute`, and number 11. Definitions only.
use Rattle.std.specs.Prelude.{ℕ, zero, suc, ◌+◌, List, [], Bool, true, false, not, eqb, None, Option, Some}
use Rattle.std.specs.Bool.{beq}
use Rattle.base.specs.Choice.{pick}
use Rattle.base.specs.Keyed.{change}
use Rattle.float.specs.Leaf.{f0}
use Rattle.lookup.specs.declared.Destination.{Destination}
use Rattle.drivers.specs.Talk.{Talk, Got, Act, got, next, ◌>>=◌, toggle_of, write_of}
use Rattle.session.specs.Session.{SilencedLevel, targets_of, is_silenced, level_before, insert_level, remove_level, was_muted, note_muted, none_noted, solo_to}
use Rattle.session.specs.declared.Lamps.{Lamps}
use Rattle.definition.specs.Rig.{Rig, destination}
use Rattle.definition.specs.Levels.{read, write, read_mute, or_zero, kept_by, has_mute}
use Rattle.definition.specs.Lamps.{push_state, muted_to}

-- ── gear without a mute ──

-- what was silenced is handed back
unfoldable pub hand_back : Destination → List SilencedLevel → Act (List SilencedLevel)
hand_back d s t = got (remove_level (kept_by d) s) (write d (or_zero (level_before (kept_by d) s)) t).talk

-- the level is kept, or 0 where it cannot be read
unfoldable pub keep_level : Destination → List SilencedLevel → Act (List SilencedLevel)
keep_level d s = read d >>= λ l. got (insert_level (kept_by d) (or_zero l) s)

-- "`mute` writes raw 0"
unfoldable pub zeroed : Destination → List SilencedLevel → Act (List SilencedLevel)
zeroed d s = keep_level d s >>= λ k t. got k (write_of d.driver d.target f0 t).talk

-- ── mute ──

abbrev pub mute_level : Bool → Destination → List SilencedLevel → Act (List SilencedLevel)
mute_level true d s = hand_back d s
mute_level false d s = zeroed d s

abbrev pub mute_if : Bool → Destination → List SilencedLevel → Act (List SilencedLevel)
mute_if true d s t = got s (toggle_of d.driver d.mute t).talk
mute_if false d s t = mute_level (is_silenced (kept_by d) (targets_of s)) d s t

abbrev pub mute_to : Option Destination → Rig → Lamps → List SilencedLevel → Act (List SilencedLevel)
mute_to (Some d) r l s t = next (mute_if (has_mute d) d s t) (λ k u. got k (push_state r l (targets_of k) u))
mute_to None r l s t = got s t

-- `mute`
unfoldable pub mute : Rig → ℕ → Lamps → List SilencedLevel → Act (List SilencedLevel)
mute r n l s = mute_to (destination r n) r l s

-- ── solo ──

abbrev pub toggle_if : Option Bool → Bool → Destination → Talk → Talk
toggle_if None muted d t = t
toggle_if (Some b) muted d t = pick (beq b muted) t (toggle_of d.driver d.mute t).talk

abbrev pub set_after : Bool → Destination → Got (Option Bool) → Talk
set_after muted d r = toggle_if r.value muted d r.talk

-- `set_mute`: one refused write must not abort the rest of a solo
unfoldable pub set_mute : Destination → Bool → Talk → Talk
set_mute d muted t = set_after muted d (read_mute d t)

-- the fader's destination, if it is of the group
abbrev pub in_group : ℕ → Option Destination → Option Destination
in_group group (Some d) = pick (eqb d.group group) (Some d) None
in_group group None = None

unfoldable pub peer : Rig → ℕ → ℕ → Option Destination
peer r group n = in_group group (destination r n)

abbrev pub back_if : Bool → Destination → List SilencedLevel → Act (List SilencedLevel)
back_if true d s = hand_back d s
back_if false d s = got s

-- off: a peer goes back to what it was before the solo
abbrev pub off_if : Bool → Destination → Bool → List SilencedLevel → Act (List SilencedLevel)
off_if true d was s t = got s (set_mute d was t)
off_if false d was s t = back_if (is_silenced (kept_by d) (targets_of s)) d s t

abbrev pub off_to : Option Destination → Bool → List SilencedLevel → Act (List SilencedLevel)
off_to (Some d) was s = off_if (has_mute d) d was s
off_to None was s = got s

-- faders 1 to n, by rising number; `of` has the peers among them
unfoldable pub solo_off : (ℕ → Option Destination) → Lamps → ℕ → List SilencedLevel → Act (List SilencedLevel)
solo_off of l zero s t = got s t
solo_off of l (suc n) s t = next (solo_off of l n s t) (λ k. off_to (of (n + 1)) (was_muted (n + 1) l) k)

-- on: what each peer's mute is before it
unfoldable pub note_mutes : (ℕ → Option Destination) → List ℕ → ℕ → Lamps → Act Lamps
note_mutes of ts zero l t = got (none_noted l) t
note_mutes of ts (suc n) l t = next (note_mutes of ts n l t) (λ k u. next (muted_to (of (n + 1)) ts u) (λ b. got (note_muted (n + 1) b k)))

-- a second solo keeps what the first noted
abbrev pub note_if : Bool → (ℕ → Option Destination) → List ℕ → Lamps → Act Lamps
note_if true of ts l t = note_mutes of ts 16 l t
note_if false of ts l t = got l t

-- "`solo` writes low": its level is kept, unless it is already
abbrev pub silence_if : Bool → Destination → List SilencedLevel → Act (List SilencedLevel)
silence_if true d s t = got s (write d f0 t).talk
silence_if false d s t = next (keep_level d s t) (λ k u. got k (write d f0 u).talk)

abbrev pub on_level : Bool → Destination → List SilencedLevel → Act (List SilencedLevel)
on_level true d s = silence_if (is_silenced (kept_by d) (targets_of s)) d s
on_level false d s = back_if (is_silenced (kept_by d) (targets_of s)) d s

abbrev pub on_if : Bool → Destination → Bool → List SilencedLevel → Act (List SilencedLevel)
on_if true d silence s t = got s (set_mute d silence t)
on_if false d silence s t = on_level silence d s t

abbrev pub on_to : Option Destination → Bool → List SilencedLevel → Act (List SilencedLevel)
on_to (Some d) silence s = on_if (has_mute d) d silence s
on_to None silence s = got s

-- every peer but the fader itself is silenced
unfoldable pub solo_on : (ℕ → Option Destination) → ℕ → ℕ → List SilencedLevel → Act (List SilencedLevel)
solo_on of fader zero s t = got s t
solo_on of fader (suc n) s t = next (solo_on of fader n s t) (λ k. on_to (of (n + 1)) (not (eqb (n + 1) fader)) k)

-- the lamps' state and the silenced levels after a solo
pub record Soloed : Type 0 where
  pub lamps : Lamps
  pub silenced : List SilencedLevel

abbrev pub soloed : Rig → Lamps → List SilencedLevel → Act Soloed
soloed r l s t = got (record { lamps = l; silenced = s }) (push_state r l (targets_of s) t)

abbrev pub turn_off : Rig → ℕ → Lamps → List SilencedLevel → Act Soloed
turn_off r group l s = solo_off (peer r group) l 16 s >>= λ k. soloed r (solo_to 0 (none_noted l)) k

abbrev pub turn_on : Rig → ℕ → ℕ → Lamps → List SilencedLevel → Act Soloed
turn_on r group fader l s =
    note_if (eqb l.soloed 0) (peer r group) (targets_of s) l >>= λ n. solo_on (peer r group) fader 16 s >>= λ k. soloed r (solo_to fader n) k

abbrev pub solo_if : Bool → Rig → ℕ → ℕ → Lamps → List SilencedLevel → Act Soloed
solo_if true r group fader l s = turn_off r group l s
solo_if false r group fader l s = turn_on r group fader l s

abbrev pub solo_with : Option Destination → Rig → ℕ → Lamps → List SilencedLevel → Act Soloed
solo_with (Some d) r fader l s t = solo_if (eqb l.soloed fader) r d.group fader l s t
solo_with None r fader l s t = got (record { lamps = l; silenced = s }) t

-- `solo`: only this fader's destination plays, within its own group
unfoldable pub solo : Rig → ℕ → Lamps → List SilencedLevel → Act Soloed
solo r n l s = solo_with (destination r n) r n l s

-- ── number 11 ──

abbrev pub is_same : ℕ → ℕ → Bool
is_same a b = eqb b a

-- the target joins those that are added, unless it is silenced or added already
abbrev pub add_target : Bool → ℕ → List ℕ → List ℕ → List ℕ
add_target true target ts l = l
add_target false target ts l = pick (is_silenced target ts) l (change (is_same target) (λ x. x) target l)

abbrev pub adding : Option Destination → List ℕ → List ℕ → List ℕ
adding (Some d) ts l = add_target (has_mute d) (kept_by d) ts l
adding None ts l = l

-- the targets that the peers 1 to n of a fader add to those silenced, each once
unfoldable pub solo_adds : (ℕ → Option Destination) → ℕ → List ℕ → ℕ → List ℕ
solo_adds of fader ts zero = []
solo_adds of fader ts (suc n) = adding (pick (eqb (n + 1) fader) None (of (n + 1))) ts (solo_adds of fader ts n)

abbrev pub adds_to : Option Destination → Rig → ℕ → Lamps → List ℕ → List ℕ
adds_to (Some d) r fader l ts = pick (eqb l.soloed fader) [] (solo_adds (peer r d.group) fader ts 16)
adds_to None r fader l ts = []

-- "the distinct others this press adds at any moment"
unfoldable pub added_by_solo : Rig → ℕ → Lamps → List ℕ → List ℕ
added_by_solo r fader l ts = adds_to (destination r fader) r fader l ts

unfoldable pub added_by_mute : Rig → ℕ → List ℕ → List ℕ
added_by_mute r fader ts = adding (destination r fader) ts []
