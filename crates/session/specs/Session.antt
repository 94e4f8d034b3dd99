-- What the bridge keeps between two events: the port of `struct Bridge`. A list that the Rust grows is an array with a count here; what the definitions see
-- of it is the list of its first `count` elements, and what stands behind is free. A map by (bank, channel) is an array by bank * 16 + channel, in code and
-- definition alike. Definitions only.
use Rattle.std.specs.Prelude.{ℕ, zero, suc, ◌+◌, ◌-◌, ◌*◌, ◌≤◌, ◌<◌, ◌≡◌, List, [], ◌∷◌, map, Bool, true, false, ◌&&◌, not, eqb, leb, ltb, length, get_or, take, set, replicate, ℤ, pos, ◌+ℤ◌, Float, None, Option, Some}
use Rattle.std.specs.Int.{w32}
use Rattle.std.proofs.Common.{SFits}
use Rattle.std.specs.Float.{nan}
use Rattle.base.specs.Choice.{pick}
use Rattle.base.specs.Range.{all, every}
use Rattle.base.specs.Keyed.{find, any_of, all_of, change, keep, beside}
use Rattle.float.specs.Leaf.{f0, f1}
use Rattle.profile.specs.Profile.{records, is_kind}
use Rattle.lookup.specs.Lookup.{dest_at, same_dest}
use Rattle.lookup.specs.declared.Destination.{Destination}
use Rattle.drivers.specs.declared.LiveFader.{LiveFader}
use Rattle.session.specs.declared.Strip.{Strip}
use Rattle.session.specs.declared.Strips.{Strips}
use Rattle.session.specs.declared.Live.{Live}
use Rattle.session.specs.declared.Marks.{Marks}
use Rattle.session.specs.declared.Moves.{Moves}
use Rattle.session.specs.declared.Move.{Move}
use Rattle.session.specs.declared.Line.{Line}
use Rattle.session.specs.declared.Turns.{Turns}
use Rattle.session.specs.declared.Silenced.{Silenced}
use Rattle.session.specs.declared.Flash.{Flash}
use Rattle.session.specs.declared.Lamps.{Lamps}
use Rattle.session.specs.declared.Session.{Session}

-- ── marks: `took_over` ──

unfoldable pub is_marked : ℕ → Marks → Bool
is_marked k m = get_or m.on k false

unfoldable pub mark_at : ℕ → Marks → Marks
mark_at k m = record { on = set m.on k true }

unfoldable pub no_marks : Marks
no_marks = record { on = replicate 256 false }

-- the first n channels of a bank lose their marks
unfoldable pub unmark_up_to : ℕ → ℕ → List Bool → List Bool
unmark_up_to bank zero l = l
unmark_up_to bank (suc n) l = set (unmark_up_to bank n l) (bank * 16 + n) false

-- "a changed live list clears its bank's"
unfoldable pub unmark_bank : ℕ → Marks → Marks
unmark_bank bank m = record { on = unmark_up_to bank 16 m.on }

-- ── last moves: `last_seen` ──

abbrev pub level_if : Bool → Float → Option Float
level_if true v = Some v
level_if false v = None

unfoldable pub last_move : ℕ → Moves → Option Float
last_move k m = level_if (get_or m.known k false) (get_or m.level k nan)

unfoldable pub moved_to : ℕ → Float → Moves → Moves
moved_to k v m = record { known = set m.known k true; level = set m.level k v }

-- ── the line of waiting moves: `pending` ──

abbrev pub seen_line : Line → List Move
seen_line l = take l.count l.list

abbrev pub is_channel : ℕ → Move → Bool
is_channel ch m = eqb m.channel ch

abbrev pub move_of : ℕ → Float → Move
move_of ch v = record { channel = ch; level = v }

-- what stands past an array's end
abbrev pub no_move : Move
no_move = move_of 0 nan

-- "channels at most 15", and two moves of one channel
abbrev pub low_channel : Move → Bool
low_channel m = leb m.channel 15

abbrev pub same_channel : Move → Move → Bool
same_channel a b = eqb a.channel b.channel

-- "takes its channel's place in the line, the end if it has none, and replaces the move there"
unfoldable pub place_move : ℕ → Float → List Move → List Move
place_move ch v l = change (is_channel ch) (λ m. move_of ch v) (move_of ch v) l

-- there is a place for the channel
unfoldable pub has_place : ℕ → List Move → Bool
has_place ch l = pick (any_of (is_channel ch) l) true (ltb (length l) 16)

-- ── the encoders' sums: `nudges` ──

-- a sum that waits, and the destination to which its encoder is wired
pub record Turn : Type 0 where
  pub dest : Destination
  pub sum : ℤ

abbrev pub first_turn : Destination → ℤ → Turn
first_turn d n = record { dest = d; sum = n }

-- the session names the destination by the profile's record that wires an encoder to it
abbrev pub turn_at : List ℕ → ℕ → ℤ → Turn
turn_at p k n = first_turn (dest_at p k) n

-- the first n of both arrays
abbrev pub turns_up_to : List ℕ → ℕ → List ℕ → List ℤ → List Turn
turns_up_to p n ks ns = beside (turn_at p) (take n ks) (take n ns)

abbrev pub seen_turns : List ℕ → Turns → List Turn
seen_turns p t = turns_up_to p t.count t.records t.sums

-- record k of the profile is an encoder's
abbrev pub is_encoder : List ℕ → ℕ → Bool
is_encoder p k = ltb k (records p) && is_kind p 3 k

-- it wires its encoder to this destination
abbrev pub wires_to : List ℕ → Destination → ℕ → Bool
wires_to p d k = same_dest (dest_at p k) d

-- the same destination, by Rust's ==; the one first turned stays in the list
abbrev pub is_dest : Destination → Turn → Bool
is_dest d e = same_dest e.dest d

abbrev pub same_turn : Turn → Turn → Bool
same_turn a b = same_dest a.dest b.dest

abbrev pub add_to : ℤ → Turn → Turn
add_to n e = record { dest = e.dest; sum = e.sum +ℤ n }

-- "A turn adds to its destination's sum"
unfoldable pub turn : Destination → ℤ → List Turn → List Turn
turn d n l = change (is_dest d) (add_to n) (first_turn d n) l

-- the first n sums are within their array and of encoders, as is the one of record k, which has a place there; and no sum overflows by the turn
pub record RoomToTurn (p ks : List ℕ) (ns : List ℤ) (n k : ℕ) (delta : ℤ) : Type 0 where
  pub count : n ≤ 136
  pub encoders : all_of (is_encoder p) (take n ks) ≡ true
  pub encoder : is_encoder p k ≡ true
  pub place : pick (any_of (wires_to p (dest_at p k)) (take n ks)) true (ltb n 136) ≡ true
  pub sums : (i : ℕ) → i < n → SFits w32 (get_or ns i (pos 0) +ℤ delta)

-- ── silenced levels: `value_before`, kept by target alone ──

-- a target and the level that it had before it was silenced
pub record SilencedLevel : Type 0 where
  pub target : ℕ
  pub level : Float

abbrev pub silenced_at : ℕ → Float → SilencedLevel
silenced_at target v = record { target = target; level = v }

-- the first n of both arrays
abbrev pub silenced_up_to : ℕ → List ℕ → List Float → List SilencedLevel
silenced_up_to n ts ls = beside silenced_at (take n ts) (take n ls)

abbrev pub seen_silenced : Silenced → List SilencedLevel
seen_silenced s = silenced_up_to s.count s.targets s.levels

-- the targets alone: what the lamps need to know
abbrev pub targets_of : List SilencedLevel → List ℕ
targets_of l = map (λ e. e.target) l

abbrev pub same_target : ℕ → ℕ → Bool
same_target target t = eqb t target

abbrev pub is_target : ℕ → SilencedLevel → Bool
is_target target e = eqb e.target target

abbrev pub other_target : ℕ → SilencedLevel → Bool
other_target target e = not (eqb e.target target)

-- the target is one of those silenced
unfoldable pub is_silenced : ℕ → List ℕ → Bool
is_silenced target l = any_of (same_target target) l

abbrev pub level_for : Option SilencedLevel → Option Float
level_for None = None
level_for (Some e) = Some e.level

unfoldable pub level_before : ℕ → List SilencedLevel → Option Float
level_before target l = level_for (find (is_target target) l)

unfoldable pub insert_level : ℕ → Float → List SilencedLevel → List SilencedLevel
insert_level target v l = change (is_target target) (λ e. silenced_at target v) (silenced_at target v) l

-- there is a place for the target
unfoldable pub has_room : ℕ → List ℕ → Bool
has_room target l = pick (any_of (same_target target) l) true (ltb (length l) 256)

unfoldable pub remove_level : ℕ → List SilencedLevel → List SilencedLevel
remove_level target l = keep (other_target target) l

-- ── live lists ──

-- the faders that a bank's driver handed over last: none while it was not asked
abbrev pub strips_if : Bool → List Strip → Option (List Strip)
strips_if true l = Some l
strips_if false l = None

unfoldable pub seen_strips : Strips → Option (List Strip)
seen_strips s = strips_if s.known (take s.count s.list)

abbrev pub strips_or : Option (List Strip) → List Strip
strips_or None = []
strips_or (Some l) = l

abbrev pub is_strip : ℕ → Strip → Bool
is_strip number s = eqb s.number number

-- "live numbers 1 to 8, live drivers at most 15", and two strips of one number
abbrev pub good_strip : Strip → Bool
good_strip s = every (leb 1 s.number ∷ leb s.number 8 ∷ leb s.driver 15 ∷ [])

abbrev pub same_number : Strip → Strip → Bool
same_number a b = eqb a.number b.number

-- the strip of a number, which a list has once at most
unfoldable pub strip_at : ℕ → List Strip → Option Strip
strip_at number l = find (is_strip number) l

-- The driver says nothing of takeover and range: a live fader has `Destination::new`'s, takeover and 0 to 1
unfoldable pub strip_dest : Strip → Destination
strip_dest s =
    record {
      driver = s.driver;
      target = s.target;
      label = s.label;
      group = s.group;
      mute = s.mute;
      takeover = true;
      low = f0;
      high = f1;
    }

-- without a label it is called by its target
abbrev pub label_of : LiveFader → ℕ
label_of f = pick (eqb f.label 0) f.target f.label

-- a live fader as its driver handed it over
unfoldable pub strip_of : ℕ → LiveFader → Strip
strip_of driver f =
    record {
      number = f.number;
      driver = driver;
      target = f.target;
      label = label_of f;
      group = f.group;
      mute = f.mute;
    }

-- the surface has eight faders: "live numbers 1 to 8"
abbrev pub on_surface : LiveFader → Bool
on_surface f = leb 1 f.number && leb f.number 8

-- the strips of a list that was handed over. Its numbers rise strictly, so that there are at most eight of them and `take` cuts nothing off
unfoldable pub strips_of : ℕ → List LiveFader → List Strip
strips_of driver l = take 8 (map (strip_of driver) (keep on_surface l))

-- two strips of one number are the same, field by field
unfoldable pub same_strip : Strip → Strip → Bool
same_strip a b =
    eqb a.driver b.driver
    && (eqb a.target b.target
    && (eqb a.label b.label && (eqb a.group b.group && eqb a.mute b.mute)))

abbrev pub same_at : Option Strip → Option Strip → Bool
same_at None None = true
same_at None (Some b) = false
same_at (Some a) None = false
same_at (Some a) (Some b) = same_strip a b

-- two lists are equal as maps by number: the order in which they stand does not count
unfoldable pub same_strips : List Strip → List Strip → Bool
same_strips a b = all 8 (λ i. same_at (strip_at (i + 1) a) (strip_at (i + 1) b))

abbrev pub found_strip : Option Strip → Option Destination
found_strip None = None
found_strip (Some s) = Some (strip_dest s)

abbrev pub no_strip : Strip
no_strip = record { number = 0; driver = 0; target = 0; label = 0; group = 0; mute = 0 }

abbrev pub no_strips : Strips
no_strips = record { known = false; list = replicate 8 no_strip; count = 0 }

-- the live list of a bank, and one that takes its place
unfoldable pub strips_at : ℕ → Live → Strips
strips_at bank l = get_or l.banks bank (record { known = false; list = []; count = 0 })

unfoldable pub strips_for : ℕ → Strips → Live → Live
strips_for bank s l = record { banks = set l.banks bank s }

-- ── solo, scenes and the flash ──

unfoldable pub was_muted : ℕ → Lamps → Bool
was_muted number l = get_or l.before (number - 1) false

abbrev pub lamps_of : ℕ → ℕ → List Bool → List Bool → List ℕ → Flash → Lamps
lamps_of soloed loaded before known scenes flash =
    record { soloed = soloed; loaded = loaded; before = before; known = known; scenes = scenes; flash = flash }

-- what a fader's mute was before the solo
unfoldable pub note_muted : ℕ → Bool → Lamps → Lamps
note_muted number b l = lamps_of l.soloed l.loaded (set l.before (number - 1) b) l.known l.scenes l.flash

unfoldable pub none_noted : Lamps → Lamps
none_noted l = lamps_of l.soloed l.loaded (replicate 16 false) l.known l.scenes l.flash

-- fader 1 to 16 is soloed, or none, 0
unfoldable pub solo_to : ℕ → Lamps → Lamps
solo_to fader l = lamps_of fader l.loaded l.before l.known l.scenes l.flash

-- the fader whose scene was loaded last
unfoldable pub loaded_by : ℕ → Lamps → Lamps
loaded_by fader l = lamps_of l.soloed fader l.before l.known l.scenes l.flash

abbrev pub place_if : Bool → ℕ → Option ℕ
place_if true i = Some i
place_if false i = None

-- `scene_index`: where a bank's device is in its scene list, if that is known
unfoldable pub scene_at : ℕ → Lamps → Option ℕ
scene_at bank l = place_if (get_or l.known bank false) (get_or l.scenes bank 0)

-- `set_scene_index`
unfoldable pub scene_to : ℕ → ℕ → Lamps → Lamps
scene_to bank i l = lamps_of l.soloed l.loaded l.before (set l.known bank true) (set l.scenes bank i) l.flash

unfoldable pub scene_unknown : ℕ → Lamps → Lamps
scene_unknown bank l = lamps_of l.soloed l.loaded l.before (set l.known bank false) l.scenes l.flash

unfoldable pub flashing : Flash → Lamps → Lamps
flashing f l = lamps_of l.soloed l.loaded l.before l.known l.scenes f

unfoldable pub no_flash : Flash
no_flash = record { on = false; start = f0; row = 0; base = 0; column = 0; sent = 0 }

unfoldable pub none_lit : Lamps
none_lit =
    lamps_of 0 0 (replicate 16 false) (replicate 16 false) (replicate 16 0) (record { on = false; start = f0; row = 0; base = 0; column = 0; sent = 0 })

-- ── a fresh session: "what `Bridge::new` makes, no driver opened" ──

unfoldable pub fresh_session : Session
fresh_session =
    record {
      bank = 0;
      livedue = true;
      liveat = f0;
      live = record { banks = replicate 16 no_strips };
      marks = record { on = replicate 256 false };
      moves = record { known = replicate 256 false; level = replicate 256 f0 };
      line = record { list = replicate 16 (move_of 0 f0); count = 0 };
      turns = record { records = replicate 136 0; sums = replicate 136 (pos 0); count = 0 };
      lamps = lamps_of 0 0 (replicate 16 false) (replicate 16 false) (replicate 16 0) (record { on = false; start = f0; row = 0; base = 0; column = 0; sent = 0 });
      silenced = record { targets = replicate 256 0; levels = replicate 256 f0; count = 0 };
      opened = replicate 16 false;
    }
