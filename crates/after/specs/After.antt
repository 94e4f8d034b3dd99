-- The session's struct after an event, and that its lists stay within their places. Definitions only.
use Rattle.std.specs.Prelude.{ℕ, ◌≤◌, ◌≡◌, Bool, true, false, ◌&&◌, ◌||◌, not, List, [], leb, take, Float, Option, None, Some}
use Rattle.std.specs.Option.{is_some}
use Rattle.base.specs.Choice.{pick}
use Rattle.base.specs.Keyed.{all_of}
use Rattle.session.specs.Session.{is_encoder, no_marks, unmark_bank, SilencedLevel, seen_strips, strips_or, seen_silenced}
use Rattle.session.specs.declared.Session.{Session}
use Rattle.session.specs.declared.Lamps.{Lamps}
use Rattle.session.specs.declared.Marks.{Marks}
use Rattle.session.specs.declared.Strip.{Strip}
use Rattle.session.specs.declared.Strips.{Strips}
use Rattle.session.specs.declared.Live.{Live}
use Rattle.session.specs.declared.Turns.{Turns}
use Rattle.session.specs.declared.Silenced.{Silenced}
use Rattle.definition.specs.Faders.{Desk, drained}
use Rattle.definition.specs.Step.{Kept, kept, Left, left, site, due_after, lives_after, unmarked, unmarked_at, with_desk, seen}
use Rattle.hands.specs.Verdicts.{left_by}
use Rattle.hands.specs.declared.Verdict.{Verdict}
use Rattle.after.specs.declared.Left as declared
use Rattle.after.specs.declared.Setting.{Setting}

-- ── a turn: other sums ──

abbrev pub with_turns : Session → Turns → Session
with_turns s t =
    record {
      bank = s.bank;
      livedue = s.livedue;
      liveat = s.liveat;
      live = s.live;
      marks = s.marks;
      moves = s.moves;
      line = s.line;
      turns = t;
      lamps = s.lamps;
      silenced = s.silenced;
      opened = s.opened;
    }

-- ── any other event ──

abbrev pub few_strips : Strips → Bool
few_strips s = not s.known || leb s.count 8

abbrev pub marks_after : Bool → Bool → ℕ → Marks → Marks
marks_after true changed bank m = no_marks
marks_after false true bank m = unmark_bank bank m
marks_after false false bank m = m

-- the live lists that are known are within their places
abbrev pub Few : Live → Type 0
Few l = all_of few_strips l.banks ≡ true

-- a list that is left is known, and within its places
abbrev pub KnownIf : Option Strips → Type 0
KnownIf None = Unit {0}
KnownIf (Some s) = (s.known ≡ true) × (s.count ≤ 8)

-- each live list is an old one, or within its places
abbrev pub FewAfter : Live → Live → Type 0
FewAfter live r = Few live → Few r

-- a tick leaves no sums; else they stay as they are
abbrev pub TurnsAfter : Bool → Turns → Turns → Type 0
TurnsAfter true t r = r.count ≡ 0
TurnsAfter false t r = r ≡ t

-- the list that is left
abbrev pub strips_left : Option Strips → List Strip
strips_left None = []
strips_left (Some s) = strips_or (seen_strips s)

-- ── what is left ──

abbrev pub drained_if : Bool → Desk → Desk
drained_if true d = drained d
drained_if false d = d

-- what the definition sees of it: `ticks` and `due` as they were before the event, l and s the lamps' state and what is silenced after it
unfoldable pub left_of : Kept → Bool → Bool → Float → declared.Left → Lamps → List SilencedLevel → Left
left_of k ticks due now x l s =
    left
    (site x.bank (due_after x.moved (pick (ticks && due) false k.site.due)) (pick (ticks && due) now k.site.at)
    (lives_after (is_some x.strips) k.site.bank (strips_left x.strips) k.site.lives))
    (unmarked x.moved (unmarked_at (is_some x.strips) k.site.bank (drained_if ticks k.desk))) l s x.saved

-- ── the whole ──

-- what is kept after an event that left l, with the drivers that are open then
abbrev pub kept_with : Left → List Bool → Kept
kept_with l opened = kept l.site l.desk l.lamps l.silenced opened

-- every list is within its places: the line, the sums, which are of encoders of the profile p, the silenced levels, and the live lists that are known
pub record Places (p : List ℕ) (s : Session) : Type 0 where
  pub line : s.line.count ≤ 16
  pub turns : s.turns.count ≤ 136
  pub encoders : all_of (is_encoder p) (take s.turns.count s.turns.records) ≡ true
  pub silenced : s.silenced.count ≤ 256
  pub live : Few s.live

-- an event leaves them so
abbrev pub KeepsPlaces : Session → Session → Type 0
KeepsPlaces s r = (p : List ℕ) → Places p s → Places p r

-- the session r after a finished move, as it is seen
abbrev pub Fades : Session → Verdict → ℕ → ℕ → Float → List Bool → Session → Type 0
Fades s v k ch value opened r = (p : List ℕ) → seen p r ≡ kept_with (with_desk (seen p s) (left_by v k ch value (seen p s).desk)) opened

-- and after any other event that left x
abbrev pub Lasts : Session → Setting → declared.Left → Lamps → Silenced → List Bool → Float → Session → Type 0
Lasts s at x lamps silenced opened now r = (p : List ℕ) → seen p r ≡ kept_with (left_of (seen p s) at.ticks at.due now x lamps (seen_silenced silenced)) opened
