-- The session changed in place after an event is the one that the definition keeps, and its lists stay within their places. Assumes nothing.
use Rattle.std.proofs.Common.{Some, is_some}
use Prim.Native.Nat.{ℕ, zero, suc, ◌≤◌}
use mathlib.Core.Path.{◌≡◌, refl}
use mathlib.Core.Bool.{Bool, true, false, ◌&&◌, ◌||◌, not}
use mathlib.Core.List.{List, [], ◌∷◌, map}
use native.Mathlib.Omega.{arith}
use lib.ListN.{set, take}
use lib.Ieee.{Float}
use borrow.Author.Tests.{le-leb}
use Rattle.base.specs.Choice.{pick}
use Rattle.base.specs.Keyed.{all_of, beside}
use Rattle.base.proofs.KeyedLaws.{map-set, every-none}
use Rattle.base.proofs.Pigeon.{left_of_lem, right_of}
use Rattle.session.specs.Session.{is_encoder, seen_line, seen_turns, seen_strips, strips_or, strips_for, moved_to, mark_at, place_move}
use Rattle.session.specs.declared.Session.{Session}
use Rattle.session.specs.declared.Marks.{Marks}
use Rattle.session.specs.declared.Moves.{Moves}
use Rattle.session.specs.declared.Line.{Line}
use Rattle.session.specs.declared.Lamps.{Lamps}
use Rattle.session.specs.declared.Live.{Live}
use Rattle.session.specs.declared.Turns.{Turns}
use Rattle.session.specs.declared.Strips.{Strips}
use Rattle.session.specs.declared.Silenced.{Silenced}
use Rattle.definition.specs.Faders.{Desk, desk, hold_move, take_move, drained}
use Rattle.definition.specs.Step.{seen, due_after, lives_after, unmarked, unmarked_at}
use Rattle.hands.specs.declared.Verdict.TheVariants.{Ignored, Held, Taken}
use Rattle.after.specs.After.{marks_after, few_strips, FewAfter, TurnsAfter, strips_left, drained_if, left_of, KeepsPlaces, Fades, Lasts}
use Rattle.after.specs.declared.Left.{Left}
use Rattle.after.specs.declared.Setting.{Setting}

-- ── a move ──

-- the session with what a move leaves
module _ (s : Session) (opened : List Bool) (moves : Moves) (marks : Marks) (line : Line) where
  abbrev moved : Session
  moved =
      record {
        bank = s.bank;
        livedue = s.livedue;
        liveat = s.liveat;
        live = s.live;
        marks = marks;
        moves = moves;
        line = line;
        turns = s.turns;
        lamps = s.lamps;
        silenced = s.silenced;
        opened = opened;
      }

  pub fades_within : line.count ≤ 16 → KeepsPlaces s moved
  fades_within h p q = record { line = h; turns = q.turns; encoders = q.encoders; silenced = q.silenced; live = q.live }

module _ (s : Session) (opened : List Bool) (k ch : ℕ) (value : Float) where
  pub fades_ignored : Fades s Ignored k ch value opened (moved s opened s.moves s.marks s.line)
  unfolding seen
  fades_ignored p = refl

  pub fades_held : (moves : Moves) → moves ≡ moved_to k value s.moves → Fades s Held k ch value opened (moved s opened moves s.marks s.line)
  unfolding seen hold_move
  fades_held moves e p = rw e refl

  pub fades_taken : (moves : Moves) (marks : Marks) (line : Line) → moves ≡ moved_to k value s.moves → marks ≡ mark_at k s.marks →
      seen_line line ≡ place_move ch value (seen_line s.line) → Fades s Taken k ch value opened (moved s opened moves marks line)
  unfolding seen take_move
  fades_taken moves marks line e f g p = rw (e, f, g) refl

-- ── a live list that takes a bank's place ──

all_set : {A : Type 0} (f : A → Bool) (l : List A) (i : ℕ) (x : A) → f x ≡ true → all_of f l ≡ true → all_of f (set l i x) ≡ true
unfolding all_of
all_set f [] i x h e = refl
all_set f (y ∷ l) zero x h e = rw h (right_of (f y) (all_of f l) e)
all_set f (y ∷ l) (suc i) x h e = rw (left_of_lem (f y) (all_of f l) e) (all_set f l i x h (right_of (f y) (all_of f l) e))

-- a list that is known is seen
seen-known : (s : Strips) → s.known ≡ true → seen_strips s ≡ Some (strips_or (seen_strips s))
unfolding seen_strips
seen-known s e = rw e

few_known : (s : Strips) → s.known ≡ true → s.count ≤ 8 → few_strips s ≡ true
few_known s e h = rw (e, le-leb s.count 8 h)

-- the bank's list becomes this one, which is known and within its places
module _ (live r : Live) (bank : ℕ) (strips : Strips) (known : strips.known ≡ true) (few : strips.count ≤ 8) (e : r ≡ strips_for bank strips live) where
  pub renewed : map seen_strips r.banks ≡ lives_after true bank (strips_or (seen_strips strips)) (map seen_strips live.banks)
  unfolding strips_for
  renewed = rw (e, map-set seen_strips live.banks bank strips, ← seen-known strips known)

  pub renewed_few : FewAfter live r
  unfolding strips_for
  renewed_few h = rw e (all_set few_strips live.banks bank strips (few_known strips known few) h)

-- ── any other event ──

-- a refresh takes the due away, a bank selected or a scene loaded sets it again
due-after : (moved refreshed due : Bool) → ((due && not refreshed) || moved) ≡ due_after moved (pick refreshed false due)
due-after true true true = refl
due-after true true false = refl
due-after true false true = refl
due-after true false false = refl
due-after false true true = refl
due-after false true false = refl
due-after false false true = refl
due-after false false false = refl

-- the drain, then a changed list, then a bank selected or a scene loaded: field by field
desk-after : (moved changed ticks : Bool) (bank : ℕ) (d : Desk) →
    desk (marks_after moved changed bank d.marks) d.moves (pick ticks [] d.line) (pick ticks [] d.turns)
    ≡ unmarked moved (unmarked_at changed bank (drained_if ticks d))
unfolding drained
desk-after true true true bank d = refl
desk-after true true false bank d = refl
desk-after true false true bank d = refl
desk-after true false false bank d = refl
desk-after false true true bank d = refl
desk-after false true false bank d = refl
desk-after false false true bank d = refl
desk-after false false false bank d = refl

-- the sums after a tick are none, whatever stands in their arrays
module _ (p : List ℕ) (t r : Turns) where
  sums-after : (ticks : Bool) → TurnsAfter ticks t r → seen_turns p r ≡ pick ticks [] (seen_turns p t)
  unfolding beside
  sums-after true e = rw e
  sums-after false e = rw e

  sums-within : (ticks : Bool) → TurnsAfter ticks t r → t.count ≤ 136 → r.count ≤ 136
  sums-within true e h = omega arith
  sums-within false e h = rw e h

  sums_encoders : (ticks : Bool) → TurnsAfter ticks t r → all_of (is_encoder p) (take t.count t.records) ≡ true →
      all_of (is_encoder p) (take r.count r.records) ≡ true
  sums_encoders true e h = rw e (every-none (is_encoder p) 0 r.records)
  sums_encoders false e h = rw e h

-- the session with what any other event leaves
module _ (s : Session) (at : Setting) (x : Left) (lamps : Lamps) (silenced : Silenced) (opened : List Bool) (liveat : Float) (live : Live) (marks : Marks)
    (line : Line) (turns : Turns) where
  abbrev lasting : Session
  lasting =
      record {
        bank = x.bank;
        livedue = (s.livedue && not (at.ticks && at.due)) || x.moved;
        liveat = liveat;
        live = live;
        marks = marks;
        moves = s.moves;
        line = line;
        turns = turns;
        lamps = lamps;
        silenced = silenced;
        opened = opened;
      }

  pub lasts : (now : Float) → liveat ≡ pick (at.ticks && at.due) now s.liveat →
      map seen_strips live.banks ≡ lives_after (is_some x.strips) s.bank (strips_left x.strips) (map seen_strips s.live.banks) →
      marks ≡ marks_after x.moved (is_some x.strips) s.bank s.marks → seen_line line ≡ pick at.ticks [] (seen_line s.line) →
      TurnsAfter at.ticks s.turns turns → Lasts s at x lamps silenced opened now lasting
  unfolding seen left_of
  lasts now a l m n t p =
      rw (
        due-after x.moved (at.ticks && at.due) s.livedue,
        a,
        l,
        m,
        n,
        sums-after p s.turns turns at.ticks t,
        desk-after x.moved (is_some x.strips) at.ticks s.bank (desk s.marks s.moves (seen_line s.line) (seen_turns p s.turns)),
      )

  pub lasts_within : silenced.count ≤ 256 → line.count ≤ 16 → FewAfter s.live live → TurnsAfter at.ticks s.turns turns →
      KeepsPlaces s lasting
  lasts_within h l f t p q =
      record {
        line = l;
        turns = sums-within p s.turns turns at.ticks t q.turns;
        encoders = sums_encoders p s.turns turns at.ticks t q.encoders;
        silenced = h;
        live = f q.live;
      }
