-- What number 8 lets pass is well shaped as it is seen, and what is true of every refusal and every event is true of one that is offered. Of one that is done: proofs/Whole.
use Rattle.std.specs.Prelude.{ℕ, zero, suc, ◌≤◌, ◌≡◌, Bool, ◌||◌, not, List, [], ◌∷◌, map, eqb, leb, ℤ, length, get_or, take, None, Option, Some}
use Rattle.std.proofs.Math.Path.{refl}
use Rattle.std.proofs.Common.{arith, length-take, leb-true, ltb-true}
use Rattle.std.proofs.Math.Bool.{true, false}
use Rattle.std.proofs.Math.Dec.{ltb}
use Rattle.base.specs.Choice.{pick}
use Rattle.base.specs.Range.{every}
use Rattle.base.proofs.RangeLaws.{and_left, and_right, every-at}
use Rattle.base.specs.Keyed.{all_of, no_twice, beside}
use Rattle.base.proofs.Pigeon.{left_of_lem, right_of}
use Rattle.profile.specs.Profile.{records, is_kind, bank_count, verdict}
use Rattle.lookup.specs.View.{view_of}
use Rattle.session.specs.Session.{turn_at, seen_line, is_encoder, silenced_at, seen_strips, strips_or, strips_if, good_strip, same_number}
use Rattle.session.specs.WellLists.{WellLine, WellStrips}
use Rattle.session.proofs.SessionLaws.{no_strips_lem}
use Rattle.session.specs.declared.Session.{Session}
use Rattle.session.specs.declared.Line.{Line}
use Rattle.session.specs.declared.Strips.{Strips}
use Rattle.event.specs.Event.{read_of}
use Rattle.event.specs.declared.Timed.{Timed}
use Rattle.definition.specs.Shape.{shaped_line, shaped_strips, shaped_turns, shaped_silenced, well_shaped}
use Rattle.definition.specs.Step.{Ended, seen, refused, Stepped, step}
use Rattle.definition.specs.Whole.{whole, offered}
use Rattle.bounds.specs.Drivers.{Each, no_more, one_more}
use Rattle.bounds.specs.Well.{WiredTurn, Well}

-- ── what number 8 lets pass is well shaped as it is seen ──

beside_short : {A B C : Type 0} (f : A → B → C) (xs : List A) (ys : List B) → length (beside f xs ys) ≤ length xs
unfolding beside
beside_short f [] ys = omega arith
beside_short f (x ∷ xs) [] = omega arith
beside_short f (x ∷ xs) (y ∷ ys) = omega (arith, beside_short f xs ys)

pub line_well : (l : Line) → shaped_line l ≡ true → WellLine (seen_line l)
unfolding shaped_line
line_well l e = record { low = every-at _ 1 e; once = every-at _ 2 e }

-- the tests of a list that is known
abbrev strip_tests : Strips → List Bool
strip_tests s = leb s.count 8 ∷ all_of good_strip (take s.count s.list) ∷ no_twice same_number (take s.count s.list) ∷ []

pub strips_well : (s : Strips) → shaped_strips s ≡ true → WellStrips (strips_or (seen_strips s))
unfolding shaped_strips seen_strips
strips_well s e = go s.known e
  where
    go : (b : Bool) → (not b || every (strip_tests s)) ≡ true → WellStrips (strips_or (strips_if b (take s.count s.list)))
    go true h =
        let n : s.count ≤ 8 = leb-true s.count 8 (every-at (strip_tests s) 0 h) in
        record {
          few = omega (arith, length-take s.count s.list);
          good = every-at (strip_tests s) 1 h;
          once = every-at (strip_tests s) 2 h;
        }
    go false h = no_strips_lem

pub lives_well : (l : List Strips) → all_of shaped_strips l ≡ true → (b : ℕ) → WellStrips (strips_or (get_or (map seen_strips l) b None))
unfolding all_of
lives_well [] e b = no_strips_lem
lives_well (s ∷ l) e zero = strips_well s (left_of_lem (shaped_strips s) (all_of shaped_strips l) e)
lives_well (s ∷ l) e (suc b) = lives_well l (right_of (shaped_strips s) (all_of shaped_strips l) e) b

turns_wired : (p ks : List ℕ) (ns : List ℤ) → all_of (is_encoder p) ks ≡ true → Each (WiredTurn p) (beside (turn_at p) ks ns)
unfolding all_of beside
turns_wired p [] ns e = no_more
turns_wired p (k ∷ ks) [] e = no_more
turns_wired p (k ∷ ks) (n ∷ ns) e =
    let h : is_encoder p k ≡ true = left_of_lem (is_encoder p k) (all_of (is_encoder p) ks) e in
    one_more
    (record {
      at = k;
      wires =
          record {
            in_file = ltb-true k (records p) (and_left (ltb k (records p)) (is_kind p 3 k) h);
            encoder = and_right (ltb k (records p)) (is_kind p 3 k) h;
            to = refl;
          };
    })
    (turns_wired p ks ns (right_of (is_encoder p k) (all_of (is_encoder p) ks) e))

-- the struct's array of opened drivers has 16 places, by its type
pub well_seen : (p : List ℕ) (s : Session) → length s.opened ≡ 16 → well_shaped p s ≡ true → Well p (seen p s)
unfolding well_shaped shaped_turns shaped_silenced seen
well_seen p s o e =
    let t = s.turns in
    let h = s.silenced in
    let n : t.count ≤ 136 = leb-true t.count 136 (every-at _ 0 (every-at _ 3 e)) in
    let m : h.count ≤ 256 = leb-true h.count 256 (and_left (leb h.count 256) _ (every-at _ 4 e)) in
    record {
      bank = ltb-true s.bank (bank_count p) (every-at _ 0 e);
      line = line_well s.line (every-at _ 1 e);
      lives = lives_well s.live.banks (every-at _ 2 e);
      few = omega (arith, n, beside_short (turn_at p) (take t.count t.records) (take t.count t.sums), length-take t.count t.records);
      wired = turns_wired p (take t.count t.records) (take t.count t.sums) (every-at _ 1 (every-at _ 3 e));
      sums = every-at _ 2 (every-at _ 3 e);
      destinations = every-at _ 3 (every-at _ 3 e);
      held = omega (arith, m, beside_short silenced_at (take h.count h.targets) (take h.count h.levels), length-take h.count h.targets);
      targets = and_right (leb h.count 256) _ (every-at _ 4 e);
      flash = every-at _ 5 e;
      opened = o;
    }

-- ── an event that is done ──

module _ (p : List ℕ) (s : Session) (record_of answers : List ℕ) (messages calls : ℕ) where
  -- what is true of every refusal, and of the event whatever it is, is true of the event that is offered
  pub whole_so : (Q : Ended → Type 0) → ((why : ℕ) → Q (refused why)) → ((e : Timed) → Q (step (view_of p) (seen p s) e answers).ended) →
      Q (whole p s record_of answers messages calls).ended
  unfolding whole
  whole_so Q refuses runs =
      of (eqb (verdict p) 0) _ _ (of (well_shaped p s) _ _ (of (ltb messages 306 || ltb calls 5392) _ _ (refuses 9) (read_at (read_of record_of))) (refuses 8)) (refuses (verdict p))
    where
      of : (b : Bool) (x y : Stepped) → Q x.ended → Q y.ended → Q (pick b x y).ended
      of true x y h k = h
      of false x y h k = k

      read_at : (r : Option Timed) → Q (offered r p (seen p s) answers).ended
      read_at (Some e) = runs e
      read_at None = refuses 10
