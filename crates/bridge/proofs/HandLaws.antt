-- The current bank is the definition's, an encoder's turn and a fader's move end as the definition's do, and what they leave passes number 8 again.
-- Assumes nothing.
use Rattle.std.proofs.Common.{None, Option, Some}
use Prim.Native.Nat.{ℕ, zero, suc, ◌+◌, ◌*◌, ◌-◌, ◌≤◌, ◌<◌}
use mathlib.Core.Path.{◌≡◌, refl, sym, ap, ◌∙◌, subst}
use mathlib.Core.Bool.{◌&&◌, Bool, true, false, ◌||◌, not, cond, true≢false, and-false}
use mathlib.Core.List.{List, [], ◌∷◌, map}
use native.Mathlib.Omega.{arith}
use lib.Dec.{eqb, leb, ltb}
use lib.IntN.{ℤ, pos, negsuc, nat_abs, sub_ℕ, ◌+ℤ◌}
use lib.Ieee.{Float}
use lib.ListN.{length, get_or, take}
use lib.Seq.{length-take-le}
use mir.Syntax.{w32}
use mir.Val.{SFits}
use borrow.Author.Tests.{leb-true, leb-false, ltb-true, lt-ltb, ne_eqb}
use Rattle.base.specs.Choice.{pick}
use Rattle.base.specs.Range.{every}
use Rattle.base.proofs.RangeLaws.{and_left, every-at}
use Rattle.base.specs.Keyed.{find, any_of, all_of, no_twice}
use Rattle.base.proofs.KeyedLaws as keyed
use Rattle.base.proofs.BesideLaws as side
use Rattle.base.proofs.Pigeon.{left_of_lem, right_of}
use Rattle.base.specs.Tail.{at_front}
use Rattle.profile.specs.Profile.{records, verdict}
use Rattle.profile.proofs.Accepted.{few_records}
use Rattle.lookup.specs.Lookup.{dest_at, found_at, encoder_of, precede, encoder_place}
use Rattle.lookup.proofs.LookupLaws.{encoder_place_found, encoder-place-is}
use Rattle.lookup.specs.View.{view_of}
use Rattle.drivers.specs.Talk.{Talk, Got, got, next, start}
use Rattle.drivers.specs.Bytes.{joined, encode}
use Rattle.drivers.specs.Shown.{shown}
use Rattle.drivers.specs.declared.line.Io.{Io}
use Rattle.session.specs.Session.{Turn, turn_at, seen_turns, is_encoder, wires_to, is_dest, turn, RoomToTurn, is_marked, last_move, seen_line, seen_strips, good_strip, same_number, strips_at}
use Rattle.session.specs.declared.Session.{Session}
use Rattle.session.specs.declared.Turns.{Turns}
use Rattle.session.specs.declared.Strips.{Strips}
use Rattle.session.specs.declared.Live.{Live}
use Rattle.definition.specs.Rig.{Rig, destination, encoder_dest}
use Rattle.definition.specs.Faders.{Desk, desk, in_range, declined_by, turn_to, encoder, refusal_to, turn_refusal, fader_to, fader}
use Rattle.definition.specs.Shape.{shaped_strips, good_turn, well_shaped}
use Rattle.definition.specs.Step.{Kept, Left, Ended, done, refused, Stepped, stepped, seen, rig_at, with_desk, act, refusal, step_if, step}
use Rattle.rig.specs.Seen.{rig_in}
use Rattle.rig.specs.declared.current.Current.{Current}
use Rattle.hands.specs.Sums.{SumsFit}
use Rattle.hands.specs.Declined.{number_of}
use Rattle.hands.specs.declared.encoders.Declined.{Declined}
use Rattle.hands.specs.declared.encoders.Declined.TheVariants.{Range, Full}
use Rattle.hands.specs.Verdicts.{left_by, controlled, Fades}
use Rattle.hands.specs.declared.Verdict.{Verdict}
use Rattle.delivery.specs.Delivery.{Done, Refused, told, told_done, outcome_of, is_done, messages_after, calls_after, end_of, HasRoom}
use Rattle.delivery.specs.declared.Outcome.{Outcome}
use Rattle.after.specs.After.{kept_with, KeepsPlaces, with_turns}
use Rattle.after.specs.After as after
use Rattle.bounds.specs.Well.{Well}
use Rattle.bounds.proofs.Offered.{well_seen}
use Rattle.bounds.proofs.WellStep.{step_well}
use Rattle.bridge.specs.Bridge.{IsCurrent, moved_at, turned_at, moved_of, Asks, Moves, Turns as TurnsAs}
use Rattle.bridge.specs.declared.Asked.{Asked}
use Rattle.bridge.proofs.StepLaws.{did, done_told, room_for_lem, undone_delivers, done_delivers}
use Rattle.bridge.proofs.Fit.{places, shaped-again}
use Rattle.lookup.specs.declared.Destination.{Destination}

-- ── the current bank ──

-- the definition's rig there is what a handler is handed
pub rig_is : (p : List ℕ) (s : Session) (b : ℕ) (c : Current) → IsCurrent p s.live b c → rig_at (view_of p) (seen p s) b ≡ rig_in c
unfolding seen
rig_is p s b c i = rw (i.profile, i.bank, i.strips)

-- what stands past the live lists is not known
abbrev past : Strips
past = record { known = false; list = []; count = 0 }

list_seen : (l : List Strips) (b : ℕ) → seen_strips (get_or l b past) ≡ get_or (map seen_strips l) b None
unfolding seen_strips
list_seen [] b = refl
list_seen (x ∷ l) zero = refl
list_seen (x ∷ l) (suc b) = list_seen l b

list_few : (l : List Strips) (b : ℕ) → all_of shaped_strips l ≡ true → (get_or l b past).known ≡ true → (get_or l b past).count ≤ 8
unfolding all_of shaped_strips
list_few [] b e k = absurd (true≢false (sym k))
list_few (x ∷ l) zero e k = few_at x.known k (left_of_lem (shaped_strips x) (all_of shaped_strips l) e)
  where
    few_at : (b : Bool) → b ≡ true →
        (not b || every (leb x.count 8 ∷ all_of good_strip (take x.count x.list) ∷ no_twice same_number (take x.count x.list) ∷ [])) ≡ true →
        x.count ≤ 8
    few_at true q h = leb-true x.count 8 (every-at _ 0 h)
    few_at false q h = absurd (true≢false (sym q))
list_few (x ∷ l) (suc b) e k = list_few l b (right_of (shaped_strips x) (all_of shaped_strips l) e) k

-- the bank's list
module _ (l : Live) (b : ℕ) (s : Strips) (at : s ≡ strips_at b l) where
  pub at_seen : seen_strips s ≡ get_or (map seen_strips l.banks) b None
  unfolding strips_at
  at_seen = rw at (list_seen l.banks b)

  pub few_at : all_of shaped_strips l.banks ≡ true → s.known ≡ true → s.count ≤ 8
  unfolding strips_at
  few_at e k = rw at (list_few l.banks b e (ap (λ (x : Strips). x.known) (sym at) ∙ k))

-- ── the sums: a turn is small, and leaves them an i32 ──

sub_small : (a b m : ℕ) → a ≤ m → b ≤ m → nat_abs (sub_ℕ a b) ≤ m
sub_small a b m h k = go (ltb a b) refl
  where
    go : (c : Bool) → ltb a b ≡ c → nat_abs (cond c (negsuc (b - suc a)) (pos (a - b))) ≤ m
    go true e = let l : a < b = ltb-true a b e in omega arith
    go false e = omega arith

sum_small : (x y : ℤ) (m n : ℕ) → nat_abs x ≤ m → nat_abs y ≤ n → nat_abs (x +ℤ y) ≤ m + n
sum_small (pos a) (pos b) m n h k = omega arith
sum_small (pos a) (negsuc b) m n h k = sub_small a (suc b) (m + n) (omega arith) (omega arith)
sum_small (negsuc a) (pos b) m n h k = sub_small b (suc a) (m + n) (omega arith) (omega arith)
sum_small (negsuc a) (negsuc b) m n h k = omega arith

pub small_fits : (z : ℤ) → nat_abs z ≤ 2000000 → SFits w32 z
small_fits (pos n) h = record { sfits = omega arith }
small_fits (negsuc n) h = record { sfits = omega arith }

pub range_small : (z : ℤ) → in_range z ≡ true → nat_abs z ≤ 1000000
range_small (pos n) e = leb-true n 1000000 e
range_small (negsuc n) e = let h : n ≤ 999999 = leb-true n 999999 (and_left (leb n 999999) true e) in omega arith

range_fits : (x y : ℤ) → in_range x ≡ true → in_range y ≡ true → SFits w32 (x +ℤ y)
range_fits x y h k = small_fits (x +ℤ y) (sum_small x y 1000000 1000000 (range_small x h) (range_small y k))

unfound : {A : Type 0} (f : A → Bool) (l : List A) → any_of f l ≡ false → find f l ≡ None
unfolding any_of find
unfound f [] e = refl
unfound f (x ∷ l) e = go (f x) e (unfound f l)
  where
    go : (b : Bool) → pick b true (any_of f l) ≡ false → (any_of f l ≡ false → find f l ≡ None) → pick b (Some x) (find f l) ≡ None
    go true q h = absurd (true≢false q)
    go false q h = h q

module _ (p : List ℕ) (t : Turns) (lk : length t.records ≡ 136) (ln : length t.sums ≡ 136) (few : t.count ≤ 136) where
  upto_records : length (take t.count t.records) ≡ t.count
  upto_records = length-take-le t.count t.records (omega arith)

  upto_sums : length (take t.count t.sums) ≡ t.count
  upto_sums = length-take-le t.count t.sums (omega arith)

  pub sums_fit : (delta : ℤ) → in_range delta ≡ true → all_of good_turn (seen_turns p t) ≡ true → SumsFit t.sums t.count delta
  sums_fit delta small good i h =
      let same : all_of good_turn (seen_turns p t) ≡ all_of in_range (take t.count t.sums) =
      side.beside-all (turn_at p) good_turn in_range (λ x y. refl) (take t.count t.records) (take t.count t.sums) (omega (arith, upto_records, upto_sums)) in
      range_fits (get_or t.sums i (pos 0)) delta (keyed.each in_range (pos 0) t.sums t.count i (omega arith) h (sym same ∙ good)) small

  -- a turn that is not declined has a place
  pub turn_room : (k : ℕ) (delta : ℤ) → all_of (is_encoder p) (take t.count t.records) ≡ true → is_encoder p k ≡ true → SumsFit t.sums t.count delta →
      declined_by (find (is_dest (dest_at p k)) (seen_turns p t)) delta (seen_turns p t) ≡ 0 → RoomToTurn p t.records t.sums t.count k delta
  turn_room k delta wired encoder fit q =
      record { count = few; encoders = wired; encoder = encoder; place = there (any_of (wires_to p (dest_at p k)) (take t.count t.records)) refl; sums = fit }
    where
      any-is : any_of (is_dest (dest_at p k)) (seen_turns p t) ≡ any_of (wires_to p (dest_at p k)) (take t.count t.records)
      any-is =
          side.beside-any (turn_at p) (is_dest (dest_at p k)) (wires_to p (dest_at p k)) (λ x y. refl) (take t.count t.records) (take t.count t.sums)
          (omega (arith, upto_records, upto_sums))

      how_many : length (seen_turns p t) ≡ t.count
      how_many = side.beside-length (turn_at p) (take t.count t.records) (take t.count t.sums) (omega (arith, upto_records, upto_sums)) ∙ upto_records

      fewer : (b : Bool) → leb 136 (length (seen_turns p t)) ≡ b → pick {A = ℕ} b 13 0 ≡ 0 → ltb t.count 136 ≡ true
      fewer true i j = absurd (omega arith)
      fewer false i j = lt-ltb t.count 136 (omega (arith, leb-false 136 (length (seen_turns p t)) i, how_many))

      there : (b : Bool) → any_of (wires_to p (dest_at p k)) (take t.count t.records) ≡ b → pick b true (ltb t.count 136) ≡ true
      there true i = refl
      there false i =
          let no : find (is_dest (dest_at p k)) (seen_turns p t) ≡ None = unfound (is_dest (dest_at p k)) (seen_turns p t) (any-is ∙ i) in
          fewer (leb 136 (length (seen_turns p t))) refl (subst (λ (o : Option Turn). declined_by o delta (seen_turns p t) ≡ 0) no q)

-- ── an encoder ──

-- each cause to decline a turn has a number
pub declined_by_one : (d : Declined) → number_of d ≡ 0 → ⊥
declined_by_one Range e = omega arith
declined_by_one Full e = omega arith

-- the record in reach is an encoder's, and its number a u16
module _ (p : List ℕ) (bank number k : ℕ) (q : encoder_place p bank number ≡ Some k) where
  pub place-encoder : is_encoder p k ≡ true
  place-encoder = let h = encoder-place-is p bank number k q in rw (lt-ltb k (records p) h.0, h.1)

  pub place_low : verdict p ≡ 0 → k < 65536
  place_low accepted = omega (arith, (encoder-place-is p bank number k q).0, few_records p accepted)

module _ (p : List ℕ) (s : Session) (ch : ℕ) (delta : ℤ) where
  abbrev turns : List Turn
  turns = seen_turns p s.turns

  -- what a turn leaves
  abbrev leaves : Option Destination → Kept
  leaves f = kept_with (with_desk (seen p s) (desk s.marks s.moves (seen_line s.line) (turn_to f delta turns))) s.opened

  abbrev ends : Bool → Option Destination → Stepped
  ends b f = pick b (stepped (done [] [] 0 false) (leaves f)) (stepped (refused (refusal_to f delta turns)) (seen p s))

  module _ (now : Float) (answers : List ℕ) where
    encoder-ends : (f : Option ℕ) → encoder_place p s.bank (ch + 1) ≡ f →
        step (view_of p) (seen p s) (turned_at now ch delta) answers ≡ ends (eqb (refusal_to (found_at p f) delta turns) 0) (found_at p f)
    unfolding step refusal turn_refusal encoder encoder_dest act seen
    encoder-ends f q =
        at (eqb (refusal_to wired delta turns) 0)
        ∙ ap (λ (x : Option Destination). ends (eqb (refusal_to x delta turns) 0) x) (sym (encoder_place_found p s.bank (ch + 1)) ∙ ap (found_at p) q)
      where
        wired : Option Destination
        wired = precede (encoder_of p 255 (ch + 1)) (encoder_of p s.bank (ch + 1))

        at : (b : Bool) → step_if b (refusal_to wired delta turns) (turned_at now ch delta) (view_of p) (seen p s) answers ≡ ends b wired
        at true = refl
        at false = refl

  module _ (e : well_shaped p s ≡ true) where
    -- no encoder is there
    pub unwired : (o : Outcome) → told o ≡ Done 0 0 0 false → encoder_place p s.bank (ch + 1) ≡ None →
        TurnsAs p s ch delta (record { outcome = o; session = s; changed = false })
    unfolding seen joined encode at_front
    unwired o q bare now answers ms cs =
        rw (encoder-ends now answers None bare)
        (record {
          outcome = q;
          same = λ _. refl;
          leaves =
              record { session = refl; still = λ i. absurd (true≢false i); shaped = λ _. e; messages = refl; calls = refl; few = (omega arith, omega arith) };
        })

    -- a turn that is declined
    pub unturned : (k why : ℕ) (o : Outcome) → told o ≡ Refused why → encoder_place p s.bank (ch + 1) ≡ Some k →
        why ≡ declined_by (find (is_dest (dest_at p k)) turns) delta turns → (why ≡ 0 → ⊥) →
        TurnsAs p s ch delta (record { outcome = o; session = s; changed = false })
    unturned k why o r q d declines now answers ms cs =
        rw (encoder-ends now answers (Some k) q, ← d, ne_eqb why 0 declines)
        (record {
          outcome = r;
          same = λ _. refl;
          leaves = record { session = refl; still = λ _. refl; shaped = λ _. e; messages = refl; calls = refl; few = tt };
        })

    -- a turn that adds to its sum: `after` is what the sums are then
    pub turned : (k : ℕ) (after : Turns) (o : Outcome) → verdict p ≡ 0 → length s.opened ≡ 16 → ch < 8 → in_range delta ≡ true →
        encoder_place p s.bank (ch + 1) ≡ Some k → declined_by (find (is_dest (dest_at p k)) turns) delta turns ≡ 0 →
        seen_turns p after ≡ turn (dest_at p k) delta turns → all_of (is_encoder p) (take after.count after.records) ≡ true → after.count ≤ 136 →
        told o ≡ Done 0 0 0 false → TurnsAs p s ch delta (record { outcome = o; session = with_turns s after; changed = true })
    unfolding seen joined encode at_front
    turned k after o accepted long low small q d sums wired few r now answers ms cs =
        let x = encoder-ends now answers (Some k) q in
        let y : step (view_of p) (seen p s) (turned_at now ch delta) answers ≡ ends true (found_at p (Some k)) =
        x ∙ ap (λ (n : ℕ). ends (eqb n 0) (found_at p (Some k))) d in
        let z : seen p (with_turns s after) ≡ leaves (found_at p (Some k)) =
        ap (λ (l : List Turn). kept_with (with_desk (seen p s) (desk s.marks s.moves (seen_line s.line) l)) s.opened) sums in
        let w : Well p (step (view_of p) (seen p s) (turned_at now ch delta) answers).kept =
        step_well p accepted (seen p s) (well_seen p s long e) (turned_at now ch delta) (low, small) answers in
        let v : Well p (seen p (with_turns s after)) =
        subst (λ (a : Kept). Well p a) (sym z) (subst (λ (a : Stepped). Well p a.kept) y w) in
        let f = places p s e in
        rw y
        (record {
          outcome = r;
          same = λ i. absurd (true≢false i);
          leaves =
              record {
                session = z;
                still = λ i. absurd (true≢false i);
                shaped = λ _. shaped-again p (with_turns s after) v (record { line = f.line; turns = few; encoders = wired; silenced = f.silenced; live = f.live });
                messages = refl;
                calls = refl;
                few = (omega arith, omega arith);
              };
        })

-- ── a fader ──

-- in control of its destination it asks nothing
pub controls : (f : Option Destination) (k ch : ℕ) (value : Float) (d : Desk) (t : Talk) → is_marked k d.marks ≡ true →
    got (left_by (controlled f) k ch value d) t ≡ fader_to f k ch value d t
controls (Some e) k ch value d t q = rw (q, and-false e.takeover)
controls None k ch value d t q = refl

module _ (p : List ℕ) (s : Session) (ch : ℕ) (value : Float) (answers : List ℕ) (c : Current) (v : Verdict) where
  -- the verdict v and the line u are those of the move
  abbrev pub Ran : Talk → Type 0
  Ran u =
      got (left_by v (s.bank * 16 + ch) ch value (seen p s).desk) u
      ≡ fader_to (destination (rig_in c) (ch + 1)) (s.bank * 16 + ch) ch value (seen p s).desk (start answers s.opened)

  -- where the mark stands, nothing was asked
  pub unasked : v ≡ controlled (destination (rig_in c) (ch + 1)) → is_marked (s.bank * 16 + ch) s.marks ≡ true → Ran (start answers s.opened)
  unfolding seen
  unasked q m =
      ap (λ (w : Verdict). got (left_by w (s.bank * 16 + ch) ch value (seen p s).desk) (start answers s.opened)) q
      ∙ controls (destination (rig_in c) (ch + 1)) (s.bank * 16 + ch) ch value (seen p s).desk (start answers s.opened) m

  -- and else what the handler says, of the last move there
  pub asked : (last : Option Float) (t u : Talk) → t ≡ start answers s.opened → Fades (destination (rig_in c) (ch + 1)) last value t v u →
      is_marked (s.bank * 16 + ch) s.marks ≡ false → last ≡ last_move (s.bank * 16 + ch) s.moves → Ran u
  unfolding seen
  asked last t u b f m l =
      f (s.bank * 16 + ch) ch (seen p s).desk m (sym l)
      ∙ ap (λ (w : Talk). fader_to (destination (rig_in c) (ch + 1)) (s.bank * 16 + ch) ch value (seen p s).desk w) b

-- a move that left the verdict v and the line `line`, as the handler ran it
pub fader-is : (p : List ℕ) (s : Session) (ch : ℕ) (value : Float) (answers : List ℕ) (c : Current) → IsCurrent p s.live s.bank c → (v : Verdict) (line : Talk) →
    Ran p s ch value answers c v line → moved_of p s ch value answers ≡ got (left_by v (s.bank * 16 + ch) ch value (seen p s).desk) line
unfolding fader seen moved_of
fader-is p s ch value answers c i v line ran =
    ap (λ (r : Rig). fader r ch value (seen p s).desk (start answers s.opened)) (rig_is p s s.bank c i)
    ∙ ap (λ (n : ℕ). fader_to (destination (rig_in c) (ch + 1)) (n * 16 + ch) ch value (seen p s).desk (start answers s.opened)) i.bank
    ∙ sym ran

module _ (p : List ℕ) (s : Session) (ch : ℕ) (value : Float) (answers : List ℕ) (v : Verdict) (line : Talk)
    (is : moved_of p s ch value answers ≡ got (left_by v (s.bank * 16 + ch) ch value (seen p s).desk) line) where
  abbrev left : Desk
  left = left_by v (s.bank * 16 + ch) ch value (seen p s).desk

  -- and its event, at any time
  did-is : (now : Float) → did (view_of p) (seen p s) (moved_at now ch value) answers ≡ got (with_desk (seen p s) left) line
  unfolding act next seen moved_of
  did-is now = ap (λ (g : Got Desk). next g (λ d. got (with_desk (seen p s) d))) is

  free : (now : Float) → refusal (moved_at now ch value).what (view_of p) (seen p s) now ≡ 0
  unfolding refusal
  free now = refl

  -- nothing is saved
  end_is : (now : Float) →
      end_of (did (view_of p) (seen p s) (moved_at now ch value) answers).talk ((did (view_of p) (seen p s) (moved_at now ch value) answers).value.saved && (view_of p).remember)
      ≡ end_of line false
  end_is now = ap (λ (g : Got Left). end_of g.talk (g.value.saved && (view_of p).remember)) (did-is now)

  module _ (accepted : verdict p ≡ 0) (e : well_shaped p s ≡ true) (long : length s.opened ≡ 16) (low : ch < 16) where
    -- a line that goes on has room, whatever the event's time is
    pub move_room : (io : Io) → shown io ≡ line → HasRoom io
    move_room io q =
        room_for_lem p accepted (seen p s) (well_seen p s long e) (moved_at value ch value) answers (free value) io
        (q ∙ sym (ap (λ (g : Got Left). g.talk) (did-is value)))

    module _ (o : Outcome) (ms₀ cs₀ ms₁ cs₁ : List ℕ) (ho : told o ≡ outcome_of (end_of line false)) (hm : ms₁ ≡ messages_after (end_of line false) ms₀)
        (hc : cs₁ ≡ calls_after (end_of line false) cs₀) where
      -- one that waits or is refused
      pub unmoved : is_done (end_of line false) ≡ false → Moves p s ch value answers ms₀ cs₀ (record { outcome = o; session = s; changed = false }) ms₁ cs₁
      unmoved q now =
          undone_delivers p accepted s (well_seen p s long e) (moved_at now ch value) answers (free now) o ms₀ cs₀ ms₁ cs₁ (ap is_done (end_is now) ∙ q)
          (ho ∙ ap outcome_of (sym (end_is now))) (hm ∙ ap (λ (x : Ended). messages_after x ms₀) (sym (end_is now)))
          (hc ∙ ap (λ (x : Ended). calls_after x cs₀) (sym (end_is now)))

      -- one that is done
      pub moved : is_done (end_of line false) ≡ true → (x : Session) → after.Fades s v (s.bank * 16 + ch) ch value line.opened x → KeepsPlaces s x →
          Moves p s ch value answers ms₀ cs₀ (record { outcome = o; session = x; changed = true }) ms₁ cs₁
      moved q x fades keeps now =
          done_delivers p accepted s (well_seen p s long e) (moved_at now ch value) answers (free now) low o x ms₀ cs₀ ms₁ cs₁ (ap is_done (end_is now) ∙ q)
          (fades p ∙ ap (λ (g : Got Left). kept_with g.value g.talk.opened) (sym (did-is now))) (keeps p (places p s e))
          (ho ∙ ap outcome_of (sym (end_is now))) (hm ∙ ap (λ (y : Ended). messages_after y ms₀) (sym (end_is now)))
          (hc ∙ ap (λ (y : Ended). calls_after y cs₀) (sym (end_is now)))

-- a fader in control leaves the lent buffers as they were
pub in_control : (p : List ℕ) (s : Session) (ch : ℕ) (value : Float) (answers : List ℕ) (c : Current) → IsCurrent p s.live s.bank c → (v : Verdict) →
    v ≡ controlled (destination (rig_in c) (ch + 1)) → is_marked (s.bank * 16 + ch) s.marks ≡ true → verdict p ≡ 0 → well_shaped p s ≡ true →
    length s.opened ≡ 16 → ch < 16 → (o : Outcome) → told o ≡ Done 0 0 0 false → (x : Session) →
    after.Fades s v (s.bank * 16 + ch) ch value s.opened x → KeepsPlaces s x → (ms cs : List ℕ) →
    Moves p s ch value answers ms cs (record { outcome = o; session = x; changed = true }) ms cs
unfolding joined encode at_front
in_control p s ch value answers c i v q m accepted e long low o ho x fades keeps ms cs =
    moved p s ch value answers v (start answers s.opened) (fader-is p s ch value answers c i v (start answers s.opened) (unasked p s ch value answers c v q m))
    accepted e long low o ms cs ms cs ho refl refl refl x fades keeps

-- one that asked its device, by what became of that
module _ (p : List ℕ) (s : Session) (ch : ℕ) (value : Float) (answers ms cs : List ℕ) (r : Asked) (ms₁ cs₁ : List ℕ)
    (a : Asks p s ch value answers ms cs r ms₁ cs₁) (accepted : verdict p ≡ 0) (e : well_shaped p s ≡ true) (long : length s.opened ≡ 16) (low : ch < 16)
    (b : Bool) (told-is : b ≡ told_done (told r.outcome)) where
  abbrev line : Talk
  line = (moved_of p s ch value answers).talk

  is : moved_of p s ch value answers ≡ got (left_by r.verdict (s.bank * 16 + ch) ch value (seen p s).desk) line
  is = ap (λ (d : Desk). got d line) (sym a.left)

  done-is : b ≡ is_done (end_of line false)
  done-is = told-is ∙ ap told_done a.outcome ∙ done_told (end_of line false)

  pub asked_undone : b ≡ false → Moves p s ch value answers ms cs (record { outcome = r.outcome; session = s; changed = false }) ms₁ cs₁
  asked_undone h = unmoved p s ch value answers r.verdict line is accepted e long low r.outcome ms cs ms₁ cs₁ a.outcome a.messages a.calls (sym done-is ∙ h)

  pub asked_done : b ≡ true → (x : Session) → after.Fades s r.verdict (s.bank * 16 + ch) ch value r.opened x → KeepsPlaces s x →
      Moves p s ch value answers ms cs (record { outcome = r.outcome; session = x; changed = true }) ms₁ cs₁
  asked_done h x fades keeps =
      moved p s ch value answers r.verdict line is accepted e long low r.outcome ms cs ms₁ cs₁ a.outcome a.messages a.calls (sym done-is ∙ h) x
      (subst (λ (o : List Bool). after.Fades s r.verdict (s.bank * 16 + ch) ch value o x) a.opened fades) keeps
