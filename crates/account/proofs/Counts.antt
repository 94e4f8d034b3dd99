-- The account by itself: no move is lost or booked twice, and no turn. Nothing of the bridge is in here.
use Rattle.std.proofs.Common.{None, Option, Some}
use Prim.Native.Nat.{ℕ, suc, ◌+◌, ◌*◌, ◌≤◌, ◌<◌}
use mathlib.Core.Path.{◌≡◌, refl, sym, ap, ◌∙◌}
use mathlib.Core.Bool.{Bool, true, false, beq}
use mathlib.Core.List.{List, [], ◌∷◌, ◌++◌, map, append-nil, append_assoc}
use native.Mathlib.Omega.{arith}
use lib.Dec.{eqb}
use lib.IntN.{ℤ, pos, ◌+ℤ◌, +ℤ_idl, +ℤ_idr, +ℤ_assoc, +ℤ_comm}
use lib.Ieee.{eq}
use borrow.Author.Tests.{eqb-true, eqb-false, ne_eqb}
use Rattle.base.specs.Choice.{pick}
use Rattle.base.specs.Range.{every}
use Rattle.base.proofs.RangeLaws.{and_left, and_right}
use Rattle.protocol.specs.declared.Event.TheVariants as event
use Rattle.lookup.specs.Lookup.{same_dest}
use Rattle.lookup.specs.View.{View}
use Rattle.lookup.specs.declared.Destination.{Destination}
use Rattle.drivers.specs.Paired.{Asked}
use Rattle.session.specs.Session.{Turn, add_to}
use Rattle.event.specs.declared.Input.{Input}
use Rattle.event.specs.declared.Input.TheVariants as input
use Rattle.definition.specs.Rig.{Rig, destination, encoder_dest}
use Rattle.definition.specs.Step.{Site}
use Rattle.account.specs.Account.{Past, Account, Waits, Tried, Drain, rig_in, lined, replaced_by, book_if, holds, book_move, summed, book_turn, book_press, press_moves, book_live, book_drain, book_event, drain_of, same_live, live_at, tried_of, try_at, dropped_of, drop_at, ids, tried_ids, tried, handed, bump, count, moves, move_at, move_in, if_found, if_same, sum_for, turn_in, turn_to}
use Rattle.account.proofs.FloatEq.{beq_true, eq_cong}

-- ── counting ──

bump-add : (b : Bool) (m n : ℕ) → bump b (m + n) ≡ bump b m + n
bump-add true m n = omega arith
bump-add false m n = refl

pub count-append : (i : ℕ) (l m : List ℕ) → count i (l ++ m) ≡ count i l + count i m
unfolding count
count-append i [] m = omega arith
count-append i (x ∷ l) m = rw (count-append i l m, bump-add)

count-cons : (i x : ℕ) (l : List ℕ) → count i (x ∷ l) ≡ count i (x ∷ []) + count i l
count-cons i x l = count-append i (x ∷ []) l

-- ── a move takes a place ──

lined-count : (i : ℕ) (m : Waits) (l : List Waits) →
    count i (ids (lined m l)) + count i (replaced_by m l) ≡ count i (ids l) + count i (m.id ∷ [])
unfolding lined replaced_by count
lined-count i m [] = omega arith
lined-count i m (x ∷ xs) = go (eqb x.channel m.channel) (lined-count i m xs)
  where
    go : (b : Bool) → count i (ids (lined m xs)) + count i (replaced_by m xs) ≡ count i (ids xs) + count i (m.id ∷ []) →
        count i (ids (pick b (m ∷ xs) (x ∷ lined m xs))) + count i (pick b (x.id ∷ []) (replaced_by m xs)) ≡
        count i (x.id ∷ ids xs) + count i (m.id ∷ [])
    go true e = omega (arith, count-cons i m.id (ids xs), count-cons i x.id (ids xs))
    go false e = omega (arith, e, count-cons i x.id (ids xs), count-cons i x.id (ids (lined m xs)))

-- ── a drain parts the line ──

tids : List Tried → List ℕ
tids l = map (λ t. t.id) l

parted : (r : Rig) (i : ℕ) (l : List Waits) → count i (dropped_of r l) + count i (tids (tried_of r l)) ≡ count i (ids l)
unfolding dropped_of tried_of count tids
parted r i [] = refl
parted r i (m ∷ ms) = go (destination r (m.channel + 1)) (parted r i ms)
  where
    go : (f : Option Destination) → count i (dropped_of r ms) + count i (tids (tried_of r ms)) ≡ count i (ids ms) →
        count i (drop_at f m (dropped_of r ms)) + count i (tids (try_at f m (tried_of r ms))) ≡ count i (m.id ∷ ids ms)
    go None e = omega (arith, e, count-cons i m.id (dropped_of r ms), count-cons i m.id (ids ms))
    go (Some d) e = omega (arith, e, count-cons i m.id (tids (tried_of r ms)), count-cons i m.id (ids ms))

map-append : (l m : List Tried) → tids (l ++ m) ≡ tids l ++ tids m
unfolding tids
map-append [] m = refl
map-append (x ∷ l) m = ap (λ (r : List ℕ). x.id ∷ r) (map-append l m)

tried_snoc : (l : List Drain) (d : Drain) → tried (l ++ (d ∷ [])) ≡ tried l ++ d.tried
unfolding tried
tried_snoc [] d = append-nil d.tried
tried_snoc (x ∷ l) d = rw (tried_snoc l d, append_assoc)

tried_ids_snoc : (i : ℕ) (l : List Drain) (d : Drain) → count i (tried_ids (l ++ (d ∷ []))) ≡ count i (tried_ids l) + count i (tids d.tried)
unfolding tids
tried_ids_snoc i l d =
    ap (λ (r : List Tried). count i (map (λ t. t.id) r)) (tried_snoc l d) ∙ ap (count i) (map-append (tried l) d.tried) ∙ count-append i (tried_ids l) (tids d.tried)

-- ── one event ──

abbrev pub fates : Account → ℕ → ℕ
fates a i =
    count i a.held + count i (ids a.line) + count i a.replaced + count i a.dropped + count i (tried_ids a.drains)

booked_move : (b : Bool) (key : ℕ) (m : Waits) (a : Account) (i : ℕ) → fates (book_if b key m a) i ≡ fates a i + count i (m.id ∷ [])
booked_move true key m a i = omega (arith, count-cons i m.id a.held)
booked_move false key m a i = omega (arith, lined-count i m a.line, count-append i (replaced_by m a.line) a.replaced)

fates-press : (b : Bool) (a : Account) (i : ℕ) → fates (book_press b a) i ≡ fates a i
fates-press true a i = refl
fates-press false a i = refl

fates_live : (b : Bool) (bank : ℕ) (a : Account) (i : ℕ) → fates (book_live b bank a) i ≡ fates a i
fates_live true bank a i = refl
fates_live false bank a i = refl

fates-drain : (r : Rig) (a : Account) (i : ℕ) → fates (book_drain r a) i ≡ fates a i
unfolding count
fates-drain r a i =
    omega (arith, parted r i a.line, count-append i (dropped_of r a.line) a.dropped, tried_ids_snoc i a.drains (drain_of r a))

module _ (v : View) (n : ℕ) (w z : Site) (answers : List ℕ) (asked : List Asked) (a : Account) (i : ℕ) where
  pub fates_event : (e : Input) → fates (book_event v n e w z answers asked a) i ≡ fates a i + count i (move_in v n e w)
  unfolding count
  fates_event (input.Midi (event.Fader ch x)) = go (destination (rig_in v w) (ch + 1))
    where
      m : Waits
      m = record { id = n; channel = ch; level = x }

      go : (f : Option Destination) → fates (book_move f (w.bank * 16 + ch) m answers a) i ≡ fates a i + count i (if_found f n)
      go None = omega arith
      go (Some d) =
          booked_move (holds d (w.bank * 16 + ch) m answers a) (w.bank * 16 + ch) m a i
  fates_event (input.Midi (event.Encoder ch k)) = go (encoder_dest (rig_in v w) (ch + 1))
    where
      go : (f : Option Destination) → fates (book_turn f k a) i ≡ fates a i + 0
      go None = omega arith
      go (Some d) = omega arith
  fates_event (input.Midi (event.Button b)) = omega (arith, fates-press (press_moves v w b.pressed b.note asked) a i)
  fates_event (input.Midi event.Other) = omega arith
  fates_event input.Tick =
      omega (arith, fates_live (same_live (live_at w.bank w) (live_at w.bank z)) w.bank (book_drain (rig_in v w) a) i, fates-drain (rig_in v w) a i)
  fates_event input.PushState = omega arith
  fates_event input.PushTransport = omega arith
  fates_event input.FlashBank = omega arith

-- ── a move is one event's ──

-- event n's moves are n, once at most
module _ (v : View) (n i : ℕ) where
  other_none : (i ≡ n → ⊥) → (x : Option Past) → count i (move_at v n x) ≡ 0
  unfolding count
  other_none h None = refl
  other_none h (Some x) = go x.what
    where
      at : (f : Option Destination) → count i (if_found f n) ≡ 0
      at None = refl
      at (Some d) = rw (ne_eqb i n h)

      go : (e : Input) → count i (move_in v n e x.before) ≡ 0
      go (input.Midi (event.Fader ch y)) = at (destination (rig_in v x.before) (ch + 1))
      go (input.Midi (event.Encoder ch k)) = refl
      go (input.Midi (event.Button b)) = refl
      go (input.Midi event.Other) = refl
      go input.Tick = refl
      go input.PushState = refl
      go input.PushTransport = refl
      go input.FlashBank = refl

  once_of : (x : Option Past) → count i (move_at v n x) ≤ 1
  unfolding count
  once_of None = omega arith
  once_of (Some x) = go x.what
    where
      bit : (b : Bool) → bump b 0 ≤ 1
      bit true = omega arith
      bit false = omega arith

      at : (f : Option Destination) → count i (if_found f n) ≤ 1
      at None = omega arith
      at (Some d) = bit (eqb i n)

      go : (e : Input) → count i (move_in v n e x.before) ≤ 1
      go (input.Midi (event.Fader ch y)) = at (destination (rig_in v x.before) (ch + 1))
      go (input.Midi (event.Encoder ch k)) = omega arith
      go (input.Midi (event.Button b)) = omega arith
      go (input.Midi event.Other) = omega arith
      go input.Tick = omega arith
      go input.PushState = omega arith
      go input.PushTransport = omega arith
      go input.FlashBank = omega arith

moves-below : (v : View) (n i : ℕ) (xs : List (Option Past)) → i < n → count i (moves v n xs) ≡ 0
unfolding moves count
moves-below v n i [] h = refl
moves-below v n i (x ∷ xs) h =
    omega (arith, count-append i (move_at v n x) (moves v (suc n) xs), other_none v n i (λ e. omega arith) x, moves-below v (suc n) i xs (omega arith))

pub moves_once : (v : View) (n i : ℕ) (xs : List (Option Past)) → count i (moves v n xs) ≤ 1
unfolding moves count
moves_once v n i [] = omega arith
moves_once v n i (x ∷ xs) = go (eqb i n) refl (moves_once v (suc n) i xs)
  where
    go : (b : Bool) → eqb i n ≡ b → count i (moves v (suc n) xs) ≤ 1 → count i (move_at v n x ++ moves v (suc n) xs) ≤ 1
    go true e ih =
        let q : i ≡ n = eqb-true i n e in
        omega (arith, count-append i (move_at v n x) (moves v (suc n) xs), once_of v n i x, moves-below v (suc n) i xs (omega arith))
    go false e ih =
        omega (arith, count-append i (move_at v n x) (moves v (suc n) xs), other_none v n i (eqb-false i n e) x)

-- ── turns ──

-- all that the sums need of the test: destinations that are the same are the same as the same ones
pub same_cong : (a b d : Destination) → same_dest a b ≡ true → same_dest a d ≡ same_dest b d
unfolding same_dest every
same_cong a b d e =
    let e₁ = and_right (eqb a.driver b.driver) _ e in
    let e₂ = and_right (eqb a.target b.target) _ e₁ in
    let e₃ = and_right (eqb a.label b.label) _ e₂ in
    let e₄ = and_right (eqb a.group b.group) _ e₃ in
    let e₅ = and_right (eqb a.mute b.mute) _ e₄ in
    let e₆ = and_right (beq a.takeover b.takeover) _ e₅ in
    let p₁ : a.driver ≡ b.driver = eqb-true a.driver b.driver (and_left (eqb a.driver b.driver) _ e) in
    let p₂ : a.target ≡ b.target = eqb-true a.target b.target (and_left (eqb a.target b.target) _ e₁) in
    let p₃ : a.label ≡ b.label = eqb-true a.label b.label (and_left (eqb a.label b.label) _ e₂) in
    let p₄ : a.group ≡ b.group = eqb-true a.group b.group (and_left (eqb a.group b.group) _ e₃) in
    let p₅ : a.mute ≡ b.mute = eqb-true a.mute b.mute (and_left (eqb a.mute b.mute) _ e₄) in
    let p₆ : a.takeover ≡ b.takeover = beq_true a.takeover b.takeover (and_left (beq a.takeover b.takeover) _ e₅) in
    let q₁ : eq a.low d.low ≡ eq b.low d.low = eq_cong a.low b.low d.low (and_left (eq a.low b.low) (eq a.high b.high) e₆) in
    let q₂ : eq a.high d.high ≡ eq b.high d.high = eq_cong a.high b.high d.high (and_right (eq a.low b.low) (eq a.high b.high) e₆) in
    rw (p₁, p₂, p₃, p₄, p₅, p₆, q₁, q₂)

pub sum_append : (d : Destination) (l m : List Turn) → sum_for d (l ++ m) ≡ sum_for d l +ℤ sum_for d m
unfolding sum_for
sum_append d [] m = sym (+ℤ_idl _)
sum_append d (x ∷ l) m = rw (sum_append d l m, +ℤ_assoc)

if_same_lem : (b : Bool) (m n : ℤ) → if_same b (m +ℤ n) ≡ if_same b m +ℤ if_same b n
if_same_lem true m n = refl
if_same_lem false m n = refl

swap : (a b c : ℤ) → (a +ℤ b) +ℤ c ≡ (a +ℤ c) +ℤ b
swap a b c = rw (+ℤ_assoc, +ℤ_comm b c, ← +ℤ_assoc)

-- a turn adds to its destination's sum and to no other
sum_summed : (d e : Destination) (n : ℤ) (l : List Turn) → sum_for d (summed e n l) ≡ sum_for d l +ℤ if_same (same_dest e d) n
unfolding sum_for summed
sum_summed d e n [] = +ℤ_comm (if_same (same_dest e d) n) (pos 0)
sum_summed d e n (x ∷ xs) = go (same_dest x.dest e) refl (sum_summed d e n xs)
  where
    go : (b : Bool) → same_dest x.dest e ≡ b → sum_for d (summed e n xs) ≡ sum_for d xs +ℤ if_same (same_dest e d) n →
        sum_for d (pick b (add_to n x ∷ xs) (x ∷ summed e n xs)) ≡ sum_for d (x ∷ xs) +ℤ if_same (same_dest e d) n
    go true t ih = rw (same_cong x.dest e d t, if_same_lem, swap)
    go false t ih = rw (ih, +ℤ_assoc)

handed_snoc : (l : List Drain) (x : Drain) → handed (l ++ (x ∷ [])) ≡ handed l ++ x.sums
unfolding handed
handed_snoc [] x = append-nil x.sums
handed_snoc (y ∷ l) x = rw (handed_snoc l x, append_assoc)

-- handed over and waiting, of one destination
abbrev pub total : Account → Destination → ℤ
total a d = sum_for d (handed a.drains) +ℤ sum_for d a.sums

total-press : (b : Bool) (a : Account) (d : Destination) → total (book_press b a) d ≡ total a d
total-press true a d = refl
total-press false a d = refl

total_live : (b : Bool) (bank : ℕ) (a : Account) (d : Destination) → total (book_live b bank a) d ≡ total a d
total_live true bank a d = refl
total_live false bank a d = refl

total-drain : (r : Rig) (a : Account) (d : Destination) → total (book_drain r a) d ≡ total a d
unfolding sum_for
total-drain r a d = +ℤ_idr _ ∙ ap (sum_for d) (handed_snoc a.drains (drain_of r a)) ∙ sum_append d (handed a.drains) a.sums

total-move : (b : Bool) (key : ℕ) (m : Waits) (a : Account) (d : Destination) → total (book_if b key m a) d ≡ total a d
total-move true key m a d = refl
total-move false key m a d = refl

module _ (v : View) (n : ℕ) (w z : Site) (answers : List ℕ) (asked : List Asked) (a : Account) (d : Destination) where
  pub total_event : (e : Input) → total (book_event v n e w z answers asked a) d ≡ total a d +ℤ sum_for d (turn_in v e w)
  unfolding sum_for
  total_event (input.Midi (event.Fader ch x)) = go (destination (rig_in v w) (ch + 1)) ∙ sym (+ℤ_idr _)
    where
      m : Waits
      m = record { id = n; channel = ch; level = x }

      go : (f : Option Destination) → total (book_move f (w.bank * 16 + ch) m answers a) d ≡ total a d
      go None = refl
      go (Some y) =
          total-move (holds y (w.bank * 16 + ch) m answers a) (w.bank * 16 + ch) m a d
  total_event (input.Midi (event.Encoder ch k)) = go (encoder_dest (rig_in v w) (ch + 1))
    where
      go : (f : Option Destination) → total (book_turn f k a) d ≡ total a d +ℤ sum_for d (turn_to f k)
      go None = sym (+ℤ_idr _)
      go (Some x) = rw (sum_summed d x k a.sums, +ℤ_idr, ← +ℤ_assoc)
  total_event (input.Midi (event.Button b)) = total-press (press_moves v w b.pressed b.note asked) a d ∙ sym (+ℤ_idr _)
  total_event (input.Midi event.Other) = sym (+ℤ_idr _)
  total_event input.Tick =
      total_live (same_live (live_at w.bank w) (live_at w.bank z)) w.bank (book_drain (rig_in v w) a) d ∙ total-drain (rig_in v w) a d ∙ sym (+ℤ_idr _)
  total_event input.PushState = sym (+ℤ_idr _)
  total_event input.PushTransport = sym (+ℤ_idr _)
  total_event input.FlashBank = sym (+ℤ_idr _)
