-- An event that was read from bytes has a fader's channel of 0 to 15 only, the low four bits of the status, and turns of -191 to 63.
use Rattle.std.specs.Prelude.{ℕ, zero, suc, ◌/◌, ◌-◌, ◌≤◌, ◌<◌, ◌≡◌, refl, Bool, true, false, ◌&&◌, List, [], ◌∷◌, eqb, leb, ltb, length, get_or, take, drop, pos, neg_ℤ, None, Option, Some}
use Rattle.std.proofs.Common.{subst, arith, le-leb, ltb-true}
use Rattle.base.specs.Choice.{pick}
use Rattle.base.proofs.RangeLaws.{and_right}
use Rattle.protocol.specs.Protocol.{delta_of, event_of, decode_of}
use Rattle.protocol.specs.declared.Event.{Event}
use Rattle.event.specs.Event.{event_ok, message_of, input_of, timed_of, read_of}
use Rattle.event.specs.declared.Input.{Input}
use Rattle.event.specs.declared.Timed.{Timed}
use Rattle.definition.specs.Faders.{in_range}
use Rattle.bounds.specs.Room.{LowEvent, LowInput}

pick_event : (b : Bool) (x y : Event) → (b ≡ true → LowEvent x) → LowEvent y → LowEvent (pick b x y)
pick_event true x y h k = h refl
pick_event false x y h k = k

pick_input : (b : Bool) (x y : Input) → LowInput x → LowInput y → LowInput (pick b x y)
pick_input true x y h k = h
pick_input false x y h k = k

-- ── a turn ──

left_low : (n : ℕ) → n ≤ 1000000 → in_range (neg_ℤ (pos n)) ≡ true
left_low zero h = rw (le-leb 0 1000000 (omega arith))
left_low (suc n) h = rw (le-leb n 999999 (omega arith))

delta_low : (b : ℕ) → b < 256 → in_range (delta_of b) ≡ true
delta_low b h = go (ltb b 0x40)
  where
    go : (c : Bool) → in_range (pick c (pos b) (neg_ℤ (pos (b - 0x40)))) ≡ true
    go true = le-leb b 1000000 (omega (arith, h))
    go false = left_low (b - 0x40) (omega (arith, h))

encoder_low : (a : ℕ) → ltb a 0x18 ≡ true → a - 0x10 < 8
encoder_low a e = omega (arith, ltb-true a 0x18 e)

-- ── bytes ──

abbrev Bytes : List ℕ → Type 0
Bytes s = (j : ℕ) → get_or s j 0 < 256

take-bytes : (n : ℕ) (l : List ℕ) → Bytes l → Bytes (take n l)
take-bytes zero l h j = omega arith
take-bytes (suc n) [] h j = omega arith
take-bytes (suc n) (x ∷ l) h zero = h 0
take-bytes (suc n) (x ∷ l) h (suc j) = take-bytes n l (λ i. h (suc i)) j

drop-bytes : (n : ℕ) (l : List ℕ) → Bytes l → Bytes (drop n l)
drop-bytes zero l h = h
drop-bytes (suc n) [] h = h
drop-bytes (suc n) (x ∷ l) h = drop-bytes n l (λ i. h (suc i))

-- ── an event ──

event_low : (n status a b : ℕ) → b < 256 → LowEvent (event_of n status a b)
event_low n status a b h =
    pick_event (eqb (status / 16) 0xe && leb 3 n) _ _ (λ e. omega arith)
    (pick_event (eqb (status / 16) 0xb && (leb 3 n && (leb 0x10 a && ltb a 0x18))) _ _ (λ e. (encoder_low a (turned e), delta_low b h))
    (pick_event (eqb (status / 16) 0x9 && leb 3 n) _ _ (λ e. tt) (pick_event (eqb (status / 16) 0x8 && leb 2 n) _ _ (λ e. tt) tt)))
  where
    turned : (eqb (status / 16) 0xb && (leb 3 n && (leb 0x10 a && ltb a 0x18))) ≡ true → ltb a 0x18 ≡ true
    turned e = and_right (leb 0x10 a) (ltb a 0x18) (and_right (leb 3 n) _ (and_right (eqb (status / 16) 0xb) _ e))

decoded_low : (m : List ℕ) → Bytes m → LowEvent (decode_of m)
unfolding decode_of
decoded_low m h = event_low (length m) (get_or m 0 0) (get_or m 1 0) (get_or m 2 0) (h 2)

input_low : (s : List ℕ) → Bytes s → LowInput (input_of s)
unfolding input_of
input_low s h =
    pick_input (eqb (get_or s 0 0) 1) _ _ (decoded_low (message_of s) (take-bytes (get_or s 1 0) (drop 2 s) (drop-bytes 2 s h)))
    (pick_input (eqb (get_or s 0 0) 2) _ _ tt (pick_input (eqb (get_or s 0 0) 3) _ _ tt (pick_input (eqb (get_or s 0 0) 4) _ _ tt tt)))

-- what was read
abbrev LowRead : Option Timed → Type 0
LowRead (Some e) = LowInput e.what
LowRead None = Unit {0}

read_so : (s : List ℕ) → Bytes s → LowRead (read_of s)
unfolding read_of
read_so s h = at (event_ok s)
  where
    at : (b : Bool) → LowRead (pick b (Some (timed_of s)) None)
    at true = input_low s h
    at false = tt

pub read_low : (s : List ℕ) → ((j : ℕ) → get_or s j 0 < 256) → (e : Timed) → read_of s ≡ Some e → LowInput e.what
read_low s h e q = subst (λ (r : Option Timed). LowRead r) q (read_so s h)
