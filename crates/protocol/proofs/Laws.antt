-- What is known of a note that was looked up, of a kind's number, and of a message that is written. Assumes nothing.
use Rattle.std.proofs.Common.{Some}
use Prim.Native.Nat.{ℕ, ◌+◌, ◌-◌, ◌≤◌, ◌<◌}
use mathlib.Core.Path.{◌≡◌, refl}
use mathlib.Core.Bool.{Bool, true, false, ◌&&◌}
use mathlib.Core.List.{List, [], ◌∷◌, ◌++◌}
use native.Mathlib.Omega.{arith}
use lib.Dec.{leb, ltb}
use lib.ListN.{get_or, drop}
use borrow.Author.Tests.{leb-true, ltb-true, lt-ltb}
use Rattle.std.proofs.Common.{eqb, eqb-true}
use Rattle.base.specs.Range.{all}
use Rattle.base.proofs.RangeLaws.{all-at, and_left, bool_iff}
use Rattle.base.proofs.FirstLaws.{first-at}
use Rattle.base.specs.Tail.{at_front}
use Rattle.protocol.specs.Protocol.{channel_bases, is_of_base, is_named, base_of, named_of, number_of, bytes_of}
use Rattle.protocol.specs.declared.Kind.{Kind}
use Rattle.protocol.specs.declared.Kind.TheVariants.{Rec, Solo, Mute, Select, BankLeft, BankRight, ArrowLeft, ArrowRight, ArrowUp, ArrowDown, Rewind, Forward, Stop, Play, Record, Unknown}
use Rattle.protocol.specs.contracts.Kind.{the_type}
use denote.Enum.Declared.{tag_of}
use Rattle.protocol.specs.declared.Out.{Out}
use Rattle.protocol.specs.declared.Out.TheVariants.{Led, Position}

-- a base that has the note is one of the four, and starts at the note or below
pub base_at : (note k : ℕ) → base_of note ≡ Some k → (k < 4) × (get_or channel_bases k 0 ≤ note)
unfolding base_of
base_at note k e =
    let w = first-at (is_of_base note) 4 k e in
    (w.0, leb-true _ _ (and_left (leb (get_or channel_bases k 0) note) _ w.1))

pub named_at : (note k : ℕ) → named_of note ≡ Some k → k < 11
unfolding named_of
named_at note k e = (first-at (is_named note) 11 k e).0

-- the eight notes from a base on, as a difference
pub below_eight : (n b : ℕ) → (leb b n && ltb (n - b) 8) ≡ (leb b n && ltb n (b + 8))
below_eight n b = go (leb b n) refl
  where
    go : (x : Bool) → leb b n ≡ x → (x && ltb (n - b) 8) ≡ (x && ltb n (b + 8))
    go true e =
        bool_iff _ _
        (λ h. lt-ltb n (b + 8) (omega (arith, ltb-true (n - b) 8 h, leb-true b n e)))
        (λ h. lt-ltb (n - b) 8 (omega (arith, ltb-true n (b + 8) h, leb-true b n e)))
    go false e = refl

-- the kinds in the order of their numbers
abbrev pub kinds : List Kind
kinds = Rec ∷ Solo ∷ Mute ∷ Select ∷ BankLeft ∷ BankRight ∷ ArrowLeft ∷ ArrowRight ∷ ArrowUp ∷ ArrowDown ∷ Rewind ∷ Forward ∷ Stop ∷ Play ∷ Record ∷ []

pub numbered : (k : ℕ) → k < 15 → number_of (get_or kinds k Rec) ≡ k
unfolding number_of all
numbered k h = eqb-true _ k (all-at (λ i. eqb (number_of (get_or kinds i Rec)) i) 15 k refl h)

pub tag_number : (k : Kind) → tag_of the_type k ≡ number_of k
unfolding number_of
tag_number Rec = refl
tag_number Solo = refl
tag_number Mute = refl
tag_number Select = refl
tag_number BankLeft = refl
tag_number BankRight = refl
tag_number ArrowLeft = refl
tag_number ArrowRight = refl
tag_number ArrowUp = refl
tag_number ArrowDown = refl
tag_number Rewind = refl
tag_number Forward = refl
tag_number Stop = refl
tag_number Play = refl
tag_number Record = refl
tag_number Unknown = refl

-- a message has three bytes, and what stands behind them in the buffer stays
pub put_front : (out : Out) (l r : List ℕ) → r ≡ bytes_of out → r ++ drop 3 l ≡ at_front (bytes_of out) l
unfolding bytes_of at_front
put_front (Led note on) l r e = rw e
put_front (Position channel raw) l r e = rw e
