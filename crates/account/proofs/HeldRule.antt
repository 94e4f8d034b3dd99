-- The account's own rule by which a move is held is the definition's, for every last move, level, range and value.
use Rattle.std.proofs.Common.{None, Option, Some}
use Prim.Native.Nat.{ℕ}
use mathlib.Core.Path.{◌≡◌, refl, ap, ◌∙◌}
use mathlib.Core.Bool.{Bool, true, false, ◌&&◌, ◌||◌, not, or-false}
use mathlib.Core.List.{List}
use lib.Ieee.{Float, nan, inf, fin, binary64, neg, sub, div, lt, of_int, of_bits}
use Rattle.float.specs.Leaf.{f0, f1, near, abs_of, clamp_of, normalise, far_of}
use Rattle.drivers.specs.Talk.{start, next}
use Rattle.lookup.specs.declared.Destination.{Destination}
use Rattle.definition.specs.Levels.{normal, read}
use Rattle.definition.specs.Faders.{is_held, crossed_from}
use Rattle.account.specs.Account.{reading, whole_number, two_hundredths, as_value, away_from, crosses, held_against, held_by_rule}

-- ── the numbers ──

zero_is : whole_number 0 ≡ f0
unfolding of_int of_bits
zero_is = refl

one_is : whole_number 1 ≡ f1
unfolding of_int of_bits
one_is = refl

near_is : two_hundredths ≡ near
unfolding of_int of_bits div
near_is = refl

-- ── farther off than 0.02 ──

farther : (z : Float) → lt near z || lt z (neg near) ≡ lt near (abs_of z)
unfolding lt neg of_bits abs_of
farther nan = refl
farther (inf true) = refl
farther (inf false) = refl
farther (fin true m e) = refl
farther (fin false m e) = or-false _

away_is : (c value : Float) → away_from c value ≡ far_of value c
away_is c value = rw near_is (farther (sub binary64 value c))

-- ── the rule ──

value_is : (low high level : Float) → as_value low high level ≡ normalise low high level
unfolding clamp_of
value_is low high level = rw (zero_is, one_is)

crosses_is : (last : Option Float) (c value : Float) → crosses last c value ≡ crossed_from last c value
crosses_is (Some p) c value = rw zero_is
crosses_is None c value = refl

against_is : (last : Option Float) (c value : Float) → held_against last c value ≡ far_of value c && not (crossed_from last c value)
against_is last c value = rw (away_is c value, crosses_is last c value)

pub held_rule : (d : Destination) (last level : Option Float) (value : Float) →
    held_by_rule last level d.low d.high value ≡ is_held (normal d level) last value
held_rule d last (Some level) value =
    ap (λ (c : Float). held_against last c value) (value_is d.low d.high level) ∙ against_is last (normalise d.low d.high level) value
held_rule d last None value = refl

-- the definition reads what the account reads
pub read_is : (d : Destination) (answers : List ℕ) (o : List Bool) → (read d (start answers o)).value ≡ normal d (reading d answers o)
unfolding read reading next
read_is d answers o = refl
