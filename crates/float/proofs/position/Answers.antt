-- `position` meets its contract. The product x is a value of the format, so it is what its bits b are read as, and each return is a case of `proofs/Held.antt`. Assumes nothing.
use Rattle.std.proofs.Common.{◌≡◌, ℕ, Bool, true, false, refl, not, T, sym, ap, ◌∙◌, subst}
use mathlib.Core.Bool.{false≢true}
use lib.Ieee.{Float, binary64, mul, nan, inf, fin, is_nan, of_bits, to_bits}
use lib.Ieee.Fits.{mul-fits}
use lib.Ieee.Bits.{of_bits-to_bits}
use Rattle.float.specs.Leaf.{held, fader_max, position_of, ComesBack}
use Rattle.float.proofs.Trip.{comes_back}
use Rattle.float.proofs.Held.{held_negative, held_low, held_mid, held_high}
use Rattle.float.proofs.position.Goals as goal

held_nan : (x : Float) → is_nan x ≡ true → held x ≡ 0
unfolding held is_nan
held_nan nan h = refl
held_nan (inf s) h = absurd (false≢true h)
held_nan (fin s m e) h = absurd (false≢true h)

number : (x : Float) (b : Bool) → b ≡ is_nan x → b ≡ false → T (not (is_nan x))
number x b e f = subst (λ (a : Bool). T (not a)) (sym f ∙ e) tt

abbrev product : Float → Float
product v = mul binary64 v fader_max

-- the product is what its bits are read as
read : (v : Float) → of_bits binary64 (to_bits binary64 (product v)) ≡ product v
read v = of_bits-to_bits binary64 (product v) (mul-fits binary64 v fader_max)

by_bits : (v : Float) (n : ℕ) → held (of_bits binary64 (to_bits binary64 (product v))) ≡ n → n ≡ position_of v
by_bits v n h = sym h ∙ ap held (read v)

-- what is sent is the position, and so the one that came in
abbrev Sent : Float → ℕ → Type 0
Sent v n = record { value : n ≡ position_of v; comes_back : ComesBack v n }

sent : (v : Float) (n : ℕ) → n ≡ position_of v → Sent v n
sent v n e = record { value = e; comes_back = record { back = λ raw h f. e ∙ ap position_of f ∙ comes_back raw h } }

pub returns-then-is_nan : goal.returns-then-is_nan
returns-then-is_nan c = let v = c.args.value in sent v 0 (sym (held_nan (product v) (sym c.is_nan.ensures.value ∙ c.if-is_nan.true)))

pub returns-then-bits-ge9223372036854775808 : goal.returns-then-bits-ge9223372036854775808
returns-then-bits-ge9223372036854775808 c = let v = c.args.value in sent v 0 (by_bits v 0 (held_negative _ c.if-bits-ge9223372036854775808.true))

pub returns-then-exponent-lt1022 : goal.returns-then-exponent-lt1022
returns-then-exponent-lt1022 c = let v = c.args.value in sent v 0 (by_bits v 0 (held_low _ c.if-bits-ge9223372036854775808.false c.if-exponent-lt1022.true))

pub returns-then-exponent-gt1036 : goal.returns-then-exponent-gt1036
returns-then-exponent-gt1036 c =
    let v = c.args.value in
    sent v 16383
    (by_bits v 16383
    (held_high _ c.if-bits-ge9223372036854775808.false c.if-exponent-gt1036.true
    (subst (λ (x : Float). T (not (is_nan x))) (sym (read v)) (number (product v) _ c.is_nan.ensures.value c.if-is_nan.false))))

pub returns : goal.returns
returns c =
    let v = c.args.value in
    sent v _
    (c.min.ensures
    ∙ by_bits v _ (held_mid _ c.if-bits-ge9223372036854775808.false c.if-exponent-lt1022.false c.if-exponent-gt1036.false))
