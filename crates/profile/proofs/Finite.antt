-- A pattern's value is finite unless the field of its exponent is all ones, and that field is in the highest two of its eight bytes. Assumes nothing.
use Prim.Native.Nat.{ℕ, zero, suc, ◌+◌, ◌*◌, ◌/◌, ◌%◌, ◌<◌}
use mathlib.Core.Path.{◌≡◌, refl, ◌∙◌}
use mathlib.Core.List.{List}
use mathlib.Core.Bool.{Bool, true, false, not, cond}
use native.Mathlib.Omega.{arith}
use lib.Dec.{eqb}
use lib.Ieee.{Float, nan, inf, Format, binary64, prec, low, odd, ones, hid, top, of_fields, of_bits}
use lib.Ieee.Scale.{finite}
use lib.ListN.{get_or}
use borrow.Author.Tests.{ne_eqb}
use Rattle.base.specs.Words.{le16, le64}

odd_finite : (d : ℕ) (s : Bool) (q k l : ℕ) → finite (odd d s q k l) ≡ true
unfolding odd
odd_finite d s zero k l = refl
odd_finite d s (suc q) k l = refl

-- an infinity or a NaN
endless : (s b : Bool) → finite (cond b (inf s) nan) ≡ false
endless s true = refl
endless s false = refl

field : (x : Float) (b : Bool) (y : Float) → finite x ≡ false → finite y ≡ true → finite (cond b x y) ≡ not b
field x true y p q = p
field x false y p q = q

fields_finite : (f : Format) (s : Bool) (x t : ℕ) → finite (of_fields f s x t) ≡ not (eqb x (ones f))
unfolding of_fields
fields_finite f s zero t = odd_finite (prec f) s t 0 (low f) ∙ rw (ne_eqb 0 (ones f) (λ e. omega arith))
fields_finite f s (suc x) t = field _ (eqb (suc x) (ones f)) _ (endless s (eqb t 0)) (odd_finite (prec f) s (hid f + t) x (low f))

bits_finite : (f : Format) (b : ℕ) → finite (of_bits f b) ≡ not (eqb (b % top f / hid f) (ones f))
unfolding of_bits
bits_finite f b = fields_finite f _ (b % top f / hid f) (b % hid f)

-- the field, from the four times two bytes of a pattern
exponent : (a b d h : ℕ) → a < 65536 → b < 65536 → d < 65536 → (a + 65536 * b + 4294967296 * (d + 65536 * h)) % 9223372036854775808 / 4503599627370496 ≡ h / 16 % 2048
exponent a b d h x y z = omega arith

module _ (s : List ℕ) (bytes : (i : ℕ) → get_or s i 0 < 256) where
  half_lt : (at : ℕ) → le16 s at < 65536
  half_lt at = omega (arith, bytes at, bytes (at + 1))

  pub exponent_field : (at up : ℕ) → up ≡ at + 4 + 2 → finite (of_bits binary64 (le64 s at)) ≡ not (eqb (le16 s up / 16 % 2048) 2047)
  unfolding le64
  exponent_field at up e =
      bits_finite binary64 (le64 s at)
      ∙ rw (e, exponent (le16 s at) (le16 s (at + 2)) (le16 s (at + 4)) (le16 s (at + 4 + 2)) (half_lt at) (half_lt (at + 2)) (half_lt (at + 4)))
