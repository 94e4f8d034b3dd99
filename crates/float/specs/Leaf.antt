-- The f64 operations of the bridge, as functions on the values of Rattle.std.specs.Float.Ieee: the Rust's operations one by one, each rounded once.
-- A constant is written by its bit pattern, with its decimal beside it. Definitions only.
use Rattle.std.specs.Prelude.{◌≡◌, ℕ, suc, ◌+◌, ◌*◌, ◌/◌, ◌%◌, ◌^◌, ◌<◌, min, Bool, false, cond, ◌&&◌, ℤ, pos, negsuc, ◌==◌, from_bits, Float}
use Rattle.std.specs.Float.{nan, inf, fin, binary64}
use Rattle.std.specs.Float.Ieee.{up, down, add, sub, mul, div, lt, le, eq, of_int, to_unsigned, round}

-- 0, 1, 2, 3
abbrev pub f0 : Float
f0 = from_bits binary64 0

abbrev pub f1 : Float
f1 = from_bits binary64 0x3ff0_0000_0000_0000

abbrev pub f2 : Float
f2 = from_bits binary64 0x4000_0000_0000_0000

abbrev pub f3 : Float
f3 = from_bits binary64 0x4008_0000_0000_0000

-- FADER_MAX, 16383
abbrev pub fader_max : Float
fader_max = from_bits binary64 0x40cf_ff80_0000_0000

-- NEAR, 0.02
abbrev pub near : Float
near = from_bits binary64 0x3f94_7ae1_47ae_147b

-- STEP, 1 / 64
abbrev pub step : Float
step = from_bits binary64 0x3f90_0000_0000_0000

-- BLINK, 0.12
abbrev pub blink : Float
blink = from_bits binary64 0x3fbe_b851_eb85_1eb8

-- ── fader positions ──

-- "Fader value is raw divided by 16383."
abbrev pub value_of : ℕ → Float
value_of raw = div binary64 (of_int binary64 (pos raw)) fader_max

-- a / c to the nearest whole number, halves up: the whole part of a / c + 1 / 2
abbrev pub halves_up : ℕ → ℕ → ℕ
halves_up a c = (2 * a + c) / (2 * c)

-- "rounded to nearest, halves up, held in 0 to 16383; NaN gives 0." A finite value is the fraction m * up e / down e; below zero all is 0.
unfoldable pub held : Float → ℕ
held nan = 0
held (inf s) = cond s 0 16383
held (fin s m e) = cond s 0 (min (halves_up (m * up e) (down e)) 16383)

-- "Position is the product with 16383", which `mul` rounds once
abbrev pub position_of : Float → ℕ
position_of v = held (mul binary64 v fader_max)

-- "Every raw position, decoded and sent, comes back": r is sent for the value of a raw position only where r is that position
pub record ComesBack (value : Float) (r : ℕ) : Type 0 where
  pub back : (raw : ℕ) → raw < 16384 → value ≡ value_of raw → r ≡ raw

-- ── levels ──

-- Rust's `abs`: the sign is dropped
unfoldable pub abs_of : Float → Float
abs_of nan = nan
abs_of (inf s) = inf false
abs_of (fin s m e) = fin false m e

-- Rust's `clamp(0.0, 1.0)`: a NaN stays, and -0.0 stays
unfoldable pub clamp_of : Float → Float
clamp_of x = cond (lt x f0) f0 (cond (lt f1 x) f1 x)

-- `Bridge::read`: a device's level as the fader sees it, ((raw - low) / (high - low)).clamp(0.0, 1.0)
abbrev pub normalise : Float → Float → Float → Float
normalise low high raw = clamp_of (div binary64 (sub binary64 raw low) (sub binary64 high low))

-- `Bridge::write`: a fader's value as the device takes it, low + value * (high - low)
abbrev pub range_of : Float → Float → Float → Float
range_of low high value = add binary64 low (mul binary64 value (sub binary64 high low))

-- |value - c| > 0.02
abbrev pub far_of : Float → Float → Bool
far_of value c = lt near (abs_of (sub binary64 value c))

-- (p - c)(value - c) < 0
abbrev pub crossed_of : Float → Float → Float → Bool
crossed_of p c value = lt (mul binary64 (sub binary64 p c) (sub binary64 value c)) f0

-- "current + sum/64 held in 0 to 1": (current + f64::from(delta) * STEP).clamp(0.0, 1.0)
abbrev pub nudge : Float → ℤ → Float
nudge current sum = clamp_of (add binary64 current (mul binary64 (of_int binary64 sum) step))

-- two ranges are equal by Rust's ==: -0.0 equals 0.0, a NaN nothing
abbrev pub same_range : Float → Float → Float → Float → Bool
same_range low high low' high' = eq low low' && eq high high'

-- ── the flash ──

-- a / c, to the next whole number above
abbrev ceiling : ℕ → ℕ → ℕ
ceiling a c = cond (a % c == 0) (a / c) (suc (a / c))

-- Rust's `floor`. What is m * 2 ^ e with e at least 0 is whole; else the whole number below is an f64 too, so that `round` gives just it
unfoldable pub floor_of : Float → Float
floor_of nan = nan
floor_of (inf s) = inf s
floor_of (fin s m (pos e)) = fin s m (pos e)
floor_of (fin s m (negsuc e)) = round binary64 s (cond s (ceiling m (2 ^ suc e)) (m / 2 ^ suc e)) 1

-- Rust's `max(0.0)`: a NaN gives 0
unfoldable pub at_least0 : Float → Float
at_least0 x = cond (lt f0 x) x f0

-- The phases of a flash that are due: (((now - start) / BLINK).floor().max(0.0) as u32 + 1).min(2 * BLINKS).
-- `as u32` saturates, and the sum wraps as in a release build.
unfoldable pub due_of : Float → Float → ℕ
due_of now start = min ((to_unsigned 32 (at_least0 (floor_of (div binary64 (sub binary64 now start) blink))) + 1) % 2 ^ 32) 6

-- A flash has ended: now - start >= 2.0 * f64::from(BLINKS) * BLINK
abbrev pub flash_over : Float → Float → Bool
flash_over now start = le (mul binary64 (mul binary64 f2 f3) blink) (sub binary64 now start)
