-- `floor` and `max(0.0)` before Rust's `as u32` change nothing: the cast cuts to a whole number and takes what is below zero, and a NaN, to 0. Assumes nothing.
use Rattle.std.proofs.Common.{◌≡◌, ℕ, zero, suc, ◌-◌, ◌*◌, ◌/◌, ◌%◌, ◌^◌, ◌<◌, ◌≤◌, Bool, true, false, cond, min, ap, ◌&&◌, T, eqb, ltb, leb, ℤ, pos, negsuc, refl, ◌∙◌, zero-mul, mul-one, div-le_self, div-one, arith, ltb→lt, pow_pos, ltb-false}
use native.Mathlib.Nat.{zero-div}
use lib.Ieee.{Float, nan, inf, fin, up, down, binary64, lt, fits, of_bits, to_unsigned, round}
use lib.Ieee.Fits.{and_l, and_r, up_pos, down_pos}
use lib.Ieee.Exact.{HasValue}
use lib.Ieee.Nearest.{div_same}
use lib.Ieee.Back.{round_whole}
use Rattle.float.specs.Leaf.{floor_of, at_least0, f0}

-- the cast of a value that is given as a fraction
cut_val : (x : Float) (s : Bool) (a c : ℕ) → 0 < c → HasValue x s a c → to_unsigned 32 x ≡ cond s 0 (min (a / c) (2 ^ 32 - 1))
unfolding to_unsigned
cut_val nan s a c C v = absurd v
cut_val (inf t) s a c C v = absurd v
cut_val (fin t m e) s a c C v =
    ap (λ (b : Bool). cond b 0 (min (m * up e / down e) (2 ^ 32 - 1))) v.0
    ∙ ap (λ (n : ℕ). cond s 0 (min n (2 ^ 32 - 1))) (div_same (m * up e) (down e) a c (down_pos e) C v.1)

-- ---- max

no_less : (m u d : ℕ) → 0 < u → ltb (0 * d) (m * u * 1) ≡ false → m ≡ 0
no_less zero u d p h = refl
no_less (suc m) u d p h = absurd (omega (arith, ltb-false (0 * d) (suc m * u * 1) h, zero-mul d))

above : (y : Float) → to_unsigned 32 (at_least0 y) ≡ to_unsigned 32 y
unfolding at_least0 lt of_bits to_unsigned
above nan = refl
above (inf true) = refl
above (inf false) = refl
above (fin true m e) = refl
above (fin false m e) = go (ltb (0 * down e) (m * up e * 1)) (no_less m (up e) (down e) (up_pos e))
  where
    go : (b : Bool) → (b ≡ false → m ≡ 0) → to_unsigned 32 (cond b (fin false m e) f0) ≡ to_unsigned 32 (fin false m e)
    go true h = refl
    go false h = rw (h refl, zero-mul, zero-div)

-- ---- floor

digits : (s : Bool) (m : ℕ) (e : ℤ) → T (fits binary64 (fin s m e)) → m < 2 ^ 53
unfolding fits
digits s zero e t = pow_pos 53
digits s (suc m) e t =
    let odd = eqb (suc m % 2) 1 in
    let few = ltb (suc m) (2 ^ 53) in
    let low = leb (down e) (2 ^ 1074) in
    let high = ltb (suc m * up e) (2 ^ 1024 * down e) in
    ltb→lt (suc m) (2 ^ 53) (and_r odd few (and_l (odd && few) low (and_l (odd && few && low) high t)))

-- the next whole number above a fraction of m is at most 2 ^ 53 too
small : (b : Bool) (q m : ℕ) → m < 2 ^ 53 → q ≤ m → cond b q (suc q) ≤ 2 ^ 53
small true q m h k = omega arith
small false q m h k = omega arith

whole : (x : Float) → T (fits binary64 x) → to_unsigned 32 (floor_of x) ≡ to_unsigned 32 x
unfolding floor_of to_unsigned
whole nan t = refl
whole (inf s) t = refl
whole (fin s m (pos e)) t = refl
whole (fin true m (negsuc e)) t =
    let n = cond (eqb (m % 2 ^ suc e) 0) (m / 2 ^ suc e) (suc (m / 2 ^ suc e)) in
    cut_val (round binary64 true n 1) true n 1 (omega arith) (round_whole binary64 true n (small (eqb (m % 2 ^ suc e) 0) (m / 2 ^ suc e) m (digits true m (negsuc e) t) (div-le_self m (2 ^ suc e))))
whole (fin false m (negsuc e)) t =
    let n = m / 2 ^ suc e in
    let h = digits false m (negsuc e) t in
    cut_val (round binary64 false n 1) false n 1 (omega arith) (round_whole binary64 false n (omega (arith, h, div-le_self m (2 ^ suc e))))
    ∙ rw (div-one, mul-one)

pub same_cast : (x : Float) → T (fits binary64 x) → to_unsigned 32 (at_least0 (floor_of x)) ≡ to_unsigned 32 x
same_cast x t = above (floor_of x) ∙ whole x t
