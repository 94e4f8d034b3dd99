-- Every raw position, decoded and sent, comes back. Rounding changes a fraction in the normal range by less than one part in 2 ^ 20, and two such steps move a number up to 16383 by far less than a half. Assumes nothing.
use Rattle.std.proofs.Common.{◌≡◌, ℕ, zero, suc, ◌+◌, ◌-◌, ◌*◌, ◌/◌, ◌%◌, ◌^◌, ◌<◌, ◌≤◌, min, true, false, not, T, sym, refl, ap, ◌∙◌, subst, true≢false, le_trans, le_of_eq, lt_of_lt_of_le, lt_of_le_of_lt, le_of_lt, mul-le-mul_right, mod-lt, zero-lt-suc, mul_assoc, suc-mul, mul_comm, add-mul, mul-pos, one-mul, div-add-mod', le-div_iff_mul-le, mul-one, mul_right_comm, le_of_mul-le-mul_right, mul_left_comm, arith, lit<, lit≤, eqb→eq, leb→le, pow_pos, pow-add}
use Prim.Native.Nat.{compare, Ordering}
use native.Mathlib.Nat.{div-eq_of_lt-le, min-eq_left}
use lib.Dec.{is_le, compare_is_eq, nleb→lt}
use lib.Ieee.{Float, nan, inf, fin, binary64, up, down, size, nearest, mul, div, of_int, of_bits, round}
use lib.Ieee.Digits.{size_reaches}
use lib.Ieee.Exact.{HasValue}
use lib.Ieee.Nearest.{closest, nearest-ge}
use lib.Ieee.Fits.{nearest-le, down_pos}
use lib.Ieee.Scale.{grid, overflow, round_val, round_same, normal_of_fraction}
use lib.Ieee.Back.{round_whole}
use Rattle.float.specs.Leaf.{fader_max, held, halves_up, position_of, value_of}
use Rattle.float.proofs.Held.{held_val}

-- ---- the nearest whole number is within a half
abbrev Near : ℕ → ℕ → ℕ → Type 0
Near n u k = (2 * (k * u) ≤ 2 * n + u) × (2 * n ≤ 2 * (k * u) + u)

abbrev Cmp : Ordering → ℕ → ℕ → Type 0
Cmp Ordering.lt a b = a ≤ b
Cmp Ordering.eq a b = a ≡ b
Cmp Ordering.gt a b = b ≤ a

cmp : (a b : ℕ) → Cmp (compare a b) a b
cmp a b = go (compare a b) (leb→le a b) (nleb→lt a b) (eqb→eq a b)
  where
    go : (o : Ordering) → (T (is_le o) → a ≤ b) → (T (not (is_le o)) → b < a) → (T (compare_is_eq o) → a ≡ b) → Cmp o a b
    go Ordering.lt h k e = h tt
    go Ordering.eq h k e = e tt
    go Ordering.gt h k e = le_of_lt (k tt)

-- n is q * u + r
near-at : (o : Ordering) (q r u n : ℕ) → q * u + r ≡ n → r < u → Cmp o (r * 2) u → Near n u (nearest q o)
near-at Ordering.lt q r u n e h c = omega arith
near-at Ordering.eq q r u n e h c =
    let a : q * u ≤ (q + q % 2) * u = mul-le-mul_right u (nearest-ge q Ordering.eq) in
    let b : (q + q % 2) * u ≤ q * u + u = le_trans (mul-le-mul_right u (nearest-le q Ordering.eq)) (le_of_eq (suc-mul q u)) in
    omega arith
near-at Ordering.gt q r u n e h c =
    let a : suc q * u ≡ q * u + u = suc-mul q u in
    omega arith

near : (n u : ℕ) → 0 < u → Near n u (closest n u)
near n u U = near-at (compare (n % u * 2) u) (n / u) (n % u) u n (div-add-mod' n u) (mod-lt n U) (cmp (n % u * 2) u)

-- ---- one rounding in the normal range: within one part in 2 ^ 20 of (2 ^ 53 holds too, but `omega` stops at numbers of more than 38 digits) a / c, in units of the smallest value
abbrev P : ℕ
P = 1048576

abbrev Close : ℕ → ℕ → Type 0
Close x y = (x * P ≤ y * (P + 1)) × (y * P ≤ x * P + y)

digits_in_use : (z p : ℕ) → 53 ≤ z → 52 + (z - 53) < z
digits_in_use z p h = omega arith

within : (x y u : ℕ) → 2 * x ≤ 2 * y + u → 2 * y ≤ 2 * x + u → u * 4503599627370496 ≤ y → Close x y
within x y u a b h = omega arith

grid_close : (a c : ℕ) → 0 < c → 53 ≤ size (a * 2 ^ 1074 / c) → Close (grid binary64 a c * c) (a * 2 ^ 1074)
grid_close a c C N =
    let n = a * 2 ^ 1074 in
    let w = n / c in
    let d = size w - 53 in
    let u = c * 2 ^ d in
    let k = closest n u in
    let U : 0 < u = mul-pos C (pow_pos d) in
    let e : k * 2 ^ d * c ≡ k * u = mul_assoc k (2 ^ d) c ∙ ap (λ (x : ℕ). k * x) (mul_comm (2 ^ d) c) in
    let r : 2 ^ 52 * 2 ^ d ≤ w = le_trans (le_of_eq (sym (pow-add 2 52 d))) (size_reaches w (52 + d) (digits_in_use (size w) 0 N)) in
    let s : 2 ^ 52 * 2 ^ d * c ≤ n = (le-div_iff_mul-le C).0 r in
    let t : u * 2 ^ 52 ≤ n = le_trans (le_of_eq (mul_comm u (2 ^ 52) ∙ ap (λ (x : ℕ). 2 ^ 52 * x) (mul_comm c (2 ^ d)) ∙ sym (mul_assoc (2 ^ 52) (2 ^ d) c))) s in
    let q = near n u U in
    subst (λ (x : ℕ). Close x n) (sym e) (within (k * u) n u q.0 q.1 t)

-- ---- the quotient and the product with 16383, by a fraction that the other operand equals
div-at : (x : Float) (k : ℕ) → HasValue x false k 1 → div binary64 x fader_max ≡ round binary64 false k 16383
unfolding div of_bits
div-at nan k v = absurd v
div-at (inf s) k v = absurd v
div-at (fin true m e) k v = absurd (true≢false v.0)
div-at (fin false m e) k v =
    round_same binary64 false (m * up e * 1) (16383 * down e) k 16383 (mul-pos (zero-lt-suc 16382) (down_pos e)) (zero-lt-suc 16382)
    (ap (λ (x : ℕ). x * 16383) v.1 ∙ mul_assoc k (down e) 16383 ∙ ap (λ (x : ℕ). k * x) (mul_comm (down e) 16383))

mul_at : (x : Float) (g c : ℕ) → 0 < c → HasValue x false g c → mul binary64 x fader_max ≡ round binary64 false (g * 16383) c
unfolding mul of_bits
mul_at nan g c C v = absurd v
mul_at (inf s) g c C v = absurd v
mul_at (fin true m e) g c C v = absurd (true≢false v.0)
mul_at (fin false m e) g c C v =
    round_same binary64 false (m * up e * 16383) (down e * 1) (g * 16383) c (mul-pos (down_pos e) (zero-lt-suc 0)) C
    (mul_right_comm (m * up e) 16383 c ∙ ap (λ (x : ℕ). x * 16383) v.1 ∙ mul_right_comm g (down e) 16383 ∙ ap (λ (x : ℕ). g * 16383 * x) (sym (mul-one (down e))))

-- ---- the numbers, with L for 2 ^ 1074
cancel : (h g L : ℕ) → 0 < L → Close (h * L) (g * L) → Close h g
cancel h g L p c = (
  le_of_mul-le-mul_right (le_trans (le_of_eq (mul_right_comm h P L)) (le_trans c.0 (le_of_eq (mul_right_comm g L (P + 1))))) p,
  le_of_mul-le-mul_right (le_trans (le_of_eq (mul_right_comm g P L)) (le_trans c.1 (le_of_eq (ap (λ (x : ℕ). x + g * L) (mul_right_comm h L P) ∙ sym (add-mul (h * P) g L))))) p,
)

lands : (h g a L k : ℕ) → 0 < L → a ≡ k * L → a ≤ 16383 * L → Close g a → Close h g → halves_up h L ≡ k
lands h g a L k p e u c d =
    div-eq_of_lt-le (2 * L)
    (le_trans (le_of_eq (mul_left_comm k 2 L)) (subst (λ (x : ℕ). 2 * x ≤ 2 * h + L) e (omega arith)))
    (lt_of_lt_of_le (above (omega arith)) (le_of_eq (sym (add-mul k 1 (2 * L) ∙ ap (λ (x : ℕ). x + 1 * (2 * L)) (mul_left_comm k 2 L ∙ ap (λ (x : ℕ). 2 * x) (sym e))))))
  where
    above : 2 * h + L < 2 * a + 2 * L → 2 * h + L < 2 * a + 1 * (2 * L)
    above h = omega arith

room : (g a L : ℕ) → a ≤ 16383 * L → Close (g * 16383) a → g ≤ 2 * L
room g a L u c = omega arith

room_2 : (h g a L : ℕ) → a ≤ 16383 * L → Close g a → Close h g → h ≤ 16384 * L
room_2 h g a L u c d = omega arith

apart : (g a L : ℕ) → L ≤ a → 1152921504606846976 ≤ L → Close g a → 4503599627370496 ≤ g
apart g a L l b c = omega arith

-- ---- all of it
fader_max_back : (k : ℕ) → 0 < k → k ≤ 16383 → held (mul binary64 (round binary64 false k 16383) fader_max) ≡ k
fader_max_back k K U =
    let L = 2 ^ 1074 in
    let L_pos : 0 < L = pow_pos 1074 in
    let g = grid binary64 k 16383 in
    let le : k * L ≤ 16383 * L = mul-le-mul_right L U in
    let ge : 1 * L ≤ k * L = mul-le-mul_right L K in
    let G : Close (g * 16383) (k * L) = grid_close k 16383 (zero-lt-suc 16382) (normal_of_fraction binary64 k 16383 (zero-lt-suc 16382) (le_trans (lit≤ tt) ge)) in
    let g_lt : g < overflow binary64 = lt_of_le_of_lt (room g (k * L) L le G) (lit< tt) in
    let v : HasValue (round binary64 false k 16383) false g L = round_val binary64 k 16383 g_lt in
    let h = grid binary64 (g * 16383) L in
    let N : 2 ^ 52 * L ≤ g * 16383 * L = mul-le-mul_right L (apart (g * 16383) (k * L) L (le_trans (le_of_eq (sym (one-mul L))) ge) (lit≤ tt) G) in
    let H : Close h (g * 16383) = cancel h (g * 16383) L L_pos (grid_close (g * 16383) L L_pos (normal_of_fraction binary64 (g * 16383) L L_pos N)) in
    let h_lt : h < overflow binary64 = lt_of_le_of_lt (room_2 h (g * 16383) (k * L) L le G H) (lit< tt) in
    ap held (mul_at (round binary64 false k 16383) g L L_pos v)
    ∙ held_val (round binary64 false (g * 16383) L) false h L L_pos (round_val binary64 (g * 16383) L h_lt)
    ∙ ap (λ (n : ℕ). min n 16383) (lands h (g * 16383) (k * L) L k L_pos refl le G H)
    ∙ min-eq_left U

as_round : (k : ℕ) → k ≤ 2 ^ 53 → value_of k ≡ round binary64 false k 16383
unfolding of_int
as_round k h = div-at (round binary64 false k 1) k (round_whole binary64 false k h)

at_zero : position_of (value_of 0) ≡ 0
unfolding mul div of_int of_bits held
at_zero = refl

pub comes_back : (k : ℕ) → k < 16384 → position_of (value_of k) ≡ k
comes_back zero h = at_zero
comes_back (suc j) h = ap position_of (as_round (suc j) (omega arith)) ∙ fader_max_back (suc j) (zero-lt-suc j) (omega arith)
