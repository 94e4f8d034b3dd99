-- `held` of a value that is given by its bits. Three cases of the exponent's field: below a half, from a half up to 16384, and above. Assumes nothing.
use Rattle.std.proofs.Common.{◌≡◌, ℕ, suc, ◌+◌, ◌-◌, ◌*◌, ◌/◌, ◌^◌, ◌<◌, ◌≤◌, min, Bool, true, false, cond, not, T, ltb, sym, refl, ap, ◌∙◌, le_trans, le_of_eq, lt_of_lt_of_le, mul-le-mul_right, mod-lt, zero-lt-suc, mul_assoc, mul_comm, add-mul, mul-pos, le-div_iff_mul-le, mul_left_comm, arith, ltb→lt, nltb→le, pow_pos, pow_mono, pow-add, shl_lt}
use native.Mathlib.Nat.{mul-mul-mul_comm, pow-succ', div-div-eq-div-mul, div-eq_of_lt, add-div_right, min-eq_right}
use lib.Ieee.{Float, nan, inf, fin, binary64, up, down, of_bits, is_nan}
use lib.Ieee.Fits.{down_pos}
use lib.Ieee.Exact.{HasValue}
use lib.Ieee.Nearest.{div_same}
use Rattle.float.specs.Leaf.{halves_up, held}
use Rattle.float.proofs.Bits.{minus, exponent, fraction, digits, digits_lt, digits-is, shift, shift_is, bits_value, bits_inf, bits-minus}

-- ---- on numbers
-- equal fractions round alike
cross : (a b c d : ℕ) → a * d ≡ c * b → (2 * a + b) * (2 * d) ≡ (2 * c + d) * (2 * b)
cross a b c d e =
    let l : (2 * a + b) * (2 * d) ≡ 4 * (a * d) + 2 * (b * d) = add-mul (2 * a) b (2 * d) ∙ ap (λ (x : ℕ). x + b * (2 * d)) (mul-mul-mul_comm 2 a 2 d) ∙ ap (λ (x : ℕ). 4 * (a * d) + x) (mul_left_comm b 2 d) in
    let r : (2 * c + d) * (2 * b) ≡ 4 * (c * b) + 2 * (d * b) = add-mul (2 * c) d (2 * b) ∙ ap (λ (x : ℕ). x + d * (2 * b)) (mul-mul-mul_comm 2 c 2 b) ∙ ap (λ (x : ℕ). 4 * (c * b) + x) (mul_left_comm d 2 b) in
    let s : b * d ≡ d * b = mul_comm b d in
    omega arith

halves_up-same : (a b c d : ℕ) → 0 < b → 0 < d → a * d ≡ c * b → halves_up a b ≡ halves_up c d
halves_up-same a b c d B D e = div_same (2 * a + b) (2 * b) (2 * c + d) (2 * d) (mul-pos (zero-lt-suc 1) B) (mul-pos (zero-lt-suc 1) D) (cross a b c d e)

below_half : (a c : ℕ) → 2 * a < c → 2 * a + c < 2 * c
below_half a c h = omega arith

low : (q k l : ℕ) → q < 2 ^ 53 → 54 + k ≤ l → halves_up (q * 2 ^ k) (2 ^ l) ≡ 0
low q k l h g =
    let a : 2 * (q * 2 ^ k) < 2 ^ l = lt_of_lt_of_le (double (q * 2 ^ k) (2 ^ (53 + k)) (shl_lt 53 k h)) (le_trans (le_of_eq (sym (pow-succ' 2 (53 + k)))) (pow_mono (near g))) in
    div-eq_of_lt (below_half (q * 2 ^ k) (2 ^ l) a)
  where
    double : (x y : ℕ) → x < y → 2 * x < 2 * y
    double x y h = omega arith

    near : 54 + k ≤ l → suc (53 + k) ≤ l
    near h = omega arith

high : (q k l : ℕ) → 2 ^ 52 ≤ q → 14 + l ≤ 52 + k → 16383 ≤ halves_up (q * 2 ^ k) (2 ^ l)
high q k l h g = (le-div_iff_mul-le (mul-pos (zero-lt-suc 1) (pow_pos l))).1 (room (2 ^ l) (q * 2 ^ k) (le_trans (le_of_eq (sym (pow-add 2 14 l))) (le_trans (pow_mono g) (le_trans (le_of_eq (pow-add 2 52 k)) (mul-le-mul_right (2 ^ k) h)))))
  where
    room : (c a : ℕ) → 16384 * c ≤ a → 16383 * (2 * c) ≤ 2 * a + c
    room c a h = omega arith

mid : (q k s : ℕ) → halves_up (q * 2 ^ k) (2 ^ suc (k + s)) ≡ (q / 2 ^ s + 1) / 2
mid q k s =
    let a = q * 2 ^ k in
    let c = 2 ^ suc (k + s) in
    let e : 2 * a * 2 ^ s ≡ q * c = sym (ap (λ (x : ℕ). q * x) (pow-succ' 2 (k + s) ∙ ap (λ (x : ℕ). 2 * x) (pow-add 2 k s)) ∙ simp (mul_assoc, mul_left_comm)) in
    ap (λ (x : ℕ). (2 * a + c) / x) (mul_comm 2 c)
    ∙ sym (div-div-eq-div-mul (2 * a + c) c 2)
    ∙ ap (λ (x : ℕ). x / 2) (add-div_right (2 * a) (pow_pos (suc (k + s))) ∙ ap (λ (x : ℕ). x + 1) (div_same (2 * a) c q (2 ^ s) (pow_pos (suc (k + s))) (pow_pos s) e))

-- ---- on values
pub held_val : (x : Float) (s : Bool) (a c : ℕ) → 0 < c → HasValue x s a c → held x ≡ cond s 0 (min (halves_up a c) 16383)
unfolding held
held_val nan s a c C v = absurd v
held_val (inf t) s a c C v = absurd v
held_val (fin t m e) s a c C v =
    ap (λ (b : Bool). cond b 0 (min (halves_up (m * up e) (down e)) 16383)) v.0
    ∙ ap (λ (n : ℕ). cond s 0 (min n 16383)) (halves_up-same (m * up e) (down e) a c (down_pos e) C v.1)

held-minus : (x : Float) → T (minus x) → held x ≡ 0
unfolding held
held-minus nan t = refl
held-minus (inf true) t = refl
held-minus (inf false) t = elim t [ ]
held-minus (fin true m e) t = refl
held-minus (fin false m e) t = elim t [ ]

-- ---- on patterns
pub held_negative : (b : ℕ) → 2 ^ 63 ≤ b → held (of_bits binary64 b) ≡ 0
held_negative b h = held-minus (of_bits binary64 b) (bits-minus b h)

by_value : (b : ℕ) → b < 2 ^ 63 → exponent b < 2047 → held (of_bits binary64 b) ≡ min (halves_up (digits (exponent b) (fraction b) * 2 ^ shift (exponent b)) (2 ^ 1074)) 16383
by_value b h g = held_val (of_bits binary64 b) false (digits (exponent b) (fraction b) * 2 ^ shift (exponent b)) (2 ^ 1074) (pow_pos 1074) (bits_value b h g)

pub held_low : (b : ℕ) → b < 2 ^ 63 → exponent b < 1022 → held (of_bits binary64 b) ≡ 0
held_low b h g =
    by_value b h (omega arith)
    ∙ ap (λ (n : ℕ). min n 16383) (low (digits (exponent b) (fraction b)) (shift (exponent b)) 1074 (digits_lt (exponent b) (fraction b) (mod-lt b (pow_pos 52))) (omega (arith, shift_is (exponent b))))

pub held_high : (b : ℕ) → b < 2 ^ 63 → 1036 < exponent b → T (not (is_nan (of_bits binary64 b))) → held (of_bits binary64 b) ≡ 16383
unfolding held
held_high b h g n = go (ltb (exponent b) 2047) (ltb→lt (exponent b) 2047) (nltb→le (exponent b) 2047)
  where
    go : (a : Bool) → (T a → exponent b < 2047) → (T (not a) → 2047 ≤ exponent b) → held (of_bits binary64 b) ≡ 16383
    go true p q =
        by_value b h (p tt)
        ∙ min-eq_right (high (digits (exponent b) (fraction b)) (shift (exponent b)) 1074 (omega (arith, digits-is (exponent b) (fraction b) (omega arith))) (omega (arith, shift_is (exponent b))))
    go false p q = ap held (bits_inf b h (q tt) n)

pub held_mid : (b : ℕ) → b < 2 ^ 63 → 1022 ≤ exponent b → exponent b ≤ 1036 → held (of_bits binary64 b) ≡ min (((fraction b + 2 ^ 52) / 2 ^ (1074 - exponent b) + 1) / 2) 16383
held_mid b h l u =
    let k = shift (exponent b) in
    let s = 1074 - exponent b in
    let p : 1074 ≡ suc (k + s) = omega (arith, shift_is (exponent b)) in
    by_value b h (omega arith)
    ∙ ap (λ (n : ℕ). min (halves_up (n * 2 ^ k) (2 ^ 1074)) 16383) (digits-is (exponent b) (fraction b) (omega arith))
    ∙ ap (λ (n : ℕ). min n 16383) (ap (λ (n : ℕ). halves_up ((fraction b + 2 ^ 52) * 2 ^ k) (2 ^ n)) p ∙ mid (fraction b + 2 ^ 52) k s)
