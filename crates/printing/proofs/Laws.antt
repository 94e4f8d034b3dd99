-- The digits of a number are the definition's text of it, and what stands in a buffer is read of its parts in turn. Assumes nothing.
use Rattle.std.specs.Prelude.{ℕ, zero, suc, ◌+◌, ◌-◌, ◌*◌, ◌/◌, ◌%◌, ◌^◌, ◌≤◌, ◌<◌, ◌≡◌, Bool, true, false, leb, ltb, List, [], ◌∷◌, ◌++◌, length, take, drop, get_or}
use Rattle.std.proofs.Common.{arith, rules, sym, ◌∙◌, length-append, length-drop, append_assoc, append-nil, get_or-take, get_or-drop, drop-drop, lt-ltb}
use Rattle.std.proofs.Math.Path.{refl, ap}
use native.Mathlib.Nat.{pow-le-pow_right, pow-suc, lt_of_lt_of_le}
use Rattle.std.proofs.Math.Seq.{take-append_seam, drop-append_seam}
use lib.Dec.{lit<, lit≤}
use lib.ListN.{get_or-eq_default}
use Rattle.base.specs.Words.{le64}
use Rattle.drivers.proofs.BytesLaws.{take_three}
use Rattle.drivers.specs.declared.Call.{Call}
use Rattle.drivers.specs.Shown.{call_at, calls_in, message_at, messages_in}
use Rattle.io.specs.Digits.{IsDigitCount, hex_digit_ascii, last_digits}
use Rattle.printing.specs.Ascii.{ascii}
use Rattle.printing.specs.Text.{decimal_in, decimal, bits, hex, word, level, line_end, kind_words, kind_word, message_line, message_lines, call_line, call_lines}

-- ── numbers ──

-- a number below a power of the base has no more digits than that
few : (b top n k : ℕ) → 0 < b → n < b ^ top → (top < k → b ^ (k - 1) ≤ n) → k ≤ top
few b top n k p l m = go (leb k top) refl
  where
    go : (t : Bool) → leb k top ≡ t → k ≤ top
    go true e = search (rules, e)
    go false e =
        let more : top < k = search (rules, e) in
        let grown : b ^ top ≤ b ^ (k - 1) = pow-le-pow_right p (omega arith) in absurd (omega (arith, grown, m more))

-- a number below ten has one digit
one_place : (n k : ℕ) → IsDigitCount 10 1 n k → n < 10 → k ≡ 1
one_place n k f l = omega (arith, few 10 1 n k (lit< tt) l f.2, f.0)

-- any other has one more than its tenth
fewer : (n j : ℕ) → IsDigitCount 10 1 n (suc (suc j)) → IsDigitCount 10 1 (n / 10) (suc j)
fewer n j f =
    let wide : 10 ^ suc (suc j) ≡ 10 ^ suc j * 10 = pow-suc 10 (suc j) in
    let tall : 10 ^ suc j ≡ 10 ^ j * 10 = pow-suc 10 j in
    let less : suc (suc j) - 1 ≡ suc j = omega arith in
    let least : 10 ^ suc j ≤ n = rw (← less) (f.2 (omega arith)) in
    let same : suc j - 1 ≡ j = omega arith in
    (omega arith, omega (arith, f.1, wide), λ h. rw same (omega (arith, least, tall)))

-- the last digits of a number, as many as it has, are those of the definition
last_are : (more n k : ℕ) → k ≤ suc more → IsDigitCount 10 1 n k → last_digits 10 k n ≡ decimal_in more n
unfolding decimal_in
last_are more n zero h f = absurd (omega (arith, f.0))
last_are zero n (suc zero) h f = refl
last_are zero n (suc (suc j)) h f = absurd (omega arith)
last_are (suc more) n (suc zero) h f =
    let l : n < 10 = f.1 in
    let same : n % 10 ≡ n = omega (arith, l) in
    rw (same, lt-ltb n 10 l)
last_are (suc more) n (suc (suc j)) h f = go (ltb n 10) refl (last_are more (n / 10) (suc j) (omega arith) (fewer n j f))
  where
    go : (t : Bool) → ltb n 10 ≡ t → last_digits 10 (suc j) (n / 10) ≡ decimal_in more (n / 10) → last_digits 10 (suc (suc j)) n ≡ decimal_in (suc more) n
    go true e q = let l : n < 10 = search (rules, e) in absurd (omega (arith, one_place n (suc (suc j)) f l))
    go false e q = rw (e, q)

pub decimal_is : (n k : ℕ) → n < 2 ^ 64 → IsDigitCount 10 1 n k → last_digits 10 k n ≡ decimal n
decimal_is n k l f = last_are 19 n k (few 10 20 n k (lit< tt) (lt_of_lt_of_le l (lit≤ tt)) (λ h. f.2 (omega (arith, h)))) f

pub bits_are : (n k : ℕ) → n < 2 ^ 64 → IsDigitCount 16 16 n k → last_digits 16 k n ≡ bits n
unfolding bits
bits_are n k l f =
    let q : k ≡ 16 = omega (arith, few 16 16 n k (lit< tt) (lt_of_lt_of_le l (lit≤ tt)) f.2, f.0) in rw q

-- a byte has two digits
pub byte_is : (n k : ℕ) → n < 256 → IsDigitCount 16 2 n k → last_digits 16 k n ≡ hex_digit_ascii (n / 16) ∷ hex_digit_ascii (n % 16) ∷ []
byte_is n k l f =
    let q : k ≡ 2 = omega (arith, few 16 2 n k (lit< tt) l f.2, f.0) in
    let high : n / 16 % 16 ≡ n / 16 = omega (arith, l) in rw (q, high)

-- one byte more
pub hex_more : (bs : List ℕ) (i : ℕ) → i < length bs → hex (take (i + 1) bs) ≡ hex (take i bs) ++ (hex_digit_ascii (get_or bs i 0 / 16) ∷ hex_digit_ascii (get_or bs i 0 % 16) ∷ [])
unfolding hex
hex_more [] i l = absurd (omega arith)
hex_more (b ∷ bs) zero l = refl
hex_more (b ∷ bs) (suc i) l =
    let next : suc i + 1 ≡ suc (i + 1) = omega arith in
    rw next (ap (λ (t : List ℕ). hex_digit_ascii (b / 16) ∷ hex_digit_ascii (b % 16) ∷ t) (hex_more bs i (omega arith)))

-- ── messages and calls ──

-- a kind that is none of those before `live`
pub live_kind : (k : ℕ) → 9 ≤ k → kind_word k ≡ ascii "live"
unfolding kind_word
live_kind k l = get_or-eq_default kind_words (ascii "live") {n = k} l

-- a call's line is its words one behind the other
pub call_joined : (c : Call) → ascii "call " ++ (kind_word c.kind ++ (word c.driver ++ (word c.name ++ (word c.argument ++ (level c.level ++ line_end))))) ≡ call_line c
unfolding call_line
call_joined c =
    ap (λ (l : List ℕ). ascii "call " ++ (kind_word c.kind ++ l))
    (ap (λ (l : List ℕ). word c.driver ++ l) (sym (append_assoc (word c.name) (word c.argument) (level c.level ++ line_end)))
    ∙ sym (append_assoc (word c.driver) (word c.name ++ word c.argument) (level c.level ++ line_end)))

pub message_after : (ms : List (List ℕ)) (m : List ℕ) → message_lines (ms ++ (m ∷ [])) ≡ message_lines ms ++ message_line m
unfolding message_lines
message_after [] m = append-nil (message_line m)
message_after (n ∷ ms) m = ap (λ (l : List ℕ). message_line n ++ l) (message_after ms m) ∙ sym (append_assoc (message_line n) (message_lines ms) (message_line m))

call_after : (cs : List Call) (c : Call) → call_lines (cs ++ (c ∷ [])) ≡ call_lines cs ++ call_line c
unfolding call_lines
call_after [] c = append-nil (call_line c)
call_after (d ∷ cs) c = ap (λ (l : List ℕ). call_line d ++ l) (call_after cs c) ∙ sym (append_assoc (call_line d) (call_lines cs) (call_line c))

-- a buffer bs is read from place m on: x is the next part, t what follows it
module _ (bs x t : List ℕ) (m k : ℕ) (e : drop m bs ≡ x ++ t) (l : length x ≡ k) where
  part_is : take k (drop m bs) ≡ x
  part_is = rw (e, ← l) (take-append_seam x t)

  pub rest_is : (j : ℕ) → m + k ≡ j → t ≡ drop j bs
  rest_is j f = rw (← f, ← drop-drop k m bs, e, ← l) (sym (drop-append_seam x t))

  pub within : m ≤ length bs → m + k ≤ length bs
  within h = omega (arith, length-drop m bs, ap length e, length-append x t)

pub message_more : (bs x t : List ℕ) (n : ℕ) → 3 * n ≤ length bs → drop (3 * n) bs ≡ x ++ t → length x ≡ 3 →
    message_lines (messages_in n bs) ++ message_line x ≡ message_lines (messages_in (suc n) bs)
unfolding messages_in
message_more bs x t n h e l =
    rw (message_after (messages_in n bs) (message_at bs (3 * n)), take_three bs (3 * n) (within bs x t (3 * n) 3 e l h), part_is bs x t (3 * n) 3 e l) refl

at_of : (bs : List ℕ) (a k j : ℕ) → k < 16 → a + k ≡ j → get_or (take 16 (drop a bs)) k 0 ≡ get_or bs j 0
at_of bs a k j l e = rw (get_or-take 16 (drop a bs) k 0 l, get_or-drop a bs k 0, e) refl

call_of : (bs : List ℕ) (a : ℕ) → call_at (take 16 (drop a bs)) 0 ≡ call_at bs a
unfolding le64
call_of bs a =
    rw (
      at_of bs a 0 a (lit< tt) (omega arith),
      at_of bs a 1 (a + 1) (lit< tt) refl,
      at_of bs a 2 (a + 2) (lit< tt) refl,
      at_of bs a 3 (a + 2 + 1) (lit< tt) (omega arith),
      at_of bs a 4 (a + 4) (lit< tt) refl,
      at_of bs a 5 (a + 4 + 1) (lit< tt) (omega arith),
      at_of bs a 6 (a + 4 + 2) (lit< tt) (omega arith),
      at_of bs a 7 (a + 4 + 2 + 1) (lit< tt) (omega arith),
      at_of bs a 8 (a + 8) (lit< tt) refl,
      at_of bs a 9 (a + 8 + 1) (lit< tt) (omega arith),
      at_of bs a 10 (a + 8 + 2) (lit< tt) (omega arith),
      at_of bs a 11 (a + 8 + 2 + 1) (lit< tt) (omega arith),
      at_of bs a 12 (a + 8 + 4) (lit< tt) (omega arith),
      at_of bs a 13 (a + 8 + 4 + 1) (lit< tt) (omega arith),
      at_of bs a 14 (a + 8 + 4 + 2) (lit< tt) (omega arith),
      at_of bs a 15 (a + 8 + 4 + 2 + 1) (lit< tt) (omega arith),
    )

pub call_more : (bs x t : List ℕ) (n : ℕ) → drop (16 * n) bs ≡ x ++ t → length x ≡ 16 →
    call_lines (calls_in n bs) ++ call_line (call_at x 0) ≡ call_lines (calls_in (suc n) bs)
unfolding calls_in
call_more bs x t n e l =
    rw (call_after (calls_in n bs) (call_at bs (16 * n)), ← part_is bs x t (16 * n) 16 e l, call_of bs (16 * n)) refl
