-- The most that each text can have, by its definition: what a buffer for it needs. Assumes nothing.
use Rattle.std.specs.Prelude.{ℕ, zero, suc, ◌+◌, ◌*◌, ◌/◌, ◌%◌, ◌≤◌, ◌≡◌, Bool, true, false, ltb, List, [], ◌∷◌, ◌++◌, length}
use Rattle.std.proofs.Common.{arith, length-append}
use Rattle.std.proofs.Math.Path.{refl}
use Rattle.base.specs.Choice.{pick}
use Rattle.drivers.specs.declared.Call.{Call}
use Rattle.drivers.specs.Shown.{calls_in, message_at, messages_in}
use Rattle.drivers.proofs.BytesLaws.{calls_length}
use Rattle.io.specs.Digits.{hex_digit_ascii}
use Rattle.printing.specs.Ascii.{ascii}
use Rattle.printing.specs.Text.{decimal_in, decimal, bits, hex, word, level, line_end, kind_word, call_words, call_line, call_lines, message_line, message_lines, step_words, count_words, profile_line, refused_line, waiting_lines}
use Rattle.printing.proofs.Laws.{message_after}

digits_most : (more n : ℕ) → length (decimal_in more n) ≤ suc more
unfolding decimal_in
digits_most zero n = omega arith
digits_most (suc more) n = go (ltb n 10) (digits_most more (n / 10))
  where
    go : (t : Bool) → length (decimal_in more (n / 10)) ≤ suc more →
        length (pick t (hex_digit_ascii n ∷ []) (decimal_in more (n / 10) ++ (hex_digit_ascii (n % 10) ∷ []))) ≤ suc (suc more)
    go true l = omega arith
    go false l = omega (arith, length-append (decimal_in more (n / 10)) (hex_digit_ascii (n % 10) ∷ []), l)

pub decimal_most : (n : ℕ) → length (decimal n) ≤ 20
decimal_most n = digits_most 19 n

pub word_most : (n : ℕ) → length (word n) ≤ 21
word_most n = omega (arith, decimal_most n)

pub bits_length : (n : ℕ) → length (bits n) ≡ 16
unfolding bits
bits_length n = refl

pub level_length : (n : ℕ) → length (level n) ≡ 17
level_length n = omega (arith, bits_length n)

pub hex_length : (bs : List ℕ) → length (hex bs) ≡ 2 * length bs
unfolding hex
hex_length [] = refl
hex_length (b ∷ bs) = omega (arith, hex_length bs)

pub kind_most : (kind : ℕ) → length (kind_word kind) ≤ 7
unfolding kind_word
kind_most zero = omega arith
kind_most (suc zero) = omega arith
kind_most (suc (suc zero)) = omega arith
kind_most (suc (suc (suc zero))) = omega arith
kind_most (suc (suc (suc (suc zero)))) = omega arith
kind_most (suc (suc (suc (suc (suc zero))))) = omega arith
kind_most (suc (suc (suc (suc (suc (suc zero)))))) = omega arith
kind_most (suc (suc (suc (suc (suc (suc (suc zero))))))) = omega arith
kind_most (suc (suc (suc (suc (suc (suc (suc (suc zero)))))))) = omega arith
kind_most (suc (suc (suc (suc (suc (suc (suc (suc (suc n))))))))) = omega arith

pub call_words_most : (c : Call) → length (call_words c) ≤ 63
call_words_most c =
    omega (arith, length-append (word c.driver) (word c.name ++ word c.argument), length-append (word c.name) (word c.argument), word_most c.driver, word_most c.name, word_most c.argument)

pub call_most : (c : Call) → length (call_line c) ≤ 93
unfolding call_line
call_most c =
    omega (
      arith,
      length-append (ascii "call ") (kind_word c.kind ++ (call_words c ++ (level c.level ++ line_end))),
      length-append (kind_word c.kind) (call_words c ++ (level c.level ++ line_end)),
      length-append (call_words c) (level c.level ++ line_end),
      length-append (level c.level) line_end,
      kind_most c.kind,
      call_words_most c,
      level_length c.level,
    )

pub calls_most : (cs : List Call) → length (call_lines cs) ≤ 93 * length cs
unfolding call_lines
calls_most [] = omega arith
calls_most (c ∷ cs) = omega (arith, length-append (call_line c) (call_lines cs), call_most c, calls_most cs)

-- a message has three bytes
pub message_length : (m : List ℕ) → length m ≡ 3 → length (message_line m) ≡ 15
unfolding message_line
message_length m three = omega (arith, length-append (ascii "message ") (hex m ++ line_end), length-append (hex m) line_end, hex_length m, three)

-- the first n messages of a buffer
pub messages_length : (n : ℕ) (ms : List ℕ) → length (message_lines (messages_in n ms)) ≡ 15 * n
unfolding messages_in message_lines
messages_length zero ms = refl
messages_length (suc n) ms =
    rw (message_after (messages_in n ms) (message_at ms (3 * n)))
    (omega (
      arith,
      length-append (message_lines (messages_in n ms)) (message_line (message_at ms (3 * n))),
      messages_length n ms,
      message_length (message_at ms (3 * n)) refl,
    ))

-- the first n calls of a buffer
pub calls_in_most : (n : ℕ) (cs : List ℕ) → length (call_lines (calls_in n cs)) ≤ 93 * n
calls_in_most n cs = omega (arith, calls_most (calls_in n cs), calls_length n cs)

pub step_most : (what : List ℕ) (n : ℕ) → length (step_words what n) ≤ length what + 21
step_most what n = omega (arith, length-append what (word n), word_most n)

pub counts_most : (sent asked : ℕ) → length (count_words sent asked) ≤ 62
unfolding count_words
counts_most sent asked =
    omega (
      arith,
      length-append (ascii " done messages") (word sent ++ (ascii " calls" ++ word asked)),
      length-append (word sent) (ascii " calls" ++ word asked),
      length-append (ascii " calls") (word asked),
      word_most sent,
      word_most asked,
    )

pub profile_most : (why : ℕ) → length (profile_line why) ≤ 37
unfolding profile_line
profile_most why = omega (arith, length-append (ascii "profile refused") (word why ++ line_end), length-append (word why) line_end, word_most why)

pub refused_most : (what : List ℕ) (n why : ℕ) → length (refused_line what n why) ≤ length what + 51
unfolding refused_line
refused_most what n why =
    omega (
      arith,
      length-append (step_words what n) (ascii " refused" ++ (word why ++ line_end)),
      length-append (ascii " refused") (word why ++ line_end),
      length-append (word why) line_end,
      step_most what n,
      word_most why,
    )

pub waiting_most : (n : ℕ) (c : Call) → length (waiting_lines n c) ≤ 128
unfolding waiting_lines
waiting_most n c =
    omega (
      arith,
      length-append (step_words (ascii "event") n) (ascii " waiting\n" ++ call_line c),
      length-append (ascii " waiting\n") (call_line c),
      step_most (ascii "event") n,
      call_most c,
    )
