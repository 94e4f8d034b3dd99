-- What the programs write, by document 01's paragraph on the program `run`. A text is the list of its bytes. Definitions only.
use Rattle.std.specs.Prelude.{ℕ, zero, suc, ◌/◌, ◌%◌, List, [], ◌∷◌, ◌++◌, ltb, get_or}
use Rattle.base.specs.Choice.{pick}
use Rattle.drivers.specs.declared.Call.{Call}
use Rattle.io.specs.Digits.{hex_digit_ascii, last_digits}
use Rattle.printing.specs.Ascii.{ascii}

-- ── numbers ──

-- a number in decimal, of at most so many digits and one: below ten its digit, else the digits of its tenth and its last digit
unfoldable pub decimal_in : ℕ → ℕ → List ℕ
decimal_in zero n = hex_digit_ascii (n % 10) ∷ []
decimal_in (suc more) n = pick (ltb n 10) (hex_digit_ascii n ∷ []) (decimal_in more (n / 10) ++ (hex_digit_ascii (n % 10) ∷ []))

-- "decimal": no number of 64 bits has more than twenty digits
abbrev pub decimal : ℕ → List ℕ
decimal n = decimal_in 19 n

-- "16 hexadecimal digits"
unfoldable pub bits : ℕ → List ℕ
bits n = last_digits 16 16 n

-- bytes, two hexadecimal digits each
unfoldable pub hex : List ℕ → List ℕ
hex [] = []
hex (b ∷ bs) = hex_digit_ascii (b / 16) ∷ hex_digit_ascii (b % 16) ∷ hex bs

-- a space, and a number behind it
abbrev pub word : ℕ → List ℕ
word n = 32 ∷ decimal n

abbrev pub level : ℕ → List ℕ
level n = 32 ∷ bits n

abbrev pub line_end : List ℕ
line_end = 10 ∷ []

-- ── messages and calls ──

-- "Kinds print as open, read, write, toggle, command, playing, scenes, current, load, live"
abbrev pub kind_words : List (List ℕ)
kind_words = ascii "open" ∷ ascii "read" ∷ ascii "write" ∷ ascii "toggle" ∷ ascii "command" ∷ ascii "playing" ∷ ascii "scenes" ∷ ascii "current" ∷ ascii "load" ∷ []

unfoldable pub kind_word : ℕ → List ℕ
kind_word kind = get_or kind_words kind (ascii "live")

-- "Fields: kind, driver, name, argument (decimal), level bits (16 hexadecimal digits)"
abbrev pub call_words : Call → List ℕ
call_words c = word c.driver ++ (word c.name ++ word c.argument)

unfoldable pub call_line : Call → List ℕ
call_line c = ascii "call " ++ (kind_word c.kind ++ (call_words c ++ (level c.level ++ line_end)))

unfoldable pub message_line : List ℕ → List ℕ
message_line m = ascii "message " ++ (hex m ++ line_end)

-- "its messages, then its calls, each in order", a line each
unfoldable pub message_lines : List (List ℕ) → List ℕ
message_lines [] = []
message_lines (m ∷ ms) = message_line m ++ message_lines ms

unfoldable pub call_lines : List Call → List ℕ
call_lines [] = []
call_lines (c ∷ cs) = call_line c ++ call_lines cs

-- ── lines ──

-- what begins a line: what it is of, and its number
abbrev pub step_words : List ℕ → ℕ → List ℕ
step_words what n = what ++ word n

-- how many messages and calls a done event has
unfoldable pub count_words : ℕ → ℕ → List ℕ
count_words sent asked = ascii " done messages" ++ (word sent ++ (ascii " calls" ++ word asked))

-- "profile refused R"
unfoldable pub profile_line : ℕ → List ℕ
profile_line why = ascii "profile refused" ++ (word why ++ line_end)

-- "event N refused R"; a restore likewise
unfoldable pub refused_line : List ℕ → ℕ → ℕ → List ℕ
refused_line what n why = step_words what n ++ (ascii " refused" ++ (word why ++ line_end))

-- "event N waiting followed by the call's line"
unfoldable pub waiting_lines : ℕ → Call → List ℕ
waiting_lines n c = step_words (ascii "event") n ++ (ascii " waiting\n" ++ call_line c)
