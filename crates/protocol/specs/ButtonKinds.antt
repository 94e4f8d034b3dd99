-- The kinds of button by name: "0 to 3 `CHANNEL_BASES`, 4 to 14 `NAMED`, both in source order, 15 unknown". Definitions only.
use Rattle.std.specs.Prelude.{ℕ}

abbrev pub rec : ℕ
rec = 0

abbrev pub solo : ℕ
solo = 1

abbrev pub mute : ℕ
mute = 2

abbrev pub select : ℕ
select = 3

abbrev pub bank_left : ℕ
bank_left = 4

abbrev pub bank_right : ℕ
bank_right = 5

abbrev pub arrow_left : ℕ
arrow_left = 6

abbrev pub arrow_right : ℕ
arrow_right = 7

abbrev pub arrow_up : ℕ
arrow_up = 8

abbrev pub arrow_down : ℕ
arrow_down = 9

abbrev pub rewind : ℕ
rewind = 10

abbrev pub forward : ℕ
forward = 11

abbrev pub stop : ℕ
stop = 12

abbrev pub play : ℕ
play = 13

abbrev pub record_button : ℕ
record_button = 14

abbrev pub unknown : ℕ
unknown = 15
