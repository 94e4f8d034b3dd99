-- The profile: its records, and the numbers 1 to 6 with which it is declined. Definitions only, in the order of document 01, "Records" and "When
-- the bridge declines"; the words in quotation marks are the document's.
use Rattle.std.specs.Prelude.{ℕ, zero, suc, ◌+◌, ◌*◌, ◌/◌, ◌%◌, List, [], ◌∷◌, Bool, false, ◌&&◌, ◌||◌, not, cond, Float, length, get_or, ltb, leb, eqb}
use Rattle.std.specs.Float.{binary64}
use Rattle.std.specs.Float.Ieee.{of_bits}
use Rattle.std.specs.Float.Ieee.Scale.{finite}
use Rattle.base.specs.Range.{all, any, count, every}
use Rattle.base.specs.Words.{le16, le64, absent}

-- ── the records ──

-- "Profile, 32 bytes each": how many there are
abbrev pub records : List ℕ → ℕ
records s = length s / 32

-- byte o of record k
abbrev pub byte_at : List ℕ → ℕ → ℕ → ℕ
byte_at s k o = get_or s (k * 32 + o) 0

-- "multi-byte fields are little-endian": the two bytes from byte o of record k on
abbrev pub half_at : List ℕ → ℕ → ℕ → ℕ
half_at s k o = le16 s (k * 32 + o)

-- the f64 whose pattern is the eight bytes from byte o of record k on; each NaN's pattern is the one NaN
abbrev pub double_at : List ℕ → ℕ → ℕ → Float
double_at s k o = of_bits binary64 (le64 s (k * 32 + o))

-- "byte 0 kind": record k is of the kind
abbrev pub is_kind : List ℕ → ℕ → ℕ → Bool
is_kind s kind k = eqb (byte_at s k 0) kind

-- how many records are of the kind
unfoldable pub kind_count : List ℕ → ℕ → ℕ
kind_count s kind = count (records s) (is_kind s kind)

-- how many banks there are: kind 1
abbrev pub bank_count : List ℕ → ℕ
bank_count s = kind_count s 1

-- ── 1: "profile length 0, no multiple of 32, above 65,536" ──

abbrev pub size_ok : List ℕ → Bool
size_ok s = every (ltb 0 (length s) ∷ leb (length s) 65536 ∷ eqb (length s % 32) 0 ∷ [])

-- ── 2: "a profile field outside the ranges above" ──

-- "unused bytes are 0": the n bytes of record k from byte a on
abbrev pub zeros : List ℕ → ℕ → ℕ → ℕ → Bool
zeros s k a n = all n (λ j. eqb (byte_at s k (a + j)) 0)

-- "1 bank (0 to 15"
abbrev pub own_bank : ℕ → Bool
own_bank b = leb b 15

-- "255 globals": byte 1 of their records
abbrev pub in_globals : ℕ
in_globals = 255

-- "; 255 globals, for kinds 2, 3, 5 only)"
abbrev pub bank_or_globals : ℕ → Bool
bank_or_globals b = leb b 15 || eqb b in_globals

-- "Drivers are 0 to 15"
abbrev pub driver : ℕ → Bool
driver d = leb d 15

-- "3 flag (0 or 1)"
abbrev pub flag : ℕ → Bool
flag f = leb f 1

-- a name, which may not be absent: "Only target, mute, live and a bank's driver may be absent"
abbrev pub name : ℕ → Bool
name x = ltb x absent

-- "Kinds of button: 0 to 3 .., 4 to 14 .., 15 unknown"
abbrev pub button_kind : ℕ → Bool
button_kind x = leb x 15

-- "0 settings .. (byte 2 positions, 3 remember)"
abbrev pub settings_ok : List ℕ → ℕ → Bool
settings_ok s k = every (eqb (byte_at s k 1) 0 ∷ flag (byte_at s k 2) ∷ flag (byte_at s k 3) ∷ zeros s k 4 28 ∷ [])

-- "1 bank: name at 4, driver at 6 (65535 none), live at 8, byte 10 rec action (0 absent, 1 scene, 2 other), 11 select (1 bank, 0 other); byte 1 is
-- its own number": live may be any number
abbrev pub bank_ok : List ℕ → ℕ → Bool
bank_ok s k =
    every
    (own_bank (byte_at s k 1)
    ∷ zeros s k 2 2
    ∷ name (half_at s k 4)
    ∷ (driver (half_at s k 6) || eqb (half_at s k 6) absent)
    ∷ leb (byte_at s k 10) 2
    ∷ leb (byte_at s k 11) 1
    ∷ zeros s k 12 20
    ∷ [])

-- "2 fader 1 to 16 and 3 encoder 1 to 8: driver 4, target 6, label 8, group 10, mute 12, flag takeover, low at 16, high at 24": top is 16 or 8;
-- target and mute may be any number, and low and high are looked at under 6
abbrev pub control_ok : List ℕ → ℕ → ℕ → Bool
control_ok s k top =
    every
    (bank_or_globals (byte_at s k 1)
    ∷ leb 1 (byte_at s k 2)
    ∷ leb (byte_at s k 2) top
    ∷ flag (byte_at s k 3)
    ∷ driver (half_at s k 4)
    ∷ name (half_at s k 8)
    ∷ name (half_at s k 10)
    ∷ zeros s k 14 2
    ∷ [])

-- "4 scene, name at 4, file order"
abbrev pub scene_ok : List ℕ → ℕ → Bool
scene_ok s k = every (own_bank (byte_at s k 1) ∷ zeros s k 2 2 ∷ name (half_at s k 4) ∷ zeros s k 6 26 ∷ [])

-- "5 transport: number a button kind, driver 4, target 6, command 8": target may be any number
abbrev pub transport_ok : List ℕ → ℕ → Bool
transport_ok s k =
    every
    (bank_or_globals (byte_at s k 1)
    ∷ button_kind (byte_at s k 2)
    ∷ zeros s k 3 1
    ∷ driver (half_at s k 4)
    ∷ name (half_at s k 8)
    ∷ zeros s k 10 22
    ∷ [])

-- "6 default button: byte 1 driver, number a kind, command 4"
abbrev pub button_ok : List ℕ → ℕ → Bool
button_ok s k =
    every (driver (byte_at s k 1) ∷ button_kind (byte_at s k 2) ∷ zeros s k 3 1 ∷ name (half_at s k 4) ∷ zeros s k 6 26 ∷ [])

-- the fields of record k are in the ranges of the kind that is given; there is no kind above 6
unfoldable pub ok_as : ℕ → List ℕ → ℕ → Bool
ok_as kind s k =
    cond (eqb kind 0) (settings_ok s k)
    (cond (eqb kind 1) (bank_ok s k)
    (cond (eqb kind 2) (control_ok s k 16)
    (cond (eqb kind 3) (control_ok s k 8)
    (cond (eqb kind 4) (scene_ok s k)
    (cond (eqb kind 5) (transport_ok s k)
    (cond (eqb kind 6) (button_ok s k) false))))))

-- the fields of record k are in the ranges of its own kind
unfoldable pub record_ok : List ℕ → ℕ → Bool
record_ok s k = ok_as (byte_at s k 0) s k

unfoldable pub fields_ok : List ℕ → Bool
fields_ok s = all (records s) (record_ok s)

-- ── 3: "kinds or kind 1's numbers out of order, settings not just once, missing bank named, a fader or encoder number twice in one bank or the
-- globals" ──

-- the kind of the record before record k; 0 before the first
abbrev pub kind_before : List ℕ → ℕ → ℕ
kind_before s zero = 0
kind_before s (suc k) = byte_at s k 0

-- "Kinds never fall through the file"
abbrev pub rises : List ℕ → ℕ → Bool
rises s k = leb (kind_before s k) (byte_at s k 0)

-- a bank's "own number, running from 0 in file order", is the number of banks before it
abbrev pub runs : List ℕ → ℕ → Bool
runs s k = not (is_kind s 1 k) || eqb (byte_at s k 1) (count k (is_kind s 1))

-- the bank that a record of kind 2 to 5 names is there, or the record is one of the globals
abbrev pub names_bank : List ℕ → ℕ → Bool
names_bank s k = (ltb (byte_at s k 0) 2 || ltb 5 (byte_at s k 0)) || (eqb (byte_at s k 1) in_globals || ltb (byte_at s k 1) (bank_count s))

unfoldable pub ordered_at : List ℕ → ℕ → Bool
ordered_at s k = every (rises s k ∷ runs s k ∷ names_bank s k ∷ [])

-- a fader or an encoder
unfoldable pub control : ℕ → Bool
control kind = eqb kind 2 || eqb kind 3

-- records j and k have one kind, one bank and one number
abbrev pub same : List ℕ → ℕ → ℕ → Bool
same s k j =
    every (eqb (byte_at s j 0) (byte_at s k 0) ∷ eqb (byte_at s j 1) (byte_at s k 1) ∷ eqb (byte_at s j 2) (byte_at s k 2) ∷ [])

-- record k is a fader or an encoder whose bank and number an earlier one of its kind has
abbrev pub again : List ℕ → ℕ → Bool
again s k = control (byte_at s k 0) && any k (same s k)

unfoldable pub once_each : List ℕ → Bool
once_each s = all (records s) (λ k. not (again s k))

unfoldable pub order_ok : List ℕ → Bool
order_ok s = every (eqb (kind_count s 0) 1 ∷ all (records s) (ordered_at s) ∷ once_each s ∷ [])

-- ── 4: "no bank" ──

abbrev pub banks_ok : List ℕ → Bool
banks_ok s = not (eqb (bank_count s) 0)

-- ── 5: "above 128 scenes or 16 transports in one bank (or globals), 16 buttons of a driver" ──

-- how many records of the kind have byte 1 b: a bank, the globals or, for kind 6, a driver
unfoldable pub count_of : List ℕ → ℕ → ℕ → ℕ
count_of s kind b = count (records s) (λ k. is_kind s kind k && eqb (byte_at s k 1) b)

-- whatever byte 1 is, at most `limit` records of the kind have it
unfoldable pub at_most : List ℕ → ℕ → ℕ → Bool
at_most s kind limit = all 256 (λ b. leb (count_of s kind b) limit)

unfoldable pub limits_ok : List ℕ → Bool
limits_ok s = every (at_most s 4 128 ∷ at_most s 5 16 ∷ at_most s 6 16 ∷ [])

-- ── 6: "low or high not finite" ──

unfoldable pub ends_finite : List ℕ → ℕ → Bool
ends_finite s k = not (control (byte_at s k 0)) || (finite (double_at s k 16) && finite (double_at s k 24))

unfoldable pub finite_ok : List ℕ → Bool
finite_ok s = all (records s) (ends_finite s)

-- ── "Lowest number first" ──

-- the number of the first cause to decline the profile; 0 if it is accepted
unfoldable pub verdict : List ℕ → ℕ
verdict s =
    cond (size_ok s)
    (cond (fields_ok s)
    (cond (order_ok s)
    (cond (banks_ok s)
    (cond (limits_ok s)
    (cond (finite_ok s) 0 6) 5) 4) 3) 2) 1
