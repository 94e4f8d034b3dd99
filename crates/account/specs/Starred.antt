-- The starred cases of the bench list, in one table. Definitions only.
use Rattle.std.specs.Prelude.{ℕ, Bool, true, false, ◌&&◌, List, [], ◌∷◌, eqb, length, ℤ, pos, negsuc}
use Rattle.std.specs.Int.Signed.{le_z}
use Rattle.std.specs.Float.{binary64}
use Rattle.std.specs.Float.Ieee.{of_bits}
use Rattle.base.specs.Same.{same_list}
use Rattle.float.specs.Leaf.{f0, value_of, position_of}
use Rattle.protocol.specs.Protocol.{decode_of}
use Rattle.protocol.specs.declared.Event.{Event}
use Rattle.protocol.specs.declared.Event.TheVariants as event
use Rattle.drivers.specs.Talk.{start}
use Rattle.definition.specs.Rig.{rig_of}
use Rattle.definition.specs.Flash.{flash_number}
use Rattle.definition.specs.Step.{Kept, step}
use Rattle.account.specs.Account.{fresh}
use Rattle.account.specs.Plain.{plain, timed, move, done_then, level_then}

pub data Case : Type 0 where
  -- an encoder's byte, and its detents
  encoder : ℕ → ℤ → Case
  -- a level by its bits, and the position that it sends
  sends : ℕ → ℕ → Case
  -- a device's level by its two highest bytes, and the raw positions of a fader moved one after the other. Behind each stands how many moves wait
  -- then: 0 where it is held, 1 where it takes over
  meets : ℕ → ℕ → List ℕ → List ℕ → Case
  -- a number flashed on the lamps from a note on, and the messages that it starts with
  flash : ℕ → ℕ → List (List ℕ) → Case

-- "Encoder bytes 0x01*, 0x3F*, 0x40*, 0x41*, 0x7F*, 0xFF*: 1, 63, 0, -1, -63, -191. Level 0.5 sends 8192*. Device at 0.5: raw 8519 takes over*, 8520 is
-- held*. Raw 0 held, then 16383: crossing*. NaN reading: taken over*. Flash 9 on SOLO starts E1 00 00, 90 09 7F*; 63 shows, 64 shows nothing*."
abbrev pub starred : List Case
starred =
    encoder 0x01 (pos 1)
    ∷ encoder 0x3f (pos 63)
    ∷ encoder 0x40 (pos 0)
    ∷ encoder 0x41 (negsuc 0)
    ∷ encoder 0x7f (negsuc 62)
    ∷ encoder 0xff (negsuc 190)
    ∷ sends 0x3fe0_0000_0000_0000 8192
    ∷ meets 0xe0 0x3f (8519 ∷ []) (1 ∷ [])
    ∷ meets 0xe0 0x3f (8520 ∷ []) (0 ∷ [])
    ∷ meets 0xe0 0x3f (0 ∷ 16383 ∷ []) (0 ∷ 1 ∷ [])
    ∷ meets 0xf8 0x7f (0 ∷ []) (1 ∷ [])
    ∷ flash 9 0x08 ((0xe1 ∷ 0x00 ∷ 0x00 ∷ []) ∷ (0x90 ∷ 0x09 ∷ 0x7f ∷ []) ∷ [])
    ∷ flash 63 0x08 ((0xe7 ∷ 0x00 ∷ 0x00 ∷ []) ∷ (0x90 ∷ 0x0f ∷ 0x7f ∷ []) ∷ [])
    ∷ flash 64 0x08 []
    ∷ []

-- ── what each says ──

abbrev is_turn : ℤ → Event → Bool
is_turn n (event.Encoder ch z) = le_z n z && le_z z n
is_turn n (event.Fader ch x) = false
is_turn n (event.Button b) = false
is_turn n event.Other = false

unfoldable pub same_lists : List (List ℕ) → List (List ℕ) → Bool
same_lists [] [] = true
same_lists [] (y ∷ m) = false
same_lists (x ∷ l) [] = false
same_lists (x ∷ l) (y ∷ m) = same_list x y && same_lists l m

-- how many moves wait after each of the raw positions, the driver being opened for the first
abbrev after : Kept → ℕ → List ℕ → Kept
after k raw answers = (step (plain true) k (timed (move 0 (value_of raw))) answers).kept

unfoldable pub waits : ℕ → ℕ → Kept → List ℕ → List ℕ
waits low high k [] = []
waits low high k (raw ∷ raws) =
    length (after k raw (level_then low high [])).desk.line ∷ waits low high (after k raw (level_then low high [])) raws

abbrev waits_first : ℕ → ℕ → List ℕ → List ℕ
waits_first low high [] = []
waits_first low high (raw ∷ raws) =
    length (after fresh raw (done_then (level_then low high []))).desk.line
    ∷ waits low high (after fresh raw (done_then (level_then low high []))) raws

abbrev pub passes : Case → Bool
passes (encoder byte n) = is_turn n (decode_of (0xb0 ∷ 0x10 ∷ byte ∷ []))
passes (sends bits raw) = eqb (position_of (of_bits binary64 bits)) raw
passes (meets low high raws waiting) = same_list (waits_first low high raws) waiting
passes (flash n base messages) =
    same_lists
    (flash_number (rig_of (plain true) [] 0) [] fresh.desk.moves f0 n base fresh.lamps (start [] fresh.opened)).talk.messages messages

unfoldable pub all_pass : List Case → Bool
all_pass [] = true
all_pass (c ∷ l) = passes c && all_pass l
