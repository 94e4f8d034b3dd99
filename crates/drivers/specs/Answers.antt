-- Answers, and which fit which call: "Answer, 16 bytes" of document 01. A part is the answers from the first unread record on. Definitions only.
use Rattle.std.specs.Prelude.{ℕ, zero, suc, ◌+◌, ◌*◌, ◌/◌, ◌≡◌, List, [], ◌∷◌, ◌++◌, Bool, true, false, ◌&&◌, ◌||◌, not, ltb, eqb, length, get_or}
use Rattle.std.specs.Float.{binary64}
use Rattle.std.specs.Float.Ieee.{of_bits}
use Rattle.base.specs.Choice.{pick}
use Rattle.base.specs.Range.{all, bit}
use Rattle.base.specs.Words.{le16, le32, le64, absent}
use Rattle.drivers.specs.declared.Answer.{Answer}
use Rattle.drivers.specs.declared.Answer.TheVariants as answer
use Rattle.drivers.specs.declared.LiveFader.{LiveFader}
use Rattle.drivers.specs.CallKinds.{read_kind, playing_kind, scenes_kind, current_scene_kind, live_faders_kind}

-- ── lists: a record of kind 6 with the count at 2, then so many items of kind 7 ──

abbrev pub count_at : List ℕ → ℕ
count_at part = le16 part 2

-- item i, counted from 0: "name or target at 2; for live number byte 1, label 4, group 6, mute 8"
abbrev pub item_at : List ℕ → ℕ → LiveFader
item_at part i =
    record {
      number = get_or part (16 * i + 17) 0;
      target = le16 part (16 * i + 18);
      label = le16 part (16 * i + 20);
      group = le16 part (16 * i + 22);
      mute = le16 part (16 * i + 24);
    }

-- the first n items
unfoldable pub items_of : ℕ → List ℕ → List LiveFader
items_of zero part = []
items_of (suc n) part = items_of n part ++ (item_at part n ∷ [])

-- "In an item only mute may be 65535"; of a scene's item only the name is read
abbrev pub item_fits : List ℕ → ℕ → Bool
item_fits part i = eqb (get_or part (16 * i + 16) 0) 7 && not (eqb (le16 part (16 * i + 18)) absent)

-- "live .. numbers strictly rising"
abbrev pub live_fits : List ℕ → ℕ → Bool
live_fits part i =
    item_fits part i
    && (not (eqb (le16 part (16 * i + 20)) absent)
    && (not (eqb (le16 part (16 * i + 22)) absent)
    && (eqb i 0 || ltb (get_or part (16 * i + 1) 0) (get_or part (16 * i + 17) 0))))

-- "a list without all its items, is cut short"
abbrev pub list_if : (List ℕ → ℕ → Bool) → ℕ → List ℕ → Answer
list_if fits most part =
    pick (ltb most (count_at part)) answer.Unfit
    (pick (ltb (count_at part) (length part / 16)) (pick (all (count_at part) (fits part)) answer.List answer.Unfit) answer.Unfit)

-- "scenes .. at most 128 items"
unfoldable pub scene_list : List ℕ → Answer
scene_list part = list_if item_fits 128 part

-- "live .. at most 32"
unfoldable pub live_list : List ℕ → Answer
live_list part = list_if live_fits 32 part

-- ── one record, of kind k, to each kind of call ──

-- "a yes/no byte is 0 or 1"
unfoldable pub yes_no : ℕ → Answer
yes_no b = pick (eqb b 0) (answer.YesNo false) (pick (eqb b 1) (answer.YesNo true) answer.Unfit)

-- "read 0, 2, 3"
unfoldable pub to_read : ℕ → List ℕ → Answer
to_read k part = pick (eqb k 2) (answer.Level (of_bits binary64 (le64 part 8))) (pick (eqb k 3) answer.Nothing answer.Unfit)

-- "playing 0, 3, 4"
unfoldable pub to_playing : ℕ → List ℕ → Answer
to_playing k part = pick (eqb k 4) (yes_no (get_or part 1 0)) (pick (eqb k 3) answer.Nothing answer.Unfit)

-- "scenes 0, 6"
unfoldable pub to_scenes : ℕ → List ℕ → Answer
to_scenes k part = pick (eqb k 6) (scene_list part) answer.Unfit

-- "current 0, 3, 5"
unfoldable pub to_current : ℕ → List ℕ → Answer
to_current k part = pick (eqb k 5) (answer.Index (le32 part 4)) (pick (eqb k 3) answer.Nothing answer.Unfit)

-- "live 0, 6"
unfoldable pub to_live : ℕ → List ℕ → Answer
to_live k part = pick (eqb k 6) (live_list part) answer.Unfit

-- "open, write, toggle, command, load 0, 1"
unfoldable pub to_other : ℕ → Answer
to_other k = pick (eqb k 1) answer.Done answer.Unfit

abbrev pub answer_to : ℕ → ℕ → List ℕ → Answer
answer_to kind k part =
    pick (eqb kind read_kind) (to_read k part)
    (pick (eqb kind playing_kind) (to_playing k part)
    (pick (eqb kind scenes_kind) (to_scenes k part)
    (pick (eqb kind current_scene_kind) (to_current k part)
    (pick (eqb kind live_faders_kind) (to_live k part) (to_other k)))))

-- the answer that stands first in a part that is not empty, to a call of the kind; "a record below 16 bytes .. is cut short"
unfoldable pub answer_of : List ℕ → ℕ → Answer
answer_of part kind = pick (ltb (length part) 16) answer.Unfit (pick (eqb (get_or part 0 0) 0) answer.Refused (answer_to kind (get_or part 0 0) part))

-- ── each answer's number, and the values that its record holds ──

-- "0 refused, 1 done, 2 level, 3 nothing, 4 yes/no, 5 index, 6 list". `Unfit` is none of the document's answers: whatever its record's number, the bridge
-- declines with 14, and 14 stands here, which is the number of no answer.
abbrev pub number_of : Answer → ℕ
number_of answer.Refused = 0
number_of answer.Done = 1
number_of (answer.Level x) = 2
number_of answer.Nothing = 3
number_of (answer.YesNo b) = 4
number_of (answer.Index i) = 5
number_of answer.List = 6
number_of answer.Unfit = 14

-- "level (at 8)", "yes/no (byte 1)", of which 0 is no and 1 is yes, "index (u32 at 4)". The other cases hold no value: a list's count at 2 and its items stay
-- in the part, where `count_at` and `items_of` read them.
abbrev pub Carries : List ℕ → Answer → Type 0
Carries part answer.Refused = Unit {0}
Carries part answer.Done = Unit {0}
Carries part (answer.Level x) = x ≡ of_bits binary64 (le64 part 8)
Carries part answer.Nothing = Unit {0}
Carries part (answer.YesNo b) = bit b ≡ get_or part 1 0
Carries part (answer.Index i) = i ≡ le32 part 4
Carries part answer.List = Unit {0}
Carries part answer.Unfit = Unit {0}

-- ── which case an answer is ──

abbrev pub is_unfit : Answer → Bool
is_unfit answer.Refused = false
is_unfit answer.Done = false
is_unfit (answer.Level x) = false
is_unfit answer.Nothing = false
is_unfit (answer.YesNo b) = false
is_unfit (answer.Index i) = false
is_unfit answer.List = false
is_unfit answer.Unfit = true

abbrev pub is_done : Answer → Bool
is_done answer.Refused = false
is_done answer.Done = true
is_done (answer.Level x) = false
is_done answer.Nothing = false
is_done (answer.YesNo b) = false
is_done (answer.Index i) = false
is_done answer.List = false
is_done answer.Unfit = false

abbrev pub is_yes_no : Answer → Bool
is_yes_no answer.Refused = false
is_yes_no answer.Done = false
is_yes_no (answer.Level x) = false
is_yes_no answer.Nothing = false
is_yes_no (answer.YesNo b) = true
is_yes_no (answer.Index i) = false
is_yes_no answer.List = false
is_yes_no answer.Unfit = false

abbrev pub is_list : Answer → Bool
is_list answer.Refused = false
is_list answer.Done = false
is_list (answer.Level x) = false
is_list answer.Nothing = false
is_list (answer.YesNo b) = false
is_list (answer.Index i) = false
is_list answer.List = true
is_list answer.Unfit = false

-- how many items stand behind the answer's own record
unfoldable pub item_count : Answer → List ℕ → ℕ
item_count a part = pick (is_list a) (count_at part) 0
