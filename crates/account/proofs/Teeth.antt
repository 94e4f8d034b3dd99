-- Wrong bridges, each shown to break the claim by a short list of events, which the prover runs.
use Rattle.std.proofs.Common.{Some}
use Prim.Native.Nat.{ℕ, ◌≤◌}
use mathlib.Core.Path.{◌≡◌, refl, sym, ap, ◌∙◌}
use mathlib.Core.Bool.{Bool, true, false, not, false≢true}
use mathlib.Core.List.{List, [], ◌∷◌, ◌++◌}
use native.Mathlib.Omega.{arith}
use lib.Dec.{eqb}
use lib.ListN.{length}
use lib.IntN.{ℤ, pos, negsuc}
use lib.Ieee.{Float, binary64, of_int, of_bits, to_bits, add, sub, mul, div, lt, le, eq}
use Rattle.base.specs.First.{first}
use Rattle.base.specs.Keyed.{find, change, keep, beside}
use Rattle.base.specs.Range.{all, every}
use Rattle.base.specs.Words.{le64}
use Rattle.float.specs.Leaf.{f0, f1, abs_of, clamp_of, held}
use Rattle.protocol.specs.Protocol.{base_of, named_of, kind_of, channel_of, bytes_of}
use Rattle.protocol.specs.declared.Event.TheVariants as event
use Rattle.lookup.specs.Lookup.{same_dest, position}
use Rattle.drivers.specs.Answers.{is_done, to_read, to_other, answer_of, item_count, items_of, to_scenes, scene_list, to_current, to_live, live_list}
use Rattle.drivers.specs.Talk.{Reply, next, ask, is_open, opening, plain_call, open_for, use_call, use_done, read_of, write_call, write_of, send, scenes_of, current_of, load_of, live_of}
use Rattle.drivers.specs.declared.Call.{Call}
use Rattle.drivers.specs.Paired.{Asked, paired}
use Rattle.session.specs.Session.{turn, is_marked, mark_at, no_marks, last_move, moved_to, move_of, place_move, seen_strips, flashing, no_flash, fresh_session, scene_at, scene_to, scene_unknown, solo_to, none_noted, strips_of, strip_of, strip_at, strip_dest, same_strips, same_strip, unmark_bank, unmark_up_to}
use Rattle.session.specs.declared.Marks.{Marks}
use Rattle.session.specs.declared.Move.{Move}
use Rattle.event.specs.declared.Input.{Input}
use Rattle.event.specs.declared.Input.TheVariants as input
use Rattle.definition.specs.Rig.{own_fader, destination, encoder_dest, device, bank_driver}
use Rattle.definition.specs.Levels.{read, write}
use Rattle.definition.specs.Lamps.{push_position, is_muted, push_fader, push_faders, push_state}
use Rattle.definition.specs.Flash.{phases, phases_to, send_home, finish_flash, flash_number, flash_bank, tick_flash}
use Rattle.definition.specs.Faders.{Desk, desk, hold_move, take_move, fader, encoder, turn_refusal, apply_nudge, nudges, writes, drain, drained}
use Rattle.definition.specs.Live.{refresh_live}
use Rattle.definition.specs.Banks.{select_bank, next_bank, step_bank}
use Rattle.definition.specs.Buttons.{press_of, button, added_by}
use Rattle.definition.specs.Step.{Kept, kept, seen, tick, act, refusal, done, Stepped, stepped, step}
use Rattle.definition.specs.Scenes.{step_scene, scene, scene_names, scene_on_device, load_on, load_scene_at, start}
use Rattle.account.specs.Plain.{dest, plain, paged, alive, timed, move, press, done_then, nothing_then, level_then}
use Rattle.account.specs.Account.{done_reply, answer_in, opens, loads, pasts, final, reading, lined, replaced_by, tried_of, dropped_of, selects, account, summed, sum_for, ticks, others, saying, open_of, writing, Only, one-call, not_write, Nudges, nudged-all, Offer, Stepper, Claim, Uses, used, opened-used, not-used, Tries, tried-one, Tried, Drained, Each, one_more}

-- ── events ──

abbrev pub at : Input → List ℕ → Offer
at e answers = record { event = Some (timed e); answers = answers }

-- 0.75
abbrev pub most : Float
most = of_bits binary64 0x3fe8_0000_0000_0000

abbrev head_channel : List Move → ℕ
head_channel [] = 0
head_channel (m ∷ l) = m.channel

abbrev pub head_is : Float → List Move → Bool
head_is x [] = false
head_is x (m ∷ l) = eq m.level x

abbrev pub with_desk : Desk → Stepped → Stepped
with_desk d r = stepped r.ended (kept r.kept.site d r.kept.lamps r.kept.silenced r.kept.opened)

abbrev pub with_line : List Move → Desk → Desk
with_line l d = desk d.marks d.moves l d.turns

-- ── 1: it drains only on its first tick, after which the live list is due no more ──

abbrev idle : Input → Bool → Bool
idle (input.Midi e) due = false
idle input.Tick due = not due
idle input.PushState due = false
idle input.PushTransport due = false
idle input.FlashBank due = false

abbrev idle_if : Bool → Stepper
idle_if true v k e answers = stepped (done [] [] 0 false) k
idle_if false v k e answers = step v k e answers

abbrev drains_once : Stepper
drains_once v k e answers = idle_if (idle e.what k.site.due) v k e answers

refuted_1 : Claim drains_once → ⊥
unfolding pasts final account step refusal act fader take_move tick drain drained nudges writes refresh_live tick_flash destination own_fader read read_of write write_of use_done use_call open_for is_open opening ask next plain_call write_call answer_of to_other item_count items_of is_marked mark_at moved_to place_move change lined replaced_by tried_of dropped_of paired opens seen fresh_session seen_strips beside sub le of_bits
refuted_1 c =
    let os : List Offer = at (move 0 f1) [] ∷ at input.Tick (done_then (done_then [])) ∷ at (move 0 most) [] ∷ at input.Tick [] ∷ [] in
    let e : ◌≡◌ {A = ℕ} 1 0 = ap length (c (plain false) (omega arith) os).line in
    omega arith

-- ── 2: it never clears marks on a bank change ──

abbrev remarked : Input → Marks → Stepped → Stepped
remarked (input.Midi (event.Fader ch x)) m r = r
remarked (input.Midi (event.Encoder ch n)) m r = r
remarked (input.Midi (event.Button b)) m r =
    with_desk (desk m r.kept.desk.moves r.kept.desk.line r.kept.desk.turns) r
remarked (input.Midi event.Other) m r = r
remarked input.Tick m r = r
remarked input.PushState m r = r
remarked input.PushTransport m r = r
remarked input.FlashBank m r = r

abbrev never_clears : Stepper
never_clears v k e answers = remarked e.what k.desk.marks (step v k e answers)

-- a move where the device reads nothing is taken over; bank right and left; then the device is far off, and the move is to be held
refuted_2 : Claim never_clears → ⊥
unfolding pasts final account step refusal added_by act fader take_move hold_move button press_of step_bank select_bank next_bank flash_bank flash_number finish_flash phases phases_to send_home flashing no_flash push_state push_faders push_fader push_position is_muted destination own_fader read read_of use_call open_for is_open opening ask next plain_call answer_of to_read to_other item_count items_of send bytes_of held is_marked mark_at no_marks last_move moved_to place_move change reading lined replaced_by paired opens loads selects kind_of channel_of base_of named_of first le64 add sub mul div lt le eq of_bits abs_of clamp_of seen fresh_session seen_strips beside of_int
refuted_2 c =
    let os : List Offer =
    at (move 0 most) (done_then (nothing_then [])) ∷ at (press 0x2f) [] ∷ at (press 0x2e) [] ∷ at (move 0 f1) (level_then 0xe0 0x3f []) ∷ [] in
    false≢true (sym (ap (head_is f1) (c (plain true) (omega arith) os).line))

-- ── 3: it sends a replaced move too ──

abbrev relined : Input → (ℕ → Float → List Move) → Stepped → Stepped
relined (input.Midi (event.Fader ch x)) f r = with_desk (with_line (f ch x) r.kept.desk) r
relined (input.Midi (event.Encoder ch n)) f r = r
relined (input.Midi (event.Button b)) f r = r
relined (input.Midi event.Other) f r = r
relined input.Tick f r = r
relined input.PushState f r = r
relined input.PushTransport f r = r
relined input.FlashBank f r = r

abbrev sends_replaced : Stepper
sends_replaced v k e answers = relined e.what (λ ch x. k.desk.line ++ (move_of ch x ∷ [])) (step v k e answers)

refuted_3 : Claim sends_replaced → ⊥
unfolding pasts final account step refusal act fader take_move destination own_fader is_marked mark_at moved_to place_move change lined replaced_by paired opens next seen fresh_session seen_strips beside
refuted_3 c =
    let os : List Offer = at (move 0 most) [] ∷ at (move 0 f1) [] ∷ [] in
    let e : ◌≡◌ {A = ℕ} 2 1 = ap length (c (plain false) (omega arith) os).line in
    omega arith

-- ── 4: it loses the order of the line ──

abbrev loses_order : Stepper
loses_order v k e answers = relined e.what (λ ch x. move_of ch x ∷ k.desk.line) (step v k e answers)

refuted_4 : Claim loses_order → ⊥
unfolding pasts final account step refusal act fader take_move destination own_fader is_marked mark_at moved_to place_move change lined replaced_by paired opens next seen fresh_session seen_strips beside
refuted_4 c =
    let os : List Offer = at (move 0 most) [] ∷ at (move 1 f1) [] ∷ [] in
    let e : ◌≡◌ {A = ℕ} 1 0 = ap head_channel (c (plain false) (omega arith) os).line in
    omega arith

-- ── 5: it leaves the session idle ──

abbrev keeps_nothing : Stepper
keeps_nothing v k e answers = stepped (step v k e answers).ended k

refuted_5 : Claim keeps_nothing → ⊥
unfolding pasts final account step refusal act fader take_move destination own_fader is_marked mark_at moved_to place_move change lined replaced_by paired opens next seen fresh_session seen_strips beside
refuted_5 c =
    let e : ◌≡◌ {A = ℕ} 0 1 = ap length (c (plain false) (omega arith) (at (move 0 f1) [] ∷ [])).line in
    omega arith

-- ── 6: it empties the line and writes nothing ──

abbrev emptied : Input → Kept → Stepped → Stepped
emptied (input.Midi e) k r = r
emptied input.Tick k r = stepped (done [] [] 0 false) (kept k.site (with_line [] k.desk) k.lamps k.silenced k.opened)
emptied input.PushState k r = r
emptied input.PushTransport k r = r
emptied input.FlashBank k r = r

abbrev writes_nothing : Stepper
writes_nothing v k e answers = emptied e.what k (step v k e answers)

-- a tried move has a call
tries_some : {o : List Bool} {t : Tried} {ts : List Tried} {l : List Asked} → Tries o (t ∷ ts) l → 1 ≤ length l
tries_some (tried-one {l = l} u r) = at_least l u
  where
    at_least : (l : List Asked) {o : List Bool} {c : Call} {r : Reply} {m : List Asked} → Uses o c r m → 1 ≤ length (m ++ l)
    at_least l (used n) = omega arith
    at_least l (opened-used n) = omega arith
    at_least l (not-used n) = omega arith

refuted_6 : Claim writes_nothing → ⊥
unfolding pasts final account ticks step refusal act fader take_move destination own_fader is_marked mark_at moved_to place_move change lined replaced_by tried_of paired opens next seen fresh_session seen_strips beside tick tick_flash refresh_live drain writes write write_of use_done use_call open_for is_open nudges write_call ask
refuted_6 c = go (c (plain false) (omega arith) (at (move 0 f1) [] ∷ at input.Tick [] ∷ [])).drains
  where
    none_left : (l m n : List Asked) → [] ≡ l ++ (m ++ n) → 1 ≤ length m → ⊥
    none_left [] [] n e h = omega arith
    none_left [] (x ∷ m) n e h = let z : ◌≡◌ {A = ℕ} 0 (length (x ∷ m ++ n)) = ap length e in omega arith
    none_left (x ∷ l) m n e h = let z : ◌≡◌ {A = ℕ} 0 (length (x ∷ l ++ (m ++ n))) = ap length e in omega arith

    go : {o : List Bool} {s : _} {t : Tried} {ts : List Tried} → Each Drained ([] ∷ []) (record { opened = o; sums = s; tried = t ∷ ts } ∷ []) → ⊥
    go (one_more d r) = none_left d.encoders d.faders d.later d.all (tries_some d.then)

-- ── 7: it writes a move at once, too ──

abbrev hasty : Input → Stepped → Stepped
hasty (input.Midi (event.Fader ch x)) r = stepped (done [] (writing (dest false) x ∷ []) 1 false) r.kept
hasty (input.Midi (event.Encoder ch n)) r = r
hasty (input.Midi (event.Button b)) r = r
hasty (input.Midi event.Other) r = r
hasty input.Tick r = r
hasty input.PushState r = r
hasty input.PushTransport r = r
hasty input.FlashBank r = r

abbrev writes_at_once : Stepper
writes_at_once v k e answers = hasty e.what (step v k e answers)

refuted_7 : Claim writes_at_once → ⊥
unfolding pasts others paired write_call
refuted_7 c = go (c (plain false) (omega arith) (at (move 0 f1) (done_then []) ∷ [])).quiet
  where
    go : {r : Reply} {l : List Asked} → Only not_write (saying (writing (dest false) f1) r ∷ l) → ⊥
    go (one-call e h) = false≢true e

-- ── 8: it hands a sum over and keeps it ──

abbrev returned : Input → Desk → Stepped → Stepped
returned (input.Midi e) d r = r
returned input.Tick d r = with_desk (desk d.marks d.moves [] d.turns) r
returned input.PushState d r = r
returned input.PushTransport d r = r
returned input.FlashBank d r = r

abbrev hands_twice : Stepper
hands_twice v k e answers = returned e.what k.desk (step v k e answers)

abbrev size_of : ℤ → ℕ
size_of (pos n) = n
size_of (negsuc n) = 0

-- the device reads nothing, so that the sum is handed over unwritten
refuted_8 : Claim hands_twice → ⊥
unfolding pasts final account step refusal turn_refusal act encoder turn tick drain drained nudges apply_nudge writes refresh_live tick_flash encoder_dest find read read_of use_call open_for is_open opening ask next plain_call answer_of to_read to_other item_count items_of change summed sum_for same_dest every eq of_bits paired opens tried_of dropped_of seen fresh_session seen_strips beside
refuted_8 c =
    let os : List Offer = at (input.Midi (event.Encoder 0 (pos 1))) [] ∷ at input.Tick (done_then (nothing_then [])) ∷ [] in
    let e : ◌≡◌ {A = ℕ} 1 0 = ap size_of ((c (plain false) (omega arith) os).sums (dest false)) in
    omega arith

-- ── 9: it writes another level ──

abbrev loud : Input → Stepped → Stepped
loud (input.Midi e) r = r
loud input.Tick r = stepped (done [] (open_of (writing (dest false) f0) ∷ writing (dest false) f0 ∷ []) 2 false) r.kept
loud input.PushState r = r
loud input.PushTransport r = r
loud input.FlashBank r = r

abbrev writes_another : Stepper
writes_another v k e answers = loud e.what (step v k e answers)

abbrev kind_first : List Asked → ℕ
kind_first [] = 0
kind_first (x ∷ l) = x.call.kind

abbrev done_first : List Asked → Bool
done_first [] = false
done_first (x ∷ l) = is_done (answer_in x)

abbrev level_next : List Asked → ℕ
level_next [] = 0
level_next (x ∷ []) = 0
level_next (x ∷ y ∷ l) = y.call.level

-- a drain without sums whose first move opens its driver: the next call has the move's level
next_level : {o : List Bool} {t : Tried} {ts : List Tried} {l : List Asked} (later asked : List Asked) →
    Tries o (t ∷ ts) l → asked ≡ l ++ later → kind_first asked ≡ 0 → done_first asked ≡ true → level_next asked ≡ (writing t.dest t.level).level
unfolding write_call plain_call
next_level later asked (tried-one {t = t} {l = l} u r) e k d = go u e
  where
    go : {o : List Bool} {r : Reply} {m : List Asked} → Uses o (writing t.dest t.level) r m → asked ≡ (m ++ l) ++ later →
        level_next asked ≡ (writing t.dest t.level).level
    go (used n) e = let z : ◌≡◌ {A = ℕ} 2 0 = sym (ap kind_first e) ∙ k in omega arith
    go (opened-used n) e = ap level_next e
    go (not-used n) e = absurd (false≢true (sym (ap done_first e) ∙ d))

refuted_9 : Claim writes_another → ⊥
unfolding pasts final account ticks step refusal act fader take_move tick drain drained nudges writes refresh_live tick_flash write write_of use_done use_call open_for is_open opening ask items_of destination own_fader is_marked mark_at moved_to place_move change lined replaced_by tried_of paired opens next plain_call write_call answer_of to_other item_count add sub mul of_bits to_bits seen fresh_session seen_strips beside
refuted_9 c = go (c (plain false) (omega arith) (at (move 0 f1) [] ∷ at input.Tick (done_then (done_then [])) ∷ [])).drains
  where
    asked : List Asked
    asked = saying (open_of (writing (dest false) f0)) done_reply ∷ saying (writing (dest false) f0) done_reply ∷ []

    no_sums : {o : List Bool} {l : List Asked} → Nudges o [] l → l ≡ []
    no_sums nudged-all = refl

    go : {o : List Bool} {i : ℕ} → Each Drained (asked ∷ []) (record { opened = o; sums = []; tried = record { id = i; dest = dest false; level = f1 } ∷ [] } ∷ []) → ⊥
    go (one_more d r) =
        let e : asked ≡ d.faders ++ d.later = rw (no_sums d.first) at d.all in
        let z : ◌≡◌ {A = ℕ} 0 (to_bits binary64 f1) = next_level d.later asked d.then e refl refl in
        omega arith

-- ── 10: it keeps the marks when a scene is loaded ──

abbrev remarked_in : Bool → Input → Marks → Stepped → Stepped
remarked_in true e m r = remarked e m r
remarked_in false e m r = r

abbrev keeps_on_load : Stepper
keeps_on_load v k e answers =
    remarked_in (eqb k.site.bank (step v k e answers).kept.site.bank) e.what k.desk.marks (step v k e answers)

-- the device knows no current scene, lists one, and loads it
abbrev scene_answers : List ℕ
scene_answers = nothing_then (6 ∷ 0 ∷ 1 ∷ 0 ∷ 0 ∷ 0 ∷ 0 ∷ 0 ∷ 0 ∷ 0 ∷ 0 ∷ 0 ∷ 0 ∷ 0 ∷ 0 ∷ 0 ∷ 7 ∷ 0 ∷ 5 ∷ 0 ∷ 0 ∷ 0 ∷ 0 ∷ 0 ∷ 0 ∷ 0 ∷ 0 ∷ 0 ∷ 0 ∷ 0 ∷ 0 ∷ 0 ∷ done_then [])

refuted_10 : Claim keeps_on_load → ⊥
unfolding pasts final account step refusal added_by act fader take_move hold_move button press_of next_bank step_scene scene scene_names scene_on_device load_on load_scene_at start scene_at scene_to scene_unknown solo_to none_noted position device bank_driver flash_number finish_flash phases phases_to send_home flashing no_flash push_state push_faders push_fader push_position is_muted destination own_fader read read_of use_done use_call open_for is_open opening ask next plain_call scenes_of current_of load_of answer_of to_read to_scenes scene_list to_current to_other item_count items_of all send bytes_of held is_marked mark_at no_marks last_move moved_to place_move change reading lined replaced_by paired opens loads selects kind_of channel_of base_of named_of first le64 add sub mul div lt le eq of_bits abs_of clamp_of seen fresh_session seen_strips beside of_int
refuted_10 c =
    let os : List Offer = at (move 0 most) (done_then (nothing_then [])) ∷ at (press 0x63) scene_answers ∷ at (move 0 f1) (level_then 0xe0 0x3f []) ∷ [] in
    false≢true (sym (ap (head_is f1) (c paged (omega arith) os).line))

-- ── 11: it keeps the marks when the live list changes ──

abbrev kept_live : Input → Marks → Stepped → Stepped
kept_live (input.Midi e) m r = r
kept_live input.Tick m r = with_desk (desk m r.kept.desk.moves r.kept.desk.line r.kept.desk.turns) r
kept_live input.PushState m r = r
kept_live input.PushTransport m r = r
kept_live input.FlashBank m r = r

abbrev keeps_on_live : Stepper
keeps_on_live v k e answers = kept_live e.what k.desk.marks (step v k e answers)

-- a live list of one fader, number 1, on a target
abbrev live_list_lem : ℕ → List ℕ
live_list_lem target = 6 ∷ 0 ∷ 1 ∷ 0 ∷ 0 ∷ 0 ∷ 0 ∷ 0 ∷ 0 ∷ 0 ∷ 0 ∷ 0 ∷ 0 ∷ 0 ∷ 0 ∷ 0 ∷ 7 ∷ 1 ∷ target ∷ 0 ∷ 0 ∷ 0 ∷ 0 ∷ 0 ∷ 255 ∷ 255 ∷ 0 ∷ 0 ∷ 0 ∷ 0 ∷ 0 ∷ 0 ∷ []

abbrev at_one : Input → List ℕ → Offer
at_one e answers = record { event = Some (record { time = f1; what = e }); answers = answers }

-- the list comes, a move on it is taken over, a second later the list is another, and the next move there is to be held
refuted_11 : Claim keeps_on_live → ⊥
unfolding pasts final account step refusal act fader take_move hold_move tick drain drained nudges writes refresh_live live_of strips_of strip_of strip_at strip_dest same_strips same_strip keep find tick_flash write write_of write_call unmark_bank unmark_up_to push_state push_faders push_fader push_position is_muted destination own_fader read read_of use_done use_call open_for is_open opening ask next plain_call answer_of to_read to_live live_list to_other item_count items_of all send bytes_of held is_marked mark_at no_marks last_move moved_to place_move change reading lined replaced_by tried_of dropped_of paired opens le64 add sub mul div lt le eq of_bits to_bits abs_of clamp_of seen fresh_session seen_strips beside of_int
refuted_11 c =
    let os : List Offer =
    at input.Tick (done_then (live_list_lem 7)) ∷ at (move 0 most) (nothing_then []) ∷ at_one input.Tick (done_then (live_list_lem 8)) ∷ at_one (move 0 f1) (level_then 0xe0 0x3f []) ∷ [] in
    let e : ◌≡◌ {A = ℕ} 1 0 = ap length (c alive (omega arith) os).line in
    omega arith
