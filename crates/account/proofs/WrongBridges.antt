-- More wrong bridges, each shown to break the claim by a short list of events, which the prover runs; `Teeth` has the first ones.
use Rattle.std.proofs.Common.{None, Option, Some}
use Prim.Native.Nat.{ℕ, ◌+◌}
use mathlib.Core.Path.{◌≡◌, refl, sym, ap, ◌∙◌}
use mathlib.Core.Bool.{Bool, true, false, false≢true}
use mathlib.Core.List.{List, [], ◌∷◌, ◌++◌}
use native.Mathlib.Omega.{arith}
use lib.Dec.{eqb}
use lib.ListN.{length, get_or}
use lib.IntN.{pos}
use lib.Ieee.{Float, of_int, of_bits, to_bits, add, sub, mul, div, lt, le, eq}
use Rattle.base.specs.First.{first}
use Rattle.base.specs.Keyed.{find, change, beside}
use Rattle.base.specs.Range.{every}
use Rattle.base.specs.Words.{le64}
use Rattle.float.specs.Leaf.{f0, f1, nudge, abs_of, clamp_of, held}
use Rattle.protocol.specs.Protocol.{base_of, named_of, kind_of, channel_of, bytes_of}
use Rattle.protocol.specs.declared.Event.TheVariants as event
use Rattle.lookup.specs.Lookup.{same_dest}
use Rattle.lookup.specs.View.{Part, View}
use Rattle.lookup.specs.declared.Destination.{Destination}
use Rattle.drivers.specs.Answers.{is_done, to_read, to_other, answer_of, item_count, items_of}
use Rattle.drivers.specs.Talk.{Reply, no_reply, next, ask, is_open, opening, plain_call, open_for, use_call, use_done, read_of, write_call, write_of, send}
use Rattle.drivers.specs.declared.Call.{Call}
use Rattle.drivers.specs.declared.Answer.TheVariants as answer
use Rattle.drivers.specs.Paired.{Asked, paired}
use Rattle.session.specs.Session.{first_turn, turn, is_marked, mark_at, no_marks, last_move, moved_to, place_move, seen_strips, flashing, no_flash, fresh_session}
use Rattle.session.specs.declared.Move.{Move}
use Rattle.event.specs.declared.Input.{Input}
use Rattle.event.specs.declared.Input.TheVariants as input
use Rattle.definition.specs.Rig.{Rig, own_fader, destination, encoder_dest}
use Rattle.definition.specs.Levels.{read, write}
use Rattle.definition.specs.Lamps.{push_position, is_muted, push_fader, push_faders, push_state}
use Rattle.definition.specs.Flash.{phases, phases_to, send_home, finish_flash, flash_number, flash_bank, tick_flash}
use Rattle.definition.specs.Faders.{Desk, desk, hold_move, take_move, fader, encoder, turn_refusal, apply_nudge, nudges, writes, drain, drained}
use Rattle.definition.specs.Live.{refresh_live}
use Rattle.definition.specs.Banks.{select_bank, next_bank, step_bank}
use Rattle.definition.specs.Buttons.{press_of, button, added_by}
use Rattle.definition.specs.Step.{Site, rig_now, Ended, refused, waiting, Kept, kept, seen, tick, act, refusal, done, Stepped, stepped, step}
use Rattle.account.specs.Plain.{dest, plain, part_with, move, press, done_then, nothing_then, level_then}
use Rattle.account.specs.Account.{read_as, reading_of, tried-all, done_reply, answer_in, opens, loads, pasts, final, reading, lined, replaced_by, tried_of, dropped_of, selects, account, summed, sum_for, ticks, others, saying, open_of, writing, Only, one-call, not_write, Nudges, nudged-all, zero_sum, not-read, nudged, Offer, Stepper, Claim, Uses, used, opened-used, not-used, Tries, tried-one, Tried, Drained, Each, one_more}
use Rattle.account.proofs.Teeth.{at, most, with_desk, with_line}

-- ── it writes the waiting moves at a push, too ──

abbrev write_to : Option Destination → Move → List Call → List Call
write_to (Some d) m l = writing d m.level ∷ l
write_to None m l = l

unfoldable pub early : Rig → List Move → List Call
early r [] = []
early r (m ∷ ms) = write_to (destination r (m.channel + 1)) m (early r ms)

abbrev at_push : Input → View → Kept → Stepped → Stepped
at_push (input.Midi e) v k r = r
at_push input.Tick v k r = r
at_push input.PushState v k r =
    stepped (done [] (early (rig_now v k) k.desk.line) (length (early (rig_now v k) k.desk.line)) false) k
at_push input.PushTransport v k r = r
at_push input.FlashBank v k r = r

abbrev writes_on_push : Stepper
writes_on_push v k e answers = at_push e.what v k (step v k e answers)

pub writes_on_push_refuted : Claim writes_on_push → ⊥
unfolding pasts final account others early step refusal act fader take_move destination own_fader is_marked mark_at moved_to place_move change lined replaced_by paired opens next write_call seen fresh_session seen_strips beside
writes_on_push_refuted c = go (c (plain false) (omega arith) (at (move 0 f1) [] ∷ at input.PushState (done_then []) ∷ [])).quiet
  where
    go : {r : Reply} {l : List Asked} → Only not_write (saying (writing (dest false) f1) r ∷ l) → ⊥
    go (one-call e h) = false≢true e

-- ── it stays in its bank: the second bank has no fader, so that the move there has no destination ──

abbrev with_site : Site → Stepped → Stepped
with_site w r = stepped r.ended (kept w r.kept.desk r.kept.lamps r.kept.silenced r.kept.opened)

abbrev stays_at : Input → Site → Stepped → Stepped
stays_at (input.Midi (event.Fader ch x)) w r = r
stays_at (input.Midi (event.Encoder ch n)) w r = r
stays_at (input.Midi (event.Button b)) w r = with_site w r
stays_at (input.Midi event.Other) w r = r
stays_at input.Tick w r = r
stays_at input.PushState w r = r
stays_at input.PushTransport w r = r
stays_at input.FlashBank w r = r

abbrev stays_in_bank : Stepper
stays_in_bank v k e answers = stays_at e.what k.site (step v k e answers)

abbrev part_at : Bool → Part
part_at true = part_with 65535 65535 (Some (dest false)) []
part_at false = part_with 65535 65535 None []

abbrev second_bare : View
second_bare =
    record {
      positions = false;
      remember = false;
      banks = 2;
      name = λ b. 0;
      named = λ n. None;
      globals = part_with 65535 65535 None [];
      here = λ b. part_at (eqb b 0);
      button = λ d k. 65535;
    }

pub stays_in_bank_refuted : Claim stays_in_bank → ⊥
unfolding pasts final account step refusal added_by act fader take_move hold_move button press_of step_bank select_bank next_bank flash_bank flash_number finish_flash phases phases_to send_home flashing no_flash push_state push_faders push_fader push_position is_muted destination own_fader read read_of use_call open_for is_open opening ask next plain_call answer_of to_read to_other item_count items_of send bytes_of held is_marked mark_at no_marks last_move moved_to place_move change reading lined replaced_by paired opens loads selects kind_of channel_of base_of named_of first le64 add sub mul div lt le eq of_int of_bits abs_of clamp_of seen fresh_session seen_strips beside
stays_in_bank_refuted c =
    let os : List Offer = at (press 0x2f) [] ∷ at (move 0 f1) [] ∷ [] in
    let e : ◌≡◌ {A = ℕ} 1 0 = ap length (c second_bare (omega arith) os).line in
    omega arith

-- ── it drops the waiting moves when a bank is selected ──

abbrev drop_if : Bool → Stepped → Stepped
drop_if true r = r
drop_if false r = with_desk (with_line [] r.kept.desk) r

abbrev drops_on_bank : Stepper
drops_on_bank v k e answers = drop_if (eqb k.site.bank (step v k e answers).kept.site.bank) (step v k e answers)

pub drops_on_bank_refuted : Claim drops_on_bank → ⊥
unfolding pasts final account step refusal added_by act fader take_move hold_move button press_of step_bank select_bank next_bank flash_bank flash_number finish_flash phases phases_to send_home flashing no_flash push_state push_faders push_fader push_position is_muted destination own_fader read read_of use_call open_for is_open opening ask next plain_call answer_of to_read to_other item_count items_of send bytes_of held is_marked mark_at no_marks last_move moved_to place_move change reading lined replaced_by paired opens loads selects kind_of channel_of base_of named_of first le64 add sub mul div lt le eq of_int of_bits abs_of clamp_of seen fresh_session seen_strips beside
drops_on_bank_refuted c =
    let os : List Offer = at (move 0 most) [] ∷ at (press 0x2f) [] ∷ [] in
    let e : ◌≡◌ {A = ℕ} 0 1 = ap length (c (plain false) (omega arith) os).line in
    omega arith

-- ── it forgets the last moves when a bank is selected ──

abbrev without_last : Kept → Kept
without_last k =
    kept k.site (desk k.desk.marks (seen [] fresh_session).desk.moves k.desk.line k.desk.turns) k.lamps k.silenced k.opened

abbrev forget_if : Bool → Stepped → Stepped
forget_if true r = r
forget_if false r = stepped r.ended (without_last r.kept)

abbrev forgets_on_bank : Stepper
forgets_on_bank v k e answers = forget_if (eqb k.site.bank (step v k e answers).kept.site.bank) (step v k e answers)

-- held below the device's level; bank right and left; then a move above it crosses
pub forgets_on_bank_refuted : Claim forgets_on_bank → ⊥
unfolding pasts final account step refusal added_by act fader take_move hold_move button press_of step_bank select_bank next_bank flash_bank flash_number finish_flash phases phases_to send_home flashing no_flash push_state push_faders push_fader push_position is_muted destination own_fader read read_of use_call open_for is_open opening ask next plain_call answer_of to_read to_other item_count items_of send bytes_of held is_marked mark_at no_marks last_move moved_to place_move change reading lined replaced_by paired opens loads selects kind_of channel_of base_of named_of first le64 add sub mul div lt le eq of_int of_bits abs_of clamp_of seen fresh_session seen_strips beside
forgets_on_bank_refuted c =
    let os : List Offer =
    at (move 0 f0) (done_then (level_then 0xe0 0x3f [])) ∷ at (press 0x2f) [] ∷ at (press 0x2e) [] ∷ at (move 0 f1) (level_then 0xe0 0x3f []) ∷ [] in
    let e : ◌≡◌ {A = ℕ} 0 1 = ap length (c (plain true) (omega arith) os).line in
    omega arith

-- ── it holds a move that crosses the device's level ──

abbrev never_crosses : Stepper
never_crosses v k e answers = step v (without_last k) e answers

pub never_crosses_refuted : Claim never_crosses → ⊥
unfolding pasts final account step refusal act fader take_move hold_move destination own_fader read read_of use_call open_for is_open opening ask next plain_call answer_of to_read to_other item_count items_of is_marked mark_at last_move moved_to place_move change reading lined replaced_by paired opens le64 add sub mul div lt le eq of_int of_bits abs_of clamp_of seen fresh_session seen_strips beside
never_crosses_refuted c =
    let os : List Offer = at (move 0 f0) (done_then (level_then 0xe0 0x3f [])) ∷ at (move 0 f1) (level_then 0xe0 0x3f []) ∷ [] in
    let e : ◌≡◌ {A = ℕ} 0 1 = ap length (c (plain true) (omega arith) os).line in
    omega arith

-- ── a move that waits for an answer is put in the line all the same ──

abbrev hurried : Ended → Input → Kept → Stepped → Stepped
hurried (waiting x) (input.Midi (event.Fader ch y)) k r = with_desk (with_line (place_move ch y k.desk.line) k.desk) r
hurried (waiting x) (input.Midi (event.Encoder ch n)) k r = r
hurried (waiting x) (input.Midi (event.Button b)) k r = r
hurried (waiting x) (input.Midi event.Other) k r = r
hurried (waiting x) input.Tick k r = r
hurried (waiting x) input.PushState k r = r
hurried (waiting x) input.PushTransport k r = r
hurried (waiting x) input.FlashBank k r = r
hurried (refused n) e k r = r
hurried (done m c u s) e k r = r

abbrev books_waiting : Stepper
books_waiting v k e answers = hurried (step v k e answers).ended e.what k (step v k e answers)

pub books_waiting_refuted : Claim books_waiting → ⊥
unfolding pasts final account step refusal act fader take_move hold_move destination own_fader read read_of use_call open_for is_open opening ask next plain_call answer_of to_read to_other item_count items_of is_marked mark_at last_move moved_to place_move change reading lined replaced_by paired opens seen fresh_session seen_strips beside
books_waiting_refuted c =
    let e : ◌≡◌ {A = ℕ} 1 0 = ap length (c (plain true) (omega arith) (at (move 0 f1) [] ∷ [])).line in
    omega arith

-- ── a drain's calls ──

no_sums : {o : List Bool} {l : List Asked} → Nudges o [] l → l ≡ []
no_sums nudged-all = refl

no_tries : {o : List Bool} {l : List Asked} → Tries o [] l → l ≡ []
no_tries tried-all = refl

-- 99 for no call
abbrev kind_first : List Asked → ℕ
kind_first [] = 99
kind_first (x ∷ l) = x.call.kind

abbrev done_first : List Asked → Bool
done_first [] = false
done_first (x ∷ l) = is_done (answer_in x)

abbrev reply_second : List Asked → Reply
reply_second [] = no_reply
reply_second (x ∷ []) = no_reply
reply_second (x ∷ y ∷ l) = y.reply

abbrev kind_third : List Asked → ℕ
kind_third [] = 99
kind_third (x ∷ []) = 99
kind_third (x ∷ y ∷ []) = 99
kind_third (x ∷ y ∷ z ∷ l) = z.call.kind

abbrev level_third : List Asked → ℕ
level_third [] = 99
level_third (x ∷ []) = 99
level_third (x ∷ y ∷ []) = 99
level_third (x ∷ y ∷ z ∷ l) = z.call.level

-- ── it writes after the drain, in the same tick ──

abbrev late_at : Input → Stepped → Stepped
late_at (input.Midi e) r = r
late_at input.Tick r = stepped (done [] (writing (dest false) f1 ∷ []) 1 false) r.kept
late_at input.PushState r = r
late_at input.PushTransport r = r
late_at input.FlashBank r = r

abbrev writes_late : Stepper
writes_late v k e answers = late_at e.what (step v k e answers)

pub writes_late_refuted : Claim writes_late → ⊥
unfolding pasts final account ticks step refusal act tick drain drained nudges writes refresh_live tick_flash tried_of dropped_of paired opens next write_call seen fresh_session seen_strips beside
writes_late_refuted c = go (c (plain false) (omega arith) (at input.Tick (done_then []) ∷ [])).drains
  where
    only : {r : Reply} {l : List Asked} → Only not_write (saying (writing (dest false) f1) r ∷ l) → ⊥
    only (one-call e h) = false≢true e

    go : {o : List Bool} {r : Reply} → Each Drained ((saying (writing (dest false) f1) r ∷ []) ∷ []) (record { opened = o; sums = []; tried = [] } ∷ []) → ⊥
    go {r = r} (one_more d x) =
        let e : saying (writing (dest false) f1) r ∷ [] ≡ d.faders ++ d.later = rw (no_sums d.first) at d.all in
        let e₂ : saying (writing (dest false) f1) r ∷ [] ≡ d.later = rw (no_tries d.then) at e in
        only (rw (← e₂) at d.last)

-- ── in a drain it opens a driver again that is open ──

abbrev again_at : Input → Stepped → Stepped
again_at (input.Midi e) r = r
again_at input.Tick r = stepped (done [] (open_of (writing (dest false) f1) ∷ writing (dest false) f1 ∷ []) 2 false) r.kept
again_at input.PushState r = r
again_at input.PushTransport r = r
again_at input.FlashBank r = r

abbrev opens_again : Stepper
opens_again v k e answers = again_at e.what (step v k e answers)

-- a drain without sums whose first call is an open: the first move's driver was not open
first_open : {o : List Bool} {t : Tried} {ts : List Tried} {l : List Asked} (later asked : List Asked) →
    Tries o (t ∷ ts) l → asked ≡ l ++ later → kind_first asked ≡ 0 → get_or o t.dest.driver false ≡ false
unfolding write_call
first_open later asked (tried-one {t = t} {l = l} u r) e k = go u e
  where
    two : ◌≡◌ {A = ℕ} 2 0 → ⊥
    two z = omega arith

    go : {o : List Bool} {r : Reply} {m : List Asked} → Uses o (writing t.dest t.level) r m → asked ≡ (m ++ l) ++ later → get_or o t.dest.driver false ≡ false
    go (used n) e = absurd (two (sym (ap kind_first e) ∙ k))
    go (opened-used n) e = n
    go (not-used n) e = n

pub opens_again_refuted : Claim opens_again → ⊥
unfolding pasts final account ticks step refusal act fader take_move tick drain drained nudges writes refresh_live tick_flash read read_of write write_of use_done use_call open_for is_open opening ask items_of destination own_fader is_marked mark_at last_move moved_to place_move change reading lined replaced_by tried_of dropped_of paired opens next plain_call write_call answer_of to_read to_other item_count add sub mul div lt le eq of_int of_bits to_bits abs_of clamp_of le64 seen fresh_session seen_strips beside
opens_again_refuted c =
    let os : List Offer = at (move 0 f1) (done_then (nothing_then [])) ∷ at input.Tick (done_then (done_then [])) ∷ [] in
    go (c (plain true) (omega arith) os).drains refl refl
  where
    go : {o : List Bool} {asked : List Asked} {i : ℕ} →
        Each Drained (asked ∷ []) (record { opened = o; sums = []; tried = record { id = i; dest = dest true; level = f1 } ∷ [] } ∷ []) →
        kind_first asked ≡ 0 → get_or o 3 false ≡ true → ⊥
    go {asked = asked} (one_more d r) k t =
        let e : asked ≡ d.faders ++ d.later = rw (no_sums d.first) at d.all in
        let h = rw (no_sums d.first) at d.then in
        false≢true (sym (first_open d.later asked h e k) ∙ t)

-- ── it never merges two turns of one destination ──

abbrev apart : Input → Desk → Stepped → Stepped
apart (input.Midi (event.Fader ch x)) d r = r
apart (input.Midi (event.Encoder ch n)) d r = with_desk (desk d.marks d.moves d.line (d.turns ++ (first_turn (dest false) n ∷ []))) r
apart (input.Midi (event.Button b)) d r = r
apart (input.Midi event.Other) d r = r
apart input.Tick d r = r
apart input.PushState d r = r
apart input.PushTransport d r = r
apart input.FlashBank d r = r

abbrev never_merges : Stepper
never_merges v k e answers = apart e.what k.desk (step v k e answers)

abbrev is_some : Option Float → Bool
is_some (Some x) = true
is_some None = false

abbrev or_one : Option Float → Float
or_one (Some x) = x
or_one None = f1

-- one sum of 2 whose driver is not open: an open, a read of 0, and a write of 2/64
third_level : {o : List Bool} {l : List Asked} (rest asked : List Asked) → Nudges o (first_turn (dest false) (pos 2) ∷ []) l → asked ≡ l ++ rest →
    kind_first asked ≡ 0 → done_first asked ≡ true → reply_second asked ≡ record { answer = answer.Level f0; items = [] } → kind_third asked ≡ 2 →
    level_third asked ≡ (writing (dest false) (nudge f0 (pos 2))).level
unfolding plain_call write_call of_bits eq lt le sub div clamp_of
third_level rest asked (zero_sum z n) e k d s h = absurd (false≢true z)
third_level rest asked (not-read {l = l} z u q n) e k d s h = go u q e
  where
    go : {o : List Bool} {m : List Asked} {r : Reply} → Uses o (reading_of (dest false)) r m → read_as (dest false) r ≡ None → asked ≡ (m ++ l) ++ rest →
        level_third asked ≡ (writing (dest false) (nudge f0 (pos 2))).level
    go (used n) q e = let z : ◌≡◌ {A = ℕ} 1 0 = sym (ap kind_first e) ∙ k in omega arith
    go (opened-used n) q e = absurd (false≢true (sym (ap is_some (ap (read_as (dest false)) (sym s ∙ ap reply_second e) ∙ q))))
    go (not-used n) q e = absurd (false≢true (sym (ap done_first e) ∙ d))
third_level rest asked (nudged {c = c} {l = l} z u q u' n) e k d s h = go u q u' e
  where
    put : {o : List Bool} {m : List Asked} {r q' : Reply} → f0 ≡ c → Uses o (writing (dest false) (nudge c (pos 2))) q' m →
        asked ≡ ((saying (open_of (reading_of (dest false))) done_reply ∷ saying (reading_of (dest false)) r ∷ []) ++ (m ++ l)) ++ rest →
        level_third asked ≡ (writing (dest false) (nudge f0 (pos 2))).level
    put x (used n) e = ap level_third e ∙ sym (ap (λ (y : Float). (writing (dest false) (nudge y (pos 2))).level) x)
    put x (opened-used n) e = let z : ◌≡◌ {A = ℕ} 0 2 = sym (ap kind_third e) ∙ h in omega arith
    put x (not-used n) e = let z : ◌≡◌ {A = ℕ} 0 2 = sym (ap kind_third e) ∙ h in omega arith

    go : {o o' : List Bool} {m k' : List Asked} {r q' : Reply} → Uses o (reading_of (dest false)) r m → read_as (dest false) r ≡ Some c →
        Uses o' (writing (dest false) (nudge c (pos 2))) q' k' → asked ≡ (m ++ (k' ++ l)) ++ rest → level_third asked ≡ (writing (dest false) (nudge f0 (pos 2))).level
    go (used n) q u' e = let z : ◌≡◌ {A = ℕ} 1 0 = sym (ap kind_first e) ∙ k in omega arith
    go (opened-used n) q u' e = put (ap or_one (ap (read_as (dest false)) (sym s ∙ ap reply_second e) ∙ q)) u' e
    go (not-used n) q u' e = absurd (false≢true (sym (ap done_first e) ∙ d))

-- 2/64
two_64ths : (writing (dest false) (nudge f0 (pos 2))).level ≡ 0x3fa0_0000_0000_0000
unfolding write_call add sub mul div lt le eq of_int of_bits to_bits abs_of clamp_of
two_64ths = refl

-- two turns of 1 and a tick: it writes 1/64, reads 0 again, and writes 1/64 again
pub never_merges_refuted : Claim never_merges → ⊥
unfolding pasts final account ticks step refusal turn_refusal act encoder turn tick drain drained nudges apply_nudge writes refresh_live tick_flash encoder_dest find read read_of write write_of write_call use_done use_call open_for is_open opening ask next plain_call answer_of to_read to_other item_count items_of change summed sum_for same_dest every add sub mul div lt le eq of_bits to_bits abs_of clamp_of of_int le64 paired opens tried_of dropped_of seen fresh_session seen_strips beside
never_merges_refuted c =
    let os : List Offer =
    at (input.Midi (event.Encoder 0 (pos 1))) [] ∷ at (input.Midi (event.Encoder 0 (pos 1))) [] ∷ at input.Tick (done_then (level_then 0 0 (done_then (level_then 0 0 (done_then []))))) ∷ [] in
    go (c (plain false) (omega arith) os).drains refl refl refl refl refl
  where
    go : {o : List Bool} {asked : List Asked} →
        Each Drained (asked ∷ []) (record { opened = o; sums = first_turn (dest false) (pos 2) ∷ []; tried = [] } ∷ []) →
        kind_first asked ≡ 0 → done_first asked ≡ true → reply_second asked ≡ record { answer = answer.Level f0; items = [] } → kind_third asked ≡ 2 →
        level_third asked ≡ 0x3f90_0000_0000_0000 → ⊥
    go {asked = asked} (one_more d x) k f s h l =
        let z : ◌≡◌ {A = ℕ} 0x3f90_0000_0000_0000 0x3fa0_0000_0000_0000 = sym l ∙ third_level (d.faders ++ d.later) asked d.first d.all k f s h ∙ two_64ths in
        omega arith
