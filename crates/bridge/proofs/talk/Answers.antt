use Prim.Native.Nat.{ℕ, ◌+◌, ◌≤◌, ◌<◌}
use mathlib.Core.Path.{◌≡◌, refl, sym, ap, ◌∙◌}
use mathlib.Core.Bool.{true}
use mathlib.Core.List.{List}
use native.Mathlib.Omega.{arith}
use lib.ListN.{length}
use Rattle.base.proofs.KeyedLaws.{long}
use Rattle.profile.specs.Profile.{verdict}
use Rattle.profile.proofs.Accepted.{few_banks}
use Rattle.lookup.specs.View.{view_of}
use Rattle.event.specs.declared.Timed.{Timed}
use Rattle.session.specs.Session.{seen_silenced, targets_of}
use Rattle.session.specs.declared.Lamps.{Lamps}
use Rattle.session.specs.declared.Silenced.{Silenced}
use Rattle.session.specs.declared.Session.{Session}
use Rattle.definition.specs.Shape.{well_shaped}
use Rattle.definition.specs.Live.{is_due}
use Rattle.definition.specs.Step.{seen, refusal}
use Rattle.bounds.proofs.Offered.{well_seen}
use Rattle.rig.specs.declared.current.Current.{Current}
use Rattle.after.specs.declared.Setting.{Setting}
use Rattle.bridge.specs.Which.{press_in, bank_by, adds_by, runs}
use Rattle.bridge.specs.Acts.{Given}
use Rattle.bridge.specs.Bridge.{IsCurrent, setting_of}
use Rattle.bridge.proofs.Fit.{bank_low, bank_below, live_is, line_few, line_is, turns_few, turns_wired, silenced_few, silenced_once, note_is}
use Rattle.bridge.proofs.HandLaws.{rig_is}
use Rattle.bridge.proofs.TalkLaws.{rig_now_lem, bank_by_low, fits_so, given_so, ran_so, room_so, talks_so}
use Rattle.bridge.proofs.talk.Goals as goal

module _ (p : List ℕ) (s : Session) (at : Setting) (e : Timed) where
  -- the bank after the event is one of the profile's
  after_low : verdict p ≡ 0 → well_shaped p s ≡ true → at ≡ setting_of p s e → at.after < 16
  after_low v w is =
      let low = bank_by_low p s.bank (press_in e.what) (bank_below p s w) in
      let same : at.after ≡ bank_by p s.bank (press_in e.what) = ap (λ (a : Setting). a.after) is in
      omega (arith, low, same, few_banks p v)

  due-is : at ≡ setting_of p s e → is_due s.livedue s.liveat e.time ≡ at.due
  due-is is = sym (ap (λ (a : Setting). a.due) is)

  due-at : at ≡ setting_of p s e → is_due (seen p s).site.due (seen p s).site.at e.time ≡ at.due
  unfolding seen
  due-at is = due-is is

-- the lent lamps and levels are the session's
module _ (p : List ℕ) (s : Session) (lamps : Lamps) (z : Silenced) (w : well_shaped p s ≡ true) (l : lamps ≡ s.lamps) (t : z ≡ s.silenced) where
  room_at_lem : (here : Current) (e : Timed) → length (seen_silenced s.silenced) ≤ 256 → runs e.what ≡ true →
      refusal e.what (view_of p) (seen p s) e.time ≡ 0 → IsCurrent p s.live s.bank here →
      length (seen_silenced z) + length (adds_by here lamps (press_in e.what) (targets_of (seen_silenced z))) ≤ 256
  room_at_lem here e few r free i =
      rw (t, l) (fits_so p s here e.time (rig_now_lem p s ∙ rig_is p s s.bank here i) few e.what r free)

  given_at : (after : ℕ) (here there : Current) → IsCurrent p s.live s.bank here → IsCurrent p s.live after there →
      Given (seen p s) here there lamps (seen_silenced z) s.moves
  given_at after here there i j = rw (t, l) (given_so p s here there after i j)

pub current-current_bank-requires : goal.current-current_bank-requires
current-current_bank-requires c =
    let s = c.args.session.now in
    record { bank_bound = bank_low c.args.profile.now s c.requires.session_value c.requires.profile_value; banks_value = live_is c.args.profile.now s c.requires.session_value }

pub current-there-requires : goal.current-there-requires
current-there-requires c =
    let s = c.args.session.now in
    record { bank_bound = after_low c.args.profile.now s c.args.at c.args.e c.requires.profile_value c.requires.session_value c.requires.at_value; banks_value = live_is c.args.profile.now s c.requires.session_value }

pub drain-requires : goal.drain-requires
drain-requires c =
    let p = c.args.profile.now in
    let s = c.args.session.now in
    record {
      line_bound = line_few p s c.requires.session_value;
      line_value = (line_is p s c.requires.session_value).low;
      turns_bound = turns_few p s c.requires.session_value;
      records_value = rw c.current-current_bank.ensures.profile (turns_wired p s c.requires.session_value);
    }

pub run-left-requires : goal.run-left-requires
run-left-requires c =
    let p = c.args.profile.now in
    let s = c.args.session.now in
    let w = c.requires.session_value in
    let here = c.current-current_bank in
    let there = c.current-there in
    record {
      profile_value = there.ensures.profile ∙ sym here.ensures.profile;
      bank_bound = rw (here.ensures.bank, here.ensures.profile) (bank_below p s w);
      what_value = c.requires.what_value;
      bank_value =
          there.ensures.bank ∙ ap (λ (a : Setting). a.after) c.requires.at_value ∙ ap (λ n. bank_by p n (press_in c.args.e.what)) (sym here.ensures.bank)
          ∙ ap (λ q. bank_by q here.result.bank (press_in c.args.e.what)) (sym here.ensures.profile);
      flash_value = rw c.requires.lamps_value (note_is p s w);
      silenced_bound = rw c.requires.silenced_value (silenced_few p s w);
      levels_value = rw c.requires.silenced_value (silenced_once p s w);
      levels_len_bound =
          room_at_lem p s _ _ w c.requires.lamps_value c.requires.silenced_value here.result c.args.e c.requires.few_value c.requires.what_value
          c.requires.time_value here.ensures;
    }

pub ending-outcome-requires : goal.ending-outcome-requires
ending-outcome-requires c =
    let p = c.args.profile.now in
    let s = c.args.session.now in
    let w = c.requires.session_value in
    let here = c.current-current_bank in
    let there = c.current-there in
    let x = c.run-left in
    let opened_long : length s.opened ≡ 16 = search long in
    let given = given_at p s _ _ w c.requires.lamps_value c.requires.silenced_value c.args.at.after here.result there.result here.ensures there.ensures in
    let ran = ran_so p s c.args.e here.result c.args.at.ticks _ _ _ here.ensures.profile
    (x.ensures.runs_any (seen p s) given (due-at p s c.args.at c.args.e c.requires.at_value)) c.drain.ensures in
    record {
      in_bounds = c.requires.in_bounds;
      in_bounds_2 = c.requires.in_bounds_2;
      has_room =
          room_so p s c.args.e c.args.answers.now here.result (rig_now_lem p s ∙ rig_is p s s.bank here.result here.ensures) c.args.at.ticks _ _
          c.fresh-io.ensures (ap (λ (a : Setting). a.ticks) c.requires.at_value) c.args.at.due x.result _ _ ran c.requires.profile_value
          (well_seen p s opened_long w) c.requires.time_value _ refl;
    }

pub returns-clause-talks : goal.returns-clause-talks
returns-clause-talks c =
    let p = c.args.profile.now in
    let s = c.args.session.now in
    let w = c.requires.session_value in
    let here = c.current-current_bank in
    let there = c.current-there in
    let x = c.run-left in
    let given = given_at p s _ _ w c.requires.lamps_value c.requires.silenced_value c.args.at.after here.result there.result here.ensures there.ensures in
    let ran = ran_so p s c.args.e here.result c.args.at.ticks _ _ _ here.ensures.profile
    (x.ensures.runs_any (seen p s) given (due-at p s c.args.at c.args.e c.requires.at_value)) c.drain.ensures in
    talks_so p s c.args.e c.args.answers.now here.result (rig_now_lem p s ∙ rig_is p s s.bank here.result here.ensures) c.args.at.ticks _ _ c.fresh-io.ensures
    (ap (λ (a : Setting). a.ticks) c.requires.at_value) c.args.at.due x.result _ _ ran (due-is p s c.args.at c.args.e c.requires.at_value) x.ensures.known_if _ refl _
    c.remember.ensures _ _ _ _ _ c.ending-outcome.ensures
