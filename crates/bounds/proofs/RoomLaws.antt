-- From a session within its capacities no event overruns its 102 messages or 337 calls.
use Rattle.std.specs.Prelude.{ℕ, ◌≤◌, ◌≡◌, Bool, List, eqb, length}
use Rattle.std.proofs.Common.{subst, arith}
use Rattle.std.proofs.Math.Bool.{true, false}
use Rattle.lookup.specs.View.{View}
use Rattle.drivers.specs.Talk.{Got, start}
use Rattle.drivers.specs.declared.line.Stop.{Stop}
use Rattle.drivers.specs.declared.line.Stop.TheVariants.{Going, Waits, Declined, Overrun}
use Rattle.drivers.specs.declared.Call.{Call}
use Rattle.event.specs.declared.Timed.{Timed}
use Rattle.definition.specs.Step.{Kept, Left, Ended, done, finish, step_if, refusal, act, step}
use Rattle.bounds.specs.Room.{Sound, Within, Room, FewOf}
use Rattle.bounds.proofs.Events.{act_takes}
use Rattle.bounds.proofs.RoomTaken.{shut-most, going_so, room_rules, messages_most, calls_most}

module _ (v : View) (k : Kept) (sound : Sound v) (within : Within k) where
  pub act_room : (e : Timed) (answers : List ℕ) → Room 0 0 (act e.what v k e.time (start answers k.opened)).talk
  act_room e answers =
      (act_takes room_rules v k sound.drivers within.drivers e.what e.time).pays 0 0 (start answers k.opened)
      (record {
        messages = omega (arith, messages_most v k sound within e.what);
        calls = omega (arith, calls_most v k sound within e.what, shut-most k.opened, within.opened);
        opened = within.opened;
        never = λ q. going_so q;
      })

  -- no event ends for want of room
  pub never_overrun : (e : Timed) (answers : List ℕ) → (act e.what v k e.time (start answers k.opened)).talk.stop ≡ Overrun → ⊥
  never_overrun e answers q = (act_room e answers).never q

  finish_few : (s : Stop) (r : Got Left) → Room 0 0 r.talk → FewOf (finish s v k r).ended
  finish_few Going r h = (omega (arith, h.messages), omega (arith, h.calls))
  finish_few (Waits c) r h = tt
  finish_few Declined r h = tt
  finish_few Overrun r h = tt

  step_few : (e : Timed) (answers : List ℕ) → FewOf (step v k e answers).ended
  unfolding step
  step_few e answers = at (eqb (refusal e.what v k e.time) 0)
    where
      at : (b : Bool) → FewOf (step_if b (refusal e.what v k e.time) e v k answers).ended
      at true =
          let r = act e.what v k e.time (start answers k.opened) in
          finish_few r.talk.stop r (act_room e answers)
      at false = tt

  -- at most 102 messages and 337 calls
  pub few_within : (e : Timed) (answers : List ℕ) (ms : List (List ℕ)) (cs : List Call) (used : ℕ) (saved : Bool) →
      (step v k e answers).ended ≡ done ms cs used saved → (length ms ≤ 102) × (length cs ≤ 337)
  few_within e answers ms cs used saved q = subst (λ (x : Ended). FewOf x) q (step_few e answers)
