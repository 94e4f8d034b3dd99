-- A refused or waiting event leaves the session as it was: by cases of how the line stopped.
use Rattle.std.specs.Prelude.{ℕ, ◌≡◌, refl, List, Bool, true, false, eqb}
use Rattle.std.proofs.Common.{subst}
use Rattle.lookup.specs.View.{View}
use Rattle.drivers.specs.Talk.{Got, start}
use Rattle.drivers.specs.declared.line.Stop.{Stop}
use Rattle.drivers.specs.declared.line.Stop.TheVariants.{Going, Waits, Declined, Overrun}
use Rattle.drivers.specs.declared.Call.{Call}
use Rattle.event.specs.declared.Timed.{Timed}
use Rattle.definition.specs.Step.{Kept, Left, Ended, refused, waiting, finish, step_if, refusal, act, step}
use Rattle.bounds.specs.Bounds.{KeptBy}

finish_keeps : (s : Stop) (v : View) (k : Kept) (r : Got Left) → KeptBy k (finish s v k r).ended (finish s v k r).kept
finish_keeps Going v k r = tt
finish_keeps (Waits c) v k r = refl
finish_keeps Declined v k r = refl
finish_keeps Overrun v k r = refl

step_keeps : (v : View) (k : Kept) (e : Timed) (answers : List ℕ) → KeptBy k (step v k e answers).ended (step v k e answers).kept
unfolding step
step_keeps v k e answers = at (eqb (refusal e.what v k e.time) 0)
  where
    at : (b : Bool) → KeptBy k (step_if b (refusal e.what v k e.time) e v k answers).ended (step_if b (refusal e.what v k e.time) e v k answers).kept
    at true =
        let r = act e.what v k e.time (start answers k.opened) in
        finish_keeps r.talk.stop v k r
    at false = refl

-- an event that ended refused has changed nothing
pub refused_keeps : (v : View) (k : Kept) (e : Timed) (answers : List ℕ) (why : ℕ) →
    (step v k e answers).ended ≡ refused why → (step v k e answers).kept ≡ k
refused_keeps v k e answers why q =
    subst (λ (x : Ended). KeptBy k x (step v k e answers).kept) q (step_keeps v k e answers)

-- nor has one that waits
pub waiting_keeps : (v : View) (k : Kept) (e : Timed) (answers : List ℕ) (c : Call) →
    (step v k e answers).ended ≡ waiting c → (step v k e answers).kept ≡ k
waiting_keeps v k e answers c q =
    subst (λ (x : Ended). KeptBy k x (step v k e answers).kept) q (step_keeps v k e answers)
