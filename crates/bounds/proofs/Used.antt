-- No event uses more answers than it was offered: the bytes used and the bytes left are always the bytes offered.
use Rattle.std.specs.Prelude.{ℕ, ◌+◌, ◌*◌, ◌≤◌, ◌≡◌, refl, Bool, true, false, List, eqb, length}
use Rattle.std.proofs.Common.{subst, arith, div-mul-le_self, length-drop}
use Rattle.lookup.specs.View.{View}
use Rattle.drivers.specs.Answers.{answer_of, item_count}
use Rattle.drivers.proofs.AnswersLaws.{answer_there}
use Rattle.drivers.specs.Talk.{Talk, Got, start, opening}
use Rattle.drivers.specs.declared.line.Stop.{Stop}
use Rattle.drivers.specs.declared.line.Stop.TheVariants.{Going, Waits, Declined, Overrun}
use Rattle.drivers.specs.declared.Call.{Call}
use Rattle.event.specs.declared.Timed.{Timed}
use Rattle.definition.specs.Step.{Kept, Left, Ended, done, finish, step_if, refusal, act, step}
use Rattle.bounds.specs.Bounds.{UsedOf}
use Rattle.bounds.proofs.Keeping.{Keeps, act_keeps}

-- what is used and what is left is what was offered
abbrev Fair : ℕ → Talk → Type 0
Fair all t = t.used + length t.left ≡ all

fair : (all : ℕ) → Keeps (Fair all)
unfolding opening
fair all =
    record {
      stops = λ s t h. h;
      takes = λ c t f h.
          omega (arith, answer_there t.left c.kind _ _ refl f refl, length-drop (16 + 16 * item_count (answer_of t.left c.kind) t.left) t.left, h);
      opens = λ driver t h. h;
      says = λ out t h. h;
    }

finish-used : (s : Stop) (v : View) (k : Kept) (r : Got Left) (all : ℕ) → r.talk.used ≤ all → UsedOf all (finish s v k r).ended
finish-used Going v k r all h = omega (arith, div-mul-le_self r.talk.used 16)
finish-used (Waits c) v k r all h = tt
finish-used Declined v k r all h = tt
finish-used Overrun v k r all h = tt

pub step-used : (v : View) (k : Kept) (e : Timed) (answers : List ℕ) → UsedOf (length answers) (step v k e answers).ended
unfolding step
step-used v k e answers = at (eqb (refusal e.what v k e.time) 0)
  where
    at : (b : Bool) → UsedOf (length answers) (step_if b (refusal e.what v k e.time) e v k answers).ended
    at true =
        let r = act e.what v k e.time (start answers k.opened) in
        let h : r.talk.used + length r.talk.left ≡ length answers = act_keeps (Fair (length answers)) (fair (length answers)) v k e answers (omega arith) in
        finish-used r.talk.stop v k r (length answers) (omega arith)
    at false = tt

-- the answers used, records of 16 bytes, are among those offered
pub used-within : (v : View) (k : Kept) (e : Timed) (answers : List ℕ) (ms : List (List ℕ)) (cs : List Call) (used : ℕ) (saved : Bool) →
    (step v k e answers).ended ≡ done ms cs used saved → 16 * used ≤ length answers
used-within v k e answers ms cs used saved q = subst (λ (x : Ended). UsedOf (length answers) x) q (step-used v k e answers)
