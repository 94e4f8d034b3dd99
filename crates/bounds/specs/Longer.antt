-- The same event offered with more answers: "Extra answers stay unread", and of one that waits "the host makes it, appends the answer and offers the same
-- event again". Definitions only.
use Rattle.std.specs.Prelude.{ℕ, ◌≡◌, List, ◌∷◌, ◌++◌, ◌⊎◌}
use Rattle.lookup.specs.View.{View}
use Rattle.drivers.specs.Talk.{Talk, Got, start}
use Rattle.drivers.specs.declared.line.Stop.TheVariants.{Declined}
use Rattle.drivers.specs.declared.Call.{Call}
use Rattle.event.specs.declared.Timed.{Timed}
use Rattle.definition.specs.Step.{Kept, Left, Ended, done, refused, waiting, act}

-- calls that start with those before, then c
pub record Starts (before : List Call) (c : Call) (calls : List Call) : Type 0 where
  pub rest : List Call
  pub whole : calls ≡ before ++ (c ∷ rest)

-- a line on which c comes next after the calls before: c was asked, or the answer to it does not fit (14)
abbrev pub Again : Call → List Call → Talk → Type 0
Again c before t = ((t.stop ≡ Declined) × (t.calls ≡ before)) ⊎ Starts before c t.calls

-- what an event does with its answers, whether it is done, waits or is refused in the end
abbrev pub run : View → Kept → Timed → List ℕ → Got Left
run v k e answers = act e.what v k e.time (start answers k.opened)

-- the calls that it makes until it ends or stops
abbrev pub asked : View → Kept → Timed → List ℕ → List Call
asked v k e answers = (run v k e answers).talk.calls

-- How an event that waited for c ends when it is offered again: it made the calls before c, then c, whether it is done or waits again; else it is
-- refused with 14. `now` are the calls that it makes this time, which an event that waits does not report
abbrev pub GoesOn : List Call → Call → List Call → Ended → Type 0
GoesOn before c now (done ms cs used saved) = Starts before c cs
GoesOn before c now (waiting d) = Starts before c now
GoesOn before c now (refused why) = why ≡ 14
