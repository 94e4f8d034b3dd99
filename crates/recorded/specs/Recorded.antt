-- A recording is computed over the definition: each event ends as the Rust's did. Definitions only.
use Rattle.std.specs.Prelude.{ℕ, List, [], ◌∷◌, ◌++◌, map, Bool, true, ◌&&◌, length, None, Option, Some}
use Rattle.base.specs.Range.{bit}
use Rattle.base.specs.Same.{same_list}
use Rattle.lookup.specs.View.{View, view_of}
use Rattle.drivers.specs.Bytes.{joined}
use Rattle.drivers.specs.declared.Call.{Call}
use Rattle.session.specs.Session.{fresh_session}
use Rattle.event.specs.Event.{read_of}
use Rattle.definition.specs.Step.{Kept, Ended, done, refused, waiting, Stepped, stepped, seen, step}
use Rattle.event.specs.declared.Timed.{Timed}

-- an event and the answers that it is offered with, as bytes; how it must end
pub record Offer : Type 0 where
  pub event : List ℕ
  pub answers : List ℕ
  pub ended : List ℕ

abbrev pub offer : List ℕ → List ℕ → List ℕ → Offer
offer e a r = record { event = e; answers = a; ended = r }

abbrev pub call_of : Call → List ℕ
call_of c = c.kind ∷ c.driver ∷ c.name ∷ c.argument ∷ c.level ∷ []

-- an end as numbers: 1 done, with the answers used, the saved flag, the number of messages, their bytes and the calls' fields; 2 refused; 3 waiting
abbrev pub numbers : Ended → List ℕ
numbers (done ms cs used saved) = 1 ∷ used ∷ bit saved ∷ length ms ∷ (joined ms ++ joined (map call_of cs))
numbers (refused n) = 2 ∷ n ∷ []
numbers (waiting c) = 3 ∷ call_of c

abbrev pub step_as : Option Timed → View → Kept → List ℕ → Stepped
step_as (Some e) v k answers = step v k e answers
step_as None v k answers = stepped (refused 10) k

abbrev pub checked : Offer → Stepped → (Kept → Bool) → Bool
checked o r rest = same_list (numbers r.ended) o.ended && rest r.kept

-- the offers, one after the other, from a session
unfoldable pub runs : View → List Offer → Kept → Bool
runs v [] k = true
runs v (o ∷ os) k = checked o (step_as (read_of o.event) v k o.answers) (runs v os)

-- a profile, and the events of a session that starts fresh
pub record Recording : Type 0 where
  pub profile : List ℕ
  pub offers : List Offer

abbrev pub recording : List ℕ → List Offer → Recording
recording p os = record { profile = p; offers = os }

-- every recording ends as it was recorded
unfoldable pub agree : List Recording → Bool
agree [] = true
agree (r ∷ rs) = runs (view_of r.profile) r.offers (seen r.profile fresh_session) && agree rs
