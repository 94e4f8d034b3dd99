-- Demand 3 of what a host sees: an event is finished if the host was told so, and its calls are read from the lent call buffer, as many as the outcome counts.
-- Definitions only.
use Rattle.std.specs.Prelude.{ℕ, List, [], ◌∷◌, length, None, Option, Some}
use Rattle.lookup.specs.View.{view_of}
use Rattle.drivers.specs.Shown.{calls_in}
use Rattle.drivers.specs.Paired.{paired}
use Rattle.session.specs.declared.Session.{Session}
use Rattle.event.specs.Event.{read_of}
use Rattle.event.specs.declared.Input.{Input}
use Rattle.event.specs.declared.Timed.{Timed}
use Rattle.definition.specs.Step.{Site, Kept, fresh_kept, seen, step}
use Rattle.account.specs.Account.{Past, Offer, Holds, step_of, account, blank}
use Rattle.delivery.specs.Delivery.{Told, Done, Refused, Waiting, told}
use Rattle.demands.specs.Running.{Step, offer_with}

-- one call as a host sees it: what it handed in, the outcome that it was told, and the session and both buffers after it
pub record Exchange : Type 0 where
  pub event : List ℕ
  pub answers : List ℕ
  pub messages : List ℕ
  pub calls : List ℕ
  pub outcome : Told
  pub session : Session
  pub messages_after : List ℕ
  pub calls_after : List ℕ

abbrev pub offer_in : Exchange → Offer
offer_in x = offer_with x.event x.answers (length x.messages) (length x.calls)

-- what is past, by the outcome and the call buffer after the event; w and z are where the definition stands before and after it
abbrev pub shown_at : Told → Input → Site → Site → List ℕ → List ℕ → Option Past
shown_at (Done messages calls used saved) e w z answers buffer =
    Some (record { what = e; before = w; after = z; answers = answers; asked = paired (calls_in calls buffer) answers })
shown_at (Refused n) e w z answers buffer = None
shown_at (Waiting c) e w z answers buffer = None

abbrev pub shown_of : Option Timed → Told → Site → Site → List ℕ → List ℕ → Option Past
shown_of (Some e) o w z answers buffer = shown_at o e.what w z answers buffer
shown_of None o w z answers buffer = None

-- the outcomes and the calls are the host's; the current bank and the live lists are those of the definition, which runs on d over the same events
unfoldable pub shown : List ℕ → Kept → List Exchange → List (Option Past)
shown p d [] = []
shown p d (x ∷ xs) =
    shown_of (read_of x.event) x.outcome d.site (step_of step (view_of p) d (offer_in x).event x.answers).kept.site x.answers x.calls_after
    ∷ shown p (step_of step (view_of p) d (offer_in x).event x.answers).kept xs

-- demand 3 of a run from a fresh session to z
abbrev pub HoldsOf : List ℕ → List Exchange → Session → Type 0
HoldsOf p xs z = Holds (view_of p) (shown p fresh_kept xs) (seen p z) (account (view_of p) 0 (shown p fresh_kept xs) blank)

-- what a host sees of a call of `bridge::step`
abbrev pub exchange_of : Step → Exchange
exchange_of x =
    record {
      event = x.event;
      answers = x.answers;
      messages = x.messages;
      calls = x.calls;
      outcome = told x.result.outcome;
      session = x.result.session;
      messages_after = x.messages_after;
      calls_after = x.calls_after;
    }
