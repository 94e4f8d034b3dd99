-- A run of the bridge: `bridge::step` called with one event after another, each time with the session that the last call returned. Definitions only.
use Rattle.std.specs.Prelude.{ℕ, ◌≡◌, ◌||◌, List, [], ◌∷◌, ltb, length, None}
use Rattle.base.specs.Choice.{pick}
use Rattle.session.specs.declared.Session.{Session}
use Rattle.event.specs.Event.{read_of}
use Rattle.definition.specs.Whole.{whole, message_room, call_room}
use Rattle.account.specs.Account.{Offer}
use Rattle.bridge.specs.Bridge.{Delivers}
use Rattle.bridge.specs.declared.Stepped.{Stepped}

-- one call: what it is handed beside profile and session, both lent buffers as they were, what it returned, and the buffers after it
pub record Step : Type 0 where
  pub event : List ℕ
  pub answers : List ℕ
  pub messages : List ℕ
  pub calls : List ℕ
  pub result : Stepped
  pub messages_after : List ℕ
  pub calls_after : List ℕ

-- it did what `bridge::step` promises over the profile p, of the session s
abbrev pub Does : List ℕ → Session → Step → Type 0
Does p s x =
    Delivers (whole p s x.event x.answers (length x.messages) (length x.calls)) p s x.messages x.calls x.result x.messages_after
    x.calls_after

-- the calls take the session s to z
unfoldable pub Runs : List ℕ → Session → List Step → Session → Type 0
Runs p s [] z = s ≡ z
Runs p s (x ∷ xs) z = Does p s x × Runs p x.result.session xs z

-- what the account is offered, by the lengths of both buffers: an event whose buffers are too short, number 9, is offered in vain, as one that cannot be read is
abbrev pub offer_with : List ℕ → List ℕ → ℕ → ℕ → Offer
offer_with event answers messages calls =
    record { event = pick (ltb messages message_room || ltb calls call_room) None (read_of event); answers = answers }

abbrev pub offer_of : Step → Offer
offer_of x = offer_with x.event x.answers (length x.messages) (length x.calls)
