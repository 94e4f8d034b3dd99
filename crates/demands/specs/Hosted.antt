-- A run of the exported entry: `zelwydro_on_event` called with one event after another on the session that the host keeps in place. Definitions only.
use Rattle.std.specs.Prelude.{ℕ, ◌≡◌, List, [], ◌∷◌, eqb, length}
use Rattle.base.specs.Choice.{pick}
use Rattle.session.specs.declared.Session.{Session}
use Rattle.definition.specs.Whole.{whole}
use Rattle.delivery.specs.Delivery.{Told, Done, Refused, Waiting}
use Rattle.host.specs.Report.{Reports}
use Rattle.host.specs.declared.Report.{Report}
use Rattle.demands.specs.Shown.{Exchange}

-- one call: what it is handed beside profile and session, the report that it returned, and the session and both buffers after it
pub record Entry : Type 0 where
  pub event : List ℕ
  pub answers : List ℕ
  pub messages : List ℕ
  pub calls : List ℕ
  pub report : Report
  pub session : Session
  pub messages_after : List ℕ
  pub calls_after : List ℕ

-- the calls take the session s to z, and each did what the entry promises
unfoldable pub Hosts : List ℕ → Session → List Entry → Session → Type 0
Hosts p s [] z = s ≡ z
Hosts p s (x ∷ xs) z =
    Reports (whole p s x.event x.answers (length x.messages) (length x.calls)) p s x.messages x.calls x.report x.session
    x.messages_after x.calls_after
    × Hosts p x.session xs z

-- the outcome by the report's fields: kind 0 is done, 1 refused, else the event waits
abbrev pub told_by : Report → Told
told_by r =
    pick (eqb r.kind 0) (Done r.messages r.calls r.used r.saved) (pick (eqb r.kind 1) (Refused r.number) (Waiting r.call))

-- what a host sees of it
abbrev pub exchange_by : Entry → Exchange
exchange_by x =
    record {
      event = x.event;
      answers = x.answers;
      messages = x.messages;
      calls = x.calls;
      outcome = told_by x.report;
      session = x.session;
      messages_after = x.messages_after;
      calls_after = x.calls_after;
    }
