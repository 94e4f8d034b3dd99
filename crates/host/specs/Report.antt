-- What a program that calls the bridge is told of an event: document 01's numbers and values for each outcome. Definitions only.
use Rattle.std.specs.Prelude.{ℕ, ◌≡◌, false, List}
use Rattle.drivers.specs.declared.Call.{Call}
use Rattle.session.specs.declared.Session.{Session}
use Rattle.definition.specs.Step.{Stepped}
use Rattle.delivery.specs.Delivery.{Told, Done, Refused, Waiting, outcome_of}
use Rattle.bridge.specs.Bridge.{Leaves}
use Rattle.host.specs.declared.Report.{Report}

-- no call: all of it 0
abbrev pub no_call : Call
no_call = record { kind = 0; driver = 0; name = 0; argument = 0; level = 0 }

-- "number, zero counts"
abbrev pub undone_by : ℕ → ℕ → Call → Report
undone_by kind number call = record { kind = kind; number = number; saved = false; messages = 0; calls = 0; used = 0; call = call }

-- 0: done, with its counts. 1: refused, with its number. 2: "the outcome is "waiting" with that call", and zero counts
abbrev pub report_of : Told → Report
report_of (Done m c u s) = record { kind = 0; number = 0; saved = s; messages = m; calls = c; used = u; call = no_call }
report_of (Refused n) = undone_by 1 n no_call
report_of (Waiting c) = undone_by 2 0 c

-- what `bridge::step` promises, with the outcome in numbers; s₁ is the session after the event
abbrev pub Reports : Stepped → List ℕ → Session → List ℕ → List ℕ → Report → Session → List ℕ → List ℕ → Type 0
Reports d p s ms cs r s₁ ms₁ cs₁ = (r ≡ report_of (outcome_of d.ended)) × Leaves d p s ms cs s₁ ms₁ cs₁
