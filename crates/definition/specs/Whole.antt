-- An event as the host offers it, in bytes: the numbers 1 to 10 in order, lowest first, then the event itself. Definitions only.
use Rattle.std.specs.Prelude.{ℕ, List, ◌||◌, eqb, ltb, None, Option, Some}
use Rattle.base.specs.Choice.{pick}
use Rattle.profile.specs.Profile.{verdict}
use Rattle.lookup.specs.View.{view_of}
use Rattle.session.specs.declared.Session.{Session}
use Rattle.event.specs.Event.{read_of}
use Rattle.definition.specs.Shape.{well_shaped}
use Rattle.definition.specs.Step.{Kept, seen, refused, Stepped, stepped, step}
use Rattle.event.specs.declared.Timed.{Timed}

-- 10: "event kind or length unknown, record incomplete"
abbrev pub offered : Option Timed → List ℕ → Kept → List ℕ → Stepped
offered (Some e) p k answers = step (view_of p) k e answers
offered None p k answers = stepped (refused 10) k

-- "message buffer below 306 bytes or call buffer below 5,392"
abbrev pub message_room : ℕ
message_room = 306

abbrev pub call_room : ℕ
call_room = 5392

-- the profile p, the session s, the event's record, the answers, and the lengths of the message buffer and of the call buffer. A refused event leaves the
-- session as it was
unfoldable pub whole : List ℕ → Session → List ℕ → List ℕ → ℕ → ℕ → Stepped
whole p s event answers messages calls =
    pick (eqb (verdict p) 0)
    (pick (well_shaped p s)
    (pick (ltb messages message_room || ltb calls call_room) (stepped (refused 9) (seen p s)) (offered (read_of event) p (seen p s) answers))
    (stepped (refused 8) (seen p s)))
    (stepped (refused (verdict p)) (seen p s))
