-- A live bank's faders, asked of its driver right after a change and then once a second: `refresh_live`. Definitions only.
use Rattle.std.specs.Prelude.{ℕ, List, Bool, true, false, ◌||◌, eqb, Float, None, Option, Some}
use Rattle.std.specs.Float.{binary64}
use Rattle.std.specs.Float.Ieee.{sub, le}
use Rattle.base.specs.Words.{absent}
use Rattle.float.specs.Leaf.{f1}
use Rattle.drivers.specs.Talk.{Act, got, next, Listed, live_of}
use Rattle.drivers.specs.declared.LiveFader.{LiveFader}
use Rattle.session.specs.Session.{strips_of, same_strips}
use Rattle.session.specs.declared.Strip.{Strip}
use Rattle.session.specs.declared.Lamps.{Lamps}
use Rattle.definition.specs.Rig.{Rig, with_strips}
use Rattle.definition.specs.Lamps.{push_state}

-- the list that the bank has now, and whether it is another one
pub record Refreshed : Type 0 where
  pub strips : List Strip
  pub changed : Bool

abbrev pub refreshed : List Strip → Bool → Refreshed
refreshed l b = record { strips = l; changed = b }

-- the first list always counts as a change, also when it was refused
abbrev pub same_as : Option (List Strip) → List Strip → Bool
same_as None l = false
same_as (Some k) l = same_strips k l

abbrev pub change_if : Bool → List Strip → Rig → Lamps → List ℕ → Act Refreshed
change_if true l r x s t = got (refreshed r.here.strips false) t
change_if false l r x s t = got (refreshed l true) (push_state (with_strips l r) x s t)

-- a refusal counts as an empty list
abbrev pub handed : ℕ → Listed LiveFader → List Strip
handed driver l = strips_of driver l.list

abbrev pub ask_if : Bool → Option (List Strip) → Rig → Lamps → List ℕ → Act Refreshed
ask_if true known r x s t = got (refreshed r.here.strips false) t
ask_if false known r x s t =
    next (live_of r.here.part.device r.here.part.live t)
    (λ l. change_if (same_as known (handed r.here.part.device l)) (handed r.here.part.device l) r x s)

-- `refresh_live`: a bank that is not live, or has no driver of its own, asks nobody
unfoldable pub refresh_live : Option (List Strip) → Rig → Lamps → List ℕ → Act Refreshed
refresh_live known r x s = ask_if (eqb r.here.part.live absent || eqb r.here.part.device absent) known r x s

-- due right after a change, then every TRANSPORT_EVERY, 1.0 s
abbrev pub is_due : Bool → Float → Float → Bool
is_due due at now = due || le f1 (sub binary64 now at)

abbrev pub refresh_due : Bool → Option (List Strip) → Rig → Lamps → List ℕ → Act Refreshed
refresh_due true known r x s t = refresh_live known r x s t
refresh_due false known r x s t = got (refreshed r.here.strips false) t
