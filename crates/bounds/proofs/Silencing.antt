-- A press of which number 11 says that it fits leaves at most 256 silenced targets, none twice. Assumes nothing.
use Rattle.std.specs.Prelude.{ℕ, ◌+◌, ◌≤◌, ◌≡◌, length, Float}
use Rattle.std.proofs.Math.Bool.{true}
use Rattle.std.proofs.Math.Dec.{eqb}
use Rattle.base.specs.Keyed.{no_twice}
use Rattle.lookup.specs.View.{View}
use Rattle.drivers.specs.Talk.{Talk}
use Rattle.session.specs.Session.{targets_of}
use Rattle.definition.specs.Buttons.{button, added_by}
use Rattle.definition.specs.Step.{Kept, press_at}
use Rattle.bounds.proofs.SilencingFits.{press_silenced}

pub silenced_so : (v : View) (k : Kept) (now : Float) (note : ℕ) (t : Talk) → no_twice eqb (targets_of k.silenced) ≡ true →
    length k.silenced + length (added_by note (press_at v k now)) ≤ 256 →
    (length (button note (press_at v k now) t).value.silenced ≤ 256) × (no_twice eqb (targets_of (button note (press_at v k now) t).value.silenced) ≡ true)
silenced_so v k now note t o few = press_silenced (press_at v k now) note t o few
