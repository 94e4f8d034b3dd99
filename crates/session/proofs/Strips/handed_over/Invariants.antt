use lib.ListN.{length, take}
use mathlib.Core.Bool.{true}
use mathlib.Core.Path.{◌≡◌}
use mathlib.Core.List.{map}
use Prim.Native.Nat.{◌≤◌}
use Rattle.base.specs.Keyed.{keep}
use Rattle.session.specs.Session.{strip_of, on_surface}
use Rattle.session.proofs.Strips.handed_over.Given as goal

abbrev pub invariant-loop-f : goal.invariant-loop-f
invariant-loop-f l = (l.t.count ≤ 8) × (l.t.known ≡ true) × (length l.t.list ≡ 8)
    × (take l.t.count l.t.list ≡ take 8 (map (strip_of l.driver) (keep on_surface (take l.f-index l.faders))))
