-- A solo over a table of peers, up to the lamps: the steps of the definition's `turn_off` and `turn_on`. Definitions only.
use Rattle.std.specs.Prelude.{ℕ, List, eqb, Option}
use Rattle.drivers.specs.Talk.{Act, got, next}
use Rattle.session.specs.Session.{SilencedLevel, targets_of, none_noted, solo_to}
use Rattle.session.specs.declared.Lamps.{Lamps}
use Rattle.definition.specs.Muting.{Soloed, solo_off, note_if, solo_on}
use Rattle.solos.specs.Peers.{soloed_as}
use Rattle.lookup.specs.declared.Destination.{Destination}

abbrev pub turned_off : (ℕ → Option Destination) → Lamps → List SilencedLevel → Act Soloed
turned_off of l s t = next (solo_off of l 16 s t) (λ k. got (soloed_as (solo_to 0 (none_noted l)) k))

abbrev pub turned_on : (ℕ → Option Destination) → ℕ → Lamps → List SilencedLevel → Act Soloed
turned_on of fader l s t =
    next (note_if (eqb l.soloed 0) of (targets_of s) l t) (λ n u. next (solo_on of fader 16 s u) (λ k. got (soloed_as (solo_to fader n) k)))
