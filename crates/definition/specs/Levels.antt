-- What the bridge reads and writes of a destination: the section "drivers" of bridge.rs. Definitions only.
use Rattle.std.specs.Prelude.{ℕ, Bool, true, false, eqb, Float, None, Option, Some}
use Rattle.std.specs.Float.{binary64}
use Rattle.std.specs.Float.Ieee.{of_bits, le}
use Rattle.base.specs.Words.{absent}
use Rattle.base.specs.Choice.{pick}
use Rattle.float.specs.Leaf.{f0, normalise, range_of}
use Rattle.lookup.specs.declared.Destination.{Destination}
use Rattle.drivers.specs.Talk.{Act, got, ◌>>=◌, read_of, write_of}

abbrev pub normal : Destination → Option Float → Option Float
normal d (Some x) = Some (normalise d.low d.high x)
normal d None = None

-- `read`: the value as the fader sees it, the destination's range mapped back onto the full travel
unfoldable pub read : Destination → Act (Option Float)
read d = read_of d.driver d.target >>= λ l. got (normal d l)

-- `write`
unfoldable pub write : Destination → Float → Act Bool
write d value = write_of d.driver d.target (range_of d.low d.high value)

-- 0.5
abbrev pub half : Float
half = of_bits binary64 0x3fe0_0000_0000_0000

abbrev pub muted_at : Option Float → Option Bool
muted_at (Some x) = Some (le half x)
muted_at None = None

-- `read_mute`: muted from 0.5 on, where it can be read
unfoldable pub read_mute : Destination → Act (Option Bool)
read_mute d = read_of d.driver d.mute >>= λ l. got (muted_at l)

abbrev pub or_zero : Option Float → Float
or_zero (Some x) = x
or_zero None = f0

-- the target that silenced levels are kept by: "only the target counts, an absent one as 0"
abbrev pub kept_by : Destination → ℕ
kept_by d = pick (eqb d.target absent) 0 d.target

-- the destination has a mute parameter
abbrev pub has_mute : Destination → Bool
has_mute d = pick (eqb d.mute absent) false true
