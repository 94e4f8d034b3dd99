-- Number 8, "session not well shaped": document 01's list, item by item. Definitions only.
use Rattle.std.specs.Prelude.{ℕ, List, [], ◌∷◌, Bool, ◌&&◌, ◌||◌, not, eqb, leb, ltb, take}
use Rattle.base.specs.Range.{every}
use Rattle.base.specs.Keyed.{all_of, no_twice}
use Rattle.profile.specs.Profile.{bank_count}
use Rattle.lookup.specs.Lookup.{dest_at, same_dest}
use Rattle.session.specs.Session.{Turn, seen_line, low_channel, same_channel, seen_turns, is_encoder, same_turn, seen_silenced, targets_of, good_strip, same_number}
use Rattle.session.specs.declared.Session.{Session}
use Rattle.session.specs.declared.Line.{Line}
use Rattle.session.specs.declared.Strips.{Strips}
use Rattle.session.specs.declared.Turns.{Turns}
use Rattle.session.specs.declared.Silenced.{Silenced}
use Rattle.session.specs.declared.Flash.{Flash}
use Rattle.definition.specs.Faders.{in_range}

-- ── the line: "counts within capacities (16 channels ..", "channels at most 15", "no key twice" ──

unfoldable pub shaped_line : Line → Bool
shaped_line l = every (leb l.count 16 ∷ all_of low_channel (seen_line l) ∷ no_twice same_channel (seen_line l) ∷ [])

-- ── live lists: "8 live faders a bank", "live numbers 1 to 8, live drivers at most 15". One that is not known is passed over ──

unfoldable pub shaped_strips : Strips → Bool
shaped_strips s =
    not s.known
    || every (leb s.count 8 ∷ all_of good_strip (take s.count s.list) ∷ no_twice same_number (take s.count s.list) ∷ [])

-- ── sums: "waiting encoder destinations taken from the profile, sums as in 12": a sum names a record of the profile that is an encoder's ──

abbrev pub good_turn : Turn → Bool
good_turn e = in_range e.sum

-- two records wire their encoders to one destination
abbrev pub same_wire : List ℕ → ℕ → ℕ → Bool
same_wire p j k = same_dest (dest_at p j) (dest_at p k)

unfoldable pub shaped_turns : List ℕ → Turns → Bool
shaped_turns p t =
    every
    (leb t.count 136
    ∷ all_of (is_encoder p) (take t.count t.records)
    ∷ all_of good_turn (seen_turns p t)
    ∷ no_twice same_turn (seen_turns p t)
    ∷ [])

-- ── silenced levels: "256 targets", "no key twice" ──

unfoldable pub shaped_silenced : Silenced → Bool
shaped_silenced s = leb s.count 256 && no_twice eqb (targets_of (seen_silenced s))

-- ── the flash: "flash row and column at most 7, base 0 or 8, 1 to 6 phases sent" ──

unfoldable pub shaped_flash : Flash → Bool
shaped_flash f =
    not f.on
    || every
    (leb f.row 7
    ∷ leb f.column 7
    ∷ (eqb f.base 0 || eqb f.base 8)
    ∷ leb 1 f.sent
    ∷ leb f.sent 6
    ∷ [])

-- ── all of it: "bank below bank count" first ──

unfoldable pub well_shaped : List ℕ → Session → Bool
well_shaped p s =
    every
    (ltb s.bank (bank_count p)
    ∷ shaped_line s.line
    ∷ all_of shaped_strips s.live.banks
    ∷ shaped_turns p s.turns
    ∷ shaped_silenced s.silenced
    ∷ shaped_flash s.lamps.flash
    ∷ [])
