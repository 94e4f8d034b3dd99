-- `lookup::transports` meets its contract. Assumes nothing.
use Rattle.std.specs.Prelude.{◌≡◌, ◌≤◌, ◌+◌, ◌++◌, map, length}
use Rattle.lookup.specs.Lookup.{transports_of, merged}
use Rattle.lookup.proofs.TransportLaws.{button_in}
use Rattle.lookup.proofs.transports.Given as goal

-- with those that are still to come the list is the bank's own
abbrev pub invariant-loop-row : goal.invariant-loop-row
invariant-loop-row l = l.buttons ++ map button_in l.row-iterator ≡ transports_of l.profile l.bank

-- with those that are still to be placed the list is the whole, and each has room
abbrev pub invariant-loop-row-2 : goal.invariant-loop-row-2
invariant-loop-row-2 l =
    (merged (map button_in l.row-iterator) l.buttons ≡ merged (transports_of l.profile 255) (transports_of l.profile l.bank))
    × (length l.buttons + length l.row-iterator ≤ 32)
