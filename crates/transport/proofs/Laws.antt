-- A search among the players that were met, and the lamps one by one. Assumes nothing.
use Rattle.std.specs.Prelude.{◌≡◌, ◌+◌, ◌≤◌, ◌<◌, ℕ, List, [], ◌∷◌, Bool, true, false, cond, map, length, drop, get_or, Option, Some, find}
use Rattle.std.specs.Option.{option_map}
use Rattle.std.proofs.Common.{refl, add-one, drop_of_length-le}
use lib.Seq.{drop-cons}
use Rattle.base.specs.Choice.{pick}
use Rattle.base.specs.Keyed.{find as find_of}
use Rattle.protocol.specs.Protocol.{transport_note}
use Rattle.lookup.specs.declared.Command.{Command}
use Rattle.lookup.specs.declared.Entry.{Entry}
use Rattle.drivers.specs.Talk.{Talk, got}
use Rattle.definition.specs.Lamps.{Player as Known, is_player, lamp_for, push_bound}
use Rattle.transport.specs.declared.players.Player.{Player}
use Rattle.transport.specs.Known.{known_as}

abbrev pub said_by : Option Player → Option Bool
said_by o = option_map (λ p. p.there) o

abbrev pub known_to_say : Option Known → Option Bool
known_to_say o = option_map (λ p. p.there) o

-- the player that is found among those met says what the one says that the definition finds
pub answer_found : (c : Command) (l : List Player) → said_by (find (λ p. is_player c (known_as p)) l) ≡ known_to_say (find_of (is_player c) (map known_as l))
unfolding find_of
answer_found c [] = refl
answer_found c (p ∷ l) = go (is_player c (known_as p)) (answer_found c l)
  where
    go : (b : Bool) → said_by (find (λ p. is_player c (known_as p)) l) ≡ known_to_say (find_of (is_player c) (map known_as l)) →
        said_by (cond b (Some p) (find (λ p. is_player c (known_as p)) l)) ≡ known_to_say (pick b (Some (known_as p)) (find_of (is_player c) (map known_as l)))
    go true h = refl
    go false h = h

-- one button's lamp, and then those of the others
pub one_lamp : (es : List Entry) (i : ℕ) (d : Entry) (known more : List Known) (t u : Talk) → i < length es →
    got more u ≡ lamp_for (transport_note (get_or es i d).kind) (get_or es i d).command known t →
    push_bound (drop (i + 1) es) more u ≡ push_bound (drop i es) known t
unfolding push_bound
one_lamp es i d known more t u h e = rw (drop-cons es i d h, ← e, add-one)

-- no button is left
pub no_lamp : (es : List Entry) (i : ℕ) (known : List Known) (t : Talk) → length es ≤ i → push_bound (drop i es) known t ≡ t
unfolding push_bound
no_lamp es i known t h = rw (drop_of_length-le es {i = i} h)
