use Rattle.std.proofs.Common.{◌∙◌, ap, take, position, is_some, not, Bool, true, false, refl, ◌≡◌}
use Rattle.lookup.specs.Lookup.{dest_at}
use Rattle.session.specs.Session.{wires_to}
use Rattle.session.proofs.SessionLaws.{each_in_file}
use Rattle.shape.proofs.Laws.{all-take, none-found}
use Rattle.shape.proofs.new_destination.Goals as goal

flip : {a b : Bool} → a ≡ not b → b ≡ not a
flip {a} {b} e = rw e (go b)
  where
    go : (b : Bool) → b ≡ not (not b)
    go true = refl
    go false = refl

pub destination_at-d-requires : goal.destination_at-d-requires
destination_at-d-requires c = rw c.from.ensures (each_in_file _ _ c.requires.records_value _ 0 c.requires.i_in_bounds)

pub find_turn-requires : goal.find_turn-requires
find_turn-requires c = all-take _ c.args.records.now c.args.i c.requires.records_value

pub returns : goal.returns
returns c =
    let xs = take c.args.i c.args.records.now in
    let e = c.find_turn.ensures ∙ ap (λ d. position (wires_to c.args.profile.now d) xs) (c.destination_at-d.ensures ∙ ap (dest_at _) c.from.ensures) in
    flip (c.is_none.ensures) ∙ ap (λ r. not (is_some r)) e ∙ none-found _ xs
