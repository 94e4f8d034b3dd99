use Rattle.std.proofs.Common.{rules, ◌≡◌, ◌∙◌, ap, take, find}
use Rattle.base.specs.Keyed.{find as find_of}
use Rattle.definition.specs.Lamps.{is_player}
use Rattle.transport.specs.Known.{known_as}
use Rattle.transport.proofs.Laws.{said_by, known_to_say, answer_found}
use Rattle.transport.proofs.players.Players.answer.Goals as goal

pub returns : goal.returns
returns c =
    let l = take c.self.inside.count c.self.inside.list in
    let e : c.map.result ≡ said_by (find (λ p. is_player c.args.c (known_as p)) l) = search rules in
    e ∙ answer_found c.args.c l ∙ ap (λ s. known_to_say (find_of (is_player c.args.c) s)) c.self.view_is
