-- `lookup::transport` meets its contract. Assumes nothing.
use Rattle.std.specs.Prelude.{◌≡◌}
use Rattle.std.specs.Option.{option_map}
use Rattle.std.proofs.Common.{rules, ◌∙◌}
use Rattle.lookup.specs.Lookup.{entry, command_at}
use Rattle.lookup.proofs.TransportLaws.{transport-is}
use Rattle.lookup.proofs.transport.Goals as goal

pub returns : goal.returns
returns c =
    let a = c.args in
    let e : c.map.result ≡ option_map (command_at a.profile.now) (entry a.profile.now 5 a.bank a.kind) = search rules in
    e ∙ transport-is a.profile.now a.bank a.kind
