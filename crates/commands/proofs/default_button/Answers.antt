use Rattle.std.proofs.Common.{rules, ◌≡◌, true, Some}
use Rattle.lookup.specs.Lookup.{named, or_absent}
use Rattle.lookup.proofs.NamedLaws.{its_name, is_there, or_absent_is}
use Rattle.drivers.specs.Talk.{next}
use Rattle.definition.specs.Rig.{bank_driver, first_target}
use Rattle.definition.specs.Buttons.{default_button}
use Rattle.rig.specs.Seen.{rig_in}
use Rattle.commands.proofs.default_button.Goals as goal

pub returns : goal.returns
unfolding default_button next
returns c =
    let r = rig_in c.args.here.now in
    let d : Some c.in_ok-driver.driver ≡ named (bank_driver r.here) = search rules in
    let e : Some c.in_ok-command.command ≡ named (r.button c.in_ok-driver.driver c.args.kind) = search rules in
    let f : c.unwrap_or-target.result ≡ or_absent (first_target r.here c.in_ok-driver.driver 16) = search (rules, or_absent_is) in
    let ok : c.open.result ≡ true = search rules in
    rw (is_there _ _ d, ← its_name _ _ d, ← c.open.ensures, ok, is_there _ _ e, ← its_name _ _ e, f)
