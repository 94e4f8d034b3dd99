use Rattle.after.proofs.Laws.{fades_within, fades_ignored, fades_held, fades_taken}
use Rattle.after.proofs.faded.Goals as goal

pub returns-in-Ignored : goal.returns-in-Ignored
returns-in-Ignored c =
    let s = c.args.session.now in
    rw c.in-Ignored.is (record { fades = fades_ignored s _ c.args.k c.args.channel c.args.value; keeps_places = fades_within s _ _ _ _ c.requires.count_bound })

pub returns-in-Held : goal.returns-in-Held
returns-in-Held c =
    let s = c.args.session.now in
    rw c.in-Held.is (record { fades = fades_held s _ c.args.k c.args.channel c.args.value _ c.put.ensures; keeps_places = fades_within s _ _ _ _ c.requires.count_bound })

pub returns-in-Taken : goal.returns-in-Taken
returns-in-Taken c =
    let s = c.args.session.now in
    rw c.in-Taken.is (record { fades = fades_taken s _ c.args.k c.args.channel c.args.value _ _ _ c.put-in-Taken.ensures c.mark.ensures c.place.ensures.line_after; keeps_places = fades_within s _ _ _ _ c.place.ensures.upper_bound })
