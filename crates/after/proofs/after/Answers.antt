use Rattle.after.proofs.Laws.{lasts, lasts_within}
use Rattle.after.proofs.after.Goals as goal

pub returns : goal.returns
returns c =
    let x = c.args in
    let s = x.session.now in
    record {
      lasts = lasts s x.at x.left.now x.lamps x.silenced.now x.opened _ _ _ _ _ x.time c.at_after-session.ensures c.live_after.ensures.banks_value (rw c.is_some.ensures at c.marks_after.ensures) c.line_after.ensures.result_value c.turns_after.ensures;
      keeps_places = lasts_within s x.at x.left.now x.lamps x.silenced.now x.opened _ _ _ _ _ c.requires.count_bound_2 c.line_after.ensures.count_bound c.live_after.ensures.few_after c.turns_after.ensures;
    }
