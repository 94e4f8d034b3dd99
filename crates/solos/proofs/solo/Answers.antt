use Rattle.std.proofs.Common.{eq-eqb, ne_eqb}
use Rattle.definition.specs.Muting.{solo}
use Rattle.solos.proofs.Laws.{adds_over, solo_over_off, solo_over_on}
use Rattle.solos.proofs.solo.Goals.{then-lamps-fader, else-lamps-fader}
use Rattle.solos.proofs.solo.Goals as goal

pub turn_on-requires-clause-room : goal.turn_on-requires-clause-room
turn_on-requires-clause-room c =
    rw (← adds_over _ _ _ _ c.in-Some.ensures c.peers_of-peers.ensures _ _ (ne_eqb _ _ c.if-lamps-fader.false)) c.requires.room

pub returns-clause-line : goal.returns-clause-line
unfolding solo
returns-clause-line c =
    let are = c.peers_of-peers.ensures in
    elim c.if-lamps-fader.branch [
      | then-lamps-fader w ↦ rw (
        c.push_state.ensures,
        c.targets.ensures.seen,
        w.io-is,
        w.lamps-is,
        w.silenced-is,
        ← c.in-Some.ensures,
        eq-eqb _ _ w.if-lamps-fader.true,
        solo_over_off _ _ _ are,
        ← w.turn_off.ensures.line,
      )
      | else-lamps-fader w ↦ rw (
        c.push_state.ensures,
        c.targets.ensures.seen,
        w.io-is,
        w.lamps-is,
        w.silenced-is,
        ← c.in-Some.ensures,
        ne_eqb _ _ w.if-lamps-fader.false,
        solo_over_on _ _ _ are,
        ← w.turn_on.ensures.line,
      )
    ]
