use Rattle.std.proofs.Common.{arith, sym, ap, ◌≡◌, length, Some, [], get_or, take, false, ◌&&◌, ltb, ltb-true, ◌∙◌, length-set, take_all}
use mathlib.Core.List.{map}
use Rattle.base.proofs.RangeLaws.{and_left, and_right}
use Rattle.base.specs.Keyed.{keep}
use Rattle.base.proofs.KeyedLaws as laws
use Rattle.drivers.specs.declared.LiveFader.{LiveFader}
use Rattle.session.proofs.Laws.{first_yes, first_no}
use Rattle.session.proofs.SessionLaws.{is_known}
use Rattle.session.specs.Session.{seen_strips, strips_or, strip_of, strips_of, on_surface}
use Rattle.session.proofs.Strips.handed_over.Goals as goal
use Rattle.session.proofs.Strips.handed_over.Goals.{then-on_surface-t, else-on_surface-t}

abbrev no_fader : LiveFader
no_fader = record { number = 0; target = 0; label = 0; group = 0; mute = 0 }

pub loop-f-init : goal.loop-f-init
unfolding seen_strips keep
loop-f-init c =
    let t = c.none-t.result in
    let l : length t.list ≡ 8 = search laws.long in
    let k = is_known t [] c.none-t.ensures.result_value in
    (c.none-t.ensures.count_bound, k, l, rw k at (ap strips_or c.none-t.ensures.result_value))

pub loop-f-preserved : goal.loop-f-preserved
loop-f-preserved c =
    let p = c.loop-f in
    let xs = c.args.faders.now in
    let f = c.on_surface in
    elim c.if-on_surface-t.branch [
      | then-on_surface-t w ↦
          let h = ltb-true p.t.count 8 (and_right f.result (ltb p.t.count 8) w.if-on_surface-t.true) in
          let g = sym f.ensures ∙ and_left f.result (ltb p.t.count 8) w.if-on_surface-t.true in
          let e = first_yes on_surface (strip_of _) no_fader 8 p.t.list xs p.t.count p.f-index p.invariant.2 p.invariant.0 p.invariant.3 h (omega arith) g in
          rw w.t-is (omega arith, p.invariant.1, simp length-set p.invariant.2, rw w.handed_over.ensures e)
      | else-on_surface-t w ↦
          let g : on_surface (get_or xs p.f-index no_fader) && ltb p.t.count 8 ≡ false = rw (← f.ensures) w.if-on_surface-t.false in
          let e = first_no on_surface (strip_of _) no_fader 8 p.t.list xs p.t.count p.f-index p.invariant.2 p.invariant.0 p.invariant.3 (omega arith) g in
          rw w.t-is (p.invariant.0, p.invariant.1, p.invariant.2, e)
    ]

pub returns-clause-result_value : goal.returns-clause-result_value
unfolding seen_strips strips_of
returns-clause-result_value c =
    let p = c.loop-f in
    let xs = c.args.faders.now in
    let q : take p.f-index xs ≡ xs = take_all p.f-index xs (omega arith) in
    rw (p.invariant.1) (ap Some (p.invariant.3 ∙ ap (λ l. take 8 (map (strip_of c.args.driver) (keep on_surface l))) q))
