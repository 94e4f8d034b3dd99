-- `run::all` meets its contract. Assumes nothing.
use Rattle.std.proofs.Common.{ℕ, ◌≤◌, ◌*◌, IfSome, Option, length, subst, sym, ◌∙◌, arith, rules}
use Rattle.std.proofs.lemmas.List.{take_rest}
use Rattle.definition.specs.Step.{seen}
use Rattle.bridge.proofs.ShapedLaws.{fresh-shaped}
use Rattle.printing.proofs.Puts.{put_as, put_two, put_none}
use Rattle.run.proofs.Laws.{start_so, last_so, next_so, end_so, none_is}
use Rattle.run.proofs.all.Goals as goal

pub loop-n-init : goal.loop-n-init
loop-n-init g c =
    let a = c.args in
    record {
      can_next = search rules;
      is_finite = search rules;
      within = search rules;
      size = search rules;
      shaped = rw c.fresh-session.ensures (fresh-shaped a.profile.now c.requires.verdict_value);
      more = length a.events.now;
      few = search rules;
      writes = λ w h. put_as (start_so a.profile.now _ _ _ a.events.now a.answers.now c.fresh-session.ensures (cc) (cc)) h;
    }

pub loop-n-preserved : goal.loop-n-preserved
loop-n-preserved g c =
    let i = c.loop-n.invariant in
    let s = c.in-Some.ensures.steps in
    let o = c.one-next.ensures in
    let left = c.loop-n.left.now in
    let m = next_so c.args.profile.now (seen c.args.profile.now c.loop-n.session) c.in-Some.n i.more c.loop-n.n-iterator.iter.rest.now c.in-Some.event.now
    c.next.new.self.iter.rest.now left s.0.1.0 (cc) s.0.1.2 i.few c.in-Some-used.used _ c.next.new.self.count _ (sym o.used_value ∙ c.in-Some-used.is) o.session_value (cc)
    (take_rest left (16 * c.in-Some-used.used)) in
    record {
      can_next = search rules;
      is_finite = search rules;
      within = search rules;
      size = search rules;
      shaped = o.still_shaped;
      more = m.0;
      few = m.1;
      writes = λ w h. i.writes w (put_as (rw (← s.1) m.2) (put_two o.out_after h));
    }

pub overflow_mul-left : goal.overflow_mul-left
overflow_mul-left g c =
    let bound : 16 * c.in-Some-used.used ≤ length c.loop-n.left.now = subst (λ (o : Option ℕ). IfSome o (λ m. 16 * m ≤ length c.loop-n.left.now)) c.in-Some-used.is c.one-next.ensures.used_in_bounds in
    record { fits = omega (arith, bound, c.loop-n.invariant.within, c.well_formed.1.1.0.0) }

-- an event that is not done is the last
pub returns-in_default : goal.returns-in_default
returns-in_default g c =
    let i = c.loop-n.invariant in
    let s = c.in-Some.ensures.steps in
    let o = c.one-next.ensures in
    i.writes _
    (put_as
    (rw (← s.1)
    (last_so _ _ c.in-Some.n i.more c.loop-n.n-iterator.iter.rest.now c.in-Some.event.now c.next.new.self.iter.rest.now c.loop-n.left.now
    s.0.1.0 (cc) s.0.1.2 i.few (sym o.used_value ∙ none_is _ c.in_default.not-Some)))
    o.out_after)

pub returns : goal.returns
returns g c = c.loop-n.invariant.writes _ (put_as (end_so _ _ _ _ _ _ c.in-None.ensures.steps.0.1.0) put_none)
