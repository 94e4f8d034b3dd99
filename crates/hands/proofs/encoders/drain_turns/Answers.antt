use Rattle.std.proofs.Common.{rules, ◌≡◌, refl, sym, ◌∙◌, take, to_z, of_z}
use Rattle.std.specs.Int.{w32}
use Rattle.std.specs.Iterator.Adapters.{zip_first, zip_second}
use Rattle.std.specs.Slice.Iter.{iter_rest}
use Rattle.std.proofs.lemmas.Slice.Zip.{Zip-more, either_empty_from_Zip}
use Rattle.hands.proofs.Laws.{one_nudge, its_encoder, all_nudged}
use Rattle.hands.proofs.encoders.drain_turns.Goals as goal

pub loop-k-init : goal.loop-k-init
loop-k-init c =
    let t = c.args.turns.now in
    let ks : iter_rest (zip_first c.into_iter-k-iterator.result) ≡ take t.count t.records = search rules in
    let ns : iter_rest (zip_second c.into_iter-k-iterator.result) ≡ take t.count t.sums = search rules in
    (rw ks c.requires.records_value, rw (ks, ns) refl)

pub apply_nudge-requires : goal.apply_nudge-requires
apply_nudge-requires c =
    let more = Zip-more c.loop-k.k-iterator c.next.new.self _ _ c.in-Some.is c.next.ensures.steps in
    (its_encoder _ _ _ (rw more.0 at c.loop-k.invariant.0)).0

pub loop-k-preserved : goal.loop-k-preserved
loop-k-preserved c =
    let more = Zip-more c.loop-k.k-iterator c.next.new.self _ _ c.in-Some.is c.next.ensures.steps in
    let z : to_z w32 (of_z w32 c.in-Some.sum.now) ≡ c.in-Some.sum.now = search rules in (
      (its_encoder _ _ _ (rw more.0 at c.loop-k.invariant.0)).1,
      one_nudge _ _ _ _ _ _ _ c.apply_nudge.ensures ∙ rw z (rw (more.0, more.1) at c.loop-k.invariant.1),
    )

pub returns : goal.returns
returns c =
    sym (all_nudged _ _ _ _ (either_empty_from_Zip c.loop-k.k-iterator c.next.new.self _ c.in-None.is c.next.ensures.steps))
    ∙ c.loop-k.invariant.1
