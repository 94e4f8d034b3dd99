use Rattle.std.proofs.Common.{◌≡◌, ◌∙◌, ◌<◌, ◌+ℤ◌, ap, sym, take, length, position, None, Option, ℕ, ℤ, List, arith, get_or, pos, w32, rules}
use mir.ValLaws.{to_z-of_z}
use Rattle.base.specs.Keyed.{at}
use Rattle.base.proofs.KeyedLaws as laws
use Rattle.lookup.specs.Lookup.{dest_at}
use Rattle.lookup.specs.declared.Destination.{Destination}
use Rattle.session.specs.Session.{wires_to, RoomToTurn}
use Rattle.session.proofs.SearchLaws.{place-in, no-place-in}
use Rattle.session.specs.declared.Turns.{Turns}
use Rattle.session.proofs.Laws.{sum_there, at-end, sum_behind, encoders_behind}
use Rattle.session.proofs.Turns.turn.Goals as goal

-- the search, said of the record's destination
told : (p ks xs : List ℕ) (k : ℕ) (d : Destination) (r s : Option ℕ) → d ≡ dest_at p k → xs ≡ ks → r ≡ position (wires_to p d) xs → r ≡ s →
    position (wires_to p (dest_at p k)) ks ≡ s
told p ks xs k d r s e x f g = ap (position (wires_to p (dest_at p k))) (sym x) ∙ ap (λ z. position (wires_to p z) xs) (sym e) ∙ sym f ∙ g

-- where the destination has no sum, there is a place behind the others
free : (p : List ℕ) (t : Turns) (xs : List ℕ) (k : ℕ) (delta : ℤ) (d : Destination) (r : Option ℕ) → length t.records ≡ 136 → length t.sums ≡ 136 →
    RoomToTurn p t.records t.sums t.count k delta → d ≡ dest_at p k → xs ≡ take t.count t.records → r ≡ position (wires_to p d) xs → r ≡ None →
    (t.count ≡ at (wires_to p (dest_at p k)) (take t.count t.records)) × (t.count < 136)
free p t xs k delta d r lk ln room e x f g =
    let w = no-place-in (wires_to p (dest_at p k)) t.records t.count (omega (arith, room.count)) (told p (take t.count t.records) xs k d r None e x f g) in
    (w, (at-end p t.records t.sums t.count k t.count delta lk ln room w (omega arith)).1)

pub bounds-self-self : goal.bounds-self-self
bounds-self-self c =
    (free _ c.args.self.now _ _ _ _ _ (search laws.long) (search laws.long) c.requires (c.destination_at-d.ensures ∙ ap (dest_at _) c.from.ensures) c.records.ensures c.find_turn.ensures c.in-None.is).1

pub bounds-self-self-in-None : goal.bounds-self-self-in-None
bounds-self-self-in-None c =
    (free _ c.args.self.now _ _ _ _ _ (search laws.long) (search laws.long) c.requires (c.destination_at-d.ensures ∙ ap (dest_at _) c.from.ensures) c.records.ensures c.find_turn.ensures c.in-None.is).1

pub returns-in-Some-clause-sums_after : goal.returns-in-Some-clause-sums_after
returns-in-Some-clause-sums_after c =
    let p = c.args.profile.now in
    let t = c.args.self.now in
    let lk : length t.records ≡ 136 = search laws.long in
    let ln : length t.sums ≡ 136 = search laws.long in
    let w = place-in (wires_to p (dest_at p c.args.k)) t.records t.count c.in-Some.i (omega (arith, c.requires.count))
    (told p (take t.count t.records) _ c.args.k _ _ _ (c.destination_at-d.ensures ∙ ap (dest_at _) c.from.ensures) c.records.ensures c.find_turn.ensures c.in-Some.is) in
    let v = get_or t.sums c.in-Some.i (pos 0) in
    rw (to_z-of_z w32 v (search rules), to_z-of_z w32 c.args.delta c.ranges.delta, to_z-of_z w32 (v +ℤ c.args.delta) (c.requires.sums c.in-Some.i w.1))
    (sum_there p t.records t.sums t.count c.args.k c.in-Some.i c.args.delta lk ln c.requires w.0 w.1)

pub returns-in-None-clause-sums_after : goal.returns-in-None-clause-sums_after
returns-in-None-clause-sums_after c =
    let t = c.args.self.now in
    let lk : length t.records ≡ 136 = search laws.long in
    let ln : length t.sums ≡ 136 = search laws.long in
    let w = free _ t _ _ _ _ _ lk ln c.requires (c.destination_at-d.ensures ∙ ap (dest_at _) c.from.ensures) c.records.ensures c.find_turn.ensures c.in-None.is in
    rw (to_z-of_z w32 c.args.delta c.ranges.delta)
    (sum_behind c.args.profile.now t.records t.sums t.count c.args.k t.count c.args.delta lk ln c.requires w.0 (omega arith))

pub returns-in-None-clause-records_after : goal.returns-in-None-clause-records_after
returns-in-None-clause-records_after c =
    let t = c.args.self.now in
    let lk : length t.records ≡ 136 = search laws.long in
    let ln : length t.sums ≡ 136 = search laws.long in
    let w = free _ t _ _ _ _ _ lk ln c.requires (c.destination_at-d.ensures ∙ ap (dest_at _) c.from.ensures) c.records.ensures c.find_turn.ensures c.in-None.is in
    encoders_behind c.args.profile.now t.records t.sums t.count c.args.k t.count c.args.delta lk ln c.requires w.0 (omega arith)

pub returns-in-None-clause-upper_bound : goal.returns-in-None-clause-upper_bound
returns-in-None-clause-upper_bound c =
    let w = free _ c.args.self.now _ _ _ _ _ (search laws.long) (search laws.long) c.requires (c.destination_at-d.ensures ∙ ap (dest_at _) c.from.ensures) c.records.ensures c.find_turn.ensures c.in-None.is in
    omega (arith, w.1)
