use Rattle.std.proofs.Common.{◌≡◌, ◌∙◌, ◌<◌, ◌≤◌, true, sym, length, position, None, Option, ℕ, arith}
use Rattle.base.specs.Keyed.{at}
use Rattle.base.proofs.KeyedLaws as laws
use Rattle.session.proofs.Laws.{seen_roomy}
use Rattle.session.proofs.SearchLaws.{place-in, no-place-in}
use Rattle.session.specs.Session.{is_channel, move_of, no_move, place_move, has_place, seen_line}
use Rattle.session.specs.declared.Line.{Line}
use Rattle.session.proofs.Line.place.Goals as goal

-- where no move of the channel waits, there is a place behind the others
free : (line : Line) (channel : ℕ) (r : Option ℕ) → length line.list ≡ 16 → line.count ≤ 16 → has_place channel (seen_line line) ≡ true →
    r ≡ position (is_channel channel) (seen_line line) → r ≡ None → (line.count ≡ at (is_channel channel) (seen_line line)) × (line.count < 16)
unfolding has_place
free line channel r l few room e f =
    let w = no-place-in (is_channel channel) line.list line.count (omega arith) (sym e ∙ f) in
    (w, seen_roomy (is_channel channel) no_move line.list line.count line.count 16 l few w (omega arith) room)

pub bounds-self-self : goal.bounds-self-self
bounds-self-self c = (free c.args.self.now c.args.channel _ (search laws.long) c.requires.count_bound c.requires.room c.find.ensures c.in-None.is).1

pub returns-in-None-clause-upper_bound : goal.returns-in-None-clause-upper_bound
returns-in-None-clause-upper_bound c =
    let w = free c.args.self.now c.args.channel _ (search laws.long) c.requires.count_bound c.requires.room c.find.ensures c.in-None.is in
    omega (arith, w.1)

pub returns-in-Some-clause-line_after : goal.returns-in-Some-clause-line_after
unfolding place_move
returns-in-Some-clause-line_after c =
    let s = c.args.self.now in
    let l : length s.list ≡ 16 = search laws.long in
    let m = move_of c.args.channel c.args.level in
    let p = place-in (is_channel c.args.channel) s.list s.count c.in-Some.i (omega arith) (sym c.find.ensures ∙ c.in-Some.is) in
    laws.change_in (is_channel c.args.channel) no_move s.list s.count c.in-Some.i p.0 (λ z. m) m (omega arith) p.1

pub returns-in-None-clause-line_after : goal.returns-in-None-clause-line_after
unfolding place_move
returns-in-None-clause-line_after c =
    let s = c.args.self.now in
    let l : length s.list ≡ 16 = search laws.long in
    let m = move_of c.args.channel c.args.level in
    let w = free s c.args.channel _ l c.requires.count_bound c.requires.room c.find.ensures c.in-None.is in
    laws.change_out (is_channel c.args.channel) no_move s.list s.count s.count w.0 (λ z. m) m (omega arith) (omega (arith, w.1))
