use Rattle.std.proofs.Common.{◌≡◌, ◌∙◌, sym, ap, take, length, true, false, refl}
use Rattle.std.specs.List.{list_all}
use Rattle.base.specs.Keyed.{no_twice}
use Rattle.base.proofs.KeyedLaws as laws
use Rattle.session.specs.Session.{is_encoder}
use Rattle.definition.specs.Faders.{in_range}
use Rattle.definition.specs.Shape.{same_wire}
use Rattle.shape.proofs.Laws.{all_by_list, sums_tested}
use Rattle.shape.proofs.shaped_turns.Goals as goal

pub returns-then-sums_in_range : goal.returns-then-sums_in_range
returns-then-sums_in_range c =
    let p = c.args.profile.now in
    let t = c.args.turns.now in
    let lk : length t.records ≡ 136 = search laws.long in
    let ln : length t.sums ≡ 136 = search laws.long in
    let e = sym (all_by_list (is_encoder p) (take t.count t.records)) ∙ ap (list_all (is_encoder p)) (sym c.records-records.ensures) ∙ sym c.all_encoders.ensures ∙ c.if-not-all_encoders.false in
    let f = sym c.if-sums_in_range.true ∙ c.sums_in_range.ensures ∙ ap (list_all in_range) c.sums.ensures ∙ all_by_list in_range (take t.count t.sums) in
    let g = c.no_destination_twice.ensures ∙ ap (no_twice (same_wire p)) c.records-records.ensures in
    sums_tested p t true c.no_destination_twice.result lk ln c.if-turns-gt136.false e f g

pub returns-else-sums_in_range : goal.returns-else-sums_in_range
returns-else-sums_in_range c =
    let p = c.args.profile.now in
    let t = c.args.turns.now in
    let lk : length t.records ≡ 136 = search laws.long in
    let ln : length t.sums ≡ 136 = search laws.long in
    let e = sym (all_by_list (is_encoder p) (take t.count t.records)) ∙ ap (list_all (is_encoder p)) (sym c.records-records.ensures) ∙ sym c.all_encoders.ensures ∙ c.if-not-all_encoders.false in
    let f = sym c.if-sums_in_range.false ∙ c.sums_in_range.ensures ∙ ap (list_all in_range) c.sums.ensures ∙ all_by_list in_range (take t.count t.sums) in
    c.if-sums_in_range.false ∙ sums_tested p t false _ lk ln c.if-turns-gt136.false e f refl
