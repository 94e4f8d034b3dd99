-- `lookup::has_bank` meets its contract. Assumes nothing.
use Rattle.std.specs.Prelude.{◌≡◌, ℕ, Bool, true, false, List, ltb, length, filter, refl}
use Rattle.std.specs.List.{slice_get, range_with_len}
use Rattle.std.specs.Option.{is_some}
use Rattle.std.proofs.Common.{rules, tests, arith, sym, ap, ◌∙◌, ltb-true, ltb-false}
use Rattle.std.proofs.lemmas.Iterator.{YieldsList-from_range}
use Rattle.std.proofs.lemmas.Iterator.Consumers.{YieldsList-from_filter, nth_from_yields_List}
use Rattle.std.proofs.lemmas.List.Sums.{length-filter}
use Rattle.std.proofs.lemmas.Option.{slice_get-get_or, slice_get_past}
use Rattle.std.proofs.lemmas.Iterator.Adapters.{option_map_id}
use Rattle.base.proofs.StdLaws.{count_by-range}
use Rattle.profile.specs.Profile.{records, is_kind, kind_count}
use Rattle.lookup.proofs.has_bank.Goals as goal

is_there : (l : List ℕ) (k : ℕ) → is_some (slice_get l k) ≡ ltb k (length l)
is_there l k = go (ltb k (length l)) refl
  where
    go : (b : Bool) → ltb k (length l) ≡ b → is_some (slice_get l k) ≡ b
    go true e = ap is_some (slice_get-get_or l k 0 (ltb-true _ _ e))
    go false e = ap is_some (slice_get_past l k (ltb-false _ _ e))

pub returns : goal.returns
unfolding kind_count
returns c =
    let s = c.args.profile.now in
    let e = nth_from_yields_List c.nth.result _ _ c.nth.ensures.ran
    (YieldsList-from_filter _ (is_kind s 1) (YieldsList-from_range 0 (records s) (records s) (cc) (omega arith)) c.filter.ensures.closure (λ x b q k. search (rules, tests))) in
    c.is_some.ensures
    ∙ ap is_some (sym (option_map_id c.nth.result) ∙ e)
    ∙ is_there (filter (is_kind s 1) (range_with_len 0 (records s))) c.args.bank
    ∙ ap (ltb c.args.bank) (length-filter (is_kind s 1) (range_with_len 0 (records s)) ∙ count_by-range (is_kind s 1) (records s))
