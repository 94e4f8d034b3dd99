-- A button that takes the place of the first of its kind, or comes behind. Assumes nothing.
use Rattle.std.specs.Prelude.{ℕ, ◌≡◌, ◌≤◌, ◌<◌, refl, Bool, true, false, List, [], ◌∷◌, ◌++◌, length, take, set, cond, None, Some}
use Rattle.std.specs.List.{position}
use Rattle.std.proofs.Common.{sym, ap, ◌∙◌, ltb-true, ltb-false, length-take-le, arith}
use Rattle.std.proofs.lemmas.Option.{cond_some}
use Rattle.base.specs.Keyed.{at}
use Rattle.base.proofs.KeyedLaws as laws
use Rattle.base.proofs.StdLaws.{position-at}
use Rattle.lookup.specs.declared.Entry.{Entry}
use Rattle.lookup.specs.Lookup.{of_kind, place}

-- `put` found one at i of the first n of an array
pub put_in : (b : Entry) (list now : List Entry) (n i : ℕ) → take n list ≡ now → n ≤ length list → position (of_kind b.kind) now ≡ Some i → take n (set list i b) ≡ place b now
unfolding place
put_in b list now n i is l e =
    let w = cond_some _ _ _ (sym (position-at (of_kind b.kind) now) ∙ e) in
    let here : i ≡ at (of_kind b.kind) (take n list) = rw (is, w.1) in
    let inside : i < n = omega (arith, ltb-true _ _ w.0, w.1, ap length is, length-take-le n list l) in
    laws.change_in (of_kind b.kind) b list n i here (λ x. b) b l inside ∙ rw is

none-there : (t : Bool) (k : ℕ) → cond t (Some k) None ≡ None → t ≡ false
none-there true k e = cc
none-there false k e = refl

-- or none
pub put_out : (b : Entry) (now : List Entry) → position (of_kind b.kind) now ≡ None → now ++ (b ∷ []) ≡ place b now
unfolding place
put_out b now e =
    let w = none-there _ _ (sym (position-at (of_kind b.kind) now) ∙ e) in
    sym (laws.change-end (of_kind b.kind) b (λ x. b) b now (ltb-false _ _ w))
