-- The transport buttons of a part, among its records, and the first of a kind. Assumes nothing.
use Rattle.std.specs.Prelude.{ℕ, suc, ◌≡◌, ◌≤◌, ◌<◌, refl, List, [], ◌∷◌, map, filter, length, Bool, true, false, ◌&&◌, cond, None, Some, Option}
use Rattle.std.specs.List.{find}
use Rattle.std.specs.Option.{option_map}
use Rattle.std.proofs.Common.{sym, ap, ◌∙◌}
use Rattle.std.proofs.lemmas.List.{length-map}
use Rattle.base.specs.Range.{every}
use Rattle.lookup.specs.declared.Entry.{Entry}
use Rattle.base.specs.First.{first}
use Rattle.base.proofs.FirstLaws.{first_cong}
use Rattle.base.specs.Keyed.{find as find_of}
use Rattle.lookup.proofs.GatherLaws.{gather-length}
use Rattle.lookup.specs.Rows.{Row, row, rows, of, rows_of}
use Rattle.lookup.proofs.Rows.{gather_rows, find_rows}
use Rattle.profile.specs.Profile.{verdict}
use Rattle.lookup.proofs.LookupLaws.{reach-le}
use Rattle.lookup.proofs.FewTransports.{own_few}
use Rattle.base.proofs.KeyedLaws.{change_long}
use Rattle.lookup.specs.Lookup.{is_entry, reach, entry, entry_at, command_at, transports_of, of_kind, bound_by, transport_of, place}

abbrev pub button_in : Row → Entry
button_in r = entry_at r.profile r.k

-- the part's buttons, among its records
pub buttons : (s : List ℕ) (part : ℕ) → map button_in (rows_of s 5 part) ≡ transports_of s part
unfolding transports_of
buttons s part = gather_rows s (of 5 part) button_in (reach s 5)

pub buttons-length : (s : List ℕ) (part : ℕ) → length (rows_of s 5 part) ≡ length (transports_of s part)
buttons-length s part = sym (length-map (rows_of s 5 part) button_in) ∙ ap length (buttons s part)

-- an accepted profile has at most 16 of one part
pub few_buttons : (s : List ℕ) (part : ℕ) → verdict s ≡ 0 → part < 256 → length (transports_of s part) ≤ 16
unfolding transports_of
few_buttons s part ok h = rw gather-length (own_few s part (reach s 5) ok h (reach-le s 5))

-- to place one adds at most one
pub few_placed : (e : Entry) (l : List Entry) → length (place e l) ≤ suc (length l)
unfolding place
few_placed e l = change_long (of_kind e.kind) (λ x. e) e l

-- ── the first of its kind ──

-- among those that are asked for
find_among : (f : Entry → Bool) (q : Row → Bool) (xs : List Row) → find_of f (map button_in (filter q xs)) ≡ option_map button_in (find (λ r. q r && f (button_in r)) xs)
unfolding find_of
find_among f q [] = refl
find_among f q (x ∷ xs) = go (q x) (f (button_in x)) refl (find_among f q xs)
  where
    go : (a b : Bool) → f (button_in x) ≡ b → find_of f (map button_in (filter q xs)) ≡ option_map button_in (find (λ r. q r && f (button_in r)) xs) →
        find_of f (map button_in (cond a (x ∷ filter q xs) (filter q xs))) ≡ option_map button_in (cond (a && b) (Some x) (find (λ r. q r && f (button_in r)) xs))
    go true true e ih = rw e
    go true false e ih = rw e ih
    go false b e ih = ih

and_three : (a b c : Bool) → ((a && b) && c) ≡ every (a ∷ b ∷ c ∷ [])
unfolding every
and_three true b c = refl
and_three false b c = refl

runs : (s : List ℕ) (o : Option ℕ) → option_map (command_at s) o ≡ bound_by (option_map button_in (option_map (row s) o))
runs s (Some k) = refl
runs s None = refl

-- the first of its kind in the list is the first record of the part and the kind
pub transport-is : (s : List ℕ) (part kind : ℕ) → option_map (command_at s) (entry s 5 part kind) ≡ transport_of kind (transports_of s part)
unfolding entry transport_of
transport-is s part kind =
    let t : Row → Bool = λ r. of 5 part r && of_kind kind (button_in r) in
    ap (option_map (command_at s)) (first_cong (is_entry s 5 part kind) (λ k. t (row s k)) (reach s 5) (λ k l. sym (and_three _ _ _)))
    ∙ runs s (first (reach s 5) (λ k. t (row s k)))
    ∙ ap (λ o. bound_by (option_map button_in o)) (sym (find_rows s t (reach s 5)))
    ∙ ap bound_by (sym (find_among (of_kind kind) (of 5 part) (rows s 0 (reach s 5))))
    ∙ ap (λ l. bound_by (find_of (of_kind kind) l)) (buttons s part)
