-- The scenes of a bank, among its records. Assumes nothing.
use Rattle.std.specs.Prelude.{ℕ, ◌≡◌, List, map, length, get_or, eqb, None, Some, Option, MatchOption}
use Rattle.std.specs.List.{slice_get, position as place_of}
use Rattle.std.specs.Option.{option_map, unwrap_or}
use Rattle.std.proofs.Common.{sym, ap, ◌∙◌, arith}
use Rattle.std.proofs.lemmas.List.{length-map}
use Rattle.std.proofs.lemmas.Option.{slice_get-map, unwrap_or-slice_get}
use Rattle.std.proofs.Math.ListN.{get_or-map}
use Rattle.base.specs.First.{first}
use Rattle.base.proofs.FirstLaws.{first_cong}
use Rattle.base.proofs.KeyedLaws.{other_none}
use Rattle.base.proofs.StdLaws.{position-first}
use Rattle.profile.specs.declared.record.Record.{Record}
use Rattle.profile.specs.Profile.{half_at}
use Rattle.lookup.specs.Lookup.{reach, scenes_of, position}
use Rattle.lookup.specs.Rows.{Row, row, row_of, of, rows_of}
use Rattle.lookup.proofs.Rows.{gather_rows}

abbrev name_in : Row → ℕ
name_in r = half_at r.profile r.k 4

names : (s : List ℕ) (b : ℕ) → map name_in (rows_of s 4 b) ≡ scenes_of s b
unfolding scenes_of
names s b = gather_rows s (of 4 b) name_in (reach s 4)

pub scenes-counted : (s : List ℕ) (b : ℕ) → length (rows_of s 4 b) ≡ length (scenes_of s b)
scenes-counted s b = sym (length-map (rows_of s 4 b) name_in) ∙ ap length (names s b)

-- the n-th record is there with its name, or there is none
pub scene_named : (s : List ℕ) (b n x : ℕ) (r : Option Record) → option_map row_of r ≡ slice_get (rows_of s 4 b) n →
    MatchOption r (x ≡ 65535) (λ y. x ≡ half_at y.profile.now y.k 4) → x ≡ get_or (scenes_of s b) n 65535
scene_named s b n x r e h =
    go r h ∙ ap (λ o. unwrap_or (option_map name_in o) 65535) e ∙ ap (λ o. unwrap_or o 65535) (sym (slice_get-map name_in (rows_of s 4 b) n))
    ∙ unwrap_or-slice_get (map name_in (rows_of s 4 b)) n 65535 ∙ ap (λ l. get_or l n 65535) (names s b)
  where
    go : (r : Option Record) → MatchOption r (x ≡ 65535) (λ y. x ≡ half_at y.profile.now y.k 4) → x ≡ unwrap_or (option_map name_in (option_map row_of r)) 65535
    go (Some y) h = h
    go None h = h

-- the first record of a name has the first place of the name
pub scene_place : (s : List ℕ) (b name : ℕ) → place_of (λ r. eqb (half_at r.profile r.k 4) name) (rows_of s 4 b) ≡ position name (scenes_of s b)
unfolding position
scene_place s b name =
    let l = rows_of s 4 b in
    position-first (λ r. eqb (name_in r) name) (row s 0) l
    ∙ first_cong _ (λ i. eqb (get_or (map name_in l) i 65535) name) (length l)
    (λ k h. ap (λ x. eqb x name) (sym (get_or-map name_in l k (row s 0)) ∙ other_none (map name_in l) k (name_in (row s 0)) 65535 (omega (arith, length-map l name_in))))
    ∙ ap (λ m. first m (λ i. eqb (get_or (map name_in l) i 65535) name)) (sym (length-map l name_in))
    ∙ ap (λ m. first (length m) (λ i. eqb (get_or m i 65535) name)) (names s b)
