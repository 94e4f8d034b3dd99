-- How far a lookup goes, and what is known of a record that it finds. Assumes nothing.
use Rattle.std.specs.Prelude.{ℕ, ◌≤◌, ◌<◌, ◌≡◌, refl, true, false, List, None, Option, Some}
use Rattle.std.proofs.Common.{sym, ◌∙◌, lt_of_lt_of_le, eqb-true, eq-eqb}
use Rattle.base.proofs.RangeLaws.{every-at}
use Rattle.base.specs.First.{first, or_else}
use Rattle.base.proofs.FirstLaws.{first-at, until-le, until_here, until_on}
use Rattle.profile.specs.Profile.{records, byte_at, is_kind}
use Rattle.lookup.specs.Lookup.{is_entry, is_past, reach, entry, found_at, control_of, encoder_of, precede, encoder_place}

-- ── how far a lookup goes ──

-- no further than the file
pub reach-le : (s : List ℕ) (kind : ℕ) → reach s kind ≤ records s
unfolding reach
reach-le s kind = until-le (is_past s kind) (records s)

-- a walk that has met no record of a higher kind before k: record k is one, or the walk goes on behind k
module _ (s : List ℕ) (kind k : ℕ) (none : first k (is_past s kind) ≡ None) where
  pub reach_here : is_past s kind k ≡ true → k < records s → reach s kind ≡ k
  unfolding reach
  reach_here = until_here (is_past s kind) (records s) k none

  pub reach_on : is_past s kind k ≡ false → k < records s → k < reach s kind
  unfolding reach
  reach_on q l = until_on (is_past s kind) (records s) k l none q

-- ── what is found ──

-- a record that is found is in the file, and it is what was looked for
pub record Is (s : List ℕ) (kind part number k : ℕ) : Type 0 where
  pub in_file : k < records s
  pub kind_is : byte_at s k 0 ≡ kind
  pub part_is : byte_at s k 1 ≡ part
  pub number_is : byte_at s k 2 ≡ number

pub entry-is : (s : List ℕ) (kind part number k : ℕ) → entry s kind part number ≡ Some k → Is s kind part number k
unfolding entry
entry-is s kind part number k e =
    let w = first-at (is_entry s kind part number) (reach s kind) k e in
    record {
      in_file = lt_of_lt_of_le w.0 (reach-le s kind);
      kind_is = eqb-true (byte_at s k 0) kind (every-at _ 0 w.1);
      part_is = eqb-true (byte_at s k 1) part (every-at _ 1 w.1);
      number_is = eqb-true (byte_at s k 2) number (every-at _ 2 w.1);
    }

-- ── the encoder in reach ──

found_or : (s : List ℕ) (f g : Option ℕ) → found_at s (or_else f g) ≡ precede (found_at s f) (found_at s g)
found_or s (Some k) g = refl
found_or s None g = refl

-- its record has its destination
pub encoder_place_found : (s : List ℕ) (bank number : ℕ) → found_at s (encoder_place s bank number) ≡ precede (encoder_of s 255 number) (encoder_of s bank number)
unfolding encoder_place control_of
encoder_place_found s bank number = found_or s (entry s 3 255 number) (entry s 3 bank number)

one_of : (s : List ℕ) (bank number k : ℕ) (f : Option ℕ) → f ≡ entry s 3 255 number → or_else f (entry s 3 bank number) ≡ Some k → (k < records s) × (is_kind s 3 k ≡ true)
one_of s bank number k (Some j) e q =
    let w = entry-is s 3 255 number k (sym e ∙ q) in (w.in_file, eq-eqb (byte_at s k 0) 3 w.kind_is)
one_of s bank number k None e q =
    let w = entry-is s 3 bank number k q in (w.in_file, eq-eqb (byte_at s k 0) 3 w.kind_is)

-- it is in the file, and an encoder's
pub encoder-place-is : (s : List ℕ) (bank number k : ℕ) → encoder_place s bank number ≡ Some k → (k < records s) × (is_kind s 3 k ≡ true)
unfolding encoder_place
encoder-place-is s bank number k q = one_of s bank number k (entry s 3 255 number) refl q
