-- What is known of what an accepted profile's lookups find. Assumes nothing.
use Rattle.std.specs.Prelude.{ℕ, ◌≤◌, ◌<◌, ◌≡◌, refl, List, ◌⊎◌, None, Option, Some}
use Rattle.std.proofs.Common.{inr, arith}
use borrow.Author.Tests.{le-ltb, eqb-true}
use Rattle.base.proofs.RangeLaws.{every-at}
use Rattle.base.specs.First.{first}
use Rattle.base.proofs.FirstLaws.{until-behind}
use Rattle.profile.specs.Profile.{records, byte_at, verdict}
use Rattle.profile.proofs.FieldLaws.{bank_at_lem}
use Rattle.profile.proofs.Accepted.{accepted, kinds_rise}
use Rattle.lookup.specs.Lookup.{is_past, reach, entry, half_of, device_of, is_entry}
use Rattle.lookup.proofs.FirstMore.{first_short}
use Rattle.lookup.proofs.LookupLaws.{reach-le, entry-is}

-- ── no lookup ends too early ──

module _ (s : List ℕ) (ok : verdict s ≡ 0) where
  -- "Kinds never fall through the file": every record of a kind comes before the first of a higher one
  pub in_reach : (kind k : ℕ) → k < records s → byte_at s k 0 ≡ kind → k < reach s kind
  unfolding reach
  in_reach kind k l e =
      until-behind (is_past s kind) (records s) k l (λ j h. le-ltb kind (byte_at s j 0) (omega (arith, e, kinds_rise s ok j k h l)))

  -- so what is found is the first such record of the whole file
  pub entry_whole : (kind part number : ℕ) → entry s kind part number ≡ first (records s) (is_entry s kind part number)
  unfolding entry
  entry_whole kind part number =
      first_short (is_entry s kind part number) (reach s kind) (records s) (reach-le s kind)
      (λ k l e. in_reach kind k l (eqb-true (byte_at s k 0) kind (every-at _ 0 e)))

-- ── banks ──

module _ (s : List ℕ) (ok : verdict s ≡ 0) where
  -- a bank has a driver of 0 to 15 or none
  device_found : (b : ℕ) (p : Option ℕ) → entry s 1 b 0 ≡ p → (half_of s 6 65535 p ≤ 15) ⊎ (half_of s 6 65535 p ≡ 65535)
  device_found b (Some k) q = let w = entry-is s 1 b 0 k q in (bank_at_lem s (accepted s ok).fields k w.in_file w.kind_is).driver
  device_found b None q = inr refl

  pub known-device : (b : ℕ) → (device_of s b ≤ 15) ⊎ (device_of s b ≡ 65535)
  known-device b = device_found b (entry s 1 b 0) refl
