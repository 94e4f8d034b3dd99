-- The scenes that the current device offers, as the definition sees them. Definitions only.
use Rattle.std.specs.Prelude.{ℕ, ◌≤◌, ◌≡◌, List, length}
use Rattle.lookup.specs.Lookup.{scenes_of}
use Rattle.scenes.specs.declared.names.Offer.{Offer}
use Rattle.scenes.specs.declared.names.Offer.TheVariants.{Own, Reported}

-- the bank's own list in the profile p, or the names that the device reported
abbrev pub seen_offer : List ℕ → ℕ → Offer → List ℕ
seen_offer p bank (Own n) = scenes_of p bank
seen_offer p bank (Reported names) = names

-- how many there are, as the offer has it
abbrev pub count_in : Offer → ℕ
count_in (Own n) = n
count_in (Reported names) = length names

-- the count is that of the list, which is short
pub record Offers (p : List ℕ) (bank : ℕ) (o : Offer) : Type 0 where
  pub count : count_in o ≡ length (seen_offer p bank o)
  pub few : length (seen_offer p bank o) ≤ 128
