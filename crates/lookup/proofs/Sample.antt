-- Document 01's own profile, examined and looked up by the prover: the definitions computed at their bytes. Assumes nothing.
use Rattle.std.specs.Prelude.{ℕ, ◌≡◌, refl, List, [], ◌∷◌, ◌++◌, true, replicate, None, Some}
use Rattle.std.specs.Float.Ieee.{of_bits}
use Rattle.std.specs.Float.{binary64}
use Rattle.base.specs.Range.{all, any, count, every}
use Rattle.base.specs.First.{first, until}
use Rattle.base.specs.Words.{le64}
use Rattle.profile.specs.Profile.{verdict, fields_ok, record_ok, ok_as, kind_count, order_ok, ordered_at, control, once_each, limits_ok, at_most, count_of, finite_ok, ends_finite}
use Rattle.lookup.specs.Lookup.{reach, entry, control_of}
use Rattle.lookup.specs.View.{view_of}

zeros : ℕ → List ℕ
zeros n = replicate n 0

-- "positions on"
settings : List ℕ
settings = 0 ∷ 0 ∷ 1 ∷ zeros 29

-- "bank 0", with no name, no driver and no `live`
bank : List ℕ
bank = 1 ∷ 0 ∷ 0 ∷ 0 ∷ 0 ∷ 0 ∷ 255 ∷ 255 ∷ 255 ∷ 255 ∷ zeros 22

-- "its fader 1 on driver 3, target 7, no mute, takeover, 0 to" a number whose pattern ends in two given bytes
fader : ℕ → ℕ → List ℕ
fader a b = 2 ∷ 0 ∷ 1 ∷ 1 ∷ 3 ∷ 0 ∷ 7 ∷ 0 ∷ 0 ∷ 0 ∷ 0 ∷ 0 ∷ 255 ∷ 255 ∷ (zeros 16 ++ (a ∷ b ∷ []))

-- "0 to 1"
profile : List ℕ
profile = settings ++ (bank ++ fader 240 63)

accepted : verdict profile ≡ 0
unfolding zeros settings bank fader profile all any count every verdict fields_ok record_ok ok_as kind_count order_ok ordered_at control once_each limits_ok at_most count_of finite_ok ends_finite le64 of_bits
accepted = refl

-- the fader twice
declined_twice : verdict (profile ++ fader 240 63) ≡ 3
unfolding zeros settings bank fader profile all any count every verdict fields_ok record_ok ok_as kind_count order_ok ordered_at control once_each
declined_twice = refl

-- high an infinity
declined_endless : verdict (settings ++ (bank ++ fader 240 127)) ≡ 6
unfolding zeros settings bank fader all any count every verdict fields_ok record_ok ok_as kind_count order_ok ordered_at control once_each limits_ok at_most count_of finite_ok ends_finite le64 of_bits
declined_endless = refl

-- what is looked up: bank 0's fader 1, and no other
bound : ((view_of profile).here 0).fader 1
    ≡ Some (record { driver = 3; target = 7; label = 0; group = 0; mute = 65535; takeover = true; low = of_bits binary64 0; high = of_bits binary64 0x3ff0_0000_0000_0000 })
unfolding zeros settings bank fader profile every first until reach entry control_of le64
bound = refl

unbound : ((view_of profile).here 0).fader 2 ≡ None
unfolding zeros settings bank fader profile every first until reach entry control_of
unbound = refl
