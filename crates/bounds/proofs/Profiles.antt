-- A profile that is not declined is sound: its drivers are 0 to 15, and it has at most 16 transport buttons in one bank or the globals.
use Prim.Native.Nat.{ℕ, zero, suc, ◌≤◌, ◌<◌}
use Rattle.std.specs.Prelude.{◌≡◌, Bool, List, [], ◌∷◌, ◌++◌, eqb, ltb, length, None, Option, Some}
use Rattle.std.proofs.Math.Path.{refl}
use Rattle.std.proofs.Math.Bool.{true, false}
use Rattle.std.proofs.Common.{⊎_elim, eq-zero-or-pos, arith}
use borrow.Author.Tests.{eqb-true, eqb-false, ltb-true, ltb-false}
use Rattle.base.specs.Choice.{pick}
use Rattle.base.specs.Range.{count}
use Rattle.base.proofs.RangeLaws.{and_left, and_right}
use Rattle.profile.specs.Profile.{records, byte_at, half_at, is_kind, verdict}
use Rattle.profile.proofs.RangeMore.{count-reach}
use Rattle.profile.proofs.FieldLaws.{fader-at, bank_at_lem, transport-at}
use Rattle.profile.proofs.Accepted.{accepted}
use Rattle.lookup.specs.Gather.{gather}
use Rattle.lookup.proofs.GatherLaws.{gather-length}
use Rattle.lookup.specs.Lookup.{entry, of_part, half_of, control_of, found_at, entry_at, transports_of}
use Rattle.lookup.proofs.LookupLaws.{entry-is}
use Rattle.lookup.proofs.Known.{transports-whole}
use Rattle.lookup.proofs.FewTransports.{own_few}
use Rattle.lookup.specs.View.{view_of}
use Rattle.lookup.specs.declared.Entry.{Entry}
use Rattle.bounds.specs.Drivers.{MayTo, MayAll, no_entry_lem, one_entry}
use Rattle.bounds.specs.Room.{IsDriver, Sound}

all_append : (l m : List Entry) → MayAll IsDriver l → MayAll IsDriver m → MayAll IsDriver (l ++ m)
all_append [] m h k = k
all_append (e ∷ l) m (one_entry d h) k = one_entry d (all_append l m h k)

module _ (s : List ℕ) (yes : verdict s ≡ 0) where
  low_byte : (k : ℕ) → half_at s k 4 ≤ 15 → byte_at s k 4 < 16
  low_byte k h = omega (arith, h)

  fader_may : (part n : ℕ) → MayTo IsDriver (control_of s 2 part n)
  unfolding control_of
  fader_may part n = go (entry s 2 part n) refl
    where
      go : (p : Option ℕ) → entry s 2 part n ≡ p → MayTo IsDriver (found_at s p)
      go (Some k) e =
          let w = entry-is s 2 part n k e in
          low_byte k (fader-at s (accepted s yes).fields k w.in_file w.kind_is).driver
      go None e = tt

  device_may : (b : ℕ) → eqb (half_of s 6 65535 (entry s 1 b 0)) 65535 ≡ false → IsDriver (half_of s 6 65535 (entry s 1 b 0))
  device_may b q = go (entry s 1 b 0) refl q
    where
      go : (p : Option ℕ) → entry s 1 b 0 ≡ p → eqb (half_of s 6 65535 p) 65535 ≡ false → IsDriver (half_of s 6 65535 p)
      go (Some k) e f =
          let w = entry-is s 1 b 0 k e in
          ⊎_elim (λ l. omega (arith, l)) (λ i. absurd (eqb-false (half_at s k 6) 65535 f i))
          (bank_at_lem s (accepted s yes).fields k w.in_file w.kind_is).driver
      go None e f = absurd (eqb-false 65535 65535 f refl)

  gathered : (part n : ℕ) → n ≤ records s → MayAll IsDriver (gather n (of_part s 5 part) (entry_at s))
  unfolding gather
  gathered part zero h = no_entry_lem
  gathered part (suc n) h = all_append (gather n (of_part s 5 part) (entry_at s)) _ (gathered part n (omega arith)) (go (of_part s 5 part n) refl)
    where
      go : (b : Bool) → of_part s 5 part n ≡ b → MayAll IsDriver (pick b (entry_at s n ∷ []) [])
      go true e =
          let q : byte_at s n 0 ≡ 5 = eqb-true (byte_at s n 0) 5 (and_left (is_kind s 5 n) (eqb (byte_at s n 1) part) e) in
          one_entry (low_byte n (transport-at s (accepted s yes).fields n (omega arith) q).driver) no_entry_lem
      go false e = no_entry_lem

  transports_may : (part : ℕ) → MayAll IsDriver (transports_of s part)
  transports_may part = rw (transports-whole s yes part) (gathered part (records s) (omega arith))

  -- a part that no record names has none
  far : (part : ℕ) → 256 ≤ part → count (records s) (of_part s 5 part) ≤ 16
  far part h =
      ⊎_elim (λ e. omega (arith, e))
      (λ l.
      let w = count-reach (of_part s 5 part) 0 (records s) l in
      let q : byte_at s w.0 0 ≡ 5 = eqb-true (byte_at s w.0 0) 5 (and_left (is_kind s 5 w.0) (eqb (byte_at s w.0 1) part) w.2) in
      let r : byte_at s w.0 1 ≡ part = eqb-true (byte_at s w.0 1) part (and_right (is_kind s 5 w.0) (eqb (byte_at s w.0 1) part) w.2) in
      absurd (⊎_elim (λ a. omega (arith, a, r, h)) (λ a. omega (arith, a, r, h)) (transport-at s (accepted s yes).fields w.0 w.1 q).bank))
      (eq-zero-or-pos (count (records s) (of_part s 5 part)))

  few : (part : ℕ) → length (transports_of s part) ≤ 16
  few part = rw (transports-whole s yes part, gather-length) (go (ltb part 256) refl)
    where
      go : (b : Bool) → ltb part 256 ≡ b → count (records s) (of_part s 5 part) ≤ 16
      go true e = own_few s part (records s) yes (ltb-true part 256 e) (omega arith)
      go false e = far part (ltb-false part 256 e)

  pub accepted_sound : Sound (view_of s)
  accepted_sound =
      record {
        drivers =
            record {
              first = omega arith;
              globals = fader_may 255;
              faders = fader_may;
              devices = device_may;
              commands = transports_may 255;
              own = transports_may;
            };
        globals = few 255;
        own = few;
      }
