-- What a profile that is not declined is known to be. Assumes nothing.
use Rattle.std.specs.Prelude.{ℕ, zero, suc, ◌+◌, ◌≤◌, ◌<◌, ◌≡◌, refl, List, Bool, false, not, cond, ◌||◌, length}
use Rattle.std.proofs.Math.Bool.{true}
use Rattle.std.proofs.Common.{⊎_elim, le_antisymm, eq-or-lt_of_le, pos_of_ne-zero, arith}
use Rattle.std.proofs.Math.Numerals.{add-one}
use Rattle.std.proofs.Math.Dec.{eqb, leb}
use borrow.Author.Tests.{leb-true, eqb-true, not-true, eqb-false, eq-eqb}
use Rattle.base.specs.Range.{count}
use Rattle.base.proofs.RangeLaws.{all-at, every-at}
use Rattle.profile.specs.Profile.{kind_count, records, byte_at, is_kind, bank_count, size_ok, fields_ok, order_ok, ordered_at, banks_ok, limits_ok, at_most, count_of, finite_ok, verdict}
use Rattle.profile.proofs.RangeMore.{count-below}
use Rattle.profile.proofs.FieldLaws.{bank_at_lem}

pub record Accepted (s : List ℕ) : Type 0 where
  pub size : size_ok s ≡ true
  pub fields : fields_ok s ≡ true
  pub order : order_ok s ≡ true
  pub banks : banks_ok s ≡ true
  pub limits : limits_ok s ≡ true
  pub finite : finite_ok s ≡ true

six : (a b c d e f : Bool) → cond {A = ℕ} a (cond b (cond c (cond d (cond e (cond f 0 6) 5) 4) 3) 2) 1 ≡ 0 → (a ≡ true) × (b ≡ true) × (c ≡ true) × (d ≡ true) × (e ≡ true) × (f ≡ true)
six true true true true true true q = (refl, refl, refl, refl, refl, refl)
six true true true true true false q = absurd (omega arith)
six true true true true false f q = absurd (omega arith)
six true true true false e f q = absurd (omega arith)
six true true false d e f q = absurd (omega arith)
six true false c d e f q = absurd (omega arith)
six false b c d e f q = absurd (omega arith)

pub accepted : (s : List ℕ) → verdict s ≡ 0 → Accepted s
unfolding verdict
accepted s q =
    let w = six (size_ok s) (fields_ok s) (order_ok s) (banks_ok s) (limits_ok s) (finite_ok s) q in
    record { size = w.0; fields = w.1; order = w.2; banks = w.3; limits = w.4; finite = w.5 }

module _ (s : List ℕ) (yes : verdict s ≡ 0) where
  -- at most 2,048 records
  pub few_records : records s ≤ 2048
  few_records = let h = leb-true (length s) 65536 (every-at _ 1 (accepted s yes).size) in omega arith

  -- there is a bank
  pub some_bank : 1 ≤ bank_count s
  some_bank = pos_of_ne-zero (eqb-false (bank_count s) 0 (not-true (eqb (bank_count s) 0) (accepted s yes).banks))

  -- at most 128 scenes and 16 transports in one bank or the globals
  pub few_scenes : (b : ℕ) → b < 256 → count_of s 4 b ≤ 128
  unfolding limits_ok at_most
  few_scenes b l = leb-true (count_of s 4 b) 128 (all-at (λ x. leb (count_of s 4 x) 128) 256 b (every-at _ 0 (accepted s yes).limits) l)

  pub few_transports : (b : ℕ) → b < 256 → count_of s 5 b ≤ 16
  unfolding limits_ok at_most
  few_transports b l = leb-true (count_of s 5 b) 16 (all-at (λ x. leb (count_of s 5 x) 16) 256 b (every-at _ 1 (accepted s yes).limits) l)

  ordered_at_lem : (k : ℕ) → k < records s → ordered_at s k ≡ true
  unfolding order_ok
  ordered_at_lem k l = all-at (ordered_at s) (records s) k (every-at _ 1 (accepted s yes).order) l

  -- no record's kind is below that of the record before it
  pub kind-rises : (k : ℕ) → k + 1 < records s → byte_at s k 0 ≤ byte_at s (k + 1) 0
  unfolding ordered_at
  kind-rises k l = rw add-one (leb-true (byte_at s k 0) (byte_at s (suc k) 0) (every-at _ 0 (rw add-one at (ordered_at_lem (k + 1) l))))

  -- a bank's own number is the number of banks before it
  pub bank_runs : (k : ℕ) → k < records s → byte_at s k 0 ≡ 1 → byte_at s k 1 ≡ count k (is_kind s 1)
  unfolding ordered_at
  bank_runs k l e =
      let h : (not (is_kind s 1 k) || eqb (byte_at s k 1) (count k (is_kind s 1))) ≡ true = every-at _ 1 (ordered_at_lem k l) in
      eqb-true (byte_at s k 1) (count k (is_kind s 1)) (rw (eq-eqb (byte_at s k 0) 1 e) at h)

  -- at most 16 banks
  pub few_banks : bank_count s ≤ 16
  unfolding kind_count
  few_banks =
      count-below (is_kind s 1) 16 (records s)
      (λ k l e. let q = eqb-true (byte_at s k 0) 1 e in omega (arith, bank_runs k l q, (bank_at_lem s (accepted s yes).fields k l q).own))

  -- kinds never fall: a later record's is at least an earlier one's
  pub kinds_rise : (j k : ℕ) → j ≤ k → k < records s → byte_at s j 0 ≤ byte_at s k 0
  kinds_rise j zero h l = rw (le_antisymm h (omega arith)) (omega arith)
  kinds_rise j (suc k) h l =
      ⊎_elim
      (λ e. rw e (omega arith))
      (λ m. let q : byte_at s k 0 ≤ byte_at s (suc k) 0 = rw add-one at (kind-rises k (omega arith)) in omega (arith, kinds_rise j k (omega arith) (omega arith)))
      (eq-or-lt_of_le h)
