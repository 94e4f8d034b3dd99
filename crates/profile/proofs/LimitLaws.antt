-- The loop of `limits_ok`: its invariant, and a law for each way through a turn. Assumes nothing.
use Rattle.std.specs.Prelude.{ℕ, ◌+◌, ◌*◌, ◌%◌, ◌≤◌, ◌<◌, ◌≡◌, refl, List, Bool, true, false, ◌&&◌, ◌⊎◌, length, get_or, set, replicate, eqb, leb}
use Rattle.std.proofs.Common.{sym, ap, ◌∙◌, inl, inr, ⊎_elim, eq-or-lt_of_le, arith, length-set, leb-true, eqb-true, eq-eqb, le-leb}
use Rattle.std.proofs.lemmas.List.{length-replicate}
use Rattle.base.specs.Range.{count, every}
use Rattle.base.proofs.RangeLaws.{and_left, and_right, and_intro, bool_iff, all_cong, count_cong, count-le}
use Rattle.base.proofs.Tables.{hit, Counts, counts_none, counts_skip, counts_add}
use Rattle.profile.specs.Profile.{records, byte_at, is_kind, fields_ok, count_of, at_most, limits_ok}
use Rattle.profile.proofs.FieldLaws.{scene-at, transport-at, button-at}
use Rattle.profile.specs.Limits.{counted, row_at, all_at_most}

-- the kinds that are counted
pub record Kinds (kind : ℕ) : Type 0 where
  pub low : 4 ≤ kind
  pub high : kind ≤ 6

counted_kinds : (kind : ℕ) → counted kind ≡ true → Kinds kind
unfolding counted
counted_kinds kind e = record { low = leb-true 4 kind (and_left _ _ e); high = leb-true kind 6 (and_right (leb 4 kind) _ e) }

kinds_counted : (kind : ℕ) → Kinds kind → counted kind ≡ true
unfolding counted
kinds_counted kind w = rw (le-leb 4 kind w.low, le-leb kind 6 w.high)

three : (kind : ℕ) → Kinds kind → (kind ≡ 4) ⊎ ((kind ≡ 5) ⊎ (kind ≡ 6))
three kind w =
    ⊎_elim (λ e. inl (sym e)) (λ a. ⊎_elim (λ e. inr (inl (sym e))) (λ b. inr (inr (omega arith))) (eq-or-lt_of_le a)) (eq-or-lt_of_le w.low)

-- byte 1 of a record that is counted is a byte
module _ (s : List ℕ) (ok : fields_ok s ≡ true) (j : ℕ) (in_file : j < records s) where
  own_byte : (kind : ℕ) → Kinds kind → byte_at s j 0 ≡ kind → byte_at s j 1 ≤ 255
  own_byte kind w e =
      ⊎_elim
      (λ a. let h = (scene-at s ok j in_file (e ∙ a)).bank in omega arith)
      (λ r. ⊎_elim
      (λ a. ⊎_elim (λ x. omega arith) (λ x. omega arith) (transport-at s ok j in_file (e ∙ a)).bank)
      (λ a. let h = (button-at s ok j in_file (e ∙ a)).driver in omega arith)
      r)
      (three kind w)

-- the table's place of a kind and a byte is counted up by just the records that have them
abbrev is_counted : List ℕ → ℕ → Bool
is_counted s j = counted (byte_at s j 0)

row-kind : (x b kind v : ℕ) → b ≤ 255 → v < 256 → Kinds x → Kinds kind → x % 4 * 256 + b ≡ kind % 4 * 256 + v → x ≡ kind
row-kind x b kind v h l w w' e = let q : x % 4 ≡ kind % 4 = omega arith in omega arith

row-byte : (x b kind v : ℕ) → b ≤ 255 → v < 256 → x % 4 * 256 + b ≡ kind % 4 * 256 + v → b ≡ v
row-byte x b kind v h l e = omega arith

module _ (s : List ℕ) (kind v : ℕ) (ok : fields_ok s ≡ true) (w : Kinds kind) (l : v < 256) where
  hit_has : (j : ℕ) → j < records s → hit (is_counted s) (row_at s) (kind % 4 * 256 + v) j ≡ true → (is_kind s kind j && eqb (byte_at s j 1) v) ≡ true
  hit_has j m e =
      let w' = counted_kinds (byte_at s j 0) (and_left (is_counted s j) _ e) in
      let q = eqb-true (row_at s j) (kind % 4 * 256 + v) (and_right (is_counted s j) _ e) in
      let h = own_byte s ok j m (byte_at s j 0) w' refl in
      and_intro _ _ (eq-eqb (byte_at s j 0) kind (row-kind (byte_at s j 0) (byte_at s j 1) kind v h l w' w q)) (eq-eqb (byte_at s j 1) v (row-byte (byte_at s j 0) (byte_at s j 1) kind v h l q))

  has_hit : (j : ℕ) → (is_kind s kind j && eqb (byte_at s j 1) v) ≡ true → hit (is_counted s) (row_at s) (kind % 4 * 256 + v) j ≡ true
  has_hit j e =
      let a : byte_at s j 0 ≡ kind = eqb-true (byte_at s j 0) kind (and_left (is_kind s kind j) _ e) in
      let b : byte_at s j 1 ≡ v = eqb-true (byte_at s j 1) v (and_right (is_kind s kind j) _ e) in
      and_intro _ _ (ap counted a ∙ kinds_counted kind w) (eq-eqb (row_at s j) (kind % 4 * 256 + v) (rw (a, b)))

  row_count : count (records s) (hit (is_counted s) (row_at s) (kind % 4 * 256 + v)) ≡ count_of s kind v
  unfolding count_of
  row_count = count_cong _ _ (records s) (λ j m. bool_iff _ _ (hit_has j m) (has_hit j))

-- the loop's invariant: the table counts the first k records
pub record Tally (s table : List ℕ) (k : ℕ) : Type 0 where
  pub long : 1024 ≡ length table
  pub counts : Counts (is_counted s) (row_at s) 1024 table k

pub tally_start : (s : List ℕ) → Tally s (replicate 1024 0) 0
tally_start s = record { long = sym (length-replicate {A = ℕ} 1024 0); counts = counts_none (is_counted s) (row_at s) 1024 }

-- a count is at most the number of records
pub tally_le : (s table : List ℕ) (k v : ℕ) → Tally s table k → v < 1024 → get_or table v 0 ≤ k
tally_le s table k v h l = omega (arith, h.counts v l, count-le (hit (is_counted s) (row_at s) v) k)

pub tally_skip : (s table : List ℕ) (k : ℕ) → is_counted s k ≡ false → Tally s table k → Tally s table (k + 1)
tally_skip s table k e h = record { long = h.long; counts = counts_skip (is_counted s) (row_at s) 1024 table k e h.counts }

pub tally_add : (s table : List ℕ) (k at : ℕ) → is_counted s k ≡ true → at ≡ row_at s k → at < 1024 → Tally s table k → Tally s (set table at (get_or table at 0 + 1)) (k + 1)
tally_add s table k at of e l h =
    record {
      long = h.long ∙ sym (length-set table at _);
      counts = rw e (counts_add (is_counted s) (row_at s) 1024 table k h.long (rw (← e) l) of h.counts);
    }

-- at the end, a kind's row has its counts
tally_done : (s table : List ℕ) (k kind limit : ℕ) → fields_ok s ≡ true → Kinds kind → k ≤ records s → records s ≤ k → Tally s table k → all_at_most table (kind % 4 * 256) limit ≡ at_most s kind limit
unfolding all_at_most at_most
tally_done s table k kind limit ok w a b h =
    let e : k ≡ records s = omega arith in
    all_cong _ _ 256 (λ v l. ap (λ (x : ℕ). leb x limit) (h.counts (kind % 4 * 256 + v) (omega (arith, w.high)) ∙ rw e (row_count s kind v ok w l)))

-- the three limits, as `limits_ok` finds them
pub tally_limits : (s table : List ℕ) (k : ℕ) → fields_ok s ≡ true → k ≤ records s → records s ≤ k → Tally s table k →
    (a b d : Bool) → a ≡ all_at_most table 0 128 → b ≡ all_at_most table 256 16 → d ≡ all_at_most table 512 16 → (a && (b && d)) ≡ limits_ok s
unfolding limits_ok every
tally_limits s table k ok l h t a b d e f g =
    rw (
      ← tally_done s table k 4 128 ok (record { low = omega arith; high = omega arith }) l h t,
      ← tally_done s table k 5 16 ok (record { low = omega arith; high = omega arith }) l h t,
      ← tally_done s table k 6 16 ok (record { low = omega arith; high = omega arith }) l h t,
      ← e,
      ← f,
      ← g,
    )
