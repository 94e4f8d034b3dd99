-- The loop of `once_each`: its invariant, and a law for each way through a turn. Assumes nothing.
use Rattle.std.specs.Prelude.{ℕ, ◌+◌, ◌/◌, ◌%◌, ◌≤◌, ◌<◌, ◌≡◌, refl, List, Bool, false, not, ◌⊎◌, length, get_or, set, replicate, eqb}
use Rattle.std.proofs.Common.{sym, ap, ◌∙◌, ⊎_elim, arith, length-set, get_or-set_same, get_or-set_other, ne_eqb}
use Rattle.std.proofs.Math.Bool.{true, or-true, or-false}
use Rattle.std.proofs.Math.Decide.{ℕ_discrete}
use Rattle.std.proofs.lemmas.List.{length-replicate, get_or-replicate}
use borrow.Author.Tests.{eqb-true, eq-eqb}
use Rattle.base.specs.Range.{all, any, every}
use Rattle.base.proofs.RangeLaws.{all_none, all_more, any_none, any-more, every-at, and_left, and_right, and_intro, any_cong, bool_iff}
use Rattle.base.proofs.Tables.{hit}
use Rattle.profile.specs.Profile.{records, byte_at, control, same, again, fields_ok}
use Rattle.profile.proofs.FieldLaws.{control-at, control_kinds}
use Rattle.profile.specs.Order.{slot_of, slot_at}

-- the bytes of a fader or an encoder that say where it belongs, in their ranges
pub record Keyed (kind b n : ℕ) : Type 0 where
  pub kinds : (kind ≡ 2) ⊎ (kind ≡ 3)
  pub bank : (b ≤ 15) ⊎ (b ≡ 255)
  pub low : 1 ≤ n
  pub high : n ≤ 16

module _ (kind b n : ℕ) where
  slot-kind : slot_of kind b n / 512 ≡ kind % 2
  slot-kind = omega arith

  slot_bank : slot_of kind b n / 16 % 32 ≡ b % 32
  slot_bank = omega arith

  slot-number : slot_of kind b n % 16 ≡ n % 16
  slot-number = omega arith

kind-mod : (x y : ℕ) → (x ≡ 2) ⊎ (x ≡ 3) → (y ≡ 2) ⊎ (y ≡ 3) → x % 2 ≡ y % 2 → x ≡ y
kind-mod x y v w e = ⊎_elim (λ a. ⊎_elim (λ b. omega arith) (λ b. omega arith) w) (λ a. ⊎_elim (λ b. omega arith) (λ b. omega arith) w) v

small_mod : (b : ℕ) → b ≤ 15 → b % 32 ≡ b
small_mod b h = omega arith

bank_mod : (x y : ℕ) → (x ≤ 15) ⊎ (x ≡ 255) → (y ≤ 15) ⊎ (y ≡ 255) → x % 32 ≡ y % 32 → x ≡ y
bank_mod x y v w e =
    ⊎_elim
    (λ a. ⊎_elim (λ b. omega (arith, small_mod x a, small_mod y b)) (λ b. omega (arith, small_mod x a)) w)
    (λ a. ⊎_elim (λ b. omega (arith, small_mod y b)) (λ b. omega arith) w)
    v

number-mod : (x y : ℕ) → 1 ≤ x → x ≤ 16 → 1 ≤ y → y ≤ 16 → x % 16 ≡ y % 16 → x ≡ y
number-mod x y a b c d e = omega arith

-- two that share a place are the same
own_place : (k b n k' b' n' : ℕ) → Keyed k b n → Keyed k' b' n' → slot_of k b n ≡ slot_of k' b' n' → (k ≡ k') × (b ≡ b') × (n ≡ n')
own_place k b n k' b' n' v w e = (
  kind-mod k k' v.kinds w.kinds (sym (slot-kind k b n) ∙ ap (λ (x : ℕ). x / 512) e ∙ slot-kind k' b' n'),
  bank_mod b b' v.bank w.bank (sym (slot_bank k b n) ∙ ap (λ (x : ℕ). x / 16 % 32) e ∙ slot_bank k' b' n'),
  number-mod n n' v.low v.high w.low w.high (sym (slot-number k b n) ∙ ap (λ (x : ℕ). x % 16) e ∙ slot-number k' b' n'),
)

-- record j is a fader or an encoder
abbrev is_control : List ℕ → ℕ → Bool
is_control s j = control (byte_at s j 0)

keyed_at : (s : List ℕ) → fields_ok s ≡ true → (j : ℕ) → j < records s → is_control s j ≡ true → Keyed (byte_at s j 0) (byte_at s j 1) (byte_at s j 2)
keyed_at s ok j l e =
    let r = control-at s ok j l e in record { kinds = control_kinds (byte_at s j 0) e; bank = r.bank; low = r.low; high = r.high }

-- an earlier fader or encoder shares record k's place exactly where it has k's kind, bank and number
module _ (s : List ℕ) (k : ℕ) (ok : fields_ok s ≡ true) (in_file : k < records s) (of : is_control s k ≡ true) where
  place_same : (j : ℕ) → j < k → hit (is_control s) (slot_at s) (slot_at s k) j ≡ true → same s k j ≡ true
  unfolding every
  place_same j l e =
      let a : is_control s j ≡ true = and_left (is_control s j) _ e in
      let w = own_place (byte_at s j 0) (byte_at s j 1) (byte_at s j 2) (byte_at s k 0) (byte_at s k 1) (byte_at s k 2) (keyed_at s ok j (omega arith) a) (keyed_at s ok k in_file of) (eqb-true (slot_at s j) (slot_at s k) (and_right (is_control s j) _ e)) in
      rw (eq-eqb (byte_at s j 0) (byte_at s k 0) w.0, eq-eqb (byte_at s j 1) (byte_at s k 1) w.1, eq-eqb (byte_at s j 2) (byte_at s k 2) w.2)

  same_place : (j : ℕ) → same s k j ≡ true → hit (is_control s) (slot_at s) (slot_at s k) j ≡ true
  same_place j e =
      let a = eqb-true (byte_at s j 0) (byte_at s k 0) (every-at _ 0 e) in
      let b = eqb-true (byte_at s j 1) (byte_at s k 1) (every-at _ 1 e) in
      let n = eqb-true (byte_at s j 2) (byte_at s k 2) (every-at _ 2 e) in
      and_intro (is_control s j) (eqb (slot_at s j) (slot_at s k)) (ap control a ∙ of) (eq-eqb (slot_at s j) (slot_at s k) (rw (a, b, n)))

  seen-again : any k (hit (is_control s) (slot_at s) (slot_at s k)) ≡ any k (same s k)
  seen-again = any_cong _ _ k (λ j l. bool_iff _ _ (place_same j l) (same_place j))

-- a table that flags each key seen so far
module _ (f : ℕ → Bool) (key : ℕ → ℕ) where
  -- entry v of the table says whether some number below i hits v
  abbrev pub Flags : ℕ → List Bool → ℕ → Type 0
  Flags size tab i = (v : ℕ) → v < size → get_or tab v false ≡ any i (hit f key v)

  flags_none : (size : ℕ) → Flags size (replicate size false) 0
  flags_none size v l = get_or-replicate size v false false l ∙ sym (any_none (hit f key v))

  flags_skip : (size : ℕ) (tab : List Bool) (i : ℕ) → f i ≡ false → Flags size tab i → Flags size tab (i + 1)
  flags_skip size tab i e m v l = m v l ∙ rw (any-more, e, or-false)

  -- i is of the sort, and its entry is set
  flags_set : (size : ℕ) (tab : List Bool) (i : ℕ) → size ≡ length tab → key i < size → f i ≡ true → Flags size tab i → Flags size (set tab (key i) true) (i + 1)
  flags_set size tab i long in_table e m v l =
      elim (ℕ_discrete v (key i)) [
        | yes q ↦
            rw (q, any-more, e, eq-eqb (key i) (key i) refl, or-true) (get_or-set_same tab (key i) true false (rw (← long) in_table))
        | no q ↦
            get_or-set_other tab (key i) v true false q ∙ m v l ∙ rw (any-more, e, ne_eqb (key i) v (λ p. q (sym p)), or-false)
      ]

-- the loop's invariant: the table flags the places of the first k records, and none of these is there again
pub record Once (s : List ℕ) (seen : List Bool) (k : ℕ) : Type 0 where
  pub long : 1024 ≡ length seen
  pub flags : Flags (is_control s) (slot_at s) 1024 seen k
  pub none : all k (λ i. not (again s i)) ≡ true

slot_lt : (s : List ℕ) (k : ℕ) → slot_at s k < 1024
slot_lt s k = omega arith

pub once_start : (s : List ℕ) → Once s (replicate 1024 false) 0
once_start s = record { long = sym (length-replicate {A = Bool} 1024 false); flags = flags_none (is_control s) (slot_at s) 1024; none = all_none _ }

pub once_skip : (s : List ℕ) (k : ℕ) (seen : List Bool) → is_control s k ≡ false → Once s seen k → Once s seen (k + 1)
once_skip s k seen e h =
    record { long = h.long; flags = flags_skip (is_control s) (slot_at s) 1024 seen k e h.flags; none = all_more _ k h.none (rw e) }

module _ (s : List ℕ) (k : ℕ) (seen : List Bool) (ok : fields_ok s ≡ true) (in_file : k < records s) (of : is_control s k ≡ true) (h : Once s seen k) where
  flag : get_or seen (slot_at s k) false ≡ any k (same s k)
  flag = h.flags (slot_at s k) (slot_lt s k) ∙ seen-again s k ok in_file of

  pub once_mark : get_or seen (slot_at s k) false ≡ false → Once s (set seen (slot_at s k) true) (k + 1)
  once_mark z =
      record {
        long = h.long ∙ sym (length-set seen (slot_at s k) true);
        flags = flags_set (is_control s) (slot_at s) 1024 seen k h.long (slot_lt s k) of h.flags;
        none = all_more _ k h.none (rw (of, sym flag ∙ z));
      }

  pub once_found : get_or seen (slot_at s k) false ≡ true → not (again s k) ≡ false
  once_found z = rw (of, sym flag ∙ z)
