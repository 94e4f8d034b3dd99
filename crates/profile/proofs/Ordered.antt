-- The two loops of `ordered`: their invariants, and a law for each way through a turn. A record is asked only that it names one of the banks before it: as
-- kinds never fall, that says the same of the file. Assumes nothing.
use Prim.Native.Nat.{ℕ, zero, suc, ◌+◌, ◌-◌, ◌≤◌, ◌<◌}
use mathlib.Core.Path.{◌≡◌, refl, sym, ap, ◌∙◌}
use mathlib.Core.List.{List}
use mathlib.Core.Bool.{Bool, true, false, ◌&&◌, ◌||◌, cond, and-false, or-true, false≢true}
use mathlib.Core.Logic.{◌⊎◌, inl, inr, ⊎_elim}
use native.Mathlib.Nat.{le_antisymm, eq-or-lt_of_le, pos_of_ne-zero}
use native.Mathlib.Numerals.{add-one}
use native.Mathlib.Omega.{arith}
use lib.Dec.{eqb, ltb, leb}
use Rattle.std.specs.Prelude.{Some, None}
use Rattle.std.proofs.lemmas.Bool.{leb-false}
use borrow.Author.Tests.{leb-true, ltb-true, ltb-false, eqb-true, le-leb, le-ltb, lt-ltb, eq-eqb, ne_eqb}
use Rattle.base.specs.Range.{all, count, bit, every}
use Rattle.base.proofs.RangeLaws.{all_none, all_more, all-at, all_each, all_stop, all_done, count_none, count-more, count-le, count-done, or_cases, or_left_no, or_right_no, bool_iff, every-at, and_left, and_right, and_intro}
use Rattle.profile.specs.Profile.{records, byte_at, is_kind, kind_count, bank_count, kind_before, rises, runs, names_bank, ordered_at}
use Rattle.profile.specs.Order.{leads_at, follows_at}
use Rattle.profile.proofs.RangeMore.{count_mono, count-reach}

-- record k, if it is of kind 2 to 5, names one of the banks before it or the globals
abbrev pub names_before : List ℕ → ℕ → Bool
names_before s k = (ltb (byte_at s k 0) 2 || ltb 5 (byte_at s k 0)) || (eqb (byte_at s k 1) 255 || ltb (byte_at s k 1) (count k (is_kind s 1)))

abbrev pub ordered_here : List ℕ → ℕ → Bool
ordered_here s k = rises s k && (runs s k && names_before s k)

count-step : (p : ℕ → Bool) (k : ℕ) (b : Bool) → p k ≡ b → count (k + 1) p ≡ count k p + bit b
count-step p k b e = count-more p k ∙ rw e

no_left : (a b : Bool) → a ≡ false → (a && b) ≡ false
no_left a b e = rw e

and_no : (a b : Bool) → (a && b) ≡ false → (a ≡ false) ⊎ ((a ≡ true) × (b ≡ false))
and_no true b e = inr (refl, e)
and_no false b e = inl refl

-- none is counted from k on
count_rest : (p : ℕ → Bool) (k n : ℕ) → k ≤ n → ((j : ℕ) → k ≤ j → j < n → p j ≡ false) → count k p ≡ count n p
unfolding count
count_rest p k zero h none = rw (le_antisymm h (omega arith))
count_rest p k (suc n) h none =
    ⊎_elim
    (λ e. rw e)
    (λ l. let q : k ≤ n = omega arith in rw (none n q (omega arith)) (omega (arith, count_rest p k n q (λ j a b. none j a (omega arith)))))
    (eq-or-lt_of_le h)

grow : (a b : Bool) (x m n : ℕ) → m ≤ n → (a || (b || ltb x m)) ≡ true → (a || (b || ltb x n)) ≡ true
grow true b x m n h e = refl
grow false true x m n h e = refl
grow false false x m n h e = lt-ltb x n (let l = ltb-true x m e in omega arith)

past : (a : Bool) (b d : Bool) → (a ≡ false → b ≡ d) → (a || b) ≡ (a || d)
past true b d h = refl
past false b d h = h refl

module _ (s : List ℕ) where
  module _ (ok : all (records s) (ordered_at s) ≡ true) where
    pub kinds_rise : (j k : ℕ) → j ≤ k → k < records s → byte_at s j 0 ≤ byte_at s k 0
    unfolding ordered_at
    kinds_rise j zero h l = rw (le_antisymm h (omega arith)) (omega arith)
    kinds_rise j (suc k) h l =
        ⊎_elim
        (λ e. rw e (omega arith))
        (λ m. omega (arith, leb-true (byte_at s k 0) (byte_at s (suc k) 0) (every-at _ 0 (all-at (ordered_at s) (records s) (suc k) ok l)), kinds_rise j k (omega arith) (omega arith)))
        (eq-or-lt_of_le h)

    -- no bank stands behind a record of kind 2 or more
    all-before : (k : ℕ) → k < records s → 2 ≤ byte_at s k 0 → count k (is_kind s 1) ≡ bank_count s
    unfolding kind_count
    all-before k l h =
        count_rest (is_kind s 1) k (records s) (omega arith)
        (λ j a b. ne_eqb (byte_at s j 0) 1 (λ e. omega (arith, kinds_rise k j a b)))

    names_same : (k : ℕ) → k < records s → names_before s k ≡ names_bank s k
    names_same k l =
        past (ltb (byte_at s k 0) 2 || ltb 5 (byte_at s k 0)) _ _
        (λ e. rw (all-before k l (ltb-false (byte_at s k 0) 2 (or_left_no _ _ e))))

    here_too : (k : ℕ) → k < records s → ordered_here s k ≡ true
    unfolding ordered_at every
    here_too k l = rw (names_same k l) (all-at (ordered_at s) (records s) k ok l)

  there_too : all (records s) (ordered_here s) ≡ true → (k : ℕ) → k < records s → ordered_at s k ≡ true
  unfolding ordered_at every kind_count
  there_too ok k l =
      let h = all-at (ordered_here s) (records s) k ok l in
      let t : (runs s k && names_before s k) ≡ true = and_right (rises s k) _ h in
      and_intro (rises s k) _ (and_left (rises s k) _ h)
      (and_intro (runs s k) _ (and_left (runs s k) _ t) (grow (ltb (byte_at s k 0) 2 || ltb 5 (byte_at s k 0)) (eqb (byte_at s k 1) 255) (byte_at s k 1) (count k (is_kind s 1)) _ (count_mono (is_kind s 1) k (records s) (omega arith)) (and_right (runs s k) _ t)))

  pub ordered_same : all (records s) (ordered_here s) ≡ all (records s) (ordered_at s)
  ordered_same =
      bool_iff _ _
      (λ ok. all_each (ordered_at s) (records s) (there_too ok))
      (λ ok. all_each (ordered_here s) (records s) (here_too ok))

  -- the settings are there once, and every record stands where it may
  abbrev pub right_order : Bool
  right_order = eqb (kind_count s 0) 1 && all (records s) (ordered_at s)

  -- the first k records are the settings and banks, in order
  pub record Head (k : ℕ) : Type 0 where
    pub right : all k (ordered_here s) ≡ true
    pub settings : 0 < k → count k (is_kind s 0) ≡ 1
    pub banks : count k (is_kind s 1) ≡ k - 1
    pub low : kind_before s k ≤ 1

  -- the first k are in order, all the banks are among them, and the next has to be of kind last or more
  pub record Rest (banks last k : ℕ) : Type 0 where
    pub right : all k (ordered_here s) ≡ true
    pub settings : count k (is_kind s 0) ≡ 1
    pub counted : count k (is_kind s 1) ≡ banks
    pub high : 2 ≤ last
    pub next : leb last (byte_at s k 0) ≡ true → rises s k ≡ true
    pub stops : k < records s → leb last (byte_at s k 0) ≡ false → right_order ≡ false

  wrong : (right_order ≡ true → ⊥) → right_order ≡ false
  wrong h = go right_order h
    where
      go : (b : Bool) → (b ≡ true → ⊥) → b ≡ false
      go true h = absurd (h refl)
      go false h = refl

  stop_here : (k : ℕ) → k < records s → ordered_here s k ≡ false → right_order ≡ false
  stop_here k l e = rw (← ordered_same, ← all_stop (ordered_here s) (records s) k l e, and-false)

  -- the settings are the first record
  first_wrong : (0 < records s → 0 < byte_at s 0 0) → right_order ≡ false
  unfolding kind_count
  first_wrong h =
      wrong (λ ok.
      let one = eqb-true (kind_count s 0) 1 (and_left (eqb (kind_count s 0) 1) _ ok) in
      let w = count-reach (is_kind s 0) 0 (records s) (omega arith) in
      let q = eqb-true (byte_at s w.0 0) 0 w.2 in
      omega (arith, h (omega arith), kinds_rise (and_right (eqb (kind_count s 0) 1) _ ok) 0 w.0 (omega arith) w.1))

  -- no record leads the file
  pub none_first : (0 < records s → leads_at s 0 ≡ false) → right_order ≡ false
  none_first stop = first_wrong (λ l. pos_of_ne-zero (λ q. absurd (false≢true (sym (or_left_no (eqb 0 0 && eqb (byte_at s 0 0) 0) _ (stop l)) ∙ and_intro (eqb 0 0) _ refl (eq-eqb (byte_at s 0 0) 0 q)))))

  pub head_none : Head 0
  head_none = record { right = all_none _; settings = λ l. absurd (omega arith); banks = count_none _; low = omega arith }

  here : (k : ℕ) → rises s k ≡ true → runs s k ≡ true → names_before s k ≡ true → ordered_here s k ≡ true
  here k a b d = and_intro (rises s k) _ a (and_intro (runs s k) _ b d)

  -- one more of the settings and banks
  settings_next : (k : ℕ) → k ≡ 0 → byte_at s k 0 ≡ 0 → Head k → Head (k + 1)
  settings_next k z q h =
      let no : is_kind s 1 k ≡ false = ne_eqb (byte_at s k 0) 1 (λ x. omega arith) in
      record {
        right = all_more _ k h.right (here k (le-leb (kind_before s k) (byte_at s k 0) (rw z (omega arith))) (rw no) (rw (lt-ltb (byte_at s k 0) 2 (omega arith))));
        settings = λ l. omega (arith, count-step (is_kind s 0) k true (eq-eqb (byte_at s k 0) 0 q), count-le (is_kind s 0) k);
        banks = omega (arith, count-step (is_kind s 1) k false no, count-le (is_kind s 1) k);
        low = rw add-one (omega arith);
      }

  bank_next : (k : ℕ) → byte_at s k 0 ≡ 1 → byte_at s k 1 + 1 ≡ k → Head k → Head (k + 1)
  bank_next k q b h =
      record {
        right = all_more _ k h.right
            (here k (le-leb (kind_before s k) (byte_at s k 0) (omega (arith, h.low))) (rw (eq-eqb (byte_at s k 1) (count k (is_kind s 1)) (omega (arith, h.banks)), or-true)) (rw (lt-ltb (byte_at s k 0) 2 (omega arith))));
        settings = λ l. omega (arith, count-step (is_kind s 0) k false (ne_eqb (byte_at s k 0) 0 (λ x. omega arith)), h.settings (omega arith));
        banks = omega (arith, count-step (is_kind s 1) k true (eq-eqb (byte_at s k 0) 1 q), h.banks);
        low = rw add-one (omega arith);
      }

  pub head_more : (k : ℕ) → leads_at s k ≡ true → Head k → Head (k + 1)
  head_more k e h =
      ⊎_elim
      (λ a. settings_next k (eqb-true k 0 (and_left (eqb k 0) _ a)) (eqb-true (byte_at s k 0) 0 (and_right (eqb k 0) _ a)) h)
      (λ b. bank_next k (eqb-true (byte_at s k 0) 1 (and_left (eqb (byte_at s k 0) 1) _ b)) (eqb-true (byte_at s k 1 + 1) k (and_right (eqb (byte_at s k 0) 1) _ b)) h)
      (or_cases (eqb k 0 && eqb (byte_at s k 0) 0) _ e)

  pub head_all : (k : ℕ) → all k (leads_at s) ≡ true → Head k
  unfolding all
  head_all zero e = head_none
  head_all (suc k) e = rw (← add-one) (head_more k (and_right (all k (leads_at s)) _ e) (head_all k (and_left (all k (leads_at s)) _ e)))

  -- the settings a second time, or a bank whose number is not its place
  settings_wrong : (k : ℕ) → k < records s → 0 < k → byte_at s k 0 ≡ 0 → Head k → right_order ≡ false
  unfolding kind_count
  settings_wrong k l z q h =
      let more = count_mono (is_kind s 0) (k + 1) (records s) (omega arith) in
      rw (ne_eqb (count (records s) (is_kind s 0)) 1 (λ x. omega (arith, more, count-step (is_kind s 0) k true (eq-eqb (byte_at s k 0) 0 q), h.settings z)))

  bank_wrong : (k : ℕ) → k < records s → 0 < k → byte_at s k 0 ≡ 1 → (byte_at s k 1 + 1 ≡ k → ⊥) → Head k → right_order ≡ false
  bank_wrong k l z q b h =
      stop_here k l (rw (eq-eqb (byte_at s k 0) 1 q, ne_eqb (byte_at s k 1) (count k (is_kind s 1)) (λ x. b (omega (arith, h.banks))), and-false))

  pub head_stop : (k : ℕ) → k < records s → byte_at s k 0 ≤ 1 → leads_at s k ≡ false → Head k → right_order ≡ false
  head_stop k l a e h =
      let first = or_left_no (eqb k 0 && eqb (byte_at s k 0) 0) _ e in
      let bank = or_right_no (eqb k 0 && eqb (byte_at s k 0) 0) _ e in
      ⊎_elim
      (λ z. first_wrong (λ m. pos_of_ne-zero (λ q. absurd (false≢true (sym first ∙ and_intro _ _ (eq-eqb k 0 (sym z)) (eq-eqb (byte_at s k 0) 0 (rw (← z) q)))))))
      (λ z. ⊎_elim
      (λ q. bank_wrong k l z q (λ b. absurd (false≢true (sym bank ∙ and_intro _ _ (eq-eqb (byte_at s k 0) 1 q) (eq-eqb (byte_at s k 1 + 1) k b)))) h)
      (λ q. settings_wrong k l z (omega arith) h)
      (eq-or-lt_of_le a))
      (eq-or-lt_of_le {n = 0} (omega arith))

  -- behind the first k, which lead the file, and where the next does not
  pub rest_none : (k : ℕ) → (k ≡ 0 → ⊥) → all k (leads_at s) ≡ true → (k < records s → leads_at s k ≡ false) → Rest (k - 1) 2 k
  rest_none k z lead stop =
      let h = head_all k lead in
      record {
        right = h.right;
        settings = h.settings (pos_of_ne-zero z);
        counted = h.banks;
        high = omega arith;
        next = λ e. le-leb (kind_before s k) (byte_at s k 0) (omega (arith, h.low, leb-true 2 (byte_at s k 0) e));
        stops = λ l e. head_stop k l (omega (arith, leb-false 2 (byte_at s k 0) e)) (stop l) h;
      }

  rises_next : (k : ℕ) → rises s (k + 1) ≡ leb (byte_at s k 0) (byte_at s (k + 1) 0)
  rises_next k = rw add-one

  module _ (banks last k : ℕ) (l : k < records s) (h : Rest banks last k) where
    names_there : leb last (byte_at s k 0) ≡ true → names_before s k ≡ (ltb 5 (byte_at s k 0) || (eqb (byte_at s k 1) 255 || ltb (byte_at s k 1) banks))
    names_there a = let q = leb-true last (byte_at s k 0) a in rw (le-ltb (byte_at s k 0) 2 (omega (arith, h.high)), h.counted)

    pub rest_more : follows_at s k last banks ≡ true → Rest banks (byte_at s k 0) (k + 1)
    rest_more e =
        let a = and_left (leb last (byte_at s k 0)) _ e in
        let q = leb-true last (byte_at s k 0) a in
        let no : is_kind s 1 k ≡ false = ne_eqb (byte_at s k 0) 1 (λ x. omega (arith, h.high)) in
        record {
          right = all_more _ k h.right (here k (h.next a) (rw no) (names_there a ∙ and_right (leb last (byte_at s k 0)) _ e));
          settings = omega (arith, count-step (is_kind s 0) k false (ne_eqb (byte_at s k 0) 0 (λ x. omega (arith, h.high))), h.settings);
          counted = omega (arith, count-step (is_kind s 1) k false no, h.counted);
          high = omega (arith, h.high);
          next = λ e. rises_next k ∙ e;
          stops = λ m e. stop_here (k + 1) m (no_left _ _ (rises_next k ∙ e));
        }

    pub rest_stop : follows_at s k last banks ≡ false → right_order ≡ false
    rest_stop e =
        ⊎_elim
        (h.stops l)
        (λ w. stop_here k l (rw (names_there w.0, w.1, and-false (runs s k), and-false)))
        (and_no (leb last (byte_at s k 0)) _ e)

  pub none_found : right_order ≡ false → None ≡ cond right_order (Some (bank_count s + 1)) None
  none_found e = rw e

  pub all_found : (from last k : ℕ) → (from ≡ 0 → ⊥) → k ≤ records s → records s ≤ k → Rest (from - 1) last k → Some from ≡ cond right_order (Some (bank_count s + 1)) None
  unfolding kind_count
  all_found from last k z a b h =
      let settings = count-done (is_kind s 0) k (records s) a b in
      let banks = count-done (is_kind s 1) k (records s) a b in
      rw (eq-eqb (count (records s) (is_kind s 0)) 1 (omega (arith, h.settings)), ← ordered_same, ← all_done (ordered_here s) k (records s) a b h.right)
      (ap Some (omega (arith, pos_of_ne-zero z, h.counted)))
