-- A move's verdict on every desk, the sums and the line applied one by one, and what a search among the records shows of the sums. Assumes nothing.
use Rattle.std.specs.Prelude.{ℕ, ◌+◌, ◌≤◌, ◌<◌, ◌≡◌, List, [], ◌∷◌, Bool, true, false, ◌&&◌, not, length, drop, get_or, take, position, Float, None, Option, Some, ℤ, pos, ◌+ℤ◌, ◌⊎◌}
use mathlib.Core.Logic.{inl, inr}
use Rattle.std.proofs.Common.{refl, sym, ap, ◌∙◌, arith, add-one, true≢false, drop_of_length-le, length-take-le, take_all, le-leb}
use Rattle.std.proofs.lemmas.Bool.{not-true, not-false}
use borrow.Author.Tests.{lt-leb}
use lib.Seq.{drop-cons}
use Rattle.base.specs.Keyed.{find, all_of, beside}
use Rattle.base.proofs.Pigeon.{left_of_lem, right_of}
use Rattle.base.proofs.KeyedLaws as laws
use Rattle.base.proofs.BesideLaws as side
use Rattle.lookup.specs.declared.Destination.{Destination}
use Rattle.drivers.specs.Talk.{Talk, got, next}
use Rattle.session.specs.Session.{Turn, turn_at, turns_up_to, is_encoder, wires_to, is_dest, low_channel}
use Rattle.session.proofs.SearchLaws.{place-in, no-place-in}
use Rattle.session.specs.WellLists.{sums_in}
use Rattle.session.proofs.SessionLaws.{sums_long, same_sum}
use Rattle.session.specs.declared.Move.{Move}
use Rattle.definition.specs.Rig.{Rig, destination}
use Rattle.definition.specs.Levels.{read}
use Rattle.definition.specs.Faders.{is_held, in_range, declined_by, nudges, apply_nudge, write_move, writes}
use Rattle.hands.specs.Verdicts.{Fades}
use Rattle.hands.specs.declared.Verdict.TheVariants.{Held, Taken}

-- ── a move ──

-- where no mark stands, the definition's test is the waiver alone
asked : (takeover : Bool) → takeover ≡ true → (takeover && not false) ≡ true
asked true q = refl
asked false q = absurd (true≢false (sym q))

module _ (e : Destination) (last : Option Float) (value : Float) (t : Talk) (c : Option Float) (u : Talk) (b : Bool)
    (q : e.takeover ≡ true) (r : got c u ≡ read e t) (h : b ≡ is_held c last value) where
  pub held : b ≡ true → Fades (Some e) last value t Held u
  unfolding next
  held s k ch d i j = rw (i, asked e.takeover q, ← r, j, ← h, s)

  pub taken : b ≡ false → Fades (Some e) last value t Taken u
  unfolding next
  taken s k ch d i j = rw (i, asked e.takeover q, ← r, j, ← h, s)

-- ── the sums, one by one ──

module _ (p ks : List ℕ) (ns : List ℤ) (k : ℕ) (z : ℤ) where
  pub one_nudge : (t u : Talk) → u ≡ apply_nudge (turn_at p k z) t → nudges (beside (turn_at p) ks ns) u ≡ nudges (beside (turn_at p) (k ∷ ks) (z ∷ ns)) t
  unfolding nudges beside
  one_nudge t u e = rw e

pub its_encoder : (p ks : List ℕ) (k : ℕ) → all_of (is_encoder p) (k ∷ ks) ≡ true → (is_encoder p k ≡ true) × (all_of (is_encoder p) ks ≡ true)
unfolding all_of
its_encoder p ks k e = (left_of_lem (is_encoder p k) (all_of (is_encoder p) ks) e, right_of (is_encoder p k) (all_of (is_encoder p) ks) e)

pub all_nudged : (p ks : List ℕ) (ns : List ℤ) (t : Talk) → (ks ≡ []) ⊎ (ns ≡ []) → nudges (beside (turn_at p) ks ns) t ≡ t
unfolding nudges beside
all_nudged p ks ns t (inl e) = rw e
all_nudged p [] ns t (inr e) = refl
all_nudged p (k ∷ ks) ns t (inr e) = rw e

-- ── the line, one by one ──

module _ (r : Rig) (ms : List Move) (i : ℕ) where
  pub one_write : (d : Move) (t u : Talk) → i < length ms → u ≡ write_move r.positions (destination r ((get_or ms i d).channel + 1)) (get_or ms i d) t →
      writes r (drop (i + 1) ms) u ≡ writes r (drop i ms) t
  unfolding writes
  one_write d t u h e = rw (drop-cons ms i d h, e, add-one)

  pub all_written : (t : Talk) → length ms ≤ i → writes r (drop i ms) t ≡ t
  unfolding writes
  all_written t h = rw (drop_of_length-le ms {i = i} h)

pub low_at : (ms : List Move) (i : ℕ) (d : Move) → i < length ms → all_of low_channel ms ≡ true → low_channel (get_or ms i d) ≡ true
low_at ms i d h e = laws.each low_channel d ms (length ms) i (omega arith) h (rw (take_all (length ms) ms (omega arith)) e)

-- ── what a search among the first n of the records shows of the sums ──
module _ (p ks : List ℕ) (ns : List ℤ) (n : ℕ) (d : Destination) (delta : ℤ) (lk : length ks ≡ 136) (ln : length ns ≡ 136) (within : n ≤ 136) where
  abbrev sums : List Turn
  sums = sums_in p ks ns

  abbrev pub verdict : ℕ
  verdict = declined_by (find (is_dest d) (turns_up_to p n ks ns)) delta (turns_up_to p n ks ns)

  sum_there : (i : ℕ) → position (wires_to p d) (take n ks) ≡ Some i → find (is_dest d) (turns_up_to p n ks ns) ≡ Some (turn_at p (get_or ks i 0) (get_or ns i (pos 0)))
  sum_there i e =
      let w = place-in (wires_to p d) ks n i (omega (arith, lk)) e in
      rw (side.beside-take (turn_at p) n ks ns, laws.found (is_dest d) (turn_at p 0 (pos 0)) sums n i (same_sum p ks ns lk ln n i d within w.0) (omega (arith, sums_long p ks ns lk ln)) w.1)
      (ap Some (side.beside-get_or (turn_at p) 0 (pos 0) ks ns i (omega (arith, lk, ln))))

  sum_missing : position (wires_to p d) (take n ks) ≡ None → find (is_dest d) (turns_up_to p n ks ns) ≡ None
  sum_missing e =
      let w = no-place-in (wires_to p d) ks n (omega (arith, lk)) e in
      rw (side.beside-take (turn_at p) n ks ns) (laws.not_found (is_dest d) (turn_at p 0 (pos 0)) sums n n (same_sum p ks ns lk ln n n d within w) (omega (arith, sums_long p ks ns lk ln)) (omega arith))

  how_many : length (turns_up_to p n ks ns) ≡ n
  how_many = rw (side.beside-take (turn_at p) n ks ns) (length-take-le n sums (omega (arith, sums_long p ks ns lk ln)))

  module _ (i : ℕ) (e : position (wires_to p d) (take n ks) ≡ Some i) (b : Bool) (q : b ≡ not (in_range (get_or ns i (pos 0) +ℤ delta))) where
    pub out_of_range : b ≡ true → 12 ≡ verdict
    out_of_range y = rw (sum_there i e, not-true (in_range (get_or ns i (pos 0) +ℤ delta)) (sym q ∙ y))

    pub within_range : b ≡ false → 0 ≡ verdict
    within_range y = rw (sum_there i e, not-false (in_range (get_or ns i (pos 0) +ℤ delta)) (sym q ∙ y))

  pub no_place : position (wires_to p d) (take n ks) ≡ None → 136 ≤ n → 13 ≡ verdict
  no_place e l = rw (sum_missing e, how_many, le-leb 136 n l)

  pub a_place : position (wires_to p d) (take n ks) ≡ None → n < 136 → 0 ≡ verdict
  a_place e l = rw (sum_missing e, how_many, lt-leb 136 n l)
