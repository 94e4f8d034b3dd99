-- A search, a walk and a choice that count up one number at a time, in the words of the definitions. The code goes by iterators now (Rows.antt); these are kept
-- since they say what a definition gives, one number further. Assumes nothing.
use Rattle.std.specs.Prelude.{ℕ, ◌+◌, ◌≤◌, ◌<◌, ◌≡◌, List, [], ◌∷◌, ◌++◌, map, Bool, true, false, get_or, None, Option, Some}
use Rattle.std.proofs.Math.Path.{refl}
use Rattle.std.proofs.Common.{sym, ◌∙◌, ⊎_elim, eq-or-lt_of_le, add-zero, arith}
use Rattle.std.proofs.lemmas.List.{map-append}
use Rattle.base.specs.Range.{count, bit}
use Rattle.base.proofs.RangeLaws.{bit_le, count_none, count-more}
use Rattle.base.specs.First.{first, or_else}
use Rattle.base.proofs.FirstLaws.{first-hit, first_each, until-done}
use Rattle.profile.specs.Profile.{records}
use Rattle.lookup.specs.declared.Command.{Command}
use Rattle.lookup.specs.declared.Entry.{Entry}
use Rattle.lookup.specs.Gather.{gather}
use Rattle.lookup.specs.Lookup.{is_entry, is_past, reach, entry, of_part, entry_at, transports_of, place, merged, before, times}
use Rattle.lookup.proofs.GatherLaws.{gather_yes, gather_no}
use Rattle.lookup.proofs.LookupLaws.{entry-is}
use Rattle.lookup.proofs.CommonLaws.{Best, times_at}

-- no number below n passes
pub first-nothing : (p : ℕ → Bool) (n : ℕ) → ((k : ℕ) → k < n → p k ≡ false) → first n p ≡ None
first-nothing p n h = first_each p n h

-- a walk that has met no record of a higher kind before k, where the file ends
pub reach-end : (s : List ℕ) (kind k : ℕ) → first k (is_past s kind) ≡ None → k ≤ records s → records s ≤ k → reach s kind ≡ k
unfolding reach
reach-end s kind k none a b = until-done (is_past s kind) k (records s) a b none

-- `find`: the record at which it stands is the one, or there is none
module _ (s : List ℕ) (kind part number k : ℕ) (none : first k (is_entry s kind part number) ≡ None) where
  pub entry-hit : k < reach s kind → is_entry s kind part number k ≡ true → Some k ≡ entry s kind part number
  unfolding entry
  entry-hit l e = first-hit (is_entry s kind part number) (reach s kind) k none e l

  pub entry-none : reach s kind ≡ k → None ≡ entry s kind part number
  unfolding entry
  entry-none e = rw e (sym none)

-- the same, as a call of `find` leaves it
pub entry_in : (s : List ℕ) (kind part number k : ℕ) (f : Option ℕ) → f ≡ entry s kind part number → f ≡ Some k → k < records s
entry_in s kind part number k f e q = (entry-is s kind part number k (sym e ∙ q)).in_file

-- "Globals precede the bank": r is what the globals have, h what the bank has
pub runs_there : (r f g : Option Command) (c : Command) → r ≡ f → r ≡ Some c → Some c ≡ before f g
runs_there r f g c e q = rw (← e, q)

pub runs_elsewhere : (r f g h : Option Command) → r ≡ f → r ≡ None → h ≡ g → h ≡ before f g
runs_elsewhere r f g h e q p = rw (← e, q) p

pub place_there : (r f g : Option ℕ) (k : ℕ) → r ≡ f → r ≡ Some k → Some k ≡ or_else f g
place_there r f g k e q = rw (← e, q)

pub place_elsewhere : (r f g h : Option ℕ) → r ≡ f → r ≡ None → h ≡ g → h ≡ or_else f g
place_elsewhere r f g h e q p = rw (← e, q) p

-- what is found in such a list, by the number that it came from
abbrev pub from : {A : Type 0} → (ℕ → A) → Option ℕ → Option A
from g (Some k) = Some (g k)
from g None = None

module _ {A : Type 0} (p : ℕ → Bool) (g : ℕ → A) where
  pub gather_none : gather 0 p g ≡ []
  unfolding gather
  gather_none = refl

-- a loop that knows how many of those before k there are: its invariant, and a law for each way through a turn
pub record Walked (p : ℕ → Bool) (m k : ℕ) : Type 0 where
  pub le : m ≤ k
  pub is : m ≡ count k p

module _ (p : ℕ → Bool) where
  pub walked_none : Walked p 0 0
  walked_none = record { le = omega arith; is = sym (count_none p) }

  pub walked_no : (m k : ℕ) → Walked p m k → p k ≡ false → Walked p m (k + 1)
  walked_no m k w e = record { le = omega arith; is = rw (count-more, e, add-zero) w.is }

  -- whichever it is
  pub walked_on : (m k b : ℕ) → Walked p m k → b ≡ bit (p k) → Walked p (m + b) (k + 1)
  walked_on m k b w e = record { le = omega (arith, bit_le (p k)); is = cc (w.is, count-more p k) }

  pub walked_yes : (m k : ℕ) → Walked p m k → p k ≡ true → Walked p (m + 1) (k + 1)
  walked_yes m k w e = record { le = omega arith; is = rw (count-more, e, ← w.is) }

-- one more record's number behind those in an array
pub seen-one-more : (s ks rs : List ℕ) (k : ℕ) → rs ≡ ks ++ (k ∷ []) → map (entry_at s) rs ≡ map (entry_at s) ks ++ (entry_at s k ∷ [])
seen-one-more s ks rs k e = rw (e, map-append)

module _ (s : List ℕ) (part : ℕ) where
  -- making the list: it is l so far
  module _ (k : ℕ) (l : List Entry) (is : l ≡ gather k (of_part s 5 part) (entry_at s)) where
    pub own_yes : (r : List Entry) → r ≡ l ++ (entry_at s k ∷ []) → of_part s 5 part k ≡ true → r ≡ gather (k + 1) (of_part s 5 part) (entry_at s)
    own_yes r h y = h ∙ rw is (sym (gather_yes (of_part s 5 part) (entry_at s) k y))

    pub own_no : of_part s 5 part k ≡ false → l ≡ gather (k + 1) (of_part s 5 part) (entry_at s)
    own_no y = is ∙ sym (gather_no (of_part s 5 part) (entry_at s) k y)

    pub own_done : reach s 5 ≡ k → l ≡ transports_of s part
    unfolding transports_of
    own_done e = is ∙ rw e

-- one more global entry is placed last
merged_snoc : (xs : List Entry) (e : Entry) (own : List Entry) → merged (xs ++ (e ∷ [])) own ≡ place e (merged xs own)
unfolding merged
merged_snoc [] e own = refl
merged_snoc (x ∷ xs) e own = merged_snoc xs e (place x own)

-- merging the globals: the list is l so far
module _ (s : List ℕ) (k : ℕ) (own l : List Entry) (is : l ≡ merged (gather k (of_part s 5 255) (entry_at s)) own) where
  pub merged_yes : (r : List Entry) → r ≡ place (entry_at s k) l → of_part s 5 255 k ≡ true → r ≡ merged (gather (k + 1) (of_part s 5 255) (entry_at s)) own
  merged_yes r h y = h ∙ rw (is, gather_yes (of_part s 5 255) (entry_at s) k y) (sym (merged_snoc (gather k (of_part s 5 255) (entry_at s)) (entry_at s k) own))

  pub merged_no : of_part s 5 255 k ≡ false → l ≡ merged (gather (k + 1) (of_part s 5 255) (entry_at s)) own
  merged_no y = is ∙ rw (gather_no (of_part s 5 255) (entry_at s) k y)

  pub merged-done : reach s 5 ≡ k → l ≡ merged (transports_of s 255) own
  unfolding transports_of
  merged-done e = is ∙ rw e

pub merged-none : (s : List ℕ) (own l : List Entry) → l ≡ own → l ≡ merged (gather 0 (of_part s 5 255) (entry_at s)) own
unfolding merged
merged-none s own l e = e ∙ rw (gather_none (of_part s 5 255) (entry_at s))

-- ── the loop of `most_common` ──

pub best_start : (l : List ℕ) (x often : ℕ) → x ≡ get_or l 0 0 → often ≡ times x l → Best l 1 x often
best_start l x often e h =
    let q : often ≡ times_at l 0 = h ∙ rw e in
    record {
      p = 0;
      before = omega arith;
      is = e;
      counted = q;
      most = λ j m. let z : j ≡ 0 = omega arith in rw z (omega arith);
      earlier = λ j m. absurd (omega arith);
    }

module _ (l : List ℕ) (i best often : ℕ) (b : Best l i best often) (x m : ℕ) (e : x ≡ get_or l i 0) (h : m ≡ times x l) where
  at_i : m ≡ times_at l i
  at_i = h ∙ rw e

  pub best_keep : m ≤ often → Best l (i + 1) best often
  best_keep q =
      record {
        p = b.p;
        before = omega (arith, b.before);
        is = b.is;
        counted = b.counted;
        most = λ j n. ⊎_elim (λ z. let w : j ≡ i = omega arith in rw (w, ← at_i) q) (λ n'. b.most j (omega arith)) (eq-or-lt_of_le n);
        earlier = b.earlier;
      }

  pub best_new : often < m → Best l (i + 1) x m
  best_new q =
      record {
        p = i;
        before = omega arith;
        is = e;
        counted = at_i;
        most = λ j n. ⊎_elim (λ z. let w : j ≡ i = omega arith in rw (w, ← at_i) (omega arith)) (λ n'. omega (arith, b.most j (omega arith))) (eq-or-lt_of_le n);
        earlier = λ j n. omega (arith, b.most j n);
      }
