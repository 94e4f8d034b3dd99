-- Live lists stay well shaped: a list that is handed over has its numbers strictly rising, so that none stands twice.
use Prim.Native.Nat.{ℕ, zero, suc, ◌+◌, ◌*◌, ◌≤◌, ◌<◌}
use Rattle.std.specs.Prelude.{◌≡◌, Bool, ◌&&◌, ◌||◌, not, List, [], ◌∷◌, eqb, leb, ltb, length, get_or, set, None, Option, Some}
use Rattle.std.proofs.Math.Path.{refl}
use Rattle.std.proofs.Common.{ap, arith, lt-ltb, ltb-true, ne_eqb}
use Rattle.std.proofs.Math.Bool.{true, false}
use Rattle.std.proofs.lemmas.Bool.{false≢true}
use Rattle.base.specs.Choice.{pick}
use Rattle.base.specs.Range.{all}
use Rattle.base.proofs.RangeLaws.{and_left, and_right, all_none}
use Rattle.base.specs.Words.{le16}
use Rattle.base.specs.Keyed.{any_of, all_of, no_twice}
use Rattle.base.proofs.Pigeon.{left_of_lem, right_of, all_so, all_append, once_append}
use Rattle.drivers.specs.Answers.{count_at, item_at, items_of, item_fits, live_fits, list_if, live_list, to_live, answer_to, answer_of, item_count, is_unfit, is_list}
use Rattle.drivers.specs.Talk.{Talk, next, Reply, ask_fit, ask_left, ask_room, ask_at, ask, ask_if as ask_when, open_for, use_call, plain_call, live_of}
use Rattle.drivers.specs.declared.line.Stop.{Stop}
use Rattle.drivers.specs.declared.line.Stop.TheVariants.{Going, Waits, Declined, Overrun}
use Rattle.drivers.specs.declared.Answer.{Answer}
use Rattle.drivers.specs.declared.Answer.TheVariants as answer
use Rattle.drivers.specs.declared.Call.{Call}
use Rattle.drivers.specs.declared.LiveFader.{LiveFader}
use Rattle.session.specs.Session.{strips_or}
use Rattle.session.specs.WellLists.{same_fader, WellStrips}
use Rattle.session.proofs.SessionLaws.{strips_well}
use Rattle.session.specs.declared.Lamps.{Lamps}
use Rattle.session.specs.declared.Strip.{Strip}
use Rattle.definition.specs.Rig.{Lives, Rig}
use Rattle.definition.specs.Live.{same_as, handed, change_if, ask_if, refresh_live, refresh_due}
use Rattle.bounds.specs.Room.{IsDriver}

-- ── numbers that rise ──

abbrev below : ℕ → LiveFader → Bool
below m f = ltb f.number m

below_free : (x : LiveFader) (l : List LiveFader) → all_of (below x.number) l ≡ true → any_of (λ y. same_fader y x) l ≡ false
unfolding all_of any_of
below_free x [] h = refl
below_free x (y ∷ l) h =
    let a : y.number < x.number = ltb-true _ _ (left_of_lem (below x.number y) (all_of (below x.number) l) h) in
    rw (ne_eqb y.number x.number (λ q. omega (arith, a, q))) (below_free x l (right_of (below x.number y) (all_of (below x.number) l) h))

below_more : (m n : ℕ) (l : List LiveFader) → m ≤ n → all_of (below m) l ≡ true → all_of (below n) l ≡ true
below_more m n l h k = all_so (below m) (below n) (λ x a. lt-ltb x.number n (omega (arith, ltb-true x.number m a, h))) l k

last_of : (a b c d : Bool) → (a && (b && (c && d))) ≡ true → d ≡ true
last_of a b c d h = and_right c d (and_right b (c && d) (and_right a (b && (c && d)) h))

module _ (part : List ℕ) where
  abbrev number_at : ℕ → ℕ
  number_at i = (item_at part i).number

  -- the last of n items has a number below m
  abbrev LastBelow : ℕ → ℕ → Type 0
  LastBelow zero m = Unit {0}
  LastBelow (suc i) m = number_at i < m

  fits_rises : (n : ℕ) → live_fits part n ≡ true → LastBelow n (number_at n)
  fits_rises zero h = tt
  fits_rises (suc i) h =
      let n = suc i in
      let c = last_of (item_fits part n) (not (eqb (le16 part (16 * n + 20)) 65535)) (not (eqb (le16 part (16 * n + 22)) 65535)) (eqb n 0 || ltb (get_or part (16 * n + 1) 0) (number_at n)) h in
      let q : get_or part (16 * n + 1) 0 ≡ number_at i = ap (λ (k : ℕ). get_or part k 0) (omega arith) in
      let l : get_or part (16 * n + 1) 0 < number_at n = ltb-true _ _ (rw (ne_eqb n 0 (λ e. omega (arith, e))) at c) in
      omega (arith, l, q)

  items-below : (n m : ℕ) → all n (live_fits part) ≡ true → LastBelow n m → all_of (below m) (items_of n part) ≡ true
  unfolding all items_of all_of
  items-below zero m h b = refl
  items-below (suc n) m h b =
      let f = and_right (all n (live_fits part)) (live_fits part n) h in
      let i = items-below n (number_at n) (and_left (all n (live_fits part)) (live_fits part n) h) (fits_rises n f) in
      all_append (below m) (items_of n part) (item_at part n ∷ []) (below_more (number_at n) m (items_of n part) (omega (arith, b)) i) (rw (lt-ltb (number_at n) m b))

  items_once : (n : ℕ) → all n (live_fits part) ≡ true → no_twice same_fader (items_of n part) ≡ true
  unfolding all items_of no_twice
  items_once zero h = refl
  items_once (suc n) h =
      let f = and_right (all n (live_fits part)) (live_fits part n) h in
      let g = and_left (all n (live_fits part)) (live_fits part n) h in
      once_append same_fader (items_of n part) (item_at part n) (items_once n g)
      (below_free (item_at part n) (items_of n part) (items-below n (number_at n) g (fits_rises n f)))

  -- ── the answer to `live` ──

  abbrev Listed : Answer → Type 0
  Listed a = is_list a ≡ true → all (count_at part) (live_fits part) ≡ true

  either : (b : Bool) (x y : Answer) → Listed x → Listed y → Listed (pick b x y)
  either true x y h k = h
  either false x y h k = k

  unfit : Listed answer.Unfit
  unfit e = absurd (false≢true e)

  live_listed : (k : ℕ) → Listed (to_live k part)
  unfolding to_live live_list
  live_listed k =
      either (eqb k 6) (list_if live_fits 32 part) answer.Unfit
      (either (ltb 32 (count_at part)) answer.Unfit _ unfit
      (either (ltb (count_at part) _) _ answer.Unfit (go (all (count_at part) (live_fits part)) refl) unfit)) unfit
    where
      go : (b : Bool) → all (count_at part) (live_fits part) ≡ b → Listed (pick b answer.List answer.Unfit)
      go true e q = e
      go false e q = absurd (false≢true q)

  answer_listed : Listed (answer_of part 9)
  unfolding answer_of
  answer_listed =
      either (ltb (length part) 16) answer.Unfit _ unfit
      (either (eqb (get_or part 0 0) 0) answer.Refused (answer_to 9 (get_or part 0 0) part) (λ e. absurd (false≢true e)) (live_listed (get_or part 0 0)))

  answer_once : no_twice same_fader (items_of (item_count (answer_of part 9) part) part) ≡ true
  unfolding item_count
  answer_once = go (is_list (answer_of part 9)) refl
    where
      go : (b : Bool) → is_list (answer_of part 9) ≡ b → no_twice same_fader (items_of (pick b (count_at part) 0) part) ≡ true
      go true e = items_once (count_at part) (answer_listed e)
      go false e = items_once 0 (all_none (live_fits part))

abbrev Once : Reply → Type 0
Once r = no_twice same_fader r.items ≡ true

none_once : no_twice same_fader [] ≡ true
unfolding no_twice
none_once = refl

module _ (driver which : ℕ) (t : Talk) where
  abbrev call : Call
  call = plain_call 9 driver 0 which

  fit_once : (b : Bool) → Once (ask_fit b call (answer_of t.left 9) t).value
  fit_once true = none_once
  fit_once false = answer_once t.left

  left_once : (b : Bool) → Once (ask_left b call t).value
  unfolding plain_call
  left_once true = none_once
  left_once false = fit_once (is_unfit (answer_of t.left 9))

  room_once : (b : Bool) → Once (ask_room b call t).value
  room_once true = none_once
  room_once false = left_once (eqb (length t.left) 0)

  at_once : (s : Stop) → Once (ask_at s call t).value
  at_once Going = room_once (leb 337 (length t.calls))
  at_once (Waits d) = none_once
  at_once Declined = none_once
  at_once Overrun = none_once

  when_once : (b : Bool) → Once (ask_when b call t).value
  unfolding ask
  when_once true = at_once t.stop
  when_once false = none_once

live_once : (driver which : ℕ) (t : Talk) → no_twice same_fader (live_of driver which t).value.list ≡ true
unfolding live_of use_call next
live_once driver which t =
    let c = plain_call 9 driver 0 which in
    let o = open_for c.driver c.name t in
    when_once driver which o.talk o.value

-- ── what a tick leaves ──

module _ (r : Rig) (own : eqb r.here.part.device 65535 ≡ false → IsDriver r.here.part.device) (mine : WellStrips r.here.strips) where
  change_well : (b : Bool) (l : List Strip) (x : Lamps) (s : List ℕ) (t : Talk) → WellStrips l → WellStrips (change_if b l r x s t).value.strips
  change_well true l x s t h = mine
  change_well false l x s t h = h

  ask_well : (a b : Bool) (known : Option (List Strip)) (x : Lamps) (s : List ℕ) (t : Talk) → (b ≡ false → IsDriver r.here.part.device) →
      WellStrips (ask_if (a || b) known r x s t).value.strips
  unfolding next
  ask_well true b known x s t h = mine
  ask_well false true known x s t h = mine
  ask_well false false known x s t h =
      let d = r.here.part.device in
      let u = live_of d r.here.part.live t in
      change_well (same_as known (handed d u.value)) (handed d u.value) x s u.talk
      (strips_well d u.value.list (h refl) (live_once d r.here.part.live t))

  pub refresh_well : (b : Bool) (known : Option (List Strip)) (x : Lamps) (s : List ℕ) (t : Talk) → WellStrips (refresh_due b known r x s t).value.strips
  unfolding refresh_live
  refresh_well true known x s t = ask_well (eqb r.here.part.live 65535) (eqb r.here.part.device 65535) known x s t own
  refresh_well false known x s t = mine

-- every bank's list
abbrev pub WellLives : Lives → Type 0
WellLives lives = (b : ℕ) → WellStrips (strips_or (get_or lives b None))

pub set_well : (lives : Lives) (bank : ℕ) (l : List Strip) → WellLives lives → WellStrips l → WellLives (set lives bank (Some l))
set_well [] bank l h k b = h b
set_well (x ∷ xs) zero l h k zero = k
set_well (x ∷ xs) zero l h k (suc b) = h (suc b)
set_well (x ∷ xs) (suc n) l h k zero = h zero
set_well (x ∷ xs) (suc n) l h k (suc b) = set_well xs n l (λ c. h (suc c)) k b
