-- What number 11 counts: a mute or a solo of which it says that it fits silences at most 256 targets, none twice, at every moment. Assumes nothing.
use Prim.Native.Nat.{ℕ, zero, suc, ◌+◌, ◌≤◌}
use Rattle.std.specs.Prelude.{◌≡◌, Bool, not, ltb, length, Float, None, Option, Some}
use Rattle.std.proofs.Math.Path.{refl}
use Rattle.std.proofs.Common.{sym, ap, ◌∙◌, true≢false}
use Rattle.std.proofs.Math.Bool.{true, false}
use Rattle.std.proofs.lemmas.Bool.{false≢true}
use mathlib.Core.List.{List, [], ◌∷◌, ◌++◌, map}
use native.Mathlib.Omega.{arith}
use Rattle.std.proofs.Math.Dec.{eqb}
use Rattle.std.proofs.lemmas.List.{length-map}
use borrow.Author.Tests.{eqb-true, eqb-false, eq-eqb, ne_eqb, lt-ltb}
use Rattle.base.specs.Choice.{pick}
use Rattle.base.specs.Keyed.{any_of, all_of, change, keep, no_twice}
use Rattle.base.proofs.Pigeon.{left_of_lem, right_of, all-change, no_left, no_right, first_no, rest_no}
use Rattle.float.specs.Leaf.{f0}
use Rattle.lookup.specs.declared.Destination.{Destination}
use Rattle.drivers.specs.Talk.{Talk, Act, next}
use Rattle.session.specs.Session.{SilencedLevel, silenced_at, targets_of, is_silenced, same_target, has_room, is_target, other_target, insert_level, remove_level, was_muted}
use Rattle.session.specs.WellLists.{same_silenced}
use Rattle.session.proofs.SessionLaws.{insert_level_once, remove_level_once}
use Rattle.session.specs.declared.Lamps.{Lamps}
use Rattle.definition.specs.Rig.{Rig, destination}
use Rattle.definition.specs.Levels.{read, kept_by, has_mute, or_zero}
use Rattle.definition.specs.Muting.{hand_back, keep_level, zeroed, mute_level, mute_if, mute_to, mute, peer, back_if, off_if, off_to, solo_off, note_if, silence_if, on_if, on_to, solo_on, solo_if, solo_with, solo, is_same, add_target, adding, solo_adds, adds_to, added_by_solo, added_by_mute}

-- ── any list ──

-- one of two passes: the second may be another that follows from it
or_then : (b : Bool) {c d : Bool} → (c ≡ true → d ≡ true) → pick b true c ≡ true → pick b true d ≡ true
or_then true h e = refl
or_then false h e = h e

or_second : (b : Bool) {c : Bool} → c ≡ true → pick b true c ≡ true
or_second true e = refl
or_second false e = e

module _ {A : Type 0} where
  pub any-first : (f : A → Bool) (a b : List A) → any_of f a ≡ true → any_of f (a ++ b) ≡ true
  unfolding any_of
  any-first f [] b e = absurd (false≢true e)
  any-first f (x ∷ a) b e = or_then (f x) (any-first f a b) e

  pub any_second : (f : A → Bool) (a b : List A) → any_of f b ≡ true → any_of f (a ++ b) ≡ true
  unfolding any_of
  any_second f [] b e = e
  any_second f (x ∷ a) b e = or_second (f x) (any_second f a b e)

  -- the second of two lists may grow
  pub any_both : (f : A → Bool) (a b c : List A) → (any_of f b ≡ true → any_of f c ≡ true) → any_of f (a ++ b) ≡ true → any_of f (a ++ c) ≡ true
  unfolding any_of
  any_both f [] b c h e = h e
  any_both f (x ∷ a) b c h e = or_then (f x) (any_both f a b c h) e

  -- a change that leaves those that are there loses none
  any-still : (f g : A → Bool) (y : A) (l : List A) → any_of g l ≡ true → any_of g (change f (λ x. x) y l) ≡ true
  unfolding any_of change
  any-still f g y [] e = absurd (false≢true e)
  any-still f g y (x ∷ l) e = go (f x) (or_then (g x) (any-still f g y l) e)
    where
      go : (b : Bool) → pick (g x) true (any_of g (change f (λ z. z) y l)) ≡ true → any_of g (pick b (x ∷ l) (x ∷ change f (λ z. z) y l)) ≡ true
      go true k = e
      go false k = k

  -- and has one that passes, if the new one does
  any-made : (f : A → Bool) (y : A) (l : List A) → f y ≡ true → any_of f (change f (λ x. x) y l) ≡ true
  unfolding any_of change
  any-made f y [] e = rw e
  any-made f y (x ∷ l) e = go (f x) refl (any-made f y l e)
    where
      go : (b : Bool) → f x ≡ b → any_of f (change f (λ z. z) y l) ≡ true → any_of f (pick b (x ∷ l) (x ∷ change f (λ z. z) y l)) ≡ true
      go true q k = rw q
      go false q k = rw (q, k)

  all-kept : (f g : A → Bool) (l : List A) → all_of f l ≡ true → all_of f (keep g l) ≡ true
  unfolding all_of keep
  all-kept f g [] e = refl
  all-kept f g (x ∷ l) e = go (g x) (left_of_lem (f x) (all_of f l) e) (all-kept f g l (right_of (f x) (all_of f l) e))
    where
      go : (b : Bool) → f x ≡ true → all_of f (keep g l) ≡ true → all_of f (pick b (x ∷ keep g l) (keep g l)) ≡ true
      go true p k = rw (p, k)
      go false p k = k

  all_weaker : (f g : A → Bool) → ((x : A) → f x ≡ true → g x ≡ true) → (l : List A) → all_of f l ≡ true → all_of g l ≡ true
  unfolding all_of
  all_weaker f g h [] e = refl
  all_weaker f g h (x ∷ l) e = rw (h x (left_of_lem (f x) (all_of f l) e)) (all_weaker f g h l (right_of (f x) (all_of f l) e))

-- ── a list whose keys are all among others ──

abbrev pub among : List ℕ → ℕ → Bool
among m x = any_of (λ y. eqb y x) m

-- the first x is taken out
unfoldable cut : ℕ → List ℕ → List ℕ
cut x [] = []
cut x (y ∷ m) = pick (eqb y x) m (y ∷ cut x m)

cut-length : (x : ℕ) (m : List ℕ) → among m x ≡ true → length m ≡ suc (length (cut x m))
unfolding any_of cut
cut-length x [] e = absurd (false≢true e)
cut-length x (y ∷ m) e = go (eqb y x) e (cut-length x m)
  where
    go : (b : Bool) → pick b true (among m x) ≡ true → (among m x ≡ true → length m ≡ suc (length (cut x m))) →
        suc (length m) ≡ suc (length (pick b m (y ∷ cut x m)))
    go true k ih = refl
    go false k ih = ap suc (ih k)

cut-among : (x z : ℕ) (m : List ℕ) → (x ≡ z → ⊥) → among m z ≡ true → among (cut x m) z ≡ true
unfolding any_of cut
cut-among x z [] d e = e
cut-among x z (y ∷ m) d e = go (eqb y x) refl (eqb y z) refl e (cut-among x z m d)
  where
    go : (b : Bool) → eqb y x ≡ b → (c : Bool) → eqb y z ≡ c → pick c true (among m z) ≡ true →
        (among m z ≡ true → among (cut x m) z ≡ true) → among (pick b m (y ∷ cut x m)) z ≡ true
    go true p true q k ih = absurd (d (sym (eqb-true y x p) ∙ eqb-true y z q))
    go true p false q k ih = k
    go false p true q k ih = rw q
    go false p false q k ih = rw q (ih k)

module _ {A : Type 0} (key : A → ℕ) where
  cut_all : (x : ℕ) (m : List ℕ) (l : List A) → any_of (λ z. eqb x (key z)) l ≡ false → all_of (λ z. among m (key z)) l ≡ true →
      all_of (λ z. among (cut x m) (key z)) l ≡ true
  unfolding any_of all_of
  cut_all x m [] a e = refl
  cut_all x m (z ∷ l) a e =
      let d : x ≡ key z → ⊥ = eqb-false _ _ (first_no (eqb x (key z)) (any_of (λ w. eqb x (key w)) l) a) in
      rw (cut-among x (key z) m d (left_of_lem (among m (key z)) (all_of (λ w. among m (key w)) l) e))
      (cut_all x m l (rest_no (eqb x (key z)) (any_of (λ w. eqb x (key w)) l) a) (right_of (among m (key z)) (all_of (λ w. among m (key w)) l) e))

  -- a list with no key twice, each of them in m, is no longer than m
  pub fits : (l : List A) (m : List ℕ) → no_twice (λ x y. eqb (key x) (key y)) l ≡ true → all_of (λ x. among m (key x)) l ≡ true → length l ≤ length m
  unfolding no_twice all_of
  fits [] m o e = omega arith
  fits (x ∷ l) m o e =
      let here : among m (key x) ≡ true = left_of_lem (among m (key x)) (all_of (λ z. among m (key z)) l) e in
      let rest : all_of (λ z. among m (key z)) l ≡ true = right_of (among m (key x)) (all_of (λ z. among m (key z)) l) e in
      let free : any_of (λ z. eqb (key x) (key z)) l ≡ false = no_left (any_of (λ z. eqb (key x) (key z)) l) (no_twice (λ y z. eqb (key y) (key z)) l) o in
      let once : no_twice (λ y z. eqb (key y) (key z)) l ≡ true = no_right (any_of (λ z. eqb (key x) (key z)) l) (no_twice (λ y z. eqb (key y) (key z)) l) o in
      omega (arith, cut-length (key x) m here, fits l (cut (key x) m) once (cut_all (key x) m l free rest))

  -- a list's keys are among any numbers that have them all
  pub keys_among : (l : List A) (m : List ℕ) → ((x : ℕ) → among (map key l) x ≡ true → among m x ≡ true) → all_of (λ z. among m (key z)) l ≡ true
  unfolding any_of all_of
  keys_among [] m h = refl
  keys_among (x ∷ l) m h = rw (h (key x) (rw (eq-eqb (key x) (key x) refl))) (keys_among l m (λ z e. h z (or_second (eqb (key x) z) e)))

  any_keys : (x : ℕ) (l : List A) → any_of (eqb x) (map key l) ≡ any_of (λ z. eqb x (key z)) l
  unfolding any_of
  any_keys x [] = refl
  any_keys x (z ∷ l) = rw (any_keys x l)

  pub once_keys : (l : List A) → no_twice eqb (map key l) ≡ no_twice (λ x y. eqb (key x) (key y)) l
  unfolding no_twice
  once_keys [] = refl
  once_keys (x ∷ l) = rw (any_keys (key x) l, once_keys l)

-- ── silenced targets, none twice, each of them in m ──

pub record Within (m : List ℕ) (s : List SilencedLevel) : Type 0 where
  pub once : no_twice same_silenced s ≡ true
  pub all : all_of (λ e. among m e.target) s ≡ true

-- m may grow
pub grown : {m n : List ℕ} {s : List SilencedLevel} → ((x : ℕ) → among m x ≡ true → among n x ≡ true) → Within m s → Within n s
grown {m} {n} {s} h w =
    record {
      once = w.once;
      all = all_weaker (λ e. among m e.target) (λ e. among n e.target) (λ e. h e.target) s w.all;
    }

-- those held, before anything is added
pub held : (s : List SilencedLevel) (adds : List ℕ) → no_twice same_silenced s ≡ true → Within (targets_of s ++ adds) s
held s adds o =
    record { once = o; all = keys_among (λ e. e.target) s (targets_of s ++ adds) (λ x. any-first (λ y. eqb y x) (targets_of s) adds) }

-- a fader's destination without a mute is in m
abbrev pub Covered : List ℕ → Option Destination → Type 0
Covered m (Some d) = has_mute d ≡ false → among m (kept_by d) ≡ true
Covered m None = Unit {0}

module _ (m : List ℕ) where
  -- what an act leaves is within m
  abbrev pub Leaves : Act (List SilencedLevel) → Type 0
  Leaves f = (t : Talk) → Within m (f t).value

  pub insert_level_so : (target : ℕ) (v : Float) (s : List SilencedLevel) → among m target ≡ true → Within m s → Within m (insert_level target v s)
  unfolding insert_level
  insert_level_so target v s h w =
      record {
        once = insert_level_once s target v w.once;
        all = all-change (λ e. among m e.target) (is_target target) (λ e. silenced_at target v) (silenced_at target v) h (λ e. h) s w.all;
      }

  pub remove_level_so : (target : ℕ) (s : List SilencedLevel) → Within m s → Within m (remove_level target s)
  unfolding remove_level
  remove_level_so target s w =
      record {
        once = remove_level_once s target w.once;
        all = all-kept (λ e. among m e.target) (other_target target) s w.all;
      }

  back_so : (d : Destination) (s : List SilencedLevel) → Within m s → Leaves (hand_back d s)
  unfolding hand_back
  back_so d s w t = remove_level_so (kept_by d) s w

  keep_so : (d : Destination) (s : List SilencedLevel) → among m (kept_by d) ≡ true → Within m s → Leaves (keep_level d s)
  unfolding keep_level next
  keep_so d s h w t = insert_level_so (kept_by d) (or_zero (read d t).value) s h w

  zeroed_so : (d : Destination) (s : List SilencedLevel) → among m (kept_by d) ≡ true → Within m s → Leaves (zeroed d s)
  unfolding zeroed next
  zeroed_so d s h w t = keep_so d s h w t

  -- ── mute ──
  mute_level_so : (b : Bool) (d : Destination) (s : List SilencedLevel) → among m (kept_by d) ≡ true → Within m s → Leaves (mute_level b d s)
  mute_level_so true d s h w = back_so d s w
  mute_level_so false d s h w = zeroed_so d s h w

  mute_if_so : (b : Bool) (d : Destination) (s : List SilencedLevel) → (b ≡ false → among m (kept_by d) ≡ true) → Within m s → Leaves (mute_if b d s)
  mute_if_so true d s h w t = w
  mute_if_so false d s h w t = mute_level_so (is_silenced (kept_by d) (targets_of s)) d s (h refl) w t

  mute_to_so : (f : Option Destination) (r : Rig) (l : Lamps) (s : List SilencedLevel) → Covered m f → Within m s → Leaves (mute_to f r l s)
  unfolding next
  mute_to_so (Some d) r l s h w t = mute_if_so (has_mute d) d s h w t
  mute_to_so None r l s h w t = w

  -- ── solo off ──
  back_if_so : (b : Bool) (d : Destination) (s : List SilencedLevel) → Within m s → Leaves (back_if b d s)
  back_if_so true d s w t = back_so d s w t
  back_if_so false d s w t = w

  off_if_so : (b : Bool) (d : Destination) (was : Bool) (s : List SilencedLevel) → Within m s → Leaves (off_if b d was s)
  off_if_so true d was s w t = w
  off_if_so false d was s w t = back_if_so (is_silenced (kept_by d) (targets_of s)) d s w t

  off_to_so : (f : Option Destination) (was : Bool) (s : List SilencedLevel) → Within m s → Leaves (off_to f was s)
  off_to_so (Some d) was s w t = off_if_so (has_mute d) d was s w t
  off_to_so None was s w t = w

  solo_off_so : (of : ℕ → Option Destination) (l : Lamps) (n : ℕ) (s : List SilencedLevel) → Within m s → Leaves (solo_off of l n s)
  unfolding solo_off next
  solo_off_so of l zero s w t = w
  solo_off_so of l (suc n) s w t = let u = solo_off of l n s t in off_to_so (of (n + 1)) (was_muted (n + 1) l) u.value (solo_off_so of l n s w t) u.talk

  -- ── solo on: a peer is silenced only where it is covered ──
  silence_so : (b : Bool) (d : Destination) (s : List SilencedLevel) → among m (kept_by d) ≡ true → Within m s → Leaves (silence_if b d s)
  unfolding next
  silence_so true d s h w t = w
  silence_so false d s h w t = keep_so d s h w t

  on_so : (b : Bool) (d : Destination) (s : List SilencedLevel) → (b ≡ false → among m (kept_by d) ≡ true) → Within m s → Leaves (on_if b d true s)
  on_so true d s h w t = w
  on_so false d s h w t = silence_so (is_silenced (kept_by d) (targets_of s)) d s (h refl) w t

  alone_so : (b : Bool) (d : Destination) (s : List SilencedLevel) → Within m s → Leaves (on_if b d false s)
  alone_so true d s w t = w
  alone_so false d s w t = back_if_so (is_silenced (kept_by d) (targets_of s)) d s w t

  -- `self`: it is the fader itself
  pub on_to_so : (self : Bool) (f : Option Destination) (s : List SilencedLevel) → Covered m (pick self None f) → Within m s → Leaves (on_to f (not self) s)
  on_to_so true (Some d) s h w t = alone_so (has_mute d) d s w t
  on_to_so false (Some d) s h w t = on_so (has_mute d) d s h w t
  on_to_so true None s h w t = w
  on_to_so false None s h w t = w

-- ── what number 11 counts covers the destination ──

module _ (ts l : List ℕ) where
  abbrev made : ℕ → List ℕ
  made x = change (is_same x) (λ z. z) x l

  pub adding-more : (f : Option Destination) (x : ℕ) → among l x ≡ true → among (adding f ts l) x ≡ true
  adding-more None x e = e
  adding-more (Some d) x e = go (has_mute d)
    where
      at : (h : Bool) → among (pick h l (made (kept_by d))) x ≡ true
      at true = e
      at false = any-still (is_same (kept_by d)) (λ y. eqb y x) (kept_by d) l e

      go : (b : Bool) → among (add_target b (kept_by d) ts l) x ≡ true
      go true = e
      go false = at (is_silenced (kept_by d) ts)

  pub adding_covers : (f : Option Destination) → Covered (ts ++ adding f ts l) f
  unfolding is_silenced
  adding_covers None = tt
  adding_covers (Some d) = go (has_mute d)
    where
      at : (h : Bool) → is_silenced (kept_by d) ts ≡ h → among (ts ++ pick h l (made (kept_by d))) (kept_by d) ≡ true
      at true e = any-first (λ y. eqb y (kept_by d)) ts l e
      at false e =
          any_second (λ y. eqb y (kept_by d)) ts (made (kept_by d)) (any-made (is_same (kept_by d)) (kept_by d) l (eq-eqb (kept_by d) (kept_by d) refl))

      go : (b : Bool) → b ≡ false → among (ts ++ add_target b (kept_by d) ts l) (kept_by d) ≡ true
      go true e = absurd (true≢false e)
      go false e = at (is_silenced (kept_by d) ts) refl

module _ (s : List SilencedLevel) (o : no_twice same_silenced s ≡ true) where
  abbrev ts : List ℕ
  ts = targets_of s

  pub mute_so : (r : Rig) (n : ℕ) (l : Lamps) → Leaves (ts ++ added_by_mute r n ts) (mute r n l s)
  unfolding mute added_by_mute
  mute_so r n l = let f = destination r n in mute_to_so (ts ++ adding f ts []) f r l s (adding_covers ts [] f) (held s (adding f ts []) o)

  pub solo_on_so : (of : ℕ → Option Destination) (fader n : ℕ) → Leaves (ts ++ solo_adds of fader ts n) (solo_on of fader n s)
  unfolding solo_on solo_adds next
  solo_on_so of fader zero t = held s [] o
  solo_on_so of fader (suc n) t =
      let u = solo_on of fader n s t in
      let adds = solo_adds of fader ts n in
      let f = pick (eqb (n + 1) fader) None (of (n + 1)) in
      on_to_so (ts ++ adding f ts adds) (eqb (n + 1) fader) (of (n + 1)) u.value (adding_covers ts adds f)
      (grown (λ x. any_both (λ y. eqb y x) ts adds (adding f ts adds) (adding-more ts adds f x)) (solo_on_so of fader n t))
      u.talk

  solo_if_so : (r : Rig) (b : Bool) (group fader : ℕ) (l : Lamps) (t : Talk) →
      Within (ts ++ pick b [] (solo_adds (peer r group) fader ts 16)) (solo_if b r group fader l s t).value.silenced
  unfolding next
  solo_if_so r true group fader l t = solo_off_so (ts ++ []) (peer r group) l 16 s (held s [] o) t
  solo_if_so r false group fader l t = solo_on_so (peer r group) fader 16 (note_if (eqb l.soloed 0) (peer r group) ts l t).talk

  solo_with_so : (f : Option Destination) (r : Rig) (fader : ℕ) (l : Lamps) (t : Talk) → Within (ts ++ adds_to f r fader l ts) (solo_with f r fader l s t).value.silenced
  solo_with_so (Some d) r fader l t = solo_if_so r (eqb l.soloed fader) d.group fader l t
  solo_with_so None r fader l t = held s [] o

  pub solo_so : (r : Rig) (n : ℕ) (l : Lamps) (t : Talk) → Within (ts ++ added_by_solo r n l ts) (solo r n l s t).value.silenced
  unfolding solo added_by_solo
  solo_so r n l t = solo_with_so (destination r n) r n l t

-- ── room ──

-- a target that is not among those silenced
not-among : (target : ℕ) (l : List SilencedLevel) → any_of (same_target target) (targets_of l) ≡ false → any_of (same_silenced (silenced_at target f0)) l ≡ false
unfolding any_of
not-among target [] e = refl
not-among target (x ∷ l) e =
    let d : x.target ≡ target → ⊥ = eqb-false _ _ (first_no (eqb x.target target) (any_of (same_target target) (targets_of l)) e) in
    rw (ne_eqb target x.target (λ q. d (sym q)), not-among target l (rest_no (eqb x.target target) (any_of (same_target target) (targets_of l)) e))

one_more : (m : List ℕ) (s : List SilencedLevel) (target : ℕ) → Within m s → among m target ≡ true → any_of (same_target target) (targets_of s) ≡ false →
    Within m (silenced_at target f0 ∷ s)
unfolding no_twice all_of
one_more m s target w h e = record { once = rw (not-among target s e, w.once); all = rw (h, w.all) }

-- those within m, none twice, leave room for one more of m
pub room_within : (m : List ℕ) (s : List SilencedLevel) (target : ℕ) → Within m s → among m target ≡ true → length m ≤ 256 → has_room target (targets_of s) ≡ true
unfolding has_room
room_within m s target w h few = go (any_of (same_target target) (targets_of s)) refl
  where
    go : (b : Bool) → any_of (same_target target) (targets_of s) ≡ b → pick b true (ltb (length (targets_of s)) 256) ≡ true
    go true e = refl
    go false e =
        let x = one_more m s target w h e in
        let short : suc (length s) ≤ length m = fits (λ e. e.target) (silenced_at target f0 ∷ s) m x.once x.all in
        let same : length (targets_of s) ≡ length s = length-map s (λ e. e.target) in
        lt-ltb (length (targets_of s)) 256 (omega arith)
