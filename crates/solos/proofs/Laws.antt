-- The peers of a fader taken one at a time, room for each of them, and a solo over a table that has them. Assumes nothing.
use Rattle.std.proofs.Common.{None, Option, Some, ℕ, zero, suc, ◌+◌, ◌-◌, ◌≤◌, ◌<◌, ◌≡◌, refl, sym, subst, ap, ◌∙◌, Bool, true, false, not, List, ◌++◌, add-one, arith, eqb, leb, length, length-append, get_or, set, get_or-set_same, get_or-set_other, leb-true, leb-false}
use Rattle.std.proofs.lemmas.List.{length-map}
use Rattle.base.specs.Choice.{pick}
use Rattle.base.specs.Keyed.{change, no_twice}
use Rattle.base.proofs.KeyedLaws.{change_longer}
use Rattle.lookup.specs.declared.Destination.{Destination}
use Rattle.drivers.specs.Talk.{Talk, Got, got, next}
use Rattle.session.specs.Session.{SilencedLevel, targets_of, is_silenced, has_room, was_muted, note_muted, none_noted}
use Rattle.session.specs.WellLists.{same_silenced}
use Rattle.session.specs.declared.Lamps.{Lamps}
use Rattle.definition.specs.Rig.{Rig, destination}
use Rattle.definition.specs.Levels.{kept_by, has_mute}
use Rattle.definition.specs.Lamps.{muted_to, push_state}
use Rattle.definition.specs.Muting.{Soloed, in_group, peer, off_to, solo_off, note_mutes, note_if, on_to, solo_on, turn_off, turn_on, is_same, add_target, adding, solo_adds, added_by_solo}
use Rattle.definition.proofs.SilencingLaws.{Within, Covered, grown, any_both, adding_covers, adding-more, solo_on_so, room_within, once_keys}
use Rattle.mutes.specs.Held.{room_for}
use Rattle.solos.proofs.PeersLaws.{numbered, same_adds}
use Rattle.solos.specs.Peers.{seen_peers, ArePeers, room_to}
use Rattle.solos.specs.Turns.{turned_off, turned_on}

-- ── the table of peers ──

pub none_yet : (r : Rig) (group : ℕ) (p : List (Option Destination)) (i : ℕ) → 1 ≤ i → i ≤ 0 → seen_peers p i ≡ peer r group i
none_yet r group p i low high = absurd (omega arith)

-- one more fader is put in
pub one_peer : (r : Rig) (group : ℕ) (p : List (Option Destination)) (n : ℕ) (x : Option Destination) → n < length p → x ≡ in_group group (destination r (n + 1)) →
    ((i : ℕ) → 1 ≤ i → i ≤ n → seen_peers p i ≡ peer r group i) →
    (i : ℕ) → 1 ≤ i → i ≤ n + 1 → seen_peers (set p n x) i ≡ peer r group i
unfolding peer
one_peer r group p n x short e before i low high = go (leb i n) refl
  where
    go : (b : Bool) → leb i n ≡ b → get_or (set p n x) (i - 1) None ≡ in_group group (destination r i)
    go true q =
        let l : i ≤ n = leb-true i n q in
        rw (get_or-set_other p n (i - 1) x None (λ z. omega arith)) (before i low l)
    go false q =
        let l : n < i = leb-false i n q in
        let k : i - 1 ≡ n = omega arith in
        let j : i ≡ n + 1 = omega arith in
        rw (k, get_or-set_same p n x None short) (e ∙ ap (λ m. in_group group (destination r m)) (sym j))

-- ── one fader more ──

module _ (p : List (Option Destination)) where
  -- off
  module _ (l : Lamps) (s : List SilencedLevel) (t : Talk) where
    pub none_off : solo_off (seen_peers p) l 0 s t ≡ got s t
    unfolding solo_off
    none_off = refl

    pub more_off : (n : ℕ) → solo_off (seen_peers p) l (n + 1) s t
        ≡ off_to (get_or p n None) (was_muted (n + 1) l) (solo_off (seen_peers p) l n s t).value (solo_off (seen_peers p) l n s t).talk
    unfolding solo_off next
    more_off n =
        let r : Got (List SilencedLevel) = solo_off (seen_peers p) l n s t in
        ap (λ m. solo_off (seen_peers p) l m s t) (add-one n) ∙ ap (λ x. off_to x (was_muted (n + 1) l) r.value r.talk) (numbered p n)

  -- what was muted
  module _ (ts : List ℕ) (t : Talk) where
    pub none_noted_yet : (l : Lamps) → note_mutes (seen_peers p) ts 0 l t ≡ got (none_noted l) t
    unfolding note_mutes
    none_noted_yet l = refl

    pub more_noted : (l : Lamps) (n : ℕ) → note_mutes (seen_peers p) ts (n + 1) l t
        ≡ got (note_muted (n + 1) (muted_to (get_or p n None) ts (note_mutes (seen_peers p) ts n l t).talk).value (note_mutes (seen_peers p) ts n l t).value)
        (muted_to (get_or p n None) ts (note_mutes (seen_peers p) ts n l t).talk).talk
    unfolding note_mutes next
    more_noted l n =
        let r : Got Lamps = note_mutes (seen_peers p) ts n l t in
        ap (λ m. note_mutes (seen_peers p) ts m l t) (add-one n)
        ∙ ap (λ x. got (note_muted (n + 1) (muted_to x ts r.talk).value r.value) (muted_to x ts r.talk).talk) (numbered p n)

  -- on
  module _ (fader : ℕ) (s : List SilencedLevel) (t : Talk) where
    pub none_on : solo_on (seen_peers p) fader 0 s t ≡ got s t
    unfolding solo_on
    none_on = refl

    pub more_on : (n : ℕ) → solo_on (seen_peers p) fader (n + 1) s t
        ≡ on_to (get_or p n None) (not (eqb (n + 1) fader)) (solo_on (seen_peers p) fader n s t).value (solo_on (seen_peers p) fader n s t).talk
    unfolding solo_on next
    more_on n =
        let r : Got (List SilencedLevel) = solo_on (seen_peers p) fader n s t in
        ap (λ m. solo_on (seen_peers p) fader m s t) (add-one n) ∙ ap (λ x. on_to x (not (eqb (n + 1) fader)) r.value r.talk) (numbered p n)

-- ── room for each peer ──

adding_longer : (f : Option Destination) (ts l : List ℕ) → length l ≤ length (adding f ts l)
adding_longer None ts l = omega arith
adding_longer (Some d) ts l = go (has_mute d)
  where
    at : (h : Bool) → length l ≤ length (pick h l (change (is_same (kept_by d)) (λ z. z) (kept_by d) l))
    at true = omega arith
    at false = change_longer (is_same (kept_by d)) (λ z. z) (kept_by d) l

    go : (b : Bool) → length l ≤ length (add_target b (kept_by d) ts l)
    go true = omega arith
    go false = at (is_silenced (kept_by d) ts)

-- more faders add no fewer targets
adds_longer : (of : ℕ → Option Destination) (fader : ℕ) (ts : List ℕ) (m n : ℕ) → n ≤ m → length (solo_adds of fader ts n) ≤ length (solo_adds of fader ts m)
unfolding solo_adds
adds_longer of fader ts zero n h = let e : n ≡ 0 = omega arith in rw e (omega arith)
adds_longer of fader ts (suc m) n h = go (leb n m) refl (adds_longer of fader ts m n)
  where
    go : (b : Bool) → leb n m ≡ b → (n ≤ m → length (solo_adds of fader ts n) ≤ length (solo_adds of fader ts m)) →
        length (solo_adds of fader ts n) ≤ length (solo_adds of fader ts (suc m))
    go true q before =
        let f = pick (eqb (m + 1) fader) None (of (m + 1)) in
        let a : length (solo_adds of fader ts n) ≤ length (solo_adds of fader ts m) = before (leb-true n m q) in
        let b : length (solo_adds of fader ts m) ≤ length (adding f ts (solo_adds of fader ts m)) = adding_longer f ts (solo_adds of fader ts m) in
        omega arith
    go false q before =
        let l : m < n = leb-false n m q in
        let e : n ≡ suc m = omega arith in
        rw e (omega arith)

-- a destination that m covers has room, if m is not too long
room_covered : (m : List ℕ) (k : List SilencedLevel) (d : Destination) → Covered m (Some d) → Within m k → length m ≤ 256 → room_for d (targets_of k) ≡ true
room_covered m k d h w few = go (has_mute d) refl
  where
    go : (b : Bool) → has_mute d ≡ b → pick b true (has_room (kept_by d) (targets_of k)) ≡ true
    go true e = refl
    go false e = room_within m k (kept_by d) w (h e) few

both_fit : (s : List SilencedLevel) (l : List ℕ) → length s + length l ≤ 256 → length (targets_of s ++ l) ≤ 256
both_fit s l few =
    let same : length (targets_of s) ≡ length s = length-map s (λ x. x.target) in
    let long : length (targets_of s ++ l) ≡ length (targets_of s) + length l = length-append (targets_of s) l in
    omega arith

-- k is within those held before and those added so far
room_step : (s k : List SilencedLevel) (adds : List ℕ) (self : Bool) (f : Option Destination) → Within (targets_of s ++ adds) k →
    length s + length (adding (pick self None f) (targets_of s) adds) ≤ 256 → room_to f (not self) (targets_of k) ≡ true
room_step s k adds true f w few = refl
room_step s k adds false None w few = refl
room_step s k adds false (Some d) w few =
    room_covered (targets_of s ++ adding (Some d) (targets_of s) adds) k d (adding_covers (targets_of s) adds (Some d))
    (grown (λ x. any_both (λ y. eqb y x) (targets_of s) adds (adding (Some d) (targets_of s) adds) (adding-more (targets_of s) adds (Some d) x)) w)
    (both_fit s (adding (Some d) (targets_of s) adds) few)

-- of `top` faders, whose targets fit, the next of n has room
pub room_on : (of : ℕ → Option Destination) (fader top : ℕ) (s : List SilencedLevel) (t : Talk) → no_twice eqb (targets_of s) ≡ true →
    length s + length (solo_adds of fader (targets_of s) top) ≤ 256 → (n : ℕ) → n < top → (k : List SilencedLevel) (u : Talk) →
    got k u ≡ solo_on of fader n s t → (f : Option Destination) → f ≡ of (n + 1) → room_to f (not (eqb (n + 1) fader)) (targets_of k) ≡ true
unfolding solo_adds
room_on of fader top s t o few n h k u a f e =
    let ts = targets_of s in
    let once : no_twice same_silenced s ≡ true = sym (once_keys (λ x. x.target) s) ∙ o in
    let w : Within (ts ++ solo_adds of fader ts n) k =
    subst (Within (ts ++ solo_adds of fader ts n)) (sym (ap (λ g. g.value) a)) (solo_on_so s once of fader n t) in
    let next : length (solo_adds of fader ts (suc n)) ≤ length (solo_adds of fader ts top) = adds_longer of fader ts top (suc n) (omega arith) in
    let fits : length s + length (adding (pick (eqb (n + 1) fader) None (of (n + 1))) ts (solo_adds of fader ts n)) ≤ 256 = omega arith in
    subst (λ x. room_to x (not (eqb (n + 1) fader)) (targets_of k) ≡ true) (sym e)
    (room_step s k (solo_adds of fader ts n) (eqb (n + 1) fader) (of (n + 1)) w fits)

-- the same of the array of 16 that the code has
pub room_on_peers : (p : List (Option Destination)) (fader : ℕ) (s : List SilencedLevel) (t : Talk) → no_twice eqb (targets_of s) ≡ true →
    length s + length (solo_adds (seen_peers p) fader (targets_of s) 16) ≤ 256 → (n : ℕ) → n < 16 → (k : List SilencedLevel) (u : Talk) →
    got k u ≡ solo_on (seen_peers p) fader n s t → room_to (get_or p n None) (not (eqb (n + 1) fader)) (targets_of k) ≡ true
room_on_peers p fader s t o few n h k u a = room_on (seen_peers p) fader 16 s t o few n h k u a (get_or p n None) (sym (numbered p n))

-- ── two tables that agree on the faders 1 to n ──

module _ (f g : ℕ → Option Destination) where
  abbrev Agree : ℕ → Type 0
  Agree n = (i : ℕ) → 1 ≤ i → i ≤ n → f i ≡ g i

  same_off : (l : Lamps) (n : ℕ) → Agree n → (s : List SilencedLevel) (t : Talk) → solo_off f l n s t ≡ solo_off g l n s t
  unfolding solo_off next
  same_off l zero h s t = refl
  same_off l (suc n) h s t = rw (same_off l n (λ i a b. h i a (omega arith)) s t, h (n + 1) (omega arith) (omega arith))

  same_noted : (ts : List ℕ) (n : ℕ) → Agree n → (l : Lamps) (t : Talk) → note_mutes f ts n l t ≡ note_mutes g ts n l t
  unfolding note_mutes next
  same_noted ts zero h l t = refl
  same_noted ts (suc n) h l t = rw (same_noted ts n (λ i a b. h i a (omega arith)) l t, h (n + 1) (omega arith) (omega arith))

  same_on : (fader n : ℕ) → Agree n → (s : List SilencedLevel) (t : Talk) → solo_on f fader n s t ≡ solo_on g fader n s t
  unfolding solo_on next
  same_on fader zero h s t = refl
  same_on fader (suc n) h s t = rw (same_on fader n (λ i a b. h i a (omega arith)) s t, h (n + 1) (omega arith) (omega arith))

  same_note : (b : Bool) (ts : List ℕ) → Agree 16 → (l : Lamps) (t : Talk) → note_if b f ts l t ≡ note_if b g ts l t
  same_note true ts h l t = same_noted ts 16 h l t
  same_note false ts h l t = refl

-- ── a solo over the table of its peers ──

module _ (r : Rig) (group : ℕ) (p : List (Option Destination)) (are : ArePeers r group p) where
  -- with the lamps sent behind it
  abbrev lit : Got Soloed → Got Soloed
  lit g = got g.value (push_state r g.value.lamps (targets_of g.value.silenced) g.talk)

  pub solo_over_off : (l : Lamps) (s : List SilencedLevel) (t : Talk) → turn_off r group l s t ≡ lit (turned_off (seen_peers p) l s t)
  unfolding next
  solo_over_off l s t = rw (same_off (seen_peers p) (peer r group) l 16 are s t)

  pub solo_over_on : (fader : ℕ) (l : Lamps) (s : List SilencedLevel) (t : Talk) → turn_on r group fader l s t ≡ lit (turned_on (seen_peers p) fader l s t)
  unfolding next
  solo_over_on fader l s t =
      rw (
        same_note (seen_peers p) (peer r group) (eqb l.soloed 0) (targets_of s) are l t,
        same_on (seen_peers p) (peer r group) fader 16 are s (note_if (eqb l.soloed 0) (peer r group) (targets_of s) l t).talk,
      )

-- what a solo of another than the soloed fader adds, counted over the table
pub adds_over : (r : Rig) (fader : ℕ) (d : Destination) (p : List (Option Destination)) → Some d ≡ destination r fader → ArePeers r d.group p →
    (l : Lamps) (ts : List ℕ) → eqb l.soloed fader ≡ false → added_by_solo r fader l ts ≡ solo_adds (seen_peers p) fader ts 16
unfolding added_by_solo
adds_over r fader d p e are l ts other = rw (← e, other, same_adds (seen_peers p) (peer r d.group) fader ts 16 are)
