-- Each event on a desk that is the account's: what it leaves is the account's again, and what it asked is what the account says.
use Rattle.std.proofs.Common.{None, Option, Some}
use Prim.Native.Nat.{ℕ, ◌+◌, ◌*◌, ◌≤◌, ◌<◌}
use mathlib.Core.Path.{◌≡◌, refl, sym, ap, ◌∙◌}
use mathlib.Core.Bool.{Bool, true, false, ◌&&◌, ◌||◌, not}
use mathlib.Core.List.{List, [], ◌∷◌, ◌++◌, map, append-nil, append_assoc}
use lib.Dec.{eqb}
use lib.ListN.{length, length-set}
use lib.Seq.{get_or-set_same}
use lib.IntN.{ℤ}
use lib.Ieee.{Float}
use borrow.Author.Tests.{eq-eqb}
use Rattle.base.specs.Choice.{pick}
use Rattle.base.specs.Keyed.{change}
use Rattle.base.specs.Range.{all}
use Rattle.float.specs.Leaf.{nudge}
use Rattle.protocol.specs.Protocol.{sent_to, kind_of}
use Rattle.protocol.specs.declared.Event.{Event}
use Rattle.protocol.specs.declared.Event.TheVariants as event
use Rattle.lookup.specs.Lookup.{same_dest}
use Rattle.lookup.specs.View.{View}
use Rattle.lookup.specs.declared.Destination.{Destination}
use Rattle.drivers.specs.Talk.{Talk, Reply, start, Got, next, plain_call, write_call, use_done, read_of, write_of}
use Rattle.drivers.specs.Paired.{Asked, paired}
use Rattle.drivers.specs.declared.Call.{Call}
use Rattle.session.specs.Session.{Turn, SilencedLevel, targets_of, is_marked, last_move, place_move, add_to, turn, strip_at, same_strip, same_at, same_strips}
use Rattle.session.specs.declared.Move.{Move}
use Rattle.session.specs.declared.Strip.{Strip}
use Rattle.session.specs.declared.Lamps.{Lamps}
use Rattle.event.specs.declared.Input.{Input}
use Rattle.event.specs.declared.Input.TheVariants as input
use Rattle.definition.specs.Rig.{Rig, destination, encoder_dest, with_strips}
use Rattle.definition.specs.Levels.{read, write}
use Rattle.definition.specs.Faders.{Desk, desk, is_held, hold_move, take_move, moved_if, fader_if, fader_to, fader, turn_to, encoder, is_zero, nudge_from, nudge_if, apply_nudge, nudges, align_if, write_move, writes, drain, drained}
use Rattle.definition.specs.Live.{Refreshed, same_as, change_if, ask_if, refresh_live, refresh_due, is_due}
use Rattle.definition.specs.Buttons.{Press, button}
use Rattle.definition.specs.Step.{Site, Kept, kept, Left, unmarked, press_at, on_button, on_midi, unmarked_at, lives_after, site_after, tick_with, tick, act}
use Rattle.account.specs.Account.{opens, Account, Waits, Drain, Drained, Each, no_more, one_more, reading, rig_in, held_by_rule, lined, book_if, book_move, summed, book_turn, book_press, selects, same_live, live_at, book_live, book_drain, book_event, tried_of, try_at, drain_of, reading_of, read_as, writing, Uses, used, opened-used, not-used, Tries, tried-all, tried-one, Nudges, nudged-all, zero_sum, not-read, nudged, Only, no_call, one-call, not_write, in_session, tick_in, other_in}
use Rattle.account.proofs.Grown.{Grown, Goes, same, weaken, join, send_ok, use_ok}
use Rattle.account.proofs.Frame.{only_append, makes_push, makes_flash_bank, makes_tick_flash, makes_refresh, makes_transport}
use Rattle.account.proofs.HeldRule.{held_rule, read_is}
use Rattle.account.proofs.Presses.{button_ok_lem, button_quiet}

-- the desk that an account stands for
abbrev pub desk_of : Account → Desk
desk_of a = desk a.marks a.last (map in_session a.line) a.sums

-- ── devices ──

record Reads (o : List Bool) (d : Destination) (c : Option Float) (l : List Asked) : Type 0 where
  reply : Reply
  uses : Uses o (reading_of d) reply l
  value : c ≡ read_as d reply

read_ok : (d : Destination) (t : Talk) → Goes (read d t).talk → Grown (Reads t.opened d (read d t).value) t (read d t).talk
unfolding read read_of next plain_call
read_ok d t g = weaken (λ l u. record { reply = _; uses = u; value = refl }) (use_ok (reading_of d) refl t g)

write_ok : (d : Destination) (x : Float) (t : Talk) → Goes (write d x t).talk →
    Grown (λ l. (r : Reply) × Uses t.opened (writing d x) r l) t (write d x t).talk
unfolding write write_of use_done next write_call
write_ok d x t g = weaken (λ l u. (_, u)) (use_ok (writing d x) refl t g)

read_only : (d : Destination) {o : List Bool} {r : Reply} {l : List Asked} → Uses o (reading_of d) r l → Only not_write l
unfolding plain_call
read_only d (used n) = one-call refl no_call
read_only d (opened-used n) = one-call refl (one-call refl no_call)
read_only d (not-used n) = one-call refl no_call

-- ── a move ──

place-lined : (m : Waits) (l : List Waits) → place_move m.channel m.level (map in_session l) ≡ map in_session (lined m l)
unfolding place_move change lined
place-lined m [] = refl
place-lined m (x ∷ xs) = go (eqb x.channel m.channel) (place-lined m xs)
  where
    go : (b : Bool) → place_move m.channel m.level (map in_session xs) ≡ map in_session (lined m xs) →
        pick b (in_session m ∷ map in_session xs) (in_session x ∷ place_move m.channel m.level (map in_session xs)) ≡
        map in_session (pick b (m ∷ xs) (x ∷ lined m xs))
    go true e = refl
    go false e = ap (λ (r : List Move). in_session x ∷ r) e

moved_booked : (b : Bool) (key : ℕ) (m : Waits) (a : Account) →
    moved_if b key m.channel m.level (desk_of a) ≡ desk_of (book_if b key m a)
unfolding hold_move take_move
moved_booked true key m a = refl
moved_booked false key m a = rw (place-lined m a.line)

module _ (key : ℕ) (m : Waits) (a : Account) (answers : List ℕ) where
  -- what a fader's move leaves
  Moved : Option Destination → Got Desk → Type 0
  Moved f r =
      Goes r.talk → Grown (λ l. (r.value ≡ desk_of (book_move f key m answers a)) × Only not_write l) (start answers a.opened) r.talk

  -- held by the account's rule where the definition holds it
  held_booked : (d : Destination) →
      moved_if (is_held (read d (start answers a.opened)).value (last_move key a.last) m.level) key m.channel m.level (desk_of a) ≡
      desk_of (book_if (held_by_rule (last_move key a.last) (reading d answers a.opened) d.low d.high m.level) key m a)
  held_booked d =
      let held = held_by_rule (last_move key a.last) (reading d answers a.opened) d.low d.high m.level in
      let e : is_held (read d (start answers a.opened)).value (last_move key a.last) m.level ≡ held =
      ap (λ (c : Option Float). is_held c (last_move key a.last) m.level) (read_is d answers a.opened)
      ∙ sym (held_rule d (last_move key a.last) (reading d answers a.opened) m.level) in
      ap (λ (b : Bool). moved_if b key m.channel m.level (desk_of a)) e ∙ moved_booked held key m a

  fader_to_lem : (f : Option Destination) → Moved f (fader_to f key m.channel m.level (desk_of a) (start answers a.opened))
  unfolding Moved next reading
  fader_to_lem None g = same _ _ g (refl, no_call)
  fader_to_lem (Some d) g = at (d.takeover && not (is_marked key a.marks)) g
    where
      at : (b : Bool) → Goes (fader_if b d key m.channel m.level (desk_of a) (start answers a.opened)).talk →
          Grown (λ l. ((fader_if b d key m.channel m.level (desk_of a) (start answers a.opened)).value ≡
          desk_of (book_if (b && held_by_rule (last_move key a.last) (reading d answers a.opened) d.low d.high m.level) key m a)) × Only not_write l)
          (start answers a.opened) (fader_if b d key m.channel m.level (desk_of a) (start answers a.opened)).talk
      at true e =
          weaken
          (λ l h. (held_booked d, read_only d h.uses))
          (read_ok d (start answers a.opened) e)
      at false e = same _ _ e (moved_booked false key m a, no_call)

-- ── the drain ──

nudges_ok : (es : List Turn) (t : Talk) → Goes (nudges es t) → Grown (Nudges t.opened es) t (nudges es t)
unfolding nudges apply_nudge next
nudges_ok [] t g = same _ t g nudged-all
nudges_ok (e ∷ es) t g = one (is_zero e.sum) refl (nudges_ok es) g
  where
    IH : Type 0
    IH = (t : Talk) → Goes (nudges es t) → Grown (Nudges t.opened es) t (nudges es t)

    u : Talk
    u = (read e.dest t).talk

    from : (c : Option Float) → (read e.dest t).value ≡ c → is_zero e.sum ≡ false → IH →
        Goes (nudges es (nudge_from c e.dest e.sum u)) → Grown (Nudges t.opened (e ∷ es)) t (nudges es (nudge_from c e.dest e.sum u))
    from None q z ih g =
        let h = ih u g in
        let r = read_ok e.dest t h.was in
        join r h (λ m n. not-read z r.fact.uses (sym r.fact.value ∙ q) (rw r.opened at n))
    from (Some c) q z ih g =
        let w = (write e.dest (nudge c e.sum) u).talk in
        let h = ih w g in
        let k = write_ok e.dest (nudge c e.sum) u h.was in
        let r = read_ok e.dest t k.was in
        let n : Grown (λ l. Nudges (opens (paired k.more u.left) u.opened) es l) w (nudges es w) = weaken (λ l n. rw k.opened at n) h in
        join r
        (join {Q = λ l. (n : List Asked) × (l ≡ paired k.more u.left ++ n) × Nudges (opens (paired k.more u.left) (opens (paired r.more t.left) t.opened)) es n} k n
        (λ n d. (n, refl, rw r.opened at d)))
        (λ l d. rw d.1 (nudged z r.fact.uses (sym r.fact.value ∙ q) (rw r.opened at k.fact.1) d.2))

    one : (b : Bool) → is_zero e.sum ≡ b → IH → Goes (nudges es (nudge_if b e t)) → Grown (Nudges t.opened (e ∷ es)) t (nudges es (nudge_if b e t))
    one true z ih g = weaken (λ l n. zero_sum z n) (ih t g)
    one false z ih g = from (read e.dest t).value refl z ih g

-- a message after a call changes nothing of what was asked
then_silent : {P : List Asked → Type 0} {t u w : Talk} → Grown P t u → Grown (λ l. l ≡ []) u w → Grown P t w
then_silent {P} g h = join g h (λ m e. rw (e, append-nil) g.fact)

align_ok : (b : Bool) (ch : ℕ) (x : Float) (t : Talk) → Goes (align_if b ch x t) → Grown (λ l. l ≡ []) t (align_if b ch x t)
align_ok true ch x t g = send_ok (λ l. l ≡ []) (sent_to ch x) t refl g
align_ok false ch x t g = same (λ l. l ≡ []) t g refl

writes_ok : (r : Rig) (ms : List Waits) (t : Talk) → Goes (writes r (map in_session ms) t) →
    Grown (Tries t.opened (tried_of r ms)) t (writes r (map in_session ms) t)
unfolding writes tried_of
writes_ok r [] t g = same _ t g tried-all
writes_ok r (m ∷ ms) t g = go (destination r (m.channel + 1)) (writes_ok r ms) g
  where
    go : (f : Option Destination) →
        ((t : Talk) → Goes (writes r (map in_session ms) t) → Grown (Tries t.opened (tried_of r ms)) t (writes r (map in_session ms) t)) →
        Goes (writes r (map in_session ms) (write_move r.positions f (in_session m) t)) →
        Grown (Tries t.opened (try_at f m (tried_of r ms))) t (writes r (map in_session ms) (write_move r.positions f (in_session m) t))
    go None ih e = ih t e
    go (Some d) ih e =
        let b = (write d m.level t).value && r.positions in
        let u = (write d m.level t).talk in
        let h = ih (align_if b m.channel m.level u) e in
        let s = align_ok b m.channel m.level u h.was in
        let k = then_silent (write_ok d m.level t s.was) s in
        join k h (λ l n. tried-one k.fact.1 (rw k.opened at n))

-- a drain's calls, in their two parts
record Asked-by (r : Rig) (a : Account) (o : List Bool) (l : List Asked) : Type 0 where
  encoders : List Asked
  faders : List Asked
  all : l ≡ encoders ++ faders
  first : Nudges o a.sums encoders
  then : Tries (opens encoders o) (tried_of r a.line) faders

drain_ok : (r : Rig) (a : Account) (t : Talk) → Goes (drain r (desk_of a) t) → Grown (Asked-by r a t.opened) t (drain r (desk_of a) t)
unfolding drain
drain_ok r a t g =
    let h = writes_ok r a.line (nudges a.sums t) g in
    let k = nudges_ok a.sums t h.was in
    join k h (λ l n. record { encoders = _; faders = l; all = refl; first = k.fact; then = rw k.opened at n })

-- ── the live list ──

strip_refl : (s : Strip) → same_strip s s ≡ true
unfolding same_strip
strip_refl s =
    rw (eq-eqb s.driver s.driver refl, eq-eqb s.target s.target refl, eq-eqb s.label s.label refl, eq-eqb s.group s.group refl, eq-eqb s.mute s.mute refl)

at-refl : (o : Option Strip) → same_at o o ≡ true
at-refl None = refl
at-refl (Some s) = strip_refl s

strips_refl : (l : List Strip) → same_strips l l ≡ true
unfolding same_strips all
strips_refl l =
    rw (at-refl (strip_at 1 l), at-refl (strip_at 2 l), at-refl (strip_at 3 l), at-refl (strip_at 4 l), at-refl (strip_at 5 l), at-refl (strip_at 6 l), at-refl (strip_at 7 l), at-refl (strip_at 8 l))

live_refl : (o : Option (List Strip)) → same_live o o ≡ true
live_refl None = refl
live_refl (Some l) = strips_refl l

live_some : (o : Option (List Strip)) (l : List Strip) → same_live o (Some l) ≡ same_as o l
live_some None l = refl
live_some (Some k) l = refl

-- the flag says whether the bank's list is another
module _ (w : Site) (now : Float) (r : Rig) (p : Lamps) (s : List ℕ) (in_list : w.bank < length w.lives) where
  abbrev Told : Bool → Refreshed → Type 0
  Told due x = x.changed ≡ not (same_live (live_at w.bank w) (live_at w.bank (site_after due now x w)))

  told_same : (due : Bool) (l : List Strip) → Told due (record { strips = l; changed = false })
  told_same true l = rw (live_refl (live_at w.bank w))
  told_same false l = rw (live_refl (live_at w.bank w))

  told_change : (b : Bool) (l : List Strip) (t : Talk) → same_as (live_at w.bank w) l ≡ b → Told true (change_if b l r p s t).value
  told_change true l t e = told_same true r.here.strips
  told_change false l t e = rw (get_or-set_same w.lives w.bank (Some l) None in_list, live_some (live_at w.bank w) l, e)

  told_ask : (b : Bool) (t : Talk) → Told true (ask_if b (live_at w.bank w) r p s t).value
  unfolding next
  told_ask true t = told_same true r.here.strips
  told_ask false t = told_change (same_as (live_at w.bank w) _) _ _ refl

  told : (due : Bool) (t : Talk) → Told due (refresh_due due (live_at w.bank w) r p s t).value
  unfolding refresh_live
  told true t = told_ask (eqb r.here.part.live 65535 || eqb r.here.part.device 65535) t
  told false t = told_same false r.here.strips

-- ── the event ──

abbrev pub drain_in : Input → Rig → Account → List Drain
drain_in (input.Midi e) r a = []
drain_in input.Tick r a = drain_of r a ∷ []
drain_in input.PushState r a = []
drain_in input.PushTransport r a = []
drain_in input.FlashBank r a = []

-- where the bridge stands is a bank of the session's arrays
pub record Placed (w : Site) : Type 0 where
  pub bank : w.bank < 16
  pub lives : length w.lives ≡ 16

pub record Booked (v : View) (i : ℕ) (w : Site) (a : Account) (e : Input) (answers : List ℕ) (x : Left) (calls : List Call) (o : List Bool) : Type 0 where
  pub desk : x.desk ≡ desk_of (book_event v i e w x.site answers (paired calls answers) a)
  pub opened : o ≡ opens (paired calls answers) a.opened
  pub drains : Each Drained (tick_in e (paired calls answers)) (drain_in e (rig_in v w) a)
  pub quiet : Only not_write (other_in e (paired calls answers))
  pub placed : Placed x.site

abbrev pub Books : View → ℕ → Site → Account → Input → List ℕ → Got Left → Type 0
Books v i w a e answers r = Goes r.talk → Booked v i w a e answers r.value r.talk.calls r.talk.opened

-- from a start, the calls are what they grew by
begun : {P : List Asked → Type 0} (answers : List ℕ) (o : List Bool) (t : Talk) → Grown P (start answers o) t → t.opened ≡ opens (paired t.calls answers) o
begun answers o t g = g.opened ∙ rw g.calls

begun_fact : {P : List Asked → Type 0} (answers : List ℕ) (o : List Bool) (t : Talk) → Grown P (start answers o) t → P (paired t.calls answers)
begun_fact answers o t g = rw g.calls g.fact

-- a press that is neither mute nor solo writes nothing
press_silent : (p : Press) (note : ℕ) (answers : List ℕ) (o : List Bool) → Goes (button note p (start answers o)).talk →
    Only not_write (pick (eqb (kind_of note) 2 || eqb (kind_of note) 1) [] (paired (button note p (start answers o)).talk.calls answers))
press_silent p note answers o g = go (eqb (kind_of note) 2) (eqb (kind_of note) 1) refl refl
  where
    go : (b c : Bool) → eqb (kind_of note) 2 ≡ b → eqb (kind_of note) 1 ≡ c →
        Only not_write (pick (b || c) [] (paired (button note p (start answers o)).talk.calls answers))
    go true c m s = no_call
    go false true m s = no_call
    go false false m s = begun_fact {P = Only not_write} answers o _ ((button_quiet p note m s).grown (start answers o) g)

turn-summed : (d : Destination) (n : ℤ) (l : List Turn) → turn d n l ≡ summed d n l
unfolding turn change summed
turn-summed d n [] = refl
turn-summed d n (x ∷ xs) = ap (λ (r : List Turn). pick (same_dest x.dest d) (add_to n x ∷ xs) (x ∷ r)) (turn-summed d n xs)

turned_booked : (f : Option Destination) (n : ℤ) (a : Account) →
    desk a.marks a.last (map in_session a.line) (turn_to f n a.sums) ≡ desk_of (book_turn f n a)
turned_booked (Some d) n a = rw (turn-summed d n a.sums)
turned_booked None n a = refl

unmarked_booked : (b c : Bool) (a : Account) → b ≡ c → unmarked b (desk_of a) ≡ desk_of (book_press c a)
unmarked_booked b true a e = rw e
unmarked_booked b false a e = rw e

live_booked : (s c : Bool) (bank : ℕ) (r : Rig) (a : Account) → c ≡ not s →
    unmarked_at c bank (drained (desk_of a)) ≡ desk_of (book_live s bank (book_drain r a))
unfolding drained
live_booked true c bank r a e = rw e
live_booked false c bank r a e = rw e

-- over variables: in the tick itself `rw` would meet the runs inside the proofs' types
then_drained : (r : Rig) (a : Account) (answers : List ℕ) (t u : Talk) →
    Grown (Asked-by r a a.opened) (start answers a.opened) t → Grown (Only not_write) t u →
    Drained (paired u.calls answers) (drain_of r a)
then_drained r a answers t u g l =
    begun_fact {P = λ m. Drained m (drain_of r a)} answers a.opened u
    (join g l
    (λ m o.
    record {
      encoders = g.fact.encoders;
      faders = g.fact.faders;
      later = m;
      all = rw (g.fact.all, append_assoc);
      first = g.fact.first;
      then = g.fact.then;
      last = o;
    }))

lives_after_lem : (due : Bool) (now : Float) (x : Refreshed) (w : Site) → Placed w → Placed (site_after due now x w)
lives_after_lem false now x w h = h
lives_after_lem true now x w h = record { bank = h.bank; lives = go x.changed }
  where
    go : (b : Bool) → length (lives_after b w.bank x.strips w.lives) ≡ 16
    go true = length-set w.lives w.bank (Some x.strips) ∙ h.lives
    go false = h.lives

module _ (v : View) (i : ℕ) (w : Site) (l : Lamps) (s : List SilencedLevel) (a : Account) (answers : List ℕ) (now : Float) (few : v.banks ≤ 16) (there : Placed w) where
  -- the session that the account stands for
  abbrev pub kept_of : Kept
  kept_of = kept w (desk_of a) l s a.opened

  in_list : w.bank < length w.lives
  in_list = rw there.lives there.bank

  tick-due : (due : Bool) → Books v i w a input.Tick answers (tick_with due v kept_of now (start answers a.opened))
  unfolding next
  tick-due due e =
      let t₀ = start answers a.opened in
      let t₁ = drain (rig_in v w) (desk_of a) t₀ in
      let r = refresh_due due (live_at w.bank w) (rig_in v w) l (targets_of s) t₁ in
      let k = (makes_tick_flash {K = not_write} refl refl (with_strips r.value.strips (rig_in v w)) (targets_of s) a.last now l).grown r.talk e in
      let h = (makes_refresh {K = not_write} refl refl refl due (live_at w.bank w) (rig_in v w) l (targets_of s)).grown t₁ k.was in
      let g = drain_ok (rig_in v w) a t₀ h.was in
      let m = join {Q = Only not_write} h k (λ m o. only_append h.fact o) in
      record {
        desk = live_booked (same_live (live_at w.bank w) _) r.value.changed w.bank (rig_in v w) a (told w now (rig_in v w) l (targets_of s) in_list due t₁);
        opened = begun answers a.opened _ (join {Q = λ l. Unit {0}} g m (λ m o. tt));
        drains = one_more (then_drained (rig_in v w) a answers t₁ _ g m) no_more;
        quiet = no_call;
        placed = lives_after_lem due now r.value w there;
      }

  midi_ok : (e : Event) → Books v i w a (input.Midi e) answers (on_midi e v kept_of now (start answers a.opened))
  unfolding fader encoder next opens paired Moved selects
  midi_ok (event.Fader ch x) e =
      let g = fader_to_lem (w.bank * 16 + ch) (record { id = i; channel = ch; level = x }) a answers (destination (rig_in v w) (ch + 1)) e in
      record {
        desk = g.fact.0;
        opened = begun answers a.opened _ g;
        drains = no_more;
        quiet = begun_fact {P = Only not_write} answers a.opened _ (weaken (λ l f. f.1) g);
        placed = there;
      }
  midi_ok (event.Encoder ch n) e =
      record { desk = turned_booked (encoder_dest (rig_in v w) (ch + 1)) n a; opened = refl; drains = no_more; quiet = no_call; placed = there }
  midi_ok (event.Button b) e = at b.pressed e
    where
      at : (d : Bool) → Goes (on_button d v kept_of now b.note (start answers a.opened)).talk →
          Booked v i w a (input.Midi (event.Button (record { note = b.note; pressed = d }))) answers
          (on_button d v kept_of now b.note (start answers a.opened)).value
          (on_button d v kept_of now b.note (start answers a.opened)).talk.calls
          (on_button d v kept_of now b.note (start answers a.opened)).talk.opened
      at true e =
          let c = button_ok_lem (press_at v kept_of now) few there.bank b.note in
          let r = button b.note (press_at v kept_of now) (start answers a.opened) in
          let g = c.grown (start answers a.opened) e in
          record {
            desk = unmarked_booked r.value.moved _ a (begun_fact answers a.opened r.talk g);
            opened = begun answers a.opened r.talk g;
            drains = no_more;
            quiet = press_silent (press_at v kept_of now) b.note answers a.opened e;
            placed = record { bank = c.bank (start answers a.opened); lives = there.lives };
          }
      at false e = record { desk = refl; opened = refl; drains = no_more; quiet = no_call; placed = there }
  midi_ok event.Other e = record { desk = refl; opened = refl; drains = no_more; quiet = no_call; placed = there }

  pub act_ok : (e : Input) → Books v i w a e answers (act e v kept_of now (start answers a.opened))
  unfolding act tick next
  act_ok (input.Midi e) g = midi_ok e g
  act_ok input.Tick g = tick-due (is_due w.due w.at now) g
  act_ok input.PushState g =
      let h = (makes_push {K = not_write} refl refl (rig_in v w) l (targets_of s)).grown (start answers a.opened) g in
      record { desk = refl; opened = begun answers a.opened _ h; drains = no_more; quiet = begun_fact {P = Only not_write} answers a.opened _ h; placed = there }
  act_ok input.PushTransport g =
      let h = (makes_transport {K = not_write} refl refl (rig_in v w)).grown (start answers a.opened) g in
      record { desk = refl; opened = begun answers a.opened _ h; drains = no_more; quiet = begun_fact {P = Only not_write} answers a.opened _ h; placed = there }
  act_ok input.FlashBank g =
      let h = (makes_flash_bank {K = not_write} refl refl (rig_in v w) (targets_of s) a.last now l).grown (start answers a.opened) g in
      record { desk = refl; opened = begun answers a.opened _ h; drains = no_more; quiet = begun_fact {P = Only not_write} answers a.opened _ h; placed = there }
