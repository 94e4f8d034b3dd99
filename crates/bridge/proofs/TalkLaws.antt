-- An event that ran on scratch buffers, and number 11 before it. Assumes nothing.
use Rattle.std.proofs.Common.{None, Option, Some}
use Prim.Native.Nat.{ℕ, zero, suc, ◌+◌, ◌≤◌, ◌<◌}
use mathlib.Core.Path.{◌≡◌, refl, sym, ap, ◌∙◌}
use mathlib.Core.Bool.{Bool, true, false, ◌&&◌, ◌||◌, false≢true}
use mathlib.Core.List.{List, []}
use native.Mathlib.Omega.{arith}
use lib.Dec.{eqb, ltb}
use lib.ListN.{length, length-map}
use lib.Ieee.{Float}
use borrow.Author.Tests.{ltb-true, ltb-false}
use Rattle.base.specs.Choice.{pick}
use Rattle.base.specs.Keyed.{change}
use Rattle.base.proofs.KeyedLaws.{change_long}
use Rattle.protocol.specs.Protocol.{kind_of, channel_of}
use Rattle.protocol.specs.declared.Button.{Button}
use Rattle.protocol.specs.declared.Event.TheVariants as event
use Rattle.profile.specs.Profile.{bank_count, verdict}
use Rattle.lookup.specs.Lookup.{remember_of, select_of}
use Rattle.lookup.specs.View.{view_of}
use Rattle.drivers.specs.Talk.{Talk, Got, got, start}
use Rattle.drivers.specs.Shown.{shown}
use Rattle.drivers.specs.declared.line.Io.{Io}
use Rattle.session.specs.Session.{seen_line, seen_turns, SilencedLevel, targets_of, is_silenced, seen_silenced}
use Rattle.session.specs.declared.Silenced.{Silenced}
use Rattle.session.specs.declared.Session.{Session}
use Rattle.session.specs.declared.Lamps.{Lamps}
use Rattle.event.specs.declared.Input.{Input}
use Rattle.event.specs.declared.Input.TheVariants as input
use Rattle.event.specs.declared.Timed.{Timed}
use Rattle.definition.specs.Banks.{next_bank}
use Rattle.definition.specs.Faders.{nudges, writes, drain}
use Rattle.definition.specs.Live.{is_due}
use Rattle.definition.specs.Levels.{kept_by, has_mute}
use Rattle.definition.specs.Muting.{is_same, add_target, adding, solo_adds, peer, adds_to, added_by_solo, added_by_mute}
use Rattle.definition.specs.Rig.{Rig, destination}
use Rattle.definition.specs.Buttons.{or_first, added_by}
use Rattle.definition.specs.Step.{Left, Ended, seen, refusal, overfull, rig_at, rig_now, press_at, tick, act, step}
use Rattle.bounds.specs.Well.{Well}
use Rattle.rig.specs.Seen.{rig_in}
use Rattle.rig.specs.declared.current.Current.{Current}
use Rattle.after.specs.After.{Places, KeepsPlaces, KnownIf, Lasts, left_of, kept_with}
use Rattle.after.specs.declared.Setting.{Setting}
use Rattle.after.specs.declared.Left as declared
use Rattle.delivery.specs.Delivery.{told, told_done, outcome_of, is_done, messages_after, calls_after, end_of, HasRoom, Ends}
use Rattle.delivery.specs.declared.Outcome.{Outcome}
use Rattle.bridge.specs.declared.Talked.{Talked}
use Rattle.bridge.specs.Presses.{selected_by, bank_after, added_of}
use Rattle.bridge.specs.Which.{is_tick, press_if, press_in, runs, bank_by, adds_by}
use Rattle.bridge.specs.Bridge.{Delivers, IsCurrent, drain_if, setting_of, act_of, Talks}
use Rattle.bridge.specs.Acts.{Given, tick_behind, behind}
use Rattle.bridge.proofs.ButtonsLaws.{next_low}
use Rattle.bridge.proofs.HandLaws.{rig_is}
use Rattle.bridge.proofs.StepLaws.{done_told, stays, goes, room_for_lem, undone_delivers, done_delivers, runs_low}
use Rattle.lookup.specs.declared.Destination.{Destination}

-- ── a press adds at most sixteen ──

adding_long : (f : Option Destination) (ts l : List ℕ) → length (adding f ts l) ≤ suc (length l)
adding_long None ts l = omega arith
adding_long (Some d) ts l = at (has_mute d) (is_silenced (kept_by d) ts)
  where
    silenced_at_lem : (h : Bool) → length (pick h l (change (is_same (kept_by d)) (λ x. x) (kept_by d) l)) ≤ suc (length l)
    silenced_at_lem true = omega arith
    silenced_at_lem false = change_long (is_same (kept_by d)) (λ x. x) (kept_by d) l

    at : (b h : Bool) → length (add_target b (kept_by d) ts l) ≤ suc (length l)
    at true h = omega arith
    at false h = silenced_at_lem (is_silenced (kept_by d) ts)

solo_long : (of : ℕ → Option Destination) (fader : ℕ) (ts : List ℕ) (n : ℕ) → length (solo_adds of fader ts n) ≤ n
unfolding solo_adds
solo_long of fader ts zero = omega arith
solo_long of fader ts (suc n) =
    omega (arith, solo_long of fader ts n, adding_long (pick (eqb (n + 1) fader) None (of (n + 1))) ts (solo_adds of fader ts n))

mute_few : (r : Rig) (n : ℕ) (ts : List ℕ) → length (added_by_mute r n ts) ≤ 16
unfolding added_by_mute
mute_few r n ts = omega (arith, adding_long (destination r n) ts [])

solo_few : (r : Rig) (n : ℕ) (l : Lamps) (ts : List ℕ) → length (added_by_solo r n l ts) ≤ 16
unfolding added_by_solo
solo_few r n l ts = at (destination r n)
  where
    at : (f : Option Destination) → length (adds_to f r n l ts) ≤ 16
    at None = omega arith
    at (Some d) = turn_at_lem (eqb l.soloed n)
      where
        turn_at_lem : (b : Bool) → length (pick b [] (solo_adds (peer r d.group) n ts 16)) ≤ 16
        turn_at_lem true = omega arith
        turn_at_lem false = solo_long (peer r d.group) n ts 16

pub adds_few : (here : Current) (l : Lamps) (x : Option Button) (ts : List ℕ) → length (adds_by here l x ts) ≤ 16
unfolding added_of
adds_few here l None ts = omega arith
adds_few here l (Some b) ts = at (eqb (kind_of b.note) 2) (eqb (kind_of b.note) 1)
  where
    n : ℕ
    n = or_first (channel_of b.note) + 1

    at : (a c : Bool) → length (pick a (added_by_mute (rig_in here) n ts) (pick c (added_by_solo (rig_in here) n l ts) [])) ≤ 16
    at true c = mute_few (rig_in here) n ts
    at false true = solo_few (rig_in here) n l ts
    at false false = omega arith

-- ── number 11 ──

abbrev pub eleven_if : Bool → ℕ
eleven_if b = pick b 11 0

pub rig_now_lem : (p : List ℕ) (s : Session) → rig_now (view_of p) (seen p s) ≡ rig_at (view_of p) (seen p s) s.bank
unfolding seen
rig_now_lem p s = refl

-- as many targets as are silenced
pub targets_long : (l : List SilencedLevel) → length (targets_of l) ≡ length l
targets_long l = length-map l (λ e. e.target)

module _ (p : List ℕ) (s : Session) (here : Current) (now : Float) (rig : rig_now (view_of p) (seen p s) ≡ rig_in here) where
  abbrev ts : List ℕ
  ts = targets_of (seen_silenced s.silenced)

  adds_same : (note : ℕ) → added_of here s.lamps note ts ≡ added_by note (press_at (view_of p) (seen p s) now)
  unfolding added_of added_by seen
  adds_same note = rw rig

  none_so : length (seen_silenced s.silenced) ≤ 256 → (x : Option Button) → x ≡ None → (n : ℕ) → n ≡ length (seen_silenced s.silenced) + length (adds_by here s.lamps x ts) →
      eleven_if (ltb 256 n) ≡ 0
  none_so few x hx n hn =
      let z : n ≡ length (seen_silenced s.silenced) + 0 = hn ∙ ap (λ (y : Option Button). length (seen_silenced s.silenced) + length (adds_by here s.lamps y ts)) hx in
      at (ltb 256 n) refl (omega arith)
    where
      at : (b : Bool) → ltb 256 n ≡ b → n ≤ 256 → eleven_if b ≡ 0
      at true h l = absurd (omega (arith, ltb-true 256 n h))
      at false h l = refl

  pressed_so : (b : Button) (x : Option Button) → x ≡ Some b → (n : ℕ) → n ≡ length (seen_silenced s.silenced) + length (adds_by here s.lamps x ts) →
      eleven_if (ltb 256 n) ≡ eleven_if (ltb 256 (length (seen p s).silenced + length (added_by b.note (press_at (view_of p) (seen p s) now))))
  unfolding seen
  pressed_so b x hx n hn =
      ap (λ (k : ℕ). eleven_if (ltb 256 k))
      (hn ∙ ap (λ (y : Option Button). length (seen_silenced s.silenced) + length (adds_by here s.lamps y ts)) hx
      ∙ ap (λ (l : List ℕ). length (seen_silenced s.silenced) + length l) (adds_same b.note))

  press_so : (b : Button) → b.pressed ≡ true → (x : Option Button) → x ≡ press_if b.pressed b →
      (n : ℕ) → n ≡ length (seen_silenced s.silenced) + length (adds_by here s.lamps x ts) →
      eleven_if (ltb 256 n) ≡ overfull b.pressed (view_of p) (seen p s) now b.note
  press_so b r x hx n hn = at b.pressed r hx
    where
      at : (c : Bool) → c ≡ true → x ≡ press_if c b → eleven_if (ltb 256 n) ≡ overfull c (view_of p) (seen p s) now b.note
      at true q h = pressed_so b x h n hn
      at false q h = absurd (false≢true q)

  pub over_so : length (seen_silenced s.silenced) ≤ 256 → (what : Input) → runs what ≡ true → (x : Option Button) → x ≡ press_in what →
      (n : ℕ) → n ≡ length (seen_silenced s.silenced) + length (adds_by here s.lamps x ts) →
      eleven_if (ltb 256 n) ≡ refusal what (view_of p) (seen p s) now
  unfolding refusal
  over_so few (input.Midi (event.Fader ch y)) r x hx n hn = absurd (false≢true r)
  over_so few (input.Midi (event.Encoder ch d)) r x hx n hn = absurd (false≢true r)
  over_so few (input.Midi event.Other) r x hx n hn = absurd (false≢true r)
  over_so few (input.Midi (event.Button b)) r x hx n hn = press_so b r x hx n hn
  over_so few input.Tick r x hx n hn = none_so few x hx n hn
  over_so few input.PushState r x hx n hn = none_so few x hx n hn
  over_so few input.PushTransport r x hx n hn = none_so few x hx n hn
  over_so few input.FlashBank r x hx n hn = none_so few x hx n hn

-- ── what an event is handed ──

-- a bank selected is one of the profile's
selected_low : (p : List ℕ) (bank ch : ℕ) → bank < bank_count p → selected_by p bank ch < bank_count p
unfolding selected_by
selected_low p bank ch h = at (select_of p bank) (ltb ch (bank_count p)) refl
  where
    at : (a b : Bool) → ltb ch (bank_count p) ≡ b → pick (a && b) ch bank < bank_count p
    at true true q = ltb-true ch (bank_count p) q
    at true false q = h
    at false b q = h

pub bank_by_low : (p : List ℕ) (bank : ℕ) (x : Option Button) → bank < bank_count p → bank_by p bank x < bank_count p
unfolding bank_after
bank_by_low p bank None h = h
bank_by_low p bank (Some b) h =
    at (eqb (kind_of b.note) 5 || eqb (kind_of b.note) 9) (eqb (kind_of b.note) 4 || eqb (kind_of b.note) 8) (eqb (kind_of b.note) 3)
  where
    at : (x y z : Bool) →
        pick x (next_bank true (bank_count p) bank) (pick y (next_bank false (bank_count p) bank) (pick z (selected_by p bank (or_first (channel_of b.note))) bank)) < bank_count p
    at true y z = next_low true (bank_count p) bank h
    at false true z = next_low false (bank_count p) bank h
    at false false true = selected_low p bank (or_first (channel_of b.note)) h
    at false false false = h

-- where number 11 lets it pass there is room
pub fits_so : (p : List ℕ) (s : Session) (here : Current) (now : Float) → rig_now (view_of p) (seen p s) ≡ rig_in here →
    length (seen_silenced s.silenced) ≤ 256 → (what : Input) → runs what ≡ true → refusal what (view_of p) (seen p s) now ≡ 0 →
    length (seen_silenced s.silenced) + length (adds_by here s.lamps (press_in what) (targets_of (seen_silenced s.silenced))) ≤ 256
fits_so p s here now rig few what r free = at _ refl (over_so p s here now rig few what r (press_in what) refl _ refl ∙ free)
  where
    at : (b : Bool) → {m : ℕ} → ltb 256 m ≡ b → eleven_if b ≡ 0 → m ≤ 256
    at true q h = absurd (omega arith)
    at false q h = ltb-false 256 _ q

-- what the handlers are given
pub given_so : (p : List ℕ) (s : Session) (here there : Current) (after : ℕ) → IsCurrent p s.live s.bank here → IsCurrent p s.live after there →
    Given (seen p s) here there s.lamps (seen_silenced s.silenced) s.moves
unfolding seen
given_so p s here there after i j =
    record {
      bank = sym i.bank;
      rig = ap (λ (q : List ℕ). rig_now (view_of q) (seen p s)) i.profile ∙ rig_now_lem p s ∙ rig_is p s s.bank here i;
      rig_there = ap (λ (q : List ℕ). rig_at (view_of q) (seen p s) there.bank) i.profile ∙ ap (rig_at (view_of p) (seen p s)) j.bank ∙ rig_is p s after there j;
      strips = sym i.strips;
      lamps = refl;
      silenced = refl;
      moves = refl;
    }

-- ── what it does ──

ticks_so : (p : List ℕ) (s : Session) (now : Float) (t : Talk) →
    tick_behind (view_of p) (seen p s) now (writes (rig_now (view_of p) (seen p s)) (seen_line s.line) (nudges (seen_turns p s.turns) t)) ≡ tick (view_of p) (seen p s) now t
unfolding tick_behind tick drain seen
ticks_so p s now t = refl

pub opened-shown : (io : Io) → io.opened ≡ (shown io).opened
unfolding shown
opened-shown io = refl

-- a tick is its drain and what comes behind it; any other event has no drain
behind-act : (p : List ℕ) (s : Session) (e : Timed) (here : Current) (t : Talk) → rig_now (view_of p) (seen p s) ≡ rig_in here →
    behind e.what (view_of p) (seen p s) e.time (drain_if (is_tick e.what) (rig_in here) (seen_line s.line) (seen_turns p s.turns) t)
    ≡ act e.what (view_of p) (seen p s) e.time t
unfolding behind act
behind-act p s e here t rig = at e.what
  where
    tick_so : tick_behind (view_of p) (seen p s) e.time (writes (rig_in here) (seen_line s.line) (nudges (seen_turns p s.turns) t))
        ≡ tick (view_of p) (seen p s) e.time t
    tick_so = rw (← rig) (ticks_so p s e.time t)

    at : (w : Input) →
        behind w (view_of p) (seen p s) e.time (drain_if (is_tick w) (rig_in here) (seen_line s.line) (seen_turns p s.turns) t)
        ≡ act w (view_of p) (seen p s) e.time t
    at (input.Midi m) = refl
    at input.Tick = tick_so
    at input.PushState = refl
    at input.PushTransport = refl
    at input.FlashBank = refl

-- an event behind its drain, as the handler says it of the profile that it was handed
pub ran_so : (p : List ℕ) (s : Session) (e : Timed) (here : Current) (ticks : Bool) (x : Got Left) (t t₀ : Talk) → here.profile.now ≡ p →
    x ≡ behind e.what (view_of here.profile.now) (seen p s) e.time t →
    t ≡ drain_if ticks (rig_in here) (seen_line s.line) (seen_turns here.profile.now s.turns) t₀ →
    x ≡ behind e.what (view_of p) (seen p s) e.time (drain_if ticks (rig_in here) (seen_line s.line) (seen_turns p s.turns) t₀)
ran_so p s e here ticks x t t₀ same f g =
    f ∙ ap (λ (q : List ℕ). behind e.what (view_of q) (seen p s) e.time t) same
    ∙ ap (behind e.what (view_of p) (seen p s) e.time)
    (g ∙ ap (λ (q : List ℕ). drain_if ticks (rig_in here) (seen_line s.line) (seen_turns q s.turns) t₀) same)

module _ (p : List ℕ) (s : Session) (e : Timed) (answers : List ℕ) (here : Current) (rig : rig_now (view_of p) (seen p s) ≡ rig_in here) (ticks : Bool)
    (t₀ u : Talk) (fresh : t₀ ≡ start answers s.opened) (ticks-is : ticks ≡ is_tick e.what) (due : Bool) (left : declared.Left) (l₁ : Lamps) (s₁ : List SilencedLevel)
    (ran : got (left_of (seen p s) (is_tick e.what) due e.time left l₁ s₁) u
    ≡ behind e.what (view_of p) (seen p s) e.time (drain_if ticks (rig_in here) (seen_line s.line) (seen_turns p s.turns) t₀)) where
  -- what was left and the line after it are the definition's
  pub talk-is : got (left_of (seen p s) (is_tick e.what) due e.time left l₁ s₁) u ≡ act_of p s e answers
  unfolding act_of
  talk-is =
      ran
      ∙ ap (λ (b : Bool). behind e.what (view_of p) (seen p s) e.time (drain_if b (rig_in here) (seen_line s.line) (seen_turns p s.turns) t₀)) ticks-is
      ∙ behind-act p s e here t₀ rig
      ∙ ap (act e.what (view_of p) (seen p s) e.time) fresh

  saved-is : left.saved ≡ (act_of p s e answers).value.saved
  unfolding left_of
  saved-is = ap (λ (x : Got Left). x.value.saved) talk-is

  line_is : u ≡ (act_of p s e answers).talk
  line_is = ap (λ (x : Got Left). x.talk) talk-is

  -- room for what it made
  pub room_so : verdict p ≡ 0 → Well p (seen p s) → refusal e.what (view_of p) (seen p s) e.time ≡ 0 → (io : Io) → shown io ≡ u → HasRoom io
  unfolding act_of seen
  room_so ok well free io q = room_for_lem p ok (seen p s) well e answers free io (q ∙ line_is)

  -- and its end
  pub talks_so : is_due s.livedue s.liveat e.time ≡ due → KnownIf left.strips → (io : Io) → shown io ≡ u →
      (remember : Bool) → remember ≡ remember_of p → (o : Outcome) (ms₀ cs₀ ms₁ cs₁ : List ℕ) → Ends io (left.saved && remember) o ms₀ cs₀ ms₁ cs₁ →
      Talks p s e answers ms₀ cs₀ (remember_of p) (record { outcome = o; left = left; opened = io.opened }) l₁ s₁ ms₁ cs₁
  talks_so is-due known io q remember hr o ms₀ cs₀ ms₁ cs₁ ends =
      let end_same : end_of (shown io) (left.saved && remember) ≡ end_of (act_of p s e answers).talk ((act_of p s e answers).value.saved && remember_of p) =
      ap (λ (t : Talk). end_of t (left.saved && remember)) (q ∙ line_is)
      ∙ ap (λ (b : Bool). end_of (act_of p s e answers).talk (b && remember)) saved-is
      ∙ ap (λ (b : Bool). end_of (act_of p s e answers).talk ((act_of p s e answers).value.saved && b)) hr in
      record {
        outcome = ends.outcome ∙ ap outcome_of end_same;
        opened = opened-shown io ∙ ap (λ (t : Talk). t.opened) (q ∙ line_is);
        left =
            ap (λ (b : Bool). left_of (seen p s) (is_tick e.what) b e.time left l₁ s₁) is-due ∙ ap (λ (x : Got Left). x.value) talk-is;
        known = known;
        messages = ends.messages ∙ ap (λ (x : Ended). messages_after x ms₀) end_same;
        calls = ends.calls ∙ ap (λ (x : Ended). calls_after x cs₀) end_same;
      }

-- ── what is delivered ──

module _ (p : List ℕ) (ok : verdict p ≡ 0) (s : Session) (well : Well p (seen p s)) (e : Timed) (answers : List ℕ)
    (free : refusal e.what (view_of p) (seen p s) e.time ≡ 0) (ms cs : List ℕ) (r : Talked) (l₁ : Lamps) (z : Silenced) (ms₁ cs₁ : List ℕ)
    (t : Talks p s e answers ms cs (remember_of p) r l₁ (seen_silenced z) ms₁ cs₁) (b : Bool) (told-is : b ≡ told_done (told r.outcome)) where
  abbrev end : Ended
  end = end_of (act_of p s e answers).talk ((act_of p s e answers).value.saved && remember_of p)

  done-is : b ≡ is_done end
  done-is = told-is ∙ ap told_done t.outcome ∙ done_told end

  pub talked_undone : b ≡ false → Delivers (step (view_of p) (seen p s) e answers) p s ms cs (stays r.outcome s) ms₁ cs₁
  unfolding act_of seen
  talked_undone h = undone_delivers p ok s well e answers free r.outcome ms cs ms₁ cs₁ (sym done-is ∙ h) t.outcome t.messages t.calls

  pub talked_done : runs e.what ≡ true → b ≡ true → (at : Setting) → at ≡ setting_of p s e → (x : Session) →
      Lasts s at r.left l₁ z r.opened e.time x → KeepsPlaces s x → Places p s →
      Delivers (step (view_of p) (seen p s) e answers) p s ms cs (goes r.outcome x) ms₁ cs₁
  unfolding act_of seen
  talked_done runs_so h at hat x lasts keeps places =
      let same : left_of (seen p s) at.ticks at.due e.time r.left l₁ (seen_silenced z) ≡ (act_of p s e answers).value =
      ap (λ (a : Setting). left_of (seen p s) a.ticks a.due e.time r.left l₁ (seen_silenced z)) hat ∙ t.left in
      done_delivers p ok s well e answers free (runs_low e.what runs_so) r.outcome x ms cs ms₁ cs₁ (sym done-is ∙ h)
      (lasts p ∙ ap (λ l. kept_with l r.opened) same ∙ ap (kept_with (act_of p s e answers).value) t.opened)
      (keeps p places) t.outcome t.messages t.calls
