-- A press: it selects a bank exactly where the account says so, and loads a scene exactly where a load of its calls was answered done. One that is neither
-- mute nor solo writes nothing.
use Rattle.std.proofs.Common.{None, Option, Some}
use Prim.Native.Nat.{ℕ, zero, suc, ◌+◌, ◌-◌, ◌≤◌, ◌<◌}
use mathlib.Core.Path.{◌≡◌, refl, sym, ap, subst, ◌∙◌}
use mathlib.Core.Bool.{Bool, true, false, ◌&&◌, ◌||◌, not, beq, or-false, false≢true}
use mathlib.Core.List.{List, [], ◌∷◌, ◌++◌}
use native.Mathlib.Omega.{arith}
use lib.Dec.{eqb, leb}
use lib.ListN.{length, get_or}
use lib.Ieee.{Float}
use borrow.Author.Tests.{eqb-true, leb-false}
use Rattle.base.specs.Choice.{pick}
use Rattle.protocol.specs.Protocol.{kind_of, channel_of}
use Rattle.lookup.specs.Lookup.{transport_of, before}
use Rattle.lookup.specs.declared.Destination.{Destination}
use Rattle.drivers.specs.Answers.{is_done}
use Rattle.drivers.specs.Talk.{Talk, Reply, Act, next, ◌>>=◌, plain_call, write_call, use_done, write_of, toggle_of, command_of, scenes_of, current_of, load_of}
use Rattle.drivers.specs.Paired.{Asked, paired}
use Rattle.session.specs.Session.{SilencedLevel, targets_of, is_silenced, scene_at, solo_to, none_noted, loaded_by}
use Rattle.session.specs.declared.Lamps.{Lamps}
use Rattle.session.specs.declared.Moves.{Moves}
use Rattle.definition.specs.Rig.{Rig, Here, destination, device, bank_driver}
use Rattle.definition.specs.Levels.{write, has_mute, kept_by}
use Rattle.definition.specs.Muting.{hand_back, keep_level, zeroed, mute_level, mute_if, mute_to, mute, toggle_if, set_mute, peer, back_if, off_if, off_to, solo_off, note_mutes, note_if, silence_if, on_level, on_if, on_to, solo_on, solo_if, solo_with, solo}
use Rattle.definition.specs.Scenes.{Paged, paged, Loaded, Started, names_on, names_if, scene_names, on_list, on_device_if, scene_on_device, load_if, load_on, loaded_if, load_at_if, load_scene_at, start_if, start, shown_if, page_if, step_scene_if, step_scene, scene_if, scene, is_at, next_scene}
use Rattle.definition.specs.Banks.{select_if, select_bank, next_bank, step_if, step_bank}
use Rattle.definition.specs.Buttons.{Press, Pressed, pressed, of_scene, of_bank, offered_if, default_of, default_button, run_bound, run_else, run_command, rec_if, rec_loads, bank_of, page, walk, command, rec_as, rec, select_as, mute_as, solo_as, or_first, press_of, button}
use Rattle.account.specs.Account.{answer_in, loads, is_load, steps, Uses, used, opened-used, not-used, Only, no_call, one-call, not_write}
use Rattle.account.proofs.Grown.{Grown, Goes, weaken, join, use_ok}
use Rattle.account.proofs.Frame.{Makes, Asks, stay, still, giving, line_of, behind, onto, bind, makes_open, makes_use, makes_done, makes_read, makes_read_mute, makes_muted_to, makes_push, makes_number, makes_flash_bank}
use Rattle.lookup.specs.declared.Command.{Command}

-- ── for every test of calls that passes what a press asks beside its writes, toggles and loads ──

pub record Lets (K : ℕ → Bool) : Type 0 where
  pub opens : K 0 ≡ true
  pub reads : K 1 ≡ true
  pub commands : K 4 ≡ true
  pub scenes : K 6 ≡ true
  pub current : K 7 ≡ true

module _ {K : ℕ → Bool} (k : Lets K) where
  makes_command : (driver name c : ℕ) → Asks K (command_of driver name c)
  unfolding command_of plain_call
  makes_command driver name c = makes_done k.opens (plain_call 4 driver name c) refl k.commands

  makes_scenes : (driver : ℕ) → Asks K (scenes_of driver)
  unfolding scenes_of plain_call
  makes_scenes driver = bind (makes_use k.opens (plain_call 6 driver 0 0) refl k.scenes) (λ r. still)

  makes_current : (driver : ℕ) → Asks K (current_of driver)
  unfolding current_of plain_call
  makes_current driver = bind (makes_use k.opens (plain_call 7 driver 0 0) refl k.current) (λ r. still)

  -- commands
  makes_default : (r : Rig) (kind : ℕ) → Asks K (default_button r kind)
  unfolding default_button
  makes_default r kind = go (eqb (bank_driver r.here) 65535)
    where
      at : (b : Bool) → Asks K (offered_if b r (bank_driver r.here) kind)
      at true = still
      at false = still

      go : (b : Bool) → Asks K (default_of b r (bank_driver r.here) kind)
      go true = still
      go false = bind (makes_open k.opens (bank_driver r.here) 0) at

  makes_bound : (b : Option Command) → Makes K (run_bound b)
  makes_bound (Some c) = line_of (makes_command c.driver c.target c.command)
  makes_bound None = stay

  makes_run : (r : Rig) (kind : ℕ) → Makes K (run_command r kind)
  unfolding run_command
  makes_run r kind = go (before (transport_of kind r.globals.transports) (transport_of kind r.here.part.transports))
    where
      go : (b : Option Command) → Makes K (run_else b r kind)
      go (Some c) = makes_bound (Some c)
      go None = onto {m = default_button r kind} {g = run_bound} (makes_default r kind) makes_bound

  makes_rec_loads : (r : Rig) → Asks K (rec_loads r)
  unfolding rec_loads
  makes_rec_loads r = go (eqb r.here.part.rec 0)
    where
      go : (b : Bool) → Asks K (rec_if b r)
      go true = bind (makes_default r 0) (λ b. still)
      go false = still

  -- scenes, without their loads
  makes_names : (h : Here) → Asks K (scene_names h)
  unfolding scene_names
  makes_names h = go (eqb (length h.part.scenes) 0)
    where
      on : (b : Bool) → Asks K (names_on b (device h))
      on true = still
      on false = bind (makes_scenes (device h)) (λ l. still)

      go : (b : Bool) → Asks K (names_if b h)
      go true = on (eqb (device h) 65535)
      go false = still

  makes_on_device : (h : Here) (names : List ℕ) → Asks K (scene_on_device h names)
  unfolding scene_on_device
  makes_on_device h names = go (eqb (device h) 65535)
    where
      on : (i : Option ℕ) → Asks K (on_list i (device h) names)
      on (Some i) = bind (makes_scenes (device h)) (λ l. still)
      on None = still

      go : (b : Bool) → Asks K (on_device_if b (device h) names)
      go true = still
      go false = bind (makes_current (device h)) on

  makes_start : (h : Here) (names : List ℕ) (l : Lamps) → Asks K (start h names l)
  unfolding start
  makes_start h names l = go (scene_at h.bank l)
    where
      go : (p : Option ℕ) → Asks K (start_if p h names l)
      go (Some i) = still
      go None = bind (makes_on_device h names) (λ p. still)

  -- what follows a load
  makes_loaded_if : (r : Rig) (s : List ℕ) (i : ℕ) (l : Lamps) (b : Bool) → Asks K (loaded_if b r s i l)
  makes_loaded_if r s i l true = giving (makes_push k.opens k.reads r _ s)
  makes_loaded_if r s i l false = still

  makes_shown_if : (r : Rig) (s : List ℕ) (m : Moves) (now : Float) (i : ℕ) (l : Lamps) (saved b : Bool) → Asks K (shown_if b r s m now i l saved)
  unfolding next
  makes_shown_if r s m now i l saved true = bind (makes_number k.opens k.reads r s m now i 8 l) (λ z. still {a = paged z true true})
  makes_shown_if r s m now i l saved false = still

  makes_scene_if : (r : Rig) (s : List ℕ) (m : Moves) (now : Float) (n : ℕ) (l : Lamps) (b : Bool) → Asks K (scene_if b r s m now n l)
  unfolding next
  makes_scene_if r s m now n l true = bind (makes_number k.opens k.reads r s m now (n - 1) 8 (loaded_by n l)) (λ z. still {a = paged z true true})
  makes_scene_if r s m now n l false = still

  -- ── with its loads ──

  module _ (loads : K 8 ≡ true) where
    makes_load : (driver i : ℕ) → Asks K (load_of driver i)
    unfolding load_of plain_call
    makes_load driver i = makes_done k.opens (plain_call 8 driver 0 i) refl loads

    makes_load_on : (driver name i : ℕ) → Asks K (load_on driver name i)
    unfolding load_on
    makes_load_on driver name i = bind (makes_scenes driver) (λ l. go l.ok l.list)
      where
        go : (b : Bool) (all : List ℕ) → Asks K (load_if b driver name i all)
        go true all = makes_load driver _
        go false all = still

    makes_scene_at : (r : Rig) (s : List ℕ) (i : ℕ) (l : Lamps) → Asks K (load_scene_at r s i l)
    unfolding load_scene_at
    makes_scene_at r s i l = bind (makes_names r.here) (λ names. go (eqb (device r.here) 65535 || leb (length names) i) names)
      where
        go : (b : Bool) (names : List ℕ) → Asks K (load_at_if b r s i l names)
        go true names = still
        go false names = bind (makes_load_on (device r.here) (get_or names i 65535) i) (makes_loaded_if r s i l)

    makes_page : (right : Bool) (r : Rig) (s : List ℕ) (m : Moves) (now : Float) (l : Lamps) → Asks K (step_scene right r s m now l)
    unfolding step_scene next
    makes_page right r s m now l = bind (makes_names r.here) (λ names. at (eqb (length names) 0) names)
      where
        go : (b : Bool) (i : ℕ) (x : Started) → Asks K (page_if b r s m now i x)
        go true i x = still
        go false i x = bind (makes_scene_at r s i x.lamps) (λ z. makes_shown_if r s m now i z.lamps x.saved z.ok)

        at : (b : Bool) (names : List ℕ) → Asks K (step_scene_if b right r s m now l names)
        at true names = still
        at false names =
            bind (makes_start r.here names l)
            (λ x. go (is_at (scene_at r.here.bank x.lamps) (next_scene right (scene_at r.here.bank x.lamps) (length names))) (next_scene right (scene_at r.here.bank x.lamps) (length names)) x)

    makes_scene : (r : Rig) (s : List ℕ) (m : Moves) (now : Float) (n : ℕ) (l : Lamps) → Asks K (scene r s m now n l)
    unfolding scene next
    makes_scene r s m now n l = bind (makes_scene_at r s (n - 1) l) (λ z. makes_scene_if r s m now n z.lamps z.ok)

  -- ── a bank is selected ──

  module _ (rig_at : ℕ → Rig) (banks bank i : ℕ) (s : List ℕ) (m : Moves) (now : Float) (l : Lamps) where
    makes_select_if : (b : Bool) → Asks K (select_if b rig_at bank i s m now l)
    makes_select_if true = still
    makes_select_if false = bind (behind (makes_flash_bank k.opens k.reads (rig_at i) s m now l) (makes_push k.opens k.reads (rig_at i) l s)) (λ x. still)

    makes_select : Asks K (select_bank rig_at banks bank i s m now l)
    unfolding select_bank
    makes_select = makes_select_if (leb banks i)

    makes_step_if : (b : Bool) → Asks K (step_if b rig_at banks bank i s m now l)
    makes_step_if true = still
    makes_step_if false = makes_select

-- ── what loads nothing ──

abbrev pub not_load : ℕ → Bool
not_load kind = not (eqb kind 8)

no_loads : Lets not_load
no_loads = record { opens = refl; reads = refl; commands = refl; scenes = refl; current = refl }

makes_write_of : (driver name : ℕ) (x : Float) → Asks not_load (write_of driver name x)
unfolding write_of write_call
makes_write_of driver name x = makes_done refl (write_call driver name x) refl refl

makes_write : (d : Destination) (x : Float) → Asks not_load (write d x)
unfolding write
makes_write d x = makes_write_of d.driver d.target _

makes_toggle : (driver name : ℕ) → Asks not_load (toggle_of driver name)
unfolding toggle_of plain_call
makes_toggle driver name = makes_done refl (plain_call 3 driver name 0) refl refl

-- mute and solo
makes_back : (d : Destination) (s : List SilencedLevel) → Asks not_load (hand_back d s)
unfolding hand_back
makes_back d s = giving (line_of (makes_write d _))

makes_keep : (d : Destination) (s : List SilencedLevel) → Asks not_load (keep_level d s)
unfolding keep_level
makes_keep d s = bind (makes_read refl refl d) (λ l. still)

makes_zeroed : (d : Destination) (s : List SilencedLevel) → Asks not_load (zeroed d s)
unfolding zeroed
makes_zeroed d s = bind (makes_keep d s) (λ k. giving (line_of (makes_write_of d.driver d.target _)))

makes_mute_if : (b : Bool) (d : Destination) (s : List SilencedLevel) → Asks not_load (mute_if b d s)
makes_mute_if true d s = giving (line_of (makes_toggle d.driver d.mute))
makes_mute_if false d s = go (is_silenced (kept_by d) (targets_of s))
  where
    go : (b : Bool) → Asks not_load (mute_level b d s)
    go true = makes_back d s
    go false = makes_zeroed d s

makes_mute_to : (f : Option Destination) (r : Rig) (l : Lamps) (s : List SilencedLevel) → Asks not_load (mute_to f r l s)
makes_mute_to (Some d) r l s = bind (makes_mute_if (has_mute d) d s) (λ k. giving (makes_push refl refl r l (targets_of k)))
makes_mute_to None r l s = still

makes_toggle_if : (o : Option Bool) (b : Bool) (d : Destination) → Makes not_load (toggle_if o b d)
makes_toggle_if None b d = stay
makes_toggle_if (Some a) b d = go (beq a b)
  where
    go : (c : Bool) → Makes not_load (λ t. pick c t (toggle_of d.driver d.mute t).talk)
    go true = stay
    go false = line_of (makes_toggle d.driver d.mute)

makes_set_mute : (d : Destination) (b : Bool) → Makes not_load (set_mute d b)
unfolding set_mute
makes_set_mute d b = onto (makes_read_mute refl refl d) (λ o. makes_toggle_if o b d)

makes_back_if : (b : Bool) (d : Destination) (s : List SilencedLevel) → Asks not_load (back_if b d s)
makes_back_if true d s = makes_back d s
makes_back_if false d s = still

makes_off_if : (b : Bool) (d : Destination) (was : Bool) (s : List SilencedLevel) → Asks not_load (off_if b d was s)
makes_off_if true d was s = giving (makes_set_mute d was)
makes_off_if false d was s = makes_back_if (is_silenced (kept_by d) (targets_of s)) d s

makes_off_to : (f : Option Destination) (was : Bool) (s : List SilencedLevel) → Asks not_load (off_to f was s)
makes_off_to (Some d) was s = makes_off_if (has_mute d) d was s
makes_off_to None was s = still

makes_solo_off : (r : Rig) (group : ℕ) (l : Lamps) (n : ℕ) (s : List SilencedLevel) → Asks not_load (solo_off (peer r group) l n s)
unfolding solo_off
makes_solo_off r group l zero s = still
makes_solo_off r group l (suc n) s = bind (makes_solo_off r group l n s) (λ k. makes_off_to (peer r group (n + 1)) _ k)

makes_notes : (r : Rig) (group : ℕ) (ts : List ℕ) (n : ℕ) (l : Lamps) → Asks not_load (note_mutes (peer r group) ts n l)
unfolding note_mutes
makes_notes r group ts zero l = still
makes_notes r group ts (suc n) l = bind (makes_notes r group ts n l) (λ k. bind (makes_muted_to refl refl (peer r group (n + 1)) ts) (λ b. still))

makes_note_if : (b : Bool) (r : Rig) (group : ℕ) (ts : List ℕ) (l : Lamps) → Asks not_load (note_if b (peer r group) ts l)
makes_note_if true r group ts l = makes_notes r group ts 16 l
makes_note_if false r group ts l = still

makes_silence_if : (b : Bool) (d : Destination) (s : List SilencedLevel) → Asks not_load (silence_if b d s)
makes_silence_if true d s = giving (line_of (makes_write d _))
makes_silence_if false d s = bind (makes_keep d s) (λ k. giving (line_of (makes_write d _)))

makes_on_if : (b : Bool) (d : Destination) (silence : Bool) (s : List SilencedLevel) → Asks not_load (on_if b d silence s)
makes_on_if true d silence s = giving (makes_set_mute d silence)
makes_on_if false d silence s = go silence
  where
    go : (b : Bool) → Asks not_load (on_level b d s)
    go true = makes_silence_if (is_silenced (kept_by d) (targets_of s)) d s
    go false = makes_back_if (is_silenced (kept_by d) (targets_of s)) d s

makes_on_to : (f : Option Destination) (silence : Bool) (s : List SilencedLevel) → Asks not_load (on_to f silence s)
makes_on_to (Some d) silence s = makes_on_if (has_mute d) d silence s
makes_on_to None silence s = still

makes_solo_on : (r : Rig) (group fader n : ℕ) (s : List SilencedLevel) → Asks not_load (solo_on (peer r group) fader n s)
unfolding solo_on
makes_solo_on r group fader zero s = still
makes_solo_on r group fader (suc n) s = bind (makes_solo_on r group fader n s) (λ k. makes_on_to (peer r group (n + 1)) _ k)

makes_solo_if : (b : Bool) (r : Rig) (group fader : ℕ) (l : Lamps) (s : List SilencedLevel) → Asks not_load (solo_if b r group fader l s)
makes_solo_if true r group fader l s =
    bind (makes_solo_off r group l 16 s) (λ k. giving (makes_push refl refl r (solo_to 0 (none_noted l)) (targets_of k)))
makes_solo_if false r group fader l s =
    bind (makes_note_if (eqb l.soloed 0) r group (targets_of s) l)
    (λ n. bind (makes_solo_on r group fader 16 s) (λ k. giving (makes_push refl refl r (solo_to fader n) (targets_of k))))

makes_solo_with : (f : Option Destination) (r : Rig) (fader : ℕ) (l : Lamps) (s : List SilencedLevel) → Asks not_load (solo_with f r fader l s)
makes_solo_with (Some d) r fader l s = makes_solo_if (eqb l.soloed fader) r d.group fader l s
makes_solo_with None r fader l s = still

makes_mute : (r : Rig) (n : ℕ) (l : Lamps) (s : List SilencedLevel) → Asks not_load (mute r n l s)
unfolding mute
makes_mute r n l s = makes_mute_to (destination r n) r l s

makes_solo : (r : Rig) (n : ℕ) (l : Lamps) (s : List SilencedLevel) → Asks not_load (solo r n l s)
unfolding solo
makes_solo r n l s = makes_solo_with (destination r n) r n l s

-- ── loads ──

only_none : {l : List Asked} → Only not_load l → loads l ≡ false
unfolding loads
only_none no_call = refl
only_none (one-call {x = x} {l = l} e h) = go (eqb x.call.kind 8) e (only_none h)
  where
    go : (b : Bool) → not b ≡ true → loads l ≡ false → (b && is_done (answer_in x)) || loads l ≡ false
    go true q i = absurd (false≢true q)
    go false q i = i

loads-append : (l m : List Asked) → loads (l ++ m) ≡ loads l || loads m
unfolding loads
loads-append [] m = refl
loads-append (x ∷ l) m = go (is_load x) (loads-append l m)
  where
    go : (b : Bool) → loads (l ++ m) ≡ loads l || loads m → b || loads (l ++ m) ≡ (b || loads l) || loads m
    go true e = refl
    go false e = e

none_then : (l m : List Asked) (b : Bool) → loads m ≡ false → loads l ≡ b → loads (l ++ m) ≡ b
none_then l m b e q = loads-append l m ∙ ap (λ (x : Bool). loads l || x) e ∙ or-false (loads l) ∙ q

-- the act's value says whether a scene was loaded
module _ {A : Type 0} where
  record Loads (f : A → Bool) (m : Act A) : Type 0 where
    grown : (t : Talk) → Goes (m t).talk → Grown (λ l. loads l ≡ f (m t).value) t (m t).talk

  quiet : {f : A → Bool} {m : Act A} → Asks not_load m → ((t : Talk) → f (m t).value ≡ false) → Loads f m
  quiet h k = record { grown = λ t e. weaken (λ l o. only_none o ∙ sym (k t)) (h.grown t e) }

module _ {A B : Type 0} {f : B → Bool} {m : Act A} {k : A → Act B} where
  quiet_first : Asks not_load m → ((a : A) → Loads f (k a)) → Loads f (m >>= k)
  unfolding next
  quiet_first h i =
      record {
        grown = λ t e.
            let b = (i (m t).value).grown (m t).talk e in
            let a = h.grown t b.was in
            join a b (λ l o. loads-append _ l ∙ ap (λ (x : Bool). x || loads l) (only_none a.fact) ∙ o);
      }

  quiet_then : (g : A → Bool) → Loads g m → ((a : A) → Asks not_load (k a)) → ((a : A) (t : Talk) → f (k a t).value ≡ g a) →
      Loads f (m >>= k)
  unfolding next
  quiet_then g h i v =
      record {
        grown = λ t e.
            let b = (i (m t).value).grown (m t).talk e in
            let a = h.grown t b.was in
            join a b
            (λ l o. none_then (paired a.more t.left) l (f (k (m t).value (m t).talk).value) (only_none o) (a.fact ∙ sym (v (m t).value (m t).talk)));
      }

abbrev itself : Bool → Bool
itself b = b

loads-load_of : (driver i : ℕ) → Loads itself (load_of driver i)
unfolding load_of use_done next plain_call loads
loads-load_of driver i = record { grown = λ t e. weaken (λ l u. at u) (use_ok (plain_call 8 driver 0 i) refl t e) }
  where
    at : {o : List Bool} {r : Reply} {l : List Asked} → Uses o (plain_call 8 driver 0 i) r l → loads l ≡ is_done r.answer
    at (used {r = r} n) = or-false (is_done r.answer)
    at (opened-used {r = r} n) = or-false (is_done r.answer)
    at (not-used n) = refl

loads_on : (driver name i : ℕ) → Loads itself (load_on driver name i)
unfolding load_on
loads_on driver name i = quiet_first (makes_scenes no_loads driver) (λ l. go l.ok l.list)
  where
    go : (b : Bool) (all : List ℕ) → Loads itself (load_if b driver name i all)
    go true all = loads-load_of driver _
    go false all = quiet still (λ t. refl)

abbrev ok_of : Loaded → Bool
ok_of x = x.ok

abbrev loaded_of : Paged → Bool
loaded_of x = x.loaded

loads-scene_at : (r : Rig) (s : List ℕ) (i : ℕ) (l : Lamps) → Loads ok_of (load_scene_at r s i l)
unfolding load_scene_at
loads-scene_at r s i l =
    quiet_first (makes_names no_loads r.here) (λ names. go (eqb (device r.here) 65535 || leb (length names) i) names)
  where
    value : (b : Bool) (t : Talk) → ok_of (loaded_if b r s i l t).value ≡ b
    value true t = refl
    value false t = refl

    go : (b : Bool) (names : List ℕ) → Loads ok_of (load_at_if b r s i l names)
    go true names = quiet still (λ t. refl)
    go false names = quiet_then itself (loads_on (device r.here) (get_or names i 65535) i) (makes_loaded_if no_loads r s i l) value

loads-page : (right : Bool) (r : Rig) (s : List ℕ) (m : Moves) (now : Float) (l : Lamps) → Loads loaded_of (step_scene right r s m now l)
unfolding step_scene next
loads-page right r s m now l = quiet_first (makes_names no_loads r.here) (λ names. at (eqb (length names) 0) names)
  where
    value : (i : ℕ) (saved : Bool) (k : Lamps) (b : Bool) (t : Talk) → loaded_of (shown_if b r s m now i k saved t).value ≡ b
    value i saved k true t = refl
    value i saved k false t = refl

    go : (b : Bool) (i : ℕ) (x : Started) → Loads loaded_of (page_if b r s m now i x)
    go true i x = quiet still (λ t. refl)
    go false i x =
        quiet_then ok_of (loads-scene_at r s i x.lamps) (λ k. makes_shown_if no_loads r s m now i k.lamps x.saved k.ok) (λ k t. value i x.saved k.lamps k.ok t)

    at : (b : Bool) (names : List ℕ) → Loads loaded_of (step_scene_if b right r s m now l names)
    at true names = quiet still (λ t. refl)
    at false names =
        quiet_first (makes_start no_loads r.here names l)
        (λ x. go (is_at (scene_at r.here.bank x.lamps) (next_scene right (scene_at r.here.bank x.lamps) (length names))) (next_scene right (scene_at r.here.bank x.lamps) (length names)) x)

loads-scene : (r : Rig) (s : List ℕ) (m : Moves) (now : Float) (n : ℕ) (l : Lamps) → Loads loaded_of (scene r s m now n l)
unfolding scene next
loads-scene r s m now n l = quiet_then ok_of (loads-scene_at r s (n - 1) l) (λ k. makes_scene_if no_loads r s m now n k.lamps k.ok) (λ k t. value k.lamps k.ok t)
  where
    value : (k : Lamps) (b : Bool) (t : Talk) → loaded_of (scene_if b r s m now n k t).value ≡ b
    value k true t = refl
    value k false t = refl

-- ── a bank is selected ──

module _ (rig_at : ℕ → Rig) (banks bank i : ℕ) (s : List ℕ) (m : Moves) (now : Float) (l : Lamps) where
  selected_if : (b : Bool) (t : Talk) → (select_if b rig_at bank i s m now l t).value.selected ≡ not b
  unfolding next
  selected_if true t = refl
  selected_if false t = refl

  bank_if : (b : Bool) (t : Talk) → leb banks i ≡ b → bank < 16 → banks ≤ 16 → (select_if b rig_at bank i s m now l t).value.bank < 16
  unfolding next
  bank_if true t e h f = h
  bank_if false t e h f = omega (arith, leb-false banks i e)

  selected_so : (t : Talk) → (select_bank rig_at banks bank i s m now l t).value.selected ≡ not (leb banks i)
  unfolding select_bank
  selected_so t = selected_if (leb banks i) t

  bank_so : (t : Talk) → bank < 16 → banks ≤ 16 → (select_bank rig_at banks bank i s m now l t).value.bank < 16
  unfolding select_bank
  bank_so t h f = bank_if (leb banks i) t refl h f

  stepped_if : (b : Bool) (t : Talk) → (step_if b rig_at banks bank i s m now l t).value.selected ≡ not b && not (leb banks i)
  stepped_if true t = refl
  stepped_if false t = selected_so t

  bank_step : (b : Bool) (t : Talk) → bank < 16 → banks ≤ 16 → (step_if b rig_at banks bank i s m now l t).value.bank < 16
  bank_step true t h f = h
  bank_step false t h f = bank_so t h f

-- ── any press ──

-- where a press stands after it, and whether it selected a bank, as sel says, or loaded a scene
pub record Chooses (sel : Bool) (m : Act Pressed) : Type 0 where
  pub grown : (t : Talk) → Goes (m t).talk → Grown (λ l. (m t).value.moved ≡ sel || loads l) t (m t).talk
  pub bank : (t : Talk) → (m t).value.bank < 16

or-none : (b : Bool) (l : List Asked) → Only not_load l → b || loads l ≡ b
or-none true l o = refl
or-none false l o = only_none o

steady : {sel : Bool} {m : Act Pressed} → Asks not_load m → ((t : Talk) → (m t).value.moved ≡ sel) → ((t : Talk) → (m t).value.bank < 16) →
    Chooses sel m
steady {sel} h k b = record { grown = λ t e. weaken (λ l o. k t ∙ sym (or-none sel l o)) (h.grown t e); bank = b }

module _ (p : Press) (few : p.banks ≤ 16) (here : bank_of p < 16) where
  page_ok : (right : Bool) → Chooses false (page right p)
  unfolding next
  page_ok right =
      record {
        grown = λ t e. weaken (λ l q. sym q) ((loads-page right p.rig (targets_of p.silenced) p.moves p.now p.lamps).grown t e);
        bank = λ t. here;
      }

  walk_ok : (right : Bool) → Chooses (steps right p.banks (bank_of p)) (walk right p)
  unfolding next step_bank
  walk_ok right =
      let i = next_bank right p.banks (bank_of p) in
      steady
      (bind
      (makes_step_if no_loads p.rig_at p.banks (bank_of p) i (targets_of p.silenced) p.moves p.now p.lamps (eqb i (bank_of p)))
      (λ x. still {a = of_bank p.silenced x}))
      (λ t. stepped_if p.rig_at p.banks (bank_of p) i (targets_of p.silenced) p.moves p.now p.lamps (eqb i (bank_of p)) t)
      (λ t. bank_step p.rig_at p.banks (bank_of p) i (targets_of p.silenced) p.moves p.now p.lamps (eqb i (bank_of p)) t here few)

  command_ok : (kind : ℕ) → Chooses false (command kind p)
  command_ok kind = steady (giving (makes_run no_loads p.rig kind)) (λ t. refl) (λ t. here)

  mute_ok : (n : ℕ) → Chooses false (mute_as n p)
  unfolding next
  mute_ok n = steady (bind (makes_mute p.rig n p.lamps p.silenced) (λ s. still {a = pressed (bank_of p) p.lamps s false false})) (λ t. refl) (λ t. here)

  solo_ok : (n : ℕ) → Chooses false (solo_as n p)
  unfolding next
  solo_ok n = steady (bind (makes_solo p.rig n p.lamps p.silenced) (λ x. still {a = pressed (bank_of p) x.lamps x.silenced false false})) (λ t. refl) (λ t. here)

  rec_as_lem : (b : Bool) (ch : ℕ) → Chooses false (rec_as b ch p)
  unfolding next
  rec_as_lem true ch =
      record {
        grown = λ t e. weaken (λ l q. sym q) ((loads-scene p.rig (targets_of p.silenced) p.moves p.now (ch + 1) p.lamps).grown t e);
        bank = λ t. here;
      }
  rec_as_lem false ch = command_ok 0

  rec_ok : (ch : ℕ) → Chooses false (rec ch p)
  unfolding next
  rec_ok ch =
      record {
        grown = λ t e.
            let u = rec_loads p.rig t in
            let b = (rec_as_lem u.value ch).grown u.talk e in
            let a = (makes_rec_loads no_loads p.rig).grown t b.was in
            join a b (λ l q. q ∙ sym (loads-append (paired a.more t.left) l ∙ ap (λ (x : Bool). x || loads l) (only_none a.fact)));
        bank = λ t. (rec_as_lem (rec_loads p.rig t).value ch).bank (rec_loads p.rig t).talk;
      }

  select_ok : (b : Bool) (ch : ℕ) → Chooses (b && not (leb p.banks ch)) (select_as b ch p)
  unfolding next
  select_ok true ch =
      steady
      (bind (makes_select no_loads p.rig_at p.banks (bank_of p) ch (targets_of p.silenced) p.moves p.now p.lamps)
      (λ x. still {a = of_bank p.silenced x}))
      (λ t. selected_so p.rig_at p.banks (bank_of p) ch (targets_of p.silenced) p.moves p.now p.lamps t)
      (λ t. bank_so p.rig_at p.banks (bank_of p) ch (targets_of p.silenced) p.moves p.now p.lamps t here few)
  select_ok false ch = command_ok 3

  -- what the account says of the press
  abbrev chosen : ℕ → ℕ → Bool
  chosen kind ch =
      pick (eqb kind 5 || eqb kind 9) (steps true p.banks (bank_of p))
      (pick (eqb kind 4 || eqb kind 8) (steps false p.banks (bank_of p))
      (pick (eqb kind 3) (p.rig.here.part.select && not (leb p.banks ch)) false))

  pub press_ok : (kind ch : ℕ) → Chooses (chosen kind ch) (press_of kind ch p)
  unfolding press_of
  press_ok kind ch = at7 (eqb kind 7) refl
    where
      sel : Bool
      sel = p.rig.here.part.select && not (leb p.banks ch)

      act3 : Act Pressed
      act3 = pick (eqb kind 3) (select_as p.rig.here.part.select ch p) (command kind p)

      act0 : Act Pressed
      act0 = pick (eqb kind 0) (rec ch p) act3

      act1 : Act Pressed
      act1 = pick (eqb kind 1) (solo_as (ch + 1) p) act0

      act2 : Act Pressed
      act2 = pick (eqb kind 2) (mute_as (ch + 1) p) act1

      act4 : Act Pressed
      act4 = pick (eqb kind 4 || eqb kind 8) (walk false p) act2

      act5 : Act Pressed
      act5 = pick (eqb kind 5 || eqb kind 9) (walk true p) act4

      act6 : Act Pressed
      act6 = pick (eqb kind 6) (page false p) act5

      at3 : (b : Bool) → Chooses (pick b sel false) (pick b (select_as p.rig.here.part.select ch p) (command kind p))
      at3 true = select_ok p.rig.here.part.select ch
      at3 false = command_ok kind

      at0 : (b : Bool) → eqb kind 0 ≡ b → Chooses (pick (eqb kind 3) sel false) (pick b (rec ch p) act3)
      at0 true e = subst (λ (k : ℕ). Chooses (pick (eqb k 3) sel false) (rec ch p)) (sym (eqb-true kind 0 e)) (rec_ok ch)
      at0 false e = at3 (eqb kind 3)

      at1 : (b : Bool) → eqb kind 1 ≡ b → Chooses (pick (eqb kind 3) sel false) (pick b (solo_as (ch + 1) p) act0)
      at1 true e = subst (λ (k : ℕ). Chooses (pick (eqb k 3) sel false) (solo_as (ch + 1) p)) (sym (eqb-true kind 1 e)) (solo_ok (ch + 1))
      at1 false e = at0 (eqb kind 0) refl

      at2 : (b : Bool) → eqb kind 2 ≡ b → Chooses (pick (eqb kind 3) sel false) (pick b (mute_as (ch + 1) p) act1)
      at2 true e = subst (λ (k : ℕ). Chooses (pick (eqb k 3) sel false) (mute_as (ch + 1) p)) (sym (eqb-true kind 2 e)) (mute_ok (ch + 1))
      at2 false e = at1 (eqb kind 1) refl

      at4 : (b : Bool) → Chooses (pick b (steps false p.banks (bank_of p)) (pick (eqb kind 3) sel false)) (pick b (walk false p) act2)
      at4 true = walk_ok false
      at4 false = at2 (eqb kind 2) refl

      at5 : (b : Bool) →
          Chooses (pick b (steps true p.banks (bank_of p)) (pick (eqb kind 4 || eqb kind 8) (steps false p.banks (bank_of p)) (pick (eqb kind 3) sel false)))
          (pick b (walk true p) act4)
      at5 true = walk_ok true
      at5 false = at4 (eqb kind 4 || eqb kind 8)

      at6 : (b : Bool) → eqb kind 6 ≡ b → Chooses (chosen kind ch) (pick b (page false p) act5)
      at6 true e = subst (λ (k : ℕ). Chooses (chosen k ch) (page false p)) (sym (eqb-true kind 6 e)) (page_ok false)
      at6 false e = at5 (eqb kind 5 || eqb kind 9)

      at7 : (b : Bool) → eqb kind 7 ≡ b → Chooses (chosen kind ch) (pick b (page true p) act6)
      at7 true e = subst (λ (k : ℕ). Chooses (chosen k ch) (page true p)) (sym (eqb-true kind 7 e)) (page_ok true)
      at7 false e = at6 (eqb kind 6) refl

  pub button_ok_lem : (note : ℕ) → Chooses (chosen (kind_of note) (or_first (channel_of note))) (button note p)
  unfolding button
  button_ok_lem note = press_ok (kind_of note) (or_first (channel_of note))

-- ── a press that is neither mute nor solo writes nothing ──

no_writes : Lets not_write
no_writes = record { opens = refl; reads = refl; commands = refl; scenes = refl; current = refl }

module _ (p : Press) where
  page_quiet : (right : Bool) → Asks not_write (page right p)
  page_quiet right =
      bind (makes_page no_writes refl right p.rig (targets_of p.silenced) p.moves p.now p.lamps) (λ x. still {a = of_scene (bank_of p) p.silenced x})

  walk_quiet : (right : Bool) → Asks not_write (walk right p)
  unfolding step_bank
  walk_quiet right =
      let i = next_bank right p.banks (bank_of p) in
      bind
      (makes_step_if no_writes p.rig_at p.banks (bank_of p) i (targets_of p.silenced) p.moves p.now p.lamps (eqb i (bank_of p)))
      (λ x. still {a = of_bank p.silenced x})

  command_quiet : (kind : ℕ) → Asks not_write (command kind p)
  command_quiet kind = giving (makes_run no_writes p.rig kind)

  rec_quiet : (ch : ℕ) → Asks not_write (rec ch p)
  rec_quiet ch = bind (makes_rec_loads no_writes p.rig) at
    where
      at : (b : Bool) → Asks not_write (rec_as b ch p)
      at true =
          bind (makes_scene no_writes refl p.rig (targets_of p.silenced) p.moves p.now (ch + 1) p.lamps) (λ x. still {a = of_scene (bank_of p) p.silenced x})
      at false = command_quiet 0

  select_quiet : (b : Bool) (ch : ℕ) → Asks not_write (select_as b ch p)
  select_quiet true ch =
      bind (makes_select no_writes p.rig_at p.banks (bank_of p) ch (targets_of p.silenced) p.moves p.now p.lamps) (λ x. still {a = of_bank p.silenced x})
  select_quiet false ch = command_quiet 3

  press_quiet : (kind ch : ℕ) → eqb kind 2 ≡ false → eqb kind 1 ≡ false → Asks not_write (press_of kind ch p)
  unfolding press_of
  press_quiet kind ch m s =
      pick_of (eqb kind 7) (page_quiet true)
      (pick_of (eqb kind 6) (page_quiet false)
      (pick_of (eqb kind 5 || eqb kind 9) (walk_quiet true)
      (pick_of (eqb kind 4 || eqb kind 8) (walk_quiet false)
      (rw (m, s) (pick_of (eqb kind 0) (rec_quiet ch) (pick_of (eqb kind 3) (select_quiet p.rig.here.part.select ch) (command_quiet kind)))))))
    where
      pick_of : (b : Bool) {f g : Act Pressed} → Asks not_write f → Asks not_write g → Asks not_write (pick b f g)
      pick_of true h k = h
      pick_of false h k = k

  pub button_quiet : (note : ℕ) → eqb (kind_of note) 2 ≡ false → eqb (kind_of note) 1 ≡ false → Asks not_write (button note p)
  unfolding button
  button_quiet note m s = press_quiet (kind_of note) (or_first (channel_of note)) m s
