-- What a press costs at most: 89 messages and 64 calls.
use Prim.Native.Nat.{ℕ, zero, suc, ◌+◌, ◌-◌, ◌*◌}
use Rattle.std.specs.Prelude.{◌≡◌, Bool, ◌||◌, leb, length, get_or, Float, None, Option, Some}
use Rattle.std.proofs.Math.Path.{refl}
use Rattle.std.proofs.Math.Bool.{true, false}
use Rattle.std.specs.Bool.{beq}
use mathlib.Core.List.{List, [], ◌∷◌}
use Rattle.std.proofs.Common.{arith}
use Rattle.std.proofs.Math.Dec.{eqb}
use Rattle.base.specs.Choice.{pick}
use Rattle.base.specs.Keyed.{find}
use Rattle.protocol.specs.Protocol.{kind_of, channel_of}
use Rattle.lookup.specs.Lookup.{transport_of, bound_by, of_kind, before}
use Rattle.lookup.specs.declared.Destination.{Destination}
use Rattle.lookup.specs.declared.Entry.{Entry}
use Rattle.drivers.specs.Talk.{Talk, Act, next, plain_call, toggle_of, command_of, scenes_of, current_of, load_of, open_for}
use Rattle.session.specs.Session.{SilencedLevel, targets_of, is_silenced, scene_at, solo_to, none_noted, loaded_by}
use Rattle.session.specs.declared.Lamps.{Lamps}
use Rattle.session.specs.declared.Moves.{Moves}
use Rattle.definition.specs.Rig.{Rig, destination, device, bank_driver}
use Rattle.definition.specs.Levels.{has_mute, kept_by}
use Rattle.definition.specs.Muting.{hand_back, keep_level, zeroed, mute_level, mute_if, mute_to, mute, toggle_if, set_mute, in_group, peer, back_if, off_if, off_to, solo_off, note_mutes, note_if, silence_if, on_level, on_if, on_to, solo_on, solo_if, solo_with, solo}
use Rattle.definition.specs.Scenes.{paged, Started, names_on, names_if, scene_names, on_list, on_device_if, scene_on_device, load_if, load_on, loaded_if, load_at_if, load_scene_at, start_if, start, shown_if, page_if, step_scene_if, step_scene, scene_if, scene, is_at, next_scene}
use Rattle.definition.specs.Banks.{select_if, select_bank, next_bank, step_if, step_bank}
use Rattle.definition.specs.Buttons.{Press, Pressed, pressed, of_bank, of_scene, offered, offered_if, default_of, default_button, run_bound, run_else, run_command, rec_if, rec_loads, bank_of, page, walk, command, rec_as, rec, select_as, mute_as, solo_as, or_first, press_of, button}
use Rattle.bounds.specs.Drivers.{MayTo, MayAll, one_entry}
use Rattle.bounds.proofs.Spending.{Rules, Costs, Takes, stay, more, still, done, giving, line_of, up_to, behind, onto, onto_so, bind, takes_open, takes_use, takes_done, takes_read, takes_read_mute, takes_write_of, takes_write}
use Rattle.bounds.proofs.Surface.{muted_takes, push_costs, number_takes, flash_bank_takes}
use Rattle.lookup.specs.declared.Command.{Command}

-- a command's driver may be used
abbrev pub MayBound : (ℕ → Type 0) → Option Command → Type 0
MayBound D (Some c) = D c.driver
MayBound D None = Unit {0}

-- the drivers of a rig may be used: of its faders, of its bank, and of its transport buttons
pub record MayRig (D : ℕ → Type 0) (r : Rig) : Type 0 where
  pub to : (n : ℕ) → MayTo D (destination r n)
  pub device : eqb (device r.here) 65535 ≡ false → D (device r.here)
  pub common : eqb (bank_driver r.here) 65535 ≡ false → D (bank_driver r.here)
  pub global : MayAll D r.globals.transports
  pub own : MayAll D r.here.part.transports

module _ (D : ℕ → Type 0) where
  transport_may : (kind : ℕ) (l : List Entry) → MayAll D l → MayBound D (transport_of kind l)
  unfolding transport_of find
  transport_may kind [] h = tt
  transport_may kind (e ∷ l) (one_entry d h) = go (of_kind kind e) (transport_may kind l h)
    where
      go : (b : Bool) → MayBound D (bound_by (find (of_kind kind) l)) → MayBound D (bound_by (pick b (Some e) (find (of_kind kind) l)))
      go true k = d
      go false k = k

  before_may : (a b : Option Command) → MayBound D a → MayBound D b → MayBound D (before a b)
  before_may (Some c) b h k = h
  before_may None b h k = k

  group_may : (group : ℕ) (f : Option Destination) → MayTo D f → MayTo D (in_group group f)
  group_may group (Some d) h = go (eqb d.group group)
    where
      go : (b : Bool) → MayTo D (pick b (Some d) None)
      go true = h
      go false = tt
  group_may group None h = tt

  peer_may : (r : Rig) → ((n : ℕ) → MayTo D (destination r n)) → (group n : ℕ) → MayTo D (peer r group n)
  unfolding peer
  peer_may r to group n = group_may group (destination r n) (to n)

module _ {D : ℕ → Type 0} (R : Rules D) where
  toggle_takes : (driver name : ℕ) → D driver → Takes R 0 1 (toggle_of driver name)
  unfolding toggle_of plain_call
  toggle_takes driver name d = takes_done R (plain_call 3 driver name 0) d

  command_takes : (driver name c : ℕ) → D driver → Takes R 0 1 (command_of driver name c)
  unfolding command_of plain_call
  command_takes driver name c d = takes_done R (plain_call 4 driver name c) d

  scenes_takes : (driver : ℕ) → D driver → Takes R 0 1 (scenes_of driver)
  unfolding scenes_of plain_call
  scenes_takes driver d = bind R (takes_use R (plain_call 6 driver 0 0) d) (λ r. done R)

  current_takes : (driver : ℕ) → D driver → Takes R 0 1 (current_of driver)
  unfolding current_of plain_call
  current_takes driver d = bind R (takes_use R (plain_call 7 driver 0 0) d) (λ r. done R)

  load_takes : (driver i : ℕ) → D driver → Takes R 0 1 (load_of driver i)
  unfolding load_of plain_call
  load_takes driver i d = takes_done R (plain_call 8 driver 0 i) d

  -- ── mute and solo ──
  back_takes : (e : Destination) (s : List SilencedLevel) → D e.driver → Takes R 0 1 (hand_back e s)
  unfolding hand_back
  back_takes e s d = giving R (line_of R (takes_write R e _ d))

  keep_takes : (e : Destination) (s : List SilencedLevel) → D e.driver → Takes R 0 1 (keep_level e s)
  unfolding keep_level
  keep_takes e s d = bind R (takes_read R e d) (λ l. done R)

  zeroed_takes : (e : Destination) (s : List SilencedLevel) → D e.driver → Takes R 0 2 (zeroed e s)
  unfolding zeroed
  zeroed_takes e s d = bind R (keep_takes e s d) (λ k. giving R (line_of R (takes_write_of R e.driver e.target _ d)))

  mute_level_takes : (b : Bool) (e : Destination) (s : List SilencedLevel) → D e.driver → Takes R 0 2 (mute_level b e s)
  mute_level_takes true e s d = up_to R (back_takes e s d) (omega arith) (omega arith)
  mute_level_takes false e s d = zeroed_takes e s d

  mute_if_takes : (b : Bool) (e : Destination) (s : List SilencedLevel) → D e.driver → Takes R 0 2 (mute_if b e s)
  mute_if_takes true e s d = up_to R (giving R (line_of R (toggle_takes e.driver e.mute d))) (omega arith) (omega arith)
  mute_if_takes false e s d = mute_level_takes (is_silenced (kept_by e) (targets_of s)) e s d

  toggle_if_costs : (o : Option Bool) (b : Bool) (e : Destination) → D e.driver → Costs R 0 1 (toggle_if o b e)
  toggle_if_costs None b e d = stay R
  toggle_if_costs (Some a) b e d = go (beq a b)
    where
      go : (c : Bool) → Costs R 0 1 (λ t. pick c t (toggle_of e.driver e.mute t).talk)
      go true = stay R
      go false = line_of R (toggle_takes e.driver e.mute d)

  set_mute_costs : (e : Destination) (b : Bool) → D e.driver → Costs R 0 2 (set_mute e b)
  unfolding set_mute
  set_mute_costs e b d = onto R (takes_read_mute R e d) (λ o. toggle_if_costs o b e d)

  back_if_takes : (b : Bool) (e : Destination) (s : List SilencedLevel) → D e.driver → Takes R 0 2 (back_if b e s)
  back_if_takes true e s d = up_to R (back_takes e s d) (omega arith) (omega arith)
  back_if_takes false e s d = still R

  off_if_takes : (b : Bool) (e : Destination) (was : Bool) (s : List SilencedLevel) → D e.driver → Takes R 0 2 (off_if b e was s)
  off_if_takes true e was s d = giving R (set_mute_costs e was d)
  off_if_takes false e was s d = back_if_takes (is_silenced (kept_by e) (targets_of s)) e s d

  off_to_takes : (f : Option Destination) (was : Bool) (s : List SilencedLevel) → MayTo D f → Takes R 0 2 (off_to f was s)
  off_to_takes (Some e) was s d = off_if_takes (has_mute e) e was s d
  off_to_takes None was s d = still R

  silence_takes : (b : Bool) (e : Destination) (s : List SilencedLevel) → D e.driver → Takes R 0 2 (silence_if b e s)
  silence_takes true e s d = up_to R (giving R (line_of R (takes_write R e _ d))) (omega arith) (omega arith)
  silence_takes false e s d = bind R (keep_takes e s d) (λ k. giving R (line_of R (takes_write R e _ d)))

  on_level_takes : (b : Bool) (e : Destination) (s : List SilencedLevel) → D e.driver → Takes R 0 2 (on_level b e s)
  on_level_takes true e s d = silence_takes (is_silenced (kept_by e) (targets_of s)) e s d
  on_level_takes false e s d = back_if_takes (is_silenced (kept_by e) (targets_of s)) e s d

  on_if_takes : (b : Bool) (e : Destination) (silence : Bool) (s : List SilencedLevel) → D e.driver → Takes R 0 2 (on_if b e silence s)
  on_if_takes true e silence s d = giving R (set_mute_costs e silence d)
  on_if_takes false e silence s d = on_level_takes silence e s d

  on_to_takes : (f : Option Destination) (silence : Bool) (s : List SilencedLevel) → MayTo D f → Takes R 0 2 (on_to f silence s)
  on_to_takes (Some e) silence s d = on_if_takes (has_mute e) e silence s d
  on_to_takes None silence s d = still R

  module _ (r : Rig) (to : (n : ℕ) → MayTo D (destination r n)) where
    mute_to_takes : (f : Option Destination) (l : Lamps) (s : List SilencedLevel) → MayTo D f → Takes R 40 18 (mute_to f r l s)
    mute_to_takes (Some e) l s d = bind R (mute_if_takes (has_mute e) e s d) (λ k. giving R (push_costs R r to l (targets_of k)))
    mute_to_takes None l s d = still R

    mute_takes : (n : ℕ) (l : Lamps) (s : List SilencedLevel) → Takes R 40 18 (mute r n l s)
    unfolding mute
    mute_takes n l s = mute_to_takes (destination r n) l s (to n)

    solo_off_takes : (group : ℕ) (l : Lamps) (n : ℕ) (s : List SilencedLevel) → Takes R 0 (n * 2) (solo_off (peer r group) l n s)
    unfolding solo_off
    solo_off_takes group l zero s = still R
    solo_off_takes group l (suc n) s =
        up_to R (bind R (solo_off_takes group l n s) (λ k. off_to_takes (peer r group (n + 1)) _ k (peer_may D r to group (n + 1)))) (omega arith) (omega arith)

    notes_take : (group : ℕ) (ts : List ℕ) (n : ℕ) (l : Lamps) → Takes R 0 n (note_mutes (peer r group) ts n l)
    unfolding note_mutes
    notes_take group ts zero l = still R
    notes_take group ts (suc n) l =
        up_to R
        (bind R (notes_take group ts n l)
        (λ k. bind R (muted_takes R (peer r group (n + 1)) ts (peer_may D r to group (n + 1))) (λ b. done R)))
        (omega arith) (omega arith)

    note_if_takes : (b : Bool) (group : ℕ) (ts : List ℕ) (l : Lamps) → Takes R 0 16 (note_if b (peer r group) ts l)
    note_if_takes true group ts l = notes_take group ts 16 l
    note_if_takes false group ts l = still R

    solo_on_takes : (group fader n : ℕ) (s : List SilencedLevel) → Takes R 0 (n * 2) (solo_on (peer r group) fader n s)
    unfolding solo_on
    solo_on_takes group fader zero s = still R
    solo_on_takes group fader (suc n) s =
        up_to R (bind R (solo_on_takes group fader n s) (λ k. on_to_takes (peer r group (n + 1)) _ k (peer_may D r to group (n + 1)))) (omega arith) (omega arith)

    solo_if_takes : (b : Bool) (group fader : ℕ) (l : Lamps) (s : List SilencedLevel) → Takes R 40 64 (solo_if b r group fader l s)
    solo_if_takes true group fader l s =
        up_to R
        (bind R (solo_off_takes group l 16 s) (λ k. giving R (push_costs R r to (solo_to 0 (none_noted l)) (targets_of k))))
        (omega arith) (omega arith)
    solo_if_takes false group fader l s =
        bind R (note_if_takes (eqb l.soloed 0) group (targets_of s) l)
        (λ n. bind R (solo_on_takes group fader 16 s) (λ k. giving R (push_costs R r to (solo_to fader n) (targets_of k))))

    solo_with_takes : (f : Option Destination) (fader : ℕ) (l : Lamps) (s : List SilencedLevel) → Takes R 40 64 (solo_with f r fader l s)
    solo_with_takes (Some e) fader l s = solo_if_takes (eqb l.soloed fader) e.group fader l s
    solo_with_takes None fader l s = still R

    solo_takes : (n : ℕ) (l : Lamps) (s : List SilencedLevel) → Takes R 40 64 (solo r n l s)
    unfolding solo
    solo_takes n l s = solo_with_takes (destination r n) n l s

  -- ── commands ──
  bound_costs : (b : Option Command) → MayBound D b → Costs R 0 1 (run_bound b)
  bound_costs (Some c) d = line_of R (command_takes c.driver c.target c.command d)
  bound_costs None d = stay R

  module _ (r : Rig) (may : MayRig D r) where
    offered_if_takes : (b : Bool) (driver kind : ℕ) → Takes R 0 0 (offered_if b r driver kind)
    offered_if_takes true driver kind = done R
    offered_if_takes false driver kind = done R

    offered_may : (b : Bool) (driver c : ℕ) → D driver → MayBound D (offered b r.here driver c)
    offered_may true driver c d = tt
    offered_may false driver c d = d

    offered_if_may : (b : Bool) (driver kind : ℕ) (t : Talk) → D driver → MayBound D (offered_if b r driver kind t).value
    offered_if_may true driver kind t d = offered_may (eqb (r.button driver kind) 65535) driver (r.button driver kind) d
    offered_if_may false driver kind t d = tt

    default_takes : (kind : ℕ) → Takes R 0 1 (default_button r kind)
    unfolding default_button
    default_takes kind = go (eqb (bank_driver r.here) 65535) refl
      where
        go : (b : Bool) → eqb (bank_driver r.here) 65535 ≡ b → Takes R 0 1 (default_of b r (bank_driver r.here) kind)
        go true e = still R
        go false e = bind R (takes_open R (bank_driver r.here) 0 (may.common e)) (λ ok. offered_if_takes ok (bank_driver r.here) kind)

    default_may : (kind : ℕ) (t : Talk) → MayBound D (default_button r kind t).value
    unfolding default_button next
    default_may kind t = go (eqb (bank_driver r.here) 65535) refl
      where
        go : (b : Bool) → eqb (bank_driver r.here) 65535 ≡ b → MayBound D (default_of b r (bank_driver r.here) kind t).value
        go true e = tt
        go false e =
            let u = open_for (bank_driver r.here) 0 t in
            offered_if_may u.value (bank_driver r.here) kind u.talk (may.common e)

    run_costs : (kind : ℕ) → Costs R 0 2 (run_command r kind)
    unfolding run_command
    run_costs kind =
        go (before (transport_of kind r.globals.transports) (transport_of kind r.here.part.transports))
        (before_may D (transport_of kind r.globals.transports) (transport_of kind r.here.part.transports)
        (transport_may D kind r.globals.transports may.global) (transport_may D kind r.here.part.transports may.own))
      where
        go : (b : Option Command) → MayBound D b → Costs R 0 2 (run_else b r kind)
        go (Some c) d = more R (bound_costs (Some c) d) (omega arith) (omega arith)
        go None d = onto_so R {f = default_button r kind} {g = run_bound} (MayBound D) (default_takes kind) (default_may kind) bound_costs

    rec_loads_takes : Takes R 0 1 (rec_loads r)
    unfolding rec_loads
    rec_loads_takes = go (eqb r.here.part.rec 0)
      where
        go : (b : Bool) → Takes R 0 1 (rec_if b r)
        go true = bind R (default_takes 0) (λ b. done R)
        go false = still R

    -- ── scenes ──
    names_take : Takes R 0 1 (scene_names r.here)
    unfolding scene_names
    names_take = go (eqb (length r.here.part.scenes) 0)
      where
        on : (b : Bool) → eqb (device r.here) 65535 ≡ b → Takes R 0 1 (names_on b (device r.here))
        on true e = still R
        on false e = bind R (scenes_takes (device r.here) (may.device e)) (λ l. done R)

        go : (b : Bool) → Takes R 0 1 (names_if b r.here)
        go true = on (eqb (device r.here) 65535) refl
        go false = still R

    on_device_takes : (names : List ℕ) → Takes R 0 2 (scene_on_device r.here names)
    unfolding scene_on_device
    on_device_takes names = go (eqb (device r.here) 65535) refl
      where
        on : (i : Option ℕ) → D (device r.here) → Takes R 0 1 (on_list i (device r.here) names)
        on (Some i) d = bind R (scenes_takes (device r.here) d) (λ l. done R)
        on None d = still R

        go : (b : Bool) → eqb (device r.here) 65535 ≡ b → Takes R 0 2 (on_device_if b (device r.here) names)
        go true e = still R
        go false e = bind R (current_takes (device r.here) (may.device e)) (λ i. on i (may.device e))

    start_takes : (names : List ℕ) (l : Lamps) → Takes R 0 2 (start r.here names l)
    unfolding start
    start_takes names l = go (scene_at r.here.bank l)
      where
        go : (p : Option ℕ) → Takes R 0 2 (start_if p r.here names l)
        go (Some i) = still R
        go None = bind R (on_device_takes names) (λ p. done R)

    load_on_takes : (driver name i : ℕ) → D driver → Takes R 0 2 (load_on driver name i)
    unfolding load_on
    load_on_takes driver name i d = bind R (scenes_takes driver d) (λ l. go l.ok l.list)
      where
        go : (b : Bool) (all : List ℕ) → Takes R 0 1 (load_if b driver name i all)
        go true all = load_takes driver _ d
        go false all = still R

    scene_at_takes : (s : List ℕ) (i : ℕ) (l : Lamps) → Takes R 40 19 (load_scene_at r s i l)
    unfolding load_scene_at
    scene_at_takes s i l = bind R names_take (λ names. at (eqb (device r.here) 65535) (leb (length names) i) names refl)
      where
        then : (b : Bool) → Takes R 40 16 (loaded_if b r s i l)
        then true = giving R (push_costs R r may.to _ s)
        then false = still R

        at : (a b : Bool) (names : List ℕ) → eqb (device r.here) 65535 ≡ a → Takes R 40 18 (load_at_if (a || b) r s i l names)
        at true b names e = still R
        at false true names e = still R
        at false false names e = bind R (load_on_takes (device r.here) (get_or names i 65535) i (may.device e)) then

    page_takes : (right : Bool) (s : List ℕ) (m : Moves) (now : Float) (l : Lamps) → Takes R 89 38 (step_scene right r s m now l)
    unfolding step_scene
    page_takes right s m now l = bind R names_take (λ names. at (eqb (length names) 0) names)
      where
        show : (i : ℕ) (saved : Bool) (k : Lamps) (b : Bool) → Takes R 49 16 (shown_if b r s m now i k saved)
        show i saved k true = bind R (number_takes R r may.to s m now i 8 k) (λ z. done R {a = paged z true true})
        show i saved k false = still R

        go : (b : Bool) (i : ℕ) (x : Started) → Takes R 89 35 (page_if b r s m now i x)
        go true i x = still R
        go false i x = bind R (scene_at_takes s i x.lamps) (λ k. show i x.saved k.lamps k.ok)

        at : (b : Bool) (names : List ℕ) → Takes R 89 37 (step_scene_if b right r s m now l names)
        at true names = still R
        at false names =
            bind R (start_takes names l)
            (λ x. go (is_at (scene_at r.here.bank x.lamps) (next_scene right (scene_at r.here.bank x.lamps) (length names))) (next_scene right (scene_at r.here.bank x.lamps) (length names)) x)

    scene_takes : (s : List ℕ) (m : Moves) (now : Float) (n : ℕ) (l : Lamps) → Takes R 89 35 (scene r s m now n l)
    unfolding scene
    scene_takes s m now n l = bind R (scene_at_takes s (n - 1) l) (λ k. show k.lamps k.ok)
      where
        show : (k : Lamps) (b : Bool) → Takes R 49 16 (scene_if b r s m now n k)
        show k true = bind R (number_takes R r may.to s m now (n - 1) 8 (loaded_by n k)) (λ z. done R {a = paged z true true})
        show k false = still R

  -- ── a bank is selected ──
  module _ (rig_at : ℕ → Rig) (to : (b n : ℕ) → MayTo D (destination (rig_at b) n)) (banks bank i : ℕ) (s : List ℕ) (m : Moves) (now : Float) (l : Lamps) where
    select_takes : Takes R 89 32 (select_bank rig_at banks bank i s m now l)
    unfolding select_bank
    select_takes = go (leb banks i)
      where
        go : (b : Bool) → Takes R 89 32 (select_if b rig_at bank i s m now l)
        go true = still R
        go false = bind R (behind R (flash_bank_takes R (rig_at i) (to i) s m now l) (push_costs R (rig_at i) (to i) l s)) (λ k. done R)

    step_if_takes : (b : Bool) → Takes R 89 32 (step_if b rig_at banks bank i s m now l)
    step_if_takes true = still R
    step_if_takes false = select_takes

  -- ── any press ──
  module _ (p : Press) (may : MayRig D p.rig) (to : (b n : ℕ) → MayTo D (destination (p.rig_at b) n)) where
    on_page : (right : Bool) → Takes R 89 64 (page right p)
    on_page right =
        up_to R (bind R (page_takes p.rig may right (targets_of p.silenced) p.moves p.now p.lamps) (λ x. done R {a = of_scene (bank_of p) p.silenced x})) (omega arith) (omega arith)

    on_walk : (right : Bool) → Takes R 89 64 (walk right p)
    unfolding step_bank
    on_walk right =
        let i = next_bank right p.banks (bank_of p) in
        up_to R
        (bind R
        (step_if_takes p.rig_at to p.banks (bank_of p) i (targets_of p.silenced) p.moves p.now p.lamps (eqb i (bank_of p)))
        (λ x. done R {a = of_bank p.silenced x}))
        (omega arith) (omega arith)

    on_command : (kind : ℕ) → Takes R 0 2 (command kind p)
    on_command kind = giving R (run_costs p.rig may kind)

    on_mute : (n : ℕ) → Takes R 89 64 (mute_as n p)
    on_mute n =
        up_to R (bind R (mute_takes p.rig may.to n p.lamps p.silenced) (λ s. done R {a = pressed (bank_of p) p.lamps s false false})) (omega arith) (omega arith)

    on_solo : (n : ℕ) → Takes R 89 64 (solo_as n p)
    on_solo n =
        up_to R (bind R (solo_takes p.rig may.to n p.lamps p.silenced) (λ x. done R {a = pressed (bank_of p) x.lamps x.silenced false false})) (omega arith) (omega arith)

    on_rec : (ch : ℕ) → Takes R 89 64 (rec ch p)
    on_rec ch = up_to R (bind R (rec_loads_takes p.rig may) (λ b. go b)) (omega arith) (omega arith)
      where
        go : (b : Bool) → Takes R 89 35 (rec_as b ch p)
        go true = bind R (scene_takes p.rig may (targets_of p.silenced) p.moves p.now (ch + 1) p.lamps) (λ x. done R {a = of_scene (bank_of p) p.silenced x})
        go false = up_to R (on_command 0) (omega arith) (omega arith)

    on_select : (b : Bool) (ch : ℕ) → Takes R 89 64 (select_as b ch p)
    on_select true ch =
        up_to R
        (bind R (select_takes p.rig_at to p.banks (bank_of p) ch (targets_of p.silenced) p.moves p.now p.lamps)
        (λ x. done R {a = of_bank p.silenced x}))
        (omega arith) (omega arith)
    on_select false ch = up_to R (on_command 3) (omega arith) (omega arith)

    either : (b : Bool) {x y : Act Pressed} → Takes R 89 64 x → Takes R 89 64 y → Takes R 89 64 (pick b x y)
    either true h k = h
    either false h k = k

    pub button_takes : (note : ℕ) → Takes R 89 64 (button note p)
    unfolding button press_of
    button_takes note =
        let kind = kind_of note in
        let ch = or_first (channel_of note) in
        either (eqb kind 7) (on_page true)
        (either (eqb kind 6) (on_page false)
        (either (eqb kind 5 || eqb kind 9) (on_walk true)
        (either (eqb kind 4 || eqb kind 8) (on_walk false)
        (either (eqb kind 2) (on_mute (ch + 1))
        (either (eqb kind 1) (on_solo (ch + 1))
        (either (eqb kind 0) (on_rec ch)
        (either (eqb kind 3) (on_select p.rig.here.part.select ch) (up_to R (on_command kind) (omega arith) (omega arith)))))))))
