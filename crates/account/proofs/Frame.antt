-- Handlers of which the account knows nothing but which kinds of calls they make. `Makes K f`: if the line goes on after f, its calls grew by calls of
-- kinds in K, and the open drivers by what they opened. A few rules; each handler is a line for each clause.
use Rattle.std.proofs.Common.{None, Option, Some}
use Prim.Native.Nat.{ℕ, zero, suc, ◌+◌, ◌-◌, ◌*◌}
use mathlib.Core.Path.{◌≡◌, refl}
use mathlib.Core.Bool.{Bool, true, false, ◌||◌}
use mathlib.Core.List.{List, [], ◌∷◌, ◌++◌}
use lib.Dec.{eqb, leb}
use lib.Ieee.{Float}
use Rattle.base.specs.Keyed.{find}
use Rattle.float.specs.Leaf.{due_of, flash_over}
use Rattle.protocol.specs.Protocol.{sent_to, transport_note}
use Rattle.protocol.specs.declared.Out.{Out}
use Rattle.lookup.specs.Lookup.{merged}
use Rattle.lookup.specs.declared.Destination.{Destination}
use Rattle.lookup.specs.declared.Command.{Command}
use Rattle.lookup.specs.declared.Entry.{Entry}
use Rattle.drivers.specs.Talk.{Talk, Reply, Act, got, next, ◌>>=◌, plain_call, open_for, use_call, use_done, read_of, playing_of, live_of, send}
use Rattle.drivers.specs.Paired.{Asked}
use Rattle.drivers.specs.declared.Call.{Call}
use Rattle.session.specs.Session.{last_move}
use Rattle.session.specs.declared.Lamps.{Lamps}
use Rattle.session.specs.declared.Moves.{Moves}
use Rattle.session.specs.declared.Flash.{Flash}
use Rattle.session.specs.declared.Strip.{Strip}
use Rattle.definition.specs.Rig.{Rig, destination, with_strips}
use Rattle.definition.specs.Levels.{read, read_mute, has_mute}
use Rattle.definition.specs.Lamps.{send_level, position_for, push_position, muted_if, muted_to, is_muted, four_lamps, push_fader, push_faders, push_state, Player, is_player, meet_if, lamp_for, push_bound, push_transport}
use Rattle.definition.specs.Flash.{phases, phases_to, send_home, finish_if, finish_flash, show_number, flash_number, flash_bank, end_if, tick_if, tick_flash}
use Rattle.definition.specs.Live.{change_if, ask_if, refresh_live, refresh_due, same_as}
use Rattle.account.specs.Account.{Uses, used, opened-used, not-used, Only, no_call, one-call}
use Rattle.account.proofs.Grown.{Grown, Goes, same, weaken, join, send_ok, Opening, was-open, opens_now_lem, stays-shut, open_ok, use_ok}

pub record Makes (K : ℕ → Bool) (f : Talk → Talk) : Type 0 where
  pub grown : (t : Talk) → Goes (f t) → Grown (Only K) t (f t)

-- the same of an act
module _ {A : Type 0} where
  pub record Asks (K : ℕ → Bool) (m : Act A) : Type 0 where
    pub grown : (t : Talk) → Goes (m t).talk → Grown (Only K) t (m t).talk

pub only_append : {K : ℕ → Bool} {l m : List Asked} → Only K l → Only K m → Only K (l ++ m)
only_append no_call h = h
only_append (one-call e g) h = one-call e (only_append g h)

-- ── the rules ──

module _ {K : ℕ → Bool} where
  pub stay : Makes K (λ t. t)
  stay = record { grown = λ t g. same (Only K) t g no_call }

  pub says : (out : Out) → Makes K (send out)
  says out = record { grown = λ t g. send_ok (Only K) out t no_call g }

  -- f, and then g
  pub after : {g f : Talk → Talk} → Makes K g → Makes K f → Makes K (λ t. g (f t))
  after {g} {f} h k =
      record {
        grown = λ t e.
            let b = h.grown (f t) e in
            let a = k.grown t b.was in
            join a b (λ m o. only_append a.fact o);
      }

module _ {K : ℕ → Bool} {A : Type 0} where
  pub still : {a : A} → Asks K (got a)
  still {a} = record { grown = λ t g. same (Only K) t g no_call }

  pub giving : {a : A} {g : Talk → Talk} → Makes K g → Asks K (λ t. got a (g t))
  giving h = record { grown = λ t e. h.grown t e }

  pub line_of : {m : Act A} → Asks K m → Makes K (λ t. (m t).talk)
  line_of h = record { grown = λ t e. h.grown t e }

  pub behind : {m : Act A} {f : Talk → Talk} → Asks K m → Makes K f → Asks K (λ t. m (f t))
  behind {m} {f} h k = record { grown = λ t e. (after (line_of h) k).grown t e }

  -- an act, and then what is done with its value
  pub onto : {m : Act A} {g : A → Talk → Talk} → Asks K m → ((a : A) → Makes K (g a)) → Makes K (λ t. g (m t).value (m t).talk)
  onto {m} {g} h k =
      record {
        grown = λ t e.
            let b = (k (m t).value).grown (m t).talk e in
            let a = h.grown t b.was in
            join a b (λ l o. only_append a.fact o);
      }

module _ {K : ℕ → Bool} {A B : Type 0} where
  pub bind : {m : Act A} {f : A → Act B} → Asks K m → ((a : A) → Asks K (f a)) → Asks K (m >>= f)
  unfolding next
  bind {m} {f} h k =
      record {
        grown = λ t e.
            let b = (k (m t).value).grown (m t).talk e in
            let a = h.grown t b.was in
            join a b (λ l o. only_append a.fact o);
      }

module _ {K : ℕ → Bool} where
  -- ── the calls ──
  module _ (o : K 0 ≡ true) where
    pub makes_open : (driver name : ℕ) → Asks K (open_for driver name)
    unfolding plain_call
    makes_open driver name = record { grown = λ t g. weaken (λ l u. at u) (open_ok driver name t g) }
      where
        at : {p : List Bool} {b : Bool} {l : List Asked} → Opening p driver name b l → Only K l
        at (was-open n) = no_call
        at (opens_now_lem n) = one-call o no_call
        at (stays-shut n) = one-call o no_call

    pub makes_use : (c : Call) → eqb c.kind 0 ≡ false → K c.kind ≡ true → Asks K (use_call c)
    unfolding plain_call
    makes_use c z e = record { grown = λ t g. weaken (λ l u. at u) (use_ok c z t g) }
      where
        at : {p : List Bool} {r : Reply} {l : List Asked} → Uses p c r l → Only K l
        at (used n) = one-call e no_call
        at (opened-used n) = one-call o (one-call e no_call)
        at (not-used n) = one-call o no_call

    pub makes_done : (c : Call) → eqb c.kind 0 ≡ false → K c.kind ≡ true → Asks K (use_done c)
    unfolding use_done
    makes_done c z e = bind (makes_use c z e) (λ r. still)

    -- ── what reads only ──
    module _ (r : K 1 ≡ true) where
      pub makes_read_of : (driver name : ℕ) → Asks K (read_of driver name)
      unfolding read_of plain_call
      makes_read_of driver name = bind (makes_use (plain_call 1 driver name 0) refl r) (λ x. still)

      pub makes_read : (d : Destination) → Asks K (read d)
      unfolding read
      makes_read d = bind (makes_read_of d.driver d.target) (λ x. still)

      pub makes_read_mute : (d : Destination) → Asks K (read_mute d)
      unfolding read_mute
      makes_read_mute d = bind (makes_read_of d.driver d.mute) (λ x. still)

      makes_level : (ch : ℕ) (x : Option Float) → Makes K (send_level ch x)
      makes_level ch (Some x) = says (sent_to ch x)
      makes_level ch None = stay

      makes_position : (b : Bool) (ch : ℕ) (d : Option Destination) → Makes K (position_for b ch d)
      makes_position true ch (Some d) = onto {m = read d} (makes_read d) (makes_level ch)
      makes_position true ch None = stay
      makes_position false ch d = stay

      makes_muted_if : (b : Bool) (d : Destination) (s : List ℕ) → Asks K (muted_if b d s)
      makes_muted_if true d s = bind (makes_read_mute d) (λ m. still)
      makes_muted_if false d s = still

      pub makes_muted_to : (d : Option Destination) (s : List ℕ) → Asks K (muted_to d s)
      makes_muted_to (Some d) s = makes_muted_if (has_mute d) d s
      makes_muted_to None s = still

      makes_four : (x : Rig) (l : Lamps) (ch : ℕ) (b : Bool) → Makes K (four_lamps x l ch b)
      makes_four x l ch b = after (says _) (after (says _) (after (says _) (says _)))

      makes_fader : (x : Rig) (l : Lamps) (s : List ℕ) (ch : ℕ) → Makes K (push_fader x l s ch)
      unfolding push_fader is_muted push_position
      makes_fader x l s ch =
          after
          (onto {m = muted_to (destination x (ch + 1)) s} {g = four_lamps x l ch} (makes_muted_to (destination x (ch + 1)) s) (makes_four x l ch))
          (makes_position x.positions ch (destination x (ch + 1)))

      makes_faders : (x : Rig) (l : Lamps) (s : List ℕ) (n : ℕ) → Makes K (push_faders x l s n)
      unfolding push_faders
      makes_faders x l s zero = stay
      makes_faders x l s (suc n) = after (makes_fader x l s n) (makes_faders x l s n)

      pub makes_push : (x : Rig) (l : Lamps) (s : List ℕ) → Makes K (push_state x l s)
      unfolding push_state
      makes_push x l s = makes_faders x l s 8

      -- ── the flash ──
      makes_phases : (f : Flash) (n : ℕ) → Makes K (phases f n)
      unfolding phases
      makes_phases f zero = stay
      makes_phases f (suc n) = after (says _) (makes_phases f n)

      makes_home : (x : Rig) (m : Moves) (row : ℕ) → Makes K (send_home x m row)
      unfolding send_home
      makes_home x m row = makes_level row (last_move (x.here.bank * 16 + row) m)

      makes_finish_if : (b : Bool) (x : Rig) (l : Lamps) (s : List ℕ) (m : Moves) → Makes K (finish_if b x l s m)
      unfolding phases_to
      makes_finish_if true x l s m =
          after (makes_push x l s) (after (makes_home x m l.flash.row) (makes_phases l.flash (6 - l.flash.sent)))
      makes_finish_if false x l s m = stay

      makes_finish : (x : Rig) (l : Lamps) (s : List ℕ) (m : Moves) → Makes K (finish_flash x l s m)
      unfolding finish_flash
      makes_finish x l s m = makes_finish_if l.flash.on x l s m

      makes_show : (b : Bool) (now : Float) (n base : ℕ) (l : Lamps) → Asks K (show_number b now n base l)
      makes_show true now n base l = still
      makes_show false now n base l = giving (after (says _) (says _))

      pub makes_number : (x : Rig) (s : List ℕ) (m : Moves) (now : Float) (n base : ℕ) (l : Lamps) →
          Asks K (flash_number x s m now n base l)
      unfolding flash_number
      makes_number x s m now n base l = behind (makes_show (leb 64 n) now n base l) (makes_finish x l s m)

      pub makes_flash_bank : (x : Rig) (s : List ℕ) (m : Moves) (now : Float) (l : Lamps) →
          Asks K (flash_bank x s m now l)
      unfolding flash_bank
      makes_flash_bank x s m now l = makes_number x s m now x.here.bank 0 l

      makes_end_if : (b : Bool) (x : Rig) (s : List ℕ) (m : Moves) (l : Lamps) → Asks K (end_if b x s m l)
      makes_end_if true x s m l = giving (makes_finish x l s m)
      makes_end_if false x s m l = still

      makes_tick_if : (b : Bool) (x : Rig) (s : List ℕ) (m : Moves) (now : Float) (l : Lamps) → Asks K (tick_if b x s m now l)
      unfolding phases_to
      makes_tick_if true x s m now l =
          behind (makes_end_if (flash_over now l.flash.start) x s m _) (makes_phases l.flash (due_of now l.flash.start - l.flash.sent))
      makes_tick_if false x s m now l = still

      pub makes_tick_flash : (x : Rig) (s : List ℕ) (m : Moves) (now : Float) (l : Lamps) →
          Asks K (tick_flash x s m now l)
      unfolding tick_flash
      makes_tick_flash x s m now l = makes_tick_if l.flash.on x s m now l

      -- ── a live bank ──
      module _ (v : K 9 ≡ true) where
        makes_change_if : (b : Bool) (l : List Strip) (x : Rig) (p : Lamps) (s : List ℕ) → Asks K (change_if b l x p s)
        makes_change_if true l x p s = still
        makes_change_if false l x p s = giving (makes_push (with_strips l x) p s)

        makes_live_of : (driver which : ℕ) → Asks K (live_of driver which)
        unfolding live_of plain_call
        makes_live_of driver which = bind (makes_use (plain_call 9 driver 0 which) refl v) (λ x. still)

        makes_ask_if : (b : Bool) (known : Option (List Strip)) (x : Rig) (p : Lamps) (s : List ℕ) → Asks K (ask_if b known x p s)
        makes_ask_if true known x p s = still
        makes_ask_if false known x p s =
            bind (makes_live_of x.here.part.device x.here.part.live) (λ l. makes_change_if (same_as known _) _ x p s)

        pub makes_refresh : (b : Bool) (known : Option (List Strip)) (x : Rig) (p : Lamps) (s : List ℕ) →
            Asks K (refresh_due b known x p s)
        unfolding refresh_live
        makes_refresh true known x p s =
            makes_ask_if (eqb x.here.part.live 65535 || eqb x.here.part.device 65535) known x p s
        makes_refresh false known x p s = still

    -- ── transport lamps ──
    module _ (p : K 5 ≡ true) where
      makes_playing : (driver name : ℕ) → Asks K (playing_of driver name)
      unfolding playing_of plain_call
      makes_playing driver name = bind (makes_use (plain_call 5 driver name 0) refl p) (λ x. still)

      makes_meet : (k : Option Player) (c : Command) (known : List Player) (n : ℕ) → Asks K (meet_if k c known n)
      makes_meet (Some x) c known n = giving (says _)
      makes_meet None c known n = bind (makes_playing c.driver c.target) (λ b. giving (says _))

      makes_lamp_for : (n : Option ℕ) (c : Command) (known : List Player) → Asks K (lamp_for n c known)
      makes_lamp_for (Some n) c known = makes_meet (find (is_player c) known) c known n
      makes_lamp_for None c known = still

      makes_bound : (l : List Entry) (known : List Player) → Makes K (push_bound l known)
      unfolding push_bound
      makes_bound [] known = stay
      makes_bound (e ∷ l) known =
          onto {m = lamp_for (transport_note e.kind) e.command known} {g = push_bound l}
          (makes_lamp_for (transport_note e.kind) e.command known) (λ k. makes_bound l k)

      pub makes_transport : (x : Rig) → Makes K (push_transport x)
      unfolding push_transport
      makes_transport x = makes_bound (merged x.globals.transports x.here.part.transports) []
