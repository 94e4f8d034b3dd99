-- What the surface's lamps and positions cost: `push_state` 40 messages and 16 calls, a flash's end at most 6 more messages and the row's own, a live
-- list one call more, the transport lamps one message and one call for each entry.
use Prim.Native.Nat.{ℕ, zero, suc, ◌+◌, ◌-◌, ◌*◌, ◌≤◌}
use Rattle.std.specs.Prelude.{Bool, leb, length, Float, None, Option, Some}
use Rattle.std.proofs.Math.Bool.{true, false}
use mathlib.Core.List.{List, [], ◌∷◌}
use Rattle.std.proofs.Common.{arith}
use Rattle.base.specs.Keyed.{find}
use Rattle.float.specs.Leaf.{due_of, flash_over}
use Rattle.float.proofs.LeafLaws.{due-most}
use Rattle.protocol.specs.Protocol.{sent_to, transport_note}
use Rattle.lookup.specs.declared.Destination.{Destination}
use Rattle.lookup.specs.declared.Command.{Command}
use Rattle.lookup.specs.declared.Entry.{Entry}
use Rattle.drivers.specs.Talk.{plain_call, playing_of}
use Rattle.session.specs.Session.{last_move, flashing}
use Rattle.session.specs.declared.Lamps.{Lamps}
use Rattle.session.specs.declared.Moves.{Moves}
use Rattle.session.specs.declared.Flash.{Flash}
use Rattle.definition.specs.Rig.{Rig, destination}
use Rattle.definition.specs.Levels.{read, has_mute}
use Rattle.definition.specs.Lamps.{send_level, position_for, push_position, muted_if, muted_to, is_muted, four_lamps, push_fader, push_faders, push_state, Player, is_player, meet_if, lamp_for, push_bound}
use Rattle.definition.specs.Flash.{phases, phases_to, send_home, finish_if, finish_flash, show_number, flash_number, flash_bank, sent_up_to, end_if, tick_if, tick_flash}
use Rattle.bounds.specs.Drivers.{MayTo, MayAll, one_entry}
use Rattle.bounds.proofs.Spending.{Rules, Costs, Takes, stay, says, more, after, still, done, giving, up_to, behind, onto, bind, takes_use, takes_read, takes_read_mute}

-- what the end of a flash costs, of which so many phases are sent
abbrev pub end_cost : Bool → ℕ → ℕ
end_cost true sent = 41 + (6 - sent)
end_cost false sent = 0

module _ {D : ℕ → Type 0} (R : Rules D) where
  level_costs : (ch : ℕ) (x : Option Float) → Costs R 1 0 (send_level ch x)
  level_costs ch (Some x) = says R (sent_to ch x)
  level_costs ch None = stay R

  position_costs : (b : Bool) (ch : ℕ) (f : Option Destination) → MayTo D f → Costs R 1 1 (position_for b ch f)
  position_costs true ch (Some d) h = onto R {f = read d} (takes_read R d h) (level_costs ch)
  position_costs true ch None h = stay R
  position_costs false ch f h = stay R

  muted_if_takes : (b : Bool) (d : Destination) (s : List ℕ) → D d.driver → Takes R 0 1 (muted_if b d s)
  muted_if_takes true d s h = bind R (takes_read_mute R d h) (λ x. done R)
  muted_if_takes false d s h = still R

  pub muted_takes : (f : Option Destination) (s : List ℕ) → MayTo D f → Takes R 0 1 (muted_to f s)
  muted_takes (Some d) s h = muted_if_takes (has_mute d) d s h
  muted_takes None s h = still R

  four_costs : (r : Rig) (l : Lamps) (ch : ℕ) (b : Bool) → Costs R 4 0 (four_lamps r l ch b)
  four_costs r l ch b = after R (says R _) (after R (says R _) (after R (says R _) (says R _)))

  module _ (r : Rig) (to : (n : ℕ) → MayTo D (destination r n)) where
    fader_costs : (l : Lamps) (s : List ℕ) (ch : ℕ) → Costs R 5 2 (push_fader r l s ch)
    unfolding push_fader is_muted push_position
    fader_costs l s ch =
        after R
        (onto R {f = muted_to (destination r (ch + 1)) s} {g = four_lamps r l ch} (muted_takes (destination r (ch + 1)) s (to (ch + 1))) (four_costs r l ch))
        (position_costs r.positions ch (destination r (ch + 1)) (to (ch + 1)))

    faders_cost : (l : Lamps) (s : List ℕ) (n : ℕ) → Costs R (n * 5) (n * 2) (push_faders r l s n)
    unfolding push_faders
    faders_cost l s zero = stay R
    faders_cost l s (suc n) = more R (after R (fader_costs l s n) (faders_cost l s n)) (omega arith) (omega arith)

    -- `push_state`
    pub push_costs : (l : Lamps) (s : List ℕ) → Costs R 40 16 (push_state r l s)
    unfolding push_state
    push_costs l s = faders_cost l s 8

  -- ── the flash ──
  phases_cost : (f : Flash) (n : ℕ) → Costs R n 0 (phases f n)
  unfolding phases
  phases_cost f zero = stay R
  phases_cost f (suc n) = more R (after R (says R _) (phases_cost f n)) (omega arith) (omega arith)

  home_costs : (r : Rig) (m : Moves) (row : ℕ) → Costs R 1 0 (send_home r m row)
  unfolding send_home
  home_costs r m row = level_costs row (last_move (r.here.bank * 16 + row) m)

  module _ (r : Rig) (to : (n : ℕ) → MayTo D (destination r n)) where
    finish_if_costs : (b : Bool) (l : Lamps) (s : List ℕ) (m : Moves) → Costs R (41 + (6 - l.flash.sent)) 16 (finish_if b r l s m)
    unfolding phases_to
    finish_if_costs true l s m =
        more R (after R (push_costs r to l s) (after R (home_costs r m l.flash.row) (phases_cost l.flash (6 - l.flash.sent)))) (omega arith) (omega arith)
    finish_if_costs false l s m = stay R

    finish_costs : (l : Lamps) (s : List ℕ) (m : Moves) → Costs R (41 + (6 - l.flash.sent)) 16 (finish_flash r l s m)
    unfolding finish_flash
    finish_costs l s m = finish_if_costs l.flash.on l s m

    show_takes : (b : Bool) (now : Float) (n base : ℕ) (l : Lamps) → Takes R 2 0 (show_number b now n base l)
    show_takes true now n base l = still R
    show_takes false now n base l = giving R (after R (says R _) (says R _))

    -- `flash_number`, whatever flash it finishes
    pub number_takes : (s : List ℕ) (m : Moves) (now : Float) (n base : ℕ) (l : Lamps) → Takes R 49 16 (flash_number r s m now n base l)
    unfolding flash_number
    number_takes s m now n base l =
        up_to R (behind R (show_takes (leb 64 n) now n base l) (finish_costs l s m)) (omega arith) (omega arith)

    pub flash_bank_takes : (s : List ℕ) (m : Moves) (now : Float) (l : Lamps) → Takes R 49 16 (flash_bank r s m now l)
    unfolding flash_bank
    flash_bank_takes s m now l = number_takes s m now r.here.bank 0 l

    end_if_takes : (b : Bool) (s : List ℕ) (m : Moves) (l : Lamps) → Takes R (41 + (6 - l.flash.sent)) 16 (end_if b r s m l)
    end_if_takes true s m l = giving R (finish_costs l s m)
    end_if_takes false s m l = still R

    tick_if_takes : (b : Bool) (s : List ℕ) (m : Moves) (now : Float) (l : Lamps) → Takes R (end_cost b l.flash.sent) 16 (tick_if b r s m now l)
    unfolding phases_to flashing
    tick_if_takes true s m now l =
        let due = due_of now l.flash.start in
        let few : due ≤ 6 = due-most now l.flash.start in
        up_to R
        (behind R (end_if_takes (flash_over now l.flash.start) s m (flashing (sent_up_to due l.flash) l)) (phases_cost l.flash (due - l.flash.sent)))
        (omega arith) (omega arith)
    tick_if_takes false s m now l = still R

    -- `tick_flash`: the phases that a tick sends, it need not send at the end
    pub tick_flash_takes : (s : List ℕ) (m : Moves) (now : Float) (l : Lamps) → Takes R (end_cost l.flash.on l.flash.sent) 16 (tick_flash r s m now l)
    unfolding tick_flash
    tick_flash_takes s m now l = tick_if_takes l.flash.on s m now l

  -- ── transport lamps ──
  playing_takes : (driver name : ℕ) → D driver → Takes R 0 1 (playing_of driver name)
  unfolding playing_of plain_call
  playing_takes driver name h = bind R (takes_use R (plain_call 5 driver name 0) h) (λ x. done R)

  meet_takes : (k : Option Player) (c : Command) (known : List Player) (n : ℕ) → D c.driver → Takes R 1 1 (meet_if k c known n)
  meet_takes (Some x) c known n h = up_to R (giving R (says R _)) (omega arith) (omega arith)
  meet_takes None c known n h = bind R (playing_takes c.driver c.target h) (λ b. giving R (says R _))

  lamp_takes : (n : Option ℕ) (c : Command) (known : List Player) → D c.driver → Takes R 1 1 (lamp_for n c known)
  lamp_takes (Some n) c known h = meet_takes (find (is_player c) known) c known n h
  lamp_takes None c known h = still R

  pub bound_costs : (l : List Entry) (known : List Player) → MayAll D l → Costs R (length l) (length l) (push_bound l known)
  unfolding push_bound
  bound_costs [] known h = stay R
  bound_costs (e ∷ l) known (one_entry d h) =
      more R
      (onto R {f = lamp_for (transport_note e.kind) e.command known} {g = push_bound l}
      (lamp_takes (transport_note e.kind) e.command known d) (λ k. bound_costs l k h))
      (omega arith) (omega arith)
