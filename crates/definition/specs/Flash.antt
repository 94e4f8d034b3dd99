-- A number shown as a grid, the row by a position and the column by a button's lamp, played out over ticks: `flash_number`, `tick_flash`, `finish_flash`.
-- Definitions only.
use Rattle.std.specs.Prelude.{ℕ, zero, suc, ◌+◌, ◌-◌, ◌*◌, ◌/◌, ◌%◌, max, List, Bool, true, false, eqb, leb, Float}
use Rattle.float.specs.Leaf.{f0, due_of, flash_over}
use Rattle.protocol.specs.Protocol.{sent_to}
use Rattle.protocol.specs.declared.Out.TheVariants.{Led}
use Rattle.drivers.specs.Talk.{Talk, Got, Act, got, send}
use Rattle.session.specs.Session.{last_move, flashing, no_flash}
use Rattle.session.specs.declared.Flash.{Flash}
use Rattle.session.specs.declared.Lamps.{Lamps}
use Rattle.session.specs.declared.Moves.{Moves}
use Rattle.definition.specs.Rig.{Rig}
use Rattle.definition.specs.Lamps.{push_state, send_level}

-- `Flash::led`: the column's lamp is lit in even phases
abbrev pub phase_led : Flash → ℕ → Talk → Talk
phase_led f phase t = send (Led (f.base + f.column) (eqb (phase % 2) 0)) t

-- the next n phases that are not sent yet
unfoldable pub phases : Flash → ℕ → Talk → Talk
phases f zero t = t
phases f (suc n) t = phase_led f (f.sent + n) (phases f n t)

-- the phases up to `due`
unfoldable pub phases_to : Flash → ℕ → Talk → Talk
phases_to f due t = phases f (due - f.sent) t

-- Only the position that the row's fader itself reported settles its lamp; until it was touched there is nothing to send
unfoldable pub send_home : Rig → Moves → ℕ → Talk → Talk
send_home r m row t = send_level row (last_move (r.here.bank * 16 + row) m) t

abbrev pub finish_if : Bool → Rig → Lamps → List ℕ → Moves → Talk → Talk
finish_if true r l s m t = push_state r l s (send_home r m l.flash.row (phases_to l.flash 6 t))
finish_if false r l s m t = t

-- `finish_flash`: the phases left, the row's own position, and the real lamps again. The flash itself is then over: its caller puts another in its place
unfoldable pub finish_flash : Rig → Lamps → List ℕ → Moves → Talk → Talk
finish_flash r l s m t = finish_if l.flash.on r l s m t

abbrev pub flash_of : Float → ℕ → ℕ → Flash
flash_of now n base = record { on = true; start = now; row = n / 8; base = base; column = n % 8; sent = 1 }

abbrev pub show_number : Bool → Float → ℕ → ℕ → Lamps → Talk → Got Lamps
show_number true now n base l t = got (flashing no_flash l) t
show_number false now n base l t =
    got (flashing (flash_of now n base) l) (phase_led (flash_of now n base) 0 (send (sent_to (n / 8) f0) t))

-- `flash_number`: a new one finishes the one still playing first; "beyond 64 there is nothing to show"
unfoldable pub flash_number : Rig → List ℕ → Moves → Float → ℕ → ℕ → Lamps → Act Lamps
flash_number r s m now n base l t = show_number (leb 64 n) now n base l (finish_flash r l s m t)

-- `flash_bank`: the bank's number on the REC lamps
unfoldable pub flash_bank : Rig → List ℕ → Moves → Float → Lamps → Act Lamps
flash_bank r s m now l = flash_number r s m now r.here.bank 0x00 l

-- the flash with its phases up to `due` sent
abbrev pub sent_up_to : ℕ → Flash → Flash
sent_up_to due f = record { on = f.on; start = f.start; row = f.row; base = f.base; column = f.column; sent = max f.sent due }

abbrev pub end_if : Bool → Rig → List ℕ → Moves → Lamps → Act Lamps
end_if true r s m l t = got (flashing no_flash l) (finish_flash r l s m t)
end_if false r s m l t = got l t

abbrev pub play_on : ℕ → Rig → List ℕ → Moves → Float → Lamps → Act Lamps
play_on due r s m now l t =
    end_if (flash_over now l.flash.start) r s m (flashing (sent_up_to due l.flash) l) (phases_to l.flash due t)

abbrev pub tick_if : Bool → Rig → List ℕ → Moves → Float → Lamps → Act Lamps
tick_if true r s m now l t = play_on (due_of now l.flash.start) r s m now l t
tick_if false r s m now l t = got l t

-- `tick_flash`: the phases that are due by now, and the end when its time is up
unfoldable pub tick_flash : Rig → List ℕ → Moves → Float → Lamps → Act Lamps
tick_flash r s m now l t = tick_if l.flash.on r s m now l t
