-- Everything the surface can show, positions and lamps: `push_state`, `is_muted`, `push_transport`. Definitions only.
use Rattle.std.specs.Prelude.{ℕ, zero, suc, ◌+◌, List, [], ◌∷◌, ◌++◌, Bool, true, false, ◌&&◌, eqb, None, Option, Some, Float}
use Rattle.base.specs.Keyed.{find}
use Rattle.protocol.specs.Protocol.{sent_to, transport_note}
use Rattle.protocol.specs.declared.Out.TheVariants.{Led}
use Rattle.lookup.specs.Lookup.{merged}
use Rattle.lookup.specs.declared.Destination.{Destination}
use Rattle.lookup.specs.declared.Command.{Command}
use Rattle.lookup.specs.declared.Entry.{Entry}
use Rattle.drivers.specs.Talk.{Talk, Got, Act, got, next, ◌>>=◌, send, playing_of}
use Rattle.session.specs.Session.{is_silenced}
use Rattle.session.specs.declared.Lamps.{Lamps}
use Rattle.definition.specs.Rig.{Rig, destination}
use Rattle.definition.specs.Levels.{read, read_mute, kept_by, has_mute}

-- ── one fader ──

-- Which faders are muted without a mute parameter is told by the targets that are silenced; their levels do not matter to a lamp.

-- a position for a fader with a readable value only: nothing would ever align with another's
abbrev pub send_level : ℕ → Option Float → Talk → Talk
send_level ch (Some x) t = send (sent_to ch x) t
send_level ch None t = t

abbrev pub read_and_send : ℕ → Got (Option Float) → Talk
read_and_send ch r = send_level ch r.value r.talk

abbrev pub position_for : Bool → ℕ → Option Destination → Talk → Talk
position_for true ch (Some d) t = read_and_send ch (read d t)
position_for true ch None t = t
position_for false ch to t = t

unfoldable pub push_position : Rig → ℕ → Talk → Talk
push_position r ch t = position_for r.positions ch (destination r (ch + 1)) t

abbrev pub or_false : Option Bool → Bool
or_false None = false
or_false (Some b) = b

abbrev pub muted_if : Bool → Destination → List ℕ → Act Bool
muted_if false d s = got (is_silenced (kept_by d) s)
muted_if true d s = read_mute d >>= λ m. got (or_false m)

abbrev pub muted_to : Option Destination → List ℕ → Act Bool
muted_to (Some d) s = muted_if (has_mute d) d s
muted_to None s = got false

-- `is_muted`: one without a destination, or whose mute cannot be read, is not
unfoldable pub is_muted : Rig → ℕ → List ℕ → Act Bool
is_muted r n s = muted_to (destination r n) s

-- the four lamps of a channel, in the Rust's order: mute, solo, rec, select. The square button's is lit only where the profile gave it a job
abbrev pub four_lamps : Rig → Lamps → ℕ → Bool → Talk → Talk
four_lamps r l ch muted t =
    send (Led (0x18 + ch) (r.here.part.select && eqb r.here.bank ch))
    (send (Led (0x00 + ch) (eqb l.loaded (ch + 1)))
    (send (Led (0x08 + ch) (eqb l.soloed (ch + 1)))
    (send (Led (0x10 + ch) muted) t)))

abbrev pub lamps_after : Rig → Lamps → ℕ → Got Bool → Talk
lamps_after r l ch m = four_lamps r l ch m.value m.talk

unfoldable pub push_fader : Rig → Lamps → List ℕ → ℕ → Talk → Talk
push_fader r l s ch t = lamps_after r l ch (is_muted r (ch + 1) s (push_position r ch t))

-- the first n channels
unfoldable pub push_faders : Rig → Lamps → List ℕ → ℕ → Talk → Talk
push_faders r l s zero t = t
push_faders r l s (suc n) t = push_fader r l s n (push_faders r l s n t)

-- `push_state`
unfoldable pub push_state : Rig → Lamps → List ℕ → Talk → Talk
push_state r l s t = push_faders r l s 8 t

-- ── transport lamps ──

-- a player, and whether it said yes or no
pub record Player : Type 0 where
  pub driver : ℕ
  pub target : ℕ
  pub there : Bool

abbrev pub is_player : Command → Player → Bool
is_player c p = eqb p.driver c.driver && eqb p.target c.target

abbrev pub met : Command → Bool → Player
met c b = record { driver = c.driver; target = c.target; there = b }

-- one ask for each player, not for each button: "The scan of known players ends at the first equal driver and target"
abbrev pub meet_if : Option Player → Command → List Player → ℕ → Talk → Got (List Player)
meet_if (Some p) c known note t = got known (send (Led note p.there) t)
meet_if None c known note t =
    next (playing_of c.driver c.target t) (λ b u. got (known ++ (met c b ∷ [])) (send (Led note b) u))

-- a kind without a lamp asks nobody
abbrev pub lamp_for : Option ℕ → Command → List Player → Act (List Player)
lamp_for (Some n) c known t = meet_if (find (is_player c) known) c known n t
lamp_for None c known t = got known t

abbrev pub onward : {A : Type 0} → (A → Talk → Talk) → Got A → Talk
onward f r = f r.value r.talk

unfoldable pub push_bound : List Entry → List Player → Talk → Talk
push_bound [] known t = t
push_bound (e ∷ es) known t = onward (push_bound es) (lamp_for (transport_note e.kind) e.command known t)

-- `push_transport`: "Transport lamps come in the bank's order; a global entry replaces the first of its kind there, or else comes behind."
unfoldable pub push_transport : Rig → Talk → Talk
push_transport r t = push_bound (merged r.globals.transports r.here.part.transports) [] t
