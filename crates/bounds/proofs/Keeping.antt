-- What every answer taken, every open and every message keep of the line, every event keeps. Assumes nothing.
use Rattle.std.specs.Prelude.{ℕ, ◌≡◌, refl, Bool, List, [], ◌∷◌, eqb, leb, length, get_or, None, Option, Some}
use Rattle.std.proofs.Math.Bool.{true, false}
use Rattle.protocol.specs.Protocol.{bytes_of}
use Rattle.protocol.specs.declared.Out.{Out}
use Rattle.lookup.specs.View.{View}
use Rattle.lookup.specs.declared.Entry.{Entry}
use Rattle.drivers.specs.Answers.{answer_of, item_count, is_unfit, is_done}
use Rattle.drivers.specs.Talk.{Talk, next, start, halted, took, ask, ask_at, ask_room, ask_left, ask_fit, plain_call, opening, is_open, open_for, open_if, opened_by, ask_if, use_call, send, send_at, send_room}
use Rattle.drivers.specs.declared.line.Stop.{Stop}
use Rattle.drivers.specs.declared.line.Stop.TheVariants.{Going, Waits, Declined, Overrun}
use Rattle.drivers.specs.declared.Call.{Call}
use Rattle.session.specs.Session.{Turn, strips_or}
use Rattle.session.specs.declared.Strip.{Strip}
use Rattle.event.specs.declared.Timed.{Timed}
use Rattle.definition.specs.Step.{Kept, act}
use Rattle.bounds.specs.Drivers.{MayTo, MayAll, no_entry_lem, one_entry, Each, no_more, one_more, MayTurn, MayStrip, MayView, MayKept}
use Rattle.bounds.proofs.Spending.{Spent, spending}
use Rattle.bounds.proofs.Events.{act_takes}
use Rattle.lookup.specs.declared.Destination.{Destination}

-- ── any driver ──

abbrev pub Any : ℕ → Type 0
Any driver = Unit {0}

any_to : (f : Option Destination) → MayTo Any f
any_to (Some d) = tt
any_to None = tt

any-all : (l : List Entry) → MayAll Any l
any-all [] = no_entry_lem
any-all (e ∷ l) = one_entry tt (any-all l)

any_strips : (l : List Strip) → Each (MayStrip Any) l
any_strips [] = no_more
any_strips (x ∷ l) = one_more tt (any_strips l)

any-turns : (l : List Turn) → Each (MayTurn Any) l
any-turns [] = no_more
any-turns (x ∷ l) = one_more tt (any-turns l)

pub any_view : (v : View) → MayView Any v
any_view v =
    record {
      first = tt;
      globals = λ n. any_to (v.globals.fader n);
      faders = λ b n. any_to ((v.here b).fader n);
      devices = λ b e. tt;
      commands = any-all v.globals.transports;
      own = λ b. any-all (v.here b).transports;
    }

pub any-kept : (k : Kept) → MayKept Any k
any-kept k = record { lives = λ b. any_strips (strips_or (get_or k.site.lives b None)); turns = any-turns k.desk.turns }

-- ── the line ──

-- I is kept by a line that stops, an answer that fits and is taken, an open that was done, and a message
pub record Keeps (I : Talk → Type 0) : Type 0 where
  pub stops : (s : Stop) (t : Talk) → I t → I (halted s t)
  pub takes : (c : Call) (t : Talk) → is_unfit (answer_of t.left c.kind) ≡ false → I t → I (took c (item_count (answer_of t.left c.kind) t.left) t)
  pub opens : (driver : ℕ) (t : Talk) → I t → I (opening driver t)
  pub says : (out : Out) (t : Talk) → I t → I (send_room false (bytes_of out) t)

module _ (I : Talk → Type 0) (keeps : Keeps I) where
  ask_keeps : (c : Call) (t : Talk) → I t → I (ask c t).talk
  unfolding ask
  ask_keeps c t h = at t.stop
    where
      fit_at : (b : Bool) → is_unfit (answer_of t.left c.kind) ≡ b → I (ask_fit b c (answer_of t.left c.kind) t).talk
      fit_at true f = keeps.stops Declined t h
      fit_at false f = keeps.takes c t f h

      left_at : (b : Bool) → I (ask_left b c t).talk
      left_at true = keeps.stops (Waits c) t h
      left_at false = fit_at (is_unfit (answer_of t.left c.kind)) refl

      room_at_lem : (b : Bool) → I (ask_room b c t).talk
      room_at_lem true = keeps.stops Overrun t h
      room_at_lem false = left_at (eqb (length t.left) 0)

      at : (s : Stop) → I (ask_at s c t).talk
      at Going = room_at_lem (leb 337 (length t.calls))
      at (Waits d) = h
      at Declined = h
      at Overrun = h

  send_keeps : (out : Out) (t : Talk) → I t → I (send out t)
  unfolding send
  send_keeps out t h = at t.stop
    where
      room_at_lem : (b : Bool) → I (send_room b (bytes_of out) t)
      room_at_lem true = keeps.stops Overrun t h
      room_at_lem false = keeps.says out t h

      at : (s : Stop) → I (send_at s (bytes_of out) t)
      at Going = room_at_lem (leb 102 (length t.messages))
      at (Waits d) = h
      at Declined = h
      at Overrun = h

  open_keeps : (driver name : ℕ) (t : Talk) → I t → I (open_for driver name t).talk
  unfolding open_for next
  open_keeps driver name t h = at (is_open driver t)
    where
      c : Call
      c = plain_call 0 driver name 0

      by : (b : Bool) → I (opened_by b driver (ask c t).talk).talk
      by true = keeps.opens driver (ask c t).talk (ask_keeps c t h)
      by false = ask_keeps c t h

      at : (b : Bool) → I (open_if b driver name t).talk
      at true = h
      at false = by (is_done (ask c t).value.answer)

  use_keeps : (c : Call) (t : Talk) → I t → I (use_call c t).talk
  unfolding use_call next
  use_keeps c t h = at (open_for c.driver c.name t).value
    where
      u : Talk
      u = (open_for c.driver c.name t).talk

      k : I u
      k = open_keeps c.driver c.name t h

      at : (b : Bool) → I (ask_if b c u).talk
      at true = ask_keeps c u k
      at false = k

  keeping : Spent Any (λ m c. I)
  keeping =
      record {
        less = λ p q i. i;
        say = λ {m} {c} {t} out i. send_keeps out t i;
        opens = λ {m} {c} {t} driver name d i. open_keeps driver name t i;
        uses = λ {m} {c} {t} x d i. use_keeps x t i;
      }

  -- any event, from the line's start
  pub act_keeps : (v : View) (k : Kept) (e : Timed) (answers : List ℕ) → I (start answers k.opened) →
      I (act e.what v k e.time (start answers k.opened)).talk
  act_keeps v k e answers h =
      (act_takes (spending keeping) v k (any_view v) (any-kept k) e.what e.time).pays 0 0 (start answers k.opened) h
