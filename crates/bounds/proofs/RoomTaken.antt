-- What a call, a message and an event take of the room of a session within its capacities. That no event overruns its 102 messages or 337 calls is in proofs/RoomLaws.
use Rattle.std.specs.Prelude.{ℕ, zero, suc, ◌+◌, ◌≤◌, ◌<◌, ◌≡◌, refl, Bool, List, [], ◌∷◌, eqb, leb, length, get_or, set}
use Rattle.std.proofs.Common.{◌∙◌, true≢false, arith, length-append, length-set, leb-true}
use Rattle.std.proofs.Math.Bool.{true, false}
use Rattle.std.proofs.lemmas.Bool.{false≢true}
use Rattle.base.specs.Choice.{pick}
use Rattle.base.specs.Keyed.{change}
use Rattle.protocol.specs.Protocol.{bytes_of}
use Rattle.protocol.specs.declared.Out.{Out}
use Rattle.lookup.specs.Lookup.{of_kind, merged, place}
use Rattle.lookup.specs.View.{View}
use Rattle.lookup.specs.declared.Entry.{Entry}
use Rattle.drivers.specs.Answers.{answer_of, is_unfit, is_done}
use Rattle.drivers.specs.Talk.{Talk, Got, next, ask, ask_at, ask_room, ask_left, ask_fit, plain_call, opening, is_open, open_for, open_if, opened_by, ask_if, use_call, send, send_at, send_room}
use Rattle.drivers.specs.declared.line.Stop.{Stop}
use Rattle.drivers.specs.declared.line.Stop.TheVariants.{Going, Waits, Declined, Overrun}
use Rattle.drivers.specs.declared.Call.{Call}
use Rattle.event.specs.declared.Input.{Input}
use Rattle.event.specs.declared.Input.TheVariants as input
use Rattle.definition.specs.Step.{Kept}
use Rattle.bounds.specs.Room.{IsDriver, shut, Sound, Within, Room}
use Rattle.bounds.proofs.Spending.{Rules, Spent, spending}
use Rattle.bounds.proofs.Surface.{end_cost}
use Rattle.bounds.proofs.Events.{message_cost, call_cost}

-- ── drivers that are not open ──

pub shut-most : (l : List Bool) → shut l ≤ length l
unfolding shut
shut-most [] = omega arith
shut-most (true ∷ l) = omega (arith, shut-most l)
shut-most (false ∷ l) = omega (arith, shut-most l)

-- one that is opened is one fewer
shut-opened : (l : List Bool) (i : ℕ) → i < length l → get_or l i false ≡ false → shut (set l i true) + 1 ≡ shut l
unfolding shut
shut-opened [] i h e = absurd (omega arith)
shut-opened (true ∷ l) zero h e = absurd (true≢false e)
shut-opened (false ∷ l) zero h e = omega arith
shut-opened (b ∷ l) (suc i) h e = omega (arith, shut-opened l i (omega arith) e)

-- ── the line ──

pub going_so : Going ≡ Overrun → ⊥
going_so e = let z : ◌≡◌ {A = ℕ} 0 1 = cc in omega arith

waits_so : {c : Call} → Waits c ≡ Overrun → ⊥
waits_so e = let z : ◌≡◌ {A = ℕ} 0 1 = cc in omega arith

declined_so : Declined ≡ Overrun → ⊥
declined_so e = let z : ◌≡◌ {A = ℕ} 0 1 = cc in omega arith

-- what a call leaves
record Asked (m c : ℕ) (t u : Talk) : Type 0 where
  room : Room m c u
  same : u.opened ≡ t.opened

module _ {m c : ℕ} (x : Call) (t : Talk) (h : Room m (1 + c) t) where
  kept_so : Asked m c t t
  kept_so =
      record {
        room = record { messages = h.messages; calls = omega (arith, h.calls); opened = h.opened; never = h.never };
        same = refl;
      }

  fit_room : (b : Bool) → Asked m c t (ask_fit b x (answer_of t.left x.kind) t).talk
  fit_room true =
      record {
        room = record { messages = h.messages; calls = omega (arith, h.calls); opened = h.opened; never = λ e. declined_so e };
        same = refl;
      }
  fit_room false =
      record {
        room = record { messages = h.messages; calls = omega (arith, h.calls, length-append t.calls (x ∷ [])); opened = h.opened; never = h.never };
        same = refl;
      }

  left_room : (b : Bool) → Asked m c t (ask_left b x t).talk
  left_room true =
      record {
        room = record { messages = h.messages; calls = omega (arith, h.calls); opened = h.opened; never = λ e. waits_so e };
        same = refl;
      }
  left_room false = fit_room (is_unfit (answer_of t.left x.kind))

  room_room : (b : Bool) → leb 337 (length t.calls) ≡ b → Asked m c t (ask_room b x t).talk
  room_room true e = absurd (omega (arith, h.calls, leb-true 337 (length t.calls) e))
  room_room false e = left_room (eqb (length t.left) 0)

  at_room : (s : Stop) → Asked m c t (ask_at s x t).talk
  at_room Going = room_room (leb 337 (length t.calls)) refl
  at_room (Waits d) = kept_so
  at_room Declined = kept_so
  at_room Overrun = kept_so

  ask_room_lem : Asked m c t (ask x t).talk
  unfolding ask
  ask_room_lem = at_room t.stop

send_room_lem : {m c : ℕ} (out : Out) (t : Talk) → Room (1 + m) c t → Room m c (send out t)
unfolding send
send_room_lem {m} {c} out t h = at t.stop
  where
    same : Room m c t
    same = record { messages = omega (arith, h.messages); calls = h.calls; opened = h.opened; never = h.never }

    room_at_lem : (b : Bool) → leb 102 (length t.messages) ≡ b → Room m c (send_room b (bytes_of out) t)
    room_at_lem true e = absurd (omega (arith, h.messages, leb-true 102 (length t.messages) e))
    room_at_lem false e =
        record {
          messages = omega (arith, h.messages, length-append t.messages (bytes_of out ∷ []));
          calls = h.calls;
          opened = h.opened;
          never = h.never;
        }

    at : (s : Stop) → Room m c (send_at s (bytes_of out) t)
    at Going = room_at_lem (leb 102 (length t.messages)) refl
    at (Waits d) = same
    at Declined = same
    at Overrun = same

-- an open that was done, or was before, costs no call more than it opens
record Opened (m c : ℕ) (r : Got Bool) : Type 0 where
  room : Room m c r.talk
  ready : r.value ≡ true → Room m (1 + c) r.talk

open_room : {m c : ℕ} (driver name : ℕ) (t : Talk) → IsDriver driver → Room m (1 + c) t → Opened m c (open_for driver name t)
unfolding open_for next opening is_open
open_room {m} {c} driver name t d h = at (get_or t.opened driver false) refl
  where
    x : Call
    x = plain_call 0 driver name 0

    u : Talk
    u = (ask x t).talk

    a : Asked m c t u
    a = ask_room_lem x t h

    by : (b : Bool) → get_or t.opened driver false ≡ false → Opened m c (opened_by b driver u)
    by true e =
        let g : get_or u.opened driver false ≡ false = rw a.same e in
        let l : driver < length u.opened = omega (arith, a.room.opened) in
        let s = shut-opened u.opened driver l g in
        let n = length-set u.opened driver true ∙ a.room.opened in
        record {
          room = record { messages = a.room.messages; calls = omega (arith, a.room.calls, s); opened = n; never = a.room.never };
          ready = λ q. record { messages = a.room.messages; calls = omega (arith, a.room.calls, s); opened = n; never = a.room.never };
        }
    by false e = record { room = a.room; ready = λ q. absurd (false≢true q) }

    at : (b : Bool) → get_or t.opened driver false ≡ b → Opened m c (open_if b driver name t)
    at true e =
        record {
          room = record { messages = h.messages; calls = omega (arith, h.calls); opened = h.opened; never = h.never };
          ready = λ q. h;
        }
    at false e = by (is_done (ask x t).value.answer) e

use_room : {m c : ℕ} (x : Call) (t : Talk) → IsDriver x.driver → Room m (1 + c) t → Room m c (use_call x t).talk
unfolding use_call next
use_room {m} {c} x t d h = at (open_for x.driver x.name t).value refl
  where
    u : Talk
    u = (open_for x.driver x.name t).talk

    o : Opened m c (open_for x.driver x.name t)
    o = open_room x.driver x.name t d h

    at : (b : Bool) → (open_for x.driver x.name t).value ≡ b → Room m c (ask_if b x u).talk
    at true e = (ask_room_lem x u (o.ready e)).room
    at false e = o.room

pub room_spent : Spent IsDriver Room
room_spent =
    record {
      less = λ p q i. record { messages = omega (arith, i.messages, p); calls = omega (arith, i.calls, q); opened = i.opened; never = i.never };
      say = λ {m} {c} {t} out i. send_room_lem out t i;
      opens = λ {m} {c} {t} driver name d i. (open_room driver name t d i).room;
      uses = λ {m} {c} {t} x d i. use_room x t d i;
    }

abbrev pub room_rules : Rules IsDriver
room_rules = spending room_spent

-- ── any event ──

place-most : (e : Entry) (l : List Entry) → length (place e l) ≤ length l + 1
unfolding place change
place-most e [] = omega arith
place-most e (x ∷ l) = go (of_kind e.kind x) (place-most e l)
  where
    go : (b : Bool) → length (change (of_kind e.kind) (λ x. e) e l) ≤ length l + 1 →
        length (pick b (e ∷ l) (x ∷ change (of_kind e.kind) (λ x. e) e l)) ≤ suc (length l) + 1
    go true k = omega arith
    go false k = omega (arith, k)

merged-most : (g own : List Entry) → length (merged g own) ≤ length g + length own
unfolding merged
merged-most [] own = omega arith
merged-most (e ∷ g) own = omega (arith, merged-most g (place e own), place-most e own)

end-most : (b : Bool) (sent : ℕ) → (b ≡ true → 1 ≤ sent) → end_cost b sent ≤ 46
end-most true sent h = omega (arith, h refl)
end-most false sent h = omega arith

module _ (v : View) (k : Kept) (sound : Sound v) (within : Within k) where
  pub messages_most : (e : Input) → message_cost e v k ≤ 102
  messages_most (input.Midi e) = omega arith
  messages_most input.Tick =
      omega (arith, within.line, end-most k.lamps.flash.on k.lamps.flash.sent within.flash)
  messages_most input.PushState = omega arith
  messages_most input.PushTransport =
      omega (arith, merged-most v.globals.transports (v.here k.site.bank).transports, sound.globals, sound.own k.site.bank)
  messages_most input.FlashBank = omega arith

  pub calls_most : (e : Input) → call_cost e v k ≤ 321
  calls_most (input.Midi e) = omega arith
  calls_most input.Tick = omega (arith, within.line, within.turns)
  calls_most input.PushState = omega arith
  calls_most input.PushTransport =
      omega (arith, merged-most v.globals.transports (v.here k.site.bank).transports, sound.globals, sound.own k.site.bank)
  calls_most input.FlashBank = omega arith
