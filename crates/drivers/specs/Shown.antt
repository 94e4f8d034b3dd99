-- What the code's line and both buffers show of the definitions' line: a function, so that each contract is one equation. Definitions only.
use Rattle.std.specs.Prelude.{ℕ, zero, suc, ◌+◌, ◌*◌, ◌≤◌, ◌<◌, ◌≡◌, List, [], ◌∷◌, ◌++◌, true, false, length, get_or, set, drop, Option, None, Some}
use Rattle.base.specs.Words.{le16, le32, le64, bytes16, bytes32, bytes64}
use Rattle.drivers.specs.Answers.{items_of, is_list}
use Rattle.drivers.specs.Talk.{Talk, Reply as Answered, Listed, send}
use Rattle.drivers.specs.declared.Call.{Call}
use Rattle.drivers.specs.declared.LiveFader.{LiveFader}
use Rattle.drivers.specs.declared.line.Io.{Io}
use Rattle.drivers.specs.declared.line.Stop.{Stop}
use Rattle.drivers.specs.declared.line.Reply.{Reply}
use Rattle.protocol.specs.Protocol.{bytes_of}
use Rattle.protocol.specs.declared.Out.{Out}
use Rattle.base.specs.Tail.{over}

-- ── call records: "Call, 16 bytes" ──

abbrev pub call_bytes : Call → List ℕ
call_bytes c = c.kind ∷ c.driver ∷ (bytes16 c.name ++ (bytes32 c.argument ++ bytes64 c.level))

-- the call whose record starts at place i
abbrev pub call_at : List ℕ → ℕ → Call
call_at bs i =
    record { kind = get_or bs i 0; driver = get_or bs (i + 1) 0; name = le16 bs (i + 2); argument = le32 bs (i + 4); level = le64 bs (i + 8) }

-- the first n calls of a buffer
unfoldable pub calls_in : ℕ → List ℕ → List Call
calls_in zero bs = []
calls_in (suc n) bs = calls_in n bs ++ (call_at bs (16 * n) ∷ [])

-- ── messages: three bytes each ──

abbrev pub message_at : List ℕ → ℕ → List ℕ
message_at bs i = get_or bs i 0 ∷ get_or bs (i + 1) 0 ∷ get_or bs (i + 2) 0 ∷ []

unfoldable pub messages_in : ℕ → List ℕ → List (List ℕ)
messages_in zero bs = []
messages_in (suc n) bs = messages_in n bs ++ (message_at bs (3 * n) ∷ [])

-- ── the line ──

unfoldable pub shown : Io → Talk
shown io =
    record {
      left = drop io.read io.answers.now;
      used = io.read;
      opened = io.opened;
      calls = calls_in io.asked io.calls;
      messages = messages_in io.sent io.messages;
      stop = io.stop;
    }

-- ── the code's line, one change at a time ──

-- it stops
abbrev pub stopped : Stop → Io → Io
stopped why io =
    record {
      answers = io.answers;
      calls = io.calls;
      messages = io.messages;
      read = io.read;
      asked = io.asked;
      sent = io.sent;
      opened = io.opened;
      stop = why;
    }

abbrev pub opened_in : Io → ℕ → Io
opened_in io driver =
    record {
      answers = io.answers;
      calls = io.calls;
      messages = io.messages;
      read = io.read;
      asked = io.asked;
      sent = io.sent;
      opened = set io.opened driver true;
      stop = io.stop;
    }

-- one more message is sent, and the buffer is this one
abbrev pub sent_with : List ℕ → Io → Io
sent_with messages io =
    record {
      answers = io.answers;
      calls = io.calls;
      messages = messages;
      read = io.read;
      asked = io.asked;
      sent = io.sent + 1;
      opened = io.opened;
      stop = io.stop;
    }

-- where the next message goes, if it goes anywhere: whichever it is, it is sent once it stands there
abbrev pub Places : Io → Option ℕ → Io → Type 0
Places io None u = (o : Out) → shown u ≡ send o (shown io)
Places io (Some at) u =
    (at + 3 ≤ 306) × (u ≡ sent_with io.messages io) × ((o : Out) → shown (sent_with (over io.messages at (bytes_of o)) io) ≡ send o (shown io))

-- ── what a call gave ──

unfoldable pub reply_in : Reply → Answered
reply_in r = record { answer = r.answer; items = items_of r.count r.part.now }

-- every item of a list is within the answers, and there are at most 128, of live faders at most 32; no other answer has any
pub record Listing (kind : ℕ) (r : Reply) : Type 0 where
  pub within : (i : ℕ) → i < r.count → 16 * i + 32 ≤ length r.part.now
  pub scenes : r.count ≤ 128
  pub live : kind ≡ 9 → r.count ≤ 32
  pub none : is_list r.answer ≡ false → r.count ≡ 0

-- a fader of zeros: it stands in each place of an array that no fader takes
abbrev pub no_fader : LiveFader
no_fader = record { number = 0; target = 0; label = 0; group = 0; mute = 0 }

-- a list that is handed on, if there is one
module _ {A : Type 0} where
  abbrev pub listed : Option (List A) → Listed A
  listed None = record { ok = false; list = [] }
  listed (Some l) = record { ok = true; list = l }
