-- What `run` writes, by document 01's paragraph on it. Definitions only.
use Rattle.std.specs.Prelude.{ℕ, zero, suc, ◌*◌, List, [], ◌∷◌, ◌++◌, cond, eqb, length, take, drop, Option, Some, None}
use Rattle.profile.specs.Profile.{verdict}
use Rattle.drivers.specs.Shown.{calls_in, messages_in}
use Rattle.drivers.specs.declared.Call.{Call}
use Rattle.event.specs.Event.{read_of}
use Rattle.definition.specs.Step.{Ended, done, refused, waiting, Kept, Stepped, fresh_kept}
use Rattle.definition.specs.Whole.{offered}
use Rattle.delivery.specs.Delivery.{Told, Done, Refused, Waiting}
use Rattle.printing.specs.Ascii.{ascii}
use Rattle.printing.specs.Text.{line_end, message_lines, call_lines, step_words, count_words, profile_line, refused_line, waiting_lines}

-- "after an event's line come its messages, then its calls"
unfoldable pub done_text : ℕ → List (List ℕ) → List Call → List ℕ
done_text n ms cs = step_words (ascii "event") n ++ (count_words (length ms) (length cs) ++ (line_end ++ (message_lines ms ++ call_lines cs)))

-- of event n that ended so
abbrev pub event_text : ℕ → Ended → List ℕ
event_text n (done ms cs used saved) = done_text n ms cs
event_text n (refused why) = refused_line (ascii "event") n why
event_text n (waiting c) = waiting_lines n c

-- of event n, by what its outcome tells and the message and call buffers behind it
abbrev pub outcome_text : ℕ → Told → List ℕ → List ℕ → List ℕ
outcome_text n (Done sent asked used saved) ms cs = done_text n (messages_in sent ms) (calls_in asked cs)
outcome_text n (Refused why) ms cs = refused_line (ascii "event") n why
outcome_text n (Waiting c) ms cs = waiting_lines n c

-- ── the whole program ──

-- the events of a file, "16 bytes" each and at most so many, in order; the last may be incomplete
unfoldable pub records_in : ℕ → List ℕ → List (List ℕ)
records_in zero bs = []
records_in (suc more) [] = []
records_in (suc more) (b ∷ bs) = take 16 (b ∷ bs) ∷ records_in more (drop 16 (b ∷ bs))

-- all of them: there are no more than bytes
abbrev pub records : List ℕ → List (List ℕ)
records bs = records_in (length bs) bs

-- what becomes of an event: the profile p is accepted, k is what is kept of the session
abbrev pub became : List ℕ → Kept → List ℕ → List ℕ → Stepped
became p k event answers = offered (read_of event) p k answers

-- how many answers a done event used; "refused" or "waiting" is "the end"
abbrev pub goes_on : Ended → Option ℕ
goes_on (done ms cs used saved) = Some used
goes_on (refused why) = None
goes_on (waiting c) = None

abbrev pub text_if : Option ℕ → (ℕ → List ℕ) → List ℕ
text_if (Some used) text = text used
text_if None text = []

-- of the events from event n on: each goes on from what the one before kept, and "reads on from the first unread answer"
unfoldable pub events_text : List ℕ → Kept → ℕ → List (List ℕ) → List ℕ → List ℕ
events_text p k n [] answers = []
events_text p k n (e ∷ es) answers =
    let r = became p k e answers in
    event_text n r.ended ++ text_if (goes_on r.ended) (λ used. events_text p r.kept (suc n) es (drop (16 * used) answers))

-- of the program, by the bytes of its three files: "N counts from 0", "the session starts fresh"; else "`profile refused R`", "before any event"
unfoldable pub program_text : List ℕ → List ℕ → List ℕ → List ℕ
program_text profile events answers =
    cond (eqb (verdict profile) 0) (events_text profile fresh_kept 0 (records events) answers) (profile_line (verdict profile))
