-- Which answer each call took, as a function of the calls that were made and the answers that the event was offered. Definitions only.
use Rattle.std.specs.Prelude.{ℕ, ◌+◌, ◌*◌, ◌≡◌, List, [], ◌∷◌, drop}
use Rattle.drivers.specs.Answers.{answer_of, item_count, items_of}
use Rattle.drivers.specs.Talk.{Talk, Reply}
use Rattle.drivers.specs.declared.Call.{Call}

-- a call, and what it was answered
pub record Asked : Type 0 where
  pub call : Call
  pub reply : Reply

-- how many items stand behind the answer that a call takes
abbrev pub count_to : Call → List ℕ → ℕ
count_to c ans = item_count (answer_of ans c.kind) ans

-- the answer that a call takes, with its items
abbrev pub reply_to : Call → List ℕ → Reply
reply_to c ans = record { answer = answer_of ans c.kind; items = items_of (count_to c ans) ans }

-- the answers without those that a call takes
abbrev pub behind : Call → List ℕ → List ℕ
behind c ans = drop (16 + 16 * count_to c ans) ans

-- what the calls leave of the answers
unfoldable pub after : List Call → List ℕ → List ℕ
after [] ans = ans
after (c ∷ cs) ans = after cs (behind c ans)

-- the calls with their answers, in order
unfoldable pub paired : List Call → List ℕ → List Asked
paired [] ans = []
paired (c ∷ cs) ans = record { call = c; reply = reply_to c ans } ∷ paired cs (behind c ans)

-- a line that was offered the answers, and whose calls took what it lacks of them
abbrev pub Fed : List ℕ → Talk → Type 0
Fed ans t = t.left ≡ after t.calls ans
