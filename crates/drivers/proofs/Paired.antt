-- One call adds one pair of call and answer, if the line goes on, and none if it stops. Assumes nothing.
use Prim.Native.Nat.{ℕ}
use mathlib.Core.Path.{◌≡◌, refl, sym, ap, ◌∙◌}
use mathlib.Core.Bool.{Bool, true, false}
use mathlib.Core.List.{List, [], ◌∷◌, ◌++◌}
use lib.Dec.{leb, eqb}
use lib.ListN.{length}
use Rattle.protocol.specs.Protocol.{bytes_of}
use Rattle.protocol.specs.declared.Out.{Out}
use Rattle.drivers.specs.Answers.{answer_of, is_unfit}
use Rattle.drivers.specs.Talk.{Talk, Got, Reply, start, ask, ask_at, ask_room, ask_left, ask_fit, opening, send, send_at, send_room}
use Rattle.drivers.specs.declared.line.Stop.{Stop}
use Rattle.drivers.specs.declared.line.Stop.TheVariants.{Going, Waits, Declined, Overrun}
use Rattle.drivers.specs.Paired.{reply_to, behind, after, paired, Fed}
use Rattle.drivers.proofs.PairedLaws.{after-append, paired-append, waits_on, declined_on, overrun_on}
use Rattle.drivers.specs.declared.Call.{Call}

-- one call more
after_more : (cs : List Call) (c : Call) (ans : List ℕ) → after (cs ++ (c ∷ [])) ans ≡ behind c (after cs ans)
unfolding after
after_more cs c ans = after-append cs (c ∷ []) ans

paired-more : (cs : List Call) (c : Call) (ans : List ℕ) →
    paired (cs ++ (c ∷ [])) ans ≡ paired cs ans ++ (record { call = c; reply = reply_to c (after cs ans) } ∷ [])
unfolding paired
paired-more cs c ans = paired-append cs (c ∷ []) ans

-- what a call does to a line that was offered the answers
pub record Took (ans : List ℕ) (c : Call) (t : Talk) (r : Got Reply) : Type 0 where
  pub fed : Fed ans r.talk
  -- the line goes on: the call was made, and is answered by what the act gives
  pub more : r.talk.stop ≡ Going → paired r.talk.calls ans ≡ paired t.calls ans ++ (record { call = c; reply = r.value } ∷ [])
  -- it has stopped: no call was made
  pub none : (r.talk.stop ≡ Going → ⊥) → r.talk.calls ≡ t.calls

module _ (ans : List ℕ) (c : Call) (t : Talk) (f : Fed ans t) where
  fit : t.stop ≡ Going → (b : Bool) → Took ans c t (ask_fit b c (answer_of t.left c.kind) t)
  fit q true = record { fed = f; more = λ e. absurd (declined_on e); none = λ _. refl }
  fit q false =
      record {
        fed = ap (behind c) f ∙ sym (after_more t.calls c ans);
        more = λ e. rw f (paired-more t.calls c ans);
        none = λ n. absurd (n q);
      }

  left : t.stop ≡ Going → (b : Bool) → Took ans c t (ask_left b c t)
  left q true = record { fed = f; more = λ e. absurd (waits_on e); none = λ _. refl }
  left q false = fit q (is_unfit (answer_of t.left c.kind))

  room : t.stop ≡ Going → (b : Bool) → Took ans c t (ask_room b c t)
  room q true = record { fed = f; more = λ e. absurd (overrun_on e); none = λ _. refl }
  room q false = left q (eqb (length t.left) 0)

  at_stop : (s : Stop) → t.stop ≡ s → Took ans c t (ask_at s c t)
  at_stop Going q = room q (leb 337 (length t.calls))
  at_stop (Waits d) q = record { fed = f; more = λ e. absurd (waits_on (sym q ∙ e)); none = λ _. refl }
  at_stop Declined q = record { fed = f; more = λ e. absurd (declined_on (sym q ∙ e)); none = λ _. refl }
  at_stop Overrun q = record { fed = f; more = λ e. absurd (overrun_on (sym q ∙ e)); none = λ _. refl }

pub ask-took : (ans : List ℕ) (c : Call) (t : Talk) → Fed ans t → Took ans c t (ask c t)
unfolding ask
ask-took ans c t f = at_stop ans c t f t.stop refl

-- an event starts so, and what is no call takes no answer
pub start_fed : (ans : List ℕ) (opened : List Bool) → Fed ans (start ans opened)
unfolding after
start_fed ans opened = refl

pub opening_fed : (ans : List ℕ) (driver : ℕ) (t : Talk) → Fed ans t → Fed ans (opening driver t)
unfolding opening
opening_fed ans driver t f = f

pub send_fed : (ans : List ℕ) (o : Out) (t : Talk) → Fed ans t → Fed ans (send o t)
unfolding send
send_fed ans o t f = at t.stop
  where
    in_room : (b : Bool) → Fed ans (send_room b (bytes_of o) t)
    in_room true = f
    in_room false = f

    at : (s : Stop) → Fed ans (send_at s (bytes_of o) t)
    at Going = in_room (leb 102 (length t.messages))
    at (Waits d) = f
    at Declined = f
    at Overrun = f
