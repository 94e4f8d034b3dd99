-- What a host reads from the lent buffers behind a done event, as many records as the outcome counts, are the event's messages and calls. Assumes nothing.
use Rattle.std.specs.Prelude.{ℕ, ◌≡◌, List, length, drop}
use Rattle.std.proofs.Common.{sym, subst}
use Rattle.base.specs.Tail.{at_front}
use Rattle.lookup.specs.View.{view_of}
use Rattle.drivers.specs.Shown.{calls_in, messages_in}
use Rattle.drivers.specs.Bytes.{joined, encode}
use Rattle.session.specs.declared.Session.{Session}
use Rattle.definition.specs.Step.{Ended, done, refused, waiting, seen}
use Rattle.definition.specs.Whole.{whole}
use Rattle.bounds.proofs.Offered.{whole_so}
use Rattle.bounds.proofs.ReadBack.{ThreeOf, step_three, messages_back, calls_back}
use Rattle.delivery.specs.Delivery.{messages_after, calls_after}
use Rattle.bridge.specs.Bridge.{Delivers, Leaves}
use Rattle.bridge.specs.declared.Stepped as declared

-- the messages and calls of an event that ended so are read from the buffers ms and cs
abbrev pub BackOf : Ended → List ℕ → List ℕ → Type 0
BackOf (done m c used saved) ms cs = (messages_in (length m) ms ≡ m) × (calls_in (length c) cs ≡ c)
BackOf (refused why) ms cs = Unit {0}
BackOf (waiting c) ms cs = Unit {0}

back_of : (e : Ended) (ms cs : List ℕ) → ThreeOf e → BackOf e (messages_after e ms) (calls_after e cs)
unfolding at_front
back_of (done m c used saved) ms cs h = (messages_back m (drop (length (joined m)) ms) h, calls_back c (drop (length (encode c)) cs))
back_of (refused why) ms cs h = tt
back_of (waiting c) ms cs h = tt

module _ (p : List ℕ) (s : Session) (answers : List ℕ) where
  whole_three : (event : List ℕ) (messages calls : ℕ) → ThreeOf (whole p s event answers messages calls).ended
  whole_three event messages calls = whole_so p s event answers messages calls ThreeOf (λ why. tt) (λ e. step_three (view_of p) (seen p s) e answers)

  pub leaves_back : (event : List ℕ) (messages calls : ℕ) (ms cs : List ℕ) (s₁ : Session) (ms₁ cs₁ : List ℕ) →
      Leaves (whole p s event answers messages calls) p s ms cs s₁ ms₁ cs₁ → BackOf (whole p s event answers messages calls).ended ms₁ cs₁
  leaves_back event messages calls ms cs s₁ ms₁ cs₁ h =
      let e : Ended = (whole p s event answers messages calls).ended in
      subst (λ (l : List ℕ). BackOf e l cs₁) (sym h.messages)
      (subst (λ (l : List ℕ). BackOf e (messages_after e ms) l) (sym h.calls) (back_of e ms cs (whole_three event messages calls)))

  pub delivers_back : (event : List ℕ) (messages calls : ℕ) (ms cs : List ℕ) (r : declared.Stepped) (ms₁ cs₁ : List ℕ) →
      Delivers (whole p s event answers messages calls) p s ms cs r ms₁ cs₁ → BackOf (whole p s event answers messages calls).ended ms₁ cs₁
  delivers_back event messages calls ms cs r ms₁ cs₁ h = leaves_back event messages calls ms cs r.session ms₁ cs₁ h.leaves
