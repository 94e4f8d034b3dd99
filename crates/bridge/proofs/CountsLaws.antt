-- What the promise of an event says of its outcome's counts: they fit the lent buffers, and the answers used are among those offered. Assumes nothing.
use Rattle.std.specs.Prelude.{ℕ, ◌*◌, ◌≤◌, List, length}
use Rattle.std.proofs.Common.{sym, subst, arith}
use Rattle.lookup.specs.View.{view_of}
use Rattle.session.specs.declared.Session.{Session}
use Rattle.definition.specs.Step.{Ended, done, refused, waiting, Stepped, seen}
use Rattle.definition.specs.Whole.{whole}
use Rattle.bounds.proofs.Offered.{whole_so}
use Rattle.bounds.specs.Bounds.{UsedOf}
use Rattle.bounds.specs.Room.{FewOf}
use Rattle.bounds.proofs.Used.{step-used}
use Rattle.delivery.specs.Delivery.{Told, told, outcome_of}
use Rattle.bridge.specs.Bridge.{Few, used_in, Delivers}
use Rattle.bridge.specs.declared.Stepped as declared

-- ── at most 102 messages and 337 calls ──

few_of : (x : Ended) → FewOf x → Few (outcome_of x)
few_of (done ms cs used saved) h = h
few_of (refused why) h = tt
few_of (waiting c) h = tt

pub delivers_few : (d : Stepped) (p : List ℕ) (s : Session) (ms cs : List ℕ) (r : declared.Stepped) (ms₁ cs₁ : List ℕ) →
    Delivers d p s ms cs r ms₁ cs₁ → Few (told r.outcome)
delivers_few d p s ms cs r ms₁ cs₁ h = subst (λ (o : Told). Few o) (sym h.outcome) (few_of d.ended h.leaves.few)

-- ── no more answers than were offered ──

used_of : (all : ℕ) (x : Ended) → UsedOf all x → 16 * used_in (outcome_of x) ≤ all
used_of all (done ms cs used saved) h = h
used_of all (refused why) h = omega arith
used_of all (waiting c) h = omega arith

module _ (p : List ℕ) (s : Session) (answers : List ℕ) where
  whole-used : (event : List ℕ) (messages calls : ℕ) → UsedOf (length answers) (whole p s event answers messages calls).ended
  whole-used event messages calls =
      whole_so p s event answers messages calls (UsedOf (length answers)) (λ why. tt) (λ e. step-used (view_of p) (seen p s) e answers)

  pub delivers_used : (event : List ℕ) (messages calls : ℕ) (ms cs : List ℕ) (r : declared.Stepped) (ms₁ cs₁ : List ℕ) →
      Delivers (whole p s event answers messages calls) p s ms cs r ms₁ cs₁ → 16 * used_in (told r.outcome) ≤ length answers
  delivers_used event messages calls ms cs r ms₁ cs₁ h =
      subst (λ (o : Told). 16 * used_in o ≤ length answers) (sym h.outcome) (used_of (length answers) (whole p s event answers messages calls).ended (whole-used event messages calls))
