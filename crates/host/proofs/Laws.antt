-- A law of the promise: what `bridge::step` promises, told in numbers, of the session that stands in place after it. Assumes nothing.
use Prim.Native.Nat.{ℕ}
use mathlib.Core.Path.{◌≡◌, ap, subst, ◌∙◌}
use mathlib.Core.List.{List}
use Rattle.session.specs.declared.Session.{Session}
use Rattle.definition.specs.Step as definition
use Rattle.delivery.specs.Delivery.{told}
use Rattle.bridge.specs.declared.Stepped.{Stepped}
use Rattle.delivery.specs.Delivery.{told}
use Rattle.bridge.specs.Bridge.{Delivers}
use Rattle.host.specs.declared.Report.{Report}
use Rattle.host.specs.Report.{report_of, Reports}

pub reports : (d : definition.Stepped) (p : List ℕ) (s : Session) (ms cs : List ℕ) (r : Stepped) (ms₁ cs₁ : List ℕ) (n : Report) (s₁ : Session) →
    Delivers d p s ms cs r ms₁ cs₁ → n ≡ report_of (told r.outcome) → r.session ≡ s₁ → Reports d p s ms cs n s₁ ms₁ cs₁
reports d p s ms cs r ms₁ cs₁ n s₁ k q at = subst (λ (x : Session). Reports d p s ms cs n x ms₁ cs₁) at (q ∙ ap report_of k.outcome, k.leaves)
