use Prim.Native.Nat.{ℕ}
use mathlib.Core.Path.{◌≡◌, refl, sym, ap, ◌∙◌}
use mathlib.Core.List.{List}
use native.Mathlib.Omega.{arith}
use borrow.Author.Tests.{ne_eqb}
use lib.ListN.{length}
use Rattle.bounds.proofs.Channels.{read_low}
use Rattle.session.specs.declared.Session.{Session}
use Rattle.definition.specs.Whole.{whole}
use Rattle.delivery.specs.Delivery.{Refused, told}
use Rattle.delivery.specs.declared.Outcome.{Outcome}
use Rattle.profile.specs.Profile.{verdict}
use Rattle.profile.specs.Refusal.{number_of, verdict_of}
use Rattle.profile.specs.declared.Refusal.{Refusal}
use Rattle.profile.specs.declared.Refusal.TheVariants.{Size, Fields, Order, Banks, Limits, Ends}
use Rattle.bridge.specs.Bridge.{Delivers, declined_of}
use Rattle.bridge.proofs.StepLaws.{stays, declines, whole_declines, passes, passes_on, unread}
use Rattle.bridge.proofs.run.Goals as goal

-- each cause to decline a profile has a number
numbered : (r : Refusal) → number_of r ≡ 0 → ⊥
numbered Size e = omega arith
numbered Fields e = omega arith
numbered Order e = omega arith
numbered Banks e = omega arith
numbered Limits e = omega arith
numbered Ends e = omega arith

-- an event that one of the numbers 1 to 9 declines
declined_by_lem : (profile : List ℕ) (session : Session) (event answers messages calls : List ℕ) (why : ℕ) (o : Outcome) → told o ≡ Refused why →
    declined_of profile session (length messages) (length calls) ≡ why → (why ≡ 0 → ⊥) →
    Delivers (whole profile session event answers (length messages) (length calls)) profile session messages calls (stays o session) messages calls
declined_by_lem profile session event answers messages calls why o r q n =
    declines _ why _ _ _ _ o r (whole_declines profile session event answers _ _ why q n)

pub returns-in-Err : goal.returns-in-Err
returns-in-Err c =
    let v : number_of c.in-Err.why ≡ verdict c.args.profile.now = ap verdict_of (sym c.in-Err.is) ∙ c.examine.ensures in
    rw c.refused.ensures
    (declined_by_lem c.args.profile.now c.args.session.now c.args.event.now c.args.answers.now _ _ (number_of c.in-Err.why) _ refl
    (rw (← v, ne_eqb _ 0 (numbered c.in-Err.why))) (numbered c.in-Err.why))

pub returns-then-not-shaped : goal.returns-then-not-shaped
returns-then-not-shaped c =
    let v : 0 ≡ verdict c.args.profile.now = ap verdict_of (sym c.in_default.is) ∙ c.examine.ensures in
    rw c.refused-then-not-shaped.ensures
    (declined_by_lem c.args.profile.now c.args.session.now c.args.event.now c.args.answers.now _ _ 8 _ refl
    (rw (← v, ← c.shaped.ensures, c.if-not-shaped.true)) (λ q. omega arith))

pub returns-then-messages-calls : goal.returns-then-messages-calls
returns-then-messages-calls c =
    let v : 0 ≡ verdict c.args.profile.now = ap verdict_of (sym c.in_default.is) ∙ c.examine.ensures in
    rw c.refused-then-messages-calls.ensures
    (declined_by_lem c.args.profile.now c.args.session.now c.args.event.now c.args.answers.now _ _ 9 _ refl
    (rw (← v, ← c.shaped.ensures, c.if-not-shaped.false, c.if-messages-calls.true)) (λ q. omega arith))

pub on_event-requires : goal.on_event-requires
on_event-requires c =
    let v : 0 ≡ verdict c.args.profile.now = ap verdict_of (sym c.in_default.is) ∙ c.examine.ensures in
    let passed : declined_of c.args.profile.now c.args.session.now (length c.args.messages.now) (length c.args.calls.now) ≡ 0 =
    rw (← v, ← c.shaped.ensures, c.if-not-shaped.false, c.if-messages-calls.false) in
    let w = passes c.args.profile.now c.args.session.now c.args.event.now c.args.answers.now _ _ passed in
    record { profile_value = w.accepted; session_value = w.shaped; in_bounds = w.messages; in_bounds_2 = w.calls; low_input = read_low c.args.event.now (λ j. omega (arith, c.type_inv.event j)) _ (sym c.read_event.ensures.value ∙ c.in-Some.is) }

pub returns-in-Some : goal.returns-in-Some
returns-in-Some c =
    let v : 0 ≡ verdict c.args.profile.now = ap verdict_of (sym c.in_default.is) ∙ c.examine.ensures in
    let passed : declined_of c.args.profile.now c.args.session.now (length c.args.messages.now) (length c.args.calls.now) ≡ 0 =
    rw (← v, ← c.shaped.ensures, c.if-not-shaped.false, c.if-messages-calls.false) in
    passes_on c.args.profile.now c.args.session.now c.args.event.now c.args.answers.now _ _ passed c.read_event.result _ c.read_event.ensures.value
    c.in-Some.is _ _ _ _ _ c.on_event.ensures

pub returns-in-None : goal.returns-in-None
returns-in-None c =
    let v : 0 ≡ verdict c.args.profile.now = ap verdict_of (sym c.in_default.is) ∙ c.examine.ensures in
    let passed : declined_of c.args.profile.now c.args.session.now (length c.args.messages.now) (length c.args.calls.now) ≡ 0 =
    rw (← v, ← c.shaped.ensures, c.if-not-shaped.false, c.if-messages-calls.false) in
    rw c.refused-in-None.ensures
    (declines _ 10 _ _ _ _ _ refl
    (unread c.args.profile.now c.args.session.now c.args.event.now c.args.answers.now _ _ passed c.read_event.result c.read_event.ensures.value c.in-None.is))
