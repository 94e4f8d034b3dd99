-- Of every list of exchanges with a bridge that does what it promises, from a well-shaped session over an accepted profile: the session at the end is what the
-- definition keeps, and what the host sees of them is what the definition runs. Assumes nothing.
use Rattle.std.proofs.Common.{None, Option, Some}
use Prim.Native.Nat.{ℕ}
use mathlib.Core.Path.{◌≡◌, refl, sym, ap, subst, ◌∙◌}
use mathlib.Core.Bool.{Bool, true, false, ◌||◌}
use mathlib.Core.List.{List, [], ◌∷◌, map}
use lib.Dec.{ltb}
use lib.ListN.{length, drop}
use borrow.Author.Tests.{eq-eqb}
use Rattle.base.specs.Choice.{pick}
use Rattle.base.specs.Tail.{at_front}
use Rattle.profile.specs.Profile.{verdict}
use Rattle.lookup.specs.View.{view_of}
use Rattle.drivers.specs.Bytes.{encode}
use Rattle.drivers.specs.Paired.{paired}
use Rattle.drivers.specs.declared.Call.{Call}
use Rattle.session.specs.declared.Session.{Session}
use Rattle.event.specs.Event.{read_of}
use Rattle.event.specs.declared.Input.{Input}
use Rattle.event.specs.declared.Timed.{Timed}
use Rattle.definition.specs.Shape.{well_shaped}
use Rattle.definition.specs.Step.{Kept, Site, Ended, done, refused, waiting, Stepped, stepped, seen, step}
use Rattle.definition.specs.Whole.{whole, offered}
use Rattle.bounds.proofs.ReadBack.{calls_back}
use Rattle.account.specs.Account.{Past, step_of, past_at, past_of, pasts, final}
use Rattle.delivery.specs.Delivery.{is_done, outcome_of, calls_after, Refused}
use Rattle.bridge.specs.Bridge.{Leaves}
use Rattle.demands.specs.Running.{offer_with}
use Rattle.demands.specs.Shown.{Exchange, offer_in, shown_at, shown_of, shown}

-- ── a bridge that does what it promises ──

abbrev pub defined : List ℕ → Session → Exchange → Stepped
defined p s x = whole p s x.event x.answers (length x.messages) (length x.calls)

abbrev pub Gives : List ℕ → Session → Exchange → Type 0
Gives p s x =
    (x.outcome ≡ outcome_of (defined p s x).ended)
    × Leaves (defined p s x) p s x.messages x.calls x.session x.messages_after x.calls_after

unfoldable pub GivesAll : List ℕ → Session → List Exchange → Session → Type 0
GivesAll p s [] z = s ≡ z
GivesAll p s (x ∷ xs) z = Gives p s x × GivesAll p x.session xs z

-- ── what it leaves ──

-- a done event's session is well shaped by the promise, any other's since it is the same
still_shaped : (d : Stepped) (p : List ℕ) (s : Session) (ms cs : List ℕ) (s₁ : Session) (ms₁ cs₁ : List ℕ) →
    Leaves d p s ms cs s₁ ms₁ cs₁ → well_shaped p s ≡ true → well_shaped p s₁ ≡ true
still_shaped d p s ms cs s₁ ms₁ cs₁ x shaped = at (is_done d.ended) refl
  where
    at : (b : Bool) → is_done d.ended ≡ b → well_shaped p s₁ ≡ true
    at true q = x.shaped q
    at false q = subst (λ (z : Session). well_shaped p z ≡ true) (sym (x.still q)) shaped

-- the event's past, by its outcome and by the call buffer after it
at_end : (e : Ended) (x : Input) (w z : Site) (answers old : List ℕ) → shown_at (outcome_of e) x w z answers (calls_after e old) ≡ past_at e x w z answers
unfolding at_front
at_end (done ms cs used saved) x w z answers old =
    ap (λ (l : List Call). Some (record { what = x; before = w; after = z; answers = answers; asked = paired l answers }))
    (calls_back cs (drop (length (encode cs)) old))
at_end (refused n) x w z answers old = refl
at_end (waiting c) x w z answers old = refl

-- ── one exchange ──

module _ (p : List ℕ) (ok : verdict p ≡ 0) (s : Session) (shaped : well_shaped p s ≡ true) where
  -- the bridge keeps what the account's step keeps
  keeps_so : (event answers : List ℕ) (m c : ℕ) →
      (whole p s event answers m c).kept ≡ (step_of step (view_of p) (seen p s) (offer_with event answers m c).event answers).kept
  unfolding whole
  keeps_so event answers m c = rw (eq-eqb (verdict p) 0 ok, shaped) (room_at_lem (ltb m 306 || ltb c 5392))
    where
      read_at : (r : Option Timed) → (offered r p (seen p s) answers).kept ≡ (step_of step (view_of p) (seen p s) r answers).kept
      read_at (Some e) = refl
      read_at None = refl

      room_at_lem : (b : Bool) →
          (pick b (stepped (refused 9) (seen p s)) (offered (read_of event) p (seen p s) answers)).kept
          ≡ (step_of step (view_of p) (seen p s) (pick b None (read_of event)) answers).kept
      room_at_lem true = refl
      room_at_lem false = read_at (read_of event)

  -- and is seen to do what that step does
  whole_shown : (event answers : List ℕ) (m c : ℕ) (old : List ℕ) (w z : Site) →
      shown_of (read_of event) (outcome_of (whole p s event answers m c).ended) w z answers (calls_after (whole p s event answers m c).ended old)
      ≡ past_of (offer_with event answers m c).event w z answers (step_of step (view_of p) (seen p s) (offer_with event answers m c).event answers).ended
  unfolding whole
  whole_shown event answers m c old w z = rw (eq-eqb (verdict p) 0 ok, shaped) (room_at_lem (ltb m 306 || ltb c 5392))
    where
      read_at : (r : Option Timed) →
          shown_of r (outcome_of (offered r p (seen p s) answers).ended) w z answers (calls_after (offered r p (seen p s) answers).ended old)
          ≡ past_of r w z answers (step_of step (view_of p) (seen p s) r answers).ended
      read_at (Some e) = at_end (step (view_of p) (seen p s) e answers).ended e.what w z answers old
      read_at None = refl

      none_at : (r : Option Timed) → shown_of r (Refused 9) w z answers old ≡ None
      none_at (Some e) = refl
      none_at None = refl

      room_at_lem : (b : Bool) →
          shown_of (read_of event) (outcome_of (pick b (stepped (refused 9) (seen p s)) (offered (read_of event) p (seen p s) answers)).ended) w z answers
          (calls_after (pick b (stepped (refused 9) (seen p s)) (offered (read_of event) p (seen p s) answers)).ended old)
          ≡ past_of (pick b None (read_of event)) w z answers (step_of step (view_of p) (seen p s) (pick b None (read_of event)) answers).ended
      room_at_lem true = none_at (read_of event)
      room_at_lem false = read_at (read_of event)

  module _ (x : Exchange) (g : Gives p s x) where
    pub next_seen : seen p x.session ≡ (step_of step (view_of p) (seen p s) (offer_in x).event x.answers).kept
    next_seen = g.1.session ∙ keeps_so x.event x.answers (length x.messages) (length x.calls)

    pub next_shaped : well_shaped p x.session ≡ true
    next_shaped = still_shaped _ _ _ _ _ _ _ _ g.1 shaped

    pub one_shown : (w z : Site) →
        shown_of (read_of x.event) x.outcome w z x.answers x.calls_after
        ≡ past_of (offer_in x).event w z x.answers (step_of step (view_of p) (seen p s) (offer_in x).event x.answers).ended
    one_shown w z = rw (g.0, g.1.calls) (whole_shown x.event x.answers (length x.messages) (length x.calls) x.calls w z)

-- ── all of them ──

pub ends_so : (p : List ℕ) → verdict p ≡ 0 → (s : Session) → well_shaped p s ≡ true → (xs : List Exchange) (z : Session) → GivesAll p s xs z →
    final step (view_of p) (seen p s) (map offer_in xs) ≡ seen p z
unfolding GivesAll final
ends_so p ok s shaped [] z q = ap (seen p) q
ends_so p ok s shaped (x ∷ xs) z (d, q) =
    ap (λ (k : Kept). final step (view_of p) k (map offer_in xs)) (sym (next_seen p ok s shaped x d))
    ∙ ends_so p ok x.session (next_shaped p ok s shaped x d) xs z q

pub all_shown : (p : List ℕ) → verdict p ≡ 0 → (s : Session) → well_shaped p s ≡ true → (xs : List Exchange) (z : Session) → GivesAll p s xs z →
    shown p (seen p s) xs ≡ pasts step (view_of p) (seen p s) (seen p s) (map offer_in xs)
unfolding GivesAll shown pasts
all_shown p ok s shaped [] z q = refl
all_shown p ok s shaped (x ∷ xs) z (d, q) =
    let k : Kept = (step_of step (view_of p) (seen p s) (offer_in x).event x.answers).kept in
    let rest : shown p k xs ≡ pasts step (view_of p) k k (map offer_in xs) =
    subst (λ (k : Kept). shown p k xs ≡ pasts step (view_of p) k k (map offer_in xs)) (next_seen p ok s shaped x d)
    (all_shown p ok x.session (next_shaped p ok s shaped x d) xs z q) in
    ap (λ (y : Option Past). y ∷ shown p k xs) (one_shown p ok s shaped x d (seen p s).site k.site)
    ∙ ap
    (λ (l : List (Option Past)). past_of (offer_in x).event (seen p s).site k.site x.answers (step_of step (view_of p) (seen p s) (offer_in x).event x.answers).ended ∷ l)
    rest
