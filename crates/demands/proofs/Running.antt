-- Demand 3 of the running bridge: of every list of events offered to `bridge::step` from a fresh session over an accepted profile, refused, unknown and
-- waiting ones included, the account holds, and what waits in the session is the account's. Assumes nothing.
use Prim.Native.Nat.{ℕ}
use mathlib.Core.Path.{◌≡◌, refl, sym, ap, subst, ◌∙◌}
use mathlib.Core.List.{List, [], ◌∷◌, map}
use Rattle.profile.specs.Profile.{verdict}
use Rattle.lookup.specs.View.{view_of}
use Rattle.session.specs.Session.{fresh_session}
use Rattle.session.specs.declared.Session.{Session}
use Rattle.definition.specs.Step.{Kept, fresh_kept, seen, step}
use Rattle.account.specs.Account.{Offer, Holds, pasts, final, account, blank}
use Rattle.account.proofs.Theorem.{demand_3_of}
use Rattle.bridge.proofs.ShapedLaws.{fresh-seen, fresh-shaped}
use Rattle.demands.specs.Running.{Step, Runs, offer_of}
use Rattle.demands.specs.Shown.{exchange_of, offer_in}
use Rattle.demands.proofs.Exchanges.{GivesAll, ends_so}

pub run_gives : (p : List ℕ) (s : Session) (xs : List Step) (z : Session) → Runs p s xs z → GivesAll p s (map exchange_of xs) z
unfolding Runs GivesAll
run_gives p s [] z q = q
run_gives p s (x ∷ xs) z (d, q) = ((d.outcome, d.leaves), run_gives p x.result.session xs z q)

same_offers : (xs : List Step) → map offer_in (map exchange_of xs) ≡ map offer_of xs
same_offers [] = refl
same_offers (x ∷ xs) = ap (λ (l : List Offer). offer_of x ∷ l) (same_offers xs)

pub demand_3_running : (p : List ℕ) → verdict p ≡ 0 → (xs : List Step) (z : Session) → Runs p fresh_session xs z →
    Holds (view_of p) (pasts step (view_of p) fresh_kept fresh_kept (map offer_of xs)) (seen p z) (account (view_of p) 0 (pasts step (view_of p) fresh_kept fresh_kept (map offer_of xs)) blank)
demand_3_running p ok xs z q =
    let end : final step (view_of p) fresh_kept (map offer_of xs) ≡ seen p z =
    ap (λ (k : Kept). final step (view_of p) k (map offer_of xs)) (sym (fresh-seen p))
    ∙ ap (final step (view_of p) (seen p fresh_session)) (sym (same_offers xs))
    ∙ ends_so p ok fresh_session (fresh-shaped p ok) (map exchange_of xs) z (run_gives p fresh_session xs z q) in
    subst
    (λ (k : Kept). Holds (view_of p) (pasts step (view_of p) fresh_kept fresh_kept (map offer_of xs)) k (account (view_of p) 0 (pasts step (view_of p) fresh_kept fresh_kept (map offer_of xs)) blank))
    end (demand_3_of p ok (map offer_of xs))
