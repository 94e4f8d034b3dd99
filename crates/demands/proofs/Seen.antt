-- Demand 3 of what a host sees of `bridge::step`: judged are the outcomes that were returned and the bytes in the call buffers; the account is fed by the
-- definition. Assumes nothing.
use Prim.Native.Nat.{ℕ}
use mathlib.Core.Path.{◌≡◌, sym, ap, subst, ◌∙◌}
use mathlib.Core.List.{List, map}
use Rattle.std.proofs.Common.{Option}
use Rattle.profile.specs.Profile.{verdict}
use Rattle.lookup.specs.View.{view_of}
use Rattle.session.specs.Session.{fresh_session}
use Rattle.session.specs.declared.Session.{Session}
use Rattle.definition.specs.Step.{Kept, fresh_kept, seen, step}
use Rattle.account.specs.Account.{Past, Holds, pasts, final, account, blank}
use Rattle.account.proofs.Theorem.{demand_3_of}
use Rattle.bridge.proofs.ShapedLaws.{fresh-seen, fresh-shaped}
use Rattle.demands.specs.Running.{Step, Runs}
use Rattle.demands.specs.Shown.{Exchange, exchange_of, offer_in, shown, HoldsOf}
use Rattle.demands.proofs.Exchanges.{GivesAll, ends_so, all_shown}
use Rattle.demands.proofs.Running.{run_gives}

-- of every list of exchanges that went as promised
pub account_holds : (p : List ℕ) → verdict p ≡ 0 → (xs : List Exchange) (z : Session) → GivesAll p fresh_session xs z → HoldsOf p xs z
account_holds p ok xs z q =
    let ps = pasts step (view_of p) fresh_kept fresh_kept (map offer_in xs) in
    let e : shown p fresh_kept xs ≡ ps =
    subst (λ (k : Kept). shown p k xs ≡ pasts step (view_of p) k k (map offer_in xs)) (fresh-seen p)
    (all_shown p ok fresh_session (fresh-shaped p ok) xs z q) in
    let end : final step (view_of p) fresh_kept (map offer_in xs) ≡ seen p z =
    ap (λ (k : Kept). final step (view_of p) k (map offer_in xs)) (sym (fresh-seen p)) ∙ ends_so p ok fresh_session (fresh-shaped p ok) xs z q in
    subst (λ (l : List (Option Past)). Holds (view_of p) l (seen p z) (account (view_of p) 0 l blank)) (sym e)
    (subst (λ (k : Kept). Holds (view_of p) ps k (account (view_of p) 0 ps blank)) end (demand_3_of p ok (map offer_in xs)))

pub demand_3_seen : (p : List ℕ) → verdict p ≡ 0 → (xs : List Step) (z : Session) → Runs p fresh_session xs z → HoldsOf p (map exchange_of xs) z
demand_3_seen p ok xs z q = account_holds p ok (map exchange_of xs) z (run_gives p fresh_session xs z q)
