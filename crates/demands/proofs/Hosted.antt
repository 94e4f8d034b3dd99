-- Demand 3 of the exported entry: of every list of calls of `zelwydro_on_event`, told by the fields of its reports. Assumes nothing.
use Prim.Native.Nat.{ℕ}
use lib.ListN.{length}
use mathlib.Core.Path.{◌≡◌, refl, ap, ◌∙◌}
use mathlib.Core.List.{List, [], ◌∷◌, map}
use Rattle.profile.specs.Profile.{verdict}
use Rattle.session.specs.Session.{fresh_session}
use Rattle.session.specs.declared.Session.{Session}
use Rattle.definition.specs.Whole.{whole}
use Rattle.delivery.specs.Delivery.{Told, Done, Refused, Waiting}
use Rattle.host.specs.Report.{report_of, Reports}
use Rattle.demands.specs.Shown.{HoldsOf}
use Rattle.demands.specs.Hosted.{Entry, Hosts, told_by, exchange_by}
use Rattle.demands.proofs.Exchanges.{Gives, GivesAll}
use Rattle.demands.proofs.Seen.{account_holds}

-- the report's fields tell the outcome
told_back : (o : Told) → told_by (report_of o) ≡ o
told_back (Done messages calls used saved) = refl
told_back (Refused n) = refl
told_back (Waiting c) = refl

pub report_gives : (p : List ℕ) (s : Session) (x : Entry) →
    Reports (whole p s x.event x.answers (length x.messages) (length x.calls)) p s x.messages x.calls x.report x.session x.messages_after x.calls_after →
    Gives p s (exchange_by x)
report_gives p s x d = (ap told_by d.0 ∙ told_back _, d.1)

host_gives : (p : List ℕ) (s : Session) (xs : List Entry) (z : Session) → Hosts p s xs z → GivesAll p s (map exchange_by xs) z
unfolding Hosts GivesAll
host_gives p s [] z q = q
host_gives p s (x ∷ xs) z (d, q) = (report_gives p s x d, host_gives p x.session xs z q)

pub demand_3_hosted : (p : List ℕ) → verdict p ≡ 0 → (xs : List Entry) (z : Session) → Hosts p fresh_session xs z → HoldsOf p (map exchange_by xs) z
demand_3_hosted p ok xs z q = account_holds p ok (map exchange_by xs) z (host_gives p fresh_session xs z q)
