-- The three demands, of `bridge::step` and of the exported entry `zelwydro_on_event`. `Does` and `Reports` are what these two promise, of every profile, session,
-- event, list of answers and pair of buffers; nothing else is assumed.
use Rattle.std.specs.Prelude.{ℕ, ◌≡◌, List, false, length, map}
use Rattle.std.proofs.Math.Path.{refl}
use Rattle.base.specs.Tail.{at_front}
use Rattle.profile.specs.Profile.{verdict}
use Rattle.session.specs.Session.{fresh_session}
use Rattle.session.specs.declared.Session.{Session}
use Rattle.definition.specs.Step.{Ended, done, refused, waiting}
use Rattle.definition.specs.Whole.{whole}
use Rattle.bounds.specs.Room.{FewOf}
use Rattle.delivery.specs.Delivery.{is_done, messages_after, calls_after}
use Rattle.bridge.proofs.BackLaws.{BackOf, leaves_back}
use Rattle.host.specs.Report.{Reports}
use Rattle.demands.specs.Running.{Step, Does, Runs}
use Rattle.demands.specs.Shown.{Exchange, exchange_of, HoldsOf}
use Rattle.demands.specs.Hosted.{Entry, Hosts, exchange_by}
use Rattle.demands.specs.Demands.{Demand1, Demand2, Read}
use Rattle.demands.proofs.Exchanges.{Gives, defined}
use Rattle.demands.proofs.Seen.{demand_3_seen}
use Rattle.demands.proofs.Hosted.{demand_3_hosted, report_gives}

-- ── one exchange that went as promised ──

at_end : (e : Ended) (s : Session) (x : Exchange) → FewOf e → x.messages_after ≡ messages_after e x.messages → x.calls_after ≡ calls_after e x.calls →
    (is_done e ≡ false → x.session ≡ s) → Demand1 e s x
unfolding at_front
at_end (done ms cs used saved) s x few m c same = (few.0, few.1, record { messages = m; calls = c })
at_end (refused why) s x few m c same = record { session = same refl; messages = m; calls = c }
at_end (waiting k) s x few m c same = record { session = same refl; messages = m; calls = c }

read_back : (e : Ended) (x : Exchange) → BackOf e x.messages_after x.calls_after → Read e x
read_back (done ms cs used saved) x h = h
read_back (refused why) x h = tt
read_back (waiting k) x h = tt

module _ (p : List ℕ) (s : Session) (x : Exchange) (g : Gives p s x) where
  buffers : Demand1 (defined p s x).ended s x
  buffers = at_end (defined p s x).ended s x g.1.few g.1.messages g.1.calls g.1.still

  as_defined : Demand2 (defined p s x) p x
  as_defined =
      record {
        outcome = g.0;
        read = read_back (defined p s x).ended x (leaves_back p s x.answers x.event (length x.messages) (length x.calls) x.messages x.calls x.session x.messages_after x.calls_after g.1);
        state = g.1.session;
      }

-- ── of `bridge::step` ──

module _ (p : List ℕ) (s : Session) (x : Step) (d : Does p s x) where
  pub demand_1 : Demand1 (whole p s x.event x.answers (length x.messages) (length x.calls)).ended s (exchange_of x)
  demand_1 = buffers p s (exchange_of x) (d.outcome, d.leaves)

  pub demand_2 : Demand2 (whole p s x.event x.answers (length x.messages) (length x.calls)) p (exchange_of x)
  demand_2 = as_defined p s (exchange_of x) (d.outcome, d.leaves)

pub demand_3 : (p : List ℕ) → verdict p ≡ 0 → (xs : List Step) (z : Session) → Runs p fresh_session xs z → HoldsOf p (map exchange_of xs) z
demand_3 = demand_3_seen

-- ── of the exported entry ──

module _ (p : List ℕ) (s : Session) (x : Entry)
    (d : Reports (whole p s x.event x.answers (length x.messages) (length x.calls)) p s x.messages x.calls x.report x.session x.messages_after x.calls_after) where
  pub entry_1 : Demand1 (whole p s x.event x.answers (length x.messages) (length x.calls)).ended s (exchange_by x)
  entry_1 = buffers p s (exchange_by x) (report_gives p s x d)

  pub entry_2 : Demand2 (whole p s x.event x.answers (length x.messages) (length x.calls)) p (exchange_by x)
  entry_2 = as_defined p s (exchange_by x) (report_gives p s x d)

pub entry_3 : (p : List ℕ) → verdict p ≡ 0 → (xs : List Entry) (z : Session) → Hosts p fresh_session xs z → HoldsOf p (map exchange_by xs) z
entry_3 = demand_3_hosted
