-- What `Tries` says, in other words: leave out the opens that were answered done, and what is left of the calls stands for the tried moves, one for one and
-- in order: a write with the move's driver, target and level, or a refused open with its driver and target.
use mathlib.Core.Path.{◌≡◌, refl, ap}
use mathlib.Core.Bool.{Bool, true, false, ◌&&◌}
use mathlib.Core.List.{List, [], ◌∷◌, ◌++◌}
use lib.Dec.{eqb}
use Rattle.base.specs.Choice.{pick}
use Rattle.drivers.specs.Answers.{is_done}
use Rattle.drivers.specs.Talk.{Reply, no_reply, plain_call, write_call}
use Rattle.drivers.specs.Paired.{Asked}
use Rattle.account.specs.Account.{saying, answer_in, open_of, writing, Tried, Uses, used, opened-used, not-used, Tries, tried-all, tried-one, Each, no_more, one_more}

abbrev opens_now : Asked → Bool
opens_now x = eqb x.call.kind 0 && is_done (answer_in x)

-- the calls but for the opens that were answered done
unfoldable pub standing : List Asked → List Asked
standing [] = []
standing (x ∷ l) = pick (opens_now x) (standing l) (x ∷ standing l)

pub data Stands : Asked → Tried → Type 0 where
  a_write : {t : Tried} {r : Reply} → Stands (saying (writing t.dest t.level) r) t
  a_refused_open : {t : Tried} → Stands (saying (open_of (writing t.dest t.level)) no_reply) t

standing-append : (l m : List Asked) → standing (l ++ m) ≡ standing l ++ standing m
unfolding standing
standing-append [] m = refl
standing-append (x ∷ l) m = go (opens_now x) (standing-append l m)
  where
    go : (b : Bool) → standing (l ++ m) ≡ standing l ++ standing m →
        pick b (standing (l ++ m)) (x ∷ standing (l ++ m)) ≡ pick b (standing l) (x ∷ standing l) ++ standing m
    go true e = e
    go false e = ap (λ (r : List Asked). x ∷ r) e

record Stood (t : Tried) (l : List Asked) : Type 0 where
  one : Asked
  is : standing l ≡ one ∷ []
  for : Stands one t

stood : (t : Tried) {o : List Bool} {r : Reply} {l : List Asked} → Uses o (writing t.dest t.level) r l → Stood t l
unfolding standing plain_call write_call
stood t (used e) = record { one = _; is = refl; for = a_write }
stood t (opened-used e) = record { one = _; is = refl; for = a_write }
stood t (not-used e) = record { one = _; is = refl; for = a_refused_open }

pub one_for_one : {o : List Bool} {ts : List Tried} {l : List Asked} → Tries o ts l → Each Stands (standing l) ts
unfolding standing
one_for_one tried-all = no_more
one_for_one (tried-one {t = t} {m = m} {l = l} u r) =
    let s = stood t u in
    rw (standing-append m l, s.is) (one_more s.for (one_for_one r))
