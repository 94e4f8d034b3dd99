-- A longer list of answers does not change an event that is done, and one that waited makes the same calls first.
use Prim.Native.Nat.{ℕ, ◌≤◌}
use Rattle.std.specs.Prelude.{◌≡◌, Bool, true, false, eqb, length}
use Rattle.std.proofs.Math.Path.{refl, ap}
use Rattle.std.proofs.Common.{subst, ◌∙◌, inl, inr, arith}
use mathlib.Core.List.{List, [], ◌∷◌, ◌++◌, append-nil}
use Rattle.lookup.specs.View.{View}
use Rattle.drivers.specs.Talk.{Got, start}
use Rattle.drivers.specs.declared.line.Stop.{Stop}
use Rattle.drivers.specs.declared.line.Stop.TheVariants.{Going, Waits, Declined, Overrun}
use Rattle.drivers.specs.declared.Call.{Call}
use Rattle.event.specs.declared.Timed.{Timed}
use Rattle.definition.specs.Step.{Kept, Left, done, waiting, finish, finished, step_if, refusal, step}
use Rattle.bounds.specs.Longer.{Again, run, asked, GoesOn}
use Rattle.bounds.proofs.Events.{act_takes}
use Rattle.bounds.proofs.Keeping.{any_view, any-kept}
use Rattle.bounds.proofs.Steady.{got_more, Longer, steady_rules, steady_by}

module _ (v : View) (k : Kept) (e : Timed) (answers : List ℕ) where
  -- any event, with one answer more or several
  run_longer : (x : ℕ) (l : List ℕ) → Longer (x ∷ l) (run v k e answers).talk.stop (run v k e answers) (run v k e (answers ++ (x ∷ l)))
  run_longer x l =
      (steady_by x l (act_takes (steady_rules x l) v k (any_view v) (any-kept k) e.what e.time)).longer (start answers k.opened) refl

  -- ── an event that is done ──
  going_so : (s : Stop) (r : Got Left) (ms : List (List ℕ)) (cs : List Call) (used : ℕ) (saved : Bool) →
      (finish s v k r).ended ≡ done ms cs used saved → s ≡ Going
  going_so Going r ms cs used saved q = refl
  going_so (Waits c) r ms cs used saved q = cc
  going_so Declined r ms cs used saved q = cc
  going_so Overrun r ms cs used saved q = cc

  -- the answers left are all that differs
  finished-same : (x : ℕ) (l : List ℕ) → (run v k e answers).talk.stop ≡ Going →
      finished v k (run v k e (answers ++ (x ∷ l))) ≡ finished v k (run v k e answers)
  finished-same x l q =
      let r = run v k e answers in
      let h : run v k e (answers ++ (x ∷ l)) ≡ got_more (x ∷ l) r = subst (λ (s : Stop). Longer (x ∷ l) s r (run v k e (answers ++ (x ∷ l)))) q (run_longer x l) in
      ap (λ (s : Got Left). finished v k s) h ∙ at r.talk.stop
    where
      at : (s : Stop) → finish s v k (got_more (x ∷ l) (run v k e answers)) ≡ finish s v k (run v k e answers)
      at Going = refl
      at (Waits c) = refl
      at Declined = refl
      at Overrun = refl

  -- extra answers change nothing
  pub done-same : (ms : List (List ℕ)) (cs : List Call) (used : ℕ) (saved : Bool) → (step v k e answers).ended ≡ done ms cs used saved →
      (more : List ℕ) → step v k e (answers ++ more) ≡ step v k e answers
  unfolding step
  done-same ms cs used saved q [] = ap (λ (l : List ℕ). step v k e l) (append-nil answers)
  done-same ms cs used saved q (x ∷ l) = at (eqb (refusal e.what v k e.time) 0) q
    where
      why : ℕ
      why = refusal e.what v k e.time

      at : (b : Bool) → (step_if b why e v k answers).ended ≡ done ms cs used saved →
          step_if b why e v k (answers ++ (x ∷ l)) ≡ step_if b why e v k answers
      at true h = finished-same x l (going_so (run v k e answers).talk.stop (run v k e answers) ms cs used saved h)
      at false h = refl

  -- ── an event that waits ──
  waits_so : (s : Stop) (r : Got Left) (c : Call) → (finish s v k r).ended ≡ waiting c → s ≡ Waits c
  waits_so Going r c q = cc
  waits_so (Waits d) r c q = cc
  waits_so Declined r c q = cc
  waits_so Overrun r c q = cc

  -- it waits on its line, and was not refused before
  stops_so : (c : Call) → (step v k e answers).ended ≡ waiting c →
      (eqb (refusal e.what v k e.time) 0 ≡ true) × ((run v k e answers).talk.stop ≡ Waits c)
  unfolding step
  stops_so c q = at (eqb (refusal e.what v k e.time) 0) q
    where
      why : ℕ
      why = refusal e.what v k e.time

      at : (b : Bool) → (step_if b why e v k answers).ended ≡ waiting c → (b ≡ true) × ((run v k e answers).talk.stop ≡ Waits c)
      at true h = (refl, waits_so (run v k e answers).talk.stop (run v k e answers) c h)
      at false h = (cc, cc)

  -- offered again with more answers, it makes the same calls, and then the one for which it waited
  pub asks_again : (c : Call) → (step v k e answers).ended ≡ waiting c → (more : List ℕ) → 1 ≤ length more →
      Again c (asked v k e answers) (run v k e (answers ++ more)).talk
  asks_again c q [] h = absurd (omega arith)
  asks_again c q (x ∷ l) h =
      subst (λ (s : Stop). Longer (x ∷ l) s (run v k e answers) (run v k e (answers ++ (x ∷ l)))) (stops_so c q).1 (run_longer x l)

  goes_so : (c : Call) (before : List Call) (s : Stop) (r : Got Left) → r.talk.stop ≡ s → Again c before r.talk →
      GoesOn before c r.talk.calls (finish s v k r).ended
  goes_so c before Going r q (inl (d, b)) = let z : ◌≡◌ {A = ℕ} 0 1 = cc in absurd (omega arith)
  goes_so c before Going r q (inr s) = s
  goes_so c before (Waits d) r q (inl (z, b)) = let y : ◌≡◌ {A = ℕ} 0 1 = cc in absurd (omega arith)
  goes_so c before (Waits d) r q (inr s) = s
  goes_so c before Declined r q h = refl
  goes_so c before Overrun r q h = refl

  -- the same of how it ends
  pub goes_on_lem : (c : Call) → (step v k e answers).ended ≡ waiting c → (more : List ℕ) → 1 ≤ length more →
      GoesOn (asked v k e answers) c (asked v k e (answers ++ more)) (step v k e (answers ++ more)).ended
  unfolding step
  goes_on_lem c q more h =
      let r = run v k e (answers ++ more) in
      rw (stops_so c q).0 (goes_so c (asked v k e answers) r.talk.stop r refl (asks_again c q more h))
