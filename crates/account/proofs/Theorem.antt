-- Demand 3, by induction on the list of offers.
use Rattle.std.proofs.Common.{None, Option, Some}
use Prim.Native.Nat.{ℕ, suc, ◌+◌, ◌*◌, ◌≤◌}
use mathlib.Core.Path.{◌≡◌, refl, sym, ap, subst, ◌∙◌}
use mathlib.Core.Bool.{Bool, true, false}
use mathlib.Core.List.{List, [], ◌∷◌, ◌++◌, append-nil, append_assoc}
use native.Mathlib.Omega.{arith}
use lib.Dec.{eqb}
use lib.IntN.{ℤ, ◌+ℤ◌}
use Rattle.protocol.specs.declared.Event.TheVariants as event
use Rattle.profile.specs.Profile.{verdict}
use Rattle.profile.proofs.Accepted.{few_banks}
use Rattle.lookup.specs.View.{View, view_of}
use Rattle.lookup.specs.declared.Destination.{Destination}
use Rattle.drivers.specs.Talk.{start, Got}
use Rattle.drivers.specs.declared.line.Stop.{Stop}
use Rattle.drivers.specs.declared.line.Stop.TheVariants as stop
use Rattle.drivers.specs.Paired.{Asked, paired}
use Rattle.base.specs.Keyed.{beside}
use Rattle.session.specs.Session.{Turn, fresh_session}
use Rattle.event.specs.declared.Input.{Input}
use Rattle.event.specs.declared.Input.TheVariants as input
use Rattle.event.specs.declared.Timed.{Timed}
use Rattle.definition.specs.Rig.{destination, encoder_dest}
use Rattle.definition.specs.Step.{Site, Kept, kept, seen, Left, act, refusal, Stepped, finish, step_if, step}
use Rattle.account.specs.Account.{past_of, Offer, step_of, pasts, final, Account, blank, Waits, Drained, Each, no_more, one_more, rig_in, book_if, holds, book_move, book_turn, book_press, press_moves, book_live, book_drain, book_event, book, account, same_live, live_at, count, move_at, moves, turn_at, turns, tick_at, ticks, tick_in, other_at, others, Only, no_call, not_write, sum_for, handed, tried, Holds, ClaimFrom, Begins, Demand3, fresh}
use Rattle.account.proofs.Frame.{only_append}
use Rattle.account.proofs.Bridge.{desk_of, Booked, Books, Placed, act_ok, drain_in}
use Rattle.account.proofs.Counts.{fates, fates_event, total, total_event, count-append, moves_once, sum_append}

module _ {A B : Type 0} {R : A → B → Type 0} where
  each_append : {xs xs' : List A} {ys ys' : List B} → Each R xs ys → Each R xs' ys' → Each R (xs ++ xs') (ys ++ ys')
  each_append no_more f = f
  each_append (one_more r e) f = one_more r (each_append e f)

-- ── after some events ──

-- ms, ts and ks are the moves, turns and ticks so far, qs what the other events asked that are to write nothing
record Inv (ms : List ℕ) (ts : List Turn) (ks : List (List Asked)) (qs : List Asked) (k : Kept) (a : Account) : Type 0 where
  desk : k.desk ≡ desk_of a
  opened : k.opened ≡ a.opened
  placed : Placed k.site
  fate : (i : ℕ) → fates a i ≡ count i ms
  drains : Each Drained ks a.drains
  quiet : Only not_write qs
  turned : (d : Destination) → sum_for d ts ≡ total a d

-- which drains an event adds
module _ (v : View) (i : ℕ) (w z : Site) (answers : List ℕ) (asked : List Asked) (a : Account) where
  drains_event : (e : Input) → (book_event v i e w z answers asked a).drains ≡ a.drains ++ drain_in e (rig_in v w) a
  drains_event (input.Midi (event.Fader ch x)) = go (destination (rig_in v w) (ch + 1)) ∙ sym (append-nil a.drains)
    where
      m : Waits
      m = record { id = i; channel = ch; level = x }

      at : (b : Bool) → (book_if b (w.bank * 16 + ch) m a).drains ≡ a.drains
      at true = refl
      at false = refl

      go : (f : Option Destination) → (book_move f (w.bank * 16 + ch) m answers a).drains ≡ a.drains
      go None = refl
      go (Some d) =
          at (holds d (w.bank * 16 + ch) m answers a)
  drains_event (input.Midi (event.Encoder ch n)) = go (encoder_dest (rig_in v w) (ch + 1)) ∙ sym (append-nil a.drains)
    where
      go : (f : Option Destination) → (book_turn f n a).drains ≡ a.drains
      go None = refl
      go (Some d) = refl
  drains_event (input.Midi (event.Button b)) = go (press_moves v w b.pressed b.note asked) ∙ sym (append-nil a.drains)
    where
      go : (c : Bool) → (book_press c a).drains ≡ a.drains
      go true = refl
      go false = refl
  drains_event (input.Midi event.Other) = sym (append-nil a.drains)
  drains_event input.Tick = go (same_live (live_at w.bank w) (live_at w.bank z))
    where
      go : (c : Bool) → (book_live c w.bank (book_drain (rig_in v w) a)).drains ≡ a.drains ++ drain_in input.Tick (rig_in v w) a
      go true = refl
      go false = refl
  drains_event input.PushState = sym (append-nil a.drains)
  drains_event input.PushTransport = sym (append-nil a.drains)
  drains_event input.FlashBank = sym (append-nil a.drains)

-- ── one event ──

-- what a step makes of the invariant
abbrev After : View → ℕ → Option Timed → List ℕ → Kept → Account → List ℕ → List Turn → List (List Asked) → List Asked → Stepped → Type 0
After v i e answers k a ms ts ks qs r =
    Inv (ms ++ move_at v i (past_of e k.site r.kept.site answers r.ended)) (ts ++ turn_at v (past_of e k.site r.kept.site answers r.ended))
    (ks ++ tick_at (past_of e k.site r.kept.site answers r.ended)) (qs ++ other_at (past_of e k.site r.kept.site answers r.ended)) r.kept
    (book v i (past_of e k.site r.kept.site answers r.ended) a)

module _ (v : View) (i : ℕ) (e : Timed) (answers : List ℕ) (k : Kept) (a : Account) (ms : List ℕ) (ts : List Turn) (ks : List (List Asked)) (qs : List Asked) (h : Inv ms ts ks qs k a) where
  -- an event that is not finished is no step
  none_so : Inv (ms ++ []) (ts ++ []) (ks ++ []) (qs ++ []) k a
  none_so = rw (append-nil, append-nil, append-nil, append-nil) h

  one : (r : Got Left) (s : Stop) → (s ≡ stop.Going → Booked v i k.site a e.what answers r.value r.talk.calls r.talk.opened) →
      After v i (Some e) answers k a ms ts ks qs (finish s v k r)
  one r stop.Going f =
      let b = f refl in
      let x = r.value in
      let l = paired r.talk.calls answers in
      record {
        desk = b.desk;
        opened = b.opened;
        placed = b.placed;
        fate = λ n. omega (arith, h.fate n, count-append n ms (move_at v i (past_of (Some e) k.site (finish stop.Going v k r).kept.site answers (finish stop.Going v k r).ended)), fates_event v i k.site x.site answers l a n e.what);
        drains = subst (Each Drained (ks ++ tick_in e.what l)) (sym (drains_event v i k.site x.site answers l a e.what)) (each_append h.drains b.drains);
        quiet = only_append h.quiet b.quiet;
        turned = λ d.
            sum_append d ts _ ∙ ap (λ (z : ℤ). z +ℤ sum_for d (turn_at v (past_of (Some e) k.site (finish stop.Going v k r).kept.site answers (finish stop.Going v k r).ended))) (h.turned d)
            ∙ sym (total_event v i k.site x.site answers l a d e.what);
      }
  one r (stop.Waits c) f = none_so
  one r stop.Declined f = none_so
  one r stop.Overrun f = none_so

  step_if_lem : (b : Bool) (why : ℕ) → v.banks ≤ 16 → After v i (Some e) answers k a ms ts ks qs (step_if b why e v k answers)
  step_if_lem true why few = one (act e.what v k e.time (start answers k.opened)) _ (acted few)
    where
      acted : v.banks ≤ 16 → Books v i k.site a e.what answers (act e.what v k e.time (start answers k.opened))
      acted few =
          subst (λ (o : List Bool). Books v i k.site a e.what answers (act e.what v (kept k.site k.desk k.lamps k.silenced o) e.time (start answers o))) (sym h.opened)
          (subst (λ d. Books v i k.site a e.what answers (act e.what v (kept k.site d k.lamps k.silenced a.opened) e.time (start answers a.opened))) (sym h.desk)
          (act_ok v i k.site k.lamps k.silenced a answers e.time few h.placed e.what))
  step_if_lem false why few = none_so

offered_so : (v : View) → v.banks ≤ 16 → (i : ℕ) (e : Option Timed) (answers : List ℕ) (k : Kept) (a : Account) (ms : List ℕ) (ts : List Turn) (ks : List (List Asked)) (qs : List Asked) →
    Inv ms ts ks qs k a → After v i e answers k a ms ts ks qs (step_of step v k e answers)
unfolding step
offered_so v few i (Some e) answers k a ms ts ks qs h =
    step_if_lem v i e answers k a ms ts ks qs h (eqb (refusal e.what v k e.time) 0) (refusal e.what v k e.time) few
offered_so v few i None answers k a ms ts ks qs h = rw (append-nil, append-nil, append-nil, append-nil) h

-- ── the whole list ──

all : (v : View) → v.banks ≤ 16 → (os : List Offer) (i : ℕ) (k : Kept) (a : Account) (ms : List ℕ) (ts : List Turn) (ks : List (List Asked)) (qs : List Asked) →
    Inv ms ts ks qs k a →
    Inv (ms ++ moves v i (pasts step v k k os)) (ts ++ turns v (pasts step v k k os)) (ks ++ ticks (pasts step v k k os)) (qs ++ others (pasts step v k k os))
    (final step v k os) (account v i (pasts step v k k os) a)
unfolding pasts final account moves turns ticks others
all v few [] i k a ms ts ks qs h = rw (append-nil, append-nil, append-nil, append-nil) h
all v few (o ∷ os) i k a ms ts ks qs h =
    let r = step_of step v k o.event o.answers in
    rw (← append_assoc, ← append_assoc, ← append_assoc, ← append_assoc)
    (all v few os (suc i) r.kept (book v i (past_of o.event k.site r.kept.site o.answers r.ended) a) _ _ _ _
    (offered_so v few i o.event o.answers k a ms ts ks qs h))

begins : (k : Kept) → Begins k → Inv [] [] [] [] k blank
unfolding seen fresh_session count sum_for handed tried beside
begins k b =
    record {
      desk = b.desk;
      opened = b.opened;
      placed = record { bank = b.bank; lives = b.lives };
      fate = λ i. refl;
      drains = no_more;
      quiet = no_call;
      turned = λ d. refl;
    }

-- from every session without marks, last moves, line, sums and open drivers
pub demand_3_from : (k : Kept) → Begins k → ClaimFrom k step
demand_3_from k b v few os =
    let ps = pasts step v k k os in
    let h : Inv (moves v 0 ps) (turns v ps) (ticks ps) (others ps) (final step v k os) (account v 0 ps blank) = all v few os 0 k blank [] [] [] [] (begins k b) in
    record {
      line = ap (λ d. d.line) h.desk;
      sums = λ d. ap (λ (x : _). sum_for d x.turns) h.desk;
      fate = h.fate;
      once = λ i. moves_once v 0 i ps;
      drains = h.drains;
      quiet = h.quiet;
      turned = h.turned;
    }

pub fresh_begins : Begins fresh
unfolding seen fresh_session beside
fresh_begins = record { desk = refl; opened = refl; bank = omega arith; lives = refl }

pub demand_3 : Demand3
demand_3 = demand_3_from fresh fresh_begins

-- of a profile that is accepted: it has at most 16 banks
pub demand_3_of : (s : List ℕ) → verdict s ≡ 0 → (os : List Offer) →
    Holds (view_of s) (pasts step (view_of s) fresh fresh os) (final step (view_of s) fresh os) (account (view_of s) 0 (pasts step (view_of s) fresh fresh os) blank)
demand_3_of s good os = demand_3 (view_of s) (few_banks s good) os
