-- If the line goes on at the end, it went on at the start, and the calls have grown by what is claimed. One record, two rules.
use Prim.Native.Nat.{ℕ}
use mathlib.Core.Path.{◌≡◌, refl, sym, ◌∙◌}
use mathlib.Core.Bool.{Bool, true, false, false≢true, true≢false}
use mathlib.Core.List.{List, [], ◌∷◌, ◌++◌, append-nil, append_assoc}
use lib.Dec.{eqb, leb, ltb}
use lib.ListN.{length, get_or}
use Rattle.base.specs.Choice.{pick}
use Rattle.protocol.specs.Protocol.{bytes_of}
use Rattle.protocol.specs.declared.Out.{Out}
use Rattle.drivers.specs.Answers.{answer_of, to_other, item_count, items_of, is_unfit, is_done}
use Rattle.drivers.specs.Talk.{Talk, Got, next, Reply, no_reply, ask, ask_at, ask_room, ask_left, ask_fit, is_open, opening, plain_call, open_for, open_if, opened_by, ask_if, use_call, send, send_at, send_room}
use Rattle.drivers.specs.declared.line.Stop.{Stop}
use Rattle.drivers.specs.declared.line.Stop.TheVariants.{Going, Waits, Declined, Overrun}
use Rattle.drivers.specs.Paired.{Asked, reply_to, behind, after, paired}
use Rattle.drivers.proofs.PairedLaws.{after-append, paired-append, waits_on, declined_on, overrun_on}
use Rattle.drivers.specs.declared.Call.{Call}
use Rattle.drivers.specs.declared.Answer.{Answer}
use Rattle.drivers.specs.declared.Answer.TheVariants as answer
use Rattle.account.specs.Account.{saying, opened, opens, done_reply, Uses, used, opened-used, not-used}

abbrev pub Goes : Talk → Type 0
Goes t = t.stop ≡ Going

pub record Grown (P : List Asked → Type 0) (t u : Talk) : Type 0 where
  pub was : Goes t
  pub more : List Call
  pub calls : u.calls ≡ t.calls ++ more
  pub left : u.left ≡ after more t.left
  pub opened : u.opened ≡ opens (paired more t.left) t.opened
  pub fact : P (paired more t.left)

pub opens-append : (l m : List Asked) (o : List Bool) → opens (l ++ m) o ≡ opens m (opens l o)
unfolding opens
opens-append [] m o = refl
opens-append (x ∷ l) m o = opens-append l m (opened x o)

-- nothing asked
pub same : (P : List Asked → Type 0) (t : Talk) → Goes t → P [] → Grown P t t
unfolding opens paired after
same P t g h = record { was = g; more = []; calls = sym (append-nil t.calls); left = refl; opened = refl; fact = h }

pub weaken : {P Q : List Asked → Type 0} {t u : Talk} → ((l : List Asked) → P l → Q l) → Grown P t u → Grown Q t u
weaken k g =
    record { was = g.was; more = g.more; calls = g.calls; left = g.left; opened = g.opened; fact = k _ g.fact }

-- one after the other
pub join : {P R Q : List Asked → Type 0} {t u w : Talk} (g : Grown P t u) → Grown R u w →
    ((m : List Asked) → R m → Q (paired g.more t.left ++ m)) → Grown Q t w
join {t = t} g h k =
    record {
      was = g.was;
      more = g.more ++ h.more;
      calls = h.calls ∙ rw (g.calls, append_assoc);
      left = h.left ∙ rw (g.left, after-append);
      opened = h.opened ∙ rw (g.opened, paired-append, opens-append, g.left);
      fact = rw (paired-append, ← g.left) (k _ h.fact);
    }

-- ── one call ──

-- the line after a call that went through, and its answer
record Took (c : Call) (r : Got Reply) (t : Talk) : Type 0 where
  was : Goes t
  calls : r.talk.calls ≡ t.calls ++ (c ∷ [])
  left : r.talk.left ≡ behind c t.left
  opened : r.talk.opened ≡ t.opened
  reply : r.value ≡ reply_to c t.left
  fit : is_unfit (answer_of t.left c.kind) ≡ false

ask_ok : (c : Call) (t : Talk) → Goes (ask c t).talk → Took c (ask c t) t
unfolding ask
ask_ok c t g = at t.stop refl g
  where
    fit_at : (b : Bool) → is_unfit (answer_of t.left c.kind) ≡ b → Goes t →
        Goes (ask_fit b c (answer_of t.left c.kind) t).talk → Took c (ask_fit b c (answer_of t.left c.kind) t) t
    fit_at true f s e = absurd (declined_on e)
    fit_at false f s e = record { was = s; calls = refl; left = refl; opened = refl; reply = refl; fit = f }

    left_at : (b : Bool) → Goes t → Goes (ask_left b c t).talk → Took c (ask_left b c t) t
    left_at true s e = absurd (waits_on e)
    left_at false s e = fit_at (is_unfit (answer_of t.left c.kind)) refl s e

    room_at_lem : (b : Bool) → Goes t → Goes (ask_room b c t).talk → Took c (ask_room b c t) t
    room_at_lem true s e = absurd (overrun_on e)
    room_at_lem false s e = left_at (eqb (length t.left) 0) s e

    at : (s : Stop) → t.stop ≡ s → Goes (ask_at s c t).talk → Took c (ask_at s c t) t
    at Going s e = room_at_lem (leb 337 (length t.calls)) s e
    at (Waits d) s e = absurd (waits_on (sym s ∙ e))
    at Declined s e = absurd (declined_on (sym s ∙ e))
    at Overrun s e = absurd (overrun_on (sym s ∙ e))

-- a message asks nothing
pub send_ok : (P : List Asked → Type 0) (out : Out) (t : Talk) → P [] → Goes (send out t) → Grown P t (send out t)
unfolding send opens paired after
send_ok P out t h g = at t.stop refl g
  where
    room_at_lem : (b : Bool) → Goes t → Goes (send_room b (bytes_of out) t) → Grown P t (send_room b (bytes_of out) t)
    room_at_lem true s e = absurd (overrun_on e)
    room_at_lem false s e =
        record { was = s; more = []; calls = sym (append-nil t.calls); left = refl; opened = refl; fact = h }

    at : (s : Stop) → t.stop ≡ s → Goes (send_at s (bytes_of out) t) → Grown P t (send_at s (bytes_of out) t)
    at Going s e = room_at_lem (leb 102 (length t.messages)) s e
    at (Waits d) s e = absurd (waits_on (sym s ∙ e))
    at Declined s e = absurd (declined_on (sym s ∙ e))
    at Overrun s e = absurd (overrun_on (sym s ∙ e))

-- a call that opens nothing
ask_grown : (c : Call) → eqb c.kind 0 ≡ false → (t : Talk) → Goes (ask c t).talk →
    Grown (λ l. l ≡ saying c (ask c t).value ∷ []) t (ask c t).talk
unfolding opens paired after
ask_grown c k t g =
    let a = ask_ok c t g in
    record {
      was = a.was;
      more = c ∷ [];
      calls = a.calls;
      left = a.left;
      opened = a.opened ∙ rw k;
      fact = rw a.reply;
    }

-- ── an open ──

done-is : (a : Answer) → is_done a ≡ true → a ≡ answer.Done
done-is answer.Refused e = absurd (false≢true e)
done-is answer.Done e = refl
done-is (answer.Level x) e = absurd (false≢true e)
done-is answer.Nothing e = absurd (false≢true e)
done-is (answer.YesNo b) e = absurd (false≢true e)
done-is (answer.Index i) e = absurd (false≢true e)
done-is answer.List e = absurd (false≢true e)
done-is answer.Unfit e = absurd (false≢true e)

-- what fits an open and is not done is a refusal
refused-is : (part : List ℕ) → is_unfit (answer_of part 0) ≡ false → is_done (answer_of part 0) ≡ false → answer_of part 0 ≡ answer.Refused
unfolding answer_of to_other
refused-is part f d = go (ltb (length part) 16) (eqb (get_or part 0 0) 0) (eqb (get_or part 0 0) 1) f d
  where
    go : (a b c : Bool) → is_unfit (pick a answer.Unfit (pick b answer.Refused (pick c answer.Done answer.Unfit))) ≡ false →
        is_done (pick a answer.Unfit (pick b answer.Refused (pick c answer.Done answer.Unfit))) ≡ false →
        pick a answer.Unfit (pick b answer.Refused (pick c answer.Done answer.Unfit)) ≡ answer.Refused
    go true b c f d = absurd (true≢false f)
    go false true c f d = refl
    go false false true f d = absurd (true≢false d)
    go false false false f d = absurd (true≢false f)

-- how a driver was opened for a use of the name
pub data Opening (o : List Bool) (driver name : ℕ) : Bool → List Asked → Type 0 where
  was-open : get_or o driver false ≡ true → Opening o driver name true []
  opens_now_lem : get_or o driver false ≡ false → Opening o driver name true (saying (plain_call 0 driver name 0) done_reply ∷ [])
  stays-shut : get_or o driver false ≡ false → Opening o driver name false (saying (plain_call 0 driver name 0) no_reply ∷ [])

pub open_ok : (driver name : ℕ) (t : Talk) → Goes (open_for driver name t).talk →
    Grown (Opening t.opened driver name (open_for driver name t).value) t (open_for driver name t).talk
unfolding open_for is_open next opening opens paired after plain_call item_count items_of
open_ok driver name t g = at (get_or t.opened driver false) refl g
  where
    c : Call
    c = plain_call 0 driver name 0

    opened_by_lem : (b : Bool) → is_done (ask c t).value.answer ≡ b → get_or t.opened driver false ≡ false →
        Goes (opened_by b driver (ask c t).talk).talk →
        Grown (Opening t.opened driver name (opened_by b driver (ask c t).talk).value) t (opened_by b driver (ask c t).talk).talk
    opened_by_lem true d n e =
        let a = ask_ok c t e in
        let q : answer_of t.left 0 ≡ answer.Done = done-is (answer_of t.left 0) (rw a.reply at d) in
        record {
          was = a.was;
          more = c ∷ [];
          calls = a.calls;
          left = a.left;
          opened = rw (a.opened, q);
          fact = rw q (opens_now_lem n);
        }
    opened_by_lem false d n e =
        let a = ask_ok c t e in
        let q : answer_of t.left 0 ≡ answer.Refused = refused-is t.left a.fit (rw a.reply at d) in
        record {
          was = a.was;
          more = c ∷ [];
          calls = a.calls;
          left = a.left;
          opened = rw (a.opened, q);
          fact = rw q (stays-shut n);
        }

    at : (b : Bool) → get_or t.opened driver false ≡ b → Goes (open_if b driver name t).talk →
        Grown (Opening t.opened driver name (open_if b driver name t).value) t (open_if b driver name t).talk
    at true n e = same _ t e (was-open n)
    at false n e = opened_by_lem (is_done (ask c t).value.answer) refl n e

-- ── a use: the one rule that the handlers' proofs need ──

module _ {o : List Bool} {c : Call} where
  used_so : {b : Bool} {l : List Asked} (r : Reply) → Opening o c.driver c.name b l → b ≡ true → Uses o c r (l ++ (saying c r ∷ []))
  used_so r (was-open n) e = used n
  used_so r (opens_now_lem n) e = opened-used n
  used_so r (stays-shut n) e = absurd (false≢true e)

  refused_so : {b : Bool} {l : List Asked} → Opening o c.driver c.name b l → b ≡ false → Uses o c no_reply l
  refused_so (was-open n) e = absurd (true≢false e)
  refused_so (opens_now_lem n) e = absurd (true≢false e)
  refused_so (stays-shut n) e = not-used n

pub use_ok : (c : Call) → eqb c.kind 0 ≡ false → (t : Talk) → Goes (use_call c t).talk →
    Grown (Uses t.opened c (use_call c t).value) t (use_call c t).talk
unfolding use_call next
use_ok c k t g = go (open_for c.driver c.name t).value refl g
  where
    u : Talk
    u = (open_for c.driver c.name t).talk

    go : (b : Bool) → (open_for c.driver c.name t).value ≡ b → Goes (ask_if b c u).talk →
        Grown (Uses t.opened c (ask_if b c u).value) t (ask_if b c u).talk
    go true q e =
        let h = ask_grown c k u e in
        let p = open_ok c.driver c.name t h.was in
        join p h (λ m i. rw i (used_so {o = t.opened} {c = c} (ask c u).value p.fact q))
    go false q e = weaken (λ l i. refused_so {o = t.opened} {c = c} i q) (open_ok c.driver c.name t e)
