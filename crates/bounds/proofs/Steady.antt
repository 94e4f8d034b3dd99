-- An act on a line with more answers behind: it does the same as long as it has answers, and where it waited it goes on. Such is every act of an event.
use Rattle.std.specs.Prelude.{ℕ, ◌+◌, ◌*◌, ◌≤◌, ◌≡◌, Bool, eqb, leb, length, drop}
use Rattle.std.proofs.Math.Path.{refl, ap, subst}
use Rattle.std.proofs.Common.{sym, ◌∙◌, inl, inr, arith, length-append, ne_eqb}
use Rattle.std.proofs.Math.Bool.{true, false}
use mathlib.Core.List.{List, [], ◌∷◌, ◌++◌, append-nil, append_assoc}
use Rattle.std.proofs.lemmas.List.{drop-append-le}
use Rattle.protocol.specs.Protocol.{bytes_of}
use Rattle.protocol.specs.declared.Out.{Out}
use Rattle.drivers.specs.Answers.{answer_of, item_count, items_of, is_unfit, is_done}
use Rattle.drivers.proofs.AnswersLaws.{answer_there}
use Rattle.drivers.specs.Talk.{Talk, Got, Act, got, next, Reply, no_reply, ask, ask_at, ask_room, ask_left, ask_fit, plain_call, opening, is_open, open_for, open_if, opened_by, ask_if, use_call, send, send_at, send_room}
use Rattle.drivers.specs.declared.line.Stop.{Stop}
use Rattle.drivers.specs.declared.line.Stop.TheVariants.{Going, Waits, Declined, Overrun}
use Rattle.drivers.specs.declared.Call.{Call}
use Rattle.drivers.specs.declared.Answer.{Answer}
use Rattle.bounds.specs.Longer.{Starts, Again}
use Rattle.bounds.proofs.Spending.{Rules, Takes}
use Rattle.bounds.proofs.Keeping.{Any}
use Rattle.bounds.proofs.Reading.{answer_same, count_as, items-same}

-- the same line with more answers behind those that are left
abbrev pub with_more : List ℕ → Talk → Talk
with_more more t =
    record { left = t.left ++ more; used = t.used; opened = t.opened; calls = t.calls; messages = t.messages; stop = t.stop }

module _ {A : Type 0} where
  -- an act's value, and the line after it with more answers left
  abbrev pub got_more : List ℕ → Got A → Got A
  got_more more r = got r.value (with_more more r.talk)

-- a line that stopped
abbrev pub Stopped : Stop → Type 0
Stopped Going = ⊥
Stopped (Waits c) = Unit {0}
Stopped Declined = Unit {0}
Stopped Overrun = Unit {0}

-- calls, and those that were made before
pub record Grown (before calls : List Call) : Type 0 where
  pub rest : List Call
  pub whole : calls ≡ before ++ rest

grown_same : (l : List Call) → Grown l l
grown_same l = record { rest = []; whole = sym (append-nil l) }

grown_on : {a b c : List Call} → Grown a b → Grown b c → Grown a c
grown_on {a} h k = record { rest = h.rest ++ k.rest; whole = k.whole ∙ ap (λ (l : List Call). l ++ k.rest) h.whole ∙ append_assoc a h.rest k.rest }

starts_on : {a b l : List Call} {c : Call} → Starts a c b → Grown b l → Starts a c l
starts_on {a} {c = c} h k =
    record { rest = h.rest ++ k.rest; whole = k.whole ∙ ap (λ (l : List Call). l ++ k.rest) h.whole ∙ append_assoc a (c ∷ h.rest) k.rest }

module _ {A : Type 0} where
  -- what an act gave, by how its line stopped, and what the same act gives on the line with more answers: the same, or a line that goes on
  abbrev pub Longer : List ℕ → Stop → Got A → Got A → Type 0
  Longer more Going r s = s ≡ got_more more r
  Longer more (Waits c) r s = Again c r.talk.calls s.talk
  Longer more Declined r s = Unit {0}
  Longer more Overrun r s = Unit {0}

  -- a stopped line is left as it is, calls are only added, and more answers change nothing but what is left of them
  pub record Steady (more : List ℕ) (f : Act A) : Type 0 where
    pub sticky : (t : Talk) → Stopped t.stop → (f t).talk ≡ t
    pub grows : (t : Talk) → Grown t.calls (f t).talk.calls
    pub longer : (t : Talk) → t.stop ≡ Going → Longer more (f t).talk.stop (f t) (f (with_more more t))

-- ── one act and then another ──

module _ {A B : Type 0} (more : List ℕ) {f : Act A} {g : A → Act B} (P : A → Type 0) (F : Steady more f) (v : (t : Talk) → P (f t).value)
    (G : (a : A) → P a → Steady more (g a)) where
  second : (t : Talk) → Steady more (g (f t).value)
  second t = G (f t).value (v t)

  -- where the first stopped, the second does nothing
  halts : (t : Talk) → Stopped (f t).talk.stop → (g (f t).value (f t).talk).talk ≡ (f t).talk
  halts t s = (second t).sticky (f t).talk s

  halts_as : (t : Talk) (w : Stop) → Stopped w → (f t).talk.stop ≡ w → (g (f t).value (f t).talk).talk.stop ≡ w
  halts_as t w s e = ap (λ (u : Talk). u.stop) (halts t (subst (λ (x : Stop). Stopped x) (sym e) s)) ∙ e

  halts_calls : (t : Talk) (w : Stop) → Stopped w → (f t).talk.stop ≡ w → (g (f t).value (f t).talk).talk.calls ≡ (f t).talk.calls
  halts_calls t w s e = ap (λ (u : Talk). u.calls) (halts t (subst (λ (x : Stop). Stopped x) (sym e) s))

  again_on : (c : Call) (before : List Call) (t : Talk) → Again c before (f t).talk → Again c before (g (f t).value (f t).talk).talk
  again_on c before t (inl (d, b)) = inl (halts_as t Declined tt d, halts_calls t Declined tt d ∙ b)
  again_on c before t (inr s) = inr (starts_on s ((second t).grows (f t).talk))

  chain_longer : (t : Talk) (w : Stop) → (f t).talk.stop ≡ w → Longer more w (f t) (f (with_more more t)) →
      Longer more (g (f t).value (f t).talk).talk.stop (g (f t).value (f t).talk)
      (g (f (with_more more t)).value (f (with_more more t)).talk)
  chain_longer t w e h = go w e h
    where
      r : Got B
      r = g (f t).value (f t).talk

      s : Got B
      s = g (f (with_more more t)).value (f (with_more more t)).talk

      go : (w : Stop) → (f t).talk.stop ≡ w → Longer more w (f t) (f (with_more more t)) → Longer more r.talk.stop r s
      go Going q k = subst (λ (u : Got A). Longer more r.talk.stop r (g u.value u.talk)) (sym k) ((second t).longer (f t).talk q)
      go (Waits c) q k =
          subst (λ (x : Stop). Longer more x r s) (sym (halts_as t (Waits c) tt q))
          (subst (λ (l : List Call). Again c l s.talk) (sym (halts_calls t (Waits c) tt q)) (again_on c (f t).talk.calls (with_more more t) k))
      go Declined q k = subst (λ (x : Stop). Longer more x r s) (sym (halts_as t Declined tt q)) tt
      go Overrun q k = subst (λ (x : Stop). Longer more x r s) (sym (halts_as t Overrun tt q)) tt

  chain_steady : Steady more (λ t. g (f t).value (f t).talk)
  chain_steady =
      record {
        sticky = λ t s. let e = F.sticky t s in halts t (subst (λ (u : Talk). Stopped u.stop) (sym e) s) ∙ e;
        grows = λ t. grown_on (F.grows t) ((second t).grows (f t).talk);
        longer = λ t q. chain_longer t (f t).talk.stop refl (F.longer t q);
      }

module _ {A : Type 0} (more : List ℕ) where
  -- nothing is done
  idle_steady : (a : A) → Steady more (got a)
  idle_steady a =
      record {
        sticky = λ t s. refl;
        grows = λ t. grown_same t.calls;
        longer = λ t q. subst (λ (s : Stop). Longer more s (got a t) (got a (with_more more t))) (sym q) refl;
      }

-- ── a message ──

module _ (more : List ℕ) (out : Out) where
  abbrev m : List ℕ
  m = bytes_of out

  send_sticky : (s : Stop) (t : Talk) → Stopped s → send_at s m t ≡ t
  send_sticky Going t h = absurd h
  send_sticky (Waits c) t h = refl
  send_sticky Declined t h = refl
  send_sticky Overrun t h = refl

  send_calls : (s : Stop) (t : Talk) → (send_at s m t).calls ≡ t.calls
  send_calls Going t = at (leb 102 (length t.messages))
    where
      at : (b : Bool) → (send_room b m t).calls ≡ t.calls
      at true = refl
      at false = refl
  send_calls (Waits c) t = refl
  send_calls Declined t = refl
  send_calls Overrun t = refl

  send_longer : (t : Talk) → t.stop ≡ Going → (b : Bool) →
      Longer more (send_room b m t).stop (got (tt {0}) (send_room b m t)) (got tt (send_room b m (with_more more t)))
  send_longer t q true = tt
  send_longer t q false =
      subst (λ (s : Stop). Longer more s (got (tt {0}) (send_room false m t)) (got tt (send_room false m (with_more more t)))) (sym q) refl

  send_steady : Steady more (λ t. got (tt {0}) (send out t))
  unfolding send
  send_steady =
      record {
        sticky = λ t h. send_sticky t.stop t h;
        grows = λ t. subst (λ (l : List Call). Grown t.calls l) (sym (send_calls t.stop t)) (grown_same t.calls);
        longer = λ t q.
            subst (λ (s : Stop). Longer more (send_at s m t).stop (got (tt {0}) (send_at s m t)) (got tt (send_at s m (with_more more t)))) (sym q)
            (send_longer t q (leb 102 (length t.messages)));
      }

-- ── a call ──

module _ (x : ℕ) (l : List ℕ) (c : Call) where
  abbrev more : List ℕ
  more = x ∷ l

  ask_halts : (s : Stop) (t : Talk) → Stopped s → ask_at s c t ≡ got no_reply t
  ask_halts Going t h = absurd h
  ask_halts (Waits d) t h = refl
  ask_halts Declined t h = refl
  ask_halts Overrun t h = refl

  ask_grown : (t : Talk) → Grown t.calls (ask c t).talk.calls
  unfolding ask
  ask_grown t = at t.stop
    where
      fit_at : (b : Bool) → Grown t.calls (ask_fit b c (answer_of t.left c.kind) t).talk.calls
      fit_at true = grown_same t.calls
      fit_at false = record { rest = c ∷ []; whole = refl }

      left_at : (b : Bool) → Grown t.calls (ask_left b c t).talk.calls
      left_at true = grown_same t.calls
      left_at false = fit_at (is_unfit (answer_of t.left c.kind))

      room_at_lem : (b : Bool) → Grown t.calls (ask_room b c t).talk.calls
      room_at_lem true = grown_same t.calls
      room_at_lem false = left_at (eqb (length t.left) 0)

      at : (s : Stop) → Grown t.calls (ask_at s c t).talk.calls
      at Going = room_at_lem (leb 337 (length t.calls))
      at (Waits d) = grown_same t.calls
      at Declined = grown_same t.calls
      at Overrun = grown_same t.calls

  module _ (t : Talk) (q : t.stop ≡ Going) where
    -- an answer that fits is taken from either line
    taken : is_unfit (answer_of t.left c.kind) ≡ false →
        ask_fit false c (answer_of t.left c.kind) (with_more more t) ≡ got_more more (ask_fit false c (answer_of t.left c.kind) t)
    taken f =
        let a = answer_of t.left c.kind in
        let n = item_count a t.left in
        let fits : 16 + 16 * n ≤ length t.left = answer_there t.left c.kind _ _ refl f refl in
        let i : item_count a (t.left ++ more) ≡ n = count_as t.left more c.kind f in
        let j : items_of n (t.left ++ more) ≡ items_of n t.left = items-same t.left more n fits in
        let d : drop (16 + 16 * n) (t.left ++ more) ≡ drop (16 + 16 * n) t.left ++ more = drop-append-le (16 + 16 * n) t.left more fits in
        rw (i, j, d)

    fit_longer : (b : Bool) → is_unfit (answer_of t.left c.kind) ≡ b →
        Longer more (ask_fit b c (answer_of t.left c.kind) t).talk.stop (ask_fit b c (answer_of t.left c.kind) t)
        (ask_left false c (with_more more t))
    fit_longer true f = tt
    fit_longer false f =
        let a = answer_of t.left c.kind in
        let e : answer_of (t.left ++ more) c.kind ≡ a = answer_same t.left more c.kind f in
        let g : ask_left false c (with_more more t) ≡ ask_fit false c a (with_more more t) = rw (e, f) in
        subst (λ (s : Stop). Longer more s (ask_fit false c a t) (ask_left false c (with_more more t))) (sym q) (g ∙ taken f)

    -- the call that waited is made, or its answer does not fit
    waited : (b : Bool) (a : Answer) → Again c t.calls (ask_fit b c a (with_more more t)).talk
    waited true a = inl (refl, refl)
    waited false a = inr (record { rest = []; whole = refl })

    left_longer : (b : Bool) → Longer more (ask_left b c t).talk.stop (ask_left b c t) (ask_left false c (with_more more t))
    left_longer true = waited (is_unfit (answer_of (t.left ++ more) c.kind)) (answer_of (t.left ++ more) c.kind)
    left_longer false = fit_longer (is_unfit (answer_of t.left c.kind)) refl

    room_longer : (b : Bool) → Longer more (ask_room b c t).talk.stop (ask_room b c t) (ask_room b c (with_more more t))
    room_longer true = tt
    room_longer false =
        let k : eqb (length (t.left ++ more)) 0 ≡ false = ne_eqb (length (t.left ++ more)) 0 (λ e. omega (arith, length-append t.left more)) in
        rw k (left_longer (eqb (length t.left) 0))

    ask_longer : Longer more (ask c t).talk.stop (ask c t) (ask c (with_more more t))
    unfolding ask
    ask_longer =
        subst (λ (s : Stop). Longer more (ask_at s c t).talk.stop (ask_at s c t) (ask_at s c (with_more more t))) (sym q)
        (room_longer (leb 337 (length t.calls)))

  ask_steady : Steady more (ask c)
  unfolding ask
  ask_steady =
      record {
        sticky = λ t h. ap (λ (r : Got Reply). r.talk) (ask_halts t.stop t h);
        grows = ask_grown;
        longer = ask_longer;
      }

-- ── an open ──

module _ (x : ℕ) (l : List ℕ) (driver name : ℕ) where
  abbrev first : Call
  first = plain_call 0 driver name 0

  -- what is noted of an open once it is answered
  abbrev noted : Got Reply → Got Bool
  noted r = opened_by (is_done r.value.answer) driver r.talk

  noted_stop : (r : Got Reply) → (noted r).talk.stop ≡ r.talk.stop
  unfolding opening
  noted_stop r = at (is_done r.value.answer)
    where
      at : (b : Bool) → (opened_by b driver r.talk).talk.stop ≡ r.talk.stop
      at true = refl
      at false = refl

  noted_calls : (r : Got Reply) → (noted r).talk.calls ≡ r.talk.calls
  unfolding opening
  noted_calls r = at (is_done r.value.answer)
    where
      at : (b : Bool) → (opened_by b driver r.talk).talk.calls ≡ r.talk.calls
      at true = refl
      at false = refl

  noted_more : (r : Got Reply) → noted (got_more (x ∷ l) r) ≡ got_more (x ∷ l) (noted r)
  unfolding opening
  noted_more r = at (is_done r.value.answer)
    where
      at : (b : Bool) → opened_by b driver (with_more (x ∷ l) r.talk) ≡ got_more (x ∷ l) (opened_by b driver r.talk)
      at true = refl
      at false = refl

  noted-again : (c : Call) (before : List Call) (r : Got Reply) → Again c before r.talk → Again c before (noted r).talk
  noted-again c before r (inl (d, b)) = inl (noted_stop r ∙ d, noted_calls r ∙ b)
  noted-again c before r (inr s) = inr (record { rest = s.rest; whole = noted_calls r ∙ s.whole })

  noted_longer : (r s : Got Reply) (w : Stop) → r.talk.stop ≡ w → Longer (x ∷ l) w r s → Longer (x ∷ l) (noted r).talk.stop (noted r) (noted s)
  noted_longer r s w e h = subst (λ (z : Stop). Longer (x ∷ l) z (noted r) (noted s)) (sym (noted_stop r ∙ e)) (at w h)
    where
      at : (w : Stop) → Longer (x ∷ l) w r s → Longer (x ∷ l) w (noted r) (noted s)
      at Going k = ap (λ (z : Got Reply). noted z) k ∙ noted_more r
      at (Waits c) k = subst (λ (z : List Call). Again c z (noted s).talk) (sym (noted_calls r)) (noted-again c r.talk.calls s k)
      at Declined k = tt
      at Overrun k = tt

  open_if_steady : (b : Bool) → Steady (x ∷ l) (open_if b driver name)
  unfolding next ask
  open_if_steady true = idle_steady (x ∷ l) true
  open_if_steady false =
      record {
        -- a call that was not made opens nothing
        sticky = λ t h. ap (λ (r : Got Reply). (noted r).talk) (ask_halts x l first t.stop t h);
        grows = λ t. subst (λ (z : List Call). Grown t.calls z) (sym (noted_calls (ask first t))) (ask_grown x l first t);
        longer = λ t q.
            noted_longer (ask first t) (ask first (with_more (x ∷ l) t)) (ask first t).talk.stop refl (ask_longer x l first t q);
      }

  open_steady : Steady (x ∷ l) (open_for driver name)
  unfolding open_for is_open
  open_steady =
      record {
        sticky = λ t h. (open_if_steady (is_open driver t)).sticky t h;
        grows = λ t. (open_if_steady (is_open driver t)).grows t;
        longer = λ t q. (open_if_steady (is_open driver t)).longer t q;
      }

-- ── a use, and every act ──

module _ (x : ℕ) (l : List ℕ) where
  ask_if_steady : (b : Bool) (c : Call) → Steady (x ∷ l) (ask_if b c)
  ask_if_steady true c = ask_steady x l c
  ask_if_steady false c = idle_steady (x ∷ l) no_reply

  use_steady : (c : Call) → Steady (x ∷ l) (use_call c)
  unfolding use_call next
  use_steady c =
      chain_steady (x ∷ l) {f = open_for c.driver c.name} {g = λ ok. ask_if ok c} (λ b. Unit {0}) (open_steady x l c.driver c.name) (λ t. tt)
      (λ b p. ask_if_steady b c)

  pub steady_rules : Rules Any
  steady_rules =
      record {
        takes = λ m c f. Steady (x ∷ l) f;
        idle = λ a. idle_steady (x ∷ l) a;
        wider = λ p q h. h;
        chain = λ {A} {B} {m} {c} {n} {d} {f} {g} P h v k. chain_steady (x ∷ l) {f = f} {g = g} P h v k;
        say = λ out. send_steady (x ∷ l) out;
        opens = λ driver name d. open_steady x l driver name;
        uses = λ c d. use_steady c;
      }

  pub steady_by : {A : Type 0} {m c : ℕ} {f : Act A} → Takes steady_rules m c f → Steady (x ∷ l) f
  unfolding steady_rules
  steady_by h = h.pays
