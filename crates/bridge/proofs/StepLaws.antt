-- How an event of the definition ends, said in terms of the line and of what the event leaves. Assumes nothing.
use Rattle.std.proofs.Common.{None, Option, Some}
use Prim.Native.Nat.{ℕ, suc, ◌≤◌, ◌<◌}
use mathlib.Core.Path.{◌≡◌, refl, sym, ap, subst, ◌∙◌}
use mathlib.Core.Bool.{Bool, true, false, ◌&&◌, ◌||◌, not, true≢false, false≢true}
use mathlib.Core.List.{List, []}
use native.Mathlib.Omega.{arith}
use lib.Dec.{eqb, ltb}
use lib.ListN.{length}
use lib.IntN.{ℤ}
use lib.Ieee.{Float}
use borrow.Author.Tests.{eqb-true, eqb-false, eq-eqb, ne_eqb, ltb-false}
use Rattle.base.specs.Choice.{pick}
use Rattle.base.proofs.RangeLaws.{or_left_no, or_right_no}
use Rattle.base.specs.Keyed.{beside}
use Rattle.base.specs.Tail.{at_front}
use Rattle.protocol.specs.declared.Event.TheVariants as event
use Rattle.profile.specs.Profile.{verdict}
use Rattle.lookup.specs.View.{View, view_of}
use Rattle.drivers.specs.Talk.{is_going, Talk, Got, got, start, next}
use Rattle.drivers.specs.declared.line.Stop.{Stop}
use Rattle.drivers.specs.declared.line.Stop.TheVariants.{Going, Waits, Declined, Overrun}
use Rattle.drivers.specs.Shown.{shown}
use Rattle.drivers.specs.Bytes.{joined, encode}
use Rattle.drivers.proofs.BytesLaws.{calls_length, messages_length}
use Rattle.drivers.specs.declared.line.Io.{Io}
use Rattle.drivers.specs.declared.Call.{Call}
use Rattle.session.specs.Session.{Turn, targets_of}
use Rattle.session.specs.declared.Session.{Session}
use Rattle.session.specs.declared.Move.{Move}
use Rattle.event.specs.Event.{read_of}
use Rattle.event.specs.declared.Input.{Input}
use Rattle.event.specs.declared.Input.TheVariants as input
use Rattle.event.specs.declared.Timed.{Timed}
use Rattle.definition.specs.Rig.{Rig}
use Rattle.definition.specs.Faders.{desk, in_range, nudges, writes, drain, drained}
use Rattle.definition.specs.Flash.{tick_flash}
use Rattle.definition.specs.Live.{is_due}
use Rattle.definition.specs.Shape.{well_shaped}
use Rattle.definition.specs.Step.{Kept, kept, Left, rig_now, tick, tick_with, overfull, Ended, done, refused, waiting, Stepped, stepped, seen, act, refusal, finish, finished, step_if, step}
use Rattle.definition.specs.Whole.{whole, offered}
use Rattle.bounds.specs.Room.{LowInput, FewOf}
use Rattle.bounds.specs.Well.{Well}
use Rattle.bounds.proofs.WellRoom.{well_few}
use Rattle.bounds.proofs.WellStep.{step_well}
use Rattle.after.specs.After.{kept_with, Places}
use Rattle.delivery.specs.Delivery.{Done, Refused, told, told_done, outcome_of, is_done, messages_after, calls_after, end_if, end_of, HasRoom}
use Rattle.delivery.specs.declared.Outcome.{Outcome}
use Rattle.bridge.specs.declared.Stepped as declared
use Rattle.bridge.specs.declared.which.Hand.{Hand}
use Rattle.bridge.specs.declared.which.Hand.TheVariants as hand
use Rattle.bridge.specs.Which.{hand_of, is_tick, is_nothing, runs}
use Rattle.bridge.specs.Bridge.{Delivers, declined_of, is_idle, moved_at, turned_at, Moves, Turns}
use Rattle.bridge.proofs.Fit.{shaped-again}

-- ── an event that is not refused ──

module _ (v : View) (k : Kept) (e : Timed) (answers : List ℕ) where
  -- what it does
  abbrev pub did : Got Left
  did = act e.what v k e.time (start answers k.opened)

  pub step-runs : refusal e.what v k e.time ≡ 0 → step v k e answers ≡ finished v k did
  unfolding step
  step-runs h = rw (eq-eqb _ _ h)

  pub step_declines : (why : ℕ) → refusal e.what v k e.time ≡ suc why → step v k e answers ≡ stepped (refused (suc why)) k
  unfolding step
  step_declines why h = rw (h, ne_eqb (suc why) 0 (λ (q : suc why ≡ 0). omega arith))

module _ (v : View) (k : Kept) (r : Got Left) where
  -- how it ends, by the line
  pub ends_so : (finished v k r).ended ≡ end_of r.talk (r.value.saved && v.remember)
  ends_so = at r.talk.stop
    where
      at : (s : Stop) → (finish s v k r).ended ≡ end_if s r.talk (r.value.saved && v.remember)
      at Going = refl
      at (Waits c) = refl
      at Declined = refl
      at Overrun = refl

  pub done_keeps : is_done (end_of r.talk (r.value.saved && v.remember)) ≡ true → (finished v k r).kept ≡ kept_with r.value r.talk.opened
  done_keeps = at r.talk.stop
    where
      at : (s : Stop) → is_done (end_if s r.talk (r.value.saved && v.remember)) ≡ true → (finish s v k r).kept ≡ kept_with r.value r.talk.opened
      at Going h = refl
      at (Waits c) h = absurd (false≢true h)
      at Declined h = absurd (false≢true h)
      at Overrun h = absurd (false≢true h)

  pub undone_keeps : is_done (end_of r.talk (r.value.saved && v.remember)) ≡ false → (finished v k r).kept ≡ k
  undone_keeps = at r.talk.stop
    where
      at : (s : Stop) → is_done (end_if s r.talk (r.value.saved && v.remember)) ≡ false → (finish s v k r).kept ≡ k
      at Going h = absurd (true≢false h)
      at (Waits c) h = refl
      at Declined h = refl
      at Overrun h = refl

-- an outcome tells whether its event is done
pub done_told : (x : Ended) → told_done (outcome_of x) ≡ is_done x
done_told (done ms cs used saved) = refl
done_told (refused why) = refl
done_told (waiting c) = refl

-- ── room ──

going_is : (s : Stop) → is_going s ≡ true → s ≡ Going
going_is Going h = refl
going_is (Waits c) h = absurd (false≢true h)
going_is Declined h = absurd (false≢true h)
going_is Overrun h = absurd (false≢true h)

-- a line that goes on is that of a done event: it has at most 102 messages and 337 calls
pub room_for_lem : (p : List ℕ) → verdict p ≡ 0 → (k : Kept) → Well p k → (e : Timed) (answers : List ℕ) → refusal e.what (view_of p) k e.time ≡ 0 →
    (io : Io) → shown io ≡ (did (view_of p) k e answers).talk → HasRoom io
unfolding shown
room_for_lem p ok k well e answers free io q h =
    let r = did (view_of p) k e answers in
    let goes : r.talk.stop ≡ Going = sym (ap (λ (t : Talk). t.stop) q) ∙ going_is io.stop h in
    let end : (step (view_of p) k e answers).ended ≡ done r.talk.messages r.talk.calls _ _ =
    ap (λ (x : Stepped). x.ended) (step-runs (view_of p) k e answers free) ∙ ends_so (view_of p) k r ∙ ap (λ s. end_if s r.talk (r.value.saved && (view_of p).remember)) goes in
    let few = well_few p ok k well e answers _ _ _ _ end in
    let sent : length r.talk.messages ≡ io.sent = ap (λ (t : Talk). length t.messages) (sym q) ∙ messages_length io.sent io.messages in
    let asked : length r.talk.calls ≡ io.asked = ap (λ (t : Talk). length t.calls) (sym q) ∙ calls_length io.asked io.calls in
    (omega (arith, few.0, sent), omega (arith, few.1, asked))

-- ── what is delivered ──

-- with the session that was handed in, and with another
abbrev pub stays : Outcome → Session → declared.Stepped
stays o s = record { outcome = o; session = s; changed = false }

abbrev pub goes : Outcome → Session → declared.Stepped
goes o s = record { outcome = o; session = s; changed = true }

-- a refused event leaves all as it was
pub declines : (d : Stepped) (why : ℕ) (p : List ℕ) (s : Session) (ms cs : List ℕ) (o : Outcome) → told o ≡ Refused why → d ≡ stepped (refused why) (seen p s) →
    Delivers d p s ms cs (stays o s) ms cs
declines d why p s ms cs o r q =
    rw q
    (record {
      outcome = r;
      same = λ h. refl;
      leaves = record { session = refl; still = λ h. refl; shaped = λ h. absurd (false≢true h); messages = refl; calls = refl; few = tt };
    })

-- an event that did nothing
pub does_nothing : (d : Stepped) (p : List ℕ) (s : Session) (ms cs : List ℕ) (o : Outcome) → told o ≡ Done 0 0 0 false → well_shaped p s ≡ true →
    d ≡ stepped (done [] [] 0 false) (seen p s) → Delivers d p s ms cs (stays o s) ms cs
unfolding joined encode at_front
does_nothing d p s ms cs o r w q =
    rw q
    (record {
      outcome = r;
      same = λ h. refl;
      leaves =
          record { session = refl; still = λ h. absurd (true≢false h); shaped = λ h. w; messages = refl; calls = refl; few = (omega arith, omega arith) };
    })

-- at most 102 messages and 337 calls: of an event that is not done there is nothing to count
few_undone : (x : Ended) → is_done x ≡ false → FewOf x
few_undone (done ms cs used saved) h = absurd (true≢false h)
few_undone (refused why) h = tt
few_undone (waiting c) h = tt

few_done : (x : Ended) →
    ((ms : List (List ℕ)) (cs : List Call) (used : ℕ) (saved : Bool) → x ≡ done ms cs used saved → (length ms ≤ 102) × (length cs ≤ 337)) → FewOf x
few_done (done ms cs used saved) h = h ms cs used saved refl
few_done (refused why) h = tt
few_done (waiting c) h = tt

module _ (p : List ℕ) (ok : verdict p ≡ 0) (s : Session) (well : Well p (seen p s)) (e : Timed) (answers : List ℕ)
    (free : refusal e.what (view_of p) (seen p s) e.time ≡ 0) where
  abbrev v : View
  v = view_of p

  abbrev end : Ended
  end = end_of (did v (seen p s) e answers).talk ((did v (seen p s) e answers).value.saved && v.remember)

  end_is : (step v (seen p s) e answers).ended ≡ end
  end_is = ap (λ (x : Stepped). x.ended) (step-runs v (seen p s) e answers free) ∙ ends_so v (seen p s) (did v (seen p s) e answers)

  -- an event that stopped leaves all as it was
  pub undone_delivers : (o : Outcome) (ms cs ms₁ cs₁ : List ℕ) → is_done end ≡ false → told o ≡ outcome_of end → ms₁ ≡ messages_after end ms → cs₁ ≡ calls_after end cs →
      Delivers (step v (seen p s) e answers) p s ms cs (stays o s) ms₁ cs₁
  undone_delivers o ms cs ms₁ cs₁ u ho hm hc =
      record {
        outcome = rw end_is ho;
        same = λ h. refl;
        leaves =
            record {
              session =
                  sym (ap (λ (x : Stepped). x.kept) (step-runs v (seen p s) e answers free) ∙ undone_keeps v (seen p s) (did v (seen p s) e answers) u);
              still = λ h. refl;
              shaped = λ h. absurd (false≢true (sym u ∙ ap is_done (sym end_is) ∙ h));
              messages = rw end_is hm;
              calls = rw end_is hc;
              few = few_undone (step v (seen p s) e answers).ended (ap is_done end_is ∙ u);
            };
      }

  -- and one that is done leaves r, which is seen as what it left
  pub done_delivers : LowInput e.what → (o : Outcome) (r : Session) (ms cs ms₁ cs₁ : List ℕ) → is_done end ≡ true →
      seen p r ≡ kept_with (did v (seen p s) e answers).value (did v (seen p s) e answers).talk.opened → Places p r →
      told o ≡ outcome_of end → ms₁ ≡ messages_after end ms → cs₁ ≡ calls_after end cs →
      Delivers (step v (seen p s) e answers) p s ms cs (goes o r) ms₁ cs₁
  done_delivers low o r ms cs ms₁ cs₁ u q f ho hm hc =
      let kept-is : seen p r ≡ (step v (seen p s) e answers).kept =
      q ∙ sym (ap (λ (x : Stepped). x.kept) (step-runs v (seen p s) e answers free) ∙ done_keeps v (seen p s) (did v (seen p s) e answers) u) in
      record {
        outcome = rw end_is ho;
        same = λ h. absurd (true≢false h);
        leaves =
            record {
              session = kept-is;
              still = λ h. absurd (true≢false (sym u ∙ ap is_done (sym end_is) ∙ h));
              shaped = λ h. shaped-again p r (subst (λ (x : Kept). Well p x) (sym kept-is) (step_well p ok (seen p s) well e low answers)) f;
              messages = rw end_is hm;
              calls = rw end_is hc;
              few = few_done (step v (seen p s) e answers).ended (well_few p ok (seen p s) well e answers);
            };
      }

-- ── which event it is ──

pub runs_low : (what : Input) → runs what ≡ true → LowInput what
runs_low (input.Midi (event.Fader ch x)) h = absurd (false≢true h)
runs_low (input.Midi (event.Encoder ch n)) h = absurd (false≢true h)
runs_low (input.Midi (event.Button b)) h = tt
runs_low (input.Midi event.Other) h = absurd (false≢true h)
runs_low input.Tick h = tt
runs_low input.PushState h = tt
runs_low input.PushTransport h = tt
runs_low input.FlashBank h = tt

-- a fader's hand is no encoder's, and neither is none
abbrev sort : Option Hand → ℕ
sort (Some (hand.Fader ch x)) = 0
sort (Some (hand.Encoder ch n)) = 1
sort None = 2

other : {A : Type 0} (a b : Option Hand) → eqb (sort a) (sort b) ≡ false → a ≡ b → A
other a b n h = absurd (eqb-false (sort a) (sort b) n (ap sort h))

pub others_run : (what : Input) → hand_of what ≡ None → is_nothing what ≡ false → runs what ≡ true
others_run (input.Midi (event.Fader ch x)) h n = other _ _ refl h
others_run (input.Midi (event.Encoder ch d)) h n = other _ _ refl h
others_run (input.Midi (event.Button b)) h n = at b.pressed n
  where
    at : (b : Bool) → not b ≡ false → b ≡ true
    at true q = refl
    at false q = absurd (true≢false q)
others_run (input.Midi event.Other) h n = absurd (true≢false n)
others_run input.Tick h n = refl
others_run input.PushState h n = refl
others_run input.PushTransport h n = refl
others_run input.FlashBank h n = refl

pub is_move : (e : Timed) (ch : ℕ) (x : Float) → hand_of e.what ≡ Some (hand.Fader ch x) → e ≡ moved_at e.time ch x
is_move e ch x = at e.what
  where
    at : (w : Input) → hand_of w ≡ Some (hand.Fader ch x) → ◌≡◌ {A = Timed} (record { time = e.time; what = w }) (moved_at e.time ch x)
    at (input.Midi (event.Fader c y)) h = let same : c ≡ ch = cc in let value : y ≡ x = cc in rw (same, value)
    at (input.Midi (event.Encoder c d)) h = other _ _ refl h
    at (input.Midi (event.Button b)) h = other _ _ refl h
    at (input.Midi event.Other) h = other _ _ refl h
    at input.Tick h = other _ _ refl h
    at input.PushState h = other _ _ refl h
    at input.PushTransport h = other _ _ refl h
    at input.FlashBank h = other _ _ refl h

pub is-turn : (e : Timed) (ch : ℕ) (n : ℤ) → hand_of e.what ≡ Some (hand.Encoder ch n) → e ≡ turned_at e.time ch n
is-turn e ch n = at e.what
  where
    at : (w : Input) → hand_of w ≡ Some (hand.Encoder ch n) → ◌≡◌ {A = Timed} (record { time = e.time; what = w }) (turned_at e.time ch n)
    at (input.Midi (event.Encoder c d)) h = let same : c ≡ ch = cc in let delta : d ≡ n = cc in rw (same, delta)
    at (input.Midi (event.Fader c y)) h = other _ _ refl h
    at (input.Midi (event.Button b)) h = other _ _ refl h
    at (input.Midi event.Other) h = other _ _ refl h
    at input.Tick h = other _ _ refl h
    at input.PushState h = other _ _ refl h
    at input.PushTransport h = other _ _ refl h
    at input.FlashBank h = other _ _ refl h

-- a fader's and an encoder's event, of which the handlers are told channel and value
pub low_move : (e : Timed) (ch : ℕ) (x : Float) → LowInput e.what → hand_of e.what ≡ Some (hand.Fader ch x) → ch < 16
low_move e ch x low h = subst (λ (z : Timed). LowInput z.what) (is_move e ch x h) low

pub low_turn : (e : Timed) (ch : ℕ) (n : ℤ) → LowInput e.what → hand_of e.what ≡ Some (hand.Encoder ch n) → (ch < 8) × (in_range n ≡ true)
low_turn e ch n low h = subst (λ (z : Timed). LowInput z.what) (is-turn e ch n h) low

pub moves_so : (p : List ℕ) (s : Session) (e : Timed) (ch : ℕ) (x : Float) → hand_of e.what ≡ Some (hand.Fader ch x) →
    (answers ms cs : List ℕ) (r : declared.Stepped) (ms₁ cs₁ : List ℕ) → Moves p s ch x answers ms cs r ms₁ cs₁ →
    Delivers (step (view_of p) (seen p s) e answers) p s ms cs r ms₁ cs₁
moves_so p s e ch x h answers ms cs r ms₁ cs₁ d =
    subst (λ (z : Timed). Delivers (step (view_of p) (seen p s) z answers) p s ms cs r ms₁ cs₁) (sym (is_move e ch x h)) (d e.time)

pub turns_so : (p : List ℕ) (s : Session) (e : Timed) (ch : ℕ) (n : ℤ) → hand_of e.what ≡ Some (hand.Encoder ch n) →
    (answers ms cs : List ℕ) (r : declared.Stepped) → Turns p s ch n r → Delivers (step (view_of p) (seen p s) e answers) p s ms cs r ms cs
turns_so p s e ch n h answers ms cs r d =
    subst (λ (z : Timed). Delivers (step (view_of p) (seen p s) z answers) p s ms cs r ms cs) (sym (is-turn e ch n h)) (d e.time answers ms cs)

-- ── events with nothing to do ──

module _ (v : View) (k : Kept) (now : Float) (answers : List ℕ) (line : k.desk.line ≡ []) (turns : k.desk.turns ≡ []) where
  -- what is kept, without a line and without sums: it had none
  abbrev emptied : Kept
  emptied = kept k.site (desk k.desk.marks k.desk.moves [] []) k.lamps k.silenced k.opened

  emptied-is : emptied ≡ k
  emptied-is =
      ap (λ (x : List Move). kept k.site (desk k.desk.marks k.desk.moves x []) k.lamps k.silenced k.opened) (sym line)
      ∙ ap (λ (x : List Turn). kept k.site (desk k.desk.marks k.desk.moves k.desk.line x) k.lamps k.silenced k.opened) (sym turns)

  drains_nothing : (t : Talk) → drain (rig_now v k) k.desk t ≡ t
  unfolding drain writes nudges
  drains_nothing t = rw (line, turns)

  flashes_nothing : (r : Rig) (t : Talk) → k.lamps.flash.on ≡ false → tick_flash r (targets_of k.silenced) k.desk.moves now k.lamps t ≡ got k.lamps t
  unfolding tick_flash
  flashes_nothing r t h = rw h

  idle-tick : is_due k.site.due k.site.at now ≡ false → k.lamps.flash.on ≡ false →
      step v k (record { time = now; what = input.Tick }) answers ≡ stepped (done [] [] 0 false) k
  unfolding step refusal act tick next drained
  idle-tick u f = at (is_due k.site.due k.site.at now) u ∙ ap (λ (x : Kept). stepped (done [] [] 0 false) x) emptied-is
    where
      at : (b : Bool) → b ≡ false → finished v k (tick_with b v k now (start answers k.opened)) ≡ stepped (done [] [] 0 false) emptied
      at true h = absurd (true≢false h)
      at false h = rw (drains_nothing (start answers k.opened), flashes_nothing _ (start answers k.opened) f)

and3 : (a b c d : Bool) → (a && (b && (not c && not d))) ≡ true → (a ≡ true) × (b ≡ true) × (c ≡ false) × (d ≡ false)
and3 true true false false h = (refl, refl, refl, refl)
and3 true true false true h = absurd (false≢true h)
and3 true true true d h = absurd (false≢true h)
and3 true false c d h = absurd (false≢true h)
and3 false b c d h = absurd (false≢true h)

idle_so : (p : List ℕ) (s : Session) (now : Float) (answers : List ℕ) → is_idle s now ≡ true →
    step (view_of p) (seen p s) (record { time = now; what = input.Tick }) answers ≡ stepped (done [] [] 0 false) (seen p s)
unfolding seen beside
idle_so p s now answers h =
    let four = and3 (eqb s.line.count 0) (eqb s.turns.count 0) (is_due s.livedue s.liveat now) s.lamps.flash.on h in
    let n : s.line.count ≡ 0 = eqb-true s.line.count 0 four.0 in
    let m : s.turns.count ≡ 0 = eqb-true s.turns.count 0 four.1 in
    idle-tick (view_of p) (seen p s) now answers (rw n) (rw m) four.2 four.3

pub nothing-done : (p : List ℕ) (s : Session) (e : Timed) (answers : List ℕ) (a t i : Bool) → a ≡ is_nothing e.what → t ≡ is_tick e.what → i ≡ is_idle s e.time →
    (a || (t && i)) ≡ true → step (view_of p) (seen p s) e answers ≡ stepped (done [] [] 0 false) (seen p s)
unfolding step refusal act
nothing-done p s e answers a t i ha ht hi h = at e.what (rw (← ha, ← ht, ← hi) h)
  where
    at : (w : Input) → (is_nothing w || (is_tick w && is_idle s e.time)) ≡ true →
        step (view_of p) (seen p s) (record { time = e.time; what = w }) answers ≡ stepped (done [] [] 0 false) (seen p s)
    at (input.Midi (event.Fader ch x)) q = absurd (false≢true q)
    at (input.Midi (event.Encoder ch n)) q = absurd (false≢true q)
    at (input.Midi (event.Button b)) q = press-at b.pressed q
      where
        press-at : (c : Bool) → (not c || false) ≡ true →
            step_if (eqb (overfull c (view_of p) (seen p s) e.time b.note) 0) (overfull c (view_of p) (seen p s) e.time b.note)
            (record { time = e.time; what = input.Midi (event.Button (record { note = b.note; pressed = c })) }) (view_of p) (seen p s) answers
            ≡ stepped (done [] [] 0 false) (seen p s)
        press-at true z = absurd (false≢true z)
        press-at false z = refl
    at (input.Midi event.Other) q = refl
    at input.Tick q = idle_so p s e.time answers q
    at input.PushState q = absurd (false≢true q)
    at input.PushTransport q = absurd (false≢true q)
    at input.FlashBank q = absurd (false≢true q)

-- ── from the bytes on ──

module _ (p : List ℕ) (s : Session) (event-bytes answers : List ℕ) (m c : ℕ) where
  -- the numbers 1 to 9
  pub whole_declines : (why : ℕ) → declined_of p s m c ≡ why → (why ≡ 0 → ⊥) → whole p s event-bytes answers m c ≡ stepped (refused why) (seen p s)
  unfolding whole
  whole_declines why q n = verdict-at (eqb (verdict p) 0) refl q
    where
      room_at_lem : (b : Bool) → pick b 9 0 ≡ why → pick b (stepped (refused 9) (seen p s)) (offered (read_of event-bytes) p (seen p s) answers) ≡ stepped (refused why) (seen p s)
      room_at_lem true h = rw h
      room_at_lem false h = absurd (n (sym h))

      shape_at : (b : Bool) → pick b (pick (ltb m 306 || ltb c 5392) 9 0) 8 ≡ why →
          pick b (pick (ltb m 306 || ltb c 5392) (stepped (refused 9) (seen p s)) (offered (read_of event-bytes) p (seen p s) answers)) (stepped (refused 8) (seen p s))
          ≡ stepped (refused why) (seen p s)
      shape_at true h = room_at_lem (ltb m 306 || ltb c 5392) h
      shape_at false h = rw h

      verdict-at : (b : Bool) → eqb (verdict p) 0 ≡ b → pick b (pick (well_shaped p s) (pick (ltb m 306 || ltb c 5392) 9 0) 8) (verdict p) ≡ why →
          pick b
          (pick (well_shaped p s) (pick (ltb m 306 || ltb c 5392) (stepped (refused 9) (seen p s)) (offered (read_of event-bytes) p (seen p s) answers)) (stepped (refused 8) (seen p s)))
          (stepped (refused (verdict p)) (seen p s))
          ≡ stepped (refused why) (seen p s)
      verdict-at true i h = shape_at (well_shaped p s) h
      verdict-at false i h = rw h

  -- an event that none of them declines
  pub record Passes : Type 0 where
    pub accepted : verdict p ≡ 0
    pub shaped : well_shaped p s ≡ true
    pub messages : 306 ≤ m
    pub calls : 5392 ≤ c
    pub so : whole p s event-bytes answers m c ≡ offered (read_of event-bytes) p (seen p s) answers

  pub passes : declined_of p s m c ≡ 0 → Passes
  unfolding whole
  passes q = verdict-at (eqb (verdict p) 0) refl (well_shaped p s) refl (ltb m 306 || ltb c 5392) refl q
    where
      verdict-at : (b : Bool) → eqb (verdict p) 0 ≡ b → (w : Bool) → well_shaped p s ≡ w → (r : Bool) → (ltb m 306 || ltb c 5392) ≡ r →
          pick b (pick w (pick r 9 0) 8) (verdict p) ≡ 0 → Passes
      verdict-at true i true j false k h =
          record {
            accepted = eqb-true (verdict p) 0 i;
            shaped = j;
            messages = ltb-false m 306 (or_left_no (ltb m 306) (ltb c 5392) k);
            calls = ltb-false c 5392 (or_right_no (ltb m 306) (ltb c 5392) k);
            so = rw (i, j, k);
          }
      verdict-at true i true j true k h = absurd (omega arith)
      verdict-at true i false j r k h = absurd (omega arith)
      verdict-at false i w j r k h = let z : eqb (verdict p) 0 ≡ true = eq-eqb (verdict p) 0 h in absurd (false≢true (sym i ∙ z))

  -- one that is read does what the definition says of it
  pub passes_on : declined_of p s m c ≡ 0 → (r : Option Timed) (e : Timed) → r ≡ read_of event-bytes → r ≡ Some e →
      (ms cs : List ℕ) (x : declared.Stepped) (ms₁ cs₁ : List ℕ) → Delivers (step (view_of p) (seen p s) e answers) p s ms cs x ms₁ cs₁ →
      Delivers (whole p s event-bytes answers m c) p s ms cs x ms₁ cs₁
  passes_on q r e i j ms cs x ms₁ cs₁ d =
      let so : whole p s event-bytes answers m c ≡ step (view_of p) (seen p s) e answers =
      (passes q).so ∙ ap (λ (z : Option Timed). offered z p (seen p s) answers) (sym i ∙ j) in
      subst (λ (z : Stepped). Delivers z p s ms cs x ms₁ cs₁) (sym so) d

  -- 10
  pub unread : declined_of p s m c ≡ 0 → (r : Option Timed) → r ≡ read_of event-bytes → r ≡ None → whole p s event-bytes answers m c ≡ stepped (refused 10) (seen p s)
  unread q r i j = (passes q).so ∙ ap (λ (z : Option Timed). offered z p (seen p s) answers) (sym i ∙ j)
