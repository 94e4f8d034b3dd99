-- What is written of an outcome and its buffers is the text of the definition's event: the buffers hold its messages and calls. Assumes nothing.
use Rattle.std.specs.Prelude.{ℕ, zero, suc, ◌≡◌, ◌≤◌, ◌<◌, ◌+◌, ◌*◌, ◌/◌, min, ◌++◌, List, [], ◌∷◌, Bool, true, false, cond, Option, Some, None, IfSome, length, take, drop}
use Rattle.std.proofs.Common.{arith, lit<, sym, ◌∙◌, add-one, append-nil, length-append}
use Rattle.std.proofs.Math.Path.{refl, ap}
use Rattle.std.proofs.Math.Seq.{take-append_seam, drop-append_seam}
use Rattle.std.proofs.lemmas.List.{take_min, drop_min}
use Rattle.std.proofs.lemmas.Bool.{ne_eqb}
use borrow.Author.Tests.{eq-eqb}
use Rattle.profile.specs.Profile.{verdict}
use Rattle.profile.specs.Refusal.{number_of}
use Rattle.profile.specs.declared.Refusal.{Refusal}
use Rattle.profile.specs.declared.Refusal.TheVariants.{Size, Fields, Order, Banks, Limits, Ends}
use Rattle.drivers.proofs.BytesLaws.{calls_length, messages_length}
use Rattle.drivers.specs.Shown.{calls_in, messages_in}
use Rattle.session.specs.Session.{fresh_session}
use Rattle.session.specs.declared.Session.{Session}
use Rattle.definition.specs.Shape.{well_shaped}
use Rattle.definition.specs.Step.{Ended, done, refused, waiting, Kept, seen, fresh_kept}
use Rattle.definition.specs.Whole.{whole}
use Rattle.delivery.specs.Delivery.{told, told_done, outcome_of}
use Rattle.bridge.specs.Bridge.{Delivers, used_in}
use Rattle.bridge.proofs.BackLaws.{BackOf, delivers_back}
use Rattle.bridge.specs.declared.Stepped as declared
use Rattle.bridge.proofs.ShapedLaws.{fresh-seen}
use Rattle.printing.specs.Ascii.{ascii}
use Rattle.printing.specs.Text.{line_end, message_lines, call_lines, step_words, count_words, profile_line}
use Rattle.printing.proofs.TextLaws.{messages_first, calls_first}
use Rattle.run.specs.Said.{done_text, outcome_text, event_text, records_in, records, became, goes_on, events_text, program_text}

-- the parts of both buffers that are written of a done event
pub done_so : (n sent asked : ℕ) (ms cs : List ℕ) → 3 * sent ≤ length ms → 16 * asked ≤ length cs →
    step_words (ascii "event") n ++ (count_words sent asked ++ (line_end ++ (message_lines (messages_in (length (take (3 * sent) ms) / 3) (take (3 * sent) ms)) ++ call_lines (calls_in (length (take (16 * asked) cs) / 16) (take (16 * asked) cs)))))
    ≡ done_text n (messages_in sent ms) (calls_in asked cs)
unfolding done_text
done_so n sent asked ms cs h k = rw (messages_first ms sent h, calls_first cs asked k, messages_length sent ms, calls_length asked cs) refl

read_so : (n : ℕ) (e : Ended) (ms cs : List ℕ) → BackOf e ms cs → outcome_text n (outcome_of e) ms cs ≡ event_text n e
read_so n (done m c used saved) ms cs h = rw (h.0, h.1)
read_so n (refused why) ms cs h = refl
read_so n (waiting c) ms cs h = refl

module _ (p : List ℕ) (s : Session) (event answers : List ℕ) (messages calls : ℕ) (ms cs : List ℕ) (r : declared.Stepped) (ms₁ cs₁ : List ℕ)
    (d : Delivers (whole p s event answers messages calls) p s ms cs r ms₁ cs₁) where
  pub said_so : (n : ℕ) → outcome_text n (told r.outcome) ms₁ cs₁ ≡ event_text n (whole p s event answers messages calls).ended
  said_so n =
      rw d.outcome (read_so n (whole p s event answers messages calls).ended ms₁ cs₁ (delivers_back p s answers event messages calls ms cs r ms₁ cs₁ d))

-- ── one event, over an accepted profile and a well-shaped session ──

pub accepted : (p : List ℕ) (s : Session) (event answers : List ℕ) → verdict p ≡ 0 → well_shaped p s ≡ true →
    whole p s event answers 306 5392 ≡ became p (seen p s) event answers
unfolding whole
accepted p s event answers ok shaped = rw (eq-eqb (verdict p) 0 ok, shaped)

pub used_so : (e : Ended) → cond (told_done (outcome_of e)) (Some (used_in (outcome_of e))) None ≡ goes_on e
used_so (done ms cs used saved) = refl
used_so (refused why) = refl
used_so (waiting c) = refl

-- what holds of a number holds where it is given
pub where_given : (b : Bool) (n most : ℕ) → 16 * n ≤ most → IfSome (cond b (Some n) None) (λ m. 16 * m ≤ most)
where_given true n most l = l
where_given false n most l = tt

-- ── one event more ──

pub none_is : (o : Option ℕ) → ((m : ℕ) → o ≡ Some m → ⊥) → o ≡ None
none_is None h = refl
none_is (Some m) h = absurd (h m refl)

-- the first piece of a file that is left is its first event
first_is : (more : ℕ) (rest event after : List ℕ) → rest ≡ event ++ after → length event ≡ min 16 (length rest) → 0 < length rest → length rest ≤ more →
    (fewer : ℕ) × (length after ≤ fewer) × (records_in more rest ≡ event ∷ records_in fewer after)
unfolding records_in
first_is zero rest event after is len some l = absurd (omega arith)
first_is (suc more) [] event after is len some l = absurd (omega arith)
first_is (suc more) (b ∷ bs) event after is len some l =
    let rest : List ℕ = b ∷ bs in
    let front : take 16 rest ≡ event =
    sym (take_min 16 rest) ∙ ap (λ (n : ℕ). take n rest) (sym len) ∙ ap (λ (r : List ℕ). take (length event) r) is ∙ take-append_seam event after in
    let back : drop 16 rest ≡ after =
    sym (drop_min 16 rest) ∙ ap (λ (n : ℕ). drop n rest) (sym len) ∙ ap (λ (r : List ℕ). drop (length event) r) is ∙ drop-append_seam event after in
    let both : length event + length after ≡ length rest = sym (length-append event after) ∙ ap (λ (r : List ℕ). length r) (sym is) in
    (more, omega (arith, both, len, some, l), rw (front, back))

module _ (p : List ℕ) (k : Kept) (n more : ℕ) (rest event after answers : List ℕ) where
  -- an event that is not done is the last
  pub last_so : rest ≡ event ++ after → length event ≡ min 16 (length rest) → 0 < length rest → length rest ≤ more →
      goes_on (became p k event answers).ended ≡ None →
      event_text n (became p k event answers).ended ≡ events_text p k n (records_in more rest) answers
  unfolding events_text
  last_so is len some l e = let f = first_is more rest event after is len some l in rw (f.2, e) (sym (append-nil _))

  -- behind a done event come the others, from what it kept and the answers that it left
  pub next_so : rest ≡ event ++ after → length event ≡ min 16 (length rest) → 0 < length rest → length rest ≤ more →
      (used : ℕ) (k₁ : Kept) (n₁ : ℕ) (left : List ℕ) → goes_on (became p k event answers).ended ≡ Some used →
      k₁ ≡ (became p k event answers).kept → n₁ ≡ n + 1 → left ≡ drop (16 * used) answers →
      (fewer : ℕ) × (length after ≤ fewer)
      × (event_text n (became p k event answers).ended ++ events_text p k₁ n₁ (records_in fewer after) left ≡ events_text p k n (records_in more rest) answers)
  unfolding events_text
  next_so is len some l used k₁ n₁ left e ek en el =
      let f = first_is more rest event after is len some l in (f.0, f.1, rw (f.2, e, ek, en, el, add-one))

-- the first event is event 0, and the session fresh
pub start_so : (p : List ℕ) (s : Session) (n : ℕ) (rest events answers : List ℕ) → s ≡ fresh_session → n ≡ 0 → rest ≡ events →
    events_text p (seen p s) n (records_in (length events) rest) answers ≡ events_text p fresh_kept 0 (records events) answers
start_so p s n rest events answers es en er = rw (es, en, er, fresh-seen p)

-- no event is left
pub end_so : (p : List ℕ) (k : Kept) (n more : ℕ) (rest answers : List ℕ) → length rest ≡ 0 → [] ≡ events_text p k n (records_in more rest) answers
unfolding events_text records_in
end_so p k n zero rest answers none = refl
end_so p k n (suc more) [] answers none = refl
end_so p k n (suc more) (b ∷ bs) answers none = absurd (omega arith)

-- ── the program ──

pub program_runs : (p events answers : List ℕ) → verdict p ≡ 0 → events_text p fresh_kept 0 (records events) answers ≡ program_text p events answers
unfolding program_text
program_runs p events answers ok = rw (eq-eqb (verdict p) 0 ok)

refusal_some : (e : Refusal) → 0 < number_of e
refusal_some Size = lit< tt
refusal_some Fields = lit< tt
refusal_some Order = lit< tt
refusal_some Banks = lit< tt
refusal_some Limits = lit< tt
refusal_some Ends = lit< tt

pub program_refused : (p events answers : List ℕ) (e : Refusal) → number_of e ≡ verdict p → profile_line (number_of e) ≡ program_text p events answers
unfolding program_text
program_refused p events answers e is = rw (← is, ne_eqb (number_of e) 0 (λ z. omega (arith, z, refusal_some e)))
