use Rattle.drivers.proofs.Laws.{ask_stopped, ask_full, ask-waits, ask-declined, ask-made, listing, answer_part, items-part, part-all}
use Rattle.drivers.proofs.AnswersLaws.{answer_there, part_long}
use lib.ListN.{length-drop}
use mathlib.Core.Path.{sym, ◌∙◌}
use native.Mathlib.Omega.{arith}
use Rattle.std.proofs.Common.{rules}
use Rattle.drivers.proofs.line.Io.ask.Goals as goal

pub returns-then-not-is_going-clause-value : goal.returns-then-not-is_going-clause-value
returns-then-not-is_going-clause-value c =
    ask_stopped c.args.self.now c.args.c _ c.refused.ensures.0 c.refused.ensures.1 (sym c.is_going.ensures ∙ c.if-not-is_going.true)

pub returns-then-full-clause-value : goal.returns-then-full-clause-value
returns-then-full-clause-value c = let e = c.halt.ensures in
    ask_full c.args.self.now c.args.c _ _ e.reply.0 e.reply.1 e.line (sym c.is_going.ensures ∙ c.if-not-is_going.false) c.if-full.true

pub returns-then-self-clause-value : goal.returns-then-self-clause-value
returns-then-self-clause-value c = let e = c.halt-then-self.ensures in
    ask-waits c.args.self.now c.args.c _ _ e.reply.0 e.reply.1 e.line (sym c.is_going.ensures ∙ c.if-not-is_going.false) c.if-full.false c.if-self.true

pub returns-then-is_unfit-clause-value : goal.returns-then-is_unfit-clause-value
returns-then-is_unfit-clause-value c = let e = c.halt-then-is_unfit.ensures in
    ask-declined c.args.self.now c.args.c _ _ _ e.reply.0 e.reply.1 e.line (answer_part c.args.self.now.answers.now c.args.self.now.read c.args.c.kind _ c.first-answer.ensures.value)
    (sym c.is_unfit.ensures ∙ c.if-is_unfit.true) (sym c.is_going.ensures ∙ c.if-not-is_going.false) c.if-full.false c.if-self.false

pub items-count-requires : goal.items-count-requires
items-count-requires c = part_long _ c.args.c.kind _ c.first-answer.ensures.value (sym c.is_unfit.ensures ∙ c.if-is_unfit.false)

pub overflow_mul-self : goal.overflow_mul-self
overflow_mul-self c = let s = c.args.self.now in
    let e = answer_part s.answers.now s.read c.args.c.kind _ c.first-answer.ensures.value in
    let u = sym c.is_unfit.ensures ∙ c.if-is_unfit.false in
    let w = answer_there _ _ _ _ e u (items-part s.answers.now s.read _ _ c.items-count.ensures) in
    omega (arith, w, length-drop s.read s.answers.now)

pub overflow_add-self-2 : goal.overflow_add-self-2
overflow_add-self-2 c = let s = c.args.self.now in
    let e = answer_part s.answers.now s.read c.args.c.kind _ c.first-answer.ensures.value in
    let u = sym c.is_unfit.ensures ∙ c.if-is_unfit.false in
    let w = answer_there _ _ _ _ e u (items-part s.answers.now s.read _ _ c.items-count.ensures) in
    omega (arith, w, length-drop s.read s.answers.now)

pub overflow_add-self-3 : goal.overflow_add-self-3
overflow_add-self-3 c = let s = c.args.self.now in
    let e = answer_part s.answers.now s.read c.args.c.kind _ c.first-answer.ensures.value in
    let u = sym c.is_unfit.ensures ∙ c.if-is_unfit.false in
    let w = answer_there _ _ _ _ e u (items-part s.answers.now s.read _ _ c.items-count.ensures) in
    omega (arith, w, length-drop s.read s.answers.now)

pub returns-clause-value : goal.returns-clause-value
returns-clause-value c = let s = c.args.self.now in
    ask-made s c.args.c _ _ (part-all s.answers.now s.read) (answer_part s.answers.now s.read c.args.c.kind _ c.first-answer.ensures.value)
    (sym c.is_unfit.ensures ∙ c.if-is_unfit.false) (items-part s.answers.now s.read _ _ c.items-count.ensures) c.write_call.ensures (sym c.is_going.ensures ∙ c.if-not-is_going.false) c.if-full.false c.if-self.false (search rules)

pub returns-clause-listing : goal.returns-clause-listing
returns-clause-listing c =
    listing c.args.c.kind _ c.first-answer.ensures.value (sym c.is_unfit.ensures ∙ c.if-is_unfit.false) c.items-count.ensures
