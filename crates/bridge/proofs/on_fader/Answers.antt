use Rattle.std.proofs.Common.{◌∙◌, sym, ap, arith}
use Rattle.session.specs.Session.{is_marked}
use Rattle.bridge.proofs.Fit.{bank_low}
use Rattle.bridge.proofs.on_fader.Goals as goal

pub is_marked-requires : goal.is_marked-requires
is_marked-requires c =
    omega (arith, c.place-k.ensures, bank_low c.args.profile.now c.args.session.now c.requires.session_value c.requires.profile_value, c.requires.channel_bound)

pub in_control-requires : goal.in_control-requires
in_control-requires c =
    record {
      profile_value = c.requires.profile_value;
      session_value = c.requires.session_value;
      channel_bound = c.requires.channel_bound;
      marks_value = ap (λ k. is_marked k c.args.session.now.marks) (sym c.place-k.ensures) ∙ sym c.is_marked.ensures ∙ c.if-is_marked.true;
    }

pub take_over-requires : goal.take_over-requires
take_over-requires c =
    record {
      profile_value = c.requires.profile_value;
      session_value = c.requires.session_value;
      in_bounds = c.requires.in_bounds;
      in_bounds_2 = c.requires.in_bounds_2;
      channel_bound = c.requires.channel_bound;
      marks_value = ap (λ k. is_marked k c.args.session.now.marks) (sym c.place-k.ensures) ∙ sym c.is_marked.ensures ∙ c.if-is_marked.false;
    }

pub returns-then-is_marked : goal.returns-then-is_marked
returns-then-is_marked c = c.in_control.ensures c.args.answers.now c.args.messages.now c.args.calls.now
