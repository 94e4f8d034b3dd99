-- The cast alone does what `floor`, `max` and the cast do (`same_cast`).
use Rattle.std.proofs.Common.{◌∙◌, ap, ℕ, ◌+◌, ◌%◌, ◌^◌, min}
use lib.Ieee.{binary64, sub, div}
use lib.Ieee.Fits.{div-fits}
use Rattle.float.specs.Leaf.{due_of, blink}
use Rattle.float.proofs.Floor.{same_cast}
use Rattle.float.proofs.due.Goals as goal

pub returns : goal.returns
unfolding due_of
returns c =
    let x = div binary64 (sub binary64 c.args.now c.args.start) blink in
    rw (same_cast x (div-fits binary64 (sub binary64 c.args.now c.args.start) blink))
    (c.min.ensures ∙ ap (λ (u : ℕ). min ((u + 1) % 2 ^ 32) 6) c.saturating_f64_to_u32.ensures)
