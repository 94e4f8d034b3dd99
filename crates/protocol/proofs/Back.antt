-- A message that is sent, decoded, is the button or the fader that it was sent for. Assumes nothing.
use Prim.Native.Nat.{ℕ, ◌+◌, ◌/◌, ◌%◌}
use mathlib.Core.Path.{◌≡◌, refl}
use mathlib.Core.Bool.{true, false}
use native.Mathlib.Omega.{arith}
use borrow.Author.Tests.{eq-eqb}
use Rattle.protocol.specs.Protocol.{decode_of, bytes_of, heard_of, raw_of}
use Rattle.protocol.specs.declared.Out.{Out}
use Rattle.protocol.specs.declared.Out.TheVariants.{Led, Position}

family : (c : ℕ) → (224 + c % 16) / 16 ≡ 14
family c = omega arith

channel : (c : ℕ) → (224 + c % 16) % 16 ≡ c % 16
channel c = omega arith

-- the 14 bits of a position, taken apart and joined again
joined : (raw : ℕ) → raw_of (raw % 128) (raw / 128 % 256) ≡ raw % 16384
joined raw = omega arith

pub reads_back : (out : Out) → decode_of (bytes_of out) ≡ heard_of out
unfolding decode_of bytes_of
reads_back (Led note true) = refl
reads_back (Led note false) = refl
reads_back (Position c raw) = rw (eq-eqb _ _ (family c), channel c, joined raw)
