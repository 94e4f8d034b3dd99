-- The messages and the calls that are read from the start of a buffer are the buffer's. Assumes nothing.
use Rattle.std.specs.Prelude.{ℕ, zero, suc, ◌+◌, ◌*◌, ◌/◌, ◌≤◌, ◌<◌, ◌≡◌, List, length, take, get_or}
use Rattle.std.proofs.Common.{arith, get_or-take, length-take-le}
use Rattle.std.proofs.Math.Path.{refl}
use Rattle.base.specs.Words.{le64}
use Rattle.drivers.specs.Shown.{call_at, calls_in, message_at, messages_in}

module _ (bs : List ℕ) (m : ℕ) where
  kept : (j : ℕ) → j < m → get_or (take m bs) j 0 ≡ get_or bs j 0
  kept j l = get_or-take m bs j 0 l

  message_kept : (a : ℕ) → a + 3 ≤ m → message_at (take m bs) a ≡ message_at bs a
  message_kept a l = rw (kept (a + 2) (omega arith), kept (a + 1) (omega arith), kept a (omega arith))

  call_kept : (a : ℕ) → a + 16 ≤ m → call_at (take m bs) a ≡ call_at bs a
  unfolding le64
  call_kept a l =
      rw (
        kept (a + 8 + 4 + 2 + 1) (omega arith),
        kept (a + 8 + 4 + 2) (omega arith),
        kept (a + 8 + 4 + 1) (omega arith),
        kept (a + 8 + 4) (omega arith),
        kept (a + 8 + 2 + 1) (omega arith),
        kept (a + 8 + 2) (omega arith),
        kept (a + 8 + 1) (omega arith),
        kept (a + 8) (omega arith),
        kept (a + 4 + 2 + 1) (omega arith),
        kept (a + 4 + 2) (omega arith),
        kept (a + 4 + 1) (omega arith),
        kept (a + 4) (omega arith),
        kept (a + 2 + 1) (omega arith),
        kept (a + 2) (omega arith),
        kept (a + 1) (omega arith),
        kept a (omega arith),
      )

  messages_kept : (n : ℕ) → 3 * n ≤ m → messages_in n (take m bs) ≡ messages_in n bs
  unfolding messages_in
  messages_kept zero l = refl
  messages_kept (suc n) l = rw (messages_kept n (omega arith), message_kept (3 * n) (omega arith))

  calls_kept : (n : ℕ) → 16 * n ≤ m → calls_in n (take m bs) ≡ calls_in n bs
  unfolding calls_in
  calls_kept zero l = refl
  calls_kept (suc n) l = rw (calls_kept n (omega arith), call_kept (16 * n) (omega arith))

-- the first n messages, in a buffer of their own
pub messages_first : (bs : List ℕ) (n : ℕ) → 3 * n ≤ length bs → messages_in (length (take (3 * n) bs) / 3) (take (3 * n) bs) ≡ messages_in n bs
messages_first bs n l =
    let many : length (take (3 * n) bs) / 3 ≡ n = omega (arith, length-take-le (3 * n) bs l) in rw many (messages_kept bs (3 * n) n (omega arith))

pub calls_first : (bs : List ℕ) (n : ℕ) → 16 * n ≤ length bs → calls_in (length (take (16 * n) bs) / 16) (take (16 * n) bs) ≡ calls_in n bs
calls_first bs n l =
    let many : length (take (16 * n) bs) / 16 ≡ n = omega (arith, length-take-le (16 * n) bs l) in rw many (calls_kept bs (16 * n) n (omega arith))
