-- The peers of a fader by number, and what they add to the silenced targets. Assumes nothing.
use Rattle.std.proofs.Common.{None, Option, ℕ, zero, suc, ◌+◌, ◌-◌, ◌≤◌, ◌≡◌, refl, List, arith, get_or}
use Rattle.lookup.specs.declared.Destination.{Destination}
use Rattle.definition.specs.Muting.{solo_adds}
use Rattle.solos.specs.Peers.{seen_peers}

-- the peer at place n has number n + 1
pub numbered : (p : List (Option Destination)) (n : ℕ) → seen_peers p (n + 1) ≡ get_or p n None
numbered p n = let q : n + 1 - 1 ≡ n = omega arith in rw q

-- what the faders 1 to n add depends on no other
pub same_adds : (f g : ℕ → Option Destination) (fader : ℕ) (ts : List ℕ) (n : ℕ) → ((k : ℕ) → 1 ≤ k → k ≤ n → f k ≡ g k) →
    solo_adds f fader ts n ≡ solo_adds g fader ts n
unfolding solo_adds
same_adds f g fader ts zero e = refl
same_adds f g fader ts (suc n) e =
    rw (e (n + 1) (omega arith) (omega arith), same_adds f g fader ts n (λ k a b. e k a (omega arith)))
