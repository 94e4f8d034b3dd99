-- Calls one behind the other and the answers that they take, and that a line that has stopped does not go on. Assumes nothing.
use Rattle.std.specs.Prelude.{ℕ, ◌≡◌, refl, List, [], ◌∷◌, ◌++◌}
use Rattle.std.proofs.Common.{arith, ap}
use Rattle.drivers.specs.declared.line.Stop.TheVariants.{Going, Waits, Declined, Overrun}
use Rattle.drivers.specs.Paired.{Asked, reply_to, behind, after, paired}
use Rattle.drivers.specs.declared.Call.{Call}

pub after-append : (l m : List Call) (ans : List ℕ) → after (l ++ m) ans ≡ after m (after l ans)
unfolding after
after-append [] m ans = refl
after-append (c ∷ l) m ans = after-append l m (behind c ans)

pub paired-append : (l m : List Call) (ans : List ℕ) → paired (l ++ m) ans ≡ paired l ans ++ paired m (after l ans)
unfolding paired after
paired-append [] m ans = refl
paired-append (c ∷ l) m ans = ap (λ (r : List Asked). record { call = c; reply = reply_to c ans } ∷ r) (paired-append l m (behind c ans))

pub waits_on : {c : Call} → Waits c ≡ Going → ⊥
waits_on e = let z : ◌≡◌ {A = ℕ} 0 1 = cc in omega arith

pub declined_on : Declined ≡ Going → ⊥
declined_on e = let z : ◌≡◌ {A = ℕ} 0 1 = cc in omega arith

pub overrun_on : Overrun ≡ Going → ⊥
overrun_on e = let z : ◌≡◌ {A = ℕ} 0 1 = cc in omega arith
