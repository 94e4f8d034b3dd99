-- Texts that were put one behind the other are the text that they make. Assumes nothing.
use Rattle.std.specs.Prelude.{ℕ, ◌≡◌, List, [], ◌++◌}
use Rattle.std.specs.Fmt.{WritesInCalls}
use Rattle.std.proofs.Common.{subst}
use Rattle.std.proofs.Output.{writes_in_calls_append, writes_in_calls_nil, writes_in_calls_single}

module _ {W : Type 0} {took : W → List ℕ → W → Type 0} where
  -- nothing
  pub put_none : {a : W} → WritesInCalls took a [] a
  put_none {a = a} = writes_in_calls_nil took a

  -- a piece that was taken
  pub put_one : {a b : W} {x : List ℕ} → took a x b → WritesInCalls took a x b
  put_one t = writes_in_calls_single took _ _ _ t

  pub put_as : {a b : W} {x all : List ℕ} → x ≡ all → WritesInCalls took a x b → WritesInCalls took a all b
  put_as {a = a} {b = b} is = subst (λ (l : List ℕ). WritesInCalls took a l b) is

  pub put_two : {a b c : W} {x y : List ℕ} → WritesInCalls took a x b → WritesInCalls took b y c → WritesInCalls took a (x ++ y) c
  put_two p q = writes_in_calls_append took _ _ _ _ _ p q

  pub put_three : {a b c d : W} {x y z : List ℕ} → WritesInCalls took a x b → WritesInCalls took b y c → WritesInCalls took c z d → WritesInCalls took a (x ++ (y ++ z)) d
  put_three p q r = put_two p (put_two q r)

  pub put_four : {a b c d e : W} {x y z v : List ℕ} →
      WritesInCalls took a x b → WritesInCalls took b y c → WritesInCalls took c z d → WritesInCalls took d v e → WritesInCalls took a (x ++ (y ++ (z ++ v))) e
  put_four p q r s = put_two p (put_three q r s)
