-- The bytes that an event leaves in its buffers, of the calls and messages that it made. Definitions only.
use Rattle.std.specs.Prelude.{ℕ, List, [], ◌∷◌, ◌++◌, map}
use Rattle.drivers.specs.Shown.{call_bytes}
use Rattle.drivers.specs.declared.Call.{Call}

-- lists one behind another
unfoldable pub joined : List (List ℕ) → List ℕ
joined [] = []
joined (l ∷ ls) = l ++ joined ls

-- the records of calls, in order
unfoldable pub encode : List Call → List ℕ
encode cs = joined (map call_bytes cs)
