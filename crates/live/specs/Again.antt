-- What a refresh leaves of a live bank. Definitions only.
use Rattle.std.specs.Prelude.{List, true, false, Option, None, Some}
use Rattle.session.specs.Session.{seen_strips, strips_or}
use Rattle.session.specs.declared.Strip.{Strip}
use Rattle.session.specs.declared.Strips.{Strips}
use Rattle.definition.specs.Live.{Refreshed, refreshed}

-- what the definition sees of it: the list as it was before, or another one
abbrev pub seen_again : List Strip → Option Strips → Refreshed
seen_again before None = refreshed before false
seen_again before (Some s) = refreshed (strips_or (seen_strips s)) true
