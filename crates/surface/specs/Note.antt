-- A flash that can be played. Definitions only.
use Rattle.std.specs.Prelude.{◌+◌, Bool, true, leb}
use Rattle.base.specs.Choice.{pick}
use Rattle.session.specs.declared.Flash.{Flash}

-- a flash that plays has a note of one byte; where none plays, base and column are free
abbrev pub has_note : Flash → Bool
has_note f = pick f.on (leb (f.base + f.column) 255) true
