-- The kinds of call and their numbers: "0 open, 1 read, 2 write, 3 toggle, 4 command .., 5 playing, 6 scenes, 7 current scene, 8 load .., 9 live faders". Definitions only.
use Rattle.std.specs.Prelude.{ℕ, ◌≡◌, ◌≤◌, Result, Ok, Err}
use Rattle.drivers.specs.declared.kind.Kind.{Kind}
use Rattle.drivers.specs.declared.kind.Kind.TheVariants.{Open, Read, Write, Toggle, Command, Playing, Scenes, Current, Load, Live}
use Rattle.drivers.specs.declared.kind.UnknownKind.{UnknownKind}

abbrev pub number_of : Kind → ℕ
number_of Open = 0
number_of Read = 1
number_of Write = 2
number_of Toggle = 3
number_of Command = 4
number_of Playing = 5
number_of Scenes = 6
number_of Current = 7
number_of Load = 8
number_of Live = 9

-- the kind of the number; every number above 9 is no kind's
abbrev pub Decodes : ℕ → Result Kind UnknownKind → Type 0
Decodes n (Ok k) = number_of k ≡ n
Decodes n (Err e) = 10 ≤ n
