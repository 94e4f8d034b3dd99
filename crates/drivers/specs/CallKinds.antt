-- The kinds of call by name: "0 open, 1 read, 2 write, 3 toggle, 4 command .., 5 playing, 6 scenes, 7 current scene, 8 load .., 9 live faders". Definitions only.
use Rattle.std.specs.Prelude.{ℕ}

abbrev pub open_kind : ℕ
open_kind = 0

abbrev pub read_kind : ℕ
read_kind = 1

abbrev pub write_kind : ℕ
write_kind = 2

abbrev pub toggle_kind : ℕ
toggle_kind = 3

abbrev pub command_kind : ℕ
command_kind = 4

abbrev pub playing_kind : ℕ
playing_kind = 5

abbrev pub scenes_kind : ℕ
scenes_kind = 6

abbrev pub current_scene_kind : ℕ
current_scene_kind = 7

abbrev pub load_kind : ℕ
load_kind = 8

abbrev pub live_faders_kind : ℕ
live_faders_kind = 9
