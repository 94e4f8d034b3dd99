-- Paging through the scenes of the current device, and loading them: `scene_names`, `step_scene`, `scene_on_device`, `load_scene_at`, `scene`.
-- Definitions only.
use Rattle.std.specs.Prelude.{ℕ, ◌+◌, ◌-◌, min, List, [], Bool, true, false, ◌||◌, eqb, leb, ltb, length, get_or, Float, None, Option, Some}
use Rattle.base.specs.Words.{absent}
use Rattle.base.specs.Choice.{pick}
use Rattle.lookup.specs.Lookup.{position}
use Rattle.drivers.specs.Talk.{Act, got, next, ◌>>=◌, scenes_of, current_of, load_of}
use Rattle.session.specs.Session.{scene_at, scene_to, scene_unknown, solo_to, none_noted, loaded_by}
use Rattle.session.specs.declared.Lamps.{Lamps}
use Rattle.session.specs.declared.Moves.{Moves}
use Rattle.definition.specs.Rig.{Rig, Here, device}
use Rattle.definition.specs.Lamps.{push_state}
use Rattle.definition.specs.Flash.{flash_number}

-- ── which scenes there are ──

abbrev pub names_on : Bool → ℕ → Act (List ℕ)
names_on true driver t = got [] t
names_on false driver t = next (scenes_of driver t) (λ l. got l.list)

abbrev pub names_if : Bool → Here → Act (List ℕ)
names_if false h t = got h.part.scenes t
names_if true h t = names_on (eqb (device h) absent) (device h) t

-- `scene_names`: the profile's list when it has one, otherwise whatever the device itself reports
unfoldable pub scene_names : Here → Act (List ℕ)
scene_names h = names_if (eqb (length h.part.scenes) 0) h

-- ── where the device is ──

-- the name at place i of the device's own list, as a place in `names`
abbrev pub place_of : List ℕ → ℕ → List ℕ → Option ℕ
place_of names i all = pick (ltb i (length all)) (position (get_or all i absent) names) None

abbrev pub on_list : Option ℕ → ℕ → List ℕ → Act (Option ℕ)
on_list (Some i) driver names t = next (scenes_of driver t) (λ l. got (place_of names i l.list))
on_list None driver names t = got None t

abbrev pub on_device_if : Bool → ℕ → List ℕ → Act (Option ℕ)
on_device_if true driver names t = got None t
on_device_if false driver names t = next (current_of driver t) (λ i. on_list i driver names)

-- `scene_on_device`
unfoldable pub scene_on_device : Here → List ℕ → Act (Option ℕ)
scene_on_device h names = on_device_if (eqb (device h) absent) (device h) names

-- ── loading ──

-- what a press left: the lamps' state, whether a scene was loaded, and whether the positions were saved
pub record Paged : Type 0 where
  pub lamps : Lamps
  pub loaded : Bool
  pub saved : Bool

abbrev pub paged : Lamps → Bool → Bool → Paged
paged l a b = record { lamps = l; loaded = a; saved = b }

abbrev pub or_same : Option ℕ → ℕ → ℕ
or_same (Some k) i = k
or_same None i = i

abbrev pub load_if : Bool → ℕ → ℕ → ℕ → List ℕ → Act Bool
load_if true driver name i all t = load_of driver (or_same (position name all) i) t
load_if false driver name i all t = got false t

-- the driver loads by its own list: the scene of the name, or the place itself where it has no such name
unfoldable pub load_on : ℕ → ℕ → ℕ → Act Bool
load_on driver name i = scenes_of driver >>= λ l. load_if l.ok driver name i l.list

-- once scene i is loaded its position is kept, and no fader is soloed
abbrev pub after_load : ℕ → ℕ → Lamps → Lamps
after_load bank i l = none_noted (solo_to 0 (scene_to bank i l))

-- a load's success, with the lamps' state after it
pub record Loaded : Type 0 where
  pub lamps : Lamps
  pub ok : Bool

abbrev pub loaded : Lamps → Bool → Loaded
loaded l b = record { lamps = l; ok = b }

abbrev pub loaded_if : Bool → Rig → List ℕ → ℕ → Lamps → Act Loaded
loaded_if true r s i l t = got (loaded (after_load r.here.bank i l) true) (push_state r (after_load r.here.bank i l) s t)
loaded_if false r s i l t = got (loaded l false) t

abbrev pub load_at_if : Bool → Rig → List ℕ → ℕ → Lamps → List ℕ → Act Loaded
load_at_if true r s i l names t = got (loaded l false) t
load_at_if false r s i l names t = next (load_on (device r.here) (get_or names i absent) i t) (λ ok. loaded_if ok r s i l)

-- `load_scene_at`
unfoldable pub load_scene_at : Rig → List ℕ → ℕ → Lamps → Act Loaded
load_scene_at r s i l =
    scene_names r.here >>= λ names. load_at_if (eqb (device r.here) absent || leb (length names) i) r s i l names

-- ── the arrows ──

-- the lamps' state with a position, or none, and whether that was saved
pub record Started : Type 0 where
  pub lamps : Lamps
  pub saved : Bool

abbrev pub started : Lamps → Bool → Started
started l b = record { lamps = l; saved = b }

abbrev pub placed : ℕ → Option ℕ → Lamps → Lamps
placed bank (Some i) l = scene_to bank i l
placed bank None l = scene_unknown bank l

abbrev pub start_if : Option ℕ → Here → List ℕ → Lamps → Act Started
start_if (Some i) h names l t = got (started l false) t
start_if None h names l t = next (scene_on_device h names t) (λ p. got (started (placed h.bank p l) true))

-- where no position is kept, the device's own is: a scene picked there is the starting point of the next arrow
unfoldable pub start : Here → List ℕ → Lamps → Act Started
start h names l = start_if (scene_at h.bank l) h names l

-- one on or one back, "The ends hold"; "either arrow loads scene 0" where no position is known
abbrev pub next_scene : Bool → Option ℕ → ℕ → ℕ
next_scene right None count = 0
next_scene true (Some s) count = min (s + 1) (count - 1)
next_scene false (Some s) count = min (s - 1) (count - 1)

abbrev pub is_at : Option ℕ → ℕ → Bool
is_at (Some s) i = eqb s i
is_at None i = false

-- the number is shown on the SOLO lamps
abbrev pub shown_if : Bool → Rig → List ℕ → Moves → Float → ℕ → Lamps → Bool → Act Paged
shown_if true r s m now i l saved t = next (flash_number r s m now i 0x08 l t) (λ k. got (paged k true true))
shown_if false r s m now i l saved t = got (paged l false saved) t

-- "Reloading at the list's end: nothing happens"
abbrev pub page_if : Bool → Rig → List ℕ → Moves → Float → ℕ → Started → Act Paged
page_if true r s m now i x t = got (paged x.lamps false x.saved) t
page_if false r s m now i x t =
    next (load_scene_at r s i x.lamps t) (λ k. shown_if k.ok r s m now i k.lamps x.saved)

abbrev pub page_to : Bool → Rig → List ℕ → Moves → Float → ℕ → Started → Act Paged
page_to right r s m now count x =
    page_if (is_at (scene_at r.here.bank x.lamps) (next_scene right (scene_at r.here.bank x.lamps) count)) r s m now
    (next_scene right (scene_at r.here.bank x.lamps) count) x

abbrev pub step_scene_if : Bool → Bool → Rig → List ℕ → Moves → Float → Lamps → List ℕ → Act Paged
step_scene_if true right r s m now l names t = got (paged l false false) t
step_scene_if false right r s m now l names t = next (start r.here names l t) (page_to right r s m now (length names))

-- `step_scene`
unfoldable pub step_scene : Bool → Rig → List ℕ → Moves → Float → Lamps → Act Paged
step_scene right r s m now l =
    scene_names r.here >>= λ names. step_scene_if (eqb (length names) 0) right r s m now l names

-- ── R ──

abbrev pub scene_if : Bool → Rig → List ℕ → Moves → Float → ℕ → Lamps → Act Paged
scene_if true r s m now n l t = next (flash_number r s m now (n - 1) 0x08 (loaded_by n l) t) (λ k. got (paged k true true))
scene_if false r s m now n l t = got (paged l false false) t

-- `scene`: R n loads the n-th scene of the same list that the arrows page
unfoldable pub scene : Rig → List ℕ → Moves → Float → ℕ → Lamps → Act Paged
scene r s m now n l = load_scene_at r s (n - 1) l >>= λ k. scene_if k.ok r s m now n k.lamps
