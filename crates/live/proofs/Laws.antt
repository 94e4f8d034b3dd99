-- Whom a refresh asks: a bank that is live and has a driver of its own. Assumes nothing.
use Rattle.std.proofs.Common.{Option, None, Some}
use Prim.Native.Nat.{ℕ}
use mathlib.Core.Path.{◌≡◌, refl}
use mathlib.Core.Bool.{Bool, true, false, ◌||◌}
use mathlib.Core.List.{List}
use lib.Dec.{eqb}
use Rattle.lookup.specs.Lookup.{named}
use Rattle.lookup.proofs.NamedLaws.{is_absent, is_there}
use Rattle.drivers.specs.Talk.{Talk, got}
use Rattle.session.specs.declared.Strip.{Strip}
use Rattle.session.specs.declared.Lamps.{Lamps}
use Rattle.definition.specs.Rig.{Rig}
use Rattle.definition.specs.Live.{refreshed, ask_if, refresh_live}

module _ (known : Option (List Strip)) (r : Rig) (x : Lamps) (s : List ℕ) (t : Talk) where
  pub asks : (driver which : ℕ) → Some driver ≡ named r.here.part.device → Some which ≡ named r.here.part.live →
      ask_if false known r x s t ≡ refresh_live known r x s t
  unfolding refresh_live
  asks driver which d w = rw (is_there r.here.part.device driver d, is_there r.here.part.live which w) refl

  pub no_driver : None ≡ named r.here.part.device → got (refreshed r.here.strips false) t ≡ refresh_live known r x s t
  unfolding refresh_live
  no_driver d = go (eqb r.here.part.live 65535) refl
    where
      go : (b : Bool) → eqb r.here.part.live 65535 ≡ b → got (refreshed r.here.strips false) t ≡ ask_if (b || eqb r.here.part.device 65535) known r x s t
      go true q = refl
      go false q = rw (is_absent r.here.part.device d) refl

  pub not_live : None ≡ named r.here.part.live → got (refreshed r.here.strips false) t ≡ refresh_live known r x s t
  unfolding refresh_live
  not_live w = rw (is_absent r.here.part.live w) refl
