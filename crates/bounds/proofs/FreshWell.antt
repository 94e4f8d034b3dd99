-- A fresh session is well shaped. That an event leaves a well-shaped session well shaped is in proofs/WellStep.
use Rattle.std.specs.Prelude.{ℕ, zero, suc, ◌≡◌, List, map, replicate}
use Rattle.std.proofs.Math.Path.{refl}
use Rattle.std.proofs.Common.{arith}
use Rattle.base.specs.Keyed.{no_twice, beside}
use Rattle.profile.specs.Profile.{verdict}
use Rattle.profile.proofs.Accepted.{some_bank}
use Rattle.session.specs.Session.{fresh_session, no_strips, seen_strips}
use Rattle.session.proofs.SessionLaws.{no_strips_lem, line_empty}
use Rattle.definition.specs.Shape.{shaped_flash}
use Rattle.definition.specs.Step.{seen, fresh_kept}
use Rattle.bounds.specs.Well.{Well}
use Rattle.bounds.proofs.WellLive.{WellLives}
use Rattle.bounds.proofs.WellDesk.{no_turns_lem}

-- ── a fresh session ──

none_live : (n : ℕ) → WellLives (map seen_strips (replicate n no_strips))
unfolding seen_strips
none_live zero b = no_strips_lem
none_live (suc n) zero = no_strips_lem
none_live (suc n) (suc b) = none_live n b

pub fresh_well : (p : List ℕ) → verdict p ≡ 0 → Well p fresh_kept
unfolding seen fresh_session beside no_twice shaped_flash
fresh_well p sound =
    let none-turned = no_turns_lem p in
    record {
      bank = omega (arith, some_bank p sound);
      line = line_empty;
      lives = none_live 16;
      few = none-turned.few;
      wired = none-turned.wired;
      sums = none-turned.sums;
      destinations = none-turned.destinations;
      held = omega arith;
      targets = refl;
      flash = refl;
      opened = refl;
    }
