-- The flash stays well shaped: a new one shows a number below 64 with its first phase sent, and a tick sends up to six.
use Rattle.std.specs.Prelude.{ℕ, ◌≤◌, ◌≡◌, Bool, ◌||◌, not, List, [], ◌∷◌, eqb, leb, Float}
use Rattle.std.proofs.Math.Path.{refl}
use Rattle.std.proofs.Math.Bool.{true, false}
use Rattle.std.proofs.Common.{arith, leb-true, leb-false, le-leb}
use Rattle.base.specs.Range.{every}
use Rattle.base.proofs.RangeLaws.{every-at}
use Rattle.float.specs.Leaf.{due_of, flash_over}
use Rattle.float.proofs.LeafLaws.{due-most}
use Rattle.drivers.specs.Talk.{Talk, Act}
use Rattle.session.specs.Session.{flashing, no_flash}
use Rattle.session.specs.declared.Flash.{Flash}
use Rattle.session.specs.declared.Lamps.{Lamps}
use Rattle.session.specs.declared.Moves.{Moves}
use Rattle.definition.specs.Rig.{Rig}
use Rattle.definition.specs.Flash.{flash_of, show_number, flash_number, flash_bank, sent_up_to, end_if, tick_if, tick_flash}
use Rattle.definition.specs.Shape.{shaped_flash}

-- what document 01 asks of a flash that is on
abbrev pub base_ok : ℕ → Bool
base_ok base = eqb base 0 || eqb base 8

pub record Playing (f : Flash) : Type 0 where
  pub row : f.row ≤ 7
  pub column : f.column ≤ 7
  pub base : base_ok f.base ≡ true
  pub begun : 1 ≤ f.sent
  pub most : f.sent ≤ 6

playing-shaped : (f : Flash) → Playing f → shaped_flash f ≡ true
unfolding shaped_flash every
playing-shaped f h = go f.on
  where
    tests : every (leb f.row 7 ∷ leb f.column 7 ∷ base_ok f.base ∷ leb 1 f.sent ∷ leb f.sent 6 ∷ []) ≡ true
    tests = rw (le-leb f.row 7 h.row, le-leb f.column 7 h.column, h.base, le-leb 1 f.sent h.begun, le-leb f.sent 6 h.most)

    go : (b : Bool) →
        (not b || every (leb f.row 7 ∷ leb f.column 7 ∷ base_ok f.base ∷ leb 1 f.sent ∷ leb f.sent 6 ∷ [])) ≡ true
    go true = tests
    go false = refl

pub shaped-playing : (f : Flash) → shaped_flash f ≡ true → f.on ≡ true → Playing f
unfolding shaped_flash
shaped-playing f h e =
    let t : every (leb f.row 7 ∷ leb f.column 7 ∷ base_ok f.base ∷ leb 1 f.sent ∷ leb f.sent 6 ∷ []) ≡ true = rw e at h in
    record {
      row = leb-true f.row 7 (every-at _ 0 t);
      column = leb-true f.column 7 (every-at _ 1 t);
      base = every-at _ 2 t;
      begun = leb-true 1 f.sent (every-at _ 3 t);
      most = leb-true f.sent 6 (every-at _ 4 t);
    }

abbrev pub Shaped : Lamps → Type 0
Shaped l = shaped_flash l.flash ≡ true

-- the lamps that an act gives are, whatever the line
abbrev pub Gives : Act Lamps → Type 0
Gives f = (t : Talk) → Shaped (f t).value

no_flash_lem : shaped_flash no_flash ≡ true
unfolding shaped_flash no_flash
no_flash_lem = refl

show_gives : (b : Bool) (now : Float) (n base : ℕ) (l : Lamps) → leb 64 n ≡ b → base_ok base ≡ true → Gives (show_number b now n base l)
unfolding flashing
show_gives true now n base l e ok t = no_flash_lem
show_gives false now n base l e ok t =
    playing-shaped (flash_of now n base)
    (record { row = omega (arith, leb-false 64 n e); column = omega arith; base = ok; begun = omega arith; most = omega arith })

pub number_gives : (r : Rig) (s : List ℕ) (m : Moves) (now : Float) (n base : ℕ) (l : Lamps) → base_ok base ≡ true → Gives (flash_number r s m now n base l)
unfolding flash_number
number_gives r s m now n base l ok t = show_gives (leb 64 n) now n base l refl ok _

pub bank_gives : (r : Rig) (s : List ℕ) (m : Moves) (now : Float) (l : Lamps) → Gives (flash_bank r s m now l)
unfolding flash_bank
bank_gives r s m now l = number_gives r s m now r.here.bank 0 l refl

module _ (r : Rig) (s : List ℕ) (m : Moves) (now : Float) (l : Lamps) (h : Shaped l) where
  end_gives : (b : Bool) (k : Lamps) → Shaped k → Gives (end_if b r s m k)
  unfolding flashing
  end_gives true k i t = no_flash_lem
  end_gives false k i t = i

  sent_shaped : (due : ℕ) → l.flash.on ≡ true → due ≤ 6 → shaped_flash (sent_up_to due l.flash) ≡ true
  sent_shaped due e d =
      let w = shaped-playing l.flash h e in
      playing-shaped (sent_up_to due l.flash)
      (record { row = w.row; column = w.column; base = w.base; begun = omega (arith, w.begun); most = omega (arith, w.most, d) })

  tick_if_gives : (b : Bool) → l.flash.on ≡ b → Gives (tick_if b r s m now l)
  unfolding flashing
  tick_if_gives true e t =
      let due = due_of now l.flash.start in
      end_gives (flash_over now l.flash.start) (flashing (sent_up_to due l.flash) l) (sent_shaped due e (due-most now l.flash.start)) _
  tick_if_gives false e t = h

  pub tick_gives : Gives (tick_flash r s m now l)
  unfolding tick_flash
  tick_gives = tick_if_gives l.flash.on refl
