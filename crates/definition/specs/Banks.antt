-- Selecting a bank: `select_bank`, `step_bank`. Definitions only.
use Rattle.std.specs.Prelude.{ℕ, zero, suc, ◌+◌, List, Bool, true, false, eqb, leb, ltb, Float}
use Rattle.base.specs.Choice.{pick}
use Rattle.drivers.specs.Talk.{Act, got, next}
use Rattle.session.specs.declared.Lamps.{Lamps}
use Rattle.session.specs.declared.Moves.{Moves}
use Rattle.definition.specs.Rig.{Rig}
use Rattle.definition.specs.Lamps.{push_state}
use Rattle.definition.specs.Flash.{flash_bank}

-- the bank after a press, the lamps, and whether one was selected: "Bank selection .. clear all marks", and it saves
pub record Selected : Type 0 where
  pub bank : ℕ
  pub lamps : Lamps
  pub selected : Bool

abbrev pub selected_as : ℕ → Lamps → Bool → Selected
selected_as b l done = record { bank = b; lamps = l; selected = done }

abbrev pub select_if : Bool → (ℕ → Rig) → ℕ → ℕ → List ℕ → Moves → Float → Lamps → Act Selected
select_if true rig_at bank i s m now l t = got (selected_as bank l false) t
select_if false rig_at bank i s m now l t =
    next (flash_bank (rig_at i) s m now l (push_state (rig_at i) l s t)) (λ k. got (selected_as i k true))

-- `select_bank`: a bank that the profile does not have is not selected. rig_at is the rig of any bank
unfoldable pub select_bank : (ℕ → Rig) → ℕ → ℕ → ℕ → List ℕ → Moves → Float → Lamps → Act Selected
select_bank rig_at banks bank i s m now l = select_if (leb banks i) rig_at bank i s m now l

-- the next bank on that side: the ends hold instead of wrapping
abbrev pub step_left : ℕ → ℕ
step_left zero = zero
step_left (suc n) = n

unfoldable pub next_bank : Bool → ℕ → ℕ → ℕ
next_bank true banks bank = pick (ltb (bank + 1) banks) (bank + 1) bank
next_bank false banks bank = step_left bank

abbrev pub step_if : Bool → (ℕ → Rig) → ℕ → ℕ → ℕ → List ℕ → Moves → Float → Lamps → Act Selected
step_if true rig_at banks bank i s m now l t = got (selected_as bank l false) t
step_if false rig_at banks bank i s m now l t = select_bank rig_at banks bank i s m now l t

-- `step_bank`
unfoldable pub step_bank : Bool → (ℕ → Rig) → ℕ → ℕ → List ℕ → Moves → Float → Lamps → Act Selected
step_bank right rig_at banks bank s m now l =
    step_if (eqb (next_bank right banks bank) bank) rig_at banks bank (next_bank right banks bank) s m now l
