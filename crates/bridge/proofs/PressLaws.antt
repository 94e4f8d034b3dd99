-- What a press does by the kind of its button. Assumes nothing.
use Prim.Native.Nat.{ℕ, ◌+◌, ◌-◌, ◌<◌}
use mathlib.Core.Path.{◌≡◌, refl, sym, ap, ◌∙◌}
use mathlib.Core.Bool.{Bool, true, false, true≢false}
use mathlib.Core.List.{List, [], ◌∷◌}
use native.Mathlib.Omega.{arith}
use lib.Dec.{eqb, leb}
use lib.ListN.{length, get_or}
use borrow.Author.Tests.{ltb-true, ne_eqb}
use Rattle.std.proofs.Common.{None, Option, Some}
use Rattle.std.specs.Option.{unwrap_or}
use Rattle.base.proofs.RangeLaws.{and_right}
use Rattle.base.proofs.FirstLaws.{first-at}
use Rattle.protocol.specs.Protocol.{channel_bases, is_of_base, base_of, channel_by, number_of, kind_of, channel_of}
use Rattle.protocol.specs.declared.Button.{Button}
use Rattle.protocol.specs.declared.Kind.{Kind}
use Rattle.protocol.specs.declared.Kind.TheVariants.{Rec, Solo, Mute, Select, BankLeft, BankRight, ArrowLeft, ArrowRight, ArrowUp, ArrowDown, Rewind, Forward, Stop, Play, Record, Unknown}
use Rattle.profile.specs.Profile.{bank_count}
use Rattle.profile.proofs.Accepted.{few_banks}
use Rattle.drivers.specs.Talk.{Talk}
use Rattle.session.specs.declared.Lamps.{Lamps}
use Rattle.definition.specs.Banks.{next_bank}
use Rattle.definition.specs.Muting.{added_by_solo, added_by_mute}
use Rattle.definition.specs.Buttons.{Press, page, walk, rec, select_as, mute_as, solo_as, command, or_first, press_of, button}
use Rattle.rig.specs.Seen.{rig_in}
use Rattle.rig.specs.declared.current.Current.{Current}
use Rattle.rig.specs.declared.current.Accepted.{Accepted}
use Rattle.bridge.specs.Presses.{selected_by, bank_after, added_of}
use Rattle.bridge.specs.Which.{bank_by, adds_by}

-- ── the channel ──

-- a base that has the note has it among its eight
channel_by_lem : (note c : ℕ) (b : Option ℕ) → base_of note ≡ b → channel_by note b ≡ Some c → c < 8
unfolding base_of
channel_by_lem note c (Some k) e q =
    let w = first-at (is_of_base note) 4 k e in
    let low : note < get_or channel_bases k 0 + 8 = ltb-true _ _ (and_right (leb (get_or channel_bases k 0) note) _ w.1) in
    let is : note - get_or channel_bases k 0 ≡ c = cc in
    omega arith
channel_by_lem note c None e q = let z : ◌≡◌ {A = Bool} true false = cc in absurd (true≢false z)

-- so every button's channel is one of eight
pub low_channel : (note : ℕ) (f : Option ℕ) → f ≡ channel_of note → unwrap_or f 0 < 8
unfolding channel_of
low_channel note (Some c) e = channel_by_lem note c (base_of note) refl (sym e)
low_channel note None e = omega arith

-- ── kinds ──

abbrev kinds : List Kind
kinds =
    Rec ∷ Solo ∷ Mute ∷ Select ∷ BankLeft ∷ BankRight ∷ ArrowLeft ∷ ArrowRight ∷ ArrowUp ∷ ArrowDown ∷ Rewind ∷ Forward ∷ Stop ∷ Play ∷ Record ∷ Unknown ∷ []

back : (k : Kind) → get_or kinds (number_of k) Unknown ≡ k
unfolding number_of
back Rec = refl
back Solo = refl
back Mute = refl
back Select = refl
back BankLeft = refl
back BankRight = refl
back ArrowLeft = refl
back ArrowRight = refl
back ArrowUp = refl
back ArrowDown = refl
back Rewind = refl
back Forward = refl
back Stop = refl
back Play = refl
back Record = refl
back Unknown = refl

-- two kinds have two numbers
other : (k j : Kind) (n : ℕ) → number_of j ≡ n → (k ≡ j → ⊥) → eqb (number_of k) n ≡ false
other k j n e d = ne_eqb (number_of k) n (λ q. d (sym (back k) ∙ ap (λ i. get_or kinds i Unknown) (q ∙ sym e) ∙ back j))

-- a bank of an accepted profile is one of sixteen
pub low_bank : (c : Accepted) → c.here.bank < bank_count c.here.profile.now → c.here.bank < 16
low_bank c h = let few = few_banks c.here.profile.now c.accepted in omega arith

module _ (k : Kind) (note : ℕ) (e : number_of k ≡ kind_of note) where
  pub other_note : (j : Kind) (n : ℕ) → number_of j ≡ n → (k ≡ j → ⊥) → eqb (kind_of note) n ≡ false
  other_note j n q d = rw (← e) (other k j n q d)

  -- ── the bank after a press ──

  module _ (p : List ℕ) (bank : ℕ) where
    pub bank_right : k ≡ BankRight → next_bank true (bank_count p) bank ≡ bank_after p bank note
    unfolding bank_after number_of
    bank_right q = rw (← e, q)

    pub bank_down : k ≡ ArrowDown → next_bank true (bank_count p) bank ≡ bank_after p bank note
    unfolding bank_after number_of
    bank_down q = rw (← e, q)

    pub bank_left : k ≡ BankLeft → next_bank false (bank_count p) bank ≡ bank_after p bank note
    unfolding bank_after number_of
    bank_left q = rw (← e, q)

    pub bank_up : k ≡ ArrowUp → next_bank false (bank_count p) bank ≡ bank_after p bank note
    unfolding bank_after number_of
    bank_up q = rw (← e, q)

    pub bank_selected : (ch : ℕ) → ch ≡ or_first (channel_of note) → k ≡ Select → selected_by p bank ch ≡ bank_after p bank note
    unfolding bank_after number_of
    bank_selected ch c q = rw (← e, q, ← c)

    bank_kept : (k ≡ Select → ⊥) → (k ≡ BankLeft → ⊥) → (k ≡ BankRight → ⊥) → (k ≡ ArrowUp → ⊥) → (k ≡ ArrowDown → ⊥) → bank ≡ bank_after p bank note
    unfolding bank_after number_of
    bank_kept a b c d f =
        rw (other_note Select 3 refl a, other_note BankLeft 4 refl b, other_note BankRight 5 refl c, other_note ArrowUp 8 refl d, other_note ArrowDown 9 refl f)

  -- ── the targets that a press adds ──

  module _ (here : Current) (l : Lamps) (ts : List ℕ) where
    module _ (ch : ℕ) (c : ch ≡ or_first (channel_of note)) where
      pub adds_muted : k ≡ Mute → added_by_mute (rig_in here) (ch + 1) ts ≡ added_of here l note ts
      unfolding added_of number_of
      adds_muted q = rw (← e, q, ← c)

      pub adds_soloed : k ≡ Solo → added_by_solo (rig_in here) (ch + 1) l ts ≡ added_of here l note ts
      unfolding added_of number_of
      adds_soloed q = rw (← e, q, ← c)

    none_added : (k ≡ Solo → ⊥) → (k ≡ Mute → ⊥) → 0 ≡ length (added_of here l note ts)
    unfolding added_of number_of
    none_added a b = rw (other_note Mute 2 refl b, other_note Solo 1 refl a)

  -- ── what the press does ──

  module _ (x : Press) (t : Talk) where
    pub paged_left : k ≡ ArrowLeft → page false x t ≡ button note x t
    unfolding button press_of number_of
    paged_left q = rw (← e, q)

    pub paged_right : k ≡ ArrowRight → page true x t ≡ button note x t
    unfolding button press_of number_of
    paged_right q = rw (← e, q)

    pub walked_left : k ≡ BankLeft → walk false x t ≡ button note x t
    unfolding button press_of number_of
    walked_left q = rw (← e, q)

    pub walked_up : k ≡ ArrowUp → walk false x t ≡ button note x t
    unfolding button press_of number_of
    walked_up q = rw (← e, q)

    pub walked_right : k ≡ BankRight → walk true x t ≡ button note x t
    unfolding button press_of number_of
    walked_right q = rw (← e, q)

    pub walked_down : k ≡ ArrowDown → walk true x t ≡ button note x t
    unfolding button press_of number_of
    walked_down q = rw (← e, q)

    pub recorded : k ≡ Rec → button note x t ≡ rec (or_first (channel_of note)) x t
    unfolding button press_of number_of
    recorded q = rw (← e, q)

    pub selected : k ≡ Select → button note x t ≡ select_as x.rig.here.part.select (or_first (channel_of note)) x t
    unfolding button press_of number_of
    selected q = rw (← e, q)

    pub muted : k ≡ Mute → button note x t ≡ mute_as (or_first (channel_of note) + 1) x t
    unfolding button press_of number_of
    muted q = rw (← e, q)

    pub soloed : k ≡ Solo → button note x t ≡ solo_as (or_first (channel_of note) + 1) x t
    unfolding button press_of number_of
    soloed q = rw (← e, q)

    pub commanded : eqb (kind_of note) 2 ≡ false → eqb (kind_of note) 1 ≡ false → (k ≡ Rec → ⊥) → (k ≡ Select → ⊥) → (k ≡ BankLeft → ⊥) → (k ≡ BankRight → ⊥) →
        (k ≡ ArrowLeft → ⊥) → (k ≡ ArrowRight → ⊥) → (k ≡ ArrowUp → ⊥) → (k ≡ ArrowDown → ⊥) → command (number_of k) x t ≡ button note x t
    unfolding button press_of number_of
    commanded m s a b c d f g h i =
        rw (
          m,
          s,
          other_note Rec 0 refl a,
          other_note Select 3 refl b,
          other_note BankLeft 4 refl c,
          other_note BankRight 5 refl d,
          other_note ArrowLeft 6 refl f,
          other_note ArrowRight 7 refl g,
          other_note ArrowUp 8 refl h,
          other_note ArrowDown 9 refl i,
          e,
        )

-- a press of any other button
module _ (k : Kind) (b : Button) (e : number_of k ≡ kind_of b.note) (press : Option Button) (is : press ≡ Some b) where
  pub bank_stays : (p : List ℕ) (bank : ℕ) → (k ≡ Select → ⊥) → (k ≡ BankLeft → ⊥) → (k ≡ BankRight → ⊥) → (k ≡ ArrowUp → ⊥) → (k ≡ ArrowDown → ⊥) →
      bank ≡ bank_by p bank press
  bank_stays p bank f g h i j = rw is (bank_kept k b.note e p bank f g h i j)

  pub adds_none : (here : Current) (l : Lamps) (ts : List ℕ) → (k ≡ Solo → ⊥) → (k ≡ Mute → ⊥) → 0 ≡ length (adds_by here l press ts)
  adds_none here l ts f g = rw is (none_added k b.note e here l ts f g)
