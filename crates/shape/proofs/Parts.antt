-- The parts of a session that number 8 looks at, and that a session has its own. Assumes nothing.
use Rattle.std.specs.Prelude.{ℕ, ◌≡◌, refl, List, Bool, length}
use Rattle.session.specs.declared.Session.{Session}
use Rattle.session.specs.declared.Line.{Line}
use Rattle.session.specs.declared.Live.{Live}
use Rattle.session.specs.declared.Turns.{Turns}
use Rattle.session.specs.declared.Silenced.{Silenced}
use Rattle.session.specs.declared.Flash.{Flash}
use Rattle.definition.specs.Shape.{shaped_silenced, well_shaped}

-- n targets are silenced, the first of these, whatever their levels are; there is room for 256
pub record Silences (ts : List ℕ) (n : ℕ) (x : Silenced) : Type 0 where
  pub targets : x.targets ≡ ts
  pub count : x.count ≡ n
  pub long : length x.levels ≡ 256

-- r says whether they are well shaped
abbrev pub TellsSilenced : Bool → List ℕ → ℕ → Type 0
TellsSilenced r ts n = (x : Silenced) → Silences ts n x → r ≡ shaped_silenced x

-- the session has these parts
pub record HasParts (b : ℕ) (l : Line) (v : Live) (t : Turns) (ts : List ℕ) (n : ℕ) (f : Flash) (s : Session) : Type 0 where
  pub bank : s.bank ≡ b
  pub line : s.line ≡ l
  pub live : s.live ≡ v
  pub turns : s.turns ≡ t
  pub silenced : Silences ts n s.silenced
  pub flash : s.lamps.flash ≡ f

-- r says whether a session with these parts is well shaped
abbrev pub Tells : Bool → List ℕ → ℕ → Line → Live → Turns → List ℕ → ℕ → Flash → Type 0
Tells r p b l v t ts n f = (s : Session) → HasParts b l v t ts n f s → r ≡ well_shaped p s

-- a session has its own parts
pub own_parts : (s : Session) → length s.silenced.levels ≡ 256 →
    HasParts s.bank s.line s.live s.turns s.silenced.targets s.silenced.count s.lamps.flash s
own_parts s h =
    record {
      bank = refl;
      line = refl;
      live = refl;
      turns = refl;
      silenced = record { targets = refl; count = refl; long = h };
      flash = refl;
    }
