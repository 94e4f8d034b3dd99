-- What the drain, a fader's move and a live list cost: two calls for each sum, a call and a message for each waiting move, one call for a move.
use Rattle.std.specs.Prelude.{ℕ, zero, suc, ◌+◌, ◌*◌, ◌≡◌, refl, Bool, ◌&&◌, ◌||◌, not, length, take, ℤ, Float, None, Option, Some}
use Rattle.std.proofs.Math.Bool.{true, false}
use Rattle.std.proofs.Common.{true≢false, arith}
use mathlib.Core.List.{List, [], ◌∷◌, map}
use Rattle.std.proofs.Math.Dec.{eqb}
use Rattle.base.specs.Choice.{pick}
use Rattle.base.specs.Keyed.{find, keep}
use Rattle.float.specs.Leaf.{nudge}
use Rattle.protocol.specs.Protocol.{sent_to}
use Rattle.lookup.specs.Lookup.{precede}
use Rattle.lookup.specs.declared.Destination.{Destination}
use Rattle.drivers.specs.Talk.{Talk, next, plain_call, live_of}
use Rattle.drivers.specs.declared.LiveFader.{LiveFader}
use Rattle.session.specs.Session.{Turn, is_marked, strip_of, strips_of, strip_at, is_strip, strip_dest, found_strip, on_surface}
use Rattle.session.specs.declared.Lamps.{Lamps}
use Rattle.session.specs.declared.Move.{Move}
use Rattle.session.specs.declared.Strip.{Strip}
use Rattle.definition.specs.Rig.{Rig, own_fader, destination, with_strips}
use Rattle.definition.specs.Levels.{read, write}
use Rattle.definition.specs.Faders.{Desk, fader_if, fader_to, fader, key_of, nudge_from, is_zero, nudge_if, apply_nudge, nudges, align_if, write_move, writes, drain}
use Rattle.definition.specs.Live.{change_if, ask_if, refresh_live, refresh_due, same_as, handed}
use Rattle.bounds.specs.Drivers.{MayTo, Each, no_more, one_more, MayTurn, MayStrip}
use Rattle.bounds.proofs.Spending.{Rules, Costs, Takes, stay, says, more, after, still, done, giving, line_of, onto, bind, takes_use, takes_read, takes_write}
use Rattle.bounds.proofs.Surface.{push_costs}

-- ── a live list's drivers ──

module _ (D : ℕ → Type 0) where
  taken : (n : ℕ) (l : List Strip) → Each (MayStrip D) l → Each (MayStrip D) (take n l)
  taken zero l h = no_more
  taken (suc n) [] h = no_more
  taken (suc n) (x ∷ l) (one_more d h) = one_more d (taken n l h)

  of_one : (driver : ℕ) → D driver → (l : List LiveFader) → Each (MayStrip D) (map (strip_of driver) l)
  unfolding strip_of
  of_one driver d [] = no_more
  of_one driver d (x ∷ l) = one_more d (of_one driver d l)

  pub strips_may : (driver : ℕ) → D driver → (l : List LiveFader) → Each (MayStrip D) (strips_of driver l)
  unfolding strips_of
  strips_may driver d l = taken 8 _ (of_one driver d (keep on_surface l))

  pub strip_may : (n : ℕ) (l : List Strip) → Each (MayStrip D) l → MayTo D (found_strip (strip_at n l))
  unfolding strip_at find strip_dest
  strip_may n [] h = tt
  strip_may n (x ∷ l) (one_more d h) = go (is_strip n x) (strip_may n l h)
    where
      go : (b : Bool) → MayTo D (found_strip (find (is_strip n) l)) → MayTo D (found_strip (pick b (Some x) (find (is_strip n) l)))
      go true k = d
      go false k = k

  -- the same rig with another live list
  pub with_may : (r : Rig) → ((n : ℕ) → MayTo D (destination r n)) → (l : List Strip) → Each (MayStrip D) l → (n : ℕ) → MayTo D (destination (with_strips l r) n)
  unfolding destination own_fader
  with_may r to l h n = go (r.globals.fader n) (eqb r.here.part.live 65535) (found_strip (strip_at n r.here.strips)) (found_strip (strip_at n l)) (to n) (strip_may n l h)
    where
      go : (g : Option Destination) (b : Bool) (x y : Option Destination) → MayTo D (precede g (pick b (r.here.part.fader n) x)) → MayTo D y → MayTo D (precede g (pick b (r.here.part.fader n) y))
      go (Some d) b x y p q = p
      go None true x y p q = p
      go None false x y p q = q

module _ {D : ℕ → Type 0} (R : Rules D) where
  -- ── a move ──
  fader_if_takes : (b : Bool) (e : Destination) (k ch : ℕ) (x : Float) (d : Desk) → D e.driver → Takes R 0 1 (fader_if b e k ch x d)
  fader_if_takes true e k ch x d h = bind R (takes_read R e h) (λ c. done R)
  fader_if_takes false e k ch x d h = still R

  fader_to_takes : (f : Option Destination) (k ch : ℕ) (x : Float) (d : Desk) → MayTo D f → Takes R 0 1 (fader_to f k ch x d)
  fader_to_takes (Some e) k ch x d h = fader_if_takes (e.takeover && not (is_marked k d.marks)) e k ch x d h
  fader_to_takes None k ch x d h = still R

  pub fader_takes : (r : Rig) → ((n : ℕ) → MayTo D (destination r n)) → (ch : ℕ) (x : Float) (d : Desk) → Takes R 0 1 (fader r ch x d)
  unfolding fader
  fader_takes r to ch x d = fader_to_takes (destination r (ch + 1)) (key_of r ch) ch x d (to (ch + 1))

  -- ── the drain ──
  from_costs : (e : Destination) (sum : ℤ) (c : Option Float) → D e.driver → Costs R 0 1 (nudge_from c e sum)
  from_costs e sum (Some c) h = line_of R (takes_write R e (nudge c sum) h)
  from_costs e sum None h = stay R

  nudge_if_costs : (b : Bool) (e : Turn) → MayTurn D e → Costs R 0 2 (nudge_if b e)
  nudge_if_costs true e h = stay R
  nudge_if_costs false e h = onto R {f = read e.dest} (takes_read R e.dest h) (λ c. from_costs e.dest e.sum c h)

  nudges_cost : (l : List Turn) → Each (MayTurn D) l → Costs R 0 (2 * length l) (nudges l)
  unfolding nudges apply_nudge
  nudges_cost [] h = stay R
  nudges_cost (e ∷ l) (one_more d h) = more R (after R (nudges_cost l h) (nudge_if_costs (is_zero e.sum) e d)) (omega arith) (omega arith)

  align_costs : (b : Bool) (ch : ℕ) (x : Float) → Costs R 1 0 (align_if b ch x)
  align_costs true ch x = says R (sent_to ch x)
  align_costs false ch x = stay R

  move_costs : (b : Bool) (f : Option Destination) (m : Move) → MayTo D f → Costs R 1 1 (write_move b f m)
  move_costs b (Some e) m h =
      onto R {f = write e m.level} (takes_write R e m.level h) (λ v. align_costs (v && b) m.channel m.level)
  move_costs b None m h = stay R

  module _ (r : Rig) (to : (n : ℕ) → MayTo D (destination r n)) where
    writes_cost : (l : List Move) → Costs R (length l) (length l) (writes r l)
    unfolding writes
    writes_cost [] = stay R
    writes_cost (m ∷ l) =
        more R (after R (writes_cost l) (move_costs r.positions (destination r (m.channel + 1)) m (to (m.channel + 1)))) (omega arith) (omega arith)

    pub drain_costs : (d : Desk) → Each (MayTurn D) d.turns → Costs R (length d.line) (2 * length d.turns + length d.line) (drain r d)
    unfolding drain
    drain_costs d h = more R (after R (writes_cost d.line) (nudges_cost d.turns h)) (omega arith) (omega arith)

    -- ── a live bank ──
    change_takes : (b : Bool) (l : List Strip) (x : Lamps) (s : List ℕ) → Each (MayStrip D) l → Takes R 40 16 (change_if b l r x s)
    change_takes true l x s h = still R
    change_takes false l x s h = giving R (push_costs R (with_strips l r) (with_may D r to l h) x s)

    live_takes : (driver which : ℕ) → D driver → Takes R 0 1 (live_of driver which)
    unfolding live_of plain_call
    live_takes driver which d = bind R (takes_use R (plain_call 9 driver 0 which) d) (λ x. done R)

    -- the bank's own driver, which is asked, may be used
    module _ (own : eqb r.here.part.device 65535 ≡ false → D r.here.part.device) where
      driven : (a b : Bool) → (b ≡ false → D r.here.part.device) → (a || b) ≡ false → D r.here.part.device
      driven true b h e = absurd (true≢false e)
      driven false b h e = h e

      ask_if_takes : (b : Bool) (known : Option (List Strip)) (x : Lamps) (s : List ℕ) → (b ≡ false → D r.here.part.device) → Takes R 40 17 (ask_if b known r x s)
      ask_if_takes true known x s h = still R
      ask_if_takes false known x s h =
          bind R (live_takes r.here.part.device r.here.part.live (h refl))
          (λ l. change_takes (same_as known _) (handed r.here.part.device l) x s (strips_may D r.here.part.device (h refl) l.list))

      pub refresh_takes : (b : Bool) (known : Option (List Strip)) (x : Lamps) (s : List ℕ) → Takes R 40 17 (refresh_due b known r x s)
      unfolding refresh_live
      refresh_takes true known x s =
          ask_if_takes (eqb r.here.part.live 65535 || eqb r.here.part.device 65535) known x s
          (driven (eqb r.here.part.live 65535) (eqb r.here.part.device 65535) own)
      refresh_takes false known x s = still R

      -- the list that it leaves: the bank's, or what the driver handed over
      module _ (mine : Each (MayStrip D) r.here.strips) where
        change-leaves : (b : Bool) (l : List Strip) (x : Lamps) (s : List ℕ) (t : Talk) → Each (MayStrip D) l → Each (MayStrip D) (change_if b l r x s t).value.strips
        change-leaves true l x s t h = mine
        change-leaves false l x s t h = h

        ask-leaves : (b : Bool) (known : Option (List Strip)) (x : Lamps) (s : List ℕ) (t : Talk) → (b ≡ false → D r.here.part.device) →
            Each (MayStrip D) (ask_if b known r x s t).value.strips
        unfolding next
        ask-leaves true known x s t h = mine
        ask-leaves false known x s t h =
            change-leaves (same_as known _) _ x s _ (strips_may D r.here.part.device (h refl) _)

        pub refresh-leaves : (b : Bool) (known : Option (List Strip)) (x : Lamps) (s : List ℕ) (t : Talk) →
            Each (MayStrip D) (refresh_due b known r x s t).value.strips
        unfolding refresh_live
        refresh-leaves true known x s t =
            ask-leaves (eqb r.here.part.live 65535 || eqb r.here.part.device 65535) known x s t
            (driven (eqb r.here.part.live 65535) (eqb r.here.part.device 65535) own)
        refresh-leaves false known x s t = mine
