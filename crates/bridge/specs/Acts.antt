-- The events that ask or send, over groups of the session, and what they leave. Definitions only.
use Rattle.std.specs.Prelude.{ℕ, ◌≡◌, Bool, true, false, List, get_or, Float, None}
use Rattle.lookup.specs.View.{View, view_of}
use Rattle.drivers.specs.Talk.{Talk, Act, got, next}
use Rattle.session.specs.Session.{SilencedLevel, targets_of, seen_strips}
use Rattle.session.specs.declared.Lamps.{Lamps}
use Rattle.session.specs.declared.Moves.{Moves}
use Rattle.event.specs.declared.Input.{Input}
use Rattle.event.specs.declared.Input.TheVariants as input
use Rattle.definition.specs.Live.{is_due, refresh_due}
use Rattle.definition.specs.Step.{Kept, Left, rig_at, rig_now, flash_tick, on_button, on_midi, act}
use Rattle.rig.specs.Seen.{rig_in}
use Rattle.rig.specs.declared.current.Current.{Current}
use Rattle.surface.specs.declared.panel.Panel.{Panel}
use Rattle.bridge.specs.Which.{is_tick}
use Rattle.after.specs.After.{left_of}
use Rattle.after.specs.declared.Left as declared

-- ── what is handed on ──

-- the groups are those of the session that is seen as k: the current bank, the bank that is current after the event, the lamps' state, the silenced
-- levels, and the last moves
pub record Given (k : Kept) (here there : Current) (l : Lamps) (s : List SilencedLevel) (m : Moves) : Type 0 where
  pub bank : k.site.bank ≡ here.bank
  pub rig : rig_now (view_of here.profile.now) k ≡ rig_in here
  pub rig_there : rig_at (view_of here.profile.now) k there.bank ≡ rig_in there
  pub strips : get_or k.site.lives k.site.bank None ≡ seen_strips here.strips.now
  pub lamps : k.lamps ≡ l
  pub silenced : k.silenced ≡ s
  pub moves : k.desk.moves ≡ m

-- ── each event ──

-- a tick behind its drain
unfoldable pub tick_behind : View → Kept → Float → Act Left
tick_behind v k now t =
    next
    (refresh_due (is_due k.site.due k.site.at now) (get_or k.site.lives k.site.bank None) (rig_now v k) k.lamps (targets_of k.silenced) t)
    (λ r. flash_tick (is_due k.site.due k.site.at now) v k now r)

-- an event, of a tick what comes behind its drain
unfoldable pub behind : Input → View → Kept → Float → Act Left
behind (input.Midi e) v k now t = on_midi e v k now t
behind input.Tick v k now t = tick_behind v k now t
behind input.PushState v k now t = act input.PushState v k now t
behind input.PushTransport v k now t = act input.PushTransport v k now t
behind input.FlashBank v k now t = act input.FlashBank v k now t

-- a press of the note's button
abbrev pub pressing : ℕ → View → Kept → Float → Act Left
pressing note v k now = on_button true v k now note

-- it does as f says, for every session with these groups; x, l₁ and u are what is left, the lamps' state and the line after it, s₁ what is silenced then
abbrev pub Runs : (View → Kept → Float → Act Left) → Current → Current → Lamps → List SilencedLevel → Moves → Float → Talk → declared.Left → Lamps → List SilencedLevel → Talk → Type 0
Runs f here there l s m now t x l₁ s₁ u =
    (k : Kept) → Given k here there l s m → got (left_of k false false now x l₁ s₁) u ≡ f (view_of here.profile.now) k now t

-- a tick: `due` is whether the live bank is; a is the panel before it, b after it
abbrev pub Ticks : Current → Panel → Panel → Bool → Talk → declared.Left → Talk → Type 0
Ticks here a b due t x u =
    (k : Kept) (s : List SilencedLevel) → targets_of s ≡ a.silenced_targets.now → Given k here here a.lamps s a.moves.now → is_due k.site.due k.site.at a.time ≡ due →
    got (left_of k true due a.time x b.lamps s) u ≡ tick_behind (view_of here.profile.now) k a.time t

-- any event where what is silenced stays, whatever the levels are
abbrev pub RunsPanel : Input → Current → Panel → Panel → Bool → Talk → declared.Left → Talk → Type 0
RunsPanel what here a b due t x u =
    (k : Kept) (s : List SilencedLevel) → targets_of s ≡ a.silenced_targets.now → Given k here here a.lamps s a.moves.now → is_due k.site.due k.site.at a.time ≡ due →
    got (left_of k (is_tick what) due a.time x b.lamps s) u ≡ behind what (view_of here.profile.now) k a.time t

-- any of them
abbrev pub RunsAny : Input → Current → Current → Lamps → List SilencedLevel → Moves → Bool → Float → Talk → declared.Left → Lamps → List SilencedLevel → Talk → Type 0
RunsAny what here there l s m due now t x l₁ s₁ u =
    (k : Kept) → Given k here there l s m → is_due k.site.due k.site.at now ≡ due →
    got (left_of k (is_tick what) due now x l₁ s₁) u ≡ behind what (view_of here.profile.now) k now t
