-- `bridge::on_encoder` meets its contract. Assumes nothing.
use Prim.Native.Nat.{ℕ, ◌+◌, ◌<◌}
use mathlib.Core.Path.{◌≡◌, refl, sym, ap, ◌∙◌, subst}
use mathlib.Core.Bool.{true}
use mathlib.Core.List.{List}
use lib.IntN.{ℤ}
use lib.ListN.{length}
use mir.Syntax.{w32}
use mir.Val.{SFits, to_z, of_z}
use mir.ValLaws.{to_z-of_z}
use Rattle.base.proofs.KeyedLaws.{long}
use Rattle.lookup.specs.Lookup.{dest_at}
use Rattle.hands.specs.Sums.{SumsFit}
use Rattle.hands.specs.Declined.{number_of, refusal_of}
use Rattle.session.specs.Session.{is_dest, seen_turns, turn}
use Rattle.session.specs.declared.Session.{Session}
use Rattle.base.specs.Keyed.{find}
use Rattle.definition.specs.Faders.{in_range, declined_by}
use Rattle.definition.specs.Shape.{well_shaped}
use Rattle.bridge.proofs.Fit.{turns_few, turns_wired, sums_low}
use Rattle.bridge.proofs.HandLaws.{sums_fit, turn_room, place-encoder, place_low, unwired, unturned, turned, declined_by_one}
use borrow.Author.Rules.{rules}
use Rattle.bridge.proofs.on_encoder.Goals as goal

-- no sum overflows by the turn, which the machine keeps as it is
fit : (p : List ℕ) (s : Session) (delta : ℤ) → length s.turns.records ≡ 136 → length s.turns.sums ≡ 136 → well_shaped p s ≡ true → in_range delta ≡ true →
    SFits w32 delta → SumsFit s.turns.sums s.turns.count (to_z w32 (of_z w32 delta))
fit p s delta records_long sums_long e small fits =
    subst (λ (z : ℤ). SumsFit s.turns.sums s.turns.count z) (sym (to_z-of_z w32 delta fits))
    (sums_fit p s.turns records_long sums_long (turns_few p s e) delta small (sums_low p s e))

-- why the turn is declined
why : (p : List ℕ) (s : Session) (delta : ℤ) (k w : ℕ) → SFits w32 delta →
    let l = seen_turns p s.turns in
    w ≡ declined_by (find (is_dest (dest_at p k)) l) (to_z w32 (of_z w32 delta)) l → w ≡ declined_by (find (is_dest (dest_at p k)) l) delta l
why p s delta k w fits q =
    let l = seen_turns p s.turns in
    q ∙ ap (λ (z : ℤ). declined_by (find (is_dest (dest_at p k)) l) z l) (to_z-of_z w32 delta fits)

pub returns-in_default : goal.returns-in_default
returns-in_default c =
    rw c.silent.ensures
    (unwired c.args.profile.now c.args.session.now c.args.channel c.args.delta c.requires.session_value _ refl (sym c.encoder_record.ensures ∙ c.in_default.is))

pub overflow_cast-k : goal.overflow_cast-k
overflow_cast-k c =
    let h : c.in-Some.at < 65536 =
    place_low c.args.profile.now c.args.session.now.bank (c.args.channel + 1) c.in-Some.at (sym c.encoder_record.ensures ∙ c.in-Some.is) c.requires.profile_value in
    record { fits = h }

pub turn_declined-requires : goal.turn_declined-requires
turn_declined-requires c =
    let p = c.args.profile.now in
    let s = c.args.session.now in
    let e = c.requires.session_value in
    record {
      count_bound = turns_few p s e;
      records_value = turns_wired p s e;
      k_value = place-encoder p s.bank (c.args.channel + 1) c.in-Some.at (sym c.encoder_record.ensures ∙ c.in-Some.is);
      sums_fit = fit p s c.args.delta (search long) (search long) e c.requires.delta_value c.ranges.delta;
    }

pub returns-in-Err : goal.returns-in-Err
returns-in-Err c =
    let p = c.args.profile.now in
    let s = c.args.session.now in
    let e : number_of c.in-Err.why ≡ _ = ap refusal_of (sym c.in-Err.is) ∙ c.turn_declined.ensures in
    rw c.refused.ensures
    (unturned p s c.args.channel c.args.delta c.requires.session_value c.in-Some.at _ _ refl (sym c.encoder_record.ensures ∙ c.in-Some.is)
    (why p s c.args.delta c.in-Some.at _ c.ranges.delta e) (declined_by_one c.in-Err.why))

pub turn-requires : goal.turn-requires
turn-requires c =
    let p = c.args.profile.now in
    let s = c.args.session.now in
    let e = c.requires.session_value in
    let z : 0 ≡ _ = ap refusal_of (sym c.in_default-turn_declined.is) ∙ c.turn_declined.ensures in
    turn_room p s.turns (search long) (search long) (turns_few p s e) c.in-Some.at (to_z w32 (of_z w32 c.args.delta)) (turns_wired p s e)
    (place-encoder p s.bank (c.args.channel + 1) c.in-Some.at (sym c.encoder_record.ensures ∙ c.in-Some.is))
    (fit p s c.args.delta (search long) (search long) e c.requires.delta_value c.ranges.delta) (sym z)

pub returns : goal.returns
returns c =
    let p = c.args.profile.now in
    let s = c.args.session.now in
    let i = c.in-Some.at in
    let z : 0 ≡ _ = ap refusal_of (sym c.in_default-turn_declined.is) ∙ c.turn_declined.ensures in
    let opened_long : length s.opened ≡ 16 = search rules in
    rw c.silent-2.ensures
    (turned p s c.args.channel c.args.delta c.requires.session_value i _ _ c.requires.profile_value opened_long c.requires.channel_bound
    c.requires.delta_value (sym c.encoder_record.ensures ∙ c.in-Some.is) (sym (why p s c.args.delta i 0 c.ranges.delta z))
    (c.turn.ensures.sums_after ∙ ap (λ (x : ℤ). turn (dest_at p i) x (seen_turns p s.turns)) (to_z-of_z w32 c.args.delta c.ranges.delta))
    c.turn.ensures.records_after c.turn.ensures.upper_bound refl)
