use Rattle.std.proofs.Common.{◌≡◌, ◌∙◌, ◌<◌, ◌≤◌, ap, take, length, position, unwrap_or, Option, ℕ, List, Bool, Float, true, false, ltb, ltb-true, ltb-false, set, max, ◌+◌, refl, arith}
use Rattle.base.specs.Keyed.{at}
use Rattle.base.proofs.KeyedLaws as laws
use Rattle.session.proofs.SearchLaws.{place-or-end}
use Rattle.session.specs.Session.{same_target, insert_level, silenced_up_to, has_room}
use Rattle.session.proofs.Laws.{place-within, silenced_there, silenced_behind}
use Rattle.session.proofs.Silenced.insert_level.Goals as goal

-- the place that the search gave, which is in the array
place : (target : ℕ) (ts : List ℕ) (ls : List Float) (n i : ℕ) (r : Option ℕ) → length ts ≡ 256 → length ls ≡ 256 → n ≤ 256 →
    has_room target (take n ts) ≡ true → r ≡ position (same_target target) (take n ts) → i ≡ unwrap_or r n → (i ≡ at (same_target target) (take n ts)) × (i < 256)
place target ts ls n i r lt ll h room e f =
    let w : i ≡ at (same_target target) (take n ts) = f ∙ ap (λ z. unwrap_or z n) e ∙ place-or-end (same_target target) ts n (omega arith) in
    (w, place-within target ts ls n i lt ll h w room)

pub bounds-self-i : goal.bounds-self-i
bounds-self-i c =
    let s = c.args.self.now in
    (place c.args.target s.targets s.levels s.count _ _ (search laws.long) (search laws.long) c.requires.count_bound c.requires.room c.find.ensures c.unwrap_or-i.ensures).1

pub bounds-self-i-2 : goal.bounds-self-i-2
bounds-self-i-2 c =
    let s = c.args.self.now in
    (place c.args.target s.targets s.levels s.count _ _ (search laws.long) (search laws.long) c.requires.count_bound c.requires.room c.find.ensures c.unwrap_or-i.ensures).1

pub returns-clause-upper_bound : goal.returns-clause-upper_bound
returns-clause-upper_bound c =
    let s = c.args.self.now in
    let w = place c.args.target s.targets s.levels s.count _ _ (search laws.long) (search laws.long) c.requires.count_bound c.requires.room c.find.ensures c.unwrap_or-i.ensures in
    omega (arith, w.1, c.max-self.ensures)

-- the target is in its place, or behind the others
kept : (target : ℕ) (ts : List ℕ) (ls : List Float) (n i m : ℕ) (v : Float) → length ts ≡ 256 → length ls ≡ 256 → n ≤ 256 →
    i ≡ at (same_target target) (take n ts) → i < 256 → m ≡ max n (i + 1) → silenced_up_to m (set ts i target) (set ls i v) ≡ insert_level target v (silenced_up_to n ts ls)
kept target ts ls n i m v lt ll h e l q = go (ltb i n) refl
  where
    go : (b : Bool) → ltb i n ≡ b → silenced_up_to m (set ts i target) (set ls i v) ≡ insert_level target v (silenced_up_to n ts ls)
    go true r =
        let k : m ≡ n = omega (arith, q, ltb-true i n r) in
        rw k (silenced_there target ts ls n i lt ll h e v (ltb-true i n r))
    go false r =
        let w : i ≡ n = omega (arith, laws.found_le (same_target target) 0 ts n i e (omega arith), ltb-false i n r) in
        let k : m ≡ n + 1 = omega (arith, q) in
        rw k (silenced_behind target ts ls n i lt ll h e v (ltb-false i n r) l)

pub returns-clause-levels_after : goal.returns-clause-levels_after
returns-clause-levels_after c =
    let s = c.args.self.now in
    let lt : length s.targets ≡ 256 = search laws.long in
    let ll : length s.levels ≡ 256 = search laws.long in
    let w = place c.args.target s.targets s.levels s.count _ _ lt ll c.requires.count_bound c.requires.room c.find.ensures c.unwrap_or-i.ensures in
    kept c.args.target s.targets s.levels s.count c.unwrap_or-i.result c.max-self.result c.args.level lt ll c.requires.count_bound w.0 w.1 c.max-self.ensures
