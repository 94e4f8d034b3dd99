-- What a sink that holds a part back hands on, piece by piece, is in all what it was given. Assumes nothing.
use Rattle.std.specs.Prelude.{ℕ, ◌≡◌, List, [], ◌∷◌, ◌++◌, take}
use Rattle.std.specs.List.{FoldsTo, concat}
use Rattle.std.specs.Fmt.{WritesInCalls}
use Rattle.std.proofs.Common.{subst, sym, ◌∙◌, append_assoc, append-nil}
use Rattle.std.proofs.Math.Path.{refl, ap}
use Rattle.printing.specs.Handing.{HandsOn}
use Rattle.printing.proofs.Puts.{put_none, put_one, put_two, put_as}

module _ {W : Type 0} {took : W → List ℕ → W → Type 0} where
  -- a piece that is held with the rest
  hand_held : {w v : W} {held piece left : List ℕ} → v ≡ w → left ≡ held ++ piece → HandsOn took w held piece v left
  hand_held {w = w} {held = held} {piece = piece} {left = left} same is =
      subst (λ (x : W). HandsOn took w held piece x left) (sym same) (record { handed = []; calls = put_none; whole = is })

  -- what was held is handed on, and the piece too, and of the bytes bs none is held
  pub hand_both : {w v u : W} {held piece : List ℕ} (bs : List ℕ) (n : ℕ) → n ≡ 0 → WritesInCalls took w held v → took v piece u →
      HandsOn took w held piece u (take n bs)
  hand_both {held = held} {piece = piece} bs n none p t =
      rw none (record { handed = held ++ piece; calls = put_two p (put_one t); whole = append-nil (held ++ piece) })

  -- one piece behind the other
  hand_two : {w v u : W} {held x y left rest : List ℕ} → HandsOn took w held x v left → HandsOn took v left y u rest → HandsOn took w held (x ++ y) u rest
  hand_two {held = held} {x = x} {y = y} {left = left} {rest = rest} p q =
      record {
        handed = p.handed ++ q.handed;
        calls = put_two p.calls q.calls;
        whole = append_assoc p.handed q.handed rest ∙ ap (λ (l : List ℕ). p.handed ++ l) q.whole ∙ sym (append_assoc p.handed left y)
            ∙ ap (λ (l : List ℕ). l ++ y) p.whole ∙ append_assoc held x y;
      }

  -- at last what is held is handed on, and so all is
  hand_last : {w v u : W} {held piece left : List ℕ} → HandsOn took w held piece v left → WritesInCalls took v left u → WritesInCalls took w (held ++ piece) u
  hand_last p q = put_as p.whole (put_two p.calls q)

module _ {W V : Type 0} (took : W → List ℕ → W → Type 0) (gives : V → List ℕ → V → Type 0) (behind : V → W) (held : V → List ℕ)
    (each : (a b : V) (x : List ℕ) → gives a x b → HandsOn took (behind a) (held a) x (behind b) (held b)) where
  hand_parts : (a : V) (xs : List (List ℕ)) (b : V) → FoldsTo gives a xs b → HandsOn took (behind a) (held a) (concat xs) (behind b) (held b)
  hand_parts a [] b p = subst (λ (c : V). HandsOn took (behind a) (held a) [] (behind c) (held c)) p (hand_held refl (sym (append-nil (held a))))
  hand_parts a (x ∷ xs) b p = hand_two (each a p.0 x p.1) (hand_parts p.0 xs b p.2)

  -- the pieces of a text
  hand_all : (a b : V) (text : List ℕ) → WritesInCalls gives a text b → HandsOn took (behind a) (held a) text (behind b) (held b)
  hand_all a b text p = subst (λ (l : List ℕ). HandsOn took (behind a) (held a) l (behind b) (held b)) p.whole (hand_parts a p.parts b p.calls)

  -- of a text over a sink w, with nothing held before it and the rest handed on behind it
  pub hand_whole : (w : W) (a b : V) (text : List ℕ) (u : W) → held a ≡ [] → behind a ≡ w → WritesInCalls gives a text b →
      WritesInCalls took (behind b) (held b) u → WritesInCalls took w text u
  hand_whole w a b text u none same p q =
      subst (λ (x : W). WritesInCalls took x text u) same
      (hand_last (subst (λ (l : List ℕ). HandsOn took (behind a) l text (behind b) (held b)) none (hand_all a b text p)) q)
