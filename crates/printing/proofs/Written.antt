-- Pieces that a formatter took, each without an error, were written to its writer, one behind the other. Assumes nothing.
use Rattle.std.specs.Prelude.{ℕ, ◌≡◌, List, [], ◌∷◌}
use Rattle.std.specs.List.{FoldsTo, concat}
use Rattle.std.specs.Fmt.{WritesInCalls, IsPlainFormatter, HasWritten}
use Rattle.std.specs.declared.fmt.Formatter.{Formatter}
use Rattle.std.proofs.Common.{subst, sym, ◌∙◌}
use Rattle.std.proofs.Math.Path.{refl}
use Rattle.printing.proofs.Puts.{put_none, put_two}

-- V is a sink over the formatter f, whose reference keeps its name, and Fine says that there is no error
module _ {W V N : Type 0} (took : W → List ℕ → W → Type 0) (gives : V → List ℕ → V → Type 0) (f : V → Formatter W) (name : V → N) (Fine : V → Type 0) where
  abbrev Wrote : V → List ℕ → V → Type 0
  Wrote a x b = (name b ≡ name a) × (Fine b → Fine a × (IsPlainFormatter (f a) → HasWritten took (f a) x (f b)))

  module _ (each : (a b : V) (x : List ℕ) → gives a x b → Wrote a x b) where
    written_parts : (a : V) (xs : List (List ℕ)) (b : V) → FoldsTo gives a xs b → Wrote a (concat xs) b
    written_parts a [] b p = subst (λ (c : V). Wrote a [] c) p (refl, λ fine. (fine, λ plain. record { wrote = put_none; plain = plain }))
    written_parts a (x ∷ xs) b p =
        let first = each a p.0 x p.1 in
        let rest = written_parts p.0 xs b p.2 in (
          rest.0 ∙ first.0,
          λ fine. let after = rest.1 fine in let before = first.1 after.0 in (
            before.0,
            λ plain. let h = before.1 plain in let t = after.1 h.plain in record { wrote = put_two h.wrote t.wrote; plain = t.plain },
          ),
        )

    written_all : (a b : V) (text : List ℕ) → WritesInCalls gives a text b → Wrote a text b
    written_all a b text p = subst (λ (l : List ℕ). Wrote a l b) p.whole (written_parts a p.parts b p.calls)

    -- g is what the formatter came to
    pub written_to : (a b : V) (text : List ℕ) (g : Formatter W) → IsPlainFormatter (f a) → Fine b → (name b ≡ name a → g ≡ f b) →
        WritesInCalls gives a text b → HasWritten took (f a) text g
    written_to a b text g plain fine back p =
        let all = written_all a b text p in subst (λ (h : Formatter W). HasWritten took (f a) text h) (sym (back all.0)) ((all.1 fine).1 plain)
