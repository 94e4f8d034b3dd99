-- What stands in a buffer after a writer of a part of it. Assumes nothing.
use Rattle.std.specs.Prelude.{◌≡◌, List, ◌++◌, ℕ, ◌-◌, ◌≤◌, length, take, drop}
use Rattle.std.proofs.Common.{sym, append-nil, arith, length-append, length-drop, drop_of_length-le, take_all, drop-drop, length-take-le}
use borrow.Rule.Slice.PartMut.{put_mid}
use Rattle.base.specs.Tail.{over, at_front}

-- what stands in xs after a writer of the part from a on wrote bs at its front
pub tail_over : (xs bs : List ℕ) (a : ℕ) → a ≤ length xs → put_mid a (length xs - a) xs (at_front bs (take (length xs - a) (drop a xs))) ≡ over xs a bs
unfolding over at_front
tail_over xs bs a h =
    let e : length (drop a xs) ≤ length xs - a = simp length-drop (omega arith) in
    simp (take_all _ (drop a xs) e, drop_of_length-le (drop a xs) e, append-nil, drop-drop)

-- what counts bytes at the start of a list counts them where more stand behind
pub counts_front : (n : ℕ) (xs ys : List ℕ) → n ≤ length xs → (n ≤ length (xs ++ ys)) × (n ≡ length (take n (xs ++ ys)))
counts_front n xs ys h =
    let l : n ≤ length (xs ++ ys) = simp length-append (omega arith) in (l, sym (length-take-le n (xs ++ ys) l))
