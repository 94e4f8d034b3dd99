-- A number of 16, 32 or 64 bits is put together again from its halves, and its bytes written as one part are the bytes of its halves. Assumes nothing.
use Rattle.std.specs.Prelude.{ℕ, suc, ◌+◌, ◌*◌, ◌/◌, ◌%◌, ◌^◌, ◌<◌, ◌≤◌, ◌≡◌, List, [], ◌∷◌, length, take, set}
use Rattle.std.specs.Int.{to_le_bytes}
use Rattle.std.proofs.Common.{ap, refl, sym, ◌∙◌, add-one, arith, w32, w64, length-set, drop-drop, append_assoc, take-append-drop}
use Rattle.std.proofs.lemmas.List.{drop-set-lt}
use Rattle.std.proofs.Math.Seq.{take-suc-set}
use borrow.Rule.Slice.PartMut.{put_mid}
use Rattle.base.specs.Words.{put32, put64, bytes32}

-- a number of 16, 32 and 64 bits is its low half and its high half
pub halves16 : (n : ℕ) → n % 256 + 256 * (n / 256) ≡ n
halves16 n = omega arith

pub halves32 : (n : ℕ) → n % 65536 + 65536 * (n / 65536) ≡ n
halves32 n = omega arith

pub halves64 : (n : ℕ) → n % 4294967296 + 4294967296 * (n / 4294967296) ≡ n
halves64 n = omega arith

-- a part that is written from a on is its first byte, set, and the part behind it
part_set : (xs : List ℕ) (a k b : ℕ) (bs : List ℕ) → a < length xs → put_mid a (suc k) xs (b ∷ bs) ≡ put_mid (a + 1) k (set xs a b) bs
part_set xs a k b bs h =
    let e : a + suc k ≡ suc a + k = omega arith in
    rw (add-one, drop-drop, drop-drop, e, take-suc-set xs a b h, drop-set-lt (suc a + k) xs a b (omega arith)) (sym (append_assoc (take a xs) (b ∷ []) _))

part_four : (s : List ℕ) (at k a b c d : ℕ) (bs : List ℕ) → at + 4 ≤ length s →
    put_mid at (suc (suc (suc (suc k)))) s (a ∷ b ∷ c ∷ d ∷ bs) ≡ put_mid (at + 4) k (set (set (set (set s at a) (at + 1) b) (at + 2) c) (at + 2 + 1) d) bs
part_four s at k a b c d bs h =
    let s1 : List ℕ = set s at a in
    let s2 : List ℕ = set s1 (at + 1) b in
    let s3 : List ℕ = set s2 (at + 2) c in
    let two : at + 1 + 1 ≡ at + 2 = omega arith in
    let four : at + 2 + 1 + 1 ≡ at + 4 = omega arith in
    part_set s at (suc (suc (suc k))) a (b ∷ c ∷ d ∷ bs) (omega arith)
    ∙ part_set s1 (at + 1) (suc (suc k)) b (c ∷ d ∷ bs) (rw length-set (omega arith))
    ∙ ap (λ (i : ℕ). put_mid i (suc (suc k)) s2 (c ∷ d ∷ bs)) two
    ∙ part_set s2 (at + 2) (suc k) c (d ∷ bs) (rw (length-set, length-set) (omega arith))
    ∙ part_set s3 (at + 2 + 1) k d bs (rw (length-set, length-set, length-set) (omega arith))
    ∙ ap (λ (i : ℕ). put_mid i k (set s3 (at + 2 + 1) d) bs) four

-- the bytes of a number, copied to the part of s from `at` on
pub part_put32 : (s : List ℕ) (at n : ℕ) → at + 4 ≤ length s → n < 2 ^ 32 → put_mid at 4 s (to_le_bytes w32 n) ≡ put32 s at n
part_put32 s at n h l =
    let b0 : n % 256 ≡ n % 65536 % 256 = omega arith in
    let b1 : n / 256 % 256 ≡ n % 65536 / 256 = omega arith in
    let b2 : n / 65536 % 256 ≡ n / 65536 % 256 = refl in
    let b3 : n / 16777216 % 256 ≡ n / 65536 / 256 = omega arith in
    rw (b0, b1, b3) (part_four s at 0 _ _ _ _ [] h ∙ take-append-drop (at + 4) _)

pub part_put64 : (s : List ℕ) (at n : ℕ) → at + 8 ≤ length s → n < 2 ^ 64 → put_mid at 8 s (to_le_bytes w64 n) ≡ put64 s at n
unfolding put64
part_put64 s at n h l =
    let s4 : List ℕ = put32 s at (n % 4294967296) in
    let long : length s4 ≡ length s = rw (length-set, length-set, length-set, length-set) in
    let b0 : n % 256 ≡ n % 4294967296 % 65536 % 256 = omega arith in
    let b1 : n / 256 % 256 ≡ n % 4294967296 % 65536 / 256 = omega arith in
    let b2 : n / 65536 % 256 ≡ n % 4294967296 / 65536 % 256 = omega arith in
    let b3 : n / 16777216 % 256 ≡ n % 4294967296 / 65536 / 256 = omega arith in
    let b4 : n / 4294967296 % 256 ≡ n / 4294967296 % 65536 % 256 = omega arith in
    let b5 : n / 1099511627776 % 256 ≡ n / 4294967296 % 65536 / 256 = omega arith in
    let b6 : n / 281474976710656 % 256 ≡ n / 4294967296 / 65536 % 256 = omega arith in
    let b7 : n / 72057594037927936 % 256 ≡ n / 4294967296 / 65536 / 256 = omega arith in
    rw (b0, b1, b2, b3, b4, b5, b6, b7) (part_four s at 4 _ _ _ _ (bytes32 (n / 4294967296)) (omega arith) ∙ part_four s4 (at + 4) 0 _ _ _ _ [] (omega (arith, long)) ∙ take-append-drop (at + 4 + 4) _)
