-- The bytes that stand in the buffers are those of the calls and messages that are read from them, and how many these are. Assumes nothing.
use Rattle.std.specs.Prelude.{ℕ, zero, suc, ◌+◌, ◌*◌, ◌/◌, ◌%◌, ◌≤◌, ◌<◌, ◌≡◌, length, get_or, drop}
use Rattle.std.proofs.Common.{arith, add-one, sym, ◌∙◌, length-append, drop-cons, drop-drop, take-add}
use Rattle.std.proofs.Math.Path.{refl, ap}
use mathlib.Core.List.{List, [], ◌∷◌, ◌++◌, map, map-append, append-nil, append_assoc}
use Rattle.std.proofs.Math.ListN.{take}
use Rattle.base.specs.Words.{le16, le32, le64, bytes16, bytes32, bytes64}
use Rattle.drivers.specs.Shown.{call_bytes, call_at, calls_in, message_at, messages_in}
use Rattle.drivers.specs.Bytes.{joined, encode}
use Rattle.drivers.specs.declared.Call.{Call}

-- ── parts of a list ──

-- a part, and the part that follows it
pub take_both : (s : List ℕ) (a n b m : ℕ) → a + n ≡ b → take n (drop a s) ++ take m (drop b s) ≡ take (n + m) (drop a s)
take_both s a n b m e = rw (← e, ← drop-drop n a s) (sym (take-add n m (drop a s)))

pub take_two : (s : List ℕ) (j : ℕ) → j + 2 ≤ length s → get_or s j 0 ∷ get_or s (j + 1) 0 ∷ [] ≡ take 2 (drop j s)
take_two s j h = rw (drop-cons s j 0 (omega arith), drop-cons s (suc j) 0 (omega arith), add-one)

pub take_three : (s : List ℕ) (j : ℕ) → j + 3 ≤ length s → get_or s j 0 ∷ get_or s (j + 1) 0 ∷ get_or s (j + 2) 0 ∷ [] ≡ take 3 (drop j s)
take_three s j h =
    let e : j + 1 ≡ suc j = omega arith in
    let f : j + 2 ≡ suc (suc j) = omega arith in
    rw (drop-cons s j 0 (omega arith), drop-cons s (suc j) 0 (omega arith), drop-cons s (suc (suc j)) 0 (omega arith), e, f)

-- ── numbers that are read and written again ──

low_2 : (x y : ℕ) → x < 256 → (x + 256 * y) % 256 ≡ x
low_2 x y h = omega arith

high_2 : (x y : ℕ) → x < 256 → (x + 256 * y) / 256 ≡ y
high_2 x y h = omega arith

low_4 : (x y : ℕ) → x < 65536 → (x + 65536 * y) % 65536 ≡ x
low_4 x y h = omega arith

high_4 : (x y : ℕ) → x < 65536 → (x + 65536 * y) / 65536 ≡ y
high_4 x y h = omega arith

low_8 : (x y : ℕ) → x < 4294967296 → (x + 4294967296 * y) % 4294967296 ≡ x
low_8 x y h = omega arith

high_8 : (x y : ℕ) → x < 4294967296 → (x + 4294967296 * y) / 4294967296 ≡ y
high_8 x y h = omega arith

module _ (s : List ℕ) (h : (j : ℕ) → get_or s j 0 < 256) where
  less16 : (j : ℕ) → le16 s j < 65536
  less16 j = omega (arith, h j, h (j + 1))

  less32 : (j : ℕ) → le32 s j < 4294967296
  less32 j = omega (arith, less16 j, less16 (j + 2))

  pub back16 : (j : ℕ) → j + 2 ≤ length s → bytes16 (le16 s j) ≡ take 2 (drop j s)
  back16 j l = rw (low_2 (get_or s j 0) (get_or s (j + 1) 0) (h j), high_2 (get_or s j 0) (get_or s (j + 1) 0) (h j)) (take_two s j l)

  pub back32 : (j : ℕ) → j + 4 ≤ length s → bytes32 (le32 s j) ≡ take 4 (drop j s)
  back32 j l =
      ap (λ (n : ℕ). bytes16 n ++ bytes16 (le32 s j / 65536)) (low_4 (le16 s j) (le16 s (j + 2)) (less16 j))
      ∙ ap (λ (n : ℕ). bytes16 (le16 s j) ++ bytes16 n) (high_4 (le16 s j) (le16 s (j + 2)) (less16 j))
      ∙ ap (λ (l : List ℕ). l ++ bytes16 (le16 s (j + 2))) (back16 j (omega arith))
      ∙ ap (λ (l : List ℕ). take 2 (drop j s) ++ l) (back16 (j + 2) (omega arith))
      ∙ take_both s j 2 (j + 2) 2 refl

  pub back64 : (j : ℕ) → j + 8 ≤ length s → bytes64 (le64 s j) ≡ take 8 (drop j s)
  unfolding le64
  back64 j l =
      ap (λ (n : ℕ). bytes32 n ++ bytes32 (le64 s j / 4294967296)) (low_8 (le32 s j) (le32 s (j + 4)) (less32 j))
      ∙ ap (λ (n : ℕ). bytes32 (le32 s j) ++ bytes32 n) (high_8 (le32 s j) (le32 s (j + 4)) (less32 j))
      ∙ ap (λ (l : List ℕ). l ++ bytes32 (le32 s (j + 4))) (back32 j (omega arith))
      ∙ ap (λ (l : List ℕ). take 4 (drop j s) ++ l) (back32 (j + 4) (omega arith))
      ∙ take_both s j 4 (j + 4) 4 refl

  -- the record of the call that starts at place a
  pub call-bytes : (a : ℕ) → a + 16 ≤ length s → call_bytes (call_at s a) ≡ take 16 (drop a s)
  call-bytes a l =
      ap (λ (p : List ℕ). get_or s a 0 ∷ get_or s (a + 1) 0 ∷ (p ++ (bytes32 (le32 s (a + 4)) ++ bytes64 (le64 s (a + 8))))) (back16 (a + 2) (omega arith))
      ∙ ap (λ (p : List ℕ). get_or s a 0 ∷ get_or s (a + 1) 0 ∷ (take 2 (drop (a + 2) s) ++ (p ++ bytes64 (le64 s (a + 8))))) (back32 (a + 4) (omega arith))
      ∙ ap (λ (p : List ℕ). get_or s a 0 ∷ get_or s (a + 1) 0 ∷ (take 2 (drop (a + 2) s) ++ (take 4 (drop (a + 4) s) ++ p))) (back64 (a + 8) (omega arith))
      ∙ ap (λ (p : List ℕ). get_or s a 0 ∷ get_or s (a + 1) 0 ∷ (take 2 (drop (a + 2) s) ++ p)) (take_both s (a + 4) 4 (a + 8) 8 (omega arith))
      ∙ ap (λ (p : List ℕ). get_or s a 0 ∷ get_or s (a + 1) 0 ∷ p) (take_both s (a + 2) 2 (a + 4) 12 (omega arith))
      ∙ ap (λ (p : List ℕ). p ++ take 14 (drop (a + 2) s)) (take_two s a (omega arith))
      ∙ take_both s a 2 (a + 2) 14 refl

-- ── the buffers' first bytes ──

joined-more : (ls : List (List ℕ)) (l : List ℕ) → joined (ls ++ (l ∷ [])) ≡ joined ls ++ l
unfolding joined
joined-more [] l = append-nil l
joined-more (x ∷ ls) l = rw (joined-more ls l) (sym (append_assoc x (joined ls) l))

encode-more : (cs : List Call) (c : Call) → encode (cs ++ (c ∷ [])) ≡ encode cs ++ call_bytes c
unfolding encode
encode-more cs c = ap joined (map-append call_bytes cs (c ∷ [])) ∙ joined-more (map call_bytes cs) (call_bytes c)

-- the first 16 * n bytes of a buffer of bytes are the records of its first n calls
pub bytes_calls : (bs : List ℕ) → ((j : ℕ) → get_or bs j 0 < 256) → (n : ℕ) → 16 * n ≤ length bs → encode (calls_in n bs) ≡ take (16 * n) bs
unfolding calls_in encode joined
bytes_calls bs h zero l = refl
bytes_calls bs h (suc n) l =
    let e : 16 * suc n ≡ 16 * n + 16 = omega arith in
    rw (e, encode-more (calls_in n bs) (call_at bs (16 * n)), bytes_calls bs h n (omega arith), call-bytes bs h (16 * n) (omega arith))
    (sym (take-add (16 * n) 16 bs))

-- the first 3 * n bytes of a buffer are its first n messages
pub bytes_messages : (bs : List ℕ) (n : ℕ) → 3 * n ≤ length bs → joined (messages_in n bs) ≡ take (3 * n) bs
unfolding messages_in joined
bytes_messages bs zero l = refl
bytes_messages bs (suc n) l =
    let e : 3 * suc n ≡ 3 * n + 3 = omega arith in
    rw (e, joined-more (messages_in n bs) (message_at bs (3 * n)), bytes_messages bs n (omega arith), take_three bs (3 * n) (omega arith))
    (sym (take-add (3 * n) 3 bs))

-- ── how many calls and messages are read from a buffer ──

pub calls_length : (n : ℕ) (cs : List ℕ) → length (calls_in n cs) ≡ n
unfolding calls_in
calls_length zero cs = refl
calls_length (suc n) cs = omega (arith, length-append (calls_in n cs) (call_at cs (16 * n) ∷ []), calls_length n cs)

pub messages_length : (n : ℕ) (bs : List ℕ) → length (messages_in n bs) ≡ n
unfolding messages_in
messages_length zero bs = refl
messages_length (suc n) bs = omega (arith, length-append (messages_in n bs) (message_at bs (3 * n) ∷ []), messages_length n bs)
