-- Bytes that were written are read back, and `ask` and `send` over the code's line and both buffers show `ask` and `send` of the definitions. Assumes nothing.
use Prim.Native.Nat.{ℕ, zero, suc, ◌+◌, ◌*◌, ◌-◌, ◌/◌, ◌%◌, ◌≤◌, ◌<◌}
use native.Mathlib.Omega.{arith}
use native.Mathlib.Nat.{add-zero, zero-add, add_assoc}
use native.Mathlib.Numerals.{add-one}
use mathlib.Core.Path.{◌≡◌, refl, sym, ap, ◌∙◌, subst}
use mathlib.Core.Bool.{Bool, true, false, true≢false, false≢true}
use mathlib.Core.List.{List, [], ◌∷◌, ◌++◌, map, map-append}
use lib.Dec.{leb, eqb}
use lib.ListN.{length, drop, take, set, get_or, length-drop, length-take, length-set, get_or-append}
use lib.Seq.{take_all, drop-drop, get_or-append-add, get_or-take, set_out, sets-eq}
use borrow.Author.Tests.{lt-ltb, le-ltb, le-leb, lt-leb, eq-eqb, ne_eqb, leb-true, leb-false}
use borrow.Rule.Slice.PartMut.{put_mid}
use Rattle.base.specs.Range.{all}
use Rattle.base.specs.Words.{le16, le32, le64, bytes16, bytes32, bytes64, put16, put32, put64}
use Rattle.base.proofs.WordsLaws.{halves16, halves32, halves64}
use Rattle.base.specs.Tail.{over, at_front}
use Rattle.base.proofs.TailLaws.{tail_over}
use Rattle.protocol.specs.Protocol.{bytes_of}
use Rattle.protocol.specs.declared.Out.{Out}
use Rattle.protocol.specs.declared.Out.TheVariants.{Led, Position}
use Rattle.std.proofs.Common.{cond}
use Rattle.drivers.specs.Answers.{item_fits, live_fits, count_at, item_at, items_of, list_if, answer_of, is_unfit, is_list, item_count}
use Rattle.drivers.proofs.AnswersLaws.{answer_bounded, answer_there, item_most}
use Rattle.drivers.specs.Kinds.{number_of}
use Rattle.drivers.specs.Talk.{is_going, is_open, opening, got, no_reply, name_of, plain_call, ask, ask_room, ask_left, ask_fit, send, send_room}
use Rattle.drivers.specs.Shown.{call_bytes, call_at, calls_in, message_at, messages_in, shown, stopped, opened_in, sent_with, reply_in, Listing}
use Rattle.drivers.proofs.BytesLaws.{calls_length, messages_length}
use Rattle.drivers.specs.declared.Call.{Call}
use Rattle.drivers.specs.declared.kind.Kind.{Kind}
use Rattle.drivers.specs.contracts.kind.Kind.{the_type}
use denote.Enum.Declared.{tag_of}
use Rattle.drivers.specs.declared.kind.Kind.TheVariants.{Open, Read, Write, Toggle, Command, Playing, Scenes, Current, Load, Live}
use Rattle.drivers.specs.declared.line.Io.{Io}
use Rattle.drivers.specs.declared.line.Reply.{Reply}
use Rattle.drivers.specs.declared.line.Stop.{Stop}
use Rattle.drivers.specs.declared.line.Stop.TheVariants.{Going, Waits, Declined, Overrun}
use Rattle.drivers.specs.declared.Answer.{Answer}
use Rattle.drivers.specs.declared.Answer.TheVariants as answer

-- a kind's place is its number
pub kind_number : (k : Kind) → tag_of the_type k ≡ number_of k
kind_number Open = refl
kind_number Read = refl
kind_number Write = refl
kind_number Toggle = refl
kind_number Command = refl
kind_number Playing = refl
kind_number Scenes = refl
kind_number Current = refl
kind_number Load = refl
kind_number Live = refl

-- ── bytes that were written over a list from place a on ──

module _ (xs bs : List ℕ) (a : ℕ) (h : a + length bs ≤ length xs) where
  front_length : length (take a xs) ≡ a
  front_length = omega (arith, length-take a xs)

  pub over-before : (j : ℕ) → j < a → get_or (over xs a bs) j 0 ≡ get_or xs j 0
  unfolding over
  over-before j l = get_or-append (take a xs) _ 0 j (omega (arith, front_length)) ∙ get_or-take a xs j 0 l

  pub over-at : (j : ℕ) → j < length bs → get_or (over xs a bs) (a + j) 0 ≡ get_or bs j 0
  unfolding over
  over-at j l =
      subst (λ (k : ℕ). get_or (over xs a bs) (k + j) 0 ≡ get_or bs j 0) front_length
      (get_or-append-add (take a xs) _ j 0 ∙ get_or-append bs _ 0 j l)

-- ── numbers in two lists whose n bytes from a and from b on are the same ──

module _ (s t : List ℕ) (a b n : ℕ) (h : (k : ℕ) → k < n → get_or s (a + k) 0 ≡ get_or t (b + k) 0) where
  agree : (j d : ℕ) → j + d < n → get_or s (a + j + d) 0 ≡ get_or t (b + j + d) 0
  agree j d l = rw (add_assoc a j d, add_assoc b j d) (h (j + d) l)

  pub agree16 : (j : ℕ) → j + 2 ≤ n → le16 s (a + j) ≡ le16 t (b + j)
  agree16 j l = rw (h j (omega arith), agree j 1 (omega arith))

  agree16_at : (j d : ℕ) → j + d + 2 ≤ n → le16 s (a + j + d) ≡ le16 t (b + j + d)
  agree16_at j d l = rw (add_assoc a j d, add_assoc b j d) (agree16 (j + d) l)

  pub agree32 : (j : ℕ) → j + 4 ≤ n → le32 s (a + j) ≡ le32 t (b + j)
  agree32 j l =
      ap (λ (x : ℕ). x + 65536 * le16 s (a + j + 2)) (agree16 j (omega arith)) ∙ ap (λ (x : ℕ). le16 t (b + j) + 65536 * x) (agree16_at j 2 (omega arith))

  agree32_at : (j d : ℕ) → j + d + 4 ≤ n → le32 s (a + j + d) ≡ le32 t (b + j + d)
  agree32_at j d l = rw (add_assoc a j d, add_assoc b j d) (agree32 (j + d) l)

  pub agree64 : (j : ℕ) → j + 8 ≤ n → le64 s (a + j) ≡ le64 t (b + j)
  unfolding le64
  agree64 j l =
      ap (λ (x : ℕ). x + 4294967296 * le32 s (a + j + 4)) (agree32 j (omega arith))
      ∙ ap (λ (x : ℕ). le32 t (b + j) + 4294967296 * x) (agree32_at j 4 (omega arith))

-- the bytes of a number are read back
pub whole32 : (n : ℕ) → le32 (bytes32 n) 0 ≡ n
whole32 n =
    ap (λ (x : ℕ). x + 65536 * le16 (bytes16 (n / 65536)) 0) (halves16 (n % 65536)) ∙ ap (λ (x : ℕ). n % 65536 + 65536 * x) (halves16 (n / 65536)) ∙ halves32 n

pub whole64 : (n : ℕ) → le64 (bytes64 n) 0 ≡ n
unfolding le64
whole64 n =
    ap (λ (x : ℕ). x + 4294967296 * le32 (bytes32 (n / 4294967296)) 0) (whole32 (n % 4294967296))
    ∙ ap (λ (x : ℕ). n % 4294967296 + 4294967296 * x) (whole32 (n / 4294967296))
    ∙ halves64 n

-- ── calls in the buffer ──

same_fields : {k k' d d' n n' a a' l l' : ℕ} → k ≡ k' → d ≡ d' → n ≡ n' → a ≡ a' → l ≡ l' →
    ◌≡◌ {A = Call} (record { kind = k; driver = d; name = n; argument = a; level = l }) (record { kind = k'; driver = d'; name = n'; argument = a'; level = l' })
same_fields e₁ e₂ e₃ e₄ e₅ = rw (e₁, e₂, e₃, e₄, e₅)

call_same : (s t : List ℕ) (a b : ℕ) → ((k : ℕ) → k < 16 → get_or s (a + k) 0 ≡ get_or t (b + k) 0) → call_at s a ≡ call_at t b
call_same s t a b h =
    same_fields (rw (add-zero a, add-zero b) at (h 0 (omega arith))) (h 1 (omega arith)) (agree16 s t a b 16 h 2 (omega arith))
    (agree32 s t a b 16 h 4 (omega arith))
    (agree64 s t a b 16 h 8 (omega arith))

call-whole : (c : Call) → call_at (call_bytes c) 0 ≡ c
unfolding le64
call-whole c = same_fields refl refl (halves16 c.name) (whole32 c.argument) (whole64 c.level)

call_there : (cs : List ℕ) (i : ℕ) (c : Call) → i + 16 ≤ length cs → call_at (over cs i (call_bytes c)) i ≡ c
call_there cs i c h =
    call_same (over cs i (call_bytes c)) (call_bytes c) i 0 (λ k l. over-at cs (call_bytes c) i h k l ∙ rw (zero-add k)) ∙ call-whole c

calls_before : (cs : List ℕ) (n m : ℕ) (c : Call) → 16 * m + 16 ≤ length cs → n ≤ m → calls_in n (over cs (16 * m) (call_bytes c)) ≡ calls_in n cs
unfolding calls_in
calls_before cs zero m c h l = refl
calls_before cs (suc n) m c h l =
    rw (
      calls_before cs n m c h (omega arith),
      call_same (over cs (16 * m) (call_bytes c)) cs (16 * n) (16 * n) (λ k q. over-before cs (call_bytes c) (16 * m) h (16 * n + k) (omega arith)),
    )

-- a call that is written behind n others is one call more
pub calls_more : (cs : List ℕ) (n : ℕ) (c : Call) → 16 * n + 16 ≤ length cs → calls_in (n + 1) (over cs (16 * n) (call_bytes c)) ≡ calls_in n cs ++ (c ∷ [])
unfolding calls_in
calls_more cs n c h = rw (add-one, calls_before cs n n c h (omega arith), call_there cs (16 * n) c h)

-- ── messages in the buffer ──

message_same : (s t : List ℕ) (a b : ℕ) → ((k : ℕ) → k < 3 → get_or s (a + k) 0 ≡ get_or t (b + k) 0) → message_at s a ≡ message_at t b
message_same s t a b h = rw (rw (add-zero a, add-zero b) at (h 0 (omega arith)), h 1 (omega arith), h 2 (omega arith))

-- every message has three bytes
message_long : (o : Out) → length (bytes_of o) ≡ 3
unfolding bytes_of
message_long (Led note on) = refl
message_long (Position channel raw) = refl

message_whole : (o : Out) → message_at (bytes_of o) 0 ≡ bytes_of o
unfolding bytes_of
message_whole (Led note on) = refl
message_whole (Position channel raw) = refl

module _ (bs : List ℕ) (m : ℕ) (o : Out) (h : 3 * m + 3 ≤ length bs) where
  fits : 3 * m + length (bytes_of o) ≤ length bs
  fits = rw (message_long o) h

  message_there : message_at (over bs (3 * m) (bytes_of o)) (3 * m) ≡ bytes_of o
  message_there =
      message_same (over bs (3 * m) (bytes_of o)) (bytes_of o) (3 * m) 0 (λ k l. over-at bs (bytes_of o) (3 * m) fits k (rw (message_long o) l) ∙ rw (zero-add k))
      ∙ message_whole o

  messages_before : (n : ℕ) → n ≤ m → messages_in n (over bs (3 * m) (bytes_of o)) ≡ messages_in n bs
  unfolding messages_in
  messages_before zero l = refl
  messages_before (suc n) l =
      rw (
        messages_before n (omega arith),
        message_same (over bs (3 * m) (bytes_of o)) bs (3 * n) (3 * n) (λ k q. over-before bs (bytes_of o) (3 * m) fits (3 * n + k) (omega arith)),
      )

  pub messages_more : messages_in (m + 1) (over bs (3 * m) (bytes_of o)) ≡ messages_in m bs ++ (bytes_of o ∷ [])
  unfolding messages_in
  messages_more = rw (add-one, messages_before m (omega arith), message_there)

-- ── answers ──

-- the part of the answers that is handed on, from the first unread record to their end
pub part-all : (ans : List ℕ) (n : ℕ) → take (length ans - n) (drop n ans) ≡ drop n ans
part-all ans n = take_all (length ans - n) (drop n ans) (simp length-drop (omega arith))

none_left : (ans : List ℕ) (n : ℕ) → eqb (length (drop n ans)) 0 ≡ leb (length ans) n
none_left ans n = go (leb (length ans) n) refl
  where
    go : (b : Bool) → leb (length ans) n ≡ b → eqb (length (drop n ans)) 0 ≡ leb (length ans) n
    go true e = rw e (eq-eqb (length (drop n ans)) 0 (omega (arith, length-drop n ans, leb-true (length ans) n e)))
    go false e = rw e (ne_eqb (length (drop n ans)) 0 (λ z. omega (arith, length-drop n ans, leb-false (length ans) n e)))

-- what a list's answer is, by the code's tests: n is its count, and b says whether all its items fit
module _ (fits : List ℕ → ℕ → Bool) (most : ℕ) (part : List ℕ) (n : ℕ) (e : n ≡ count_at part) where
  pub list_many : most < n → answer.Unfit ≡ list_if fits most part
  list_many l = rw (← e, lt-ltb most n l)

  pub list_short : n ≤ most → length part / 16 ≤ n → answer.Unfit ≡ list_if fits most part
  list_short l k = rw (← e, le-ltb most n l, le-ltb n (length part / 16) k)

  module _ (l : n ≤ most) (k : n < length part / 16) (b : Bool) (q : b ≡ all n (fits part)) where
    pub list_good : b ≡ true → answer.List ≡ list_if fits most part
    list_good t = rw (← e, le-ltb most n l, lt-ltb n (length part / 16) k, ← q, t)

    pub list_bad : b ≡ false → answer.Unfit ≡ list_if fits most part
    list_bad t = rw (← e, le-ltb most n l, lt-ltb n (length part / 16) k, ← q, t)

-- what is read from the part that is handed on is read from the answers' rest
module _ (ans : List ℕ) (n : ℕ) where
  pub answer_part : (kind : ℕ) (a : Answer) → a ≡ answer_of (take (length ans - n) (drop n ans)) kind → a ≡ answer_of (drop n ans) kind
  answer_part kind a e = e ∙ ap (λ p. answer_of p kind) (part-all ans n)

  pub items-part : (a : Answer) (k : ℕ) → k ≡ item_count a (take (length ans - n) (drop n ans)) → k ≡ item_count a (drop n ans)
  items-part a k e = e ∙ ap (item_count a) (part-all ans n)

-- no items
pub no_listing : (kind : ℕ) (r : Reply) → r.count ≡ 0 → Listing kind r
no_listing kind r e = record { within = λ i l. absurd (omega arith); scenes = omega arith; live = λ _. omega arith; none = λ _. e }

no_count : (r : Reply) → is_list r.answer ≡ false → item_count r.answer r.part.now ≡ 0
unfolding item_count
no_count r f = rw f

-- what a call that is answered hands on
pub listing : (kind : ℕ) (r : Reply) → r.answer ≡ answer_of r.part.now kind → is_unfit r.answer ≡ false → r.count ≡ item_count r.answer r.part.now → Listing kind r
listing kind r e u q =
    let w : 16 + 16 * r.count ≤ length r.part.now = answer_there r.part.now kind r.answer r.count e u q in
    let m : (item_count r.answer r.part.now ≤ 128) × (kind ≡ 9 → item_count r.answer r.part.now ≤ 32) =
    item_most r.part.now kind r.answer (rw e (answer_bounded r.part.now kind))
    in record { within = λ i h. omega arith; scenes = rw q m.0; live = λ k. rw q (m.1 k); none = λ f. q ∙ no_count r f }

-- ── a call ──

module _ (io : Io) (c : Call) where
  goes : is_going io.stop ≡ true → ask c (shown io) ≡ ask_room (leb 337 io.asked) c (shown io)
  unfolding shown ask
  goes e = go io.stop refl e ∙ rw (calls_length io.asked io.calls)
    where
      go : (s : Stop) → io.stop ≡ s → is_going s ≡ true → ask c (shown io) ≡ ask_room (leb 337 (length (calls_in io.asked io.calls))) c (shown io)
      go Going z q = rw z
      go (Waits d) z q = absurd (false≢true q)
      go Declined z q = absurd (false≢true q)
      go Overrun z q = absurd (false≢true q)

  -- nothing was asked, and the line is this one
  nothing : (r : Reply) (u : Io) → r.answer ≡ answer.Refused → r.count ≡ 0 → got (reply_in r) (shown u) ≡ got no_reply (shown u)
  unfolding reply_in items_of
  nothing r u e q = rw (e, q)

  pub ask_stopped : (r : Reply) → r.answer ≡ answer.Refused → r.count ≡ 0 → is_going io.stop ≡ false → got (reply_in r) (shown io) ≡ ask c (shown io)
  unfolding shown ask
  ask_stopped r e q f = nothing r io e q ∙ go io.stop refl f
    where
      go : (s : Stop) → io.stop ≡ s → is_going s ≡ false → got no_reply (shown io) ≡ ask c (shown io)
      go Going z g = absurd (true≢false g)
      go (Waits d) z g = rw z
      go Declined z g = rw z
      go Overrun z g = rw z

  pub ask_full : (r : Reply) (u : Io) → r.answer ≡ answer.Refused → r.count ≡ 0 → u ≡ stopped Overrun io → is_going io.stop ≡ true → 337 ≤ io.asked →
      got (reply_in r) (shown u) ≡ ask c (shown io)
  unfolding shown
  ask_full r u e q p z l = nothing r u e q ∙ rw p (sym (goes z ∙ rw (le-leb 337 io.asked l)))

  left_of_lem : io.asked < 337 → is_going io.stop ≡ true → ask c (shown io) ≡ ask_left (leb (length io.answers.now) io.read) c (shown io)
  unfolding shown
  left_of_lem l z = goes z ∙ rw (lt-leb 337 io.asked l, none_left io.answers.now io.read)

  pub ask-waits : (r : Reply) (u : Io) → r.answer ≡ answer.Refused → r.count ≡ 0 → u ≡ stopped (Waits c) io → is_going io.stop ≡ true → io.asked < 337 →
      length io.answers.now ≤ io.read → got (reply_in r) (shown u) ≡ ask c (shown io)
  unfolding shown
  ask-waits r u e q p z l h = nothing r u e q ∙ rw p (sym (left_of_lem l z ∙ rw (le-leb (length io.answers.now) io.read h)))

  fit_of : (a : Answer) → a ≡ answer_of (drop io.read io.answers.now) c.kind → io.asked < 337 → is_going io.stop ≡ true → io.read < length io.answers.now →
      ask c (shown io) ≡ ask_fit (is_unfit a) c a (shown io)
  unfolding shown
  fit_of a e l z h = left_of_lem l z ∙ rw (lt-leb (length io.answers.now) io.read h, ← e)

  pub ask-declined : (r : Reply) (u : Io) (a : Answer) → r.answer ≡ answer.Refused → r.count ≡ 0 → u ≡ stopped Declined io →
      a ≡ answer_of (drop io.read io.answers.now) c.kind → is_unfit a ≡ true → is_going io.stop ≡ true → io.asked < 337 → io.read < length io.answers.now →
      got (reply_in r) (shown u) ≡ ask c (shown io)
  unfolding shown
  ask-declined r u a e q p f g z l h = nothing r u e q ∙ rw p (sym (fit_of a f l z h ∙ rw g))

  -- the line once the call is made, and its n items are read
  abbrev pub made_in : ℕ → List ℕ → Io
  made_in n calls =
      record {
        answers = io.answers;
        calls = calls;
        messages = io.messages;
        read = io.read + (16 + 16 * n);
        asked = io.asked + 1;
        sent = io.sent;
        opened = io.opened;
        stop = io.stop;
      }

  made : (r : Reply) → r.part.now ≡ drop io.read io.answers.now → r.count ≡ item_count r.answer (drop io.read io.answers.now) → io.asked < 337 →
      5392 ≤ length io.calls →
      got (reply_in r) (shown (made_in r.count (over io.calls (16 * io.asked) (call_bytes c)))) ≡ ask_fit false c r.answer (shown io)
  unfolding shown reply_in
  made r d q l k = rw (d, calls_more io.calls io.asked c (omega arith), q, drop-drop (16 + 16 * item_count r.answer (drop io.read io.answers.now)) io.read io.answers.now)

  pub ask-made : (r : Reply) (w : List ℕ) → r.part.now ≡ drop io.read io.answers.now → r.answer ≡ answer_of (drop io.read io.answers.now) c.kind →
      is_unfit r.answer ≡ false → r.count ≡ item_count r.answer (drop io.read io.answers.now) →
      w ≡ at_front (call_bytes c) (take (5392 - 16 * io.asked) (drop (16 * io.asked) io.calls)) →
      is_going io.stop ≡ true → io.asked < 337 → io.read < length io.answers.now → length io.calls ≡ 5392 →
      got (reply_in r) (shown (made_in r.count (put_mid (16 * io.asked) (5392 - 16 * io.asked) io.calls w))) ≡ ask c (shown io)
  ask-made r w d e f q v z l h k =
      let m : put_mid (16 * io.asked) (5392 - 16 * io.asked) io.calls w ≡ over io.calls (16 * io.asked) (call_bytes c) =
      rw v (rw k at (tail_over io.calls (call_bytes c) (16 * io.asked) (omega arith)))
      in rw m (made r d q l (omega arith) ∙ sym (fit_of r.answer e l z h ∙ rw f))

-- ── a message ──

module _ (io : Io) where
  send_stopped : (o : Out) (s : Stop) → io.stop ≡ s → is_going s ≡ false → shown io ≡ send o (shown io)
  unfolding shown send
  send_stopped o Going z g = absurd (true≢false g)
  send_stopped o (Waits d) z g = rw z
  send_stopped o Declined z g = rw z
  send_stopped o Overrun z g = rw z

  send-goes : (o : Out) (s : Stop) → io.stop ≡ s → is_going s ≡ true → send o (shown io) ≡ send_room (leb 102 io.sent) (bytes_of o) (shown io)
  unfolding shown send
  send-goes o Going z g = rw (z, messages_length io.sent io.messages)
  send-goes o (Waits d) z g = absurd (false≢true g)
  send-goes o Declined z g = absurd (false≢true g)
  send-goes o Overrun z g = absurd (false≢true g)

  pub no_place : is_going io.stop ≡ false → (o : Out) → shown io ≡ send o (shown io)
  no_place g o = send_stopped o io.stop refl g

  pub no_room : is_going io.stop ≡ true → 102 ≤ io.sent → (o : Out) → shown (stopped Overrun io) ≡ send o (shown io)
  unfolding shown
  no_room g l o = sym (send-goes o io.stop refl g ∙ rw (le-leb 102 io.sent l))

  pub placed : is_going io.stop ≡ true → io.sent < 102 → length io.messages ≡ 306 → (o : Out) →
      shown (sent_with (over io.messages (3 * io.sent) (bytes_of o)) io) ≡ send o (shown io)
  unfolding shown
  placed g l k o = rw (messages_more io.messages io.sent o (omega arith)) (sym (send-goes o io.stop refl g ∙ rw (lt-leb 102 io.sent l)))

-- ── sixteen stores at the front ──

pub stores : (l : List ℕ) (c : Call) → 16 ≤ length l →
    put64 (put32 (put16 (set (set l 0 c.kind) 1 c.driver) 2 c.name) 4 c.argument) 8 c.level ≡ at_front (call_bytes c) l
unfolding put64 at_front
stores l c h = sets-eq (call_bytes c) l 0 h

pub stores_length : (l : List ℕ) (c : Call) →
    length (put64 (put32 (put16 (set (set l 0 c.kind) 1 c.driver) 2 c.name) 4 c.argument) 8 c.level) ≡ length l
unfolding put64
stores_length l c = simp length-set

-- ── what a function may look at, and the one thing that is set apart from a call ──

pub is_open_lem : (io : Io) (d : ℕ) → is_open d (shown io) ≡ get_or io.opened d false
unfolding shown is_open
is_open_lem io d = refl

pub opens : (io : Io) (d : ℕ) → opening d (shown io) ≡ shown (opened_in io d)
unfolding shown opening
opens io d = refl

-- a plain call is of its kind
pub plain_listing : (c : Call) (r : Reply) (k d n a : ℕ) → c ≡ plain_call k d n a → Listing c.kind r → Listing k r
unfolding plain_call
plain_listing c r k d n a e l = rw e at l

-- past the places there are, opening a driver changes nothing
pub past_same : (io : Io) (d : ℕ) → length io.opened ≡ 16 → (d < 16 → ⊥) → io ≡ opened_in io d
past_same io d h l = rw (set_out io.opened d true (omega arith))

-- ── lists that are handed on ──

pub items_more : (part : List ℕ) (i : ℕ) → items_of (i + 1) part ≡ items_of i part ++ (item_at part i ∷ [])
unfolding items_of
items_more part i = rw add-one

pub names_more : (part : List ℕ) (i : ℕ) → map name_of (items_of (i + 1) part) ≡ map name_of (items_of i part) ++ (le16 part (16 * i + 18) ∷ [])
names_more part i = ap (map name_of) (items_more part i) ∙ map-append name_of (items_of i part) (item_at part i ∷ [])

-- one test of all the items, or the other
pub all_cond : (b : Bool) (part : List ℕ) (n : ℕ) →
    all n (λ i. cond b (live_fits part i) (item_fits part i)) ≡ cond b (all n (live_fits part)) (all n (item_fits part))
all_cond true part n = refl
all_cond false part n = refl
