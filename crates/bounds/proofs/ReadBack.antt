-- Every message of an event has three bytes; so the messages and calls that are read from a lent buffer behind a done event are the event's. Assumes nothing.
use Rattle.std.specs.Prelude.{ℕ, zero, suc, ◌+◌, ◌*◌, ◌/◌, ◌%◌, ◌≡◌, refl, Bool, true, false, List, [], ◌∷◌, ◌++◌, eqb, length, get_or}
use Rattle.std.proofs.Common.{ap, ◌∙◌, append_assoc, arith, get_or-append-add}
use Rattle.base.specs.Words.{le64}
use Rattle.base.proofs.WordsLaws.{halves16, halves32, halves64}
use Rattle.protocol.specs.Protocol.{bytes_of}
use Rattle.protocol.specs.declared.Out.{Out}
use Rattle.protocol.specs.declared.Out.TheVariants.{Led, Position}
use Rattle.lookup.specs.View.{View}
use Rattle.drivers.specs.Talk.{Talk, Got, start, opening}
use Rattle.drivers.specs.declared.line.Stop.{Stop}
use Rattle.drivers.specs.declared.line.Stop.TheVariants.{Going, Waits, Declined, Overrun}
use Rattle.drivers.specs.Shown.{call_bytes, call_at, calls_in, message_at, messages_in}
use Rattle.drivers.specs.Bytes.{joined, encode}
use Rattle.drivers.specs.declared.Call.{Call}
use Rattle.event.specs.declared.Timed.{Timed}
use Rattle.definition.specs.Step.{Kept, Left, Ended, done, refused, waiting, finish, step_if, refusal, act, step}
use Rattle.bounds.specs.Drivers.{Each, no_more, one_more}
use Rattle.bounds.proofs.Keeping.{Keeps, act_keeps}

-- ── three bytes ──

abbrev pub Three : List ℕ → Type 0
Three m = length m ≡ 3

-- every message of an event that is done has three bytes
abbrev pub ThreeOf : Ended → Type 0
ThreeOf (done ms cs used saved) = Each Three ms
ThreeOf (refused why) = Unit {0}
ThreeOf (waiting c) = Unit {0}

abbrev Threes : Talk → Type 0
Threes t = Each Three t.messages

out_three : (out : Out) → Three (bytes_of out)
unfolding bytes_of
out_three (Led note on) = refl
out_three (Position channel raw) = refl

one-behind : (l : List (List ℕ)) (x : List ℕ) → Each Three l → Three x → Each Three (l ++ (x ∷ []))
one-behind [] x h k = one_more k no_more
one-behind (y ∷ l) x (one_more j h) k = one_more j (one-behind l x h k)

threes : Keeps Threes
unfolding opening
threes =
    record {
      stops = λ s t h. h;
      takes = λ c t f h. h;
      opens = λ driver t h. h;
      says = λ out t h. one-behind t.messages (bytes_of out) h (out_three out);
    }

finish_three : (s : Stop) (v : View) (k : Kept) (r : Got Left) → Each Three r.talk.messages → ThreeOf (finish s v k r).ended
finish_three Going v k r h = h
finish_three (Waits c) v k r h = tt
finish_three Declined v k r h = tt
finish_three Overrun v k r h = tt

pub step_three : (v : View) (k : Kept) (e : Timed) (answers : List ℕ) → ThreeOf (step v k e answers).ended
unfolding step
step_three v k e answers = at (eqb (refusal e.what v k e.time) 0)
  where
    at : (b : Bool) → ThreeOf (step_if b (refusal e.what v k e.time) e v k answers).ended
    at true =
        let r = act e.what v k e.time (start answers k.opened) in
        finish_three r.talk.stop v k r (act_keeps Threes threes v k e answers no_more)
    at false = tt

-- ── messages, read back ──

message_behind : (a b c : ℕ) (bs : List ℕ) (n : ℕ) → message_at (a ∷ b ∷ c ∷ bs) (3 * suc n) ≡ message_at bs (3 * n)
message_behind a b c bs n =
    let x : 3 * suc n ≡ suc (suc (suc (3 * n))) = omega arith in
    let y : 3 * suc n + 1 ≡ suc (suc (suc (3 * n + 1))) = omega arith in
    let z : 3 * suc n + 2 ≡ suc (suc (suc (3 * n + 2))) = omega arith in
    rw (z, y, x)

message_first : (n a b c : ℕ) (bs : List ℕ) → messages_in (suc n) (a ∷ b ∷ c ∷ bs) ≡ (a ∷ b ∷ c ∷ []) ∷ messages_in n bs
unfolding messages_in
message_first zero a b c bs = refl
message_first (suc n) a b c bs = rw (message_first n a b c bs, message_behind a b c bs n)

its_message : (m : List ℕ) → Three m → (n : ℕ) (bs : List ℕ) → messages_in (suc n) (m ++ bs) ≡ m ∷ messages_in n bs
its_message [] h n bs = absurd (omega arith)
its_message (a ∷ []) h n bs = absurd (omega arith)
its_message (a ∷ b ∷ []) h n bs = absurd (omega arith)
its_message (a ∷ b ∷ c ∷ []) h n bs = message_first n a b c bs
its_message (a ∷ b ∷ c ∷ d ∷ m) h n bs = absurd (omega arith)

pub messages_back : (ms : List (List ℕ)) (rest : List ℕ) → Each Three ms → messages_in (length ms) (joined ms ++ rest) ≡ ms
unfolding messages_in joined
messages_back [] rest h = refl
messages_back (m ∷ ms) rest (one_more k h) =
    rw (append_assoc m (joined ms) rest)
    (its_message m k (length ms) (joined ms ++ rest) ∙ ap (λ (l : List (List ℕ)). m ∷ l) (messages_back ms rest h))

-- ── calls, read back ──

-- what is read of a number's bytes
abbrev again16 : ℕ → ℕ
again16 n = n % 256 + 256 * (n / 256)

abbrev again32 : ℕ → ℕ
again32 n = again16 (n % 65536) + 65536 * again16 (n / 65536)

abbrev again64 : ℕ → ℕ
again64 n = again32 (n % 4294967296) + 4294967296 * again32 (n / 4294967296)

same32 : (n : ℕ) → again32 n ≡ n
same32 n = rw (halves16 (n % 65536), halves16 (n / 65536)) (halves32 n)

same64 : (n : ℕ) → again64 n ≡ n
same64 n = rw (same32 (n % 4294967296), same32 (n / 4294967296)) (halves64 n)

-- a call's record reads as the call, whatever stands behind it
its_call : (c : Call) (bs : List ℕ) → call_at (call_bytes c ++ bs) 0 ≡ c
unfolding le64
its_call c bs =
    let call : ℕ → ℕ → ℕ → Call = λ name argument level. record { kind = c.kind; driver = c.driver; name = name; argument = argument; level = level } in
    ap (λ (n : ℕ). call n (again32 c.argument) (again64 c.level)) (halves16 c.name)
    ∙ ap (λ (n : ℕ). call c.name n (again64 c.level)) (same32 c.argument)
    ∙ ap (λ (n : ℕ). call c.name c.argument n) (same64 c.level)

further : (xs bs : List ℕ) (i k : ℕ) → length xs + i ≡ k → get_or (xs ++ bs) k 0 ≡ get_or bs i 0
further xs bs i k e = rw (← e) (get_or-append-add xs bs i 0)

-- behind another
call-behind : (xs bs : List ℕ) (n : ℕ) → length xs ≡ 16 → call_at (xs ++ bs) (16 * suc n) ≡ call_at bs (16 * n)
unfolding le64
call-behind xs bs n h =
    rw (
      further xs bs (16 * n + 8 + 4 + 2 + 1) (16 * suc n + 8 + 4 + 2 + 1) (omega arith),
      further xs bs (16 * n + 8 + 4 + 2) (16 * suc n + 8 + 4 + 2) (omega arith),
      further xs bs (16 * n + 8 + 4 + 1) (16 * suc n + 8 + 4 + 1) (omega arith),
      further xs bs (16 * n + 8 + 4) (16 * suc n + 8 + 4) (omega arith),
      further xs bs (16 * n + 8 + 2 + 1) (16 * suc n + 8 + 2 + 1) (omega arith),
      further xs bs (16 * n + 8 + 2) (16 * suc n + 8 + 2) (omega arith),
      further xs bs (16 * n + 8 + 1) (16 * suc n + 8 + 1) (omega arith),
      further xs bs (16 * n + 8) (16 * suc n + 8) (omega arith),
      further xs bs (16 * n + 4 + 2 + 1) (16 * suc n + 4 + 2 + 1) (omega arith),
      further xs bs (16 * n + 4 + 2) (16 * suc n + 4 + 2) (omega arith),
      further xs bs (16 * n + 4 + 1) (16 * suc n + 4 + 1) (omega arith),
      further xs bs (16 * n + 4) (16 * suc n + 4) (omega arith),
      further xs bs (16 * n + 2 + 1) (16 * suc n + 2 + 1) (omega arith),
      further xs bs (16 * n + 2) (16 * suc n + 2) (omega arith),
      further xs bs (16 * n + 1) (16 * suc n + 1) (omega arith),
      further xs bs (16 * n) (16 * suc n) (omega arith),
    )

call-first : (n : ℕ) (c : Call) (bs : List ℕ) → calls_in (suc n) (call_bytes c ++ bs) ≡ c ∷ calls_in n bs
unfolding calls_in
call-first zero c bs = ap (λ (x : Call). x ∷ []) (its_call c bs)
call-first (suc n) c bs = rw (call-first n c bs, call-behind (call_bytes c) bs n refl)

pub calls_back : (cs : List Call) (rest : List ℕ) → calls_in (length cs) (encode cs ++ rest) ≡ cs
unfolding calls_in encode joined
calls_back [] rest = refl
calls_back (c ∷ cs) rest = call-first (length cs) c (encode cs ++ rest) ∙ ap (λ (l : List Call). c ∷ l) (calls_back cs rest)
