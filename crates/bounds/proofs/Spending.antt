-- A law of every event, from what it says of a message, of an open and of a use: one walk over the handlers serves every such law. `Takes R m c f`: the
-- law holds of the act f, which sends m messages and makes c uses at most. D says which drivers may be used.
use Rattle.std.specs.Prelude.{ℕ, ◌+◌, ◌≤◌, Float}
use Rattle.std.proofs.Common.{arith}
use Rattle.protocol.specs.declared.Out.{Out}
use Rattle.lookup.specs.declared.Destination.{Destination}
use Rattle.drivers.specs.Talk.{Talk, Act, got, next, ◌>>=◌, plain_call, write_call, open_for, use_call, use_done, read_of, write_of, send}
use Rattle.drivers.specs.declared.Call.{Call}
use Rattle.definition.specs.Levels.{read, read_mute, write}

-- what the law says of an act, and that it holds of nothing done, of one act and then another, of a message, of an open and of a use
pub record Rules (D : ℕ → Type 0) : Type 1 where
  pub takes : {A : Type 0} → ℕ → ℕ → Act A → Type 0
  pub idle : {A : Type 0} {m c : ℕ} (a : A) → takes m c (got a)
  pub wider : {A : Type 0} {m c n d : ℕ} {f : Act A} → m ≤ n → c ≤ d → takes m c f → takes n d f
  -- of the first act's value P is known
  pub chain : {A B : Type 0} {m c n d : ℕ} {f : Act A} {g : A → Act B} (P : A → Type 0) → takes m c f → ((t : Talk) → P (f t).value) →
      ((a : A) → P a → takes n d (g a)) → takes (m + n) (c + d) (λ t. g (f t).value (f t).talk)
  pub say : (out : Out) → takes 1 0 (λ t. got (tt {0}) (send out t))
  pub opens : (driver name : ℕ) → D driver → takes 0 1 (open_for driver name)
  pub uses : (x : Call) → D x.driver → takes 0 1 (use_call x)

module _ {D : ℕ → Type 0} {A : Type 0} where
  pub record Takes (R : Rules D) (m c : ℕ) (f : Act A) : Type 0 where
    pub pays : R.takes m c f

module _ {D : ℕ → Type 0} where
  -- the same of what gives no value
  pub record Costs (R : Rules D) (m c : ℕ) (f : Talk → Talk) : Type 0 where
    pub pays : R.takes m c (λ t. got (tt {0}) (f t))

module _ {D : ℕ → Type 0} (R : Rules D) where
  -- nothing is said and asked, at any cost
  pub stay : {m c : ℕ} → Costs R m c (λ t. t)
  stay = record { pays = R.idle tt }

  pub says : (out : Out) → Costs R 1 0 (send out)
  says out = record { pays = R.say out }

  pub more : {m c n d : ℕ} {f : Talk → Talk} → Costs R m c f → m ≤ n → c ≤ d → Costs R n d f
  more h p q = record { pays = R.wider p q h.pays }

  -- f, and then g
  pub after : {m c n d : ℕ} {g f : Talk → Talk} → Costs R m c g → Costs R n d f → Costs R (n + m) (d + c) (λ t. g (f t))
  after {g = g} {f = f} h k =
      record { pays = R.chain {f = λ t. got tt (f t)} {g = λ x t. got tt (g t)} (λ x. Unit {0}) k.pays (λ t. tt) (λ x p. h.pays) }

  module _ {A : Type 0} where
    pub still : {m c : ℕ} {a : A} → Takes R m c (got a)
    still {a = a} = record { pays = R.idle a }

    pub done : {a : A} → Takes R 0 0 (got a)
    done = still

    pub up_to : {m c n d : ℕ} {f : Act A} → Takes R m c f → m ≤ n → c ≤ d → Takes R n d f
    up_to h p q = record { pays = R.wider p q h.pays }

    pub behind : {m c n d : ℕ} {g : Act A} {f : Talk → Talk} → Takes R m c g → Costs R n d f → Takes R (n + m) (d + c) (λ t. g (f t))
    behind {g = g} {f = f} h k =
        record { pays = R.chain {f = λ t. got tt (f t)} {g = λ x. g} (λ x. Unit {0}) k.pays (λ t. tt) (λ x p. h.pays) }

    pub giving : {m c : ℕ} {a : A} {g : Talk → Talk} → Costs R m c g → Takes R m c (λ t. got a (g t))
    giving {m} {c} {a} h = up_to (behind (done {a = a}) h) (omega arith) (omega arith)

    -- an act, and then what is done with its value, of which P is known
    pub onto_so : {m c n d : ℕ} {f : Act A} {g : A → Talk → Talk} (P : A → Type 0) → Takes R m c f → ((t : Talk) → P (f t).value) →
        ((a : A) → P a → Costs R n d (g a)) → Costs R (m + n) (c + d) (λ t. g (f t).value (f t).talk)
    onto_so {f = f} {g = g} P h v k =
        record { pays = R.chain {f = f} {g = λ a t. got tt (g a t)} P h.pays v (λ a p. (k a p).pays) }

    pub onto : {m c n d : ℕ} {f : Act A} {g : A → Talk → Talk} → Takes R m c f → ((a : A) → Costs R n d (g a)) →
        Costs R (m + n) (c + d) (λ t. g (f t).value (f t).talk)
    onto h k = onto_so (λ a. Unit {0}) h (λ t. tt) (λ a p. k a)

    pub line_of : {m c : ℕ} {f : Act A} → Takes R m c f → Costs R m c (λ t. (f t).talk)
    line_of {m} {c} h = more (onto h (λ a. stay {m = 0} {c = 0})) (omega arith) (omega arith)

  module _ {A B : Type 0} where
    pub bind_so : {m c n d : ℕ} {f : Act A} {g : A → Act B} (P : A → Type 0) → Takes R m c f → ((t : Talk) → P (f t).value) →
        ((a : A) → P a → Takes R n d (g a)) → Takes R (m + n) (c + d) (f >>= g)
    unfolding next
    bind_so {f = f} {g = g} P h v k = record { pays = R.chain {f = f} {g = g} P h.pays v (λ a p. (k a p).pays) }

    pub bind : {m c n d : ℕ} {f : Act A} {g : A → Act B} → Takes R m c f → ((a : A) → Takes R n d (g a)) → Takes R (m + n) (c + d) (f >>= g)
    bind h k = bind_so (λ a. Unit {0}) h (λ t. tt) (λ a p. k a)

  -- ── the calls ──
  pub takes_open : (driver name : ℕ) → D driver → Takes R 0 1 (open_for driver name)
  takes_open driver name d = record { pays = R.opens driver name d }

  pub takes_use : (c : Call) → D c.driver → Takes R 0 1 (use_call c)
  takes_use c d = record { pays = R.uses c d }

  pub takes_done : (c : Call) → D c.driver → Takes R 0 1 (use_done c)
  unfolding use_done
  takes_done c d = bind (takes_use c d) (λ x. done)

  pub takes_read_of : (driver name : ℕ) → D driver → Takes R 0 1 (read_of driver name)
  unfolding read_of plain_call
  takes_read_of driver name d = bind (takes_use (plain_call 1 driver name 0) d) (λ x. done)

  pub takes_read : (e : Destination) → D e.driver → Takes R 0 1 (read e)
  unfolding read
  takes_read e d = bind (takes_read_of e.driver e.target d) (λ x. done)

  pub takes_read_mute : (e : Destination) → D e.driver → Takes R 0 1 (read_mute e)
  unfolding read_mute
  takes_read_mute e d = bind (takes_read_of e.driver e.mute d) (λ x. done)

  pub takes_write_of : (driver name : ℕ) (x : Float) → D driver → Takes R 0 1 (write_of driver name x)
  unfolding write_of write_call
  takes_write_of driver name x d = takes_done (write_call driver name x) d

  pub takes_write : (e : Destination) (x : Float) → D e.driver → Takes R 0 1 (write e x)
  unfolding write
  takes_write e x d = takes_write_of e.driver e.target _ d

-- ── a law of the line: what is true of it, with room for m messages and c uses more ──

pub record Spent (D : ℕ → Type 0) (I : ℕ → ℕ → Talk → Type 0) : Type 0 where
  pub less : {m n c d : ℕ} {t : Talk} → m ≤ n → c ≤ d → I n d t → I m c t
  pub say : {m c : ℕ} {t : Talk} (out : Out) → I (1 + m) c t → I m c (send out t)
  pub opens : {m c : ℕ} {t : Talk} (driver name : ℕ) → D driver → I m (1 + c) t → I m c (open_for driver name t).talk
  pub uses : {m c : ℕ} {t : Talk} (x : Call) → D x.driver → I m (1 + c) t → I m c (use_call x t).talk

-- a line with room for m messages and c uses more than a and b has room for a and b after the act
abbrev pub spending : {D : ℕ → Type 0} {I : ℕ → ℕ → Talk → Type 0} → Spent D I → Rules D
spending {I = I} S =
    record {
      takes = λ m c f. (a b : ℕ) (t : Talk) → I (m + a) (c + b) t → I a b (f t).talk;
      idle = λ x a b t i. S.less (omega arith) (omega arith) i;
      wider = λ p q h a b t i. h a b t (S.less (omega (arith, p)) (omega (arith, q)) i);
      chain = λ {A} {B} {m} {c} {n} {d} {f} {g} P h v k a b t i.
          k (f t).value (v t) a b (f t).talk (h (n + a) (d + b) t (S.less (omega arith) (omega arith) i));
      say = λ out a b t i. S.say out (S.less (omega arith) (omega arith) i);
      opens = λ driver name d a b t i. S.opens driver name d (S.less (omega arith) (omega arith) i);
      uses = λ x d a b t i. S.uses x d (S.less (omega arith) (omega arith) i);
    }
