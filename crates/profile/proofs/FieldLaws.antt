-- What fields in range are, as facts on numbers. Assumes nothing.
use Rattle.std.specs.Prelude.{ℕ, ◌+◌, ◌≤◌, ◌<◌, ◌≡◌, List, true, ◌⊎◌, eqb}
use Rattle.std.proofs.Common.{inl, inr, ⊎_elim, arith, leb-true, eqb-true, ltb-true}
use Rattle.base.proofs.RangeLaws.{every-at, or_cases, all-at}
use Rattle.profile.specs.Profile.{records, byte_at, half_at, bank_ok, control_ok, scene_ok, transport_ok, button_ok, ok_as, record_ok, fields_ok, control}

-- a fader or an encoder is one of two kinds
pub control_kinds : (kind : ℕ) → control kind ≡ true → (kind ≡ 2) ⊎ (kind ≡ 3)
unfolding control
control_kinds kind e = ⊎_elim (λ a. inl (eqb-true _ _ a)) (λ b. inr (eqb-true _ _ b)) (or_cases (eqb kind 2) (eqb kind 3) e)

-- what `ok_as` says at each kind
module _ (s : List ℕ) (k : ℕ) where
  ok_bank : ok_as 1 s k ≡ true → bank_ok s k ≡ true
  unfolding ok_as
  ok_bank e = e

  ok_fader : ok_as 2 s k ≡ true → control_ok s k 16 ≡ true
  unfolding ok_as
  ok_fader e = e

  ok_encoder : ok_as 3 s k ≡ true → control_ok s k 8 ≡ true
  unfolding ok_as
  ok_encoder e = e

  ok_scene : ok_as 4 s k ≡ true → scene_ok s k ≡ true
  unfolding ok_as
  ok_scene e = e

  ok_transport : ok_as 5 s k ≡ true → transport_ok s k ≡ true
  unfolding ok_as
  ok_transport e = e

  ok_button : ok_as 6 s k ≡ true → button_ok s k ≡ true
  unfolding ok_as
  ok_button e = e

module _ (s : List ℕ) (ok : fields_ok s ≡ true) (k : ℕ) (in_file : k < records s) where
  fields_at : (kind : ℕ) → byte_at s k 0 ≡ kind → ok_as kind s k ≡ true
  unfolding fields_ok record_ok
  fields_at kind e = rw e at (all-at (record_ok s) (records s) k ok in_file)

-- a fader or an encoder whose fields are in range
pub record Control (s : List ℕ) (k top : ℕ) : Type 0 where
  pub bank : (byte_at s k 1 ≤ 15) ⊎ (byte_at s k 1 ≡ 255)
  pub low : 1 ≤ byte_at s k 2
  pub high : byte_at s k 2 ≤ top
  pub driver : half_at s k 4 ≤ 15

control_of_lem : (s : List ℕ) (k top : ℕ) → control_ok s k top ≡ true → Control s k top
control_of_lem s k top e =
    record {
      bank = ⊎_elim (λ a. inl (leb-true _ _ a)) (λ b. inr (eqb-true _ _ b)) (or_cases _ _ (every-at _ 0 e));
      low = leb-true _ _ (every-at _ 1 e);
      high = leb-true _ _ (every-at _ 2 e);
      driver = leb-true _ _ (every-at _ 4 e);
    }

module _ (s : List ℕ) (ok : fields_ok s ≡ true) (k : ℕ) (in_file : k < records s) where
  pub fader-at : byte_at s k 0 ≡ 2 → Control s k 16
  fader-at e = control_of_lem s k 16 (ok_fader s k (fields_at s ok k in_file 2 e))

  pub encoder-at : byte_at s k 0 ≡ 3 → Control s k 8
  encoder-at e = control_of_lem s k 8 (ok_encoder s k (fields_at s ok k in_file 3 e))

  pub control-at : control (byte_at s k 0) ≡ true → Control s k 16
  control-at e =
      ⊎_elim fader-at (λ q. let r = encoder-at q in record { bank = r.bank; low = r.low; high = omega arith; driver = r.driver })
      (control_kinds (byte_at s k 0) e)

-- a bank, a scene, a transport and a default button whose fields are in range
pub record Bank (s : List ℕ) (k : ℕ) : Type 0 where
  pub own : byte_at s k 1 ≤ 15
  pub number : byte_at s k 2 ≡ 0
  pub name : half_at s k 4 < 65535
  pub driver : (half_at s k 6 ≤ 15) ⊎ (half_at s k 6 ≡ 65535)
  pub rec : byte_at s k 10 ≤ 2
  pub select : byte_at s k 11 ≤ 1

pub record Scene (s : List ℕ) (k : ℕ) : Type 0 where
  pub bank : byte_at s k 1 ≤ 15
  pub name : half_at s k 4 < 65535

pub record Transport (s : List ℕ) (k : ℕ) : Type 0 where
  pub bank : (byte_at s k 1 ≤ 15) ⊎ (byte_at s k 1 ≡ 255)
  pub kind : byte_at s k 2 ≤ 15
  pub driver : half_at s k 4 ≤ 15
  pub command : half_at s k 8 < 65535

pub record Button (s : List ℕ) (k : ℕ) : Type 0 where
  pub driver : byte_at s k 1 ≤ 15
  pub kind : byte_at s k 2 ≤ 15
  pub command : half_at s k 4 < 65535

module _ (s : List ℕ) (ok : fields_ok s ≡ true) (k : ℕ) (in_file : k < records s) where
  pub bank_at_lem : byte_at s k 0 ≡ 1 → Bank s k
  bank_at_lem e =
      let h = ok_bank s k (fields_at s ok k in_file 1 e) in
      record {
        own = leb-true _ _ (every-at _ 0 h);
        number = eqb-true (byte_at s k 2) 0 (all-at (λ j. eqb (byte_at s k (2 + j)) 0) 2 0 (every-at _ 1 h) (omega arith));
        name = ltb-true _ _ (every-at _ 2 h);
        driver = ⊎_elim (λ a. inl (leb-true _ _ a)) (λ b. inr (eqb-true _ _ b)) (or_cases _ _ (every-at _ 3 h));
        rec = leb-true _ _ (every-at _ 4 h);
        select = leb-true _ _ (every-at _ 5 h);
      }

  pub scene-at : byte_at s k 0 ≡ 4 → Scene s k
  scene-at e =
      let h = ok_scene s k (fields_at s ok k in_file 4 e) in
      record { bank = leb-true _ _ (every-at _ 0 h); name = ltb-true _ _ (every-at _ 2 h) }

  pub transport-at : byte_at s k 0 ≡ 5 → Transport s k
  transport-at e =
      let h = ok_transport s k (fields_at s ok k in_file 5 e) in
      record {
        bank = ⊎_elim (λ a. inl (leb-true _ _ a)) (λ b. inr (eqb-true _ _ b)) (or_cases _ _ (every-at _ 0 h));
        kind = leb-true _ _ (every-at _ 1 h);
        driver = leb-true _ _ (every-at _ 3 h);
        command = ltb-true _ _ (every-at _ 4 h);
      }

  pub button-at : byte_at s k 0 ≡ 6 → Button s k
  button-at e =
      let h = ok_button s k (fields_at s ok k in_file 6 e) in
      record { driver = leb-true _ _ (every-at _ 0 h); kind = leb-true _ _ (every-at _ 1 h); command = ltb-true _ _ (every-at _ 3 h) }
