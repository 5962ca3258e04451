-- The two outputs of the call, pure: bytes copied to the front, two tapes end to end, and what is left where there is no room.
use Rattle.machine.specs.All.{ℕ, ◌+◌, ◌≤◌, ◌<◌, arith, ◌≡◌, refl, sym, ap, ap₂, ◌∙◌, Bool, true, false, cond, ◌&&◌, List, ◌++◌, le-leb, lt-leb, leb-true, leb-false, leb, length, take, drop, length-append, sets, length-sets}
use Rattle.std.proofs.Common.{Ok, Err}
use Rattle.constants.specs.declared.model.Model.{Model}
use Rattle.codec.specs.Writing.{written}
use Rattle.constants.specs.{declared.refusals.Refusal.Refusal, Numbers.refusal_number}
use Rattle.constants.specs.declared.refusals.Refusal.TheVariants.{NotJoinable, JoinRoom}
use Rattle.join.specs.Contract.{Joined, Contract}
use Rattle.join_laws.specs.{Rows.puts, Written.numbers_bytes, Joining.joined, Joining.refused, Joining.fitted}
use Rattle.join_laws.specs.Whole.{kept_room, at_front_lem, may_join_tables, joined_tables, joined_bytes_lem}
use Rattle.join.specs.{model_left, tape_left}
use Rattle.join_laws.proofs.Fitting.{puts-front, front-sets}

-- ---- Two tapes

pub sum_fits : (f s : List ℕ) (r : ℕ) → leb (length (f ++ s)) r ≡ true → r < 18446744073709551616
    → length f + length s < 18446744073709551616
sum_fits f s r e h = omega (arith, length-append f s, leb-true (length (f ++ s)) r e)

-- ---- The model

module _ (bytes out : List ℕ) where
  pub front-left : length out < length bytes → out ≡ at_front_lem bytes out
  unfolding at_front_lem
  front-left h = rw (lt-leb (length bytes) (length out) h) refl

  pub front-stored : length bytes ≤ length out → sets out 0 bytes ≡ at_front_lem bytes out
  unfolding at_front_lem
  front-stored h = rw (le-leb (length bytes) (length out) h) (front-sets bytes out h)

  pub front-is : length bytes ≤ length out → bytes ++ drop (length bytes) out ≡ at_front_lem bytes out
  unfolding at_front_lem
  front-is h = rw (le-leb (length bytes) (length out) h) refl

  front_length : length (at_front_lem bytes out) ≡ length out
  front_length = go (leb (length bytes) (length out)) refl
    where
      go : (x : Bool) → leb (length bytes) (length out) ≡ x → length (at_front_lem bytes out) ≡ length out
      go true e = ap length (sym (front-stored (leb-true _ _ e))) ∙ length-sets out 0 bytes
      go false e = ap length (sym (front-left (leb-false _ _ e)))

module _ (l base out : List ℕ) (n : ℕ) (room : List ℕ) (e : written n room ≡ puts l (written 0 base)) (size : length base ≡ kept_room)
    (h : length (numbers_bytes l) ≤ kept_room) where
  -- a model that does not fit is not copied
  pub model-left : length out < n → (n ≡ length (numbers_bytes l)) × (out ≡ at_front_lem (numbers_bytes l) out)
  model-left low =
      let f = puts-front l base n room (omega arith) e in
      (f.size, front-left (numbers_bytes l) out (omega (arith, f.size)))

  -- one that fits stands at the front
  pub model-copied : (after : List ℕ) → n ≤ length out → after ≡ take n room ++ drop n out
      → (n ≡ length (numbers_bytes l)) × (after ≡ at_front_lem (numbers_bytes l) out)
  model-copied after low g =
      let f = puts-front l base n room (omega arith) e in
      (f.size, g ∙ ap₂ (λ u k. u ++ drop k out) f.taken f.size ∙ front-is (numbers_bytes l) out (omega (arith, f.size)))

  pub copy-room : n ≤ length out → (n ≤ length room) × (0 + n ≤ length out)
  copy-room low = let f = puts-front l base n room (omega arith) e in (omega (arith, f.size, f.stays), omega arith)

-- ---- Both

module _ (outModel outTape : List ℕ) where
  -- a refusal leaves both outputs as they were
  pub left : (d : Refusal) → Contract outModel outTape (Err d) outModel outTape (refused (refusal_number d))
  unfolding model_left tape_left
  left d = record { answered = refl; model-left = refl; tape-left = refl }

module _ (tables₁ : List ℕ) (a : Model) (tables₂ : List ℕ) (b : Model) (tape₁ tape₂ outModel outTape : List ℕ) where
  abbrev Done : (r : Joined) (modelAfter tapeAfter : List ℕ) → Type 0
  Done r modelAfter tapeAfter =
      Contract outModel outTape r modelAfter tapeAfter (joined_tables tables₁ a tables₂ b tape₁ tape₂ (length outModel) (length outTape))

  -- the ways out of `pair`, in its order
  pub not-joinable : may_join_tables tables₁ a tables₂ b ≡ false → Done (Err NotJoinable) outModel outTape
  unfolding joined_tables
  not-joinable e = rw e (left outModel outTape NotJoinable)

  module _ (may : may_join_tables tables₁ a tables₂ b ≡ true) where
    pub no-tape-room : leb (length (tape₁ ++ tape₂)) (length outTape) ≡ false → Done (Err JoinRoom) outModel outTape
    unfolding joined_tables fitted
    no-tape-room e = rw (may, e) (go (leb (length (joined_bytes_lem tables₁ a tables₂ b)) (length outModel)))
      where
        go : (x : Bool)
            → Contract outModel outTape (Err JoinRoom) outModel outTape
            (cond (x && false) (joined (joined_bytes_lem tables₁ a tables₂ b) (tape₁ ++ tape₂)) (refused 62))
        go true = left outModel outTape JoinRoom
        go false = left outModel outTape JoinRoom

    module _ (modelAfter : List ℕ) (stored : modelAfter ≡ at_front_lem (joined_bytes_lem tables₁ a tables₂ b) outModel) where
      after : length modelAfter ≡ length outModel
      after = ap length stored ∙ front_length (joined_bytes_lem tables₁ a tables₂ b) outModel

      pub no-model-room : (n : ℕ) → n ≡ length (joined_bytes_lem tables₁ a tables₂ b) → length modelAfter < n
          → Done (Err JoinRoom) modelAfter outTape
      unfolding joined_tables fitted at_front_lem model_left tape_left
      no-model-room n size h =
          let e = lt-leb (length (joined_bytes_lem tables₁ a tables₂ b)) (length outModel) (omega (arith, after)) in
          let same : modelAfter ≡ outModel = stored ∙ rw e refl in
          rw (may, e) (record { answered = refl; model-left = same; tape-left = refl })

      pub both-written : (n k : ℕ) (tapeAfter : List ℕ) → n ≡ length (joined_bytes_lem tables₁ a tables₂ b) → n ≤ length modelAfter
          → leb (length (tape₁ ++ tape₂)) (length outTape) ≡ true
          → k ≡ length tape₁ + length tape₂ → tapeAfter ≡ tape₁ ++ tape₂ ++ drop (length (tape₁ ++ tape₂)) outTape
          → Done (Ok (n, k)) modelAfter tapeAfter
      unfolding joined_tables fitted at_front_lem model_left tape_left
      both-written n k tapeAfter size low room len laid =
          let e = le-leb (length (joined_bytes_lem tables₁ a tables₂ b)) (length outModel) (omega (arith, after)) in
          let same : modelAfter ≡ joined_bytes_lem tables₁ a tables₂ b ++ drop (length (joined_bytes_lem tables₁ a tables₂ b)) outModel = stored
          ∙ rw e refl in
          rw (may, e, room)
          (record { answered = ap₂ (λ x y. Ok (x, y)) size (len ∙ sym (length-append tape₁ tape₂)); model-left = same; tape-left = laid })
