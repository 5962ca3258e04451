-- The transaction of a new row and of a copy.
use Rattle.machine.specs.All.{ℕ, ◌+◌, ◌*◌, ◌/◌, ◌≤◌, ◌<◌, ◌≡◌, refl, ap, ◌∙◌, ◌≢◌, false, List, [], ◌∷◌, arith, length, set, Transaction, newborn, with_priority, with_parameters, with_next, with_serial, with_returning, with_stamp}
use lib.IntN.{pos}
use mir.Syntax.{w32}
use mir.Val.{to_z}
use Rattle.rows_laws.specs.All.{read, write, set_time, clear_parameters, copy_parameters, describe, newborn_at, copy_at, transaction_at, parameter_at}
use Rattle.rows_laws.proofs as our
use our.{Buffer.Store.length-store, Life.Making.time-written, Life.Making.describe-written}
use our.Buffer.FieldWrites.{write-number, write-standing, write-parameter, write-next, write-serial, write-family, write-stamp, with_family}
use Rattle.rows_laws.specs.Layout.{field_at}
use Rattle.rows_laws.proofs.Life.Making.{Written}

room-write : (w : List ℕ) (f k x : ℕ) → 16384 ≤ length w → 16384 ≤ length (write w f k x)
room-write w f k x room = rw (length-store w (field_at f k) x) room

module _ (w : List ℕ) (k : ℕ) (room : 16384 ≤ length w) (hk : k < 1024) where
  -- not returning
  pub write-priority : (p : ℕ) → transaction_at (write w 1 k (p * 2)) k ≡ with_returning false (with_priority p (transaction_at w k))
  write-priority p =
      let e : p * 2 ≡ p * 2 + 0 = omega arith in
      ap (λ (x : ℕ). transaction_at (write w 1 k x) k) e ∙ write-standing w k room hk p 0 (omega arith)

  described : (number priority block family : ℕ)
      → transaction_at (describe w k number priority block family) k
      ≡ record {
        number = number;
        priority = priority;
        parameters = (transaction_at w k).parameters;
        next = block;
        serial = 0;
        returning = false;
        stamp = 0;
        family = family;
      }
  unfolding describe
  described number priority block family =
      let w₁ : List ℕ = write w 0 k number in
      let w₂ : List ℕ = write w₁ 1 k (priority * 2) in
      let w₃ : List ℕ = write w₂ 6 k block in
      let r₁ : 16384 ≤ length w₁ = room-write w 0 k number room in
      let r₂ : 16384 ≤ length w₂ = room-write w₁ 1 k (priority * 2) r₁ in
      let r₃ : 16384 ≤ length w₃ = room-write w₂ 6 k block r₂ in
      let r₄ : 16384 ≤ length (write w₃ 7 k 0) = room-write w₃ 7 k 0 r₃ in
      write-family (set_time (write w₃ 7 k 0) k 0) k ((time-written (write w₃ 7 k 0) k hk 0).room r₄) hk family
      ∙ ap (with_family family)
      (write-stamp (write w₃ 7 k 0) k r₄ hk 0
      ∙ ap (with_stamp 0) (write-serial w₃ k r₃ hk 0)
      ∙ ap (λ (t : Transaction). with_stamp 0 (with_serial 0 t)) (write-next w₂ k r₂ hk block)
      ∙ ap (λ (t : Transaction). with_stamp 0 (with_serial 0 (with_next block t))) (priority₁ r₁)
      ∙ ap (λ (t : Transaction). with_stamp 0 (with_serial 0 (with_next block (with_returning false (with_priority priority t)))))
      (write-number w k room hk number))
    where
      priority₁ : 16384 ≤ length (write w 0 k number)
          → transaction_at (write (write w 0 k number) 1 k (priority * 2)) k
          ≡ with_returning false (with_priority priority (transaction_at (write w 0 k number) k))
      priority₁ r =
          let e : priority * 2 ≡ priority * 2 + 0 = omega arith in
          ap (λ (x : ℕ). transaction_at (write (write w 0 k number) 1 k x) k) e
          ∙ write-standing (write w 0 k number) k r hk priority 0 (omega arith)

  -- all four parameters
  parameters₄ : (x y z u : ℕ)
      → transaction_at (write (write (write (write w 2 k x) 3 k y) 4 k z) 5 k u) k
      ≡ with_parameters (to_z w32 x ∷ to_z w32 y ∷ to_z w32 z ∷ to_z w32 u ∷ []) (transaction_at w k)
  unfolding transaction_at
  parameters₄ x y z u =
      let w₁ : List ℕ = write w 2 k x in
      let w₂ : List ℕ = write w₁ 3 k y in
      let w₃ : List ℕ = write w₂ 4 k z in
      let r₁ : 16384 ≤ length w₁ = room-write w 2 k x room in
      let r₂ : 16384 ≤ length w₂ = room-write w₁ 3 k y r₁ in
      let r₃ : 16384 ≤ length w₃ = room-write w₂ 4 k z r₂ in
      write-parameter w₃ k r₃ hk 3 u (omega arith)
      ∙ ap (λ (t : Transaction). with_parameters (set t.parameters 3 (to_z w32 u)) t) (write-parameter w₂ k r₂ hk 2 z (omega arith))
      ∙ ap (λ (t : Transaction). with_parameters (set (set t.parameters 2 (to_z w32 z)) 3 (to_z w32 u)) t)
      (write-parameter w₁ k r₁ hk 1 y (omega arith))
      ∙ ap (λ (t : Transaction). with_parameters (set (set (set t.parameters 1 (to_z w32 y)) 2 (to_z w32 z)) 3 (to_z w32 u)) t)
      (write-parameter w k room hk 0 x (omega arith))

-- ---- A new transaction

-- a new row describes the transaction that the machine makes
pub newborn-is : (w : List ℕ) (k : ℕ) → 16384 ≤ length w → k < 1024 → (number priority block : ℕ)
    → transaction_at (newborn_at w k number priority block) k ≡ newborn number priority block
unfolding newborn_at clear_parameters newborn
newborn-is w k room hk number priority block =
    parameters₄ (describe w k number priority block number) k ((describe-written w k hk number priority block number).room room) hk 0 0 0 0
    ∙ ap (with_parameters (pos 0 ∷ pos 0 ∷ pos 0 ∷ pos 0 ∷ [])) (described w k room hk number priority block number)

-- ---- A copy

parameters-at : (w : List ℕ) (j : ℕ)
    → (transaction_at w j).parameters ≡ parameter_at w j 0 ∷ parameter_at w j 1 ∷ parameter_at w j 2 ∷ parameter_at w j 3 ∷ []
unfolding transaction_at
parameters-at w j = refl

priority-at : (w : List ℕ) (j : ℕ) → (transaction_at w j).priority ≡ read w 1 j / 2
unfolding transaction_at
priority-at w j = refl

family-at : (w : List ℕ) (j : ℕ) → (transaction_at w j).family ≡ read w 10 j
unfolding transaction_at
family-at w j = refl

-- a copy has priority, parameters and family of row j; number and block are its own, serial and stamp 0
pub copy_is : (w : List ℕ) (j k : ℕ) → 16384 ≤ length w → j < 1024 → k < 1024 → j ≢ k → (number block : ℕ)
    → transaction_at (copy_at w j k number block) k
    ≡ record {
      number = number;
      priority = (transaction_at w j).priority;
      parameters = (transaction_at w j).parameters;
      next = block;
      serial = 0;
      returning = false;
      stamp = 0;
      family = (transaction_at w j).family;
    }
unfolding copy_at copy_parameters
copy_is w j k room hj hk d number block =
    let v : List ℕ = describe w k number (read w 1 j / 2) block (read w 10 j) in
    let o : Written w v k = describe-written w k hk number (read w 1 j / 2) block (read w 10 j) in
    parameters₄ v k (o.room room) hk (read v 2 j) (read v 3 j) (read v 4 j) (read v 5 j)
    ∙ ap (with_parameters (parameter_at v j 0 ∷ parameter_at v j 1 ∷ parameter_at v j 2 ∷ parameter_at v j 3 ∷ []))
    (described w k room hk number (read w 1 j / 2) block (read w 10 j))
    ∙ rw (
      o.around.same j hj d 2 (omega arith),
      o.around.same j hj d 3 (omega arith),
      o.around.same j hj d 4 (omega arith),
      o.around.same j hj d 5 (omega arith),
      parameters-at w j,
      priority-at w j,
      family-at w j,
    )
