-- Demand 3 speaks of something: in accepted examples waits of each kind begin and end, and two equal waits end in their order.
use Rattle.machine.specs.Basics.{ℕ, ◌≡◌, refl, List, [], ◌∷◌, reverse, length, get_or}
use Rattle.machine.specs.{Block.BlockModel, State.Logged, Run.run, Rules.document01, Validate.accept, Validate.reject, Validate.validate, Bundle.everything}
use Rattle.machine.specs.Claims.{no_record_lem, wait_end, equal_waits, bit}
use Rattle.machine.proofs.Examples.{first_model, first_tape, storage_model, storage_tape, chain_model, chain_tape, freed_by_other_model, freed_by_other_tape, returners_model, returners_tape}

-- of the record at a position: its outcome, the position of the record that ends its wait, how many records there are
wait_at : List Logged → ℕ → List ℕ
wait_at records i = (get_or records i no_record_lem).entry.outcome ∷ wait_end records i ∷ length records ∷ []

-- the same of a run
wait_of : List ℕ → List ℕ → ℕ → List ℕ
wait_of model tape i =
    elim (validate document01 model tape 16384 10240) [
      | accept m t ↦ wait_at (reverse (run m t 1000000 65536).records) i
      | reject n ↦ []
    ]

equal_of : BlockModel → List (List ℕ) → List Logged → ℕ → ℕ → ℕ
equal_of m t records i k = bit (equal_waits m t (get_or records i no_record_lem) (get_or records k no_record_lem))

-- are the waits begun at two positions equal ones?
equal_at : List ℕ → List ℕ → ℕ → ℕ → ℕ
equal_at model tape i k =
    elim (validate document01 model tape 16384 10240) [
      | accept m t ↦ equal_of m t (reverse (run m t 1000000 65536).records) i k
      | reject n ↦ 0
    ]

pub waits_found : List (List ℕ)
waits_found =
    -- on the QL of a facility
    wait_of first_model first_tape 4 ∷
    -- on the QL of a storage
    wait_of storage_model storage_tape 7 ∷
    -- on a WEL
    wait_of chain_model chain_tape 4 ∷
    -- on the WSL
    wait_of freed_by_other_model freed_by_other_tape 1 ∷
    -- two equal waits for a facility
    wait_of returners_model returners_tape 4 ∷
    wait_of returners_model returners_tape 6 ∷
    (equal_at returners_model returners_tape 4 6 ∷ []) ∷
    []

pub waits : waits_found
    ≡ (1 ∷ 7 ∷ 11 ∷ [])
    ∷ (1 ∷ 12 ∷ 14 ∷ [])
    ∷ (1 ∷ 11 ∷ 17 ∷ [])
    ∷ (1 ∷ 5 ∷ 8 ∷ [])
    ∷ (1 ∷ 14 ∷ 20 ∷ [])
    ∷ (1 ∷ 17 ∷ 20 ∷ [])
    ∷ (1 ∷ [])
    ∷ []
unfolding everything wait_at wait_of equal_of equal_at waits_found first_model first_tape storage_model storage_tape chain_model chain_tape freed_by_other_model freed_by_other_tape returners_model returners_tape
waits = refl
