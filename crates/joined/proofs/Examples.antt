-- Item 13 by computing: two plants in which each kind of list has its waiters, run together and alone, under both editions; and a clock term, with
-- which the claim does not hold.
use Rattle.machine.specs.All.{ℕ, ◌≡◌, refl, Bool, true, false, ◌&&◌, List, [], ◌∷◌, map, eqb, length, bit, any_of, in_force, Term, constant, entries_of, content_of, clock_term, value, comparison, bracket, nothing, plus, minus, less, equal, generate, advance, terminate, seize, release, enter, leave, wait_server, wait_terms, split, arrive, depart, assemble, preempt, give_back, U, NE, BlockModel, Record, State, run, records_of, everything}
use Rattle.joined.specs.Join.{first, second, join_models, join_tapes, server_in, term_in, sum_in, share_in, condition_in, block_in}
use Rattle.joined.specs.Parts.{records_in, rank, by_rank, part_of}

-- ---- Together and alone

abbrev same : List Record → List Record → Bool
same [] [] = true
same [] (x ∷ l) = false
same (x ∷ k) [] = false
same (x ∷ k) (y ∷ l) =
    eqb x.clock y.clock && eqb x.transaction y.transaction && eqb x.block y.block && eqb x.outcome y.outcome && same k l

module _ (m₁ m₂ : BlockModel) (tape₁ tape₂ : List (List ℕ)) where
  abbrev joint : State
  joint = run (join_models m₁ m₂) (join_tapes tape₁ tape₂) 1000 65536

  abbrev alone₁ : State
  alone₁ = run m₁ tape₁ 1000 65536

  abbrev alone₂ : State
  alone₂ = run m₂ tape₂ 1000 65536

  -- the ends of the three runs; whether each part's records are its own
  abbrev compared : List ℕ
  compared =
      joint.end ∷ alone₁.end ∷ alone₂.end
      ∷ bit (same (part_of (first m₁ m₂) m₁ (records_of joint)) (records_of alone₁))
      ∷ bit (same (part_of (second m₁ m₂) m₂ (records_of joint)) (records_of alone₂))
      ∷ []

-- ---- Two plants

-- Jobs seize a crane (1) and enter a yard (3, for one job at a time), wait for each other and gather with a copy (blocks 1 to 13); a watcher waits
-- until crane and yard are free together (14 to 17); a tug (2) is seized by one and preempted by two (18 to 27).
abbrev plant : (edition units : ℕ) → BlockModel
plant edition units =
    record {
      rules = in_force;
      edition = edition;
      facilities = 2;
      capacities = units ∷ [];
      queues = 1;
      values =
          plus (entries_of 9) (minus (bracket (plus (comparison equal (content_of 1) (constant 5)) nothing)) nothing)
          ∷ plus (value 1) nothing
          ∷ [];
      lists = 8;
      counter = 99;
      blocks =
          generate 1 0 ∷ arrive 1 ∷ seize 1 ∷ advance 2 ∷ release 1 ∷ depart 1 ∷ enter 3 units ∷ advance 3 ∷ leave 3 units ∷
          wait_terms (value 2) less (constant 2) ∷ split 1 12 ∷ assemble 2 ∷ terminate 1 ∷
          generate 4 0 ∷ wait_server U 1 0 ∷ wait_server NE 3 1 ∷ terminate 1 ∷
          generate 5 0 ∷ seize 2 ∷ advance 7 ∷ release 2 ∷ terminate 1 ∷
          generate 6 1 ∷ preempt 2 ∷ advance 8 ∷ give_back 2 ∷ terminate 1 ∷
          [];
    }

abbrev yard_tape : List (List ℕ)
yard_tape = (0 ∷ 0 ∷ []) ∷ (1 ∷ 1 ∷ []) ∷ (5 ∷ 5 ∷ []) ∷ (0 ∷ []) ∷ (20 ∷ []) ∷ (21 ∷ 1 ∷ []) ∷ (5 ∷ []) ∷ (3 ∷ 2 ∷ []) ∷ []

abbrev gate_tape : List (List ℕ)
gate_tape = (1 ∷ 0 ∷ []) ∷ (2 ∷ 2 ∷ []) ∷ (4 ∷ 4 ∷ []) ∷ (1 ∷ []) ∷ (3 ∷ []) ∷ (5 ∷ 1 ∷ []) ∷ (9 ∷ []) ∷ (2 ∷ 3 ∷ []) ∷ []

pub together : compared (plant 1 2) (plant 1 1) yard_tape gate_tape ≡ 1 ∷ 1 ∷ 1 ∷ 1 ∷ 1 ∷ []
unfolding everything records_in rank by_rank join_models server_in term_in sum_in share_in condition_in block_in
together = refl

pub together-second : compared (plant 2 2) (plant 2 3) yard_tape gate_tape ≡ 1 ∷ 1 ∷ 1 ∷ 1 ∷ 1 ∷ []
unfolding everything records_in rank by_rank join_models server_in term_in sum_in share_in condition_in block_in
together-second = refl

-- facilities, storages, queues, values, lists, counter and blocks of the joined model
pub added : (let m : BlockModel = join_models (plant 1 2) (plant 1 1) in m.facilities ∷ length m.capacities ∷ m.queues ∷ length m.values ∷ m.lists ∷ m.counter ∷ length m.blocks ∷ [])
    ≡ 4 ∷ 2 ∷ 2 ∷ 4 ∷ 16 ∷ 198 ∷ 54 ∷ []
unfolding join_models
added = refl

-- of the blocks 3 SEIZE, 7 ENTER, 10 WAITIF of terms, 12 ASSEMBLE, 15 WAITIF of a code, 16 kind 17 and 24 PREEMPT: did somebody wait there?
abbrev waits : List Record → List ℕ
waits l = map (λ b. bit (any_of (λ r. eqb r.block b && eqb r.outcome 1) l)) (3 ∷ 7 ∷ 10 ∷ 12 ∷ 15 ∷ 16 ∷ 24 ∷ [])

pub all-wait : waits (records_of (alone₁ (plant 1 2) (plant 1 1) yard_tape gate_tape)) ∷ waits (records_of (alone₂ (plant 1 2) (plant 1 1) yard_tape gate_tape)) ∷ []
    ≡ (1 ∷ 1 ∷ 1 ∷ 1 ∷ 1 ∷ 1 ∷ 1 ∷ []) ∷ (1 ∷ 1 ∷ 1 ∷ 1 ∷ 1 ∷ 1 ∷ 1 ∷ []) ∷ []
unfolding everything records_in rank by_rank join_models server_in term_in sum_in share_in condition_in block_in
all-wait = refl

-- ---- Why there must be no clock term

-- one waits while the clock is below 5, which is asked after a turn alone; the other plant has its turn at 7
abbrev watch : Term → BlockModel
watch t =
    record {
      rules = in_force;
      edition = 1;
      facilities = 0;
      capacities = [];
      queues = 0;
      values = [];
      lists = 1;
      counter = 99;
      blocks = generate 1 0 ∷ wait_terms t less (constant 5) ∷ terminate 1 ∷ [];
    }

-- alone it waits for ever; beside the other it goes on at clock 7
pub not_with_the-clock : compared (watch clock_term) (watch (constant 6)) ((1 ∷ []) ∷ []) ((7 ∷ []) ∷ []) ≡ 1 ∷ 1 ∷ 1 ∷ 0 ∷ 1 ∷ []
unfolding everything records_in rank by_rank join_models server_in term_in sum_in share_in condition_in block_in
not_with_the-clock = refl
