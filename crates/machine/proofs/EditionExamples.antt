-- Document 02, item 12, by computing: how one comes onto a line under edition 2, whom its LEAVE wakes, and why zero waiters and the order
-- among equals are claimed for edition 1 alone.
use Rattle.machine.specs.Basics.{ℕ, ◌≡◌, refl, true, false, List, [], ◌∷◌, map, reverse, length, get_or}
use Rattle.machine.specs.{Rules.Rules, Rules.item7, Rules.document02, Transaction.Transaction, Transaction.newborn, State.State, State.Logged, Setters.with_returning, Setters.set_ql, Execute.queue_remove, Execute.effect, Run.idle, Run.run, Report.places, Outcome.outcome, Bundle.everything}
use Rattle.machine.specs.Moves.{ql_of, wel_of, line_up, to_wel, set_use}
use Rattle.machine.specs.Block.{U, Block, generate, advance, terminate, seize, release, enter, leave, wait_server, split, assemble, preempt, BlockModel}
use Rattle.machine.specs.Claims.{bit, no_record_lem, wait_end, equal_waits, able_to_go}

-- ---- Coming onto a line

-- a number, and its priority
abbrev waiter : ℕ → ℕ → Transaction
waiter number priority = newborn number priority 1

abbrev numbers : List Transaction → List ℕ
numbers l = map (λ t. t.number) l

-- Behind a member of higher priority who stands behind one of lower: not behind the last of its priority, which is nobody here. A returner
-- goes before higher priorities too.
pub lined : numbers (line_up 2 (waiter 3 4) (waiter 1 0 ∷ waiter 2 7 ∷ []))
    ∷ numbers (line_up 2 (waiter 3 4) (waiter 1 7 ∷ waiter 2 0 ∷ []))
    ∷ numbers (line_up 2 (waiter 3 4) (waiter 1 4 ∷ waiter 2 4 ∷ []))
    ∷ numbers (line_up 2 (with_returning true (waiter 3 4)) (waiter 1 7 ∷ waiter 2 0 ∷ []))
    ∷ numbers (line_up 1 (with_returning true (waiter 3 4)) (waiter 1 7 ∷ waiter 2 0 ∷ []))
    ∷ []
    ≡ (1 ∷ 2 ∷ 3 ∷ []) ∷ (1 ∷ 3 ∷ 2 ∷ []) ∷ (1 ∷ 2 ∷ 3 ∷ []) ∷ (3 ∷ 1 ∷ 2 ∷ []) ∷ (1 ∷ 3 ∷ 2 ∷ []) ∷ []
unfolding everything
lined = refl

-- ---- LEAVE

-- one storage, three lists, some blocks
abbrev storehouse : (edition capacity : ℕ) → List Block → BlockModel
storehouse edition capacity blocks =
    record { rules = document02; edition = edition; facilities = 0; capacities = capacity ∷ []; queues = 0; values = []; lists = 3; counter = 9; blocks = blocks }

-- who goes: a waiter at a block has its number
abbrev at : ℕ → Transaction
at block = newborn block 0 block

abbrev gone : List Block → (b : ℕ) → List Transaction → List ℕ
gone blocks b l = numbers (queue_remove (storehouse 2 9 blocks) b l).go

-- block n is ENTER of n units
abbrev three_enters : List Block
three_enters = enter 1 1 ∷ enter 1 2 ∷ enter 1 3 ∷ []

-- LEAVE of 1: the first of one unit, or nobody. Of 4: past who is too large, until nothing is left. Of 7: all. No block above 1: the first.
pub removed : gone three_enters 1 (at 3 ∷ at 2 ∷ at 1 ∷ at 1 ∷ [])
    ∷ gone three_enters 1 (at 3 ∷ at 2 ∷ [])
    ∷ gone three_enters 4 (at 3 ∷ at 2 ∷ at 1 ∷ at 1 ∷ [])
    ∷ gone three_enters 4 (at 2 ∷ at 3 ∷ at 2 ∷ at 1 ∷ [])
    ∷ gone three_enters 2 (at 3 ∷ at 2 ∷ at 1 ∷ [])
    ∷ gone three_enters 7 (at 3 ∷ at 2 ∷ at 1 ∷ [])
    ∷ gone (enter 1 1 ∷ leave 1 1 ∷ []) 1 (at 1 ∷ at 1 ∷ [])
    ∷ []
    ≡ (1 ∷ []) ∷ [] ∷ (3 ∷ 1 ∷ []) ∷ (2 ∷ 2 ∷ []) ∷ (2 ∷ []) ∷ (3 ∷ 2 ∷ 1 ∷ []) ∷ (1 ∷ []) ∷ []
unfolding everything
removed = refl

-- ---- Kinds of later papers

-- one facility; blocks 1 and 2 are a group
abbrev gateway : (edition : ℕ) → BlockModel
gateway edition =
    record {
      rules = document02;
      edition = edition;
      facilities = 1;
      capacities = [];
      queues = 0;
      values = [];
      lists = 0;
      counter = 9;
      blocks = wait_server U 1 0 ∷ wait_server U 1 1 ∷ preempt 1 ∷ terminate 1 ∷ [];
    }

-- 9 holds the facility and moves
abbrev in_use : (edition : ℕ) → State
in_use edition = set_use 1 1 9 false (idle (gateway edition) [])

-- 3 must wait again at the kind 17 block, where 1 of higher priority waits
abbrev again_at_group : (edition : ℕ) → List ℕ
again_at_group edition =
    let t : Transaction = with_returning true (newborn 3 4 2) in
    numbers (wel_of (effect (gateway edition) (wait_server U 1 1) t (to_wel edition 1 U (waiter 1 7) (in_use edition))) 1 U)

-- in its order under edition 1, at the very front under edition 2
pub put_back : again_at_group 1 ∷ again_at_group 2 ∷ [] ≡ (1 ∷ 3 ∷ []) ∷ (3 ∷ 1 ∷ []) ∷ []
unfolding everything
put_back = refl

-- 3 comes to the PREEMPT, whose QL has 1 of lower and 2 of higher priority
abbrev at_preempt : (edition : ℕ) → List ℕ
at_preempt edition =
    numbers (ql_of (effect (gateway edition) (preempt 1) (newborn 3 4 3) (set_ql ((waiter 1 0 ∷ waiter 2 7 ∷ []) ∷ []) (in_use edition))) 1)

-- edition 2 places it from the back; edition 1 would not have 1 before 2
pub preempt-lined : at_preempt 1 ∷ at_preempt 2 ∷ [] ≡ (3 ∷ 1 ∷ 2 ∷ []) ∷ (1 ∷ 2 ∷ 3 ∷ []) ∷ []
unfolding everything
preempt-lined = refl

-- 1 is interrupted at clock 3 by 2, whose copy 3 is the first of its family at ASSEMBLE
abbrev places_of : (edition : ℕ) → List (List ℕ)
places_of edition =
    let m : BlockModel =
    record {
      rules = document02;
      edition = edition;
      facilities = 1;
      capacities = [];
      queues = 0;
      values = [];
      lists = 4;
      counter = 9;
      blocks =
          generate 1 0 ∷ seize 1 ∷ advance 3 ∷ release 1 ∷ terminate 0 ∷ generate 2 1 ∷ preempt 1 ∷ split 1 10 ∷ advance 4 ∷ assemble 3
          ∷ terminate 0 ∷ [];
    } in
    map (λ p. p.number ∷ p.place ∷ []) (places (run m ((1 ∷ []) ∷ (3 ∷ []) ∷ (10 ∷ []) ∷ (4 ∷ []) ∷ []) 8 65536))

-- on the FEL, gathering and interrupted under both editions
pub later-places : places_of 1 ∷ places_of 2 ∷ []
    ≡ ((2 ∷ 4 ∷ []) ∷ (3 ∷ 7 ∷ []) ∷ (1 ∷ 8 ∷ []) ∷ []) ∷ ((2 ∷ 4 ∷ []) ∷ (3 ∷ 7 ∷ []) ∷ (1 ∷ 8 ∷ []) ∷ []) ∷ []
unfolding everything
later-places = refl

-- ---- Zero waiters

-- two of one unit each, which leave at clocks 5 and 8, and from clock 2 one that waits for two
abbrev two_of_one : List Block
two_of_one = generate 1 0 ∷ enter 1 1 ∷ advance 2 ∷ leave 1 1 ∷ terminate 0 ∷ generate 3 0 ∷ enter 1 2 ∷ terminate 1 ∷ []

abbrev two_tape : List (List ℕ)
two_tape = (1 ∷ 0 ∷ []) ∷ (4 ∷ 7 ∷ []) ∷ (2 ∷ []) ∷ []

abbrev waiting : ℕ → List ℕ
waiting edition =
    let m : BlockModel = storehouse edition 2 two_of_one in
    let s : State = run m two_tape 1000 65536 in
    s.end ∷ s.view.clock ∷ length s.rel ∷ able_to_go m two_tape s ∷ []

-- both runs end dry; under edition 2 with a waiter able to go, whom neither LEAVE of 1 woke
pub able : waiting 1 ∷ waiting 2 ∷ [] ≡ (1 ∷ 8 ∷ 0 ∷ 0 ∷ []) ∷ (1 ∷ 8 ∷ 0 ∷ 1 ∷ []) ∷ []
unfolding everything
able = refl

-- ---- The order among equals

-- one that takes both units again as it leaves them, and then leaves one; from clock 1 two that wait for one each
abbrev twice : List Block
twice =
    generate 1 0 ∷ enter 1 2 ∷ advance 2 ∷ leave 1 2 ∷ enter 1 2 ∷ advance 2 ∷ leave 1 1 ∷ terminate 0 ∷ generate 3 0 ∷ enter 1 1 ∷ terminate 0 ∷ []

abbrev twice_tape : List (List ℕ)
twice_tape = (0 ∷ []) ∷ (2 ∷ 2 ∷ []) ∷ (1 ∷ 0 ∷ []) ∷ []

-- how many records there are; of the two waits, begun with records 4 and 6: whether they are equal, and where each ends
abbrev ends : ℕ → List ℕ
ends edition =
    let m : BlockModel = storehouse edition 2 twice in
    let records : List Logged = reverse (run m twice_tape 1000 65536).records in
    length records ∷ bit (equal_waits m twice_tape (get_or records 4 no_record_lem) (get_or records 6 no_record_lem)) ∷ wait_end records 4 ∷ wait_end records 6 ∷ []

-- under edition 2 the two returners are turned round, and the later wait ends while the earlier is open
pub turned : ends 1 ∷ ends 2 ∷ [] ≡ (14 ∷ 1 ∷ 12 ∷ 14 ∷ []) ∷ (14 ∷ 1 ∷ 14 ∷ 12 ∷ []) ∷ []
unfolding everything
turned = refl

-- ---- Validation

-- one TERMINATE, by its edition
abbrev bare : ℕ → List ℕ
bare edition = edition ∷ 0 ∷ 0 ∷ 0 ∷ 0 ∷ 0 ∷ 1 ∷ 1 ∷ 3 ∷ 1 ∷ []

abbrev refusal : Rules → ℕ → ℕ
refusal rules edition = (outcome rules (bare edition) [] 1000 16384 65536 10240).refusal

pub editions : refusal document02 0 ∷ refusal document02 1 ∷ refusal document02 2 ∷ refusal document02 3 ∷ refusal item7 1 ∷ refusal item7 2 ∷ []
    ≡ 4 ∷ 0 ∷ 0 ∷ 4 ∷ 0 ∷ 4 ∷ []
unfolding everything
editions = refl
