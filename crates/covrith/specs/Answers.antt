-- What the functions for other languages answer, in the numbers that cross the boundary.
use Rattle.std.specs.Prelude.{◌∷◌, Result, Ok, Err}
use Rattle.machine.specs.All.{ℕ, List, [], length, Reading, taken, refusal, no_more, Writing, written, rejected}
use Rattle.constants.specs.Numbers.{refusal_number}
use Rattle.constants.specs.declared.refusals.Refusal.{Refusal}
use Rattle.tapes_laws.specs.Tape.{Making, made, refusal as unmade}
use Rattle.join_laws.specs.Joining.{Joining, joined, refused}

-- ---- Reader: 0 and five numbers, or 30 for "no more", 31 or 32; a refusal leaves the numbers as they were

unfoldable pub read_answer : Reading → ℕ
read_answer (taken _ _) = 0
read_answer (refusal n) = n
read_answer no_more = 30

-- clock, transaction, block, outcome, next position
unfoldable pub read_numbers : Reading → List ℕ → List ℕ
read_numbers (taken r next) _ = r.clock ∷ r.transaction ∷ r.block ∷ r.outcome ∷ next ∷ []
read_numbers (refusal _) before = before
read_numbers no_more before = before

-- ---- Writer: 0 and how many bytes were written, or 32 or 33 and none

unfoldable pub write_answer : Writing → ℕ
write_answer (written _) = 0
write_answer (rejected n) = n

unfoldable pub write_count : Writing → ℕ
write_count (written b) = length b
write_count (rejected _) = 0

-- ---- Start of a stream: 0 and the state, or 41, and the state stays as it was

unfoldable pub start_answer : Result ℕ Refusal → ℕ
start_answer (Ok _) = 0
start_answer (Err e) = refusal_number e

unfoldable pub start_state : Result ℕ Refusal → ℕ → ℕ
start_state (Ok s) _ = s
start_state (Err _) before = before

-- ---- Tape maker: 0 and how many bytes the tape has, or 41, 42 or 43 and none

unfoldable pub tape_answer : Making → ℕ
tape_answer (made b) = 0
tape_answer (unmade n) = n

unfoldable pub tape_count : Making → ℕ
tape_count (made b) = length b
tape_count (unmade n) = 0

-- ---- Join: 0 and how many bytes the joined model and tape have, or the number of the refusal and none

unfoldable pub join_answer : Joining → ℕ
join_answer (joined model tape) = 0
join_answer (refused n) = n

unfoldable pub join_lengths : Joining → List ℕ
join_lengths (joined model tape) = length model ∷ length tape ∷ []
join_lengths (refused n) = 0 ∷ 0 ∷ []
