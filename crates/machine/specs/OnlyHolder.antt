-- Document 02, item 6: "A model whose transactions release only their own facilities, and hold none when ending, gives the trace it
-- gave." Proved in ../proofs/later/OnlyHolder.antt, for any setting of the other rules.
use Rattle.std.specs.Prelude.{◌≡◌, ◌&&◌, ◌||◌, ◌∷◌}
use Rattle.machine.specs.Basics.{ℕ, Bool, true, false, not, List, [], eqb, T}
use Rattle.machine.specs.{Rules.Rules, Lists.bit, Lists.up_to, Block.BlockModel, State.Logged, Run.run, Outcome.outcome, Claims.facts_at, Claims.terminates, Claims.holder_by}
use Rattle.machine.specs.Validate.{Validation, accept, reject, validate}

-- the rules with the questions 27, of a seized facility, and 28, or without them
abbrev pub asking : Bool → Rules → Rules
asking asked r = record { max_clock = r.max_clock; max_time = r.max_time; max_number = r.max_number; holders = asked; kinds = r.kinds; editions = r.editions }

-- ---- Told from the records alone, newest first

module _ (m : BlockModel) (tape : List (List ℕ)) where
  -- how many facilities a transaction holds by them
  unfoldable pub held_by : List Logged → (number : ℕ) → ℕ
  held_by records n = up_to m.facilities (λ f. bit (eqb (holder_by m tape records f) n))

  -- a record behind others: if it is a RELEASE or RETURN, it is the holder's
  unfoldable pub by_holder : (before : List Logged) → Logged → Bool
  by_holder before r = eqb (facts_at m tape r).releases 0 || eqb (holder_by m tape before (facts_at m tape r).releases) r.entry.transaction

  -- if it ends somebody, at TERMINATE or ASSEMBLE, that one holds nothing
  unfoldable pub free_handed : (before : List Logged) → Logged → Bool
  free_handed before r = not (terminates m tape r) || eqb (held_by before r.entry.transaction) 0

  unfoldable pub own_only : List Logged → Bool
  own_only [] = true
  own_only (r ∷ l) = by_holder l r && free_handed l r && own_only l

-- the run of what is accepted has only such records
abbrev pub OwnOnly : (budget room : ℕ) → Validation → Type 0
OwnOnly budget room (accept m t) = T (own_only m t (run m t budget room).records)
OwnOnly budget room (reject n) = Unit {0}

-- the same eight results, trace and report
abbrev pub KeepsOwnRuns : Rules → Type 0
KeepsOwnRuns rules =
    (model tape : List ℕ) (budget work room report : ℕ) → OwnOnly budget room (validate (asking false rules) model tape work report)
    → outcome (asking true rules) model tape budget work room report ≡ outcome (asking false rules) model tape budget work room report
