-- Document 02, items 7, 8 and 11, add kinds of blocks and item 12 an edition: every run of a model that is accepted without them stays as it was.
-- Proved in ../proofs/later/OlderModels.antt, for any setting of the other rules.
use Rattle.std.specs.Prelude.{◌≤◌, ◌≡◌}
use Rattle.machine.specs.Basics.{ℕ, List}
use Rattle.machine.specs.{Rules.Rules, Outcome.outcome}

-- the rules with so many kinds and editions
abbrev pub counting : (kinds editions : ℕ) → Rules → Rules
counting kinds editions r =
    record { max_clock = r.max_clock; max_time = r.max_time; max_number = r.max_number; holders = r.holders; kinds = kinds; editions = editions }

-- the same eight results, trace and report
abbrev pub KeepsModels : Rules → Type 0
KeepsModels rules =
    (kinds editions kinds' editions' : ℕ) → kinds ≤ kinds' → editions ≤ editions' → (model tape : List ℕ) (budget work room report : ℕ)
    → (outcome (counting kinds editions rules) model tape budget work room report).refusal ≡ 0
    → outcome (counting kinds' editions' rules) model tape budget work room report ≡ outcome (counting kinds editions rules) model tape budget work room report
