-- "Servers, queues, lists, values and blocks are numbered from 1": the numbers in a term that was read, where the facilities are f.
use Rattle.machine.specs.All.{ℕ, ◌≤◌, ◌<◌, Term, constant, minus_constant, parameter, clock_term, entries_of, content_of, units_in_use, units_free, facility_in_use, value, comparison, bracket, Sum, nothing, plus, minus}

abbrev mutual
  pub Numbered : ℕ → Term → Type 0
  Numbered f (constant k) = Unit {0}
  Numbered f (minus_constant k) = Unit {0}
  Numbered f (parameter k) = 1 ≤ k
  Numbered f clock_term = Unit {0}
  Numbered f (entries_of b) = 1 ≤ b
  Numbered f (content_of q) = 1 ≤ q
  Numbered f (units_in_use v) = f < v
  Numbered f (units_free v) = f < v
  Numbered f (facility_in_use v) = (1 ≤ v) × (v ≤ f)
  Numbered f (value k) = 1 ≤ k
  Numbered f (comparison r a b) = Numbered f a × Numbered f b
  Numbered f (bracket e) = NumberedSum f e

  pub NumberedSum : ℕ → Sum → Type 0
  NumberedSum f nothing = Unit {0}
  NumberedSum f (plus t e) = Numbered f t × NumberedSum f e
  NumberedSum f (minus t e) = Numbered f t × NumberedSum f e
