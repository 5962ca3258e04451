-- A sample from the answer of `read_number`.
use Rattle.std.specs.Prelude.{Option, Some, None}
use Rattle.machine.specs.All.{ℕ, ◌<◌, ◌≡◌, ap, List, arith, drop, max_number_bytes, five_groups, read_number}
use Rattle.codec.specs.{Answers.number_of}
use Rattle.flow_laws.specs.declared.samples.Sample.{Sample}
use Rattle.flow_laws.specs.{sample_of, sample_at}

abbrev sample : ℕ → ℕ → Sample
sample time next = record { time = time; next = next }

module _ (tape : List ℕ) (at : ℕ) (r : Option (ℕ × ℕ)) (e : number_of at r ≡ read_number max_number_bytes five_groups (drop at tape)) where
  -- what cannot be read counts as time 0 at the same place; a tape that was accepted has no such number
  pub sample-refused : r ≡ None → record { time = 0; next = at } ≡ sample_at tape at
  unfolding sample_at sample_of number_of
  sample-refused q = rw (← e, q)

  pub sample-read : (v next : ℕ) → r ≡ Some (v, next) → at < next → record { time = v; next = next } ≡ sample_at tape at
  unfolding sample_at sample_of number_of
  sample-read v next q h = rw (← e, q) (ap (sample v) (omega arith))
