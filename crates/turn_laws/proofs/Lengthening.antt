-- A QL that grows by one after the other, where the statistics of its server are up to date.
use Rattle.machine.specs.All.{cases, ℕ, ◌+◌, ◌≤◌, ◌<◌, ◌≡◌, ◌≢◌, sym, ◌∙◌, true, false, min, List, arith, mod-lt, ltb-true, ltb-false, ltb, length, get_or, set, get_or-set_same, get_or-set_other, set_out, set-set}
use Rattle.machine.proofs.Basic.Bools.{cond_false}
use Rattle.layout.specs.Layout as Layout
use Rattle.state.specs.All.{behind, update_server}
use Rattle.servers_laws.specs.{Units.server_at, Taking.longer}
use Rattle.turn_laws.specs.{server_of, place_in, short, lengthened, crowded, lengthened_by}

module _ (tables tally : List ℕ) (block : ℕ) where
  abbrev v : ℕ
  v = server_of tables block

  abbrev cell : ℕ
  cell = Layout.ql_length + v

  abbrev length₀ : ℕ
  length₀ = get_or tally cell 0

  low : v < 64
  unfolding server_at
  low = mod-lt (get_or tables (place_in block + 1) 0) (omega arith)

  -- statistics are up to date, and fewer units are free than the ENTER takes
  pub crowded-is : crowded tables tally block ≡ true → (behind tally v ≡ false) × (short tables tally block ≡ true)
  unfolding crowded
  crowded-is h = cond_false (behind tally v) _ h

  module _ (n : ℕ) where
    abbrev tally₁ : List ℕ
    tally₁ = lengthened_by tables tally block n

    other : (i : ℕ) → i ≢ cell → get_or tally₁ i 0 ≡ get_or tally i 0
    unfolding lengthened_by
    other i d = get_or-set_other tally cell i _ 0 d

    pub behind-kept : behind tally₁ v ≡ behind tally v
    unfolding behind
    behind-kept = rw (other (Layout.seen_moves + v) (λ q. omega (arith, low)), other Layout.clock_moves (λ q. omega (arith, low)))

    pub short-kept : short tables tally₁ block ≡ short tables tally block
    unfolding short
    short-kept = rw (other (Layout.in_use + v) (λ q. omega (arith, low)))

    abbrev most : ℕ → ℕ
    most i = min (length₀ + i) Layout.most64

    within : cell < length tally → set tally₁ cell (min (get_or tally₁ cell 0 + 1) Layout.most64) ≡ set tally cell (most (n + 1))
    unfolding lengthened_by
    within h =
        let same : get_or (set tally cell (most n)) cell 0 ≡ most n = get_or-set_same tally cell (most n) 0 h in
        let sum : min (most n + 1) Layout.most64 ≡ most (n + 1) = omega arith in
        rw (same, sum) (set-set tally cell (most n) (most (n + 1)))

    past : length tally ≤ cell → set tally₁ cell (min (get_or tally₁ cell 0 + 1) Layout.most64) ≡ set tally cell (most (n + 1))
    unfolding lengthened_by
    past h =
        let out : set tally cell (most n) ≡ tally = set_out tally cell (most n) h in
        rw out (set_out tally cell (most 1) h ∙ sym (set_out tally cell (most (n + 1)) h))

    longer-next : set tally₁ cell (min (get_or tally₁ cell 0 + 1) Layout.most64) ≡ lengthened_by tables tally block (n + 1)
    unfolding lengthened_by
    longer-next =
        cases (ltb cell (length tally)) (λ e. within (ltb-true cell _ e)) (λ e. past (ltb-false cell _ e))

    -- one more that goes back makes the QL n + 1 longer, since no ticks are left to sum
    pub lengthened-next : behind tally v ≡ false → (clock : ℕ)
        → lengthened tables tally₁ clock block ≡ lengthened_by tables tally block (n + 1)
    unfolding lengthened update_server longer
    lengthened-next now clock = rw (behind-kept, now) longer-next

  -- and the first makes it 1 longer
  pub lengthened-first : behind tally v ≡ false → (clock : ℕ) → lengthened tables tally clock block ≡ lengthened_by tables tally block 1
  unfolding lengthened update_server longer lengthened_by
  lengthened-first now clock = rw now
