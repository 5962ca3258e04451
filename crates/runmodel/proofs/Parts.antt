-- The parts of the buffers that a run has written lie within them.
use Rattle.machine.specs.All.{ℕ, ◌≤◌, arith, List, ◌≡◌, sym, length, take, drop, length-append, length-take-le}
use Rattle.engine_laws.specs.{declared.outcome.Outcome.Outcome, Contract.Begins, Contract.wanted, Contract.Contract}

-- `&xs[..n]` lies within xs and has n bytes
abbrev pub IsPart : ℕ → List ℕ → Type 0
IsPart n xs = (n ≤ length xs) × (n ≡ length (take n xs))

begun : (bytes before after : List ℕ) (n : ℕ) → n ≡ length bytes → Begins bytes before after → IsPart n after
begun bytes before after n e s =
    let inside : n ≤ length after = rw (s, length-append bytes (drop (length bytes) before)) (omega arith) in
    (inside, sym (length-take-le n after inside))

module _ {model tape : List ℕ} {budget : ℕ} {work trace report work' trace' report' : List ℕ} {r : Outcome}
    (told : Contract model tape budget work trace report r work' trace' report') where
  pub trace-part : IsPart r.trace_bytes trace'
  trace-part = begun (wanted model tape budget work trace report).trace trace trace' _ told.results.trace-bytes told.trace-holds

  pub report-part : IsPart r.report_bytes report'
  report-part =
      begun (wanted model tape budget work trace report).report report report' _ told.results.report-bytes told.report-holds
