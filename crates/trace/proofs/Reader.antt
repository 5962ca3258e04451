-- The reader, pure: `read_record` at a position before the end, by the answers of its fields in their order.
use Rattle.machine.specs.All.{ℕ, ◌≤◌, ◌<◌, List, ◌≡◌, length, lt-ltb, le-ltb, in_force, max_clock, max_transaction, max_blocks, parsed, refused, continue, taken, refusal, no_more, read_record, trace_field, record_fields, reading}
use Rattle.codec.specs.Answers.{cursor_at}
use Rattle.trace.specs.{entry}

module _ (s : List ℕ) (at : ℕ) where
  pub past_end : length s ≤ at → no_more ≡ read_record in_force s at
  unfolding read_record
  past_end h = rw (le-ltb at (length s) h)

  module _ (h : at < length s) where
    -- the four fields in their order, each with its own questions: clock,
    pub clock-refused : (n : ℕ) → trace_field in_force s 0 max_clock (cursor_at at 0 0) ≡ refused n → refusal n ≡ read_record in_force s at
    unfolding read_record record_fields continue reading
    clock-refused n e = rw (lt-ltb at (length s) h, e)

    module _ (clock p1 : ℕ) (e1 : trace_field in_force s 0 max_clock (cursor_at at 0 0) ≡ parsed clock (cursor_at p1 0 0)) where
      -- transaction,
      pub transaction-refused : (n : ℕ) → trace_field in_force s 1 max_transaction (cursor_at p1 0 0) ≡ refused n
          → refusal n ≡ read_record in_force s at
      unfolding read_record record_fields continue reading
      transaction-refused n e = rw (lt-ltb at (length s) h, e1, e)

      module _ (transaction p2 : ℕ)
          (e2 : trace_field in_force s 1 max_transaction (cursor_at p1 0 0) ≡ parsed transaction (cursor_at p2 0 0)) where
        -- block,
        pub block_refused : (n : ℕ) → trace_field in_force s 1 max_blocks (cursor_at p2 0 0) ≡ refused n → refusal n ≡ read_record in_force s at
        unfolding read_record record_fields continue reading
        block_refused n e = rw (lt-ltb at (length s) h, e1, e2, e)

        module _ (block p3 : ℕ) (e3 : trace_field in_force s 1 max_blocks (cursor_at p2 0 0) ≡ parsed block (cursor_at p3 0 0)) where
          -- and outcome
          pub outcome-refused : (n : ℕ) → trace_field in_force s 0 1 (cursor_at p3 0 0) ≡ refused n → refusal n ≡ read_record in_force s at
          unfolding read_record record_fields continue reading
          outcome-refused n e = rw (lt-ltb at (length s) h, e1, e2, e3, e)

          -- all four read
          pub record-taken : (outcome next : ℕ) → trace_field in_force s 0 1 (cursor_at p3 0 0) ≡ parsed outcome (cursor_at next 0 0) →
              taken (entry clock transaction block outcome) next ≡ read_record in_force s at
          unfolding read_record record_fields continue reading
          record-taken outcome next e = rw (lt-ltb at (length s) h, e1, e2, e3, e)
