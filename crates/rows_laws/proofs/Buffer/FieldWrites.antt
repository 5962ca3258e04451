-- What a write to a field of a row makes of its transaction: the machine's setters.
use Rattle.machine.specs.All.{ℕ, zero, suc, ◌+◌, ◌*◌, ◌/◌, ◌%◌, ◌≤◌, ◌<◌, ◌≡◌, ◌∙◌, List, arith, eqb, length, set, Transaction, with_priority, with_parameters, with_next, with_serial, with_returning, with_stamp}
use mir.Syntax.{w32}
use mir.Val.{to_z}
use Rattle.rows_laws.specs.All.{data_fields, field_at, read, write, set_returning, time_of, set_time, transaction_at, event_at}
use Rattle.rows_laws.proofs.Buffer.Store.{length-store, load_same, load-other}

abbrev pub with_number : ℕ → Transaction → Transaction
with_number x t =
    record {
      number = x;
      priority = t.priority;
      parameters = t.parameters;
      next = t.next;
      serial = t.serial;
      returning = t.returning;
      stamp = t.stamp;
      family = t.family;
    }

abbrev pub with_family : ℕ → Transaction → Transaction
with_family x t =
    record {
      number = t.number;
      priority = t.priority;
      parameters = t.parameters;
      next = t.next;
      serial = t.serial;
      returning = t.returning;
      stamp = t.stamp;
      family = x;
    }

module _ (w : List ℕ) (k : ℕ) (room : 16384 ≤ length w) (hk : k < 1024) where
  -- another field
  apart : (f x g : ℕ) → f < g → read (write w f k x) g k ≡ read w g k
  apart f x g h = load-other w (field_at f k) x (field_at g k) (λ e. omega arith)

  apart' : (f x g : ℕ) → g < f → read (write w f k x) g k ≡ read w g k
  apart' f x g h = load-other w (field_at f k) x (field_at g k) (λ e. omega arith)

  own : (f x : ℕ) → f < data_fields → read (write w f k x) f k ≡ x
  own f x h = load_same w (field_at f k) x room (omega arith)

  -- and the time
  beside : (f x : ℕ) → f < 8 → time_of (write w f k x) k ≡ time_of w k
  unfolding time_of
  beside f x h = rw (apart f x 8 (omega arith), apart f x 9 (omega arith))

  pub write-number : (x : ℕ) → transaction_at (write w 0 k x) k ≡ with_number x (transaction_at w k)
  unfolding transaction_at
  write-number x =
      rw (
        own 0 x (omega arith),
        apart 0 x 1 (omega arith),
        apart 0 x 2 (omega arith),
        apart 0 x 3 (omega arith),
        apart 0 x 4 (omega arith),
        apart 0 x 5 (omega arith),
        apart 0 x 6 (omega arith),
        apart 0 x 7 (omega arith),
        beside 0 x (omega arith),
        apart 0 x 10 (omega arith),
      )

  pub write-next : (x : ℕ) → transaction_at (write w 6 k x) k ≡ with_next x (transaction_at w k)
  unfolding transaction_at
  write-next x =
      rw (
        apart' 6 x 0 (omega arith),
        apart' 6 x 1 (omega arith),
        apart' 6 x 2 (omega arith),
        apart' 6 x 3 (omega arith),
        apart' 6 x 4 (omega arith),
        apart' 6 x 5 (omega arith),
        own 6 x (omega arith),
        apart 6 x 7 (omega arith),
        beside 6 x (omega arith),
        apart 6 x 10 (omega arith),
      )

  pub write-serial : (x : ℕ) → transaction_at (write w 7 k x) k ≡ with_serial x (transaction_at w k)
  unfolding transaction_at
  write-serial x =
      rw (
        apart' 7 x 0 (omega arith),
        apart' 7 x 1 (omega arith),
        apart' 7 x 2 (omega arith),
        apart' 7 x 3 (omega arith),
        apart' 7 x 4 (omega arith),
        apart' 7 x 5 (omega arith),
        apart' 7 x 6 (omega arith),
        own 7 x (omega arith),
        beside 7 x (omega arith),
        apart 7 x 10 (omega arith),
      )

  pub write-family : (x : ℕ) → transaction_at (write w 10 k x) k ≡ with_family x (transaction_at w k)
  unfolding transaction_at time_of
  write-family x =
      rw (
        apart' 10 x 0 (omega arith),
        apart' 10 x 1 (omega arith),
        apart' 10 x 2 (omega arith),
        apart' 10 x 3 (omega arith),
        apart' 10 x 4 (omega arith),
        apart' 10 x 5 (omega arith),
        apart' 10 x 6 (omega arith),
        apart' 10 x 7 (omega arith),
        apart' 10 x 8 (omega arith),
        apart' 10 x 9 (omega arith),
        own 10 x (omega arith),
      )

  -- priority and mark are one field
  pub write-standing : (p m : ℕ) → m < 2
      → transaction_at (write w 1 k (p * 2 + m)) k ≡ with_returning (eqb m 1) (with_priority p (transaction_at w k))
  unfolding transaction_at
  write-standing p m h =
      let x : ℕ = p * 2 + m in
      let half : (p * 2 + m) / 2 ≡ p = omega arith in
      let rest : (p * 2 + m) % 2 ≡ m = omega arith in
      rw (
        apart' 1 x 0 (omega arith),
        own 1 x (omega arith),
        apart 1 x 2 (omega arith),
        apart 1 x 3 (omega arith),
        apart 1 x 4 (omega arith),
        apart 1 x 5 (omega arith),
        apart 1 x 6 (omega arith),
        apart 1 x 7 (omega arith),
        beside 1 x (omega arith),
        apart 1 x 10 (omega arith),
        half,
        rest,
      )

  -- the mark is the lowest bit of the standing field
  pub set-returning : (m : ℕ) → m < 2 → transaction_at (set_returning w k m) k ≡ with_returning (eqb m 1) (transaction_at w k)
  unfolding transaction_at
  set-returning m h = write-standing (read w 1 k / 2) m h

  -- parameter i + 1, from its bits
  pub write-parameter : (i x : ℕ) → i < 4
      → transaction_at (write w (2 + i) k x) k ≡ with_parameters (set (transaction_at w k).parameters i (to_z w32 x)) (transaction_at w k)
  unfolding transaction_at
  write-parameter zero x h =
      rw (
        apart' 2 x 0 (omega arith),
        apart' 2 x 1 (omega arith),
        own 2 x (omega arith),
        apart 2 x 3 (omega arith),
        apart 2 x 4 (omega arith),
        apart 2 x 5 (omega arith),
        apart 2 x 6 (omega arith),
        apart 2 x 7 (omega arith),
        beside 2 x (omega arith),
        apart 2 x 10 (omega arith),
      )
  write-parameter (suc zero) x h =
      rw (
        apart' 3 x 0 (omega arith),
        apart' 3 x 1 (omega arith),
        apart' 3 x 2 (omega arith),
        own 3 x (omega arith),
        apart 3 x 4 (omega arith),
        apart 3 x 5 (omega arith),
        apart 3 x 6 (omega arith),
        apart 3 x 7 (omega arith),
        beside 3 x (omega arith),
        apart 3 x 10 (omega arith),
      )
  write-parameter (suc (suc zero)) x h =
      rw (
        apart' 4 x 0 (omega arith),
        apart' 4 x 1 (omega arith),
        apart' 4 x 2 (omega arith),
        apart' 4 x 3 (omega arith),
        own 4 x (omega arith),
        apart 4 x 5 (omega arith),
        apart 4 x 6 (omega arith),
        apart 4 x 7 (omega arith),
        beside 4 x (omega arith),
        apart 4 x 10 (omega arith),
      )
  write-parameter (suc (suc (suc zero))) x h =
      rw (
        apart' 5 x 0 (omega arith),
        apart' 5 x 1 (omega arith),
        apart' 5 x 2 (omega arith),
        apart' 5 x 3 (omega arith),
        apart' 5 x 4 (omega arith),
        own 5 x (omega arith),
        apart 5 x 6 (omega arith),
        apart 5 x 7 (omega arith),
        beside 5 x (omega arith),
        apart 5 x 10 (omega arith),
      )
  write-parameter (suc (suc (suc (suc i)))) x h = absurd (omega arith)

-- the time of a move, and the stamp
module _ (w : List ℕ) (k : ℕ) (room : 16384 ≤ length w) (hk : k < 1024) (time : ℕ) where
  abbrev low : List ℕ
  low = write w 8 k (time % 4294967296)

  low-room : 16384 ≤ length low
  low-room = simp length-store room

  pub time-set : time_of (set_time w k time) k ≡ time
  unfolding time_of set_time
  time-set =
      rw (
        load_same low (field_at 9 k) (time / 4294967296) low-room (omega arith),
        load-other low (field_at 9 k) (time / 4294967296) (field_at 8 k) (λ e. omega arith),
        load_same w (field_at 8 k) (time % 4294967296) room (omega arith),
      )
      (omega arith)

  -- a field of the time leaves the others
  others : (g : ℕ) → g < 8 → read (set_time w k time) g k ≡ read w g k
  unfolding set_time
  others g h = apart' low k low-room hk 9 (time / 4294967296) g (omega arith) ∙ apart' w k room hk 8 (time % 4294967296) g h

  family-kept : read (set_time w k time) 10 k ≡ read w 10 k
  unfolding set_time
  family-kept = apart low k low-room hk 9 (time / 4294967296) 10 (omega arith) ∙ apart w k room hk 8 (time % 4294967296) 10 (omega arith)

  -- the time of a row is the stamp of its transaction
  pub write-stamp : transaction_at (set_time w k time) k ≡ with_stamp time (transaction_at w k)
  unfolding transaction_at
  write-stamp =
      rw (
        others 0 (omega arith),
        others 1 (omega arith),
        others 2 (omega arith),
        others 3 (omega arith),
        others 4 (omega arith),
        others 5 (omega arith),
        others 6 (omega arith),
        others 7 (omega arith),
        time-set,
        family-kept,
      )

  -- the time of an event is also the transaction's stamp
  pub write-time : event_at (set_time w k time) k ≡ record { time = time; who = with_stamp time (transaction_at w k) }
  unfolding event_at
  write-time = rw (time-set, write-stamp)
