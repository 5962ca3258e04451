-- The tape made is taken by validation, pure: number by number, each in its range, list by list, and nothing behind.
use Rattle.machine.specs.All.{ℕ, zero, suc, ◌+◌, ◌/◌, ◌≤◌, add_assoc, add-zero, zero-add, arith, Bool, true, false, cond, List, [], ◌∷◌, ◌++◌, append_assoc, append-nil, ◌≡◌, refl, sym, ap, ◌∙◌, leb, length, drop, length-append, eq-eqb, in_force, number_bytes, parsed, continue, ask, times, field_up_to, list_field, at_end, tape_of}
use Rattle.std.specs.Prelude.{Option, None as none, Some as some}
use lib.Ieee.{Float}
use Rattle.machine.specs.Limits as Machine
use Rattle.codec.specs.Answers.{cursor_at}
use Rattle.codec.proofs.Fields.{field-reads, drop_past}
use Rattle.std.specs.Prelude.{Result, Ok, Err}
use Rattle.constants.specs.declared.refusals.Refusal.{Refusal}
use Rattle.constants.specs.declared.refusals.Refusal.TheVariants.{NoStream}
use Rattle.streams.proofs.Starts.{start-inside}
use Rattle.streams.specs.Stream.{Inside, last_stream, start_of, beginning as start_state}
use Rattle.tapes_laws.specs.{most_times, numbers_per_list, continue as next, ask as asked, time_of, times_of, Listed, list_at_lem, lists_from, lists_of, times_bytes, tape_bytes, tape_times, leaves, made, refusal, fitted, from_lists, from_start, make_tape, Maker, Taken, Making}
use Rattle.tapes_laws.specs.{Source.Source, Contract.Contract}
use Rattle.tapes_laws.proofs as our
use our.{Reading.none-some, Times.bytes-none, Times.bytes-cons}
use our.Tapes.{behind, tape-none, tape-step}
use our.Sound.{Sound, SoundLists, lists-sound, time-most, after-inside, behind-inside}

module _ (s : List ℕ) (i j : ℕ) where
  -- the times of a source
  times-read : (x : Source) (n r at : ℕ) (rest : List ℕ) → Sound x → Inside r → drop at s ≡ times_bytes x n r ++ rest →
      times n (field_up_to Machine.five_groups s 8 0 Machine.max_time) (cursor_at at i j)
      ≡ parsed (times_of x n r) (cursor_at (at + length (times_bytes x n r)) i j)
  unfolding times times_of continue
  times-read x zero r at rest sound inside e =
      cc (bytes-none, add-zero at)
  times-read x (suc n) r at rest sound inside e =
      let t = time_of x r in
      let more = times_bytes x n _ in
      let bytes = bytes-cons t _ in
      let here = e ∙ ap (λ (l : List ℕ). l ++ rest) bytes ∙ append_assoc (number_bytes t) more rest in
      let most = time-most x r sound inside in
      rw (
        field-reads s _ Machine.five_groups at t 8 0 Machine.max_time i j here (omega arith) (omega arith) (omega arith) (omega arith),
        times-read x n _ _ rest sound (after-inside x inside) (drop_past s (number_bytes t) _ at here),
        (add_assoc at (length (number_bytes t)) _ ∙ ap (λ (m : ℕ). at + m) (sym (ap length bytes ∙ length-append (number_bytes t) more))),
      )

  list_read : (x : Listed) (r at : ℕ) (rest : List ℕ) → Sound x.source × (x.count ≤ most_times) → Inside r →
      drop at s ≡ number_bytes x.count ++ (times_bytes x.source x.count r ++ rest) →
      list_field s in_force (cursor_at at i j) ≡
      parsed (times_of x.source x.count r)
      (cursor_at (at + length (number_bytes x.count) + length (times_bytes x.source x.count r)) i j)
  unfolding list_field continue
  list_read x r at rest sound inside e =
      let n = x.count in
      rw (field-reads s (times_bytes x.source n r ++ rest) Machine.five_groups at n 8 0 Machine.max_samples i j e (omega arith)
      (omega (arith, sound.1)) (omega arith) (omega arith))
      (times-read x.source n r (at + length (number_bytes n)) rest sound.0 inside
      (drop_past s (number_bytes n) (times_bytes x.source n r ++ rest) at e))

  lists-read : (ls : List Listed) (r at : ℕ) (rest : List ℕ) → SoundLists ls → Inside r → drop at s ≡ tape_bytes ls r ++ rest →
      times (length ls) (list_field s in_force) (cursor_at at i j) ≡ parsed (tape_times ls r) (cursor_at (at + length (tape_bytes ls r)) i j)
  unfolding times tape_times continue
  lists-read [] r at rest sound inside e =
      cc (tape-none r, add-zero at)
  lists-read (x ∷ ls) r at rest sound inside e =
      let b = number_bytes x.count in
      let m = times_bytes x.source x.count r in
      let z = tape_bytes ls (behind x r) in
      let bytes = tape-step x ls r in
      let here : drop at s ≡ b ++ (m ++ (z ++ rest)) =
      cc (e, bytes, append_assoc b (m ++ z) rest, append_assoc m z rest) in
      let size : at + length b + length m + length z ≡ at + length (tape_bytes (x ∷ ls) r) =
      omega (arith, ap length bytes, length-append b (m ++ z), length-append m z) in
      rw (
        list_read x r at (z ++ rest) sound.0 inside here,
        lists-read ls _ _ rest sound.1 (behind-inside _ _ inside) (drop_past s m _ _ (drop_past s b _ at here)),
        size,
      )

-- the engine's own definitions take a tape that is made, and read its times
pub tape-taken : (ls : List Listed) (r : ℕ) → SoundLists ls → Inside r → Taken (tape_bytes ls r) (length ls) (tape_times ls r)
unfolding tape_of at_end ask continue
tape-taken ls r sound inside =
    let s = tape_bytes ls r in
    let whole : drop 0 s ≡ tape_bytes ls r ++ [] = sym (append-nil s) in
    let read = lists-read s 0 0 ls r 0 [] sound inside whole in
    record {
      behind = cursor_at (0 + length s) 0 0;
      takes = rw (read, eq-eqb (0 + length s) (length s) (zero-add (length s)));
    }

-- ---- What the tape maker made

lists_length : (lists : List ℕ) (numbers : List Float) (left k : ℕ) (ls : List Listed) → lists_from lists numbers left k ≡ some ls
    → length ls ≡ left
unfolding lists_from next
lists_length lists numbers zero k ls e = let same : [] ≡ ls = cc in sym (ap length same)
lists_length lists numbers (suc left) k ls e = go (λ l. lists_length lists numbers left (k + 1) l) (list_at_lem lists numbers k) e
  where
    rest : ((l : List Listed) → lists_from lists numbers left (k + 1) ≡ some l → length l ≡ left) → (x : Listed)
        → (o : Option (List Listed)) →
        lists_from lists numbers left (k + 1) ≡ o → next o (λ l. some (x ∷ l)) ≡ some ls → length ls ≡ suc left
    rest more x none f h = none-some h
    rest more x (some l) f h = let same : x ∷ l ≡ ls = cc in sym (ap length same) ∙ ap suc (more l f)

    go : ((l : List Listed) → lists_from lists numbers left (k + 1) ≡ some l → length l ≡ left) → (o : Option Listed) →
        next o (λ x. next (lists_from lists numbers left (k + 1)) (λ l. some (x ∷ l))) ≡ some ls → length ls ≡ suc left
    go more none h = none-some h
    go more (some x) h = rest more x (lists_from lists numbers left (k + 1)) refl h

lists-from : (lists : List ℕ) (numbers : List Float) (ls : List Listed) → lists_of lists numbers ≡ some ls →
    lists_from lists numbers (length lists / numbers_per_list) 0 ≡ some ls
unfolding lists_of next
lists-from lists numbers ls e = go (asked _) e
  where
    go : (o : Option (Unit {0})) → next o (λ a. lists_from lists numbers (length lists / numbers_per_list) 0) ≡ some ls →
        lists_from lists numbers (length lists / numbers_per_list) 0 ≡ some ls
    go none h = none-some h
    go (some a) h = h

-- no tape without a start
pub refused-start : {A : Type 0} (stream room : ℕ) (n : Refusal) (o : Option (List Listed)) (b : List ℕ) → start_of stream ≡ Err n →
    from_start (start_of stream) o room ≡ made b → A
unfolding from_start
refused-start stream room n o b e f = let g = rw e at f in let z : ◌≡◌ {A = ℕ} 0 1 = cc in absurd (omega arith)

start-state : (stream state : ℕ) → start_of stream ≡ Ok state → start_state stream ≡ state
unfolding start_of
start-state stream state e = go (leb stream last_stream) e
  where
    go : (t : Bool) → cond t (Ok (start_state stream)) (Err NoStream) ≡ Ok state → start_state stream ≡ state
    go true h = cc
    go false h = let z : ◌≡◌ {A = ℕ} 0 1 = cc in absurd (omega arith)

-- so every tape that `make` answers is taken
pub made-taken : (stream state : ℕ) (lists : List ℕ) (numbers : List Float) (room : ℕ) → start_of stream ≡ Ok state →
    (b : List ℕ) → make_tape stream lists numbers room ≡ made b → (ls : List Listed) → lists_of lists numbers ≡ some ls →
    Taken b (length lists / numbers_per_list) (tape_times ls (start_state stream))
unfolding make_tape from_start from_lists fitted
made-taken stream state lists numbers room start b e ls f =
    let from = lists-from lists numbers ls f in
    let tape : b ≡ tape_bytes ls state = fit (leb (length (tape_bytes ls state)) room)
    (sym (ap (λ (x : Result ℕ Refusal). from_start x (lists_of lists numbers) room) start
    ∙ ap (λ (o : Option (List Listed)). from_lists o state room) f) ∙ e) in
    rw (tape, start-state stream state start, ← lists_length lists numbers (length lists / numbers_per_list) 0 ls from)
    (tape-taken ls state (lists-sound lists numbers (length lists / numbers_per_list) 0 ls from) (start-inside stream start))
  where
    fit : (t : Bool) → cond t (made (tape_bytes ls state)) (refusal 43) ≡ made b → b ≡ tape_bytes ls state
    fit true h = cc
    fit false h = let z : ◌≡◌ {A = ℕ} 0 1 = cc in absurd (omega arith)

-- ---- The whole promise

module _ (stream : ℕ) (lists : List ℕ) (numbers : List Float) (before : List ℕ) where
  -- 41: a stream that is not there leaves the buffer
  pub contract-refused : (n : Refusal) → start_of stream ≡ Err n → Contract stream lists numbers before (Err n) before
  unfolding make_tape from_start leaves
  contract-refused n e =
      record {
        answered = rw e refl;
        bytes = rw e refl;
        accepted = λ b f ls g. refused-start stream (length before) n (lists_of lists numbers) b e f;
      }

  -- else the tape is made from the state where the stream begins
  pub contract-made : (state : ℕ) (r : Result ℕ Refusal) (behind : List ℕ) → start_of stream ≡ Ok state →
      Maker (lists_of lists numbers) state before r behind → Contract stream lists numbers before r behind
  unfolding make_tape from_start
  contract-made state r behind e maker =
      let it : make_tape stream lists numbers (length before) ≡ from_lists (lists_of lists numbers) state (length before) =
      ap (λ (x : Result ℕ Refusal). from_start x (lists_of lists numbers) (length before)) e in
      record {
        answered = rw it maker.answered;
        bytes = maker.bytes ∙ sym (ap (λ (m : Making). leaves m before) it);
        accepted = made-taken stream state lists numbers (length before) e;
      }
