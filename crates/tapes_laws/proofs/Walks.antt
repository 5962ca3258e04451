-- A walk over numbers, pure: what it comes to where each is counted, and where each is written.
use Rattle.machine.specs.All.{ℕ, zero, suc, ◌+◌, ◌-◌, ◌≤◌, ◌<◌, arith, List, [], ◌∷◌, ◌++◌, ◌≡◌, refl, sym, ap, ◌∙◌, get_or, length, length-append, drop, sets, length-sets, number_bytes}
use Rattle.std.specs.Prelude.{min}
use Rattle.std.proofs.lemmas.List.{drop_all}
use lib.Ieee.{Float}
use Rattle.codec.proofs.{Stores.sets-append, Writing.put-room, Writing.written-bytes}
use Rattle.tapes_laws.specs.{declared.Row.Row, Source.Source}
use Rattle.tapes_laws.specs.{Listed, after, time_of, times_of, state_after, bytes_of, list_numbers, tape_numbers, Meant, Rows, Steps, Measures, Writes}
use Rattle.tapes_laws.proofs.{Lists.held-at, Lists.held-length, Times.bytes-none, Times.bytes-cons, Times.written_at, Tapes.behind}

-- ---- One after the other

module _ (step : ℕ → List ℕ → ℕ → ℕ → List ℕ → Type 0) where
  pub steps-append : (a b : List ℕ) (before : List ℕ) (i j k : ℕ) (mid behind : List ℕ) → Steps step a before i j mid → Steps step b mid j k behind →
      Steps step (a ++ b) before i k behind
  steps-append [] b before i j k mid last s t = rw (← s.0, ← s.1) t
  steps-append (n ∷ a) b before i j k mid last s t =
      (s.0, s.1, s.2, steps-append a b s.1 s.0 j k mid last s.3 t)

  -- the numbers that are left, taken from here, take all to where they end
  abbrev pub Leads : (left all : List ℕ) (here : List ℕ) (at : ℕ) (before : List ℕ) (start : ℕ) → Type 0
  Leads left all here at before start =
      (next : ℕ) (behind : List ℕ) → Steps step left here at next behind → Steps step all before start next behind

  -- a list's times: one more
  pub times-go : (s : Source) (left r time after-is next : ℕ) (here there before : List ℕ) (at start : ℕ) (all : List ℕ) → 0 < left →
      Leads (times_of s left r) all here at before start → time ≡ time_of s r → after-is ≡ after s r → step time here at next there →
      Leads (times_of s (left - 1) after-is) all there next before start
  unfolding times_of
  times-go s zero r time after-is next here there before at start all h leads et es done i b more = absurd (omega arith)
  times-go s (suc left) r time after-is next here there before at start all h leads et es done i b more =
      let one : suc left - 1 ≡ left = omega arith in
      leads i b (next, there, rw et at done, rw (one, es) at more)

  pub times-over : (s : Source) (left r : ℕ) (here before : List ℕ) (at start : ℕ) (all : List ℕ) → left ≤ 0 →
      Leads (times_of s left r) all here at before start → Steps step all before start at here
  unfolding times_of
  times-over s zero r here before at start all h leads = leads at here (refl, refl)
  times-over s (suc left) r here before at start all h leads = absurd (omega arith)

  -- the lists: one more
  pub lists-go : (numbers : List Float) (rows : List Row) (ls : List Listed) (k : ℕ) (d : Row) (r middle next after-is : ℕ)
      (here between there before : List ℕ) (at start : ℕ) (all : List ℕ) → Rows numbers rows ls → k < length rows →
      Leads (tape_numbers (drop k ls) r) all here at before start → step (get_or rows k d).count here at middle between →
      ((s : Source) → Meant numbers (get_or rows k d).distribution s →
      Steps step (times_of s (get_or rows k d).count r) between middle next there × (after-is ≡ state_after s (get_or rows k d).count r)) →
      Leads (tape_numbers (drop (k + 1) ls) after-is) all there next before start
  unfolding tape_numbers list_numbers
  lists-go numbers rows ls k d r middle next after-is here between there before at start all held h leads counted times i b more =
      let y = held-at numbers rows ls k d held h in
      let done = times y.list.source y.holds.0 in
      let n : (get_or rows k d).count ≡ y.list.count = y.holds.1 in
      let first = rw n at done.0 in
      let state : after-is ≡ behind y.list r = done.1 ∙ ap (λ (m : ℕ). state_after y.list.source m r) n in
      let rest = steps-append (times_of y.list.source y.list.count r) (tape_numbers (drop (k + 1) ls) (behind y.list r)) between middle next i there b
      first (rw state at more) in
      leads i b (rw y.rest (middle, between, rw n at counted, rest))

  pub lists-over : (numbers : List Float) (rows : List Row) (ls : List Listed) (k r : ℕ) (here before : List ℕ) (at start : ℕ) (all : List ℕ) →
      Rows numbers rows ls → length rows ≤ k → Leads (tape_numbers (drop k ls) r) all here at before start → Steps step all before start at here
  unfolding tape_numbers
  lists-over numbers rows ls k r here before at start all held h leads =
      let over : drop k ls ≡ [] = drop_all k ls (omega (arith, held-length numbers rows ls held)) in
      leads at here (rw over (refl, refl))

pub state-go : (s : Source) (left r after-is : ℕ) → 0 < left → after-is ≡ after s r → state_after s (left - 1) after-is ≡ state_after s left r
unfolding state_after
state-go s zero r after-is h e = absurd (omega arith)
state-go s (suc left) r after-is h e =
    let one : suc left - 1 ≡ left = omega arith in rw (one, e) refl

pub state-over : (s : Source) (left r : ℕ) → left ≤ 0 → state_after s left r ≡ r
unfolding state_after
state-over s zero r h = refl
state-over s (suc left) r h = absurd (omega arith)

-- ---- Counted

pub measures : (l before behind : List ℕ) (at next : ℕ) → at ≤ 18446744073709551615 → Steps Measures l before at next behind →
    next ≡ min (at + length (bytes_of l)) 18446744073709551615
measures [] before last at next h s = omega (arith, s.0, ap length bytes-none)
measures (n ∷ l) before last at next h s =
    let more = measures l s.1 last s.0 next (omega (arith, s.2.0)) s.3 in
    omega (arith, more, s.2.0, ap length (bytes-cons n l), length-append (number_bytes n) (bytes_of l))

-- ---- Written

pub writes : (l before behind : List ℕ) (at next : ℕ) → at + length (bytes_of l) ≤ length before → Steps Writes l before at next behind →
    behind ≡ sets before at (bytes_of l)
writes [] before last at next h s = s.1 ∙ rw bytes-none refl
writes (n ∷ l) before last at next h s =
    let b = number_bytes n in
    let long : length (bytes_of (n ∷ l)) ≡ length b + length (bytes_of l) = ap length (bytes-cons n l) ∙ length-append b (bytes_of l) in
    let same = s.2 ∙ put-room at n before (omega arith) in
    let position : s.0 ≡ at + length b = written_at _ _ _ _ same in
    let stored : s.1 ≡ sets before at b = written-bytes _ _ _ _ same in
    let room : s.0 + length (bytes_of l) ≤ length s.1 = omega (arith, ap length stored, length-sets before at b) in
    writes l s.1 last s.0 next room s.3
    ∙ rw (stored, position) (sets-append b (bytes_of l) before at ∙ ap (sets before at) (sym (bytes-cons n l)))
