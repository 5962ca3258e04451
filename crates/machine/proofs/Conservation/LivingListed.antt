-- The living part of the report: by rising number, each a living one, each with its place.
use Rattle.machine.specs.All.{ℕ, zero, suc, ◌+◌, ◌*◌, ◌≤◌, ◌<◌, ◌≡◌, refl, sym, ap, ◌∙◌, Bool, true, false, ◌&&◌, List, [], ◌∷◌, ◌++◌, arith, eq-eqb, eqb, length, get_or, length-append, get_or-append-add, Server, Queue, BlockModel, State, Logged, server_numbers, queue_numbers, Place, places, by_number, place_numbers, report_numbers, bit, standing, is_living, living_count, living_at, standing_at, listed_number, listed_place, LivingListed}
use Rattle.machine.proofs as our
use our.{Decoding.Proper.servers, Runs.Shape.server-length, Conservation.Standing.times-standing}
use our.Lists.Sums.{sum_on, sum-count, sum-length}
use our.Conservation.Conservation.{Sound, Conserved, sound-conserved, stands-at-most-once}
use our.Lists.Sorting.{Rising, times, sum-sorted, sorted-rising}

-- ---- Lengths

server-numbers : (m : BlockModel) (records : List Logged) (v : ℕ) (l : List Server) → length (server_numbers m records v l) ≡ 5 * length l
unfolding server_numbers
server-numbers m records v [] = refl
server-numbers m records v (x ∷ l) = omega (arith, server-numbers m records (suc v) l)

queue-numbers : (m : BlockModel) (records : List Logged) (q : ℕ) (l : List Queue) → length (queue_numbers m records q l) ≡ 3 * length l
unfolding queue_numbers
queue-numbers m records q [] = refl
queue-numbers m records q (x ∷ l) = omega (arith, queue-numbers m records (suc q) l)

pair-numbers : (l : List Place) → length (place_numbers l) ≡ 2 * length l
unfolding place_numbers
pair-numbers [] = refl
pair-numbers (p ∷ l) = omega (arith, pair-numbers l)

-- ---- Pairs

nowhere : Place
nowhere = record { number = 0; place = 0 }

at-index : (l : List ℕ) {i j : ℕ} → i ≡ j → get_or l i 0 ≡ get_or l j 0
at-index l e = ap (λ (k : ℕ). get_or l k 0) e

number_at : (l : List Place) (i : ℕ) → get_or (place_numbers l) (2 * i) 0 ≡ (get_or l i nowhere).number
unfolding place_numbers nowhere
number_at [] i = refl
number_at (p ∷ l) zero = refl
number_at (p ∷ l) (suc i) =
    at-index (p.number ∷ p.place ∷ place_numbers l) {i = 2 * suc i} {j = suc (suc (2 * i))} (omega arith) ∙ number_at l i

place_at : (l : List Place) (i : ℕ) → get_or (place_numbers l) (suc (2 * i)) 0 ≡ (get_or l i nowhere).place
unfolding place_numbers nowhere
place_at [] i = refl
place_at (p ∷ l) zero = refl
place_at (p ∷ l) (suc i) =
    at-index (p.number ∷ p.place ∷ place_numbers l) {i = suc (2 * suc i)} {j = suc (suc (suc (2 * i)))} (omega arith) ∙ place_at l i

-- ---- By rising number

low-at : (low : ℕ) (l : List Place) → Rising low l → 0 < length l → low ≤ (get_or l 0 nowhere).number
unfolding Rising
low-at low [] r h = absurd (omega arith)
low-at low (p ∷ l) r h = r.0

rising-at : (low : ℕ) (l : List Place) → Rising low l → (i : ℕ) → suc i < length l
    → (get_or l i nowhere).number < (get_or l (suc i) nowhere).number
unfolding Rising
rising-at low [] r i h = absurd (omega arith)
rising-at low (p ∷ l) r zero h = low-at (suc p.number) l r.1 (omega arith)
rising-at low (p ∷ l) r (suc i) h = rising-at (suc p.number) l r.1 i (omega arith)

-- a member weighs no more than all
weighed : (f : Place → ℕ) (l : List Place) (i : ℕ) → i < length l → f (get_or l i nowhere) ≤ sum_on f l
weighed f [] i h = absurd (omega arith)
weighed f (p ∷ l) zero h = omega arith
weighed f (p ∷ l) (suc i) h = omega (arith, weighed f l i (omega arith))

lighter : (f g : Place → ℕ) → ((p : Place) → f p ≤ g p) → (l : List Place) → sum_on f l ≤ sum_on g l
lighter f g h [] = omega arith
lighter f g h (p ∷ l) = omega (arith, h p, lighter f g h l)

living_of : (b : Bool) → 1 ≤ bit b → b ≡ true
living_of true h = refl
living_of false h = absurd (omega arith)

both-less : (a b : Bool) → bit (a && b) ≤ bit b
both-less true b = omega arith
both-less false true = omega arith
both-less false false = omega arith

-- ---- The report

module _ {m : BlockModel} {tape : List (List ℕ)} (s : State) (sound : Sound m tape s) where
  abbrev kept : Conserved m tape s
  kept = sound-conserved m tape s sound

  abbrev sorted : List Place
  sorted = by_number (places s)

  once : (n : ℕ) → times n (places s) ≤ 1
  once n = omega (arith, times-standing s n, stands-at-most-once m tape s sound n)

  abbrev K : ℕ
  K = living_count m tape s.records

  size : length sorted ≡ K
  size = sym (sum-length sorted) ∙ sum-sorted (λ p. 1) (places s) ∙ sum-length (places s) ∙ kept.living

  abbrev front : List ℕ
  front =
      s.view.clock ∷ s.made ∷ s.ended
      ∷ (server_numbers m s.records 1 s.view.servers ++ queue_numbers m s.records 1 s.view.queues)

  front-size : length front ≡ living_at m tape
  unfolding living_at
  front-size =
      omega (
        arith,
        length-append (server_numbers m s.records 1 s.view.servers) (queue_numbers m s.records 1 s.view.queues),
        server-numbers m s.records 1 s.view.servers,
        queue-numbers m s.records 1 s.view.queues,
        server-length sound.shape,
        sound.shape.queue-length,
      )

  report-is : report_numbers m s ≡ front ++ (length (places s) ∷ place_numbers sorted)
  unfolding report_numbers
  report-is = refl

  behind : (j : ℕ) → get_or (report_numbers m s) (living_at m tape + j) 0 ≡ get_or (length (places s) ∷ place_numbers sorted) j 0
  behind j =
      ap (λ (l : List ℕ). get_or l (living_at m tape + j) 0) report-is
      ∙ at-index (front ++ (length (places s) ∷ place_numbers sorted)) (ap (λ (n : ℕ). n + j) (sym front-size))
      ∙ get_or-append-add front (length (places s) ∷ place_numbers sorted) j 0

  number_is : (i : ℕ) → listed_number m tape s i ≡ (get_or sorted i nowhere).number
  number_is i = at-index (report_numbers m s) (omega arith) ∙ behind (suc (2 * i)) ∙ number_at sorted i

  place_is : (i : ℕ) → listed_place m tape s i ≡ (get_or sorted i nowhere).place
  place_is i = at-index (report_numbers m s) (omega arith) ∙ behind (suc (suc (2 * i))) ∙ place_at sorted i

  abbrev rises : Rising 0 sorted
  rises = sorted-rising (places s) once

  module _ (i : ℕ) (h : i < K) where
    abbrev p : Place
    p = get_or sorted i nowhere

    own : (n : ℕ) → eqb n n ≡ true
    own n = eq-eqb n n refl

    stands : 1 ≤ standing s p.number
    stands =
        omega (
          arith,
          weighed (λ q. bit (eqb q.number p.number)) sorted i (omega (arith, size)),
          ap bit (own p.number),
          sum-sorted (λ q. bit (eqb q.number p.number)) (places s),
          times-standing s p.number,
        )

    alive : is_living m tape s.records p.number ≡ true
    alive = living_of _ (omega (arith, stands, kept.one_place p.number))

    at_place : standing_at m tape s p.place p.number ≡ 1
    unfolding standing_at
    at_place =
        let here : Place → ℕ = λ q. bit (eqb q.place p.place && eqb q.number p.number) in
        omega (
          arith,
          sum-count (λ (q : Place). eqb q.place p.place && eqb q.number p.number) (places s),
          sum-sorted here (places s),
          weighed here sorted i (omega (arith, size)),
          ap bit (ap (λ b. b && eqb p.number p.number) (own p.place) ∙ own p.number),
          lighter here (λ q. bit (eqb q.number p.number)) (λ q. both-less (eqb q.place p.place) (eqb q.number p.number))
              (places s),
          once p.number,
        )

  pub living-listed : LivingListed m tape s
  living-listed =
      record {
        counted = at-index (report_numbers m s) (omega arith) ∙ behind 0 ∙ kept.living;
        whole =
            omega (
              arith,
              ap length report-is,
              length-append front (length (places s) ∷ place_numbers sorted),
              front-size,
              pair-numbers sorted,
              size,
            );
        rising = λ i h. omega (arith, number_is i, number_is (suc i), rising-at 0 sorted rises i (omega (arith, size)));
        living = λ i h. ap (is_living m tape s.records) (number_is i) ∙ alive i h;
        placed = λ i h.
            ap (λ (n : ℕ). standing_at m tape s n (listed_number m tape s i)) (place_is i)
            ∙ ap (standing_at m tape s (get_or sorted i nowhere).place) (number_is i) ∙ at_place i h;
      }
