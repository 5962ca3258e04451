-- Every report fits its buffer of 10,240 bytes, and each of its numbers nine groups of seven bits.
use Rattle.machine.specs.All.{ℕ, suc, ◌+◌, ◌*◌, ◌^◌, ◌≤◌, ◌<◌, mul-le-mul_left, arith, ◌≡◌, refl, sym, ap, ◌∙◌, Bool, List, [], ◌∷◌, ◌++◌, map, Option, none, some, eqb, length, drop, length-append, length-map, length-replicate, sets, length-sets, sets-eq, max_report_number, Transaction, Event, Gatherer, Interrupted, flat, Server, Queue, Facts, BlockModel, State, Logged, number_bytes, records_at, server_numbers, queue_numbers, Place, placed, moving_one, places, by_number, place_numbers, report_numbers, report_bytes_lem, Each, max_clock}
use Rattle.machine.proofs.{Decoding.Proper.Proper, Decoding.Proper.servers, Lists.Sorted.each-insert, Lists.Sums.sum-length, Runs.Everybody.Maybe, Runs.Everybody.Everybody, Lists.Sorting.sum-sorted, Basic.Each.each_append, Basic.Each.each-flat}
use Rattle.machine.proofs.Conservation.Conservation.{Sound, Conserved, sound-conserved}
use Rattle.codec.proofs.{Numbers.number_bytes-length, Numbers.number_bytes-longest, Stores.sets-append, Writing.put-room}
use Rattle.state.proofs.{Sane.Sane, Gains.map_each, Numbered.Numbered, Numbered.numbered}
use Rattle.report_laws.specs.{written, put_all}
use Rattle.report_laws.proofs.{Writes.put_all-cons, Counted.records-few}

-- ---- Sizes

-- the bytes of numbers
abbrev pub bytes_of : List ℕ → List ℕ
bytes_of l = flat (map number_bytes l)

abbrev pub size : List ℕ → ℕ
size l = length (bytes_of l)

size-cons : (v : ℕ) (l : List ℕ) → size (v ∷ l) ≡ length (number_bytes v) + size l
unfolding flat
size-cons v l = length-append (number_bytes v) (bytes_of l)

size-nil : size [] ≡ 0
unfolding flat
size-nil = refl

size-append : (k l : List ℕ) → size (k ++ l) ≡ size k + size l
size-append [] l = omega (arith, size-nil)
size-append (v ∷ k) l = omega (arith, size-cons v (k ++ l), size-cons v k, size-append k l)

size-most : (l : List ℕ) → size l ≤ 9 * length l
size-most [] = omega (arith, size-nil)
size-most (v ∷ l) = omega (arith, size-cons v l, number_bytes-longest v, size-most l)

-- ---- Written where there is room

put_all-room : (l : List ℕ) (at : ℕ) (bytes : List ℕ) → at + size l ≤ length bytes
    → put_all l (written at bytes) ≡ written (at + size l) (sets bytes at (bytes_of l))
unfolding flat
put_all-room [] at bytes h = unfold put_all in ap (λ n. written n bytes) (omega arith)
put_all-room (v ∷ l) at bytes h =
    let e : size (v ∷ l) ≡ length (number_bytes v) + size l = size-cons v l in
    put_all-cons v l (written at bytes)
    ∙ ap (put_all l) (put-room at v bytes (omega arith))
    ∙ put_all-room l (at + length (number_bytes v)) (sets bytes at (number_bytes v)) (omega (arith, length-sets bytes at (number_bytes v)))
    ∙ ap (λ n. written n (sets (sets bytes at (number_bytes v)) (at + length (number_bytes v)) (bytes_of l))) (omega arith)
    ∙ ap (written (at + size (v ∷ l))) (sets-append (number_bytes v) (bytes_of l) bytes at)

-- numbers that fit the buffer stand at its begin, and the bytes behind them stay
pub written-from-start : (l bytes : List ℕ) → size l ≤ length bytes
    → put_all l (written 0 bytes) ≡ written (size l) (bytes_of l ++ drop (size l) bytes)
written-from-start l bytes h =
    let start : 0 + size l ≡ size l = omega arith in
    put_all-room l 0 bytes (omega arith)
    ∙ ap (λ n. written n (sets bytes 0 (bytes_of l))) start
    ∙ ap (written (size l)) (sets-eq (bytes_of l) bytes 0 (omega arith) ∙ ap (λ n. bytes_of l ++ drop n bytes) start)

-- ---- Places

-- a number of at most four groups and a place of one
abbrev Short : Place → Type 0
Short p = (p.number ≤ 100000000) × (p.place ≤ 8)

each_placed : (c : ℕ) → c ≤ 8 → (l : List Transaction) → Each (λ t. t.number ≤ 100000000) l → Each Short (placed c l)
unfolding placed
each_placed c b [] h = tt
each_placed c b (t ∷ l) h = ((h.0, b), each_placed c b l h.1)

each-who : (P : Transaction → Type 0) (l : List Event) → Each (λ (e : Event). P e.who) l → Each P (map (λ e. e.who) l)
each-who P [] h = tt
each-who P (e ∷ l) h = (h.0, each-who P l h.1)

each-sorted : (l : List Place) → Each Short l → Each Short (by_number l)
unfolding by_number
each-sorted [] h = tt
each-sorted (p ∷ l) h = each-insert Short _ p (by_number l) h.0 (each-sorted l h.1)

places-size : (l : List Place) → Each Short l → size (place_numbers l) ≤ 5 * length l
unfolding place_numbers
places-size [] h = omega (arith, size-nil)
places-size (p ∷ l) h =
    let four : p.number < 128 ^ 4 = omega (arith, h.0.0) in
    let one : p.place < 128 ^ 1 = omega (arith, h.0.1) in
    omega (
      arith,
      size-cons p.number (p.place ∷ place_numbers l),
      size-cons p.place (place_numbers l),
      number_bytes-length 3 p.number four,
      number_bytes-length 0 p.place one,
      places-size l h.1,
    )

-- ---- Counts of numbers

server-count : (m : BlockModel) (records : List Logged) (v : ℕ) (l : List Server) → length (server_numbers m records v l) ≡ 5 * length l
unfolding server_numbers
server-count m records v [] = refl
server-count m records v (x ∷ l) = omega (arith, server-count m records (suc v) l)

queue-count : (m : BlockModel) (records : List Logged) (q : ℕ) (l : List Queue) → length (queue_numbers m records q l) ≡ 3 * length l
unfolding queue_numbers
queue-count m records q [] = refl
queue-count m records q (x ∷ l) = omega (arith, queue-count m records (suc q) l)

-- ---- The report

module _ (m : BlockModel) (tape : List (List ℕ)) (s : State) (proper : Proper m tape) (sane : Sane m s) (sound : Sound m tape s) where
  pub servers-length : length s.view.servers ≡ servers m
  servers-length = omega (arith, simp (length-map, length-append, length-replicate) at (ap length sane.shape.capacities))

  conserved : Conserved m tape s
  conserved = sound-conserved m tape s sound

  living-few : length (places s) ≤ 1024
  living-few = omega (arith, conserved.made, conserved.ended, conserved.balance, conserved.living, sane.living)

  everybody : Everybody (Numbered s.made) s
  everybody = numbered m tape s sound

  few : (t : Transaction) → Numbered s.made t → t.number ≤ 100000000
  few t n = omega (arith, n.1, sane.made, sane.serials)

  each-few : (l : List Transaction) → Each (Numbered s.made) l → Each (λ t. t.number ≤ 100000000) l
  each-few [] h = tt
  each-few (t ∷ l) h = (few t h.0, each-few l h.1)

  each-mover : (o : Option Transaction) → Maybe (Numbered s.made) o → Each (Numbered s.made) (moving_one o)
  unfolding moving_one
  each-mover none h = tt
  each-mover (some t) h = (h, tt)

  short : (c : ℕ) → c ≤ 8 → (l : List Transaction) → Each (Numbered s.made) l → Each Short (placed c l)
  short c b l h = each_placed c b l (each-few l h)

  -- the places list by list
  abbrev queued : List Place
  queued = placed 1 (flat s.ql)

  abbrev stopped : List Place
  stopped = placed 2 (flat s.wel)

  abbrev compared : List Place
  compared = placed 3 s.wsl

  abbrev later : List Place
  later = placed 4 (map (λ e. e.who) s.fel)

  abbrev ready : List Place
  ready = placed 5 s.rel

  abbrev mover : List Place
  mover = placed 6 (moving_one s.moving)

  abbrev gathering : List Place
  gathering = placed 7 (map (λ g. g.who) (flat s.gatherers))

  abbrev interrupted : List Place
  interrupted = placed 8 (map (λ i. i.who) s.interrupted)

  short-places : Each Short (places s)
  unfolding places
  short-places =
      each_append Short (queued ++ stopped ++ compared ++ later ++ ready ++ mover ++ gathering) interrupted
      (each_append Short (queued ++ stopped ++ compared ++ later ++ ready ++ mover) gathering
      (each_append Short (queued ++ stopped ++ compared ++ later ++ ready) mover
      (each_append Short (queued ++ stopped ++ compared ++ later) ready
      (each_append Short (queued ++ stopped ++ compared) later
      (each_append Short (queued ++ stopped) compared
      (each_append Short queued stopped (short 1 (omega arith) (flat s.ql) (each-flat (Numbered s.made) s.ql everybody.ql))
      (short 2 (omega arith) (flat s.wel) (each-flat (Numbered s.made) s.wel everybody.wel)))
      (short 3 (omega arith) s.wsl everybody.wsl))
      (short 4 (omega arith) (map (λ e. e.who) s.fel) (each-who (Numbered s.made) s.fel everybody.fel)))
      (short 5 (omega arith) s.rel everybody.rel))
      (short 6 (omega arith) (moving_one s.moving) (each-mover s.moving everybody.moving)))
      (short 7 (omega arith) (map (λ g. g.who) (flat s.gatherers))
      (map_each (λ (g : Gatherer). g.who) (Numbered s.made) (flat s.gatherers)
      (each-flat (λ (g : Gatherer). Numbered s.made g.who) s.gatherers everybody.gatherers))))
      (short 8 (omega arith) (map (λ i. i.who) s.interrupted)
      (map_each (λ (i : Interrupted). i.who) (Numbered s.made) s.interrupted everybody.interrupted))

  sorted-length : length (by_number (places s)) ≡ length (places s)
  sorted-length = sym (sum-length (by_number (places s))) ∙ sum-sorted (λ p. 1) (places s) ∙ sum-length (places s)

  pub report-fits : length (report_bytes_lem m s) ≤ 10240
  unfolding report_bytes_lem report_numbers
  report-fits =
      omega (
        arith,
        size-cons s.view.clock (s.made ∷ s.ended ∷ rest),
        size-cons s.made (s.ended ∷ rest),
        size-cons s.ended rest,
        number_bytes-longest s.view.clock,
        number_bytes-longest s.made,
        number_bytes-longest s.ended,
        size-append (server_numbers m s.records 1 s.view.servers ++ queue_numbers m s.records 1 s.view.queues) living,
        size-append (server_numbers m s.records 1 s.view.servers) (queue_numbers m s.records 1 s.view.queues),
        size-most (server_numbers m s.records 1 s.view.servers),
        server-count m s.records 1 s.view.servers,
        servers-length,
        proper.facilities,
        proper.storages,
        size-most (queue_numbers m s.records 1 s.view.queues),
        queue-count m s.records 1 s.view.queues,
        sane.shape.queue-length,
        proper.queues,
        size-cons (length (places s)) (place_numbers (by_number (places s))),
        number_bytes-longest (length (places s)),
        places-size (by_number (places s)) (each-sorted (places s) short-places),
        sorted-length,
        living-few,
      )
    where
      living : List ℕ
      living = length (places s) ∷ place_numbers (by_number (places s))

      rest : List ℕ
      rest = server_numbers m s.records 1 s.view.servers ++ queue_numbers m s.records 1 s.view.queues ++ living

  -- ---- Each number

  abbrev Small : ℕ → Type 0
  Small n = n ≤ max_report_number

  -- some for each tick that passed
  ticks : (a n : ℕ) → a ≤ 100000001 → n ≤ a * s.view.clock → Small n
  ticks a n b h =
      let c : s.view.clock ≤ max_clock = sane.timely.clock in
      omega (arith, mul-le-mul_left a c)

  module _ (number : length s.records ≤ s.turns) where
    small-records : (outcome : ℕ) (p : Facts → Bool) → Small (records_at m outcome p s.records)
    small-records outcome p = omega (arith, records-few m outcome p s.records, sane.turns)

    small-servers : (v : ℕ) (l : List Server) → Each (λ (x : Server). x.unit_ticks ≤ 65535 * s.view.clock) l
        → Each (λ (x : Server). x.wait_ticks ≤ 1024 * s.view.clock) l
        → Each (λ (x : Server). x.longest ≤ 1024) l → Each Small (server_numbers m s.records v l)
    unfolding server_numbers
    small-servers v [] u w h = tt
    small-servers v (x ∷ l) u w h = (
      small-records 0 (λ f. eqb f.server v),
      (
        ticks 65535 _ (omega arith) u.0,
        (
          small-records 1 (λ f. eqb f.server v),
          (ticks 1024 _ (omega arith) w.0, (omega (arith, h.0), small-servers (suc v) l u.1 w.1 h.1)),
        ),
      ),
    )

    small-queues : (q : ℕ) (l : List Queue) → Each (λ (x : Queue). x.content_ticks ≤ 100000001 * s.view.clock) l
        → Each (λ (x : Queue). x.longest ≤ 100000001) l
        → Each Small (queue_numbers m s.records q l)
    unfolding queue_numbers
    small-queues q [] c h = tt
    small-queues q (x ∷ l) c h = (
      small-records 0 (λ f. eqb f.queue q),
      (ticks 100000001 _ (omega arith) c.0, (omega (arith, h.0), small-queues (suc q) l c.1 h.1)),
    )

    small-places : (l : List Place) → Each Short l → Each Small (place_numbers l)
    unfolding place_numbers
    small-places [] h = tt
    small-places (p ∷ l) h = (omega (arith, h.0.0), (omega (arith, h.0.1), small-places l h.1))

    pub report-small : Each (λ (n : ℕ). n ≤ max_report_number) (report_numbers m s)
    unfolding report_numbers
    report-small = (
      omega (arith, sane.timely.clock),
      (
        omega (arith, sane.made, sane.serials),
        (
          omega (arith, sane.ended, sane.made, sane.serials),
          each_append Small (server_numbers m s.records 1 s.view.servers ++ queue_numbers m s.records 1 s.view.queues) _
              (each_append Small (server_numbers m s.records 1 s.view.servers) (queue_numbers m s.records 1 s.view.queues)
              (small-servers 1 s.view.servers sane.unit-ticks sane.wait-ticks sane.longest)
              (small-queues 1 s.view.queues sane.content-ticks sane.longest-content))
              (omega (arith, living-few), small-places (by_number (places s)) (each-sorted (places s) short-places)),
        ),
      ),
    )
