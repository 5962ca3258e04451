-- The report that is written is the machine's: from what stands for a state, the numbers are those of `report_numbers`, and the
-- buffer begins with `report_bytes_lem`.
use Rattle.machine.specs.All.{ℕ, zero, suc, ◌+◌, ◌≤◌, ◌<◌, min, add-zero, arith, ◌≡◌, refl, sym, ap, ap₂, ◌∙◌, List, [], ◌∷◌, ◌++◌, append_assoc, eqb, length, get_or, drop, Server, Queue, idle_server, empty_queue, BlockModel, State, Logged, records_at, server_numbers, queue_numbers, places, by_number, place_numbers, report_numbers, report_bytes_lem}
use Rattle.machine.proofs.Decoding.Proper.{Proper, Names}
use Rattle.machine.proofs.{Runs.RunLaws.each_map, Conservation.Conservation.Sound, Conservation.Conservation.stands-at-most-once}
use Rattle.layout.specs.Layout as Layout
use Rattle.layout.specs.All.{header_of, Represents}
use Rattle.state.specs.All.{at_block, Rows, Stands}
use Rattle.state.proofs.{Sane.Sane, Written.Traced}
use Rattle.report_laws.specs.{Written, written, put_all, server_row, queue_row, rows_to, living_numbers, row_numbers}
use Rattle.report_laws.proofs.{Blocks.takes-server, Blocks.fills-queue, Counted.total-records, LivingNumbers.living-numbers, Fitting.servers-length, Fitting.report-fits, Fitting.written-from-start}

-- ---- Rows of numbers

rows-front : (n : ℕ) (f : ℕ → List ℕ) → rows_to (suc n) f ≡ f 0 ++ rows_to n (λ i. f (suc i))
unfolding rows_to
rows-front zero f = sym (mathlib.Core.List.append-nil (f 0))
rows-front (suc n) f = ap (λ l. l ++ f (suc n)) (rows-front n f) ∙ append_assoc (f 0) (rows_to n (λ i. f (suc i))) (f (suc n))

rows_same : (n : ℕ) (f g : ℕ → List ℕ) → ((i : ℕ) → i < n → f i ≡ g i) → rows_to n f ≡ rows_to n g
unfolding rows_to
rows_same zero f g h = refl
rows_same (suc n) f g h = ap₂ ◌++◌ (rows_same n f g (λ i l. h i (omega arith))) (h n (omega arith))

-- the numbers of each of a list, the first of them with number v
module _ {A : Type 0} (one : ℕ → A → List ℕ) (each : ℕ → List A → List ℕ) (d : A) (end : (v : ℕ) → each v [] ≡ [])
    (more : (v : ℕ) (x : A) (l : List A) → each v (x ∷ l) ≡ one v x ++ each (suc v) l) where
  rows-list : (l : List A) (v : ℕ) → each v l ≡ rows_to (length l) (λ i. one (v + i) (get_or l i d))
  rows-list [] v = end v ∙ none (λ i. one (v + i) d)
    where
      none : (f : ℕ → List ℕ) → [] ≡ rows_to 0 f
      none f = unfold rows_to in refl
  rows-list (x ∷ l) v =
      more v x l
      ∙ ap₂ ◌++◌ (ap (λ n. one n x) (sym (add-zero v)))
      (rows-list l (suc v) ∙ rows_same (length l) _ (λ i. one (v + suc i) (get_or l i d)) (λ i b. ap (λ n. one n (get_or l i d)) (omega arith)))
      ∙ sym (rows-front (length l) (λ i. one (v + i) (get_or (x ∷ l) i d)))

-- ---- One server, one queue

abbrev server_five : BlockModel → List Logged → ℕ → Server → List ℕ
server_five m records v x =
    records_at m 0 (λ f. eqb f.server v) records ∷ x.unit_ticks ∷ records_at m 1
    (λ f. eqb f.server v) records ∷ x.wait_ticks ∷ x.longest ∷ []

abbrev queue_three : BlockModel → List Logged → ℕ → Queue → List ℕ
queue_three m records q x = records_at m 0 (λ f. eqb f.queue q) records ∷ x.content_ticks ∷ x.longest ∷ []

servers-rows : (m : BlockModel) (records : List Logged) (l : List Server) →
    server_numbers m records 1 l ≡ rows_to (length l) (λ i. server_five m records (1 + i) (get_or l i (idle_server 0)))
servers-rows m records l =
    rows-list (server_five m records) (server_numbers m records) (idle_server 0) (λ v. unfold server_numbers in refl)
    (λ v x l. unfold server_numbers in refl) l 1

queues-rows : (m : BlockModel) (records : List Logged) (l : List Queue) →
    queue_numbers m records 1 l ≡ rows_to (length l) (λ i. queue_three m records (1 + i) (get_or l i empty_queue))
queues-rows m records l =
    rows-list (queue_three m records) (queue_numbers m records) empty_queue (λ v. unfold queue_numbers in refl)
    (λ v x l. unfold queue_numbers in refl) l 1

-- ---- All

module _ (m : BlockModel) (tape : List (List ℕ)) (tape_bytes tables lists : List ℕ) (room : ℕ) (r : Rows) (s : State)
    (proper : Proper m tape)
    (represents : Represents m tape tape_bytes tables lists) (sane : Sane m s) (sound : Sound m tape s) (traced : Traced m room s)
    (stands : Stands tape_bytes r s.moving s) where
  entries : (b : ℕ) → b < length m.blocks → get_or r.tally (Layout.entries + b) 0 ≡ at_block 0 (suc b) s.records
  entries b h =
      stands.tallying.entries b (omega (arith, proper.blocks.1))
      ∙ ap (λ i. get_or s.view.entries i 0) (omega arith)
      ∙ traced.entries (suc b) (omega arith, omega arith)

  few : length s.records ≤ 100000001
  few = omega (arith, traced.number, sane.turns)

  blocks-all : min (length m.blocks) 256 ≡ length m.blocks
  blocks-all = omega (arith, proper.blocks.1)

  server-row : (v : ℕ) → v < 64 → server_row tables r.tally s.view.clock (min (length m.blocks) 256) v
      ≡ server_five m s.records (1 + v) (get_or s.view.servers v (idle_server 0))
  unfolding server_row
  server-row v h =
      let next : suc v ≡ 1 + v = omega arith in
      rw (
        blocks-all,
        ← next,
        total-records m 0 (λ f. eqb f.server (suc v)) s.records tables r.tally 4 6 19 v Layout.entries
            (takes-server m tape tape_bytes tables lists proper represents v) entries traced.records few,
        total-records m 1 (λ f. eqb f.server (suc v)) s.records tables r.tally 4 6 19 v Layout.waits
            (takes-server m tape tape_bytes tables lists proper represents v)
            (λ b h. stands.tallying.waits b (omega (arith, proper.blocks.1))) traced.records few,
        stands.tallying.servers.unit-ticks v h,
        stands.tallying.servers.wait-ticks v h,
        stands.tallying.servers.longest v h,
      )

  queue-row : (q : ℕ) → q < 32 → queue_row tables r.tally s.view.clock (min (length m.blocks) 256) q
      ≡ queue_three m s.records (1 + q) (get_or s.view.queues q empty_queue)
  unfolding queue_row
  queue-row q h =
      let next : suc q ≡ 1 + q = omega arith in
      rw (
        blocks-all,
        ← next,
        total-records m 0 (λ f. eqb f.queue (suc q)) s.records tables r.tally 15 15 15 q Layout.entries
            (fills-queue m tape tape_bytes tables lists proper represents q) entries traced.records few,
        stands.tallying.queues.content-ticks q h,
        stands.tallying.queues.longest q h,
      )

  servers-all : rows_to (min m.facilities 32 + min (length m.capacities) 32)
      (server_row tables r.tally s.view.clock (min (length m.blocks) 256))
      ≡ server_numbers m s.records 1 s.view.servers
  servers-all =
      let n : min m.facilities 32 + min (length m.capacities) 32 ≡ length s.view.servers =
      omega (arith, servers-length m tape s proper sane sound, proper.facilities, proper.storages) in
      ap (λ k. rows_to k (server_row tables r.tally s.view.clock (min (length m.blocks) 256))) n
      ∙ rows_same (length s.view.servers) _ _
      (λ i b. server-row i (omega (arith, servers-length m tape s proper sane sound, proper.facilities, proper.storages)))
      ∙ sym (servers-rows m s.records s.view.servers)

  queues-all : rows_to (min m.queues 32) (queue_row tables r.tally s.view.clock (min (length m.blocks) 256))
      ≡ queue_numbers m s.records 1 s.view.queues
  queues-all =
      let n : min m.queues 32 ≡ length s.view.queues = omega (arith, sane.shape.queue-length, proper.queues) in
      ap (λ k. rows_to k (queue_row tables r.tally s.view.clock (min (length m.blocks) 256))) n
      ∙ rows_same (length s.view.queues) _ _ (λ i b. queue-row i (omega (arith, sane.shape.queue-length, proper.queues)))
      ∙ sym (queues-rows m s.records s.view.queues)

  living-all : living_numbers r.work r.scalars.moving ≡ length (places s) ∷ place_numbers (by_number (places s))
  living-all =
      living-numbers r.work r.scalars.moving s stands.listing
      (omega (arith, sane.shape.ql-length, proper.facilities, proper.storages))
      (omega (arith, sane.shape.wel-length, proper.facilities, proper.storages))
      (omega (arith, sane.shape.gatherer-length, proper.blocks))
      (each_map (λ i (n : Names m.facilities i.facility). (n.0, omega (arith, n.1, proper.facilities))) s.interrupted
      sane.interrupted)
      (stands-at-most-once m tape s sound)

  -- the numbers over rows are the machine's report
  pub report-numbers : row_numbers (header_of m) tables r.tally r.work r.scalars ≡ report_numbers m s
  unfolding row_numbers header_of report_numbers
  report-numbers =
      rw (stands.counting.clock, stands.counting.made, stands.counting.ended, servers-all, queues-all, living-all, append_assoc)

  -- the report buffer after the run, and how many bytes of it are the report
  pub report-follows : (report : List ℕ) → 10240 ≤ length report →
      put_all (row_numbers (header_of m) tables r.tally r.work r.scalars) (written 0 report)
      ≡ written (length (report_bytes_lem m s)) (report_bytes_lem m s ++ drop (length (report_bytes_lem m s)) report)
  report-follows report h =
      ap (λ l. put_all l (written 0 report)) report-numbers ∙ go (report-fits m tape s proper sane sound)
    where
      go : length (report_bytes_lem m s) ≤ 10240 →
          put_all (report_numbers m s) (written 0 report) ≡ written (length (report_bytes_lem m s))
          (report_bytes_lem m s ++ drop (length (report_bytes_lem m s)) report)
      go b = unfold report_bytes_lem in written-from-start (report_numbers m s) report (omega arith)

  -- the same of what `write_report` leaves
  pub report-written : (n : ℕ) (report out : List ℕ) → 10240 ≤ length report
      → written n out ≡ put_all (row_numbers (header_of m) tables r.tally r.work r.scalars) (written 0 report)
      → (n ≡ length (report_bytes_lem m s)) × (out ≡ report_bytes_lem m s ++ drop (length (report_bytes_lem m s)) report)
  unfolding written
  report-written n report out h e =
      let same : written n out ≡ written (length (report_bytes_lem m s)) (report_bytes_lem m s ++ drop (length (report_bytes_lem m s)) report) = e
      ∙ report-follows report h in
      (ap (λ (w : Written). w.at) same, ap (λ (w : Written). w.bytes) same)
