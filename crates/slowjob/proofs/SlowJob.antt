-- Document 02, item 14: the k-th end of every run is that of the recurrence, so that one slow job delays no end by more than its own delay.
use Rattle.machine.specs.All.{ℕ, zero, suc, ◌<◌, ◌≡◌, refl, ap, subst₂, ◌∙◌, List, [], ◌∷◌, arith, ltb-true, ltb-false, length, get_or, length-append, get_or-append, get_or-append_seam, BlockModel, Rules, in_force, Record, run, accept, validate, records_of, accepted_run, outcome_of, outcome, subst, Bool, true, false, ltb, terminate, nth}
use Rattle.machine.proofs.Decoding.ProperFrom.{proper-from, rules-from}
use Rattle.trace.specs.Whole.{Reads}
use Rattle.trace.proofs.RoundTrip.{reads-once}
use Rattle.columns_laws.proofs.Runs.{run-taken}
use Rattle.slowjob.specs.{jobs, JobLine, ends, ends_of, Delayed, SlowJobBytes, SlowJobRead, leaves, EachEnd, raised}
use Rattle.slowjob.specs.SlowJob.{SlowJob}
use Rattle.slowjob.proofs.{Recurrence.leaves-late, Line.firsts, Turns.run_sound}
use Rattle.machine.proofs.Decoding.Proper.{Proper, ProperBlock}

-- ---- The first ends

module _ (arrivals services : List ℕ) where
  firsts-length : (n : ℕ) → length (firsts arrivals services n) ≡ n
  firsts-length zero = refl
  firsts-length (suc n) = omega (arith, length-append (firsts arrivals services n) (leaves arrivals services (suc n) ∷ []), firsts-length n)

  firsts_at : (n k : ℕ) → k < n → get_or (firsts arrivals services n) k 0 ≡ leaves arrivals services (suc k)
  firsts_at zero k lt = absurd (omega arith)
  firsts_at (suc n) k lt = go (ltb k n) refl (firsts_at n k)
    where
      go : (b : Bool) → ltb k n ≡ b → (k < n → get_or (firsts arrivals services n) k 0 ≡ leaves arrivals services (suc k))
          → get_or (firsts arrivals services (suc n)) k 0 ≡ leaves arrivals services (suc k)
      go true e h =
          get_or-append (firsts arrivals services n) (leaves arrivals services (suc n) ∷ []) 0 k
          (omega (arith, firsts-length n, ltb-true k n e)) ∙ h (ltb-true k n e)
      go false e h =
          let last : k ≡ length (firsts arrivals services n) = omega (arith, firsts-length n, ltb-false k n e) in
          let same : n ≡ k = omega (arith, firsts-length n) in
          ap (λ i. get_or (firsts arrivals services (suc n)) i 0) last
          ∙ get_or-append_seam (firsts arrivals services n) (leaves arrivals services (suc n)) [] 0
          ∙ ap (λ i. leaves arrivals services (suc i)) same

-- ---- Each end

-- the ends of a run are the first ones, as many as it comes to
run_ends : (m : BlockModel) (others : List (List ℕ)) → JobLine m others → (arrivals services : List ℕ) (budget room : ℕ)
    → (n : ℕ) × (ends_of m (arrivals ∷ services ∷ others) budget room ≡ firsts arrivals services n)
unfolding records_of
run_ends m others line arrivals services budget room =
    let h = (run_sound m arrivals services others line budget room).line in
    (h.gone.ended, h.gone.finished)

pub each-end : EachEnd
each-end m others line arrivals services budget room k lt =
    let x = run_ends m others line arrivals services budget room in
    ap (λ l. get_or l k 0) x.1
    ∙ firsts_at arrivals services x.0 k (omega (arith, ap length x.1, firsts-length arrivals services x.0))

-- ---- One slow job

pub slow_job : SlowJob
slow_job m others line arrivals services i d budget room budget' room' k lt lt' =
    let late = leaves-late arrivals services i d (suc k) in
    let before = each-end m others line arrivals services budget room k lt in
    let after = each-end m others line arrivals (raised i d services) budget' room' k lt' in
    record { no-earlier = omega (arith, before, after, late); at_most = omega (arith, before, after, late) }

-- ---- From bytes

-- an accepted model with these blocks has its facility, and an accepted tape its lists
accepted-line : (rules : Rules) (model tape : List ℕ) (work report : ℕ) (m : BlockModel) (arrivals services : List ℕ)
    (others : List (List ℕ))
    → validate rules model tape work report ≡ accept m (arrivals ∷ services ∷ others) → m.blocks ≡ jobs → JobLine m others
accepted-line rules model tape work report m arrivals services others ok program =
    let proper : Proper m (arrivals ∷ services ∷ others) = proper-from rules model tape work report ok in
    record {
      program = program;
      facility = (subst (λ l. ProperBlock m (nth l 2 (terminate 0))) program (proper.block 2)).1;
      lists = omega (arith, proper.tapes);
    }

pub slow_job-bytes : SlowJobBytes
unfolding outcome outcome_of accepted_run
slow_job-bytes rules model tape tape' work report work' report' m arrivals services others i d ok ok' program budget room budget' room' =
    record {
      records = records_of (run m (arrivals ∷ services ∷ others) budget room);
      bytes = ap (λ v. (outcome_of budget room v).trace) ok;
      records' = records_of (run m (arrivals ∷ raised i d services ∷ others) budget' room');
      bytes' = ap (λ v. (outcome_of budget' room' v).trace) ok';
      delayed =
          slow_job m others
          (accepted-line rules model tape work report m arrivals services others ok program) arrivals services i d budget room budget'
          room';
    }

-- ---- From what the reader takes

-- the reader takes from the trace of an accepted run its records and no others
read-records : (model tape : List ℕ) (work report : ℕ) (m : BlockModel) (times : List (List ℕ))
    → validate in_force model tape work report ≡ accept m times
    → (budget room : ℕ) (l : List Record) → Reads (outcome in_force model tape budget work room report).trace 0 l
    → records_of (run m times budget room) ≡ l
unfolding outcome outcome_of accepted_run
read-records model tape work report m times ok budget room l reads =
    reads-once (run-taken (proper-from in_force model tape work report ok) (rules-from in_force model tape work report ok) budget room).whole
    (subst (λ v. Reads (outcome_of budget room v).trace 0 l) ok reads)

pub slow_job-read : SlowJobRead
slow_job-read model tape tape' work report work' report' m arrivals services others i d ok ok' program budget room budget' room' l l' reads
    reads' =
    subst₂ (λ x y. Delayed d (ends m x) (ends m y)) (read-records model tape work report m _ ok budget room l reads)
    (read-records model tape' work' report' m _ ok' budget' room' l' reads')
    (slow_job m others
    (accepted-line in_force model tape work report m arrivals services others ok program) arrivals services i d budget room budget' room')
