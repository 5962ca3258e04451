-- The trace of a state of a run reads back to its records and then "no more", and written again they are the same bytes.
use Rattle.machine.specs.All.{ℕ, List, [], ◌∷◌, ◌++◌, Record, trace_bytes_lem, BlockModel, State, Logged, records_of, Each, InModel, sym, ap, subst}
use Rattle.trace.proofs.RoundTrip.{trace-reads-whole, reads-once}
use Rattle.state.proofs.{Written.Traced, Written.in_order_lem, Written.in-order-cons, Tallied.traced-ranges}
use Rattle.engine_laws.specs.{ReadsBack}
use Rattle.trace.specs.Whole.{Reads}

each-end : (P : Record → Type 0) (k : List Record) (r : Record) → Each P k → P r → Each P (k ++ (r ∷ []))
each-end P [] r h e = (e, tt)
each-end P (x ∷ k) r h e = (h.0, each-end P k r h.1 e)

in_order : (m : BlockModel) (l : List Logged) → Each (λ (r : Logged). InModel m r.entry) l → Each (InModel m) (in_order_lem l)
in_order m [] h = tt
in_order m (r ∷ l) h =
    subst (Each (InModel m)) (sym (in-order-cons r l)) (each-end (InModel m) (in_order_lem l) r.entry (in_order m l h.1) h.0)

-- the trace's bytes are read back as the records, all of them, and written again as the same bytes
pub reads-back : {m : BlockModel} {room : ℕ} (s : State) → Traced m room s → ReadsBack m (trace_bytes_lem (records_of s)) (records_of s)
unfolding records_of
reads-back {m} s h =
    let whole : Reads (trace_bytes_lem (records_of s)) 0 (records_of s) = trace-reads-whole (records_of s) (traced-ranges s h) in
    record {
      in-model = in_order m s.records h.records;
      reads = whole;
      written-again = λ l other. ap trace_bytes_lem (reads-once other whole);
    }
