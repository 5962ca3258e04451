-- Document 02, item 9: in every state of every run over rows the first of REL, the FEL and each QL and WEL is kept (specs/Firsts).
use Rattle.machine.specs.All.{cases, ℕ, ◌+◌, ◌-◌, ◌<◌, ◌≡◌, List, [], ◌∷◌, ◌++◌, arith, ltb-true, ltb-false, ltb, length, get_or, replicate, in_force, precedes, BlockModel, State, start, states, steps, accept, validate}
use Rattle.machine.proofs.{Decoding.Proper.Proper, Decoding.ProperFrom.proper-from, NobodyAble.Waiting.Waits}
use Rattle.machine.proofs.Order.Serials.{Apart, apart-turn, apart-start, single-rel, single-ql, single-wel}
use Rattle.layout.specs.All.{tally_size, header_of, Represents}
use Rattle.rows_laws.specs.All.{wsl, rel, Strict}
use Rattle.rows_laws.proofs.{Order.StayInOrder.strict_of, KeptFirst.fel-first, KeptFirst.list-first, KeptFirst.list-head}
use Rattle.evaluation.proofs.NestedFrom.{nested-from}
use Rattle.state.specs.All.{lists_of}
use Rattle.state.proofs.{ListsOf.lists-ql, ListsOf.lists-wel, ListsOf.lists-rel, Written.Kept, Written.kept-start}
use Rattle.turn_laws.specs.Turn.{Traced, traced}
use Rattle.turn_laws.proofs.Runs.{Runs}
use Rattle.start.specs.Start.{start_rows}
use Rattle.engine_laws.specs.{end_of, close_rows, turn_rows, last_rows, Along, states_rows, KeepsFirsts}
use Rattle.engine_laws.specs.Firsts.{Firsts}
use Rattle.engine_laws.proofs.{StepLaws.Follows, StepLaws.passed-last, StepLaws.states_follow, Outcomes.rooms, Following.follows, Laws.started, Laws.turned}

-- ---- One state

-- with the serials told apart
record Good (m : BlockModel) (tape : List (List ℕ)) (room : ℕ) (s : State) : Type 0 where
  kept : Kept m tape room s
  apart : (f : ℕ → ℕ) → Apart f s

module _ (m : BlockModel) (s : State) (apart : (f : ℕ → ℕ) → Apart f s) (waits : Waits m s) where
  rel_strict : Strict precedes (lists_of s rel)
  rel_strict = rw (lists-rel s) (strict_of s.rel (single-rel s apart) waits.queued.rel-sorted)

  line_strict : m.edition ≡ 1 → (p : ℕ) → p < wsl → Strict precedes (lists_of s p)
  line_strict first p h =
      cases (ltb p 64)
      (λ e. rw (lists-ql s p (ltb-true p 64 e)) (strict_of _ (single-ql s apart p) (waits.queued.ql-sorted first p)))
      (λ e. let is : 64 + (p - 64) ≡ p = omega (arith, ltb-false p 64 e) in
      rw (← is) (rw (lists-wel s (p - 64) (omega arith))
      (strict_of (get_or s.wel (p - 64) []) (single-wel s apart (p - 64)) (waits.gated.wel-sorted first (p - 64)))))

firsts : (m : BlockModel) (times : List (List ℕ)) (tape trace : List ℕ) (a : Traced) (s : State) → Runs tape trace a s
    → Good m times (length trace) s → Firsts m a s
firsts m times tape trace a s h g =
    let shows = h.stands.listing.shows in
    let waits : Waits m s = g.kept.sure.sane.waits in
    record {
      rel-first = list-first a.rows.work (lists_of s) s.fel shows rel (omega arith) (rel_strict m s g.apart waits);
      fel-first = fel-first a.rows.work (lists_of s) s.fel shows;
      line_first =
          λ first p hp. list-first a.rows.work (lists_of s) s.fel shows p (omega arith) (line_strict m s g.apart waits first p hp);
      line-head = λ p hp. list-head a.rows.work (lists_of s) s.fel shows p (omega arith);
    }

-- ---- Every state

module _ (model tape : List ℕ) (budget : ℕ) (work trace report : List ℕ) (m : BlockModel) (times : List (List ℕ))
    (accepted : validate in_force model tape (length work) (length report) ≡ accept m times) (tables lists : List ℕ)
    (represents : Represents m times tape tables lists) where
  proper : Proper m times
  proper = proper-from in_force model tape (length work) (length report) accepted

  begins : Runs tape trace (traced (start_rows (header_of m) tables tape lists work (replicate tally_size 0)) trace) (start m times)
  begins =
      started proper represents (nested-from model tape (length work) (length report) accepted) trace work
      (rooms model tape (length work) (length report) m times accepted).0

  follows-apart : Follows m budget (length trace) (end_of budget (length trace)) (turn_rows (header_of m) tables tape) close_rows
      (Runs tape trace) (Good m times (length trace))
  follows-apart =
      let f = follows model tape budget work work trace report m times accepted tables lists represents begins
      (turned proper represents (nested-from model tape (length work) (length report) accepted) trace budget) in
      record {
        end = λ a s g h. f.end a s g.kept h;
        turns = λ a s t g h. f.turns a s t g.kept h;
        closes = f.closes;
        good_turn = λ s t g. record { kept = f.good_turn s t g.kept; apart = λ w. apart-turn w m s (g.apart w) };
        good-end = λ s e z g. record { kept = f.good-end s e z g.kept; apart = g.apart };
      }

  along : Along (Firsts m) (states_rows (header_of m) tables lists tape budget work trace) (states m times budget (length trace))
  unfolding states_rows states
  along =
      states_follow m budget (length trace) (end_of budget (length trace)) (turn_rows (header_of m) tables tape) close_rows (Runs tape trace)
      (Good m times (length trace)) follows-apart
      (Firsts m) (firsts m times tape trace) steps (traced (start_rows (header_of m) tables tape lists work (replicate tally_size 0)) trace)
      (start m times) begins
      (record { kept = kept-start proper represents.rules (length trace); apart = λ w. apart-start w m times })

  -- the last of these states is what the code leaves (crate engine, fn accepted)
  pub last_of-states : (front : List Traced)
      × (states_rows (header_of m) tables lists tape budget work trace
      ≡ front ++ (last_rows (header_of m) tables lists tape budget work trace ∷ []))
  unfolding states_rows last_rows
  last_of-states =
      passed-last (end_of budget (length trace)) (turn_rows (header_of m) tables tape) close_rows steps
      (traced (start_rows (header_of m) tables tape lists work (replicate tally_size 0)) trace)

pub firsts-kept : KeepsFirsts
firsts-kept = along
