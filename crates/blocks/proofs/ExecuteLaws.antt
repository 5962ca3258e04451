-- One block over the rows leaves what the machine's block does, apart from its record.
use Rattle.machine.specs.All.{ℕ, zero, suc, ◌-◌, ◌≡◌, refl, subst, List, ◌∷◌, length, Transaction, always, when_true, Block, generate, advance, terminate, wait_server, wait_terms, assign, priority, split, BlockModel, facility, storage, up, down, takes, frees, moves, counts, assemble, preempt, give_back, State, Change}
use Rattle.layout.specs.All.{block_forms, block_numbers}
use Rattle.evaluation.proofs.Found.{at_first}
use Rattle.state.specs.{declared.scalars.Scalars.Scalars, All.Done}
use Rattle.moves.proofs.{Before.place_of, Before.bare_block, Before.Before, BeforeLaws.inside}
use Rattle.flow_laws.proofs.{GenerateLaw.generate-done, AdvanceLaw.advance-done, TerminateLaw.terminate-done, PriorityLaw.priority-done, SplitLaw.split_done, GatherLaw.assemble-done}
use Rattle.servers_laws.proofs.{TakingLaws.seize-done, TakingLaws.enter-done, FreeingLaws.release-done, FreeingLaws.leave-done, WaitingLaws.wait-server-done}
use Rattle.preempt_laws.proofs.PreemptLaws.{preempt-done, give-back-done}
use Rattle.values_queues_laws.proofs.{Operands.numbers, QueueLaws.arrive-done, QueueLaws.depart-done}
use Rattle.values_queues_laws.proofs.ComparisonLaws.{wait-terms-done, branch-done, goto-done, assign-done}
use Rattle.blocks.specs.Execute as Rows

module _ {m : BlockModel} {tape : List (List ℕ)} {tape_bytes tables lists w tally : List ℕ} {x : Scalars} {t : Transaction} {s : State} where
  -- by its number in the tables
  by : {b : Block} (n : ℕ) (rest : List ℕ) → Before m tape tape_bytes tables lists w tally x t s b → block_numbers b ≡ n ∷ rest
      → Done tape_bytes (Rows.by_kind tables (length m.values) m.facilities tape_bytes w tally x (place_of t) n) (bare_block m b t s)
      → Done tape_bytes (Rows.execute tables (length m.values) m.facilities tape_bytes w tally x (place_of t)) (bare_block m b t s)
  unfolding Rows.execute
  by {b} n rest h e =
      subst (λ (k : ℕ). Done tape_bytes (Rows.by_kind tables (length m.values) m.facilities tape_bytes w tally x (place_of t) k) (bare_block m b t s))
      (at_first tables _ n rest (rw e at (numbers h.rep (t.next - 1) (inside h) b h.is))).found

  queued : {q : ℕ} (d : Change) → Before m tape tape_bytes tables lists w tally x t s (counts d q) → Done tape_bytes (Rows.execute tables (length m.values) m.facilities tape_bytes w tally x (place_of t)) (bare_block m (counts d q) t s)
  unfolding Rows.by_kind Rows.later block_forms
  queued up h = by 15 _ h refl (arrive-done h)
  queued down h = by 16 _ h refl (depart-done h)

  pub execute-done : (b : Block) → Before m tape tape_bytes tables lists w tally x t s b → Done tape_bytes (Rows.execute tables (length m.values) m.facilities tape_bytes w tally x (place_of t)) (bare_block m b t s)
  unfolding Rows.by_kind Rows.later block_forms
  execute-done (generate list p) h = by 1 _ h refl (generate-done h)
  execute-done (advance list) h = by 2 _ h refl (advance-done h)
  execute-done (terminate a) h = by 3 _ h refl (terminate-done h)
  execute-done (takes (facility v)) h = by 4 _ h refl (seize-done h)
  execute-done (frees (facility v)) h = by 5 _ h refl (release-done h)
  execute-done (takes (storage v n)) h = by 6 _ h refl (enter-done h)
  execute-done (frees (storage v n)) h = by 7 _ h refl (leave-done h)
  execute-done (wait_server code v zero) h = by 8 _ h refl (wait-server-done h)
  execute-done (wait_terms a o b) h = by 9 _ h refl (wait-terms-done h)
  execute-done (moves (when_true a o b) target) h = by 10 _ h refl (branch-done h)
  execute-done (moves always target) h = by 11 _ h refl (goto-done h)
  execute-done (assign k a) h = by 12 _ h refl (assign-done h)
  execute-done (priority p) h = by 13 _ h refl (priority-done h)
  execute-done (split n target) h = by 14 _ h refl (split_done h)
  execute-done (counts d q) h = queued d h
  execute-done (wait_server code v (suc c)) h = by 17 _ h refl (wait-server-done h)
  execute-done (assemble n) h = by 18 _ h refl (assemble-done h)
  execute-done (preempt v) h = by 19 _ h refl (preempt-done h)
  execute-done (give_back v) h = by 20 _ h refl (give-back-done h)
