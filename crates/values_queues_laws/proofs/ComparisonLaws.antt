-- WAITIF and IF on a comparison, GOTO and LET leave what the machine's do.
use Rattle.machine.specs.All.{ℕ, suc, ◌+◌, ◌-◌, ◌≤◌, ◌≡◌, refl, ◌∙◌, Bool, true, false, cond, List, none, some, arith, lt-ltb, length, get_or, set, Transaction, precedes, Term, Relation, evaluate, compare, truth, Block, wait_terms, branch, goto, assign, BlockModel, block_at, State, with_parameters, set_moving, question}
use lib.IntN.{ℤ}
use mir.Syntax.{w32}
use mir.Val.{to_z}
use Rattle.machine.specs.Moves as Moves
use Rattle.layout.specs.All.{block_forms}
use Rattle.rows_laws.specs.All.{wsl, parameter_field, write, Sorted}
use Rattle.rows_laws.proofs.Buffer.FieldWrites.{write-parameter}
use Rattle.evaluation.specs.{Evaluation.compare_at, Sees.parameters_of, Sees.Sees}
use Rattle.evaluation.proofs.{Signs.signed_low, Laws.let_law, Laws.if_law}
use Rattle.state.specs.declared.scalars.Scalars.{Scalars}
use Rattle.state.specs.All.{lists_in, Listing, Done, entering, waiting, bare, bare_answer}
use Rattle.state.proofs.StandsLaws.{listing-write}
use Rattle.moves.proofs.Before.{place_of, bare_block, Before}
use Rattle.moves.specs.Motion.{with_tally, go_to, go_on_lem, wait_on}
use Rattle.moves.proofs.BeforeLaws.{inside, next_low, serial-low, proper-block, operand}
use Rattle.moves.proofs.MotionLaws.{go-to-done, go-on-done, puts-wsl, wait-on-done}
use Rattle.values_queues_laws.specs.{parameters_at, holds_at, worth_at, set_parameter, held_at, wait_terms_rows, branch_rows, assign_rows, goto_rows}
use Rattle.values_queues_laws.proofs.{Sees.sane-low, Sees.sees, Sharing.sides_law, Parameters.signed_to_z, Parameters.parameters_are, Parameters.evaluate-small, Operands.assign-term, Operands.branch-target}

module _ {m : BlockModel} {tape : List (List ℕ)} {tape_bytes tables lists w tally : List ℕ} {x : Scalars} {t : Transaction} {s : State}
    {block : Block}
    (h : Before m tape tape_bytes tables lists w tally x t s block) where
  abbrev s₀ : State
  s₀ = set_moving none s

  seen : Sees s.view tables tally x.clock
  seen = sees (sane-low h.sane) x h.proper h.rep h.tallying h.counting

  own : parameters_of (parameters_at w x.moving) ≡ t.parameters
  own = cc (parameters_are w x.moving, h.listing.mover.1)

  holds-is : (a : Term) (o : Relation) (b : Term)
      → compare_at tables tally (length m.values) x.clock (parameters_at w x.moving) (place_of t + 1)
      ≡ compare m.values s.view (parameters_of (parameters_at w x.moving)) a o b
      → holds_at tables (length m.values) w tally x.clock x.moving (place_of t) ≡ compare m.values s.view t.parameters a o b
  unfolding holds_at
  holds-is a o b e = cc (e, own)

  held-is : (a : Term) (o : Relation) (b : Term) → block_at m t.next ≡ wait_terms a o b
      → held_at tables (length m.values) w tally x.clock x.moving (place_of t) ≡ compare m.values s.view t.parameters a o b
  unfolding held_at
  held-is a o b e = cc (sides_law h.rep h.nested seen w x.moving _ (inside h) a o b e, h.listing.mover.1)

  go_on : Done tape_bytes (with_tally (go_on_lem w x) tally) (entering (Moves.go_on_lem t s₀))
  go_on = go-on-done x s₀ h.listing h.tallying h.counting (next_low h)

  go-to : (block : ℕ) → Done tape_bytes (with_tally (go_to w x block) tally) (entering (Moves.move_to block t s₀))
  go-to = go-to-done x s₀ h.listing h.tallying h.counting

  sorted : Sorted precedes s.wsl
  unfolding lists_in
  sorted = h.listing.shows.ordered.lists wsl (omega arith)

  wait-on : Done tape_bytes (with_tally (wait_on w x wsl 1) tally) (waiting Moves.to_wsl t s₀)
  unfolding Moves.to_wsl
  wait-on =
      wait-on-done x s₀ h.listing h.counting 1 wsl (omega arith) Moves.to_wsl refl (serial-low h) (puts-wsl s₀ sorted)
      (puts-wsl _ sorted) h.tallying h.tallying

module _ {m : BlockModel} {tape : List (List ℕ)} {tape_bytes tables lists w tally : List ℕ} {x : Scalars} {t : Transaction} {s : State} where
  -- ---- 9 WAITIF

  pub wait-terms-done : {a : Term} {o : Relation} {b : Term} → Before m tape tape_bytes tables lists w tally x t s (wait_terms a o b)
      → Done tape_bytes (with_tally (wait_terms_rows tables (length m.values) w tally x (place_of t)) tally)
      (bare_block m (wait_terms a o b) t s)
  unfolding wait_terms_rows question bare_answer bare
  wait-terms-done {a} {o} {b} h =
      rw (held-is h a o b h.is) (go (compare _ _ _ a o b))
    where
      go : (c : Bool)
          → Done tape_bytes (with_tally (cond c (wait_on w x wsl 1) (go_on_lem w x)) tally)
          (cond c (waiting Moves.to_wsl t (set_moving none s)) (entering (Moves.go_on_lem t (set_moving none s))))
      go true = wait-on h
      go false = go_on h

  -- ---- 10 IF

  pub branch-done : {a : Term} {o : Relation} {b : Term} {target : ℕ}
      → Before m tape tape_bytes tables lists w tally x t s (branch a o b target)
      → Done tape_bytes (with_tally (branch_rows tables (length m.values) w tally x (place_of t)) tally)
      (bare_block m (branch a o b target) t s)
  unfolding branch_rows question bare_answer bare truth
  branch-done {a} {o} {b} {target} h =
      rw (
        holds-is h a o b (if_law h.rep h.nested (seen h) _ _ (inside h) a o b target h.is),
        branch-target h.rep _ (inside h) h.nested a o b target h.is,
      )
      (go (compare _ _ _ a o b))
    where
      go : (c : Bool)
          → Done tape_bytes (with_tally (cond c (go_to w x target) (go_on_lem w x)) tally)
          (entering (Moves.move_to (cond c target (suc t.next)) t (set_moving none s)))
      go true = go-to h target
      go false = go_on h

  -- ---- 11 GOTO

  pub goto-done : {target : ℕ} → Before m tape tape_bytes tables lists w tally x t s (goto target)
      → Done tape_bytes (with_tally (goto_rows tables w x (place_of t)) tally) (bare_block m (goto target) t s)
  unfolding goto_rows question bare_answer bare truth block_forms
  goto-done {target} h = rw (operand h 1 (omega arith)) (go-to h target)

-- ---- 12 LET

module _ {m : BlockModel} {tape : List (List ℕ)} {tape_bytes tables lists w tally : List ℕ} {x : Scalars} {t : Transaction} {s : State}
    {k : ℕ} {a : Term} (h : Before m tape tape_bytes tables lists w tally x t s (assign k a)) where
  abbrev z : ℤ
  z = evaluate m.values s.view t.parameters a

  abbrev t' : Transaction
  t' = with_parameters (set t.parameters (k - 1) z) t

  abbrev worth : ℕ
  worth = worth_at tables (length m.values) w tally x.clock x.moving (place_of t)

  -- the stored bits stand for what the term is worth
  stored : to_z w32 worth ≡ z
  unfolding worth_at
  stored =
      let p = parameters_at w x.moving in
      let ok = assign-term h.rep _ (inside h) h.nested k a h.is in
      rw (
        ← signed_to_z _,
        let_law h.rep h.nested (seen h) p (t.next - 1) (inside h) k a h.is,
        signed_low _ (evaluate-small (seen h) p m.values a ok.0 ok.1),
        own h,
      )

  named : (1 ≤ k) × (k ≤ 4)
  named = proper-block h

  written : set_parameter w x.moving (get_or tables (place_of t + 1) 0) worth ≡ write w (parameter_field + (k - 1)) x.moving worth
  unfolding set_parameter block_forms
  written = rw (operand h 1 (omega arith), lt-ltb (k - 1) 4 (omega (arith, named.1)))

  listing : Listing (write w (parameter_field + (k - 1)) x.moving worth) x.moving (some t') s
  listing =
      listing-write h.listing _ worth (omega (arith, named.1))
      (write-parameter w _ h.listing.shows.shown.holds.room h.listing.mover.0.row _ worth (omega (arith, named.1))
      ∙ rw (stored, h.listing.mover.1))

  pub assign-done : Done tape_bytes (with_tally (assign_rows tables (length m.values) w tally x (place_of t)) tally)
      (bare_block m (assign k a) t s)
  unfolding assign_rows question bare_answer bare
  assign-done = rw written (go-on-done x _ listing h.tallying h.counting (next_low h))
