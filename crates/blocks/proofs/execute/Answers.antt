-- `execute` meets its contract: each kind by its function, anything else by nothing.
use Rattle.machine.specs.All.{arith, sym, ◌∙◌, ℕ, List, ◌≡◌, refl, ne_eqb, rules}
use Rattle.state.specs.{declared.scalars.Scalars.Scalars, All.rows_of}
use Rattle.moves.proofs.MotionLaws.{tallied}
use Rattle.blocks.specs.{later, by_kind, execute}
use Rattle.constants.specs.declared.kinds.Kind.TheVariants.{Generate, Advance, Terminate, Seize, Release, Enter, Leave, WaitServer, WaitTerms, Branch, Goto, Assign, Priority, Split, Arrive, Depart, JoinedWait, Assemble, Preempt, Return}
use Rattle.blocks.proofs.execute.Goals as goal

module _ (tables : List ℕ) (values facilities : ℕ) (tape w tally : List ℕ) (x : Scalars) (at kind : ℕ) where
  none-later : (kind ≡ 9 → ⊥) → (kind ≡ 10 → ⊥) → (kind ≡ 11 → ⊥) → (kind ≡ 12 → ⊥) → (kind ≡ 13 → ⊥) → (kind ≡ 14 → ⊥) → (kind ≡ 15 → ⊥) → (kind ≡ 16 → ⊥)
      → (kind ≡ 17 → ⊥) → (kind ≡ 18 → ⊥) → (kind ≡ 19 → ⊥) → (kind ≡ 20 → ⊥) → later tables values facilities tape w tally x at kind ≡ rows_of x w tally
  unfolding later
  none-later h9 h10 h11 h12 h13 h14 h15 h16 h17 h18 h19 h20 =
      rw (ne_eqb, ne_eqb, ne_eqb, ne_eqb, ne_eqb, ne_eqb, ne_eqb, ne_eqb, ne_eqb, ne_eqb, ne_eqb, ne_eqb)

  none_first : (kind ≡ 1 → ⊥) → (kind ≡ 2 → ⊥) → (kind ≡ 3 → ⊥) → (kind ≡ 4 → ⊥) → (kind ≡ 5 → ⊥) → (kind ≡ 6 → ⊥) → (kind ≡ 7 → ⊥) → (kind ≡ 8 → ⊥)
      → by_kind tables values facilities tape w tally x at kind ≡ later tables values facilities tape w tally x at kind
  unfolding by_kind
  none_first h1 h2 h3 h4 h5 h6 h7 h8 = rw (ne_eqb, ne_eqb, ne_eqb, ne_eqb, ne_eqb, ne_eqb, ne_eqb, ne_eqb)

pub returns-in_default : goal.returns-in_default
unfolding execute
returns-in_default c =
    let no = c.in_default.ensures in
    rw (
      c.scalars.ensures.same,
      ← c.number.ensures,
      none_first _ _ _ _ _ _ _ _ _ (λ e. no Generate (sym e)) (λ e. no Advance (sym e)) (λ e. no Terminate (sym e)) (λ e. no Seize (sym e)) (λ e. no Release (sym e)) (λ e. no Enter (sym e)) (λ e. no Leave (sym e)) (λ e. no WaitServer (sym e)),
    )
    (sym (none-later _ _ _ _ _ _ _ _ _ (λ e. no WaitTerms (sym e)) (λ e. no Branch (sym e)) (λ e. no Goto (sym e)) (λ e. no Assign (sym e)) (λ e. no Priority (sym e)) (λ e. no Split (sym e)) (λ e. no Arrive (sym e)) (λ e. no Depart (sym e)) (λ e. no JoinedWait (sym e)) (λ e. no Assemble (sym e)) (λ e. no Preempt (sym e)) (λ e. no Return (sym e))))

pub returns-in-Generate : goal.returns-in-Generate
unfolding execute by_kind
returns-in-Generate c =
    rw (c.by_fields.ensures, ← c.number.ensures, ← (rw c.in-Generate.is at c.in-Some.ensures), ← c.afresh.ensures) c.generate.ensures

pub returns-in-Advance : goal.returns-in-Advance
unfolding execute by_kind
returns-in-Advance c =
    rw (c.by_fields-in-Advance.ensures, ← c.number.ensures, ← (rw c.in-Advance.is at c.in-Some.ensures), ← c.afresh-in-Advance.ensures) c.advance.ensures

pub returns-in-Terminate : goal.returns-in-Terminate
unfolding execute by_kind
returns-in-Terminate c =
    rw (c.by_fields-in-Terminate.ensures, ← c.number.ensures, ← (rw c.in-Terminate.is at c.in-Some.ensures), ← c.afresh-in-Terminate.ensures) (tallied _ _ _ _ _ c.terminate.ensures refl)

pub returns-in-Seize : goal.returns-in-Seize
unfolding execute by_kind
returns-in-Seize c =
    rw (c.by_fields-in-Seize.ensures, ← c.number.ensures, ← (rw c.in-Seize.is at c.in-Some.ensures), ← c.afresh-in-Seize.ensures) c.seize.ensures

pub returns-in-Release : goal.returns-in-Release
unfolding execute by_kind
returns-in-Release c =
    rw (c.by_fields-in-Release.ensures, ← c.number.ensures, ← (rw c.in-Release.is at c.in-Some.ensures), ← c.afresh-in-Release.ensures) c.release.ensures

pub returns-in-Enter : goal.returns-in-Enter
unfolding execute by_kind
returns-in-Enter c =
    rw (c.by_fields-in-Enter.ensures, ← c.number.ensures, ← (rw c.in-Enter.is at c.in-Some.ensures), ← c.afresh-in-Enter.ensures) c.enter.ensures

pub returns-in-Leave : goal.returns-in-Leave
unfolding execute by_kind
returns-in-Leave c =
    rw (c.by_fields-in-Leave.ensures, ← c.number.ensures, ← (rw c.in-Leave.is at c.in-Some.ensures), ← c.afresh-in-Leave.ensures) c.leave.ensures

pub returns-in-WaitServer : goal.returns-in-WaitServer
unfolding execute by_kind
returns-in-WaitServer c =
    rw (c.by_fields-in-WaitServer.ensures, ← c.number.ensures, ← (rw c.in-WaitServer.is at c.in-Some.ensures), ← c.afresh-in-WaitServer.ensures) (tallied _ _ _ _ _ c.wait_server.ensures refl)

pub returns-in-WaitTerms : goal.returns-in-WaitTerms
unfolding execute by_kind later
returns-in-WaitTerms c =
    rw (c.by_fields-in-WaitTerms.ensures, ← c.number.ensures, ← (rw c.in-WaitTerms.is at c.in-Some.ensures), ← c.afresh-in-WaitTerms.ensures) (tallied _ _ _ _ _ c.wait_terms.ensures refl)

pub returns-in-Branch : goal.returns-in-Branch
unfolding execute by_kind later
returns-in-Branch c =
    rw (c.by_fields-in-Branch.ensures, ← c.number.ensures, ← (rw c.in-Branch.is at c.in-Some.ensures), ← c.afresh-in-Branch.ensures) (tallied _ _ _ _ _ c.branch-tables.ensures refl)

pub returns-in-Goto : goal.returns-in-Goto
unfolding execute by_kind later
returns-in-Goto c =
    rw (c.by_fields-in-Goto.ensures, ← c.number.ensures, ← (rw c.in-Goto.is at c.in-Some.ensures), ← c.afresh-in-Goto.ensures) (tallied _ _ _ _ _ c.goto.ensures refl)

pub returns-in-Assign : goal.returns-in-Assign
unfolding execute by_kind later
returns-in-Assign c =
    rw (c.by_fields-in-Assign.ensures, ← c.number.ensures, ← (rw c.in-Assign.is at c.in-Some.ensures), ← c.afresh-in-Assign.ensures) (tallied _ _ _ _ _ c.assign.ensures refl)

pub returns-in-Priority : goal.returns-in-Priority
unfolding execute by_kind later
returns-in-Priority c =
    rw (c.by_fields-in-Priority.ensures, ← c.number.ensures, ← (rw c.in-Priority.is at c.in-Some.ensures), ← c.afresh-in-Priority.ensures) (tallied _ _ _ _ _ c.priority.ensures refl)

pub returns-in-Split : goal.returns-in-Split
unfolding execute by_kind later
returns-in-Split c =
    rw (c.by_fields-in-Split.ensures, ← c.number.ensures, ← (rw c.in-Split.is at c.in-Some.ensures), ← c.afresh-in-Split.ensures) (tallied _ _ _ _ _ c.split.ensures refl)

pub returns-in-Arrive : goal.returns-in-Arrive
unfolding execute by_kind later
returns-in-Arrive c =
    rw (c.by_fields-in-Arrive.ensures, ← c.number.ensures, ← (rw c.in-Arrive.is at c.in-Some.ensures), ← c.afresh-in-Arrive.ensures) c.arrive.ensures

pub returns-in-Depart : goal.returns-in-Depart
unfolding execute by_kind later
returns-in-Depart c =
    rw (c.by_fields-in-Depart.ensures, ← c.number.ensures, ← (rw c.in-Depart.is at c.in-Some.ensures), ← c.afresh-in-Depart.ensures) c.depart.ensures

pub returns-in-JoinedWait : goal.returns-in-JoinedWait
unfolding execute by_kind later
returns-in-JoinedWait c =
    rw (c.by_fields-in-JoinedWait.ensures, ← c.number.ensures, ← (rw c.in-JoinedWait.is at c.in-Some.ensures), ← c.afresh-in-JoinedWait.ensures) (tallied _ _ _ _ _ c.wait_server-in-JoinedWait.ensures refl)

pub returns-in-Assemble : goal.returns-in-Assemble
unfolding execute by_kind later
returns-in-Assemble c =
    rw (c.by_fields-in-Assemble.ensures, ← c.number.ensures, ← (rw c.in-Assemble.is at c.in-Some.ensures), ← c.afresh-in-Assemble.ensures) (tallied _ _ _ _ _ c.assemble.ensures refl)

pub returns-in-Preempt : goal.returns-in-Preempt
unfolding execute by_kind later
returns-in-Preempt c =
    rw (c.by_fields-in-Preempt.ensures, ← c.number.ensures, ← (rw c.in-Preempt.is at c.in-Some.ensures), ← c.afresh-in-Preempt.ensures) c.preempt.ensures

pub returns-in-Return : goal.returns-in-Return
unfolding execute by_kind later
returns-in-Return c =
    rw (c.by_fields-in-Return.ensures, ← c.number.ensures, ← (rw c.in-Return.is at c.in-Some.ensures), ← c.afresh-in-Return.ensures) c.give_back.ensures
