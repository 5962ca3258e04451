-- `changed` meets its contract: each arm is its line of the definition.
use Rattle.machine.specs.All.{ℕ, ◌≡◌, refl, sym, cond, eqb, ne_eqb, inl, inr}
use Rattle.constants.specs.{declared.kinds.Kind.Kind, Numbers.kind_number}
use Rattle.constants.specs.declared.kinds.Kind.TheVariants.{Generate, Advance, Terminate, Seize, Release, Enter, Leave, WaitServer, WaitTerms, Branch, Goto, Assign, Priority, Split, Arrive, Depart, JoinedWait, Assemble, Preempt, Return}
use Rattle.watch.specs.{changed_cell}
use Rattle.watch.proofs.reads.changed.Goals as goal

-- the lines of the definition
abbrev line : (kind server queue own : ℕ) → ℕ
line kind server queue own =
    cond (eqb kind 4) server
    (cond (eqb kind 5) server
    (cond (eqb kind 6) server
    (cond (eqb kind 7) server
    (cond (eqb kind 15) queue (cond (eqb kind 16) queue (cond (eqb kind 19) server (cond (eqb kind 20) server own)))))))

-- a kind that changes neither a server nor a queue
others : (k : Kind) (server queue own : ℕ) → (k ≡ Seize → ⊥) → (k ≡ Release → ⊥) → (k ≡ Enter → ⊥) → (k ≡ Leave → ⊥) → (k ≡ Arrive → ⊥) → (k ≡ Depart → ⊥) → (k ≡ Preempt → ⊥) → (k ≡ Return → ⊥) → own ≡ line (kind_number k) server queue own
others Generate server queue own _ _ _ _ _ _ _ _ = refl
others Advance server queue own _ _ _ _ _ _ _ _ = refl
others Terminate server queue own _ _ _ _ _ _ _ _ = refl
others Seize server queue own h _ _ _ _ _ _ _ = absurd (h refl)
others Release server queue own _ h _ _ _ _ _ _ = absurd (h refl)
others Enter server queue own _ _ h _ _ _ _ _ = absurd (h refl)
others Leave server queue own _ _ _ h _ _ _ _ = absurd (h refl)
others WaitServer server queue own _ _ _ _ _ _ _ _ = refl
others WaitTerms server queue own _ _ _ _ _ _ _ _ = refl
others Branch server queue own _ _ _ _ _ _ _ _ = refl
others Goto server queue own _ _ _ _ _ _ _ _ = refl
others Assign server queue own _ _ _ _ _ _ _ _ = refl
others Priority server queue own _ _ _ _ _ _ _ _ = refl
others Split server queue own _ _ _ _ _ _ _ _ = refl
others Arrive server queue own _ _ _ _ h _ _ _ = absurd (h refl)
others Depart server queue own _ _ _ _ _ h _ _ = absurd (h refl)
others JoinedWait server queue own _ _ _ _ _ _ _ _ = refl
others Assemble server queue own _ _ _ _ _ _ _ _ = refl
others Preempt server queue own _ _ _ _ _ _ h _ = absurd (h refl)
others Return server queue own _ _ _ _ _ _ _ h = absurd (h refl)

pub returns-in_default : goal.returns-in_default
unfolding changed_cell
returns-in_default c =
    let none = c.in_default.ensures in
    rw (
      ← c.number.ensures,
      ne_eqb _ 4 (λ e. none Seize (sym e)),
      ne_eqb _ 5 (λ e. none Release (sym e)),
      ne_eqb _ 6 (λ e. none Enter (sym e)),
      ne_eqb _ 7 (λ e. none Leave (sym e)),
      ne_eqb _ 15 (λ e. none Arrive (sym e)),
      ne_eqb _ 16 (λ e. none Depart (sym e)),
      ne_eqb _ 19 (λ e. none Preempt (sym e)),
      ne_eqb _ 20 (λ e. none Return (sym e)),
    )

pub returns-in-Seize : goal.returns-in-Seize
unfolding changed_cell
returns-in-Seize c =
    let named : kind_number c.in-Some.kind ≡ c.number.result = c.in-Some.ensures in
    rw (← c.number.ensures, ← c.number-n.ensures, ← named)
    (elim c.in-Seize.is [ inl e ↦ rw e | inr f ↦ elim f [ inl e ↦ rw e | inr g ↦ elim g [ inl e ↦ rw e | inr e ↦ rw e ] ] ])

pub returns-in-Preempt : goal.returns-in-Preempt
unfolding changed_cell
returns-in-Preempt c =
    let named : kind_number c.in-Some.kind ≡ c.number.result = c.in-Some.ensures in
    rw (← c.number.ensures, ← c.number-n.ensures, ← named) (elim c.in-Preempt.is [ inl e ↦ rw e | inr e ↦ rw e ])

pub returns-in-Arrive : goal.returns-in-Arrive
unfolding changed_cell
returns-in-Arrive c =
    let named : kind_number c.in-Some.kind ≡ c.number.result = c.in-Some.ensures in
    rw (← c.number.ensures, ← c.number-n.ensures, ← named) (elim c.in-Arrive.is [ inl e ↦ rw e | inr e ↦ rw e ])

pub returns-in_default-kind : goal.returns-in_default-kind
unfolding changed_cell
returns-in_default-kind c =
    let named : kind_number c.in-Some.kind ≡ c.number.result = c.in-Some.ensures in
    let d = c.in_default-kind in
    rw (← c.number.ensures, ← c.number-n.ensures, ← named)
    (others c.in-Some.kind _ _ _ d.not-Seize d.not-Release d.not-Enter d.not-Leave d.not-Arrive d.not-Depart d.not-Preempt d.not-Return)
