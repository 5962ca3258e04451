-- The loops of the crate, pure: one step more, and all of them.
use Rattle.machine.specs.All.{ℕ, zero, suc, ◌+◌, ◌-◌, ◌≤◌, ◌<◌, arith, List, ◌≡◌, refl, ap, get_or, set, replicate, sym, ◌∙◌}
use Rattle.layout.specs.Layout as Layout
use Rattle.watch.specs.{clock_mark, marks_size, reach_value, reach, wait_marks, waits_marks, marks_of, own_of, asked_of, own_stored, asked_stored, with_marks, watched}

-- ---- Through the values, downward: the rest from here is the whole

-- from the last value down: what a marked value reads is marked
pub reach-next : (tables : List ℕ) (k j : ℕ) (marks after : List ℕ) → 0 < k → j ≡ k - 1 → after ≡ reach_value tables j marks
    → reach tables k marks ≡ reach tables j after
unfolding reach
reach-next tables zero j marks after h e f = absurd (omega arith)
reach-next tables (suc k) j marks after h e f =
    let same : k ≡ j = omega arith in ap (λ (i : ℕ). reach tables i (reach_value tables i marks)) same ∙ ap (reach tables j) (sym f)

pub reach-end : (tables : List ℕ) (k : ℕ) (marks : List ℕ) → k ≤ 0 → reach tables k marks ≡ marks
unfolding reach
reach-end tables zero marks h = refl
reach-end tables (suc k) marks h = absurd (omega arith)

-- ---- Upward: the first so many are done

-- the three loops end with all blocks or values seen
pub waits-all : (tables : List ℕ) (values : ℕ) (marks : List ℕ) (b n : ℕ) → b ≤ n → n ≤ b
    → waits_marks tables values b marks ≡ waits_marks tables values n marks
waits-all tables values marks b n low high = ap (λ (i : ℕ). waits_marks tables values i marks) (omega arith)

pub own-all : (values : ℕ) (tables : List ℕ) (k n : ℕ) → k ≤ n → n ≤ k → own_stored values k tables ≡ own_stored values n tables
own-all values tables k n low high = ap (λ (i : ℕ). own_stored values i tables) (omega arith)

pub asked-all : (marks tables : List ℕ) (b n : ℕ) → b ≤ n → n ≤ b → asked_stored marks b tables ≡ asked_stored marks n tables
asked-all marks tables b n low high = ap (λ (i : ℕ). asked_stored marks i tables) (omega arith)

-- one more block: what its comparison reads is marked
pub waits-next : (tables : List ℕ) (values b : ℕ) (marks₀ marks after : List ℕ) → marks ≡ waits_marks tables values b marks₀
    → after ≡ wait_marks tables values b marks → after ≡ waits_marks tables values (b + 1) marks₀
waits-next tables values b marks₀ marks after e f =
    let one : b + 1 ≡ suc b = omega arith in
    f ∙ ap (wait_marks tables values b) e ∙ step ∙ ap (λ (i : ℕ). waits_marks tables values i marks₀) (sym one)
  where
    step : wait_marks tables values b (waits_marks tables values b marks₀) ≡ waits_marks tables values (suc b) marks₀
    step = unfold waits_marks in refl

pub own-next : (values k : ℕ) (tables₀ tables after : List ℕ) (x : ℕ) → tables ≡ own_stored values k tables₀ → x ≡ own_of tables values k
    → after ≡ set tables (Layout.names_own + k) x → after ≡ own_stored values (k + 1) tables₀
own-next values k tables₀ tables after x e f g =
    let one : k + 1 ≡ suc k = omega arith in
    g ∙ ap (set tables (Layout.names_own + k)) f ∙ ap (λ (t : List ℕ). set t (Layout.names_own + k) (own_of t values k)) e ∙ step
    ∙ ap (λ (i : ℕ). own_stored values i tables₀) (sym one)
  where
    step : set (own_stored values k tables₀) (Layout.names_own + k) (own_of (own_stored values k tables₀) values k)
        ≡ own_stored values (suc k) tables₀
    step = unfold own_stored in refl

pub asked-next : (marks : List ℕ) (b : ℕ) (tables₀ tables after : List ℕ) (x : ℕ) → tables ≡ asked_stored marks b tables₀
    → x ≡ asked_of tables marks b
    → after ≡ set tables (Layout.asked + b) x → after ≡ asked_stored marks (b + 1) tables₀
asked-next marks b tables₀ tables after x e f g =
    let one : b + 1 ≡ suc b = omega arith in
    g ∙ ap (set tables (Layout.asked + b)) f ∙ ap (λ (t : List ℕ). set t (Layout.asked + b) (asked_of t marks b)) e ∙ step
    ∙ ap (λ (i : ℕ). asked_stored marks i tables₀) (sym one)
  where
    step : set (asked_stored marks b tables₀) (Layout.asked + b) (asked_of (asked_stored marks b tables₀) marks b)
        ≡ asked_stored marks (suc b) tables₀
    step = unfold asked_stored in refl

-- nothing done yet
pub waits-none : (tables : List ℕ) (values : ℕ) (marks : List ℕ) → marks ≡ waits_marks tables values 0 marks
unfolding waits_marks
waits-none tables values marks = refl

-- they begin with none
pub own-none : (values : ℕ) (tables : List ℕ) → tables ≡ own_stored values 0 tables
unfolding own_stored
own-none values tables = refl

pub asked-none : (marks tables : List ℕ) → tables ≡ asked_stored marks 0 tables
unfolding asked_stored
asked-none marks tables = refl

-- ---- The parts, each given by an equation, make the whole

-- all four passes, one after the other, store what `watched` says
pub watched-by : (blocks values : ℕ) (tables t₁ marks t₂ t₃ : List ℕ) (x : ℕ) → t₁ ≡ own_stored values values tables
    → marks ≡ reach t₁ values (waits_marks t₁ values blocks (replicate marks_size 0)) → t₂ ≡ asked_stored marks blocks t₁
    → x ≡ get_or marks clock_mark 0
    → t₃ ≡ set t₂ Layout.clock_asked x → t₃ ≡ watched blocks values tables
unfolding watched with_marks marks_of
watched-by blocks values tables t₁ marks t₂ t₃ x e₁ e₂ e₃ e₄ e₅ = rw (e₅, e₄, e₃, e₂, e₁)
