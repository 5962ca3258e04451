-- A turn that ends nothing: who is taken, one block, the WS scheme; of any model.
use Rattle.machine.specs.All.{ℕ, zero, suc, ◌≡◌, refl, true, not, List, [], ◌∷◌, Option, none, some, arith, eqb, not-true, not-false, Transaction, others, Block, BlockModel, block_at, State, set_moving, set_rel, set_turns, wake_wsl, effect, next_events, take_first, take_ready, taking, answer, execute, waits_on, ws_scheme, turn, Each, sym, ap, ◌∙◌, subst, eq-eqb, set_end}
use Rattle.machine.proofs.{Basic.Bools.cond_cases, Basic.Each.each_map, Basic.Each.each-passes}

module _ (m : BlockModel) where
  -- the WS scheme, where no end was set
  abbrev pub settled : State → State
  settled s = wake_wsl (λ t. not (waits_on m s.view t)) s

  scheme-end : (s : State) → (ws_scheme m s).end ≡ s.end
  unfolding ws_scheme wake_wsl
  scheme-end s = cond_cases (λ (r : State). r.end ≡ s.end) (eqb s.end 0) _ _ (λ e. refl) (λ e. refl)

  scheme-on : (s : State) → s.end ≡ 0 → ws_scheme m s ≡ settled s
  unfolding ws_scheme
  scheme-on s e = rw (eq-eqb s.end 0 e) refl

  -- ---- After the taking, with t in hand

  -- the state in which its block is executed
  abbrev pub handed : State → State
  handed s = set_moving none (set_turns (suc s.turns) (taking s.moving s))

  abbrev pub block_of : Transaction → Block
  block_of t = block_at m t.next

  -- r is the state after the taking, x what the block leaves
  abbrev Executed : State → (r x : State) → Type 0
  Executed y r x = (x.end ≡ 0) × (ws_scheme m y ≡ settled x)

  answered : (n : ℕ) (t : Transaction) (r : State) → (ws_scheme m (answer n m (block_of t) t r)).end ≡ 0
      → Executed (answer n m (block_of t) t r) r (effect m (block_of t) t (set_moving none r))
  unfolding answer
  answered zero t r z = (sym (scheme-end _) ∙ z, scheme-on _ (sym (scheme-end _) ∙ z))
  answered (suc n) t r z = absurd (nonzero (sym (scheme-end (set_end (suc n) r)) ∙ z))
    where
      nonzero : suc n ≡ 0 → ⊥
      nonzero e = omega arith

  executed : (o : Option Transaction) (t : Transaction) (r : State) → o ≡ some t → (ws_scheme m (execute o m r)).end ≡ 0
      → Executed (execute o m r) r (effect m (block_of t) t (set_moving none r))
  unfolding execute
  executed o t r e z =
      rw e (answered _ t r (subst (λ (o : Option Transaction). (ws_scheme m (execute o m r)).end ≡ 0) e z))

  -- what a turn is, where it sets no end
  pub turned : (s : State) (t : Transaction) → (taking s.moving s).moving ≡ some t → (turn m s).end ≡ 0
      → ((effect m (block_of t) t (handed s)).end ≡ 0) × (turn m s ≡ settled (effect m (block_of t) t (handed s)))
  unfolding turn
  turned s t e z = executed (taking s.moving s).moving t (set_turns (suc s.turns) (taking s.moving s)) e z

  -- everybody on the WSL waits on
  pub waits-on : (s : State) → Each (λ t. waits_on m (settled s).view t ≡ true) (settled s).wsl
  unfolding wake_wsl
  waits-on s =
      each_map (λ t h. not-false _ (not-true _ h)) (others (λ t. not (waits_on m s.view t)) s.wsl)
      (each-passes (λ t. not (not (waits_on m s.view t))) s.wsl)

-- ---- The taking

-- the state from whose REL the first is taken
pub data Ready (s : State) : State → Type 0 where
  as_is : (t : Transaction) (l : List Transaction) → s.rel ≡ t ∷ l → Ready s s
  clock_moved : s.rel ≡ [] → Ready s (next_events s.fel s)

pub record Readied (s : State) : Type 0 where
  pub from : State
  pub ready : Ready s from
  pub taken : taking none s ≡ take_first from.rel from

pub readied : (s : State) → Readied s
unfolding taking take_ready
readied s = go s.rel refl
  where
    go : (l : List Transaction) → s.rel ≡ l → Readied s
    go [] e = record { from = next_events s.fel s; ready = clock_moved e; taken = ap (λ (l : List Transaction). take_ready l s) e }
    go (t ∷ l) e =
        record {
          from = s;
          ready = as_is t l e;
          taken = ap (λ (l : List Transaction). take_ready l s) e ∙ ap (λ (l : List Transaction). take_first l s) (sym e);
        }

-- with the first of REL in hand
abbrev pub hand : ℕ → Transaction → List Transaction → State → State
hand n t l r = set_moving none (set_turns n (set_moving (some t) (set_rel l r)))

pub first_taken : (t : Transaction) (l : List Transaction) (r : State) → r.rel ≡ t ∷ l
    → take_first r.rel r ≡ set_moving (some t) (set_rel l r)
unfolding take_first
first_taken t l r e = ap (λ (k : List Transaction). take_first k r) e
