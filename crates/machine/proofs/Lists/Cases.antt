-- What holds of both arms of a choice holds of the choice: the check of a WEL, SEIZE and ENTER, WAITIF, ASSEMBLE, PREEMPT, RETURN, the WS
-- scheme, the start. The
-- other choices of a block, by `cond_cases`, stand in the proof of each claim.
use Rattle.machine.specs.All.{ℕ, suc, ◌+◌, ◌-◌, ◌≡◌, refl, sym, Bool, true, false, not, ◌&&◌, List, [], ◌∷◌, eqb-true, eqb-false, ltb, eqb, leb, Transaction, Event, Gatherer, Interrupted, Term, Relation, free, server_at, compare, Code, U, NU, E, NE, F, NF, status, Share, share_server, share_units, share_holder, facility, Block, wait_server, wait_terms, assemble, preempt, give_back, facts, BlockModel, State, enters, move_to, go_on_lem, to_ql, to_wel, to_wsl, begin_wait, must_wait, wake_first_wel, wake_wsl, times_left, arrival, waits_for, to_gatherers, comes, released, interrupted_at, losers_to, interrupt, resume, set_use, set_holder, set_ended, check_wel, check_wels, stamped, wake_for, free_units, gathers, gives_back, effect, take_units, gathering, waits_on, ws_scheme, start_of, is_generate}
use Rattle.machine.proofs.Basic.Bools.{cond_cases}

not-true : (b : Bool) → not b ≡ true → b ≡ false
not-true true e = sym e
not-true false e = refl

not-false : (b : Bool) → not b ≡ false → b ≡ true
not-false true e = refl
not-false false e = sym e

module _ (Q : State → Type 0) where
  pub check_wel-cases : (v : ℕ) (code : Code) (s : State)
      → (status code (server_at s.view v) ≡ true → Q s) → (status code (server_at s.view v) ≡ false → Q (wake_first_wel v code s))
      → Q (check_wel v code s)
  unfolding check_wel
  check_wel-cases v code s = cond_cases Q _ _ _

  -- what waking the first of any WEL keeps, the check after blocks 4 to 7 keeps
  pub check_wels-kept : (v : ℕ) → ((code : Code) (s : State) → Q s → Q (wake_first_wel v code s)) → (s : State) → Q s → Q (check_wels v s)
  unfolding check_wels
  check_wels-kept v wakes s q = one NF _ (one F _ (one NE _ (one E _ (one NU _ (one U s q)))))
    where
      one : (code : Code) (s : State) → Q s → Q (check_wel v code s)
      one code s q = check_wel-cases v code s (λ e. q) (λ e. wakes code s q)

  -- it takes its units, or waits
  pub takes-cases : (m : BlockModel) (x : Share) (preempts : Bool) (t : Transaction) (s : State)
      → (leb (share_units x) (free (server_at s.view (share_server x))) ≡ true
      → Q (go_on_lem t
      (check_wels (share_server x)
      (set_use (share_server x) ((server_at s.view (share_server x)).in_use + share_units x) (share_holder x t.number) preempts
      (enters t s)))))
      → (leb (share_units x) (free (server_at s.view (share_server x))) ≡ false → Q (must_wait (to_ql m.edition (share_server x)) t s))
      → Q (take_units m x preempts t s)
  unfolding take_units
  takes-cases m x preempts t s = cond_cases Q _ _ _

  -- it waits, or goes back, or enters
  pub wait_server-cases : (m : BlockModel) (code : Code) (v c : ℕ) (t : Transaction) (s : State)
      → (status code (server_at s.view v) ≡ true → Q (must_wait (to_wel m.edition v code) t s))
      → ((ltb 0 c && ltb t.stamp s.view.clock) ≡ true → Q (move_to (t.next - c) t (wake_first_wel v code s)))
      → ((ltb 0 c && ltb t.stamp s.view.clock) ≡ false → Q (go_on_lem (stamped m t s) (wake_first_wel v code (enters t s))))
      → Q (effect m (wait_server code v c) t s)
  unfolding effect take_units
  wait_server-cases m code v c t s waits goes_back passes = cond_cases Q _ _ _ waits (λ e. cond_cases Q _ _ _ goes_back passes)

  -- WAITIF of a comparison: it waits while the comparison holds, and goes on else
  pub wait_terms-cases : (m : BlockModel) (a : Term) (r : Relation) (b : Term) (t : Transaction) (s : State)
      → (compare m.values s.view t.parameters a r b ≡ true → Q (must_wait to_wsl t s))
      → (compare m.values s.view t.parameters a r b ≡ false → Q (go_on_lem t (enters t s))) → Q (effect m (wait_terms a r b) t s)
  unfolding effect take_units
  wait_terms-cases m a r b t s = cond_cases Q _ _ _

  -- the first of its family waits; a later one ends, and at the n-th the first goes on
  pub assemble-cases : (m : BlockModel) (n : ℕ) (t : Transaction) (s : State)
      → (waits_for t s ≡ [] → Q (begin_wait to_gatherers t s))
      → ((g : Gatherer) (l : List Gatherer) → waits_for t s ≡ g ∷ l → eqb (suc g.come) n ≡ true
      → Q (released g t (set_ended (suc (enters t s).ended) (enters t s))))
      → ((g : Gatherer) (l : List Gatherer) → waits_for t s ≡ g ∷ l → eqb (suc g.come) n ≡ false
      → Q (comes g t (set_ended (suc (enters t s).ended) (enters t s)))) → Q (effect m (assemble n) t s)
  unfolding effect take_units gathers
  assemble-cases m n t s first last more = go (waits_for t s) refl
    where
      go : (l : List Gatherer) → waits_for t s ≡ l
          → Q (gathering (λ f. f (enters t s)) (λ put. must_wait put t s) (λ f. f s) (λ put. begin_wait put t s) l n t)
      go [] e = first e
      go (g ∷ l) e = cond_cases Q _ _ _ (last g l e) (more g l e)

  -- somebody loses the facility, or it does as SEIZE
  pub preempt-cases : (m : BlockModel) (f : ℕ) (t : Transaction) (s : State)
      → (losers_to t f s ≡ [] → Q (take_units m (facility f) true t s))
      → ((e : Event) (l : List Event) → losers_to t f s ≡ e ∷ l → Q
      (go_on_lem t (check_wels f (set_holder f t.number true (interrupt e t f (enters t s))))))
      → Q (effect m (preempt f) t s)
  unfolding effect take_units
  preempt-cases m f t s nobody loses = go (losers_to t f s) refl
    where
      go : (l : List Event) → losers_to t f s ≡ l
          → Q (Rattle.machine.specs.Execute.preempting (λ f. f (enters t s)) (λ put. must_wait put t s) (λ f. f s)
          (λ put. begin_wait put t s) l m f t s)
      go [] e = nobody e
      go (x ∷ l) e = loses x l e

  -- it does as RELEASE, or the interrupted one gets the facility back
  pub give_back-cases : (m : BlockModel) (f : ℕ) (t : Transaction) (s : State)
      → (interrupted_at s f ≡ [] → Q (go_on_lem t (check_wels f (wake_for m (facility f) (free_units f 1 (enters t s))))))
      → ((i : Interrupted) (l : List Interrupted) → interrupted_at s f ≡ i ∷ l → Q
      (go_on_lem t (check_wels f (resume i f (set_holder f i.who.number false (enters t s))))))
      → Q (effect m (give_back f) t s)
  unfolding effect take_units gives_back
  give_back-cases m f t s nobody back = go (interrupted_at s f) refl
    where
      go : (l : List Interrupted) → interrupted_at s f ≡ l → Q (go_on_lem t (check_wels f (gives_back m l f (enters t s))))
      go [] e = nobody e
      go (i ∷ l) e = back i l e

  -- the WS scheme runs only where the turn has set no end
  pub ws_scheme-cases : (m : BlockModel) (s : State) → (s.end ≡ 0 → Q (wake_wsl (λ t. not (waits_on m s.view t)) s))
      → ((s.end ≡ 0 → ⊥) → Q s) → Q (ws_scheme m s)
  unfolding ws_scheme
  ws_scheme-cases m s f g = cond_cases Q _ _ _ (λ e. f (eqb-true _ _ e)) (λ e. g (eqb-false _ _ e))

  -- at the start only a GENERATE does anything
  pub start_of-cases : (b : Block) (n : ℕ) (s : State) → ((facts b).generates ≡ 0 → Q s)
      → (((facts b).generates ≡ 0 → ⊥) → Q (arrival (times_left s (facts b).generates) (facts b).generates (facts b).rank n s))
      → Q (start_of b n s)
  unfolding start_of
  start_of-cases b n s f g =
      cond_cases Q (is_generate (facts b)) _ _ (λ e. g (eqb-false _ _ (not-true _ e))) (λ e. f (eqb-true _ _ (not-false _ e)))
