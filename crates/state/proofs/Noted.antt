-- `answer` of the machine is the bare effect with its record noted after it: noting commutes with what blocks do to lists,
-- servers and counts.
use Rattle.machine.specs.All.{ℕ, zero, suc, ◌+◌, ◌≡◌, refl, sym, ◌∙◌, Bool, true, false, cond, ◌&&◌, List, [], ◌∷◌, none, leb, ltb, eqb, Transaction, Event, Gatherer, Interrupted, server_at, compare, Code, U, NU, E, NE, F, NF, status, Share, facility, storage, share_server, share_units, share_holder, Block, generate, advance, terminate, takes, frees, wait_server, wait_terms, moves, assign, priority, split, counts, assemble, preempt, give_back, BlockModel, State, set_serial, set_moving, set_ended, everything, record_of, log, enters, fresh, move_to, go_on_lem, must_wait, to_wsl, first_of, wake_ql, wake_first_wel, set_use, times_left, arrival, copies, begin_wait, waits_for, to_gatherers, comes, released, interrupted_at, losers_to, interrupt, set_holder, effect, check_wel, check_wels, free_units, wake_for, delay, gathers, gathering, taking_units, preempting, gives_back, answer}
use Rattle.state.specs.All.{Bare, Note, entered_note, waits_note, no_note, entering, going_back, beginning, waiting, bare, bare_answer, logged, count_entry, note_as, noted}
use mathlib.Core.Path.{ap}
use Rattle.machine.specs.Term.{free}
use Rattle.machine.specs.Setters.{with_serial, set_made}
use Rattle.machine.specs.Moves.{to_rel, to_ql, to_wel, copy_of}

module _ (t : Transaction) (s : State) where
  -- the note of an entry
  abbrev N : State → State
  N x = logged 0 t s (count_entry t.next x)

  check_wel-N : (v : ℕ) (c : Code) (x : State) → check_wel v c (N x) ≡ N (check_wel v c x)
  unfolding everything logged count_entry
  check_wel-N v c x = go (status c (server_at x.view v))
    where
      go : (b : Bool) → cond b (N x) (wake_first_wel v c (N x)) ≡ N (cond b x (wake_first_wel v c x))
      go true = refl
      go false = refl

  check_wels-N : (v : ℕ) (x : State) → check_wels v (N x) ≡ N (check_wels v x)
  unfolding check_wels
  check_wels-N v x =
      ap (λ (y : State). check_wel v NF (check_wel v F (check_wel v NE (check_wel v E (check_wel v NU y))))) (check_wel-N v U x)
      ∙ ap (λ (y : State). check_wel v NF (check_wel v F (check_wel v NE (check_wel v E y)))) (check_wel-N v NU (check_wel v U x))
      ∙ ap (λ (y : State). check_wel v NF (check_wel v F (check_wel v NE y))) (check_wel-N v E (check_wel v NU (check_wel v U x)))
      ∙ ap (λ (y : State). check_wel v NF (check_wel v F y)) (check_wel-N v NE (check_wel v E (check_wel v NU (check_wel v U x))))
      ∙ ap (λ (y : State). check_wel v NF y) (check_wel-N v F (check_wel v NE (check_wel v E (check_wel v NU (check_wel v U x)))))
      ∙ check_wel-N v NF (check_wel v F (check_wel v NE (check_wel v E (check_wel v NU (check_wel v U x)))))

  arrival-N : (l : List ℕ) (list p block : ℕ) (x : State) → arrival l list p block (N x) ≡ N (arrival l list p block x)
  unfolding everything logged count_entry
  arrival-N [] list p block x = refl
  arrival-N (time ∷ l) list p block x = refl

  delay-N : (l : List ℕ) (list : ℕ) (x : State) → delay l list t (N x) ≡ N (delay l list t x)
  unfolding everything logged count_entry
  delay-N [] list x = refl
  delay-N (time ∷ l) list x = refl

  copies-N : (n target : ℕ) (x : State) → copies n target t (N x) ≡ N (copies n target t x)
  unfolding everything logged count_entry
  copies-N zero target x = refl
  copies-N (suc n) target x = copies-N n target (to_rel (copy_of t (suc x.made) target) (set_made (suc x.made) x))

  -- the beginning of a wait, onto any list whose putting does not look at the records
  beginning-noted : (put : Transaction → State → State)
      → ((u : Transaction) (x : State) → put u (logged 1 t s x) ≡ logged 1 t s (put u x))
      → noted t s (beginning put t s) ≡ begin_wait put t s
  unfolding note_as
  beginning-noted put commutes =
      sym (commutes (with_serial (fresh s) t) (set_serial (fresh s) s)) ∙ ap (put (with_serial (fresh s) t)) log-logged
    where
      log-logged : logged 1 t s (set_serial (fresh s) s) ≡ set_serial (fresh s) (log 1 t s)
      log-logged = unfold logged log in refl

  -- a later one of a family
  gathers-N : (n : ℕ) (g : Gatherer) (x : State) → gathers n g t (N x) ≡ N (gathers n g t x)
  unfolding everything logged count_entry
  gathers-N n g x = go (eqb (suc g.come) n)
    where
      go : (b : Bool)
          → cond b (released g t (set_ended (suc (N x).ended) (N x))) (comes g t (set_ended (suc (N x).ended) (N x)))
          ≡ N (cond b (released g t (set_ended (suc x.ended) x)) (comes g t (set_ended (suc x.ended) x)))
      go true = unfold everything logged count_entry in refl
      go false = unfold everything logged count_entry in refl

  -- a wait, onto any list whose putting does not look at the records
  waiting-noted : (put : Transaction → State → State)
      → ((u : Transaction) (x : State) → put u (logged 1 t s x) ≡ logged 1 t s (put u x)) → noted t s (waiting put t s) ≡ must_wait put t s
  unfolding must_wait waiting note_as
  waiting-noted put commutes = go t.returning
    where
      go : (b : Bool)
          → noted t s (cond b (record { note = no_note; state = put t s }) (beginning put t s)) ≡ cond b (put t s) (begin_wait put t s)
      go true = unfold note_as in refl
      go false = beginning-noted put commutes

  -- an entry whose effect does not look at the note
  entered-noted : (f : State → State) → f (N s) ≡ N (f s) → noted t s (entering (f s)) ≡ f (enters t s)
  unfolding everything note_as logged count_entry
  entered-noted f commutes = sym commutes

  gathering-noted : (n : ℕ) (l : List Gatherer)
      → noted t s (gathering (λ f. entering (f s)) (λ put. waiting put t s) (λ f. going_back (f s)) (λ put. beginning put t s) l n t)
      ≡ gathering (λ f. f (enters t s)) (λ put. must_wait put t s) (λ f. f s) (λ put. begin_wait put t s) l n t
  gathering-noted n [] = beginning-noted to_gatherers (λ u x. unfold to_gatherers logged in refl)
  gathering-noted n (g ∷ l) = entered-noted (gathers n g t) (gathers-N n g s)

  noted-cond : (c : Bool) (x y : Bare) (x' y' : State) → noted t s x ≡ x' → noted t s y ≡ y' → noted t s (cond c x y) ≡ cond c x' y'
  noted-cond true x y x' y' h k = h
  noted-cond false x y x' y' h k = k

module _ (m : BlockModel) (t : Transaction) (s : State) where
  abbrev checking : ℕ → (State → State) → State → State
  checking v f e = go_on_lem t (check_wels v (f e))

  checked : (v : ℕ) (f : State → State) → f (N t s s) ≡ N t s (f s) → noted t s (entering (checking v f s)) ≡ checking v f (enters t s)
  unfolding move_to logged count_entry
  checked v f commutes =
      entered-noted t s (checking v f) (ap (λ (y : State). go_on_lem t (check_wels v y)) commutes ∙ ap (go_on_lem t) (check_wels-N t s v (f s)))

  abbrev units-taken : Share → Bool → State → State
  units-taken x preempts =
      set_use (share_server x) ((server_at s.view (share_server x)).in_use + share_units x) (share_holder x t.number) preempts

  taking-noted : (x : Share) (preempts : Bool)
      → noted t s
      (taking_units (λ f. entering (f s)) (λ put. waiting put t s) (λ f. going_back (f s)) (λ put. beginning put t s) m x preempts t s)
      ≡ taking_units (λ f. f (enters t s)) (λ put. must_wait put t s) (λ f. f s) (λ put. begin_wait put t s) m x preempts t s
  unfolding everything logged count_entry
  taking-noted x preempts =
      let v : ℕ = share_server x in
      noted-cond t s (leb (share_units x) (free (server_at s.view v))) _ _ _ _ (checked v (units-taken x preempts) refl)
      (waiting-noted t s (to_ql m.edition v) (λ u x. refl))

  preempting-noted : (f : ℕ) (l : List Event)
      → noted t s (preempting (λ f. entering (f s)) (λ put. waiting put t s) (λ f. going_back (f s)) (λ put. beginning put t s) l m f t s)
      ≡ preempting (λ f. f (enters t s)) (λ put. must_wait put t s) (λ f. f s) (λ put. begin_wait put t s) l m f t s
  unfolding everything logged count_entry
  preempting-noted f [] = taking-noted (facility f) true
  preempting-noted f (e ∷ l) = checked f (λ x. set_holder f t.number true (interrupt e t f x)) refl

  gives_back-noted : (f : ℕ) (l : List Interrupted)
      → noted t s (entering (checking f (gives_back m l f) s)) ≡ checking f (gives_back m l f) (enters t s)
  unfolding everything logged count_entry
  gives_back-noted f [] = checked f (gives_back m [] f) refl
  gives_back-noted f (i ∷ l) = checked f (gives_back m (i ∷ l) f) refl

  pub noted-effect : (b : Block) → noted t s (bare m b t s) ≡ effect m b t s
  unfolding everything bare note_as logged count_entry
  noted-effect (generate list p) = sym (ap (go_on_lem t) (arrival-N t s (times_left s list) list p t.next s))
  noted-effect (advance list) = sym (delay-N t s (times_left s list) list s)
  noted-effect (terminate a) = refl
  noted-effect (takes x) = taking-noted x false
  noted-effect (frees (facility v)) = checked v (λ e. wake_ql first_of v (free_units v 1 e)) refl
  noted-effect (frees (storage v b)) = checked v (λ e. wake_for m (storage v b) (free_units v b e)) refl
  noted-effect (wait_server code v c) =
      noted-cond t s (status code (server_at s.view v)) _ _ _ _ (waiting-noted t s (to_wel m.edition v code) (λ u x. refl))
      (noted-cond t s (ltb 0 c && ltb t.stamp s.view.clock) _ _ _ _ refl refl)
  noted-effect (wait_terms a r b) =
      noted-cond t s (compare m.values s.view t.parameters a r b) _ _ _ _ (waiting-noted t s to_wsl (λ u x. refl)) refl
  noted-effect (moves c target) = refl
  noted-effect (assign k a) = refl
  noted-effect (priority p) = refl
  noted-effect (split n target) = sym (ap (go_on_lem t) (copies-N t s n target s))
  noted-effect (counts c q) = refl
  noted-effect (assemble n) = gathering-noted t s n (waits_for t s)
  noted-effect (preempt f) = preempting-noted f (losers_to t f s)
  noted-effect (give_back f) = gives_back-noted f (interrupted_at s f)

-- a record reads only the clock of the state in which t stood
note-moving : (n : Note) (t : Transaction) (s x : State) → note_as n t s x ≡ note_as n t (set_moving none s) x
unfolding note_as logged record_of
note-moving entered_note t s x = refl
note-moving waits_note t s x = refl
note-moving no_note t s x = refl

pub noted-answer : (n : ℕ) (m : BlockModel) (b : Block) (t : Transaction) (s : State) → noted t s (bare_answer n m b t s) ≡ answer n m b t s
unfolding answer bare_answer note_as
noted-answer zero m b t s =
    let r : Bare = bare m b t (set_moving none s) in
    note-moving r.note t s r.state ∙ noted-effect m t (set_moving none s) b
noted-answer (suc n) m b t s = refl
