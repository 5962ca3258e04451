-- Claim 3, "nobody able to go waits", of edition 1: where nobody moves, REL is empty and the run has no end or ended dry, the count of
-- waiters able to go is zero.
use Rattle.machine.specs.All.{ℕ, ◌≤◌, ◌≡◌, refl, ap, ap₂, subst, Bool, false, not, true≢false, List, [], ◌∷◌, none, arith, length, those, server_at, Code, U, NU, E, NE, F, NF, status, BlockModel, wel_index, State, ql_of, wel_of, fits, waits_on, states, count, Each, able_on_ql, able_on_wel, able_on_wels, able_to_go, sym, ◌∙◌}
use Rattle.machine.proofs as our
use our.Decoding.Proper.{Proper, servers}
use our.{Runs.RunLaws.each-state, Basic.Bools.cond_cases, Basic.Each.each_map, Lists.Sums.up_to-zero}
use our.Runs.Shape.{Shape, server-length, shape-turn, shape-start}
use our.NobodyAble.Waiting.{server_in, QlWaits, nobody_fits, next_ready, WelWaits, code_true, nobody_waits, one_ready, WaitsOver, Waits, ready_of, Settled}
use our.NobodyAble.WaitsKept.{waits_kept, waits_start}

-- ---- Counts that are zero

none_pass : {A : Type 0} (p : A → Bool) (l : List A) → Each (λ x. p x ≡ false) l → count p l ≡ 0
unfolding count those
none_pass p [] h = refl
none_pass p (x ∷ l) h = rw h.0 (none_pass p l h.1)

-- ---- Of one state

-- what each state of the run has
pub record Waited (m : BlockModel) (s : State) : Type 0 where
  pub shape : Shape m s
  pub waits : Waits m s
  pub settled : Settled m s

module _ (m : BlockModel) (tape : List (List ℕ)) (s : State) where
  -- nobody is ready
  abbrev Unready : Type 0
  Unready = WaitsOver m [] s.rel s.view.servers s.ql s.wel

  able-ql : m.edition ≡ 1 → Unready → (v : ℕ) → 1 ≤ v → v ≤ servers m → able_on_ql m tape s v ≡ 0
  unfolding able_on_ql fits server_at
  able-ql first w v a b = none_pass (fits m s.view v) (ql_of s v) (none_fit (w.queued.ql-waits first v a b))
    where
      none_fit : QlWaits m [] (server_in s.view.servers v) v (ql_of s v) → Each (λ t. fits m s.view v t ≡ false) (ql_of s v)
      none_fit (nobody_fits h) = h
      none_fit (next_ready f h) = absurd h

  able-wel : Unready → (code : Code) (v : ℕ) → 1 ≤ v → v ≤ servers m → able_on_wel m tape s code v ≡ 0
  unfolding able_on_wel server_at
  able-wel w code v a b =
      cond_cases (λ n. n ≡ 0) (status code (server_at s.view v)) _ _ (λ e. refl) (λ e. nobody e (w.gated.wel-waits v code a b))
    where
      nobody : status code (server_at s.view v) ≡ false
          → WelWaits m [] (server_in s.view.servers v) code (wel_index v code) (wel_of s v code) → length (wel_of s v code) ≡ 0
      nobody e (code_true h) = absurd (true≢false (sym h ∙ e))
      nobody e (nobody_waits h) = ap length h
      nobody e (one_ready h) = absurd h

  -- claim 3 of one state: where the clock is about to move, nobody on a QL, a WEL or the WSL could go
  pub able-none : Waited m s → m.edition ≡ 1 → s.end ≤ 1 → s.moving ≡ none → s.rel ≡ [] → able_to_go m tape s ≡ 0
  unfolding able_to_go able_on_wels
  able-none k first e o r =
      let w : Unready = subst (λ ready. WaitsOver m ready s.rel s.view.servers s.ql s.wel) (ap₂ ready_of o r) k.waits in
      let wsl = none_pass (λ t. not (waits_on m s.view t)) s.wsl (each_map (λ t h. ap not h) s.wsl (k.settled o e)) in
      let size = server-length k.shape in
      omega (
        arith,
        wsl,
        up_to-zero (length s.view.servers) (able_on_ql m tape s) (λ v a b. able-ql first w v a (omega arith)),
        up_to-zero (length s.view.servers) (able_on_wels m tape s)
            (λ v a b.
            let b' : v ≤ servers m = omega arith in
            omega (
              arith,
              able-wel w U v a b',
              able-wel w NU v a b',
              able-wel w E v a b',
              able-wel w NE v a b',
              able-wel w F v a b',
              able-wel w NF v a b',
            )),
      )

-- ---- Of the whole run

module _ {m : BlockModel} {tape : List (List ℕ)} (proper : Proper m tape) where
  pub waited : (budget room : ℕ) → Each (Waited m) (states m tape budget room)
  waited budget room =
      each-state m budget room (Waited m)
      (λ s t k.
      let w = waits_kept proper s t.no_end k.shape k.waits in
      record { shape = shape-turn m s k.shape; waits = w.0; settled = w.1 })
      (λ s e c k.
      record { shape = k.shape; waits = k.waits; settled = λ o h. k.settled o (omega (arith, c.no_end)) })
      tape (record { shape = shape-start m tape proper.tapes; waits = (waits_start m tape).0; settled = (waits_start m tape).1 })

  pub nobody-able : (budget room : ℕ)
      → Each (λ s. m.edition ≡ 1 → s.end ≤ 1 → s.moving ≡ none → s.rel ≡ [] → able_to_go m tape s ≡ 0) (states m tape budget room)
  nobody-able budget room = each_map (able-none m tape) (states m tape budget room) (waited budget room)
