-- The WELs, block by block: the check after blocks 4 to 7 and WAITIF of a code keep `Gated`, for the one that moves, t, in front
-- of REL. A passing WAITIF wakes the next, so that a chain of returners empties a WEL whose code is not true.
use Rattle.machine.specs.All.{ℕ, zero, suc, ◌*◌, ◌-◌, ◌≤◌, ◌<◌, ◌≡◌, refl, ◌∙◌, true, List, [], ◌∷◌, arith, ℕ_discrete, length, get_or, set, take, drop, length-set, get_or-set_same, get_or-set_other, Transaction, precedes, set_nth, Server, server_at, Code, U, NU, E, NE, F, NF, status, code_index, BlockModel, block_at, wel_index, facts, State, wel_of, line_up, wake, wake_first_wel, check_wel, check_wels, Each, sym, ap, idle_server, with_returning}
use Rattle.machine.proofs as our
use our.{Decoding.Proper.servers, Lists.Cases.check_wel-cases, Basic.Each.each-drop}
use our.Lists.Sorted.{Sorted, some_inserted, at_set, sorted-drop}
use our.Lists.Lines.{each-line_up, sorted-line_up}
use our.NobodyAble.Waiting.{AtWel, server_in, WelWaits, code_true, nobody_waits, one_ready, Gated}
use our.NobodyAble.Ready.{Grows, grows-wake, wel-more, wel_else}

-- ---- Each server and code has a WEL of its own

code_at : ℕ → Code
code_at zero = U
code_at (suc zero) = NU
code_at (suc (suc zero)) = E
code_at (suc (suc (suc zero))) = NE
code_at (suc (suc (suc (suc zero)))) = F
code_at (suc (suc (suc (suc (suc n))))) = NF

code-back : (code : Code) → (code_at (code_index code) ≡ code) × (code_index code < 6)
unfolding code_at code_index
code-back U = (refl, omega arith)
code-back NU = (refl, omega arith)
code-back E = (refl, omega arith)
code-back NE = (refl, omega arith)
code-back F = (refl, omega arith)
code-back NF = (refl, omega arith)

wel_in : (n v : ℕ) (code : Code) → 1 ≤ v → v ≤ n → wel_index v code < n * 6
unfolding wel_index
wel_in n v code a b = omega (arith, code-back code)

wel-own : (v v' : ℕ) (code code' : Code) → 1 ≤ v → 1 ≤ v' → wel_index v' code' ≡ wel_index v code → (v' ≡ v) × (code' ≡ code)
unfolding wel_index
wel-own v v' code code' a a' e =
    let i : code_index code' ≡ code_index code = omega (arith, code-back code, code-back code') in
    (omega arith, sym (code-back code').0 ∙ ap code_at i ∙ (code-back code).0)

-- ---- Waking the first

-- a WEL that has just given its first to REL
woken : (m : BlockModel) (rel : List Transaction) (x : Server) (code : Code) (i : ℕ) (q : List Transaction) → Each (AtWel m i) q
    → WelWaits m (wake (take 1 q) rel) x code i (drop 1 q)
unfolding wake
woken m rel x code i [] h = nobody_waits refl
woken m rel x code i (y ∷ l) h = one_ready (some_inserted (AtWel m i) precedes (with_returning true y) rel h.0)

abbrev pub WelAt : BlockModel → ℕ → Code → State → Type 0
WelAt m v code s = WelWaits m s.rel (server_in s.view.servers v) code (wel_index v code) (get_or s.wel (wel_index v code) [])

-- the WELs while some of them are yet to be checked
pub record Open (m : BlockModel) (wel : List (List Transaction)) : Type 0 where
  pub sorted : m.edition ≡ 1 → (i : ℕ) → Sorted precedes (get_or wel i [])
  pub stands : (i : ℕ) → Each (AtWel m i) (get_or wel i [])
  pub size : length wel ≡ servers m * 6

record OpenAt (m : BlockModel) (v' : ℕ) (code' : Code) (s : State) : Type 0 where
  opened : Open m s.wel
  waits : WelAt m v' code' s

module _ {m : BlockModel} (v : ℕ) (one : 1 ≤ v) (known : v ≤ servers m) where
  first-opened : (code : Code) (s : State) → Open m s.wel → Open m (wake_first_wel v code s).wel
  unfolding wake_first_wel
  first-opened code s o =
      record {
        sorted = λ first i.
            at_set (Sorted precedes) s.wel k i _ [] (λ e. sorted-drop precedes (wel_of s v code) (o.sorted first k)) (o.sorted first i);
        stands = λ i.
            at_set (Each (AtWel m i)) s.wel k i _ [] (λ e. rw e (each-drop (AtWel m k) (wel_of s v code) (o.stands k))) (o.stands i);
        size = length-set s.wel k _ ∙ o.size;
      }
    where
      k : ℕ
      k = wel_index v code

  -- another WEL waits as before, this one has been woken
  first-waits : (code : Code) (s : State) → Open m s.wel → (v' : ℕ) (code' : Code)
      → ((wel_index v' code' ≡ wel_index v code → ⊥) → WelAt m v' code' s) → WelAt m v' code' (wake_first_wel v code s)
  unfolding wake_first_wel
  first-waits code s o v' code' old = waits (ℕ_discrete (wel_index v' code') k)
    where
      k : ℕ
      k = wel_index v code

      waits : Dec (wel_index v' code' ≡ k) → WelAt m v' code' (wake_first_wel v code s)
      waits (yes e) =
          rw (e, get_or-set_same s.wel k (drop 1 (wel_of s v code)) [] (omega (arith, o.size, wel_in (servers m) v code one known)))
          (woken m s.rel _ code' k (wel_of s v code) (o.stands k))
      waits (no n) =
          rw (get_or-set_other s.wel k (wel_index v' code') (drop 1 (wel_of s v code)) [] n)
          (wel-more (grows-wake (take 1 (wel_of s v code)) s.rel).keeps (old n))

  -- ---- The check after blocks 4 to 7

  check-opened : (code : Code) (s : State) → Open m s.wel → Open m (check_wel v code s).wel
  check-opened code s o = check_wel-cases (λ s. Open m s.wel) v code s (λ e. o) (λ e. first-opened code s o)

  check-keeps : (code : Code) {v' : ℕ} {code' : Code} {s : State} → OpenAt m v' code' s → OpenAt m v' code' (check_wel v code s)
  check-keeps code {v'} {code'} {s} h =
      record {
        opened = check-opened code s h.opened;
        waits = check_wel-cases (WelAt m v' code') v code s (λ e. h.waits) (λ e. first-waits code s h.opened v' code' (λ n. h.waits));
      }

  check-makes : (code : Code) (s : State) → Open m s.wel → OpenAt m v code (check_wel v code s)
  unfolding server_at
  check-makes code s o =
      record {
        opened = check-opened code s o;
        waits = check_wel-cases (WelAt m v code) v code s (λ e. code_true e) (λ e. first-waits code s o v code (λ n. absurd (n refl)));
      }

  checks-keep : {v' : ℕ} {code' : Code} {s : State} → OpenAt m v' code' s → OpenAt m v' code' (check_wels v s)
  unfolding check_wels
  checks-keep h = check-keeps NF (check-keeps F (check-keeps NE (check-keeps E (check-keeps NU (check-keeps U h)))))

  checks_make : (code : Code) (s : State) → Open m s.wel → OpenAt m v code (check_wels v s)
  unfolding check_wels
  checks_make U s o = check-keeps NF (check-keeps F (check-keeps NE (check-keeps E (check-keeps NU (check-makes U _ o)))))
  checks_make NU s o = check-keeps NF (check-keeps F (check-keeps NE (check-keeps E (check-makes NU _ (check-opened U _ o)))))
  checks_make E s o = check-keeps NF (check-keeps F (check-keeps NE (check-makes E _ (check-opened NU _ (check-opened U _ o)))))
  checks_make NE s o = check-keeps NF (check-keeps F (check-makes NE _ (check-opened E _ (check-opened NU _ (check-opened U _ o)))))
  checks_make F s o = check-keeps NF (check-makes F _ (check-opened NE _ (check-opened E _ (check-opened NU _ (check-opened U _ o)))))
  checks_make NF s o = check-makes NF _ (check-opened F _ (check-opened NE _ (check-opened E _ (check-opened NU _ (check-opened U _ o)))))

  -- of a server that has changed all WELs are checked, the others wait as before
  pub checks-gated : (s : State) → Open m s.wel
      → ((v' : ℕ) (code : Code) → 1 ≤ v' → v' ≤ servers m → (v' ≡ v → ⊥) → WelAt m v' code s)
      → Gated m (check_wels v s).rel (check_wels v s).view.servers (check_wels v s).wel
  checks-gated s o old =
      record {
        wel-sorted = (checks_make U s o).opened.sorted;
        wel-stands = (checks_make U s o).opened.stands;
        wel-waits = λ v' code a b. at v' code a b (ℕ_discrete v' v);
      }
    where
      at : (v' : ℕ) (code : Code) → 1 ≤ v' → v' ≤ servers m → Dec (v' ≡ v) → WelAt m v' code (check_wels v s)
      at v' code a b (yes e) = rw e (checks_make code s o).waits
      at v' code a b (no n) = (checks-keep {s = s} (record { opened = o; waits = old v' code a b n })).waits

-- ---- The one that moves

module _ {m : BlockModel} {t : Transaction} {rel : List Transaction} {l : List Server} {wel : List (List Transaction)}
    (w : Gated m (t ∷ rel) l wel) where
  -- before that check, where t stands at no WAITIF
  pub others_wait : (v : ℕ) (x : Server) (rel' : List Transaction) → 1 ≤ v → (facts (block_at m t.next)).wel ≡ 0 → Grows rel rel'
      → (v' : ℕ) (code : Code) → 1 ≤ v' → v' ≤ servers m → (v' ≡ v → ⊥)
      → WelWaits m rel' (server_in (set_nth l v x) v') code (wel_index v' code) (get_or wel (wel_index v' code) [])
  others_wait v x rel' one off grows v' code a b n =
      rw (get_or-set_other l (v - 1) (v' - 1) x (idle_server 0) (λ e. n (omega arith)))
      (wel-more grows.keeps (wel_else (λ e. omega arith) (w.wel-waits v' code a b)))

  -- 8 WAITIF, waiting: the code is true
  pub waits-gated : (v : ℕ) (code : Code) (t' : Transaction) → 1 ≤ v → AtWel m (wel_index v code) t → AtWel m (wel_index v code) t'
      → status code (server_in l v) ≡ true
      → Gated m rel l (set wel (wel_index v code) (line_up m.edition t' (get_or wel (wel_index v code) [])))
  waits-gated v code t' one at at' holds =
      record {
        wel-sorted = λ first i.
            at_set (Sorted precedes) wel k i _ [] (λ e. sorted-line_up m.edition t' _ first (w.wel-sorted first k))
            (w.wel-sorted first i);
        wel-stands = λ i.
            at_set (Each (AtWel m i)) wel k i _ [] (λ e. rw e (each-line_up (AtWel m k) m.edition t' _ at' (w.wel-stands k)))
            (w.wel-stands i);
        wel-waits = λ v' code' a b. waits v' code' a b (ℕ_discrete (wel_index v' code') k);
      }
    where
      k : ℕ
      k = wel_index v code

      waits : (v' : ℕ) (code' : Code) → 1 ≤ v' → v' ≤ servers m → Dec (wel_index v' code' ≡ k)
          → WelWaits m rel (server_in l v') code' (wel_index v' code')
          (get_or (set wel k (line_up m.edition t' (get_or wel k []))) (wel_index v' code') [])
      waits v' code' a b (yes e) = let (same, also) = wel-own v v' code code' one a e in code_true (rw (same, also) holds)
      waits v' code' a b (no n) =
          rw (get_or-set_other wel k (wel_index v' code') _ [] n) (wel_else (λ e. n (omega arith)) (w.wel-waits v' code' a b))

-- 8 WAITIF, passing: the first of the WEL goes to REL
pub passes-gated : {m : BlockModel} {t : Transaction} (v : ℕ) (code : Code) (s : State) → 1 ≤ v → v ≤ servers m
    → length s.wel ≡ servers m * 6 → AtWel m (wel_index v code) t → Gated m (t ∷ s.rel) s.view.servers s.wel
    → Gated m (wake_first_wel v code s).rel (wake_first_wel v code s).view.servers (wake_first_wel v code s).wel
passes-gated v code s one known size at w =
    let o : Open _ s.wel = record { sorted = w.wel-sorted; stands = w.wel-stands; size = size } in
    record {
      wel-sorted = (first-opened v one known code s o).sorted;
      wel-stands = (first-opened v one known code s o).stands;
      wel-waits =
          λ v' code' a b. first-waits v one known code s o v' code' (λ n. wel_else (λ e. n (omega arith)) (w.wel-waits v' code' a b));
    }
