-- The line of jobs: what holds in every state of a run of the program. It speaks of how many stand before each block, and never of who they
-- are or of their order; so a tie may be broken either way.
use Rattle.machine.specs.All.{ℕ, zero, suc, ◌+◌, ◌≤◌, ◌<◌, max, ◌≡◌, refl, ap, subst, subst₂, Bool, List, [], ◌∷◌, ◌++◌, map, reverse, Option, none, some, arith, eqb, length, get_or, set, drop, Transaction, Event, bit, those, idle_server, Code, wel_index, BlockModel, State, Logged, set_rel, set_wel, set_wsl, ql_of, times_left, wake, wake_first_wel, wake_wsl, check_wels, Each, others, wel_of, sym, ◌∙◌, take}
use Rattle.machine.proofs.{Lists.Cases.check_wels-kept, Basic.Each.each_set, Basic.Each.each-get_or, Lists.Sums.sum_on}
use Rattle.slowjob.specs.{ends, comes, leaves}
use Rattle.slowjob.proofs.Events.{at, AllReady, Pending}

-- ---- Numbers and lists that are read of a state

-- the facility's units in in_use
abbrev pub used : State → ℕ
used s = (get_or s.view.servers 0 (idle_server 0)).in_use

abbrev pub Nobody : List Transaction → Type 0
Nobody l = l ≡ []

abbrev pub Seeking : Transaction → Type 0
Seeking t = t.next ≡ 2

module _ (arrivals services : List ℕ) where
  -- the first k ends
  abbrev pub firsts : ℕ → List ℕ
  firsts zero = []
  firsts (suc k) = firsts k ++ (leaves arrivals services (suc k) ∷ [])

  -- ---- Definition

  -- The one who comes next, after `arrived` have come; `here` stand before GENERATE, on REL or in hand. On the FEL it has its move time.
  pub data Coming (clock arrived here : ℕ) (times : List ℕ) : Option ℕ → Type 0 where
    nobody : here ≡ 0 → Coming clock arrived here times none
    later : (t : ℕ) → here ≡ 0 → t ≡ comes arrivals (suc arrived) → times ≡ drop (suc arrived) arrivals
        → Coming clock arrived here times (some t)
    here-now : here ≡ 1 → clock ≡ comes arrivals (suc arrived) → times ≡ drop (suc arrived) arrivals → Coming clock arrived here times none

  -- The facility, of which `begun` services have begun and `over` are over; `two`, `three` and `four` stand before SEIZE, ADVANCE and
  -- RELEASE, on REL or in hand, and `queued` wait. Idle, it waits for nobody: if somebody has come, the service begins at this clock.
  pub data Serving (clock arrived begun over two three four queued in_use : ℕ) (times : List ℕ) : Option ℕ → Type 0 where
    idle : in_use ≡ 0 → three ≡ 0 → four ≡ 0 → begun ≡ over → times ≡ drop begun services → leaves arrivals services begun ≤ clock
        → (begun < arrived → clock ≡ max (comes arrivals (suc begun)) (leaves arrivals services begun)) → (0 < queued → 0 < two)
        → Serving clock arrived begun over two three four queued in_use times none
    seized : in_use ≡ 1 → three ≡ 1 → four ≡ 0 → begun ≡ suc over → times ≡ drop over services
        → clock ≡ max (comes arrivals begun) (leaves arrivals services over)
        → Serving clock arrived begun over two three four queued in_use times none
    busy : (t : ℕ) → in_use ≡ 1 → three ≡ 0 → four ≡ 0 → begun ≡ suc over → times ≡ drop begun services → t ≡ leaves arrivals services begun
        → Serving clock arrived begun over two three four queued in_use times (some t)
    done : in_use ≡ 1 → three ≡ 0 → four ≡ 1 → begun ≡ suc over → times ≡ drop begun services → clock ≡ leaves arrivals services begun
        → Serving clock arrived begun over two three four queued in_use times none

-- nobody waits but for the facility, and whoever is ready stands before a block where one may
pub record Lists (rel ql : List Transaction) (wel : List (List Transaction)) (wsl : List Transaction) : Type 0 where
  pub ready : AllReady rel
  pub queued : Each Seeking ql
  pub no-wel : Each Nobody wel
  pub no-wsl : Nobody wsl

-- how many stand before block n, on REL or in hand, where b is the block before which somebody in hand stands, 0 for nobody
abbrev pub before : ℕ → ℕ → List Transaction → ℕ
before n b rel = sum_on (at n) rel + bit (eqb b n)

module _ (m : BlockModel) (arrivals services : List ℕ) where
  -- the clocks of the ends, of records newest first
  abbrev pub ends_of : List Logged → List ℕ
  ends_of records = ends m (map (λ r. r.entry) (reverse records))

  -- those that have ended, where `five` stand before TERMINATE
  pub record Gone (five clock over : ℕ) (records : List Logged) : Type 0 where
    pub ended : ℕ
    pub count : over ≡ ended + five
    pub now : 0 < five → clock ≡ leaves arrivals services over
    pub finished : ends_of records ≡ firsts arrivals services ended

  pub record Lined (b clock in_use : ℕ) (rel : List Transaction) (fel : List Event) (ql : List Transaction) (wel : List (List Transaction))
      (wsl : List Transaction) (times times' : List ℕ) (records : List Logged) : Type 0 where
    pub arrived : ℕ
    pub begun : ℕ
    pub over : ℕ
    pub next-arrival : Option ℕ
    pub next_service : Option ℕ
    pub lists : Lists rel ql wel wsl
    pub pending : Pending clock fel next-arrival next_service
    -- arrivals: how many have come, and when the next one comes
    pub coming : Coming arrivals services clock arrived (before 1 b rel) times next-arrival
    -- services: how many have begun, who waits, and when the one that is served is done
    pub serving : Serving arrivals services clock arrived begun over (before 2 b rel) (bit (eqb b 3)) (before 4 b rel)
        (length ql) in_use times' next_service
    pub between : arrived ≡ begun + length ql + before 2 b rel
    pub past : comes arrivals arrived ≤ clock
    pub gone : Gone (bit (eqb b 5)) clock over records

  abbrev pub Line : ℕ → State → Type 0
  Line b s = Lined b s.view.clock (used s) s.rel s.fel (ql_of s 1) s.wel s.wsl (times_left s 1) (times_left s 2) s.records

  -- ---- Lists that stay empty

  with-wel : {b : ℕ} (s : State) (wel : List (List Transaction)) → Each Nobody wel → Line b s → Line b (set_wel wel s)
  with-wel s wel e h =
      record {
        arrived = h.arrived;
        begun = h.begun;
        over = h.over;
        next-arrival = h.next-arrival;
        next_service = h.next_service;
        lists = record { ready = h.lists.ready; queued = h.lists.queued; no-wel = e; no-wsl = h.lists.no-wsl };
        pending = h.pending;
        coming = h.coming;
        serving = h.serving;
        between = h.between;
        past = h.past;
        gone = h.gone;
      }

  line-wel : (b v : ℕ) (code : Code) (s : State) → Line b s → Line b (wake_first_wel v code s)
  unfolding wake_first_wel wake
  line-wel b v code s h =
      let empty : wel_of s v code ≡ [] = each-get_or Nobody s.wel (wel_index v code) [] h.lists.no-wel refl in
      subst (λ l. Line b (set_wel (set s.wel (wel_index v code) (drop 1 l)) (set_rel (wake (take 1 l) s.rel) s))) (sym empty)
      (with-wel s (set s.wel (wel_index v code) []) (each_set Nobody s.wel (wel_index v code) [] h.lists.no-wel refl) h)

  pub line-wels : (b v : ℕ) (s : State) → Line b s → Line b (check_wels v s)
  line-wels b v s h = check_wels-kept (Line b) v (λ code s k. line-wel b v code s k) s h

  pub line-wsl : (b : ℕ) (p : Transaction → Bool) (s : State) → Line b s → Line b (wake_wsl p s)
  unfolding wake_wsl wake those
  line-wsl b p s h =
      subst (λ l. Line b (set_wsl (others p l) (set_rel (wake (those p l) s.rel) s))) (sym h.lists.no-wsl)
      (subst (λ l. Line b (set_wsl l s)) h.lists.no-wsl h)

  -- ---- Taking

  -- the first of REL comes into hand; it stands before neither ADVANCE nor TERMINATE
  pub line_taken : (t : Transaction) (l : List Transaction) (s : State) → s.rel ≡ t ∷ l → (n : ℕ) → t.next ≡ n → 0 ≡ bit (eqb n 3)
      → 0 ≡ bit (eqb n 5)
      → Line 0 s → Line n (set_rel l s)
  line_taken t l s e n k three five h =
      record {
        arrived = h.arrived;
        begun = h.begun;
        over = h.over;
        next-arrival = h.next-arrival;
        next_service = h.next_service;
        lists =
            record {
              ready = (subst AllReady e h.lists.ready).1;
              queued = h.lists.queued;
              no-wel = h.lists.no-wel;
              no-wsl = h.lists.no-wsl;
            };
        pending = h.pending;
        coming =
            subst (λ x. Coming arrivals services s.view.clock h.arrived x (times_left s 1) h.next-arrival) (same 1) h.coming;
        serving =
            subst₂
            (λ x y. Serving arrivals services s.view.clock h.arrived h.begun h.over x (bit (eqb n 3)) y (length (ql_of s 1))
            (used s) (times_left s 2) h.next_service)
            (same 2) (same 4)
            (subst
            (λ x. Serving arrivals services s.view.clock h.arrived h.begun h.over (before 2 0 s.rel) x
            (before 4 0 s.rel) (length (ql_of s 1)) (used s) (times_left s 2) h.next_service) three h.serving);
        between = h.between ∙ ap (λ x. h.begun + length (ql_of s 1) + x) (same 2);
        past = h.past;
        gone = subst (λ x. Gone x s.view.clock h.over s.records) five h.gone;
      }
    where
      same : (j : ℕ) → sum_on (at j) s.rel + 0 ≡ before j n l
      same j = omega (arith, ap (sum_on (at j)) e, ap (λ n. bit (eqb n j)) k)
