-- What is known of those who wait, in each state before a turn and within one, after the taking: the statement. In both,
-- "ready" are REL and the moving one, so that the taking changes nothing.
use Rattle.machine.specs.All.{ℕ, suc, ◌≤◌, ◌≡◌, true, false, List, [], ◌∷◌, Option, none, some, leb, get_or, Transaction, precedes, nth, Server, idle_server, free, Code, status, facts, BlockModel, block_at, wel_index, State, units_of_lem, waits_on, Each}
use Rattle.machine.proofs.{Decoding.Proper.servers, Lists.Sorted.Some, Lists.Sorted.Sorted}

-- ---- Where a transaction stands

-- the server that it is about to take units of, 0 for none
abbrev pub server_of : BlockModel → Transaction → ℕ
server_of m t = (facts (block_at m t.next)).server

-- about to take units of server v; at the WAITIF of the WEL at place i
abbrev pub AtServer : BlockModel → ℕ → Transaction → Type 0
AtServer m v t = server_of m t ≡ v

abbrev pub AtWel : BlockModel → ℕ → Transaction → Type 0
AtWel m i t = (facts (block_at m t.next)).wel ≡ suc i

-- ---- One QL, one WEL

abbrev pub server_in : List Server → ℕ → Server
server_in l v = nth l v (idle_server 0)

-- stands at a SEIZE or ENTER of v, and nobody of the QL q precedes it
abbrev pub Next : BlockModel → ℕ → List Transaction → Transaction → Type 0
Next m v q w = AtServer m v w × Each (λ t. precedes t w ≡ false) q

-- of the QL q of server v, which is x: nobody fits, or, of a facility, one is ready whom nobody there precedes
pub data QlWaits (m : BlockModel) (ready : List Transaction) (x : Server) (v : ℕ) (q : List Transaction) : Type 0 where
  nobody_fits : Each (λ t. leb (units_of_lem m t) (free x) ≡ false) q → QlWaits m ready x v q
  next_ready : v ≤ m.facilities → Some (Next m v q) ready → QlWaits m ready x v q

-- of the WEL q at place i, of server x and a code: the code is true, or nobody waits, or one that stands there is ready
pub data WelWaits (m : BlockModel) (ready : List Transaction) (x : Server) (code : Code) (i : ℕ) (q : List Transaction) : Type 0 where
  code_true : status code x ≡ true → WelWaits m ready x code i q
  nobody_waits : q ≡ [] → WelWaits m ready x code i q
  one_ready : Some (AtWel m i) ready → WelWaits m ready x code i q

-- ---- All of them

-- REL and the QLs; edition 2 keeps neither their order nor that nobody who fits waits
pub record Queued (m : BlockModel) (ready rel : List Transaction) (l : List Server) (ql : List (List Transaction)) : Type 0 where
  pub rel-sorted : Sorted precedes rel
  pub ql-sorted : m.edition ≡ 1 → (k : ℕ) → Sorted precedes (get_or ql k [])
  -- who waits on a QL stands at a SEIZE or ENTER of that server
  pub ql-stands : (v : ℕ) → 1 ≤ v → Each (AtServer m v) (nth ql v [])
  -- only edition 1 promises it: under edition 2 a later one that fits may wait behind one that does not
  pub ql-waits : m.edition ≡ 1 → (v : ℕ) → 1 ≤ v → v ≤ servers m → QlWaits m ready (server_in l v) v (nth ql v [])

-- the WELs
pub record Gated (m : BlockModel) (ready : List Transaction) (l : List Server) (wel : List (List Transaction)) : Type 0 where
  pub wel-sorted : m.edition ≡ 1 → (i : ℕ) → Sorted precedes (get_or wel i [])
  pub wel-stands : (i : ℕ) → Each (AtWel m i) (get_or wel i [])
  pub wel-waits : (v : ℕ) (code : Code) → 1 ≤ v → v ≤ servers m
      → WelWaits m ready (server_in l v) code (wel_index v code) (get_or wel (wel_index v code) [])

-- who is on REL or moving
abbrev pub ready_of : Option Transaction → List Transaction → List Transaction
ready_of none rel = rel
ready_of (some t) rel = t ∷ rel

pub record WaitsOver (m : BlockModel) (ready rel : List Transaction) (l : List Server) (ql wel : List (List Transaction)) : Type 0 where
  pub queued : Queued m ready rel l ql
  pub gated : Gated m ready l wel

abbrev pub Waits : BlockModel → State → Type 0
Waits m s = WaitsOver m (ready_of s.moving s.rel) s.rel s.view.servers s.ql s.wel

-- every comparison of the WSL holds, where the WS scheme ran: a turn that a question stopped leaves its transaction moving, and
-- one that ended the run has an end above 1
abbrev pub Settled : BlockModel → State → Type 0
Settled m s = s.moving ≡ none → s.end ≤ 1 → Each (λ t. waits_on m s.view t ≡ true) s.wsl
