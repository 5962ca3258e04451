-- Bytes, "Report: clock, made, ended; per facility and storage: ..; per queue: ..; the living count and, per living one,
-- number and place". Document 02, item 2: "List the living by rising transaction number."
use Rattle.std.specs.Prelude.{◌&&◌, ◌∷◌, ◌++◌}
use Rattle.machine.specs.Basics.{ℕ, suc, Bool, List, [], map, Option, none, some, ltb, eqb, length}
use Rattle.machine.specs.{Transaction.Transaction, Lists.insert, Lists.those, Lists.flat, Term.Server, Term.Queue, Facts.Facts, Block.facts, Block.BlockModel, Block.block_at, Number.number_bytes, State.State, State.Logged}

-- how many records of an outcome stand at blocks that pass a test
unfoldable pub records_at : BlockModel → ℕ → (Facts → Bool) → List Logged → ℕ
records_at m outcome p l = length (those (λ r. eqb r.entry.outcome outcome && p (facts (block_at m r.entry.block))) l)

-- "entries (outcome 0 at the blocks that take it, of any units), unit ticks in use, waits begun (outcome 1 there), ticks
-- waited .., longest QL before a clock move", for the servers from number v on
unfoldable pub server_numbers : BlockModel → List Logged → ℕ → List Server → List ℕ
server_numbers m records v [] = []
server_numbers m records v (x ∷ l) =
    records_at m 0 (λ f. eqb f.server v) records
    ∷ x.unit_ticks
    ∷ records_at m 1 (λ f. eqb f.server v) records
    ∷ x.wait_ticks
    ∷ x.longest
    ∷ server_numbers m records (suc v) l

-- "per queue: arrivals, content ticks, longest at a clock move", for the queues from number q on
unfoldable pub queue_numbers : BlockModel → List Logged → ℕ → List Queue → List ℕ
queue_numbers m records q [] = []
queue_numbers m records q (x ∷ l) =
    records_at m 0 (λ f. eqb f.queue q) records ∷ x.content_ticks ∷ x.longest ∷ queue_numbers m records (suc q) l

-- ---- The living

-- A living transaction's number and place.
pub record Place : Type 0 where
  pub number : ℕ
  pub place : ℕ

unfoldable pub placed : ℕ → List Transaction → List Place
placed place l = map (λ t. record { number = t.number; place = place }) l

unfoldable pub moving_one : Option Transaction → List Transaction
moving_one none = []
moving_one (some t) = t ∷ []

-- "1 QL, 2 WEL, 3 WSL, 4 FEL, 5 REL, 6 moving"; document 02, item 8: "waits there, place 7", item 11: "a list of
-- interrupted ones, place 8"
unfoldable pub places : State → List Place
places s =
    placed 1 (flat s.ql) ++ placed 2 (flat s.wel) ++ placed 3 s.wsl ++ placed 4 (map (λ e. e.who) s.fel) ++ placed 5 s.rel
    ++ placed 6 (moving_one s.moving) ++ placed 7 (map (λ g. g.who) (flat s.gatherers)) ++ placed 8 (map (λ i. i.who) s.interrupted)

unfoldable pub by_number : List Place → List Place
by_number [] = []
by_number (p ∷ l) = insert (λ a b. ltb a.number b.number) p (by_number l)

unfoldable pub place_numbers : List Place → List ℕ
place_numbers [] = []
place_numbers (p ∷ l) = p.number ∷ p.place ∷ place_numbers l

-- ---- The whole report

unfoldable pub report_numbers : BlockModel → State → List ℕ
report_numbers m s =
    s.view.clock
    ∷ s.made
    ∷ s.ended
    ∷ (server_numbers m s.records 1 s.view.servers ++ queue_numbers m s.records 1 s.view.queues
    ++ length (places s) ∷ place_numbers (by_number (places s)))

unfoldable pub report_bytes_lem : BlockModel → State → List ℕ
report_bytes_lem m s = flat (map number_bytes (report_numbers m s))
