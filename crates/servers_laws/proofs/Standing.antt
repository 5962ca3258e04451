-- Before a block on a server: what the tables and the tally hold of it.
use Rattle.machine.specs.All.{ℕ, ◌-◌, ◌≤◌, ◌≡◌, refl, List, [], arith, length, get_or-map, Transaction, bit, idle_server, Block, BlockModel, State, set_moving, ql_of, none}
use Rattle.machine.specs.Term
use Rattle.machine.proofs.Decoding.Proper.{servers}
use Rattle.machine.proofs.Runs.Shape.{capacity_of, each-get_or, server-length, ql-at, wel-at}
use Rattle.state.specs.declared.scalars.Scalars.{Scalars}
use Rattle.moves.proofs.{Before.Before, BeforeLaws.few-lists}
use Rattle.servers_laws.specs.{in_use, holder, preempted, capacity}
use Rattle.servers_laws.proofs.Ready.{Ready}
use mathlib.Core.Path.{sym, ap, ◌∙◌}
use lib.ListN.{get_or}

module _ {m : BlockModel} {tape : List (List ℕ)} {tape_bytes tables lists w tally : List ℕ} {x : Scalars} {t : Transaction} {s : State}
    {b : Block}
    (h : Before m tape tape_bytes tables lists w tally x t s b) (v : ℕ) (low : 1 ≤ v) (there : v ≤ servers m) where
  pub high : v ≤ 64
  high = omega (arith, h.proper.facilities, h.proper.storages)

  pub units_are : in_use tally (v - 1) ≡ (Term.server_at s.view v).in_use
  unfolding Term.server_at
  units_are = h.tallying.servers.in_use (v - 1) (omega (arith, high))

  pub holder-is : holder tally (v - 1) ≡ (Term.server_at s.view v).holder
  unfolding Term.server_at
  holder-is = h.tallying.servers.holders (v - 1) (omega (arith, high))

  pub preempted-is : preempted tally (v - 1) ≡ bit (Term.server_at s.view v).preempted
  unfolding Term.server_at
  preempted-is = h.tallying.servers.preempts (v - 1) (omega (arith, high))

  pub capacity-is : capacity tables (v - 1) ≡ (Term.server_at s.view v).capacity
  unfolding Term.server_at idle_server
  capacity-is =
      h.rep.capacities (v - 1) (omega (arith, high)) ∙ ap (λ (l : List ℕ). get_or l (v - 1) 0) (sym h.sane.shape.capacities)
      ∙ get_or-map capacity_of s.view.servers (v - 1) (idle_server 0)

  -- no QL is longer than 1,024
  pub short : length (ql_of s v) ≤ 1024
  short = each-get_or (λ (l : List Transaction). length l ≤ 1024) s.ql (v - 1) [] h.sane.waiting (omega arith)

  pub ready : Ready tape_bytes x t v (Term.server_at s.view v).in_use (Term.server_at s.view v).capacity w tally (set_moving none s)
  ready =
      record {
        listing = h.listing;
        tallying = h.tallying;
        counting = h.counting;
        low = low;
        high = high;
        held = refl;
        holds = refl;
        wels = λ code. wel-at h.sane.shape v code low there;
        ql = ql-at h.sane.shape v low there;
        server = omega (arith, server-length h.sane.shape);
        samples = few-lists h;
      }
