-- A block's effect apart from its record leaves the records, the clock and the entries as they are.
use Rattle.machine.specs.All.{ℕ, zero, suc, ◌≡◌, refl, Transaction, Block, BlockModel, State, question, none, set_moving}
use Rattle.machine.proofs.Decoding.Proper.{ProperBlock}
use Rattle.state.specs.All.{bare_answer}
use Rattle.state.proofs.BlockGains.{bare-gains}

pub record Unwritten (s x : State) : Type 0 where
  pub records : x.records ≡ s.records
  pub written : x.written ≡ s.written
  pub clock : x.view.clock ≡ s.view.clock
  pub entries : x.view.entries ≡ s.view.entries

-- a block by itself writes no record: `log` does
pub unwritten : (m : BlockModel) (b : Block) (t : Transaction) (s : State) → ProperBlock m b
    → Unwritten s (bare_answer (question m b t s) m b t s).state
unwritten m b t s proper = go (question m b t s) refl
  where
    go : (n : ℕ) → question m b t s ≡ n → Unwritten s (bare_answer n m b t s).state
    go zero e =
        unfold bare_answer in
        let g = (bare-gains m b t (set_moving none s) s.moving proper e).gains in
        record { records = g.records; written = g.written; clock = g.clock; entries = g.entries }
    go (suc n) e = unfold bare_answer in record { records = refl; written = refl; clock = refl; entries = refl }
