-- A turn after the taking: nothing is noted, or the moving one's block gains what a block may gain and its record is noted.
use Rattle.machine.specs.All.{ℕ, zero, suc, ◌≡◌, refl, List, Option, none, some, arith, Transaction, BlockModel, block_at, State, set_moving, question, answer, execute, ws_scheme}
use Rattle.machine.proofs.Decoding.Proper.{Proper}
use Rattle.state.specs.All.{Note, note_as, bare, bare_answer}
use Rattle.state.proofs as our
use our.Noted.{noted-answer}
use our.Gains.{Gains, gains_trans, gains-most}
use our.BlockGains.{still, gains-ws_scheme, Moderate, bare-gains}
use mathlib.Core.Path.{sym, subst}

pub data Turned (s s' : State) : Type 0 where
  -- nobody was there to move, or a question stopped the turn
  unnoted : Gains 0 0 0 s s' → Turned s s'
  noted : (t : Transaction) → s.moving ≡ some t → (n : Note) (later : State) → Moderate s later → Gains 0 0 0 (note_as n t s later) s'
      → Turned s s'

moderate-hand : (s s' : State) → Moderate (set_moving none s) s' → Moderate s s'
moderate-hand s s' h =
    record {
      new = h.new;
      room = h.room;
      gains =
          gains-most _ _ _ (omega arith) (omega arith) (omega arith)
          (gains_trans (still s (set_moving none s) refl refl refl refl refl refl refl refl refl refl) h.gains);
    }

module _ {m : BlockModel} {tape : List (List ℕ)} (proper : Proper m tape) where
  answered : (n : ℕ) (t : Transaction) (s : State) → s.moving ≡ some t → question m (block_at m t.next) t s ≡ n
      → Turned s (ws_scheme m (answer n m (block_at m t.next) t s))
  unfolding bare_answer
  answered zero t s e q =
      let r = bare m (block_at m t.next) t (set_moving none s) in
      let g : Moderate (set_moving none s) r.state =
      bare-gains m (block_at m t.next) t (set_moving none s) s.moving (proper.block t.next) q in
      noted t e r.note r.state (moderate-hand s r.state g)
      (subst (λ (x : State). Gains 0 0 0 x (ws_scheme m (answer zero m (block_at m t.next) t s)))
      (sym (noted-answer zero m (block_at m t.next) t s))
      (gains-ws_scheme m _))
  answered (suc n) t s e q = unnoted (gains_trans (stopped n t s) (gains-ws_scheme m _))
    where
      stopped : (n : ℕ) (t : Transaction) (s : State) → Gains 0 0 0 s (answer (suc n) m (block_at m t.next) t s)
      stopped n t s = unfold answer in still s _ refl refl refl refl refl refl refl refl refl refl

  executed : (o : Option Transaction) (s : State) → s.moving ≡ o → Turned s (ws_scheme m (execute o m s))
  unfolding execute
  executed none s e = unnoted (gains-ws_scheme m s)
  executed (some t) s e = answered _ t s e refl

  pub turned : (s : State) → Turned s (ws_scheme m (execute s.moving m s))
  turned s = executed s.moving s refl
