-- Claim 4 of demand 3, of every state of a run under edition 1: of two equal waits the one that began later ended only after the other.
use Rattle.machine.specs.All.{ℕ, ◌≡◌, List, reverse, arith, BlockModel, State, turn, states, set_end, Each, InOrder}
use Rattle.machine.proofs as our
use our.{Decoding.Proper.Proper, Runs.RunLaws.each-state, Basic.Each.each_map}
use our.NobodyAble.Waiting.{Waits, Settled}
use our.NobodyAble.WaitsKept.{waits_kept, waits_start}
use our.Conservation.Conservation.{Sound, sound-start, sound-turn, stands-at-most-once}
use our.Order.OrderKept.{Ordered, ordered-turn, ordered-start, ordered_end}

-- all that the order of waits rests on
record Held (m : BlockModel) (tape : List (List ℕ)) (s : State) : Type 0 where
  sound : Sound m tape s
  waits : Waits m s
  settled : Settled m s
  ordered : Ordered m tape s

module _ {m : BlockModel} {tape : List (List ℕ)} (proper : Proper m tape) (first : m.edition ≡ 1) where
  held-turn : (s : State) → s.end ≡ 0 → Held m tape s → Held m tape (turn m s)
  held-turn s z k =
      let w = waits_kept proper s z k.sound.shape k.waits in
      record {
        sound = sound-turn m tape proper s k.sound;
        waits = w.0;
        settled = w.1;
        ordered =
            ordered-turn m tape first proper s z k.sound.shape k.waits k.settled (stands-at-most-once m tape s k.sound)
            k.ordered;
      }

  held-end : (s : State) (e : ℕ) → s.end ≡ 0 → Held m tape s → Held m tape (set_end e s)
  held-end s e z k =
      record {
        sound = record { shape = k.sound.shape; balanced = k.sound.balanced; books = k.sound.books };
        waits = k.waits;
        settled = λ o h. k.settled o (omega arith);
        ordered = ordered_end m tape s e z k.ordered;
      }

  pub in_order : (budget room : ℕ) → Each (λ s. InOrder m tape (reverse s.records)) (states m tape budget room)
  in_order budget room =
      each_map (λ s k. k.ordered.in_order) (states m tape budget room)
      (each-state m budget room (Held m tape) (λ s t k. held-turn s t.no_end k) (λ s e c k. held-end s e c.no_end k) tape
      (record {
        sound = sound-start m tape proper;
        waits = (waits_start m tape).0;
        settled = (waits_start m tape).1;
        ordered = ordered-start m tape;
      }))
