-- Document 02, item 11: who loses a facility to a PREEMPT had seized it and has a lower priority.
use Rattle.machine.specs.All.{ℕ, ◌≤◌, ◌<◌, ◌≡◌, refl, sym, Bool, true, false, ◌&&◌, true≢false, List, ◌∷◌, ltb-true, eqb-true, not-true, Transaction, Event, Server, server_at, State, loses_to, losers_to, not, ltb, eqb}
use Rattle.machine.proofs.Basic.Each.{each-passes}

pub record Loses (t : Transaction) (v : Server) (e : Event) : Type 0 where
  pub in_use : 1 ≤ v.in_use
  pub seized : v.preempted ≡ false
  pub number : e.who.number ≡ v.holder
  pub lower : e.who.priority < t.priority

all-four : (a b c d : Bool) → (a && b && c && d) ≡ true → (a ≡ true) × (b ≡ true) × (c ≡ true) × (d ≡ true)
all-four true true true true e = (refl, refl, refl, refl)
all-four true true true false e = absurd (true≢false (sym e))
all-four true true false d e = absurd (true≢false (sym e))
all-four true false c d e = absurd (true≢false (sym e))
all-four false b c d e = absurd (true≢false (sym e))

-- the first of those that PREEMPT may take the facility from
pub loser-loses : (t : Transaction) (f : ℕ) (s : State) (e : Event) (l : List Event) → losers_to t f s ≡ e ∷ l
    → Loses t (server_at s.view f) e
unfolding loses_to
loser-loses t f s e l k =
    let v : Server = server_at s.view f in
    let h = all-four (ltb 0 v.in_use) (not v.preempted) (eqb e.who.number v.holder) (ltb e.who.priority t.priority)
    (rw k at (each-passes (loses_to t v) s.fel)).0 in
    record { in_use = ltb-true _ _ h.0; seized = not-true _ h.1; number = eqb-true _ _ h.2; lower = ltb-true _ _ h.3 }
