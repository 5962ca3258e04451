-- The FEL lies ahead: no move time is behind the clock, and times never fall along the FEL. So the clock never falls.
use Rattle.machine.specs.All.{◌≤◌, Bool, List, [], ◌∷◌, arith, Event, earlier, insert, those, replace_first, State, Each}
use Rattle.machine.proofs as our
use our.Basic.Bools.{cond_cases}
use our.Basic.Each.{each_map, each-insert, each-those, each_replace}
use our.Lists.Sorted.{earlier-time, later-time}

abbrev pub Rising : List Event → Type 0
Rising [] = Unit {0}
Rising (x ∷ l) = Each (λ (y : Event). x.time ≤ y.time) l × Rising l

pub record Ahead (s : State) : Type 0 where
  pub later : Each (λ (e : Event). s.view.clock ≤ e.time) s.fel
  pub rising : Rising s.fel

-- the FEL's order puts a newcomer where times still rise
pub rising-insert : (x : Event) (l : List Event) → Rising l → Rising (insert earlier x l)
unfolding insert
rising-insert x [] h = (tt, tt)
rising-insert x (y ∷ l) h =
    cond_cases Rising (earlier x y) _ _
    (λ e. let le : x.time ≤ y.time = earlier-time x y e in ((le, each_map (λ z (n : y.time ≤ z.time). omega arith) l h.0), h))
    (λ e. (each-insert (λ (z : Event). y.time ≤ z.time) earlier x l (later-time x y e) h.0, rising-insert x l h.1))

pub rising-those : (p : Event → Bool) (l : List Event) → Rising l → Rising (those p l)
unfolding those
rising-those p [] h = tt
rising-those p (x ∷ l) h =
    cond_cases Rising (p x) _ _ (λ e. (each-those (λ (y : Event). x.time ≤ y.time) p l h.0, rising-those p l h.1))
    (λ e. rising-those p l h.1)

pub rising-without : (p : Event → Bool) (l : List Event) → Rising l → Rising (replace_first p [] l)
unfolding replace_first
rising-without p [] h = tt
rising-without p (x ∷ l) h =
    cond_cases Rising (p x) _ _ (λ e. h.1)
    (λ e. (each_replace (λ (y : Event). x.time ≤ y.time) p [] l tt h.0, rising-without p l h.1))
