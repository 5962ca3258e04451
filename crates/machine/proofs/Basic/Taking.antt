-- Those who arrive at a clock move come to REL one by one: who moves and what the clock shows stay as they were.
use Rattle.machine.specs.All.{◌≡◌, refl, List, [], ◌∷◌, Event, State, to_rel, arrive_all, move_clock, next_events}

pub arrive_all-moving : (l : List Event) (s : State) → (arrive_all l s).moving ≡ s.moving
unfolding arrive_all to_rel
arrive_all-moving [] s = refl
arrive_all-moving (e ∷ l) s = arrive_all-moving l _

pub arrive_all-clock : (l : List Event) (s : State) → (arrive_all l s).view.clock ≡ s.view.clock
unfolding arrive_all to_rel
arrive_all-clock [] s = refl
arrive_all-clock (e ∷ l) s = arrive_all-clock l _

-- a clock move takes nobody: the taking behind it does
pub next_events-moving : (l : List Event) (s : State) → (next_events l s).moving ≡ s.moving
unfolding next_events move_clock
next_events-moving [] s = refl
next_events-moving (e ∷ l) s = arrive_all-moving _ _
