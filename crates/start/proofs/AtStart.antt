-- At the start nobody moves.
use Rattle.machine.specs.All.{ℕ, ◌≡◌, refl, ◌∙◌, List, [], ◌∷◌, none, Block, BlockModel, State, start_at, idle, start, suc, start_of}
use Rattle.machine.specs.Moves as Moves
use Rattle.machine.proofs.Lists.Cases.{start_of-cases}

arrival-moving : (l : List ℕ) (list p n : ℕ) (s : State) → (Moves.arrival l list p n s).moving ≡ s.moving
unfolding Moves.arrival Moves.to_fel
arrival-moving [] list p n s = refl
arrival-moving (x ∷ l) list p n s = refl

blocks-moving : (l : List Block) (n : ℕ) (s : State) → (start_at n l s).moving ≡ s.moving
unfolding start_at
blocks-moving [] n s = refl
blocks-moving (b ∷ l) n s =
    blocks-moving l (suc n) (start_of b n s)
    ∙ start_of-cases (λ (s' : State). s'.moving ≡ s.moving) b n s (λ e. refl) (λ e. arrival-moving _ _ _ n s)

pub start-moving : (m : BlockModel) (times : List (List ℕ)) → (start m times).moving ≡ none
unfolding start idle
start-moving m times = blocks-moving m.blocks 1 (idle m times)
