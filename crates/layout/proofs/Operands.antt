-- The numbers of a block in the tables.
use Rattle.machine.specs.All.{ℕ, ◌+◌, ◌-◌, ◌*◌, ◌<◌, ◌≡◌, sym, ap, ◌∙◌, subst, List, arith, length, get_or, drop, get_or-take, get_or-drop, Block, BlockModel, block_at}
use Rattle.machine.proofs.Decoding.Proper.{Names}
use Rattle.layout.specs.All.{block_numbers, At, Represents}

pub at-number : (l : List ℕ) (at : ℕ) (numbers : List ℕ) (i : ℕ) → i < length numbers → At l at numbers
    → get_or l (at + i) 0 ≡ get_or numbers i 0
at-number l at numbers i h found =
    sym (get_or-drop at l i 0) ∙ sym (get_or-take (length numbers) (drop at l) i 0 h) ∙ ap (λ (n : List ℕ). get_or n i 0) found

-- number i of block n (from 1), its kind being number 0
pub operand : (m : BlockModel) (tape : List (List ℕ)) (tape_bytes tables lists : List ℕ) → Represents m tape tape_bytes tables lists → (n : ℕ)
    → Names (length m.blocks) n → (b : Block) → block_at m n ≡ b
    → (i : ℕ) → i < length (block_numbers b) → get_or tables (8 * (n - 1) + i) 0 ≡ get_or (block_numbers b) i 0
operand m tape tape_bytes tables lists rep n placed b is i h =
    at-number tables (8 * (n - 1)) (block_numbers b) i h
    (subst (λ (x : Block). At tables (8 * (n - 1)) (block_numbers x)) is (rep.blocks (n - 1) (omega arith)))
