-- `facilities` meets its contract: what is filled is a run of stores.
use Rattle.machine.specs.All.{ℕ, List, ◌+◌, ◌-◌, ◌≤◌, ◌≡◌, replicate, length, sets, length-replicate, length-take, length-drop, sym, ap, ◌∙◌, arith}
use Rattle.std.proofs.lemmas.List.Edits.{sets-eq}
use Rattle.std.proofs.lemmas.Slice.{put_mid-paste}
use Rattle.std.proofs.lemmas.Grind.{common_steps}
use borrow.Rule.Slice.PartMut.{mid_of, put_mid}
use Rattle.decode.proofs.facilities.Goals as goal

middle : (at count : ℕ) (l : List ℕ) → at + count ≤ length l → length (mid_of at (at + count - at) l) ≡ count
middle at count l h = simp (length-take, length-drop) (omega arith)

filled : (at count : ℕ) (l ys : List ℕ) → at + count ≤ length l → ys ≡ replicate count 1
    → put_mid at (at + count - at) l ys ≡ sets l at (replicate count 1)
filled at count l ys h e =
    let n : length (replicate {A = ℕ} count 1) ≡ count = length-replicate count 1 in
    put_mid-paste at (at + count - at) l ys (replicate count 1) count e (omega arith) (sym n)
    ∙ grind (arith, common_steps, n, sets-eq (replicate count 1) l at (omega arith))

pub returns : goal.returns
returns c =
    filled 2560 c.args.count c.args.tables.now _ (omega arith)
    (c.fill.ensures.after (λ y e. e) ∙ ap (λ (k : ℕ). replicate k 1) (middle 2560 c.args.count c.args.tables.now (omega arith)))
