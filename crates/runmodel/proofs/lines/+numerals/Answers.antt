-- A number and the byte behind it, then the others.
use Rattle.std.proofs.Common.{ℕ, ◌≡◌, ◌+◌, ◌<◌, List, length}
use Rattle.machine.specs.All.{get_or, set, sets, drop}
use Rattle.runmodel.specs.Line.{numeral, behind, numerals}
use Rattle.runmodel.proofs.Stored.{Stored, numerals-nothing, numerals-more}
use Rattle.runmodel.proofs.lines.+numerals.Goals as goal

one_more : (numbers : List ℕ) (i at next end b : ℕ) (l m k : List ℕ) → i < length numbers
    → (next ≡ at + length (numeral 20 (get_or numbers i 0))) → (m ≡ sets l at (numeral 20 (get_or numbers i 0)))
    → b ≡ behind (drop (i + 1) numbers)
    → (end ≡ next + 1 + length (numerals (drop (i + 1) numbers))) → (k ≡ sets (set m next b) (next + 1) (numerals (drop (i + 1) numbers)))
    → Stored l k at end (numerals (drop i numbers))
one_more numbers i at next end b l m k h is so e ends whole =
    numerals-more numbers i at next end l m k h (is, so) (rw (← e) (ends, whole))

pub returns-then-numbers-i-clause-value : goal.returns-then-numbers-i-clause-value
returns-then-numbers-i-clause-value t c = (numerals-nothing _ _ _ c.args.out.now c.if-numbers-i.true).0

pub returns-then-numbers-i-clause-out_after : goal.returns-then-numbers-i-clause-out_after
returns-then-numbers-i-clause-out_after t c = (numerals-nothing _ _ _ c.args.out.now c.if-numbers-i.true).1

pub returns-clause-value : goal.returns-clause-value
returns-clause-value t c =
    let next = c.numeral-next.ensures in
    let others = c.numerals.ensures in
    (one_more _ _ _ _ _ _ _ _ _ c.if-numbers-i.false next.value next.out_after c.behind.ensures others.value others.out_after).0

pub returns-clause-out_after : goal.returns-clause-out_after
returns-clause-out_after t c =
    let next = c.numeral-next.ensures in
    let others = c.numerals.ensures in
    (one_more _ _ _ _ _ _ _ _ _ c.if-numbers-i.false next.value next.out_after c.behind.ensures others.value others.out_after).1
