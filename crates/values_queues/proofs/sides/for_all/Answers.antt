-- `for_all` meets its contract, by cases on whether a parameter is named.
use Rattle.machine.specs.All.{arith, sym, ◌∙◌}
use Rattle.values_queues_laws.proofs.Sharing.{own-inside, for-all-none, for-all_bits, bits-of}
use Rattle.values_queues.proofs.sides.for_all.Goals as goal

pub returns-then-names_own : goal.returns-then-names_own
returns-then-names_own c = for-all-none (sym c.names_own.ensures ∙ c.if-names_own.true)

pub term_at-requires : goal.term_at-requires
term_at-requires c = omega (arith, own-inside _ _ (sym c.names_own.ensures ∙ c.if-names_own.false))

pub returns : goal.returns
returns c =
    for-all_bits (sym c.names_own.ensures ∙ c.if-names_own.false) _ c.term_at.type_inv c.term_at.ensures _
    (bits-of _ c.term_at.type_inv c.cast_unsigned.ensures)
