-- `term_range` meets its contract: each tag is a line of `range_of`, and all from 9 on are the last.
use Rattle.machine.specs.All.{◌≤◌, ◌≡◌, arith, inl, inr, ne_eqb}
use Rattle.layout.specs.Tags.{tag_number}
use Rattle.parse_values.specs.{range_of}
use Rattle.parse_values.proofs.term_range.Goals as goal

pub returns-in-Parameter-clause-value : goal.returns-in-Parameter-clause-value
unfolding range_of
returns-in-Parameter-clause-value c =
    let most : c.min.result ≤ 11 = omega (arith, c.min.ensures) in
    let e : c.args.tag ≡ 2 = omega (arith, c.min.ensures, c.in-Parameter.ensures.known most) in
    rw e

pub returns-in-Clock-clause-value : goal.returns-in-Clock-clause-value
unfolding range_of
returns-in-Clock-clause-value c =
    let most : c.min.result ≤ 11 = omega (arith, c.min.ensures) in
    let e : c.args.tag ≡ 3 = omega (arith, c.min.ensures, c.in-Clock.ensures.known most) in
    rw e

pub returns-in-Entries-clause-value : goal.returns-in-Entries-clause-value
unfolding range_of
returns-in-Entries-clause-value c =
    let most : c.min.result ≤ 11 = omega (arith, c.min.ensures) in
    let e : c.args.tag ≡ 4 = omega (arith, c.min.ensures, c.in-Entries.ensures.known most) in
    rw e

pub returns-in-Content-clause-value : goal.returns-in-Content-clause-value
unfolding range_of
returns-in-Content-clause-value c =
    let most : c.min.result ≤ 11 = omega (arith, c.min.ensures) in
    let e : c.args.tag ≡ 5 = omega (arith, c.min.ensures, c.in-Content.ensures.known most) in
    rw e

pub returns-in-FacilityInUse-clause-value : goal.returns-in-FacilityInUse-clause-value
unfolding range_of
returns-in-FacilityInUse-clause-value c =
    let most : c.min.result ≤ 11 = omega (arith, c.min.ensures) in
    let e : c.args.tag ≡ 8 = omega (arith, c.min.ensures, c.in-FacilityInUse.ensures.known most) in
    rw e

pub returns-in-Constant-clause-value : goal.returns-in-Constant-clause-value
unfolding range_of
returns-in-Constant-clause-value c =
    let most : c.min.result ≤ 11 = omega (arith, c.min.ensures) in
    elim c.in-Constant.is [
      | inl f ↦ let e : c.args.tag ≡ 0 = omega (arith, c.min.ensures, (rw f at c.of.ensures.known) most) in rw e
      | inr f ↦ let e : c.args.tag ≡ 1 = omega (arith, c.min.ensures, (rw f at c.of.ensures.known) most) in rw e
    ]

pub returns-in-UnitsInUse-clause-value : goal.returns-in-UnitsInUse-clause-value
unfolding range_of
returns-in-UnitsInUse-clause-value c =
    let most : c.min.result ≤ 11 = omega (arith, c.min.ensures) in
    elim c.in-UnitsInUse.is [
      | inl f ↦ let e : c.args.tag ≡ 6 = omega (arith, c.min.ensures, (rw f at c.of.ensures.known) most) in rw e
      | inr f ↦ let e : c.args.tag ≡ 7 = omega (arith, c.min.ensures, (rw f at c.of.ensures.known) most) in rw e
    ]

pub returns-in-Value-clause-value : goal.returns-in-Value-clause-value
unfolding range_of
returns-in-Value-clause-value c =
    let most : c.min.result ≤ 11 = omega (arith, c.min.ensures) in
    let last : 9 ≤ tag_number c.of.result = elim c.in-Value.is [
      | inl f ↦ rw f (omega arith)
      | inr g ↦ elim g [ inl f ↦ rw f (omega arith) | inr f ↦ rw f (omega arith) ]
    ] in
    let h : 9 ≤ c.args.tag = omega (arith, c.min.ensures, c.of.ensures.known most) in
    rw (
      ne_eqb c.args.tag 0 (λ e. omega arith),
      ne_eqb c.args.tag 1 (λ e. omega arith),
      ne_eqb c.args.tag 2 (λ e. omega arith),
      ne_eqb c.args.tag 3 (λ e. omega arith),
      ne_eqb c.args.tag 4 (λ e. omega arith),
      ne_eqb c.args.tag 5 (λ e. omega arith),
      ne_eqb c.args.tag 6 (λ e. omega arith),
      ne_eqb c.args.tag 7 (λ e. omega arith),
      ne_eqb c.args.tag 8 (λ e. omega arith),
    )
