-- The claim of ../specs/Parts.antt, for any rules of at most two editions, and so for those in force.
use Rattle.machine.specs.All.{ℕ, ◌≤◌, ◌≡◌, refl, List, [], ◌∷◌, arith, Rules, in_force, any_of, Block, above_one, BlockModel, Record, State, to_fel, arrival, start_at, idle, start, run, steps, suc, ◌<◌, sym, ap, ◌∙◌}
use Rattle.machine.proofs.{Decoding.Proper.Proper, Lists.Cases.start_of-cases, Runs.Shape.shape-start, NobodyAble.WaitsKept.waits_start, Runs.Placed.placed-start, Decoding.ProperFrom.proper-from, Decoding.ProperFrom.rules-from}
use Rattle.joined.specs.{first, second, join_models, join_tapes, Dry, Apart, TwoPlants, part_of}
use Rattle.joined.proofs as our
use our.{Own.Inside.Inside, Turns.Simulation.Sane, Turns.DryRuns.run-both, Joining.JointStart.joint-start, Records.Recorded.everybody-recorded, Records.Ranked.part-records, Lists.Members.strictly}
use our.Joining.Named.{edition-from, plain-from}
use our.Joining.BothParts.{PlainModel, facing₁, facing₂, inside₁, inside₂}
use our.Joining.ProperJoined.{Fits, fits, proper-joined}

-- ---- The start has no end

arrival-end : (l : List ℕ) (list r n : ℕ) (s : State) → s.end ≡ 0 → (arrival l list r n s).end ≡ 0
unfolding arrival to_fel
arrival-end [] list r n s e = e
arrival-end (x ∷ l) list r n s e = e

start_at-end : (n : ℕ) (l : List Block) (s : State) → s.end ≡ 0 → (start_at n l s).end ≡ 0
unfolding start_at
start_at-end n [] s e = e
start_at-end n (b ∷ l) s e =
    start_at-end (suc n) l _ (start_of-cases (λ (s : State). s.end ≡ 0) b n s (λ q. e) (λ q. arrival-end _ _ _ n s e))

start-end : (m : BlockModel) (tape : List (List ℕ)) → (start m tape).end ≡ 0
unfolding start idle
start-end m tape = start_at-end 1 m.blocks (idle m tape) refl

-- ---- Of decoded models and tapes

module _ (m₁ m₂ : BlockModel) (t₁ t₂ : List (List ℕ)) (proper₁ : Proper m₁ t₁) (proper₂ : Proper m₂ t₂) (limits : Fits m₁ m₂)
    (rules : m₂.rules ≡ m₁.rules)
    (plain₁ : PlainModel (first m₁ m₂) m₁) (plain₂ : PlainModel (second m₁ m₂) m₂)
    (units : (m₁.edition ≡ 1 → ⊥) → any_of above_one m₁.blocks ≡ any_of above_one m₂.blocks) where
  proper : Proper (join_models m₁ m₂) (join_tapes t₁ t₂)
  proper = proper-joined m₁ m₂ proper₁ proper₂ limits rules

  I₁ : Inside (first m₁ m₂) m₁ (join_models m₁ m₂)
  I₁ = inside₁ m₁ m₂ proper₁ proper₂ limits.edition units plain₁

  I₂ : Inside (second m₁ m₂) m₂ (join_models m₁ m₂)
  I₂ = inside₂ m₁ m₂ proper₁ proper₂ limits.edition units plain₂

  sane : Sane (join_models m₁ m₂) (start (join_models m₁ m₂) (join_tapes t₁ t₂))
  sane =
      record {
        shape = shape-start (join_models m₁ m₂) (join_tapes t₁ t₂) proper.tapes;
        waits = (waits_start (join_models m₁ m₂) (join_tapes t₁ t₂)).0;
        placed = placed-start (join_models m₁ m₂) (join_tapes t₁ t₂) proper;
      }

  apart : (joint alone₁ alone₂ : List Record) → Dry (join_models m₁ m₂) (join_tapes t₁ t₂) joint → Dry m₁ t₁ alone₁ → Dry m₂ t₂ alone₂
      → Apart m₁ m₂ joint alone₁ alone₂
  unfolding run
  apart joint alone₁ alone₂ d d₁ d₂ =
      let both =
      run-both proper (first m₁ m₂) m₁ (second m₁ m₂) m₂ I₁ I₂ (facing₁ m₁ m₂) (facing₂ m₁ m₂) d.budget d.room d₁.budget
      d₁.room d₂.budget d₂.room
      steps (start (join_models m₁ m₂) (join_tapes t₁ t₂)) (start m₁ t₁) (start m₂ t₂)
      (joint-start m₁ m₂ proper₁ proper₂ I₁ I₂ (facing₁ m₁ m₂) (facing₂ m₁ m₂) (start-end m₁ t₁) (start-end m₂ t₂)) sane
      (start-end (join_models m₁ m₂) (join_tapes t₁ t₂)) (start-end m₁ t₁) (start-end m₂ t₂) steps steps d.ends d₁.ends d₂.ends in
      record {
        of-first =
            ap (part_of (first m₁ m₂) m₁) d.those_of
            ∙ part-records (first m₁ m₂) m₁ both.first.naming (run (join_models m₁ m₂) (join_tapes t₁ t₂) d.budget d.room)
            (run m₁ t₁ d₁.budget d₁.room) both.first.seen both.first.nobody
            (everybody-recorded proper₁ d₁.budget d₁.room (start-end m₁ t₁) d₁.ends)
            ∙ sym d₁.those_of;
        of-second =
            ap (part_of (second m₁ m₂) m₂) d.those_of
            ∙ part-records (second m₁ m₂) m₂ both.second.naming (run (join_models m₁ m₂) (join_tapes t₁ t₂) d.budget d.room)
            (run m₂ t₂ d₂.budget d₂.room) both.second.seen both.second.nobody
            (everybody-recorded proper₂ d₂.budget d₂.room (start-end m₂ t₂) d₂.ends)
            ∙ sym d₂.those_of;
      }

-- ---- From bytes

pub two_plants : (rules : Rules) → rules.editions ≤ 2 → TwoPlants rules
two_plants rules most model₁ tape₁ model₂ tape₂ work report m₁ m₂ t₁ t₂ a₁ a₂ joins clock₁ clock₂ units joint alone₁ alone₂ d d₁ d₂ =
    apart m₁ m₂ t₁ t₂ proper₁ proper₂ (fits m₁ m₂ joins)
    (rules-from rules model₂ tape₂ work report a₂ ∙ sym (rules-from rules model₁ tape₁ work report a₁))
    (plain-from rules model₁ tape₁ work report a₁ (first m₁ m₂) proper₁.formed clock₁)
    (plain-from rules model₂ tape₂ work report a₂ (second m₁ m₂) proper₂.formed clock₂)
    (λ n. units (second-edition n)) joint alone₁ alone₂ d d₁ d₂
  where
    proper₁ : Proper m₁ t₁
    proper₁ = proper-from rules model₁ tape₁ work report a₁

    proper₂ : Proper m₂ t₂
    proper₂ = proper-from rules model₂ tape₂ work report a₂

    second-edition : (m₁.edition ≡ 1 → ⊥) → m₁.edition ≡ 2
    second-edition n =
        let range = edition-from rules model₁ tape₁ work report a₁ in
        let above : 1 < m₁.edition = strictly 1 m₁.edition range.0 (λ e. n (sym e)) in
        omega (arith, range.1)

pub in-force : TwoPlants in_force
in-force = two_plants in_force (omega arith)
