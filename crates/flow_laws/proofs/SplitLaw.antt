-- 14 SPLIT: the row machine does what the machine does.
use Rattle.machine.specs.All.{ℕ, zero, suc, ◌+◌, ◌-◌, ◌≤◌, ◌≡◌, refl, ◌∙◌, subst, false, List, none, some, arith, leb, length, get_or, max_living, Transaction, split, BlockModel, State, with_next, with_returning, set_made, set_moving, unless, question}
use Rattle.machine.specs.Moves as Moves
use Rattle.machine.proofs.Decoding.Proper.{Names}
use Rattle.layout.specs.All.{block_forms}
use Rattle.state.specs.declared.scalars.Scalars.{Scalars}
use Rattle.state.specs.All.{bare, Listing, Tallying, Counting, Done}
use Rattle.moves.proofs.Before.{place_of, bare_block, Before}
use Rattle.moves.specs.Motion.{moved, with_tally, go_to}
use Rattle.moves.proofs.BeforeLaws.{next_low, proper-block, operand, asked-moved}
use Rattle.moves.proofs.MotionLaws.{go-to-listing, go-to-counting, go-on-is}
use Rattle.flow_laws.specs.{copies_of, split_on, split_rows}
use Rattle.flow_laws.proofs as our
use our.New.{Follows, follows-done, Roomy, copy-follows}
use our.Asked.{room-asked, room_yes}
use Rattle.flow_laws.specs.Sending.{copy_one}

-- ---- Copies

-- room for n more
record Room (n : ℕ) (s : State) : Type 0 where
  living : s.made - s.ended + n ≤ 1024
  order : s.ended ≤ s.made
  serials : s.serial + n ≤ 4294967295
  numbers : s.made + n ≤ 4294967295

abbrev one_more_lem : ℕ → Transaction → State → State
one_more_lem target t s = Moves.to_rel (Moves.copy_of t (suc s.made) target) (set_made (suc s.made) s)

room-less : (n target : ℕ) (t : Transaction) (s : State) → Room (suc n) s → Room n (one_more_lem target t s)
unfolding Moves.to_rel
room-less n target t s h =
    record {
      living = omega (arith, h.living, h.order);
      order = omega (arith, h.order);
      serials = omega (arith, h.serials);
      numbers = omega (arith, h.numbers);
    }

roomy : (n : ℕ) (s : State) → Room (suc n) s → Roomy s
roomy n s h =
    record {
      room = omega (arith, h.living);
      order = h.order;
      serials = omega (arith, h.serials);
      numbers = omega (arith, h.numbers);
    }

module _ (target : ℕ) (t : Transaction) where
  copies_follow : (n : ℕ) {w : List ℕ} (x : Scalars) {s : State} → Listing w x.moving (some t) s → Counting x s → Room n s
      → Follows (copies_of n w x target) x.note (some t) (Moves.copies n target t s)
  unfolding copies_of Moves.copies moved
  copies_follow zero x listing counting room = record { listing = listing; counting = counting; note = refl }
  copies_follow (suc n) {w} x {s} listing counting room =
      let one : Follows (copy_one w x target) x.note (some t) (one_more_lem target t s) =
      copy-follows x listing counting (roomy n s room) target in
      let more = copies_follow n (copy_one w x target).scalars one.listing one.counting (room-less n target t s room) in
      record { listing = more.listing; counting = more.counting; note = more.note ∙ one.note }

  copies-tally : {tape_bytes tally : List ℕ} (n : ℕ) (s : State) → Tallying tape_bytes tally s
      → Tallying tape_bytes tally (Moves.copies n target t s)
  unfolding Moves.copies Moves.to_rel
  copies-tally zero s h = h
  copies-tally (suc n) s h = copies-tally n (one_more_lem target t s) h

  -- where the transaction stands does not matter to its copies
  copies-on : (block n : ℕ) (s : State) → Moves.copies n target (with_returning false (with_next block t)) s ≡ Moves.copies n target t s
  unfolding Moves.copies
  copies-on block zero s = refl
  copies-on block (suc n) s = copies-on block n (one_more_lem target t s)

-- ---- The block

module _ {m : BlockModel} {tape : List (List ℕ)} {tape_bytes tables lists w tally : List ℕ} {x : Scalars} {t : Transaction} {s : State}
    {n target : ℕ} (h : Before m tape tape_bytes tables lists w tally x t s (split n target)) where
  count-is : get_or tables (place_of t + 1) 0 ≡ n
  unfolding block_forms
  count-is = operand h 1 (omega arith)

  target_is : get_or tables (place_of t + 2) 0 ≡ target
  unfolding block_forms
  target_is = operand h 2 (omega arith)

  named : Names 255 n × Names (length m.blocks) target
  named = proper-block h

  abbrev s₀ : State
  s₀ = set_moving none s

  abbrev q : ℕ
  q = unless (leb (s.made - s.ended + n) max_living) 21 0

  abbrev t' : Transaction
  t' = with_returning false (with_next (suc t.next) t)

  abbrev w' : List ℕ
  w' = (go_to w x (suc t.next)).work

  abbrev x' : Scalars
  x' = (go_to w x (suc t.next)).scalars

  abbrev after : State
  after = Moves.copies n target t s₀

  split-is : split_on w x n target ≡ copies_of n w' x' target
  unfolding split_on
  split-is = rw (go-on-is x h.listing (next_low h))

  module _ (yes : q ≡ 0) where
    follows : Follows (copies_of n w' x' target) x'.note (some t') after
    follows =
        subst (λ (z : State). Follows (copies_of n w' x' target) x'.note (some t') z) (copies-on target t (suc t.next) n s₀)
        (copies_follow target t' n x' (go-to-listing x h.listing (suc t.next)) (go-to-counting w x (suc t.next) s₀ h.counting)
        (record {
          living = room_yes s n yes;
          order = h.sane.ended;
          serials = omega (arith, h.sane.serials, named.0.1);
          numbers = omega (arith, h.sane.serials, h.sane.made, named.0.1);
        }))

    copied : Done tape_bytes (with_tally (split_on w x n target) tally) (bare m (split n target) t s₀)
    unfolding bare Moves.move_to
    copied =
        rw split-is
        (follows-done
        (record { listing = follows.listing; counting = follows.counting; note = follows.note ∙ (unfold go_to moved in refl) }) refl
        (copies-tally target t n s₀ h.tallying))

  pub split_done : Done tape_bytes (with_tally (split_rows tables w x (place_of t)) tally) (bare_block m (split n target) t s)
  unfolding split_rows question
  split_done = rw (count-is, target_is, room-asked h n (omega (arith, named.0.1))) (asked-moved h q (split_on w x n target) copied)
