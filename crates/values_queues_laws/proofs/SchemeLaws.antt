-- The WS scheme over the rows is the machine's.
use Rattle.machine.specs.All.{ℕ, ◌+◌, ◌-◌, ◌*◌, ◌≤◌, ◌<◌, ◌≡◌, refl, sym, ap, ◌∙◌, subst, Bool, true, false, cond, not, List, ◌∷◌, Option, none, arith, ltb-true, ltb-false, lt-ltb, le-ltb, ltb, eqb, length, get_or, get_or-eq_default, Transaction, View, compare, Term, Relation, truth, Block, terminate, facility, storage, wait_terms, facts, BlockModel, State, wake_wsl}
use Rattle.machine.specs.Turn as Turn
use Rattle.machine.proofs.Decoding.Proper.{Proper}
use Rattle.layout.specs.All.{block_forms, block_numbers, Represents}
use Rattle.layout.specs.Layout as Layout
use Rattle.rows_laws.specs.All.{head, wsl, read, wake_all, transaction_at}
use Rattle.evaluation.specs.{Evaluation.related_by, Nested.Nested, Sees.Sees}
use Rattle.evaluation.proofs.Found.{at_first}
use Rattle.state.specs.All.{Rows, rows_of, Stands}
use Rattle.state.proofs.{Sane.Sane, StandsLaws.stands_of, WakingLaws.wake-wsl-listing}
use Rattle.values_queues_laws.specs.{block_of, leaves_from, leaves, ws_scheme, side_at}
use Rattle.values_queues_laws.proofs.{Sees.Low, Sees.sees, Operands.numbers, Sharing.sides_law}
use Rattle.layout.proofs.BlockKinds.{Kinds, generating, taking, waiting, arriving, preempting, other, kinds, unasked}
use Rattle.layout.specs.Represents.{At}

-- ---- Whether a row leaves

module _ {m : BlockModel} {tape : List (List ℕ)} {tape_bytes tables lists : List ℕ} (rep : Represents m tape tape_bytes tables lists)
    (nested : Nested m)
    {view : View} {tally : List ℕ} {clock : ℕ} (seen : Sees view tables tally clock) (w : List ℕ) (k : ℕ) where
  abbrev i : ℕ
  i = read w 6 k - 1

  abbrev holding : Bool
  holding =
      related_by (get_or tables (block_of w k + 3) 0) (side_at tables (length m.values) tally clock w k (block_of w k + 1))
      (side_at tables (length m.values) tally clock w k (block_of w k + 4))

  abbrev waits_at : Block → Bool
  waits_at b = Turn.holds m.values view (transaction_at w k).parameters (facts b).waits_while

  -- the block's number says whether it is a WAITIF
  module _ (inside : i < length m.blocks) where
    kind : (b : Block) (n : ℕ) (rest : List ℕ) → block_numbers b ≡ n ∷ rest → get_or m.blocks i (terminate 0) ≡ b
        → get_or tables (block_of w k) 0 ≡ n
    unfolding block_of
    kind b n rest e f =
        sym (at_first tables (Layout.block_width * i) n rest (subst (At tables (Layout.block_width * i)) e (numbers rep i inside b f))).found

    another : (b : Block) (n : ℕ) (rest : List ℕ) → eqb n 9 ≡ false → (facts b).waits_while ≡ none → block_numbers b ≡ n ∷ rest
        → get_or m.blocks i (terminate 0) ≡ b
        → cond (eqb (get_or tables (block_of w k) 0) 9) (not holding) true ≡ not (waits_at b)
    unfolding Turn.holds
    another b n rest d none_is e f = rw (kind b n rest e f, d, none_is)

    leaves_at : (b : Block) → get_or m.blocks i (terminate 0) ≡ b
        → cond (eqb (get_or tables (block_of w k) 0) 9) (not holding) true ≡ not (waits_at b)
    leaves_at b f = go (kinds b)
      where
        like : {c : Block} → b ≡ c → cond (eqb (get_or tables (block_of w k) 0) 9) (not holding) true ≡ not (waits_at c)
            → cond (eqb (get_or tables (block_of w k) 0) 9) (not holding) true ≡ not (waits_at b)
        like e h = h ∙ ap (λ (x : Block). not (waits_at x)) (sym e)

        compared : (a : Term) (o : Relation) (c : Term) → b ≡ wait_terms a o c
            → holding ≡ compare m.values view (transaction_at w k).parameters a o c
        compared a o c e =
            unfold block_of in
            sides_law rep nested seen w k i inside a o c (f ∙ e)

        go : Kinds b → cond (eqb (get_or tables (block_of w k) 0) 9) (not holding) true ≡ not (waits_at b)
        go (generating list p e) = like e (unfold block_forms in another _ 1 _ refl refl refl (f ∙ e))
        go (taking (facility v) e) = like e (unfold block_forms in another _ 4 _ refl refl refl (f ∙ e))
        go (taking (storage v n) e) = like e (unfold block_forms in another _ 6 _ refl refl refl (f ∙ e))
        go (waiting a o c e) = like e (unfold block_forms Turn.holds truth in rw (kind _ 9 _ refl (f ∙ e)) (ap not (compared a o c e)))
        go (arriving q e) = like e (unfold block_forms in another _ 15 _ refl refl refl (f ∙ e))
        go (preempting v e) = like e (unfold block_forms in another _ 19 _ refl refl refl (f ∙ e))
        go (other n rest e d g) = another b n rest (unasked n d).no_wait (ap (λ x. x.waits_while) g) e f

  inside-below : i < length m.blocks → ltb (block_of w k) (Layout.block_width * length m.blocks) ≡ true
  unfolding block_of
  inside-below h = lt-ltb (Layout.block_width * i) (Layout.block_width * length m.blocks) (omega arith)

  outside_above : length m.blocks ≤ i → ltb (block_of w k) (Layout.block_width * length m.blocks) ≡ false
  unfolding block_of
  outside_above h = le-ltb (Layout.block_width * i) (Layout.block_width * length m.blocks) (omega arith)

  -- a row whose next block is none of the model's counts as one at a TERMINATE
  outside : length m.blocks ≤ i → waits_at (get_or m.blocks i (terminate 0)) ≡ false
  unfolding Turn.holds facts
  outside h = rw (get_or-eq_default m.blocks (terminate 0) h)

  -- the row's test is the machine's: the comparison no longer holds
  pub leaves_agrees : leaves tables (length m.blocks) (length m.values) tally clock w k
      ≡ not (Turn.waits_on m view (transaction_at w k))
  unfolding leaves leaves_from Turn.waits_on transaction_at
  leaves_agrees = go (ltb i (length m.blocks)) refl
    where
      go : (b : Bool) → ltb i (length m.blocks) ≡ b
          → cond (ltb (block_of w k) (Layout.block_width * length m.blocks))
          (cond (eqb (get_or tables (block_of w k) 0) 9) (not holding) true) true
          ≡ not (waits_at (get_or m.blocks i (terminate 0)))
      go true e =
          let lt : i < length m.blocks = ltb-true i (length m.blocks) e in
          rw (inside-below lt) (leaves_at lt _ refl)
      go false e =
          let le : length m.blocks ≤ i = ltb-false i (length m.blocks) e in rw (outside_above le, outside le)

-- ---- The scheme

module _ {m : BlockModel} {tape : List (List ℕ)} {tape_bytes tables lists : List ℕ} (proper : Proper m tape)
    (rep : Represents m tape tape_bytes tables lists) (nested : Nested m)
    (r : Rows) (o : Option Transaction) (s : State) (low : Low m s) (stands : Stands tape_bytes r o s) where
  abbrev test : List ℕ → ℕ → Bool
  test = leaves tables (length m.blocks) (length m.values) r.tally r.scalars.clock

  abbrev P : Transaction → Bool
  P t = not (Turn.waits_on m s.view t)

  woken : Stands tape_bytes (rows_of r.scalars (wake_all test 1024 r.work wsl (head wsl)) r.tally) o (wake_wsl P s)
  woken =
      stands_of r.scalars
      (wake-wsl-listing r.work r.scalars.moving o s stands.listing test P
      (leaves_agrees rep nested (sees low r.scalars proper rep stands.tallying stands.counting)))
      (unfold wake_wsl in stands.tallying) (unfold wake_wsl in stands.counting)

  pub scheme-stands : Stands tape_bytes
      (rows_of r.scalars (ws_scheme tables (length m.blocks) (length m.values) r.tally r.scalars r.work) r.tally) o
      (Turn.ws_scheme m s)
  unfolding ws_scheme Turn.ws_scheme
  scheme-stands =
      subst
      (λ (n : ℕ).
      Stands tape_bytes (rows_of r.scalars (cond (eqb n 0) (wake_all test 1024 r.work wsl (head wsl)) r.work) r.tally) o
      (cond (eqb s.end 0) (wake_wsl P s) s))
      (sym stands.counting.end) (go (eqb s.end 0))
    where
      go : (b : Bool)
          → Stands tape_bytes (rows_of r.scalars (cond b (wake_all test 1024 r.work wsl (head wsl)) r.work) r.tally) o
          (cond b (wake_wsl P s) s)
      go true = woken
      go false = unfold rows_of in record { listing = stands.listing; tallying = stands.tallying; counting = stands.counting }

-- what the state after the scheme has of shape and small numbers, the state before it has
pub scheme-low : {m : BlockModel} (s : State) → Sane m (Turn.ws_scheme m s) → Low m s
unfolding Turn.ws_scheme
scheme-low {m} s h = go (eqb s.end 0) h
  where
    go : (b : Bool) → Sane m (cond b (wake_wsl (λ t. not (Turn.waits_on m s.view t)) s) s) → Low m s
    go true k = unfold wake_wsl in record { shape = k.shape; turns = k.turns; entries = k.entries; contents = k.contents }
    go false k = record { shape = k.shape; turns = k.turns; entries = k.entries; contents = k.contents }
