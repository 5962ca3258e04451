-- The start of a run: scalars, work buffer and tally stand for the machine's start, whatever the work buffer held.
use Rattle.machine.specs.All.{ℕ, suc, ◌+◌, ◌-◌, ◌*◌, ◌≤◌, ◌<◌, ◌≡◌, refl, sym, ap, ◌∙◌, subst, Bool, true, false, cond, List, [], ◌∷◌, map, none, arith, ne_eqb, eqb, ltb, length, get_or, replicate, length-set, Transaction, those, Block, generate, facility, storage, facts, BlockModel, block_at, terminate, State, start_of, start_at, idle, start}
use Rattle.machine.specs.Moves as Moves
use Rattle.machine.proofs.Runs.Clocks.{Given, with-fresh}
use Rattle.machine.proofs.Decoding.Proper.{Names, ProperBlock, Proper}
use Rattle.layout.specs.All.{tally_size, block_forms, block_numbers, header_of, Represents}
use Rattle.rows_laws.specs.All.{initial, on_lists, Shows}
use Rattle.rows_laws.proofs.{Counting.Sums.sum-zero, Order.StayInOrder.shows_ext, Life.Start.initial-shows, Life.Start.initial-loose, Counting.Population.population}
use Rattle.state.specs.All.{Rows, rows_of, gatherer_row, lists_in, lists_of, Listing, Counting, Stands}
use Rattle.state.proofs.StandsLaws.{stands_of}
use Rattle.flow_laws.specs.{Samples.next_sample, Sending.arrives}
use Rattle.start.specs.{lists_set, start_scalars, spent_at, priority_at, begin_list, begin_block, begin_blocks, start_rows}
use Rattle.layout.proofs.Operands.{operand}
use Rattle.flow_laws.proofs.{Drawing.drawn-most, Arrival.arrives-stands}
use Rattle.start.proofs.Tally.{same_at, idle-tallying}
use Rattle.layout.proofs.BlockKinds.{Kinds, generating, taking, waiting, arriving, preempting, other, kinds, unasked}

-- ---- Before the first block: nobody lives

module _ (m : BlockModel) (tape : List (List ℕ)) where
  no-lists : (q : ℕ) → q < 770 → ◌≡◌ {A = List Transaction} [] (lists_of (idle m tape) q)
  unfolding lists_in idle those
  no-lists q hq = go (ltb q 64) (ltb q 448) (eqb q 448) (eqb q 449) (ltb q 706)
    where
      servers : ℕ
      servers = m.facilities + length m.capacities

      go : (a b c d e : Bool) → ◌≡◌ {A = List Transaction} []
          (cond a (get_or (replicate servers []) q [])
          (cond b (get_or (replicate (servers * 6) []) (q - 64) [])
          (cond c [] (cond d [] (cond e (map gatherer_row (get_or (replicate (length m.blocks) []) (q - 450) [])) [])))))
      go true b c d e = sym (same_at servers q [])
      go false true c d e = sym (same_at (servers * 6) (q - 64) [])
      go false false true d e = refl
      go false false false true e = refl
      go false false false false false = refl
      go false false false false true = sym (ap (map gatherer_row) (same_at (length m.blocks) (q - 450) []))

  module _ (w : List ℕ) (room : 16384 ≤ length w) where
    begun : Shows (initial w) (λ p. []) []
    begun = initial-shows w room

    nobody : on_lists (λ p. []) [] ≡ 0
    unfolding on_lists
    nobody = omega (arith, sum-zero 770 (λ p. 0) (λ k h. refl))

    idle-listing : Listing (initial w) 1024 none (idle m tape)
    unfolding idle
    idle-listing =
        record {
          shows = shows_ext (initial w) (λ p. []) (lists_of (idle m tape)) [] [] no-lists refl begun;
          mover = refl;
          spare = omega (arith, population (initial w) begun.rows (λ p. []) [] begun.shown, nobody, initial-loose w room);
        }

  idle-counting : Proper m tape → Counting (start_scalars m.counter) (idle m tape)
  unfolding start_scalars idle
  idle-counting proper =
      record {
        clock = refl;
        counter = omega (arith, proper.counter);
        serial = refl;
        made = refl;
        ended = refl;
        turns = refl;
        used = refl;
        end = refl;
      }

-- ---- One block

-- a GENERATE, or a block that the start passes
data Begins (b : Block) : Type 0 where
  makes : (list p : ℕ) → b ≡ generate list p → Begins b
  passes : 0 < length (block_numbers b) → eqb (get_or (block_numbers b) 0 0) 1 ≡ false → ((n : ℕ) (s : State) → start_of b n s ≡ s) → Begins b

begins : (b : Block) → Begins b
begins b = go (kinds b)
  where
    past : {c : Block} → b ≡ c → Begins c → Begins b
    past e h = subst Begins (sym e) h

    go : Kinds b → Begins b
    go (generating list p e) = makes list p e
    go (taking (facility v) e) = past e (unfold start_of block_forms in passes (omega arith) refl (λ n s. refl))
    go (taking (storage v n) e) = past e (unfold start_of block_forms in passes (omega arith) refl (λ n s. refl))
    go (waiting a r c e) = past e (unfold start_of block_forms in passes (omega arith) refl (λ n s. refl))
    go (arriving q e) = past e (unfold start_of block_forms in passes (omega arith) refl (λ n s. refl))
    go (preempting v e) = past e (unfold start_of block_forms in passes (omega arith) refl (λ n s. refl))
    go (other kind rest e f g) =
        passes (omega (arith, ap length e)) (rw e (unasked kind f).no-generate)
        (λ n s. unfold start_of in rw (ap (λ x. x.generates) g))

-- of the states of the start, before block b (from 0): at most one transaction was made for each block
record Beginning (lists b : ℕ) (s : State) : Type 0 where
  clock : s.view.clock ≡ 0
  ended : s.ended ≡ 0
  made : s.made ≤ b
  serials : s.serial ≤ b
  samples : length s.samples ≡ lists
  given : Given s

arrival-beginning : (lists b list p n : ℕ) (s : State) → Beginning lists b s → (l : List ℕ)
    → Beginning lists (suc b) (Moves.arrival l list p n s)
unfolding Moves.arrival Moves.to_fel
arrival-beginning lists b list p n s h [] =
    record {
      clock = h.clock;
      ended = h.ended;
      made = omega (arith, h.made);
      serials = omega (arith, h.serials);
      samples = h.samples;
      given = h.given;
    }
arrival-beginning lists b list p n s h (time ∷ left) =
    record {
      clock = h.clock;
      ended = h.ended;
      made = omega (arith, h.made);
      serials = omega (arith, h.serials);
      samples = length-set s.samples (list - 1) _ ∙ h.samples;
      given = with-fresh _ s (omega arith) h.given;
    }

module _ (m : BlockModel) (tape : List (List ℕ)) (tape_bytes tables lists : List ℕ) (proper : Proper m tape)
    (rep : Represents m tape tape_bytes tables lists) where
  -- what holds after some blocks
  record Stood (b : ℕ) (r : Rows) (s : State) : Type 0 where
    stands : Stands tape_bytes r none s
    beginning : Beginning m.lists b s

  module _ (b : ℕ) (inside : b < length m.blocks) (r : Rows) (s : State) (h : Stood b r s) where
    low : b < 256
    low = omega (arith, proper.blocks)

    placed : Names (length m.blocks) (suc b)
    placed = (omega arith, omega arith)

    few : length s.samples ≤ 16
    few = omega (arith, h.beginning.samples, proper.lists)

    -- number i of the block
    number : (x : Block) → block_at m (suc b) ≡ x → (i : ℕ) → i < length (block_numbers x)
        → get_or tables (8 * b + i) 0 ≡ get_or (block_numbers x) i 0
    number x is i hi =
        ap (λ (n : ℕ). get_or tables (8 * n + i) 0) (omega arith)
        ∙ operand m tape tape_bytes tables lists rep (suc b) placed x is i hi

    module _ (list p : ℕ) (is : block_at m (suc b) ≡ generate list p) where
      named : Names m.lists list × (p ≤ 127)
      named = subst (ProperBlock m) is (proper.block (suc b))

      there : list ≤ length s.samples
      there = omega (arith, named.0.1, h.beginning.samples)

      kind-is : get_or tables (8 * b) 0 ≡ 1
      unfolding block_forms
      kind-is = ap (λ (n : ℕ). get_or tables n 0) (omega arith) ∙ number (generate list p) is 0 (omega arith)

      list-is : get_or tables (8 * b + 1) 0 ≡ list - 1
      unfolding block_forms
      list-is = number (generate list p) is 1 (omega arith)

      priority-is : priority_at tables b ≡ p
      unfolding block_forms priority_at
      priority-is = number _ is 2 (omega arith)

      left-cell : get_or r.tally (944 + (list - 1)) 0 ≡ length (Moves.times_left s list)
      left-cell = h.stands.tallying.samples.left (list - 1) (omega (arith, named.0.0, there, few))

      spent : Moves.times_left s list ≡ [] → begin_block tables tape_bytes r b ≡ r
      unfolding begin_block begin_list spent_at
      spent e = rw (kind-is, list-is, left-cell ∙ ap length e)

      unlike : (time : ℕ) (left : List ℕ) → Moves.times_left s list ≡ time ∷ left → spent_at tables r.tally b ≡ false
      unfolding spent_at
      unlike time left e = rw list-is (ne_eqb (get_or r.tally (944 + (list - 1)) 0) 0 (λ q. omega (arith, left-cell, ap length e)))

      unspent : spent_at tables r.tally b ≡ false → priority_at tables b ≡ p
          → begin_block tables tape_bytes r b ≡ arrives r.work r.tally r.scalars (next_sample tape_bytes r.tally (list - 1))
          (list - 1) p (suc b)
      unfolding begin_block begin_list
      unspent e q = let f : b + 1 ≡ suc b = omega arith in rw (kind-is, e, list-is, q, f)

      made : Stands tape_bytes (begin_block tables tape_bytes r b) none (Moves.arrival (Moves.times_left s list) list p (suc b) s)
      unfolding Moves.arrival
      made = go (Moves.times_left s list) refl
        where
          go : (l : List ℕ) → Moves.times_left s list ≡ l
              → Stands tape_bytes (begin_block tables tape_bytes r b) none (Moves.arrival l list p (suc b) s)
          go [] e = rw spent h.stands
          go (time ∷ left) e =
              rw (unspent (unlike time left e) priority-is)
              (arrives-stands s h.stands.tallying list named.0.0 there few e r.scalars h.stands.listing
              h.stands.counting
              (record {
                room = omega (arith, h.beginning.made, low);
                order = omega (arith, h.beginning.ended);
                serials = omega (arith, h.beginning.serials, low);
                numbers = omega (arith, h.beginning.made, low);
              })
              h.beginning.given p (suc b) named.1
              (omega (
                arith,
                h.beginning.clock,
                drawn-most tape_bytes r.tally s.samples (list - 1) h.stands.tallying.samples
                    h.stands.tallying.size (omega (arith, named.0.0, there)) few time left e,
              )))

    -- another kind
    passed : (x : Block) → block_at m (suc b) ≡ x → 0 < length (block_numbers x) → eqb (get_or (block_numbers x) 0 0) 1 ≡ false
        → begin_block tables tape_bytes r b ≡ r
    unfolding begin_block
    passed x is Some-number unlike =
        let e : get_or tables (8 * b) 0 ≡ get_or (block_numbers x) 0 0 = ap (λ (n : ℕ). get_or tables n 0) (omega arith)
        ∙ number x is 0 Some-number in
        rw (e, unlike)

    -- one block more
    later : Beginning m.lists (suc b) s
    later =
        record {
          clock = h.beginning.clock;
          ended = h.beginning.ended;
          made = omega (arith, h.beginning.made);
          serials = omega (arith, h.beginning.serials);
          samples = h.beginning.samples;
          given = h.beginning.given;
        }

    block-stands : (x : Block) → block_at m (suc b) ≡ x → Stood (suc b) (begin_block tables tape_bytes r b) (start_of x (suc b) s)
    unfolding start_of facts
    block-stands x is = go (begins x)
      where
        go : Begins x → Stood (suc b) (begin_block tables tape_bytes r b) (start_of x (suc b) s)
        go (makes list p e) =
            let list-named : 1 ≤ list = (subst (ProperBlock m) (is ∙ e) (proper.block (suc b))).0.0 in
            rw (e, ne_eqb list 0 (λ z. omega (arith, list-named)))
            (record {
              stands = made list p (is ∙ e);
              beginning = arrival-beginning m.lists b list p (suc b) s h.beginning
                  (Moves.times_left s list);
            })
        go (passes Some-number unlike same) =
            rw (same (suc b) s, passed x is Some-number unlike) (record { stands = h.stands; beginning = later })

  -- ---- All blocks

  blocks_stand : (l : List Block) (b : ℕ) (r : Rows) (s : State) → Stood b r s → b + length l ≡ length m.blocks
      → ((i : ℕ) → i < length l → block_at m (suc (b + i)) ≡ get_or l i (terminate 0))
      → Stands tape_bytes (begin_blocks (length l) tables tape_bytes r b) none (start_at (suc b) l s)
  unfolding begin_blocks start_at
  blocks_stand [] b r s h size at = h.stands
  blocks_stand (x ∷ l) b r s h size at =
      let is : block_at m (suc b) ≡ x = ap (λ (n : ℕ). block_at m (suc n)) (omega arith) ∙ at 0 (omega arith) in
      blocks_stand l (suc b) (begin_block tables tape_bytes r b) (start_of x (suc b) s) (block-stands b (omega arith) r s h x is) (omega arith)
      (λ i hi. ap (λ (n : ℕ). block_at m (suc n)) (omega arith) ∙ at (suc i) (omega arith))

  module _ (w tally : List ℕ) (room : 16384 ≤ length w) (size : length tally ≡ tally_size) (empty : (i : ℕ) → get_or tally i 0 ≡ 0) where
    abbrev r₀ : Rows
    r₀ = rows_of (start_scalars m.counter) (initial w) (lists_set 16 lists tally)

    first : Stood 0 r₀ (idle m tape)
    unfolding start_scalars idle
    first =
        record {
          stands =
              stands_of (start_scalars m.counter) (idle-listing m tape w room)
              (idle-tallying m tape tape_bytes tables lists tally proper rep size empty) (idle-counting m tape proper);
          beginning = record { clock = refl; ended = refl; made = omega arith; serials = omega arith; samples = proper.tapes; given = tt };
        }

    rows_are : start_rows (header_of m) tables tape_bytes lists w tally ≡ begin_blocks (length m.blocks) tables tape_bytes r₀ 0
    unfolding start_rows header_of
    rows_are = ap (λ (n : ℕ). begin_blocks n tables tape_bytes r₀ 0) (omega (arith, proper.blocks))

    -- the rows after the start stand for the machine's first state
    pub start-stands : Stands tape_bytes (start_rows (header_of m) tables tape_bytes lists w tally) none (start m tape)
    unfolding start
    start-stands =
        rw rows_are (blocks_stand m.blocks 0 r₀ (idle m tape) first (omega arith)
        (λ i hi. ap (λ (n : ℕ). get_or m.blocks n (terminate 0)) (omega arith)))
