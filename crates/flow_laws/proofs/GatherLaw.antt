-- 18 ASSEMBLE: the row machine does what the machine does.
use Rattle.machine.specs.All.{ℕ, suc, ◌+◌, ◌-◌, ◌%◌, ◌≤◌, ◌<◌, ◌≡◌, refl, sym, ap, ◌∙◌, Bool, true, false, cond, List, [], ◌∷◌, ◌++◌, map, map-append, none, some, arith, lt-ltb, le-ltb, eqb, length, get_or, Transaction, Gatherer, precedes, insert, those, replace_first, set_nth, terminate, assemble, facts, BlockModel, block_at, State, with_next, with_serial, with_returning, set_moving, set_serial, set_ended, set_gatherers, to_rel, in_family, waits_for, to_gatherers, comes, released, question, ask_gathers, gathers, Each}
use Rattle.machine.specs.{Block.Block, Execute.gathering}
use Rattle.machine.proofs.{Runs.Shape.gatherers-at, Basic.Lists.those-none}
use Rattle.layout.specs.All.{block_forms}
use Rattle.rows_laws.specs.All.{head, rel, read, write, set_returning, remove_at, put, family_cell, line_up, transaction_at, ending, update, All, moved as movedLists}
use Rattle.rows_laws.specs.{Cells.load, Make.free_row}
use Rattle.rows_laws.proofs.{Buffer.RowData.same_row, Buffer.RowData.transaction-kept, Buffer.FieldWrites.write-next, Buffer.FieldWrites.write-serial, Buffer.FieldWrites.set-returning, Chains.InsertRemove.remove-holds, Chains.InsertRemove.remove-keeps, Order.SortedInsertion.map-insert, Life.Making.written, Life.Making.written_trans, Order.StayInOrder.shows_ext, Laws.Wakes, Placing.FirstThatPasses.nobody, Placing.FirstThatPasses.somebody, Life.Making.Written}
use Rattle.rows_laws.proofs.ByKind.Families.{Other, Kin, kin_of, counts-shows, release-shows}
use Rattle.state.specs.{declared.scalars.Scalars.Scalars, Bare.going_back, Bare.waiting, Stands.Listed}
use Rattle.state.specs.All.{put_moving, put_serial, put_note, entering, beginning, bare, bare_answer, rows_of, gatherer_row, lists_in, lists_of, Listing, note_of, Done}
use Rattle.state.proofs.ListsOf.{lists-gatherers, lists-set-gatherers, lists-moved}
use Rattle.state.proofs.StandsLaws.{listing-write, listing-put, listing-steady, renumber}
use Rattle.moves.proofs.Before.{place_of, bare_block, Before}
use Rattle.moves.specs.Motion.{moved, with_tally, next32, begin_wait}
use Rattle.moves.proofs.BeforeLaws.{placed, next_low, serial-low, proper-block, operand, asked-moved}
use Rattle.moves.proofs.MotionLaws.{next32-suc, next-read, number_read}
use Rattle.flow_laws.specs.{to_ready, list_at_lem, gather_on, release_on, end_on, count_on, later_rows, gather_rows, assemble_rows}
use Rattle.flow_laws.proofs as our
use our.{Asked.holding-asked, TerminateLaw.free-listing}
use our.Kin.{Match, Split, split, none_of, one_of, those-first, replaced, each_at}
use mathlib.Core.Path.{subst}

module _ {m : BlockModel} {tape : List (List ℕ)} {tape_bytes tables lists w tally : List ℕ} {x : Scalars} {t : Transaction} {s : State}
    {n : ℕ} (h : Before m tape tape_bytes tables lists w tally x t s (assemble n)) where
  operand-is : get_or tables (place_of t + 1) 0 ≡ n
  unfolding block_forms
  operand-is = operand h 1 (omega arith)

  range : (2 ≤ n) × (n ≤ 255)
  range = proper-block h

  abbrev s₀ : State
  s₀ = set_moving none s

  hk : x.moving < 1024
  hk = h.listing.mover.0.row

  room : 16384 ≤ length w
  room = h.listing.shows.shown.holds.room

  -- ---- The block's list

  abbrev i : ℕ
  i = t.next - 1

  few : i < 256
  few = omega (arith, (placed h).0, h.proper.blocks)

  there : i < length s.gatherers
  there = gatherers-at h.sane.shape t.next n h.is

  abbrev p : ℕ
  p = 450 + i

  abbrev here : List Gatherer
  here = get_or s.gatherers i []

  abbrev L : ℕ → List ℕ
  L = h.listing.shows.rows

  matches : Match w (L p) here
  matches = h.listing.shows.shown.lists p (omega (arith, few)) ∙ lists-gatherers s₀ i few

  list-is : list_at_lem w x.moving ≡ p
  unfolding list_at_lem
  list-is =
      let e : i % 256 ≡ i = omega (arith, few) in
      ap (λ (k : ℕ). 450 + (k - 1) % 256) (next-read h.listing) ∙ ap (λ (k : ℕ). 450 + k) e

  family-is : read w 10 x.moving ≡ t.family
  unfolding transaction_at
  family-is = ap (λ (u : Transaction). u.family) h.listing.mover.1

  abbrev c : ℕ
  c = family_cell w p t.family

  rows_are : assemble_rows tables m.facilities w tally x (place_of t) ≡ gather_rows m.facilities w tally x n p c
  unfolding assemble_rows
  rows_are = rw (operand-is, list-is, family-is)

  serial-is : next32 x.serial ≡ suc s.serial
  serial-is = ap next32 h.counting.serial ∙ next32-suc s.serial (serial-low h)

  -- ---- The first of its family

  module _ (alone : waits_for t s ≡ []) where
    abbrev t' : Transaction
    t' = with_serial (suc s.serial) t

    abbrev later : State
    later = set_serial (suc s.serial) s₀

    abbrev w₁ : List ℕ
    w₁ = write w 6 x.moving 1

    abbrev w₂ : List ℕ
    w₂ = write w₁ 7 x.moving (suc s.serial)

    gather-is : gather_on w x p ≡ moved (put_note 1 (put_serial (suc s.serial) (put_moving 1024 x))) (put w₂ p x.moving)
    unfolding gather_on begin_wait line_up
    gather-is = rw serial-is

    g₁ : Listing w₁ x.moving (some (with_next 1 t)) s₀
    g₁ = listing-write h.listing 6 1 (omega arith) (write-next w x.moving room hk 1 ∙ ap (with_next 1) h.listing.mover.1)

    g₂ : Listing w₂ x.moving (some (with_next 1 t')) later
    g₂ =
        listing-write g₁ 7 (suc s.serial) (omega arith)
        (write-serial w₁ x.moving g₁.shows.shown.holds.room hk (suc s.serial) ∙ ap (with_serial (suc s.serial)) g₁.mover.1)

    on_list : (q : ℕ) → q < 770
        → update p (insert precedes (with_next 1 t') (lists_of later p)) (lists_of later) q ≡ lists_of (to_gatherers t' later) q
    unfolding to_gatherers
    on_list q hq =
        ap (λ (l : List Transaction). update p (insert precedes (with_next 1 t') l) (lists_of later) q) (lists-gatherers later i few)
        ∙ ap (λ (l : List Transaction). update p l (lists_of later) q)
        (sym
        (map-insert gatherer_row (λ a b. precedes a.who b.who) precedes (λ a b. unfold precedes in refl)
        (record { who = t'; come = 1 }) here))
        ∙ lists-set-gatherers later i (insert (λ a b. precedes a.who b.who) (record { who = t'; come = 1 }) here) few there q

    first_done : Done tape_bytes (with_tally (gather_on w x p) tally) (beginning to_gatherers t s₀)
    unfolding moved rows_of note_of to_gatherers
    first_done =
        rw gather-is
        (record {
          stands =
              record {
                listing = listing-put g₂ p (omega arith) (omega (arith, few)) on_list;
                tallying = h.tallying;
                counting = renumber h.counting refl h.counting.made h.counting.ended;
              };
          note = refl;
        })

    first-is : bare_block m (assemble n) t s ≡ beginning to_gatherers t s₀
    unfolding question ask_gathers
    first-is =
        ap (λ (l : List Gatherer). bare_answer (ask_gathers m l t s) m (assemble n) t s) alone
        ∙ unfold bare_answer bare in
        (ap
        (λ (l : List Gatherer).
        gathering (λ f. entering (f s₀)) (λ put. waiting put t s₀) (λ f. going_back (f s₀)) (λ put. beginning put t s₀) l n t) alone)

  -- ---- A later one

  module _ (a e : List ℕ) (k : ℕ) (was : L p ≡ a ++ k ∷ e) (cell : c ≡ ending (head p) a) (row : k < 1024)
      (others : All (Other w t.family) a) (own : eqb (read w 10 k) t.family ≡ true) where
    part : Split w here a e k
    part = split w a e k here (ap (map (transaction_at w)) (sym was) ∙ matches)

    abbrev g : Gatherer
    g = part.one

    ahead_none : Each (λ g. in_family t g ≡ false) part.ahead
    ahead_none = none_of w t a part.ahead part.before others

    own-one : in_family t g ≡ true
    own-one = one_of w t k g part.here own

    waits : waits_for t s ≡ g ∷ those (in_family t) part.behind
    waits = ap (those (in_family t)) part.parts ∙ those-first (in_family t) part.ahead g part.behind ahead_none own-one

    -- the list with a few in its place
    replaced-is : (l : List Gatherer) → replace_first (in_family t) l here ≡ part.ahead ++ (l ++ part.behind)
    replaced-is l =
        ap (replace_first (in_family t) l) part.parts ∙ replaced (in_family t) l part.ahead g part.behind ahead_none own-one

    come-read : read w 6 k ≡ g.come
    unfolding transaction_at
    come-read = ap (λ (u : Transaction). u.next) part.here

    gathers-at : (facts (block_at m t.next)).gathers ≡ n
    unfolding facts
    gathers-at = ap (λ (b : Block). (facts b).gathers) h.is

    below : g.come < n
    below =
        let all = h.sane.come t.next (placed h).0.0 (omega (arith, gathers-at, range)) in
        omega (
          arith,
          gathers-at,
          each_at (λ g. g.come < (facts (block_at m t.next)).gathers) part.ahead g part.behind
              (subst (Each (λ g. g.come < (facts (block_at m t.next)).gathers)) part.parts all),
        )

    count-is : next32 (read w 6 k) ≡ suc g.come
    count-is = ap next32 come-read ∙ next32-suc g.come (omega (arith, below, range))

    ended_is : next32 x.ended ≡ suc s.ended
    ended_is = ap next32 h.counting.ended ∙ next32-suc s.ended (omega (arith, h.sane.ended, h.sane.made, h.sane.serials))

    abbrev ended : State
    ended = set_ended (suc s.ended) s₀

    -- ---- One more has come

    abbrev g' : Gatherer
    g' = record { who = g.who; come = suc g.come }

    abbrev v : List ℕ
    v = write w 6 k (suc g.come)

    counted : Wakes w v
        (update p (map (transaction_at w) a ++ with_next (suc g.come) (transaction_at w k) ∷ map (transaction_at w) e) (lists_of s₀)) s.fel
    counted = counts-shows w (lists_of s₀) s.fel h.listing.shows p k a e (omega (arith, few)) row was (suc g.come)

    counted-list : map (transaction_at w) a ++ with_next (suc g.come) (transaction_at w k) ∷ map (transaction_at w) e
        ≡ map gatherer_row (replace_first (in_family t) (g' ∷ []) here)
    counted-list =
        rw (part.before, part.here, part.after)
        (sym (ap (map gatherer_row) (replaced-is (g' ∷ [])) ∙ map-append gatherer_row part.ahead (g' ∷ part.behind)))

    more-listing : Listing v x.moving (some t) (comes g t s₀)
    unfolding comes
    more-listing =
        listing-steady
        (shows_ext v _ (lists_of (comes g t s₀)) s.fel s.fel
        (λ q hq. ap (λ (l : List Transaction). update p l (lists_of s₀) q) counted-list
        ∙ lists-set-gatherers s₀ i (replace_first (in_family t) (g' ∷ []) here) few there q)
        refl counted.shows)
        counted.steady h.listing

    -- ---- The n-th: the first goes on

    abbrev u : Transaction
    u = with_returning false (with_next (suc t.next) g.who)

    abbrev v₁ : List ℕ
    v₁ = remove_at w p (ending (head p) a)

    abbrev v₂ : List ℕ
    v₂ = write v₁ 6 k (suc t.next)

    abbrev v₃ : List ℕ
    v₃ = set_returning v₂ k 0

    abbrev v₄ : List ℕ
    v₄ = write v₃ 7 k (suc s.serial)

    removed-row : transaction_at v₁ k ≡ transaction_at w k
    removed-row =
        transaction-kept w v₁ k
        (same_row w v₁ k row
        (remove-keeps w L h.listing.shows.shown.holds p k a e (omega (arith, few)) (λ z. omega (arith, few)) row was).rows)

    room₁ : 16384 ≤ length v₁
    room₁ = (remove-holds w L h.listing.shows.shown.holds p k a e (omega (arith, few)) (λ z. omega (arith, few)) row was).room

    written₄ : Written v₁ v₄ k
    written₄ =
        written_trans v₁ v₂ v₄ k (written v₁ 6 k (suc t.next) (omega arith) row)
        (written_trans v₂ v₃ v₄ k (written v₂ 1 k _ (omega arith) row) (written v₃ 7 k (suc s.serial) (omega arith) row))

    row_is : transaction_at v₄ k ≡ with_serial (suc s.serial) u
    row_is =
        let r₂ : 16384 ≤ length v₂ = (written v₁ 6 k (suc t.next) (omega arith) row).room room₁ in
        let r₃ : 16384 ≤ length v₃ = (written v₂ 1 k _ (omega arith) row).room r₂ in
        write-serial v₃ k r₃ row (suc s.serial)
        ∙ ap (with_serial (suc s.serial)) (set-returning v₂ k r₂ row 0 (omega arith))
        ∙ ap (λ (y : Transaction). with_serial (suc s.serial) (with_returning false y)) (write-next v₁ k room₁ row (suc t.next))
        ∙ ap (λ (y : Transaction). with_serial (suc s.serial) (with_returning false (with_next (suc t.next) y)))
        (removed-row ∙ part.here)

    gone : Wakes w (put v₄ rel k)
        (movedLists p (map (transaction_at w) (a ++ e)) (insert precedes (transaction_at v₄ k) (lists_of s₀ rel)) (lists_of s₀)) s.fel
    gone = release-shows w (lists_of s₀) s.fel h.listing.shows p k a e (omega (arith, few)) row was v₄ written₄ (λ z. omega arith)

    left-list : map (transaction_at w) (a ++ e) ≡ map gatherer_row (replace_first (in_family t) [] here)
    left-list =
        map-append (transaction_at w) a e ∙ rw (part.before, part.after)
        (sym (ap (map gatherer_row) (replaced-is []) ∙ map-append gatherer_row part.ahead part.behind))

    abbrev without : State
    without = set_gatherers (set_nth s.gatherers t.next (replace_first (in_family t) [] here)) s₀

    last-lists : (q : ℕ) → q < 770
        → movedLists p (map (transaction_at w) (a ++ e)) (insert precedes (transaction_at v₄ k) (lists_of s₀ rel)) (lists_of s₀) q
        ≡ lists_of (released g t s₀) q
    unfolding released to_rel
    last-lists q hq =
        ap (λ (l : List Transaction). movedLists p l (insert precedes (transaction_at v₄ k) (lists_of s₀ rel)) (lists_of s₀) q) left-list
        ∙ ap
        (λ (y : Transaction).
        movedLists p (map gatherer_row (replace_first (in_family t) [] here)) (insert precedes y (lists_of s₀ rel)) (lists_of s₀) q) row_is
        ∙ lists-moved s₀ without p (map gatherer_row (replace_first (in_family t) [] here))
        (insert precedes (with_serial (suc s.serial) u) (lists_of s₀ rel))
        (λ j hj. lists-set-gatherers s₀ i (replace_first (in_family t) [] here) few there j) q hq
        ∙ unfold lists_in in refl

    last-listing : Listing (put v₄ rel k) x.moving (some t) (released g t s₀)
    unfolding released to_rel
    last-listing =
        listing-steady (shows_ext (put v₄ rel k) _ (lists_of (released g t s₀)) s.fel s.fel last-lists refl gone.shows)
        gone.steady h.listing

    release-is : release_on w x p c k ≡ moved (put_serial (suc s.serial) x) (put v₄ rel k)
    unfolding release_on to_ready
    release-is =
        rw (cell, serial-is, next-read h.listing, next32-suc t.next (next_low h))

    -- ---- It ends

    one_less : s.made - s.ended - 1 ≡ s.made - suc s.ended
    one_less = omega arith

    last_done : Done tape_bytes (with_tally (end_on (release_on w x p c k).work (release_on w x p c k).scalars x.moving) tally)
        (entering (released g t ended))
    unfolding end_on moved rows_of note_of released to_rel
    last_done =
        rw release-is
        (record {
          stands =
              record {
                listing =
                    subst (Listed (free_row (put v₄ rel k) x.moving) 1024 none (lists_of (released g t ended)) s.fel) one_less
                    (free-listing last-listing);
                tallying = h.tallying;
                counting = renumber h.counting refl h.counting.made ended_is;
              };
          note = refl;
        })

    more-done : Done tape_bytes (with_tally (end_on v x x.moving) tally) (entering (comes g t ended))
    unfolding end_on moved rows_of note_of comes
    more-done =
        record {
          stands =
              record {
                listing =
                    subst (Listed (free_row v x.moving) 1024 none (lists_of (comes g t ended)) s.fel) one_less
                    (free-listing more-listing);
                tallying = h.tallying;
                counting = renumber h.counting h.counting.serial h.counting.made ended_is;
              };
          note = refl;
        }

    counts-done : Done tape_bytes (with_tally (count_on w x n p c k (next32 (read w 6 k))) tally) (entering (gathers n g t s₀))
    unfolding count_on gathers
    counts-done = rw count-is (go (eqb (suc g.come) n))
      where
        go : (last : Bool)
            → Done tape_bytes
            (with_tally (cond last (end_on (release_on w x p c k).work (release_on w x p c k).scalars x.moving) (end_on v x x.moving))
            tally)
            (entering (cond last (released g t ended) (comes g t ended)))
        go true = last_done
        go false = more-done

    bare-is : bare m (assemble n) t s₀ ≡ entering (gathers n g t s₀)
    unfolding bare
    bare-is =
        ap
        (λ (l : List Gatherer).
        gathering (λ f. entering (f s₀)) (λ put. waiting put t s₀) (λ f. going_back (f s₀)) (λ put. beginning put t s₀) l n t) waits

    -- the question of a TERMINATE
    asked_is : question m (terminate 0) t s ≡ question m (assemble n) t s
    unfolding question ask_gathers
    asked_is = sym (ap (λ (l : List Gatherer). ask_gathers m l t s) waits)

    later-done : Done tape_bytes (with_tally (later_rows m.facilities w tally x n p c k) tally) (bare_block m (assemble n) t s)
    unfolding later_rows
    later-done =
        rw (number_read h.listing, holding-asked h 0, asked_is)
        (asked-moved h (question m (assemble n) t s) (count_on w x n p c k (next32 (read w 6 k)))
        (λ z. subst (Done tape_bytes (with_tally (count_on w x n p c k (next32 (read w 6 k))) tally)) (sym bare-is) counts-done))

  pub assemble-done : Done tape_bytes (with_tally (assemble_rows tables m.facilities w tally x (place_of t)) tally)
      (bare_block m (assemble n) t s)
  assemble-done =
      rw rows_are
      (go (kin_of w p t.family (λ z. omega (arith, few)) (L p) (h.listing.shows.shown.holds.listed p (omega (arith, few)))))
    where
      go : Kin w p t.family (L p)
          → Done tape_bytes (with_tally (gather_rows m.facilities w tally x n p c) tally) (bare_block m (assemble n) t s)
      go (nobody apart far) = unfold gather_rows in
          (rw (le-ltb (load w c) 1024 far)
          (let alone : waits_for t s ≡ [] = those-none (in_family t) here (none_of w t (L p) here matches apart) in
          subst (Done tape_bytes (with_tally (gather_on w x p) tally)) (sym (first-is alone)) (first_done alone)))
      go (somebody a e k was cell found row others own) = unfold gather_rows in
          (rw (found, lt-ltb k 1024 row) (later-done a e k was cell row others own))
