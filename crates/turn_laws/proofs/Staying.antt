-- The turn of one that comes back and waits again: it leaves REL for its list, and nothing else changes but the turns and that list's
-- length.
use Rattle.machine.specs.All.{cases, ℕ, ◌+◌, ◌-◌, ◌%◌, ◌<◌, ◌≡◌, refl, leb, lt-leb, sym, ◌∙◌, Bool, true, false, cond, true≢false, List, arith, ltb-true, ltb, eqb, eqb-true, eq-eqb, le-ltb, get_or}
use Rattle.machine.proofs.Basic.Bools.{cond_true, cond_false}
use Rattle.constants.specs.declared.model.Model.{Model}
use Rattle.layout.specs.Layout as Layout
use Rattle.rows_laws.specs.All.{rel, wsl, place, tail, head, field_at, load, store, read, first, take_first, put, end_at, remove_row, remove_at, line_up}
use Rattle.rows_laws.proofs.Buffer.Store.{load-other}
use Rattle.state.specs.{declared.scalars.Scalars.Scalars, All.put_moving, All.put_note, All.rows_of}
use Rattle.moves.specs.Motion.{wait_on, put_back, moved}
use Rattle.clock.specs.Taking.{ready_scalars, take_ready, counted, take}
use Rattle.servers_laws.specs.{Units.in_use, Units.capacity, Taking.queue_up, Taking.take_units, Taking.enter_rows}
use Rattle.values_queues_laws.specs.Waits.{held_by_all, wait_terms_rows}
use Rattle.values_queues_laws.proofs.Sharing.{held_for}
use Rattle.blocks.specs.Execute.{later, by_kind, execute}
use Rattle.turn_laws.specs.{noted, note_record, traced, with_note, act, act_moving, clock_asks, next_of, asks, scheme_if, with_scheme, after_taking, turn, back_to, place_in, quiet, all_wait, stayed, server_of, short, lengthened, lined}

-- ---- A row that leaves a list keeps its data

read_taken : (w : List ℕ) (f k : ℕ) → f < 11 → k < 1024 → read (take_first w rel) f k ≡ read w f k
unfolding remove_at remove_row end_at
read_taken w f k hf hk = go (ltb (first w rel) 1024)
  where
    ended : (v : List ℕ) (n c : ℕ) (b : Bool) → load (cond b v (store v (tail rel) c)) (field_at f k) ≡ load v (field_at f k)
    ended v n c true = refl
    ended v n c false = load-other v (tail rel) c (field_at f k) (λ e. omega arith)

    go : (b : Bool) → load (cond b (remove_row w rel (head rel) (first w rel)) w) (field_at f k) ≡ load w (field_at f k)
    go true =
        load-other _ (place (first w rel)) 1024 (field_at f k) (λ e. omega arith)
        ∙ ended _ (load w (13416 + first w rel)) (head rel) (ltb (load w (13416 + first w rel)) 1024)
        ∙ load-other w (head rel) _ (field_at f k) (λ e. omega arith)
    go false = refl

-- ---- A block of a kind

pub record Quiet (tables : List ℕ) (kind block : ℕ) : Type 0 where
  pub some : block ≡ 0 → ⊥
  pub below : ltb (block - 1) 256 ≡ true
  pub is : get_or tables (place_in block) 0 ≡ kind
  pub unread : get_or tables (Layout.asked + (block - 1)) 0 ≡ 0

-- what `quiet` says of a block: it is of this kind, and no WAITIF reads what waiting there changes
pub quiet_is : (tables : List ℕ) (kind block : ℕ) → quiet tables kind block ≡ true → Quiet tables kind block
unfolding quiet
quiet_is tables kind block h =
    let a = cond_false (eqb block 0) _ h in
    let b = cond_true (ltb (block - 1) 256) _ a.1 in
    let c = cond_true (eqb (get_or tables (place_in block) 0) kind) _ b.1 in
    record {
      some = λ e. true≢false (rw e at a.0);
      below = b.0;
      is = eqb-true _ kind c.0;
      unread = eqb-true _ 0 c.1;
    }

-- ---- The turn

module _ (model : Model) (tables tape w tally trace : List ℕ) (x : Scalars) (nobody : x.moving ≡ 1024) (note : x.note ≡ 2) (block : ℕ)
    (back : back_to w ≡ block) where
  abbrev k : ℕ
  k = first w rel

  abbrev w₁ : List ℕ
  w₁ = take_first w rel

  abbrev y : Scalars
  y = put_moving k (counted x)

  abbrev z : Scalars
  z = put_note 2 (put_moving 1024 y)

  record First : Type 0 where
    row : ltb k 1024 ≡ true
    returning : eqb (read w 1 k % 2) 1 ≡ true
    next : read w 6 k ≡ block

  module _ (kind : ℕ) (there : Quiet tables kind block) where
    comes : First
    unfolding back_to
    comes =
        cases (ltb k 1024)
        (λ a. cases (eqb (read w 1 k % 2) 1)
        (λ b. record { row = a; returning = b; next = rw (a, b) at back })
        (λ b. absurd (there.some (sym (rw (a, b) at back)))))
        (λ a. absurd (there.some (sym (rw a at back))))

    low : k < 1024
    low = ltb-true k 1024 comes.row

    next₁ : read w₁ 6 k ≡ block
    next₁ = read_taken w 6 k (omega arith) low ∙ comes.next

    returning₁ : eqb (read w₁ 1 k % 2) 1 ≡ true
    returning₁ = rw (read_taken w 1 k (omega arith) low) comes.returning

    taken : take w tally x ≡ rows_of y w₁ tally
    unfolding take take_ready ready_scalars rows_of
    taken = rw (le-ltb x.moving 1024 (omega (arith, nobody)), comes.row, comes.row)

    unasked : asks tables x.clock x.clock (next_of w₁ k) ≡ false
    unfolding asks clock_asks next_of
    unasked = rw (eq-eqb x.clock x.clock refl, comes.row, next₁, there.below, there.unread)

    same : z ≡ counted x
    unfolding counted
    same = rw (← nobody, ← note)

    -- by what its block leaves
    module _ (w₂ tally₂ : List ℕ)
        (executed : execute tables model.values model.facilities tape w₁ tally y (place_in block) ≡ rows_of z w₂ tally₂) where
      acted : act_moving tables model.values model.facilities tape w₁ tally trace y ≡ traced (rows_of z w₂ tally₂) trace
      unfolding act_moving act with_note note_record noted rows_of
      acted = rw (comes.row, next₁, there.below, executed)

      again : turn model tables tape w tally trace x ≡ traced (rows_of (counted x) w₂ tally₂) trace
      unfolding turn after_taking with_scheme scheme_if traced rows_of counted
      again = rw (taken, acted, unasked, same)

  -- to a WAITIF: from REL to the WSL
  module _ (all : all_wait tables model.values tally x.clock block ≡ true) where
    holding : (quiet tables 9 block ≡ true) × (held_by_all tables model.values tally x.clock (place_in block) ≡ true)
    unfolding all_wait
    holding = cond_true (quiet tables 9 block) _ all

    there₉ : Quiet tables 9 block
    there₉ = quiet_is tables 9 block holding.0

    waits : execute tables model.values model.facilities tape w₁ tally y (place_in block) ≡ rows_of z (put w₁ wsl k) tally
    unfolding execute by_kind later wait_terms_rows wait_on put_back line_up moved counted
    waits = rw (there₉.is, held_for tables model.values tally x.clock (place_in block) w₁ k holding.1, returning₁ 9 there₉)

    -- the turn of one who comes back to a WAITIF at which all wait: from REL to the WSL, and nothing else
    pub stays : turn model tables tape w tally trace x ≡ traced (rows_of (counted x) (stayed w) tally) trace
    unfolding stayed
    stays = rw (comes 9 there₉).row (again 9 there₉ (put w₁ wsl k) tally waits)

  -- to an ENTER: from REL to the QL
  module _ (enter : quiet tables 6 block ≡ true) (few : short tables tally block ≡ true) where
    there₆ : Quiet tables 6 block
    there₆ = quiet_is tables 6 block enter

    abbrev units : ℕ
    units = get_or tables (place_in block + 2) 0

    abbrev free : ℕ
    free = capacity tables (server_of tables block) - in_use tally (server_of tables block)

    lacking : leb units free ≡ false
    unfolding short
    lacking = lt-leb units free (ltb-true free units few)

    lines : execute tables model.values model.facilities tape w₁ tally y (place_in block)
        ≡ rows_of z (line_up (get_or tables Layout.edition 0) w₁ (server_of tables block) k) (lengthened tables tally x.clock block)
    unfolding execute by_kind enter_rows take_units queue_up wait_on put_back moved counted lengthened
    lines = rw (there₆.is, lacking, returning₁ 6 there₆)

    -- the turn of one who comes back to an ENTER with too few free units: from REL to its QL, whose length is counted
    pub queues : turn model tables tape w tally trace x
        ≡ traced (rows_of (counted x) (lined tables w block) (lengthened tables tally x.clock block)) trace
    unfolding lined
    queues = rw (comes 6 there₆).row (again 6 there₆ _ _ lines)
