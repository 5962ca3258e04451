-- The questions, asked of the scalars, are the machine's.
use Rattle.machine.specs.All.{ℕ, zero, suc, ◌+◌, ◌-◌, ◌%◌, ◌≤◌, min, ◌≡◌, refl, ap, Bool, true, false, cond, List, ◌∷◌, arith, le-ltb, leb-true, eqb-true, eq-eqb, ne_eqb, eqb, leb, length, get_or, in_force, max_living, Transaction, bit, up_to, server_at, Block, terminate, BlockModel, State, times_left, unless, living, ask_generate, held, question}
use Rattle.layout.specs.All.{most64, holder, tally_size}
use Rattle.machine.proofs.Lists.Sums.{up_to-zero}
use Rattle.state.specs.{declared.scalars.Scalars.Scalars, All.of_residue}
use Rattle.state.proofs.Held.{held_at}
use Rattle.moves.proofs.{Before.Before, BeforeLaws.numbered}
use Rattle.flow_laws.specs.{ask_room, ask_time, first_no, ask_arrival, held_by, ask_holding}
use mathlib.Core.Path.{subst, ◌∙◌, sym}
use mathlib.Core.Bool.{not, ◌||◌}
use Rattle.machine.specs.Rules.{Rules}
use Rattle.machine.specs.Term.{idle_server}

unless_yes : (b : Bool) (n later : ℕ) → unless b (suc n) later ≡ 0 → (b ≡ true) × (later ≡ 0)
unless_yes true n later e = (refl, e)
unless_yes false n later e = absurd (omega arith)

pub room_yes : (s : State) (n : ℕ) → unless (leb (living s + n) max_living) 21 0 ≡ 0 → living s + n ≤ 1024
room_yes s n e = leb-true (living s + n) max_living (unless_yes (leb (living s + n) max_living) 20 0 e).0

module _ {m : BlockModel} {tape : List (List ℕ)} {tape_bytes tables lists w tally : List ℕ} {x : Scalars} {t : Transaction} {s : State}
    {b : Block}
    (h : Before m tape tape_bytes tables lists w tally x t s b) where
  -- the first time of a list
  pub time-most : (list : ℕ) {time : ℕ} {left : List ℕ} → times_left s list ≡ time ∷ left → time ≤ in_force.max_time
  time-most list e = subst (λ (l : List ℕ). get_or l 0 0 ≤ in_force.max_time) e (h.sane.samples list 0)

  -- ---- Questions

  -- question 21, "is there a place?", asked of made and ended as the machine asks it of the living
  pub room-asked : (n : ℕ) → n ≤ 1024 → ask_room x n ≡ unless (leb (living s + n) max_living) 21 0
  unfolding ask_room
  room-asked n most =
      let a : x.made ≡ s.made = h.counting.made in
      let b : x.ended ≡ s.ended = h.counting.ended in
      let e : min (s.made - s.ended + n) 4294967295 ≡ s.made - s.ended + n = omega (arith, h.sane.living) in
      rw (a, b, e) (go (leb (s.made - s.ended + n) max_living))
    where
      go : (c : Bool) → cond c 0 21 ≡ unless c 21 0
      go true = refl
      go false = refl

  -- question 22, "is it too late?"
  pub time-asked : (time : ℕ) → time ≤ in_force.max_clock → ask_time x time ≡ unless (leb (s.view.clock + time) m.rules.max_clock) 22 0
  unfolding ask_time
  time-asked time most =
      let a : x.clock ≡ s.view.clock = h.counting.clock in
      let e : min (s.view.clock + time) most64 ≡ s.view.clock + time = omega (arith, h.sane.timely.clock) in
      rw (a, e)
      (go (leb (s.view.clock + time) in_force.max_clock)
      ∙ ap (λ (q : Rules). unless (leb (s.view.clock + time) q.max_clock) 22 0) (sym h.sane.rules))
    where
      go : (b : Bool) → cond b 0 22 ≡ unless b 22 0
      go true = refl
      go false = refl

  -- both questions of a GENERATE, in the machine's order
  pub arrival-asked : (time : ℕ) (left : List ℕ) → time ≤ in_force.max_clock → ask_arrival x time ≡ ask_generate m (time ∷ left) s
  unfolding ask_arrival ask_generate first_no
  arrival-asked time left most =
      rw (room-asked 1 (omega arith), time-asked time most)
      (go (leb (living s + 1) max_living) (unless (leb (s.view.clock + time) m.rules.max_clock) 22 0))
    where
      go : (c : Bool) (n : ℕ) → first_no (unless c 21 0) n ≡ unless c 21 n
      go true n = refl
      go false n = refl

  -- ---- What yes says

  pub time_yes : (time : ℕ) → unless (leb (s.view.clock + time) m.rules.max_clock) 22 0 ≡ 0 → s.view.clock + time ≤ in_force.max_clock
  time_yes time e =
      subst (λ (q : Rules). s.view.clock + time ≤ q.max_clock) h.sane.rules
      (leb-true (s.view.clock + time) _ (unless_yes (leb (s.view.clock + time) m.rules.max_clock) 21 0 e).0)

  pub arrival_yes : (time : ℕ) (left : List ℕ) → ask_generate m (time ∷ left) s ≡ 0
      → (living s + 1 ≤ 1024) × (s.view.clock + time ≤ in_force.max_clock)
  unfolding ask_generate
  arrival_yes time left e =
      let q = unless_yes (leb (living s + 1) max_living) 20 (unless (leb (s.view.clock + time) m.rules.max_clock) 22 0) e in
      (leb-true (living s + 1) max_living q.0, time_yes time q.1)

  -- ---- Who holds a facility

  held-is : (n : ℕ) → n ≤ 64 → held_by tally n t.number ≡ up_to n (λ f. bit (eqb (server_at s.view f).holder t.number))
  unfolding held_by up_to server_at
  held-is zero le = refl
  held-is (suc n) le =
      let e : n ≡ suc n - 1 = omega arith in
      ap (λ (k : ℕ). k + bit (eqb (get_or tally (holder + n) 0) t.number)) (held-is n (omega arith))
      ∙ ap (λ (k : ℕ). up_to n (λ f. bit (eqb (server_at s.view f).holder t.number)) + bit (eqb k t.number))
      (h.tallying.servers.holders n (omega arith) ∙ ap (λ (i : ℕ). (get_or s.view.servers i (idle_server 0)).holder) e)

  -- one that holds a facility is counted in its residue
  held_none : get_or tally (1088 + t.number % 256) 0 ≡ 0 → held m s.view t.number ≡ 0
  unfolding held server_at of_residue
  held_none none =
      up_to-zero m.facilities (λ f. bit (eqb (server_at s.view f).holder t.number))
      (λ f a b. ap bit (ne_eqb _ t.number (counted f a b)))
    where
      r : ℕ
      r = t.number % 256

      counted : (f : ℕ) → 1 ≤ f → f ≤ m.facilities → (server_at s.view f).holder ≡ t.number → ⊥
      counted f a b e =
          omega (
            arith,
            none,
            h.tallying.servers.held r (omega arith),
            held_at r s.view.servers (f - 1) (omega (arith, h.proper.facilities)),
            ap (of_residue r) e,
            own,
          )
        where
          own : of_residue r t.number ≡ 1
          own = rw (ne_eqb t.number 0 (λ z. omega (arith, numbered h)), eq-eqb r r refl) refl

  -- question 28, "does it hold a facility?": the counts by residue rule out most, a walk through the facilities decides the rest
  pub holding-asked : (a : ℕ) → ask_holding tally m.facilities t.number ≡ question m (terminate a) t s
  unfolding ask_holding question held
  holding-asked a =
      rw
      (le-ltb (length tally) tally_size (omega (arith, h.tallying.size)), held-is m.facilities (omega (arith, h.proper.facilities)))
      (counts (eqb (get_or tally (1088 + t.number % 256) 0) 0) refl ∙ go (eqb (held m s.view t.number) 0)
      ∙ ap (λ (q : Rules). unless (not q.holders || eqb (held m s.view t.number) 0) 28 0) (sym h.sane.rules))
    where
      asked : Bool → ℕ
      asked none = cond none 0 28

      counts : (none : Bool) → eqb (get_or tally (1088 + t.number % 256) 0) 0 ≡ none
          → cond none 0 (asked (eqb (held m s.view t.number) 0)) ≡ asked (eqb (held m s.view t.number) 0)
      counts true e = rw (held_none (eqb-true _ 0 e)) refl
      counts false e = refl

      go : (none : Bool) → cond none 0 28 ≡ unless none 28 0
      go true = refl
      go false = refl
