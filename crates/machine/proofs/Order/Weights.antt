-- Everybody who waits, weighed: on a QL, a WEL or the WSL, and on REL with the returning mark. A turn changes the sum only by
-- the transaction that it takes: waking moves a wait to REL, and who is put there else has no mark.
use Rattle.machine.specs.All.{ℕ, zero, suc, ◌+◌, ◌-◌, ◌≤◌, ◌≡◌, refl, ◌∙◌, Bool, true, false, cond, List, [], ◌∷◌, Option, none, some, arith, take, drop, Transaction, Event, precedes, insert, those, flat, Code, Share, share_server, BlockModel, wel_index, State, with_returning, with_serial, set_made, ql_of, wel_of, to_rel, to_fel, wake, Parted, wake_ql, wake_first_wel, wake_wsl, arrival, copies, part_for, wake_for, check_wels, delay, arrive_all, next_events, move_clock, ap}
use Rattle.machine.proofs as our
use our.{Lists.Cases.check_wels-kept, Order.Records.Key, Lists.SumFacts.sum-part, Lists.Lines.sum-part_for}
use our.Lists.Sums.{sum_on, sum-insert, sum-those, sum_first}

-- ---- Definition

-- a wait, with the serial that it began with
pub record Wait : Type 0 where
  pub key : Key
  pub serial : ℕ

abbrev pub wait_of : Transaction → Wait
wait_of t = record { key = record { number = t.number; block = t.next; priority = t.priority }; serial = t.serial }

module _ (f : Wait → ℕ) where
  abbrev pub weight : Transaction → ℕ
  weight t = f (wait_of t)

  -- nothing without the returning mark
  abbrev pub marked : Transaction → ℕ
  marked t = cond t.returning (f (wait_of t)) 0

  unfoldable pub waiting : State → ℕ
  waiting s = sum_on weight (flat s.ql) + sum_on weight (flat s.wel) + sum_on weight s.wsl + sum_on marked s.rel

-- nobody moves with the mark
abbrev pub Unmarked : Option Transaction → Type 0
Unmarked none = Unit {0}
Unmarked (some t) = t.returning ≡ false

-- from s to s' no wait began or ended
pub record Quiet (s s' : State) : Type 0 where
  pub records : s'.records ≡ s.records
  pub serials : s.serial ≤ s'.serial
  pub weights : (f : Wait → ℕ) → waiting f s' ≡ waiting f s
  pub moving : Unmarked s.moving → Unmarked s'.moving

pub quiet_refl : (s : State) → Quiet s s
quiet_refl s = record { records = refl; serials = omega arith; weights = λ f. refl; moving = λ h. h }

pub quiet_trans : {a b c : State} → Quiet a b → Quiet b c → Quiet a c
quiet_trans h k =
    record {
      records = k.records ∙ h.records;
      serials = omega arith;
      weights = λ f. k.weights f ∙ h.weights f;
      moving = λ u. k.moving (h.moving u);
    }

-- ---- Waking

weigh-wake : (f : Wait → ℕ) (l rel : List Transaction) → sum_on (marked f) (wake l rel) ≡ sum_on (weight f) l + sum_on (marked f) rel
unfolding wake
weigh-wake f [] rel = omega arith
weigh-wake f (t ∷ l) rel =
    omega (arith, weigh-wake f l (insert precedes (with_returning true t) rel), sum-insert (marked f) precedes (with_returning true t) rel)

-- whom LEAVE and RELEASE wake still waits, on REL with the mark
pub quiet-wake_for : (m : BlockModel) (x : Share) (s : State) → Quiet s (wake_for m x s)
unfolding wake_for wake_ql waiting
quiet-wake_for m x s =
    record {
      records = refl;
      serials = omega arith;
      weights = λ f.
          omega (
            arith,
            sum-part (weight f) s.ql (v - 1) (λ l. (part l).stay) (omega (arith, sum-part_for (weight f) m x s.view [])),
            sum-part_for (weight f) m x s.view (ql_of s v),
            weigh-wake f (part (ql_of s v)).go s.rel,
          );
      moving = λ h. h;
    }
  where
    v : ℕ
    v = share_server x

    part : List Transaction → Parted
    part = part_for m x s.view

pub quiet-wake_first_wel : (v : ℕ) (code : Code) (s : State) → Quiet s (wake_first_wel v code s)
unfolding wake_first_wel waiting
quiet-wake_first_wel v code s =
    record {
      records = refl;
      serials = omega arith;
      weights = λ f.
          omega (
            arith,
            sum-part (weight f) s.wel (wel_index v code) (drop 1) refl,
            sum_first (weight f) (wel_of s v code),
            weigh-wake f (take 1 (wel_of s v code)) s.rel,
          );
      moving = λ h. h;
    }

pub quiet-wake_wsl : (p : Transaction → Bool) (s : State) → Quiet s (wake_wsl p s)
unfolding wake_wsl waiting
quiet-wake_wsl p s =
    record {
      records = refl;
      serials = omega arith;
      weights = λ f. omega (arith, sum-those (weight f) p s.wsl, weigh-wake f (those p s.wsl) s.rel);
      moving = λ h. h;
    }

pub quiet-check_wels : (v : ℕ) (s : State) → Quiet s (check_wels v s)
quiet-check_wels v s = check_wels-kept (Quiet s) v (λ code b q. quiet_trans q (quiet-wake_first_wel v code b)) s (quiet_refl s)

-- ---- Onto REL and the FEL, without the mark

-- without the mark nobody on REL waits
pub quiet-to_rel : (t : Transaction) (s : State) → t.returning ≡ false → Quiet s (to_rel t s)
unfolding to_rel waiting
quiet-to_rel t s e =
    record {
      records = refl;
      serials = omega arith;
      weights = λ f. omega (arith, sum-insert (marked f) precedes (with_serial (suc s.serial) t) s.rel, unmarked f);
      moving = λ h. h;
    }
  where
    unmarked : (f : Wait → ℕ) → marked f (with_serial (suc s.serial) t) ≡ 0
    unmarked f = ap (λ (b : Bool). cond b (f (wait_of (with_serial (suc s.serial) t))) 0) e

pub quiet-arrival : (l : List ℕ) (list p n : ℕ) (s : State) → Quiet s (arrival l list p n s)
unfolding arrival to_fel waiting
quiet-arrival [] list p n s = quiet_refl s
quiet-arrival (time ∷ l) list p n s = record { records = refl; serials = omega arith; weights = λ f. refl; moving = λ h. h }

pub quiet-delay : (l : List ℕ) (list : ℕ) (t : Transaction) (s : State) → Quiet s (delay l list t s)
unfolding delay to_fel waiting
quiet-delay [] list t s = quiet_refl s
quiet-delay (time ∷ l) list t s = record { records = refl; serials = omega arith; weights = λ f. refl; moving = λ h. h }

quiet-made : (n : ℕ) (s : State) → Quiet s (set_made n s)
unfolding waiting
quiet-made n s = record { records = refl; serials = omega arith; weights = λ f. refl; moving = λ h. h }

pub quiet-copies : (n target : ℕ) (t : Transaction) (s : State) → Quiet s (copies n target t s)
unfolding copies
quiet-copies zero target t s = quiet_refl s
quiet-copies (suc n) target t s =
    quiet_trans (quiet_trans (quiet-made (suc s.made) s) (quiet-to_rel _ _ refl)) (quiet-copies n target t _)

quiet-arrive_all : (l : List Event) (s : State) → Quiet s (arrive_all l s)
unfolding arrive_all
quiet-arrive_all [] s = quiet_refl s
quiet-arrive_all (e ∷ l) s = quiet_trans (quiet-to_rel _ s refl) (quiet-arrive_all l _)

pub quiet-next_events : (l : List Event) (s : State) → Quiet s (next_events l s)
unfolding next_events move_clock waiting
quiet-next_events [] s = quiet_refl s
quiet-next_events (e ∷ l) s =
    quiet_trans (record { records = refl; serials = omega arith; weights = λ f. refl; moving = λ h. h }) (quiet-arrive_all _ _)
