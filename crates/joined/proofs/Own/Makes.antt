-- Steps of the part that give names: arrivals, copies, delays, waits that begin.
use Rattle.machine.specs.All.{ℕ, zero, suc, ◌+◌, ◌-◌, ◌≡◌, refl, sym, ap, ◌∙◌, subst, Bool, true, false, cond, List, [], ◌∷◌, arith, Transaction, newborn, BlockModel, State, with_next, with_returning, set_made, log, to_rel, to_fel, begin_wait, must_wait, use_time, arrival, copy_of, copies, delay, with_serial, fresh}
use Rattle.machine.proofs.Decoding.Proper.{Names}
use Rattle.joined.specs.{Part, in_part}
use Rattle.joined.proofs as our
use our.Lists.Ranks.{rank_in, rank-zero, rank-noted, noted}
use our.Relation.Naming.{Naming, mine, Known, Ours, ours}
use our.Relation.Seen.{size, Tables, alone_as}
use our.Relation.NewNames.{with_serial_of, with_number_of, Keeps, serial-seen, number-seen, keeps-serial, keeps-number, known-fresh, alone-fresh}
use our.Own.Moves.{standing, Together, log-own}
use our.Own.Steps.{to_rel-own, to_fel-own, use_time-own}

module _ (p : Part) (m : BlockModel) where
  -- ---- Some names were given

  pub record After (N : Naming) (s s' : State) : Type 0 where
    pub naming : Naming
    pub together : Together p m naming s s'
    pub keeps : Keeps p m N naming

  pub keeps-all : (N : Naming) → Keeps p m N N
  keeps-all N = record { known = λ t k. k; same = λ t k. refl; since = refl; numbers = λ k a. refl }

  -- names that were given stay, however many more are given
  pub keeps_then : {N N' N'' : Naming} → Keeps p m N N' → Keeps p m N' N'' → Keeps p m N N''
  keeps_then h k =
      record {
        known = λ t q. k.known t (h.known t q);
        same = λ t q. h.same t q ∙ k.same t (h.known t q);
        since = k.since ∙ h.since;
        numbers = λ n a. k.numbers n (omega (arith, h.since)) ∙ h.numbers n a;
      }

  -- a step that gives no name
  pub after-here : {N : Naming} {s s' : State} → Together p m N s s' → After N s s'
  after-here {N} h = record { naming = N; together = h; keeps = keeps-all N }

  -- one step behind another
  pub after_then : {N : Naming} {s s' r r' : State} (a : After N s s') → After a.naming r r' → After N r r'
  after_then a b = record { naming = b.naming; together = b.together; keeps = keeps_then a.keeps b.keeps }

  module _ (T : Tables p m) where
    -- ---- A fresh serial

    module _ (N : Naming) (s s' : State) (h : Together p m N s s') where
      pub to_rel-after : (t : Transaction) → Ours p (size p m) N t → After N (to_rel t s) (to_rel (alone_as p m N t) s')
      to_rel-after t k =
          record { naming = with_serial_of N s.serial; together = to_rel-own p m T N s s' h t k; keeps = keeps-serial p m N s s' h.seen }

      pub to_fel-after : (time : ℕ) (t : Transaction) → Ours p (size p m) N t → After N (to_fel time t s) (to_fel time (alone_as p m N t) s')
      to_fel-after time t k =
          record {
            naming = with_serial_of N s.serial;
            together = to_fel-own p m T N s s' h time t k;
            keeps = keeps-serial p m N s s' h.seen;
          }

      -- one more of the part
      made-own : Together p m (with_number_of N s.made) (set_made (suc s.made) s) (set_made (suc s'.made) s')
      made-own = record { seen = number-seen p m N s s' h.seen; clock = h.clock; still = h.still }

      number-new : rank_in (with_number_of N s.made).numbers (suc s.made) ≡ suc s'.made
      number-new = rank-noted N.numbers s.made true ∙ one_more ∙ ap suc (sym h.seen.counted.made)
        where
          one_more : rank_in N.numbers s.made + 1 ≡ suc (rank_in N.numbers s.made)
          one_more = omega arith

    -- ---- Making

    alone-newborn : (N : Naming) (a b priority block : ℕ) → rank_in N.numbers a ≡ b
        → alone_as p m N (newborn a priority block) ≡ newborn b priority (block - p.to_block)
    unfolding newborn
    alone-newborn N a b priority block e = rw (e, rank-zero N.serials) refl

    ours-newborn : (N : Naming) (a priority block : ℕ) → in_part p (size p m) block ≡ true → N.numbers a ≡ true
        → Ours p (size p m) N (newborn a priority block)
    unfolding newborn
    ours-newborn N a priority block own e = record { own = own; number = e; family = e }

    -- a newborn gets the next number and serial of the part
    pub arrival-own : (times : List ℕ) (list priority block : ℕ) → Names m.lists list → in_part p (size p m) block ≡ true
        → (N : Naming) (s s' : State) → Together p m N s s'
        → After N (arrival times (list + p.to_list) priority block s) (arrival times list priority (block - p.to_block) s')
    unfolding arrival
    arrival-own [] list priority block i own N s s' h = after-here h
    arrival-own (time ∷ left) list priority block i own N s s' h =
        let used = use_time-own p m T N s s' h list i in
        let born = made-own N (use_time (list + p.to_list) s) (use_time list s') used in
        let N' : Naming = with_number_of N s.made in
        let t : Transaction = newborn (suc s.made) priority block in
        let new : N'.numbers (suc s.made) ≡ true = noted N.numbers s.made true in
        let k : Ours p (size p m) N' t = ours-newborn N' (suc s.made) priority block own new in
        let done = to_fel-after N' _ _ born (s.view.clock + time) t k in
        after_then
        (record { naming = N'; together = born; keeps = keeps-number p m N (use_time (list + p.to_list) s) (use_time list s') used.seen })
        (rw (alone-newborn N' (suc s.made) (suc s'.made) priority block
        (number-new N (use_time (list + p.to_list) s) (use_time list s') used)) at (subst
        (λ (c : ℕ). After N'
        (to_fel (s.view.clock + time) t (set_made (suc s.made) (use_time (list + p.to_list) s)))
        (to_fel (c + time) (alone_as p m N' t) (set_made (suc s'.made) (use_time list s'))))
        (sym h.clock) done))

    alone_copy : (N : Naming) (t : Transaction) (a b target : ℕ) → rank_in N.numbers a ≡ b
        → alone_as p m N (copy_of t a (target + p.to_block)) ≡ copy_of (alone_as p m N t) b target
    alone_copy N t a b target e = rw (e, rank-zero N.serials, back) refl
      where
        back : target + p.to_block - p.to_block ≡ target
        back = omega arith

    -- copies take their numbers one after the other, in both runs in the same order
    pub copies-own : (n target : ℕ) → in_part p (size p m) (target + p.to_block) ≡ true → (t : Transaction) (N : Naming) (s s' : State)
        → Together p m N s s' → Known p (size p m) N t
        → After N (copies n (target + p.to_block) t s) (copies n target (alone_as p m N t) s')
    unfolding copies
    copies-own zero target own t N s s' h k = after-here h
    copies-own (suc n) target own t N s s' h k =
        let N' : Naming = with_number_of N s.made in
        let kept = keeps-number p m N s s' h.seen in
        let k' = kept.known t k in
        let c : Transaction = copy_of t (suc s.made) (target + p.to_block) in
        let one : After N' (to_rel c (set_made (suc s.made) s))
        (to_rel (copy_of (alone_as p m N t) (suc s'.made) target) (set_made (suc s'.made) s')) =
        subst (λ (u : Transaction). After N' (to_rel c (set_made (suc s.made) s)) (to_rel u (set_made (suc s'.made) s')))
        (alone_copy N' t (suc s.made) (suc s'.made) target (number-new N s s' h)
        ∙ ap (λ (u : Transaction). copy_of u (suc s'.made) target) (sym (kept.same t k)))
        (to_rel-after N' _ _ (made-own N s s' h) c
        (record { own = own; number = noted N.numbers s.made true; family = k'.family })) in
        let first : After N (to_rel c (set_made (suc s.made) s))
        (to_rel (copy_of (alone_as p m N t) (suc s'.made) target) (set_made (suc s'.made) s')) =
        after_then (record { naming = N'; together = made-own N s s' h; keeps = kept }) one in
        after_then first
        (subst
        (λ (u : Transaction). After first.naming (copies n (target + p.to_block) t (to_rel c (set_made (suc s.made) s)))
        (copies n target u (to_rel (copy_of (alone_as p m N t) (suc s'.made) target) (set_made (suc s'.made) s'))))
        (sym (first.keeps.same t k))
        (copies-own n target own t first.naming _ _ first.together (first.keeps.known t k)))

    -- ---- Delays

    -- one block on
    pub next-back : (t : Transaction) → mine p (size p m) t ≡ true → suc t.next - p.to_block ≡ suc (t.next - p.to_block)
    next-back t own =
        let at = standing p m t.next own in
        omega (arith, at.there, at.names.0)

    pub delay-own : (times : List ℕ) (list : ℕ) → Names m.lists list → (t : Transaction) (N : Naming) (s s' : State)
        → Together p m N s s' → Known p (size p m) N t
        → in_part p (size p m) (suc t.next) ≡ true → After N (delay times (list + p.to_list) t s) (delay times list (alone_as p m N t) s')
    unfolding delay
    delay-own [] list i t N s s' h k on = after-here h
    delay-own (time ∷ left) list i t N s s' h k on =
        rw (next-back t k.own) at (subst
        (λ (c : ℕ). After N
        (to_fel (s.view.clock + time) (with_returning false (with_next (suc t.next) t)) (use_time (list + p.to_list) s))
        (to_fel (c + time) (with_returning false (with_next (suc t.next - p.to_block) (alone_as p m N t))) (use_time list s')))
        (sym h.clock)
        (to_fel-after N _ _ (use_time-own p m T N s s' h list i) (s.view.clock + time)
        (with_returning false (with_next (suc t.next) t)) (record { own = on; number = k.number; family = k.family })))

    -- ---- Waits

    -- onto a list on both sides
    abbrev pub Puts : (put put' : Transaction → State → State) → Type 0
    Puts put put' =
        (N : Naming) (s s' : State) → Together p m N s s' → (t : Transaction) → Known p (size p m) N t → Together p m N (put t s)
        (put' (alone_as p m N t) s')

    -- who begins to wait writes a record and takes a serial; how it is put on its list is any that both runs do alike
    pub begin_wait-own : (put put' : Transaction → State → State) → Puts put put' → (t : Transaction) (N : Naming) (s s' : State)
        → Together p m N s s' → Known p (size p m) N t
        → After N (begin_wait put t s) (begin_wait put' (alone_as p m N t) s')
    unfolding log
    begin_wait-own put put' P t N s s' h k =
        let logged = log-own p m T N s s' h 1 t k in
        let N' : Naming = with_serial_of N s.serial in
        record {
          naming = N';
          together =
              rw (alone-fresh p m N (log 1 t s) (log 1 (alone_as p m N t) s') logged.seen t) at (P N' _ _
              (record { seen = serial-seen p m N _ _ logged.seen; clock = logged.clock; still = logged.still })
              (with_serial (fresh s) t) (known-fresh p m N (log 1 t s) (log 1 (alone_as p m N t) s') logged.seen t (ours p (size p m) k)));
          keeps = keeps-serial p m N (log 1 t s) (log 1 (alone_as p m N t) s') logged.seen;
        }

    pub must_wait-own : (put put' : Transaction → State → State) → Puts put put' → (t : Transaction) (N : Naming) (s s' : State)
        → Together p m N s s' → Known p (size p m) N t
        → After N (must_wait put t s) (must_wait put' (alone_as p m N t) s')
    unfolding must_wait
    must_wait-own put put' P t N s s' h k = go t.returning
      where
        go : (b : Bool)
            → After N (cond b (put t s) (begin_wait put t s)) (cond b (put' (alone_as p m N t) s') (begin_wait put' (alone_as p m N t) s'))
        go true = after-here (P N s s' h t k)
        go false = begin_wait-own put put' P t N s s' h k
