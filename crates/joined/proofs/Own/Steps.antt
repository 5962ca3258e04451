-- The steps that blocks are made of, for a transaction of the part: serials, waking, servers, queues, times.
use Rattle.machine.specs.All.{ℕ, ◌+◌, ◌≡◌, refl, sym, ap, ◌∙◌, subst, Bool, not, List, [], ◌∷◌, map, take, Transaction, precedes, earlier, insert, those, others, Server, server_at, queue_at, Code, U, NU, E, NE, F, NF, status, BlockModel, State, with_serial, with_stamp, set_fel, set_serial, fresh, to_rel, to_fel, ql_of, wel_of, wake, Parted, wake_ql, wake_first_wel, wake_wsl, set_use, set_content, times_left, use_time, check_wel, check_wels, Each, true, false, cond, drop}
use Rattle.machine.proofs.{Decoding.Proper.Names, Decoding.Proper.servers, Basic.Each.each_map, Basic.Each.each-those, Basic.Each.each-drop, Lists.Sorted.sorted-those}
use Rattle.joined.specs.{Part, server_in}
use Rattle.joined.proofs as our
use our.Lists.Members.{those-map, take-map, drop-map, those-those, those-all}
use our.Lists.Tables.{rows-set}
use our.Lists.Ranks.{Named, rank_in}
use our.Relation.Naming.{Naming, mine, Known, Ours, wake-seen}
use our.Relation.Seen.{size, Gate, Tables, alone_as, Alike, Shown, SameServer}
use our.Relation.NewNames.{with_serial_of, serial-seen, known-fresh, alone-fresh}
use our.Own.Moves.{Together, rel-own, fel-own, put-rel, put-wsl, put-ql, put-wel, put-samples, put-servers, put-queues}

module _ (p : Part) (m : BlockModel) (T : Tables p m) where
  -- ---- With a fresh serial

  module _ (N : Naming) (s s' : State) (h : Together p m N s s') where
    begun : Together p m (with_serial_of N s.serial) (set_serial (fresh s) s) (set_serial (fresh s') s')
    begun = record { seen = serial-seen p m N s s' h.seen; clock = h.clock; still = h.still }

    -- a serial is given: the part's next name for the joined run's next serial
    pub to_rel-own : (t : Transaction) → Ours p (size p m) N t
        → Together p m (with_serial_of N s.serial) (to_rel t s) (to_rel (alone_as p m N t) s')
    unfolding to_rel
    to_rel-own t k =
        rw (alone-fresh p m N s s' h.seen t) at (rel-own p m T (with_serial_of N s.serial) _ _ begun (with_serial (fresh s) t)
        (known-fresh p m N s s' h.seen t k))

    pub to_fel-own : (time : ℕ) (t : Transaction) → Ours p (size p m) N t
        → Together p m (with_serial_of N s.serial) (to_fel time t s) (to_fel time (alone_as p m N t) s')
    unfolding to_fel
    to_fel-own time t k =
        let k' = known-fresh p m N s s' h.seen t k in
        subst
        (λ (u : Transaction).
        Together p m (with_serial_of N s.serial)
        (set_fel (insert earlier (record { time = time; who = with_stamp time (with_serial (fresh s) t) }) s.fel) (set_serial (fresh s) s))
        (set_fel (insert earlier (record { time = time; who = with_stamp time u }) s'.fel) (set_serial (fresh s') s')))
        (alone-fresh p m N s s' h.seen t)
        (fel-own p m T (with_serial_of N s.serial) _ _ begun (record { time = time; who = with_stamp time (with_serial (fresh s) t) })
        (record { own = k'.own; serial = k'.serial; number = k'.number; family = k'.family }))

  module _ (N : Naming) where
    abbrev K : Transaction → Type 0
    K = Known p (size p m) N

    abbrev alone : Transaction → Transaction
    alone = alone_as p m N

    -- ---- Waking

    -- the order of REL is total on those who are known, so waking commutes with seeing
    pub shown-wake : {rel rel' : List Transaction} → Shown p m N alone (λ t. t) precedes rel rel' → (l : List Transaction)
        → Each K (those (mine p (size p m)) l)
        → Shown p m N alone (λ t. t) precedes (wake l rel) (wake (map alone (those (mine p (size p m)) l)) rel')
    shown-wake {rel} {rel'} h l k =
        let w = wake-seen p (size p m) N l rel h.sorted k h.part.known in
        record {
          part = record { same = ap (wake (map alone (those (mine p (size p m)) l))) h.part.same ∙ w.same; known = w.known };
          sorted = w.sorted;
        }

    -- of a list that is all the part's
    shown-wake-own : {rel rel' : List Transaction} → Shown p m N alone (λ t. t) precedes rel rel' → (l : List Transaction) → Each K l
        → Shown p m N alone (λ t. t) precedes (wake l rel) (wake (map alone l) rel')
    shown-wake-own {rel} {rel'} h l k =
        let all : those (mine p (size p m)) l ≡ l = those-all (mine p (size p m)) l (each_map (λ t q. q.own) l k) in
        rw all at (shown-wake h l (subst (Each K) (sym all) k))

    -- a list parted on both sides alike
    pub record Parting (x x' : Parted) : Type 0 where
      pub go : Alike p m N alone (λ t. t) x.go x'.go
      pub stay : Alike p m N alone (λ t. t) x.stay x'.stay

    module _ (s s' : State) (h : Together p m N s s') where
      -- what the relation says of one row
      pub ql-seen : (v : ℕ) → Names (servers m) v → Alike p m N alone (λ t. t) (ql_of s (server_in p v)) (ql_of s' v)
      ql-seen v i = h.seen.lined.ql.alike v i

      pub server-seen : (v : ℕ) → Names (servers m) v → SameServer p m N (server_at s.view (server_in p v)) (server_at s'.view v)
      unfolding server_at
      server-seen v i = h.seen.fixtures.servers.alike v i

      pub wake_ql-own : (part part' : List Transaction → Parted) (v : ℕ) → Names (servers m) v
          → Parting (part (ql_of s (server_in p v))) (part' (ql_of s' v))
          → Together p m N (wake_ql part (server_in p v) s) (wake_ql part' v s')
      unfolding wake_ql
      wake_ql-own part part' v i k =
          let woken = put-rel p m T N s s' h (wake (part (ql_of s (server_in p v))).go s.rel) (wake (part' (ql_of s' v)).go s'.rel)
          (rw k.go.same (shown-wake-own h.seen.listed.rel _ k.go.known)) in
          put-ql p m T N _ _ woken _ _ (rows-set _ _ _ _ _ _ _ _ h.seen.lined.ql T.servers v i _ _ k.stay)

      pub wake_first_wel-own : (v : ℕ) (code : Code) → Names (servers m) v
          → Together p m N (wake_first_wel (server_in p v) code s) (wake_first_wel v code s')
      unfolding wake_first_wel
      wake_first_wel-own v code i =
          let g : Gate p m = record { server = v; code = code } in
          let l : Alike p m N alone (λ t. t) (wel_of s (server_in p v) code) (wel_of s' v code) = h.seen.lined.wel.alike g i in
          let woken =
          put-rel p m T N s s' h (wake (take 1 (wel_of s (server_in p v) code)) s.rel) (wake (take 1 (wel_of s' v code)) s'.rel)
          (subst
          (λ (r : List Transaction). Shown p m N alone (λ t. t) precedes (wake (take 1 (wel_of s (server_in p v) code)) s.rel)
          (wake r s'.rel))
          (sym (ap (take 1) l.same ∙ take-map alone (wel_of s (server_in p v) code)))
          (shown-wake-own h.seen.listed.rel _ (first (wel_of s (server_in p v) code) l.known))) in
          put-wel p m T N _ _ woken _ _
          (rows-set _ _ _ _ _ _ _ _ h.seen.lined.wel T.gates g i _ _
          (record {
            same = ap (drop 1) l.same ∙ drop-map alone (wel_of s (server_in p v) code);
            known = each-drop K (wel_of s (server_in p v) code) l.known;
          }))
        where
          first : (l : List Transaction) → Each K l → Each K (take 1 l)
          first [] k = tt
          first (t ∷ l) k = (k.0, tt)

      -- tests that say of each what they say of its image
      pub wake_wsl-own : (q q' : Transaction → Bool) → Each (λ t. q' (alone t) ≡ q t) (those (mine p (size p m)) s.wsl)
          → Together p m N (wake_wsl q s) (wake_wsl q' s')
      unfolding wake_wsl
      wake_wsl-own q q' e =
          let ours : List Transaction = those (mine p (size p m)) s.wsl in
          let l = h.seen.listed.wsl in
          let go : those q' s'.wsl ≡ map alone (those (mine p (size p m)) (those q s.wsl)) =
          ap (those q') l.part.same ∙ those-map alone q' q ours e ∙ ap (map alone) (sym (those-those (mine p (size p m)) q s.wsl)) in
          let stay : others q' s'.wsl ≡ map alone (those (mine p (size p m)) (others q s.wsl)) =
          ap (others q') l.part.same ∙ those-map alone (λ t. not (q' t)) (λ t. not (q t)) ours (each_map (λ t d. ap not d) ours e)
          ∙ ap (map alone) (sym (those-those (mine p (size p m)) (λ t. not (q t)) s.wsl)) in
          let known : (r : Transaction → Bool) → Each K (those (mine p (size p m)) (those r s.wsl)) =
          λ r. rw (those-those (mine p (size p m)) r s.wsl) (each-those K r ours l.part.known) in
          let woken = put-rel p m T N s s' h (wake (those q s.wsl) s.rel) (wake (those q' s'.wsl) s'.rel)
          (rw go (shown-wake h.seen.listed.rel (those q s.wsl) (known q))) in
          put-wsl p m T N _ _ woken _ _
          (record {
            part = record { same = stay; known = known (λ t. not (q t)) };
            sorted = sorted-those precedes (λ t. not (q t)) s.wsl l.sorted;
          })

      -- ---- Servers, queues, times

      -- the holder is named by rank
      pub set_use-own : (v units holder : ℕ) (preempted : Bool) → Names (servers m) v → Named N.numbers holder
          → Together p m N (set_use (server_in p v) units holder preempted s) (set_use v units (rank_in N.numbers holder) preempted s')
      unfolding set_use server_at
      set_use-own v units holder preempted i k =
          let x = h.seen.fixtures.servers.alike v i in
          put-servers p m T N s s' h _ _
          (rows-set _ _ _ _ _ _ _ _ h.seen.fixtures.servers T.servers v i _ _
          (record { capacity = x.capacity; in_use = refl; holder = refl; preempted = refl; holder-named = k }))

      pub set_content-own : (q n : ℕ) → Names m.queues q → Together p m N (set_content (q + p.to_queue) n s) (set_content q n s')
      unfolding set_content queue_at
      set_content-own q n i = put-queues p m T N s s' h _ _ (rows-set _ _ _ _ _ _ _ _ h.seen.fixtures.queues T.queues q i _ _ refl)

      pub content-seen : (q : ℕ) → Names m.queues q → (queue_at s'.view q).content ≡ (queue_at s.view (q + p.to_queue)).content
      unfolding queue_at
      content-seen q i = h.seen.fixtures.queues.alike q i

      pub times-seen : (l : ℕ) → Names m.lists l → times_left s' l ≡ times_left s (l + p.to_list)
      times-seen l i = h.seen.fixtures.lists.alike l i

      pub use_time-own : (l : ℕ) → Names m.lists l → Together p m N (use_time (l + p.to_list) s) (use_time l s')
      use_time-own l i =
          put-samples p m T N s s' h _ _
          (rows-set _ _ _ _ _ _ _ _ h.seen.fixtures.lists T.lists l i _ _ (ap (drop 1) (times-seen l i)))

    -- ---- The check of the WELs

    pub status-seen : (code : Code) (v v' : Server) → SameServer p m N v v' → status code v' ≡ status code v
    unfolding status
    status-seen U v v' h = rw h.in_use
    status-seen NU v v' h = rw h.in_use
    status-seen E v v' h = rw h.in_use
    status-seen NE v v' h = rw h.in_use
    status-seen F v v' h = rw (h.in_use, h.capacity)
    status-seen NF v v' h = rw (h.in_use, h.capacity)

    check_wel-own : (v : ℕ) (code : Code) → Names (servers m) v → (s s' : State) → Together p m N s s'
        → Together p m N (check_wel (server_in p v) code s) (check_wel v code s')
    unfolding check_wel
    check_wel-own v code i s s' h = rw (status-seen code _ _ (server-seen s s' h v i)) (go (status code (server_at s.view (server_in p v))))
      where
        go : (b : Bool) → Together p m N (cond b s (wake_first_wel (server_in p v) code s)) (cond b s' (wake_first_wel v code s'))
        go true = h
        go false = wake_first_wel-own s s' h v code i

    pub check_wels-own : (v : ℕ) → Names (servers m) v → (s s' : State) → Together p m N s s'
        → Together p m N (check_wels (server_in p v) s) (check_wels v s')
    unfolding check_wels
    check_wels-own v i s s' h =
        check_wel-own v NF i _ _
        (check_wel-own v F i _ _ (check_wel-own v NE i _ _ (check_wel-own v E i _ _ (check_wel-own v NU i _ _ (check_wel-own v U i s s' h)))))
