-- REL and the QLs, block by block: how SEIZE, RELEASE, ENTER and LEAVE keep `Queued`, for the one that moves, t, in front of REL.
use Rattle.machine.specs.All.{ℕ, ◌+◌, ◌-◌, ◌≤◌, ◌≡◌, refl, sym, ◌∙◌, Bool, false, not, List, [], ◌∷◌, arith, ℕ_discrete, leb, length, take, drop, get_or-set_same, get_or-set_other, set-get_or, leb-false, lt-leb, not-true, Transaction, precedes, others, nth, set_nth, Server, free, facility, storage, share_server, share_units, Block, facts, BlockModel, with_use, line_up, wake, Parted, first_of, part_by, units_of_lem, Each, ap, true, idle_server, block_at, with_returning}
use Rattle.machine.proofs as our
use our.Decoding.Proper.{Proper, ProperBlock, servers, Role, generating, taking, preempting, neither, role}
use our.Basic.Each.{each_map, each-passes}
use our.NobodyAble.Waiting.{Next}
use our.Lists.Sorted.{Sorted, some_inserted, at_set, sorted-drop, sorted-those}
use our.Lists.Lines.{each-line_up, sorted-line_up, Both}
use our.NobodyAble.Waiting.{server_of, AtServer, server_in, QlWaits, nobody_fits, next_ready, Queued}
use our.NobodyAble.Ready.{Grows, grows-not, grows-wake, ql-more, ql_else}

-- ---- The units of a SEIZE or PREEMPT

seize-units : (m : BlockModel) {b : Block} → Role b → ProperBlock m b → 1 ≤ (facts b).server → (facts b).server ≤ m.facilities
    → (facts b).units ≡ 1
unfolding facts share_server share_units
seize-units m (generating list p) k a c = omega arith
seize-units m (taking (facility v)) k a c = refl
seize-units m (taking (storage v b)) k a c = omega arith
seize-units m (preempting f) k a c = refl
seize-units m (neither e z) k a c = omega arith

-- who stands at a SEIZE or PREEMPT takes one unit
facility-units : {m : BlockModel} {tape : List (List ℕ)} → Proper m tape → (v : ℕ) (t : Transaction) → 1 ≤ v → v ≤ m.facilities
    → AtServer m v t → units_of_lem m t ≡ 1
facility-units {m} proper v t a b e = seize-units m (role (block_at m t.next)) (proper.block t.next) (omega arith) (omega arith)

-- ---- One server and its QL change

module _ {m : BlockModel} {t : Transaction} {rel : List Transaction} {l : List Server} {ql : List (List Transaction)}
    (w : Queued m (t ∷ rel) rel l ql) (v : ℕ) (one : 1 ≤ v) (in-l : v ≤ length l) (in-ql : v ≤ length ql) where
  abbrev q : List Transaction
  q = nth ql v []

  queued-set : (x : Server) (q' rel' : List Transaction) → ((v' : ℕ) → 1 ≤ v' → (v' ≡ v → ⊥) → AtServer m v' t → ⊥)
      → Grows rel rel' → (m.edition ≡ 1 → Sorted precedes q') → Each (AtServer m v) q' → (m.edition ≡ 1 → QlWaits m rel' x v q')
      → Queued m rel' rel' (set_nth l v x) (set_nth ql v q')
  queued-set x q' rel' leaves grows sorted stands waits =
      record {
        rel-sorted = grows.sorted w.rel-sorted;
        ql-sorted = λ first k. at_set (Sorted precedes) ql (v - 1) k q' [] (λ e. sorted first) (w.ql-sorted first k);
        ql-stands = λ v' a.
            at_set (Each (AtServer m v')) ql (v - 1) (v' - 1) q' []
            (λ e. each_map (λ x h. h ∙ omega arith) q' stands) (w.ql-stands v' a);
        ql-waits = λ first v' a b. at first v' a b (ℕ_discrete v' v);
      }
    where
      at : m.edition ≡ 1 → (v' : ℕ) → 1 ≤ v' → v' ≤ servers m → Dec (v' ≡ v)
          → QlWaits m rel' (server_in (set_nth l v x) v') v' (nth (set_nth ql v q') v' [])
      at first v' a b (yes e) =
          rw (e, get_or-set_same l (v - 1) x (idle_server 0) (omega arith), get_or-set_same ql (v - 1) q' [] (omega arith)) (waits first)
      at first v' a b (no n) =
          let d : v' - 1 ≡ v - 1 → ⊥ = λ e. n (omega arith) in
          rw (get_or-set_other l (v - 1) (v' - 1) x (idle_server 0) d, get_or-set_other ql (v - 1) (v' - 1) q' [] d)
          (ql-more grows.keeps (ql_else (leaves v' a n) (w.ql-waits first v' a b)))

  -- 4 SEIZE and 6 ENTER, getting in
  pub taken-queued : {tape : List (List ℕ)} (b holder : ℕ) (preempted : Bool) → Proper m tape → v ≤ servers m
      → (v ≤ m.facilities → (server_in l v).capacity ≡ 1)
      → AtServer m v t → units_of_lem m t ≡ b
      → Queued m rel rel (set_nth l v (with_use ((server_in l v).in_use + b) holder preempted (server_in l v))) ql
  taken-queued b holder preempted proper known whole at units =
      rw (set-get_or ql (v - 1) []) at (queued-set x q rel (λ v' a n h. n (sym h ∙ at)) (grows-not rel) (λ first. w.ql-sorted first (v - 1))
      (w.ql-stands v one)
      (λ first. waits (w.ql-waits first v one known)))
    where
      x : Server
      x = with_use ((server_in l v).in_use + b) holder preempted (server_in l v)

      waits : QlWaits m (t ∷ rel) (server_in l v) v q → QlWaits m rel x v q
      waits (nobody_fits h) =
          nobody_fits (each_map (λ u n. lt-leb (units_of_lem m u) (free x) (omega (arith, leb-false (units_of_lem m u) (free (server_in l v)) n))) q h)
      waits (next_ready f h) =
          nobody_fits
          (each_map
          (λ u e. lt-leb (units_of_lem m u) (free x)
          (omega (arith, whole f, units, facility-units proper v u one f e, facility-units proper v t one f at)))
          q (w.ql-stands v one))

  -- 19 PREEMPT and 20 RETURN: another holds a facility that stays in use
  pub handed-queued : (holder : ℕ) (preempted : Bool) → v ≤ servers m → ((v' : ℕ) → 1 ≤ v' → (v' ≡ v → ⊥) → AtServer m v' t → ⊥)
      → (QlWaits m (t ∷ rel) (server_in l v) v q → QlWaits m rel (server_in l v) v q)
      → Queued m rel rel (set_nth l v (with_use (server_in l v).in_use holder preempted (server_in l v))) ql
  handed-queued holder preempted known leaves waits =
      rw (set-get_or ql (v - 1) []) at (queued-set x q rel leaves (grows-not rel) (λ first. w.ql-sorted first (v - 1)) (w.ql-stands v one)
      (λ first. alike (waits (w.ql-waits first v one known))))
    where
      x : Server
      x = with_use (server_in l v).in_use holder preempted (server_in l v)

      alike : QlWaits m rel (server_in l v) v q → QlWaits m rel x v q
      alike (nobody_fits h) = nobody_fits h
      alike (next_ready f h) = next_ready f h

  -- nobody fits a facility in use
  pub in_use-waits : {tape : List (List ℕ)} → Proper m tape → v ≤ m.facilities → (server_in l v).capacity ≡ 1 → 1 ≤ (server_in l v).in_use
      → QlWaits m rel (server_in l v) v q
  in_use-waits proper f whole used =
      nobody_fits
      (each_map (λ u e. lt-leb (units_of_lem m u) (free (server_in l v)) (omega (arith, whole, used, facility-units proper v u one f e))) q
      (w.ql-stands v one))

  -- and not getting in
  pub waits-queued : {tape : List (List ℕ)} (t' : Transaction) → Proper m tape → v ≤ servers m → AtServer m v t → AtServer m v t'
      → leb (units_of_lem m t') (free (server_in l v)) ≡ false → Queued m rel rel l (set_nth ql v (line_up m.edition t' q))
  waits-queued t' proper known at at' full =
      rw (set-get_or l (v - 1) (idle_server 0)) at (queued-set (server_in l v) (line_up m.edition t' q) rel (λ v' a n h. n (sym h ∙ at))
      (grows-not rel)
      (λ first. sorted-line_up m.edition t' q first (w.ql-sorted first (v - 1)))
      (each-line_up (AtServer m v) m.edition t' q at' (w.ql-stands v one))
      (λ first. nobody_fits
      (each-line_up Full m.edition t' q full (waits (w.ql-waits first v one known)))))
    where
      Full : Transaction → Type 0
      Full u = leb (units_of_lem m u) (free (server_in l v)) ≡ false

      waits : QlWaits m (t ∷ rel) (server_in l v) v q → Each Full q
      waits (nobody_fits h) = h
      waits (next_ready f h) =
          each_map
          (λ u e. ap (λ n. leb n (free (server_in l v))) (facility-units proper v u one f e ∙ sym (facility-units proper v t' one f at'))
          ∙ full)
          q (w.ql-stands v one)

  -- 5 RELEASE and 7 LEAVE: some of the QL go to REL

  -- what edition 1 knows of who stays on the QL of a server that is now x
  abbrev pub Kept : Server → Parted → Type 0
  Kept x p = Sorted precedes p.stay × QlWaits m (wake p.go rel) x v p.stay

  -- those who go come to REL and the server is x then: who stays does not fit, or somebody ready precedes it
  pub parted-queued : (x : Server) (p : Parted) → Both (AtServer m v) p → (m.edition ≡ 1 → Kept x p) → server_of m t ≡ 0
      → Queued m (wake p.go rel) (wake p.go rel) (set_nth l v x) (set_nth ql v p.stay)
  parted-queued x p both kept off =
      queued-set x p.stay (wake p.go rel) (λ v' a n h. omega arith) (grows-wake p.go rel)
      (λ first. (kept first).0) both.1 (λ first. (kept first).1)

  -- the first
  pub first-kept : (x : Server) → v ≤ m.facilities → m.edition ≡ 1 → Kept x (first_of q)
  unfolding wake precedes
  first-kept x f first = (sorted-drop precedes q (w.ql-sorted first (v - 1)), waits q (w.ql-sorted first (v - 1)) (w.ql-stands v one))
    where
      waits : (l : List Transaction) → Sorted precedes l → Each (AtServer m v) l → QlWaits m (wake (take 1 l) rel) x v (drop 1 l)
      waits [] h k = nobody_fits tt
      waits (y ∷ l) h k = next_ready f (some_inserted (Next m v l) precedes (with_returning true y) rel (k.0, h.0))

  -- all that fit
  pub fitting-kept : (x : Server) (p : Transaction → Bool) → ((u : Transaction) → p u ≡ false → leb (units_of_lem m u) (free x) ≡ false)
      → m.edition ≡ 1 → Kept x (part_by p q)
  fitting-kept x p fits first = (
    sorted-those precedes (λ u. not (p u)) q (w.ql-sorted first (v - 1)),
    nobody_fits (each_map (λ u e. fits u (not-true _ e)) (others p q) (each-passes (λ u. not (p u)) q)),
  )
