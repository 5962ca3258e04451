-- A QL of the part is parted as it is in the part alone.
use Rattle.machine.specs.All.{ℕ, ◌-◌, ◌≡◌, refl, ap, ◌∙◌, Bool, true, false, cond, not, List, [], ◌∷◌, map, ltb, eqb, eqb-false, Transaction, any_of, View, server_at, Share, facility, storage, share_server, above_one, BlockModel, Parted, first_of, part_by, goes, stays, units_of_lem, fits, first_of_one, from_front, queue_remove, part_for, Each, sym, ap₂, leb, free}
use Rattle.machine.proofs.{Basic.Each.each_map, Lists.Lines.both-part_for}
use Rattle.joined.specs.{Part, server_in, share_in}
use Rattle.joined.proofs as our
use our.Lists.Members.{those-map, take-map, drop-map}
use our.Relation.Naming.{Naming, Known}
use our.Own.Inside.{Inside, units-seen}
use our.Own.Steps.{Parting}
use our.Relation.Seen.{size, alone_as, Alike, SameServer}

module _ (p : Part) (m M : BlockModel) (I : Inside p m M) (N : Naming) where
  abbrev K : Transaction → Type 0
  K = Known p (size p m) N

  abbrev alone : Transaction → Transaction
  alone = alone_as p m N

  abbrev parted : Parted → Parted
  parted x = record { go = map alone x.go; stay = map alone x.stay }

  first-same : (l : List Transaction) → first_of (map alone l) ≡ parted (first_of l)
  first-same l = ap₂ {C = Parted} (λ (a b : List Transaction). record { go = a; stay = b }) (take-map alone l) (drop-map alone l)

  of-one-same : (l : List Transaction) → Each K l → first_of_one m (map alone l) ≡ parted (first_of_one M l)
  unfolding first_of_one
  of-one-same [] h = refl
  of-one-same (t ∷ l) h = rw (units-seen p m M I N t h.0) (go (eqb (units_of_lem M t) 1) (of-one-same l h.1))
    where
      go : (b : Bool) → first_of_one m (map alone l) ≡ parted (first_of_one M l)
          → cond b (first_of (alone t ∷ map alone l)) (stays (alone t) (first_of_one m (map alone l))) ≡ parted
          (cond b (first_of (t ∷ l)) (stays t (first_of_one M l)))
      go true e = first-same (t ∷ l)
      go false e = ap (stays (alone t)) e

  from-front-same : (b : ℕ) (l : List Transaction) → Each K l → from_front m b (map alone l) ≡ parted (from_front M b l)
  unfolding from_front
  from-front-same b [] h = refl
  from-front-same b (t ∷ l) h =
      rw (units-seen p m M I N t h.0)
      (go (eqb b (units_of_lem M t)) (ltb b (units_of_lem M t)) (from-front-same b l h.1) (from-front-same (b - units_of_lem M t) l h.1))
    where
      go : (x y : Bool) → from_front m b (map alone l) ≡ parted (from_front M b l)
          → from_front m (b - units_of_lem M t) (map alone l) ≡ parted (from_front M (b - units_of_lem M t) l)
          → cond x (first_of (alone t ∷ map alone l))
          (cond y (stays (alone t) (from_front m b (map alone l))) (goes (alone t) (from_front m (b - units_of_lem M t) (map alone l))))
          ≡ parted (cond x (first_of (t ∷ l)) (cond y (stays t (from_front M b l)) (goes t (from_front M (b - units_of_lem M t) l))))
      go true y e d = first-same (t ∷ l)
      go false true e d = ap (stays (alone t)) e
      go false false e d = ap (goes (alone t)) d

  by-same : (q q' : Transaction → Bool) (l : List Transaction) → Each (λ t. q' (alone t) ≡ q t) l
      → part_by q' (map alone l) ≡ parted (part_by q l)
  by-same q q' l e =
      ap₂ {C = Parted} (λ (a b : List Transaction). record { go = a; stay = b }) (those-map alone q' q l e)
      (those-map alone (λ t. not (q' t)) (λ t. not (q t)) l (each_map (λ t d. ap not d) l e))

  part_same : (x : Share) (w w' : View) → SameServer p m N (server_at w (server_in p (share_server x))) (server_at w' (share_server x))
      → (l : List Transaction) → Each K l
      → part_for m x w' (map alone l) ≡ parted (part_for M (share_in p x) w l)
  unfolding part_for queue_remove share_in share_server fits
  part_same (facility v) w w' e l h = first-same l
  part_same (storage v b) w w' e l h =
      go (eqb m.edition 1) refl
      ∙ ap (λ (c : Bool). parted (cond c (part_by (fits M w (server_in p v)) l) (queue_remove M b l)))
      (ap (λ (k : ℕ). eqb k 1) (sym I.edition))
    where
      fits-same : Each (λ t. leb (units_of_lem m (alone t)) (free (server_at w' v)) ≡ leb (units_of_lem M t) (free (server_at w (server_in p v)))) l
      fits-same =
          each_map (λ (t : Transaction) k. ap₂ leb (units-seen p m M I N t k) (ap₂ (λ (a b : ℕ). a - b) e.capacity e.in_use)) l h

      go : (c : Bool) → eqb m.edition 1 ≡ c
          → cond c (part_by (fits m w' v) (map alone l)) (queue_remove m b (map alone l)) ≡ parted
          (cond c (part_by (fits M w (server_in p v)) l) (queue_remove M b l))
      go true d = by-same (fits M w (server_in p v)) (fits m w' v) l fits-same
      go false d = rw (I.units (eqb-false _ _ d)) (other (any_of above_one m.blocks) (eqb b 1))
        where
          other : (c d : Bool)
              → cond c (cond d (first_of_one m (map alone l)) (from_front m b (map alone l))) (first_of (map alone l)) ≡ parted
              (cond c (cond d (first_of_one M l) (from_front M b l)) (first_of l))
          other true true = of-one-same l h
          other true false = from-front-same b l h
          other false d = first-same l

  -- under either edition the walk along the QL reads units, which are the same
  pub parts-own : (x : Share) (w w' : View) → SameServer p m N (server_at w (server_in p (share_server x))) (server_at w' (share_server x))
      → (l l' : List Transaction) → Alike p m N alone (λ t. t) l l'
      → Parting p m I.tables N (part_for M (share_in p x) w l) (part_for m x w' l')
  parts-own x w w' e l l' h =
      let same : part_for m x w' l' ≡ parted (part_for M (share_in p x) w l) =
      ap (part_for m x w') h.same ∙ part_same x w w' e l h.known in
      let known = both-part_for K M (share_in p x) w l h.known in
      record {
        go = record { same = ap (λ (y : Parted). y.go) same; known = known.0 };
        stay = record { same = ap (λ (y : Parted). y.stay) same; known = known.1 };
      }
