-- The part's records of the joined run, by rank, are its own: the numbers with a record are those on the part's roll.
use Rattle.machine.specs.All.{ℕ, ◌-◌, ◌≤◌, ◌≡◌, refl, sym, ap, ◌∙◌, Bool, true, false, cond, ◌||◌, true≢false, List, [], ◌∷◌, ◌++◌, map, reverse, reverse-cons, arith, ltb, eqb, eqb-true, ltb-true, ltb-false, those, any_of, bit, BlockModel, Record, State, Logged, records_of, Each, ◌<◌, ap₂}
use Rattle.machine.proofs.{Basic.Each.each_map, Lists.Sums.up_to_cong}
use Rattle.joined.specs.{Part, in_part, records_in, rank, by_rank, part_of}
use Rattle.joined.proofs as our
use our.Lists.Members.{reverse-map, map_same, no_true, all_same}
use our.Lists.Ranks.{rank_in, rank_less, rank_mono, rank-eqb, listed, listed-within}
use our.Relation.Naming.{Naming}
use our.Relation.Seen.{size, record_as, Seen}

-- ---- Selection and reversal

module _ {A : Type 0} where
  those-append : (q : A → Bool) (a b : List A) → those q (a ++ b) ≡ those q a ++ those q b
  unfolding those
  those-append q [] b = refl
  those-append q (x ∷ a) b = go (q x) (those-append q a b)
    where
      go : (c : Bool) → those q (a ++ b) ≡ those q a ++ those q b
          → cond c (x ∷ those q (a ++ b)) (those q (a ++ b)) ≡ cond c (x ∷ those q a) (those q a) ++ those q b
      go true e = ap (λ (l : List A). x ∷ l) e
      go false e = e

  those-reverse : (q : A → Bool) (l : List A) → those q (reverse l) ≡ reverse (those q l)
  unfolding those
  those-reverse q [] = refl
  those-reverse q (x ∷ l) =
      ap (those q) (reverse-cons x l) ∙ those-append q (reverse l) (x ∷ [])
      ∙ ap (λ (r : List A). r ++ those q (x ∷ [])) (those-reverse q l) ∙ go (q x)
    where
      nil : (r : List A) → r ++ [] ≡ r
      nil [] = refl
      nil (y ∷ r) = ap (λ (k : List A). y ∷ k) (nil r)

      go : (c : Bool) → reverse (those q l) ++ cond c (x ∷ []) [] ≡ reverse (cond c (x ∷ those q l) (those q l))
      go true = sym (reverse-cons x (those q l))
      go false = nil (reverse (those q l))

  any_append : (q : A → Bool) (a b : List A) → any_of q (a ++ b) ≡ (any_of q a || any_of q b)
  unfolding any_of
  any_append q [] b = refl
  any_append q (x ∷ a) b = ap (λ (c : Bool). q x || c) (any_append q a b) ∙ assoc (q x) (any_of q a) (any_of q b)
    where
      assoc : (a b c : Bool) → (a || (b || c)) ≡ ((a || b) || c)
      assoc true b c = refl
      assoc false b c = refl

  any-reverse : (q : A → Bool) (l : List A) → any_of q (reverse l) ≡ any_of q l
  unfolding any_of
  any-reverse q [] = refl
  any-reverse q (x ∷ l) =
      ap (any_of q) (reverse-cons x l) ∙ any_append q (reverse l) (x ∷ []) ∙ ap (λ (c : Bool). c || (q x || false)) (any-reverse q l)
      ∙ swap (any_of q l) (q x)
    where
      swap : (a b : Bool) → (a || (b || false)) ≡ (b || a)
      swap true true = refl
      swap true false = refl
      swap false true = refl
      swap false false = refl

  any_same : (q r : A → Bool) (l : List A) → Each (λ x. q x ≡ r x) l → any_of q l ≡ any_of r l
  unfolding any_of
  any_same q r [] h = refl
  any_same q r (x ∷ l) h = ap₂ (λ (a b : Bool). a || b) h.0 (any_same q r l h.1)

  any_none : (q : A → Bool) (l : List A) → Each (λ x. q x ≡ false) l → any_of q l ≡ false
  unfolding any_of
  any_none q [] h = refl
  any_none q (x ∷ l) h = ap₂ (λ (a b : Bool). a || b) h.0 (any_none q l h.1)

any-map : {A B : Type 0} (f : A → B) (q : B → Bool) (l : List A) → any_of q (map f l) ≡ any_of (λ x. q (f x)) l
unfolding any_of
any-map f q [] = refl
any-map f q (x ∷ l) = ap (λ (c : Bool). q (f x) || c) (any-map f q l)

-- ---- Ranks

module _ (p : Part) (m : BlockModel) (N : Naming) (s a : State) (h : Seen p m N s a) (nobody : N.numbers 0 ≡ false)
    (all : (n : ℕ) → 1 ≤ n → n ≤ a.made → any_of (λ r. eqb r.entry.transaction n) a.records ≡ true) where
  -- the part's records, newest first
  abbrev ours : List Record
  ours = those (λ r. in_part p (size p m) r.block) (map (λ r. r.entry) s.records)

  abbrev back : Record → Record
  back r = record { clock = r.clock; transaction = r.transaction; block = r.block - p.to_block; outcome = r.outcome }

  abbrev numbered : ℕ → Record → Record
  numbered k r = record { clock = r.clock; transaction = k; block = r.block; outcome = r.outcome }

  abbrev known : Each (λ (r : Record). N.numbers r.transaction ≡ true) ours
  known = h.told.known

  -- a number on the roll has a record
  listed_has : (k : ℕ) → N.numbers k ≡ true → any_of (λ r. eqb r.transaction k) ours ≡ true
  listed_has k e =
      let one : 1 ≤ k = at_least (ltb 0 k) refl in
      let low : rank_in N.numbers 0 < rank_in N.numbers k = rank_less N.numbers 0 k e (omega arith) in
      let high : rank_in N.numbers k ≤ rank_in N.numbers s.made =
      rank_mono N.numbers k s.made (listed-within N.numbers s.made k h.counted.numbers-upto e) in
      sym (any_same (λ r. eqb (rank_in N.numbers r.transaction) (rank_in N.numbers k)) (λ r. eqb r.transaction k) ours
      (each_map (λ (r : Record) q. rank-eqb N.numbers r.transaction k (listed q) (listed e)) ours known))
      ∙ sym (any-map (record_as p m N) (λ (r : Record). eqb r.transaction (rank_in N.numbers k)) ours)
      ∙ ap (any_of (λ (r : Record). eqb r.transaction (rank_in N.numbers k))) (sym h.told.same)
      ∙ any-map (λ (r : Logged). r.entry) (λ (r : Record). eqb r.transaction (rank_in N.numbers k)) a.records
      ∙ all (rank_in N.numbers k) (omega arith) (omega (arith, h.counted.made))
    where
      zero_of : ltb 0 k ≡ false → k ≡ 0
      zero_of d = omega (arith, ltb-false 0 k d)

      at_least : (b : Bool) → ltb 0 k ≡ b → 1 ≤ k
      at_least true d = ltb-true 0 k d
      at_least false d = absurd (true≢false (sym e ∙ ap N.numbers (zero_of d) ∙ nobody))

  has_listed : (k : ℕ) → N.numbers k ≡ false → any_of (λ r. eqb r.transaction k) ours ≡ false
  has_listed k e =
      any_none (λ (r : Record). eqb r.transaction k) ours
      (each_map
      (λ (r : Record) q. no_true (eqb r.transaction k)
      (λ d. true≢false (sym q ∙ ap N.numbers (eqb-true r.transaction k d) ∙ e))) ours known)

  on_roll : (k : ℕ) → any_of (λ r. eqb r.transaction k) ours ≡ N.numbers k
  on_roll k = go (N.numbers k) refl
    where
      go : (b : Bool) → N.numbers k ≡ b → any_of (λ r. eqb r.transaction k) ours ≡ b
      go true e = listed_has k e
      go false e = has_listed k e

  -- in the order of writing, as the part numbers its blocks
  listing : records_in p (size p m) (records_of s) ≡ reverse (map back ours)
  unfolding records_in records_of
  listing =
      ap (λ (l : List Record). map back (those (λ r. in_part p (size p m) r.block) l))
      (sym (reverse-map (λ (r : Logged). r.entry) s.records))
      ∙ ap (map back) (those-reverse (λ (r : Record). in_part p (size p m) r.block) (map (λ r. r.entry) s.records))
      ∙ sym (reverse-map back ours)

  rank_of : (n : ℕ) → rank (reverse (map back ours)) n ≡ rank_in N.numbers n
  unfolding rank rank_in
  rank_of n =
      up_to_cong (λ k. bit (any_of (λ r. eqb r.transaction k) (reverse (map back ours)))) (λ k. bit (N.numbers k)) n
      (λ k low high. ap bit
      (any-reverse (λ (r : Record). eqb r.transaction k) (map back ours) ∙ any-map back (λ (r : Record). eqb r.transaction k) ours
      ∙ on_roll k))

  alone-records : records_of a ≡ map (λ r. numbered (rank_in N.numbers r.transaction) r) (reverse (map back ours))
  unfolding records_of
  alone-records =
      sym (reverse-map (λ (r : Logged). r.entry) a.records) ∙ ap reverse (h.told.same ∙ twice ours)
      ∙ reverse-map (λ (r : Record). numbered (rank_in N.numbers r.transaction) r) (map back ours)
    where
      twice : (l : List Record) → map (record_as p m N) l ≡ map (λ r. numbered (rank_in N.numbers r.transaction) r) (map back l)
      twice [] = refl
      twice (x ∷ l) = ap (λ (k : List Record). record_as p m N x ∷ k) (twice l)

  pub part-records : part_of p m (records_of s) ≡ records_of a
  unfolding by_rank
  part-records =
      ap by_rank listing
      ∙ map_same (λ (r : Record). numbered (rank (reverse (map back ours)) r.transaction) r)
      (λ (r : Record). numbered (rank_in N.numbers r.transaction) r) (reverse (map back ours))
      (all_same
      (λ (r : Record). numbered (rank (reverse (map back ours)) r.transaction) r ≡ numbered (rank_in N.numbers r.transaction) r)
      (λ r. ap (λ (k : ℕ). numbered k r) (rank_of r.transaction)) (reverse (map back ours)))
      ∙ sym alone-records
