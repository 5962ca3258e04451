-- The records that a walk over columns finds, pure: where the four columns stand, they are the rows.
use Rattle.machine.specs.All.{ℕ, zero, suc, ◌+◌, ◌-◌, ◌≤◌, arith, true, List, [], ◌∷◌, ◌≡◌, refl, ◌∙◌, leb, length, le-ltb, leb-true, max_clock, max_transaction, max_blocks, max_number_bytes, five_groups, number_bytes, ◌++◌, ap, drop, Record}
use Rattle.codec.proofs.{Fields.both_true, Numbers.number_bytes-length, Numbers.number_bytes-reads}
use Rattle.columns_laws.specs.declared.walk.Walk.{Walk}
use Rattle.columns_laws.specs.{differences, never_fall, rows, number_or, number_at, later, found, passed, found_all, column}
use Rattle.columns_laws.proofs.Parsing.{Stands, stands-first, stands-rest, Between, Below}

module _ (s : List ℕ) where
  number-stands : (at v : ℕ) (l : List ℕ) (end : ℕ) → v ≤ five_groups → Stands s at (v ∷ l) end →
      number_at s at ≡ (v, at + length (number_bytes v))
  unfolding number_or
  number-stands at v l end small h =
      let fits = number_bytes-length 4 v (omega arith) in
      rw (stands-first s at v l end h, number_bytes-reads max_number_bytes five_groups v (column l ++ drop end s) small (omega arith) fits)

  later-is : (clock d : ℕ) → clock + d ≤ max_clock → later clock d ≡ clock + d
  unfolding later
  later-is clock d h = rw (le-ltb (max_clock - clock) d (omega arith))

  -- the four columns from a walk's positions on
  pub record Ahead (t : Walk) (cs ts bs os : List ℕ) : Type 0 where
    pub limit : t.clock ≤ max_clock
    pub rises : never_fall t.clock cs ≡ true
    pub below : Below cs
    pub ts-between : Between 1 max_transaction ts
    pub bs-between : Between 1 max_blocks bs
    pub os-between : Between 0 1 os
    pub e0 : ℕ
    pub e1 : ℕ
    pub e2 : ℕ
    pub e3 : ℕ
    pub cs_stand : Stands s t.differences (differences t.clock cs) e0
    pub ts_stand : Stands s t.transactions ts e1
    pub bs_stand : Stands s t.blocks bs e2
    pub os_stand : Stands s t.outcomes os e3

  module _ (t : Walk) (c n b o : ℕ) (cs ts bs os : List ℕ) (h : Ahead t (c ∷ cs) (n ∷ ts) (b ∷ bs) (o ∷ os)) where
    abbrev next : Walk
    next = record {
      at = t.at;
      clock = c;
      differences = t.differences + length (number_bytes (c - t.clock));
      transactions = t.transactions + length (number_bytes n);
      blocks = t.blocks + length (number_bytes b);
      outcomes = t.outcomes + length (number_bytes o);
    }

    up : (t.clock ≤ c) × (never_fall c cs ≡ true)
    up = let x = both_true (leb t.clock c) (never_fall c cs) (unfold never_fall in h.rises) in (leb-true _ _ x.0, x.1)

    difference-first : Stands s t.differences ((c - t.clock) ∷ differences c cs) h.e0
    difference-first = unfold differences in h.cs_stand

    clock-is : later t.clock (c - t.clock) ≡ c
    clock-is =
        let back : t.clock + (c - t.clock) ≡ c = omega (arith, up.0) in
        later-is t.clock (c - t.clock) (omega (arith, h.below.0)) ∙ back

    found-one : found s t ≡ record { clock = c; transaction = n; block = b; outcome = o }
    unfolding found
    found-one =
        rw (
          number-stands t.differences (c - t.clock) (differences c cs) h.e0 (omega (arith, h.below.0)) difference-first,
          number-stands t.transactions n ts h.e1 (omega (arith, h.ts-between.0.1)) h.ts_stand,
          number-stands t.blocks b bs h.e2 (omega (arith, h.bs-between.0.1)) h.bs_stand,
          number-stands t.outcomes o os h.e3 (omega (arith, h.os-between.0.1)) h.os_stand,
          clock-is,
        )

    passed-one : passed s t t.at ≡ next
    unfolding passed
    passed-one =
        rw (
          number-stands t.differences (c - t.clock) (differences c cs) h.e0 (omega (arith, h.below.0)) difference-first,
          number-stands t.transactions n ts h.e1 (omega (arith, h.ts-between.0.1)) h.ts_stand,
          number-stands t.blocks b bs h.e2 (omega (arith, h.bs-between.0.1)) h.bs_stand,
          number-stands t.outcomes o os h.e3 (omega (arith, h.os-between.0.1)) h.os_stand,
          clock-is,
        )

    ahead-next : Ahead next cs ts bs os
    ahead-next =
        record {
          limit = h.below.0;
          rises = up.1;
          below = h.below.1;
          ts-between = h.ts-between.1;
          bs-between = h.bs-between.1;
          os-between = h.os-between.1;
          e0 = h.e0;
          e1 = h.e1;
          e2 = h.e2;
          e3 = h.e3;
          cs_stand = stands-rest s t.differences (c - t.clock) (differences c cs) h.e0 difference-first;
          ts_stand = stands-rest s t.transactions n ts h.e1 h.ts_stand;
          bs_stand = stands-rest s t.blocks b bs h.e2 h.bs_stand;
          os_stand = stands-rest s t.outcomes o os h.e3 h.os_stand;
        }

  -- records found by walking four columns at once are the columns' rows
  pub found_rows : (n : ℕ) (cs ts bs os : List ℕ) → length cs ≡ n → length ts ≡ n → length bs ≡ n → length os ≡ n → (t : Walk)
      → Ahead t cs ts bs os →
      found_all n s t ≡ rows cs ts bs os
  unfolding found_all rows
  found_rows zero [] ts bs os e f g i t h = refl
  found_rows zero (c ∷ cs) ts bs os e f g i t h = absurd (omega arith)
  found_rows (suc n) [] ts bs os e f g i t h = absurd (omega arith)
  found_rows (suc n) (c ∷ cs) [] bs os e f g i t h = absurd (omega arith)
  found_rows (suc n) (c ∷ cs) (x ∷ ts) [] os e f g i t h = absurd (omega arith)
  found_rows (suc n) (c ∷ cs) (x ∷ ts) (b ∷ bs) [] e f g i t h = absurd (omega arith)
  found_rows (suc n) (c ∷ cs) (x ∷ ts) (b ∷ bs) (o ∷ os) e f g i t h =
      let rest = found_rows n cs ts bs os (omega arith) (omega arith) (omega arith) (omega arith) (next t c x b o cs ts bs os h)
      (ahead-next t c x b o cs ts bs os h) in
      ap (λ (r : Record). r ∷ found_all n s (passed s t t.at)) (found-one t c x b o cs ts bs os h)
      ∙ ap (λ (w : Walk). record { clock = c; transaction = x; block = b; outcome = o } ∷ found_all n s w)
      (passed-one t c x b o cs ts bs os h)
      ∙ ap (λ (l : List Record). record { clock = c; transaction = x; block = b; outcome = o } ∷ l) rest
