-- The first walk over columns, pure: number by number, column by column, and what the walk that then begins will find.
use Rattle.machine.specs.All.{clash, ℕ, suc, ◌+◌, ◌*◌, ◌-◌, ◌≤◌, zero-le, add-zero, arith, List, [], ◌∷◌, none, some, ◌≡◌, refl, ap, length, length-append, ne_eqb, in_force, max_clock, max_transaction, max_blocks, number_bytes, Cursor, Parsed, parsed, refused, continue, ask, times, at_end, Record, trace_bytes_lem, trace_field, sym, subst, ◌∙◌}
use Rattle.std.specs.{Prelude.Some, Prelude.None, Prelude.Result, Prelude.Ok, Prelude.Err, Result.result_ok}
use Rattle.constants.specs.{declared.refusals.Refusal.Refusal}
use Rattle.codec.specs.Answers.{cursor_at, parsed_of}
use Rattle.codec.proofs.{Groups.Bytes, Numbers.number_bytes-longest}
use Rattle.columns_laws.specs.declared.walk.Walk.{Walk}
use Rattle.columns_laws.specs.{max_records, column, rows, clocks_from, column_fields, records_of, taken_columns, sized, ends, found_all, Holds}
use Rattle.columns_laws.proofs as our
use our.Parsing.{ColumnTaken, column-taken, ClocksTaken, clocks-taken}
use our.{Finding.found_rows, Pieces.split, Pieces.columns-parsed}

pub nine : (r v : ℕ) → r ≡ length (number_bytes v) → r ≤ 9
nine r v e = omega (arith, number_bytes-longest v)

-- ---- What `ok` leaves of a field

pub err_of : {A E : Type 0} (f : Result A E) → result_ok f ≡ None → (n : E) × (f ≡ Err n)
err_of (Ok x) h = clash (cc)
err_of (Err n) h = (n, refl)

pub ok_of : {A E : Type 0} (f : Result A E) (x : A) → result_ok f ≡ Some x → f ≡ Ok x
ok_of (Ok y) x h = let same : y ≡ x = cc in ap Ok same
ok_of (Err n) x h = clash (cc)

-- ---- One column, number by number

module _ (s : List ℕ) (lo hi : ℕ) where
  pub column-none : (left next : ℕ) → left ≤ 0 → Some next ≡ ends (times left (trace_field in_force s lo hi) (cursor_at next 0 0))
  unfolding times ends
  column-none left next h = let e : left ≡ 0 = omega arith in rw e

  module _ (left less next : ℕ) (f : Result (ℕ × ℕ) Refusal) (one : left ≡ suc less)
      (e : (i j : ℕ) → parsed_of i j f ≡ trace_field in_force s lo hi (cursor_at next i j)) where
    pub column-stop : {n : Refusal} → f ≡ Err n → None ≡ ends (times left (trace_field in_force s lo hi) (cursor_at next 0 0))
    unfolding times parsed_of continue ends
    column-stop told = rw (one, ← e 0 0, told)

    column-one : {v after : ℕ} → f ≡ Ok (v, after) → (k : ℕ) →
        ends (times k (trace_field in_force s lo hi) (cursor_at after 0 0))
        ≡ ends (times (suc k) (trace_field in_force s lo hi) (cursor_at next 0 0))
    unfolding times parsed_of continue
    column-one {v} {after} told k = rw (← e 0 0, told) (go (times k (trace_field in_force s lo hi) (cursor_at after 0 0)))
      where
        go : (P : Parsed (List ℕ)) → ends P ≡ ends (continue P (λ l c. parsed (v ∷ l) c))
        go (parsed l c) = unfold ends continue in refl
        go (refused n) = unfold ends continue in refl

    pub column-step : {v after : ℕ} → f ≡ Ok (v, after) →
        ends (times less (trace_field in_force s lo hi) (cursor_at after 0 0))
        ≡ ends (times left (trace_field in_force s lo hi) (cursor_at next 0 0))
    column-step {v} {after} told =
        column-one told less ∙ ap (λ (n : ℕ). ends (times n (trace_field in_force s lo hi) (cursor_at next 0 0))) (sym one)

-- ---- The clocks

module _ (s : List ℕ) where
  pub clocks-none : (left clock next size : ℕ) → left ≤ 0 → Some (next, size) ≡ sized size (clocks_from s left clock (cursor_at next 0 0))
  unfolding clocks_from sized column
  clocks-none left clock next size h = let e : left ≡ 0 = omega arith in rw (e, add-zero size)

  module _ (left less clock next size : ℕ) (f : Result (ℕ × ℕ) Refusal) (one : left ≡ suc less)
      (e : (i j : ℕ) → parsed_of i j f ≡ trace_field in_force s 0 (max_clock - clock) (cursor_at next i j)) where
    pub clocks-stop : {n : Refusal} → f ≡ Err n → None ≡ sized size (clocks_from s left clock (cursor_at next 0 0))
    unfolding clocks_from parsed_of continue sized
    clocks-stop told = rw (one, ← e 0 0, told)

    clocks-one : {d after : ℕ} → f ≡ Ok (d, after) → (k : ℕ) →
        sized (size + length (number_bytes (clock + d))) (clocks_from s k (clock + d) (cursor_at after 0 0))
        ≡ sized size (clocks_from s (suc k) clock (cursor_at next 0 0))
    unfolding clocks_from parsed_of continue
    clocks-one {d} {after} told k = rw (← e 0 0, told) (go (clocks_from s k (clock + d) (cursor_at after 0 0)))
      where
        sum : (l : List ℕ) → size + length (number_bytes (clock + d)) + length (column l) ≡ size + length (column ((clock + d) ∷ l))
        sum l = unfold column in rw length-append (omega arith)

        go : (P : Parsed (List ℕ)) →
            sized (size + length (number_bytes (clock + d))) P ≡ sized size (continue P (λ l c. parsed ((clock + d) ∷ l) c))
        go (parsed l c) = unfold sized continue in rw (sum l)
        go (refused n) = unfold sized continue in refl

    -- a difference is stored, the clock's own length is what the trace will have
    pub clocks-step : {d after len : ℕ} → f ≡ Ok (d, after) → len ≡ length (number_bytes (clock + d)) →
        sized (size + len) (clocks_from s less (clock + d) (cursor_at after 0 0))
        ≡ sized size (clocks_from s left clock (cursor_at next 0 0))
    clocks-step {d} {after} {len} told n =
        ap (λ (i : ℕ). sized (size + i) (clocks_from s less (clock + d) (cursor_at after 0 0))) n
        ∙ clocks-one told less
        ∙ ap (λ (i : ℕ). sized size (clocks_from s i clock (cursor_at next 0 0))) (sym one)

-- ---- What the ends say

ends-none : (P : Parsed (List ℕ)) → None ≡ ends P → (n : ℕ) × (P ≡ refused n)
unfolding ends
ends-none (parsed l c) e = clash (cc)
ends-none (refused n) e = (n, refl)

ends_some : (P : Parsed (List ℕ)) (p : ℕ) → Some p ≡ ends P → (l : List ℕ) × (c : Cursor) × (P ≡ parsed l c) × (c.position ≡ p)
unfolding ends
ends_some (parsed l c) p e = (l, c, refl, (cc))
ends_some (refused n) p e = clash (cc)

sized-none : (P : Parsed (List ℕ)) → None ≡ sized 0 P → (n : ℕ) × (P ≡ refused n)
unfolding sized
sized-none (parsed l c) e = clash (cc)
sized-none (refused n) e = (n, refl)

sized-some : (P : Parsed (List ℕ)) (p size : ℕ) → Some (p, size) ≡ sized 0 P →
    (l : List ℕ) × (c : Cursor) × (P ≡ parsed l c) × (c.position ≡ p) × (size ≡ 0 + length (column l))
unfolding sized
sized-some (parsed l c) p size e =
    let same : ◌≡◌ {A = ℕ × ℕ} (p, size) (c.position, 0 + length (column l)) = cc in
    (l, c, refl, sym (ap (λ (x : ℕ × ℕ). x.0) same), ap (λ (x : ℕ × ℕ). x.1) same)
sized-some (refused n) p size e = clash (cc)

-- a column that ends at a position
pub record Known (s : List ℕ) (lo hi n at p : ℕ) : Type 0 where
  pub list : List ℕ
  pub parsed-is : times n (trace_field in_force s lo hi) (cursor_at at 0 0) ≡ parsed list (cursor_at p 0 0)
  pub taken_is : ColumnTaken s lo hi n at list (cursor_at p 0 0)

pub record KnownClocks (s : List ℕ) (n at p size : ℕ) : Type 0 where
  pub list : List ℕ
  pub parsed-is : clocks_from s n 0 (cursor_at at 0 0) ≡ parsed list (cursor_at p 0 0)
  pub taken_is : ClocksTaken s n 0 at list (cursor_at p 0 0)
  pub size_is : size ≡ length (column list)

module _ (s : List ℕ) (bytes : Bytes s) where
  known : (lo hi n at p : ℕ) → Some p ≡ ends (times n (trace_field in_force s lo hi) (cursor_at at 0 0)) → Known s lo hi n at p
  known lo hi n at p e =
      let x = ends_some (times n (trace_field in_force s lo hi) (cursor_at at 0 0)) p e in
      let t = column-taken s bytes lo hi n at x.0 x.1 x.2 in
      let c : x.1 ≡ cursor_at p 0 0 = t.cursor ∙ ap (λ (i : ℕ). cursor_at i 0 0) x.3 in
      record { list = x.0; parsed-is = x.2 ∙ ap (parsed x.0) c; taken_is = subst (ColumnTaken s lo hi n at x.0) c t }

  known-clocks : (n at p size : ℕ) → Some (p, size) ≡ sized 0 (clocks_from s n 0 (cursor_at at 0 0)) → KnownClocks s n at p size
  known-clocks n at p size e =
      let x = sized-some (clocks_from s n 0 (cursor_at at 0 0)) p size e in
      let t = clocks-taken s bytes n 0 at x.0 x.1 zero-le x.2 in
      let c : x.1 ≡ cursor_at p 0 0 = t.cursor ∙ ap (λ (i : ℕ). cursor_at i 0 0) x.3 in
      record {
        list = x.0;
        parsed-is = x.2 ∙ ap (parsed x.0) c;
        taken_is = subst (ClocksTaken s n 0 at x.0) c t;
        size_is = omega (arith, x.4);
      }

pub column-longest : (l : List ℕ) → length (column l) ≤ 9 * length l
unfolding column
column-longest [] = omega arith
column-longest (v ∷ l) = rw length-append (omega (arith, number_bytes-longest v, column-longest l))

-- ---- The survey

module _ (s : List ℕ) (bytes : Bytes s) where
  -- the questions in their order: count,
  pub survey-count : (k : ℕ) → trace_field in_force s 0 max_records (cursor_at 0 0 0) ≡ refused k → taken_columns s ≡ none
  unfolding taken_columns column_fields continue records_of
  survey-count k f = rw f

  module _ (n p0 : ℕ) (few : n ≤ max_records) (f0 : trace_field in_force s 0 max_records (cursor_at 0 0 0) ≡ parsed n (cursor_at p0 0 0)) where
    -- clocks,
    pub survey-clocks : None ≡ sized 0 (clocks_from s n 0 (cursor_at p0 0 0)) → taken_columns s ≡ none
    unfolding taken_columns column_fields continue records_of
    survey-clocks e = rw (f0, (sized-none (clocks_from s n 0 (cursor_at p0 0 0)) e).1)

    module _ (p1 size : ℕ) (c1 : Some (p1, size) ≡ sized 0 (clocks_from s n 0 (cursor_at p0 0 0))) where
      abbrev k1 : KnownClocks s n p0 p1 size
      k1 = known-clocks s bytes n p0 p1 size c1

      -- transactions,
      pub survey-transactions : None ≡ ends (times n (trace_field in_force s 1 max_transaction) (cursor_at p1 0 0)) → taken_columns s ≡ none
      unfolding taken_columns column_fields continue records_of
      survey-transactions e = rw (f0, k1.parsed-is, (ends-none (times n (trace_field in_force s 1 max_transaction) (cursor_at p1 0 0)) e).1)

      module _ (p2 : ℕ) (c2 : Some p2 ≡ ends (times n (trace_field in_force s 1 max_transaction) (cursor_at p1 0 0))) where
        abbrev k2 : Known s 1 max_transaction n p1 p2
        k2 = known s bytes 1 max_transaction n p1 p2 c2

        -- blocks,
        pub survey-blocks : None ≡ ends (times n (trace_field in_force s 1 max_blocks) (cursor_at p2 0 0)) → taken_columns s ≡ none
        unfolding taken_columns column_fields continue records_of
        survey-blocks e =
            rw (f0, k1.parsed-is, k2.parsed-is, (ends-none (times n (trace_field in_force s 1 max_blocks) (cursor_at p2 0 0)) e).1)

        module _ (p3 : ℕ) (c3 : Some p3 ≡ ends (times n (trace_field in_force s 1 max_blocks) (cursor_at p2 0 0))) where
          abbrev k3 : Known s 1 max_blocks n p2 p3
          k3 = known s bytes 1 max_blocks n p2 p3 c3

          -- outcomes
          pub survey-outcomes : None ≡ ends (times n (trace_field in_force s 0 1) (cursor_at p3 0 0)) → taken_columns s ≡ none
          unfolding taken_columns column_fields continue records_of
          survey-outcomes e =
              rw (f0, k1.parsed-is, k2.parsed-is, k3.parsed-is, (ends-none (times n (trace_field in_force s 0 1) (cursor_at p3 0 0)) e).1)

          module _ (p4 : ℕ) (c4 : Some p4 ≡ ends (times n (trace_field in_force s 0 1) (cursor_at p3 0 0))) where
            abbrev k4 : Known s 0 1 n p3 p4
            k4 = known s bytes 0 1 n p3 p4 c4

            pub survey_long : (p4 ≡ length s → ⊥) → taken_columns s ≡ none
            unfolding taken_columns column_fields continue at_end ask records_of
            survey_long long = rw (f0, k1.parsed-is, k2.parsed-is, k3.parsed-is, k4.parsed-is, ne_eqb p4 (length s) long)

            -- the sums of the code fit
            pub survey-fits : (p1 ≤ p4) × (size ≤ 9 * max_records) × (p4 ≤ p1 + 27 * max_records)
            survey-fits =
                let e2 = k2.taken_is.stands.place in
                let e3 = k3.taken_is.stands.place in
                let e4 = k4.taken_is.stands.place in (
                  omega arith,
                  omega (arith, k1.size_is, column-longest k1.list, k1.taken_is.count),
                  omega (
                    arith,
                    column-longest k2.list,
                    k2.taken_is.count,
                    column-longest k3.list,
                    k3.taken_is.count,
                    column-longest k4.list,
                    k4.taken_is.count,
                  ),
                )

            module _ (end : p4 ≡ length s) where
              abbrev start : Walk
              start = record { at = 0; clock = 0; differences = p0; transactions = p1; blocks = p2; outcomes = p3 }

              found-is : found_all n s start ≡ rows k1.list k2.list k3.list k4.list
              found-is =
                  found_rows s n k1.list k2.list k3.list k4.list k1.taken_is.count k2.taken_is.count
                  k3.taken_is.count
                  k4.taken_is.count start
                  (record {
                    limit = zero-le;
                    rises = k1.taken_is.rises;
                    below = k1.taken_is.below;
                    ts-between = k2.taken_is.between;
                    bs-between = k3.taken_is.between;
                    os-between = k4.taken_is.between;
                    e0 = p1;
                    e1 = p2;
                    e2 = p3;
                    e3 = p4;
                    cs_stand = k1.taken_is.stands;
                    ts_stand = k2.taken_is.stands;
                    bs_stand = k3.taken_is.stands;
                    os_stand = k4.taken_is.stands;
                  })

              pub survey-taken : Holds s n start (size + (p4 - p1))
              survey-taken =
                  let x = split n k1.list k2.list k3.list k4.list k1.taken_is.count k2.taken_is.count
                  k3.taken_is.count k4.taken_is.count in
                  record {
                    records =
                        columns-parsed s n p0 p1 p2 p3 p4 k1.list k2.list k3.list k4.list f0 k1.parsed-is k2.parsed-is
                        k3.parsed-is
                        k4.parsed-is end
                        ∙ ap some (sym found-is);
                    size =
                        omega (
                          arith,
                          ap (λ (l : List Record). length (trace_bytes_lem l)) found-is,
                          x.bytes_of,
                          k1.size_is,
                          k2.taken_is.stands.place,
                          k3.taken_is.stands.place,
                          k4.taken_is.stands.place,
                        );
                    at = refl;
                    clock = refl;
                  }
