-- Columns, pure: numbers that stand one after the other are read, and what is read stands there.
use Rattle.machine.specs.All.{clash, ℕ, zero, suc, ◌+◌, ◌-◌, ◌≤◌, zero-le, add-zero, arith, true, List, [], ◌∷◌, ◌++◌, append_assoc, ◌≡◌, refl, sym, ap, subst₂, ◌∙◌, length, drop, length-append, le-leb, leb-true, in_force, max_clock, five_groups, number_bytes, Cursor, Parsed, parsed, refused, Parser, continue, times, trace_field, Each, leb}
use Rattle.codec.specs.Answers.{cursor_at}
use Rattle.codec.proofs.Fields.{both_true, drop_past, field-reads, field-taken}
use Rattle.codec.proofs.Groups.{Bytes}
use Rattle.columns_laws.specs.{differences, column, never_fall, clocks_from}

-- ---- Numbers stand one after the other from a position up to another

pub record Stands (s : List ℕ) (at : ℕ) (l : List ℕ) (end : ℕ) : Type 0 where
  pub bytes : drop at s ≡ column l ++ drop end s
  pub place : end ≡ at + length (column l)

pub stands-none : (s : List ℕ) (at : ℕ) → Stands s at [] at
unfolding column
stands-none s at = record { bytes = refl; place = sym (add-zero at) }

module _ (s : List ℕ) (at v : ℕ) (l : List ℕ) (end : ℕ) where
  -- numbers that stand one after the other: one in front of others,
  pub stands-cons : drop at s ≡ number_bytes v ++ drop (at + length (number_bytes v)) s → Stands s (at + length (number_bytes v)) l end
      → Stands s at (v ∷ l) end
  unfolding column
  stands-cons e h =
      record {
        bytes = e ∙ ap (λ (u : List ℕ). number_bytes v ++ u) h.bytes ∙ sym (append_assoc (number_bytes v) (column l) (drop end s));
        place = h.place ∙ rw length-append (omega arith);
      }

  -- the first of them,
  pub stands-first : Stands s at (v ∷ l) end → drop at s ≡ number_bytes v ++ (column l ++ drop end s)
  unfolding column
  stands-first h = h.bytes ∙ append_assoc (number_bytes v) (column l) (drop end s)

  -- and the others
  pub stands-rest : Stands s at (v ∷ l) end → Stands s (at + length (number_bytes v)) l end
  unfolding column
  stands-rest h =
      record {
        bytes = drop_past s (number_bytes v) (column l ++ drop end s) at (stands-first h);
        place = h.place ∙ rw length-append (omega arith);
      }

-- ---- What was parsed before the rest of a parser answered

-- what two parsers read one after the other, the first read a part of
pub continued : {A B : Type 0} (p : Parsed A) (f : A → Parser B) (b : B) (c : Cursor) → continue p f ≡ parsed b c →
    (a : A) × (d : Cursor) × (p ≡ parsed a d) × (f a d ≡ parsed b c)
unfolding continue
continued (parsed a d) f b c e = (a, d, refl, e)
continued (refused n) f b c e = clash (cc)

parsed-list : {l m : List ℕ} {c d : Cursor} → parsed l c ≡ parsed m d → l ≡ m
parsed-list {l} {m} {c} {d} e = cc

parsed-cursor : {l m : List ℕ} {c d : Cursor} → parsed l c ≡ parsed m d → c ≡ d
parsed-cursor {l} {m} {c} {d} e = cc

-- ---- A column of one range

abbrev pub Between : ℕ → ℕ → List ℕ → Type 0
Between lo hi l = Each (λ (v : ℕ). (lo ≤ v) × (v ≤ hi)) l

pub record ColumnTaken (s : List ℕ) (lo hi n at : ℕ) (l : List ℕ) (c : Cursor) : Type 0 where
  pub stands : Stands s at l c.position
  pub cursor : c ≡ cursor_at c.position 0 0
  pub count : length l ≡ n
  pub between : Between lo hi l

module _ (s : List ℕ) (bytes : Bytes s) (lo hi : ℕ) where
  -- a column that is read stood there, in its range
  pub column-taken : (n at : ℕ) (l : List ℕ) (c : Cursor) → times n (trace_field in_force s lo hi) (cursor_at at 0 0) ≡ parsed l c
      → ColumnTaken s lo hi n at l c
  unfolding times
  column-taken zero at l c e =
      let el : l ≡ [] = sym (parsed-list e) in
      let ec : c ≡ cursor_at at 0 0 = sym (parsed-cursor e) in
      rw (el, ec) (record { stands = stands-none s at; cursor = refl; count = refl; between = tt })
  column-taken (suc n) at l c e =
      let x = continued (trace_field in_force s lo hi (cursor_at at 0 0)) _ l c e in
      let t = field-taken s five_groups at x.0 31 lo hi 0 0 x.1 bytes x.2 in
      let y = continued (times n (trace_field in_force s lo hi) x.1) _ l c x.3 in
      let next = at + length (number_bytes x.0) in
      let rest = column-taken n next y.0 y.1 (ap (times n (trace_field in_force s lo hi)) (sym t.cursor) ∙ y.2) in
      subst₂ (λ (m : List ℕ) (d : Cursor). ColumnTaken s lo hi (suc n) at m d) (parsed-list y.3) (parsed-cursor y.3)
      (record {
        stands = stands-cons s at x.0 y.0 y.1.position t.bytes rest.stands;
        cursor = rest.cursor;
        count = ap suc rest.count;
        between = ((t.low, t.high), rest.between);
      })

module _ (s : List ℕ) (lo hi : ℕ) (size : hi ≤ five_groups) where
  -- and one that stands there is read
  pub column-reads : (l : List ℕ) (at end : ℕ) → Stands s at l end → Between lo hi l →
      times (length l) (trace_field in_force s lo hi) (cursor_at at 0 0) ≡ parsed l (cursor_at end 0 0)
  unfolding times column continue
  column-reads [] at end h b = let e : at ≡ end = sym (h.place ∙ add-zero at) in rw e
  column-reads (v ∷ l) at end h b =
      let f = field-reads s _ five_groups at v 31 lo hi 0 0 (stands-first s at v l end h) b.0.0 b.0.1 size (omega arith) in
      let rest = column-reads l (at + length (number_bytes v)) end (stands-rest s at v l end h) b.1 in
      rw (f, rest)

-- ---- Clocks

abbrev pub Below : List ℕ → Type 0
Below l = Each (λ (v : ℕ). v ≤ max_clock) l

pub record ClocksTaken (s : List ℕ) (n before at : ℕ) (l : List ℕ) (c : Cursor) : Type 0 where
  pub stands : Stands s at (differences before l) c.position
  pub cursor : c ≡ cursor_at c.position 0 0
  pub count : length l ≡ n
  pub rises : never_fall before l ≡ true
  pub below : Below l

-- one clock in front
one-clock : (s : List ℕ) (n before d at : ℕ) (l : List ℕ) (c : Cursor) → before + d ≤ max_clock →
    drop at s ≡ number_bytes d ++ drop (at + length (number_bytes d)) s → ClocksTaken s n (before + d) (at + length (number_bytes d)) l c →
    ClocksTaken s (suc n) before at ((before + d) ∷ l) c
unfolding differences never_fall
one-clock s n before d at l c small e rest =
    let back : before + d - before ≡ d = omega arith in
    record {
      stands = rw back (stands-cons s at d (differences (before + d) l) c.position e rest.stands);
      cursor = rest.cursor;
      count = ap suc rest.count;
      rises = rw (le-leb before (before + d) (omega arith)) rest.rises;
      below = (small, rest.below);
    }

module _ (s : List ℕ) (bytes : Bytes s) where
  -- the same of the clocks, which are read as differences and stay at most the limit
  pub clocks-taken : (n before at : ℕ) (l : List ℕ) (c : Cursor) → before ≤ max_clock
      → clocks_from s n before (cursor_at at 0 0) ≡ parsed l c →
      ClocksTaken s n before at l c
  unfolding clocks_from
  clocks-taken zero before at l c limit e =
      let el : l ≡ [] = sym (parsed-list e) in
      let ec : c ≡ cursor_at at 0 0 = sym (parsed-cursor e) in
      rw (el, ec) (unfold differences never_fall in
      record { stands = stands-none s at; cursor = refl; count = refl; rises = refl; below = tt })
  clocks-taken (suc n) before at l c limit e =
      let x = continued (trace_field in_force s 0 (max_clock - before) (cursor_at at 0 0)) _ l c e in
      let d = x.0 in
      let t = field-taken s five_groups at d 31 0 (max_clock - before) 0 0 x.1 bytes x.2 in
      let y = continued (clocks_from s n (before + d) x.1) _ l c x.3 in
      let next = at + length (number_bytes d) in
      let small : before + d ≤ max_clock = omega (arith, t.high) in
      let rest = clocks-taken n (before + d) next y.0 y.1 small (ap (clocks_from s n (before + d)) (sym t.cursor) ∙ y.2) in
      subst₂ (λ (m : List ℕ) (d : Cursor). ClocksTaken s (suc n) before at m d) (parsed-list y.3) (parsed-cursor y.3)
      (one-clock s n before d at y.0 y.1 small t.bytes rest)

module _ (s : List ℕ) where
  pub clocks-read : (l : List ℕ) (before at end : ℕ) → before ≤ max_clock → Stands s at (differences before l) end
      → never_fall before l ≡ true → Below l →
      clocks_from s (length l) before (cursor_at at 0 0) ≡ parsed l (cursor_at end 0 0)
  unfolding clocks_from differences never_fall continue
  clocks-read [] before at end limit h rises b = let e : at ≡ end = sym (unfold column in (h.place ∙ add-zero at)) in rw e
  clocks-read (v ∷ l) before at end limit h rises b =
      let t = both_true (leb before v) (never_fall v l) rises in
      let up : before ≤ v = leb-true _ _ t.0 in
      let d = v - before in
      let back : before + (v - before) ≡ v = omega arith in
      let f = field-reads s _ five_groups at d 31 0 (max_clock - before) 0 0 (stands-first s at d (differences v l) end h) zero-le
      (omega (arith, b.0)) (omega arith) (omega arith) in
      let rest = clocks-read l v (at + length (number_bytes d)) end b.0 (stands-rest s at d (differences v l) end h) t.1 b.1 in
      rw (f, back, rest)
