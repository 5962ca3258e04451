-- Filled, pure: one more row in front of those to come, and what stands where after all of them were stored.
use Rattle.machine.specs.All.{clash, ℕ, zero, suc, ◌+◌, ◌*◌, ◌-◌, ◌≤◌, ◌<◌, add-one, arith, ◌≡◌, refl, ap, fun_ext, List, [], ◌∷◌, length, get_or, sets, Cursor, Parsed, parsed, refused, Parser, continue, times, Counts, value_field, value_fields, in_value, sym, ◌∙◌, Sum}
use native.Mathlib.Nat.{mul-suc, mul-zero}
use Rattle.std.specs.Prelude.{Ok, Err, IsErrAnd}
use Rattle.std.proofs.lemmas.Result.{err_from_is_err_and}
use Rattle.constants.specs.{declared.refusals.Refusal.Refusal, Numbers.refusal_number}
use Rattle.parse_values.specs.{declared.Place.Place, Filled.Filled}
use Rattle.parse_values.specs.{cursor_of, place_of, Stored, Shape, Stores, rows_field, all_named, stored_rows, Each}
use Rattle.parse_values.proofs.Binds.{stores-stop, stores_bind}

-- ---- The machine's counted parsers are rows

-- a parser repeated, as one that may look at how many came before
pub times-rows : {A : Type 0} (p : Parser A) (left k : ℕ) (c : Cursor) → times left p c ≡ rows_field (λ i. p) left k c
unfolding times rows_field
times-rows p zero k c = refl
times-rows {A} p (suc left) k c =
    ap (λ (f : Parser (List A)). continue (p c) (λ a d. continue (f d) (λ l e. parsed (a ∷ l) e))) (fun_ext (times-rows p left (suc k)))

pub values-rows : (s : List ℕ) (n : Counts) (left k : ℕ) (c : Cursor) →
    value_fields s n left k c ≡ rows_field (λ i. value_field s (in_value s n i)) left k c
unfolding value_fields rows_field
values-rows s n zero k c = refl
values-rows s n (suc left) k c =
    ap (λ (f : Parser (List Sum)). continue (value_field s (in_value s n k) c) (λ a d. continue (f d) (λ l e. parsed (a ∷ l) e)))
    (fun_ext (values-rows s n left (suc k)))

-- ---- A loop over rows: what is left gives the whole

module _ {A : Type 0} (sh : Shape A) (holds : A → Type 0) (p : ℕ → Parser A) (w : ℕ) where
  -- no rows left
  pub rows_none : (left k at : ℕ) (q : Place) (l : List ℕ) → left ≡ 0
      → Filled sh holds w at q l l (Ok q) (rows_field p left k (cursor_of q))
  unfolding rows_field
  rows_none left k at q l e = rw e (record { held = (refl, refl, tt) })

  module _ {left k at : ℕ} {q : Place} {l l₁ : List ℕ} {r₁ : Stored} (some : left ≡ 0 → ⊥)
      (k₁ : Stores sh q at l l₁ r₁ (p k (cursor_of q))) where
    -- a row that fails stops the others
    pub rows-stop : {d : Refusal} (after : List ℕ) → r₁ ≡ Err d → Filled sh holds w at q l after (Err d) (rows_field p left k (cursor_of q))
    unfolding rows_field
    rows-stop after told =
        let e : left ≡ suc (left - 1) = omega arith in
        rw e (stores-stop (Filled _ _ _ _ _ _ _ _) _ _ k₁ told (record { held = refl }))

    -- one row, and the others behind it
    pub rows_step : {next : Place} {after : List ℕ} {r : Stored} → r₁ ≡ Ok next → ((a : A) → sh.fact q a (cursor_of next) → holds a) →
        Filled sh holds w (at + w) next l₁ after r (rows_field p (left - 1) (suc k) (cursor_of next)) →
        Filled sh holds w at q l after r (rows_field p left k (cursor_of q))
    unfolding rows_field continue
    rows_step {next} {after} {r} told h rest =
        let e : left ≡ suc (left - 1) = omega arith in
        rw e
        (stores_bind (Filled _ _ _ _ _ _ _ _) _ _ k₁ told
        (λ a named cells fact. go a named cells (h a fact) (rows_field p (left - 1) (suc k) (cursor_of next)) rest))
      where
        go : (a : A) → next.named ≡ sh.named q.named a → l₁ ≡ sets l at (sh.numbers a) → holds a → (P : Parsed (List A)) →
            Filled sh holds w (at + w) next l₁ after r P → Filled sh holds w at q l after r (continue P (λ more e. parsed (a ∷ more) e))
        go a named cells held (parsed more c) k =
            record {
              held = (
                rw named at k.held.0,
                rw cells at k.held.1,
                (held, k.held.2),
              );
            }
        go a named cells held (refused n) k = record { held = k.held }

-- ---- The same by the number k of rows that were read, of `total`

module _ {A : Type 0} (sh : Shape A) (holds : A → Type 0) (p : ℕ → Parser A) (w base total : ℕ) where
  -- the rows from k on
  abbrev pub From : ℕ → Place → (cells after : List ℕ) → Stored → Type 0
  From k q cells after r = Filled sh holds w (base + w * k) q cells after r (rows_field p (total - k) k (cursor_of q))

  -- the loop's invariant: what the rows from k on give is what all rows give
  abbrev pub Leads : Place → List ℕ → ℕ → Place → List ℕ → Type 0
  Leads q₀ cells₀ k q cells = (after : List ℕ) (r : Stored) → From k q cells after r → From 0 q₀ cells₀ after r

  -- the loop that fills them, from row k on: none left,
  pub from-none : (k : ℕ) (q : Place) (l : List ℕ) → total ≤ k → From k q l l (Ok q)
  from-none k q l h = rows_none sh holds p w (total - k) k (base + w * k) q l (omega arith)

  module _ {k : ℕ} {q : Place} {l l₁ : List ℕ} {r₁ : Stored} (some : k < total)
      (k₁ : Stores sh q (base + w * k) l l₁ r₁ (p k (cursor_of q))) where
    -- one that fails,
    pub from-stop : {d : Refusal} (after : List ℕ) → r₁ ≡ Err d → From k q l after (Err d)
    from-stop after told = rows-stop sh holds p w (λ e. omega arith) k₁ after told

    -- one that is stored,
    pub from_step : {next : Place} → r₁ ≡ Ok next → ((a : A) → sh.fact q a (cursor_of next) → holds a) →
        (after : List ℕ) (r : Stored) → From (k + 1) next l₁ after r → From k q l after r
    from_step {next} told h after r rest =
        let at : base + w * (k + 1) ≡ base + w * k + w = omega (arith, mul-suc w k, ap (λ (i : ℕ). w * i) (add-one k)) in
        let left : total - (k + 1) ≡ total - k - 1 = omega arith in
        rows_step sh holds p w (λ e. omega arith) k₁ told h (rw (at, left, add-one k) at rest)

  -- and all, from row 0 on
  pub from_all : {q : Place} {l after : List ℕ} {r : Stored} → From 0 q l after r
      → Filled sh holds w base q l after r (rows_field p total 0 (cursor_of q))
  from_all h =
      let at : base + w * 0 ≡ base = omega (arith, mul-zero w) in
      let left : total - 0 ≡ total = omega arith in
      rw (at, left) at h

-- ---- After a loop over rows

pub rows_passed : {A : Type 0} {sh : Shape A} {holds : A → Type 0} {w at : ℕ} {p : Place} {cells after : List ℕ} {r : Stored}
    {P : Parsed (List A)} {d : Refusal} →
    IsErrAnd r (λ x. x ≡ d) → Filled sh holds w at p cells after (Err d) P → Filled sh holds w at p cells after r P
rows_passed {r = r} given k = let e = err_from_is_err_and r given in rw (e.1, e.2) k

module _ {A : Type 0} {sh : Shape A} {holds : A → Type 0} {w at : ℕ} {p : Place} {cells after : List ℕ} {r : Stored} where
  -- rows that stop give the parser's refusal
  pub rows-refused : (P : Parsed (List A)) {d : Refusal} → Filled sh holds w at p cells after r P → r ≡ Err d
      → P ≡ refused (refusal_number d)
  rows-refused (parsed l c) k told = let e = sym told ∙ k.held.0 in clash (cc)
  rows-refused (refused m) k told = ap refused (sym (rw told at k.held))

  module _ {B : Type 0} (G : Parsed B → Type 0) where
    pub rows_end : (P : Parsed (List A)) (f : List A → Parser B) {d : Refusal} → Filled sh holds w at p cells after r P → r ≡ Err d
        → G (refused (refusal_number d)) →
        G (continue P f)
    unfolding continue
    rows_end P f k told s = rw (rows-refused P k told) s

    -- rows that are stored hand their list to what follows
    pub rows_bind : (P : Parsed (List A)) (f : List A → Parser B) {q : Place} → Filled sh holds w at p cells after r P → r ≡ Ok q →
        ((l : List A) → P ≡ parsed l (cursor_of q) → q.named ≡ all_named sh.named p.named l
        → after ≡ stored_rows sh.numbers w at l cells →
        Each holds l → G (f l (cursor_of q))) → G (continue P f)
    unfolding continue
    rows_bind (parsed l c) f {q} k told g =
        let e = sym told ∙ k.held.0 in
        let eq : q ≡ place_of c (all_named sh.named p.named l) = cc in
        (rw eq at (g l)) refl refl k.held.1 k.held.2
    rows_bind (refused m) f k told g = absurd (rw told at k.held)

-- as many things as were asked for
pub rows-length : {A : Type 0} (p : ℕ → Parser A) (left k : ℕ) (c : Cursor) (l : List A) (d : Cursor) → rows_field p left k c ≡ parsed l d
    → length l ≡ left
unfolding rows_field
rows-length p zero k c l d e = let f : l ≡ [] = cc in ap length f
rows-length {A} p (suc left) k c l d e = first (p k c) e (λ c₁ m x f. rows-length p left (suc k) c₁ m x f)
  where
    second : (a : A) (P : Parsed (List A)) → continue P (λ m x. parsed (a ∷ m) x) ≡ parsed l d
        → ((m : List A) (x : Cursor) → P ≡ parsed m x → length m ≡ left) →
        length l ≡ suc left
    second a (parsed m x) g h = unfold continue in (let i : l ≡ a ∷ m = cc in ap length i ∙ ap suc (h m x refl))
    second a (refused n) g h = unfold continue in (clash (cc))

    first : (P : Parsed A) → continue P (λ a c₁. continue (rows_field p left (suc k) c₁) (λ m x. parsed (a ∷ m) x)) ≡ parsed l d →
        ((c₁ : Cursor) (m : List A) (x : Cursor) → rows_field p left (suc k) c₁ ≡ parsed m x → length m ≡ left) → length l ≡ suc left
    first (parsed a c₁) g h = second a (rows_field p left (suc k) c₁) (unfold continue in g) (h c₁)
    first (refused n) g h = unfold continue in (clash (cc))

-- nothing is named
pub unnamed : {A : Type 0} (n : ℕ) (l : List A) → all_named (λ (i : ℕ) (a : A). i) n l ≡ n
unnamed n [] = refl
unnamed n (a ∷ l) = unnamed n l

pub each_at : {A : Type 0} (holds : A → Type 0) (l : List A) (d : A) → Each holds l → (j : ℕ) → j < length l → holds (get_or l j d)
each_at holds [] d h j b = absurd (omega arith)
each_at holds (a ∷ l) d h zero b = h.0
each_at holds (a ∷ l) d h (suc j) b = each_at holds l d h.1 j (omega arith)

pub each_map : {A : Type 0} (holds implied : A → Type 0) → ((a : A) → holds a → implied a) → (l : List A) → Each holds l → Each implied l
each_map holds implied f [] h = tt
each_map holds implied f (a ∷ l) h = (f a h.0, each_map holds implied f l h.1)
