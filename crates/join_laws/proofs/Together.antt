-- Reading one thing after the other where both stand, and the joined model's bytes.
use Rattle.machine.specs.All.{ℕ, zero, suc, ◌+◌, ◌≤◌, zero-add, add-zero, suc-add, arith, ◌≡◌, refl, sym, ◌∙◌, fun_ext, false, List, [], ◌∷◌, ◌++◌, append-nil, length, Cursor, Parsed, parsed, refused, Parser, continue, ◌>>=◌, give, times, Sum, Counts, number, value_field, value_fields, Each, ap, ap₂, subst, in_value}
use Rattle.machine.specs.Limits as Limits
use Rattle.parse_values.specs.Filled.{rows_field}
use Rattle.parse_values.proofs.Filled.{times-rows, values-rows}
use Rattle.join_laws.proofs as our
use our.Carrying.{reads_then, reads-give, reads-number, Anywhere, anywhere}
use our.Decoded.{Between}

-- ---- One after the other

-- what is read of two lists of numbers, read of the two laid end to end
pub any-then : {A B : Type 0} {q : List ℕ → Parser A} (k : List ℕ → A → Parser B) {l l' : List ℕ} {a : A} {b : B} → Anywhere q l a
    → Anywhere (λ s. k s a) l' b
    → Anywhere (λ s. q s >>= k s) (l ++ l') b
any-then k h g c c' = reads_then k (h c c) (g c c')

pub any-give : {B : Type 0} {b : B} → Anywhere (λ s. give b) [] b
any-give c c' = anywhere (reads-give {t = false} {c = c}) c c'

pub any-number : (lo hi v : ℕ) → lo ≤ v → v ≤ hi → hi ≤ Limits.max_number → Anywhere (λ s. number s lo hi) (v ∷ []) v
any-number lo hi v low high small c c' =
    anywhere (reads-number {t = false} {c = c} Limits.max_number 3 lo hi v 0 low high small (omega arith)) c c'

-- the same numbers, and a parser that does the same
pub any-numbers : {B : Type 0} {q : List ℕ → Parser B} {l l' : List ℕ} {b : B} → l ≡ l' → Anywhere q l b → Anywhere q l' b
any-numbers {q = q} {b = b} e h = subst (λ u. Anywhere q u b) e h

-- parsers that give the same read the same
pub any_same : {B : Type 0} {q q' : List ℕ → Parser B} {l : List ℕ} {b : B} → ((s : List ℕ) (d : Cursor) → q' s d ≡ q s d) → Anywhere q l b
    → Anywhere q' l b
any_same e h c c' =
    record {
      from = λ s rest d f m.
          let r = (h c c').from s rest d f m in
          record { after = r.after; reads = e s d ∙ r.reads; position = r.position; tied = tt };
    }

-- ---- Several

pub any-each : (lo hi : ℕ) → hi ≤ Limits.max_number → (l : List ℕ) → Each (Between lo hi) l
    → Anywhere (λ s. times (length l) (number s lo hi)) l l
unfolding times
any-each lo hi small [] h = any-give
any-each lo hi small (v ∷ l) h =
    any-numbers (ap (λ u. v ∷ u) (append-nil l))
    (any-then _ (any-number lo hi v h.0.0 h.0.1 small) (any-then _ (any-each lo hi small l h.1) any-give))

module _ {A : Type 0} (p : ℕ → Parser A) where
  -- a and then b things
  rows_apart : (a b k : ℕ) (c : Cursor)
      → rows_field p (a + b) k c ≡ continue (rows_field p a k c) (λ x d. continue (rows_field p b (k + a) d) (λ y e. parsed (x ++ y) e))
  unfolding rows_field continue
  rows_apart zero b k c = ap₂ (λ i j. rows_field p i j c) (zero-add b) (sym (add-zero k)) ∙ whole (rows_field p b (k + 0) c)
    where
      whole : (r : Parsed (List A)) → r ≡ continue r (λ y e. parsed y e)
      whole (parsed y e) = refl
      whole (refused n) = refl
  rows_apart (suc a) b k c = ap (λ i. rows_field p i k c) (suc-add a b) ∙ first (p k c) (λ d. rows_apart a b (suc k) d)
    where
      end : (x : A) (l : List A) (r : Parsed (List A))
          → continue (continue r (λ y e. parsed (l ++ y) e)) (λ l e. parsed (x ∷ l) e) ≡ continue r (λ y e. parsed (x ∷ (l ++ y)) e)
      end x l (parsed y e) = refl
      end x l (refused n) = refl

      last : (x : A) (r : Parsed (List A))
          → continue (continue r (λ l d. continue (rows_field p b (suc k + a) d) (λ y e. parsed (l ++ y) e))) (λ l e. parsed (x ∷ l) e)
          ≡ continue (continue r (λ l d. parsed (x ∷ l) d)) (λ l d. continue (rows_field p b (k + suc a) d) (λ y e. parsed (l ++ y) e))
      last x (parsed l d) =
          let e : suc k + a ≡ k + suc a = omega arith in
          end x l (rows_field p b (suc k + a) d) ∙ ap (λ i. continue (rows_field p b i d) (λ y e. parsed (x ∷ (l ++ y)) e)) e
      last x (refused n) = refl

      first : (r : Parsed A)
          → ((d : Cursor) → rows_field p (a + b) (suc k) d ≡ continue (rows_field p a (suc k) d)
          (λ x e. continue (rows_field p b (suc k + a) e) (λ y f. parsed (x ++ y) f)))
          → continue r (λ x d. continue (rows_field p (a + b) (suc k) d) (λ l e. parsed (x ∷ l) e))
          ≡ continue (continue r (λ x d. continue (rows_field p a (suc k) d) (λ l e. parsed (x ∷ l) e)))
          (λ l d. continue (rows_field p b (k + suc a) d) (λ y e. parsed (l ++ y) e))
      first (parsed x d) ih = ap (λ r. continue r (λ l e. parsed (x ∷ l) e)) (ih d) ∙ last x (rows_field p a (suc k) d)
      first (refused n) ih = refl

pub times-apart : {A : Type 0} (p : Parser A) (a b : ℕ) (c : Cursor)
    → times (a + b) p c ≡ continue (times a p c) (λ x d. continue (times b p d) (λ y e. parsed (x ++ y) e))
times-apart {A} p a b c =
    times-rows p (a + b) 0 c ∙ rows_apart (λ i. p) a b 0 c
    ∙ ap₂ (λ (f g : Parser (List A)). continue (f c) (λ x d. continue (g d) (λ y e. parsed (x ++ y) e)))
    (fun_ext (λ d. sym (times-rows p a 0 d))) (fun_ext (λ d. sym (times-rows p b (0 + a) d)))

any-rows : {A : Type 0} (q : List ℕ → ℕ → Parser A) (a b k : ℕ) {l l' : List ℕ} {x y : List A} → Anywhere (λ s. rows_field (q s) a k) l x
    → Anywhere (λ s. rows_field (q s) b (k + a)) l' y → Anywhere (λ s. rows_field (q s) (a + b) k) (l ++ l') (x ++ y)
any-rows q a b k {l} {l'} {x} {y} h g =
    any_same (λ s d. rows_apart (q s) a b k d)
    (any-numbers (ap (λ u. l ++ u) (append-nil l'))
    (any-then (λ s x. rows_field (q s) b (k + a) >>= λ y. give (x ++ y)) h (any-then (λ s y. give (x ++ y)) g any-give)))

-- so many, then so many more
pub any-times : {A : Type 0} (q : List ℕ → Parser A) (a b : ℕ) {l l' : List ℕ} {x y : List A} → Anywhere (λ s. times a (q s)) l x
    → Anywhere (λ s. times b (q s)) l' y
    → Anywhere (λ s. times (a + b) (q s)) (l ++ l') (x ++ y)
any-times q a b h g =
    any_same (λ s d. times-rows (q s) (a + b) 0 d)
    (any-rows (λ s i. q s) a b 0 (any_same (λ s d. sym (times-rows (q s) a 0 d)) h)
    (any_same (λ s d. sym (times-rows (q s) b (0 + a) d)) g))

-- values count those before them, and so cannot be read by `times`
pub any-values : (n : Counts) (a b : ℕ) {l l' : List ℕ} {x y : List Sum} → Anywhere (λ s. value_fields s n a 0) l x
    → Anywhere (λ s. value_fields s n b a) l' y
    → Anywhere (λ s. value_fields s n (a + b) 0) (l ++ l') (x ++ y)
any-values n a b h g =
    any_same (λ s d. values-rows s n (a + b) 0 d)
    (any-rows (λ s i. value_field s (in_value s n i)) a b 0 (any_same (λ s d. sym (values-rows s n a 0 d)) h)
    (any_same (λ s d. sym (ap (λ i. value_fields s n b i d) (sym (zero-add a)) ∙ values-rows s n b (0 + a) d)) g))
