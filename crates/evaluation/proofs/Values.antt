-- A value evaluated on demand is the one that the machine's fold puts at its place, by induction over the values.
use Rattle.machine.specs.All.{ℕ, zero, suc, ◌+◌, ◌*◌, ◌≤◌, ◌<◌, arith, Bool, true, false, cond, List, [], ◌∷◌, ◌++◌, ◌≡◌, refl, sym, ap, ◌∙◌, T, ltb, eqb, length, get_or, take, length-append, get_or-append, get_or-eq_default, take-suc, take-length, length-take-le, get_or_at, eqb-true, eqb-false, ltb-true, ltb-false, max_brackets, View, Sum, nothing, sum, worths}
use Rattle.std.proofs.Common.{ℤ, pos}
use Rattle.layout.specs.Layout as Layout
use Rattle.layout.specs.All.{terms, sum_numbers, At, small_sum, signed_terms}
use Rattle.evaluation.specs.{Worth, simple_term, sum_from, bracket_from, term_from, value_by, value_below, nested_sum, parameters_of}
use Rattle.evaluation.specs.Sees.{Sees}
use Rattle.evaluation.proofs.{Found.at_first, Terms.sum-found}

-- ---- Values: element k of the machine's worths is the sum of value k over the worths below it

module _ (w : View) (ps : List ℤ) where
  pub worths_snoc : (l : List Sum) (e : Sum) (lower : List ℤ) →
      worths w ps (l ++ (e ∷ [])) lower ≡ worths w ps l lower ++ (sum w ps (worths w ps l lower) e (pos 0) ∷ [])
  unfolding worths
  worths_snoc [] e lower = refl
  worths_snoc (x ∷ l) e lower = worths_snoc l e (lower ++ (sum w ps lower x (pos 0) ∷ []))

  pub worths-length : (l : List Sum) (lower : List ℤ) → length (worths w ps l lower) ≡ length lower + length l
  unfolding worths
  worths-length [] lower = omega arith
  worths-length (x ∷ l) lower =
      worths-length l (lower ++ (sum w ps lower x (pos 0) ∷ [])) ∙ simp length-append (omega arith)

-- the last of a list with one more, and the others
get_or_snoc : (l : List ℤ) (x : ℤ) (n k : ℕ) → length l ≡ n → get_or (l ++ (x ∷ [])) k (pos 0) ≡ cond (eqb k n) x (get_or l k (pos 0))
get_or_snoc l x n k h = go (eqb k n) refl
  where
    go : (t : Bool) → eqb k n ≡ t → get_or (l ++ (x ∷ [])) k (pos 0) ≡ cond t x (get_or l k (pos 0))
    go true e = rw (eqb-true k n e) (get_or_at l x [] (pos 0) n h)
    go false e = away (ltb k n) refl
      where
        away : (t : Bool) → ltb k n ≡ t → get_or (l ++ (x ∷ [])) k (pos 0) ≡ get_or l k (pos 0)
        away true b = let i = ltb-true k n b in get_or-append l (x ∷ []) (pos 0) k (omega arith)
        away false b =
            let i = ltb-false k n b in
            let ne = eqb-false k n e in
            let past : length (l ++ (x ∷ [])) ≤ k = simp length-append (omega arith) in
            get_or-eq_default (l ++ (x ∷ [])) (pos 0) past
            ∙ sym (get_or-eq_default l (pos 0) (omega arith))

-- the sums of all values stand in the tables, with small constants and at most four brackets open
pub record Values (values : List Sum) (tables : List ℕ) : Type 0 where
  pub stored : (k : ℕ) → k < length values → At tables (Layout.values + Layout.value_width * k) (sum_numbers (get_or values k nothing))
  pub small : (k : ℕ) → T (small_sum (get_or values k nothing))
  pub nested : (k : ℕ) → T (nested_sum max_brackets (get_or values k nothing))

module _ {w : View} {tables tally : List ℕ} {clock : ℕ} (s : Sees w tables tally clock) (p : List ℕ) {values : List Sum}
    (v : Values values tables) where
  -- one value, over the worths of those below it
  value_found : (k : ℕ) → k < length values → (mention : ℕ → ℤ) (lower : List ℤ) → ((j : ℕ) → mention j ≡ get_or lower j (pos 0)) →
      value_by tables (simple_term tables tally clock p) mention k ≡ sum w (parameters_of p) lower (get_or values k nothing) (pos 0)
  unfolding value_by bracket_from sum_numbers
  value_found k h mention lower agrees =
      let e = get_or values k nothing in
      let at = Layout.values + Layout.value_width * k in
      let f = at_first tables at (terms e) (signed_terms e) (v.stored k h) in
      let read = term_from tables (simple_term tables tally clock p) mention max_brackets in
      ap (λ (n : ℕ). (sum_from tables read n (pos 0) (at + 1)).worth) (sym f.found)
      ∙ ap (λ (r : Worth). r.worth)
      (sum-found s p lower mention agrees e max_brackets (pos 0) (at + 1) f.after (v.small k) (v.nested k))

  -- a mention of one of the first l values
  module _ (l : ℕ) (h : l < length values)
      (agrees : (k : ℕ) → value_below tables (simple_term tables tally clock p) l k
      ≡ get_or (worths w (parameters_of p) (take l values) []) k (pos 0)) where
    abbrev lower : List ℤ
    lower = worths w (parameters_of p) (take l values) []

    abbrev next : ℤ
    next = sum w (parameters_of p) lower (get_or values l nothing) (pos 0)

    one_more : (k : ℕ) → get_or (worths w (parameters_of p) (take (suc l) values) []) k (pos 0) ≡ cond (eqb k l) next (get_or lower k (pos 0))
    one_more k =
        let count : length (take l values) ≡ l = length-take-le l values (omega arith) in
        ap (λ (u : List Sum). get_or (worths w (parameters_of p) u []) k (pos 0)) (take-suc values l nothing h)
        ∙ ap (λ (u : List ℤ). get_or u k (pos 0)) (worths_snoc w (parameters_of p) (take l values) (get_or values l nothing) [])
        ∙ get_or_snoc lower next l k (worths-length w (parameters_of p) (take l values) [] ∙ omega arith)

    values-more : (k : ℕ) → value_below tables (simple_term tables tally clock p) (suc l) k ≡ cond (eqb k l) next (get_or lower k (pos 0))
    unfolding value_below
    values-more k = go (eqb k l) refl
      where
        go : (t : Bool) → eqb k l ≡ t →
            cond t (value_by tables (simple_term tables tally clock p) (value_below tables (simple_term tables tally clock p) l))
            (value_below tables (simple_term tables tally clock p) l) k ≡ cond t next (get_or lower k (pos 0))
        go true e = rw (eqb-true k l e) (value_found l h (value_below tables (simple_term tables tally clock p) l) lower agrees)
        go false e = agrees k

  pub values-found : (l : ℕ) → l ≤ length values → (k : ℕ) →
      value_below tables (simple_term tables tally clock p) l k ≡ get_or (worths w (parameters_of p) (take l values) []) k (pos 0)
  unfolding value_below worths
  values-found zero h k = refl
  values-found (suc l) h k =
      let agrees = values-found l (omega arith) in
      values-more l h agrees k ∙ sym (one_more l h agrees k)

  -- a mention in a block
  pub all_found : (k : ℕ) → value_below tables (simple_term tables tally clock p) (length values) k
      ≡ get_or (worths w (parameters_of p) values []) k (pos 0)
  all_found k =
      values-found (length values) (omega arith) k
      ∙ ap (λ (u : List Sum). get_or (worths w (parameters_of p) u []) k (pos 0)) (take-length values)
