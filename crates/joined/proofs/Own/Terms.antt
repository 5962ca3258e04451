-- A term of the part is worth in the joined model what it is worth in the part alone, where it names only what the part has and no clock.
use Rattle.machine.specs.All.{ℕ, suc, ◌+◌, ◌-◌, ◌≤◌, ◌<◌, ◌≡◌, refl, sym, ap, ap₂, ◌∙◌, List, [], ◌∷◌, ◌++◌, map, append_assoc, append-nil, arith, ltb, length, get_or, length-append, get_or-append, nth, View, Term, constant, minus_constant, parameter, clock_term, entries_of, content_of, units_in_use, units_free, facility_in_use, value, comparison, bracket, Sum, nothing, plus, minus, term, sum, worths, evaluate, compare, truth, Condition, always, when_true, related, wrap, one_if, server_at, queue_at, BlockModel, Each}
use lib.IntN.{ℤ, pos, ◌+ℤ◌, ◌-ℤ◌}
use Rattle.machine.proofs.Decoding.Proper.{Names, servers}
use Rattle.joined.specs.{Part, term_in, sum_in, condition_in}
use Rattle.joined.proofs.{Relation.Naming.Naming, Relation.Seen.size, Relation.Seen.Fixtures}

module _ (p : Part) (m : BlockModel) where
  -- ---- What a term names

  abbrev mutual
    pub Plain : Term → Type 0
    Plain (constant n) = Unit {0}
    Plain (minus_constant n) = Unit {0}
    Plain (parameter k) = Unit {0}
    Plain clock_term = ⊥
    Plain (entries_of b) = Names (size p m) b
    Plain (content_of q) = Names m.queues q
    Plain (units_in_use v) = Names (servers m) v
    Plain (units_free v) = Names (servers m) v
    Plain (facility_in_use v) = Names (servers m) v
    Plain (value k) = Names (length m.values) k
    Plain (comparison r a b) = Plain a × Plain b
    Plain (bracket e) = PlainSum e

    pub PlainSum : Sum → Type 0
    PlainSum nothing = Unit {0}
    PlainSum (plus t e) = Plain t × PlainSum e
    PlainSum (minus t e) = Plain t × PlainSum e

  abbrev pub PlainCondition : Condition → Type 0
  PlainCondition always = Unit {0}
  PlainCondition (when_true a r b) = Plain a × Plain b

  module _ (N : Naming) (w w' : View) (samples samples' : List (List ℕ)) (h : Fixtures p m N w w' samples samples') where
    module _ (q low low' : List ℤ)
        (below : (k : ℕ) → Names (length m.values) k → nth low' k (pos 0) ≡ nth low (k + p.to_value) (pos 0)) where
      mutual
        unfolding term sum term_in sum_in server_at queue_at

        pub term-same : (t : Term) → Plain t → term w' q low' t ≡ term w q low (term_in p t)
        term-same (constant n) k = refl
        term-same (minus_constant n) k = refl
        term-same (parameter i) k = refl
        term-same clock_term k = absurd k
        term-same (entries_of b) k = ap pos (h.entries.alike b k)
        term-same (content_of c) k = ap pos (h.queues.alike c k)
        term-same (units_in_use v) k = ap pos (h.servers.alike v k).in_use
        term-same (units_free v) k = ap₂ (λ (a b : ℕ). pos (a - b)) (h.servers.alike v k).capacity (h.servers.alike v k).in_use
        term-same (facility_in_use v) k = ap (λ (a : ℕ). one_if (ltb 0 a)) (h.servers.alike v k).in_use
        term-same (value i) k = below i k
        term-same (comparison r a b) k = ap₂ (λ (x y : ℤ). one_if (related r x y)) (term-same a k.0) (term-same b k.1)
        term-same (bracket e) k = sum_same e k (pos 0)

        pub sum_same : (e : Sum) → PlainSum e → (so_far : ℤ) → sum w' q low' e so_far ≡ sum w q low (sum_in p e) so_far
        sum_same nothing k x = refl
        sum_same (plus t e) k x = ap (λ (y : ℤ). sum w' q low' e (wrap (x +ℤ y))) (term-same t k.0) ∙ sum_same e k.1 _
        sum_same (minus t e) k x = ap (λ (y : ℤ). sum w' q low' e (wrap (x -ℤ y))) (term-same t k.0) ∙ sum_same e k.1 _
        -- ---- The worths of values

-- the second list begins behind the first
pub get_or-behind : {A : Type 0} (a b : List A) (i : ℕ) (d : A) → get_or (a ++ b) (i + length a) d ≡ get_or b i d
get_or-behind [] b i d = ap (λ (k : ℕ). get_or b k d) (plus-zero i)
  where
    plus-zero : (i : ℕ) → i + 0 ≡ i
    plus-zero i = omega arith
get_or-behind (x ∷ a) b i d = ap (λ (k : ℕ). get_or (x ∷ (a ++ b)) k d) (step i (length a)) ∙ get_or-behind a b i d
  where
    step : (i k : ℕ) → i + suc k ≡ suc (i + k)
    step i k = omega arith

module _ (w : View) (q : List ℤ) where
  worths-append : (a b : List Sum) (low : List ℤ) → worths w q (a ++ b) low ≡ worths w q b (worths w q a low)
  unfolding worths
  worths-append [] b low = refl
  worths-append (e ∷ a) b low = worths-append a b _

  worths-length : (a : List Sum) (low : List ℤ) → length (worths w q a low) ≡ length low + length a
  unfolding worths
  worths-length [] low = omega arith
  worths-length (e ∷ a) low = worths-length a _ ∙ step (length-append low (sum w q low e (pos 0) ∷ []))
    where
      step : {k : ℕ} → k ≡ length low + 1 → k + length a ≡ length low + suc (length a)
      step e = omega arith

  -- what stands there stays there
  worths-stay : (a : List Sum) (low : List ℤ) (i : ℕ) → i < length low → get_or (worths w q a low) i (pos 0) ≡ get_or low i (pos 0)
  unfolding worths
  worths-stay [] low i lt = refl
  worths-stay (e ∷ a) low i lt =
      worths-stay a _ i (omega (arith, length-append low (sum w q low e (pos 0) ∷ [])))
      ∙ get_or-append low (sum w q low e (pos 0) ∷ []) (pos 0) i lt

-- the values of the part among those of the joined model
pub record Values (p : Part) (m M : BlockModel) : Type 0 where
  pub lower : List Sum
  pub higher : List Sum
  pub all : M.values ≡ lower ++ map (sum_in p) m.values ++ higher
  pub before : length lower ≡ p.to_value
  pub plain : Each (PlainSum p m) m.values

module _ (p : Part) (m M : BlockModel) (vals : Values p m M) (N : Naming) (w w' : View) (samples samples' : List (List ℕ))
    (h : Fixtures p m N w w' samples samples')
    (q : List ℤ) where
  worths-part : (vs : List Sum) → Each (PlainSum p m) vs → (front low : List ℤ) → length front ≡ p.to_value
      → worths w q (map (sum_in p) vs) (front ++ low) ≡ front ++ worths w' q vs low
  unfolding worths
  worths-part [] k front low e = refl
  worths-part (v ∷ vs) k front low e =
      ap (worths w q (map (sum_in p) vs))
      (append_assoc front low (sum w q (front ++ low) (sum_in p v) (pos 0) ∷ [])
      ∙ ap (λ (x : ℤ). front ++ (low ++ (x ∷ [])))
      (sym (sum_same p m N w w' samples samples' h q (front ++ low) low behind v k.0 (pos 0))))
      ∙ worths-part vs k.1 front (low ++ (sum w' q low v (pos 0) ∷ [])) e
    where
      behind : (i : ℕ) → Names (length m.values) i → nth low i (pos 0) ≡ nth (front ++ low) (i + p.to_value) (pos 0)
      behind i n = sym (ap (λ (j : ℕ). get_or (front ++ low) j (pos 0)) (index n.0) ∙ get_or-behind front low (i - 1) (pos 0))
        where
          index : 1 ≤ i → i + p.to_value - 1 ≡ i - 1 + length front
          index a = omega (arith, e)

  -- all of them
  pub values_same : (k : ℕ) → Names (length m.values) k
      → nth (worths w' q m.values []) k (pos 0) ≡ nth (worths w q M.values []) (k + p.to_value) (pos 0)
  values_same k n =
      let front : List ℤ = worths w q vals.lower [] in
      let long : length front ≡ p.to_value = worths-length w q vals.lower [] ∙ ap (λ (i : ℕ). 0 + i) vals.before ∙ zero-plus in
      let whole : worths w q M.values [] ≡ worths w q vals.higher (front ++ worths w' q m.values []) =
      ap (λ (l : List Sum). worths w q l []) vals.all ∙ worths-append w q (vals.lower ++ map (sum_in p) m.values) vals.higher []
      ∙ ap (worths w q vals.higher)
      (worths-append w q vals.lower (map (sum_in p) m.values) []
      ∙ ap (worths w q (map (sum_in p) m.values)) (sym (append-nil front)) ∙ worths-part m.values vals.plain front [] long) in
      sym
      (ap (λ (l : List ℤ). nth l (k + p.to_value) (pos 0)) whole
      ∙ worths-stay w q vals.higher (front ++ worths w' q m.values []) (k + p.to_value - 1)
      (omega (arith, length-append front (worths w' q m.values []), long, worths-length w' q m.values []))
      ∙ ap (λ (j : ℕ). get_or (front ++ worths w' q m.values []) j (pos 0)) (index long)
      ∙ get_or-behind front (worths w' q m.values []) (k - 1) (pos 0))
    where
      zero-plus : 0 + p.to_value ≡ p.to_value
      zero-plus = omega arith

      index : {i : ℕ} → i ≡ p.to_value → k + p.to_value - 1 ≡ k - 1 + i
      index e = omega (arith, n.0)

  -- by recursion on how many values a term may still go through
  pub evaluate-same : (t : Term) → Plain p m t → evaluate m.values w' q t ≡ evaluate M.values w q (term_in p t)
  unfolding evaluate
  evaluate-same t k = term-same p m N w w' samples samples' h q (worths w q M.values []) (worths w' q m.values []) values_same t k

  pub truth-same : (c : Condition) → PlainCondition p m c → truth m.values w' q c ≡ truth M.values w q (condition_in p c)
  unfolding truth compare condition_in
  truth-same always k = refl
  truth-same (when_true a r b) k = ap₂ (related r) (evaluate-same a k.0) (evaluate-same b k.1)
