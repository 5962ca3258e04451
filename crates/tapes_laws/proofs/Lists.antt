-- Lists, pure: one after the other, and what they stand for when all were taken.
use Rattle.machine.specs.All.{ℕ, zero, suc, ◌+◌, ◌*◌, ◌≤◌, ◌<◌, arith, Bool, true, false, cond, eqb, eq-eqb, ne_eqb, List, [], ◌∷◌, ◌++◌, append_assoc, append-nil, ◌≡◌, refl, sym, ap, ◌∙◌, get_or, length, set, take, drop, le-leb, lt-leb}
use Rattle.std.specs.Prelude.{Option, None as none, Some as some}
use lib.Ieee.{Float}
use Rattle.std.proofs.lemmas.List.{drop_more, drop_all, take_more_set}
use Rattle.tapes_laws.specs.{declared.Distribution.Distribution, declared.Row.Row, declared.Kind.Kind, Source.Source}
use Rattle.tapes_laws.specs.Kinds.{kind_number, Names}
use Rattle.tapes_laws.specs.declared.Kind.TheVariants.{Fixed, Spread, Curve}
use Rattle.tapes_laws.specs.{most_times, continue, ask, Listed, fixed_at, spread_at, curve_at, source_at, list_at_lem, lists_in, Chosen, Holds, Listing, Rows, Filled}

-- ---- The kinds of distributions

module _ (numbers : List Float) (kind first points : ℕ) where
  -- a number that is no kind's
  pub kind-none : Names kind none → Chosen numbers none (source_at numbers kind first points)
  unfolding source_at
  kind-none h =
      rw (ne_eqb kind 2 (λ e. h Curve (sym e)), ne_eqb kind 0 (λ e. h Fixed (sym e)), ne_eqb kind 1 (λ e. h Spread (sym e))) (go (eqb points 0))
    where
      go : (t : Bool) → Chosen numbers none (cond t none none)
      go true = tt
      go false = tt

  -- points, but no curve
  pub kind-points : (k : Kind) → kind_number k ≡ kind → (k ≡ Curve → ⊥) → (points ≡ 0 → ⊥) → Chosen numbers none (source_at numbers kind first points)
  unfolding source_at
  kind-points Fixed e n h = rw (ne_eqb kind 2 (λ f. omega arith), ne_eqb points 0 h) tt
  kind-points Spread e n h = rw (ne_eqb kind 2 (λ f. omega arith), ne_eqb points 0 h) tt
  kind-points Curve e n h = absurd (n refl)

  module _ (r : Option Distribution) where
    pub kind-curve : kind_number Curve ≡ kind → Chosen numbers r (curve_at numbers first points) → Chosen numbers r (source_at numbers kind first points)
    unfolding source_at
    kind-curve e t = rw (eq-eqb kind 2 (sym e)) t

    pub kind-fixed : kind_number Fixed ≡ kind → points ≡ 0 → Chosen numbers r (fixed_at numbers first) → Chosen numbers r (source_at numbers kind first points)
    unfolding source_at
    kind-fixed e h t = rw (ne_eqb kind 2 (λ f. omega arith), eq-eqb points 0 h, eq-eqb kind 0 (sym e)) t

    pub kind-spread : kind_number Spread ≡ kind → points ≡ 0 → Chosen numbers r (spread_at numbers first) →
        Chosen numbers r (source_at numbers kind first points)
    unfolding source_at
    kind-spread e h t =
        rw (ne_eqb kind 2 (λ f. omega arith), eq-eqb points 0 h, ne_eqb kind 0 (λ f. omega arith), eq-eqb kind 1 (sym e)) t

-- ---- One list

module _ (lists : List ℕ) (numbers : List Float) (k : ℕ) where
  abbrev count : ℕ
  count = get_or lists (k * 4 + 1) 0

  abbrev source : Option Source
  source = source_at numbers (get_or lists (k * 4) 0) (get_or lists (k * 4 + 2) 0) (get_or lists (k * 4 + 3) 0)

  -- more than 65,535 times
  pub row-many : most_times < count → Listing numbers none (list_at_lem lists numbers k)
  unfolding list_at_lem continue ask
  row-many h = rw (lt-leb count most_times h) tt

  module _ (h : count ≤ most_times) (r : Option Distribution) where
    -- a distribution that is refused
    pub row-refused : Chosen numbers r source → r ≡ none → Listing numbers none (list_at_lem lists numbers k)
    unfolding list_at_lem continue ask
    row-refused chosen e =
        rw le-leb
        (go source (rw e at chosen))
      where
        go : (o : Option Source) → Chosen numbers none o →
            Listing numbers none (continue o (λ s. some (record { source = s; count = count })))
        go none t = tt
        go (some s) t = t

    -- a list that is given
    pub row-taken : Chosen numbers r source → (d : Distribution) → r ≡ some d → Listing numbers (some (record { distribution = d; count = count })) (list_at_lem lists numbers k)
    unfolding list_at_lem continue ask
    row-taken chosen d e =
        rw le-leb
        (go source (rw e at chosen))
      where
        go : (o : Option Source) → Chosen numbers (some d) o →
            Listing numbers (some (record { distribution = d; count = count })) (continue o (λ s. some (record { source = s; count = count })))
        go none t = t
        go (some s) t = (t, refl)

-- ---- One after the other

pub rows-append : (numbers : List Float) (rs : List Row) (ls : List Listed) (r : Row) (l : Listed) → Rows numbers rs ls → Holds numbers r l →
    Rows numbers (rs ++ (r ∷ [])) (ls ++ (l ∷ []))
rows-append numbers [] [] r l h held = (held, tt)
rows-append numbers [] (m ∷ ls) r l h held = absurd h
rows-append numbers (q ∷ rs) [] r l h held = absurd h
rows-append numbers (q ∷ rs) (m ∷ ls) r l h held = (h.0, rows-append numbers rs ls r l h.1 held)

module _ (numbers : List Float) (fours : List (List ℕ)) where
  -- the lists before k are held, and all are those and the others
  pub record Filling (k : ℕ) (rows : List Row) : Type 0 where
    pub lists : List Listed
    pub held : Rows numbers (take k rows) lists
    pub whole : lists_in fours numbers ≡ continue (lists_in (drop k fours) numbers) (λ l. some (lists ++ l))

  pub filling-start : (rows : List Row) → Filling 0 rows
  unfolding continue
  filling-start rows = record { lists = []; held = tt; whole = same (lists_in fours numbers) }
    where
      same : (o : Option (List Listed)) → o ≡ continue o (λ l. some l)
      same none = refl
      same (some l) = refl

  module _ (k : ℕ) (rows : List Row) (filling : Filling k rows) where
    next-in : k < length fours → lists_in (drop k fours) numbers
        ≡ continue (list_at_lem (get_or fours k []) numbers 0) (λ x. continue (lists_in (drop (k + 1) fours) numbers) (λ l. some (x ∷ l)))
    unfolding lists_in
    next-in h = rw (drop_more fours k [] h) refl

    -- one is refused: all are,
    pub filling-stops : (r : Option Row) → k < length fours → Listing numbers r (list_at_lem (get_or fours k []) numbers 0) → r ≡ none →
        lists_in fours numbers ≡ none
    unfolding continue
    filling-stops r h listing e =
        filling.whole ∙ rw (next-in h, refused (list_at_lem (get_or fours k []) numbers 0) (rw e at listing)) refl
      where
        refused : (o : Option Listed) → Listing numbers none o → o ≡ none
        refused none t = refl
        refused (some l) t = absurd t

    -- or one more is held
    pub filling-goes : (r : Option Row) (q : Row) → k < length fours → k < length rows →
        Listing numbers r (list_at_lem (get_or fours k []) numbers 0) → r ≡ some q → Filling (k + 1) (set rows k q)
    unfolding continue
    filling-goes r q h room listing e = go (list_at_lem (get_or fours k []) numbers 0) refl (rw e at listing)
      where
        onward : (x : Listed) (o : Option (List Listed)) →
            continue (continue o (λ l. some (x ∷ l))) (λ l. some (filling.lists ++ l)) ≡ continue o (λ l. some ((filling.lists ++ (x ∷ [])) ++ l))
        onward x none = refl
        onward x (some l) = ap some (sym (append_assoc filling.lists (x ∷ []) l))

        go : (o : Option Listed) → list_at_lem (get_or fours k []) numbers 0 ≡ o → Listing numbers (some q) o → Filling (k + 1) (set rows k q)
        go none f t = absurd t
        go (some x) f t =
            record {
              lists = filling.lists ++ (x ∷ []);
              held = rw (take_more_set rows k q room) (rows-append numbers (take k rows) filling.lists q x filling.held t);
              whole = filling.whole ∙ rw (next-in h, f) (onward x (lists_in (drop (k + 1) fours) numbers));
            }

  pub filled : (k : ℕ) (rows : List Row) → length fours ≤ k → k ≤ length fours → Filling k rows → Filled numbers fours rows
  unfolding lists_in continue
  filled k rows h l filling =
      let all : k ≡ length fours = omega arith in
      let none-left : drop k fours ≡ [] = drop_all k fours h in
      record {
        lists = filling.lists;
        is = filling.whole ∙ rw (none-left, append-nil filling.lists) refl;
        held = rw all at filling.held;
      }

-- ---- A row and its list

pub record Held (numbers : List Float) (r : Row) (k : ℕ) (ls : List Listed) : Type 0 where
  pub list : Listed
  pub holds : Holds numbers r list
  pub rest : drop k ls ≡ list ∷ drop (k + 1) ls

pub held-at : (numbers : List Float) (rows : List Row) (ls : List Listed) (k : ℕ) (d : Row) → Rows numbers rows ls → k < length rows →
    Held numbers (get_or rows k d) k ls
held-at numbers [] ls k d h i = absurd (omega arith)
held-at numbers (r ∷ rs) [] k d h i = absurd h
held-at numbers (r ∷ rs) (l ∷ ls) zero d h i = record { list = l; holds = h.0; rest = refl }
held-at numbers (r ∷ rs) (l ∷ ls) (suc k) d h i =
    let more = held-at numbers rs ls k d h.1 (omega arith) in
    let next : suc k + 1 ≡ suc (k + 1) = omega arith in
    record { list = more.list; holds = more.holds; rest = rw next more.rest }

pub held-length : (numbers : List Float) (rows : List Row) (ls : List Listed) → Rows numbers rows ls → length rows ≡ length ls
held-length numbers [] [] h = refl
held-length numbers [] (l ∷ ls) h = absurd h
held-length numbers (r ∷ rs) [] h = absurd h
held-length numbers (r ∷ rs) (l ∷ ls) h = ap suc (held-length numbers rs ls h.1)
