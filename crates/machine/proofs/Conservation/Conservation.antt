-- Claims 1 and 2 of demand 3, of every state of a run: each living number stands exactly once and no other stands anywhere; made
-- equals ended plus living, and the machine's counts are these.
use Rattle.machine.specs.All.{ℕ, ◌+◌, ◌≤◌, ◌<◌, ◌≡◌, refl, ap, ◌∙◌, Bool, true, false, cond, ◌&&◌, List, ◌++◌, map, Option, none, some, arith, leb-true, leb-false, eqb-true, eqb-false, eq-eqb, ne_eqb, eqb, leb, length, length-append, length-map, Transaction, Interrupted, those, flat, BlockModel, State, taking, turn, start, states, placed, moving_one, places, Each, count, bit, up_to, everyone, standing, terminates, made_by, ended_by_lem, is_living, living_count, sym}
use Rattle.machine.proofs as our
use our.{Decoding.Proper.Proper, Runs.Kept.taking-kept, Conservation.StartLedger.booked-start, Runs.RunLaws.each-state, Basic.Each.each_map}
use our.Runs.Shape.{Shape, shape_closed, shape-turn, shape-start}
use our.Lists.Sums.{sum_on, sum-append, sum-map, sum-test, sum_cong, sum_cong-keys, sum-length, sum-count, sum-zero, up_to-ones, up_to-none, up_to-one, each_member}
use our.Conservation.Balance.{listed, held, gone, Balanced, balanced-taking, balanced-turn, balanced-start}
use our.Conservation.Ledger.{Books, booked-taking, booked-turn}

-- ---- Everyone

module _ (m : BlockModel) (tape : List (List ℕ)) (f : ℕ → ℕ) where
  abbrev number-weight : Transaction → ℕ
  number-weight t = f t.number

  sum-moving : (o : Option Transaction) → sum_on number-weight (moving_one o) ≡ held m tape f o
  unfolding moving_one
  sum-moving none = refl
  sum-moving (some t) = omega arith

  -- the claims weigh everybody as one list, the balance weighs list by list
  pub sum-everyone : (s : State) → sum_on number-weight (everyone s) ≡ held m tape f s.moving + listed m tape f s
  unfolding everyone
  sum-everyone s =
      omega (
        arith,
        sum-append number-weight
            (flat s.ql ++ flat s.wel ++ s.wsl ++ s.rel ++ map (λ e. e.who) s.fel ++ moving_one s.moving ++ map (λ g. g.who)
            (flat s.gatherers)) (map (λ i. i.who) s.interrupted),
        sum-append number-weight (flat s.ql ++ flat s.wel ++ s.wsl ++ s.rel ++ map (λ e. e.who) s.fel ++ moving_one s.moving)
            (map (λ g. g.who) (flat s.gatherers)),
        sum-append number-weight (flat s.ql ++ flat s.wel ++ s.wsl ++ s.rel ++ map (λ e. e.who) s.fel) (moving_one s.moving),
        sum-append number-weight (flat s.ql ++ flat s.wel ++ s.wsl ++ s.rel) (map (λ e. e.who) s.fel),
        sum-append number-weight (flat s.ql ++ flat s.wel ++ s.wsl) s.rel,
        sum-append number-weight (flat s.ql ++ flat s.wel) s.wsl,
        sum-append number-weight (flat s.ql) (flat s.wel),
        sum-map number-weight (λ e. e.who) s.fel,
        sum-map number-weight (λ g. g.who) (flat s.gatherers),
        sum-map number-weight (λ i. i.who) s.interrupted,
        sum-moving s.moving,
      )

-- the places of the report are as many
length-places : (s : State) → length (places s) ≡ length (everyone s)
unfolding places placed everyone
length-places s = simp (length-append, length-map) (omega arith)

-- ---- Of one balanced state

module _ (m : BlockModel) (tape : List (List ℕ)) (s : State) (balanced : (f : ℕ → ℕ) → Balanced m tape f s) (books : Books m tape s) where
  -- everybody on the lists and everybody that ended are the numbers 1..made
  whole : (f : ℕ → ℕ) → sum_on (λ t. f t.number) (everyone s) + gone m tape f s.records ≡ up_to s.made f
  whole f = omega (arith, balanced f, sum-everyone m tape f s)

  -- how often a number ended
  abbrev endings : ℕ → ℕ
  endings n = count (λ r. terminates m tape r && eqb r.entry.transaction n) s.records

  gone-endings : (n : ℕ) → gone m tape (λ k. bit (eqb k n)) s.records ≡ endings n
  gone-endings n =
      sum_cong _ _ (λ r. both (terminates m tape r) (eqb r.entry.transaction n)) s.records ∙ sum-count _ s.records
    where
      both : (a b : Bool) → cond a (bit b) 0 ≡ bit (a && b)
      both true b = refl
      both false b = refl

  standing-sum : (n : ℕ) → sum_on (λ t. bit (eqb t.number n)) (everyone s) ≡ standing s n
  unfolding standing
  standing-sum n = sum-count _ (everyone s)

  -- the balance for the weight that is 1 at n and 0 elsewhere
  pub once : (n : ℕ) → standing s n + endings n ≡ up_to s.made (λ k. bit (eqb k n))
  once n = omega (arith, whole (λ k. bit (eqb k n)), gone-endings n, standing-sum n)

  -- claim 1: a living number is found in exactly one place, any other in none
  pub stands-once : (n : ℕ) → standing s n ≡ bit (is_living m tape s.records n)
  unfolding is_living
  stands-once n = low (leb 1 n) refl
    where
      clear : (b : Bool) → eqb (endings n) 0 ≡ b → standing s n + endings n ≡ 1 → standing s n ≡ bit b
      clear true e w = omega (arith, eqb-true (endings n) 0 e)
      clear false e w = omega (arith, some-ended (eqb-false _ _ e))
        where
          some-ended : (endings n ≡ 0 → ⊥) → 1 ≤ endings n
          some-ended h = omega arith

      high : (b : Bool) → leb n (made_by m tape s.records) ≡ b → 1 ≤ n → standing s n ≡ bit (b && eqb (endings n) 0)
      high true e l =
          clear (eqb (endings n) 0) refl
          (omega (arith, once n, up_to-one s.made n l (omega (arith, leb-true n (made_by m tape s.records) e, books.makes))))
      high false e l =
          omega (arith, once n, up_to-none s.made n (λ k a b c. omega (arith, leb-false n (made_by m tape s.records) e, books.makes)))

      low : (b : Bool) → leb 1 n ≡ b → standing s n ≡ bit (b && leb n (made_by m tape s.records) && eqb (endings n) 0)
      low true e = high (leb n (made_by m tape s.records)) refl (leb-true _ _ e)
      low false e = omega (arith, once n, up_to-none s.made n (λ k a b c. omega (arith, leb-false 1 n e)))

  -- ---- Counts

  abbrev lives : ℕ → ℕ
  lives n = bit (is_living m tape s.records n)

  -- everybody who stands there lives
  all_live : sum_on (λ t. lives t.number) (everyone s) ≡ length (everyone s)
  all_live =
      sum_cong-keys (λ t. lives t.number) (λ t. 1) (λ t. t.number) (everyone s)
      (λ t p. alive (is_living m tape s.records t.number) (omega (arith, stands-once t.number, standing-sum t.number)))
      ∙ sum-length (everyone s)
    where
      alive : (b : Bool) → 0 < bit b → bit b ≡ 1
      alive true p = refl
      alive false p = absurd (omega arith)

  -- nobody who ended lives
  none-lives : gone m tape lives s.records ≡ 0
  none-lives =
      sym (sum-test (λ r. lives r.entry.transaction) (terminates m tape) s.records)
      ∙ sum_cong-keys (λ r. lives r.entry.transaction) (λ r. 0) (λ r. r.entry.transaction) (those (terminates m tape) s.records)
      (λ r p. ended-not r.entry.transaction
      (omega (
        arith,
        sum-test (λ y. bit (eqb y.entry.transaction r.entry.transaction)) (terminates m tape) s.records,
        gone-endings r.entry.transaction,
      )))
      ∙ sum-zero (λ r. 0) (λ r. refl) (those (terminates m tape) s.records)
    where
      no_third : (a b : Bool) → bit (a && b && false) ≡ 0
      no_third true true = refl
      no_third true false = refl
      no_third false b = refl

      ended-not : (n : ℕ) → 0 < endings n → lives n ≡ 0
      ended-not n p = unfold is_living in
          (ap (λ c. bit (leb 1 n && leb n (made_by m tape s.records) && c)) (ne_eqb (endings n) 0 (λ z. omega arith))
          ∙ no_third (leb 1 n) (leb n (made_by m tape s.records)))

  everyone-lives : length (everyone s) ≡ living_count m tape s.records
  unfolding living_count
  everyone-lives =
      omega (arith, whole lives, all_live, none-lives, ap (λ n. up_to n lives) books.makes)

  gone-ended : gone m tape (λ k. 1) s.records ≡ ended_by_lem m tape s.records
  unfolding ended_by_lem
  gone-ended = sum_cong _ _ (λ r. one (terminates m tape r)) s.records ∙ sum-count (terminates m tape) s.records
    where
      one : (b : Bool) → cond b 1 0 ≡ bit b
      one true = refl
      one false = refl

  everyone-made : length (everyone s) + ended_by_lem m tape s.records ≡ s.made
  everyone-made = omega (arith, whole (λ k. 1), sum-length (everyone s), gone-ended, up_to-ones s.made)

-- ---- The claims

pub record Conserved (m : BlockModel) (tape : List (List ℕ)) (s : State) : Type 0 where
  pub one_place : (n : ℕ) → standing s n ≡ bit (is_living m tape s.records n)
  pub made : s.made ≡ made_by m tape s.records
  pub ended : s.ended ≡ ended_by_lem m tape s.records
  -- claim 2: "made = ended + living", told by the records
  pub balance : made_by m tape s.records ≡ ended_by_lem m tape s.records + living_count m tape s.records
  pub living : length (places s) ≡ living_count m tape s.records

-- the invariant behind them
pub record Sound (m : BlockModel) (tape : List (List ℕ)) (s : State) : Type 0 where
  pub shape : Shape m s
  pub balanced : (f : ℕ → ℕ) → Balanced m tape f s
  pub books : Books m tape s

module _ (m : BlockModel) (tape : List (List ℕ)) where
  pub sound-conserved : (s : State) → Sound m tape s → Conserved m tape s
  sound-conserved s h =
      record {
        one_place = stands-once m tape s h.balanced h.books;
        made = h.books.makes;
        ended = h.books.ends;
        balance =
            omega (
              arith,
              everyone-made m tape s h.balanced h.books,
              everyone-lives m tape s h.balanced h.books,
              h.books.makes,
            );
        living = length-places s ∙ everyone-lives m tape s h.balanced h.books;
      }

  -- no number stands twice, and none beyond those made
  pub stands-at-most-once : (s : State) → Sound m tape s → (n : ℕ) → standing s n ≤ 1
  stands-at-most-once s h n = at_most (is_living m tape s.records n) (stands-once m tape s h.balanced h.books n)
    where
      at_most : (b : Bool) → standing s n ≡ bit b → standing s n ≤ 1
      at_most true e = omega arith
      at_most false e = omega arith

  -- whoever is found in some place has a number that was given
  pub stands-made : (s : State) → Sound m tape s → (n : ℕ) → 0 < standing s n → (1 ≤ n) × (n ≤ s.made)
  stands-made s h n p = go (leb 1 n) (leb n s.made) refl refl
    where
      all : standing s n ≤ up_to s.made (λ k. bit (eqb k n))
      all = omega (arith, once m tape s h.balanced h.books n)

      go : (a b : Bool) → leb 1 n ≡ a → leb n s.made ≡ b → (1 ≤ n) × (n ≤ s.made)
      go true true e q = (leb-true 1 n e, leb-true n s.made q)
      go true false e q =
          absurd (omega (arith, all, up_to-none s.made n (λ k a b c. omega (arith, leb-false n s.made q))))
      go false b e q = absurd (omega (arith, all, up_to-none s.made n (λ k a b c. omega (arith, leb-false 1 n e))))

  alive : (b : Bool) → 0 < bit b → b ≡ true
  alive true p = refl
  alive false p = absurd (omega arith)

  -- who moves is living
  pub mover-lives : (s : State) → Sound m tape s → (t : Transaction) → s.moving ≡ some t → is_living m tape s.records t.number ≡ true
  mover-lives s h t e =
      alive (is_living m tape s.records t.number)
      (omega (
        arith,
        stands-once m tape s h.balanced h.books t.number,
        standing-sum m tape s h.balanced h.books t.number,
        sum-everyone m tape (λ k. bit (eqb k t.number)) s,
        ap (held m tape (λ k. bit (eqb k t.number))) e,
        ap bit (eq-eqb t.number t.number refl),
      ))

  -- and so are the interrupted ones
  pub interrupted_live : (s : State) → Sound m tape s
      → Each (λ (i : Interrupted). is_living m tape s.records i.who.number ≡ true) s.interrupted
  interrupted_live s h =
      each_member (λ (i : Interrupted). i.who.number) _ s.interrupted
      (λ i p.
      alive (is_living m tape s.records i.who.number)
      (omega (
        arith,
        stands-once m tape s h.balanced h.books i.who.number,
        standing-sum m tape s h.balanced h.books i.who.number,
        sum-everyone m tape (λ k. bit (eqb k i.who.number)) s,
      )))

  pub sound-start : Proper m tape → Sound m tape (start m tape)
  sound-start proper =
      record { shape = shape-start m tape proper.tapes; balanced = λ f. balanced-start m tape f; books = booked-start m tape proper }

  pub sound-taking : (s : State) → Sound m tape s → Sound m tape (taking s.moving s)
  sound-taking s h =
      record {
        shape = taking-kept (Shape m) (shape_closed m) s.moving s h.shape;
        balanced = λ f. balanced-taking m tape f s.moving s refl (h.balanced f);
        books = booked-taking m tape s.moving s h.books;
      }

  pub sound-turn : Proper m tape → (s : State) → Sound m tape s → Sound m tape (turn m s)
  sound-turn proper s h =
      record {
        shape = shape-turn m s h.shape;
        balanced = λ f. balanced-turn m tape f proper s h.shape (h.balanced f);
        books = booked-turn m tape proper s h.shape h.books;
      }

  -- the balance and the books together, which need each other, in every state
  pub sound : (budget room : ℕ) → Proper m tape → Each (Sound m tape) (states m tape budget room)
  sound budget room proper =
      each-state m budget room (Sound m tape) (λ s t h. sound-turn proper s h)
      (λ s e c h. record { shape = h.shape; balanced = h.balanced; books = h.books }) tape (sound-start proper)

  pub conserved : (budget room : ℕ) → Proper m tape → Each (Conserved m tape) (states m tape budget room)
  conserved budget room proper = each_map sound-conserved (states m tape budget room) (sound budget room proper)
