-- Open waits: the records of outcome 1 whose transaction has no later record. One record more keeps the order of waits if
-- it ends no wait behind an equal one that is open still.
use Rattle.machine.specs.All.{ℕ, suc, ◌+◌, ◌≤◌, ◌<◌, ◌≡◌, refl, sym, ap, subst, ◌∙◌, ◌⊎◌, inl, inr, Bool, true, false, cond, ◌&&◌, List, [], ◌∷◌, ◌++◌, reverse, reverse-cons, arith, T, ltb, eqb, T_not, eqb→eq, length, get_or, drop, length-append, length-drop, get_or-append, drop-append-le, get_or_at, ltb-true, ltb-false, eqb-true, eq-eqb, those, others, BlockModel, facts, block_at, Logged, no_record_lem, next_record, wait_end, equal_waits, InOrder, facts_at, preempt_names, not}
use Rattle.machine.proofs.Basic.Bools.{cond_cases}

-- ---- Members of a list, and pairs in the order of a list

module _ {A : Type 0} where
  abbrev pub Member : A → List A → Type 0
  Member x [] = ⊥
  Member x (y ∷ l) = (x ≡ y) ⊎ Member x l

  -- y stands somewhere behind x
  abbrev pub Behind : A → A → List A → Type 0
  Behind y x [] = ⊥
  Behind y x (z ∷ l) = ((x ≡ z) × Member y l) ⊎ Behind y x l

  module _ (p : A → Bool) where
    member-those : (x : A) (l : List A) → p x ≡ true → Member x l → Member x (those p l)
    unfolding those
    member-those x [] e h = h
    member-those x (y ∷ l) e h = go (p y) refl h (member-those x l e)
      where
        go : (b : Bool) → p y ≡ b → Member x (y ∷ l) → (Member x l → Member x (those p l)) → Member x (cond b (y ∷ those p l) (those p l))
        go true q (inl r) later = inl r
        go true q (inr r) later = inr (later r)
        go false q (inl r) later = absurd (subst T (sym e ∙ ap p r ∙ q) tt)
        go false q (inr r) later = later r

    behind-those : (y x : A) (l : List A) → p y ≡ true → p x ≡ true → Behind y x l → Behind y x (those p l)
    unfolding those
    behind-those y x [] e d h = h
    behind-those y x (z ∷ l) e d h = go (p z) refl h (behind-those y x l e d)
      where
        go : (b : Bool) → p z ≡ b → Behind y x (z ∷ l) → (Behind y x l → Behind y x (those p l))
            → Behind y x (cond b (z ∷ those p l) (those p l))
        go true q (inl r) later = inl (r.0, member-those y l e r.1)
        go true q (inr r) later = inr (later r)
        go false q (inl r) later = absurd (subst T (sym d ∙ ap p r.0 ∙ q) tt)
        go false q (inr r) later = later r

-- ---- The open waits

-- what a wait's record and the waiter have in common
pub record Key : Type 0 where
  pub number : ℕ
  pub block : ℕ
  pub priority : ℕ

abbrev pub key_of : Logged → Key
key_of r = record { number = r.entry.transaction; block = r.entry.block; priority = r.priority }

abbrev pub without : ℕ → List Key → List Key
without n l = others (λ k. eqb n k.number) l

-- the open waits of some records, both newest first
unfoldable pub opens : List Logged → List Key
opens [] = []
opens (r ∷ l) =
    cond (eqb r.entry.outcome 1) (key_of r ∷ without r.entry.transaction (opens l)) (without r.entry.transaction (opens l))

-- ---- Where a wait ends, with one record more

abbrev record_at : List Logged → ℕ → Logged
record_at l i = get_or l i no_record_lem

abbrev number_at : List Logged → ℕ → ℕ
number_at l i = (record_at l i).entry.transaction

module _ (n : ℕ) (r : Logged) where
  next-found : (l : List Logged) → next_record n l < length l → next_record n (l ++ (r ∷ [])) ≡ next_record n l
  unfolding next_record
  next-found [] h = omega arith
  next-found (x ∷ l) h = go (eqb x.entry.transaction n) refl h (next-found l)
    where
      go :
          (b : Bool) → eqb x.entry.transaction n ≡ b → cond b 0 (suc (next_record n l)) < suc (length l)
          → (next_record n l < length l → next_record n (l ++ (r ∷ [])) ≡ next_record n l)
          → cond b 0 (suc (next_record n (l ++ (r ∷ [])))) ≡ cond b 0 (suc (next_record n l))
      go true q h later = refl
      go false q h later = ap suc (later (omega arith))

  next_open :
      (l : List Logged) → length l ≤ next_record n l
      → next_record n (l ++ (r ∷ [])) ≡ length l + cond (eqb r.entry.transaction n) 0 1
  unfolding next_record
  next_open [] h = omega arith
  next_open (x ∷ l) h = go (eqb x.entry.transaction n) refl h (next_open l)
    where
      go :
          (b : Bool) → eqb x.entry.transaction n ≡ b → suc (length l) ≤ cond b 0 (suc (next_record n l))
          → (length l ≤ next_record n l → next_record n (l ++ (r ∷ [])) ≡ length l + cond (eqb r.entry.transaction n) 0 1)
          → cond b 0 (suc (next_record n (l ++ (r ∷ [])))) ≡ suc (length l) + cond (eqb r.entry.transaction n) 0 1
      go true q h later = absurd (omega arith)
      go false q h later = omega (arith, later (omega arith))

-- the wait that began at a position is open
abbrev pub Open : List Logged → ℕ → Type 0
Open l i = length l ≤ wait_end l i

module _ (l : List Logged) (r : Logged) where
  abbrev more : List Logged
  more = l ++ (r ∷ [])

  at_more : (i : ℕ) → i < length l → record_at more i ≡ record_at l i
  at_more i h = get_or-append l (r ∷ []) no_record_lem i h

  at_last : (i : ℕ) → i ≡ length l → record_at more i ≡ r
  at_last i d = get_or_at l r [] no_record_lem i (sym d)

  end_kept : (i : ℕ) → i < length l → wait_end l i < length l → wait_end more i ≡ wait_end l i
  unfolding wait_end
  end_kept i h e =
      rw (at_more i, drop-append-le (suc i) l (r ∷ []))
      (ap (λ n. suc i + n) (next-found (number_at l i) r (drop (suc i) l) (simp length-drop (omega arith))))

  end_open :
      (i : ℕ) → i < length l → Open l i → wait_end more i ≡ length l + cond (eqb r.entry.transaction (number_at l i)) 0 1
  unfolding wait_end
  end_open i h e =
      rw (at_more i, drop-append-le (suc i) l (r ∷ []))
      (omega (arith, next_open (number_at l i) r (drop (suc i) l) (simp length-drop (omega arith)), length-drop (suc i) l))

  -- a wait that is open now was open, and the new record is another transaction's
  was_open :
      (i : ℕ) → i < length l → Open more i → Open l i × (eqb r.entry.transaction (number_at l i) ≡ false)
  was_open i h e = go (ltb (wait_end l i) (length l)) refl
    where
      other : (b : Bool) → eqb r.entry.transaction (number_at l i) ≡ b → wait_end more i ≡ length l + cond b 0 1 → b ≡ false
      other true q w = absurd (omega (arith, length-append l (r ∷ [])))
      other false q w = refl

      go : (b : Bool) → ltb (wait_end l i) (length l) ≡ b → Open l i × (eqb r.entry.transaction (number_at l i) ≡ false)
      go true q =
          let d : wait_end l i < length l = ltb-true _ _ q in
          absurd (omega (arith, end_kept i h d, length-append l (r ∷ [])))
      go false q = (ltb-false _ _ q, other _ refl (end_open i h (ltb-false _ _ q)))

later : (l : List Logged) (i : ℕ) → i < wait_end l i
unfolding wait_end
later l i = omega arith

-- ---- Open waits by position are open waits of the list

last-or-before : (i n : ℕ) → i < suc n → (i ≡ n) ⊎ (i < n)
last-or-before i n h = go (ltb i n) refl
  where
    go : (b : Bool) → ltb i n ≡ b → (i ≡ n) ⊎ (i < n)
    go true q = inr (ltb-true i n q)
    go false q = let d : n ≤ i = ltb-false i n q in inl (omega arith)

-- records in the order of writing against the open waits
abbrev Found : List Logged → List Key → Type 0
Found l ks = (i : ℕ) → i < length l → (record_at l i).entry.outcome ≡ 1 → Open l i → Member (key_of (record_at l i)) ks

abbrev FoundBehind : List Logged → List Key → Type 0
FoundBehind l ks =
    (i k : ℕ) → i < k → k < length l → (record_at l i).entry.outcome ≡ 1 → (record_at l k).entry.outcome ≡ 1 → Open l i → Open l k
    → Behind (key_of (record_at l i)) (key_of (record_at l k)) ks

module _ (l : List Logged) (r : Logged) (rs : List Logged) where
  abbrev rest : List Key
  rest = without r.entry.transaction (opens rs)

  opens-new : r.entry.outcome ≡ 1 → opens (r ∷ rs) ≡ key_of r ∷ rest
  unfolding opens
  opens-new o = ap (λ (b : Bool). cond b (key_of r ∷ rest) rest) (eq-eqb _ 1 o)

  -- what holds of the waits open before, and with a new one before them
  opens-more : (P : List Key → Type 0) → P (key_of r ∷ rest) → P rest → P (opens (r ∷ rs))
  unfolding opens
  opens-more P p q = cond_cases P (eqb r.entry.outcome 1) (key_of r ∷ rest) rest (λ e. p) (λ e. q)

  outcome-at : (i : ℕ) → i < length l → (record_at (more l r) i).entry.outcome ≡ 1 → (record_at l i).entry.outcome ≡ 1
  outcome-at i d o = rw (at_more l r i) at o

  outcome-last : (i : ℕ) → i ≡ length l → (record_at (more l r) i).entry.outcome ≡ 1 → r.entry.outcome ≡ 1
  outcome-last i d o = rw (at_last l r i d) at o

  module _ (f : Found l (opens rs)) where
    stays : (i : ℕ) → i < length l → (record_at (more l r) i).entry.outcome ≡ 1 → Open (more l r) i → Member (key_of (record_at l i)) rest
    stays i d o e =
        let w = was_open l r i d e in
        member-those _ _ (opens rs) (ap not w.1) (f i d (outcome-at i d o) w.0)

    found-more : Found (more l r) (opens (r ∷ rs))
    found-more i h o e = go (last-or-before i (length l) (omega (arith, length-append l (r ∷ []))))
      where
        go : (i ≡ length l) ⊎ (i < length l) → Member (key_of (record_at (more l r) i)) (opens (r ∷ rs))
        go (inl d) = rw (opens-new (outcome-last i d o)) (inl (ap key_of (at_last l r i d)))
        go (inr d) =
            let k = stays i d o e in
            rw (at_more l r i) (opens-more (Member (key_of (record_at l i))) (inr k) k)

    behind_more : FoundBehind l (opens rs) → FoundBehind (more l r) (opens (r ∷ rs))
    behind_more g i k ik h o p e q = go (last-or-before k (length l) (omega (arith, length-append l (r ∷ []))))
      where
        go : (k ≡ length l) ⊎ (k < length l) → Behind (key_of (record_at (more l r) i)) (key_of (record_at (more l r) k)) (opens (r ∷ rs))
        go (inl d) =
            let c : i < length l = omega arith in
            rw (opens-new (outcome-last k d p), at_more l r i) (inl (ap key_of (at_last l r k d), stays i c o e))
        go (inr d) =
            let c : i < length l = omega arith in
            let v = was_open l r i c e in
            let w = was_open l r k d q in
            let b : Behind (key_of (record_at l i)) (key_of (record_at l k)) rest =
            behind-those _ _ _ (opens rs) (ap not v.1) (ap not w.1)
            (g i k ik d (outcome-at i c o) (outcome-at k d p) v.0 w.0) in
            rw (at_more l r i, at_more l r k) (opens-more (Behind (key_of (record_at l i)) (key_of (record_at l k))) (inr b) b)

found : (rs : List Logged) → Found (reverse rs) (opens rs)
found [] i h o e = absurd (omega arith)
found (r ∷ rs) i h o e =
    subst (λ (l : List Logged). Found l (opens (r ∷ rs))) (sym (reverse-cons r rs)) (found-more (reverse rs) r rs (found rs)) i h o e

found-behind : (rs : List Logged) → FoundBehind (reverse rs) (opens rs)
found-behind [] i k ik h o p e q = absurd (omega arith)
found-behind (r ∷ rs) i k ik h o p e q =
    subst (λ (l : List Logged). FoundBehind l (opens (r ∷ rs))) (sym (reverse-cons r rs))
    (behind_more (reverse rs) r rs (found rs) (found-behind rs))
    i k ik h o p e q

-- ---- The order of waits with one record more

all_six : (a b c d e f : Bool) → T (a && b && c && d && e && f) → T a × T b × T c × T d × T e × T f
all_six true true true true true f h = (tt, tt, tt, tt, tt, h)
all_six true true true true false f h = absurd h
all_six true true true false e f h = absurd h
all_six true true false d e f h = absurd h
all_six true false c d e f h = absurd h
all_six false b c d e f h = absurd h

module _ (m : BlockModel) (tape : List (List ℕ)) where
  -- two open waits for one server at equal priority and equal units
  pub record Rivals (a b : Key) : Type 0 where
    -- two waits are rivals: for the same server, that no PREEMPT names, and for as many units
    pub server : (facts (block_at m a.block)).server ≡ (facts (block_at m b.block)).server
    pub some-server : (facts (block_at m a.block)).server ≡ 0 → ⊥
    pub unnamed : preempt_names m tape (facts (block_at m a.block)).server ≡ false
    pub units : (facts (block_at m a.block)).units ≡ (facts (block_at m b.block)).units
    pub priority : a.priority ≡ b.priority

  -- no wait of a number's own has an open rival that began before it
  abbrev pub EndsInOrder : ℕ → List Key → Type 0
  EndsInOrder n ks = (older k : Key) → Behind older k ks → k.number ≡ n → Rivals older k → ⊥

  rivals :
      (a b : Logged) → T (equal_waits m tape a b) → preempt_names m tape (facts_at m tape a).server ≡ false
      → (a.entry.outcome ≡ 1) × (b.entry.outcome ≡ 1) × Rivals (key_of a) (key_of b)
  unfolding equal_waits
  rivals a b h free =
      let e = all_six (eqb a.entry.outcome 1) (eqb b.entry.outcome 1) (not (eqb (server a) 0))
      (eqb (server a) (server b)) (eqb a.priority b.priority) (eqb (units a) (units b)) h in (
        eqb→eq _ _ e.0,
        eqb→eq _ _ e.1,
        record {
          server = eqb→eq _ _ e.3;
          some-server = λ z. T_not (eqb (server a) 0) e.2 (rw z tt);
          unnamed = free;
          units = eqb→eq _ _ e.5;
          priority = eqb→eq _ _ e.4;
        },
      )
    where
      server : Logged → ℕ
      server r = (facts (block_at m r.entry.block)).server

      units : Logged → ℕ
      units r = (facts (block_at m r.entry.block)).units

  order-step :
      (l : List Logged) (r : Logged) → InOrder m tape l
      → ((i k : ℕ) → i < k → k < length l → T (equal_waits m tape (record_at l i) (record_at l k)) → preempt_names m tape
      (facts_at m tape (record_at l i)).server ≡ false → Open l i → Open l k
      → r.entry.transaction ≡ number_at l k → ⊥)
      → InOrder m tape (more l r)
  order-step l r before alone i k ik h w u e = go (last-or-before k (length l) (omega (arith, length-append l (r ∷ []))))
    where
      go : (k ≡ length l) ⊎ (k < length l) → wait_end (more l r) i < wait_end (more l r) k
      go (inl d) = absurd (omega (arith, later (more l r) k, length-append l (r ∷ [])))
      go (inr d) = ended (ltb (wait_end l k) (length l)) refl
        where
          c : i < length l
          c = omega arith

          w' : T (equal_waits m tape (record_at l i) (record_at l k))
          w' = rw (at_more l r i c, at_more l r k d) at w

          u' : preempt_names m tape (facts_at m tape (record_at l i)).server ≡ false
          u' = rw (at_more l r i c) at u

          -- the new record ends the wait of k
          closes :
              Open l k → (b : Bool) → eqb r.entry.transaction (number_at l k) ≡ b → wait_end (more l r) k ≡ length l + cond b 0 1
              → (x : Bool) → ltb (wait_end l i) (length l) ≡ x → wait_end (more l r) i < wait_end (more l r) k
          closes o true q n true p =
              let f : wait_end l i < length l = ltb-true _ _ p in
              omega (arith, end_kept l r i c f)
          closes o true q n false p = absurd (alone i k ik d w' u' (ltb-false _ _ p) o (eqb-true _ _ q))
          closes o false q n x p = absurd (omega (arith, length-append l (r ∷ [])))

          ended : (b : Bool) → ltb (wait_end l k) (length l) ≡ b → wait_end (more l r) i < wait_end (more l r) k
          ended true q =
              let f : wait_end l k < length l = ltb-true _ _ q in
              let g = before i k ik d w' u' f in
              omega (arith, end_kept l r i c (omega arith), end_kept l r k d f)
          ended false q =
              let o : Open l k = ltb-false _ _ q in
              closes o _ refl (end_open l r k d o) _ refl

  module _ (r : Logged) (rs : List Logged) (ends : EndsInOrder r.entry.transaction (opens rs)) where
    -- what keeps the claim as the records grow
    pub order-more : InOrder m tape (reverse rs) → InOrder m tape (reverse (r ∷ rs))
    order-more before =
        rw reverse-cons
        (order-step (reverse rs) r before
        (λ i k ik h w u e q n.
        let v = rivals _ _ w u in ends _ _ (found-behind rs i k ik h v.0 v.1 e q) (sym n) v.2))
