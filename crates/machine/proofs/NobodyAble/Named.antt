-- What a comparison reads: the things that its terms name, through values. Over two views that agree on a set of things, and with the same
-- parameters where the set has them, a comparison whose terms name only things of the set gives the same.
use Rattle.machine.specs.All.{ℕ, zero, suc, ◌+◌, ◌-◌, ◌<◌, ◌≡◌, refl, sym, ap, ap₂, subst, ◌∙◌, Bool, true, false, List, [], ◌∷◌, ◌++◌, Option, none, some, arith, ltb, length, get_or, length-append, get_or-eq_default, ltb-true, ltb-false, Transaction, idle_server, empty_queue, View, server_at, queue_at, wrap, related, Relation, Term, constant, minus_constant, parameter, clock_term, entries_of, content_of, units_in_use, units_free, facility_in_use, value, comparison, bracket, Sum, nothing, plus, minus, one_if, term, sum, worths, evaluate, compare, Condition, always, when_true, truth, facts, BlockModel, holds, waits_on, Thing, own, the_clock, entry, queue, server, worth, Within, SumWithin, WaitWithin, Through, Watches, block_at}
use lib.IntN.{ℤ, pos, ◌+ℤ◌, ◌-ℤ◌}

-- one more worth behind others
behind : (P : ℕ → Type 0) (l l' : List ℤ) (x x' : ℤ) → length l ≡ length l' → ((k : ℕ) → P k → get_or l k (pos 0) ≡ get_or l' k (pos 0))
    → (P (length l) → x ≡ x') → (k : ℕ) → P k → get_or (l ++ (x ∷ [])) k (pos 0) ≡ get_or (l' ++ (x' ∷ [])) k (pos 0)
behind P [] [] x x' e h last zero q = last q
behind P [] [] x x' e h last (suc k) q = refl
behind P [] (b ∷ l') x x' e h last k q = absurd (omega arith)
behind P (a ∷ l) [] x x' e h last k q = absurd (omega arith)
behind P (a ∷ l) (b ∷ l') x x' e h last zero q = h zero q
behind P (a ∷ l) (b ∷ l') x x' e h last (suc k) q =
    behind (λ k. P (suc k)) l l' x x' (omega arith) (λ k. h (suc k)) last k q

module _ (S : Thing → Type 0) where
  -- ---- Views that agree on a set

  pub record Agrees (w w' : View) : Type 0 where
    pub clock : S the_clock → w.clock ≡ w'.clock
    pub entries : (i : ℕ) → S (entry i) → get_or w.entries i 0 ≡ get_or w'.entries i 0
    pub contents : (i : ℕ) → S (queue i) → (get_or w.queues i empty_queue).content ≡ (get_or w'.queues i empty_queue).content
    -- of the servers in S both numbers that a term can read
    pub capacities : (i : ℕ) → S (server i) → (get_or w.servers i (idle_server 0)).capacity ≡ (get_or w'.servers i (idle_server 0)).capacity
    pub in_use : (i : ℕ) → S (server i) → (get_or w.servers i (idle_server 0)).in_use ≡ (get_or w'.servers i (idle_server 0)).in_use

  pub agrees-same : (w : View) → Agrees w w
  agrees-same w =
      record { clock = λ h. refl; entries = λ i h. refl; contents = λ i h. refl; capacities = λ i h. refl; in_use = λ i h. refl }

  pub agrees-then : {w w' w'' : View} → Agrees w w' → Agrees w' w'' → Agrees w w''
  agrees-then a b =
      record {
        clock = λ h. a.clock h ∙ b.clock h;
        entries = λ i h. a.entries i h ∙ b.entries i h;
        contents = λ i h. a.contents i h ∙ b.contents i h;
        capacities = λ i h. a.capacities i h ∙ b.capacities i h;
        in_use = λ i h. a.in_use i h ∙ b.in_use i h;
      }

  -- worths of values that agree on the set
  abbrev Worths : List ℤ → List ℤ → Type 0
  Worths l l' = (k : ℕ) → S (worth k) → get_or l k (pos 0) ≡ get_or l' k (pos 0)

  module _ (w w' : View) (agrees : Agrees w w') (p p' : List ℤ) (same : S own → p ≡ p') where
    module _ (l l' : List ℤ) (size : length l ≡ length l') (lower : Worths l l') where
      mentioned : (k : ℕ) → (k < length l → S (worth k)) → (b : Bool) → ltb k (length l) ≡ b → get_or l k (pos 0) ≡ get_or l' k (pos 0)
      mentioned k h true e = lower k (h (ltb-true k (length l) e))
      mentioned k h false e =
          get_or-eq_default l (pos 0) (ltb-false k (length l) e)
          ∙ sym (get_or-eq_default l' (pos 0) (omega (arith, size, ltb-false k (length l) e)))

      mutual
        unfolding term sum server_at queue_at

        term-same : (t : Term) → Within S (length l) t → term w p l t ≡ term w' p' l' t
        term-same (constant n) h = refl
        term-same (minus_constant n) h = refl
        term-same (parameter k) h = ap (λ (q : List ℤ). get_or q (k - 1) (pos 0)) (same h)
        term-same clock_term h = ap (λ (n : ℕ). wrap (pos n)) (agrees.clock h)
        term-same (entries_of b) h = ap pos (agrees.entries (b - 1) h)
        term-same (content_of q) h = ap pos (agrees.contents (q - 1) h)
        term-same (units_in_use v) h = ap pos (agrees.in_use (v - 1) h)
        term-same (units_free v) h = ap₂ (λ (c u : ℕ). pos (c - u)) (agrees.capacities (v - 1) h) (agrees.in_use (v - 1) h)
        term-same (facility_in_use v) h = ap (λ (n : ℕ). one_if (ltb 0 n)) (agrees.in_use (v - 1) h)
        term-same (value k) h = mentioned (k - 1) h (ltb (k - 1) (length l)) refl
        term-same (comparison r a b) h = ap₂ (λ (x y : ℤ). one_if (related r x y)) (term-same a h.0) (term-same b h.1)
        term-same (bracket e) h = sum_same e (pos 0) h

        sum_same : (e : Sum) (so_far : ℤ) → SumWithin S (length l) e → sum w p l e so_far ≡ sum w' p' l' e so_far
        sum_same nothing so_far h = refl
        sum_same (plus t e) so_far h = sum_same e _ h.1 ∙ ap (λ (x : ℤ). sum w' p' l' e (wrap (so_far +ℤ x))) (term-same t h.0)
        sum_same (minus t e) so_far h = sum_same e _ h.1 ∙ ap (λ (x : ℤ). sum w' p' l' e (wrap (so_far -ℤ x))) (term-same t h.0)

    -- of all values, behind those in `l` and `l'`
    worths-same : (values : List Sum) (l l' : List ℤ) → length l ≡ length l' → Worths l l'
        → ((k : ℕ) → k < length values → S (worth (length l + k)) → SumWithin S (length l + k) (get_or values k nothing))
        → Worths (worths w p values l) (worths w' p' values l')
    unfolding worths
    worths-same [] l l' e lower within = lower
    worths-same (v ∷ values) l l' e lower within =
        worths-same values (l ++ (sum w p l v (pos 0) ∷ [])) (l' ++ (sum w' p' l' v (pos 0) ∷ []))
        (length-append l (sum w p l v (pos 0) ∷ []) ∙ ap (λ (n : ℕ). n + 1) e ∙ sym (length-append l' (sum w' p' l' v (pos 0) ∷ [])))
        (behind (λ k. S (worth k)) l l' (sum w p l v (pos 0)) (sum w' p' l' v (pos 0)) e lower
        (λ h.
        sum_same l l' e lower v (pos 0)
        (rw (add-zero (length l)) (within 0 (omega arith) (subst (λ (n : ℕ). S (worth n)) (add-zero (length l)) h)))))
        (λ k lt h. rw (next k) (within (suc k) (omega arith) (subst (λ (n : ℕ). S (worth n)) (next k) h)))
      where
        add-zero : (n : ℕ) → n ≡ n + 0
        add-zero n = omega arith

        next : (k : ℕ) → length (l ++ (sum w p l v (pos 0) ∷ [])) + k ≡ length l + suc k
        next k = omega (arith, length-append l (sum w p l v (pos 0) ∷ []))

    worths-length : (w : View) (p : List ℤ) (values : List Sum) (l : List ℤ) → length (worths w p values l) ≡ length l + length values
    unfolding worths
    worths-length w p [] l = omega arith
    worths-length w p (v ∷ values) l = worths-length w p values _ ∙ omega (arith, length-append l (sum w p l v (pos 0) ∷ []))

    module _ (values : List Sum) (through : Through S values) where
      all-lengths : (w : View) (p : List ℤ) → length (worths w p values []) ≡ length values
      all-lengths w p = worths-length w p values [] ∙ omega arith

      -- by recursion on how many values a term may still go through
      pub evaluate-same : (t : Term) → Within S (length values) t → evaluate values w p t ≡ evaluate values w' p' t
      unfolding evaluate
      evaluate-same t h =
          term-same (worths w p values []) (worths w' p' values []) (all-lengths w p ∙ sym (all-lengths w' p'))
          (worths-same values [] [] refl (λ k h. refl)
          (λ k lt h. rw (zero-add k) (through k lt (subst (λ (n : ℕ). S (worth n)) (zero-add k) h))))
          t (rw (all-lengths w p) h)
        where
          zero-add : (k : ℕ) → 0 + k ≡ k
          zero-add k = omega arith

      pub compare_same : (a : Term) (r : Relation) (b : Term) → Within S (length values) a → Within S (length values) b
          → compare values w p a r b ≡ compare values w' p' a r b
      unfolding compare
      compare_same a r b h k = ap₂ (related r) (evaluate-same a h) (evaluate-same b k)

  -- ---- Who waits at a WAITIF of the model

  -- the WS scheme asks the same of two views that agree on what the WAITIFs read
  pub waits-same : (m : BlockModel) → Watches S m → (w w' : View) → Agrees w w' → (t : Transaction) → waits_on m w t ≡ waits_on m w' t
  unfolding waits_on holds truth
  waits-same m watches w w' agrees t = go (facts (block_at m t.next)).waits_while (watches.waits t.next)
    where
      go : (c : Option Condition) → WaitWithin S (length m.values) c
          → holds m.values w t.parameters c ≡ holds m.values w' t.parameters c
      go none h = refl
      go (some always) h = refl
      go (some (when_true a r b)) h =
          compare_same w w' agrees t.parameters t.parameters (λ k. refl) m.values watches.through a r b h.0 h.1
