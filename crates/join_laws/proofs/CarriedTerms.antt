-- Terms and values, carried from a part's bytes to the joined model's.
use Rattle.machine.specs.All.{ℕ, suc, ◌+◌, ◌≤◌, add-zero, arith, ◌≡◌, refl, sym, ap, ◌∙◌, Bool, true, false, cond, ◌&&◌, List, [], ◌∷◌, eqb-true, eqb-false, T, ltb, eqb, flat, Cursor, parsed, refused, Parser, Term, entries_of, content_of, units_free, facility_in_use, Counts, simple_term, number, block_term, counted, mentioned, value_number, units_in_use, value}
use Rattle.machine.specs.Limits as Limits
use Rattle.joined.specs.Join.{Part, server_in, term_in}
use Rattle.join_laws.specs.{own_number, stored_term, numbers_bytes}
use Rattle.join_laws.proofs as our
use our.Carrying.{Maps, Carried, Carries, Becomes, then, and, gives, choice, maps, field-maps}
use our.Numbered.{Numbered}
use our.Placing.{Placing, facility_in, storage_in, own-storage}

-- ---- A number, by the parser that reads it

-- how a parser of numbers carries them
abbrev pub Moving : Bool → (List ℕ → ℕ → ℕ → Parser ℕ) → Type 0
Moving t read =
    (s : List ℕ) (lo hi lo' hi' : ℕ) (f : ℕ → ℕ)
    (C : ℕ → Bool) → ((v : ℕ) → lo ≤ v → v ≤ hi → T (C v) → (lo' ≤ f v) × (f v ≤ hi')) → hi' ≤ Limits.max_number
    → Maps t (λ v. (lo ≤ v) × (v ≤ hi)) f (λ v. f v ∷ []) C (read s lo hi) (λ s'. read s' lo' hi')

-- a number from k on that is not k
pub next : {n : ℕ} (k : ℕ) → eqb n k ≡ false → k ≤ n → suc k ≤ n
next {n} k e h = omega (arith, eqb-false n k e)

and_yes : (b : Bool) → T b → T (b && true)
and_yes true h = tt
and_yes false h = h

module _ {t : Bool} {read : List ℕ → ℕ → ℕ → Parser ℕ} (moving : Moving t read) (s : List ℕ) where
  -- one that stays, and one moved on by so much
  pub stays : (lo hi : ℕ) → hi ≤ Limits.max_number
      → Maps t (λ v. (lo ≤ v) × (v ≤ hi)) (λ v. v) (λ v. v ∷ []) (λ v. true) (read s lo hi) (λ s'. read s' lo hi)
  stays lo hi small = moving s lo hi lo hi (λ v. v) (λ v. true) (λ v low high c. (low, high)) small

  pub goes : (by hi hi' : ℕ) → hi + by ≤ hi' → hi' ≤ Limits.max_number
      → Maps t (λ v. (1 ≤ v) × (v ≤ hi)) (λ v. v + by) (λ v. (v + by) ∷ []) (λ v. true) (read s 1 hi) (λ s'. read s' 1 hi')
  goes by hi hi' fits small = moving s 1 hi 1 hi' (λ v. v + by) (λ v. true) (λ v low high c. (omega arith, omega arith)) small

  module _ (p : Part) (n joint : Counts) (at : Placing p n joint) (C : Term → Bool)
      (known : (b : ℕ) → b ≤ n.blocks → T (C (entries_of b)) → b + p.to_block ≤ joint.blocks) where
    abbrev TermsBecome : Term → Term → List ℕ → Bool → Type 0
    TermsBecome = Becomes (Numbered n.facilities) (term_in p) (λ a. stored_term joint.facilities (term_in p a)) C

    pub simple-term : (tag : ℕ) → tag ≤ 8
        → Carries t (λ r r' l x. TermsBecome r r' (tag ∷ l) x) (simple_term (read s) n tag) (λ s'. simple_term (read s') joint tag)
    unfolding simple_term term_in stored_term
    simple-term tag high =
        choice (eqb tag 0)
        (λ e. and (stays 0 Limits.max_constant (omega arith))
        (λ k h. gives (record { fact = tt; image = refl; numbers = ap (λ i. i ∷ k ∷ []) (eqb-true tag 0 e); holds = λ x. tt })))
        (λ e₀.
        choice (eqb tag 1)
        (λ e. and (stays 0 Limits.max_constant (omega arith))
        (λ k h. gives (record { fact = tt; image = refl; numbers = ap (λ i. i ∷ k ∷ []) (eqb-true tag 1 e); holds = λ x. tt })))
        (λ e₁.
        choice (eqb tag 2)
        (λ e. and (stays 1 Limits.parameter_count (omega arith))
        (λ k h. gives (record { fact = h.0; image = refl; numbers = ap (λ i. i ∷ k ∷ []) (eqb-true tag 2 e); holds = λ x. tt })))
        (λ e₂.
        choice (eqb tag 3)
        (λ e. and (stays 0 0 (omega arith))
        (λ k h. gives
        (record { fact = tt; image = refl; numbers = let z : k ≡ 0 = omega arith in rw (z, eqb-true tag 3 e); holds = λ x. tt })))
        (λ e₃.
        choice (eqb tag 4)
        (λ e.
        then (moving s 1 n.blocks 1 joint.blocks (λ b. b + p.to_block) (λ b. C (entries_of b))
        (λ b low high c. (omega arith, known b high c)) (omega (arith, at.most-blocks)))
        (λ b b' h f. gives
        (record {
          fact = h.0;
          image = ap entries_of f;
          numbers = ap (λ i. i ∷ (b + p.to_block) ∷ []) (eqb-true tag 4 e);
          holds = and_yes (C (entries_of b));
        })))
        (λ e₄.
        choice (eqb tag 5)
        (λ e.
        then (goes p.to_queue n.queues joint.queues at.queues (omega (arith, at.most-queues)))
        (λ q q' h f. gives
        (record {
          fact = h.0;
          image = ap content_of f;
          numbers = ap (λ i. i ∷ (q + p.to_queue) ∷ []) (eqb-true tag 5 e);
          holds = λ x. tt;
        })))
        (λ e₅.
        choice (eqb tag 6)
        (λ e.
        then (goes at.among n.storages joint.storages at.storages (omega (arith, at.most-storages)))
        (λ k k' h f.
        gives
        (record {
          fact = omega (arith, h.0);
          image = ap (λ i. units_in_use (joint.facilities + i)) f ∙ ap units_in_use (sym (storage_in p n joint at k h.0));
          numbers = stored-storage k h.0 tag 6 (eqb-true tag 6 e);
          holds = λ x. tt;
        })))
        (λ e₆.
        choice (eqb tag 7)
        (λ e.
        then (goes at.among n.storages joint.storages at.storages (omega (arith, at.most-storages)))
        (λ k k' h f.
        gives
        (record {
          fact = omega (arith, h.0);
          image = ap (λ i. units_free (joint.facilities + i)) f ∙ ap units_free (sym (storage_in p n joint at k h.0));
          numbers = stored-storage k h.0 tag 7 (eqb-true tag 7 e);
          holds = λ x. tt;
        })))
        (λ e₇.
        then (goes p.to_facility n.facilities joint.facilities at.facilities (omega (arith, at.most-facilities)))
        (λ v v' h f.
        let past : 8 ≤ tag = next 7 e₇ (next 6 e₆ (next 5 e₅ (next 4 e₄ (next 3 e₃ (next 2 e₂ (next 1 e₁ (next 0 e₀ (omega arith)))))))) in
        let last : tag ≡ 8 = omega arith in
        gives
        (record {
          fact = h;
          image = ap facility_in_use (f ∙ sym (facility_in p n joint at v h.1));
          numbers = rw (last, facility_in p n joint at v h.1);
          holds = λ x. tt;
        }))))))))))
      where
        stored-storage : (k : ℕ) → 1 ≤ k → (tag own : ℕ) → tag ≡ own
            → tag ∷ (k + at.among) ∷ [] ≡ own ∷ own_number joint.facilities (server_in p (n.facilities + k)) ∷ []
        stored-storage k low tag own e =
            rw (e, storage_in p n joint at k low, own-storage p n joint at (k + at.among) (omega arith))

-- ---- Terms of blocks

pub moving-number : {t : Bool} → Moving t number
moving-number s lo hi lo' hi' f C h small = field-maps Limits.max_number 3 s lo hi lo' hi' f C h small (omega arith)

module _ (s : List ℕ) (p : Part) (n joint : Counts) (at : Placing p n joint) (blocks : n.blocks + p.to_block ≤ joint.blocks) where
  -- what is read of a part's term, written with its numbers moved on, is read as the moved term
  pub block-term : Maps false (Numbered n.facilities) (term_in p) (λ a. stored_term joint.facilities (term_in p a)) (λ a. true)
      (block_term s n) (λ s'. block_term s' joint)
  unfolding block_term term_in stored_term
  block-term =
      maps
      (and (stays moving-number s 0 9 (omega arith))
      (λ tag h.
      choice (eqb tag 9)
      (λ e.
      then (goes moving-number s p.to_value n.values joint.values at.values (omega (arith, at.most_values)))
      (λ k k' h f. gives
      (record { fact = h.0; image = ap value f; numbers = ap (λ i. i ∷ (k + p.to_value) ∷ []) (eqb-true tag 9 e); holds = λ x. tt })))
      (λ e. simple-term moving-number s p n joint at (λ a. true) (λ b low c. omega arith) tag (omega (arith, h.1, eqb-false tag 9 e)))))

-- ---- Numbers of values

module _ {Q : ℕ → ℕ → List ℕ → Bool → Type 0} (s : List ℕ) (v v' : ℕ) (claim : Q v v' [] true) where
  counted_carries : Carries true Q (counted s v) (λ s'. counted s' v')
  unfolding counted numbers_bytes flat
  counted_carries = record { from = λ c. go c (ltb c.numbers Limits.max_value_numbers) refl }
    where
      more : Cursor → Cursor
      more c = record { position = c.position; numbers = suc c.numbers; mentions = c.mentions }

      go : (c : Cursor) (b : Bool) → ltb c.numbers Limits.max_value_numbers ≡ b
          → Carried true Q (λ s'. counted s' v') c (cond b (parsed v (more c)) (refused 5))
      go c true e =
          record {
            image = v';
            numbers = [];
            holds = true;
            claim = claim;
            reads = λ x.
                record {
                  from = λ s' rest d f m.
                      record {
                        after = more d;
                        reads = rw (← m.0, e);
                        position = sym (add-zero d.position);
                        tied = (ap suc m.0, m.1);
                      };
                };
          }
      go c false e = tt

  pub mentioned_carries : Carries true Q (mentioned s v) (λ s'. mentioned s' v')
  unfolding mentioned numbers_bytes flat
  mentioned_carries = record { from = λ c. go c (ltb c.mentions Limits.max_mentions) refl }
    where
      more : Cursor → Cursor
      more c = record { position = c.position; numbers = c.numbers; mentions = suc c.mentions }

      go : (c : Cursor) (b : Bool) → ltb c.mentions Limits.max_mentions ≡ b
          → Carried true Q (λ s'. mentioned s' v') c (cond b (parsed v (more c)) (refused 5))
      go c true e =
          record {
            image = v';
            numbers = [];
            holds = true;
            claim = claim;
            reads = λ x.
                record {
                  from = λ s' rest d f m.
                      record {
                        after = more d;
                        reads = rw (← m.1, e);
                        position = sym (add-zero d.position);
                        tied = (m.0, ap suc m.1);
                      };
                };
          }
      go c false e = tt

pub moving-value : Moving true value_number
unfolding value_number
moving-value s lo hi lo' hi' f C h small =
    maps
    (then (moving-number s lo hi lo' hi' f C h small)
    (λ v v' r e. counted_carries s v v' (record { fact = r; image = e; numbers = refl; holds = and_yes (C v) })))
