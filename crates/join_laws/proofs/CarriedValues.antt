-- Values, carried from a part's bytes to the joined model's. A block named in a value is known to exist only once the whole model was
-- read, so
-- what is carried is what names no block past the part's last.
use Rattle.machine.specs.All.{ℕ, zero, suc, ◌+◌, ◌≤◌, arith, ◌≡◌, refl, ap, Bool, true, false, cond, ◌&&◌, List, [], ◌∷◌, ◌++◌, map, append-nil, eqb-true, eqb-false, leb-true, T, leb, eqb, length, flat, Cursor, parsed, refused, Parsed, Parser, refuse, Term, entries_of, Sum, nothing, plus, minus, Counts, sum_terms, sum_field, bracket_field, comparison_field, mention_field, tagged_term, value_term, value_field, in_value, value_fields, Each, all_of, term_names, sum_names, sym, ap₂, ◌∙◌, value, comparison, bracket, relation_of}
use Rattle.machine.specs.Limits as Limits
use Rattle.layout.specs.All.{terms}
use Rattle.parse_values.proofs.Tags.{relation-number}
use Rattle.joined.specs.Join.{Part, term_in, sum_in}
use Rattle.join_laws.specs.{stored_term, stored_terms, stored_sum}
use Rattle.join_laws.proofs as our
use our.Carrying.{Reads, Mapped, Maps, Carries, Becomes, then, and, gives, choice, maps, walked, and_both}
use our.{Placing.Placing, Carrying.refuses}
use our.Numbered.{Numbered, NumberedSum}
use our.CarriedTerms.{stays, goes, simple-term, mentioned_carries, moving-value}

-- ---- Counts of terms

pub terms_in : (p : Part) (e : Sum) → terms (sum_in p e) ≡ terms e
unfolding terms sum_in
terms_in p nothing = refl
terms_in p (plus t e) = ap suc (terms_in p e)
terms_in p (minus t e) = ap suc (terms_in p e)

module _ (s : List ℕ) (p : Part) (n joint : Counts) (at : Placing p n joint) (size : ℕ) (room : size + p.to_block ≤ joint.blocks) where
  abbrev TermsBecome : Term → Term → List ℕ → Bool → Type 0
  TermsBecome = Becomes (Numbered n.facilities) (term_in p) (λ a. stored_term joint.facilities (term_in p a)) (term_names size)

  -- a parser of terms and the one that reads their images
  abbrev TermMaps : Parser Term → (List ℕ → Parser Term) → Type 0
  TermMaps inner inner' =
      Maps true (Numbered n.facilities) (term_in p) (λ a. stored_term joint.facilities (term_in p a)) (term_names size) inner inner'

  mention-field : Carries true (λ r r' l x. TermsBecome r r' (9 ∷ l) x) (mention_field s n) (λ s'. mention_field s' joint)
  unfolding mention_field term_in stored_term term_names
  mention-field =
      then (goes moving-value s p.to_value n.values joint.values at.values (omega (arith, at.most_values)))
      (λ k k' h f.
      then {F = λ m. m ≡ k} {f = λ m. k'} {w = λ m. []} {C = λ m. true}
      (maps (mentioned_carries s k k' (record { fact = refl; image = refl; numbers = refl; holds = λ x. tt })))
      (λ m m' e g.
      gives
      (record {
        fact = omega (arith, h.0, e);
        image = ap value (g ∙ f ∙ ap (λ i. i + p.to_value) (sym e));
        numbers = ap (λ i. 9 ∷ (i + p.to_value) ∷ []) (sym e);
        holds = λ x. tt;
      })))

  module _ (inner : Parser Term) (inner' : List ℕ → Parser Term) (carried : TermMaps inner inner') where
    sum-terms : (count : ℕ)
        → Maps true (λ e. (terms e ≡ count) × NumberedSum n.facilities e) (sum_in p) (λ e. stored_terms joint.facilities (sum_in p e))
        (sum_names size) (sum_terms s count inner)
        (λ s'. sum_terms s' count (inner' s'))
    unfolding sum_terms sum_in stored_terms terms sum_names
    sum-terms zero = maps (gives (record { fact = (refl, tt); image = refl; numbers = refl; holds = λ x. tt }))
    sum-terms (suc count) =
        maps
        (and (stays moving-value s 0 1 (omega arith))
        (λ sign h. then carried
        (λ a a' z f. then (sum-terms count) (λ e e' g f'. gives (signed sign h.1 a a' f z e e' f' g (eqb sign 0) refl)))))
      where
        signed : (sign : ℕ) → sign ≤ 1 → (a a' : Term) → a' ≡ term_in p a → Numbered n.facilities a → (e e' : Sum) → e' ≡ sum_in p e
            → (terms e ≡ count) × NumberedSum n.facilities e → (b : Bool) → eqb sign 0 ≡ b
            → Becomes (λ e. (terms e ≡ suc count) × NumberedSum n.facilities e) (sum_in p)
            (λ e. stored_terms joint.facilities (sum_in p e)) (sum_names size) (cond b (plus a e) (minus a e))
            (cond b (plus a' e') (minus a' e'))
            (sign ∷ (stored_term joint.facilities (term_in p a) ++ (stored_terms joint.facilities (sum_in p e) ++ [])))
            (term_names size a && (sum_names size e && true))
        signed sign most a a' f z e e' g c true t =
            record {
              fact = (ap suc c.0, (z, c.1));
              image = ap₂ plus f g;
              numbers = rw (eqb-true sign 0 t, append-nil (stored_terms joint.facilities (sum_in p e)));
              holds = and_both (term_names size a) (sum_names size e);
            }
        signed sign most a a' f z e e' g c false t =
            let one : sign ≡ 1 = omega (arith, eqb-false sign 0 t) in
            record {
              fact = (ap suc c.0, (z, c.1));
              image = ap₂ minus f g;
              numbers = rw (one, append-nil (stored_terms joint.facilities (sum_in p e)));
              holds = and_both (term_names size a) (sum_names size e);
            }

    sum-field : Maps true (NumberedSum n.facilities) (sum_in p) (λ e. stored_sum joint.facilities (sum_in p e)) (sum_names size)
        (sum_field s inner) (λ s'. sum_field s' (inner' s'))
    unfolding sum_field stored_sum
    sum-field =
        maps
        (and (stays moving-value s 1 Limits.max_terms (omega arith))
        (λ count h.
        walked (sum-terms count)
        (λ e c.
        record {
          fact = c.1;
          image = refl;
          numbers = ap (λ i. i ∷ stored_terms joint.facilities (sum_in p e)) (sym (terms_in p e ∙ c.0));
          holds = λ x. x;
        })))

    bracket-field : Carries true (λ r r' l x. TermsBecome r r' (11 ∷ l) x) (bracket_field s inner) (λ s'. bracket_field s' (inner' s'))
    unfolding bracket_field term_in stored_term stored_sum term_names
    bracket-field =
        then sum-field
        (λ e e' h f.
        gives
        (record {
          fact = h;
          image = ap bracket f;
          numbers = ap (λ l. 11 ∷ terms (sum_in p e) ∷ l) (append-nil (stored_terms joint.facilities (sum_in p e)));
          holds = and_yes (sum_names size e);
        }))
      where
        and_yes : (b : Bool) → T b → T (b && true)
        and_yes true h = tt
        and_yes false h = h

    comparison-field : Carries true (λ r r' l x. TermsBecome r r' (10 ∷ l) x) (comparison_field s inner)
        (λ s'. comparison_field s' (inner' s'))
    unfolding comparison_field term_in stored_term term_names
    comparison-field =
        and (stays moving-value s 1 6 (omega arith))
        (λ r h.
        then carried
        (λ a a' z f.
        then carried
        (λ b b' y g.
        gives
        (record {
          fact = (z, y);
          image = ap₂ (λ x y. comparison (relation_of r) x y) f g;
          numbers = rw (relation-number r h.0 h.1, append-nil (stored_term joint.facilities (term_in p b)));
          holds = and_both (term_names size a) (term_names size b);
        }))))

  module _ (compared bracketed : Parser Term) (compared' bracketed' : List ℕ → Parser Term)
      (ten : Carries true (λ r r' l x. TermsBecome r r' (10 ∷ l) x) compared compared')
      (eleven : Carries true (λ r r' l x. TermsBecome r r' (11 ∷ l) x) bracketed bracketed') where
    tagged-term : TermMaps (tagged_term s n compared bracketed) (λ s'. tagged_term s' joint (compared' s') (bracketed' s'))
    unfolding tagged_term
    tagged-term =
        maps
        (and (stays moving-value s 0 11 (omega arith))
        (λ tag h.
        choice (eqb tag 9) (λ e. rw (eqb-true tag 9 e) mention-field)
        (λ e₉.
        choice (eqb tag 10) (λ e. rw (eqb-true tag 10 e) ten)
        (λ e₁₀.
        choice (eqb tag 11) (λ e. rw (eqb-true tag 11 e) eleven)
        (λ e₁₁.
        simple-term moving-value s p n joint at (term_names size)
        (λ b high c. omega (arith, leb-true b size (known b c))) tag
        (omega (arith, h.1, eqb-false tag 9 e₉, eqb-false tag 10 e₁₀, eqb-false tag 11 e₁₁)))))))
      where
        is_true : (b : Bool) → T b → b ≡ true
        is_true true h = refl
        is_true false h = absurd h

        known : (b : ℕ) → T (term_names size (entries_of b)) → leb b size ≡ true
        known b h = is_true (leb b size) (unfold term_names in h)

  pub value-term : (depth : ℕ) → TermMaps (value_term s n depth) (λ s'. value_term s' joint depth)
  unfolding value_term
  value-term zero = tagged-term (refuse 5) (refuse 5) (λ s'. refuse 5) (λ s'. refuse 5) (refuses 5 5) (refuses 5 5)
  value-term (suc depth) = tagged-term _ _ _ _ (comparison-field _ _ (value-term depth)) (bracket-field _ _ (value-term depth))

  -- and so for a value, where it names no block past the part's last
  pub value-field : Maps false (NumberedSum n.facilities) (sum_in p) (λ e. stored_sum joint.facilities (sum_in p e)) (sum_names size)
      (value_field s n) (λ s'. value_field s' joint)
  unfolding value_field
  value-field = record { from = λ c. go c (sum_field s (value_term s n Limits.max_brackets) (anew c)) (whole.from (anew c)) }
    where
      anew : Cursor → Cursor
      anew c = record { position = c.position; numbers = 0; mentions = 0 }

      whole : Maps true (NumberedSum n.facilities) (sum_in p) (λ e. stored_sum joint.facilities (sum_in p e)) (sum_names size)
          (sum_field s (value_term s n Limits.max_brackets))
          (λ s'. sum_field s' (value_term s' joint Limits.max_brackets))
      whole = sum-field _ _ (value-term Limits.max_brackets)

      loose : (c c' : Cursor) (l : List ℕ) (e : Sum)
          → Reads true (λ s'. sum_field s' (value_term s' joint Limits.max_brackets)) (anew c) c' l e
          → Reads false (λ s'. value_field s' joint) c c' l e
      loose c c' l e h =
          record {
            from = λ s' rest d f m.
                let r = h.from s' rest (anew d) f (refl, refl) in
                record { after = r.after; reads = r.reads; position = r.position; tied = tt };
          }

      go : (c : Cursor) (r : Parsed Sum)
          → Mapped true (NumberedSum n.facilities) (sum_in p) (λ e. stored_sum joint.facilities (sum_in p e)) (sum_names size)
          (λ s'. sum_field s' (value_term s' joint Limits.max_brackets)) (anew c) r
          → Mapped false (NumberedSum n.facilities) (sum_in p) (λ e. stored_sum joint.facilities (sum_in p e)) (sum_names size)
          (λ s'. value_field s' joint) c r
      go c (parsed e c') m = (m.0, λ x. loose c c' (stored_sum joint.facilities (sum_in p e)) (sum_in p e) (m.1 x))
      go c (refused i) m = tt

-- ---- All values

module _ (s : List ℕ) (p : Part) (n joint : Counts) (size : ℕ) (room : size + p.to_block ≤ Limits.max_blocks)
    (inside : (lower lower' : ℕ) → lower' ≡ lower + p.to_value → lower' ≤ Limits.max_values → Placing p (in_value s n lower)
    (in_value s joint lower')) where
  -- a value may name the values before it: both counts grow together
  pub value-fields : (left lower lower' : ℕ) → lower' ≡ lower + p.to_value → left + lower' ≤ Limits.max_values
      → Maps false (λ l. (length l ≡ left) × Each (NumberedSum n.facilities) l) (map (sum_in p))
      (λ l. flat (map (λ e. stored_sum joint.facilities (sum_in p e)) l)) (all_of (sum_names size))
      (value_fields s n left lower) (λ s'. value_fields s' joint left lower')
  unfolding value_fields flat all_of
  value-fields zero lower lower' e most = maps (gives (record { fact = (refl, tt); image = refl; numbers = refl; holds = λ x. tt }))
  value-fields (suc left) lower lower' e most =
      maps
      (then (value-field s p (in_value s n lower) (in_value s joint lower') (inside lower lower' e (omega arith)) size room)
      (λ a a' h f.
      then (value-fields left (suc lower) (suc lower') (omega arith) (omega arith))
      (λ l l' g f'.
      gives
      (record {
        fact = (ap suc g.0, (h, g.1));
        image = ap₂ (λ x y. x ∷ y) f f';
        numbers = ap (λ u. stored_sum joint.facilities (sum_in p a) ++ u) (append-nil _);
        holds = and_both (sum_names size a) (all_of (sum_names size) l);
      }))))
