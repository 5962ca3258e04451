-- The sample lists of a tape, pure: time by time, list by list, and what their cells then hold.
use Rattle.machine.specs.All.{clash, ℕ, zero, suc, ◌+◌, ◌-◌, ◌≤◌, ◌<◌, add-one, arith, ◌≡◌, refl, sym, ap, ◌∙◌, Bool, true, false, cond, ◌&&◌, Option, none, some, List, [], ◌∷◌, length, get_or, set, length-set, length-replicate, get_or-eq_default, get_or-set_same, get_or-set_other, ltb, leb, eqb, ltb-true, ltb-false, eq-eqb, ne_eqb, in_force, max_time, max_samples, Number, Cursor, Parsed, parsed, refused, Parser, continue, field_of, times, ask, field_up_to, list_field, at_end, tape_of, beginning}
use Rattle.std.specs.Prelude.{Result, Ok, Err, IsErrAnd}
use Rattle.std.proofs.lemmas.Result.{err_from_is_err_and}
use Rattle.constants.specs.{declared.refusals.Refusal.Refusal}
use Rattle.constants.specs.declared.refusals.Refusal.TheVariants.{TapeGoesOn}
use Rattle.codec.specs.Answers.{parsed_of}
use Rattle.layout.specs.All.{TimesAt}
use Rattle.decode.specs.Lists.{Tape, Lists}
use Rattle.parse_values.proofs.Filled.{rows-length, times-rows}
use Rattle.decode.proofs.Represented.{zeros}
use Rattle.decode.specs.{cursor_at, tape_field, empty_lists, Skips, OneList, Listed, Filled}

-- ---- Reading does not depend on what was counted in a value

-- the same answer with other counts
abbrev shift : {A : Type 0} → ℕ → ℕ → Parsed A → Parsed A
shift i j (parsed a c) = parsed a (cursor_at c.position i j)
shift i j (refused n) = refused n

module _ (s : List ℕ) (i j i' j' : ℕ) where
  field-shift : (hi p : ℕ) → tape_field s hi (cursor_at p i' j') ≡ shift i' j' (tape_field s hi (cursor_at p i j))
  unfolding field_up_to
  field-shift hi p = go _
    where
      pick : (n : Number) (b : Bool) →
          cond b (parsed n.value (cursor_at (p + n.size) i' j')) (refused 9)
          ≡ shift i' j' (cond b (parsed n.value (cursor_at (p + n.size) i j)) (refused 9))
      pick n true = refl
      pick n false = refl

      go : (o : Option Number) → field_of 8 0 hi o (cursor_at p i' j') ≡ shift i' j' (field_of 8 0 hi o (cursor_at p i j))
      go none = unfold field_of in refl
      go (some n) = unfold field_of in (pick n (leb 0 n.value && leb n.value hi))

  then-shift : {A B : Type 0} (P : Parsed A) (f : A → Parser B) →
      ((a : A) (p : ℕ) → f a (cursor_at p i' j') ≡ shift i' j' (f a (cursor_at p i j))) → (P ≡ shift i j P) →
      continue (shift i' j' P) f ≡ shift i' j' (continue P f)
  unfolding continue
  then-shift (parsed a c) f h e =
      let d : c ≡ cursor_at c.position i j = cc in h a c.position ∙ ap (λ (x : Cursor). shift i' j' (f a x)) (sym d)
  then-shift (refused n) f h e = refl

field-stays : (s : List ℕ) (i j hi p : ℕ) → tape_field s hi (cursor_at p i j) ≡ shift i j (tape_field s hi (cursor_at p i j))
field-stays s i j hi p = field-shift s i j i j hi p

times-shift : (s : List ℕ) (i j i' j' hi n p : ℕ)
    → times n (tape_field s hi) (cursor_at p i' j') ≡ shift i' j' (times n (tape_field s hi) (cursor_at p i j))
unfolding times
times-shift s i j i' j' hi zero p = refl
times-shift s i j i' j' hi (suc n) p =
    ap (λ (x : Parsed ℕ). continue x (λ a c. continue (times n (tape_field s hi) c) (λ l d. parsed (a ∷ l) d)))
    (field-shift s i j i' j' hi p)
    ∙ then-shift s i j i' j' (tape_field s hi (cursor_at p i j)) (λ a c. continue (times n (tape_field s hi) c) (λ l d. parsed (a ∷ l) d))
    (λ a q.
    ap (λ (x : Parsed (List ℕ)). continue x (λ l d. parsed (a ∷ l) d)) (times-shift s i j i' j' hi n q)
    ∙ then-shift s i j i' j' (times n (tape_field s hi) (cursor_at q i j)) (λ l d. parsed (a ∷ l) d) (λ l e. refl)
    (times-shift s i j i j hi n q))
    (field-stays s i j hi p)

list-shift : (s : List ℕ) (i j i' j' p : ℕ) → list_field s in_force (cursor_at p i' j') ≡ shift i' j' (list_field s in_force (cursor_at p i j))
unfolding list_field
list-shift s i j i' j' p =
    ap (λ (x : Parsed ℕ). continue x (λ n c. times n (tape_field s max_time) c)) (field-shift s i j i' j' max_samples p)
    ∙ then-shift s i j i' j' (tape_field s max_samples (cursor_at p i j)) (λ n c. times n (tape_field s max_time) c)
    (λ n q. times-shift s i j i' j' max_time n q) (field-stays s i j max_samples p)

-- the times stand there wherever reading comes from
times-anywhere : (s : List ℕ) (count next i j : ℕ) (l : List ℕ) (c : Cursor)
    → times count (tape_field s max_time) (cursor_at next i j) ≡ parsed l c →
    length l ≡ count → TimesAt s next l
times-anywhere s count next i j l c e n d h =
    let f = times-shift s i j d.numbers d.mentions max_time count next ∙ ap (shift d.numbers d.mentions) e in
    (cursor_at c.position d.numbers d.mentions, rw (n, h) f)

length-empty : length empty_lists ≡ 32
unfolding empty_lists
length-empty = length-replicate {A = ℕ} 32 0

empty-zero : (x : ℕ) → get_or empty_lists x 0 ≡ 0
unfolding empty_lists
empty-zero x = zeros 32 x

-- ---- What a `?` passes on: the refusal of a call is that of its caller

pub skips-passed : {count : ℕ} {r : Tape} {P : Parsed (List ℕ)} {d : Refusal} → IsErrAnd r (λ x. x ≡ d) → Skips count (Err d) P → Skips count r P
skips-passed {r = r} given k = let e = err_from_is_err_and r given in rw (e.1, e.2) k

pub list-passed : {s : List ℕ} {k : ℕ} {cells after : List ℕ} {r : Tape} {P : Parsed (List ℕ)} {d : Refusal} →
    IsErrAnd r (λ x. x ≡ d) → Listed s k cells after (Err d) P → Listed s k cells after r P
list-passed {r = r} given k = let e = err_from_is_err_and r given in rw (e.1, e.2) k

pub lists-passed : {s : List ℕ} {k : ℕ} {cells after : List ℕ} {r : Tape} {P : Parsed (List (List ℕ))} {d : Refusal} →
    IsErrAnd r (λ x. x ≡ d) → Lists s k cells after (Err d) P → Lists s k cells after r P
lists-passed {r = r} given k = let e = err_from_is_err_and r given in rw (e.1, e.2) k

-- ---- Times

module _ (s : List ℕ) where
  abbrev pub time : Parser ℕ
  time = tape_field s max_time

  -- the loop's invariant: what the times that are left give is what all times give
  abbrev pub Skipping : (count at left next : ℕ) → Type 0
  Skipping count at left next =
      (i j : ℕ) (r : Tape) → Skips left r (times left time (cursor_at next i j)) → Skips count r (times count time (cursor_at at i j))

  -- no times left: the walk stands behind the list
  pub times_none : (left next i j : ℕ) → left ≤ 0 → Skips left (Ok next) (times left time (cursor_at next i j))
  unfolding times
  times_none left next i j h = let e : left ≡ 0 = omega arith in rw e (record { held = (refl, refl) })

  module _ (left next : ℕ) (f : Result (ℕ × ℕ) Refusal) (some : 0 < left) (e : (i j : ℕ) → parsed_of i j f ≡ tape_field s max_time (cursor_at next i j)) where
    -- a time that fails its question stops the walk with that question's number
    pub times-stop : {d : Refusal} (i j : ℕ) → f ≡ Err d → Skips left (Err d) (times left time (cursor_at next i j))
    unfolding times parsed_of continue
    times-stop i j told = let more : left ≡ suc (left - 1) = omega arith in rw (more, ← e i j, told) (record { held = refl })

    -- one time, and the walk over the others
    pub times-step : {v after : ℕ} → f ≡ Ok (v, after) → (i j : ℕ) (r : Tape)
        → Skips (left - 1) r (times (left - 1) time (cursor_at after i j)) →
        Skips left r (times left time (cursor_at next i j))
    unfolding times parsed_of continue
    times-step {v} {after} told i j r rest =
        let more : left ≡ suc (left - 1) = omega arith in
        rw (more, ← e i j, told) (go (times (left - 1) time (cursor_at after i j)) rest)
      where
        go : (P : Parsed (List ℕ)) → Skips (left - 1) r P → Skips (suc (left - 1)) r (continue P (λ l c. parsed (v ∷ l) c))
        go (parsed l c) k = record { held = (k.held.0, ap suc k.held.1) }
        go (refused n) k = record { held = k.held }

-- ---- A list

module _ (s : List ℕ) (k : ℕ) (cells : List ℕ) (at : ℕ) (f : Result (ℕ × ℕ) Refusal)
    (e : (i j : ℕ) → parsed_of i j f ≡ tape_field s max_samples (cursor_at at i j)) where
  -- the list's length fails its question
  pub list-stop : {d : Refusal} (after : List ℕ) (i j : ℕ) → f ≡ Err d
      → Listed s k cells after (Err d) (list_field s in_force (cursor_at at i j))
  unfolding list_field parsed_of continue
  list-stop after i j told = rw (← e i j, told) (record { held = refl })

  -- length and begin of a list are stored, and its times are walked over, not stored
  pub list-kept : {count next : ℕ} {r : Tape} → f ≡ Ok (count, next)
      → ((i j : ℕ) → Skips count r (times count (time s) (cursor_at next i j))) → (i j : ℕ) →
      Listed s k cells (set (set cells k next) (16 + k) count) r (list_field s in_force (cursor_at at i j))
  unfolding list_field parsed_of continue
  list-kept {count} {next} {r} told skips i j = rw (← e i j, told) (go (times count (time s) (cursor_at next i j)) refl (skips i j))
    where
      -- the times are the same wherever reading stands within a value
      same : (l : List ℕ) (c : Cursor) → times count (time s) (cursor_at next i j) ≡ parsed l c → length l ≡ count → TimesAt s next l
      same l c p n = times-anywhere s count next i j l c p n

      go : (P : Parsed (List ℕ)) → times count (time s) (cursor_at next i j) ≡ P → Skips count r P
          → Listed s k cells (set (set cells k next) (16 + k) count) r P
      go (parsed l c) p h =
          record {
            held = (
              h.held.0,
              record {
                begins = next;
                stored = ap (λ (n : ℕ). set (set cells k next) (16 + k) n) (sym h.held.1);
                times = same l c p h.held.1;
              },
            );
          }
      go (refused n) p h = record { held = h.held }

-- ---- All lists

module _ (s : List ℕ) (count : ℕ) where
  -- the loop's invariant: what the lists from k on give is what all lists give
  abbrev pub Leading : (cells₀ : List ℕ) (k next : ℕ) (cells : List ℕ) → Type 0
  Leading cells₀ k next cells =
      (after : List ℕ) (r : Tape) → Lists s k cells after r (times (count - k) (list_field s in_force) (cursor_at next 0 0)) →
      Lists s 0 cells₀ after r (times count (list_field s in_force) beginning)

  pub lists-begin : (cells₀ : List ℕ) → Leading cells₀ 0 0 cells₀
  lists-begin cells₀ after r h = let e : count - 0 ≡ count = omega arith in rw e at h

  -- all lists are read
  pub lists-none : (k next : ℕ) (cells : List ℕ) → count ≤ k
      → Lists s k cells cells (Ok next) (times (count - k) (list_field s in_force) (cursor_at next 0 0))
  unfolding times
  lists-none k next cells h = let e : count - k ≡ 0 = omega arith in rw e (record { held = (refl, refl) })

  module _ (k next : ℕ) (cells cells₁ : List ℕ) (r : Tape) (some : k < count)
      (one : (i j : ℕ) → Listed s k cells cells₁ r (list_field s in_force (cursor_at next i j))) where
    -- a list in which a question fails stops the tape
    pub lists-stop : {d : Refusal} (after : List ℕ) → r ≡ Err d
        → Lists s k cells after (Err d) (times (count - k) (list_field s in_force) (cursor_at next 0 0))
    unfolding times continue
    lists-stop {d} after told =
        let more : count - k ≡ suc (count - (k + 1)) = omega arith in rw more (go (list_field s in_force (cursor_at next 0 0)) (one 0 0))
      where
        go : (P : Parsed (List ℕ)) → Listed s k cells cells₁ r P →
            Lists s k cells after (Err d)
            (continue P (λ l c. continue (times (count - (k + 1)) (list_field s in_force) c) (λ ls e. parsed (l ∷ ls) e)))
        go (parsed l c) h = let e = sym told ∙ h.held.0 in clash (cc)
        go (refused i) h = record { held = rw told at h.held }

    -- one list, and the others behind it
    pub lists-step : {after-this : ℕ} → r ≡ Ok after-this → (after : List ℕ) (r₂ : Tape) →
        Lists s (k + 1) cells₁ after r₂ (times (count - (k + 1)) (list_field s in_force) (cursor_at after-this 0 0)) →
        Lists s k cells after r₂ (times (count - k) (list_field s in_force) (cursor_at next 0 0))
    unfolding times continue
    lists-step {after-this} told after r₂ rest =
        let more : count - k ≡ suc (count - (k + 1)) = omega arith in
        rw more (go (list_field s in_force (cursor_at next 0 0)) (one 0 0) (list-shift s 0 0 0 0 next))
      where
        last : (l : List ℕ) → OneList s k cells cells₁ l → (P : Parsed (List (List ℕ))) → Lists s (k + 1) cells₁ after r₂ P →
            Lists s k cells after r₂ (continue P (λ ls d. parsed (l ∷ ls) d))
        last l o (parsed ls c) h = record { held = (h.held.0, (cells₁, (o, rw (add-one k) at h.held.1))) }
        last l o (refused i) h = record { held = h.held }

        go : (P : Parsed (List ℕ)) → Listed s k cells cells₁ r P → P ≡ shift 0 0 P →
            Lists s k cells after r₂
            (continue P (λ l c. continue (times (count - (k + 1)) (list_field s in_force) c) (λ ls d. parsed (l ∷ ls) d)))
        go (parsed l c) h stays =
            let e = sym told ∙ h.held.0 in
            let p : after-this ≡ c.position = cc in
            let d : c ≡ cursor_at c.position 0 0 = cc in
            let d' : cursor_at after-this 0 0 ≡ c = ap (λ (x : ℕ). cursor_at x 0 0) p ∙ sym d in
            last l h.held.1 (times (count - (k + 1)) (list_field s in_force) c) (rw d' at rest)
        go (refused i) h stays = absurd (rw told at h.held)

-- ---- Question 10

module _ (s : List ℕ) (count : ℕ) {cells after : List ℕ} {r : Tape}
    (k : Lists s 0 cells after r (times count (list_field s in_force) beginning)) where
  -- the tape fails where one of its lists does
  pub tape-stop : {d : Refusal} → r ≡ Err d → Lists s 0 cells after (Err d) (tape_of in_force s count beginning)
  unfolding tape_of continue
  tape-stop {d} told = go (times count (list_field s in_force) beginning) k
    where
      go : (P : Parsed (List (List ℕ))) → Lists s 0 cells after r P →
          Lists s 0 cells after (Err d) (continue P (λ t c. continue (at_end s 10 c) (λ u e. parsed t e)))
      go (parsed t c) h = let e = sym told ∙ h.held.0 in clash (cc)
      go (refused i) h = record { held = rw told at h.held }

  -- question 10: bytes behind the last list
  pub tape_long : {end : ℕ} → r ≡ Ok end → (end ≡ length s → ⊥) → Lists s 0 cells after (Err TapeGoesOn) (tape_of in_force s count beginning)
  unfolding tape_of continue at_end ask
  tape_long {end} told long = go (times count (list_field s in_force) beginning) k
    where
      go : (P : Parsed (List (List ℕ))) → Lists s 0 cells after r P →
          Lists s 0 cells after (Err TapeGoesOn) (continue P (λ t c. continue (at_end s 10 c) (λ u d. parsed t d)))
      go (parsed t c) h =
          let e = sym told ∙ h.held.0 in
          let f : c.position ≡ end = cc in
          rw (f, ne_eqb end (length s) long) (record { held = refl })
      go (refused i) h = absurd (rw told at h.held)

  -- the tape ends with its last list
  pub tape-kept : {end : ℕ} → r ≡ Ok end → end ≡ length s → Lists s 0 cells after (Ok end) (tape_of in_force s count beginning)
  unfolding tape_of continue at_end ask
  tape-kept {end} told whole = go (times count (list_field s in_force) beginning) k
    where
      go : (P : Parsed (List (List ℕ))) → Lists s 0 cells after r P →
          Lists s 0 cells after (Ok end) (continue P (λ t c. continue (at_end s 10 c) (λ u d. parsed t d)))
      go (parsed t c) h =
          let e = sym told ∙ h.held.0 in
          let f : c.position ≡ end = cc in
          let g : eqb c.position (length s) ≡ true = eq-eqb c.position (length s) (f ∙ whole) in
          rw g (record { held = (ap Ok (sym f), h.held.1) })
      go (refused i) h = absurd (rw told at h.held)

-- as many lists as the model has
pub tape-length : (s : List ℕ) (count : ℕ) (tape : List (List ℕ)) (d : Cursor) → tape_of in_force s count beginning ≡ parsed tape d
    → length tape ≡ count
unfolding tape_of
tape-length s count tape d e = go (times count (list_field s in_force) beginning) refl e
  where
    end : (t : List (List ℕ)) (c : Cursor) (b : Bool) → continue (ask b 10 c) (λ u x. parsed t x) ≡ parsed tape d → t ≡ tape
    end t c true f = unfold continue ask in cc
    end t c false f = unfold continue ask in (clash (cc))

    go : (P : Parsed (List (List ℕ))) → times count (list_field s in_force) beginning ≡ P
        → continue P (λ t c. continue (at_end s 10 c) (λ u x. parsed t x)) ≡ parsed tape d → length tape ≡ count
    go (parsed t c) p f =
        ap length (sym (end t c (eqb c.position (length s)) (unfold continue at_end in f)))
        ∙ rows-length (λ i. list_field s in_force) count 0 beginning t c (sym (times-rows (list_field s in_force) count 0 beginning) ∙ p)
    go (refused n) p f = unfold continue in (clash (cc))

-- ---- What the cells then hold

length-one : (s : List ℕ) (k : ℕ) (cells after l : List ℕ) → OneList s k cells after l → length after ≡ length cells
length-one s k cells after l o = rw o.stored (simp length-set)

-- other cells stay
filled-other : (s : List ℕ) (ls : List (List ℕ)) (k : ℕ) (cells after : List ℕ) → Filled s k cells after ls → (x : ℕ) →
    ((y : ℕ) → k ≤ y → y < k + length ls → (x ≡ y → ⊥) × (x ≡ 16 + y → ⊥)) → get_or after x 0 ≡ get_or cells x 0
filled-other s [] k cells after f x out = rw f
filled-other s (l ∷ ls) k cells after f x out =
    let o = out k (omega arith) (omega arith) in
    filled-other s ls (suc k) f.0 after f.1.1 x (λ y a b. out y (omega arith) (omega arith))
    ∙ rw f.1.0.stored
    (get_or-set_other (set cells k f.1.0.begins) (16 + k) x (length l) 0 o.1
    ∙ get_or-set_other cells k x f.1.0.begins 0 o.0)

module _ (s : List ℕ) where
  -- where a list begins in the tape, its times stand
  pub filled-begins : (ls : List (List ℕ)) (k : ℕ) (cells after : List ℕ) → length cells ≡ 32 → k + length ls ≤ 16
      → Filled s k cells after ls →
      (j : ℕ) → j < length ls → TimesAt s (get_or after (k + j) 0) (get_or ls j [])
  filled-begins [] k cells after n h f j b = absurd (omega arith)
  filled-begins (l ∷ ls) k cells after n h f zero b =
      let o = f.1.0 in
      let e : get_or after (k + 0) 0 ≡ o.begins
      = filled-other s ls (suc k) f.0 after f.1.1 (k + 0) (λ y a c. ((λ z. omega arith), (λ z. omega arith)))
      ∙ rw o.stored
      (get_or-set_other (set cells k o.begins) (16 + k) (k + 0) (length l) 0 (λ z. omega arith)
      ∙ (let g : k + 0 ≡ k = omega arith in rw g (get_or-set_same cells k o.begins 0 (omega arith)))) in
      rw e o.times
  filled-begins (l ∷ ls) k cells after n h f (suc j) b =
      let e : k + suc j ≡ suc k + j = omega arith in
      rw e (filled-begins ls (suc k) f.0 after (length-one s k cells f.0 l f.1.0 ∙ n) (omega arith) f.1.1 j (omega arith))

  -- the length that is stored of a list is its own
  pub filled-counts : (ls : List (List ℕ)) (k : ℕ) (cells after : List ℕ) → length cells ≡ 32 → k + length ls ≤ 16
      → Filled s k cells after ls →
      (j : ℕ) → j < length ls → get_or after (16 + (k + j)) 0 ≡ length (get_or ls j [])
  filled-counts [] k cells after n h f j b = absurd (omega arith)
  filled-counts (l ∷ ls) k cells after n h f zero b =
      let o = f.1.0 in
      filled-other s ls (suc k) f.0 after f.1.1 (16 + (k + 0)) (λ y a c. ((λ z. omega arith), (λ z. omega arith)))
      ∙ rw o.stored
      (let g : 16 + (k + 0) ≡ 16 + k = omega arith in
      rw g (get_or-set_same (set cells k o.begins) (16 + k) (length l) 0 (simp length-set (omega arith))))
  filled-counts (l ∷ ls) k cells after n h f (suc j) b =
      let e : k + suc j ≡ suc k + j = omega arith in
      rw e (filled-counts ls (suc k) f.0 after (length-one s k cells f.0 l f.1.0 ∙ n) (omega arith) f.1.1 j (omega arith))

  -- of all 16 lists
  pub all-counts : (ls : List (List ℕ)) (after : List ℕ) → length ls ≤ 16 → Filled s 0 empty_lists after ls → (k : ℕ) → k < 16 →
      get_or after (16 + k) 0 ≡ length (get_or ls k [])
  all-counts ls after h f k b = go (ltb k (length ls)) refl
    where
      go : (x : Bool) → ltb k (length ls) ≡ x → get_or after (16 + k) 0 ≡ length (get_or ls k [])
      go true e =
          let z : 16 + k ≡ 16 + (0 + k) = omega arith in
          rw z (filled-counts ls 0 empty_lists after length-empty (omega arith) f k (ltb-true k (length ls) e))
      go false e =
          let g = ltb-false k (length ls) e in
          filled-other s ls 0 empty_lists after f (16 + k) (λ y a c. ((λ z. omega arith), (λ z. omega arith)))
          ∙ empty-zero (16 + k)
          ∙ sym (ap length (get_or-eq_default ls [] g))

  -- the same of each of all lists
  pub all-begin : (ls : List (List ℕ)) (after : List ℕ) → length ls ≤ 16 → Filled s 0 empty_lists after ls → (k : ℕ) → k < length ls →
      TimesAt s (get_or after k 0) (get_or ls k [])
  all-begin ls after h f k b =
      let z : k ≡ 0 + k = omega arith in
      let e : get_or after k 0 ≡ get_or after (0 + k) 0 = ap (λ (i : ℕ). get_or after i 0) z in
      rw e (filled-begins ls 0 empty_lists after length-empty (omega arith) f k b)
