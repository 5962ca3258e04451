-- The next time of a sample list: the number read is the head of the list, and after it is used the tally stands for the rest.
use Rattle.machine.specs.All.{ℕ, ◌+◌, ◌-◌, ◌≤◌, ◌<◌, ◌≡◌, refl, ap, ◌∙◌, ◌≢◌, Bool, true, false, ◌&&◌, List, [], ◌∷◌, Option, none, some, arith, ℕ_discrete, leb-true, leb, length, get_or, set, drop, length-set, get_or-set_same, get_or-set_other, max_number_bytes, five_groups, max_time, Number, read_number, Cursor, Parsed, parsed, refused, Parser, continue, give, times, forward, field_of, field_up_to}
use Rattle.machine.proofs.Basic.Bools.{and_true}
use Rattle.layout.specs.Layout as Layout
use Rattle.layout.specs.All.{TimesAt}
use Rattle.state.specs.All.{Sampling}
use Rattle.flow_laws.specs.{sample_of, sample_at, next_sample, use_time}
use mathlib.Core.Path.{subst}
use mathlib.Core.Bool.{cond}

-- ---- The parser of a list's times, opened

module _ (bytes : List ℕ) where
  abbrev one_time : Parser ℕ
  one_time = field_up_to five_groups bytes 8 0 max_time

  others-read : (v : ℕ) (r : Parsed (List ℕ)) (time : ℕ) (left : List ℕ) (d : Cursor)
      → continue r (λ l. give (v ∷ l)) ≡ parsed (time ∷ left) d
      → (v ≡ time) × (r ≡ parsed left d)
  unfolding continue
  others-read v (parsed l e) time left d h = ((cc), (cc))
  others-read v (refused n) time left d h = let z : ◌≡◌ {A = ℕ} 0 1 = cc in absurd (omega (arith, z))

  -- the number at a cursor is the time, and behind it stand the others
  record Opened (o : Option Number) (c d : Cursor) (time : ℕ) (left : List ℕ) : Type 0 where
    number : Number
    found : o ≡ some number
    value : number.value ≡ time
    most : number.value ≤ max_time
    rest : times (length left) one_time (forward c number.size) ≡ parsed left d

  opened : (o : Option Number) (c d : Cursor) (time : ℕ) (left : List ℕ)
      → continue (field_of 8 0 max_time o c) (λ v. λ c'. continue (times (length left) one_time c') (λ l. give (v ∷ l))) ≡ parsed (time ∷ left) d
      → Opened o c d time left
  unfolding continue field_of
  opened none c d time left h = let z : ◌≡◌ {A = ℕ} 0 1 = cc in absurd (omega arith)
  opened (some n) c d time left h = go (leb 0 n.value && leb n.value max_time) refl h
    where
      go : (t : Bool) → (leb 0 n.value && leb n.value max_time) ≡ t
          → continue (cond t (parsed n.value (forward c n.size)) (refused 9)) (λ v. λ c'. continue (times (length left) one_time c') (λ l. give (v ∷ l))) ≡ parsed (time ∷ left) d
          → Opened (some n) c d time left
      go true f e =
          let p : (n.value ≡ time) × (times (length left) one_time (forward c n.size) ≡ parsed left d) =
          others-read n.value (times (length left) one_time (forward c n.size)) time left d e in
          record {
            number = n;
            found = refl;
            value = p.0;
            most = leb-true n.value max_time (and_true (leb 0 n.value) (leb n.value max_time) f).1;
            rest = p.1;
          }
      go false f e = let z : ◌≡◌ {A = ℕ} 0 1 = cc in absurd (omega (arith, z))

  -- at position p
  abbrev here : ℕ → Option Number
  here p = read_number max_number_bytes five_groups (drop p bytes)

  begin : (p time : ℕ) (left : List ℕ) → TimesAt bytes p (time ∷ left) → (c : Cursor) → c.position ≡ p
      → (d : Cursor) × Opened (here p) c d time left
  unfolding times field_up_to
  begin p time left h c e =
      let q = h c e in (
        q.0,
        opened (here p) c q.0 time left
            (subst
            (λ (x : ℕ). continue (field_of 8 0 max_time (read_number max_number_bytes five_groups (drop x bytes)) c)
            (λ v. λ c'. continue (times (length left) one_time c') (λ l. give (v ∷ l))) ≡ parsed (time ∷ left) q.0) e q.1),
      )

  abbrev at : ℕ → ℕ → ℕ → Cursor
  at p numbers mentions = record { position = p; numbers = numbers; mentions = mentions }

  module _ (p time : ℕ) (left : List ℕ) (h : TimesAt bytes p (time ∷ left)) where
    pub sample-time : (sample_at bytes p).time ≡ time
    unfolding sample_at sample_of
    sample-time =
        let o = begin p time left h (at p 0 0) refl in
        ap (λ (x : Option Number). (sample_of p x).time) o.1.found ∙ o.1.value

    pub sample-most : time ≤ max_time
    sample-most = let o = begin p time left h (at p 0 0) refl in omega (arith, o.1.value, o.1.most)

    pub sample-rest : TimesAt bytes (sample_at bytes p).next left
    unfolding sample_at sample_of
    sample-rest c e =
        let o = begin p time left h (at p c.numbers c.mentions) refl in
        let q : c.position ≡ p + o.1.number.size = e ∙ ap (λ (x : Option Number). (sample_of p x).next) o.1.found in (
          o.0,
          ap (λ (x : ℕ). times (length left) one_time (at x c.numbers c.mentions)) q ∙ o.1.rest,
        )

-- ---- The tally

module _ (bytes tally : List ℕ) (samples : List (List ℕ)) (l : ℕ) (h : Sampling bytes tally samples) where
  -- the tally's count of times left is the length of the machine's list
  pub left_is : l < 16 → get_or tally (Layout.list_left + l) 0 ≡ length (get_or samples l [])
  left_is hl = h.left l hl

  module _ (size : length tally ≡ Layout.tally_size) (hl : l < length samples) (few : length samples ≤ 16) (time : ℕ)
      (left : List ℕ) (is : get_or samples l [] ≡ time ∷ left) where
    stands : TimesAt bytes (get_or tally (Layout.list_at_lem + l) 0) (time ∷ left)
    stands = subst (TimesAt bytes (get_or tally (Layout.list_at_lem + l) 0)) is (h.begins l hl)

    pub drawn-time : (next_sample bytes tally l).time ≡ time
    unfolding next_sample
    drawn-time = sample-time bytes (get_or tally (Layout.list_at_lem + l) 0) time left stands

    pub drawn-most : time ≤ max_time
    drawn-most = sample-most bytes (get_or tally (Layout.list_at_lem + l) 0) time left stands

    abbrev next : ℕ
    next = (next_sample bytes tally l).next

    rest : TimesAt bytes next left
    unfolding next_sample
    rest = sample-rest bytes (get_or tally (Layout.list_at_lem + l) 0) time left stands

    abbrev after : List ℕ
    after = use_time tally l next

    left-now : get_or tally (Layout.list_left + l) 0 - 1 ≡ length left
    left-now = ap (λ (n : ℕ). n - 1) (h.left l (omega arith) ∙ ap length is) ∙ omega arith

    -- other numbers of the tally
    pub drawn-other : (j : ℕ) → j ≢ 928 + l → j ≢ 944 + l → get_or after j 0 ≡ get_or tally j 0
    unfolding use_time
    drawn-other j d e =
        get_or-set_other (set tally (928 + l) next) (944 + l) j (get_or tally (944 + l) 0 - 1) 0 e ∙ get_or-set_other tally (928 + l) j next 0 d

    at-now : get_or after (928 + l) 0 ≡ next
    unfolding use_time
    at-now =
        get_or-set_other (set tally (928 + l) next) (944 + l) (928 + l) (get_or tally (944 + l) 0 - 1) 0 (λ e. omega arith)
        ∙ get_or-set_same tally (928 + l) next 0 (omega arith)

    count-now : get_or after (944 + l) 0 ≡ length left
    unfolding use_time
    count-now =
        get_or-set_same (set tally (928 + l) next) (944 + l) (get_or tally (944 + l) 0 - 1) 0 (omega (arith, length-set tally (928 + l) next))
        ∙ left-now

    pub drawn-size : length after ≡ Layout.tally_size
    unfolding use_time
    drawn-size = length-set (set tally (928 + l) next) (944 + l) (get_or tally (944 + l) 0 - 1) ∙ length-set tally (928 + l) next ∙ size

    pub drawn-sampling : Sampling bytes after (set samples l left)
    drawn-sampling = record {
      begins = λ j hj. begins j (omega (arith, length-set samples l left)) (ℕ_discrete j l);
      left = λ j hj. lefts j hj (ℕ_discrete j l);
    }
      where
        begins : (j : ℕ) → j < length samples → Dec (j ≡ l) → TimesAt bytes (get_or after (928 + j) 0) (get_or (set samples l left) j [])
        begins j hj (yes e) =
            rw (e, at-now, get_or-set_same samples l left [] hl) rest
        begins j hj (no d) =
            rw (drawn-other (928 + j) (λ e. d (omega arith)) (λ e. omega arith), get_or-set_other samples l j left [] d) (h.begins j hj)

        lefts : (j : ℕ) → j < 16 → Dec (j ≡ l) → get_or after (944 + j) 0 ≡ length (get_or (set samples l left) j [])
        lefts j hj (yes e) = rw (e, get_or-set_same samples l left [] hl) count-now
        lefts j hj (no d) =
            rw (get_or-set_other samples l j left [] d) (drawn-other (944 + j) (λ e. omega arith) (λ e. d (omega arith)) ∙ h.left j hj)
