-- From a part's bytes to the joined model's: what a parser read in the one, with its numbers moved on, another reads in any bytes where the
-- moved numbers stand. One law for each way to build a parser.
use Rattle.machine.specs.All.{ℕ, zero, suc, ◌+◌, ◌≤◌, add_assoc, add-zero, ◌≡◌, refl, sym, ap, subst, ◌∙◌, Bool, true, false, cond, ◌&&◌, List, [], ◌∷◌, ◌++◌, map, append_assoc, append-nil, Option, none, some, T, length, drop, length-append, flat, Number, number_bytes, read_number, Cursor, Parsed, parsed, refused, Parser, continue, ◌>>=◌, give, refuse, times, forward, field_of, field_up_to, Each, all_of, ap₂, leb}
use Rattle.machine.specs.Limits as Limits
use Rattle.machine.proofs.{Basic.Bools.cond_cases, Decoding.Groups.and_left, Decoding.Groups.and_right}
use Rattle.codec.proofs.Fields.{between, field-reads, drop_past}
use Rattle.join_laws.specs.{numbers_bytes}

-- ---- Bytes of numbers

pub numbers-append : (k l : List ℕ) → numbers_bytes (k ++ l) ≡ numbers_bytes k ++ numbers_bytes l
unfolding numbers_bytes flat
numbers-append [] l = refl
numbers-append (v ∷ k) l = ap (λ (u : List ℕ). number_bytes v ++ u) (numbers-append k l) ∙ sym (append_assoc (number_bytes v) _ _)

pub numbers-one : (v : ℕ) → numbers_bytes (v ∷ []) ≡ number_bytes v
unfolding numbers_bytes flat
numbers-one v = append-nil (number_bytes v)

-- ---- Definition

-- inside a value the counts of numbers and mentions are the same on both sides
abbrev pub Tied : Bool → Cursor → Cursor → Type 0
Tied true c d = (c.numbers ≡ d.numbers) × (c.mentions ≡ d.mentions)
Tied false c d = Unit {0}

module _ {B : Type 0} where
  pub record Passed (t : Bool) (c : Cursor) (at : ℕ) (l : List ℕ) (b : B) (r : Parsed B) : Type 0 where
    pub after : Cursor
    pub reads : r ≡ parsed b after
    pub position : after.position ≡ at + length (numbers_bytes l)
    pub tied : Tied t c after

  -- where the numbers l stand, it reads b
  pub record Reads (t : Bool) (q : List ℕ → Parser B) (c c' : Cursor) (l : List ℕ) (b : B) : Type 0 where
    -- wherever the moved numbers stand, the second parser reads the moved thing and comes out behind them
    pub from : (s rest : List ℕ) (d : Cursor) → drop d.position s ≡ numbers_bytes l ++ rest → Tied t c d
        → Passed t c' d.position l b (q s d)

module _ {A B : Type 0} where
  abbrev pub Mapped : Bool → (A → Type 0) → (A → B) → (A → List ℕ) → (A → Bool) → (List ℕ → Parser B) → Cursor → Parsed A → Type 0
  Mapped t F f w C q c (parsed a c') = F a × (T (C a) → Reads t q c c' (w a) (f a))
  Mapped t F f w C q c (refused n) = Unit {0}

  -- of whatever the first gives, F; and if C holds of it, the second reads its image where the numbers w stand
  pub record Maps (t : Bool) (F : A → Type 0) (f : A → B) (w : A → List ℕ) (C : A → Bool) (p : Parser A)
      (q : List ℕ → Parser B) : Type 0 where
    pub from : (c : Cursor) → Mapped t F f w C q c (p c)

  -- the same, with image, numbers and condition found on the way
  pub record Image (t : Bool) (Q : A → B → List ℕ → Bool → Type 0) (q : List ℕ → Parser B) (c c' : Cursor) (a : A) : Type 0 where
    pub image : B
    pub numbers : List ℕ
    pub holds : Bool
    pub claim : Q a image numbers holds
    pub reads : T holds → Reads t q c c' numbers image

  abbrev pub Carried : Bool → (A → B → List ℕ → Bool → Type 0) → (List ℕ → Parser B) → Cursor → Parsed A → Type 0
  Carried t Q q c (parsed a c') = Image t Q q c c' a
  Carried t Q q c (refused n) = Unit {0}

  pub record Carries (t : Bool) (Q : A → B → List ℕ → Bool → Type 0) (p : Parser A) (q : List ℕ → Parser B) : Type 0 where
    pub from : (c : Cursor) → Carried t Q q c (p c)

-- what a walk shows of its results
pub record Becomes {A B : Type 0} (F : A → Type 0) (f : A → B) (w : A → List ℕ) (C : A → Bool) (a : A) (b : B) (l : List ℕ)
    (t : Bool) : Type 0 where
  pub fact : F a
  pub image : b ≡ f a
  pub numbers : l ≡ w a
  pub holds : T (C a) → T t

-- ---- One after the other

tied-forward : (t : Bool) (c d : Cursor) (i j : ℕ) → Tied t c d → Tied t (forward c i) (forward d j)
tied-forward true c d i j h = h
tied-forward false c d i j h = tt

pub reads_then : {A B : Type 0} {t : Bool} {q : List ℕ → Parser A}
    (k : List ℕ → A → Parser B) {c c₁ c₂ : Cursor} {l l' : List ℕ} {a : A} {b : B}
    → Reads t q c c₁ l a → Reads t (λ s. k s a) c₁ c₂ l' b → Reads t (λ s. q s >>= k s) c c₂ (l ++ l') b
unfolding continue
reads_then k {l = l} {l' = l'} h g =
    record {
      from = λ s rest d e m.
          let here = e ∙ ap (λ (u : List ℕ). u ++ rest) (numbers-append l l') ∙ append_assoc (numbers_bytes l) (numbers_bytes l') rest in
          let x = h.from s (numbers_bytes l' ++ rest) d here m in
          let y =
          g.from s rest x.after
          (ap (λ (i : ℕ). drop i s) x.position ∙ drop_past s (numbers_bytes l) (numbers_bytes l' ++ rest) d.position here) x.tied in
          record {
            after = y.after;
            reads = ap (λ r. continue r (k s)) x.reads ∙ y.reads;
            position =
                y.position ∙ ap (λ (i : ℕ). i + length (numbers_bytes l')) x.position
                ∙ add_assoc d.position (length (numbers_bytes l)) (length (numbers_bytes l'))
                ∙ ap (λ (i : ℕ). d.position + i)
                (sym (ap length (numbers-append l l') ∙ length-append (numbers_bytes l) (numbers_bytes l')));
            tied = y.tied;
          };
    }

-- what reads nothing stands anywhere
pub reads-give : {B : Type 0} {t : Bool} {c : Cursor} {b : B} → Reads t (λ s. give b) c c [] b
unfolding numbers_bytes flat
reads-give = record { from = λ s rest d e m. record { after = d; reads = refl; position = sym (add-zero d.position); tied = m } }

module _ {A B : Type 0} {t : Bool} {Q : A → B → List ℕ → Bool → Type 0} where
  -- the second goes on with the image of what the first gave
  pub then : {A₁ B₁ : Type 0} {F : A₁ → Type 0} {f : A₁ → B₁} {w : A₁ → List ℕ} {C : A₁ → Bool} {p : Parser A₁} {q : List ℕ
      → Parser B₁} {k : A₁ → Parser A}
      {k' : List ℕ → B₁ → Parser B} → Maps t F f w C p q
      → ((a : A₁) (b : B₁) → F a → b ≡ f a → Carries t (λ r r' l x. Q r r' (w a ++ l) (C a && x)) (k a) (λ s. k' s b))
      → Carries t Q (p >>= k) (λ s. q s >>= k' s)
  unfolding continue
  then {A₁} {B₁} {F} {f} {w} {C} {p} {q} {k} {k'} h g = record { from = λ c. first c (p c) (h.from c) }
    where
      second : (c c₁ : Cursor) (a : A₁) → (T (C a) → Reads t q c c₁ (w a) (f a)) → (r : Parsed A)
          → Carried t (λ r r' l x. Q r r' (w a ++ l) (C a && x)) (λ s. k' s (f a)) c₁ r → Carried t Q (λ s. q s >>= k' s) c r
      second c c₁ a m (parsed r c₂) n =
          record {
            image = n.image;
            numbers = w a ++ n.numbers;
            holds = C a && n.holds;
            claim = n.claim;
            reads = λ x. reads_then k' (m (and_left (C a) n.holds x)) (n.reads (and_right (C a) n.holds x));
          }
      second c c₁ a m (refused n) z = tt

      first : (c : Cursor) (r : Parsed A₁) → Mapped t F f w C q c r → Carried t Q (λ s. q s >>= k' s) c (continue r k)
      first c (parsed a c₁) m = second c c₁ a m.1 (k a c₁) ((g a (f a) m.0 refl).from c₁)
      first c (refused n) m = tt

  -- the same where the image is what was given
  pub and : {A₁ : Type 0} {F : A₁ → Type 0} {w : A₁ → List ℕ} {C : A₁ → Bool} {p : Parser A₁} {q : List ℕ → Parser A₁} {k : A₁ → Parser A}
      {k' : List ℕ → A₁ → Parser B} → Maps t F (λ a. a) w C p q
      → ((a : A₁) → F a → Carries t (λ r r' l x. Q r r' (w a ++ l) (C a && x)) (k a) (λ s. k' s a))
      → Carries t Q (p >>= k) (λ s. q s >>= k' s)
  and {w = w} {C = C} {k = k} {k' = k'} h g =
      then h (λ a b y e. subst (λ x. Carries t (λ r r' l x. Q r r' (w a ++ l) (C a && x)) (k a) (λ s. k' s x)) (sym e) (g a y))

  pub gives : {a : A} {b : B} → Q a b [] true → Carries t Q (give a) (λ s. give b)
  gives {a} {b} h = record { from = λ c. record { image = b; numbers = []; holds = true; claim = h; reads = λ x. reads-give } }

  pub refuses : (n m : ℕ) → Carries t Q (refuse n) (λ s. refuse m)
  refuses n m = record { from = λ c. tt }

  pub choice : (b : Bool) {p p' : Parser A} {q q' : List ℕ → Parser B} → (b ≡ true → Carries t Q p q) → (b ≡ false → Carries t Q p' q')
      → Carries t Q (cond b p p') (λ s. cond b (q s) (q' s))
  choice true h k = h refl
  choice false h k = k refl

  -- from a function on what is read to any relation that it meets
  pub walked : {p : Parser A} {q : List ℕ → Parser B} {F : A → Type 0} {f : A → B} {w : A → List ℕ} {C : A → Bool} → Maps t F f w C p q
      → ((a : A) → F a → Q a (f a) (w a) (C a)) → Carries t Q p q
  walked {p} {q} {F} {f} {w} {C} h k = record { from = λ c. go c (p c) (h.from c) }
    where
      go : (c : Cursor) (r : Parsed A) → Mapped t F f w C q c r → Carried t Q q c r
      go c (parsed a c₁) m = record { image = f a; numbers = w a; holds = C a; claim = k a m.0; reads = m.1 }
      go c (refused n) m = tt

pub maps : {A B : Type 0} {t : Bool} {F : A → Type 0} {f : A → B} {w : A → List ℕ} {C : A → Bool} {p : Parser A} {q : List ℕ → Parser B}
    → Carries t (Becomes F f w C) p q → Maps t F f w C p q
maps {A} {B} {t} {F} {f} {w} {C} {p} {q} h = record { from = λ c. go c (p c) (h.from c) }
  where
    go : (c : Cursor) (r : Parsed A) → Carried t (Becomes F f w C) q c r → Mapped t F f w C q c r
    go c (parsed a c₁) m = (
      m.claim.fact,
      λ x. subst (λ l. Reads t q c c₁ l (f a)) m.claim.numbers
          (subst (λ b. Reads t q c c₁ m.numbers b) m.claim.image (m.reads (m.claim.holds x))),
    )
    go c (refused n) m = tt

-- ---- One number

-- a number in its range is read again from its own bytes
pub reads-number : {t : Bool} {c : Cursor} (most code lo hi v : ℕ) (size : ℕ) → lo ≤ v → v ≤ hi → hi ≤ most → most ≤ Limits.five_groups
    → Reads t (λ s. field_up_to most s code lo hi) c (forward c size) (v ∷ []) v
reads-number {t} {c} most code lo hi v size low high all groups =
    record {
      from = λ s rest d e m.
          let here = e ∙ ap (λ (u : List ℕ). u ++ rest) (numbers-one v) in
          record {
            after = forward d (length (number_bytes v));
            reads = field-reads s rest most d.position v code lo hi d.numbers d.mentions here low high all groups;
            position = ap (λ (u : List ℕ). d.position + length u) (sym (numbers-one v));
            tied = tied-forward t c d size (length (number_bytes v)) m;
          };
    }

-- a number in its range, and another in the other's
module _ {t : Bool} (most code : ℕ) (s : List ℕ) where
  -- one field: a number, moved, that is still in the range of the other model
  pub field-maps : (lo hi lo' hi' : ℕ) (f : ℕ → ℕ) (C : ℕ → Bool) → ((v : ℕ) → lo ≤ v → v ≤ hi → T (C v) → (lo' ≤ f v) × (f v ≤ hi'))
      → hi' ≤ most
      → most ≤ Limits.five_groups
      → Maps t (λ v. (lo ≤ v) × (v ≤ hi)) f (λ v. f v ∷ []) C (field_up_to most s code lo hi) (λ s'. field_up_to most s' code lo' hi')
  unfolding field_up_to field_of
  field-maps lo hi lo' hi' f C h small groups =
      record { from = λ c. go c (read_number Limits.max_number_bytes most (drop c.position s)) }
    where
      go : (c : Cursor) (o : Option Number)
          → Mapped t (λ v. (lo ≤ v) × (v ≤ hi)) f (λ v. f v ∷ []) C (λ s'. field_up_to most s' code lo' hi') c (field_of code lo hi o c)
      go c none = tt
      go c (some n) =
          cond_cases (Mapped t (λ v. (lo ≤ v) × (v ≤ hi)) f (λ v. f v ∷ []) C (λ s'. field_up_to most s' code lo' hi') c)
          (leb lo n.value && leb n.value hi)
          (parsed n.value (forward c n.size)) (refused (suc code))
          (λ e.
          let r = between lo n.value hi e in (
            r,
            λ x.
                let in-range = h n.value r.0 r.1 x in
                reads-number most code lo' hi' (f n.value) n.size in-range.0 in-range.1 small groups,
          ))
          (λ e. tt)

-- ---- Several

pub and_both : (a b : Bool) → T (a && b) → T (a && (b && true))
and_both true true h = tt
and_both true false h = h
and_both false b h = h

pub repeated : {A B : Type 0} {t : Bool} {F : A → Type 0} {f : A → B} {w : A → List ℕ} {C : A → Bool} {p : Parser A} {q : List ℕ
    → Parser B} → Maps t F f w C p q
    → (n : ℕ) → Maps t (λ l. (length l ≡ n) × Each F l) (map f) (λ l. flat (map w l)) (all_of C) (times n p) (λ s. times n (q s))
unfolding times flat all_of
repeated h zero = maps (gives (record { fact = (refl, tt); image = refl; numbers = refl; holds = λ x. tt }))
repeated {w = w} {C = C} h (suc n) =
    maps
    (then h
    (λ a b z f.
    then (repeated h n)
    (λ l l' g f'.
    gives (record {
      fact = (ap suc g.0, (z, g.1));
      image = ap₂ (λ x y. x ∷ y) f f';
      numbers = ap (λ u. w a ++ u) (append-nil _);
      holds = and_both (C a) (all_of C l);
    }))))

-- ---- Whatever was read before

-- where the numbers l stand, q reads b
abbrev pub Anywhere : {B : Type 0} → (List ℕ → Parser B) → List ℕ → B → Type 0
Anywhere q l b = (c c' : Cursor) → Reads false q c c' l b

-- the start of a model does not count, since cursors are only moved on
pub anywhere : {B : Type 0} {q : List ℕ → Parser B} {c c' : Cursor} {l : List ℕ} {b : B} → Reads false q c c' l b → Anywhere q l b
anywhere h d d' =
    record {
      from = λ s rest e f m.
          let r = h.from s rest e f tt in
          record { after = r.after; reads = r.reads; position = r.position; tied = tt };
    }

-- of whatever a parser gives, a claim
abbrev pub Given : {A : Type 0} → (A → Type 0) → Parsed A → Type 0
Given P (parsed a c) = P a
Given P (refused n) = Unit {0}

pub record Gives {A : Type 0} (P : A → Type 0) (p : Parser A) : Type 0 where
  pub from : (c : Cursor) → Given P (p c)

module _ {A : Type 0} where
  -- one parser behind another, as for `Ensures`
  pub follows : {B : Type 0} {P : A → Type 0} {Q : B → Type 0} {p : Parser A} {f : A → Parser B} → Gives P p
      → ((a : A) → P a → Gives Q (f a)) → Gives Q (p >>= f)
  unfolding continue
  follows {B} {P} {Q} {p} {f} h k = record { from = λ c. go (p c) (h.from c) }
    where
      go : (r : Parsed A) → Given P r → Given Q (continue r f)
      go (parsed a c) z = (k a z).from c
      go (refused n) z = tt

  pub given : {P : A → Type 0} {a : A} → P a → Gives P (give a)
  given h = record { from = λ c. h }

  -- what is mapped reads as its image
  pub images : {B : Type 0} {F : A → Type 0} {f : A → B} {w : A → List ℕ} {C : A → Bool} {p : Parser A} {q : List ℕ → Parser B}
      → Maps false F f w C p q
      → Gives (λ a. F a × (T (C a) → Anywhere q (w a) (f a))) p
  images {B} {F} {f} {w} {C} {p} {q} h = record { from = λ c. go c (p c) (h.from c) }
    where
      go : (c : Cursor) (r : Parsed A) → Mapped false F f w C q c r → Given (λ a. F a × (T (C a) → Anywhere q (w a) (f a))) r
      go c (parsed a c') m = (m.0, λ x. anywhere (m.1 x))
      go c (refused n) m = tt
