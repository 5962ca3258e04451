-- "tapes are laid end to end": what is read of a tape is read of it behind and before other bytes.
use Rattle.machine.specs.All.{ℕ, zero, suc, ◌+◌, ◌≤◌, add_assoc, arith, ◌≡◌, refl, ap, subst, ◌∙◌, Bool, true, false, cond, ◌&&◌, List, [], ◌∷◌, ◌++◌, append-nil, Option, none, some, eqb-true, eq-eqb, leb, ltb, eqb, length, drop, length-append, length-drop, drop-append-le, drop-append-add, Rules, Number, longer, groups, padded, within, read_number, Cursor, Parsed, parsed, refused, Parser, continue, ◌>>=◌, give, ask, times, forward, field_of, field_up_to, list_field, at_end, beginning, tape_of, ◌*◌, ◌-◌, sym}
use Rattle.machine.specs.Limits as Limits
use Rattle.codec.proofs.{Steps.groups-empty, Numbers.accepted}
use Rattle.join_laws.proofs.Together.{times-apart}

-- ---- Numbers before other bytes

abbrev Still : Option Number → Option Number → Type 0
Still none o = Unit {0}
Still (some n) o = o ≡ some n

longer-still : (o o' : Option Number) → Still o o' → Still (longer o) (longer o')
unfolding longer
longer-still none o' h = tt
longer-still (some n) o' h = ap longer h

groups-still : (k v : ℕ) (l post : List ℕ) → Still (groups k v l) (groups k v (l ++ post))
unfolding groups
groups-still zero v l post = tt
groups-still (suc k) v [] post = tt
groups-still (suc k) v (b ∷ l) post = go (ltb b 128) (groups-still k (v * 128 + (b - 128)) l post)
  where
    go : (t : Bool) → Still (groups k (v * 128 + (b - 128)) l) (groups k (v * 128 + (b - 128)) (l ++ post))
        → Still (cond t (some (record { value = v * 128 + b; size = 1 })) (longer (groups k (v * 128 + (b - 128)) l)))
        (cond t (some (record { value = v * 128 + b; size = 1 })) (longer (groups k (v * 128 + (b - 128)) (l ++ post))))
    go true h = refl
    go false h = longer-still _ _ h

within-still : (most : ℕ) (o o' : Option Number) → Still o o' → Still (within most o) (within most o')
unfolding within
within-still most none o' h = tt
within-still most (some n) o' h = subst (λ o. Still (within most (some n)) (within most o)) (sym h) (same (within most (some n)))
  where
    same : (o : Option Number) → Still o o
    same none = tt
    same (some n) = refl

read-still : (k most : ℕ) (l post : List ℕ) → Still (read_number k most l) (read_number k most (l ++ post))
unfolding read_number padded within
read-still k most [] post = rw (groups-empty k 0) tt
read-still k most (b ∷ l) post = go (eqb b 128)
  where
    go : (t : Bool) → Still (cond t none (within most (groups k 0 (b ∷ l)))) (cond t none (within most (groups k 0 (b ∷ (l ++ post)))))
    go true = tt
    go false = within-still most (groups k 0 (b ∷ l)) (groups k 0 (b ∷ (l ++ post))) (groups-still k 0 (b ∷ l) post)

-- ---- Definition

module _ {A : Type 0} where
  pub record Shifted (by : ℕ) (c : Cursor) (a : A) (r : Parsed A) : Type 0 where
    pub after : Cursor
    pub reads : r ≡ parsed a after
    pub position : after.position ≡ by + c.position

  abbrev Stays : ℕ → Parsed A → Parsed A → Type 0
  Stays by (parsed a c) r = Shifted by c a r
  Stays by (refused n) r = Unit {0}

  -- it reads what it would read of s alone
  pub record Local (q : List ℕ → Parser A) : Type 0 where
    -- reading looks at no byte before its cursor, and stops of itself
    pub from : (pre s post : List ℕ) (c d : Cursor) → d.position ≡ length pre + c.position
        → Stays (length pre) (q s c) (q (pre ++ (s ++ post)) d)

-- ---- Ways to build a parser

then : {A B : Type 0} {q : List ℕ → Parser A} {k : List ℕ → A → Parser B} → Local q → ((a : A) → Local (λ s. k s a))
    → Local (λ s. q s >>= k s)
unfolding continue
then {A} {B} {q} {k} h g = record { from = λ pre s post c d e. go pre s post (q s c) (q (pre ++ (s ++ post)) d) (h.from pre s post c d e) }
  where
    go : (pre s post : List ℕ) (r r' : Parsed A) → Stays (length pre) r r'
        → Stays (length pre) (continue r (k s)) (continue r' (k (pre ++ (s ++ post))))
    go pre s post (parsed a c) r' x =
        subst (λ r. Stays (length pre) (k s a c) (continue r (k (pre ++ (s ++ post))))) (sym x.reads)
        ((g a).from pre s post c x.after x.position)
    go pre s post (refused n) r' x = tt

gives : {A : Type 0} {a : A} → Local (λ s. give a)
gives = record { from = λ pre s post c d e. record { after = d; reads = refl; position = e } }

repeated : {A : Type 0} {q : List ℕ → Parser A} (n : ℕ) → Local q → Local (λ s. times n (q s))
unfolding times
repeated zero h = gives
repeated (suc n) h = then h (λ a. then (repeated n h) (λ l. gives))

field_local : (most code lo hi : ℕ) → Local (λ s. field_up_to most s code lo hi)
unfolding field_up_to field_of
field_local most code lo hi =
    record { from = λ pre s post c d e. go pre s post c d e (read_number Limits.max_number_bytes most (drop c.position s)) refl }
  where
    checked : (by : ℕ) (n : Number) (c d : Cursor) → d.position ≡ by + c.position
        → Stays by (field_of code lo hi (some n) c) (field_of code lo hi (some n) d)
    checked by n c d e = test (leb lo n.value && leb n.value hi)
      where
        test : (b : Bool)
            → Stays by (cond b (parsed n.value (forward c n.size)) (refused (suc code)))
            (cond b (parsed n.value (forward d n.size)) (refused (suc code)))
        test true =
            record { after = forward d n.size; reads = refl; position = ap (λ i. i + n.size) e ∙ add_assoc by c.position n.size }
        test false = tt

    go : (pre s post : List ℕ) (c d : Cursor) → d.position ≡ length pre + c.position → (o : Option Number)
        → read_number Limits.max_number_bytes most (drop c.position s) ≡ o
        → Stays (length pre) (field_of code lo hi o c)
        (field_of code lo hi (read_number Limits.max_number_bytes most (drop d.position (pre ++ (s ++ post)))) d)
    go pre s post c d e none f = tt
    go pre s post c d e (some n) f =
        let a = accepted Limits.max_number_bytes most (drop c.position s) n f in
        let inside : c.position ≤ length s = omega (arith, a.positive, a.inside, length-drop c.position s) in
        let bytes : drop d.position (pre ++ (s ++ post)) ≡ drop c.position s ++ post =
        ap (λ i. drop i (pre ++ (s ++ post))) e ∙ drop-append-add pre (s ++ post) c.position
        ∙ drop-append-le c.position s post inside in
        let read : read_number Limits.max_number_bytes most (drop d.position (pre ++ (s ++ post))) ≡ some n =
        ap (read_number Limits.max_number_bytes most) bytes
        ∙ subst (λ o. Still o (read_number Limits.max_number_bytes most (drop c.position s ++ post))) f
        (read-still Limits.max_number_bytes most (drop c.position s) post) in
        rw read (checked (length pre) n c d e)

-- ---- The tape

list_local : (rules : Rules) → Local (λ s. list_field s rules)
unfolding list_field
list_local rules = then (field_local _ 8 0 Limits.max_samples) (λ count. repeated count (field_local _ 8 0 rules.max_time))

-- the lists, and nothing after them
record Whole (rules : Rules) (s : List ℕ) (lists : ℕ) (tape : List (List ℕ)) : Type 0 where
  after : Cursor
  reads : times lists (list_field s rules) beginning ≡ parsed tape after
  end : after.position ≡ length s

whole : (rules : Rules) (s : List ℕ) (lists : ℕ) {tape : List (List ℕ)} {c : Cursor} → tape_of rules s lists beginning ≡ parsed tape c
    → Whole rules s lists tape
unfolding tape_of at_end ask continue
whole rules s lists {tape} {c} e = go (times lists (list_field s rules) beginning) refl e
  where
    ended : (a : List (List ℕ)) (d : Cursor) → times lists (list_field s rules) beginning ≡ parsed a d → (b : Bool)
        → eqb d.position (length s) ≡ b
        → continue (ask b 10 d) (λ u. give a) ≡ parsed tape c → Whole rules s lists tape
    ended a d f true g h =
        let same : a ≡ tape = cc in record { after = d; reads = f ∙ ap (λ x. parsed x d) same; end = eqb-true d.position (length s) g }
    ended a d f false g h = let z : ◌≡◌ {A = ℕ} 0 1 = cc in absurd (omega arith)

    go : (r : Parsed (List (List ℕ))) → times lists (list_field s rules) beginning ≡ r
        → continue r (λ a. at_end s 10 >>= λ u. give a) ≡ parsed tape c → Whole rules s lists tape
    go (parsed a d) f h = ended a d f (eqb d.position (length s)) refl h
    go (refused n) f h = let z : ◌≡◌ {A = ℕ} 0 1 = cc in absurd (omega arith)

module _ (rules : Rules) (s₁ s₂ : List ℕ) (lists₁ lists₂ : ℕ) {tape₁ tape₂ : List (List ℕ)} where
  one-then-other : (d e : Cursor) → times lists₁ (list_field (s₁ ++ s₂) rules) beginning ≡ parsed tape₁ d
      → times lists₂ (list_field (s₁ ++ s₂) rules) d ≡ parsed tape₂ e
      → e.position ≡ length (s₁ ++ s₂) → tape_of rules (s₁ ++ s₂) (lists₁ + lists₂) beginning ≡ parsed (tape₁ ++ tape₂) e
  unfolding tape_of at_end ask continue
  one-then-other d e h k end =
      rw (times-apart (list_field (s₁ ++ s₂) rules) lists₁ lists₂ beginning, h, k, eq-eqb e.position (length (s₁ ++ s₂)) end)

  -- the lists of the first tape, then those of the second
  pub tapes-read : {c₁ c₂ : Cursor} → tape_of rules s₁ lists₁ beginning ≡ parsed tape₁ c₁
      → tape_of rules s₂ lists₂ beginning ≡ parsed tape₂ c₂
      → (c : Cursor) × (tape_of rules (s₁ ++ s₂) (lists₁ + lists₂) beginning ≡ parsed (tape₁ ++ tape₂) c)
  tapes-read e₁ e₂ =
      let w₁ = whole rules s₁ lists₁ e₁ in
      let w₂ = whole rules s₂ lists₂ e₂ in
      let x : Shifted 0 w₁.after tape₁ (times lists₁ (list_field (s₁ ++ s₂) rules) beginning) =
      subst (λ r. Stays 0 r (times lists₁ (list_field (s₁ ++ s₂) rules) beginning)) w₁.reads
      ((repeated lists₁ (list_local rules)).from [] s₁ s₂ beginning beginning refl) in
      let at : x.after.position ≡ length s₁ + 0 = omega (arith, x.position, w₁.end) in
      let y : Shifted (length s₁) w₂.after tape₂ (times lists₂ (list_field (s₁ ++ s₂) rules) x.after) =
      subst (λ u. Shifted (length s₁) w₂.after tape₂ (times lists₂ (list_field (s₁ ++ u) rules) x.after)) (append-nil s₂)
      (subst (λ r. Stays (length s₁) r (times lists₂ (list_field (s₁ ++ (s₂ ++ [])) rules) x.after)) w₂.reads
      ((repeated lists₂ (list_local rules)).from s₁ s₂ [] beginning x.after at)) in
      let end : y.after.position ≡ length (s₁ ++ s₂) = omega (arith, y.position, w₂.end, length-append s₁ s₂) in
      (y.after, one-then-other x.after y.after x.reads y.reads end)
