-- A transaction of the joined run as its part alone has it: block numbered back, number and serial by rank. Orders, lines and waking go
-- through.
use Rattle.machine.specs.All.{ℕ, ◌-◌, ◌≡◌, refl, Bool, true, false, cond, List, [], ◌∷◌, map, reverse, eqb, Transaction, precedes, Event, earlier, Gatherer, insert, those, with_returning, line_up, from_back, wake, in_family, Each, sym, ap, ◌∙◌, ◌&&◌, ◌||◌, ltb}
use Rattle.machine.proofs.{Basic.Each.each_map, Basic.Each.each-insert, Lists.Sorted.Sorted, Lists.Sorted.sorted_in, Lists.Lines.meets}
use Rattle.joined.specs.{Part, in_part}
use Rattle.joined.proofs as our
use our.Lists.Members.{insert-map, reverse-map, all_same, those-insert, those-insert-other, by_precedence}
use our.Lists.Ranks.{Roll, rank_in, rank-ltb, rank-eqb, listed}

-- ---- Definition

-- which serials and numbers were given to the part
pub record Naming : Type 0 where
  pub serials : Roll
  pub numbers : Roll
  -- of whom so many were made before this turn
  pub since : ℕ

-- a part p of n blocks
module _ (p : Part) (n : ℕ) where
  abbrev pub mine : Transaction → Bool
  mine t = in_part p n t.next

  abbrev pub seen_as_lem : Naming → Transaction → Transaction
  seen_as_lem N t =
      record {
        number = rank_in N.numbers t.number;
        priority = t.priority;
        parameters = t.parameters;
        next = t.next - p.to_block;
        serial = rank_in N.serials t.serial;
        returning = t.returning;
        stamp = t.stamp;
        family = rank_in N.numbers t.family;
      }

  -- one of the part, as far as its names go
  pub record Known (N : Naming) (t : Transaction) : Type 0 where
    pub own : mine t ≡ true
    pub serial : N.serials t.serial ≡ true
    pub number : N.numbers t.number ≡ true
    pub family : N.numbers t.family ≡ true

  -- but for its serial
  pub record Ours (N : Naming) (t : Transaction) : Type 0 where
    pub own : mine t ≡ true
    pub number : N.numbers t.number ≡ true
    pub family : N.numbers t.family ≡ true

  pub ours : {N : Naming} {t : Transaction} → Known N t → Ours N t
  ours k = record { own = k.own; number = k.number; family = k.family }

  module _ (N : Naming) where
    abbrev pub event_as : Event → Event
    event_as e = record { time = e.time; who = seen_as_lem N e.who }

    abbrev pub gatherer_as : Gatherer → Gatherer
    gatherer_as g = record { who = seen_as_lem N g.who; come = g.come }

    -- ---- Orders

    -- ranks keep the order of serials, so those who are known stand in the same order
    pub precedes-seen : (a b : Transaction) → Known N a → Known N b → precedes (seen_as_lem N a) (seen_as_lem N b) ≡ precedes a b
    unfolding precedes
    precedes-seen a b h k =
        ap (λ (c : Bool). ltb b.priority a.priority || (eqb a.priority b.priority && c))
        (rank-ltb N.serials a.serial b.serial h.serial k.serial)

    pub earlier-seen : (a b : Event) → Known N a.who → Known N b.who → earlier (event_as a) (event_as b) ≡ earlier a b
    unfolding earlier
    earlier-seen a b h k =
        ap (λ (c : Bool). ltb a.time b.time || (eqb a.time b.time && c)) (precedes-seen a.who b.who h k)

    -- ranks tell numbers apart, so one family stays one
    pub family-seen : (t : Transaction) (g : Gatherer) → Known N t → Known N g.who → in_family (seen_as_lem N t) (gatherer_as g) ≡ in_family t g
    unfolding in_family
    family-seen t g h k = rank-eqb N.numbers g.who.family t.family (listed k.family) (listed h.family)

    -- ---- Onto a line

    pub insert-seen : (t : Transaction) (l : List Transaction) → Known N t → Each (Known N) l
        → insert precedes (seen_as_lem N t) (map (seen_as_lem N) l) ≡ map (seen_as_lem N) (insert precedes t l)
    insert-seen t l h k = insert-map (seen_as_lem N) precedes precedes t l (each_map (λ u q. precedes-seen t u h q) l k)

    -- either edition puts the newcomer at the same place
    pub line_up-seen : (edition : ℕ) (t : Transaction) (l : List Transaction) → Known N t → Each (Known N) l
        → line_up edition (seen_as_lem N t) (map (seen_as_lem N) l) ≡ map (seen_as_lem N) (line_up edition t l)
    unfolding line_up from_back
    line_up-seen edition t l h k = go (eqb edition 1) t.returning
      where
        behind : reverse (insert meets (seen_as_lem N t) (reverse (map (seen_as_lem N) l))) ≡ map (seen_as_lem N) (reverse (insert meets t (reverse l)))
        behind =
            ap (λ (r : List Transaction). reverse (insert meets (seen_as_lem N t) r)) (reverse-map (seen_as_lem N) l)
            ∙ ap reverse
            (insert-map (seen_as_lem N) meets meets t (reverse l)
            (all_same (λ (u : Transaction). meets (seen_as_lem N t) (seen_as_lem N u) ≡ meets t u) (λ u. refl) (reverse l)))
            ∙ reverse-map (seen_as_lem N) (insert meets t (reverse l))

        go : (a b : Bool)
            → cond a (insert precedes (seen_as_lem N t) (map (seen_as_lem N) l))
            (cond b (seen_as_lem N t ∷ map (seen_as_lem N) l) (reverse (insert meets (seen_as_lem N t) (reverse (map (seen_as_lem N) l)))))
            ≡ map (seen_as_lem N) (cond a (insert precedes t l) (cond b (t ∷ l) (reverse (insert meets t (reverse l)))))
        go true b = insert-seen t l h k
        go false true = refl
        go false false = behind

    -- ---- The part of a sorted list

    -- the part of a list, renamed, takes a newcomer of the part as the whole list does
    pub part-insert : (t : Transaction) (l : List Transaction) → Sorted precedes l → Known N t → Each (Known N) (those mine l)
        → insert precedes (seen_as_lem N t) (map (seen_as_lem N) (those mine l)) ≡ map (seen_as_lem N) (those mine (insert precedes t l))
    part-insert t l s h k =
        insert-seen t (those mine l) h k ∙ ap (map (seen_as_lem N)) (sym (those-insert precedes by_precedence mine t l s h.own))

    pub known-insert : (t : Transaction) (l : List Transaction) → Sorted precedes l → Known N t → Each (Known N) (those mine l)
        → Each (Known N) (those mine (insert precedes t l))
    known-insert t l s h k =
        rw (those-insert precedes by_precedence mine t l s h.own) (each-insert (Known N) precedes t (those mine l) h k)

    -- a returning mark is no name
    pub known-returning : (b : Bool) (t : Transaction) → Known N t → Known N (with_returning b t)
    known-returning b t h = record { own = h.own; serial = h.serial; number = h.number; family = h.family }

    -- some go to REL, of whom the part sees its own
    pub record Woken (l rel : List Transaction) : Type 0 where
      pub same : wake (map (seen_as_lem N) (those mine l)) (map (seen_as_lem N) (those mine rel)) ≡ map (seen_as_lem N) (those mine (wake l rel))
      pub known : Each (Known N) (those mine (wake l rel))
      pub sorted : Sorted precedes (wake l rel)

    -- whom the joined run wakes of this part the part alone wakes, into the same places
    pub wake-seen : (l rel : List Transaction) → Sorted precedes rel → Each (Known N) (those mine l) → Each (Known N) (those mine rel)
        → Woken l rel
    unfolding wake those
    wake-seen [] rel s h k = record { same = refl; known = k; sorted = s }
    wake-seen (t ∷ l) rel s h k = go (mine t) refl h (wake-seen l)
      where
        t' : Transaction
        t' = with_returning true t

        Rest : Type 0
        Rest =
            (rel : List Transaction) → Sorted precedes rel → Each (Known N) (those mine l) → Each (Known N) (those mine rel) → Woken l rel

        go : (b : Bool) → mine t ≡ b → Each (Known N) (cond b (t ∷ those mine l) (those mine l)) → Rest → Woken (t ∷ l) rel
        go true e h' more =
            let h₀ : Known N t' = known-returning true t h'.0 in
            let rest = more (insert precedes t' rel) (sorted_in t' rel s) h'.1 (known-insert t' rel s h₀ k) in
            record {
              same = rw e (ap (wake (map (seen_as_lem N) (those mine l))) (part-insert t' rel s h₀ k) ∙ rest.same);
              known = rest.known;
              sorted = rest.sorted;
            }
        go false e h' more =
            let gone : those mine (insert precedes t' rel) ≡ those mine rel = those-insert-other mine precedes t' rel e in
            let rest = more (insert precedes t' rel) (sorted_in t' rel s) h' (rw gone k) in
            record {
              same = rw e (ap (λ (r : List Transaction). wake (map (seen_as_lem N) (those mine l)) (map (seen_as_lem N) r)) (sym gone) ∙ rest.same);
              known = rest.known;
              sorted = rest.sorted;
            }
