-- Steps of the part at an ASSEMBLE (document 02, item 8).
use Rattle.machine.specs.All.{ℕ, suc, ◌-◌, ◌≡◌, refl, Bool, true, false, List, [], ◌∷◌, map, Transaction, precedes, Gatherer, BlockModel, State, with_next, with_returning, gatherers_at, set_gatherers_at, in_family, waits_for, set_waits_for, to_gatherers, comes, released, Each, insert, those, replace_first, ap, ◌∙◌}
use Rattle.machine.proofs.Basic.Each.{each_map, each-insert, each-those, each_replace}
use Rattle.joined.specs.{Part, in_part}
use Rattle.joined.proofs as our
use our.Lists.Members.{insert-map, those-map, replace-map}
use our.Lists.Tables.{rows-put, rows_at}
use our.Relation.Naming.{Naming, Known, gatherer_as, precedes-seen, family-seen}
use our.Relation.Seen.{size, block_there, Tables, alone_as, Alike}
use our.Own.Moves.{Standing, standing, Together, put-gatherers}
use our.Own.Makes.{After, to_rel-after, next-back, Puts}

module _ (p : Part) (m : BlockModel) (T : Tables p m) where
  abbrev n : ℕ
  n = size p m

  abbrev GathersAs : Naming → List Gatherer → List Gatherer → Type 0
  GathersAs N = Alike p m N (gatherer_as p n N) (λ g. g.who)

  module _ (N : Naming) (s s' : State) (h : Together p m N s s') (t : Transaction) (k : Known p n N t) where
    at : Standing p m t.next
    at = standing p m t.next k.own

    index : block_there p m (t.next - p.to_block) ≡ t.next - 1
    index = ap (λ (b : ℕ). b - 1) at.there

    -- who waits at its block
    pub gatherers-seen : GathersAs N (gatherers_at s t.next) (gatherers_at s' (t.next - p.to_block))
    gatherers-seen = rows_at _ _ _ _ _ _ _ _ h.seen.lined.gatherers (t.next - p.to_block) at.names _ _ index refl

    -- others wait there
    gathers-put : (l l' : List Gatherer) → GathersAs N l l'
        → Together p m N (set_gatherers_at t.next l s) (set_gatherers_at (t.next - p.to_block) l' s')
    gathers-put l l' q =
        put-gatherers p m T N s s' h _ _
        (rows-put _ _ _ _ _ _ _ _ h.seen.lined.gatherers T.blocks (t.next - p.to_block) at.names _ _ index refl _ _ q)

    same-family : Each (λ g. in_family (alone_as p m N t) (gatherer_as p n N g) ≡ in_family t g) (gatherers_at s t.next)
    same-family = each_map (λ g q. family-seen p n N t g k q) (gatherers_at s t.next) gatherers-seen.known

    pub waits_for-seen : GathersAs N (waits_for t s) (waits_for (alone_as p m N t) s')
    waits_for-seen =
        record {
          same =
              ap (those (in_family (alone_as p m N t))) gatherers-seen.same
              ∙ those-map (gatherer_as p n N) _ (in_family t) (gatherers_at s t.next) same-family;
          known = each-those (λ (g : Gatherer). Known p n N g.who) (in_family t) (gatherers_at s t.next) gatherers-seen.known;
        }

    gathers_replace : (few : List Gatherer) → Each (λ g. Known p n N g.who) few
        → Together p m N (set_waits_for t few s) (set_waits_for (alone_as p m N t) (map (gatherer_as p n N) few) s')
    gathers_replace few f =
        gathers-put _ _
        (record {
          same =
              ap (replace_first (in_family (alone_as p m N t)) (map (gatherer_as p n N) few)) gatherers-seen.same
              ∙ replace-map (gatherer_as p n N) (in_family (alone_as p m N t)) (in_family t) few (gatherers_at s t.next) same-family;
          known =
              each_replace (λ (g : Gatherer). Known p n N g.who) (in_family t) few (gatherers_at s t.next) f gatherers-seen.known;
        })

    pub comes-own : (g : Gatherer) → Known p n N g.who → Together p m N (comes g t s) (comes (gatherer_as p n N g) (alone_as p m N t) s')
    unfolding comes
    comes-own g q = gathers_replace (record { who = g.who; come = suc g.come } ∷ []) (q, tt)

    pub released-own : (g : Gatherer) → Known p n N g.who → in_part p n (suc t.next) ≡ true
        → After p m N (released g t s) (released (gatherer_as p n N g) (alone_as p m N t) s')
    unfolding released
    released-own g q on =
        rw (next-back p m T t k.own) at (to_rel-after p m T N _ _ (gathers_replace [] tt)
        (with_returning false (with_next (suc t.next) g.who)) (record { own = on; number = q.number; family = q.family }))

  pub gatherers-put : Puts p m T to_gatherers to_gatherers
  unfolding to_gatherers
  gatherers-put N s s' h t k =
      let one : Gatherer = record { who = t; come = 1 } in
      let now : GathersAs N (gatherers_at s t.next) (gatherers_at s' (t.next - p.to_block)) = gatherers-seen N s s' h t k in
      let ahead : Gatherer → Gatherer → Bool = λ a b. precedes a.who b.who in
      gathers-put N s s' h t k _ _
      (record {
        same =
            ap (insert ahead (gatherer_as p n N one)) now.same
            ∙ insert-map (gatherer_as p n N) ahead ahead one (gatherers_at s t.next)
            (each_map (λ (g : Gatherer) q. precedes-seen p n N t g.who k q) (gatherers_at s t.next) now.known);
        known = each-insert (λ (g : Gatherer). Known p n N g.who) ahead one (gatherers_at s t.next) k now.known;
      })
