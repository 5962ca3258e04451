-- A turn of the joined run, for one part: its own turn, or nothing.
use Rattle.machine.specs.All.{ℕ, suc, ◌+◌, ◌-◌, ◌≤◌, ◌≡◌, refl, sym, ap, ◌∙◌, Bool, true, false, not, Option, none, some, arith, Transaction, precedes, Event, those, server_at, Code, facts, BlockModel, block_at, State, set_moving, ql_of, wel_of, loses_to, wake, wake_wsl, effect, taking, waits_on, turn, Each, others, Block, subst, List, []}
use Rattle.machine.proofs.{Basic.Each.each_map, Basic.Each.each-pair, Basic.Each.each_unmap, Lists.Sorted.sorted-those, Basic.Lists.those-none}
use Rattle.joined.specs.{Part, in_part}
use Rattle.joined.proofs as our
use our.Lists.Members.{those-those, those-all}
use our.Relation.Naming.{Naming, mine}
use our.Relation.Seen.{size, alone_as, Seen}
use our.Own.Inside.{Inside, block-seen, waits_on-seen}
use our.Own.Moves.{standing, Together}
use our.Own.Steps.{shown-wake, wake_wsl-own}
use our.Own.Effect.{Moved, still, goes, Done, in-part, effect-own}
use our.{Own.Preempt.Others, Relation.Naming.Known, Other.Steps.Beside}
use our.Other.Steps.{OtherServer, OtherRow}
use our.Other.Effect.{Outside, nobody, Left, effect-other}
use our.Turns.OneTurn.{settled, handed, block_of, turned, waits-on}
use our.Relation.Paces.{Moving, own, away, Clocked, level, resting, Stands, same, Pace, Paced, Takes}

module _ (p : Part) (m M : BlockModel) (I : Inside p m M) where
  abbrev n : ℕ
  n = size p m

  -- ---- The WS scheme

  settled-own : (N : Naming) (x x' : State) → Seen p m N x x' → x'.view.clock ≡ x.view.clock → Seen p m N (settled M x) (settled m x')
  unfolding wake_wsl
  settled-own N x x' h c =
      let still-there : Together p m N (set_moving none x) (set_moving none x') =
      record {
        seen = record { counted = h.counted; fixtures = h.fixtures; lined = h.lined; listed = h.listed; told = h.told };
        clock = c;
        still = (refl, refl);
      } in
      let k = wake_wsl-own p m I.tables N _ _ still-there (λ t. not (waits_on M x.view t)) (λ t. not (waits_on m x'.view t))
      (each_map (λ (t : Transaction) q. ap not (waits_on-seen p m M I N _ _ _ _ h.fixtures t q)) (those (mine p n) x.wsl)
      h.listed.wsl.part.known) in
      record {
        counted = k.seen.counted;
        fixtures = k.seen.fixtures;
        lined = k.seen.lined;
        listed = k.seen.listed;
        told = k.seen.told;
      }

  -- nobody of the part is woken
  settled-other : (N : Naming) (x b : State) → Seen p m N x b → Each (λ u. waits_on m b.view u ≡ true) b.wsl
      → Seen p m N (settled M x) b
  unfolding wake_wsl wake
  settled-other N x b h w =
      let ours : List Transaction = those (mine p n) x.wsl in
      let q : Transaction → Bool = λ t. not (waits_on M x.view t) in
      let l = h.listed.wsl in
      let waits : Each (λ (t : Transaction). q t ≡ false) ours =
      each_map (λ (t : Transaction) d. ap not (sym (waits_on-seen p m M I N _ _ _ _ h.fixtures t d.0) ∙ d.1)) ours
      (each-pair (Known p n N) (λ (t : Transaction). waits_on m b.view (alone_as p m N t) ≡ true) ours l.part.known
      (each_unmap (alone_as p m N) (λ (u : Transaction). waits_on m b.view u ≡ true) ours (rw l.part.same at w))) in
      let go : those (mine p n) (those q x.wsl) ≡ [] = those-those (mine p n) q x.wsl ∙ those-none q ours waits in
      let stay : those (mine p n) (others q x.wsl) ≡ ours =
      those-those (mine p n) (λ t. not (q t)) x.wsl
      ∙ those-all (λ t. not (q t)) ours (each_map (λ (t : Transaction) d. ap not d) ours waits) in
      record {
        counted = h.counted;
        fixtures = h.fixtures;
        lined = h.lined;
        listed =
            record {
              wsl =
                  record {
                    part = rw stay l.part;
                    sorted = sorted-those precedes (λ t. not (q t)) x.wsl l.sorted;
                  };
              rel =
                  rw go at (shown-wake p m I.tables N h.listed.rel (those q x.wsl) (subst (Each (Known p n N)) (sym go) tt));
              fel = h.listed.fel;
              interrupted = h.listed.interrupted;
              facilities = h.listed.facilities;
            };
        told = h.told;
      }

  -- ---- The part's own turn

  next_in : (b : ℕ) → suc b ≤ size p m → in_part p n (suc (b + p.to_block)) ≡ true
  next_in b h = rw one_on at (in-part p m (suc b) (omega arith, h))
    where
      one_on : suc b + p.to_block ≡ suc (b + p.to_block)
      one_on = omega arith

  moves-on : (N : Naming) {o o' : Option Transaction} → Moved p m N o o' → Moving p m N o o'
  moves-on N still = away nobody
  moves-on N (goes t k) = own t k

  done_paced : (N : Naming) (x x' : State) → Done p m N x x' → Paced p m N (settled M x) (settled m x')
  unfolding wake_wsl
  done_paced N x x' d =
      record {
        naming = d.naming;
        pace =
            record {
              seen_as = settled m x';
              stands = same;
              seen = settled-own d.naming x x' d.seen d.clock;
              moving = moves-on d.naming d.moving;
              clocked = level d.clock;
              holding = waits-on m x';
            };
        numbers = d.numbers;
        since = d.since;
      }

  -- the part's own turn, from its taking to the WS scheme
  pub own_turn : (N : Naming) (t : Transaction) (s a : State) → Takes p m M I N t (handed M s) a → (taking s.moving s).moving ≡ some t
      → (turn M s).end ≡ 0 → (turn m a).end ≡ 0
      → Others p m I.tables N (handed M s).fel → Paced p m N (turn M s) (turn m a)
  own_turn N t s a k e z z' o =
      let at = standing p m t.next k.known.own in
      let b : Block = block_at m (t.next - p.to_block) in
      let on : (facts b).leaves ≡ false → in_part p n (suc t.next) ≡ true =
      λ d. rw at.there at (next_in (t.next - p.to_block) (I.goes_on (t.next - p.to_block) at.names d)) in
      let x : State = effect M (block_of M t) t (handed M s) in
      let x' : State = effect m b (alone_as p m N t) (handed m a) in
      let done : Done p m N x x' =
      rw (block-seen p m M I N t k.known)
      (effect-own p m M I N (handed M s) (handed m a) k.together t k.known b (I.proper _ at.names) (I.plain _ at.names) on
      (I.goes_back _ at.names) o) in
      let there : turn M s ≡ settled M x = (turned M s t e z).1 in
      let here : turn m a ≡ settled m x' = (turned m a (alone_as p m N t) k.takes z').1 in
      subst (Paced p m N (turn M s)) (sym here) (rw there (done_paced N x x' done))

  -- ---- A turn of the other part

  -- what is known of a block of the other part, and of those whom it may concern
  pub record Strange (N : Naming) (t : Transaction) (q : State) : Type 0 where
    pub not-mine : mine p n t ≡ false
    pub row : OtherRow p m t.next
    pub outside : Outside p m (block_of M t)
    -- a block of the other part leads to a block of the other part
    pub on : (facts (block_of M t)).leaves ≡ false → in_part p n (suc t.next) ≡ false
    pub back : in_part p n (t.next - (facts (block_of M t)).back) ≡ false
    -- its servers have nobody of the part in their lines
    pub queues : (v : ℕ) → OtherServer p m v → Each (λ u. mine p n u ≡ false) (ql_of q v)
    pub gates : (v : ℕ) (code : Code) → OtherServer p m v → Each (λ u. mine p n u ≡ false) (wel_of q v code)
    -- nor do they lose a facility of the other part
    pub losers : (f : ℕ) → OtherServer p m f
        → Each (λ (y : Event). loses_to t (server_at q.view f) y ≡ true → mine p n y.who ≡ false) q.fel

  left-pace : (N : Naming) (c : ℕ) (x a b : State) → Left p m N c x b → Stands p m a b → b.moving ≡ none
      → Each (λ u. waits_on m b.view u ≡ true) b.wsl
      → ((y : State) → y.view.clock ≡ c → Clocked p m y b) → Pace p m N (settled M x) a
  unfolding wake_wsl
  left-pace N c x a b l stands o w clocks =
      record {
        seen_as = b;
        stands = stands;
        seen = settled-other N x b l.seen w;
        moving = rw o (away l.moving);
        clocked = clocks (settled M x) l.time;
        holding = w;
      }

  -- q is the state with t in hand
  pub other-turn : (N : Naming) (t : Transaction) (s a b : State) → Seen p m N (handed M s) b → Stands p m a b → b.moving ≡ none
      → Each (λ u. waits_on m b.view u ≡ true) b.wsl
      → Clocked p m (handed M s) b → (taking s.moving s).moving ≡ some t → (turn M s).end ≡ 0 → Strange N t (handed M s)
      → Pace p m N (turn M s) a
  other-turn N t s a b h stands o w clocked e z k =
      let c : ℕ = (handed M s).view.clock in
      let beside : Beside p m N c (handed M s) b = record { seen = h; time = refl; still = refl; gates = k.gates } in
      let left : Left p m N c (effect M (block_of M t) t (handed M s)) b =
      effect-other p m I.tables N c b I.facility M t k.not-mine k.row (handed M s) beside k.queues k.losers (block_of M t)
      k.outside k.on k.back in
      rw (turned M s t e z).1 (left-pace N c _ a b left stands o w (clocks clocked))
    where
      clocks : Clocked p m (handed M s) b → (y : State) → y.view.clock ≡ (handed M s).view.clock → Clocked p m y b
      clocks (level d) y q = level (d ∙ sym q)
      clocks (resting d r) y q = resting d r
