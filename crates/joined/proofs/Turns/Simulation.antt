-- Two parts and their joined run, turn by turn: each turn of the joined run is a turn of one part alone, and the other part stands still.
use Rattle.machine.specs.All.{ℕ, ◌≤◌, ◌≡◌, refl, sym, ◌∙◌, true, false, true≢false, List, [], ◌∷◌, Option, none, some, arith, Transaction, Event, BlockModel, State, next_events, take_first, take_ready, taking, turn, waits_on, nobody_left, Each, length}
use Rattle.machine.proofs.{Decoding.Proper.Proper, Decoding.Proper.Names, Basic.Each.each_map, Runs.Kept.taking-kept, NobodyAble.Waiting.Waits, NobodyAble.WaitsKept.waits_kept, NobodyAble.WaitsKept.waits-taken, Runs.Placed.Placed, Runs.Placed.placed-turn}
use Rattle.machine.proofs.Runs.Everybody.{Everybody, taking-everybody, Unmoved}
use Rattle.machine.proofs.Runs.Shape.{Shape, shape_closed, shape-turn, server-length}
use Rattle.joined.specs.{Part}
use Rattle.joined.proofs as our
use our.{Lists.Ranks.listed-within, Relation.Naming.Naming, Relation.Seen.Seen, Own.Inside.Inside, Turns.ClockMove.move_clock-unmoved, Turns.OneTurn.handed, Turns.PartTurns.Strange}
use our.Relation.Paces.{Stands, Clocked, Pace, SameNumbers, Takes, rebased, rebase-pace}
use our.Turns.PartTurns.{own_turn, other-turn}
use our.Other.Strangers.{Facing, Rolls, others-there, strange}
use our.Turns.Taking.{Takings, moves, first, takings, Caught, ours, theirs, Catch, catch-moves, catch-ready, taken-moves, taken-first}

-- ---- What is known of the joined state

pub record Sane (M : BlockModel) (s : State) : Type 0 where
  pub shape : Shape M s
  pub waits : Waits M s
  pub placed : Everybody (Placed M) s

module _ {M : BlockModel} {tape : List (List ℕ)} (proper : Proper M tape) where
  pub sane-turn : (s : State) → s.end ≡ 0 → Sane M s → Sane M (turn M s)
  sane-turn s e h =
      record {
        shape = shape-turn M s h.shape;
        waits = (waits_kept proper s e h.shape h.waits).0;
        placed = placed-turn M tape proper s h.placed;
      }

  placed-unmoved : Unmoved (Placed M)
  placed-unmoved = record { mark = λ b t h. h; serial = λ n t h. h }

  pub placed-taken : (s : State) → Sane M s → Everybody (Placed M) (taking s.moving s)
  placed-taken s h = taking-everybody (Placed M) placed-unmoved s.moving s h.placed

-- the taking makes nobody
first_made : (l : List Transaction) (s : State) → (take_first l s).made ≡ s.made
unfolding take_first
first_made [] s = refl
first_made (t ∷ l) s = refl

events-made : (l : List Event) (s : State) → (next_events l s).made ≡ s.made
unfolding next_events
events-made [] s = refl
events-made (e ∷ l) s = (move_clock-unmoved e.time s).made

ready_made : (l : List Transaction) (s : State) → (take_ready l s).made ≡ s.made
unfolding take_ready
ready_made [] s = first_made _ _ ∙ events-made s.fel s
ready_made (t ∷ l) s = first_made (t ∷ l) s

taking-made : (o : Option Transaction) (s : State) → (taking o s).made ≡ s.made
unfolding taking
taking-made none s = ready_made s.rel s
taking-made (some t) s = refl

-- ---- The joined state beside two states of the parts

pub record Joint (p : Part) (m : BlockModel) (p' : Part) (m' : BlockModel) (s a b : State) : Type 0 where
  pub naming : Naming
  pub naming' : Naming
  pub pace : Pace p m naming s a
  pub pace' : Pace p' m' naming' s b
  pub rolls : Rolls naming naming'

-- ---- One turn: of part p, while p' stands still

module _ {M : BlockModel} {tape : List (List ℕ)} (proper : Proper M tape) (p : Part) (m : BlockModel) (p' : Part) (m' : BlockModel)
    (I : Inside p m M) (I' : Inside p' m' M)
    (F : Facing p m p' m' M) (F' : Facing p' m' p m M) where
  -- numbers that both had before are still of one
  rolls-then : (N N' n n' : Naming) (born : ℕ) → Rolls N N' → N.since ≡ born → N'.since ≡ born → SameNumbers p m N n
      → SameNumbers p' m' N' n' → ((k : ℕ) → n'.numbers k ≡ true → k ≤ born) → Rolls n n'
  rolls-then N N' n n' born R e e' h h' upto =
      record {
        disjoint = λ k a b.
            R.disjoint k (sym (h k (omega (arith, upto k b))) ∙ a) (sym (h' k (omega (arith, upto k b))) ∙ b);
        nobody = h 0 (omega arith) ∙ R.nobody;
        nobody' = h' 0 (omega arith) ∙ R.nobody';
      }

  -- t is in hand, one of p
  module _ (N N' : Naming) (R : Rolls N N') (s a b : State) (z : s.end ≡ 0) (sane : Sane M s) (t : Transaction)
      (taken : (taking s.moving s).moving ≡ some t)
      (e : N.since ≡ s.made) (e' : N'.since ≡ s.made) where
    -- one part takes its turn and the other stands: the three states are related again
    pub own-step : (n n' : Naming) → SameNumbers p m N n → n.since ≡ N.since → SameNumbers p' m' N' n' → Takes p m M I n t (handed M s) a
        → (c : State) → Seen p' m' n' (handed M s) c → Stands p' m' b c → c.moving ≡ none
        → Each (λ u. waits_on m' c.view u ≡ true) c.wsl → Clocked p' m' (handed M s) c
        → (turn M s).end ≡ 0 → (turn m a).end ≡ 0 → Joint p m p' m' (turn M s) (turn m a) b
    own-step n n' h since h' k c seen stands o w clocked zt za =
        let upto : (i : ℕ) → n'.numbers i ≡ true → i ≤ s.made =
        λ i d. rw (taking-made s.moving s) at (listed-within n'.numbers _ i seen.counted.numbers-upto d) in
        let rolls : Rolls n n' = rolls-then N N' n n' s.made R e e' h h' upto in
        let turned-rolls : Rolls n' n =
        record { disjoint = λ i x y. rolls.disjoint i y x; nobody = rolls.nobody'; nobody' = rolls.nobody } in
        let others = others-there p m p' m' M F I I' n n' rolls (handed M s) (handed m a) c k.together.seen seen
        (each_map (λ (x : Event) y. y.0) (taking s.moving s).fel (placed-taken proper s sane).fel) in
        let mine-turn = own_turn p m M I n t s a k taken zt za others in
        let shape : Shape M (taking s.moving s) = taking-kept (Shape M) (shape_closed M) s.moving s sane.shape in
        let waits : Waits M (taking s.moving s) = waits-taken M s z sane.waits in
        let odd : Strange p' m' M I' n' t (handed M s) =
        strange p' m' p m M F' I' I n' n turned-rolls (handed M s) c (handed m a) seen k.together.seen t k.known
        (server-length shape) waits.queued.ql-stands waits.gated.wel-stands in
        record {
          naming = mine-turn.naming;
          naming' = n';
          pace = mine-turn.pace;
          pace' = other-turn p' m' M I' n' t s b c seen stands o w clocked taken zt odd;
          rolls =
              rolls-then N N' mine-turn.naming n' s.made R e e' (λ i x. mine-turn.numbers i (omega (arith, since)) ∙ h i x) h' upto;
        }

turned_round : {p : Part} {m : BlockModel} {p' : Part} {m' : BlockModel} {s a b : State} → Joint p m p' m' s a b → Joint p' m' p m s b a
turned_round j =
    record {
      naming = j.naming';
      naming' = j.naming;
      pace = j.pace';
      pace' = j.pace;
      rolls = record { disjoint = λ i x y. j.rolls.disjoint i y x; nobody = j.rolls.nobody'; nobody' = j.rolls.nobody };
    }

-- ---- Whose turn it is

module _ {M : BlockModel} {tape : List (List ℕ)} (proper : Proper M tape) (p : Part) (m : BlockModel) (p' : Part) (m' : BlockModel)
    (I : Inside p m M) (I' : Inside p' m' M)
    (F : Facing p m p' m' M) (F' : Facing p' m' p m M) where
  -- it has somebody to take; where its turn ends nothing, the relation goes on
  pub data Turns (s a b : State) : Type 0 where
    one : (t : Transaction) → (taking a.moving a).moving ≡ some t → ((turn m a).end ≡ 0 → Joint p m p' m' (turn M s) (turn m a) b)
        → Turns s a b
    two : (t : Transaction) → (taking b.moving b).moving ≡ some t → ((turn m' b).end ≡ 0 → Joint p m p' m' (turn M s) a (turn m' b))
        → Turns s a b

  module _ (N N' : Naming) (R : Rolls N N') (s a b : State) (z : s.end ≡ 0) (sane : Sane M s) (e : N.since ≡ s.made)
      (e' : N'.since ≡ s.made) (zt : (turn M s).end ≡ 0) where
    R' : Rolls N' N
    R' = record { disjoint = λ i x y. R.disjoint i y x; nobody = R.nobody'; nobody' = R.nobody }

    caught : (t : Transaction) → (taking s.moving s).moving ≡ some t → (c : Catch p m M I N t s a) (c' : Catch p' m' M I' N' t s b)
        → Turns s a b
    caught t taken c c' = go c.caught c'.caught
      where
        block : Names (length M.blocks) t.next
        block = (rw taken at (placed-taken proper s sane).moving).0

        go : Caught p m M I c.naming t (handed M s) a → Caught p' m' M I' c'.naming t (handed M s) b → Turns s a b
        go (ours d k) (theirs d' x seen stands o w clocked) =
            one _ k.takes
            (λ za. own-step proper p m p' m' I I' F F' N N' R s a b z sane t taken e e' c.naming c'.naming c.numbers c.since
            c'.numbers k x seen stands o w clocked zt za)
        go (theirs d x seen stands o w clocked) (ours d' k) =
            two _ k.takes
            (λ zb.
            turned_round
            (own-step proper p' m' p m I' I F' F N' N R' s b a z sane t taken e' e c'.naming c.naming c'.numbers c'.since
            c.numbers k x seen stands o w clocked zt zb))
        go (ours d k) (ours d' k') = absurd (true≢false (sym d ∙ F.blocks t.next d'))
        go (theirs d x seen stands o w clocked) (theirs d' x' seen' stands' o' w' clocked') =
            absurd (true≢false (sym (F.covers t.next block d) ∙ d'))

  -- whoever is taken is of one part and not of the other
  pub whose : (s a b : State) → Joint p m p' m' s a b → s.end ≡ 0 → Sane M s → nobody_left s ≡ false → (turn M s).end ≡ 0 → Turns s a b
  whose s a b j z sane left zt = go (takings s left)
    where
      rolls : Rolls (rebased p m j.naming s.made) (rebased p' m' j.naming' s.made)
      rolls = record { disjoint = j.rolls.disjoint; nobody = j.rolls.nobody; nobody' = j.rolls.nobody' }

      h : Pace p m (rebased p m j.naming s.made) s a
      h = rebase-pace p m j.naming s a j.pace

      h' : Pace p' m' (rebased p' m' j.naming' s.made) s b
      h' = rebase-pace p' m' j.naming' s b j.pace'

      go : Takings s → Turns s a b
      go (moves t e) =
          caught _ _ rolls s a b z sane refl refl zt t (taken-moves p m M I s t e) (catch-moves p m M I _ s a h t e)
          (catch-moves p' m' M I' _ s b h' t e)
      go (first r ready taken o t l e) =
          caught _ _ rolls s a b z sane refl refl zt t (taken-first p m M I s r taken o t l e)
          (catch-ready p m M I _ s a h r ready taken o t l e)
          (catch-ready p' m' M I' _ s b h' r ready taken o t l e)
