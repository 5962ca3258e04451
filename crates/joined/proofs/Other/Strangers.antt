-- Two parts of one joined model: what is of the one is not of the other.
use Rattle.machine.specs.All.{ℕ, suc, ◌+◌, ◌-◌, ◌≤◌, ◌≡◌, refl, sym, ap, ◌∙◌, Bool, true, false, cond, ◌&&◌, true≢false, List, [], ◌∷◌, arith, ltb, length, get_or, get_or-eq_default, eqb-true, ltb-true, ltb-false, Transaction, Event, those, nth, Server, View, idle_server, server_at, Condition, always, when_true, Code, facility, storage, share_server, Block, generate, advance, terminate, takes, frees, wait_server, wait_terms, moves, assign, priority, split, counts, assemble, preempt, give_back, facts, BlockModel, block_at, wel_index, unconditional, State, ql_of, wel_of, loses_to, Each, ◌<◌, not, eqb}
use Rattle.machine.proofs.Decoding.Proper.{Names, servers, ProperBlock, code-server, share-server}
use Rattle.machine.proofs.Basic.Each.{each_map, each-pair}
use Rattle.joined.specs.{Part, server_in, share_in, condition_in, block_in, in_part}
use Rattle.joined.proofs as our
use our.{Lists.Members.no_true, Own.Effect.in-part, Other.Effect.Outside, Turns.OneTurn.block_of, Turns.PartTurns.Strange}
use our.Lists.Ranks.{Named, listed, nobody}
use our.Relation.Naming.{Naming, mine, Known}
use our.Relation.Seen.{size, server_there, queue_there, list_there, Seen}
use our.Own.Inside.{Inside, block-seen, share-server as share-image}
use our.Own.Moves.{Standing, standing}
use our.Own.Preempt.{NotOurs, Others}
use our.Other.Steps.{OtherServer, OtherRow, other_gate}

-- ---- Definition

-- a part p, and the other one
pub record Facing (p : Part) (m : BlockModel) (p' : Part) (m' M : BlockModel) : Type 0 where
  -- a block of the joined model is of one part or of the other
  pub covers : (b : ℕ) → Names (length M.blocks) b → in_part p (size p m) b ≡ false → in_part p' (size p' m') b ≡ true
  -- and never of both
  pub blocks : (b : ℕ) → in_part p' (size p' m') b ≡ true → in_part p (size p m) b ≡ false
  -- no row of a table is of both parts
  pub servers-apart : (u v : ℕ) → Names (servers m) u → Names (servers m') v → server_there p m u ≡ server_there p' m' v → ⊥
  pub queues-apart : (u v : ℕ) → Names m.queues u → Names m'.queues v → queue_there p m u ≡ queue_there p' m' v → ⊥
  pub lists-apart : (u v : ℕ) → Names m.lists u → Names m'.lists v → list_there p m u ≡ list_there p' m' v → ⊥
  -- a server of neither does not exist
  pub servers_cover : (i : ℕ) → ((u : ℕ) → Names (servers m) u → server_there p m u ≡ i → ⊥)
      → ((v : ℕ) → Names (servers m') v → server_there p' m' v ≡ i → ⊥) → servers M ≤ i

-- ---- What blocks have in common with their images

module _ (p : Part) where
  pub leaves_in : (b : Block) → (facts (block_in p b)).leaves ≡ (facts b).leaves
  unfolding facts block_in condition_in unconditional
  leaves_in (generate list k) = refl
  leaves_in (advance list) = refl
  leaves_in (terminate a) = refl
  leaves_in (takes x) = refl
  leaves_in (frees x) = refl
  leaves_in (wait_server code v c) = refl
  leaves_in (wait_terms a r b) = refl
  leaves_in (moves c target) = same c
    where
      same : (c : Condition) → unconditional (condition_in p c) ≡ unconditional c
      same always = refl
      same (when_true a r b) = refl
  leaves_in (assign k a) = refl
  leaves_in (priority k) = refl
  leaves_in (split n target) = refl
  leaves_in (counts c q) = refl
  leaves_in (assemble n) = refl
  leaves_in (preempt f) = refl
  leaves_in (give_back f) = refl

  pub back_in : (b : Block) → (facts (block_in p b)).back ≡ (facts b).back
  unfolding facts block_in
  back_in (generate list k) = refl
  back_in (advance list) = refl
  back_in (terminate a) = refl
  back_in (takes x) = refl
  back_in (frees x) = refl
  back_in (wait_server code v c) = refl
  back_in (wait_terms a r b) = refl
  back_in (moves c target) = refl
  back_in (assign k a) = refl
  back_in (priority k) = refl
  back_in (split n target) = refl
  back_in (counts c q) = refl
  back_in (assemble n) = refl
  back_in (preempt f) = refl
  back_in (give_back f) = refl

  module _ (m : BlockModel) where
    -- the server that the image of a block takes, or asks for a code
    at-server : (b : Block) → ProperBlock m b → (v : ℕ) → 1 ≤ v → (facts (block_in p b)).server ≡ v
        → ((u : ℕ) → Names (servers m) u → server_in p u ≡ v → ⊥) → ⊥
    unfolding facts block_in
    at-server (generate list k) ok v one e f = omega arith
    at-server (advance list) ok v one e f = omega arith
    at-server (terminate a) ok v one e f = omega arith
    at-server (takes x) ok v one e f = f (share_server x) (share-server m x ok) (sym (share-image p x) ∙ e)
    at-server (frees x) ok v one e f = omega arith
    at-server (wait_server code u c) ok v one e f = omega arith
    at-server (wait_terms a r b) ok v one e f = omega arith
    at-server (moves c target) ok v one e f = omega arith
    at-server (assign k a) ok v one e f = omega arith
    at-server (priority k) ok v one e f = omega arith
    at-server (split n target) ok v one e f = omega arith
    at-server (counts c q) ok v one e f = omega arith
    at-server (assemble n) ok v one e f = omega arith
    at-server (preempt u) ok v one e f = f u (ok.0, omega (arith, ok.1)) e
    at-server (give_back u) ok v one e f = omega arith

    at_gate : (b : Block) → ProperBlock m b → (i : ℕ) → (facts (block_in p b)).wel ≡ suc i
        → ((u : ℕ) (code : Code) → Names (servers m) u → wel_index (server_in p u) code ≡ i → ⊥) → ⊥
    unfolding facts block_in
    at_gate (generate list k) ok i e f = omega arith
    at_gate (advance list) ok i e f = omega arith
    at_gate (terminate a) ok i e f = omega arith
    at_gate (takes x) ok i e f = omega arith
    at_gate (frees x) ok i e f = omega arith
    at_gate (wait_server code u c) ok i e f = f u code (code-server m code u ok.0) (less e)
      where
        less : {a b : ℕ} → suc a ≡ suc b → a ≡ b
        less q = omega arith
    at_gate (wait_terms a r b) ok i e f = omega arith
    at_gate (moves c target) ok i e f = omega arith
    at_gate (assign k a) ok i e f = omega arith
    at_gate (priority k) ok i e f = omega arith
    at_gate (split n target) ok i e f = omega arith
    at_gate (counts c q) ok i e f = omega arith
    at_gate (assemble n) ok i e f = omega arith
    at_gate (preempt u) ok i e f = omega arith
    at_gate (give_back u) ok i e f = omega arith

-- ---- A block of the other part names nothing of this one

module _ (p : Part) (m : BlockModel) (p' : Part) (m' M : BlockModel) (F : Facing p m p' m' M) where
  other-server : (v : ℕ) → Names (servers m') v → OtherServer p m (server_in p' v)
  other-server v i u k e = F.servers-apart u v k i e

  other-target : (target : ℕ) → Names (size p' m') target → in_part p (size p m) (target + p'.to_block) ≡ false
  other-target target i = F.blocks (target + p'.to_block) (in-part p' m' target i)

  pub outside_in : (b : Block) → ProperBlock m' b → Outside p m (block_in p' b)
  unfolding block_in share_server share_in
  outside_in (generate list k) ok = λ u i e. F.lists-apart u list i ok.0 e
  outside_in (advance list) ok = λ u i e. F.lists-apart u list i ok e
  outside_in (terminate a) ok = tt
  outside_in (takes (facility v)) ok = other-server v (ok.0, omega (arith, ok.1))
  outside_in (takes (storage v b)) ok = other-server v (omega (arith, ok.0.0), ok.0.1)
  outside_in (frees (facility v)) ok = other-server v (ok.0, omega (arith, ok.1))
  outside_in (frees (storage v b)) ok = other-server v (omega (arith, ok.0.0), ok.0.1)
  outside_in (wait_server code v c) ok = other-server v (code-server m' code v ok.0)
  outside_in (wait_terms a r b) ok = tt
  outside_in (moves c target) ok = other-target target ok
  outside_in (assign k a) ok = tt
  outside_in (priority k) ok = tt
  outside_in (split n target) ok = other-target target ok.1
  outside_in (counts c q) ok = λ u i e. F.queues-apart u q i ok e
  outside_in (assemble n) ok = tt
  outside_in (preempt f) ok = other-server f (ok.0, omega (arith, ok.1))
  outside_in (give_back f) ok = other-server f (ok.0, omega (arith, ok.1))

-- a block that is not of the part has no row of it
pub other_row : (p : Part) (m : BlockModel) (b : ℕ) → 1 ≤ b → in_part p (size p m) b ≡ false → OtherRow p m b
other_row p m b one e u i q =
    let same : u + p.to_block ≡ b = omega (arith, i.0) in
    true≢false (sym (in-part p m u i) ∙ ap (in_part p (size p m)) same ∙ e)

-- what each of those that pass a test is, each is that passes it
pub each-passing : {A : Type 0} (P : A → Type 0) (q : A → Bool) (l : List A) → Each P (those q l) → Each (λ x. q x ≡ true → P x) l
unfolding those
each-passing P q [] h = tt
each-passing {A} P q (x ∷ l) h = go (q x) refl h (each-passing P q l)
  where
    go : (b : Bool) → q x ≡ b → Each P (cond b (x ∷ those q l) (those q l)) → (Each P (those q l) → Each (λ x. q x ≡ true → P x) l)
        → (q x ≡ true → P x) × Each (λ x. q x ≡ true → P x) l
    go true e h more = ((λ d. h.0), more h.1)
    go false e h more = ((λ d. absurd (true≢false (sym d ∙ e))), more h)

-- ---- Who loses a facility

all-four : (a b c d : Bool) → (a && b && c && d) ≡ true → (a ≡ true) × (c ≡ true)
all-four true true true d e = (refl, refl)
all-four true true false d e = absurd (true≢false (sym e))
all-four true false c d e = absurd (true≢false (sym e))
all-four false b c d e = absurd (true≢false (sym e))

loses-holder : (t : Transaction) (v : Server) (y : Event) → loses_to t v y ≡ true → (y.who.number ≡ v.holder) × (ltb 0 v.in_use ≡ true)
unfolding loses_to
loses-holder t v y e =
    let h = all-four (ltb 0 v.in_use) (not v.preempted) (eqb y.who.number v.holder) (ltb y.who.priority t.priority) e in
    (eqb-true _ _ h.1, h.0)

server-at : (w : View) (f : ℕ) → server_at w f ≡ get_or w.servers (f - 1) (idle_server 0)
unfolding server_at
server-at w f = refl

idle-free : ltb 0 (idle_server 0).in_use ≡ false
unfolding idle_server
idle-free = refl

-- ---- The rolls of both

pub record Rolls (N N' : Naming) : Type 0 where
  pub disjoint : (k : ℕ) → N.numbers k ≡ true → N'.numbers k ≡ true → ⊥
  pub nobody : N.numbers 0 ≡ false
  pub nobody' : N'.numbers 0 ≡ false

module _ (p : Part) (m : BlockModel) (p' : Part) (m' M : BlockModel) (F : Facing p m p' m' M) (I : Inside p m M) (I' : Inside p' m' M)
    (N N' : Naming) (R : Rolls N N') where
  abbrev mine? : Transaction → Bool
  mine? = mine p (size p m)

  block-there : (b : ℕ) → in_part p (size p m) b ≡ true → block_at M b ≡ block_in p (block_at m (b - p.to_block))
  block-there b e =
      let at = standing p m b e in
      rw at.there at (I.block (b - p.to_block) at.names)

  proper-there : (b : ℕ) → in_part p (size p m) b ≡ true → ProperBlock m (block_at m (b - p.to_block))
  proper-there b e = I.proper _ (standing p m b e).names

  one-at-least : (k : ℕ) → N'.numbers k ≡ true → 1 ≤ k
  one-at-least k e = go (ltb 0 k) refl
    where
      zero_of : ltb 0 k ≡ false → k ≡ 0
      zero_of d = omega (arith, ltb-false 0 k d)

      go : (b : Bool) → ltb 0 k ≡ b → 1 ≤ k
      go true d = ltb-true 0 k d
      go false d = absurd (true≢false (sym e ∙ ap N'.numbers (zero_of d) ∙ R.nobody'))

  not_ours : (t : Transaction) → Known p' (size p' m') N' t → NotOurs N t
  not_ours t k =
      record {
        number = no_true (N.numbers t.number) (λ e. R.disjoint t.number e k.number);
        born = one-at-least t.number k.number;
      }

  module _ (q b b' : State) (h : Seen p m N q b) (h' : Seen p' m' N' q b') where
    -- every event of the other part
    pub others-there : Each (λ (e : Event). Names (length M.blocks) e.who.next) q.fel → Others p m I.tables N q.fel
    others-there placed =
        each_map {Q = λ (e : Event). mine p (size p m) e.who ≡ false → NotOurs N e.who}
        (λ (e : Event) k d. not_ours e.who (k.1 (F.covers e.who.next k.0 d))) q.fel
        (each-pair (λ (e : Event). Names (length M.blocks) e.who.next)
        (λ (e : Event). mine p' (size p' m') e.who ≡ true → Known p' (size p' m') N' e.who) q.fel placed
        (each-passing (λ (e : Event). Known p' (size p' m') N' e.who) (λ (e : Event). mine p' (size p' m') e.who) q.fel
        h'.listed.fel.part.known))

    -- nobody of the part loses a facility of the other
    losers-there : length q.view.servers ≡ servers M → (t : Transaction) (f : ℕ) → OtherServer p m f
        → Each (λ (y : Event). loses_to t (server_at q.view f) y ≡ true → mine? y.who ≡ false) q.fel
    losers-there long t f o =
        each_map {Q = λ (y : Event). loses_to t (server_at q.view f) y ≡ true → mine? y.who ≡ false}
        (λ (y : Event) k l. no_true (mine? y.who) (λ d. never y (k d).number l)) q.fel
        (each-passing (λ (y : Event). Known p (size p m) N y.who) (λ (y : Event). mine? y.who) q.fel h.listed.fel.part.known)
      where
        stranger : (y : Event) → N.numbers y.who.number ≡ true → {x : ℕ} → Named N'.numbers x → y.who.number ≡ x → ⊥
        stranger y e {x} (listed a) s = R.disjoint y.who.number e (ap N'.numbers s ∙ a)
        stranger y e (nobody a) s = true≢false (sym e ∙ ap N.numbers (s ∙ a) ∙ R.nobody)

        never : (y : Event) → N.numbers y.who.number ≡ true → loses_to t (server_at q.view f) y ≡ true → ⊥
        never y e l =
            let past : servers M ≤ f - 1 =
            F.servers_cover (f - 1) o
            (λ u i d. stranger y e (rw d at (h'.fixtures.servers.alike u i).holder-named)
            ((loses-holder t (server_at q.view f) y l).0 ∙ ap (λ (x : Server). x.holder) (server-at q.view f))) in
            true≢false
            (sym (loses-holder t (server_at q.view f) y l).1
            ∙ ap (λ (x : Server). ltb 0 x.in_use) (server-at q.view f ∙ default-at past) ∙ idle-free)
          where
            default-at : servers M ≤ f - 1 → get_or q.view.servers (f - 1) (idle_server 0) ≡ idle_server 0
            default-at past = get_or-eq_default q.view.servers (idle_server 0) (omega (arith, long))

    -- who stands on lists of the other part is of the other part, since lists hold those who stand at their block
    pub strange : (t : Transaction) → Known p' (size p' m') N' t → length q.view.servers ≡ servers M
        → ((v : ℕ) → 1 ≤ v → Each (λ u. (facts (block_at M u.next)).server ≡ v) (nth q.ql v []))
        → ((i : ℕ) → Each (λ u. (facts (block_at M u.next)).wel ≡ suc i) (get_or q.wel i [])) → Strange p m M I N t q
    strange t k long ql-stands wel-stands =
        record {
          not-mine = F.blocks t.next k.own;
          row = other_row p m t.next (omega (arith, at.there, at.names.0)) (F.blocks t.next k.own);
          outside = rw block (outside_in p m p' m' M F (block_at m' (t.next - p'.to_block)) (I'.proper _ at.names));
          on = λ d. F.blocks (suc t.next) (next_in (sym (leaves_in p' _) ∙ ap (λ (c : Block). (facts c).leaves) (sym block) ∙ d));
          back = F.blocks (t.next - (facts (block_of M t)).back) back_in-part;
          queues = λ v o. queued v o;
          gates = λ v code o.
              each_map
              (λ (u : Transaction) e. no_true (mine? u) (λ d.
              at_gate p m (block_at m (u.next - p.to_block)) (proper-there u.next d) (wel_index v code)
              (ap (λ (c : Block). (facts c).wel) (sym (block-there u.next d)) ∙ e)
              (λ x c i s. other_gate p m v code o (record { server = x; code = c }) i s)))
              (wel_of q v code) (wel-stands (wel_index v code));
          losers = λ f o. losers-there long t f o;
        }
      where
        at : Standing p' m' t.next
        at = standing p' m' t.next k.own

        block : block_at M t.next ≡ block_in p' (block_at m' (t.next - p'.to_block))
        block = block-seen p' m' M I' N' t k

        next_in : (facts (block_at m' (t.next - p'.to_block))).leaves ≡ false → in_part p' (size p' m') (suc t.next) ≡ true
        next_in d =
            let on = I'.goes_on (t.next - p'.to_block) at.names d in
            let e : suc (t.next - p'.to_block) + p'.to_block ≡ suc t.next = omega (arith, at.there) in
            rw e at (in-part p' m' (suc (t.next - p'.to_block)) (omega arith, on))

        back_in-part : in_part p' (size p' m') (t.next - (facts (block_of M t)).back) ≡ true
        back_in-part =
            let c : ℕ = (facts (block_at m' (t.next - p'.to_block))).back in
            let same : (facts (block_of M t)).back ≡ c =
            ap (λ (x : Block). (facts x).back) block ∙ back_in p' (block_at m' (t.next - p'.to_block)) in
            let lt : c < t.next - p'.to_block = I'.goes_back _ at.names in
            let e : t.next - p'.to_block - c + p'.to_block ≡ t.next - (facts (block_of M t)).back = omega (arith, at.there, same) in
            rw e at (in-part p' m' (t.next - p'.to_block - c) (omega arith, omega (arith, at.names.1)))

        queued : (v : ℕ) → OtherServer p m v → Each (λ u. mine? u ≡ false) (ql_of q v)
        queued v o =
            let e : suc (v - 1) - 1 ≡ v - 1 = omega arith in
            each_map {P = λ (u : Transaction). (facts (block_at M u.next)).server ≡ suc (v - 1)} {Q = λ (u : Transaction). mine? u ≡ false}
            (λ (u : Transaction) a. no_true (mine? u) (λ d.
            at-server p m (block_at m (u.next - p.to_block)) (proper-there u.next d) (suc (v - 1)) (omega arith)
            (ap (λ (c : Block). (facts c).server) (sym (block-there u.next d)) ∙ a)
            (λ x i s. o x i (ap (λ (n : ℕ). n - 1) s ∙ e))))
            (ql_of q v) (rw e at (ql-stands (suc (v - 1)) (omega arith)))
