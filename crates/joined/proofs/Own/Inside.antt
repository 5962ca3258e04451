-- A part inside the joined model: what its own turns ask of the two models, and what blocks have in common with their images.
use Rattle.machine.specs.All.{ℕ, suc, ◌+◌, ◌-◌, ◌≤◌, ◌<◌, ◌≡◌, refl, false, List, Transaction, any_of, View, Share, facility, storage, share_server, share_units, Block, generate, advance, terminate, takes, frees, wait_server, wait_terms, moves, assign, priority, split, counts, assemble, preempt, give_back, facts, above_one, BlockModel, block_at, begins_group, units_of_lem, holds, waits_on, sym, ap, ◌∙◌, when_true}
use lib.IntN.{ℤ}
use Rattle.machine.proofs.Decoding.Proper.{Names, ProperBlock}
use Rattle.joined.specs.{Part, server_in, share_in, condition_in, block_in}
use Rattle.joined.proofs as our
use our.Relation.Naming.{Naming, Known}
use our.Own.Moves.{standing}
use our.Relation.Seen.{size, Tables, alone_as, Fixtures}
use our.Own.Terms.{Plain, PlainCondition, Values, truth-same}

-- ---- Definition

abbrev pub PlainBlock : Part → BlockModel → Block → Type 0
PlainBlock p m (generate list k) = Unit {0}
PlainBlock p m (advance list) = Unit {0}
PlainBlock p m (terminate a) = Unit {0}
PlainBlock p m (takes x) = Unit {0}
PlainBlock p m (frees x) = Unit {0}
PlainBlock p m (wait_server code v c) = Unit {0}
PlainBlock p m (wait_terms a r b) = Plain p m a × Plain p m b
PlainBlock p m (moves c target) = PlainCondition p m c
PlainBlock p m (assign k a) = Plain p m a
PlainBlock p m (priority k) = Unit {0}
PlainBlock p m (split n target) = Unit {0}
PlainBlock p m (counts c q) = Unit {0}
PlainBlock p m (assemble n) = Unit {0}
PlainBlock p m (preempt f) = Unit {0}
PlainBlock p m (give_back f) = Unit {0}

pub record Inside (p : Part) (m M : BlockModel) : Type 0 where
  pub tables : Tables p m
  pub values : Values p m M
  pub edition : M.edition ≡ m.edition
  -- edition 2 asks whether any block takes more than one unit: the joined model answers as the part does
  pub units : (m.edition ≡ 1 → ⊥) → any_of above_one M.blocks ≡ any_of above_one m.blocks
  -- of each of the part's blocks
  pub block : (b : ℕ) → Names (size p m) b → block_at M (b + p.to_block) ≡ block_in p (block_at m b)
  pub proper : (b : ℕ) → Names (size p m) b → ProperBlock m (block_at m b)
  pub plain : (b : ℕ) → Names (size p m) b → PlainBlock p m (block_at m b)
  -- whoever does not leave at a block has a next one in the same part
  pub goes_on : (b : ℕ) → Names (size p m) b → (facts (block_at m b)).leaves ≡ false → suc b ≤ size p m
  pub goes_back : (b : ℕ) → Names (size p m) b → (facts (block_at m b)).back < b
  -- a group of the part begins where one of the joined model does
  pub groups : (b : ℕ) → Names (size p m) b → begins_group M (b + p.to_block) ≡ begins_group m b
  -- facilities of both parts come before all storages, so only they move by one number
  pub facility : (f : ℕ) → Names m.facilities f → server_in p f ≡ f + p.to_facility

-- ---- Blocks and their images

module _ (p : Part) where
  pub share-units : (x : Share) → share_units (share_in p x) ≡ share_units x
  unfolding share_units share_in
  share-units (facility v) = refl
  share-units (storage v b) = refl

  pub share-server : (x : Share) → share_server (share_in p x) ≡ server_in p (share_server x)
  unfolding share_server share_in
  share-server (facility v) = refl
  share-server (storage v b) = refl

  units_in : (b : Block) → (facts (block_in p b)).units ≡ (facts b).units
  unfolding facts block_in
  units_in (generate list k) = refl
  units_in (advance list) = refl
  units_in (terminate a) = refl
  units_in (takes x) = share-units x
  units_in (frees x) = refl
  units_in (wait_server code v c) = refl
  units_in (wait_terms a r b) = refl
  units_in (moves c target) = refl
  units_in (assign k a) = refl
  units_in (priority k) = refl
  units_in (split n target) = refl
  units_in (counts c q) = refl
  units_in (assemble n) = refl
  units_in (preempt f) = refl
  units_in (give_back f) = refl

module _ (p : Part) (m M : BlockModel) (I : Inside p m M) where
  -- the block at which one of the part stands
  pub block-seen : (N : Naming) (t : Transaction) → Known p (size p m) N t
      → block_at M t.next ≡ block_in p (block_at m (t.next - p.to_block))
  block-seen N t k =
      let at = standing p m t.next k.own in
      rw at.there at (I.block (t.next - p.to_block) at.names)

  -- a block asks for as many units under either numbering
  pub units-seen : (N : Naming) (t : Transaction) → Known p (size p m) N t → units_of_lem m (alone_as p m N t) ≡ units_of_lem M t
  units-seen N t k = sym (ap (λ (b : Block). (facts b).units) (block-seen N t k) ∙ units_in p (block_at m (t.next - p.to_block)))

  -- ---- What a member of the WSL waits for

  module _ (N : Naming) (w w' : View) (samples samples' : List (List ℕ)) (h : Fixtures p m N w w' samples samples') where
    holds_in : (q : List ℤ) (b : Block) → PlainBlock p m b
        → holds m.values w' q (facts b).waits_while ≡ holds M.values w q (facts (block_in p b)).waits_while
    unfolding holds facts block_in
    holds_in q (generate list c) k = refl
    holds_in q (advance list) k = refl
    holds_in q (terminate a) k = refl
    holds_in q (takes x) k = refl
    holds_in q (frees x) k = refl
    holds_in q (wait_server code v c) k = refl
    holds_in q (wait_terms a r b) k = unfold condition_in in truth-same p m M I.values N w w' samples samples' h q (when_true a r b) k
    holds_in q (moves c target) k = refl
    holds_in q (assign i a) k = refl
    holds_in q (priority i) k = refl
    holds_in q (split n target) k = refl
    holds_in q (counts c i) k = refl
    holds_in q (assemble n) k = refl
    holds_in q (preempt f) k = refl
    holds_in q (give_back f) k = refl

    -- the WS scheme asks a waiter of the part the same in both models
    pub waits_on-seen : (t : Transaction) → Known p (size p m) N t → waits_on m w' (alone_as p m N t) ≡ waits_on M w t
    unfolding waits_on
    waits_on-seen t k =
        let at = standing p m t.next k.own in
        holds_in t.parameters (block_at m (t.next - p.to_block)) (I.plain _ at.names)
        ∙ ap (λ (b : Block). holds M.values w t.parameters (facts b).waits_while) (sym (block-seen N t k))
