-- Where all of a QL go to REL at once, everybody there fits: no block of the model takes more units of the storage than are left.
use Rattle.machine.specs.All.{ℕ, zero, suc, ◌+◌, ◌*◌, ◌-◌, ◌%◌, ◌≤◌, ◌<◌, ◌≡◌, ◌≢◌, refl, sym, ap, ◌∙◌, Bool, true, false, true≢false, cond, List, [], ◌∷◌, arith, zero-add, add-zero, lt-ltb, eq-eqb, ne_eqb, ltb-true, ltb-false, eqb-true, ltb, eqb, length, get_or, Transaction, always, when_true, up, down, Block, generate, advance, terminate, takes, frees, wait_server, wait_terms, moves, assign, priority, split, counts, assemble, preempt, give_back, facility, storage, facts, BlockModel, Each}
use Rattle.machine.proofs.Decoding.Proper.{Proper, Names, ProperBlock, Role, generating, taking, preempting, neither, role}
use Rattle.machine.proofs.{NobodyAble.Waiting.AtServer, NobodyAble.QueueRemove.walk, Basic.Bools.cond_true, Basic.Bools.cond_false}
use Rattle.layout.specs.All.{block_forms, block_numbers, At, Represents}
use Rattle.layout.proofs.Operands.{at-number}
use Rattle.rows_laws.specs.All.{rel, tail, links, load, first, outranks}
use Rattle.state.proofs.WakingLaws.{everybody}
use Rattle.servers_laws.specs.{units_at, too_many_lem, none_too_many, ahead_of, many, at_once_lem}
use Rattle.servers_laws.proofs.Named.{kind_at, units_of, named}

-- ---- What is asked first

pub record AtOnce (tables w : List ℕ) (v edition left : ℕ) : Type 0 where
  pub first-edition : edition ≡ 1
  pub some : first w v < 1024
  pub ahead : first w rel < 1024 → outranks w (load w (tail v) - links) (first w rel) ≡ true
  pub none : none_too_many 256 tables 0 v left ≡ true

-- the last of list p stands before the first of REL
leads : (w : List ℕ) (p : ℕ) → ahead_of w p ≡ true → first w rel < 1024 → outranks w (load w (tail p) - links) (first w rel) ≡ true
unfolding ahead_of
leads w p e h = (cond_true (ltb (load w (tail p) - links) 1024) _ (rw (lt-ltb (first w rel) 1024 h) at e)).1

-- what each of the five tests says where all of them hold
pub at-once : (tables w : List ℕ) (v edition left n : ℕ) → at_once_lem tables w v edition left n ≡ true → AtOnce tables w v edition left
unfolding at_once_lem
at-once tables w v edition left n e =
    let a = cond_true (eqb edition 1) _ (cond_false (ltb n many) _ e).1 in
    let b = cond_true (ltb (first w v) 1024) _ a.1 in
    let c = cond_true (ahead_of w v) _ b.1 in
    record {
      first-edition = eqb-true _ 1 a.0;
      some = ltb-true _ 1024 b.0;
      ahead = leads w v c.0;
      none = c.1;
    }

-- ---- Every block of the model is looked at

-- the kind of a block is not 0
some_kind : (b : Block) → (0 < length (block_numbers b)) × (1 ≤ get_or (block_numbers b) 0 0)
unfolding block_forms
some_kind (generate list p) = (omega arith, omega arith)
some_kind (advance list) = (omega arith, omega arith)
some_kind (terminate a) = (omega arith, omega arith)
some_kind (takes (facility v)) = (omega arith, omega arith)
some_kind (takes (storage v n)) = (omega arith, omega arith)
some_kind (frees (facility v)) = (omega arith, omega arith)
some_kind (frees (storage v n)) = (omega arith, omega arith)
some_kind (wait_server code v zero) = (omega arith, omega arith)
some_kind (wait_server code v (suc c)) = (omega arith, omega arith)
some_kind (wait_terms a r c) = (omega arith, omega arith)
some_kind (moves always target) = (omega arith, omega arith)
some_kind (moves (when_true a r c) target) = (omega arith, omega arith)
some_kind (assign k a) = (omega arith, omega arith)
some_kind (priority p) = (omega arith, omega arith)
some_kind (split n target) = (omega arith, omega arith)
some_kind (counts up q) = (omega arith, omega arith)
some_kind (counts down q) = (omega arith, omega arith)
some_kind (assemble n) = (omega arith, omega arith)
some_kind (preempt f) = (omega arith, omega arith)
some_kind (give_back f) = (omega arith, omega arith)

module _ (tables : List ℕ) (v left : ℕ) where
  -- block b is passed
  none-next : (n b : ℕ) → none_too_many (suc n) tables b v left ≡ true → get_or tables (8 * b) 0 ≢ 0
      → (too_many_lem tables (8 * b) v left ≡ false) × (none_too_many n tables (b + 1) v left ≡ true)
  unfolding none_too_many
  none-next n b e some = go (too_many_lem tables (8 * b) v left) (rw (ne_eqb _ 0 some) at e)
    where
      go : (x : Bool) → cond x false (none_too_many n tables (b + 1) v left) ≡ true
          → (x ≡ false) × (none_too_many n tables (b + 1) v left ≡ true)
      go true e = absurd (true≢false (sym e))
      go false e = (refl, e)

  -- up to block b + i
  none-at : (n b : ℕ) → none_too_many n tables b v left ≡ true → (i : ℕ) → i < n → ((j : ℕ) → j ≤ b + i → get_or tables (8 * j) 0 ≢ 0)
      → too_many_lem tables (8 * (b + i)) v left ≡ false
  none-at zero b e i h some = absurd (omega arith)
  none-at (suc n) b e zero h some = rw add-zero (none-next n b e (some b (omega arith))).0
  none-at (suc n) b e (suc i) h some =
      let same : b + suc i ≡ b + 1 + i = omega arith in
      rw same (none-at n (b + 1) (none-next n b e (some b (omega arith))).1 i (omega arith) (λ j g. some j (omega arith)))

-- ---- A block that takes units of a storage

module _ (m : BlockModel) (tables : List ℕ) (at v left : ℕ) (high : v ≤ 64) (storage-is : m.facilities < v)
    (few : too_many_lem tables at (v - 1) left ≡ false) where
  enter-fits : (n : ℕ) → At tables at (6 ∷ (v - 1) ∷ n ∷ []) → n ≤ left
  enter-fits n found = ltb-false left n (sym asked ∙ few)
    where
      asked : too_many_lem tables at (v - 1) left ≡ ltb left n
      asked =
          unfold too_many_lem in
          rw (
            kind_at tables at 6 _ found,
            named tables (at + 1) v high (omega arith) (at-number tables at (6 ∷ (v - 1) ∷ n ∷ []) 1 (omega arith) found),
            eq-eqb (v - 1) (v - 1) refl,
            at-number tables at (6 ∷ (v - 1) ∷ n ∷ []) 2 (omega arith) found,
          )

  -- of whatever kind
  block-fits : {b : Block} → Role b → ProperBlock m b → (facts b).server ≡ v → At tables at (block_numbers b) → (facts b).units ≤ left
  unfolding block_forms
  block-fits (generating list p) k e found = absurd (omega arith)
  block-fits (taking (facility u)) k e found = absurd (omega arith)
  block-fits (taking (storage u n)) k e found = enter-fits n (rw e at found)
  block-fits (preempting f) k e found = absurd (omega arith)
  block-fits (neither z g) k e found = absurd (omega arith)

-- ---- Everybody

-- a walk on which everybody fits and takes nothing away moves the whole list
pub walk-everybody : (test : ℕ → Transaction → Bool) (after : ℕ → Transaction → ℕ) (n : ℕ) (l : List Transaction)
    → Each (λ t. (test n t ≡ true) × (after n t ≡ n)) l
    → walk test after n l ≡ everybody l
unfolding walk
walk-everybody test after n [] h = refl
walk-everybody test after n (t ∷ l) h = rw (h.0.0, h.0.1, walk-everybody test after n l h.1)

module _ {m : BlockModel} {tape : List (List ℕ)} {tape_bytes tables lists : List ℕ} (proper : Proper m tape)
    (rep : Represents m tape tape_bytes tables lists)
    (v left : ℕ) (high : v ≤ 64) (storage-is : m.facilities < v) (none : none_too_many 256 tables 0 (v - 1) left ≡ true) where
  kind-there : (j : ℕ) → j < length m.blocks → get_or tables (8 * j) 0 ≢ 0
  kind-there j h z =
      let b : Block = get_or m.blocks j (terminate 0) in
      let e = at-number tables (8 * j) (block_numbers b) 0 (some_kind b).0 (rep.blocks j h) in
      omega (arith, (some_kind b).1, e, ap (λ (i : ℕ). get_or tables i 0) (add-zero (8 * j)))

  -- whoever waits at v asks for at most what the blocks of the model ask of v
  pub member-fits : (t : Transaction) → Names (length m.blocks) t.next → AtServer m v t
      → units_at tables (8 * ((t.next - 1) % 256)) ≤ left
  member-fits t placed stands =
      let few =
      none-at tables (v - 1) left 256 0 none (t.next - 1) (omega (arith, proper.blocks.1)) (λ j g. kind-there j (omega arith)) in
      omega (
        arith,
        units_of proper rep t.next placed,
        block-fits m tables (8 * (t.next - 1)) v left high storage-is (rw (zero-add (t.next - 1)) at few) (role _)
            (proper.block t.next) stands (rep.blocks (t.next - 1) (omega arith)),
      )
