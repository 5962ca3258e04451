-- Blocks, carried from a part's bytes to the joined model's.
use Rattle.machine.specs.All.{ℕ, zero, suc, ◌+◌, ◌≤◌, arith, ◌≡◌, refl, sym, ap, ap₂, ◌∙◌, Bool, true, false, List, [], ◌∷◌, append-nil, eqb-true, leb, eqb, nth, Each, Code, code_index, Block, generate, advance, enter, leave, seize, release, wait_server, wait_terms, goto, assign, split, arrive, depart, preempt, give_back, facts, compared, Counts, relation_of, code_of, number, code_server, storage_units, operands, block_field, branch}
use Rattle.machine.specs.Limits as Limits
use Rattle.parse_values.proofs.Tags.{relation-number}
use Rattle.joined.specs.Join.{Part, server_in, term_in, share_in, condition_in, block_in}
use Rattle.join_laws.specs.{own_number, stored_term, stored_take, stored_free, stored_wait, stored_move, stored_count, stored_block}
use Rattle.join_laws.proofs as our
use our.Carrying.{Maps, Carries, Becomes, then, and, gives, choice, maps, walked}
use our.Placing.{Placing, facility_in, storage_in, own-facility, own-storage}
use our.Numbered.{Numbered}
use our.CarriedTerms.{next, stays, goes, moving-number, block-term}

-- ---- Codes

code-number : (code : ℕ) → 1 ≤ code → code ≤ 6 → suc (code_index (code_of code)) ≡ code
unfolding code_index code_of
code-number zero low high = absurd (omega arith)
code-number (suc zero) low high = refl
code-number (suc (suc zero)) low high = refl
code-number (suc (suc (suc zero))) low high = refl
code-number (suc (suc (suc (suc zero)))) low high = refl
code-number (suc (suc (suc (suc (suc zero))))) low high = refl
code-number (suc (suc (suc (suc (suc (suc zero)))))) low high = refl
code-number (suc (suc (suc (suc (suc (suc (suc r))))))) low high = absurd (omega arith)

stored-joined : (facilities : ℕ) (code : Code) (v c : ℕ) → 1 ≤ c
    → stored_wait facilities code v c ≡ 17 ∷ suc (code_index code) ∷ own_number facilities v ∷ c ∷ []
unfolding stored_wait
stored-joined facilities code v zero low = absurd (omega arith)
stored-joined facilities code v (suc c) low = refl

-- ---- Operands

-- the terms of a block
abbrev pub NumberedBlock : ℕ → Block → Type 0
NumberedBlock f b = Each (Numbered f) (facts b).terms

-- what blocks ask besides: lists, blocks and capacities
pub record Program (p : Part) (n joint : Counts) (among : ℕ) (capacities capacities' : List ℕ) : Type 0 where
  pub lists : n.lists + p.to_list ≤ joint.lists
  pub most-lists : joint.lists ≤ Limits.max_lists
  pub blocks : n.blocks + p.to_block ≤ joint.blocks
  -- a storage keeps at least its units, so that an ENTER that fitted fits
  pub capacity : (k : ℕ) → 1 ≤ k → k ≤ n.storages → nth capacities k 0 ≤ nth capacities' (k + among) 0
  pub most-capacity : (k : ℕ) → nth capacities' k 0 ≤ Limits.max_capacity

module _ (s : List ℕ) (p : Part) (n joint : Counts) (capacities capacities' : List ℕ) (at : Placing p n joint)
    (program : Program p n joint at.among capacities capacities') where
  abbrev BlocksBecome : Block → Block → List ℕ → Bool → Type 0
  BlocksBecome = Becomes (NumberedBlock n.facilities) (block_in p) (λ b. stored_block joint.facilities (block_in p b)) (λ b. true)

  own-facility_in : (v : ℕ) → v ≤ n.facilities → own_number joint.facilities (server_in p v) ≡ v + p.to_facility
  own-facility_in v h =
      ap (own_number joint.facilities) (facility_in p n joint at v h)
      ∙ own-facility p n joint at (v + p.to_facility) (omega (arith, at.facilities))

  own-storage_in : (k : ℕ) → 1 ≤ k → own_number joint.facilities (server_in p (n.facilities + k)) ≡ k + at.among
  own-storage_in k h =
      ap (own_number joint.facilities) (storage_in p n joint at k h) ∙ own-storage p n joint at (k + at.among) (omega arith)

  facility : Maps false (λ v. (1 ≤ v) × (v ≤ n.facilities)) (λ v. v + p.to_facility) (λ v. (v + p.to_facility) ∷ []) (λ v. true)
      (number s 1 n.facilities)
      (λ s'. number s' 1 joint.facilities)
  facility = goes moving-number s p.to_facility n.facilities joint.facilities at.facilities (omega (arith, at.most-facilities))

  storage : Maps false (λ v. (1 ≤ v) × (v ≤ n.storages)) (λ v. v + at.among) (λ v. (v + at.among) ∷ []) (λ v. true)
      (number s 1 n.storages)
      (λ s'. number s' 1 joint.storages)
  storage = goes moving-number s at.among n.storages joint.storages at.storages (omega (arith, at.most-storages))

  queue : Maps false (λ v. (1 ≤ v) × (v ≤ n.queues)) (λ v. v + p.to_queue) (λ v. (v + p.to_queue) ∷ []) (λ v. true)
      (number s 1 n.queues)
      (λ s'. number s' 1 joint.queues)
  queue = goes moving-number s p.to_queue n.queues joint.queues at.queues (omega (arith, at.most-queues))

  list : Maps false (λ v. (1 ≤ v) × (v ≤ n.lists)) (λ v. v + p.to_list) (λ v. (v + p.to_list) ∷ []) (λ v. true) (number s 1 n.lists)
      (λ s'. number s' 1 joint.lists)
  list = goes moving-number s p.to_list n.lists joint.lists program.lists (omega (arith, program.most-lists))

  target : Maps false (λ v. (1 ≤ v) × (v ≤ n.blocks)) (λ v. v + p.to_block) (λ v. (v + p.to_block) ∷ []) (λ v. true)
      (number s 1 n.blocks)
      (λ s'. number s' 1 joint.blocks)
  target = goes moving-number s p.to_block n.blocks joint.blocks program.blocks (omega (arith, at.most-blocks))

  code-server : (code : ℕ)
      → Maps false (λ v. Unit {0}) (server_in p) (λ v. own_number joint.facilities (server_in p v) ∷ []) (λ v. true) (code_server s n code)
      (λ s'. code_server s' joint code)
  unfolding code_server
  code-server code =
      maps
      (choice (leb code 2)
      (λ e. walked facility
      (λ v h.
      record {
        fact = tt;
        image = sym (facility_in p n joint at v h.1);
        numbers = ap (λ i. i ∷ []) (sym (own-facility_in v h.1));
        holds = λ x. x;
      }))
      (λ e.
      then storage
      (λ k k' h f.
      gives
      (record {
        fact = tt;
        image = ap (λ i. joint.facilities + i) f ∙ sym (storage_in p n joint at k h.0);
        numbers = ap (λ i. i ∷ []) (sym (own-storage_in k h.0));
        holds = λ x. tt;
      }))))

  storage-units : (kind : ℕ) (make : ℕ → ℕ → Block)
      → ((v b : ℕ) → NumberedBlock n.facilities (make v b)) → ((v b : ℕ) → block_in p (make v b) ≡ make (server_in p v) b)
      → ((v b : ℕ) → stored_block joint.facilities (make v b) ≡ kind ∷ own_number joint.facilities v ∷ b ∷ [])
      → Carries false (λ r r' l x. BlocksBecome r r' (kind ∷ l) x) (storage_units s n capacities make)
      (λ s'. storage_units s' joint capacities' make)
  unfolding storage_units
  storage-units kind make plain moved stored =
      then storage
      (λ k k' h f.
      and
      (moving-number s 1 (nth capacities k 0) 1 (nth capacities' k' 0) (λ v. v) (λ v. true)
      (λ v low high c. (low, omega (arith, program.capacity k h.0 h.1, ap (λ i. nth capacities' i 0) f)))
      (omega (arith, program.most-capacity k')))
      (λ b g.
      gives
      (record {
        fact = plain (n.facilities + k) b;
        image =
            ap (λ i. make i b) (ap (λ i. joint.facilities + i) f ∙ sym (storage_in p n joint at k h.0))
            ∙ sym (moved (n.facilities + k) b);
        numbers =
            sym (ap (stored_block joint.facilities) (moved (n.facilities + k) b) ∙ stored (server_in p (n.facilities + k)) b
            ∙ ap (λ i. kind ∷ i ∷ b ∷ []) (own-storage_in k h.0));
        holds = λ x. tt;
      })))

  operands_carried : (kind : ℕ) → 1 ≤ kind → kind ≤ 20
      → Carries false (λ r r' l x. BlocksBecome r r' (kind ∷ l) x) (operands s n capacities kind) (λ s'. operands s' joint capacities' kind)
  unfolding facts compared operands block_in share_in condition_in stored_block stored_take stored_free stored_wait stored_move stored_count
  operands_carried kind low high =
      choice (eqb kind 1)
      (λ e. then list
      (λ l l' h f. and (stays moving-number s 0 Limits.max_priority (omega arith))
      (λ q g. gives
      (record {
        fact = tt;
        image = ap (λ i. generate i q) f;
        numbers = ap (λ i. i ∷ (l + p.to_list) ∷ q ∷ []) (eqb-true kind 1 e);
        holds = λ x. tt;
      }))))
      (λ e1.
      choice (eqb kind 2)
      (λ e. then list
      (λ l l' h f. gives
      (record { fact = tt; image = ap advance f; numbers = ap (λ i. i ∷ (l + p.to_list) ∷ []) (eqb-true kind 2 e); holds = λ x. tt })))
      (λ e2.
      choice (eqb kind 3)
      (λ e. and (stays moving-number s 0 Limits.max_terminate (omega arith))
      (λ a h. gives (record { fact = tt; image = refl; numbers = ap (λ i. i ∷ a ∷ []) (eqb-true kind 3 e); holds = λ x. tt })))
      (λ e3.
      choice (eqb kind 4)
      (λ e. then facility
      (λ v v' h f. gives
      (record {
        fact = tt;
        image = ap seize (f ∙ sym (facility_in p n joint at v h.1));
        numbers = rw (eqb-true kind 4 e, facility_in p n joint at v h.1);
        holds = λ x. tt;
      })))
      (λ e4.
      choice (eqb kind 5)
      (λ e. then facility
      (λ v v' h f. gives
      (record {
        fact = tt;
        image = ap release (f ∙ sym (facility_in p n joint at v h.1));
        numbers = rw (eqb-true kind 5 e, facility_in p n joint at v h.1);
        holds = λ x. tt;
      })))
      (λ e5.
      choice (eqb kind 6)
      (λ e. rw (eqb-true kind 6 e) (storage-units 6 enter (λ v b. tt) (λ v b. refl) (λ v b. refl)))
      (λ e6.
      choice (eqb kind 7)
      (λ e. rw (eqb-true kind 7 e) (storage-units 7 leave (λ v b. tt) (λ v b. refl) (λ v b. refl)))
      (λ e7.
      choice (eqb kind 8)
      (λ e. and (stays moving-number s 1 6 (omega arith))
      (λ code h. then (code-server code)
      (λ v v' z f. gives
      (record {
        fact = tt;
        image = ap (λ i. wait_server (code_of code) i 0) f;
        numbers = rw (eqb-true kind 8 e, code-number code h.0 h.1);
        holds = λ x. tt;
      }))))
      (λ e8.
      choice (eqb kind 9)
      (λ e. then (block-term s p n joint at program.blocks)
      (λ a a' z f. and (stays moving-number s 1 6 (omega arith))
      (λ r h. then (block-term s p n joint at program.blocks)
      (λ b b' y g. gives
      (record {
        fact = (z, (y, tt));
        image = ap₂ (λ x y. wait_terms x (relation_of r) y) f g;
        numbers = rw (eqb-true kind 9 e, relation-number r h.0 h.1, append-nil (stored_term joint.facilities (term_in p b)));
        holds = λ x. tt;
      })))))
      (λ e9.
      choice (eqb kind 10)
      (λ e. then (block-term s p n joint at program.blocks)
      (λ a a' z f. and (stays moving-number s 1 6 (omega arith))
      (λ r h. then (block-term s p n joint at program.blocks)
      (λ b b' y g. then target
      (λ t t' x k. gives
      (record {
        fact = (z, (y, tt));
        image = ap₂ (λ x y. branch x (relation_of r) y t') f g ∙ ap (λ i. branch (term_in p a) (relation_of r) (term_in p b) i) k;
        numbers = rw (eqb-true kind 10 e, relation-number r h.0 h.1);
        holds = λ x. tt;
      }))))))
      (λ e10.
      choice (eqb kind 11)
      (λ e. then target
      (λ t t' h f. gives
      (record { fact = tt; image = ap goto f; numbers = ap (λ i. i ∷ (t + p.to_block) ∷ []) (eqb-true kind 11 e); holds = λ x. tt })))
      (λ e11.
      choice (eqb kind 12)
      (λ e. and (stays moving-number s 1 Limits.parameter_count (omega arith))
      (λ k h. then (block-term s p n joint at program.blocks)
      (λ a a' z f. gives
      (record {
        fact = (z, tt);
        image = ap (assign k) f;
        numbers = rw (eqb-true kind 12 e, append-nil (stored_term joint.facilities (term_in p a)));
        holds = λ x. tt;
      }))))
      (λ e12.
      choice (eqb kind 13)
      (λ e. and (stays moving-number s 0 Limits.max_priority (omega arith))
      (λ q h. gives (record { fact = tt; image = refl; numbers = ap (λ i. i ∷ q ∷ []) (eqb-true kind 13 e); holds = λ x. tt })))
      (λ e13.
      choice (eqb kind 14)
      (λ e. and (stays moving-number s 1 Limits.max_split (omega arith))
      (λ k h. then target
      (λ t t' g f. gives
      (record {
        fact = tt;
        image = ap (split k) f;
        numbers = ap (λ i. i ∷ k ∷ (t + p.to_block) ∷ []) (eqb-true kind 14 e);
        holds = λ x. tt;
      }))))
      (λ e14.
      choice (eqb kind 15)
      (λ e. then queue
      (λ q q' h f. gives
      (record { fact = tt; image = ap arrive f; numbers = ap (λ i. i ∷ (q + p.to_queue) ∷ []) (eqb-true kind 15 e); holds = λ x. tt })))
      (λ e15.
      choice (eqb kind 16)
      (λ e. then queue
      (λ q q' h f. gives
      (record { fact = tt; image = ap depart f; numbers = ap (λ i. i ∷ (q + p.to_queue) ∷ []) (eqb-true kind 16 e); holds = λ x. tt })))
      (λ e16.
      choice (eqb kind 17)
      (λ e. and (stays moving-number s 1 6 (omega arith))
      (λ code h. then (code-server code)
      (λ v v' z f. and (stays moving-number s 1 Limits.max_back (omega arith))
      (λ c g. gives
      (record {
        fact = tt;
        image = ap (λ i. wait_server (code_of code) i c) f;
        numbers =
            rw (
              eqb-true kind 17 e,
              stored-joined joint.facilities (code_of code) (server_in p v) c g.0,
              code-number code h.0 h.1,
            );
        holds = λ x. tt;
      })))))
      (λ e17.
      choice (eqb kind 18)
      (λ e. and (stays moving-number s 2 Limits.max_assemble (omega arith))
      (λ k h. gives (record { fact = tt; image = refl; numbers = ap (λ i. i ∷ k ∷ []) (eqb-true kind 18 e); holds = λ x. tt })))
      (λ e18.
      choice (eqb kind 19)
      (λ e. then facility
      (λ v v' h f. gives
      (record {
        fact = tt;
        image = ap preempt (f ∙ sym (facility_in p n joint at v h.1));
        numbers = rw (eqb-true kind 19 e, facility_in p n joint at v h.1);
        holds = λ x. tt;
      })))
      (λ e19.
      let past : 20 ≤ kind =
      next 19 e19
      (next 18 e18
      (next 17 e17
      (next 16 e16
      (next 15 e15
      (next 14 e14
      (next 13 e13
      (next 12 e12
      (next 11 e11
      (next 10 e10
      (next 9 e9 (next 8 e8 (next 7 e7 (next 6 e6 (next 5 e5 (next 4 e4 (next 3 e3 (next 2 e2 (next 1 e1 low)))))))))))))))))) in
      let last : kind ≡ 20 = omega arith in
      then facility
      (λ v v' h f. gives
      (record {
        fact = tt;
        image = ap give_back (f ∙ sym (facility_in p n joint at v h.1));
        numbers = rw (last, facility_in p n joint at v h.1);
        holds = λ x. tt;
      })))))))))))))))))))))

  pub block-field : (kinds : ℕ) → kinds ≤ 20
      → Maps false (NumberedBlock n.facilities) (block_in p) (λ b. stored_block joint.facilities (block_in p b)) (λ b. true)
      (block_field s kinds n capacities)
      (λ s'. block_field s' kinds joint capacities')
  unfolding block_field
  block-field kinds most =
      maps (and (stays moving-number s 1 kinds (omega arith)) (λ kind h. operands_carried kind h.0 (omega (arith, h.1))))
