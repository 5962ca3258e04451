-- The whole model, pure: its three parts make it, and questions 6 and 7 are those of the machine.
use Rattle.machine.specs.All.{ℕ, ◌≤◌, ◌<◌, arith, ◌≡◌, refl, ap, ◌∙◌, true, false, ◌&&◌, List, leb, leb-zero, length, eq-eqb, ne_eqb, le-leb, lt-leb, in_force, Cursor, Parsed, parsed, refused, continue, ask, BlockModel, model_fields, at_end, targets_move, well_formed, model_of_lem, beginning}
use Rattle.std.specs.Prelude.{Ok, Err, IsErrAnd}
use Rattle.std.proofs.lemmas.Result.{err_from_is_err_and}
use Rattle.constants.specs.{declared.model.Model.Model, declared.refusals.Refusal.Refusal}
use Rattle.constants.specs.declared.refusals.Refusal.TheVariants.{ModelGoesOn, IllFormed}
use Rattle.layout.specs.All.{sum_numbers, header_of, block_numbers}
use Rattle.parse_values.specs.{declared.Place.Place, Keeps.cursor_of, Filled.stored_rows, Filled.all_named, Shapes.sum_named}
use Rattle.parse_values.proofs.Named.{values_name}
use Rattle.program.specs.{Formed.placed_from, Formed.targets_from, Formed.joined_from, Shapes.capacities_of}
use Rattle.program.proofs.{Steps.continue_assoc, Question.placed_machine, Question.targets_machine, Question.joined_machine}
use Rattle.decode.specs.Models.{Decoded, Models}
use Rattle.decode.specs.{no_model, no_place, Header, Stage, Servers, servers_field, with_servers, servers_shape, Things, things_field, with_things, things_shape, Program, program_field, program_shape, tables_of, ProperModel, model_shape}
use Rattle.decode.proofs as our
use our.Stages.{stage-known, stage-stop, stage_bind}
use our.Represented.{capacities_stand, blocks_stand}

-- ---- Three parts

abbrev model_from : Servers → Things → Program → BlockModel
model_from a b p =
    record {
      rules = in_force;
      edition = a.edition;
      facilities = a.facilities;
      capacities = a.capacities;
      queues = b.queues;
      values = b.sums;
      lists = p.lists;
      counter = p.counter;
      blocks = p.blocks;
    }

in_parts : (s : List ℕ) (c : Cursor) →
    continue (servers_field s c)
    (λ a c₁.
    continue (things_field s (with_servers no_model a) c₁)
    (λ b c₂. continue (program_field s (with_things (with_servers no_model a) b) a.capacities c₂) (λ p c₃. parsed (model_from a b p) c₃)))
    ≡ model_fields s in_force c
unfolding model_fields servers_field things_field program_field continue
in_parts s c = simp continue_assoc

module _ (s : List ℕ) {l l₁ : List ℕ} {r₁ : Header} (k₁ : Stage servers_shape no_model no_place l l₁ r₁ (servers_field s beginning)) where
  -- the header's servers fail a question
  pub model-stop : {d : Refusal} (after : List ℕ) → r₁ ≡ Err d
      → Stage model_shape no_model no_place l after (Err d) (model_fields s in_force beginning)
  model-stop after told = rw (← in_parts s beginning) (stage-stop (Stage _ _ _ _ _ _) _ _ k₁ told (record { held = refl }))

  module _ {h₁ : Model} {p : Place} {l₂ : List ℕ} {r₂ : Header} (t₁ : r₁ ≡ Ok (h₁, p))
      (k₂ : Stage things_shape h₁ p l₁ l₂ r₂ (things_field s h₁ (cursor_of p))) where
    -- its queues, values or lists do
    pub model-stop-2 : {d : Refusal} (after : List ℕ) → r₂ ≡ Err d
        → Stage model_shape no_model no_place l after (Err d) (model_fields s in_force beginning)
    model-stop-2 after told =
        rw (← in_parts s beginning)
        (stage_bind (Stage _ _ _ _ _ _) _ _ k₁ t₁
        (λ a e₁ n₁ c₁ f₁. stage-stop (Stage _ _ _ _ _ _) _ _ (rw e₁ at k₂) told (record { held = refl })))

    last : (a : Servers) (b : Things) (h : Model) (q : Place) (l₃ : List ℕ) (r₃ : Header) (P : Parsed Program) →
        h ≡ with_things (with_servers no_model a) b → q.named ≡ all_named sum_named 0 b.sums → l₁ ≡ servers_shape.cells no_model a l
        → servers_shape.fact no_model a →
        l₂ ≡ things_shape.cells h₁ b l₁ → things_shape.fact h₁ b → Stage program_shape h q l₂ l₃ r₃ P →
        Stage model_shape no_model no_place l l₃ r₃ (continue P (λ p c. parsed (model_from a b p) c))
    unfolding continue header_of tables_of
    last a b h q l₃ r₃ (parsed x c) e named c₁ f₁ c₂ f₂ k =
        record {
          held = (
            k.held.0
                ∙ rw (e, named, ← f₁.count, ← f₂.count, ← k.held.2.count) refl,
            k.held.1
                ∙ ap (λ (t : List ℕ). stored_rows block_numbers 8 0 x.blocks t)
                (c₂ ∙ ap (λ (t : List ℕ). stored_rows sum_numbers 64 2048 b.sums t) c₁),
            record {
              rules = refl;
              facilities = f₁.facilities;
              storages = rw f₁.count f₁.storages;
              capacity = f₁.each;
              values = rw f₂.count f₂.values;
              value = f₂.each;
              lists = k.held.2.lists;
              blocks = rw k.held.2.count k.held.2.most;
              block = rw k.held.2.count k.held.2.each;
            },
          );
        }
    last a b h q l₃ r₃ (refused n) e named c₁ f₁ c₂ f₂ k = record { held = k.held }

    -- servers, things and program read one after the other are the model's fields
    pub model-kept : {h₂ : Model} {q : Place} {l₃ : List ℕ} {r₃ : Header} → r₂ ≡ Ok (h₂, q) →
        Stage program_shape h₂ q l₂ l₃ r₃ (program_field s h₂ (capacities_of h₂ l₂) (cursor_of q)) →
        Stage model_shape no_model no_place l l₃ r₃ (model_fields s in_force beginning)
    model-kept {h₂} {q} {l₃} {r₃} t₂ k₃ =
        rw (← in_parts s beginning)
        (stage_bind (Stage _ _ _ _ _ _) _ _ k₁ t₁
        (λ a e₁ n₁ c₁ f₁.
        stage_bind (Stage _ _ _ _ _ _) _ _ (rw e₁ at k₂) t₂
        (λ b e₂ n₂ c₂ f₂.
        let cells : l₂ ≡ stored_rows sum_numbers 64 2048 b.sums (servers_shape.cells no_model a l) = c₂
        ∙ ap (λ (t : List ℕ). stored_rows sum_numbers 64 2048 b.sums t) c₁ in
        let few : length b.sums ≤ 8 = rw f₂.count f₂.values in
        let caps : capacities_of h₂ l₂ ≡ a.capacities
        = ap (λ (t : List ℕ). capacities_of h₂ t) cells
        ∙ capacities_stand a f₁ b.sums few f₂.each h₂ (ap (λ (h : Model). h.facilities) e₂) (ap (λ (h : Model). h.storages) e₂) in
        let n : q.named ≡ all_named sum_named 0 b.sums = n₂ ∙ ap (λ (i : ℕ). all_named sum_named i b.sums) n₁ in
        last a b (with_things (with_servers no_model a) b) q l₃ r₃
        (program_field s (with_things (with_servers no_model a) b) a.capacities (cursor_of q)) refl n c₁ f₁ c₂ f₂ (rw (caps, e₂) at k₃))))

-- ---- Questions 6 and 7

-- the refusal of a call is that of its caller
pub model-passed : {after : List ℕ} {r : Decoded} {P : Parsed BlockModel} {d : Refusal} → IsErrAnd r (λ x. x ≡ d)
    → Models after (Err d) P → Models after r P
model-passed {r = r} given k = let e = err_from_is_err_and r given in rw (e.1, e.2) k

module _ (s : List ℕ) {l after : List ℕ} {r : Header}
    (k : Stage model_shape no_model no_place l after r (model_fields s in_force beginning)) where
  -- a question of the fields comes before question 6
  pub formed-stop : {d : Refusal} → r ≡ Err d → Models after (Err d) (model_of_lem in_force s beginning)
  unfolding model_of_lem
  formed-stop told = stage-stop (Models after _) _ _ k told (record { held = refl })

  module _ {h : Model} {p : Place} (told : r ≡ Ok (h, p)) where
    pub few-blocks : h.blocks ≤ 256
    unfolding header_of
    few-blocks =
        stage-known (λ x. h.blocks ≤ 256) _ k told (λ m e n c f. let g = ap (λ (x : Model). x.blocks) e in omega (arith, f.blocks))

    -- question 6: bytes behind the last block
    pub formed_long : (p.position ≡ length s → ⊥) → Models after (Err ModelGoesOn) (model_of_lem in_force s beginning)
    unfolding model_of_lem at_end ask continue
    formed_long long = stage_bind (Models after _) _ _ k told (λ m e n c f. rw (ne_eqb _ _ long) (record { held = refl }))

    module _ (whole : p.position ≡ length s) where
      -- question 7 by the tables
      asked : (m : BlockModel) → h ≡ header_of m → p.named ≡ all_named sum_named 0 m.values → after ≡ tables_of m → ProperModel m →
          well_formed m
          ≡ (placed_from after h.blocks 0 true && targets_from after h.blocks h.blocks 0 && leb p.named
          h.blocks && joined_from after h.blocks 0 0)
      unfolding well_formed targets_move header_of
      asked m e n c f =
          rw (
            e,
            n,
            c,
            placed_machine (length m.blocks) (tables_of m) m.blocks 0 true f.block (blocks_stand m f),
            targets_machine (tables_of m) m f.block (blocks_stand m f),
            joined_machine (length m.blocks) (tables_of m) m.blocks 0 0 f.block (blocks_stand m f),
            values_name m.values 0 (length m.blocks),
            leb-zero (length m.blocks),
          )

      bad : (placed_from after h.blocks 0 true && targets_from after h.blocks h.blocks 0 && leb p.named
          h.blocks && joined_from after h.blocks 0 0) ≡ false →
          Models after (Err IllFormed) (model_of_lem in_force s beginning)
      unfolding model_of_lem at_end ask continue
      bad b =
          stage_bind (Models after _) _ _ k told
          (λ m e n c f. rw (eq-eqb _ _ whole, asked m e n c f, b) (record { held = refl }))

      -- question 7: a GENERATE that is reached from above
      pub formed_misplaced : placed_from after h.blocks 0 true ≡ false → Models after (Err IllFormed) (model_of_lem in_force s beginning)
      formed_misplaced a = bad (rw a)

      module _ (a : placed_from after h.blocks 0 true ≡ true) where
        -- question 7: a target that is a GENERATE or lies inside a group
        pub formed-target : targets_from after h.blocks h.blocks 0 ≡ false → Models after (Err IllFormed) (model_of_lem in_force s beginning)
        formed-target b = bad (rw (a, b))

        module _ (b : targets_from after h.blocks h.blocks 0 ≡ true) where
          -- question 7: a value names a block that is not there
          pub formed_name : h.blocks < p.named → Models after (Err IllFormed) (model_of_lem in_force s beginning)
          formed_name d = bad (rw (a, b, lt-leb _ _ d))

          module _ (d : p.named ≤ h.blocks) where
            -- question 7: a back count that reaches out of its WAITIFs
            pub formed-broken : joined_from after h.blocks 0 0 ≡ false → Models after (Err IllFormed) (model_of_lem in_force s beginning)
            formed-broken g = bad (rw (a, b, le-leb _ _ d, g))

            -- every part of question 7 is answered: the model is accepted
            pub formed-model : joined_from after h.blocks 0 0 ≡ true → Models after (Ok h) (model_of_lem in_force s beginning)
            unfolding model_of_lem at_end ask continue
            formed-model g =
                stage_bind (Models after _) _ _ k told
                (λ m e n c f. rw (eq-eqb _ _ whole, asked m e n c f, a, b, le-leb _ _ d, g) (record { held = (ap Ok e, c, f) }))
