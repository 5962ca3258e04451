-- The parts of a model, pure: from what each call kept to what the part keeps.
use Rattle.machine.specs.All.{clash, ℕ, ◌+◌, ◌≡◌, refl, sym, ap, ◌∙◌, List, [], replicate, sets, Parsed, parsed, refused, Parser, continue, field, times, in_force, value_fields, block_field, value_field}
use Rattle.std.specs.Prelude.{Ok, Err, IsErrAnd}
use Rattle.std.proofs.lemmas.Result.{err_from_is_err_and}
use Rattle.constants.specs.{declared.model.Model.Model, declared.refusals.Refusal.Refusal, Numbers.refusal_number}
use Rattle.parse_values.specs.{declared.Place.Place, Keeps.Taken, Keeps.Stored, Filled.Filled, Shapes.value_shape, Shapes.ProperValue}
use Rattle.parse_values.specs.Keeps.{cursor_of, place_of, Takes, plain_shape, number_shape}
use Rattle.parse_values.proofs.Binds.{takes_bind}
use Rattle.parse_values.proofs.Filled.{times-rows, values-rows, rows_end, rows_bind, rows-length, unnamed}
use Rattle.program.specs.{Formed.Formed, Shapes.block_shape, Shapes.capacities_of}
use Rattle.decode.specs.{empty_tables, Capacity, no_model, Header, StageShape, Stage, servers_field, servers_shape, seen_by_values, things_field, things_shape, seen_by_blocks, program_field, program_shape}

-- ---- A part that was refused, or read

module _ {A : Type 0} {sh : StageShape A} {m : Model} {p : Place} {cells after : List ℕ} {r : Header} where
  -- a stage that stops gives the parser's refusal
  pub stage-refused : (P : Parsed A) {d : Refusal} → Stage sh m p cells after r P → r ≡ Err d → P ≡ refused (refusal_number d)
  stage-refused (parsed a c) k told = let e = sym told ∙ k.held.0 in clash (cc)
  stage-refused (refused i) k told = ap refused (sym (rw told at k.held))

  -- what was read
  pub stage-known : (G : Parsed A → Type 0) (P : Parsed A) {h : Model} {q : Place} → Stage sh m p cells after r P → r ≡ Ok (h, q) →
      ((a : A) → h ≡ sh.header m a → q.named ≡ sh.named p.named a → after ≡ sh.cells m a cells → sh.fact m a
      → G (parsed a (cursor_of q))) → G P
  stage-known G (parsed a c) {h} {q} k told g =
      let e = sym told ∙ k.held.0 in
      let same : ◌≡◌ {A = Model × Place} (h, q) (sh.header m a, place_of c (sh.named p.named a)) = cc in
      let eh : h ≡ sh.header m a = ap (λ (x : Model × Place). x.0) same in
      let eq : q ≡ place_of c (sh.named p.named a) = ap (λ (x : Model × Place). x.1) same in
      (rw eq at (g a eh)) refl k.held.1 k.held.2
  stage-known G (refused i) k told g = absurd (rw told at k.held)

  module _ {B : Type 0} (G : Parsed B → Type 0) where
    -- so what follows it in the parser is refused too
    pub stage-stop : (P : Parsed A) (f : A → Parser B) {d : Refusal} → Stage sh m p cells after r P → r ≡ Err d
        → G (refused (refusal_number d)) → G (continue P f)
    unfolding continue
    stage-stop P f k told s = rw (stage-refused P k told) s

    -- a stage that is read hands its value and its place to what follows
    pub stage_bind : (P : Parsed A) (f : A → Parser B) {h : Model} {q : Place} → Stage sh m p cells after r P → r ≡ Ok (h, q) →
        ((a : A) → h ≡ sh.header m a → q.named ≡ sh.named p.named a → after ≡ sh.cells m a cells → sh.fact m a
        → G (f a (cursor_of q))) →
        G (continue P f)
    unfolding continue
    stage_bind P f k told g = stage-known (λ x. G (continue x f)) P k told g

-- the refusal of a call is that of its caller
pub stage-passed : {A : Type 0} {sh : StageShape A} {m : Model} {p : Place} {cells after : List ℕ} {r : Header} {P : Parsed A} {d : Refusal} →
    IsErrAnd r (λ x. x ≡ d) → Stage sh m p cells after (Err d) P → Stage sh m p cells after r P
stage-passed {r = r} given k = let e = err_from_is_err_and r given in rw (e.1, e.2) k

-- ---- Servers

module _ (s : List ℕ) {p a b d : Place} {v f n : ℕ} {r₁ r₂ r₃ : Taken} {r₄ : Stored} (l : List ℕ) {l₁ l₂ l₃ : List ℕ} (e : Model)
    (k₁ : Takes (plain_shape 1 2) p 0 [] [] r₁ (field s 3 1 2 (cursor_of p))) (t₁ : r₁ ≡ Ok (v, a))
    (k₂ : Takes (plain_shape 0 32) a 0 [] [] r₂ (field s 3 0 32 (cursor_of a))) (t₂ : r₂ ≡ Ok (f, b))
    (k₃ : Takes (plain_shape 0 32) b 0 [] [] r₃ (field s 3 0 32 (cursor_of b))) (t₃ : r₃ ≡ Ok (n, d))
    (cleared : l₁ ≡ empty_tables v) (ones : l₂ ≡ sets l₁ 2560 (replicate f 1))
    (k₄ : Filled (number_shape 1 65535 1) Capacity 1 (2560 + f) d l₂ l₃ r₄ (times n (field s 3 1 65535) (cursor_of d))) where
  -- a capacity fails its question
  pub servers-stop : {x : Refusal} → r₄ ≡ Err x → Stage servers_shape no_model p l l₃ (Err x) (servers_field s (cursor_of p))
  unfolding servers_field
  servers-stop told =
      takes_bind (Stage _ _ _ _ _ _) _ _ k₁ t₁
      (λ n₁ c₁ f₁.
      takes_bind (Stage _ _ _ _ _ _) _ _ k₂ t₂
      (λ n₂ c₂ f₂.
      takes_bind (Stage _ _ _ _ _ _) _ _ k₃ t₃ (λ n₃ c₃ f₃. rows_end (Stage _ _ _ _ _ _) _ _ k₄ told (record { held = refl }))))

  -- facilities, storages and capacities are the servers' part of the header
  pub servers-kept : {q : Place} → r₄ ≡ Ok q → (e.queues ≡ 0) × (e.values ≡ 0) × (e.lists ≡ 0) × (e.counter ≡ 0) × (e.blocks ≡ 0) →
      Stage servers_shape no_model p l l₃
      (Ok (
        record {
          facilities = f;
          storages = n;
          queues = e.queues;
          values = e.values;
          lists = e.lists;
          counter = e.counter;
          blocks = e.blocks;
        },
        q,
      ))
      (servers_field s (cursor_of p))
  unfolding servers_field
  servers-kept {q} told z =
      takes_bind (Stage _ _ _ _ _ _) _ _ k₁ t₁
      (λ n₁ c₁ f₁.
      takes_bind (Stage _ _ _ _ _ _) _ _ k₂ t₂
      (λ n₂ c₂ f₂.
      takes_bind (Stage _ _ _ _ _ _) _ _ k₃ t₃
      (λ n₃ c₃ f₃.
      rows_bind (Stage _ _ _ _ _ _) _ _ k₄ told
      (λ caps parse n₄ c₄ f₄.
      record {
        held = (
          (λ i.
              Ok (
                record { facilities = f; storages = n; queues = z.0 i; values = z.1 i; lists = z.2 i; counter = z.3 i; blocks = z.4 i },
                place_of (cursor_of q) ((n₄ ∙ unnamed d.named caps ∙ n₃ ∙ n₂ ∙ n₁) i),
              )),
          cc (c₄, ones, cleared),
          record {
            facilities = f₂.1;
            storages = f₃.1;
            count = rows-length (λ i. field s 3 1 65535) n 0 _ caps _ (sym (times-rows _ n 0 _) ∙ parse);
            each = f₄;
          },
        );
      }))))

-- ---- Queues and values

module _ (s : List ℕ) (m : Model) {p a b : Place} {queues n : ℕ} {r₁ r₂ : Taken} {r₃ : Stored} {l l₁ : List ℕ}
    (k₁ : Takes (plain_shape 0 32) p 0 [] [] r₁ (field s 3 0 32 (cursor_of p))) (t₁ : r₁ ≡ Ok (queues, a))
    (k₂ : Takes (plain_shape 0 8) a 0 [] [] r₂ (field s 3 0 8 (cursor_of a))) (t₂ : r₂ ≡ Ok (n, b))
    (k₃ : Filled value_shape ProperValue 64 2048 b l l₁ r₃ (value_fields s (seen_by_values m queues) n 0 (cursor_of b))) where
  -- a value fails its question
  pub things-stop : {d : Refusal} → r₃ ≡ Err d → Stage things_shape m p l l₁ (Err d) (things_field s m (cursor_of p))
  unfolding things_field
  things-stop told =
      takes_bind (Stage _ _ _ _ _ _) _ _ k₁ t₁
      (λ n₁ c₁ f₁. takes_bind (Stage _ _ _ _ _ _) _ _ k₂ t₂ (λ n₂ c₂ f₂. rows_end (Stage _ _ _ _ _ _) _ _ k₃ told (record { held = refl })))

  pub things-kept : {q : Place} → r₃ ≡ Ok q →
      Stage things_shape m p l l₁
      (Ok (
        record {
          facilities = m.facilities;
          storages = m.storages;
          queues = queues;
          values = n;
          lists = m.lists;
          counter = m.counter;
          blocks = m.blocks;
        },
        q,
      ))
      (things_field s m (cursor_of p))
  unfolding things_field
  things-kept {q} told =
      takes_bind (Stage _ _ _ _ _ _) _ _ k₁ t₁
      (λ n₁ c₁ f₁.
      takes_bind (Stage _ _ _ _ _ _) _ _ k₂ t₂
      (λ n₂ c₂ f₂.
      rows_bind (Stage _ _ _ _ _ _) _ _ k₃ told
      (λ sums parse n₃ c₃ f₃.
      record {
        held = (
          rw (n₃, n₂, n₁),
          c₃,
          record {
            queues = f₁.1;
            values = f₂.1;
            count =
                rows-length (λ i. value_field s _) n 0 _ sums _
                (sym (values-rows s _ n 0 _) ∙ parse);
            each = f₃;
          },
        );
      })))

-- ---- Lists, counter and blocks

module _ (s : List ℕ) (m : Model) {p a b d : Place} {lists counter n : ℕ} {r₁ r₂ r₃ : Taken} {r₄ : Stored} {l l₁ : List ℕ}
    (k₁ : Takes (plain_shape 0 16) p 0 [] [] r₁ (field s 3 0 16 (cursor_of p))) (t₁ : r₁ ≡ Ok (lists, a))
    (k₂ : Takes (plain_shape 1 65535) a 0 [] [] r₂ (field s 3 1 65535 (cursor_of a))) (t₂ : r₂ ≡ Ok (counter, b))
    (k₃ : Takes (plain_shape 1 256) b 0 [] [] r₃ (field s 3 1 256 (cursor_of b))) (t₃ : r₃ ≡ Ok (n, d))
    (k₄ : Filled (block_shape n) (Formed n) 8 0 d l l₁ r₄
    (times n (block_field s in_force.kinds (seen_by_blocks m lists n) (capacities_of m l)) (cursor_of d))) where
  -- a block fails its question
  pub program-stop : {x : Refusal} → r₄ ≡ Err x → Stage program_shape m p l l₁ (Err x) (program_field s m (capacities_of m l) (cursor_of p))
  unfolding program_field
  program-stop told =
      takes_bind (Stage _ _ _ _ _ _) _ _ k₁ t₁
      (λ n₁ c₁ f₁.
      takes_bind (Stage _ _ _ _ _ _) _ _ k₂ t₂
      (λ n₂ c₂ f₂.
      takes_bind (Stage _ _ _ _ _ _) _ _ k₃ t₃ (λ n₃ c₃ f₃. rows_end (Stage _ _ _ _ _ _) _ _ k₄ told (record { held = refl }))))

  pub program-kept : {q : Place} → r₄ ≡ Ok q →
      Stage program_shape m p l l₁
      (Ok (
        record {
          facilities = m.facilities;
          storages = m.storages;
          queues = m.queues;
          values = m.values;
          lists = lists;
          counter = counter;
          blocks = n;
        },
        q,
      ))
      (program_field s m (capacities_of m l) (cursor_of p))
  unfolding program_field
  program-kept {q} told =
      takes_bind (Stage _ _ _ _ _ _) _ _ k₁ t₁
      (λ n₁ c₁ f₁.
      takes_bind (Stage _ _ _ _ _ _) _ _ k₂ t₂
      (λ n₂ c₂ f₂.
      takes_bind (Stage _ _ _ _ _ _) _ _ k₃ t₃
      (λ n₃ c₃ f₃.
      rows_bind (Stage _ _ _ _ _ _) _ _ k₄ told
      (λ bs parse n₄ c₄ f₄.
      record {
        held = (
          rw (n₄, unnamed d.named bs, n₃, n₂, n₁),
          c₄,
          record {
            lists = f₁.1;
            most = f₃.1;
            count =
                rows-length (λ i. block_field s _ _ _) n 0 _ bs _
                (sym (times-rows _ n 0 _) ∙ parse);
            each = f₄;
          },
        );
      }))))
