-- All questions, pure: from the answers for the model and for the tape to the machine's `validate`.
use Rattle.machine.specs.All.{clash, ℕ, ◌≤◌, ◌<◌, arith, ◌≡◌, refl, sym, ap, ◌∙◌, List, length, le-leb, lt-leb, in_force, Parsed, parsed, refused, BlockModel, model_of_lem, tape_of, beginning, Validation, accept, reject, with_tape, with_model, validate, subst, Rules}
use Rattle.std.specs.Prelude.{Ok, Err, IsErrAnd}
use Rattle.std.proofs.lemmas.Result.{err_from_is_err_and}
use Rattle.constants.specs.{declared.model.Model.Model, declared.refusals.Refusal.Refusal, Numbers.refusal_number}
use Rattle.constants.specs.declared.refusals.Refusal.TheVariants.{ShortWork, ShortReport}
use Rattle.layout.specs.All.{header_of, Represents}
use Rattle.watch.specs.Watch.{watched}
use Rattle.decode.specs.{Models.Decoded, Lists.Tape, Models.Models, Lists.Lists, Decodes.Decodes}
use Rattle.decode.specs.{tables_of, ProperModel, empty_lists, Filled, refusal_of}
use Rattle.decode.proofs as our
use our.Represented.{all_tables, block-stays, block-small, value_stays, value-small, capacity-stays, edition-stays, all-watching, all-sharing}
use our.Lists.{tape-length, all-begin, all-counts}

represented : (m : BlockModel) (tape : List (List ℕ)) (bytes cells : List ℕ) → (w : ProperModel m) → length tape ≡ m.lists
    → Filled bytes 0 empty_lists cells tape →
    Represents m tape bytes (all_tables m w) cells
represented m tape bytes cells w n f =
    let few : length tape ≤ 16 = rw n w.lists in
    record {
      rules = w.rules;
      edition = edition-stays m w;
      blocks = block-stays m w;
      small-blocks = block-small m w;
      values = value_stays m w;
      small-values = value-small m w;
      capacities = λ v h. capacity-stays m w v h;
      watching = all-watching m w;
      sharing = all-sharing m w;
      begins = λ k h. all-begin bytes tape cells few f k (omega arith);
      counts = λ k h. all-counts bytes tape cells few f k h;
    }

-- a model that was accepted has at most 16 lists
pub few-lists : (P : Parsed BlockModel) {tables : List ℕ} {r : Decoded} {h : Model} → Models tables r P → r ≡ Ok h → h.lists ≤ 16
unfolding header_of
few-lists (parsed m c) {tables} {r} {h} d told =
    let e = sym told ∙ d.held.0 in
    let f : h ≡ header_of m = cc in
    let g = ap (λ (x : Model). x.lists) f in
    omega (arith, d.held.2.lists)
few-lists (refused i) d told = absurd (rw told at d.held)

-- and at most 256 blocks and 8 values
pub few-rows : (P : Parsed BlockModel) {tables : List ℕ} {r : Decoded} {h : Model} → Models tables r P → r ≡ Ok h
    → (h.blocks ≤ 256) × (h.values ≤ 8)
unfolding header_of
few-rows (parsed m c) {tables} {r} {h} d told =
    let e = sym told ∙ d.held.0 in
    let f : h ≡ header_of m = cc in
    let g = ap (λ (x : Model). x.blocks) f in
    let i = ap (λ (x : Model). x.values) f in
    (omega (arith, d.held.2.blocks), omega (arith, d.held.2.values))
few-rows (refused i) d told = absurd (rw told at d.held)

-- the number of the answer
pub refusal-of : (v : Validation) (tape tables lists : List ℕ) (r : Decoded) → Decodes tape r tables lists v →
    ((d : Refusal) → r ≡ Err d → refusal_number d ≡ refusal_of v) × ((h : Model) → r ≡ Ok h → 0 ≡ refusal_of v)
unfolding refusal_of
refusal-of (accept m t) tape tables lists r k =
    ((λ d e. let f = sym e ∙ k.0 in clash (cc)), (λ h e. refl))
refusal-of (reject i) tape tables lists r k = ((λ d e. rw e at k), (λ h e. absurd (rw e at k)))

-- the refusal of a call is that of its caller
pub answer-passed : (tape tables lists : List ℕ) (r : Decoded) (v : Validation) (d : Refusal) → IsErrAnd r (λ x. x ≡ d)
    → Decodes tape (Err d) tables lists v → Decodes tape r tables lists v
answer-passed tape tables lists r v d given k = let e = err_from_is_err_and r given in rw (e.1, e.2) k

module _ (model tape : List ℕ) (work report : ℕ) (tables lists : List ℕ) where
  -- question 1: the work buffer is too short
  pub small-work : work < 16384 → Decodes tape (Err ShortWork) tables lists (validate in_force model tape work report)
  unfolding validate
  small-work h = rw (lt-leb 16384 work h) refl

  module _ (enough : 16384 ≤ work) where
    -- question 2: the report buffer is too short
    pub small-report : report < 10240 → Decodes tape (Err ShortReport) tables lists (validate in_force model tape work report)
    unfolding validate
    small-report h = rw (le-leb 16384 work enough, lt-leb 10240 report h) refl

    module _ (room : 10240 ≤ report) {r : Decoded} (k : Models tables r (model_of_lem in_force model beginning)) where
      asked : validate in_force model tape work report ≡ with_model tape (model_of_lem in_force model beginning)
      unfolding validate
      asked = rw (le-leb 16384 work enough, le-leb 10240 report room) refl

      -- questions 3 to 7, in the model, by the number that the walk of its tables gave
      pub no-model : {d : Refusal} → r ≡ Err d → Decodes tape (Err d) tables lists (validate in_force model tape work report)
      unfolding with_model
      no-model {d} told = rw asked (go (model_of_lem in_force model beginning) k)
        where
          go : (P : Parsed BlockModel) → Models tables r P → Decodes tape (Err d) tables lists (with_model tape P)
          go (parsed m c) h = let e = sym told ∙ h.held.0 in clash (cc)
          go (refused i) h = rw told at h.held

      module _ {h : Model} (told : r ≡ Ok h) where
        module _ {r₂ : Tape} (k₂ : Lists tape 0 empty_lists lists r₂ (tape_of in_force tape h.lists beginning)) where
          -- questions 8 to 10, in the tape
          pub no-tape : {d : Refusal} → r₂ ≡ Err d → Decodes tape (Err d) tables lists (validate in_force model tape work report)
          unfolding with_model with_tape header_of
          no-tape {d} told₂ = rw asked (go (model_of_lem in_force model beginning) k)
            where
              last : (m : BlockModel) (P : Parsed (List (List ℕ))) → Lists tape 0 empty_lists lists r₂ P
                  → Decodes tape (Err d) tables lists (with_tape m P)
              last m (parsed t c) w = let e = sym told₂ ∙ w.held.0 in clash (cc)
              last m (refused i) w = rw told₂ at w.held

              go : (P : Parsed BlockModel) → Models tables r P → Decodes tape (Err d) tables lists (with_model tape P)
              go (parsed m c) w =
                  let e = sym told ∙ w.held.0 in
                  let f : h ≡ header_of m = cc in
                  last m _ (subst (λ (q : Rules). Lists tape 0 empty_lists lists r₂ (tape_of q tape m.lists beginning))
                  (sym w.held.2.rules) (rw (ap (λ (x : Model). x.lists) f) at k₂))
              go (refused i) w = absurd (rw told at w.held)

          -- no question failed: the tables, with what the WAITIFs read, represent the accepted model and tape
          pub all-answered : {end : ℕ} {after : List ℕ} → r₂ ≡ Ok end → after ≡ watched h.blocks h.values tables
              → Decodes tape (Ok h) after lists (validate in_force model tape work report)
          unfolding with_model with_tape header_of
          all-answered {end} {after} told₂ marked = rw asked (go (model_of_lem in_force model beginning) k)
            where
              last : (m : BlockModel) → h ≡ header_of m → tables ≡ tables_of m → ProperModel m → (P : Parsed (List (List ℕ)))
                  → tape_of in_force tape m.lists beginning ≡ P →
                  Lists tape 0 empty_lists lists r₂ P → Decodes tape (Ok h) after lists (with_tape m P)
              last m f cells w (parsed t c) p d =
                  (ap Ok f, rw (marked, cells, f) (represented m t tape lists w (tape-length tape m.lists t c p) d.held.1))
              last m f cells w (refused i) p d = absurd (rw told₂ at d.held)

              go : (P : Parsed BlockModel) → Models tables r P → Decodes tape (Ok h) after lists (with_model tape P)
              go (parsed m c) d =
                  let e = sym told ∙ d.held.0 in
                  let f : h ≡ header_of m = cc in
                  subst (λ (q : Rules). Decodes tape (Ok h) after lists (with_tape m (tape_of q tape m.lists beginning)))
                  (sym d.held.2.rules)
                  (last m f d.held.1 d.held.2 (tape_of in_force tape m.lists beginning) refl
                  (rw (ap (λ (x : Model). x.lists) f) at k₂))
              go (refused i) w = absurd (rw told at w.held)
