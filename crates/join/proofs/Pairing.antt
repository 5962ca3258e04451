-- From two decoded pairs to the definition of the call.
use Rattle.machine.specs.All.{ℕ, ◌≡◌, refl, sym, ap₂, subst, ◌∙◌, cond, List, ◌++◌, length, in_force, BlockModel, accept, validate}
use Rattle.machine.specs.Limits as Limits
use Rattle.constants.specs.declared.model.Model.{Model}
use Rattle.machine.proofs.Decoding.ProperFrom.{proper-from}
use Rattle.layout.specs.All.{header_of, Represents}
use Rattle.evaluation.proofs.NestedFrom.{nested-from}
use Rattle.std.proofs.Common.{Ok, Err}
use Rattle.constants.specs.declared.refusals.Refusal.{Refusal}
use Rattle.decode.specs.{Models.Decoded as Answer, Decodes.Decodes}
use Rattle.decode.proofs.Told.{Told, decoded-refused, decoded-model}
use Rattle.joined.specs.Join.{joinable}
use Rattle.join_laws.specs.Written.{numbers_bytes}
use Rattle.join.specs.Contract.{Joined, Contract}
use Rattle.join_laws.specs.Joining.{refused, judged, fitted, joined_pair, join}
use Rattle.join_laws.specs.Whole.{Fits, may_join, may_join_tables, joined_tables, Ready}
use Rattle.join_laws.proofs.{Decoded.Decoded, Accepted.judged-decoded, JoinedRows.Table, JoinedRows.table, JoinedRows.rows_are, Fitting.joined-most}
use Rattle.joined.proofs.Joining.ProperJoined.{fits}
use Rattle.join.proofs.Outputs.{left}

-- questions 1 and 2 are answered "yes"
pub validate-judged : (model tape : List ℕ) → validate in_force model tape Limits.work_numbers Limits.report_room ≡ judged model tape
unfolding validate
validate-judged model tape = refl

pub header-fits : (m : BlockModel) → Decoded m → Fits (header_of m)
unfolding header_of
header-fits m d =
    record {
      within =
          record {
            facilities = d.facilities;
            storages = d.storages;
            queues = d.queues;
            values = d.values;
            lists = d.lists;
            blocks = d.blocks.1;
          };
      counter = d.counter.1;
    }

-- what decoding promises of accepted bytes
pub accepted-table : (model tape : List ℕ) (m : BlockModel) (times : List (List ℕ)) (tables lists : List ℕ)
    → judged model tape ≡ accept m times → Represents m times tape tables lists → Table m tables
accepted-table model tape m times tables lists e r =
    let v = validate-judged model tape ∙ e in
    table m times tape tables lists r (judged-decoded model tape e) (nested-from model tape Limits.work_numbers Limits.report_room v)
    (proper-from in_force model tape Limits.work_numbers Limits.report_room v)

module _ (m₁ m₂ : BlockModel) (tables₁ tables₂ : List ℕ) (t₁ : Table m₁ tables₁) (t₂ : Table m₂ tables₂) where
  may-join : may_join_tables tables₁ (header_of m₁) tables₂ (header_of m₂) ≡ joinable m₁ m₂
  unfolding may_join joinable header_of
  may-join = rw (t₁.edition, t₂.edition)

  pub ready : Ready tables₁ (header_of m₁) tables₂ (header_of m₂)
  ready =
      record {
        first = header-fits m₁ t₁.decoded;
        second = header-fits m₂ t₂.decoded;
        room = λ size₁ size₂ e. joined-most m₁ m₂ tables₁ tables₂ size₁ size₂ t₁ t₂ (fits m₁ m₂ (sym may-join ∙ e));
      }

  -- the code's tables give what the definition says of the two models
  pub tables-joined : (tape₁ tape₂ : List ℕ) (modelRoom tapeRoom : ℕ) (times₁ times₂ : List (List ℕ))
      → joined_tables tables₁ (header_of m₁) tables₂ (header_of m₂) tape₁ tape₂ modelRoom tapeRoom ≡ joined_pair modelRoom tapeRoom tape₁ tape₂
      (accept m₁ times₁) (accept m₂ times₂)
  unfolding joined_tables joined_pair
  tables-joined tape₁ tape₂ modelRoom tapeRoom times₁ times₂ =
      ap₂ (λ b l. cond b (fitted modelRoom tapeRoom (numbers_bytes l) (tape₁ ++ tape₂)) (refused 61)) may-join
      (rows_are m₁ m₂ tables₁ tables₂ t₁ t₂)

-- ---- The call

module _ (model₁ tape₁ model₂ tape₂ : List ℕ) where
  abbrev Done : (outModel outTape : List ℕ) (r : Joined) (modelAfter tapeAfter : List ℕ) → Type 0
  Done outModel outTape r modelAfter tapeAfter =
      Contract outModel outTape r modelAfter tapeAfter (join model₁ tape₁ model₂ tape₂ (length outModel) (length outTape))

  abbrev Asked : (model tape : List ℕ) → Answer → (tables lists : List ℕ) → Type 0
  Asked model tape r tables lists = Decodes tape r tables lists (validate in_force model tape Limits.work_numbers Limits.report_room)

  module _ (tables₁ lists₁ : List ℕ) (r₁ : Answer) (d₁ : Asked model₁ tape₁ r₁ tables₁ lists₁) where
    -- the refusal of a part is that of the pair, the first part's first
    pub first-refused : (outModel outTape : List ℕ) (d : Refusal) → r₁ ≡ Err d → Done outModel outTape (Err d) outModel outTape
    unfolding join joined_pair
    first-refused outModel outTape d e =
        rw (sym (validate-judged model₁ tape₁) ∙ decoded-refused tape₁ tables₁ lists₁ r₁ _ d d₁ e) (left outModel outTape d)

    module _ (a : Model) (e₁ : r₁ ≡ Ok a) (tables₂ lists₂ : List ℕ) (r₂ : Answer)
        (d₂ : Asked model₂ tape₂ r₂ tables₂ lists₂) where
      told₁ : Told tape₁ a tables₁ lists₁ (validate in_force model₁ tape₁ Limits.work_numbers Limits.report_room)
      told₁ = decoded-model tape₁ tables₁ lists₁ r₁ _ a d₁ e₁

      pub second-refused : (outModel outTape : List ℕ) (d : Refusal) → r₂ ≡ Err d → Done outModel outTape (Err d) outModel outTape
      unfolding join joined_pair
      second-refused outModel outTape d e =
          rw (
            sym (validate-judged model₁ tape₁) ∙ told₁.accepted,
            sym (validate-judged model₂ tape₂) ∙ decoded-refused tape₂ tables₂ lists₂ r₂ _ d d₂ e,
          ) (left outModel outTape d)

      module _ (b : Model) (e₂ : r₂ ≡ Ok b) where
        told₂ : Told tape₂ b tables₂ lists₂ (validate in_force model₂ tape₂ Limits.work_numbers Limits.report_room)
        told₂ = decoded-model tape₂ tables₂ lists₂ r₂ _ b d₂ e₂

        table₁ : Table told₁.model tables₁
        table₁ =
            accepted-table model₁ tape₁ told₁.model told₁.times tables₁ lists₁ (sym (validate-judged model₁ tape₁) ∙ told₁.accepted)
            told₁.represents

        table₂ : Table told₂.model tables₂
        table₂ =
            accepted-table model₂ tape₂ told₂.model told₂.times tables₂ lists₂ (sym (validate-judged model₂ tape₂) ∙ told₂.accepted)
            told₂.represents

        pub pair-ready : Ready tables₁ a tables₂ b
        pair-ready =
            subst (λ h. Ready tables₁ h tables₂ b) (sym told₁.header)
            (subst (λ h. Ready tables₁ (header_of told₁.model) tables₂ h) (sym told₂.header)
            (ready told₁.model told₂.model tables₁ tables₂ table₁ table₂))

        is_join : (outModel outTape : List ℕ)
            → joined_tables tables₁ a tables₂ b tape₁ tape₂ (length outModel) (length outTape) ≡ join model₁ tape₁ model₂ tape₂
            (length outModel) (length outTape)
        unfolding join
        is_join outModel outTape =
            ap₂ (λ h k. joined_tables tables₁ h tables₂ k tape₁ tape₂ (length outModel) (length outTape)) told₁.header told₂.header
            ∙ tables-joined told₁.model told₂.model tables₁ tables₂ table₁ table₂ tape₁ tape₂ (length outModel) (length outTape)
            told₁.times told₂.times
            ∙ sym (ap₂ (joined_pair (length outModel) (length outTape) tape₁ tape₂) (sym (validate-judged model₁ tape₁) ∙ told₁.accepted)
            (sym (validate-judged model₂ tape₂) ∙ told₂.accepted))

        -- from decoded tables to the bytes that they came from
        pub pair-done : (outModel outTape : List ℕ) (r : Joined) (modelAfter tapeAfter : List ℕ)
            → Contract outModel outTape r modelAfter tapeAfter
            (joined_tables tables₁ a tables₂ b tape₁ tape₂ (length outModel) (length outTape)) → Done outModel outTape r modelAfter tapeAfter
        pair-done outModel outTape r modelAfter tapeAfter h =
            subst (Contract outModel outTape r modelAfter tapeAfter) (is_join outModel outTape) h
