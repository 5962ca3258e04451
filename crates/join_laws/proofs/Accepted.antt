-- The joined pair is accepted, as the joined model and tape.
use Rattle.machine.specs.All.{ℕ, ◌+◌, zero-add, ◌≡◌, refl, sym, ap, subst, ◌∙◌, Bool, true, false, cond, ◌&&◌, List, [], ◌++◌, append-nil, eq-eqb, T, leb, work_numbers, report_room, in_force, Cursor, Parsed, parsed, refused, continue, ask, BlockModel, model_fields, at_end, beginning, well_formed, model_of_lem, tape_of, accept, reject, with_tape, with_model, validate, arith, ap₂, length}
use Rattle.machine.proofs.Decoding.ProperFrom.{proper-from}
use Rattle.joined.specs.Join.{join_models, join_tapes, joinable}
use Rattle.join_laws.specs.{stored_model, model_bytes, joined, judged, fitted, joined_pair, join, JoinAccepted}
use Rattle.join_laws.specs.Joining.{Joining}
use Rattle.join_laws.proofs.{Carrying.Passed, Decoded.Decoded, Decoded.decoded, Joint.model-read, Formed.well-formed, Formed.joined-formed, EndToEnd.tapes-read}
use Rattle.joined.proofs.Joining.ProperJoined.{fits}

-- ---- What was asked of a pair

record Pair (model tape : List ℕ) (m : BlockModel) (times : List (List ℕ)) : Type 0 where
  after : Cursor
  end : Cursor
  model_is : model_of_lem in_force model beginning ≡ parsed m after
  tape-is : tape_of m.rules tape m.lists beginning ≡ parsed times end

pair : (model tape : List ℕ) {m : BlockModel} {times : List (List ℕ)} → judged model tape ≡ accept m times → Pair model tape m times
unfolding with_model with_tape
pair model tape {m} {times} e = go (model_of_lem in_force model beginning) refl e
  where
    taped : (k : BlockModel) (c : Cursor) → model_of_lem in_force model beginning ≡ parsed k c → (r : Parsed (List (List ℕ)))
        → tape_of k.rules tape k.lists beginning ≡ r
        → with_tape k r ≡ accept m times → Pair model tape m times
    taped k c f (parsed t d) g h =
        let same : k ≡ m = cc in
        let same-tape : t ≡ times = cc in
        record {
          after = c;
          end = d;
          model_is = f ∙ ap (λ x. parsed x c) same;
          tape-is = subst (λ x. tape_of x.rules tape x.lists beginning ≡ parsed times d) same (g ∙ ap (λ x. parsed x d) same-tape);
        }
    taped k c f (refused n) g h = let z : ◌≡◌ {A = ℕ} 0 1 = cc in absurd (omega arith)

    go : (r : Parsed BlockModel) → model_of_lem in_force model beginning ≡ r → with_model tape r ≡ accept m times → Pair model tape m times
    go (parsed k c) f h = taped k c f (tape_of k.rules tape k.lists beginning) refl h
    go (refused n) f h = let z : ◌≡◌ {A = ℕ} 0 1 = cc in absurd (omega arith)

-- what was read of an accepted model
pub judged-decoded : (model tape : List ℕ) {m : BlockModel} {times : List (List ℕ)} → judged model tape ≡ accept m times → Decoded m
judged-decoded model tape e = (decoded model beginning (pair model tape e).model_is).0

-- the two buffers of a run suffice
asked : (model tape : List ℕ) (work report : ℕ) {m : BlockModel} {times : List (List ℕ)}
    → validate in_force model tape work report ≡ accept m times
    → (leb work_numbers work ≡ true) × (leb report_room report ≡ true) × (judged model tape ≡ accept m times)
unfolding validate
asked model tape work report {m} {times} e = go (leb work_numbers work) (leb report_room report) e
  where
    go : (a b : Bool) → cond a (cond b (judged model tape) (reject 2)) (reject 1) ≡ accept m times
        → (a ≡ true) × (b ≡ true) × (judged model tape ≡ accept m times)
    go true true h = (refl, refl, h)
    go true false h = let z : ◌≡◌ {A = ℕ} 0 1 = cc in absurd (omega arith)
    go false b h = let z : ◌≡◌ {A = ℕ} 0 1 = cc in absurd (omega arith)

-- ---- What was joined

record Made (m₁ m₂ : BlockModel) (tape₁ tape₂ model tape : List ℕ) : Type 0 where
  within : joinable m₁ m₂ ≡ true
  model_is : model_bytes (join_models m₁ m₂) ≡ model
  tape-is : tape₁ ++ tape₂ ≡ tape

made : (modelRoom tapeRoom : ℕ) (m₁ m₂ : BlockModel) (times₁ times₂ : List (List ℕ)) (tape₁ tape₂ model tape : List ℕ)
    → joined_pair modelRoom tapeRoom tape₁ tape₂ (accept m₁ times₁) (accept m₂ times₂) ≡ joined model tape
    → Made m₁ m₂ tape₁ tape₂ model tape
unfolding joined_pair fitted
made modelRoom tapeRoom m₁ m₂ times₁ times₂ tape₁ tape₂ model tape e =
    go (joinable m₁ m₂) (leb (length (model_bytes (join_models m₁ m₂))) modelRoom && leb (length (tape₁ ++ tape₂)) tapeRoom) refl e
  where
    go : (a b : Bool) → joinable m₁ m₂ ≡ a
        → cond a (cond b (joined (model_bytes (join_models m₁ m₂)) (tape₁ ++ tape₂)) (Joining.refused 62)) (Joining.refused 61)
        ≡ joined model tape
        → Made m₁ m₂ tape₁ tape₂ model tape
    go true true f h = record { within = f; model_is = cc; tape-is = cc }
    go true false f h = let z : ◌≡◌ {A = ℕ} 0 1 = cc in absurd (omega arith)
    go false b f h = let z : ◌≡◌ {A = ℕ} 0 1 = cc in absurd (omega arith)

-- ---- The joined model and tape

model-accepted : (m : BlockModel) → Passed false beginning 0 (stored_model m) m (model_fields (model_bytes m) in_force beginning)
    → T (well_formed m)
    → (c : Cursor) × (model_of_lem in_force (model_bytes m) beginning ≡ parsed m c)
unfolding model_of_lem at_end ask continue
model-accepted m r f = (
  r.after,
  rw (
    r.reads,
    eq-eqb r.after.position (length (model_bytes m)) (r.position ∙ zero-add (length (model_bytes m))),
    formed (well_formed m) f,
  ),
)
  where
    formed : (b : Bool) → T b → b ≡ true
    formed true h = refl
    formed false h = absurd h

accepts : (model tape : List ℕ) (work report : ℕ) (m : BlockModel) (times : List (List ℕ)) (c d : Cursor) → leb work_numbers work ≡ true
    → leb report_room report ≡ true
    → model_of_lem in_force model beginning ≡ parsed m c → tape_of m.rules tape m.lists beginning ≡ parsed times d
    → validate in_force model tape work report ≡ accept m times
unfolding validate with_model with_tape
accepts model tape work report m times c d w r e f = rw (w, r, e, f)

parts : (model₁ tape₁ model₂ tape₂ : List ℕ) (modelRoom tapeRoom work report : ℕ) (m₁ m₂ : BlockModel) (times₁ times₂ : List (List ℕ))
    → validate in_force model₁ tape₁ work report ≡ accept m₁ times₁ → validate in_force model₂ tape₂ work report ≡ accept m₂ times₂
    → (model tape : List ℕ) → join model₁ tape₁ model₂ tape₂ modelRoom tapeRoom ≡ joined model tape → Made m₁ m₂ tape₁ tape₂ model tape
unfolding join
parts model₁ tape₁ model₂ tape₂ modelRoom tapeRoom work report m₁ m₂ times₁ times₂ v₁ v₂ model tape e =
    let a₁ = asked model₁ tape₁ work report v₁ in
    let a₂ = asked model₂ tape₂ work report v₂ in
    made modelRoom tapeRoom m₁ m₂ times₁ times₂ tape₁ tape₂ model tape
    (sym (ap₂ (joined_pair modelRoom tapeRoom tape₁ tape₂) a₁.2 a₂.2) ∙ e)

-- whatever is joined at all passes no limit: the function asked for all of them
pub join-within : (model₁ tape₁ model₂ tape₂ : List ℕ) (modelRoom tapeRoom work report : ℕ) (m₁ m₂ : BlockModel)
    (times₁ times₂ : List (List ℕ))
    → validate in_force model₁ tape₁ work report ≡ accept m₁ times₁ → validate in_force model₂ tape₂ work report ≡ accept m₂ times₂
    → (model tape : List ℕ) → join model₁ tape₁ model₂ tape₂ modelRoom tapeRoom ≡ joined model tape → joinable m₁ m₂ ≡ true
join-within model₁ tape₁ model₂ tape₂ modelRoom tapeRoom work report m₁ m₂ times₁ times₂ v₁ v₂ model tape e =
    (parts model₁ tape₁ model₂ tape₂ modelRoom tapeRoom work report m₁ m₂ times₁ times₂ v₁ v₂ model tape e).within

pub join-accepted : JoinAccepted
join-accepted model₁ tape₁ model₂ tape₂ modelRoom tapeRoom work report m₁ m₂ times₁ times₂ v₁ v₂ model tape e =
    let a₁ = asked model₁ tape₁ work report v₁ in
    let a₂ = asked model₂ tape₂ work report v₂ in
    let p₁ = pair model₁ tape₁ a₁.2 in
    let p₂ = pair model₂ tape₂ a₂.2 in
    let d₁ = decoded model₁ beginning p₁.model_is in
    let d₂ = decoded model₂ beginning p₂.model_is in
    let proper₁ = proper-from in_force model₁ tape₁ work report v₁ in
    let proper₂ = proper-from in_force model₂ tape₂ work report v₂ in
    let x = parts model₁ tape₁ model₂ tape₂ modelRoom tapeRoom work report m₁ m₂ times₁ times₂ v₁ v₂ model tape e in
    let limits = fits m₁ m₂ x.within in
    let read = model-read m₁ m₂ limits d₁.0 d₂.0 (well-formed d₁.1).names (well-formed d₂.1).names beginning beginning in
    let whole =
    model-accepted (join_models m₁ m₂)
    (read.from (model_bytes (join_models m₁ m₂)) [] beginning (sym (append-nil (model_bytes (join_models m₁ m₂)))) tt)
    (joined-formed proper₁ proper₂) in
    let tapes =
    tapes-read in_force tape₁ tape₂ m₁.lists m₂.lists (under m₁ tape₁ d₁.0.rules p₁.tape-is)
    (under m₂ tape₂ d₂.0.rules p₂.tape-is) in
    subst (λ s. validate in_force s tape work report ≡ accept (join_models m₁ m₂) (join_tapes times₁ times₂)) x.model_is
    (subst (λ s. validate in_force (model_bytes (join_models m₁ m₂)) s work report ≡ accept (join_models m₁ m₂) (join_tapes times₁ times₂))
    x.tape-is
    (accepts (model_bytes (join_models m₁ m₂)) (tape₁ ++ tape₂) work report (join_models m₁ m₂) (times₁ ++ times₂) whole.0 tapes.0
    a₁.0 a₁.1 whole.1
    (unfold join_models in (ap (λ r. tape_of r (tape₁ ++ tape₂) (m₁.lists + m₂.lists) beginning) d₁.0.rules ∙ tapes.1))))
  where
    under : (m : BlockModel) (s : List ℕ) {times : List (List ℕ)} {c : Cursor} → m.rules ≡ in_force
        → tape_of m.rules s m.lists beginning ≡ parsed times c
        → tape_of in_force s m.lists beginning ≡ parsed times c
    under m s {times} {c} e h = subst (λ r. tape_of r s m.lists beginning ≡ parsed times c) e h
