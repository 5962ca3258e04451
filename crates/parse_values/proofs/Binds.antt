-- One step after the other, pure: from what a call kept (specs/Keeps) to what its caller keeps of a parser that goes on.
use Rattle.machine.specs.All.{clash, ℕ, ◌≡◌, refl, ap, List, sets, Cursor, Parsed, parsed, refused, Parser, continue, sym, ◌∙◌}
use Rattle.std.specs.Prelude.{Ok, Err, IsErrAnd}
use Rattle.std.proofs.lemmas.Result.{err_from_is_err_and}
use Rattle.constants.specs.{declared.refusals.Refusal.Refusal, Numbers.refusal_number}
use Rattle.parse_values.specs.declared.Place.{Place}
use Rattle.parse_values.specs.{cursor_of, place_of, Taken, Stored, Shape, Takes, Stores}

-- ---- What a `?` passes on: the refusal of the call is that of its caller

pub takes-passed : {sh : Shape ℕ} {p : Place} {to : ℕ} {cells after : List ℕ} {r : Taken} {P : Parsed ℕ} {d : Refusal} →
    IsErrAnd r (λ x. x ≡ d) → Takes sh p to cells after (Err d) P → Takes sh p to cells after r P
takes-passed {r = r} given k = let e = err_from_is_err_and r given in rw (e.1, e.2) k

pub stores-passed : {A : Type 0} {sh : Shape A} {p : Place} {to : ℕ} {cells after : List ℕ} {r : Stored} {P : Parsed A} {d : Refusal} →
    IsErrAnd r (λ x. x ≡ d) → Stores sh p to cells after (Err d) P → Stores sh p to cells after r P
stores-passed {r = r} given k = let e = err_from_is_err_and r given in rw (e.1, e.2) k

-- ---- A number that was refused, or read

module _ {sh : Shape ℕ} {p : Place} {to : ℕ} {cells after : List ℕ} {r : Taken} where
  -- a number that is not taken is the parser's refusal
  pub takes-refused : (P : Parsed ℕ) {d : Refusal} → Takes sh p to cells after r P → r ≡ Err d → P ≡ refused (refusal_number d)
  takes-refused (parsed a c) k told = let e = sym told ∙ k.held.0 in clash (cc)
  takes-refused (refused m) k told = ap refused (sym (rw told at k.held))

  -- a number that was read: what holds of it holds of what the parser gave
  pub takes-known : (G : Parsed ℕ → Type 0) (P : Parsed ℕ) {v : ℕ} {q : Place} → Takes sh p to cells after r P → r ≡ Ok (v, q) →
      (q.named ≡ sh.named p.named v → after ≡ sets cells to (sh.numbers v) → sh.fact p v (cursor_of q) → G (parsed v (cursor_of q))) →
      G P
  takes-known G (parsed a c) {v} {q} k told g =
      let e = sym told ∙ k.held.0 in
      let same : ◌≡◌ {A = ℕ × Place} (v, q) (a, place_of c (sh.named p.named a)) = cc in
      let ev : v ≡ a = ap (λ (x : ℕ × Place). x.0) same in
      let eq : q ≡ place_of c (sh.named p.named a) = ap (λ (x : ℕ × Place). x.1) same in
      (rw (ev, eq) at g) refl k.held.1 k.held.2
  takes-known G (refused m) k told g = absurd (rw told at k.held)

  module _ {B : Type 0} (G : Parsed B → Type 0) where
    -- so what follows it in the parser is refused too
    pub takes-stop : (P : Parsed ℕ) (f : ℕ → Parser B) {d : Refusal} → Takes sh p to cells after r P → r ≡ Err d
        → G (refused (refusal_number d)) → G (continue P f)
    unfolding continue
    takes-stop P f k told s = rw (takes-refused P k told) s

    -- a number that is taken is handed to what follows, with the place behind it
    pub takes_bind : (P : Parsed ℕ) (f : ℕ → Parser B) {v : ℕ} {q : Place} → Takes sh p to cells after r P → r ≡ Ok (v, q) →
        (q.named ≡ sh.named p.named v → after ≡ sets cells to (sh.numbers v) → sh.fact p v (cursor_of q) → G (f v (cursor_of q))) →
        G (continue P f)
    unfolding continue
    takes_bind P f k told g = takes-known (λ x. G (continue x f)) P k told g

-- ---- A thing that was refused, or stored

module _ {A : Type 0} {sh : Shape A} {p : Place} {to : ℕ} {cells after : List ℕ} {r : Stored} where
  -- the same three of anything that is stored
  pub stores-refused : (P : Parsed A) {d : Refusal} → Stores sh p to cells after r P → r ≡ Err d → P ≡ refused (refusal_number d)
  stores-refused (parsed a c) k told = let e = sym told ∙ k.held.0 in clash (cc)
  stores-refused (refused m) k told = ap refused (sym (rw told at k.held))

  module _ {B : Type 0} (G : Parsed B → Type 0) where
    pub stores-stop : (P : Parsed A) (f : A → Parser B) {d : Refusal} → Stores sh p to cells after r P → r ≡ Err d
        → G (refused (refusal_number d)) → G (continue P f)
    unfolding continue
    stores-stop P f k told s = rw (stores-refused P k told) s

    pub stores_bind : (P : Parsed A) (f : A → Parser B) {q : Place} → Stores sh p to cells after r P → r ≡ Ok q →
        ((a : A) → q.named ≡ sh.named p.named a → after ≡ sets cells to (sh.numbers a) → sh.fact p a (cursor_of q)
        → G (f a (cursor_of q))) →
        G (continue P f)
    unfolding continue
    stores_bind (parsed a c) f {q} k told g =
        let e = sym told ∙ k.held.0 in
        let eq : q ≡ place_of c (sh.named p.named a) = cc in
        (rw eq at (g a)) refl k.held.1 k.held.2
    stores_bind (refused m) f k told g = absurd (rw told at k.held)

  -- the last call: what it stored ends what its caller stores, and its answer is the caller's
  module _ {B : Type 0} (shB : Shape B) (p' : Place) (to' : ℕ) (cells' : List ℕ) (f : A → B) where
    pub stores-last : (P : Parsed A) → Stores sh p to cells after r P →
        ((a : A) (c : Cursor) → after ≡ sets cells to (sh.numbers a) → sh.fact p a c →
        (sh.named p.named a ≡ shB.named p'.named (f a)) × (after ≡ sets cells' to' (shB.numbers (f a))) × shB.fact p' (f a) c) →
        Stores shB p' to' cells' after r (continue P (λ a c. parsed (f a) c))
    unfolding continue
    stores-last (parsed a c) k g =
        let h = g a c k.held.1 k.held.2 in
        record { held = (k.held.0 ∙ ap (λ (n : ℕ). Ok (place_of c n)) h.0, h.1, h.2) }
    stores-last (refused m) k g = record { held = k.held }

  -- the same thing, of another shape
  module _ (shB : Shape A) (p' : Place) (to' : ℕ) (cells' : List ℕ) where
    pub stores_as : (P : Parsed A) → Stores sh p to cells after r P →
        ((a : A) (c : Cursor) → after ≡ sets cells to (sh.numbers a) → sh.fact p a c →
        (sh.named p.named a ≡ shB.named p'.named a) × (after ≡ sets cells' to' (shB.numbers a)) × shB.fact p' a c) →
        Stores shB p' to' cells' after r P
    stores_as (parsed a c) k g =
        let h = g a c k.held.1 k.held.2 in
        record { held = (k.held.0 ∙ ap (λ (n : ℕ). Ok (place_of c n)) h.0, h.1, h.2) }
    stores_as (refused m) k g = record { held = k.held }
