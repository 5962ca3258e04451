-- The FEL stays where nothing that it reads changes, and a full heap whose first is kept is one.
use Rattle.machine.specs.All.{ℕ, ◌<◌, ◌≡◌, refl, sym, ◌∙◌, Bool, true, false, cond, List, arith, eqb-false, eqb}
use Rattle.rows_laws.specs.All.{slot, place, link, head, tail, fel, load, sooner, up, top, Heaped}
use Rattle.rows_laws.proofs.Heap.Slots.{up-less}

top-same : (w w' : List ℕ) (n : ℕ) → (0 < n → load w' (slot 0) ≡ load w (slot 0)) → top w' n ≡ top w n
unfolding top
top-same w w' n e = go (eqb n 0) refl
  where
    go : (t : Bool) → eqb n 0 ≡ t → cond t 1024 (load w' (slot 0)) ≡ cond t 1024 (load w (slot 0))
    go true q = refl
    go false q = e (omega (arith, eqb-false n 0 q))

-- what the FEL reads: its head and tail, its slots, the places of all rows as far as they are it, links and data of its rows
pub record Unread (w w' : List ℕ) (n : ℕ) : Type 0 where
  pub heads : load w' (head fel) ≡ load w (head fel)
  pub tails : load w' (tail fel) ≡ load w (tail fel)
  pub slots : (i : ℕ) → i < n → load w' (slot i) ≡ load w (slot i)
  pub stay : (r : ℕ) → r < 1024 → load w (place r) ≡ fel → load w' (place r) ≡ fel
  pub were : (r : ℕ) → r < 1024 → load w' (place r) ≡ fel → load w (place r) ≡ fel
  pub links : (r : ℕ) → r < 1024 → load w (place r) ≡ fel → load w' (link r) ≡ load w (link r)
  pub order : (x y : ℕ) → x < 1024 → y < 1024 → load w (place x) ≡ fel → load w (place y) ≡ fel → sooner w' x y ≡ sooner w x y

-- who changes none of what `Unread` lists leaves the heap
pub heaped-kept : (w w' : List ℕ) (n : ℕ) → Unread w w' n → Heaped w n → Heaped w' n
heaped-kept w w' n u h =
    record {
      many = u.tails ∙ h.many;
      first = u.heads ∙ h.first ∙ sym (top-same w w' n (λ p. u.slots 0 p));
      seat = λ i hi. let s = h.seat i hi in rw (u.slots i hi) (s.0, u.stay _ s.0 s.1, u.links _ s.0 s.1 ∙ s.2);
      seated = λ r hr p. let q = u.were r hr p in let s = h.seated r hr q in rw (u.links r hr q) (s.0, u.slots _ s.0 ∙ s.1);
      order = λ i p hi.
          let hj : up i < n = omega (arith, up-less i p) in
          let a = h.seat i hi in
          let b = h.seat (up i) hj in
          rw (u.slots i hi, u.slots (up i) hj) (u.order _ _ a.0 b.0 a.1 b.1 ∙ h.order i p hi);
    }
