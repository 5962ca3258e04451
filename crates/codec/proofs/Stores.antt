-- Stores from the last group up, pure: what is stored first stands last.
use Rattle.machine.specs.All.{ℕ, zero, suc, ◌+◌, ◌-◌, ◌/◌, ◌%◌, ◌≤◌, ◌<◌, add-zero, arith, List, [], ◌∷◌, ◌++◌, ◌≡◌, refl, sym, ap, ◌∙◌, eqb, length, set, length-append, sets, set_comm, eqb-true, eqb-false, upper, number_bytes, Bool, true, false}
use Rattle.codec.proofs.Groups.{upper-zero, upper-step}

-- storing the last element first
pub sets_snoc : (u l : List ℕ) (at x : ℕ) → sets (set l (at + length u) x) at u ≡ sets l at (u ++ (x ∷ []))
sets_snoc [] l at x = ap (λ (i : ℕ). set l i x) (add-zero at)
sets_snoc (y ∷ u) l at x =
    let e : at + suc (length u) ≡ suc at + length u = omega arith in
    ap (λ (m : List ℕ). sets m (suc at) u)
    (set_comm l (at + suc (length u)) at x y (λ h. omega arith) ∙ ap (λ (i : ℕ). set (set l at y) i x) e)
    ∙ sets_snoc u (set l at y) (suc at) x

-- one run of stores after another
pub sets-append : (u w l : List ℕ) (at : ℕ) → sets (sets l at u) (at + length u) w ≡ sets l at (u ++ w)
sets-append [] w l at = ap (λ (i : ℕ). sets l i w) (add-zero at)
sets-append (y ∷ u) w l at =
    ap (λ (i : ℕ). sets (sets (set l at y) (suc at) u) i w) (omega arith) ∙ sets-append u w (set l at y) (suc at)

-- fuel as many as the groups
pub upper_exact : (k v : ℕ) → upper (length (upper k v)) v ≡ upper k v
unfolding upper
upper_exact zero v = refl
upper_exact (suc k) v = go (eqb v 0) refl (upper_exact k (v / 128))
  where
    go : (t : Bool) → eqb v 0 ≡ t → upper (length (upper k (v / 128))) (v / 128) ≡ upper k (v / 128) →
        upper (length (upper (suc k) v)) v ≡ upper (suc k) v
    go true e ih = rw (eqb-true v 0 e)
    go false e ih =
        let n : length (upper k (v / 128) ++ ((128 + v % 128) ∷ [])) ≡ suc (length (upper k (v / 128))) = rw length-append (omega arith) in
        let step = upper-step k v (eqb-false v 0 e) in
        ap (λ (m : ℕ). upper m v) (ap length step ∙ n)
        ∙ upper-step (length (upper k (v / 128))) v (eqb-false v 0 e)
        ∙ ap (λ (u : List ℕ). u ++ ((128 + v % 128) ∷ [])) ih
        ∙ sym step

-- ---- The writing loop: the groups above the last, which stands already

module _ (v : ℕ) where
  last-bytes : length (number_bytes v) - 1 ≡ length (upper 8 (v / 128))
  unfolding number_bytes
  last-bytes = rw length-append (omega arith)

  -- stored from the back: as many groups above the last as bytes before it
  pub store-start : length (upper (length (number_bytes v) - 1) (v / 128)) ≡ length (number_bytes v) - 1
  store-start = rw (last-bytes, upper_exact 8 (v / 128))

  pub store-whole : (l : List ℕ) (at : ℕ) →
      sets (set l (at + (length (number_bytes v) - 1)) (v % 128)) at (upper (length (number_bytes v) - 1) (v / 128))
      ≡ sets l at (number_bytes v)
  unfolding number_bytes
  store-whole l at = rw (last-bytes, upper_exact 8 (v / 128)) (sets_snoc (upper 8 (v / 128)) l at (v % 128))

module _ (left above : ℕ) (pos : 0 < left) (all : length (upper left above) ≡ left) where
  not-zero : above ≡ 0 → ⊥
  not-zero e = omega (arith, sym all ∙ ap (λ (w : ℕ). length (upper left w)) e ∙ ap length (upper-zero left))

  one_group : upper left above ≡ upper (left - 1) (above / 128) ++ ((128 + above % 128) ∷ [])
  one_group = ap (λ (k : ℕ). upper k above) (omega arith) ∙ upper-step (left - 1) above not-zero

  pub store-fewer : length (upper (left - 1) (above / 128)) ≡ left - 1
  store-fewer = omega (arith, simp length-append at (sym (ap length one_group) ∙ all))

  pub store_step : (l : List ℕ) (at : ℕ) →
      sets (set l (at + (left - 1)) (128 + above % 128)) at (upper (left - 1) (above / 128)) ≡ sets l at (upper left above)
  store_step l at =
      ap (λ (i : ℕ). sets (set l (at + i) (128 + above % 128)) at (upper (left - 1) (above / 128))) (sym store-fewer)
      ∙ sets_snoc (upper (left - 1) (above / 128)) l at (128 + above % 128)
      ∙ ap (sets l at) (sym one_group)

pub store-done : (left above : ℕ) (l : List ℕ) (at : ℕ) → left ≤ 0 → l ≡ sets l at (upper left above)
unfolding upper
store-done zero above l at h = refl
store-done (suc k) above l at h = absurd (omega arith)
