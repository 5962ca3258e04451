-- Basic names of the kit, passed on so that a file has one line for them.
pub use Rattle.std.specs.Prelude.{ℕ, suc, ◌+◌, ◌*◌, ◌-◌, ◌%◌, ◌≤◌, ◌<◌, zero, ◌/◌, max, min, ◌^◌, ◌≡◌, refl, ◌≢◌, ◌⊎◌, Bool, true, false, not, cond, ◌&&◌, ◌||◌, length, get_or, drop, set, take, replicate, ltb, leb, eqb, T}
pub use Rattle.std.proofs.Common.{zero-le, subst, sym, ◌∙◌, ap, ap₂, subst₂, inl, inr, true≢false, arith, mul-le-mul, pow-suc, lt_of_lt_of_le, mul_assoc, mul_comm, mul-le-mul_right, le-mul_of_pos_right, le_trans, one-mul, add-zero, zero-add, add_assoc, suc-add, mod-lt, mod-eq_of_lt, div-add-mod', suc-mul, le_antisymm, mul-le-mul_left, add-suc, pos_of_ne-zero, mul-add, add-mul, add_comm, add-one, length-set, drop_of_length-le, length-drop, take-append-drop, length-append, length-take, lit<, lit≤, leb→le, ltb→lt, T_not, eqb→eq, get_or-set_same, get_or-set_other, drop-cons, drop-drop, length-take-le, get_or-drop, ext_get_or, get_or-take, get_or-append-add, take_at, take-suc, drop-set-lt, set-set, take-add, drop_at, take_all, ne_eqb, lt-ltb, le-ltb, eqb-true, eq-eqb, ltb-true, ltb-false, le-leb, leb-true, leb-false, rules}
pub use Rattle.std.proofs.Math.Path.{fun_ext}
pub use Rattle.std.proofs.lemmas.Bool.{false≢true, eqb-false, lt-leb, not-true, not-false}
pub use mathlib.Core.List.{List, [], ◌∷◌, ◌++◌, map, reverse, append_assoc, append-nil, map-append, map-map, reverse_aux, reverse-cons, reverse-append}
pub use Rattle.std.proofs.Math.Option.{some, Option, none}
pub use Rattle.std.proofs.Math.Nat.{add-sub_cancel_left, pow-le-pow_right, one-le-pow, div-le_of_le-mul, mul-add-mod_self_left, add-mul-mod_self_right, add-mul-div_right}
unfoldable pub use Rattle.std.proofs.Math.Decide.{ℕ_discrete}
pub use Rattle.std.proofs.lemmas.List.{length-map, length-reverse, length-replicate, get_or-replicate, set_comm, get_or_at, drop-append-le, set-get_or}
pub use Rattle.std.proofs.Math.ListN.{get_or-eq_default, get_or-append, get_or-map}
pub use Rattle.std.proofs.Math.Dec.{leb-zero}
pub use Rattle.std.proofs.Math.Seq.{drop-append_seam, length-sets, take-append_seam, drop-length, take-length, drop-append-add, set_out, map-set_same, get_or-append_seam}
pub use Rattle.std.proofs.lemmas.List.Edits.{sets, sets-eq}

-- by cases on a test, and on what is decided
pub cases {ℓ} : {A : Type ℓ} (b : Bool) → (b ≡ true → A) → (b ≡ false → A) → A
cases true f g = f refl
cases false f g = g refl

pub decided {ℓ κ} : {P : Type ℓ} {A : Type κ} → Dec P → (P → A) → (¬ P → A) → A
decided (yes p) f g = f p
decided (no n) f g = g n

-- two constructors that came out equal
pub clash {ℓ} : {A : Type ℓ} → ◌≡◌ {A = ℕ} 0 1 → A
clash e = absurd (omega arith)
