-- The records of a whole trace, pure: `whole_from` by what the reader answers, and what it says of the bytes.
use Rattle.machine.specs.All.{clash, ℕ, zero, suc, ◌-◌, ◌≤◌, arith, List, [], ◌∷◌, Option, none, some, ◌≡◌, refl, sym, ap, ◌∙◌, length, in_force, Record, Reading, taken, refusal, no_more, read_record}
use Rattle.trace.specs.Whole.{Reads, ends, takes}
use Rattle.columns_laws.specs.{behind, whole_from}

module _ (s : List ℕ) where
  pub whole-refusal : (k n : ℕ) → whole_from k s (refusal n) ≡ none
  unfolding whole_from
  whole-refusal zero n = refl
  whole-refusal (suc k) n = refl

  pub whole-more : (k : ℕ) → whole_from k s no_more ≡ some []
  unfolding whole_from
  whole-more zero = refl
  whole-more (suc k) = refl

  module _ (r : Record) (next : ℕ) where
    pub whole-none : (k : ℕ) → k ≡ 0 → whole_from k s (taken r next) ≡ none
    unfolding whole_from
    whole-none zero e = refl
    whole-none (suc k) e = absurd (omega arith)

    pub whole-taken : (k : ℕ) → whole_from (suc k) s (taken r next) ≡ behind r (whole_from k s (read_record in_force s next))
    unfolding whole_from
    whole-taken k = refl

-- ---- The records found are those that the reader takes, one after the other

some-list : {l m : List Record} → some l ≡ some m → l ≡ m
some-list {l} {m} e = cc

-- the first of them
record First (r : Record) (o : Option (List Record)) (l : List Record) : Type 0 where
  tail : List Record
  found : o ≡ some tail
  all : l ≡ r ∷ tail

first : (r : Record) (o : Option (List Record)) (l : List Record) → behind r o ≡ some l → First r o l
unfolding behind
first r none l e = clash (cc)
first r (some m) l e = record { tail = m; found = refl; all = sym (some-list e) }

module _ (s : List ℕ) where
  -- a trace read whole is read record by record, and has at most so many
  pub whole-reads : (k at : ℕ) (l : List Record) → whole_from k s (read_record in_force s at) ≡ some l → Reads s at l × (length l ≤ k)
  whole-reads zero at l e = go (read_record in_force s at) refl e
    where
      go : (y : Reading) → read_record in_force s at ≡ y → whole_from zero s y ≡ some l → Reads s at l × (length l ≤ zero)
      go (taken r next) h f = clash (cc (whole-none s r next zero refl))
      go (refusal n) h f = clash (cc (whole-refusal s zero n))
      go no_more h f = let e : l ≡ [] = sym (some-list (sym (whole-more s zero) ∙ f)) in rw e (ends h, omega arith)
  whole-reads (suc k) at l e = go (read_record in_force s at) refl (λ next m. whole-reads k next m) e
    where
      go : (y : Reading) → read_record in_force s at ≡ y →
          ((next : ℕ) (m : List Record) → whole_from k s (read_record in_force s next) ≡ some m → Reads s next m × (length m ≤ k)) →
          whole_from (suc k) s y ≡ some l → Reads s at l × (length l ≤ suc k)
      go (taken r next) h again f =
          let x = first r (whole_from k s (read_record in_force s next)) l (sym (whole-taken s r next k) ∙ f) in
          let rest = again next x.tail x.found in
          rw x.all (takes h rest.0, omega (arith, rest.1))
      go (refusal n) h again f = clash (cc (whole-refusal s (suc k) n))
      go no_more h again f = let e : l ≡ [] = sym (some-list (sym (whole-more s (suc k)) ∙ f)) in rw e (ends h, omega arith)

-- and the other way round
pub reads_whole : {s : List ℕ} {at : ℕ} {l : List Record} (k : ℕ) → Reads s at l → length l ≤ k
    → whole_from k s (read_record in_force s at) ≡ some l
reads_whole {s = s} k (ends {at = at} e) h = rw e (whole-more s k)
reads_whole {s = s} k (takes {at = at} {next = next} {r = r} {l = l} e t) h =
    let n : k ≡ suc (k - 1) = omega arith in
    let rest = reads_whole (k - 1) t (omega arith) in
    ap (λ (m : ℕ). whole_from m s (read_record in_force s at)) n ∙ ap (whole_from (suc (k - 1)) s) e ∙ whole-taken s r next (k - 1)
    ∙ ap (behind r) rest
    ∙ unfold behind in refl
