-- Numbers written one after the other, pure: what the functions over the tables write.
use Rattle.machine.specs.All.{ℕ, zero, suc, ◌+◌, ◌*◌, ◌-◌, ◌/◌, ◌%◌, ◌≤◌, ◌<◌, add-zero, arith, ◌≡◌, refl, sym, ap, ap₂, subst, ◌∙◌, Bool, true, false, cond, ◌&&◌, List, [], ◌∷◌, ◌++◌, eq-eqb, ne_eqb, le-leb, lt-leb, leb, length, get_or}
use Rattle.layout.specs.Layout as Layout
use Rattle.codec.specs.Writing.{Written, put}
use Rattle.join_laws.specs.declared.shift.Shift.{Shift}
use Rattle.constants.specs.declared.model.Model.{Model}
use Rattle.join_laws.specs.{first_shift, second_shift, joined_counter, cell_row_lem, server_rows, thing_rows, all_blocks_lem, program_rows, joined_rows, puts, moved_by, shape_of, role_of, operand_at, operands_from, block_row, block_rows, value_row_lem, value_rows, Items, items, behind, Wrote, opened, signs_in, sign_at, item_at, items_with, items_from}

pub puts-append : (k l : List ℕ) (w : Written) → puts (k ++ l) w ≡ puts l (puts k w)
unfolding puts
puts-append [] l w = refl
puts-append (v ∷ k) l w = puts-append k l (put v w)

module _ (tables : List ℕ) (by : Shift) where
  -- ---- One operand

  -- an operand that the kind does not have: nothing is written
  pub operand-none : (at form : ℕ) (w : Written) → form ≡ 0 → w ≡ puts (operand_at tables by at form) w
  unfolding operand_at puts
  operand-none at form w e = rw (eq-eqb form 0 e)

  -- an operand: what stands before it may say what it names
  pub operand-one : (at form before role n : ℕ) (w w' : Written) → (form ≡ 0 → ⊥) → before ≡ get_or tables (at - 1) 0
      → role ≡ role_of form before → n ≡ get_or tables at 0
      → w' ≡ put (moved_by by role n) w → w' ≡ puts (operand_at tables by at form) w
  unfolding operand_at puts
  operand-one at form before role n w w' some eb er en e =
      rw (ne_eqb form 0 some, ← eb, ← er, ← en) e

  -- ---- A block

  -- the kind, then its six places
  pub block-whole : (at kind forms : ℕ) (w w₁ w₂ : Written) → kind ≡ get_or tables at 0 → w₁ ≡ put (moved_by by 0 kind) w
      → forms ≡ shape_of kind
      → w₂ ≡ puts (operands_from tables by 6 (at + 1) forms) w₁ → w₂ ≡ puts (block_row tables by at) w
  unfolding block_row puts
  block-whole at kind forms w w₁ w₂ ek ew ef e =
      let p : at + 1 ≡ suc at = omega arith in
      e ∙ ap (puts (operands_from tables by 6 (at + 1) forms)) ew
      ∙ ap₂ (λ q f. puts (operands_from tables by 6 q f) (put (moved_by by 0 kind) w)) p ef
      ∙ ap (λ k. puts (operands_from tables by 6 (suc at) (shape_of k)) (put (moved_by by 0 k) w)) ek

  module _ (at forms : ℕ) (w : Written) where
    -- where each loop begins, in the form of its invariant
    pub operands-start : puts (operands_from tables by (6 - 0) (at + 0) forms) w ≡ puts (operands_from tables by 6 at forms) w
    operands-start = ap (λ i. puts (operands_from tables by 6 i forms) w) (add-zero at)

    pub operands_step : (i rest : ℕ) (w₁ w₂ : Written) → i < 6
        → puts (operands_from tables by (6 - i) (at + i) rest) w₁ ≡ puts (operands_from tables by 6 at forms) w
        → w₂ ≡ puts (operand_at tables by (at + i) (rest % 32)) w₁
        → puts (operands_from tables by (6 - (i + 1)) (at + (i + 1)) (rest / 32)) w₂ ≡ puts (operands_from tables by 6 at forms) w
    operands_step i rest w₁ w₂ h inv e =
        let left : 6 - i ≡ suc (6 - (i + 1)) = omega arith in
        let p : at + (i + 1) ≡ suc (at + i) = omega arith in
        ap₂ (λ q x. puts (operands_from tables by (6 - (i + 1)) q (rest / 32)) x) p e
        ∙ sym (puts-append (operand_at tables by (at + i) (rest % 32)) _ w₁)
        ∙ ap (λ l. puts l w₁) (one (6 - (i + 1)) (at + i) rest) ∙ ap (λ k. puts (operands_from tables by k (at + i) rest) w₁) (sym left)
        ∙ inv
      where
        one : (k p rest : ℕ)
            → operand_at tables by p (rest % 32) ++ operands_from tables by k (suc p) (rest / 32) ≡ operands_from tables by (suc k) p rest
        one k p rest = unfold operands_from in refl

    pub operands-done : (i rest : ℕ) (w₁ : Written) → 6 ≤ i
        → puts (operands_from tables by (6 - i) (at + i) rest) w₁ ≡ puts (operands_from tables by 6 at forms) w
        → w₁ ≡ puts (operands_from tables by 6 at forms) w
    operands-done i rest w₁ h inv =
        let left : 6 - i ≡ 0 = omega arith in
        sym (ap (λ k. puts (operands_from tables by k (at + i) rest) w₁) left ∙ none) ∙ inv
      where
        none : puts (operands_from tables by 0 (at + i) rest) w₁ ≡ w₁
        none = unfold operands_from puts in refl

-- ---- Rows one after the other

module _ (row : ℕ → List ℕ) (rows : ℕ → ℕ → List ℕ) (none : (k : ℕ) → rows 0 k ≡ [])
    (more : (left k : ℕ) → rows (suc left) k ≡ row k ++ rows left (suc k)) (count : ℕ) (w : Written) where
  rows_start : puts (rows (count - 0) 0) w ≡ puts (rows count 0) w
  rows_start = ap (λ i. puts (rows i 0) w) (omega arith)

  rows_step : (k : ℕ) (w₁ w₂ : Written) → k < count → puts (rows (count - k) k) w₁ ≡ puts (rows count 0) w → w₂ ≡ puts (row k) w₁
      → puts (rows (count - (k + 1)) (k + 1)) w₂ ≡ puts (rows count 0) w
  rows_step k w₁ w₂ h inv e =
      let left : count - k ≡ suc (count - (k + 1)) = omega arith in
      let p : k + 1 ≡ suc k = omega arith in
      ap₂ (λ i x. puts (rows (count - (k + 1)) i) x) p e ∙ sym (puts-append (row k) (rows (count - (k + 1)) (suc k)) w₁)
      ∙ ap (λ l. puts l w₁) (sym (more (count - (k + 1)) k)) ∙ ap (λ i. puts (rows i k) w₁) (sym left) ∙ inv

  rows-done : (k : ℕ) (w₁ : Written) → count ≤ k → puts (rows (count - k) k) w₁ ≡ puts (rows count 0) w → w₁ ≡ puts (rows count 0) w
  rows-done k w₁ h inv =
      let left : count - k ≡ 0 = omega arith in
      sym (ap (λ i. puts (rows i k) w₁) left ∙ ap (λ l. puts l w₁) (none k) ∙ nothing) ∙ inv
    where
      nothing : puts [] w₁ ≡ w₁
      nothing = unfold puts in refl

module _ (tables : List ℕ) (by : Shift) where
  blocks-none : (k : ℕ) → block_rows tables by 0 k ≡ []
  unfolding block_rows
  blocks-none k = refl

  blocks_more : (left k : ℕ)
      → block_rows tables by (suc left) k ≡ block_row tables by (Layout.block_width * k) ++ block_rows tables by left (suc k)
  unfolding block_rows
  blocks_more left k = refl

  module _ (count : ℕ) (w : Written) where
    pub blocks_start : puts (block_rows tables by (count - 0) 0) w ≡ puts (block_rows tables by count 0) w
    blocks_start = rows_start (λ k. block_row tables by (Layout.block_width * k)) (block_rows tables by) blocks-none blocks_more count w

    pub blocks_step : (k : ℕ) (w₁ w₂ : Written) → k < count
        → puts (block_rows tables by (count - k) k) w₁ ≡ puts (block_rows tables by count 0) w
        → w₂ ≡ puts (block_row tables by (Layout.block_width * k)) w₁
        → puts (block_rows tables by (count - (k + 1)) (k + 1)) w₂ ≡ puts (block_rows tables by count 0) w
    blocks_step = rows_step (λ k. block_row tables by (Layout.block_width * k)) (block_rows tables by) blocks-none blocks_more count w

    pub blocks-done : (k : ℕ) (w₁ : Written) → count ≤ k
        → puts (block_rows tables by (count - k) k) w₁ ≡ puts (block_rows tables by count 0) w → w₁ ≡ puts (block_rows tables by count 0) w
    blocks-done = rows-done (λ k. block_row tables by (Layout.block_width * k)) (block_rows tables by) blocks-none blocks_more count w

module _ (tables : List ℕ) (by : Shift) where
  values-none : (k : ℕ) → value_rows tables by 0 k ≡ []
  unfolding value_rows
  values-none k = refl

  values-more : (left k : ℕ)
      → value_rows tables by (suc left) k ≡ value_row_lem tables by (Layout.values + Layout.value_width * k) ++ value_rows tables by left (suc k)
  unfolding value_rows
  values-more left k = refl

  module _ (count : ℕ) (w : Written) where
    pub values-start : puts (value_rows tables by (count - 0) 0) w ≡ puts (value_rows tables by count 0) w
    values-start =
        rows_start (λ k. value_row_lem tables by (Layout.values + Layout.value_width * k)) (value_rows tables by) values-none values-more count w

    pub values-step : (k : ℕ) (w₁ w₂ : Written) → k < count
        → puts (value_rows tables by (count - k) k) w₁ ≡ puts (value_rows tables by count 0) w
        → w₂ ≡ puts (value_row_lem tables by (Layout.values + Layout.value_width * k)) w₁
        → puts (value_rows tables by (count - (k + 1)) (k + 1)) w₂ ≡ puts (value_rows tables by count 0) w
    values-step =
        rows_step (λ k. value_row_lem tables by (Layout.values + Layout.value_width * k)) (value_rows tables by) values-none values-more count w

    pub values-done : (k : ℕ) (w₁ : Written) → count ≤ k
        → puts (value_rows tables by (count - k) k) w₁ ≡ puts (value_rows tables by count 0) w → w₁ ≡ puts (value_rows tables by count 0) w
    values-done =
        rows-done (λ k. value_row_lem tables by (Layout.values + Layout.value_width * k)) (value_rows tables by) values-none values-more count w

-- ---- Terms of values

module _ (tables : List ℕ) (by : Shift) where
  pub sign-none : (from signs : ℕ) (w : Written) → signs ≡ 0 → w ≡ puts (sign_at tables by from signs) w
  unfolding sign_at puts
  sign-none from signs w e = rw (eq-eqb signs 0 e)

  pub sign-one : (from signs n : ℕ) (w w' : Written) → (signs ≡ 0 → ⊥) → n ≡ get_or tables from 0 → w' ≡ put (moved_by by 0 n) w
      → w' ≡ puts (sign_at tables by from signs) w
  unfolding sign_at puts
  sign-one from signs n w w' some en e = rw (ne_eqb signs 0 some, ← en) e

  -- a sign where there is one, a tag, a number
  pub item-whole : (from signs tag n : ℕ) (w w₁ w₂ w₃ : Written) → w₁ ≡ puts (sign_at tables by from signs) w
      → tag ≡ get_or tables (from + signs) 0 → w₂ ≡ put (moved_by by 0 tag) w₁
      → n ≡ get_or tables (from + signs + 1) 0 → w₃ ≡ put (moved_by by tag n) w₂ → w₃ ≡ puts (item_at tables by from signs) w
  item-whole from signs tag n w w₁ w₂ w₃ e₁ et e₂ en e₃ =
      e₃ ∙ ap (put (moved_by by tag n)) e₂ ∙ ap₂ (λ t m. put (moved_by by t m) (put (moved_by by 0 t) w₁)) et en ∙ ap both e₁ ∙ sym last
    where
      both : Written → Written
      both x =
          put (moved_by by (get_or tables (from + signs) 0) (get_or tables (from + signs + 1) 0))
          (put (moved_by by 0 (get_or tables (from + signs) 0)) x)

      last : puts (item_at tables by from signs) w ≡ both (puts (sign_at tables by from signs) w)
      last = unfold item_at in (puts-append (sign_at tables by from signs) _ w ∙ unfold puts in refl)

  -- by depth: no bracket opens, or one less may open inside
  pub inner : ℕ → (left signs from : ℕ) → Items
  inner zero left signs from = items [] from
  inner (suc depth) left signs from = items_from tables by depth left signs from

  pub inner-more : (depth left signs from : ℕ) → inner (suc depth) left signs from ≡ items_from tables by depth left signs from
  unfolding inner
  inner-more depth left signs from = refl

  by_depth : (depth left signs from : ℕ) → items_from tables by depth left signs from ≡ items_with tables by (inner depth) left signs from
  unfolding items_from inner
  by_depth zero left signs from = refl
  by_depth (suc depth) left signs from = refl

  -- no terms are left
  pub items-end : (depth signs from : ℕ) → items_from tables by depth 0 signs from ≡ items [] from
  items-end depth signs from = by_depth depth 0 signs from ∙ unfold items_with in refl

  module _ (depth left signs from : ℕ) (w : Written) where
    nothing_wrote : Wrote (items [] from) from w w
    unfolding puts
    nothing_wrote = record { at = refl; numbers = refl }

    -- how the walk through a value goes on, case by case: nothing left
    pub items-none : left ≡ 0 → Wrote (items_from tables by depth left signs from) from w w
    items-none e =
        subst (λ i. Wrote i from w w)
        (sym (by_depth depth left signs from ∙ ap (λ l. items_with tables by (inner depth) l signs from) e ∙ nothing)) nothing_wrote
      where
        nothing : items_with tables by (inner depth) 0 signs from ≡ items [] from
        nothing = unfold items_with in refl

    module _ (some : left ≡ 0 → ⊥) where
      abbrev pub tag : ℕ
      tag = get_or tables (from + signs) 0

      abbrev pub rest : ℕ → Items
      rest next = items_from tables by depth (left - 1) signs next

      abbrev pub opens : Items
      opens = inner depth (opened tag (get_or tables (from + signs + 1) 0)) (signs_in tag) (from + signs + 2)

      pub one_more : items_from tables by depth left signs from
          ≡ cond (leb (length tables) from) (items [] from)
          (cond (leb tag 9) (behind (item_at tables by from signs) (rest (from + signs + 2)))
          (behind (item_at tables by from signs) (behind opens.numbers (rest opens.next))))
      one_more =
          let e : left ≡ suc (left - 1) = omega arith in
          by_depth depth left signs from ∙ ap (λ l. items_with tables by (inner depth) l signs from) e ∙ step
        where
          step : items_with tables by (inner depth) (suc (left - 1)) signs from
              ≡ cond (leb (length tables) from) (items [] from)
              (cond (leb tag 9) (behind (item_at tables by from signs) (rest (from + signs + 2)))
              (behind (item_at tables by from signs) (behind opens.numbers (rest opens.next))))
          step =
              unfold items_with in
              ap₂ (λ x y. cond (leb (length tables) from) (items [] from)
              (cond (leb tag 9) (behind (item_at tables by from signs) x)
              (behind (item_at tables by from signs) (behind opens.numbers y))))
              (sym (by_depth depth (left - 1) signs (from + signs + 2))) (sym (by_depth depth (left - 1) signs opens.next))

      -- past the table there is nothing to write
      pub items-past : length tables ≤ from → Wrote (items_from tables by depth left signs from) from w w
      items-past h =
          let none : items_from tables by depth left signs from ≡ items [] from = one_more ∙ rw (le-leb (length tables) from h) in
          subst (λ i. Wrote i from w w) (sym none) nothing_wrote

      module _ (within : from < length tables) (w₁ : Written) (e₁ : w₁ ≡ puts (item_at tables by from signs) w) where
        -- a term that holds no others
        pub items-plain : (t : ℕ) → t ≡ get_or tables (from + signs) 0 → t ≤ 9 → (next : ℕ) (w₂ : Written)
            → Wrote (rest (from + signs + 2)) next w₁ w₂
            → Wrote (items_from tables by depth left signs from) next w w₂
        items-plain t et small next w₂ r =
            subst (λ i. Wrote i next w w₂) (sym (one_more ∙ rw (lt-leb (length tables) from within, le-leb tag 9 (omega (arith, et)))))
            (record {
              at = r.at;
              numbers = r.numbers ∙ ap (puts (rest (from + signs + 2)).numbers) e₁ ∙ sym (puts-append (item_at tables by from signs) _ w);
            })

        module _ (t : ℕ) (et : t ≡ get_or tables (from + signs) 0) (large : 9 < t) where
          -- no deeper term may stand here
          pub items-flat : depth ≡ 0 → (next : ℕ) (w₂ : Written) → Wrote (rest (from + signs + 2)) next w₁ w₂
              → Wrote (items_from tables by depth left signs from) next w w₂
          items-flat z next w₂ r =
              subst (λ i. Wrote i next w w₂)
              (sym (one_more ∙ rw (lt-leb (length tables) from within, lt-leb tag 9 (omega (arith, et)), none)))
              (record {
                at = r.at;
                numbers =
                    r.numbers ∙ ap (puts (rest (from + signs + 2)).numbers) e₁ ∙ sym (puts-append (item_at tables by from signs) _ w);
              })
            where
              none : opens ≡ items [] (from + signs + 2)
              none =
                  ap (λ d. inner d (opened tag (get_or tables (from + signs + 1) 0)) (signs_in tag) (from + signs + 2)) z ∙ unfold inner in
                  refl

          -- those that the term holds are written first, one level deeper
          pub items_deep : (depth ≡ 0 → ⊥) → (n l s : ℕ) → n ≡ get_or tables (from + signs + 1) 0 → l ≡ opened t n → s ≡ signs_in t
              → (next : ℕ) (w₂ : Written)
              → Wrote (items_from tables by (depth - 1) l s (from + signs + 2)) next w₁ w₂
              → (next' : ℕ) (w₃ : Written) → Wrote (rest next) next' w₂ w₃ → Wrote (items_from tables by depth left signs from) next' w w₃
          items_deep positive n l s en el es next w₂ i next' w₃ r =
              subst (λ x. Wrote x next' w w₃) (sym (one_more ∙ rw (lt-leb (length tables) from within, lt-leb tag 9 (omega (arith, et)))))
              (record {
                at = r.at ∙ ap (λ k. (rest k).next) (i.at ∙ ap (λ x. x.next) same);
                numbers =
                    r.numbers
                    ∙ ap₂ (λ k x. puts (rest k).numbers x) (i.at ∙ ap (λ x. x.next) same)
                    (i.numbers ∙ ap₂ (λ x y. puts x.numbers y) same e₁)
                    ∙ sym (puts-append (item_at tables by from signs) (opens.numbers ++ (rest opens.next).numbers) w
                    ∙ puts-append opens.numbers (rest opens.next).numbers _);
              })
            where
              open' : (d : ℕ) → (d ≡ 0 → ⊥) → (l s f : ℕ) → items_from tables by (d - 1) l s f ≡ inner d l s f
              open' zero p l s f = absurd (p refl)
              open' (suc d) p l s f = let e : suc d - 1 ≡ d = omega arith in ap (λ k. items_from tables by k l s f) e ∙ unfold inner in refl

              same : items_from tables by (depth - 1) l s (from + signs + 2) ≡ opens
              same =
                  open' depth positive l s (from + signs + 2)
                  ∙ ap₂ (λ x y. inner depth x y (from + signs + 2)) (el ∙ ap₂ opened et en) (es ∙ ap signs_in et)

  pub value-whole : (at count : ℕ) (next : ℕ) (w w₁ w₂ : Written) → count ≡ get_or tables at 0 → w₁ ≡ put (moved_by by 0 count) w
      → Wrote (items_from tables by 4 count 1 (at + 1)) next w₁ w₂
      → w₂ ≡ puts (value_row_lem tables by at) w
  unfolding value_row_lem puts
  value-whole at count next w w₁ w₂ ec e r =
      r.numbers ∙ ap (puts (items_from tables by 4 count 1 (at + 1)).numbers) e
      ∙ ap (λ k. puts (items_from tables by 4 k 1 (at + 1)).numbers (put (moved_by by 0 k) w)) ec

-- ---- The whole model

pub and_no : (a : Bool) → (a && false) ≡ false
and_no true = refl
and_no false = refl

module _ (tables : List ℕ) (from count : ℕ) (w : Written) where
  -- the capacities that are left
  pub cells-start : puts (cell_row_lem tables (count - 0) (from + 0)) w ≡ puts (cell_row_lem tables count from) w
  cells-start = ap₂ (λ i j. puts (cell_row_lem tables i j) w) (omega arith) (add-zero from)

  pub cells-step : (k n : ℕ) (w₁ w₂ : Written) → k < count
      → puts (cell_row_lem tables (count - k) (from + k)) w₁ ≡ puts (cell_row_lem tables count from) w → n ≡ get_or tables (from + k) 0
      → w₂ ≡ put n w₁ → puts (cell_row_lem tables (count - (k + 1)) (from + (k + 1))) w₂ ≡ puts (cell_row_lem tables count from) w
  cells-step k n w₁ w₂ h inv en e =
      let left : count - k ≡ suc (count - (k + 1)) = omega arith in
      let p : from + (k + 1) ≡ suc (from + k) = omega arith in
      ap₂ (λ q x. puts (cell_row_lem tables (count - (k + 1)) q) x) p (e ∙ ap (λ v. put v w₁) en) ∙ one (count - (k + 1)) (from + k)
      ∙ ap (λ i. puts (cell_row_lem tables i (from + k)) w₁) (sym left) ∙ inv
    where
      one : (i at : ℕ) → puts (cell_row_lem tables i (suc at)) (put (get_or tables at 0) w₁) ≡ puts (cell_row_lem tables (suc i) at) w₁
      one i at = unfold cell_row_lem puts in refl

  pub cells-done : (k : ℕ) (w₁ : Written) → count ≤ k
      → puts (cell_row_lem tables (count - k) (from + k)) w₁ ≡ puts (cell_row_lem tables count from) w → w₁ ≡ puts (cell_row_lem tables count from) w
  cells-done k w₁ h inv =
      let left : count - k ≡ 0 = omega arith in
      sym (ap (λ i. puts (cell_row_lem tables i (from + k)) w₁) left ∙ none) ∙ inv
    where
      none : puts (cell_row_lem tables 0 (from + k)) w₁ ≡ w₁
      none = unfold cell_row_lem puts in refl

module _ (tables₁ : List ℕ) (a : Model) (tables₂ : List ℕ) (b : Model) (w : Written) where
  -- the order of the joined model's fields, one law for each group of them
  pub servers-whole : (edition : ℕ) (w₁ w₂ w₃ w₄ w₅ : Written) → edition ≡ get_or tables₁ Layout.edition 0 → w₁ ≡ put edition w
      → w₂ ≡ put (a.facilities + b.facilities) w₁
      → w₃ ≡ put (a.storages + b.storages) w₂ → w₄ ≡ puts (cell_row_lem tables₁ a.storages (Layout.capacities + a.facilities)) w₃
      → w₅ ≡ puts (cell_row_lem tables₂ b.storages (Layout.capacities + b.facilities)) w₄ → w₅ ≡ puts (server_rows tables₁ a tables₂ b) w
  unfolding server_rows puts
  servers-whole edition w₁ w₂ w₃ w₄ w₅ ee e₁ e₂ e₃ e₄ e₅ =
      e₅ ∙ ap (puts (cell_row_lem tables₂ b.storages (Layout.capacities + b.facilities)))
      (e₄ ∙ ap (puts (cell_row_lem tables₁ a.storages (Layout.capacities + a.facilities)))
      (e₃ ∙ ap (put (a.storages + b.storages)) (e₂ ∙ ap (put (a.facilities + b.facilities)) (e₁ ∙ ap (λ v. put v w) ee))))
      ∙ sym (puts-append (cell_row_lem tables₁ a.storages (Layout.capacities + a.facilities)) _ _)

  pub things-whole : (w₁ w₂ w₃ w₄ : Written) (by₁ by₂ : Shift) → w₁ ≡ put (a.queues + b.queues) w → w₂ ≡ put (a.values + b.values) w₁
      → by₁ ≡ first_shift a
      → w₃ ≡ puts (value_rows tables₁ by₁ a.values 0) w₂ → by₂ ≡ second_shift a b → w₄ ≡ puts (value_rows tables₂ by₂ b.values 0) w₃
      → w₄ ≡ puts (thing_rows tables₁ a tables₂ b) w
  unfolding thing_rows puts
  things-whole w₁ w₂ w₃ w₄ by₁ by₂ e₁ e₂ f₁ e₃ f₂ e₄ =
      e₄ ∙ ap₂ (λ s x. puts (value_rows tables₂ s b.values 0) x) f₂
      (e₃ ∙ ap₂ (λ s x. puts (value_rows tables₁ s a.values 0) x) f₁ (e₂ ∙ ap (put (a.values + b.values)) e₁))
      ∙ sym (puts-append (value_rows tables₁ (first_shift a) a.values 0) _ _)

  pub all_blocks : (w₁ w₂ : Written) (by₁ by₂ : Shift) → by₁ ≡ first_shift a → w₁ ≡ puts (block_rows tables₁ by₁ a.blocks 0) w
      → by₂ ≡ second_shift a b
      → w₂ ≡ puts (block_rows tables₂ by₂ b.blocks 0) w₁ → w₂ ≡ puts (all_blocks_lem tables₁ a tables₂ b) w
  unfolding all_blocks_lem
  all_blocks w₁ w₂ by₁ by₂ f₁ e₁ f₂ e₂ =
      e₂ ∙ ap₂ (λ s x. puts (block_rows tables₂ s b.blocks 0) x) f₂ (e₁ ∙ ap (λ s. puts (block_rows tables₁ s a.blocks 0) w) f₁)
      ∙ sym (puts-append (block_rows tables₁ (first_shift a) a.blocks 0) _ _)

  pub program-whole : (w₁ w₂ w₃ w₄ : Written) → w₁ ≡ put (a.lists + b.lists) w → w₂ ≡ put (joined_counter a b) w₁
      → w₃ ≡ put (a.blocks + b.blocks) w₂
      → w₄ ≡ puts (all_blocks_lem tables₁ a tables₂ b) w₃ → w₄ ≡ puts (program_rows tables₁ a tables₂ b) w
  unfolding program_rows puts
  program-whole w₁ w₂ w₃ w₄ e₁ e₂ e₃ e₄ =
      e₄ ∙ ap (puts (all_blocks_lem tables₁ a tables₂ b)) (e₃ ∙ ap (put (a.blocks + b.blocks)) (e₂ ∙ ap (put (joined_counter a b)) e₁))

  pub model-whole : (w₁ w₂ w₃ : Written) → w₁ ≡ puts (server_rows tables₁ a tables₂ b) w → w₂ ≡ puts (thing_rows tables₁ a tables₂ b) w₁
      → w₃ ≡ puts (program_rows tables₁ a tables₂ b) w₂
      → w₃ ≡ puts (joined_rows tables₁ a tables₂ b) w
  unfolding joined_rows
  model-whole w₁ w₂ w₃ e₁ e₂ e₃ =
      e₃ ∙ ap (puts (program_rows tables₁ a tables₂ b)) (e₂ ∙ ap (puts (thing_rows tables₁ a tables₂ b)) e₁)
      ∙ sym (puts-append (server_rows tables₁ a tables₂ b) _ w ∙ puts-append (thing_rows tables₁ a tables₂ b) _ _)
