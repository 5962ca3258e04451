-- No operation touches a number past the 16,384th, whatever the buffer holds.
use Rattle.machine.specs.All.{ℕ, zero, suc, ◌+◌, ◌*◌, ◌-◌, ◌/◌, ◌%◌, ◌≡◌, refl, ◌∙◌, Bool, true, false, cond, List, ltb, eqb, drop}
use Rattle.rows_laws.specs.All.{slot, place, link, head, tail, hint, rel, fel, free, nowhere, field_at, list_count, word_end, load, store, read, write, priority_of, set_returning, time_of, set_time, outranks, end_at, insert_at, remove_row, remove_at, spot, note, put, first, take_first, cell_of, remove, size, settle, pull, above, rise, below, sink, top, keep, schedule_last, schedule, fill_by, fill, cancel_of, cancel, wake_row, wake_at, pass_rows, pass_cell, wake_all, is_due, arrive_row, arrive_first, arrived, arrive, clear_parameters, copy_parameters, describe, newborn_at, copy_at, free_row, empty_list, empty_lists, empty_fel, loose_rows, free_rows, initial}
use Rattle.rows_laws.proofs.Buffer.Store.{past-store}

abbrev pub past : List ℕ → List ℕ
past w = drop 16384 w

past-cond : (t : Bool) (w v : List ℕ) → past v ≡ past w → past (cond t v w) ≡ past w
past-cond true w v e = e
past-cond false w v e = refl

past_cond' : (t : Bool) (w v : List ℕ) → past v ≡ past w → past (cond t w v) ≡ past w
past_cond' true w v e = refl
past_cond' false w v e = e

-- ---- Cells and lists

pub past-write : (w : List ℕ) (f k x : ℕ) → past (write w f k x) ≡ past w
past-write w f k x = past-store w (field_at f k) x

past-end_at : (w : List ℕ) (p n c : ℕ) → past (end_at w p n c) ≡ past w
unfolding end_at
past-end_at w p n c = past_cond' (ltb n 1024) w (store w (tail p) c) (past-store w (tail p) c)

pub past-insert_at : (w : List ℕ) (p c k : ℕ) → past (insert_at w p c k) ≡ past w
unfolding insert_at
past-insert_at w p c k =
    past-store (end_at (store (store w (link k) (load w c)) c k) p (load w c) (link k)) (place k) p
    ∙ past-end_at (store (store w (link k) (load w c)) c k) p (load w c) (link k)
    ∙ past-store (store w (link k) (load w c)) c k
    ∙ past-store w (link k) (load w c)

pub past-remove_at : (w : List ℕ) (p c : ℕ) → past (remove_at w p c) ≡ past w
unfolding remove_at remove_row
past-remove_at w p c = past-cond (ltb (load w c) 1024) w (remove_row w p c (load w c)) (row (load w c))
  where
    row : (k : ℕ) → past (remove_row w p c k) ≡ past w
    row k =
        past-store (end_at (store w c (load w (link k))) p (load w (link k)) c) (place k) nowhere
        ∙ past-end_at (store w c (load w (link k))) p (load w (link k)) c
        ∙ past-store w c (load w (link k))

pub past-put : (w : List ℕ) (p k : ℕ) → past (put w p k) ≡ past w
unfolding put note
past-put w p k =
    let c : ℕ = spot (outranks w) w p k in
    let a : List ℕ = insert_at w p c k in
    past_cond' (eqb c (load w (tail p))) a (store a (hint p (priority_of a k)) k) (past-store a (hint p (priority_of a k)) k)
    ∙ past-insert_at w p c k

pub past-take_first : (w : List ℕ) (p : ℕ) → past (take_first w p) ≡ past w
past-take_first w p = past-remove_at w p (head p)

pub past-remove : (w : List ℕ) (p k : ℕ) → past (remove w p k) ≡ past w
unfolding remove
past-remove w p k = past-remove_at w p (cell_of w p k)

-- ---- The FEL

past-settle : (w : List ℕ) (i k : ℕ) → past (settle w i k) ≡ past w
unfolding settle
past-settle w i k = past-store (store w (slot i) k) (link k) i ∙ past-store w (slot i) k

past-pull : (w : List ℕ) (i j : ℕ) → past (pull w i j) ≡ past w
unfolding pull
past-pull w i j = past-cond (ltb (load w (slot j)) 1024) w (settle w i (load w (slot j))) (past-settle w i (load w (slot j)))

past-rise : (n : ℕ) (w : List ℕ) (time k i : ℕ) → past (rise n w time k i) ≡ past w
unfolding rise
past-rise zero w time k i = past-settle w i k
past-rise (suc n) w time k i =
    go (eqb (above w time k i) i) (past-rise n (pull w i (above w time k i)) time k (above w time k i) ∙ past-pull w i (above w time k i))
  where
    go : (t : Bool) → past (rise n (pull w i (above w time k i)) time k (above w time k i)) ≡ past w
        → past (cond t (settle w i k) (rise n (pull w i (above w time k i)) time k (above w time k i))) ≡ past w
    go true e = past-settle w i k
    go false e = e

past-sink : (m : ℕ) (w : List ℕ) (n time k i : ℕ) → past (sink m w n time k i) ≡ past w
unfolding sink
past-sink zero w n time k i = past-rise 1024 w time k i
past-sink (suc m) w n time k i =
    go (eqb (below w n i) i) (past-sink m (pull w i (below w n i)) n time k (below w n i) ∙ past-pull w i (below w n i))
  where
    go : (t : Bool) → past (sink m (pull w i (below w n i)) n time k (below w n i)) ≡ past w
        → past (cond t (rise 1024 w time k i) (sink m (pull w i (below w n i)) n time k (below w n i))) ≡ past w
    go true e = past-rise 1024 w time k i
    go false e = e

past-keep : (w : List ℕ) (n : ℕ) → past (keep w n) ≡ past w
unfolding keep
past-keep w n = past-store (store w (tail fel) n) (head fel) (top w n) ∙ past-store w (tail fel) n

pub past-schedule : (w : List ℕ) (k : ℕ) → past (schedule w k) ≡ past w
unfolding schedule schedule_last
past-schedule w k = past-cond (ltb (size w) 1024) w (schedule_last w (size w) k) (row (size w))
  where
    row : (n : ℕ) → past (schedule_last w n k) ≡ past w
    row n =
        let a : List ℕ = store w (place k) fel in
        past-keep (rise 1024 a (time_of w k) k n) (n + 1) ∙ past-rise 1024 a (time_of w k) k n ∙ past-store w (place k) fel

past-fill : (w : List ℕ) (n i : ℕ) → past (fill w n i) ≡ past w
unfolding fill fill_by
past-fill w n i = past-cond (ltb i n) w (fill_by w n i (load w (slot n))) (row (load w (slot n)))
  where
    row : (k : ℕ) → past (fill_by w n i k) ≡ past w
    row k = past-cond (ltb k 1024) w (sink 1024 w n (time_of w k) k i) (past-sink 1024 w n (time_of w k) k i)

pub past-cancel : (w : List ℕ) (k : ℕ) → past (cancel w k) ≡ past w
unfolding cancel cancel_of
past-cancel w k =
    past_cond' (eqb (size w) 0) w (cond (ltb 1024 (size w)) w (cancel_of w (size w - 1) k))
    (past_cond' (ltb 1024 (size w)) w (cancel_of w (size w - 1) k) (row (size w - 1)))
  where
    row : (n : ℕ) → past (cancel_of w n k) ≡ past w
    row n =
        let a : List ℕ = store w (place k) nowhere in
        past-keep (fill a n (load w (link k))) n ∙ past-fill a n (load w (link k)) ∙ past-store w (place k) nowhere

-- ---- Waking

pub past-wake_at : (w : List ℕ) (p c : ℕ) → past (wake_at w p c) ≡ past w
unfolding wake_at wake_row
past-wake_at w p c = past-cond (ltb (load w c) 1024) w (wake_row w p c (load w c)) (row (load w c))
  where
    row : (k : ℕ) → past (wake_row w p c k) ≡ past w
    row k =
        let a : List ℕ = remove_at w p c in
        past-put (set_returning a k 1) rel k ∙ past-write a 1 k (read a 1 k / 2 * 2 + 1) ∙ past-remove_at w p c

pub past-wake_all : (test : List ℕ → ℕ → Bool) (n : ℕ) (w : List ℕ) (p c : ℕ) → past (wake_all test n w p c) ≡ past w
unfolding wake_all pass_rows
past-wake_all test zero w p c = refl
past-wake_all test (suc n) w p c =
    past-cond (ltb (load w c) 1024) w (wake_all test n (pass_rows (test w (load w c)) w p c) p (pass_cell (test w (load w c)) w c))
    (past-wake_all test n (pass_rows (test w (load w c)) w p c) p (pass_cell (test w (load w c)) w c)
    ∙ past-cond (test w (load w c)) w (wake_at w p c) (past-wake_at w p c))

-- ---- Clock moves

pub past-arrive_first : (w : List ℕ) (s : ℕ) → past (arrive_first w s) ≡ past w
unfolding arrive_first arrive_row
past-arrive_first w s = past-cond (ltb (first w fel) 1024) w (arrive_row w s (first w fel)) (row (first w fel))
  where
    row : (k : ℕ) → past (arrive_row w s k) ≡ past w
    row k =
        let a : List ℕ = cancel w k in
        let b : List ℕ = set_returning a k 0 in
        past-put (write b 7 k s) rel k ∙ past-write b 7 k s ∙ past-write a 1 k (read a 1 k / 2 * 2 + 0) ∙ past-cancel w k

pub past-arrive : (n time : ℕ) (w : List ℕ) (s : ℕ) → past (arrive n time w s).rows ≡ past w
unfolding arrive arrived
past-arrive zero time w s = refl
past-arrive (suc n) time w s = go (is_due w time) (past-arrive n time (arrive_first w (suc s)) (suc s))
  where
    go : (t : Bool) → past (arrive n time (arrive_first w (suc s)) (suc s)).rows ≡ past (arrive_first w (suc s))
        → past (cond t (arrive n time (arrive_first w (suc s)) (suc s)) (arrived w s)).rows ≡ past w
    go true e = e ∙ past-arrive_first w (suc s)
    go false e = refl

-- ---- Making, and the start

past_clear : (w : List ℕ) (k : ℕ) → past (clear_parameters w k) ≡ past w
unfolding clear_parameters
past_clear w k =
    let a : List ℕ = write w 2 k 0 in
    let b : List ℕ = write a 3 k 0 in
    past-write (write b 4 k 0) 5 k 0 ∙ past-write b 4 k 0 ∙ past-write a 3 k 0 ∙ past-write w 2 k 0

past_copy : (w : List ℕ) (j k : ℕ) → past (copy_parameters w j k) ≡ past w
unfolding copy_parameters
past_copy w j k =
    let a : List ℕ = write w 2 k (read w 2 j) in
    let b : List ℕ = write a 3 k (read w 3 j) in
    past-write (write b 4 k (read w 4 j)) 5 k (read w 5 j)
    ∙ past-write b 4 k (read w 4 j)
    ∙ past-write a 3 k (read w 3 j)
    ∙ past-write w 2 k (read w 2 j)

past-time : (w : List ℕ) (k time : ℕ) → past (set_time w k time) ≡ past w
unfolding set_time
past-time w k time =
    past-write (write w 8 k (time % word_end)) 9 k (time / word_end) ∙ past-write w 8 k (time % word_end)

past-describe : (w : List ℕ) (k n p b f : ℕ) → past (describe w k n p b f) ≡ past w
unfolding describe
past-describe w k n p b f =
    let numbered : List ℕ = write w 0 k n in
    let ranked : List ℕ = write numbered 1 k (p * 2) in
    let next : List ℕ = write ranked 6 k b in
    let bare : List ℕ = write next 7 k 0 in
    past-write (set_time bare k 0) 10 k f
    ∙ past-time bare k 0
    ∙ past-write next 7 k 0
    ∙ past-write ranked 6 k b
    ∙ past-write numbered 1 k (p * 2)
    ∙ past-write w 0 k n

pub past-newborn_at : (w : List ℕ) (k n p b : ℕ) → past (newborn_at w k n p b) ≡ past w
unfolding newborn_at
past-newborn_at w k n p b = past_clear (describe w k n p b n) k ∙ past-describe w k n p b n

pub past-copy_at : (w : List ℕ) (j k n b : ℕ) → past (copy_at w j k n b) ≡ past w
unfolding copy_at
past-copy_at w j k n b =
    past_copy (describe w k n (read w 1 j / 2) b (read w 10 j)) j k ∙ past-describe w k n (read w 1 j / 2) b (read w 10 j)

pub past-free_row : (w : List ℕ) (k : ℕ) → past (free_row w k) ≡ past w
unfolding free_row
past-free_row w k = past-insert_at w free (head free) k

past-empty : (n : ℕ) (w : List ℕ) → past (empty_lists n w) ≡ past w
unfolding empty_lists empty_list
past-empty zero w = refl
past-empty (suc n) w =
    past-store (store (empty_lists n w) (head n) 1024) (tail n) (head n) ∙ past-store (empty_lists n w) (head n) 1024 ∙ past-empty n w

past_loosen : (n : ℕ) (w : List ℕ) → past (loose_rows n w) ≡ past w
unfolding loose_rows
past_loosen zero w = refl
past_loosen (suc n) w = past-store (loose_rows n w) (place n) nowhere ∙ past_loosen n w

past-free : (n : ℕ) (w : List ℕ) → past (free_rows n w) ≡ past w
unfolding free_rows
past-free zero w = refl
past-free (suc n) w = past-free_row (free_rows n w) n ∙ past-free n w

pub past-initial : (w : List ℕ) → past (initial w) ≡ past w
unfolding initial
past-initial w =
    past-free 1024 (loose_rows 1024 (empty_fel (empty_lists list_count w))) ∙ past_loosen 1024 (empty_fel (empty_lists list_count w))
    ∙ past-store (empty_lists list_count w) (tail fel) 0 ∙ past-empty list_count w
