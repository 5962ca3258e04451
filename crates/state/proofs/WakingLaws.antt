-- Waking as the relation of lists follows it: the first of a QL or a WEL, those of a QL that a walk takes, a whole QL at once, and all of
-- the WSL that pass a test.
use Rattle.machine.specs.All.{ℕ, ◌+◌, ◌-◌, ◌<◌, ◌≡◌, refl, Bool, true, List, [], Option, arith, length, get_or, set, length-map, Transaction, precedes, Code, wel_index, State, Parted, set_ql, set_wel, set_wsl, set_rel, first_of, wake, wake_ql, wake_first_wel, wake_wsl}
use Rattle.machine.proofs.NobodyAble.QueueRemove.{walk}
use Rattle.rows_laws.specs.All.{links, head, tail, wsl, rel, load, first, outranks, wake_first, wake_walk, wake_all, wake_whole, transaction_at, Sorted, moved}
use Rattle.rows_laws.proofs.{Order.StayInOrder.shows_ext, Waking.ReadyRows.parts-readied, Waking.WholeList.whole-wakes}
use Rattle.rows_laws.proofs.Laws.{Wakes, wake-first-shows, wake-walk-shows, wake-all-shows}
use Rattle.state.specs.All.{lists_of, Listing}
use Rattle.state.proofs as our
use our.ListsOf.{lists-ql, lists-wel, lists-wsl, lists-rel, lists-set-ql, lists-set-wel, lists-set-wsl, lists-moved}
use our.StandsLaws.{listing-steady}
use lib.ListN.{take, drop}
use Rattle.machine.specs.Lists.{those, others}
use Rattle.machine.specs.Moves.{ql_of, wel_of}

-- everybody goes
abbrev pub everybody : List Transaction → Parted
everybody l = record { go = l; stay = [] }

module _ (w : List ℕ) (k : ℕ) (o : Option Transaction) (s : State) (h : Listing w k o s) where
  -- list p and REL change
  wakes-listing : (w' : List ℕ) (p : ℕ) (l r l' r' : List Transaction) (s' : State) → l ≡ l' → r ≡ r'
      → Wakes w w' (moved p l r (lists_of s)) s.fel
      → ((q : ℕ) → q < 770 → moved p l' r' (lists_of s) q ≡ lists_of s' q) → s.fel ≡ s'.fel → s'.made - s'.ended ≡ s.made - s.ended
      → Listing w' k o s'
  wakes-listing w' p l r l' r' s' e f wakes lists future living =
      rw living
      (listing-steady
      (shows_ext w' (moved p l r (lists_of s)) (lists_of s') s.fel s'.fel (λ q hq. rw (e, f) (lists q hq)) future wakes.shows)
      wakes.steady h)

  module _ (v : ℕ) (low : v - 1 < 64) (there : v - 1 < length s.ql) where
    ql-lists : (l r : List Transaction) (q : ℕ) → q < 770
        → moved (v - 1) l r (lists_of s) q ≡ lists_of (set_rel r (set_ql (set s.ql (v - 1) l) s)) q
    ql-lists l r q hq =
        lists-moved s (set_ql (set s.ql (v - 1) l) s) (v - 1) l r (λ p hp. lists-set-ql s (v - 1) l low there p) q hq

    -- the first
    pub wake-first-ql-listing : Listing (wake_first w (v - 1)) k o (wake_ql first_of v s)
    unfolding wake_ql
    wake-first-ql-listing =
        wakes-listing (wake_first w (v - 1)) (v - 1) (drop 1 (lists_of s (v - 1))) (wake (take 1 (lists_of s (v - 1))) (lists_of s rel))
        (drop 1 (ql_of s v)) (wake (take 1 (ql_of s v)) s.rel) (wake_ql first_of v s)
        (rw (lists-ql s (v - 1) low))
        (rw (lists-ql s (v - 1) low, lists-rel s))
        (wake-first-shows w (lists_of s) s.fel h.shows (v - 1) (omega arith))
        (ql-lists (drop 1 (ql_of s v)) (wake (take 1 (ql_of s v)) s.rel)) refl refl

    -- those that a walk with a number takes
    pub wake-ql-listing : (test : ℕ → List ℕ → ℕ → Bool) (next : ℕ → List ℕ → ℕ → ℕ) (P : ℕ → Transaction → Bool) (N : ℕ → Transaction → ℕ)
        → ((n : ℕ) (u : List ℕ) (j : ℕ) → test n u j ≡ P n (transaction_at u j))
        → ((n : ℕ) (u : List ℕ) (j : ℕ) → next n u j ≡ N n (transaction_at u j))
        → (left : ℕ)
        → Listing (wake_walk test next 1024 left w (v - 1) (head (v - 1))) k o (wake_ql (walk P N left) v s)
    unfolding wake_ql
    wake-ql-listing test next P N agree follow left =
        wakes-listing (wake_walk test next 1024 left w (v - 1) (head (v - 1))) (v - 1) (walk P N left (lists_of s (v - 1))).stay
        (wake (walk P N left (lists_of s (v - 1))).go (lists_of s rel)) (walk P N left (ql_of s v)).stay
        (wake (walk P N left (ql_of s v)).go s.rel) (wake_ql (walk P N left) v s)
        (rw (lists-ql s (v - 1) low))
        (rw (lists-ql s (v - 1) low, lists-rel s))
        (wake-walk-shows w (lists_of s) s.fel h.shows test next P N agree follow left (v - 1) (omega arith))
        (ql-lists (walk P N left (ql_of s v)).stay (wake (walk P N left (ql_of s v)).go s.rel)) refl refl

    -- all at once, in order before REL; n is how many they are
    module _ (sorted : Sorted precedes (get_or s.ql (v - 1) [])) (some : first w (v - 1) < 1024)
        (ahead : first w rel < 1024 → outranks w (load w (tail (v - 1)) - links) (first w rel) ≡ true) (n : ℕ)
        (all : n ≡ length (get_or s.ql (v - 1) [])) where
      rows-many : n ≡ length (h.shows.rows (v - 1))
      rows-many = cc (
        all,
        lists-ql s (v - 1) low,
        h.shows.shown.lists (v - 1) (omega arith),
        length-map (h.shows.rows (v - 1)) (transaction_at w),
      )

      whole-shows : Wakes w (wake_whole w (v - 1) n) (moved (v - 1) [] (wake (lists_of s (v - 1)) (lists_of s rel)) (lists_of s)) s.fel
      unfolding wake_whole
      whole-shows =
          rw rows-many
          (whole-wakes w _ _ h.shows (v - 1) (omega arith) (rw lists-ql sorted) some ahead _
          (parts-readied w h.shows.rows h.shows.shown.holds (v - 1) (omega arith)))

      pub wake-whole-ql-listing : Listing (wake_whole w (v - 1) n) k o (wake_ql everybody v s)
      unfolding wake_ql
      wake-whole-ql-listing =
          wakes-listing _ _ _ _ _ _ (wake_ql everybody v s) refl (rw (lists-ql, lists-rel)) whole-shows (ql-lists _ _) refl refl

  pub wake-first-wel-listing : (v : ℕ) (code : Code) → wel_index v code < 384 → wel_index v code < length s.wel
      → Listing (wake_first w (64 + wel_index v code)) k o (wake_first_wel v code s)
  unfolding wake_first_wel
  wake-first-wel-listing v code low there =
      wakes-listing (wake_first w (64 + wel_index v code)) (64 + wel_index v code) (drop 1 (lists_of s (64 + wel_index v code)))
      (wake (take 1 (lists_of s (64 + wel_index v code))) (lists_of s rel)) (drop 1 (wel_of s v code)) (wake (take 1 (wel_of s v code)) s.rel)
      (wake_first_wel v code s)
      (rw (lists-wel s (wel_index v code) low))
      (rw (lists-wel s (wel_index v code) low, lists-rel s))
      (wake-first-shows w (lists_of s) s.fel h.shows (64 + wel_index v code) (omega arith))
      (lists-moved s (set_wel (set s.wel (wel_index v code) (drop 1 (wel_of s v code))) s) (64 + wel_index v code) (drop 1 (wel_of s v code))
      (wake (take 1 (wel_of s v code)) s.rel) (λ p hp. lists-set-wel s (wel_index v code) (drop 1 (wel_of s v code)) low there p))
      refl refl

  pub wake-wsl-listing : (test : List ℕ → ℕ → Bool) (P : Transaction → Bool)
      → ((u : List ℕ) (j : ℕ) → test u j ≡ P (transaction_at u j))
      → Listing (wake_all test 1024 w wsl (head wsl)) k o (wake_wsl P s)
  unfolding wake_wsl
  wake-wsl-listing test P agree =
      wakes-listing (wake_all test 1024 w wsl (head wsl)) wsl (others P (lists_of s wsl)) (wake (those P (lists_of s wsl)) (lists_of s rel))
      (others P s.wsl) (wake (those P s.wsl) s.rel) (wake_wsl P s)
      (rw (lists-wsl s))
      (rw (lists-wsl s, lists-rel s))
      (wake-all-shows w (lists_of s) s.fel h.shows test P agree wsl (omega arith))
      (lists-moved s (set_wsl (others P s.wsl) s) wsl (others P s.wsl) (wake (those P s.wsl) s.rel)
      (λ p hp. lists-set-wsl s (others P s.wsl) p))
      refl refl
