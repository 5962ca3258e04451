-- What a term reads of the tables and the tally is what the machine's view holds.
use Rattle.machine.specs.All.{ℕ, zero, suc, ◌-◌, ◌≤◌, ◌<◌, arith, List, [], ◌∷◌, ◌≡◌, refl, sym, ap, ltb, length, get_or, get_or-eq_default, lt-ltb, ltb-true, ltb-false, max_blocks, max_queues, Server, idle_server, Queue, empty_queue, View, signed, wrap, one_if, ◌+◌, Bool, true, false, cond}
use Rattle.std.proofs.Common.{pos}
use Rattle.layout.specs.Layout as Layout
use Rattle.evaluation.specs.{small, within, servers, free_units, parameters_of, Shows}
use Rattle.evaluation.specs.Sees.{Sees}

pub small_is : (n : ℕ) → n < 2147483648 → small n ≡ pos n
unfolding small
small_is n h = ap (λ (t : Bool). cond t (pos n) (pos 0)) (lt-ltb n 2147483648 h)

-- at any index, if the function gives 0 from `size` on
module _ (f : ℕ → ℕ) (l : List ℕ) (begin size : ℕ) (s : Shows f l begin size) (past : (i : ℕ) → size ≤ i → f i ≡ 0) (i : ℕ) where
  pub within-is : within l begin size i ≡ f i
  unfolding within
  within-is = go (ltb i size) refl
    where
      go : (t : Bool) → ltb i size ≡ t → cond t (get_or l (begin + i) 0) 0 ≡ f i
      go true e = sym (s.shown i (ltb-true i size e))
      go false e = sym (past i (ltb-false i size e))

  pub shown-small : f i < 2147483648
  shown-small = go (ltb i size) refl
    where
      go : (t : Bool) → ltb i size ≡ t → f i < 2147483648
      go true e = s.small i (ltb-true i size e)
      go false e = let z = past i (ltb-false i size e) in omega arith

  pub small-within : small (within l begin size i) ≡ pos (f i)
  small-within = rw within-is (small_is (f i) shown-small)

-- past its end each list gives what is empty
entries-past : (l : List ℕ) (size : ℕ) → length l ≤ size → (i : ℕ) → size ≤ i → get_or l i 0 ≡ 0
entries-past l size h i g = get_or-eq_default l 0 (omega arith)

content-past : (l : List Queue) (size : ℕ) → length l ≤ size → (i : ℕ) → size ≤ i → (get_or l i empty_queue).content ≡ 0
unfolding empty_queue
content-past l size h i g = ap (λ (q : Queue). q.content) (get_or-eq_default l empty_queue (omega arith))

in-use-past : (l : List Server) (size : ℕ) → length l ≤ size → (i : ℕ) → size ≤ i → (get_or l i (idle_server 0)).in_use ≡ 0
unfolding idle_server
in-use-past l size h i g = ap (λ (v : Server). v.in_use) (get_or-eq_default l (idle_server 0) (omega arith))

capacity-past : (l : List Server) (size : ℕ) → length l ≤ size → (i : ℕ) → size ≤ i → (get_or l i (idle_server 0)).capacity ≡ 0
unfolding idle_server
capacity-past l size h i g = ap (λ (v : Server). v.capacity) (get_or-eq_default l (idle_server 0) (omega arith))

module _ {w : View} {tables tally : List ℕ} {clock : ℕ} (s : Sees w tables tally clock) where
  pub sees-clock : wrap (pos clock) ≡ wrap (pos w.clock)
  sees-clock = ap (λ (n : ℕ). wrap (pos n)) (sym s.time)

  module _ (i : ℕ) where
    -- what a term reads of the tally is what the machine's view shows: entries of a block,
    pub sees-entries : small (within tally Layout.entries max_blocks i) ≡ pos (get_or w.entries i 0)
    sees-entries =
        small-within _ tally Layout.entries max_blocks s.entries (entries-past w.entries max_blocks s.entries-size) i

    -- content of a queue,
    pub sees-content : small (within tally Layout.content max_queues i) ≡ pos (get_or w.queues i empty_queue).content
    sees-content =
        small-within _ tally Layout.content max_queues s.contents (content-past w.queues max_queues s.queues-size) i

    in-use-is : within tally Layout.in_use servers i ≡ (get_or w.servers i (idle_server 0)).in_use
    in-use-is = within-is _ tally Layout.in_use servers s.in_use (in-use-past w.servers servers s.servers-size) i

    -- units in use,
    pub sees_in_use : small (within tally Layout.in_use servers i) ≡ pos (get_or w.servers i (idle_server 0)).in_use
    sees_in_use =
        small-within _ tally Layout.in_use servers s.in_use (in-use-past w.servers servers s.servers-size) i

    -- whether a facility is in use,
    pub sees-facility : one_if (ltb 0 (within tally Layout.in_use servers i)) ≡ one_if (ltb 0 (get_or w.servers i (idle_server 0)).in_use)
    sees-facility = rw in-use-is

    free-is : free_units tables tally i ≡ (get_or w.servers i (idle_server 0)).capacity - (get_or w.servers i (idle_server 0)).in_use
    unfolding free_units
    free-is =
        omega (
          arith,
          within-is _ tables Layout.capacities servers s.capacities (capacity-past w.servers servers s.servers-size) i,
          in-use-is,
        )

    pub sees-free : small (free_units tables tally i)
        ≡ pos ((get_or w.servers i (idle_server 0)).capacity - (get_or w.servers i (idle_server 0)).in_use)
    sees-free =
        let most = shown-small _ tables Layout.capacities servers s.capacities
        (capacity-past w.servers servers s.servers-size) i in
        rw free-is (small_is _ (omega arith))

-- and a parameter of the row
pub sees-parameter : (p : List ℕ) (k : ℕ) → signed (get_or p k 0) ≡ get_or (parameters_of p) k (pos 0)
unfolding parameters_of signed
sees-parameter [] k = refl
sees-parameter (n ∷ p) zero = refl
sees-parameter (n ∷ p) (suc k) = sees-parameter p k
