-- Blocks, "Terms are a tag and a number: .." and "A value is a sum: ..", with their evaluation.
use Rattle.machine.specs.Basics.{ℕ, Bool, true, false, cond, not, List, [], ltb, eqb}
use Rattle.std.specs.Prelude.{ℤ, pos, negsuc, neg_ℤ, ◌+ℤ◌, ◌-ℤ◌, ◌-◌, ◌%◌, ◌∷◌, ◌++◌}
use Rattle.std.specs.Int.Signed.{lt_z, le_z}
use Rattle.machine.specs.Lists.{nth}

-- ---- What terms see

-- A server: a facility is one of capacity 1. The facilities come first and the storages are numbered on after them.
-- Document 02, item 6: "A facility now keeps the number of its holder", 0 for none; a storage has none. Item 11: was a facility in use
-- preempted by its holder, or seized?
-- Ticks and the longest queue are statistics (Turn.antt).
pub record Server : Type 0 where
  pub capacity : ℕ
  pub in_use : ℕ
  pub holder : ℕ
  pub preempted : Bool
  pub unit_ticks : ℕ
  pub wait_ticks : ℕ
  pub longest : ℕ

unfoldable pub idle_server : ℕ → Server
idle_server capacity = record { capacity = capacity; in_use = 0; holder = 0; preempted = false; unit_ticks = 0; wait_ticks = 0; longest = 0 }

pub record Queue : Type 0 where
  pub content : ℕ
  pub content_ticks : ℕ
  pub longest : ℕ

unfoldable pub empty_queue : Queue
empty_queue = record { content = 0; content_ticks = 0; longest = 0 }

-- The clock, the entries of each block, the queues and the servers.
pub record View : Type 0 where
  pub clock : ℕ
  pub entries : List ℕ
  pub queues : List Queue
  pub servers : List Server

unfoldable pub server_at : View → ℕ → Server
server_at w v = nth w.servers v (idle_server 0)

unfoldable pub queue_at : View → ℕ → Queue
queue_at w q = nth w.queues q empty_queue

abbrev pub free : Server → ℕ
free v = v.capacity - v.in_use

-- ---- Signed 32-bit numbers: "sums and differences wrap in signed 32 bits"

-- the number whose 32 bits are n, for n below 2 to the 32
unfoldable pub signed : ℕ → ℤ
signed n = cond (ltb n 2147483648) (pos n) (negsuc (4294967295 - n))

-- the low 32 bits
unfoldable pub low32 : ℤ → ℕ
low32 (pos n) = n % 4294967296
low32 (negsuc n) = 4294967295 - n % 4294967296

unfoldable pub wrap : ℤ → ℤ
wrap z = signed (low32 z)

-- ---- "Relations: 1 =, 2 ≠, 3 <, 4 ≤, 5 >, 6 ≥, signed."

pub data Relation : Type 0 where
  equal unequal less at_most greater at_least : Relation

unfoldable pub eq_z : ℤ → ℤ → Bool
eq_z (pos a) (pos b) = eqb a b
eq_z (pos a) (negsuc b) = false
eq_z (negsuc a) (pos b) = false
eq_z (negsuc a) (negsuc b) = eqb a b

unfoldable pub related : Relation → ℤ → ℤ → Bool
related equal a b = eq_z a b
related unequal a b = not (eq_z a b)
related less a b = lt_z a b
related at_most a b = le_z a b
related greater a b = lt_z b a
related at_least a b = le_z b a

-- ---- "Terms are a tag and a number", "A value is a sum .. In it a term may itself be a bracketed sum or a comparison"

mutual
  pub data Term : Type 0 where
    constant minus_constant parameter : ℕ → Term
    clock_term : Term
    entries_of content_of units_in_use units_free facility_in_use value : ℕ → Term
    comparison : Relation → Term → Term → Term
    bracket : Sum → Term

  pub data Sum : Type 0 where
    nothing : Sum
    plus minus : Term → Sum → Sum

abbrev pub one_if : Bool → ℤ
one_if true = pos 1
one_if false = pos 0

-- the worth of a term, seen with a transaction's parameters and the worths of the lower-numbered values
module _ (w : View) (parameters : List ℤ) (lower : List ℤ) where
  unfoldable mutual
    pub term : Term → ℤ
    term (constant n) = pos n
    term (minus_constant n) = neg_ℤ (pos n)
    term (parameter k) = nth parameters k (pos 0)
    -- document 02, item 1: "The clock term gives the clock's low 32 bits as a signed number."
    term clock_term = wrap (pos w.clock)
    term (entries_of b) = pos (nth w.entries b 0)
    term (content_of q) = pos (queue_at w q).content
    term (units_in_use v) = pos (server_at w v).in_use
    term (units_free v) = pos (free (server_at w v))
    term (facility_in_use v) = one_if (ltb 0 (server_at w v).in_use)
    term (value k) = nth lower k (pos 0)
    term (comparison r a b) = one_if (related r (term a) (term b))
    term (bracket e) = sum e (pos 0)

    -- a sum from its first term on, behind terms worth `so_far`
    pub sum : Sum → ℤ → ℤ
    sum nothing so_far = so_far
    sum (plus t e) so_far = sum e (wrap (so_far +ℤ term t))
    sum (minus t e) so_far = sum e (wrap (so_far -ℤ term t))

-- "A value names only lower-numbered values": their worths, from the first on, behind those in `lower`
unfoldable pub worths : View → List ℤ → List Sum → List ℤ → List ℤ
worths w p [] lower = lower
worths w p (e ∷ l) lower = worths w p l (lower ++ (sum w p lower e (pos 0) ∷ []))

-- "terms are read .. with the transaction's own parameters": a term of a block, under the model's values
unfoldable pub evaluate : List Sum → View → List ℤ → Term → ℤ
evaluate values w p t = term w p (worths w p values []) t

unfoldable pub compare : List Sum → View → List ℤ → Term → Relation → Term → Bool
compare values w p a r b = related r (evaluate values w p a) (evaluate values w p b)

-- ---- Conditions of blocks

-- none, or a comparison of two terms
pub data Condition : Type 0 where
  always : Condition
  when_true : (left : Term) (relation : Relation) (right : Term) → Condition

-- "with the transaction's own parameters"
unfoldable pub truth : List Sum → View → List ℤ → Condition → Bool
truth values w p always = true
truth values w p (when_true a r b) = compare values w p a r b
