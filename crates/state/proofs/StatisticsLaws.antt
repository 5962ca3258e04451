-- Sums and longest lengths of the tally, brought up to date: what they read, that a number which is up to date may change, what a
-- clock move adds, and that to bring a server or a queue up to date changes none of them.
use Rattle.machine.specs.All.{ℕ, ◌+◌, ◌*◌, ◌-◌, ◌≤◌, ◌<◌, min, max, ◌≡◌, refl, sym, ◌∙◌, ◌≢◌, Bool, true, false, not, true≢false, List, mul-add, arith, ℕ_discrete, eq-eqb, ne_eqb, eqb-true, ltb, length, get_or, set, length-set, get_or-set_same, get_or-set_other, max_clock, State}
use Rattle.layout.specs.Layout as Layout
use Rattle.state.specs.All.{count_end, product, ticks_since, behind, sum_now, longest_now, see, store_server, update_server, store_queue, update_queue, Seen, Serving, Queueing, Tallying}
use Rattle.state.proofs.Products.{product_is}
use mathlib.Core.Path.{ap}
use mathlib.Core.Bool.{cond}
use lib.Dec.{eqb}

-- ---- What they read

-- the pair of i and the number of clock moves are as they were
pub record SamePair (t t' : List ℕ) (i : ℕ) : Type 0 where
  pub clock : get_or t' (1344 + i) 0 ≡ get_or t (1344 + i) 0
  pub moves : get_or t' (1440 + i) 0 ≡ get_or t (1440 + i) 0
  pub all : get_or t' 1536 0 ≡ get_or t 1536 0

module _ (t t' : List ℕ) (i : ℕ) (h : SamePair t t' i) where
  pub behind-same : behind t' i ≡ behind t i
  unfolding behind
  behind-same = rw (h.moves, h.all)

  ticks-same : (clock : ℕ) → ticks_since t' i clock ≡ ticks_since t i clock
  unfolding ticks_since
  ticks-same clock = rw h.clock

  pub sum_same : (at from clock : ℕ) → get_or t' at 0 ≡ get_or t at 0 → get_or t' from 0 ≡ get_or t from 0
      → sum_now t' at from i clock ≡ sum_now t at from i clock
  unfolding sum_now
  sum_same at from clock a f = rw (ticks-same clock, a, f)

  pub longest-same : (at from : ℕ) → get_or t' at 0 ≡ get_or t at 0 → get_or t' from 0 ≡ get_or t from 0
      → longest_now t' at from i ≡ longest_now t at from i
  unfolding longest_now
  longest-same at from a f = rw (behind-same, a, f)

-- ---- Up to date

product-none : (n : ℕ) → product n 0 ≡ 0
unfolding product
product-none n = go (ltb n count_end)
  where
    go : (b : Bool) → cond b (n * 0) 0 ≡ 0
    go true = omega arith
    go false = refl

module _ (t : List ℕ) (at from i : ℕ) where
  no-ticks : (clock : ℕ) → get_or t (1344 + i) 0 ≡ clock → ticks_since t i clock ≡ 0
  unfolding ticks_since
  no-ticks clock e = omega arith

  -- a sum that is up to date is the number stored
  pub sum-current : (clock : ℕ) → get_or t (1344 + i) 0 ≡ clock → sum_now t at from i clock ≡ min (get_or t at 0) Layout.most64
  unfolding sum_now
  sum-current clock e = rw (no-ticks clock e, product-none (get_or t from 0)) (omega arith)

  pub longest-current : behind t i ≡ false → longest_now t at from i ≡ get_or t at 0
  unfolding longest_now
  longest-current e = rw e

  sum-most : (clock : ℕ) → sum_now t at from i clock ≤ Layout.most64
  unfolding sum_now
  sum-most clock = omega arith

-- the number at `from` changes
module _ (t t' : List ℕ) (i : ℕ) (h : SamePair t t' i) (at from : ℕ) (same : get_or t' at 0 ≡ get_or t at 0) where
  -- where no tick has passed since the last update, a change of what is summed changes no sum
  pub sum_moved : (clock : ℕ) → get_or t (1344 + i) 0 ≡ clock → sum_now t' at from i clock ≡ sum_now t at from i clock
  sum_moved clock e =
      sum-current t' at from i clock (h.clock ∙ e) ∙ ap (λ (n : ℕ). min n Layout.most64) same ∙ sym (sum-current t at from i clock e)

  pub longest-moved : behind t i ≡ false → longest_now t' at from i ≡ longest_now t at from i
  longest-moved e = longest-current t' at from i (behind-same t t' i h ∙ e) ∙ same ∙ sym (longest-current t at from i e)

-- ---- A clock move, be it by 0 ticks

-- a sum grows by a count for each tick
sum_grows : (sum n ticks more : ℕ) → n ≤ 100000001 → min (sum + product n ticks) Layout.most64 + n * more < Layout.most64
    → min (sum + product n (ticks + more)) Layout.most64 ≡ min (sum + product n ticks) Layout.most64 + n * more
sum_grows sum n ticks more small fits =
    let was : product n ticks ≡ n * ticks = product_is n ticks (omega arith) in
    let is : product n (ticks + more) ≡ n * ticks + n * more = product_is n (ticks + more) (omega arith) ∙ mul-add n ticks more in
    omega (arith, was, is, fits)

-- the move is counted, and no other cell of the tally changes
module _ (t t' : List ℕ) (clock time turns : ℕ) (h : Seen t clock turns) (on : clock ≤ time) (most : time ≤ max_clock)
    (same : (j : ℕ) → j < 1536 → get_or t' j 0 ≡ get_or t j 0) (more : get_or t' 1536 0 ≡ get_or t 1536 0 + 1) where
  -- nothing is up to date then
  behind-all : (i : ℕ) → i < 96 → behind t' i ≡ true
  unfolding behind
  behind-all i hi =
      rw (ne_eqb (get_or t' (1440 + i) 0) (get_or t' 1536 0) (λ e. omega (arith, e, more, same (1440 + i) (omega arith), h.before i hi)))

  pub seen-later : get_or t 1536 0 < turns → Seen t' time turns
  seen-later fewer =
      record {
        moves = omega (arith, more);
        before = λ i hi. omega (arith, more, same (1440 + i) (omega arith), h.before i hi);
        clocks = λ i hi. omega (arith, same (1344 + i) (omega arith), h.clocks i hi);
        current = λ i hi e. absurd (true≢false (sym (behind-all i hi) ∙ e));
      }

  -- the ticks of the move more
  ticks-later : (i : ℕ) → i < 96 → ticks_since t' i time ≡ ticks_since t i clock + (time - clock)
  unfolding ticks_since
  ticks-later i hi = omega (arith, same (1344 + i) (omega arith), h.clocks i hi)

  module _ (at from i : ℕ) (hi : i < 96) (a : at < 1536) (f : from < 1536) where
    -- after a clock move the sum has grown by what stood there, for each tick
    pub sum-later : (sum n : ℕ) → sum_now t at from i clock ≡ sum → get_or t from 0 ≡ n → n ≤ 100000001
        → sum + n * (time - clock) < Layout.most64
        → sum_now t' at from i time ≡ sum + n * (time - clock)
    unfolding sum_now
    sum-later sum n e g small fits =
        let was : min (get_or t at 0 + product n (ticks_since t i clock)) Layout.most64 ≡ sum =
        ap (λ (z : ℕ). min (get_or t at 0 + product z (ticks_since t i clock)) Layout.most64) (sym g) ∙ e in
        rw (ticks-later i hi, same at a, same from f, g)
        (sum_grows (get_or t at 0) n (ticks_since t i clock) (time - clock) small (omega (arith, was, fits))
        ∙ ap (λ (z : ℕ). z + n * (time - clock)) was)

    -- after a clock move the longest includes what stood there
    pub longest-later : (longest n : ℕ) → longest_now t at from i ≡ longest → get_or t from 0 ≡ n → longest_now t' at from i ≡ max longest n
    unfolding longest_now
    longest-later longest n e g = rw (behind-all i hi, same at a, same from f, ← e) (go (behind t i))
      where
        go : (b : Bool) → max (get_or t at 0) (get_or t from 0) ≡ max (cond b (max (get_or t at 0) (get_or t from 0)) (get_or t at 0)) n
        go true = omega (arith, g)
        go false = omega (arith, g)

-- ---- One is brought up to date

pub seen-now : (t : List ℕ) (i : ℕ) → get_or t (1440 + i) 0 ≡ get_or t 1536 0 → behind t i ≡ false
unfolding behind
seen-now t i e = rw (eq-eqb _ _ e)

now-seen : (t : List ℕ) (i : ℕ) → behind t i ≡ false → get_or t (1440 + i) 0 ≡ get_or t 1536 0
unfolding behind
now-seen t i e = eqb-true _ _ (go (eqb (get_or t (1440 + i) 0) (get_or t 1536 0)) e)
  where
    go : (b : Bool) → not b ≡ false → b ≡ true
    go true f = refl
    go false f = sym f

-- i is up to date, and the pairs of the others are as they were
pub record Updated (t t' : List ℕ) (i time : ℕ) : Type 0 where
  pub size : length t' ≡ length t
  pub clock : get_or t' (1344 + i) 0 ≡ time
  pub moves : get_or t' (1440 + i) 0 ≡ get_or t 1536 0
  pub all : get_or t' 1536 0 ≡ get_or t 1536 0
  pub others : (j : ℕ) → j < 96 → j ≢ i → SamePair t t' j

module _ (t t' : List ℕ) (i clock : ℕ) (u : Updated t t' i clock) where
  pub updated-current : behind t' i ≡ false
  updated-current = seen-now t' i (u.moves ∙ sym u.all)

  seen_updated : (turns : ℕ) → Seen t clock turns → Seen t' clock turns
  seen_updated turns h =
      record {
        moves = omega (arith, u.all, h.moves);
        before = λ j hj. before j hj (ℕ_discrete j i);
        clocks = λ j hj. clocks j hj (ℕ_discrete j i);
        current = λ j hj. current j hj (ℕ_discrete j i);
      }
    where
      before : (j : ℕ) → j < 96 → Dec (j ≡ i) → get_or t' (1440 + j) 0 ≤ get_or t' 1536 0
      before j hj (yes e) = rw e (omega (arith, u.moves, u.all))
      before j hj (no d) = omega (arith, (u.others j hj d).moves, u.all, h.before j hj)

      clocks : (j : ℕ) → j < 96 → Dec (j ≡ i) → get_or t' (1344 + j) 0 ≤ clock
      clocks j hj (yes e) = rw e (omega (arith, u.clock))
      clocks j hj (no d) = omega (arith, (u.others j hj d).clock, h.clocks j hj)

      current : (j : ℕ) → j < 96 → Dec (j ≡ i) → behind t' j ≡ false → get_or t' (1344 + j) 0 ≡ clock
      current j hj (yes e) n = rw e u.clock
      current j hj (no d) n = (u.others j hj d).clock ∙ h.current j hj (sym (behind-same t t' j (u.others j hj d)) ∙ n)

-- it was before
same_updated : (t : List ℕ) (i clock : ℕ) → behind t i ≡ false → get_or t (1344 + i) 0 ≡ clock → Updated t t i clock
same_updated t i clock n e =
    record {
      size = refl;
      clock = e;
      moves = now-seen t i n;
      all = refl;
      others = λ j hj d. record { clock = refl; moves = refl; all = refl };
    }

-- the pair of i is set
module _ (t : List ℕ) (i clock : ℕ) where
  abbrev one : List ℕ
  one = set t (1344 + i) clock

  abbrev two : List ℕ
  two = set one (1440 + i) (get_or t 1536 0)

  see-other : (j : ℕ) → j ≢ 1344 + i → j ≢ 1440 + i → get_or (see t i clock) j 0 ≡ get_or t j 0
  unfolding see
  see-other j d e = get_or-set_other one (1440 + i) j (get_or t 1536 0) 0 e ∙ get_or-set_other t (1344 + i) j clock 0 d

  module _ (size : length t ≡ 1537) (hi : i < 96) where
    see_updated : Updated t (see t i clock) i clock
    unfolding see
    see_updated =
        record {
          size = length-set one (1440 + i) (get_or t 1536 0) ∙ length-set t (1344 + i) clock;
          clock =
              get_or-set_other one (1440 + i) (1344 + i) (get_or t 1536 0) 0 (λ e. omega arith)
              ∙ get_or-set_same t (1344 + i) clock 0 (omega arith);
          moves = get_or-set_same one (1440 + i) (get_or t 1536 0) 0 (omega (arith, length-set t (1344 + i) clock));
          all = see-other 1536 (λ e. omega arith) (λ e. omega arith);
          others = λ j hj d.
              record {
                clock = see-other (1344 + j) (λ e. d (omega arith)) (λ e. omega arith);
                moves = see-other (1440 + j) (λ e. omega arith) (λ e. d (omega arith));
                all = see-other 1536 (λ e. omega arith) (λ e. omega arith);
              };
        }

-- after cells that no pair has
after_updated : (t t₁ t' : List ℕ) (i clock : ℕ) → length t₁ ≡ length t → ((j : ℕ) → 1344 ≤ j → get_or t₁ j 0 ≡ get_or t j 0)
    → Updated t₁ t' i clock
    → Updated t t' i clock
after_updated t t₁ t' i clock len same u =
    record {
      size = u.size ∙ len;
      clock = u.clock;
      moves = u.moves ∙ same 1536 (omega arith);
      all = u.all ∙ same 1536 (omega arith);
      others = λ j hj d.
          let p : SamePair t₁ t' j = u.others j hj d in
          record {
            clock = p.clock ∙ same (1344 + j) (omega arith);
            moves = p.moves ∙ same (1440 + j) (omega arith);
            all = p.all ∙ same 1536 (omega arith);
          };
    }

-- ---- A server

pub record ServerUpdated (t t' : List ℕ) (v clock : ℕ) : Type 0 where
  pub pairs : Updated t t' v clock
  pub other : (j : ℕ) → j < 1344 → j ≢ 576 + v → j ≢ 640 + v → j ≢ 704 + v → get_or t' j 0 ≡ get_or t j 0
  pub units : sum_now t' (576 + v) (512 + v) v clock ≡ sum_now t (576 + v) (512 + v) v clock
  pub waits : sum_now t' (640 + v) (768 + v) v clock ≡ sum_now t (640 + v) (768 + v) v clock
  pub longest : longest_now t' (704 + v) (768 + v) v ≡ longest_now t (704 + v) (768 + v) v

module _ (t : List ℕ) (v clock : ℕ) where
  abbrev u₀ : ℕ
  u₀ = sum_now t (576 + v) (512 + v) v clock

  abbrev w₀ : ℕ
  w₀ = sum_now t (640 + v) (768 + v) v clock

  abbrev l₀ : ℕ
  l₀ = longest_now t (704 + v) (768 + v) v

  abbrev t₁ : List ℕ
  t₁ = set t (576 + v) u₀

  abbrev t₂ : List ℕ
  t₂ = set t₁ (640 + v) w₀

  abbrev t₃ : List ℕ
  t₃ = set t₂ (704 + v) l₀

  abbrev t₄ : List ℕ
  t₄ = see t₃ v clock

  other₃ : (j : ℕ) → j ≢ 576 + v → j ≢ 640 + v → j ≢ 704 + v → get_or t₃ j 0 ≡ get_or t j 0
  other₃ j a b c = get_or-set_other t₂ (704 + v) j l₀ 0 c ∙ get_or-set_other t₁ (640 + v) j w₀ 0 b ∙ get_or-set_other t (576 + v) j u₀ 0 a

  -- below the pairs
  below : (j : ℕ) → j < 1344 → get_or t₄ j 0 ≡ get_or t₃ j 0
  below j h = see-other t₃ v clock j (λ e. omega arith) (λ e. omega arith)

  module _ (size : length t ≡ 1537) (hv : v < 64) where
    size₁ : length t₁ ≡ 1537
    size₁ = length-set t (576 + v) u₀ ∙ size

    size₂ : length t₂ ≡ 1537
    size₂ = length-set t₁ (640 + v) w₀ ∙ size₁

    size₃ : length t₃ ≡ 1537
    size₃ = length-set t₂ (704 + v) l₀ ∙ size₂

    paired : Updated t t₄ v clock
    paired =
        after_updated t t₃ t₄ v clock (size₃ ∙ sym size) (λ j h. other₃ j (λ e. omega arith) (λ e. omega arith) (λ e. omega arith))
        (see_updated t₃ v clock size₃ (omega arith))

    stored : ServerUpdated t (store_server t v clock) v clock
    unfolding store_server
    stored =
        record {
          pairs = paired;
          other = λ j h a b c. below j h ∙ other₃ j a b c;
          units =
              sum-current t₄ (576 + v) (512 + v) v clock paired.clock
              ∙ omega (
                arith,
                below (576 + v) (omega arith),
                get_or-set_other t₂ (704 + v) (576 + v) l₀ 0 (λ e. omega arith),
                get_or-set_other t₁ (640 + v) (576 + v) w₀ 0 (λ e. omega arith),
                get_or-set_same t (576 + v) u₀ 0 (omega arith),
                sum-most t (576 + v) (512 + v) v clock,
              );
          waits =
              sum-current t₄ (640 + v) (768 + v) v clock paired.clock
              ∙ omega (
                arith,
                below (640 + v) (omega arith),
                get_or-set_other t₂ (704 + v) (640 + v) l₀ 0 (λ e. omega arith),
                get_or-set_same t₁ (640 + v) w₀ 0 (omega (arith, size₁)),
                sum-most t (640 + v) (768 + v) v clock,
              );
          longest =
              longest-current t₄ (704 + v) (768 + v) v (updated-current t t₄ v clock paired)
              ∙ below (704 + v) (omega arith) ∙ get_or-set_same t₂ (704 + v) l₀ 0 (omega (arith, size₂));
        }

    kept : behind t v ≡ false → get_or t (1344 + v) 0 ≡ clock → ServerUpdated t t v clock
    kept n e =
        record {
          pairs = same_updated t v clock n e;
          other = λ j h a b c. refl;
          units = refl;
          waits = refl;
          longest = refl;
        }

    -- bringing a server up to date changes no reading of it
    pub server_updated : (turns : ℕ) → Seen t clock turns → ServerUpdated t (update_server t v clock) v clock
    unfolding update_server
    server_updated turns h = go (behind t v) refl
      where
        go : (b : Bool) → behind t v ≡ b → ServerUpdated t (cond b (store_server t v clock) t) v clock
        go true e = stored
        go false e = kept e (h.current v (omega arith) e)

-- ---- A queue, counted behind the servers

pub record QueueUpdated (t t' : List ℕ) (q clock : ℕ) : Type 0 where
  pub pairs : Updated t t' (64 + q) clock
  pub other : (j : ℕ) → j < 1344 → j ≢ 864 + q → j ≢ 896 + q → get_or t' j 0 ≡ get_or t j 0
  pub contents : sum_now t' (864 + q) (832 + q) (64 + q) clock ≡ sum_now t (864 + q) (832 + q) (64 + q) clock
  pub longest : longest_now t' (896 + q) (832 + q) (64 + q) ≡ longest_now t (896 + q) (832 + q) (64 + q)

module _ (t : List ℕ) (q clock : ℕ) where
  abbrev c₀ : ℕ
  c₀ = sum_now t (864 + q) (832 + q) (64 + q) clock

  abbrev m₀ : ℕ
  m₀ = longest_now t (896 + q) (832 + q) (64 + q)

  abbrev q₁ : List ℕ
  q₁ = set t (864 + q) c₀

  abbrev q₂ : List ℕ
  q₂ = set q₁ (896 + q) m₀

  abbrev q₃ : List ℕ
  q₃ = see q₂ (64 + q) clock

  qother : (j : ℕ) → j ≢ 864 + q → j ≢ 896 + q → get_or q₂ j 0 ≡ get_or t j 0
  qother j a b = get_or-set_other q₁ (896 + q) j m₀ 0 b ∙ get_or-set_other t (864 + q) j c₀ 0 a

  qbelow : (j : ℕ) → j < 1344 → get_or q₃ j 0 ≡ get_or q₂ j 0
  qbelow j h = see-other q₂ (64 + q) clock j (λ e. omega arith) (λ e. omega arith)

  module _ (size : length t ≡ 1537) (hq : q < 32) where
    qsize₁ : length q₁ ≡ 1537
    qsize₁ = length-set t (864 + q) c₀ ∙ size

    qsize₂ : length q₂ ≡ 1537
    qsize₂ = length-set q₁ (896 + q) m₀ ∙ qsize₁

    qpaired : Updated t q₃ (64 + q) clock
    qpaired =
        after_updated t q₂ q₃ (64 + q) clock (qsize₂ ∙ sym size) (λ j h. qother j (λ e. omega arith) (λ e. omega arith))
        (see_updated q₂ (64 + q) clock qsize₂ (omega arith))

    qstored : QueueUpdated t (store_queue t q clock) q clock
    unfolding store_queue
    qstored =
        record {
          pairs = qpaired;
          other = λ j h a b. qbelow j h ∙ qother j a b;
          contents =
              sum-current q₃ (864 + q) (832 + q) (64 + q) clock qpaired.clock
              ∙ omega (
                arith,
                qbelow (864 + q) (omega arith),
                get_or-set_other q₁ (896 + q) (864 + q) m₀ 0 (λ e. omega arith),
                get_or-set_same t (864 + q) c₀ 0 (omega arith),
                sum-most t (864 + q) (832 + q) (64 + q) clock,
              );
          longest =
              longest-current q₃ (896 + q) (832 + q) (64 + q) (updated-current t q₃ (64 + q) clock qpaired)
              ∙ qbelow (896 + q) (omega arith) ∙ get_or-set_same q₁ (896 + q) m₀ 0 (omega (arith, qsize₁));
        }

    qkept : behind t (64 + q) ≡ false → get_or t (1344 + (64 + q)) 0 ≡ clock → QueueUpdated t t q clock
    qkept n e = record { pairs = same_updated t (64 + q) clock n e; other = λ j h a b. refl; contents = refl; longest = refl }

    -- bringing a queue up to date changes no reading of it
    pub queue_updated : (turns : ℕ) → Seen t clock turns → QueueUpdated t (update_queue t q clock) q clock
    unfolding update_queue
    queue_updated turns h = go (behind t (64 + q)) refl
      where
        go : (b : Bool) → behind t (64 + q) ≡ b → QueueUpdated t (cond b (store_queue t q clock) t) q clock
        go true e = qstored
        go false e = qkept e (h.current (64 + q) (omega arith) e)

-- ---- The tally stands for the same state

module _ (tape_bytes t : List ℕ) (s : State) (h : Tallying tape_bytes t s) (few : length s.samples ≤ 16) where
  abbrev clock : ℕ
  clock = s.view.clock

  module _ (v : ℕ) (hv : v < 64) where
    abbrev t' : List ℕ
    t' = update_server t v s.view.clock

    u : ServerUpdated t t' v clock
    u = server_updated t v clock h.size hv s.turns h.seen

    low : (j : ℕ) → j < 576 → get_or t' j 0 ≡ get_or t j 0
    low j a = u.other j (omega arith) (λ e. omega arith) (λ e. omega arith) (λ e. omega arith)

    high : (j : ℕ) → 768 ≤ j → j < 1344 → get_or t' j 0 ≡ get_or t j 0
    high j a b = u.other j b (λ e. omega arith) (λ e. omega arith) (λ e. omega arith)

    server-sums : Serving t' clock s.view.servers s.ql
    server-sums =
        record {
          in_use = λ i hi. low (512 + i) (omega arith) ∙ h.servers.in_use i hi;
          holders = λ i hi. high (960 + i) (omega arith) (omega arith) ∙ h.servers.holders i hi;
          preempts = λ i hi. high (1024 + i) (omega arith) (omega arith) ∙ h.servers.preempts i hi;
          held = λ r hr. high (1088 + r) (omega arith) (omega arith) ∙ h.servers.held r hr;
          unit-ticks = λ i hi. units i hi (ℕ_discrete i v) ∙ h.servers.unit-ticks i hi;
          wait-ticks = λ i hi. waits i hi (ℕ_discrete i v) ∙ h.servers.wait-ticks i hi;
          longest = λ i hi. longest i hi (ℕ_discrete i v) ∙ h.servers.longest i hi;
          waiting = λ i hi. high (768 + i) (omega arith) (omega arith) ∙ h.servers.waiting i hi;
        }
      where
        pair : (i : ℕ) → i < 64 → i ≢ v → SamePair t t' i
        pair i hi d = u.pairs.others i (omega arith) d

        units : (i : ℕ) → i < 64 → Dec (i ≡ v) → sum_now t' (576 + i) (512 + i) i clock ≡ sum_now t (576 + i) (512 + i) i clock
        units i hi (yes e) = rw e u.units
        units i hi (no d) =
            sum_same t t' i (pair i hi d) (576 + i) (512 + i) clock
            (u.other (576 + i) (omega arith) (λ e. d (omega arith)) (λ e. omega arith) (λ e. omega arith))
            (low (512 + i) (omega arith))

        waits : (i : ℕ) → i < 64 → Dec (i ≡ v) → sum_now t' (640 + i) (768 + i) i clock ≡ sum_now t (640 + i) (768 + i) i clock
        waits i hi (yes e) = rw e u.waits
        waits i hi (no d) =
            sum_same t t' i (pair i hi d) (640 + i) (768 + i) clock
            (u.other (640 + i) (omega arith) (λ e. omega arith) (λ e. d (omega arith)) (λ e. omega arith))
            (high (768 + i) (omega arith) (omega arith))

        longest : (i : ℕ) → i < 64 → Dec (i ≡ v) → longest_now t' (704 + i) (768 + i) i ≡ longest_now t (704 + i) (768 + i) i
        longest i hi (yes e) = rw e u.longest
        longest i hi (no d) =
            longest-same t t' i (pair i hi d) (704 + i) (768 + i)
            (u.other (704 + i) (omega arith) (λ e. omega arith) (λ e. omega arith) (λ e. d (omega arith)))
            (high (768 + i) (omega arith) (omega arith))

    queue-sums : Queueing t' clock s.view.queues
    queue-sums =
        record {
          contents = λ q hq. high (832 + q) (omega arith) (omega arith) ∙ h.queues.contents q hq;
          content-ticks = λ q hq.
              sum_same t t' (64 + q) (pair q hq) (864 + q) (832 + q) clock (high (864 + q) (omega arith) (omega arith))
              (high (832 + q) (omega arith) (omega arith))
              ∙ h.queues.content-ticks q hq;
          longest = λ q hq.
              longest-same t t' (64 + q) (pair q hq) (896 + q) (832 + q) (high (896 + q) (omega arith) (omega arith))
              (high (832 + q) (omega arith) (omega arith))
              ∙ h.queues.longest q hq;
        }
      where
        pair : (q : ℕ) → q < 32 → SamePair t t' (64 + q)
        pair q hq = u.pairs.others (64 + q) (omega arith) (λ e. omega arith)

    pub server-tallying : Tallying tape_bytes (update_server t v s.view.clock) s
    server-tallying =
        record {
          size = u.pairs.size ∙ h.size;
          entries = λ b hb. low (0 + b) (omega arith) ∙ h.entries b hb;
          waits = λ b hb. low (256 + b) (omega arith) ∙ h.waits b hb;
          seen = seen_updated t t' v clock u.pairs s.turns h.seen;
          servers = server-sums;
          queues = queue-sums;
          samples =
              record {
                begins = λ l hl. rw (high (928 + l) (omega arith) (omega arith)) (h.samples.begins l hl);
                left = λ l hl. high (944 + l) (omega arith) (omega arith) ∙ h.samples.left l hl;
              };
        }

    pub server-current : behind (update_server t v s.view.clock) v ≡ false
    server-current = updated-current t t' v clock u.pairs

  module _ (q : ℕ) (hq : q < 32) where
    abbrev q' : List ℕ
    q' = update_queue t q s.view.clock

    w : QueueUpdated t q' q clock
    w = queue_updated t q clock h.size hq s.turns h.seen

    below' : (j : ℕ) → j < 864 → get_or q' j 0 ≡ get_or t j 0
    below' j a = w.other j (omega arith) (λ e. omega arith) (λ e. omega arith)

    above' : (j : ℕ) → 928 ≤ j → j < 1344 → get_or q' j 0 ≡ get_or t j 0
    above' j a b = w.other j b (λ e. omega arith) (λ e. omega arith)

    servers-kept : Serving q' clock s.view.servers s.ql
    servers-kept =
        record {
          in_use = λ i hi. below' (512 + i) (omega arith) ∙ h.servers.in_use i hi;
          holders = λ i hi. above' (960 + i) (omega arith) (omega arith) ∙ h.servers.holders i hi;
          preempts = λ i hi. above' (1024 + i) (omega arith) (omega arith) ∙ h.servers.preempts i hi;
          held = λ r hr. above' (1088 + r) (omega arith) (omega arith) ∙ h.servers.held r hr;
          unit-ticks =
              λ i hi.
              sum_same t q' i (pair i hi) (576 + i) (512 + i) clock (below' (576 + i) (omega arith)) (below' (512 + i) (omega arith))
              ∙ h.servers.unit-ticks i hi;
          wait-ticks =
              λ i hi.
              sum_same t q' i (pair i hi) (640 + i) (768 + i) clock (below' (640 + i) (omega arith)) (below' (768 + i) (omega arith))
              ∙ h.servers.wait-ticks i hi;
          longest =
              λ i hi. longest-same t q' i (pair i hi) (704 + i) (768 + i) (below' (704 + i) (omega arith)) (below' (768 + i) (omega arith))
              ∙ h.servers.longest i hi;
          waiting = λ i hi. below' (768 + i) (omega arith) ∙ h.servers.waiting i hi;
        }
      where
        pair : (i : ℕ) → i < 64 → SamePair t q' i
        pair i hi = w.pairs.others i (omega arith) (λ e. omega arith)

    queues-kept : Queueing q' clock s.view.queues
    queues-kept =
        record {
          contents = λ i hi. below' (832 + i) (omega arith) ∙ h.queues.contents i hi;
          content-ticks = λ i hi. sums i hi (ℕ_discrete i q) ∙ h.queues.content-ticks i hi;
          longest = λ i hi. longest i hi (ℕ_discrete i q) ∙ h.queues.longest i hi;
        }
      where
        pair : (i : ℕ) → i < 32 → i ≢ q → SamePair t q' (64 + i)
        pair i hi d = w.pairs.others (64 + i) (omega arith) (λ e. d (omega arith))

        sums : (i : ℕ) → i < 32 → Dec (i ≡ q) → sum_now q' (864 + i) (832 + i) (64 + i) clock ≡ sum_now t (864 + i) (832 + i) (64 + i) clock
        sums i hi (yes e) = rw e w.contents
        sums i hi (no d) =
            sum_same t q' (64 + i) (pair i hi d) (864 + i) (832 + i) clock
            (w.other (864 + i) (omega arith) (λ e. d (omega arith)) (λ e. omega arith))
            (below' (832 + i) (omega arith))

        longest : (i : ℕ) → i < 32 → Dec (i ≡ q) → longest_now q' (896 + i) (832 + i) (64 + i) ≡ longest_now t (896 + i) (832 + i) (64 + i)
        longest i hi (yes e) = rw e w.longest
        longest i hi (no d) =
            longest-same t q' (64 + i) (pair i hi d) (896 + i) (832 + i)
            (w.other (896 + i) (omega arith) (λ e. omega arith) (λ e. d (omega arith)))
            (below' (832 + i) (omega arith))

    pub queue-tallying : Tallying tape_bytes (update_queue t q s.view.clock) s
    queue-tallying =
        record {
          size = w.pairs.size ∙ h.size;
          entries = λ b hb. below' (0 + b) (omega arith) ∙ h.entries b hb;
          waits = λ b hb. below' (256 + b) (omega arith) ∙ h.waits b hb;
          seen = seen_updated t q' (64 + q) clock w.pairs s.turns h.seen;
          servers = servers-kept;
          queues = queues-kept;
          samples =
              record {
                begins = λ l hl. rw (above' (928 + l) (omega arith) (omega arith)) (h.samples.begins l hl);
                left = λ l hl. above' (944 + l) (omega arith) (omega arith) ∙ h.samples.left l hl;
              };
        }

    pub queue-current : behind (update_queue t q s.view.clock) (64 + q) ≡ false
    queue-current = updated-current t q' (64 + q) clock w.pairs
