-- Document 02, item 6: in every state of a run each facility is in use exactly if it has a holder, the one that the records tell;
-- where the rules ask 27 and 28, the holder is living. Item 11: so is the one from whom it was taken, and nobody else is interrupted. Every
-- turn keeps it.
use Rattle.machine.specs.All.{ℕ, zero, suc, ◌+◌, ◌-◌, ◌≤◌, ◌<◌, ◌≡◌, refl, sym, ap, ◌∙◌, Bool, true, false, cond, not, ◌&&◌, ◌||◌, List, [], ◌∷◌, ◌++◌, map, Option, none, some, arith, ℕ_discrete, leb-true, le-leb, eqb-true, eqb-false, eq-eqb, ne_eqb, lt-ltb, ltb-true, ltb-false, ltb, leb, eqb, length, get_or, replicate, length-map, get_or-set_same, get_or-set_other, Transaction, Event, Gatherer, Interrupted, precedes, set_nth, those, Server, idle_server, server_at, free, Facts, Share, facility, storage, share_server, share_units, share_facility, share_holder, Block, generate, advance, terminate, takes, frees, wait_server, wait_terms, moves, assign, priority, split, counts, assemble, preempt, give_back, facts, BlockModel, block_at, State, Logged, with_use, set_moving, with_stamp, record_of, log, enters, move_to, to_rel, to_fel, to_ql, to_wel, to_wsl, must_wait, wake_ql, wake_first_wel, wake_wsl, set_use, set_content, arrival, copies, waits_for, to_gatherers, comes, released, of_facility, losers_to, interrupted_at, interrupt, resume, set_holder, unless, held, question, take_units, wake_for, check_wels, ends_one, delay, effect, free_units, ask_gathers, ask_holder, ask_gives_back, sample_servers, sample, arrive_all, move_clock, next_events, take_first, take_ready, taking, answer, execute, ws_scheme, turn, start_at, idle, start, states, Each, bit, up_to, count, facts_at, entered, terminates, made_by, is_living, holder_by, Held, takes_it, loser_by, preempted_by, TakenFrom, set_turns}
use Rattle.machine.proofs as our
use our.Decoding.Proper.{Proper, ProperShare, ProperBlock, Names, Storage, servers, share-server}
use our.{Runs.RunLaws.each-state, Runs.Clocks.unless_yes, NobodyAble.Waiting.server_in, NobodyAble.WaitsKept.sampled-alike, Conservation.Ledger.ends-nobody, Basic.Lists.up_to-at}
use our.Basic.Bools.{cond_cases, and-three}
use our.Basic.Each.{each_map, each-pair, each-insert, each-those, each_replace}
use our.Lists.Cases.{wait_server-cases, check_wels-kept, wait_terms-cases, ws_scheme-cases, start_of-cases, assemble-cases, preempt-cases, give_back-cases}
use our.Runs.Shape.{Shape, server-length, server-within, facility-capacity}
use our.Lists.Sums.{count-cons, sum_on, sum-count, each_member}
use our.Lists.Chosen.{those-insert, those-one, those_else, those_replaced, upto, upto-none, upto-some, none-numbered}
use our.Order.Losers.{Loses, loser-loses}
use our.Conservation.Conservation.{Sound, sound-taking, sound-turn, sound-start, mover-lives, interrupted_live}

-- ---- Counts and tests

-- whose count of held facilities is 0 holds none
pub holds-none : (n k : ℕ) (number : ℕ) (f : ℕ → ℕ) → up_to n (λ k. bit (eqb (f k) number)) ≡ 0 → 1 ≤ k → k ≤ n → f k ≡ number → ⊥
holds-none n k number f z low high e =
    omega (arith, up_to-at n (λ k. bit (eqb (f k) number)) k low high, ap bit (eq-eqb (f k) number e))

module _ (m : BlockModel) (tape : List (List ℕ)) where
  abbrev Facility : ℕ → Type 0
  Facility f = Names m.facilities f

  -- ---- Definition

  -- of facility f, which is v: what is claimed of it and of the interrupted ones; where somebody lost it, it is preempted
  pub record Tells (v : Server) (f : ℕ) (stopped : List Interrupted) (records : List Logged) : Type 0 where
    pub held : Held m tape v f records
    -- the records and the list of the interrupted agree on who lost it
    pub loser : map (λ i. i.who.number) (those (of_facility f) stopped) ≡ upto (loser_by m tape records f)
    -- nobody has lost a facility that is free or only seized
    pub taken : 0 < loser_by m tape records f → (v.preempted ≡ true) × (0 < v.holder)

  pub record HoldingIn (l : List Server) (stopped : List Interrupted) (records : List Logged) : Type 0 where
    pub each : (f : ℕ) → Facility f → Tells (server_in l f) f stopped records
    pub known : Each (λ (i : Interrupted). Facility i.facility) stopped

  abbrev pub Holding : State → Type 0
  Holding s = HoldingIn s.view.servers s.interrupted s.records

  -- ---- One more record

  module _ (r : Logged) (l : List Logged) where
    -- who lived lives, unless it is the one that the record ends
    living-more : (n : ℕ) → (terminates m tape r ≡ true → r.entry.transaction ≡ n → ⊥) → is_living m tape l n ≡ true
        → is_living m tape (r ∷ l) n ≡ true
    unfolding is_living made_by
    living-more n other h =
        let p : Logged → Bool = λ r. terminates m tape r && eqb r.entry.transaction n in
        let (low, high, clear) = and-three (leb 1 n) (leb n (made_by m tape l)) (eqb (count p l) 0) h in
        rw (
          low,
          le-leb n (made_by m tape (r ∷ l)) (omega (arith, leb-true n (made_by m tape l) high)),
          eq-eqb (count p (r ∷ l)) 0
              (omega (arith, count-cons p r l, eqb-true (count p l) 0 clear, ap bit (ends (terminates m tape r) refl))),
        )
      where
        ends : (b : Bool) → terminates m tape r ≡ b → (b && eqb r.entry.transaction n) ≡ false
        ends true e = ne_eqb _ _ (other e)
        ends false e = refl

    module _ (f : ℕ) where
      -- it neither takes f nor gives it back
      record Leaves : Type 0 where
        seizes : entered m tape r ≡ true → (facts_at m tape r).server ≡ f → ⊥
        releases : (facts_at m tape r).releases ≡ f → ⊥

      tells-left : (v : Server) (stopped : List Interrupted) → Tells v f stopped l → Leaves
          → (m.rules.holders ≡ true → terminates m tape r ≡ true → r.entry.transaction ≡ v.holder → ⊥) → Tells v f stopped (r ∷ l)
      tells-left v stopped h leaves ends =
          record {
            held =
                record {
                  told = h.held.told ∙ sym (unfold holder_by in (rw (no-seize, no-release)));
                  preempted = h.held.preempted ∙ sym (unfold preempted_by in (rw (no-seize, no-release)));
                  in_use = h.held.in_use;
                  living = λ asked p. living-more v.holder (ends asked) (h.held.living asked p);
                };
            loser = h.loser ∙ sym (ap upto same);
            taken = λ p. h.taken (omega (arith, same));
          }
        where
          seize-or-not : (b : Bool) → entered m tape r ≡ b → (b && eqb (facts_at m tape r).server f) ≡ false
          seize-or-not true e = ne_eqb _ _ (leaves.seizes e)
          seize-or-not false e = refl

          no-seize : takes_it m tape r f ≡ false
          no-seize = seize-or-not (entered m tape r) refl

          no-release : eqb (facts_at m tape r).releases f ≡ false
          no-release = ne_eqb (facts_at m tape r).releases f leaves.releases

          same : loser_by m tape (r ∷ l) f ≡ loser_by m tape l f
          same = unfold loser_by in (rw (no-seize, no-release))

      -- a living one takes it, from whom holds it, if anybody does; it was x and is v
      tells-taken : (x v : Server) (old new : List Interrupted) → Tells x f old l → v.in_use ≡ 1 → v.holder ≡ r.entry.transaction
          → v.preempted ≡ eqb (facts_at m tape r).preempts f
          → entered m tape r ≡ true → (facts_at m tape r).server ≡ f → (facts_at m tape r).terminates ≡ 0
          → is_living m tape l r.entry.transaction ≡ true
          → map (λ i. i.who.number) (those (of_facility f) new) ≡ upto x.holder → (0 < x.holder → v.preempted ≡ true)
          → Tells v f new (r ∷ l)
      unfolding is_living
      tells-taken x v old new h one holder preempts enters at ends lives stopped from =
          let (low, high, clear) = and-three (leb 1 r.entry.transaction) (leb r.entry.transaction (made_by m tape l)) _ lives in
          let positive : 0 < v.holder = omega (arith, leb-true 1 r.entry.transaction low) in
          record {
            held =
                record {
                  told = holder ∙ sym (unfold holder_by in (rw takes-it));
                  preempted = preempts ∙ sym (unfold preempted_by in (rw takes-it));
                  in_use = one ∙ sym (ap bit (lt-ltb 0 v.holder positive));
                  living = λ asked p.
                      rw holder
                      (living-more r.entry.transaction (λ e z. omega (arith, ap bit e, ends-nobody (entered m tape r) _ ends)) lives);
                };
            loser = stopped ∙ ap upto (sym loser-is);
            taken = λ p. (from (omega (arith, loser-is)), positive);
          }
        where
          takes-it : takes_it m tape r f ≡ true
          takes-it = rw (enters, eq-eqb (facts_at m tape r).server f at)

          loser-is : loser_by m tape (r ∷ l) f ≡ x.holder
          loser-is = unfold loser_by in (rw takes-it) ∙ sym h.held.told

      -- it is given back: to the one from whom it was taken, or to nobody
      tells-given : (v : Server) (new : List Interrupted) → v.holder ≡ loser_by m tape l f → v.in_use ≡ bit (ltb 0 v.holder)
          → v.preempted ≡ false
          → ((facts_at m tape r).server ≡ f → ⊥) → (facts_at m tape r).releases ≡ f → (facts_at m tape r).terminates ≡ 0
          → (0 < v.holder → is_living m tape l v.holder ≡ true) → those (of_facility f) new ≡ [] → Tells v f new (r ∷ l)
      tells-given v new holder in_use seized at releases ends lives none_left =
          record {
            held =
                record {
                  told = holder ∙ sym (unfold holder_by in (rw (no-seize, gives)));
                  preempted = seized ∙ sym (unfold preempted_by in (rw (no-seize, gives)));
                  in_use = in_use;
                  living =
                      λ asked p. living-more v.holder (λ e z. omega (arith, ap bit e, ends-nobody (entered m tape r) _ ends)) (lives p);
                };
            loser = ap (map (λ (i : Interrupted). i.who.number)) none_left ∙ ap upto (sym nobody);
            taken = λ p. absurd (omega (arith, nobody));
          }
        where
          seize-or-not : (b : Bool) → (b && eqb (facts_at m tape r).server f) ≡ false
          seize-or-not true = ne_eqb _ _ at
          seize-or-not false = refl

          no-seize : takes_it m tape r f ≡ false
          no-seize = seize-or-not (entered m tape r)

          gives : eqb (facts_at m tape r).releases f ≡ true
          gives = eq-eqb (facts_at m tape r).releases f releases

          nobody : loser_by m tape (r ∷ l) f ≡ 0
          nobody = unfold loser_by in (rw (no-seize, gives))

  -- ---- Waking

  holding-check_wels : (v : ℕ) (s : State) → Holding s → Holding (check_wels v s)
  unfolding wake_first_wel
  holding-check_wels v s h = check_wels-kept Holding v (λ code s h. h) s h

  holding-wake_for : (x : Share) (s : State) → Holding s → Holding (wake_for m x s)
  unfolding wake_for wake_ql
  holding-wake_for x s h = h

  -- ---- Records of a block

  module _ (t : Transaction) (s : State) (h : Holding s) where
    abbrev φ : Facts
    φ = facts (block_at m t.next)

    -- that begin a wait
    holding-waits : φ.releases ≡ 0 → Holding (log 1 t s)
    unfolding log record_of
    holding-waits off =
        record {
          each = λ f at.
              tells-left _ s.records f _ _ (h.each f at)
              (record { seizes = λ e. absurd (omega (arith, ap bit e)); releases = λ e. omega arith })
              (λ asked e. absurd (omega (arith, ap bit e)));
          known = h.known;
        }

    holding-must_wait : (put : Transaction → State → State) → ((t : Transaction) (s : State) → Holding s → Holding (put t s))
        → φ.releases ≡ 0
        → Holding (must_wait put t s)
    unfolding must_wait
    holding-must_wait put kept off =
        cond_cases Holding t.returning _ _ (λ e. kept _ _ h) (λ e. kept _ _ (holding-waits off))

    -- at a block that takes no server, frees none and ends nobody
    holding-enters : φ.server ≡ 0 → φ.releases ≡ 0 → φ.terminates ≡ 0 → Holding (enters t s)
    unfolding enters log record_of
    holding-enters on off ends =
        record {
          each = λ f at.
              tells-left _ s.records f _ _ (h.each f at) (record { seizes = λ e z. omega arith; releases = λ e. omega arith })
              (λ asked e. absurd (omega (arith, ap bit e, ap (λ n. bit (eqb n 1)) ends)));
          known = h.known;
        }

    -- at TERMINATE or ASSEMBLE, of one who holds nothing where the rules ask for it
    holding-ends : φ.server ≡ 0 → φ.releases ≡ 0 → (m.rules.holders ≡ true → held m s.view t.number ≡ 0) → Holding (enters t s)
    unfolding enters log record_of held server_at
    holding-ends on off clear =
        record {
          each = λ f at.
              tells-left _ s.records f _ _ (h.each f at) (record { seizes = λ e z. omega arith; releases = λ e. omega arith })
              (λ asked e z. holds-none m.facilities f t.number (λ f. (server_in s.view.servers f).holder) (clear asked) at.0
              at.1 (sym z));
          known = h.known;
        }

    abbrev r₀ : Logged
    r₀ = record { entry = record_of 0 t s; priority = t.priority }

    -- a server changes, and with it who is interrupted at it; what is known of it, where it is a facility, is given
    holding_use : (v units holder : ℕ) (preempted : Bool) (stopped : List Interrupted) → 1 ≤ v → v ≤ length s.view.servers
        → ((f : ℕ) → Facility f → (f ≡ v → ⊥) → Leaves r₀ s.records f
        × (those (of_facility f) stopped ≡ those (of_facility f) s.interrupted)) → φ.terminates ≡ 0
        → (Facility v → Tells (with_use units holder preempted (server_in s.view.servers v)) v stopped (r₀ ∷ s.records))
        → Each (λ (i : Interrupted). Facility i.facility) stopped
        → HoldingIn (set_nth s.view.servers v (with_use units holder preempted (server_in s.view.servers v))) stopped (r₀ ∷ s.records)
    unfolding record_of
    holding_use v units holder preempted stopped low high others ends here known =
        record { each = λ f at. go f at (ℕ_discrete f v); known = known }
      where
        x : Server
        x = with_use units holder preempted (server_in s.view.servers v)

        else : (f : ℕ) → Facility f → those (of_facility f) stopped ≡ those (of_facility f) s.interrupted
            → Tells (server_in s.view.servers f) f stopped s.records
        else f at same =
            record {
              held = (h.each f at).held;
              loser = ap (map (λ (i : Interrupted). i.who.number)) same ∙ (h.each f at).loser;
              taken = (h.each f at).taken;
            }

        go : (f : ℕ) → Facility f → Dec (f ≡ v) → Tells (server_in (set_nth s.view.servers v x) f) f stopped (r₀ ∷ s.records)
        go f at (yes e) =
            rw e
            (rw (get_or-set_same s.view.servers (v - 1) x (idle_server 0) (omega arith)) (here (rw e at at)))
        go f at (no d) =
            let o = others f at d in
            rw (get_or-set_other s.view.servers (v - 1) (f - 1) x (idle_server 0) (λ e. d (omega arith)))
            (tells-left r₀ s.records f _ stopped (else f at o.1) o.0
            (λ asked e. absurd (omega (arith, ap bit e, ap (λ n. bit (eqb n 1)) ends))))

    -- ---- Blocks 4 to 7, 19 and 20

    module _ (shape : Shape m s) where
      abbrev server_of : ℕ → Server
      server_of v = server_in s.view.servers v

      one_unit : (v : ℕ) → Facility v → (server_of v).in_use ≤ 1
      unfolding server_at
      one_unit v at = omega (arith, server-within shape v, facility-capacity shape v at.0 at.1)

      in_list : (v : ℕ) → Facility v → v ≤ length s.view.servers
      in_list v at = omega (arith, server-length shape)

      -- a facility that nobody holds was taken from nobody
      nobody-lost : (v : ℕ) → Facility v → (server_of v).holder ≡ 0 → those (of_facility v) s.interrupted ≡ []
      nobody-lost v at free = none-numbered _ ((h.each v at).loser ∙ ap upto (lost (ltb 0 (loser_by m tape s.records v)) refl))
        where
          lost : (b : Bool) → ltb 0 (loser_by m tape s.records v) ≡ b → loser_by m tape s.records v ≡ 0
          lost true e = absurd (omega (arith, ((h.each v at).taken (ltb-true _ _ e)).1))
          lost false e = omega (arith, ltb-false 0 (loser_by m tape s.records v) e)

      idle-nobody : (v : ℕ) → Facility v → (server_of v).in_use ≡ 0 → (server_of v).holder ≡ 0
      idle-nobody v at e = go (ltb 0 (server_of v).holder) refl
        where
          go : (b : Bool) → ltb 0 (server_of v).holder ≡ b → (server_of v).holder ≡ 0
          go true q = absurd (omega (arith, (h.each v at).held.in_use, ap bit q))
          go false q = omega (arith, ltb-false 0 (server_of v).holder q)

      holding-seize : (v : ℕ) (preempts : Bool) → Facility v → leb 1 (free (server_at s.view v)) ≡ true → φ.server ≡ v → φ.releases ≡ 0
          → φ.terminates ≡ 0
          → preempts ≡ eqb φ.preempts v → is_living m tape s.records t.number ≡ true
          → Holding (set_use v ((server_at s.view v).in_use + 1) t.number preempts (enters t s))
      unfolding record_of set_use enters log server_at
      holding-seize v preempts at fit on off ends by lives =
          holding_use v _ _ preempts s.interrupted at.0 (in_list v at)
          (λ f at' d. (record { seizes = λ e z. d (sym z ∙ on); releases = λ e. omega arith }, refl)) ends
          (λ at'. tells-taken _ s.records v _ _ _ _ (h.each v at) one refl by refl on ends lives
          (ap (map (λ (i : Interrupted). i.who.number)) (nobody-lost v at nobody) ∙ ap upto (sym nobody))
          (λ p. absurd (omega (arith, nobody))))
          h.known
        where
          idle-now : (server_of v).in_use ≡ 0
          idle-now = omega (arith, leb-true 1 (free (server_of v)) fit, facility-capacity shape v at.0 at.1)

          nobody : (server_of v).holder ≡ 0
          nobody = idle-nobody v at idle-now

          one : (server_of v).in_use + 1 ≡ 1
          one = omega (arith, idle-now)

      -- RELEASE
      holding-release : (v : ℕ) → Facility v → loser_by m tape s.records v ≡ 0 → φ.server ≡ 0 → φ.releases ≡ v → φ.terminates ≡ 0
          → Holding (set_use v ((server_at s.view v).in_use - 1) 0 false (enters t s))
      unfolding record_of set_use enters log server_at
      holding-release v at nobody off on ends =
          holding_use v _ _ false s.interrupted at.0 (in_list v at)
          (λ f at' d. (record { seizes = λ e z. omega arith; releases = λ z. d (sym z ∙ on) }, refl)) ends
          (λ at'. tells-given _ s.records v _ _ (sym nobody) (omega (arith, one_unit v at)) refl (λ e. omega arith) on ends
          (λ p. absurd (omega arith)) (none-numbered _ ((h.each v at).loser ∙ ap upto nobody)))
          h.known

      -- and RETURN where nobody is interrupted
      holding-given : (v : ℕ) → Facility v → loser_by m tape s.records v ≡ 0 → φ.server ≡ 0 → φ.releases ≡ v → φ.terminates ≡ 0
          → Holding (free_units v 1 (enters t s))
      unfolding enters log server_at
      holding-given v at nobody off on ends = holding-release v at nobody off on ends

      -- a storage has no holder
      holding-storage : (v units : ℕ) (preempts : Bool) → Storage m v → ((f : ℕ) → Facility f → φ.server ≡ f → ⊥) → φ.releases ≡ 0
          → φ.terminates ≡ 0
          → Holding (set_use v units 0 preempts (enters t s))
      unfolding record_of set_use enters log server_at
      holding-storage v units preempts at on off ends =
          holding_use v units 0 preempts s.interrupted (omega arith) (omega (arith, server-length shape))
          (λ f at' d. (record { seizes = λ e z. on f at' z; releases = λ e. omega arith }, refl)) ends (λ at'. absurd (omega arith))
          h.known

      holding-takes : (x : Share) (preempts : Bool) → ProperShare m x → φ.server ≡ share_server x → φ.releases ≡ 0 → φ.terminates ≡ 0
          → preempts ≡ eqb φ.preempts (share_server x)
          → is_living m tape s.records t.number ≡ true → Holding (take_units m x preempts t s)
      unfolding take_units move_to to_ql
      holding-takes x preempts good on off ends by lives =
          cond_cases Holding (leb (share_units x) (free (server_at s.view (share_server x)))) _ _
          (λ fit. holding-check_wels (share_server x) _ (taken x good on by fit))
          (λ full. holding-must_wait (to_ql m.edition (share_server x)) (λ t s h. h) off)
        where
          taken : (x : Share) → ProperShare m x → φ.server ≡ share_server x → preempts ≡ eqb φ.preempts (share_server x)
              → leb (share_units x) (free (server_at s.view (share_server x))) ≡ true
              → Holding
              (set_use (share_server x) ((server_at s.view (share_server x)).in_use + share_units x) (share_holder x t.number) preempts
              (enters t s))
          taken (facility v) good on by fit =
              unfold share_server share_units share_holder in (holding-seize v preempts good fit on off ends by lives)
          taken (storage v b) good on by fit =
              unfold share_server share_units share_holder in (holding-storage v _ preempts good.0 (λ f at z. omega (arith, on)) off ends)

      holding-frees : (x : Share) → block_at m t.next ≡ frees x → ProperShare m x → ask_holder m x t s ≡ 0
          → Holding (free_units (share_server x) (share_units x) (enters t s))
      unfolding facts share_server share_units share_facility enters log server_at ask_holder
      holding-frees (facility v) e good asked =
          holding-release v good (lost (ltb 0 (loser_by m tape s.records v)) refl) (ap (λ b. (facts b).server) e)
          (ap (λ b. (facts b).releases) e) (ap (λ b. (facts b).terminates) e)
        where
          seized : not (server_of v).preempted ≡ true
          seized = (unless_yes (not (server_of v).preempted) 27 _ asked (λ e. omega arith)).0

          lost : (b : Bool) → ltb 0 (loser_by m tape s.records v) ≡ b → loser_by m tape s.records v ≡ 0
          lost true e = absurd (omega (arith, ap bit seized, ap (λ b. bit (not b)) ((h.each v good).taken (ltb-true _ _ e)).0))
          lost false e = omega (arith, ltb-false 0 (loser_by m tape s.records v) e)
      holding-frees (storage v b) e good asked =
          holding-storage v _ false good.0 (λ f at z. omega (arith, ap (λ b. (facts b).server) e)) (ap (λ b. (facts b).releases) e)
          (ap (λ b. (facts b).terminates) e)

      -- PREEMPT: the holder, of event e, loses the facility
      holding-interrupt : (f : ℕ) (e : Event) (l : List Event) → Facility f → losers_to t f s ≡ e ∷ l → φ.server ≡ f → φ.releases ≡ 0
          → φ.terminates ≡ 0 → φ.preempts ≡ f
          → is_living m tape s.records t.number ≡ true → Holding (set_holder f t.number true (interrupt e t f (enters t s)))
      unfolding record_of set_use enters log server_at interrupt
      holding-interrupt f e l at k on off ends by lives =
          holding_use f _ _ true _ at.0 (in_list f at)
          (λ f' at' d. (
            record { seizes = λ e z. d (sym z ∙ on); releases = λ e. omega arith },
            those-insert (of_facility f') before x s.interrupted
                (else f' d),
          )) ends
          (λ at'.
          tells-taken _ s.records f _ _ _ _ (h.each f at) one refl (sym (eq-eqb φ.preempts f by)) refl on ends lives
          (ap (map (λ (i : Interrupted). i.who.number)) (those-one (of_facility f) before x s.interrupted own none-there)
          ∙ sym (upto-one loses.number positive)) (λ p. refl))
          (each-insert (λ (i : Interrupted). Facility i.facility) before x s.interrupted at h.known)
        where
          before : Interrupted → Interrupted → Bool
          before a b = precedes a.who b.who

          x : Interrupted
          x = record { who = with_stamp (e.time - s.view.clock) e.who; facility = f; remaining = e.time - s.view.clock }

          loses : Loses t (server_of f) e
          loses = unfold server_at in (loser-loses t f s e l k)

          one : (server_of f).in_use ≡ 1
          one = omega (arith, one_unit f at, loses.in_use)

          positive : 0 < (server_of f).holder
          positive = go (ltb 0 (server_of f).holder) refl
            where
              go : (b : Bool) → ltb 0 (server_of f).holder ≡ b → 0 < (server_of f).holder
              go true q = ltb-true _ _ q
              go false q = absurd (omega (arith, (h.each f at).held.in_use, ap bit q, one))

          lost : (b : Bool) → ltb 0 (loser_by m tape s.records f) ≡ b → loser_by m tape s.records f ≡ 0
          lost true q = absurd (omega (arith, ap bit loses.seized, ap bit ((h.each f at).taken (ltb-true _ _ q)).0))
          lost false q = omega (arith, ltb-false 0 (loser_by m tape s.records f) q)

          none-there : those (of_facility f) s.interrupted ≡ []
          none-there = none-numbered _ ((h.each f at).loser ∙ ap upto (lost (ltb 0 (loser_by m tape s.records f)) refl))

          own : of_facility f x ≡ true
          own = unfold of_facility in (eq-eqb f f refl)

          else : (f' : ℕ) → (f' ≡ f → ⊥) → of_facility f' x ≡ false
          else f' d = unfold of_facility in (ne_eqb f f' (λ z. d (sym z)))

          upto-one : e.who.number ≡ (server_of f).holder → 0 < (server_of f).holder → upto (server_of f).holder ≡ e.who.number ∷ []
          upto-one same p = rw (ne_eqb (server_of f).holder 0 (λ z. omega arith), same)

      -- RETURN: i gets it back
      holding-resume : (f : ℕ) (i : Interrupted) (l : List Interrupted) → Facility f → interrupted_at s f ≡ i ∷ l → 1 ≤ (server_of f).in_use
          → φ.server ≡ 0 → φ.releases ≡ f → φ.terminates ≡ 0
          → is_living m tape s.records i.who.number ≡ true → Holding (resume i f (set_holder f i.who.number false (enters t s)))
      unfolding record_of set_use enters log server_at resume to_fel of_facility those
      holding-resume f i l at k used off on ends lives =
          holding_use f _ _ false _ at.0 (in_list f at)
          (λ f' at' d. (
            record { seizes = λ e z. omega arith; releases = λ z. d (sym z ∙ on) },
            those_else (of_facility f') (of_facility f) []
                s.interrupted (λ y q. else f' d y q) refl,
          )) ends
          (λ at'.
          tells-given _ s.records f _ _ back.0
          (one ∙ sym (ap bit (lt-ltb 0 i.who.number (omega (arith, back.0, back.2))))) refl (λ e. omega arith) on ends (λ p. lives)
          (those_replaced (of_facility f) [] s.interrupted i l k ∙ none-numbered l back.1))
          (each_replace (λ (i : Interrupted). Facility i.facility) (of_facility f) [] s.interrupted tt h.known)
        where
          back : (i.who.number ≡ loser_by m tape s.records f) × (map (λ (i : Interrupted). i.who.number) l ≡ [])
              × (0 < loser_by m tape s.records f)
          back = upto-some _ _ _ (sym (ap (map (λ (i : Interrupted). i.who.number)) k) ∙ (h.each f at).loser)

          one : (server_of f).in_use ≡ 1
          one = omega (arith, one_unit f at)

          else : (f' : ℕ) → (f' ≡ f → ⊥) → (y : Interrupted) → of_facility f y ≡ true → of_facility f' y ≡ false
          else f' d y q = ne_eqb y.facility f' (λ z. d (sym z ∙ eqb-true y.facility f q))

  -- ---- Every block

  holding-arrival : (l : List ℕ) (list p n : ℕ) (s : State) → Holding s → Holding (arrival l list p n s)
  unfolding arrival to_fel
  holding-arrival [] list p n s h = h
  holding-arrival (time ∷ l) list p n s h = h

  holding-delay : (l : List ℕ) (list : ℕ) (t : Transaction) (s : State) → Holding s → Holding (delay l list t s)
  unfolding delay to_fel
  holding-delay [] list t s h = h
  holding-delay (time ∷ l) list t s h = h

  holding-copies : (n target : ℕ) (t : Transaction) (s : State) → Holding s → Holding (copies n target t s)
  unfolding copies to_rel
  holding-copies zero target t s h = h
  holding-copies (suc n) target t s h = holding-copies n target t _ h

  -- what 28 asks
  asked-none : (holders : Bool) (n : ℕ) → unless (not holders || eqb n 0) 28 0 ≡ 0 → holders ≡ true → n ≡ 0
  asked-none holders n q e = go (eqb n 0) refl
    where
      go : (b : Bool) → eqb n 0 ≡ b → n ≡ 0
      go true z = eqb-true n 0 z
      go false z = absurd (omega (arith, sym q ∙ ap (λ b. unless (not b || eqb n 0) 28 0) e ∙ ap (λ b. unless b 28 0) z))

  module _ (t : Transaction) (s : State) (h : Holding s) (shape : Shape m s) (lives : is_living m tape s.records t.number ≡ true)
      (stopped-live : Each (λ (i : Interrupted). is_living m tape s.records i.who.number ≡ true) s.interrupted) where
    plain : {b : Block} → block_at m t.next ≡ b → (facts b).server ≡ 0 → (facts b).releases ≡ 0 → (facts b).terminates ≡ 0
        → Holding (enters t s)
    plain e on off ends =
        holding-enters t s h (ap (λ b. (facts b).server) e ∙ on) (ap (λ b. (facts b).releases) e ∙ off)
        (ap (λ b. (facts b).terminates) e ∙ ends)

    -- the question was answered while t moved
    holding-effect : (b : Block) (o : Option Transaction) → block_at m t.next ≡ b → question m b t (set_moving o s) ≡ 0 → ProperBlock m b
        → Holding (effect m b t s)
    unfolding effect facts question move_to to_rel to_wel to_wsl wake_first_wel set_content ends_one take_units to_gatherers comes released
        share_server
    holding-effect (generate list p) o e q good = holding-arrival _ list p _ _ (plain e refl refl refl)
    holding-effect (advance list) o e q good = holding-delay _ list t _ (plain e refl refl refl)
    holding-effect (terminate a) o e q good =
        holding-ends t s h (ap (λ b. (facts b).server) e) (ap (λ b. (facts b).releases) e)
        (asked-none m.rules.holders (held m s.view t.number) q)
    holding-effect (takes x) o e q good =
        holding-takes t s h shape x false good (ap (λ b. (facts b).server) e) (ap (λ b. (facts b).releases) e)
        (ap (λ b. (facts b).terminates) e)
        (sym (ap (λ b. eqb (facts b).preempts (share_server x)) e
        ∙ ne_eqb 0 (share_server x) (λ z. omega (arith, (share-server m x good).0)))) lives
    holding-effect (frees x) o e q good =
        holding-check_wels (share_server x) _ (holding-wake_for x _ (holding-frees t s h shape x e good (asked x o q)))
      where
        asked : (x : Share) (o : Option Transaction) → question m (frees x) t (set_moving o s) ≡ 0 → ask_holder m x t s ≡ 0
        asked (facility v) o q =
            unfold ask_holder in
            (unless_yes (leb (share_units (facility v)) (server_at s.view (share_server (facility v))).in_use) 24 _ q (λ e. omega arith)).1
        asked (storage v b) o q = unfold ask_holder in refl
    holding-effect (wait_server code v c) o e q good =
        wait_server-cases Holding m code v c t s
        (λ k. holding-must_wait t s h (to_wel m.edition v code) (λ t s h. h) (ap (λ b. (facts b).releases) e)) (λ k. h)
        (λ k. plain e refl refl refl)
    holding-effect (wait_terms a r b) o e q good =
        wait_terms-cases Holding m a r b t s (λ k. holding-must_wait t s h to_wsl (λ t s h. h) (ap (λ b. (facts b).releases) e))
        (λ k. plain e refl refl refl)
    holding-effect (moves c target) o e q good = plain e refl refl refl
    holding-effect (assign k a) o e q good = plain e refl refl refl
    holding-effect (priority p) o e q good = plain e refl refl refl
    holding-effect (split n target) o e q good = holding-copies n target t _ (plain e refl refl refl)
    holding-effect (counts c k) o e q good = plain e refl refl refl
    holding-effect (assemble n) o e q good =
        assemble-cases Holding m n t s (λ k. holding-waits t s h (ap (λ b. (facts b).releases) e)) (λ g l k z. ended g l k)
        (λ g l k z. ended g l k)
      where
        ended : (g : Gatherer) (l : List Gatherer) → waits_for t s ≡ g ∷ l → Holding (enters t s)
        ended g l k =
            holding-ends t s h (ap (λ b. (facts b).server) e) (ap (λ b. (facts b).releases) e)
            (asked-none m.rules.holders (held m s.view t.number) (unfold ask_gathers in (rw k at q)))
    holding-effect (preempt f) o e q good =
        let on : (facts (block_at m t.next)).server ≡ f = ap (λ b. (facts b).server) e in
        preempt-cases Holding m f t s
        (λ k.
        holding-takes t s h shape (facility f) true good on (ap (λ b. (facts b).releases) e) (ap (λ b. (facts b).terminates) e)
        (sym (ap (λ b. eqb (facts b).preempts f) e ∙ eq-eqb f f refl)) lives)
        (λ x l k.
        holding-check_wels f _
        (holding-interrupt t s h shape f x l good k on (ap (λ b. (facts b).releases) e) (ap (λ b. (facts b).terminates) e)
        (ap (λ b. (facts b).preempts) e) lives))
    holding-effect (give_back f) o e q good =
        let off : (facts (block_at m t.next)).server ≡ 0 = ap (λ b. (facts b).server) e in
        give_back-cases Holding m f t s
        (λ k.
        holding-check_wels f _
        (holding-wake_for (facility f) _
        (holding-given t s h shape f good
        (upto-none _ (sym (ap (map (λ (i : Interrupted). i.who.number)) k) ∙ (h.each f good).loser)) off (ap (λ b. (facts b).releases) e)
        (ap (λ b. (facts b).terminates) e))))
        (λ i l k.
        holding-check_wels f _
        (holding-resume t s h shape f i l good k used off (ap (λ b. (facts b).releases) e) (ap (λ b. (facts b).terminates) e)
        (rw k at (each-those (λ (i : Interrupted). is_living m tape s.records i.who.number ≡ true) (of_facility f)
        s.interrupted stopped-live)).0))
      where
        used : 1 ≤ (server_in s.view.servers f).in_use
        used =
            unfold ask_gives_back server_at in (leb-true _ _ (unless_yes (leb 1 (server_at s.view f).in_use) 24 _ q (λ e. omega arith)).0)

  -- ---- The turn

  holding-answer : (n : ℕ) (t : Transaction) (s : State) → question m (block_at m t.next) t s ≡ n → Proper m tape → Shape m s
      → is_living m tape s.records t.number ≡ true
      → Each (λ (i : Interrupted). is_living m tape s.records i.who.number ≡ true) s.interrupted
      → Holding s → Holding (answer n m (block_at m t.next) t s)
  unfolding answer
  holding-answer zero t s q proper shape lives stopped-live h =
      holding-effect t (set_moving none s) h shape lives stopped-live _ s.moving refl q (proper.block t.next)
  holding-answer (suc n) t s q proper shape lives stopped-live h = h

  holding-execute : (o : Option Transaction) (s : State) → s.moving ≡ o → Proper m tape → Sound m tape s → Holding s
      → Holding (execute o m s)
  unfolding execute
  holding-execute none s e proper sound h = h
  holding-execute (some t) s e proper sound h =
      holding-answer _ t s refl proper sound.shape (mover-lives m tape s sound t e) (interrupted_live m tape s sound) h

  holding-arrive_all : (l : List Event) (s : State) → Holding s → Holding (arrive_all l s)
  unfolding arrive_all to_rel
  holding-arrive_all [] s h = h
  holding-arrive_all (e ∷ l) s h = holding-arrive_all l _ h

  -- statistics change neither use nor holder
  holding-sampled : (ticks : ℕ) (l : List Server) (ql : List (List Transaction)) (stopped : List Interrupted) (records : List Logged)
      → HoldingIn l stopped records
      → HoldingIn (sample_servers ticks l ql) stopped records
  holding-sampled ticks l ql stopped records h =
      record {
        each = λ f at.
            let alike = sampled-alike ticks l ql (f - 1) (idle_server 0) in
            let old = h.each f at in
            record {
              held =
                  record {
                    told = alike.2 ∙ old.held.told;
                    preempted = alike.3 ∙ old.held.preempted;
                    in_use = alike.1 ∙ old.held.in_use ∙ ap (λ n. bit (ltb 0 n)) (sym alike.2);
                    living = λ asked. rw alike.2 (old.held.living asked);
                  };
              loser = old.loser;
              taken = λ p. (alike.3 ∙ (old.taken p).0, omega (arith, alike.2, (old.taken p).1));
            };
        known = h.known;
      }

  holding-next_events : (l : List Event) (s : State) → Holding s → Holding (next_events l s)
  unfolding next_events move_clock sample
  holding-next_events [] s h = h
  holding-next_events (e ∷ l) s h = holding-arrive_all _ _ (holding-sampled _ s.view.servers s.ql s.interrupted s.records h)

  holding-take_first : (l : List Transaction) (s : State) → Holding s → Holding (take_first l s)
  unfolding take_first
  holding-take_first [] s h = h
  holding-take_first (t ∷ l) s h = h

  holding-take_ready : (l : List Transaction) (s : State) → Holding s → Holding (take_ready l s)
  unfolding take_ready
  holding-take_ready [] s h = holding-take_first _ _ (holding-next_events s.fel s h)
  holding-take_ready (t ∷ l) s h = holding-take_first (t ∷ l) s h

  pub holding-taking : (o : Option Transaction) (s : State) → Holding s → Holding (taking o s)
  unfolding taking
  holding-taking none s h = holding-take_ready s.rel s h
  holding-taking (some t) s h = h

  holding-ws_scheme : (s : State) → Holding s → Holding (ws_scheme m s)
  unfolding wake_wsl
  holding-ws_scheme s h = ws_scheme-cases Holding m s (λ e. h) (λ e. h)

  pub holding-turn : Proper m tape → (s : State) → Sound m tape s → Holding s → Holding (turn m s)
  unfolding turn
  holding-turn proper s sound h =
      let taken = sound-taking m tape s sound in
      holding-ws_scheme _
      (holding-execute _ (set_turns (suc s.turns) (taking s.moving s)) refl proper
      (record { shape = taken.shape; balanced = taken.balanced; books = taken.books }) (holding-taking s.moving s h))

  -- ---- The start

  idle-held : (n : ℕ) (l : List ℕ) (k : ℕ)
      → let v = get_or (replicate n (idle_server 1) ++ map idle_server l) k (idle_server 0) in (v.in_use ≡ 0) × (v.holder ≡ 0)
      × (v.preempted ≡ false)
  unfolding idle_server
  idle-held zero [] k = (refl, refl, refl)
  idle-held zero (c ∷ l) zero = (refl, refl, refl)
  idle-held zero (c ∷ l) (suc k) = idle-held zero l k
  idle-held (suc n) l zero = (refl, refl, refl)
  idle-held (suc n) l (suc k) = idle-held n l k

  holding-idle : Holding (idle m tape)
  unfolding idle holder_by loser_by preempted_by those
  holding-idle =
      record {
        each = λ f at.
            let (none-used, nobody, seized) = idle-held m.facilities m.capacities (f - 1) in
            record {
              held =
                  record {
                    told = nobody;
                    preempted = seized;
                    in_use = none-used ∙ sym (ap (λ n. bit (ltb 0 n)) nobody);
                    living = λ asked p. absurd (omega (arith, nobody));
                  };
              loser = refl;
              taken = λ p. absurd (omega arith);
            };
        known = tt;
      }

  holding-start_at : (n : ℕ) (l : List Block) (s : State) → Holding s → Holding (start_at n l s)
  unfolding start_at
  holding-start_at n [] s h = h
  holding-start_at n (b ∷ l) s h = holding-start_at (suc n) l _ (start_of-cases Holding b n s (λ e. h) (λ e. holding-arrival _ _ _ n s h))

  pub holding-start : Holding (start m tape)
  unfolding start
  holding-start = holding-start_at 1 m.blocks _ holding-idle

  -- ---- The run

  -- what the counts and the holders need of one another
  abbrev pub Accounts : State → Type 0
  Accounts s = Sound m tape s × Holding s

  pub accounts-start : Proper m tape → Accounts (start m tape)
  accounts-start proper = (sound-start m tape proper, holding-start)

  pub accounts-turn : Proper m tape → (s : State) → Accounts s → Accounts (turn m s)
  accounts-turn proper s h = (sound-turn m tape proper s h.0, holding-turn proper s h.0 h.1)

  pub holding : (budget room : ℕ) → Proper m tape → Each Holding (states m tape budget room)
  holding budget room proper =
      each_map (λ s h. h.1) (states m tape budget room)
      (each-state m budget room Accounts (λ s t h. accounts-turn proper s h)
      (λ s e c h. (record { shape = h.0.shape; balanced = h.0.balanced; books = h.0.books }, h.1)) tape (accounts-start proper))

  -- ---- What is claimed of the interrupted ones

  -- of the invariant, what demand 3 asks for of the interrupted
  pub taken-from : (s : State) → Holding s → Each (TakenFrom m tape s) s.interrupted
  unfolding of_facility count
  taken-from s h =
      each_map
      (λ i (p : Facility i.facility × (Facility i.facility → (server_at s.view i.facility).preempted ≡ true)).
      record { facility = p.0; preempted = p.1 p.0 })
      s.interrupted
      (each-pair (λ (i : Interrupted). Facility i.facility)
      (λ i. Facility i.facility → (server_at s.view i.facility).preempted ≡ true) s.interrupted h.known
      (each_member (λ (i : Interrupted). i.facility) _ s.interrupted
      (λ i p at. unfold server_at in ((h.each i.facility at).taken (lost i at p)).0)))
    where
      number : Interrupted → ℕ
      number i = i.who.number

      lost : (i : Interrupted) → Facility i.facility
          → 0 < sum_on (λ (j : Interrupted). bit (eqb j.facility i.facility)) s.interrupted
          → 0 < loser_by m tape s.records i.facility
      lost i at p = go (eqb (loser_by m tape s.records i.facility) 0) refl
        where
          some : 0 < length (those (of_facility i.facility) s.interrupted)
          some = omega (arith, sum-count (of_facility i.facility) s.interrupted)

          positive : (loser_by m tape s.records i.facility ≡ 0 → ⊥) → 0 < loser_by m tape s.records i.facility
          positive n = omega arith

          go : (b : Bool) → eqb (loser_by m tape s.records i.facility) 0 ≡ b → 0 < loser_by m tape s.records i.facility
          go true e =
              absurd (omega (
                arith,
                some,
                length-map (those (of_facility i.facility) s.interrupted) number,
                ap (λ (k : List ℕ). length k)
                    ((h.each i.facility at).loser ∙ ap (λ b. cond b [] (loser_by m tape s.records i.facility ∷ [])) e),
              ))
          go false e = positive (eqb-false _ 0 e)
