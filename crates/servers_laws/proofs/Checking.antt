-- The check of a server's WELs after its units changed: the rows follow the machine's, and nothing but WELs and REL changes.
use Rattle.machine.specs.All.{ℕ, ◌+◌, ◌*◌, ◌-◌, ◌<◌, ◌≡◌, refl, ap, ◌∙◌, subst, Bool, true, false, cond, List, [], Option, some, arith, length, length-set, Transaction, Code, U, NU, E, NE, F, NF, status, code_index, wel_index, State, set_wel, set_rel, wake_first_wel}
use Rattle.machine.specs.Term
use Rattle.machine.specs.Moves as Moves
use Rattle.machine.specs.Execute as Execute
use Rattle.rows_laws.specs.All.{wake_first}
use Rattle.state.specs.declared.scalars.Scalars.{Scalars}
use Rattle.state.specs.All.{Listing, Tallying, Counting, Done, entering}
use Rattle.state.proofs.WakingLaws.{wake-first-wel-listing}
use Rattle.moves.specs.Motion.{with_tally, go_on_lem}
use Rattle.moves.proofs.MotionLaws.{go-on-done}
use Rattle.servers_laws.specs.{status_of, check_wel, check_first, check_last, check_wels}
use Rattle.servers_laws.proofs.Named.{status-is}
use lib.ListN.{drop}
use Rattle.machine.specs.Moves.{wel_of}

-- a state apart from its WELs and REL
abbrev rest : State → State
rest s = set_wel [] (set_rel [] s)

-- rows w show state s, which differs from s₀ in its WELs and REL
pub record Checked (k : ℕ) (o : Option Transaction) (s₀ : State) (w : List ℕ) (s : State) : Type 0 where
  pub listing : Listing w k o s
  pub room : length s.wel ≡ length s₀.wel
  pub same : set_wel [] (set_rel [] s₀) ≡ set_wel [] (set_rel [] s)

-- before the first WEL is asked
pub unchecked : {k : ℕ} {o : Option Transaction} {w : List ℕ} (s : State) → Listing w k o s → Checked k o s w s
unchecked s h = record { listing = h; room = refl; same = refl }

-- the first of a WEL is woken
pub woken-checked : {k : ℕ} {o : Option Transaction} {s₀ : State} {w : List ℕ} {s : State} (v : ℕ) (code : Code)
    → wel_index v code < 384
    → wel_index v code < length s₀.wel
    → Checked k o s₀ w s → Checked k o s₀ (wake_first w (64 + wel_index v code)) (wake_first_wel v code s)
woken-checked {k} {o} {s₀} {w} {s} v code low there h =
    record {
      listing = wake-first-wel-listing w k o s h.listing v code low (omega (arith, h.room));
      room = room;
      same = same;
    }
  where
    room : length (wake_first_wel v code s).wel ≡ length s₀.wel
    room = unfold wake_first_wel in (length-set s.wel (wel_index v code) (drop 1 (wel_of s v code)) ∙ h.room)

    same : rest s₀ ≡ rest (wake_first_wel v code s)
    same = unfold wake_first_wel in h.same

module _ (k : ℕ) (o : Option Transaction) (s₀ : State) (v units all : ℕ) (held : units ≡ (Term.server_at s₀.view v).in_use)
    (holds : all ≡ (Term.server_at s₀.view v).capacity)
    (low : (code : Code) → wel_index v code < 384) (there : (code : Code) → wel_index v code < length s₀.wel) where
  one : (w : List ℕ) (s : State) (code : Code) → Checked k o s₀ w s
      → Checked k o s₀ (check_wel w (v - 1) (code_index code) units all) (Execute.check_wel v code s)
  unfolding check_wel Execute.check_wel wel_index
  one w s code h = rw judged (go (status code (Term.server_at s.view v)))
    where
      judged : status_of (code_index code) units all ≡ status code (Term.server_at s.view v)
      judged =
          ap (λ (n : ℕ). status_of (code_index code) n all) held
          ∙ ap (λ (n : ℕ). status_of (code_index code) (Term.server_at s₀.view v).in_use n) holds
          ∙ status-is code (Term.server_at s₀.view v)
          ∙ ap (λ (x : State). status code (Term.server_at x.view v)) h.same

      go : (b : Bool) → Checked k o s₀ (cond b w (wake_first w (64 + ((v - 1) * 6 + code_index code)))) (cond b s (wake_first_wel v code s))
      go true = h
      go false = woken-checked v code (low code) (there code) h

  -- the six WELs of a server, one after the other
  pub all-checked : (w : List ℕ) (s : State) → Checked k o s₀ w s → Checked k o s₀ (check_wels w (v - 1) units all) (Execute.check_wels v s)
  unfolding check_wels check_first check_last Execute.check_wels code_index
  all-checked w s h = one _ _ NF (one _ _ F (one _ _ NE (one _ _ E (one _ _ NU (one w s U h)))))

-- it goes on after the check, which leaves what tally and scalars hold
pub checked-done : {tape_bytes tally : List ℕ} (x : Scalars) {t : Transaction} {s₀ : State} {w : List ℕ} {s : State}
    → Checked x.moving (some t) s₀ w s → Tallying tape_bytes tally s₀ → Counting x s₀
    → t.next < 4294967295
    → Done tape_bytes (with_tally (go_on_lem w x) tally) (entering (Moves.go_on_lem t s))
checked-done {tape_bytes} {tally} x {s = s} h tallying counting =
    go-on-done x s h.listing (subst (Tallying tape_bytes tally) h.same tallying) (subst (Counting x) h.same counting)
