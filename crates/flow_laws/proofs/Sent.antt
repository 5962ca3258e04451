-- The moving transaction goes to the FEL or to REL with its next block plus one and a fresh serial, as the machine's does.
use Rattle.machine.specs.All.{ℕ, suc, ◌*◌, ◌%◌, ◌≤◌, ◌<◌, ◌≡◌, refl, sym, ap, ◌∙◌, subst, List, none, some, false, arith, Transaction, Event, State, with_next, with_priority, with_serial, with_returning, with_stamp, to_rel, to_fel}
use Rattle.machine.proofs.Runs.Clocks.{Given}
use Rattle.rows_laws.specs.All.{rel, write, set_time, put, schedule, event_at}
use Rattle.rows_laws.proofs.{Laws.fresh-given, Buffer.FieldWrites.write-serial, Buffer.FieldWrites.write-time, Life.NewTransaction.write-priority}
use Rattle.state.specs.declared.scalars.Scalars.{Scalars}
use Rattle.state.specs.All.{put_moving, put_serial, lists_in, Listing, Counting}
use Rattle.state.proofs.ListsOf.{lists-set-rel}
use Rattle.state.proofs.StandsLaws.{listing-write, listing-time, listing-put, listing-schedule, renumber}
use Rattle.moves.specs.Motion.{Moved, moved, next32, go_to}
use Rattle.moves.proofs.MotionLaws.{next32-suc, go-to-listing, go-on-is}
use Rattle.flow_laws.specs.{to_future, to_ready, parked, send_on, rank_on}
use Rattle.flow_laws.proofs.New.{Follows}
use Rattle.machine.specs.Transaction.{precedes, earlier}
use Rattle.machine.specs.Lists.{insert}

module _ {w : List ℕ} (x : Scalars) {t : Transaction} (s : State) (listing : Listing w x.moving (some t) s)
    (counting : Counting x s) (next_low : t.next < 4294967295) (serials : s.serial < 4294967295) where
  abbrev k : ℕ
  k = x.moving

  hk : k < 1024
  hk = listing.mover.0.row

  abbrev n : ℕ
  n = suc s.serial

  serial-is : next32 x.serial ≡ n
  serial-is = ap next32 counting.serial ∙ next32-suc s.serial serials

  abbrev t' : Transaction
  t' = with_returning false (with_next (suc t.next) t)

  abbrev w₁ : List ℕ
  w₁ = (go_to w x (suc t.next)).work

  g₁ : Listing w₁ k (some t') s
  unfolding go_to moved
  g₁ = go-to-listing x listing (suc t.next)

  abbrev scalars' : Scalars
  scalars' = put_moving 1024 (put_serial n (go_to w x (suc t.next)).scalars)

  -- ---- To the FEL

  module _ (time : ℕ) where
    abbrev w₂ : List ℕ
    w₂ = write w₁ 7 k n

    abbrev w₃ : List ℕ
    w₃ = set_time w₂ k time

    send-is : send_on w x time ≡ moved scalars' (schedule w₃ k)
    unfolding send_on parked to_future go_to moved
    send-is = rw (go-on-is x listing next_low, serial-is)

    g₂ : Listing w₂ k (some (with_serial n t')) s
    g₂ =
        listing-write g₁ 7 n (omega arith)
        (write-serial w₁ k g₁.shows.shown.holds.room hk n ∙ ap (with_serial n) g₁.mover.1)

    abbrev event : Transaction → Event
    event u = record { time = time; who = with_stamp time u }

    event-is : event_at w₃ k ≡ event (with_serial n t')
    event-is = write-time w₂ k g₂.shows.shown.holds.room hk time ∙ ap event g₂.mover.1

    g₃ : Listing w₃ k (some (with_stamp time (with_serial n t'))) s
    g₃ = listing-time g₂ time

    pub send-follows : Given s → Follows (send_on w x time) 0 none (to_fel time t' s)
    unfolding go_to moved to_fel
    send-follows given =
        subst (λ (m : Moved). Follows m 0 none (to_fel time t' s)) (sym send-is)
        (record {
          listing =
              listing-schedule g₃ (fresh-given (with_stamp time (with_serial n t')) s.serial s.fel refl given)
              (ap (λ (e : Event). insert earlier e s.fel) event-is);
          counting = renumber counting refl counting.made counting.ended;
          note = refl;
        })

  -- ---- To REL with a priority

  module _ (p : ℕ) (small : p ≤ 127) where
    abbrev u : Transaction
    u = with_priority p t'

    abbrev v₂ : List ℕ
    v₂ = write w₁ 1 k (p * 2)

    abbrev v₃ : List ℕ
    v₃ = write v₂ 7 k n

    rank_is : rank_on w x p ≡ moved scalars' (put v₃ rel k)
    unfolding rank_on parked to_ready go_to moved
    rank_is =
        let e : p % 128 ≡ p = omega arith in
        rw (go-on-is x listing next_low, serial-is, e)

    h₂ : Listing v₂ k (some u) s
    h₂ =
        listing-write g₁ 1 (p * 2) (omega arith)
        (write-priority w₁ k g₁.shows.shown.holds.room hk p
        ∙ ap (λ (y : Transaction). with_returning false (with_priority p y)) g₁.mover.1)

    h₃ : Listing v₃ k (some (with_serial n u)) s
    h₃ =
        listing-write h₂ 7 n (omega arith)
        (write-serial v₂ k h₂.shows.shown.holds.room hk n ∙ ap (with_serial n) h₂.mover.1)

    pub rank-follows : Follows (rank_on w x p) 0 none (to_rel u s)
    unfolding go_to moved to_rel lists_in
    rank-follows =
        subst (λ (m : Moved). Follows m 0 none (to_rel u s)) (sym rank_is)
        (record {
          listing =
              listing-put h₃ rel (omega arith) (omega arith) (λ q hq. lists-set-rel s (insert precedes (with_serial n u) s.rel) q hq);
          counting = renumber counting refl counting.made counting.ended;
          note = refl;
        })
