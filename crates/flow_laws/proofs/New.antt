-- New transactions: `born` is the machine's newborn on the FEL, `copy_one` a copy of the moving transaction on REL, both with the next
-- number and a fresh serial.
use Rattle.machine.specs.All.{ℕ, suc, ◌-◌, ◌%◌, ◌≤◌, ◌<◌, ◌≡◌, refl, ap, ◌∙◌, List, Option, some, arith, lt-ltb, Transaction, Event, precedes, newborn, insert, State, with_serial, with_stamp, set_made, to_rel, to_fel, copy_of}
use Rattle.machine.proofs.Runs.Clocks.{Given}
use Rattle.rows_laws.specs.All.{rel, free, write, set_time, put, first, take_first, schedule, newborn_at, copy_at, transaction_at, event_at, update}
use Rattle.rows_laws.proofs.{Laws.fresh-given, Buffer.FieldWrites.write-serial, Buffer.FieldWrites.write-time, Life.NewTransaction.newborn-is, Life.NewTransaction.copy_is}
use Rattle.rows_laws.proofs.Life.Making.{written, time-written, newborn-written, copied-written}
use Rattle.state.specs.declared.scalars.Scalars.{Scalars}
use Rattle.state.specs.All.{put_serial, put_made, rows_of, lists_in, lists_of, Listing, Tallying, Counting, note_of, Done, entering}
use Rattle.state.proofs.{ListsOf.lists-set-rel, StandsLaws.renumber}
use Rattle.moves.specs.Motion.{Moved, moved, with_tally, next32}
use Rattle.moves.proofs.MotionLaws.{next32-suc}
use Rattle.flow_laws.specs.{to_future, to_ready, born_at, born, copy_to, copy_one}
use Rattle.flow_laws.proofs.Making.{Making, row-there, made, making-written, making-fel, making-rel}
use mathlib.Core.Path.{sym, subst}
use Rattle.machine.specs.Transaction.{earlier}
use Rattle.state.specs.Stands.{Stands}

-- what scalars and rows say of a state, with the tally apart
pub record Follows (m : Moved) (n : ℕ) (o : Option Transaction) (s : State) : Type 0 where
  pub listing : Listing m.work m.scalars.moving o s
  pub counting : Counting m.scalars s
  pub note : m.scalars.note ≡ n

-- with a tally that fits, where it entered
pub follows-done : {tape_bytes tally : List ℕ} {m : Moved} {o : Option Transaction} {s : State} → Follows m 0 o s → s.moving ≡ o
    → Tallying tape_bytes tally s
    → Done tape_bytes (with_tally m tally) (entering s)
unfolding rows_of note_of
follows-done {tape_bytes} {tally} {m} {s = s} h e tallying =
    record {
      stands =
          subst (λ (o : Option Transaction). Stands tape_bytes (with_tally m tally) o s) (sym e)
          (record { listing = h.listing; tallying = tallying; counting = h.counting });
      note = ap note_of h.note;
    }

-- one more living, and serials and numbers to come
pub record Roomy (s : State) : Type 0 where
  pub room : s.made - s.ended < 1024
  pub order : s.ended ≤ s.made
  pub serials : s.serial < 4294967295
  pub numbers : s.made < 4294967295

module _ {w : List ℕ} (x : Scalars) {o : Option Transaction} {s : State} (listing : Listing w x.moving o s)
    (counting : Counting x s) (roomy : Roomy s) where
  abbrev k : ℕ
  k = first w free

  hk : k < 1024
  hk = row-there w x.moving o s listing roomy.room

  abbrev w₀ : List ℕ
  w₀ = take_first w free

  g₀ : Making w₀ k x.moving o s
  g₀ = made w x.moving o s listing roomy.room

  number_is : next32 x.made ≡ suc s.made
  number_is = ap next32 counting.made ∙ next32-suc s.made roomy.numbers

  serial-is : next32 x.serial ≡ suc s.serial
  serial-is = ap next32 counting.serial ∙ next32-suc s.serial roomy.serials

  abbrev scalars' : Scalars
  scalars' = put_serial (suc s.serial) (put_made (suc s.made) x)

  -- ---- On the FEL

  module _ (time p block : ℕ) (small : p ≤ 127) where
    abbrev t : Transaction
    t = newborn (suc s.made) p block

    abbrev w₁ : List ℕ
    w₁ = newborn_at w₀ k (suc s.made) p block

    abbrev w₂ : List ℕ
    w₂ = write w₁ 7 k (suc s.serial)

    abbrev w₃ : List ℕ
    w₃ = set_time w₂ k time

    born-is : born w x time p block ≡ moved scalars' (schedule w₃ k)
    unfolding born born_at to_future
    born-is =
        let e : p % 128 ≡ p = omega arith in
        rw (lt-ltb (first w free) 1024 hk, number_is, serial-is, e)

    g₁ : Making w₁ k x.moving o s
    g₁ = making-written w₀ w₁ k x.moving o s (newborn-written w₀ k hk (suc s.made) p block) g₀

    g₂ : Making w₂ k x.moving o s
    g₂ = making-written w₁ w₂ k x.moving o s (written w₁ 7 k (suc s.serial) (omega arith) hk) g₁

    g₃ : Making w₃ k x.moving o s
    g₃ = making-written w₂ w₃ k x.moving o s (time-written w₂ k hk time) g₂

    abbrev event : Transaction → Event
    event u = record { time = time; who = with_stamp time u }

    event-is : event_at w₃ k ≡ event (with_serial (suc s.serial) t)
    event-is =
        write-time w₂ k g₂.shows.shown.holds.room hk time
        ∙ ap event (write-serial w₁ k g₁.shows.shown.holds.room hk (suc s.serial))
        ∙ ap (λ (u : Transaction). event (with_serial (suc s.serial) u))
        (newborn-is w₀ k g₀.shows.shown.holds.room hk (suc s.made) p block)

    serial-given : (transaction_at w₃ k).serial ≡ suc s.serial
    unfolding event_at
    serial-given = ap (λ (e : Event). e.who.serial) event-is

    abbrev later : State
    later = to_fel time t (set_made (suc s.made) s)

    on-fel : Given s → Listing (schedule w₃ k) x.moving o later
    unfolding to_fel
    on-fel given =
        making-fel w₃ k x.moving o s later g₃ (omega (arith, roomy.order))
        (fresh-given (transaction_at w₃ k) s.serial s.fel serial-given given) (λ q hq. refl)
        (ap (λ (e : Event). insert earlier e s.fel) event-is)

    pub born-follows : Given s → Follows (born w x time p block) x.note o later
    unfolding moved to_fel
    born-follows given =
        subst (λ (m : Moved). Follows m x.note o later) (sym born-is)
        (record { listing = on-fel given; counting = renumber counting refl refl counting.ended; note = refl })

-- ---- On REL

module _ {w : List ℕ} (x : Scalars) {t : Transaction} {s : State} (listing : Listing w x.moving (some t) s)
    (counting : Counting x s) (roomy : Roomy s) (target : ℕ) where
  abbrev j : ℕ
  j = first w free

  hj : j < 1024
  hj = hk x listing counting roomy

  abbrev v₀ : List ℕ
  v₀ = take_first w free

  f₀ : Making v₀ j x.moving (some t) s
  f₀ = g₀ x listing counting roomy

  abbrev v₁ : List ℕ
  v₁ = copy_at v₀ x.moving j (suc s.made) target

  abbrev v₂ : List ℕ
  v₂ = write v₁ 7 j (suc s.serial)

  abbrev y : Scalars
  y = scalars' x listing counting roomy

  copy-one-is : copy_one w x target ≡ moved y (put v₂ rel j)
  unfolding copy_one copy_to to_ready
  copy-one-is =
      rw (lt-ltb (first w free) 1024 hj, number_is x listing counting roomy, serial-is x listing counting roomy)

  f₁ : Making v₁ j x.moving (some t) s
  f₁ =
      making-written v₀ v₁ j x.moving (some t) s (copied-written v₀ j hj x.moving (suc s.made) target) f₀

  f₂ : Making v₂ j x.moving (some t) s
  f₂ = making-written v₁ v₂ j x.moving (some t) s (written v₁ 7 j (suc s.serial) (omega arith) hj) f₁

  copied : transaction_at v₂ j ≡ with_serial (suc s.serial) (copy_of t (suc s.made) target)
  copied =
      write-serial v₁ j f₁.shows.shown.holds.room hj (suc s.serial)
      ∙ ap (with_serial (suc s.serial))
      (copy_is v₀ x.moving j f₀.shows.shown.holds.room f₀.mover.0.row hj f₀.apart (suc s.made) target)
      ∙ ap (λ (u : Transaction). with_serial (suc s.serial) (copy_of u (suc s.made) target)) f₀.mover.1

  abbrev after : State
  after = to_rel (copy_of t (suc s.made) target) (set_made (suc s.made) s)

  lists : (q : ℕ) → q < 770 → update rel (insert precedes (transaction_at v₂ j) (lists_of s rel)) (lists_of s) q ≡ lists_of after q
  unfolding to_rel lists_in
  lists q hq =
      rw copied (lists-set-rel s (insert precedes (with_serial (suc s.serial) (copy_of t (suc s.made) target)) s.rel) q hq)

  on-rel : Listing (put v₂ rel j) x.moving (some t) after
  unfolding to_rel
  on-rel = making-rel v₂ j x.moving (some t) s after f₂ (omega (arith, roomy.order)) lists refl

  pub copy-follows : Follows (copy_one w x target) x.note (some t) after
  unfolding moved to_rel
  copy-follows =
      subst (λ (m : Moved). Follows m x.note (some t) after) (sym copy-one-is)
      (record { listing = on-rel; counting = renumber counting refl refl counting.ended; note = refl })
