-- One setter for each field that changes; there is no update syntax for records. Nothing here needs reading.
use Rattle.machine.specs.Basics.{ℕ, Bool, List, Option}
use Rattle.machine.specs.Transaction.{Transaction, Event, Gatherer, Interrupted}
use Rattle.machine.specs.{Term.Server, Term.Queue, Term.View, State.State, State.Logged}
use Rattle.std.specs.Prelude.{ℤ}

-- ---- Transaction

abbrev pub with_priority : ℕ → Transaction → Transaction
with_priority x t = record { number = t.number; priority = x; parameters = t.parameters; next = t.next; serial = t.serial; returning = t.returning; stamp = t.stamp; family = t.family }

abbrev pub with_parameters : List ℤ → Transaction → Transaction
with_parameters x t = record { number = t.number; priority = t.priority; parameters = x; next = t.next; serial = t.serial; returning = t.returning; stamp = t.stamp; family = t.family }

abbrev pub with_next : ℕ → Transaction → Transaction
with_next x t = record { number = t.number; priority = t.priority; parameters = t.parameters; next = x; serial = t.serial; returning = t.returning; stamp = t.stamp; family = t.family }

abbrev pub with_serial : ℕ → Transaction → Transaction
with_serial x t = record { number = t.number; priority = t.priority; parameters = t.parameters; next = t.next; serial = x; returning = t.returning; stamp = t.stamp; family = t.family }

abbrev pub with_returning : Bool → Transaction → Transaction
with_returning x t = record { number = t.number; priority = t.priority; parameters = t.parameters; next = t.next; serial = t.serial; returning = x; stamp = t.stamp; family = t.family }

abbrev pub with_stamp : ℕ → Transaction → Transaction
with_stamp x t = record { number = t.number; priority = t.priority; parameters = t.parameters; next = t.next; serial = t.serial; returning = t.returning; stamp = x; family = t.family }

-- ---- Server

abbrev pub with_use : (units holder : ℕ) (preempted : Bool) → Server → Server
with_use x y z v = record { capacity = v.capacity; in_use = x; holder = y; preempted = z; unit_ticks = v.unit_ticks; wait_ticks = v.wait_ticks; longest = v.longest }

-- ---- Queue

abbrev pub with_content : ℕ → Queue → Queue
with_content x q = record { content = x; content_ticks = q.content_ticks; longest = q.longest }

-- ---- View

abbrev pub set_clock : ℕ → View → View
set_clock x w = record { clock = x; entries = w.entries; queues = w.queues; servers = w.servers }

abbrev pub set_entries : List ℕ → View → View
set_entries x w = record { clock = w.clock; entries = x; queues = w.queues; servers = w.servers }

abbrev pub set_queues : List Queue → View → View
set_queues x w = record { clock = w.clock; entries = w.entries; queues = x; servers = w.servers }

abbrev pub set_servers : List Server → View → View
set_servers x w = record { clock = w.clock; entries = w.entries; queues = w.queues; servers = x }

-- ---- State

abbrev pub set_view : View → State → State
set_view x s =
    record {
      view = x;
      counter = s.counter;
      samples = s.samples;
      ql = s.ql;
      wel = s.wel;
      wsl = s.wsl;
      rel = s.rel;
      fel = s.fel;
      gatherers = s.gatherers;
      interrupted = s.interrupted;
      moving = s.moving;
      serial = s.serial;
      made = s.made;
      ended = s.ended;
      turns = s.turns;
      records = s.records;
      written = s.written;
      end = s.end;
    }

abbrev pub set_counter : ℕ → State → State
set_counter x s =
    record {
      view = s.view;
      counter = x;
      samples = s.samples;
      ql = s.ql;
      wel = s.wel;
      wsl = s.wsl;
      rel = s.rel;
      fel = s.fel;
      gatherers = s.gatherers;
      interrupted = s.interrupted;
      moving = s.moving;
      serial = s.serial;
      made = s.made;
      ended = s.ended;
      turns = s.turns;
      records = s.records;
      written = s.written;
      end = s.end;
    }

abbrev pub set_samples : List (List ℕ) → State → State
set_samples x s =
    record {
      view = s.view;
      counter = s.counter;
      samples = x;
      ql = s.ql;
      wel = s.wel;
      wsl = s.wsl;
      rel = s.rel;
      fel = s.fel;
      gatherers = s.gatherers;
      interrupted = s.interrupted;
      moving = s.moving;
      serial = s.serial;
      made = s.made;
      ended = s.ended;
      turns = s.turns;
      records = s.records;
      written = s.written;
      end = s.end;
    }

abbrev pub set_ql : List (List Transaction) → State → State
set_ql x s =
    record {
      view = s.view;
      counter = s.counter;
      samples = s.samples;
      ql = x;
      wel = s.wel;
      wsl = s.wsl;
      rel = s.rel;
      fel = s.fel;
      gatherers = s.gatherers;
      interrupted = s.interrupted;
      moving = s.moving;
      serial = s.serial;
      made = s.made;
      ended = s.ended;
      turns = s.turns;
      records = s.records;
      written = s.written;
      end = s.end;
    }

abbrev pub set_wel : List (List Transaction) → State → State
set_wel x s =
    record {
      view = s.view;
      counter = s.counter;
      samples = s.samples;
      ql = s.ql;
      wel = x;
      wsl = s.wsl;
      rel = s.rel;
      fel = s.fel;
      gatherers = s.gatherers;
      interrupted = s.interrupted;
      moving = s.moving;
      serial = s.serial;
      made = s.made;
      ended = s.ended;
      turns = s.turns;
      records = s.records;
      written = s.written;
      end = s.end;
    }

abbrev pub set_wsl : List Transaction → State → State
set_wsl x s =
    record {
      view = s.view;
      counter = s.counter;
      samples = s.samples;
      ql = s.ql;
      wel = s.wel;
      wsl = x;
      rel = s.rel;
      fel = s.fel;
      gatherers = s.gatherers;
      interrupted = s.interrupted;
      moving = s.moving;
      serial = s.serial;
      made = s.made;
      ended = s.ended;
      turns = s.turns;
      records = s.records;
      written = s.written;
      end = s.end;
    }

abbrev pub set_rel : List Transaction → State → State
set_rel x s =
    record {
      view = s.view;
      counter = s.counter;
      samples = s.samples;
      ql = s.ql;
      wel = s.wel;
      wsl = s.wsl;
      rel = x;
      fel = s.fel;
      gatherers = s.gatherers;
      interrupted = s.interrupted;
      moving = s.moving;
      serial = s.serial;
      made = s.made;
      ended = s.ended;
      turns = s.turns;
      records = s.records;
      written = s.written;
      end = s.end;
    }

abbrev pub set_fel : List Event → State → State
set_fel x s =
    record {
      view = s.view;
      counter = s.counter;
      samples = s.samples;
      ql = s.ql;
      wel = s.wel;
      wsl = s.wsl;
      rel = s.rel;
      fel = x;
      gatherers = s.gatherers;
      interrupted = s.interrupted;
      moving = s.moving;
      serial = s.serial;
      made = s.made;
      ended = s.ended;
      turns = s.turns;
      records = s.records;
      written = s.written;
      end = s.end;
    }

abbrev pub set_gatherers : List (List Gatherer) → State → State
set_gatherers x s =
    record {
      view = s.view;
      counter = s.counter;
      samples = s.samples;
      ql = s.ql;
      wel = s.wel;
      wsl = s.wsl;
      rel = s.rel;
      fel = s.fel;
      gatherers = x;
      interrupted = s.interrupted;
      moving = s.moving;
      serial = s.serial;
      made = s.made;
      ended = s.ended;
      turns = s.turns;
      records = s.records;
      written = s.written;
      end = s.end;
    }

abbrev pub set_interrupted : List Interrupted → State → State
set_interrupted x s =
    record {
      view = s.view;
      counter = s.counter;
      samples = s.samples;
      ql = s.ql;
      wel = s.wel;
      wsl = s.wsl;
      rel = s.rel;
      fel = s.fel;
      gatherers = s.gatherers;
      interrupted = x;
      moving = s.moving;
      serial = s.serial;
      made = s.made;
      ended = s.ended;
      turns = s.turns;
      records = s.records;
      written = s.written;
      end = s.end;
    }

abbrev pub set_moving : Option Transaction → State → State
set_moving x s =
    record {
      view = s.view;
      counter = s.counter;
      samples = s.samples;
      ql = s.ql;
      wel = s.wel;
      wsl = s.wsl;
      rel = s.rel;
      fel = s.fel;
      gatherers = s.gatherers;
      interrupted = s.interrupted;
      moving = x;
      serial = s.serial;
      made = s.made;
      ended = s.ended;
      turns = s.turns;
      records = s.records;
      written = s.written;
      end = s.end;
    }

abbrev pub set_serial : ℕ → State → State
set_serial x s =
    record {
      view = s.view;
      counter = s.counter;
      samples = s.samples;
      ql = s.ql;
      wel = s.wel;
      wsl = s.wsl;
      rel = s.rel;
      fel = s.fel;
      gatherers = s.gatherers;
      interrupted = s.interrupted;
      moving = s.moving;
      serial = x;
      made = s.made;
      ended = s.ended;
      turns = s.turns;
      records = s.records;
      written = s.written;
      end = s.end;
    }

abbrev pub set_made : ℕ → State → State
set_made x s =
    record {
      view = s.view;
      counter = s.counter;
      samples = s.samples;
      ql = s.ql;
      wel = s.wel;
      wsl = s.wsl;
      rel = s.rel;
      fel = s.fel;
      gatherers = s.gatherers;
      interrupted = s.interrupted;
      moving = s.moving;
      serial = s.serial;
      made = x;
      ended = s.ended;
      turns = s.turns;
      records = s.records;
      written = s.written;
      end = s.end;
    }

abbrev pub set_ended : ℕ → State → State
set_ended x s =
    record {
      view = s.view;
      counter = s.counter;
      samples = s.samples;
      ql = s.ql;
      wel = s.wel;
      wsl = s.wsl;
      rel = s.rel;
      fel = s.fel;
      gatherers = s.gatherers;
      interrupted = s.interrupted;
      moving = s.moving;
      serial = s.serial;
      made = s.made;
      ended = x;
      turns = s.turns;
      records = s.records;
      written = s.written;
      end = s.end;
    }

abbrev pub set_turns : ℕ → State → State
set_turns x s =
    record {
      view = s.view;
      counter = s.counter;
      samples = s.samples;
      ql = s.ql;
      wel = s.wel;
      wsl = s.wsl;
      rel = s.rel;
      fel = s.fel;
      gatherers = s.gatherers;
      interrupted = s.interrupted;
      moving = s.moving;
      serial = s.serial;
      made = s.made;
      ended = s.ended;
      turns = x;
      records = s.records;
      written = s.written;
      end = s.end;
    }

abbrev pub set_records : List Logged → State → State
set_records x s =
    record {
      view = s.view;
      counter = s.counter;
      samples = s.samples;
      ql = s.ql;
      wel = s.wel;
      wsl = s.wsl;
      rel = s.rel;
      fel = s.fel;
      gatherers = s.gatherers;
      interrupted = s.interrupted;
      moving = s.moving;
      serial = s.serial;
      made = s.made;
      ended = s.ended;
      turns = s.turns;
      records = x;
      written = s.written;
      end = s.end;
    }

abbrev pub set_written : ℕ → State → State
set_written x s =
    record {
      view = s.view;
      counter = s.counter;
      samples = s.samples;
      ql = s.ql;
      wel = s.wel;
      wsl = s.wsl;
      rel = s.rel;
      fel = s.fel;
      gatherers = s.gatherers;
      interrupted = s.interrupted;
      moving = s.moving;
      serial = s.serial;
      made = s.made;
      ended = s.ended;
      turns = s.turns;
      records = s.records;
      written = x;
      end = s.end;
    }

abbrev pub set_end : ℕ → State → State
set_end x s =
    record {
      view = s.view;
      counter = s.counter;
      samples = s.samples;
      ql = s.ql;
      wel = s.wel;
      wsl = s.wsl;
      rel = s.rel;
      fel = s.fel;
      gatherers = s.gatherers;
      interrupted = s.interrupted;
      moving = s.moving;
      serial = s.serial;
      made = s.made;
      ended = s.ended;
      turns = s.turns;
      records = s.records;
      written = s.written;
      end = x;
    }
