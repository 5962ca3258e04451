-- One setter for each field of the scalars; there is no update syntax for records. Nothing here needs reading.
use Rattle.machine.specs.All.{ℕ}
use Rattle.state.specs.declared.scalars.Scalars.{Scalars}

abbrev pub put_clock : ℕ → Scalars → Scalars
put_clock n x =
    record {
      clock = n;
      counter = x.counter;
      moving = x.moving;
      serial = x.serial;
      made = x.made;
      ended = x.ended;
      turns = x.turns;
      used = x.used;
      end = x.end;
      note = x.note;
    }

abbrev pub put_counter : ℕ → Scalars → Scalars
put_counter n x =
    record {
      clock = x.clock;
      counter = n;
      moving = x.moving;
      serial = x.serial;
      made = x.made;
      ended = x.ended;
      turns = x.turns;
      used = x.used;
      end = x.end;
      note = x.note;
    }

abbrev pub put_moving : ℕ → Scalars → Scalars
put_moving n x =
    record {
      clock = x.clock;
      counter = x.counter;
      moving = n;
      serial = x.serial;
      made = x.made;
      ended = x.ended;
      turns = x.turns;
      used = x.used;
      end = x.end;
      note = x.note;
    }

abbrev pub put_serial : ℕ → Scalars → Scalars
put_serial n x =
    record {
      clock = x.clock;
      counter = x.counter;
      moving = x.moving;
      serial = n;
      made = x.made;
      ended = x.ended;
      turns = x.turns;
      used = x.used;
      end = x.end;
      note = x.note;
    }

abbrev pub put_made : ℕ → Scalars → Scalars
put_made n x =
    record {
      clock = x.clock;
      counter = x.counter;
      moving = x.moving;
      serial = x.serial;
      made = n;
      ended = x.ended;
      turns = x.turns;
      used = x.used;
      end = x.end;
      note = x.note;
    }

abbrev pub put_ended : ℕ → Scalars → Scalars
put_ended n x =
    record {
      clock = x.clock;
      counter = x.counter;
      moving = x.moving;
      serial = x.serial;
      made = x.made;
      ended = n;
      turns = x.turns;
      used = x.used;
      end = x.end;
      note = x.note;
    }

abbrev pub put_turns : ℕ → Scalars → Scalars
put_turns n x =
    record {
      clock = x.clock;
      counter = x.counter;
      moving = x.moving;
      serial = x.serial;
      made = x.made;
      ended = x.ended;
      turns = n;
      used = x.used;
      end = x.end;
      note = x.note;
    }

abbrev pub put_used : ℕ → Scalars → Scalars
put_used n x =
    record {
      clock = x.clock;
      counter = x.counter;
      moving = x.moving;
      serial = x.serial;
      made = x.made;
      ended = x.ended;
      turns = x.turns;
      used = n;
      end = x.end;
      note = x.note;
    }

abbrev pub put_end : ℕ → Scalars → Scalars
put_end n x =
    record {
      clock = x.clock;
      counter = x.counter;
      moving = x.moving;
      serial = x.serial;
      made = x.made;
      ended = x.ended;
      turns = x.turns;
      used = x.used;
      end = n;
      note = x.note;
    }

abbrev pub put_note : ℕ → Scalars → Scalars
put_note n x =
    record {
      clock = x.clock;
      counter = x.counter;
      moving = x.moving;
      serial = x.serial;
      made = x.made;
      ended = x.ended;
      turns = x.turns;
      used = x.used;
      end = x.end;
      note = n;
    }
