-- Lists, "A transaction has a number (from 1, in order of making), a priority 0..127, four signed 32-bit parameters (0 at
-- first), a next block, a serial and a returning mark." The machine's lists hold transactions; none carries its place.
use Rattle.machine.specs.Basics.{ℕ, Bool, false, List, ltb, eqb, replicate}
use Rattle.std.specs.Prelude.{ℤ, pos, ◌&&◌, ◌||◌}
use Rattle.machine.specs.Limits.{parameter_count}

pub record Transaction : Type 0 where
  pub number : ℕ
  pub priority : ℕ
  pub parameters : List ℤ
  pub next : ℕ
  pub serial : ℕ
  pub returning : Bool
  -- Document 02, item 7: the clock at which it "last entered the group's first block". One stamp suffices: groups share no block and are
  -- entered at their first block alone, so whoever stands inside a group entered no other group's first block since. Nobody is delayed
  -- inside one: on the FEL the move time takes its place, and for an interrupted one its remaining ticks.
  pub stamp : ℕ
  -- Document 02, item 8: the number of the one that founded its family
  pub family : ℕ

-- a new one at a block, which founds a family; its serial is given where it is put on a list
unfoldable pub newborn : ℕ → ℕ → ℕ → Transaction
newborn number priority block =
    record {
      number = number;
      priority = priority;
      parameters = replicate parameter_count (pos 0);
      next = block;
      serial = 0;
      returning = false;
      stamp = 0;
      family = number;
    }

-- "All of these are sorted by priority, high first, then serial, low first."
unfoldable pub precedes : Transaction → Transaction → Bool
precedes a b = ltb b.priority a.priority || (eqb a.priority b.priority && ltb a.serial b.serial)

-- A later event of the FEL: its move time and who moves.
pub record Event : Type 0 where
  pub time : ℕ
  pub who : Transaction

-- "FEL: later events, sorted by move time, then priority, then serial."
unfoldable pub earlier : Event → Event → Bool
earlier a b = ltb a.time b.time || (eqb a.time b.time && precedes a.who b.who)

-- Document 02, item 8: the first of a family at an ASSEMBLE, which waits there, and how many of the family have come, itself among them.
pub record Gatherer : Type 0 where
  pub who : Transaction
  pub come : ℕ

-- Document 02, item 11: an interrupted one, the facility that was taken from it, and "its remaining ticks".
pub record Interrupted : Type 0 where
  pub who : Transaction
  pub facility : ℕ
  pub remaining : ℕ
