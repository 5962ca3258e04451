-- The limits of document 01, each by a name; where document 02, item 1, raises one, the raised one stands here and document 01's in
-- Rules. "These limits are named constants of the model": `Model` of crate constants has those of the model as associated constants, and a
-- contract equates each with the one here.
use Rattle.machine.specs.Basics.{ℕ}

-- ---- Bytes, "Model: edition (1); facilities 0..32; .." and "Tape: for each list a count .."

abbrev pub max_facilities : ℕ
max_facilities = 32

abbrev pub max_storages : ℕ
max_storages = 32

abbrev pub max_capacity : ℕ
max_capacity = 65535

abbrev pub max_queues : ℕ
max_queues = 32

abbrev pub max_values : ℕ
max_values = 8

abbrev pub max_lists : ℕ
max_lists = 16

abbrev pub max_counter : ℕ
max_counter = 65535

abbrev pub max_blocks : ℕ
max_blocks = 256

-- "beside 1,024 living transactions"
abbrev pub max_living : ℕ
max_living = 1024

abbrev pub max_samples : ℕ
max_samples = 65535

-- document 02, item 1: "sample times to 10,000,000,000"
abbrev pub max_time : ℕ
max_time = 10000000000

-- ---- Lists, "a priority 0..127, four signed 32-bit parameters"

abbrev pub max_priority : ℕ
max_priority = 127

abbrev pub parameter_count : ℕ
parameter_count = 4

-- ---- Blocks, operands of TERMINATE and SPLIT, constants and sums

abbrev pub max_terminate : ℕ
max_terminate = 65535

abbrev pub max_split : ℕ
max_split = 255

-- document 02, item 7: "back count c, 1..7"
abbrev pub max_back : ℕ
max_back = 7

-- document 02, item 8: "n, 2..255"
abbrev pub max_assemble : ℕ
max_assemble = 255

abbrev pub max_constant : ℕ
max_constant = 2147483647

abbrev pub max_terms : ℕ
max_terms = 8

-- ---- Questions, "within 64 numbers, four open brackets .. and two mentions of values"

abbrev pub max_value_numbers : ℕ
max_value_numbers = 64

abbrev pub max_brackets : ℕ
max_brackets = 4

abbrev pub max_mentions : ℕ
max_mentions = 2

-- ---- A turn, the ends before a turn

abbrev pub max_serial : ℕ
max_serial = 99997952

abbrev pub max_turns : ℕ
max_turns = 100000000

-- "Fewer than 12 bytes left in the trace": room for any record
abbrev pub record_room : ℕ
record_room = 12

-- ---- Questions, "Is the move time at most ..?" and the trace reader's ranges

-- document 02, item 1: "Clocks go up to 32,000,000,000"
abbrev pub max_clock : ℕ
max_clock = 32000000000

abbrev pub max_transaction : ℕ
max_transaction = 100000000

-- ---- Bytes, "at most 5 bytes and 4,294,967,295 (report: 9 bytes)"

abbrev pub max_number_bytes : ℕ
max_number_bytes = 5

abbrev pub max_number : ℕ
max_number = 4294967295

-- document 02, item 1: "A number in tape and trace may be any that fits five groups, to 34,359,738,367. Model numbers keep the
-- old size."
abbrev pub five_groups : ℕ
five_groups = 34359738367

abbrev pub max_report_number_bytes : ℕ
max_report_number_bytes = 9

abbrev pub max_report_number : ℕ
max_report_number = 9223372036854775807

-- ---- Questions, "Has the work buffer 16,384 32-bit numbers? The report buffer 10,240 bytes?"

abbrev pub work_numbers : ℕ
work_numbers = 16384

abbrev pub report_room : ℕ
report_room = 10240
