-- Where things stand in the two arrays of a run, by index. `tables`, filled once by decoding: the program, the values, the
-- capacities and the edition. `tally`, the 64-bit numbers that change: entries, units, contents, sums, and where each sample list goes on.
use Rattle.std.specs.Prelude.{◌≤◌}
use Rattle.machine.specs.All.{ℕ, List, length}

-- ---- sizes

-- facilities, then storages
abbrev pub server_count : ℕ
server_count = 64

-- the codes of a server's status
abbrev pub code_count : ℕ
code_count = 6

-- the largest numbers of 32 and of 64 bits, and the first that does not fit 32 bits
abbrev pub most32 : ℕ
most32 = 4294967295

abbrev pub most64 : ℕ
most64 = 18446744073709551615

abbrev pub word_end : ℕ
word_end = 4294967296

-- ---- tables

-- block b (from 0) at program + 8 * b
abbrev pub block_width : ℕ
block_width = 8

-- the program is 256 blocks
abbrev pub program_size : ℕ
program_size = 2048

-- value k (from 0) at values + 64 * k
abbrev pub values : ℕ
values = 2048

abbrev pub value_width : ℕ
value_width = 64

-- the capacity of server v (from 0; the facilities first) at capacities + v, for 64 servers
abbrev pub capacities : ℕ
capacities = 2560

-- the model's edition
abbrev pub edition : ℕ
edition = 2624

-- block b (from 0) at asked + b: 0 where no WAITIF on a comparison reads what the block changes
abbrev pub asked : ℕ
asked = 2625

-- 0 where none reads the clock
abbrev pub clock_asked : ℕ
clock_asked = 2881

-- value k (from 0) at names_own + k: 0 where it names no parameter, through lower values either
abbrev pub names_own : ℕ
names_own = 2882

abbrev pub tables_size : ℕ
tables_size = 2890

-- the tables are whole; they have the program
abbrev pub Tables : List ℕ → Type 0
Tables tables = tables_size ≤ length tables

abbrev pub Program : List ℕ → Type 0
Program tables = program_size ≤ length tables

-- ---- tally

-- entries of a block, 256 of them
abbrev pub entries : ℕ
entries = 0

-- waits begun at a block, 256 of them
abbrev pub waits : ℕ
waits = 256

-- per server, 64 of them: units in use, ticks of units in use, ticks waited, longest QL and length of the QL
abbrev pub in_use : ℕ
in_use = 512

abbrev pub unit_ticks : ℕ
unit_ticks = 576

abbrev pub wait_ticks : ℕ
wait_ticks = 640

abbrev pub longest_ql : ℕ
longest_ql = 704

abbrev pub ql_length : ℕ
ql_length = 768

-- per queue, 32 of them: content, content ticks and longest content
abbrev pub content : ℕ
content = 832

abbrev pub content_ticks : ℕ
content_ticks = 864

abbrev pub longest_content : ℕ
longest_content = 896

-- per sample list, 16 of them: where its next time stands in the tape, and how many times are left
abbrev pub list_at_lem : ℕ
list_at_lem = 928

abbrev pub list_left : ℕ
list_left = 944

-- per server: the number of its holder, 0 for none
abbrev pub holder : ℕ
holder = 960

-- per server: 1 where it holds it by PREEMPT (document 02, item 11), else 0
abbrev pub preempted : ℕ
preempted = 1024

-- per residue of a transaction's number: how many facilities are held by such a number
abbrev pub residues : ℕ
residues = 256

abbrev pub held : ℕ
held = 1088

-- per server, and behind the 64 servers per queue: the clock when its statistics were last brought up to date, and how many clock
-- moves there had been
abbrev pub measured_count : ℕ
measured_count = 96

abbrev pub seen_clock : ℕ
seen_clock = 1344

abbrev pub seen_moves : ℕ
seen_moves = 1440

-- how many clock moves there have been
abbrev pub clock_moves : ℕ
clock_moves = 1536

abbrev pub tally_size : ℕ
tally_size = 1537

-- ---- what decoding leaves of the tape: list k (from 0) begins at cell k, and cell 16 + k is its count

abbrev pub list_counts : ℕ
list_counts = 16

abbrev pub list_cells : ℕ
list_cells = 32
