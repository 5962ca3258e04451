-- The work buffer: 14 fields of 1,024 rows, one row for each living transaction, field f of row k at f * 1032 + k; behind them
-- heads and tails of lists. 8 numbers stay unused behind each field: fields that lie 4,096 bytes apart would share a place
-- in the processor's cache. Numbers past the 16,384th are never touched.
--
-- | field | holds                               | field | holds                              |
-- |-------|-------------------------------------|-------|------------------------------------|
-- | 0     | number                              | 9     | move time or stamp, high half      |
-- | 1     | priority * 2 + returning            | 10    | family                             |
-- | 2..5  | parameters 1..4, the bits of an i32 | 11    | slots of the FEL, which hold rows  |
-- | 6     | next block, of a gatherer its count | 12    | place: its list, 1024 on none      |
-- | 7     | serial                              | 13    | link: the row after it on its list, |
-- |       |                                     |       | on the FEL its slot                |
-- | 8     | move time or stamp, low half        |       | heads of lists 0..771, then hints  |
-- |       | (remaining ticks if interrupted)    |       | tails of lists 0..771, then rows of holders |
--
-- A cell is a number of the buffer that holds a row: a head or a link. 1024, and any number above it, is no row. The tail of a
-- list is its last cell: the head itself where the list is empty. The FEL is no chain of cells but a heap of slots: its head holds the
-- first row, or none, and its tail how many there are. | list | number | |-------------|---------------------------------------------| | QL
-- | server - 1: 0..63 | | WEL | 64 + (server - 1) * 6 + (code - 1): 64..447 | | WSL | 448 | | REL | 449 | | gatherers | 450 + (block - 1):
-- 450..705 | | interrupted | 706 + (facility - 1): 706..769, at most one | | FEL | 770 | | free | 771: the rows that are not living | |
-- others | there are none: behind the heads stand 252 hints (Lists), behind the tails 64 rows of holders (Future) |
use Rattle.std.specs.Prelude.{Option, MatchOption, ◌≡◌, ◌<◌, ◌+◌, ◌*◌, ◌-◌, ◌%◌, ◌≤◌}
use Rattle.machine.specs.All.{ℕ, List, length, work_numbers, Code, wel_index}

-- ---- Sizes

-- rows; a number that is not below it is no row
abbrev pub row_count : ℕ
row_count = 1024

abbrev pub field_count : ℕ
field_count = 14

-- from a field to the next
abbrev pub field_width : ℕ
field_width = 1032

-- fields 0..10 are the data of a row
abbrev pub data_fields : ℕ
data_fields = 11

abbrev pub list_count : ℕ
list_count = 772

-- from here on, priority * 2 + returning does not fit 32 bits; nor do the serials of one more clock move
abbrev pub priority_end : ℕ
priority_end = 2147483648

abbrev pub serial_end : ℕ
serial_end = 4000000000

-- what the lowest bit of the high half of a move time is worth
abbrev pub word_end : ℕ
word_end = 4294967296

-- the row that a number of a cell is, if it is one
abbrev pub IsRow : ℕ → Option ℕ → Type 0
IsRow n found = MatchOption found (row_count ≤ n) (λ k. (n ≡ k) × (k < row_count))

-- a buffer that has room for the layout
abbrev pub Room : List ℕ → Type 0
Room w = work_numbers ≤ length w

-- ---- Fields

abbrev pub number_field : ℕ
number_field = 0

abbrev pub standing_field : ℕ
standing_field = 1

-- of parameter 1; the others follow
abbrev pub parameter_field : ℕ
parameter_field = 2

abbrev pub next_field : ℕ
next_field = 6

abbrev pub serial_field : ℕ
serial_field = 7

-- the move time, its low 32 bits and the rest
abbrev pub time_field : ℕ
time_field = 8

abbrev pub time_high_field : ℕ
time_high_field = 9

-- the number of who founded its family
abbrev pub family_field : ℕ
family_field = 10

abbrev pub field_at : ℕ → ℕ → ℕ
field_at f k = f * field_width + k

-- where slot 0, the place and the link of row 0, the head and the tail of list 0 stand
abbrev pub slots : ℕ
slots = 11352

abbrev pub places : ℕ
places = 12384

abbrev pub links : ℕ
links = 13416

abbrev pub heads : ℕ
heads = 14448

abbrev pub tails : ℕ
tails = 15472

-- where the hints stand, four for each of 63 lists or more that share them
abbrev pub hints : ℕ
hints = 15220

-- where the rows of holders stand, one for each server
abbrev pub holders : ℕ
holders = 16244

abbrev pub slot : ℕ → ℕ
slot i = slots + i

abbrev pub place : ℕ → ℕ
place k = places + k

abbrev pub link : ℕ → ℕ
link k = links + k

abbrev pub head : ℕ → ℕ
head p = heads + p

abbrev pub tail : ℕ → ℕ
tail p = tails + p

-- of server v, counted from 0
abbrev pub holder_cell : ℕ → ℕ
holder_cell v = holders + v

-- by list and priority
abbrev pub hint : ℕ → ℕ → ℕ
hint p priority = hints + (p % 63 * 4 + priority % 4)

-- ---- Lists

abbrev pub ql_list : ℕ → ℕ
ql_list v = v - 1

abbrev pub wels : ℕ
wels = 64

abbrev pub wel_list : ℕ → Code → ℕ
wel_list v code = wels + wel_index v code

abbrev pub wsl : ℕ
wsl = 448

abbrev pub rel : ℕ
rel = 449

-- where the lists of gatherers begin, one for each block
abbrev pub gatherers : ℕ
gatherers = 450

abbrev pub gatherer_list : (block : ℕ) → ℕ
gatherer_list b = gatherers + (b - 1)

-- where the lists of interrupted ones begin, one for each server: which facility was taken from a row is told by its list
abbrev pub interrupted : ℕ
interrupted = 706

abbrev pub interrupted_list : (f : ℕ) → ℕ
interrupted_list f = interrupted + (f - 1)

abbrev pub fel : ℕ
fel = 770

abbrev pub free : ℕ
free = 771

-- the place of a row that is on no list, as the moving one
abbrev pub nowhere : ℕ
nowhere = 1024
