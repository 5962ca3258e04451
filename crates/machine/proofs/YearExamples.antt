-- Document 02, item 1, by computing: clocks, clock terms and numbers at their limits, under the rules of both papers.
use Rattle.machine.specs.Basics.{ℕ, ◌≡◌, refl, List, [], ◌∷◌, map, some}
use Rattle.machine.specs.{Rules.Rules, Rules.document01, Rules.document02, Transaction.newborn, Term.clock_term, Term.evaluate, Block.advance, Block.terminate, Block.BlockModel, State.State, Setters.set_moving, Setters.set_clock, Setters.set_view, Turn.turn, Run.idle, Validate.accept, Validate.reject, Validate.validate, Bundle.everything}
use Rattle.machine.proofs.Examples.{first_model}
use Rattle.machine.specs.Trace.{taken, refusal, no_more, read_record}
use Rattle.std.specs.Prelude.{ℤ, pos, negsuc}

-- ---- End 22

-- the end after a turn of ADVANCE by 2 ticks, from a clock on
abbrev pub end_after : Rules → (clock : ℕ) → ℕ
end_after rules clock =
    let m : BlockModel =
    record { rules = rules; edition = 1; facilities = 0; capacities = []; queues = 0; values = []; lists = 1; counter = 1; blocks = advance 1 ∷ terminate 1 ∷ [] } in
    let s : State = idle m ((2 ∷ []) ∷ []) in
    (turn m (set_view (set_clock clock s.view) (set_moving (some (newborn 1 0 1)) s))).end

-- a move time of 32,000,000,000 and one more; of 2,000,000,001 under both rules
pub ends : end_after document02 31999999998 ∷ end_after document02 31999999999 ∷ end_after document02 1999999999 ∷ end_after document01 1999999999 ∷ []
    ≡ 0 ∷ 22 ∷ 0 ∷ 22 ∷ []
unfolding everything
ends = refl

-- ---- The clock term

abbrev pub clock_worth : ℕ → ℤ
clock_worth clock = evaluate [] (record { clock = clock; entries = []; queues = []; servers = [] }) [] clock_term

-- at the last clock of the old rules, at 2 to the 31, 2 to the 32 less 1 and 2 to the 32 and 5
pub clocks : clock_worth 2000000000 ∷ clock_worth 2147483648 ∷ clock_worth 4294967295 ∷ clock_worth 4294967301 ∷ []
    ≡ pos 2000000000 ∷ negsuc 2147483647 ∷ negsuc 0 ∷ pos 5 ∷ []
unfolding everything
clocks = refl

-- ---- Numbers of a tape: two lists, the second empty

abbrev pub refusal_of : Rules → (model tape : List ℕ) → ℕ
refusal_of rules model tape = elim (validate rules model tape 16384 10240) [ accept m t ↦ 0 | reject n ↦ n ]

-- one time of 10,000,000,000, one more, the largest number of five groups, and one of six
pub times : refusal_of document02 first_model (0x01 ∷ 0xA5 ∷ 0xA0 ∷ 0xAF ∷ 0xC8 ∷ 0x00 ∷ 0x00 ∷ [])
    ∷ refusal_of document02 first_model (0x01 ∷ 0xA5 ∷ 0xA0 ∷ 0xAF ∷ 0xC8 ∷ 0x01 ∷ 0x00 ∷ [])
    ∷ refusal_of document02 first_model (0x01 ∷ 0xFF ∷ 0xFF ∷ 0xFF ∷ 0xFF ∷ 0x7F ∷ 0x00 ∷ [])
    ∷ refusal_of document02 first_model (0x01 ∷ 0x81 ∷ 0x80 ∷ 0x80 ∷ 0x80 ∷ 0x80 ∷ 0x00 ∷ 0x00 ∷ [])
    ∷ []
    ≡ 0 ∷ 9 ∷ 9 ∷ 8 ∷ []
unfolding everything first_model
times = refl

-- a time of 1,000,001, which document 01 refuses: what it refused need not stay refused
pub once-refused : map (λ rules. refusal_of rules first_model (0x01 ∷ 0xBD ∷ 0x84 ∷ 0x41 ∷ 0x00 ∷ [])) (document01 ∷ document02 ∷ []) ≡ 9 ∷ 0 ∷ []
unfolding everything first_model
once-refused = refl

-- a count of 4,294,967,296 under both rules; as an edition it stays too large
pub counts : refusal_of document02 first_model (0x90 ∷ 0x80 ∷ 0x80 ∷ 0x80 ∷ 0x00 ∷ []) ∷ refusal_of document01 first_model (0x90 ∷ 0x80 ∷ 0x80 ∷ 0x80 ∷ 0x00 ∷ [])
    ∷ refusal_of document02 (0x90 ∷ 0x80 ∷ 0x80 ∷ 0x80 ∷ 0x00 ∷ []) []
    ∷ []
    ≡ 9 ∷ 8 ∷ 3 ∷ []
unfolding everything first_model
counts = refl

-- ---- Numbers of a trace

-- the clock that is read first, or the refusal
abbrev pub read_clock : Rules → List ℕ → ℕ
read_clock rules s = elim (read_record rules s 0) [ taken r after ↦ r.clock | refusal n ↦ n | no_more ↦ 0 ]

-- a clock of 32,000,000,000, one more, one of six groups; then 4,294,967,296 as a transaction, under both rules
pub traces : read_clock document02 (0xF7 ∷ 0x9A ∷ 0xE5 ∷ 0x80 ∷ 0x00 ∷ 0x01 ∷ 0x01 ∷ 0x00 ∷ [])
    ∷ read_clock document02 (0xF7 ∷ 0x9A ∷ 0xE5 ∷ 0x80 ∷ 0x01 ∷ 0x01 ∷ 0x01 ∷ 0x00 ∷ [])
    ∷ read_clock document02 (0x81 ∷ 0x80 ∷ 0x80 ∷ 0x80 ∷ 0x80 ∷ 0x00 ∷ 0x01 ∷ 0x01 ∷ 0x00 ∷ [])
    ∷ read_clock document02 (0x00 ∷ 0x90 ∷ 0x80 ∷ 0x80 ∷ 0x80 ∷ 0x00 ∷ 0x01 ∷ 0x00 ∷ [])
    ∷ read_clock document01 (0x00 ∷ 0x90 ∷ 0x80 ∷ 0x80 ∷ 0x80 ∷ 0x00 ∷ 0x01 ∷ 0x00 ∷ [])
    ∷ []
    ≡ 32000000000 ∷ 32 ∷ 31 ∷ 32 ∷ 31 ∷ []
unfolding everything
traces = refl
