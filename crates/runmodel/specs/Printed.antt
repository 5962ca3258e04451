-- The whole text that runmodel prints (document 01, the first example): "prints records, then `end` with end, clock, made, ended,
-- living, then per facility `f`, per storage `s`, per queue `q`, each with its number and its report fields, one space between; a
-- refused pair prints only `refused` and the number". Each line is `line` of its letters and numbers.
use Rattle.std.specs.Prelude.{◌∷◌, ◌++◌}
use Rattle.machine.specs.All.{ℕ, suc, List, [], map, length, take, drop, in_force, work_numbers, report_room, flat, Server, Queue, BlockModel, Record, State, run, server_numbers, queue_numbers, places, Validation, accept, reject, validate, records_of}
use Rattle.runmodel.specs.Line.{line}

-- "budget 1,000,000; trace buffer 65,536 bytes; of each file the first 65,536"
abbrev pub budget : ℕ
budget = 1000000

abbrev pub buffer_bytes : ℕ
buffer_bytes = 65536

-- ---- Letters, in ASCII

abbrev pub refused_letters : List ℕ
refused_letters = 114 ∷ 101 ∷ 102 ∷ 117 ∷ 115 ∷ 101 ∷ 100 ∷ 32 ∷ []

abbrev pub end_letters : List ℕ
end_letters = 101 ∷ 110 ∷ 100 ∷ 32 ∷ []

abbrev pub facility_letters : List ℕ
facility_letters = 102 ∷ 32 ∷ []

abbrev pub storage_letters : List ℕ
storage_letters = 115 ∷ 32 ∷ []

abbrev pub queue_letters : List ℕ
queue_letters = 113 ∷ 32 ∷ []

-- ---- Lines

unfoldable pub record_line : Record → List ℕ
record_line r = line [] (r.clock ∷ r.transaction ∷ r.block ∷ r.outcome ∷ [])

module _ (m : BlockModel) (s : State) where
  unfoldable pub end_line_lem : List ℕ
  end_line_lem = line end_letters (s.end ∷ s.view.clock ∷ s.made ∷ s.ended ∷ length (places s) ∷ [])

  -- servers of a kind, from its k-th on; v is the number of that server among all
  unfoldable pub server_lines : (letters : List ℕ) → (k v : ℕ) → List Server → List ℕ
  server_lines letters k v [] = []
  server_lines letters k v (x ∷ l) = line letters (k ∷ server_numbers m s.records v (x ∷ [])) ++ server_lines letters (suc k) (suc v) l

  unfoldable pub queue_lines : (q : ℕ) → List Queue → List ℕ
  queue_lines q [] = []
  queue_lines q (x ∷ l) = line queue_letters (q ∷ queue_numbers m s.records q (x ∷ [])) ++ queue_lines (suc q) l

  unfoldable pub run_text : List ℕ
  run_text =
      flat (map record_line (records_of s)) ++ end_line_lem
      ++ server_lines facility_letters 1 1 (take m.facilities s.view.servers)
      ++ server_lines storage_letters 1 (suc m.facilities) (drop m.facilities s.view.servers)
      ++ queue_lines 1 s.view.queues

-- ---- The text

unfoldable pub text_of : Validation → List ℕ
text_of (accept m tape) = run_text m (run m tape budget buffer_bytes)
text_of (reject n) = line refused_letters (n ∷ [])

-- of the bytes of both files
unfoldable pub printed : (model tape : List ℕ) → List ℕ
printed model tape = text_of (validate in_force (take buffer_bytes model) (take buffer_bytes tape) work_numbers report_room)
