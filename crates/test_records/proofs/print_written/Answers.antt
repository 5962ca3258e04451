-- The position after the number lies within the nine bytes.
use Rattle.std.proofs.Common.{arith, sym}
use Rattle.machine.specs.All.{length-take-le}
use Rattle.codec.proofs.Writing.{put-inside}
use Rattle.test_records.proofs.print_written.Goals as goal

pub slice_bounds-bytes-end : goal.slice_bounds-bytes-end
slice_bounds-bytes-end g c = put-inside _ _ _ _ _ (omega arith) c.write_number-len.ensures

pub slice_bounds-print_bytes-end : goal.slice_bounds-print_bytes-end
slice_bounds-print_bytes-end g c = sym (length-take-le _ _ (put-inside _ _ _ _ _ (omega arith) c.write_number-len.ensures))
