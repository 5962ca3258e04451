-- What was read of each file is within its buffer.
use Rattle.runmodel.proofs.main.Goals as goal

pub slice_bounds-model-end : goal.slice_bounds-model-end
slice_bounds-model-end c = (c.read_file.ensures _ c.in-Some.is).0

pub slice_bounds-tape-end : goal.slice_bounds-tape-end
slice_bounds-tape-end c = (c.read_file-2.ensures _ c.in-Some-read_file.is).0
