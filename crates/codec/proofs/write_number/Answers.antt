-- `codec::write_number` meets its contract: with room the number is stored there, without room nothing is.
use Rattle.machine.specs.All.{sym, ap₂, ◌∙◌, arith}
use Rattle.codec.specs.{written}
use Rattle.codec.proofs.Writing.{put-room, put_full}
use Rattle.codec.proofs.write_number.Goals as goal

pub returns-then-out-len : goal.returns-then-out-len
returns-then-out-len c = sym (put_full _ _ _ (omega arith))

pub returns-then-out-len-2 : goal.returns-then-out-len-2
returns-then-out-len-2 c = sym (put_full _ _ _ (omega arith))

pub returns : goal.returns
returns c =
    let len = c.number_len-len.ensures in
    ap₂ written (cc len) c.store_number.ensures
    ∙ sym (put-room _ _ _ (omega arith))
