-- `join::moving::moved` meets its contract: each arm is a line of `moved_by`.
use Rattle.machine.specs.All.{arith}
use Rattle.join_laws.specs.Rows.{moved_by}
use Rattle.join.proofs.moving.moved.Goals as goal

pub returns-in-Plain : goal.returns-in-Plain
unfolding moved_by
returns-in-Plain c = rw c.in-Plain.is (omega arith)

pub returns-in-Parameter : goal.returns-in-Parameter
unfolding moved_by
returns-in-Parameter c = rw c.in-Parameter.is (omega arith)

pub returns-in-Block : goal.returns-in-Block
unfolding moved_by
returns-in-Block c = rw c.in-Block.is (omega arith)

pub returns-in-Queue : goal.returns-in-Queue
unfolding moved_by
returns-in-Queue c = rw c.in-Queue.is (omega arith)

pub returns-in-Server : goal.returns-in-Server
unfolding moved_by
returns-in-Server c = rw c.in-Server.is (omega arith)

pub returns-in-Facility : goal.returns-in-Facility
unfolding moved_by
returns-in-Facility c = rw c.in-Facility.is (omega arith)

pub returns-in-Value : goal.returns-in-Value
unfolding moved_by
returns-in-Value c = rw c.in-Value.is (omega arith)

pub returns-in-List : goal.returns-in-List
unfolding moved_by
returns-in-List c = rw c.in-List.is (omega arith)

pub returns-in-Target : goal.returns-in-Target
unfolding moved_by
returns-in-Target c = rw c.in-Target.is (omega arith)
