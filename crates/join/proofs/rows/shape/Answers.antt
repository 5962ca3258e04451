-- `join::rows::shape` meets its contract: each arm is a line of `shape_of`.
use Rattle.join_laws.specs.Rows.{shape_of}
use Rattle.join.proofs.rows.shape.Goals as goal

pub returns-in-Generate-clause-digits : goal.returns-in-Generate-clause-digits
unfolding shape_of
returns-in-Generate-clause-digits c = rw c.in-Generate.is

pub returns-in-Advance-clause-digits : goal.returns-in-Advance-clause-digits
unfolding shape_of
returns-in-Advance-clause-digits c = rw c.in-Advance.is

pub returns-in-Terminate-clause-digits : goal.returns-in-Terminate-clause-digits
unfolding shape_of
returns-in-Terminate-clause-digits c = rw c.in-Terminate.is

pub returns-in-Seize-clause-digits : goal.returns-in-Seize-clause-digits
unfolding shape_of
returns-in-Seize-clause-digits c = rw c.in-Seize.is

pub returns-in-Release-clause-digits : goal.returns-in-Release-clause-digits
unfolding shape_of
returns-in-Release-clause-digits c = rw c.in-Release.is

pub returns-in-Enter-clause-digits : goal.returns-in-Enter-clause-digits
unfolding shape_of
returns-in-Enter-clause-digits c = rw c.in-Enter.is

pub returns-in-Leave-clause-digits : goal.returns-in-Leave-clause-digits
unfolding shape_of
returns-in-Leave-clause-digits c = rw c.in-Leave.is

pub returns-in-WaitServer-clause-digits : goal.returns-in-WaitServer-clause-digits
unfolding shape_of
returns-in-WaitServer-clause-digits c = rw c.in-WaitServer.is

pub returns-in-WaitTerms-clause-digits : goal.returns-in-WaitTerms-clause-digits
unfolding shape_of
returns-in-WaitTerms-clause-digits c = rw c.in-WaitTerms.is

pub returns-in-Branch-clause-digits : goal.returns-in-Branch-clause-digits
unfolding shape_of
returns-in-Branch-clause-digits c = rw c.in-Branch.is

pub returns-in-Goto-clause-digits : goal.returns-in-Goto-clause-digits
unfolding shape_of
returns-in-Goto-clause-digits c = rw c.in-Goto.is

pub returns-in-Assign-clause-digits : goal.returns-in-Assign-clause-digits
unfolding shape_of
returns-in-Assign-clause-digits c = rw c.in-Assign.is

pub returns-in-Priority-clause-digits : goal.returns-in-Priority-clause-digits
unfolding shape_of
returns-in-Priority-clause-digits c = rw c.in-Priority.is

pub returns-in-Split-clause-digits : goal.returns-in-Split-clause-digits
unfolding shape_of
returns-in-Split-clause-digits c = rw c.in-Split.is

pub returns-in-Arrive-clause-digits : goal.returns-in-Arrive-clause-digits
unfolding shape_of
returns-in-Arrive-clause-digits c = rw c.in-Arrive.is

pub returns-in-Depart-clause-digits : goal.returns-in-Depart-clause-digits
unfolding shape_of
returns-in-Depart-clause-digits c = rw c.in-Depart.is

pub returns-in-JoinedWait-clause-digits : goal.returns-in-JoinedWait-clause-digits
unfolding shape_of
returns-in-JoinedWait-clause-digits c = rw c.in-JoinedWait.is

pub returns-in-Assemble-clause-digits : goal.returns-in-Assemble-clause-digits
unfolding shape_of
returns-in-Assemble-clause-digits c = rw c.in-Assemble.is

pub returns-in-Preempt-clause-digits : goal.returns-in-Preempt-clause-digits
unfolding shape_of
returns-in-Preempt-clause-digits c = rw c.in-Preempt.is

pub returns-in-Return-clause-digits : goal.returns-in-Return-clause-digits
unfolding shape_of
returns-in-Return-clause-digits c = rw c.in-Return.is
