-- `herd` meets its contract: no turn, or those of all who come to the block of the first of REL.
use Rattle.machine.specs.All.{◌∙◌, sym, arith}
use Rattle.engine_laws.proofs.Herding.{onward-none}
use Rattle.engine.proofs.herds.herd.Goals as goal

pub returns-then-number : goal.returns-then-number
returns-then-number c =
    record {
      by_index = λ tape trace. onward-none _ _ tape trace _ _ _ _ _ _;
      least = omega arith;
      most = omega arith;
    }

pub returns-then-number-2 : goal.returns-then-number-2
returns-then-number-2 c =
    record {
      by_index = λ tape trace. onward-none _ _ tape trace _ _ _ _ _ _;
      least = omega arith;
      most = omega arith;
    }

pub returns-then-quiet : goal.returns-then-quiet
returns-then-quiet c =
    let call = c.queue_all in record {
      by_index = λ tape trace. call.ensures.where_enter _ tape trace (sym c.number-2.ensures ∙ c.if-number-2.false ∙ c.number-3.ensures) (sym c.number.ensures ∙ c.if-number.false)
          (sym c.quiet.ensures ∙ c.if-quiet.true);
      least = call.ensures.least;
      most = call.ensures.most;
    }

pub returns-then-not-all_wait : goal.returns-then-not-all_wait
returns-then-not-all_wait c =
    record {
      by_index = λ tape trace. onward-none _ _ tape trace _ _ _ _ _ _;
      least = omega arith;
      most = omega arith;
    }

pub returns : goal.returns
returns c =
    let call = c.stay_all in record {
      by_index = λ tape trace. call.ensures.where_all_wait _ _ tape _ trace (sym c.number-2.ensures ∙ c.if-number-2.false ∙ c.number-3.ensures) (sym c.number.ensures ∙ c.if-number.false)
          (sym c.all_wait.ensures ∙ c.if-not-all_wait.false);
      least = call.ensures.least;
      most = call.ensures.most;
    }
