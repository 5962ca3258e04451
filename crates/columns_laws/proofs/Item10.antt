-- Item 10 holds of the definitions.
use Rattle.columns_laws.specs.{Item10}
use Rattle.columns_laws.proofs as our
use our.Claims.{taken-such, such-taken, taken-produced, produced-taken, trace-51, trace-52, columns-51, columns-52, inverse, inverse-back}
use our.Runs.{outcome-taken}

pub item10 : Item10
item10 =
    record {
      traces = λ s l. (taken-such s l, such-taken s l);
      columns = λ s l. (taken-produced s l, produced-taken s l);
      inverse = inverse;
      inverse-back = inverse-back;
      not-such-trace = trace-51;
      columns-room = trace-52;
      not-such-columns = columns-51;
      trace-room = columns-52;
      runs = outcome-taken;
    }
