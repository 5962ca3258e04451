-- The numbers that Rows gives to roles and to the forms of operands.
use Rattle.std.specs.Prelude.{ℕ, List, [], ◌∷◌, ◌+◌, ◌*◌}
use Rattle.join.specs.{declared.moving.Role.Role, declared.rows.Form.Form}
use Rattle.join.specs.declared.moving.Role.TheVariants.{Plain, Parameter, Block, Queue, Server, Facility, Value, List as SampleList, Target}
use Rattle.join.specs.declared.rows.Form.TheVariants.{Is, ByTag, ByCode}

abbrev pub role_number : Role → ℕ
role_number Plain = 0
role_number Parameter = 2
role_number Block = 4
role_number Queue = 5
role_number Server = 6
role_number Facility = 8
role_number Value = 9
role_number SampleList = 12
role_number Target = 13

-- "1 more than a role, 15 as the tag before says, 16 as the code before says"
abbrev pub form_number : Form → ℕ
form_number (Is r) = role_number r + 1
form_number ByTag = 15
form_number ByCode = 16

-- "the first in the lowest digit of 32"
abbrev pub digits_of : List Form → ℕ
digits_of [] = 0
digits_of (f ∷ l) = form_number f + 32 * digits_of l
