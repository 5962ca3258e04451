-- The numbers that document 01 gives to the tags of terms.
use Rattle.std.specs.Prelude.{ℕ}
use Rattle.layout.specs.declared.tag.Tag.{Tag}
use Rattle.layout.specs.declared.tag.Tag.TheVariants.{Constant, MinusConstant, Parameter, Clock, Entries, Content, UnitsInUse, UnitsFree, FacilityInUse, Value, Comparison, Bracket}

abbrev pub tag_number : Tag → ℕ
tag_number Constant = 0
tag_number MinusConstant = 1
tag_number Parameter = 2
tag_number Clock = 3
tag_number Entries = 4
tag_number Content = 5
tag_number UnitsInUse = 6
tag_number UnitsFree = 7
tag_number FacilityInUse = 8
tag_number Value = 9
tag_number Comparison = 10
tag_number Bracket = 11
