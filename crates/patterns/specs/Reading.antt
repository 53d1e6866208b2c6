-- What a reading of a table answers, in numbers. Assumes nothing: these are definitions.
use Rattle.std.specs.Prelude.{ℕ, Result, Ok, Err}
use Rattle.basics.specs.Refusals.{number, place_of}
use Rattle.basics.specs.declared.Refusal.{Refusal}
use Rattle.basics.specs.declared.Place.{Place}
use Rattle.ncsb.specs.declared.Shape.{Shape}

-- the refusal as the check has it, or what the step reads of the pattern beside the masks
pub data Reading : Type 0 where
  Refused : (number : ℕ) → Place → Reading
  Pattern : Shape → Reading

-- the answer of each result: the shape, or the refusal's number and place
abbrev pub read_as : Result Shape Refusal → Reading
read_as (Ok s) = Pattern s
read_as (Err r) = Refused (number r) (place_of r)
