-- Laws of refusals: each has a number from 1 to 22, so none counts as nothing refused. Assumes nothing.
use Rattle.std.proofs.Common.{◌≡◌, refl, ℕ, ◌≤◌, arith}
use Rattle.basics.specs.Buffers.{or_else}
use Rattle.basics.specs.Refusals.{number}
use Rattle.basics.specs.declared.Refusal.{Refusal}
use Rattle.basics.specs.declared.Refusal.TheVariants as why

-- a number from 1 to 22
pub record Numbered (n : ℕ) : Type 0 where
  pub from_one : 1 ≤ n
  pub to_last : n ≤ 22

pub numbered : (r : Refusal) → Numbered (number r)
numbered why.Input = record { from_one = omega arith; to_last = omega arith }
numbered why.Short = record { from_one = omega arith; to_last = omega arith }
numbered why.States = record { from_one = omega arith; to_last = omega arith }
numbered why.Letters = record { from_one = omega arith; to_last = omega arith }
numbered why.Records = record { from_one = omega arith; to_last = omega arith }
numbered why.Length = record { from_one = omega arith; to_last = omega arith }
numbered why.Flags = record { from_one = omega arith; to_last = omega arith }
numbered why.Edges = record { from_one = omega arith; to_last = omega arith }
numbered why.Chains = record { from_one = omega arith; to_last = omega arith }
numbered (why.Forks p) = record { from_one = omega arith; to_last = omega arith }
numbered why.Room = record { from_one = omega arith; to_last = omega arith }
numbered why.Table = record { from_one = omega arith; to_last = omega arith }
numbered why.EmptyLoop = record { from_one = omega arith; to_last = omega arith }
numbered why.LongPart = record { from_one = omega arith; to_last = omega arith }
numbered why.WrongLetter = record { from_one = omega arith; to_last = omega arith }
numbered why.Work = record { from_one = omega arith; to_last = omega arith }
numbered why.List = record { from_one = omega arith; to_last = omega arith }
numbered why.Answers = record { from_one = omega arith; to_last = omega arith }
numbered why.OtherLetters = record { from_one = omega arith; to_last = omega arith }
numbered why.MergedStates = record { from_one = omega arith; to_last = omega arith }
numbered why.MergedRecords = record { from_one = omega arith; to_last = omega arith }
numbered why.MergedRoom = record { from_one = omega arith; to_last = omega arith }

-- where a first refusal is met, it is the answer
pub first_met : (r : Refusal) (second : ℕ) → or_else (number r) second ≡ number r
unfolding or_else
first_met why.Input n = refl
first_met why.Short n = refl
first_met why.States n = refl
first_met why.Letters n = refl
first_met why.Records n = refl
first_met why.Length n = refl
first_met why.Flags n = refl
first_met why.Edges n = refl
first_met why.Chains n = refl
first_met (why.Forks p) n = refl
first_met why.Room n = refl
first_met why.Table n = refl
first_met why.EmptyLoop n = refl
first_met why.LongPart n = refl
first_met why.WrongLetter n = refl
first_met why.Work n = refl
first_met why.List n = refl
first_met why.Answers n = refl
first_met why.OtherLetters n = refl
first_met why.MergedStates n = refl
first_met why.MergedRecords n = refl
first_met why.MergedRoom n = refl
