-- Refusals, and what a call answers in numbers (docs/RULES.md, "Refusals"). Assumes nothing: these are definitions.
use Rattle.std.specs.Prelude.{ℕ, Result, Ok, Err}
use Rattle.basics.specs.declared.Place.{Place}
use Rattle.basics.specs.declared.Refusal.{Refusal}
use Rattle.basics.specs.declared.Refusal.TheVariants as why
use Rattle.basics.specs.declared.Written.{Written}

-- the number of each refusal
abbrev pub number : Refusal → ℕ
number why.Input = 1
number why.Short = 2
number why.States = 3
number why.Letters = 4
number why.Records = 5
number why.Length = 6
number why.Flags = 7
number why.Edges = 8
number why.Chains = 9
number (why.Forks p) = 10
number why.Room = 11
number why.Table = 12
number why.EmptyLoop = 13
number why.LongPart = 14
number why.WrongLetter = 15
number why.Work = 16
number why.List = 17
number why.Answers = 18
number why.OtherLetters = 19
number why.MergedStates = 20
number why.MergedRecords = 21
number why.MergedRoom = 22

-- no place: zero and zero
abbrev pub no_place : Place
no_place = record { state = 0; letter = 0 }

-- where the pattern forks, for 10; for every other refusal no place
abbrev pub place_of : Refusal → Place
place_of (why.Forks p) = p
place_of r = no_place

-- WHAT A CALL ANSWERS: what it gives, or a refusal. Its number is zero where nothing is refused
abbrev pub refused : {A : Type 0} → Result A Refusal → ℕ
refused (Ok x) = 0
refused (Err r) = number r

-- and its place none
abbrev pub refused_at : {A : Type 0} → Result A Refusal → Place
refused_at (Ok x) = no_place
refused_at (Err r) = place_of r

-- how many items a call wrote, in numbers: 0 and their count, or the refusal's number and 0
abbrev pub written : Result ℕ Refusal → Written
written (Ok count) = record { number = 0; count = count }
written (Err r) = record { number = number r; count = 0 }
