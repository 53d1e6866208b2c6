-- Trial inputs of the listing program, with the whole output of each (docs/RULES.md, "The listing program" and "Trial pieces"). Assumes nothing: these are definitions.
use Rattle.std.specs.Prelude.{List, [], ◌∷◌, ℕ, get_or}
use Prim.Native.String.{String}

pub record Trial : Type 0 where
  pub input : String
  pub output : String

unfoldable pub gives : (input output : String) → Trial
gives i o = record { input = i; output = o }

unfoldable pub trials : List Trial
trials =
    -- pattern A
    gives "2 2 4 1 1 2 4 0 0 2 1 0 3 0 1 0 0 1 0\n" "states 2 edges 4\n0 1 0 0 0 3\n1 1 2 0 2 0\n0 0 1\n0 1 0\n1 0 1\n1 1 0\n"
    -- pattern B
    ∷ gives "2 2 4 1 1 2 3 0 0 2 1 1 0 0 0 4 1 1 0" "states 3 edges 6\n0 0 1 0 1 1\n1 0 0 1 0 3\n2 0 2 0 2 0\n0 0 0\n0 1 2\n1 0 1\n2 0 0\n2 0 1\n2 1 2\n"
    -- no initial state
    ∷ gives "1 1 0 0 0" "states 1 edges 1\n0 0 0 0 0 3\n0 0 0\n"
    -- one edge twice, with leading zeros, and blanks around and between
    ∷ gives "\n 01 1  2 3\n1 0 0 2 0\n\n0 00000000 " "states 1 edges 1\n0 0 1 0 1 1\n0 0 0\n"
    -- a fork in Q2, though the state is never reached
    ∷ gives "2 1 2 1 0 2 1 0 0 2 0 1 0" "refused 10\n"
    -- empty and blank input, and the largest number
    ∷ gives "" "refused 2\n"
    ∷ gives " \n" "refused 2\n"
    ∷ gives "65535 1 0" "refused 3\n"
    -- a number too large, and bytes that stand in none
    ∷ gives "65536 1 0" "refused 1\n"
    ∷ gives "1\t1 0 0 0" "refused 1\n"
    ∷ gives "1 1 0 0 -0" "refused 1\n"
    ∷ []

unfoldable pub trial : (number : ℕ) → Trial
trial i = get_or trials i (gives "" "")
