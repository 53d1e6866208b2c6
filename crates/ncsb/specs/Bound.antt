-- The state bound 2^p·3^a·4^r: a counts the accepting states in Q2, r the other states of Q2, p those of Q1. Assumes nothing: this is a definition.
use Rattle.std.specs.Prelude.{ℕ, ◌*◌, ◌-◌, ◌^◌}
use Rattle.sets.specs.Sets.{size, without}
use Rattle.ncsb.specs.Moves.{Moves}

unfoldable pub bound : Moves → ℕ
bound d =
    2 ^ (d.states - size d.states d.inner) * 3 ^ size d.states d.marks
    * 4 ^ size d.states (without d.inner d.marks)
