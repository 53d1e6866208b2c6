-- Section 3.2 line by line, as it computes: what has to hold if (N', C', S', B') is to follow x = (N, C, S, B) on a letter c. `Step`
-- (Step.antt) says the same six lines by membership, and src/lines.rt takes them, all in the paper's order and by the same names.
-- Where N lies in Q1 and C, S and B in Q2, as in every reached quadruple, the targets of N are d1 of N in Q1 and dt of N in Q2, and
-- the targets of C, S and B are d2 of them. Assumes nothing: these are definitions.
use Rattle.std.specs.Prelude.{Bool, ◌&&◌, not, cond, ℕ, eqb}
use Rattle.std.specs.Int.Bits.{bit_and, bit_or}
use Rattle.basics.specs.Bounded.{any}
use Rattle.sets.specs.Sets.{has, without, union}
use Rattle.ncsb.specs.Moves.{Moves}
use Rattle.ncsb.specs.declared.Quadruple.{Quadruple}

-- the targets of a set on a letter
unfoldable pub targets : Moves → (set letter : ℕ) → ℕ
targets d s c = union d.states s (λ q. d.move q c)

-- dt of N
unfoldable pub entering : Moves → Quadruple → (letter : ℕ) → ℕ
entering d x c = bit_and (targets d x.N c) d.inner

-- 1. the reachable states are traced: N' is d1 of N,
unfoldable pub reachable_N : Moves → Quadruple → (letter : ℕ) → ℕ
reachable_N d x c = without (targets d x.N c) d.inner

-- and C' and S' together are dt of N joined with d2 of C and S
unfoldable pub reachable_CS : Moves → Quadruple → (letter : ℕ) → ℕ
reachable_CS d x c = bit_or (entering d x c) (targets d (bit_or x.C x.S) c)

-- 2. a run in Q2 is either safe, or not: C' is what is tracked, C' and S' together, and not in S'
unfoldable pub disjoint : (tracked new_S : ℕ) → ℕ
disjoint t s = without t s

-- 3. safe runs must stay safe: S' contains d2 of S
unfoldable pub safe_stays : Moves → Quadruple → (letter : ℕ) → ℕ
safe_stays d x c = targets d x.S c

-- 4. only runs leaving an accepting state can become safe, so those not leaving one stay: C' contains d2 of C without F
unfoldable pub not_leaving : Moves → Quadruple → (letter : ℕ) → ℕ
not_leaving d x c = targets d (without x.C d.marks) c

-- 5. each state of C without F has a target: otherwise the run was safe already
unfoldable pub no_dead_end : Moves → Quadruple → (letter : ℕ) → Bool
no_dead_end d x c = not (any d.states (λ q. has (without x.C d.marks) q && eqb (d.move q c) 0))

-- 6. the breakpoint: B is followed, by d2 of B,
unfoldable pub followed : Moves → Quadruple → (letter : ℕ) → ℕ
followed d x c = targets d x.B c

-- and if B is empty, B' is C'; otherwise it is what follows B, cut to C'
unfoldable pub breakpoint : Quadruple → (followed new_C : ℕ) → ℕ
breakpoint x b y = cond (eqb x.B 0) y (bit_and b y)
