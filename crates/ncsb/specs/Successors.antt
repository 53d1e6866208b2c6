-- The construction as it computes (docs/RULES.md, "The quadruple and its step" and "Numbering and result"): initial quadruples by rising S,
-- successors on a letter by rising S', and the system of them. Assumes nothing: these are definitions.
use Rattle.std.specs.Prelude.{Bool, ◌&&◌, ◌||◌, not, cond, List, [], ◌∷◌, map, ℕ, eqb}
use Rattle.std.specs.Int.Bits.{bit_and, bit_or}
use Rattle.automata.specs.System.{System}
use Rattle.sets.specs.Sets.{without, subsets}
use Rattle.ncsb.specs.Lines.{targets, entering, reachable_N, reachable_CS, disjoint, safe_stays, not_leaving, no_dead_end, followed, breakpoint}
use Rattle.ncsb.specs.Moves.{Moves}
use Rattle.ncsb.specs.declared.Asked.{Asked}
use Rattle.ncsb.specs.declared.Quadruple.{Quadruple}

-- the quadruple (N, C, S, B) of four sets
unfoldable pub quadruple : (n c s b : ℕ) → Quadruple
quadruple n c s b = record { N = n; C = c; S = s; B = b }

-- its four sets as numbers, in the paper's order
unfoldable pub four_sets : Quadruple → List ℕ
four_sets x = x.N ∷ x.C ∷ x.S ∷ x.B ∷ []

-- two quadruples are the same if their four sets are
unfoldable pub same : Quadruple → Quadruple → Bool
same x y = (eqb x.N y.N && eqb x.C y.C) && (eqb x.S y.S && eqb x.B y.B)

-- a quadruple is accepting if B is empty
unfoldable pub accepting : Quadruple → Bool
accepting x = eqb x.B 0

-- INITIAL quadruples: S is chosen among the initial states of Q2 outside F
unfoldable pub initial_free : Moves → ℕ
initial_free d = without (bit_and d.starts d.inner) d.marks

-- the initial quadruple for a choice of S: N is I in Q1, C is the rest of I in Q2, and B equals C
unfoldable pub initial_for : Moves → (choice : ℕ) → Quadruple
initial_for d s =
    let c = without (bit_and d.starts d.inner) s in quadruple (without d.starts d.inner) c s c

-- all of them, by rising S
unfoldable pub initials : Moves → List Quadruple
initials d = map (initial_for d) (subsets d.states (initial_free d))

-- WHAT FOLLOWS ON A LETTER from the lines of section 3.2 (Lines.antt): which targets are free, whether the step is blocked, and the
-- successors. d2 of C in F
unfoldable pub leaving : Moves → Quadruple → (letter : ℕ) → ℕ
leaving d x c = targets d (bit_and x.C d.marks) c

-- the free targets: from dt of N or d2 of C in F, and neither in F, nor in d2 of S, nor in d2 of C without F
unfoldable pub free : Moves → Quadruple → (letter : ℕ) → ℕ
free d x c =
    without (bit_or (entering d x c) (leaving d x c)) (bit_or d.marks (bit_or (safe_stays d x c) (not_leaving d x c)))

-- what the lines ask of all that follows, worked out once for all choices
unfoldable pub asks : Moves → Quadruple → (letter : ℕ) → Asked
asks d x c =
    record {
      outer = reachable_N d x c;
      tracked = reachable_CS d x c;
      safe = safe_stays d x c;
      staying = not_leaving d x c;
      free = free d x c;
      followed = followed d x c;
    }

-- no quadruple follows, by what is asked: d2 of S meets F or d2 of C without F, or a state of C without F has no target
unfoldable pub blocked_by : Moves → Quadruple → (letter : ℕ) → Asked → Bool
blocked_by d x c a =
    not (eqb (bit_and a.safe d.marks) 0) || (not (eqb (bit_and a.safe a.staying) 0) || not (no_dead_end d x c))

-- the step is blocked: no quadruple follows on the letter
unfoldable pub blocked : Moves → Quadruple → (letter : ℕ) → Bool
blocked d x c = blocked_by d x c (asks d x c)

-- the successor by what is asked and a choice of the free targets: S' is d2 of S and the choice, C' the rest of what is tracked
unfoldable pub successor_by : Quadruple → Asked → (choice : ℕ) → Quadruple
successor_by x a f =
    let s = bit_or a.safe f in
    let y = disjoint a.tracked s in quadruple a.outer y s (breakpoint x a.followed y)

-- the successor for a choice of the free targets that become safe; where the step is blocked, what it would be without the block
unfoldable pub successor_for : Moves → Quadruple → (letter choice : ℕ) → Quadruple
successor_for d x c f = successor_by x (asks d x c) f

-- all of them, by rising S'; none where the step is blocked
unfoldable pub successors : Moves → Quadruple → (letter : ℕ) → List Quadruple
successors d x c = cond (blocked d x c) [] (map (successor_for d x c) (subsets d.states (free d x c)))

-- THE SYSTEM to explore
unfoldable pub ncsb : Moves → System Quadruple
ncsb d =
    record {
      letters = d.letters;
      starts = initials d;
      nexts = successors d;
      accepting = accepting;
      same = same;
      blank = quadruple 0 0 0 0;
    }
