-- What the step reads beside the masks, put together from its parts. Assumes nothing.
use mathlib.Core.Path.{◌≡◌}
use mathlib.Core.List.{List}
use Prim.Native.Nat.{ℕ}
use lib.Bits.{bit_and}
use Rattle.tables.specs.Table.{pattern_range, table_refusal, n_of, k_of, meaning}
use Rattle.ncsb.specs.declared.Shape.{Shape}
use Rattle.patterns.specs.Masks.{masks_of, joined_in}
use Rattle.patterns.specs.Pattern.{initial_states, accepting_states, inner_of, marks_of, moves}
use Rattle.patterns.specs.Shape.{shape_of, SmallShape}
use Rattle.patterns.proofs.Masks.{FitsMasks, pattern_fits}
use Rattle.patterns.proofs.Rounds.{inner_rounds}

module _
    (t : List ℕ)
    (pattern : table_refusal pattern_range t ≡ 0)
    (masks : List (List ℕ))
    (spread : masks ≡ masks_of (moves (meaning t)))
  where
    pub shape_right :
        (states letters starts accepting inner : ℕ) → states ≡ n_of t → letters ≡ k_of t → starts ≡ initial_states (meaning t) →
        accepting ≡ accepting_states (meaning t) → inner ≡ joined_in states letters masks accepting →
        ◌≡◌ {A = Shape}
        (record { states = states; letters = letters; starts = starts; marks = bit_and accepting inner; inner = inner })
        (shape_of (moves (meaning t)))
    unfolding shape_of moves marks_of meaning
    shape_right states letters starts accepting inner es el ei ea en =
        let all = inner_rounds (meaning t) (pattern_fits t pattern) in
        let e : inner ≡ inner_of (meaning t) = cc in
        rw (es, el, ei, ea, e)

-- a pattern's shape is small
pub shape_small : (t : List ℕ) → FitsMasks (meaning t) → SmallShape (shape_of (moves (meaning t)))
unfolding shape_of moves
shape_small t f = record { states = f.states; letters = f.letters }
