-- Edges of a system that was explored whole stand in the order of their sources, between listed states and on its letters, so their
-- words are a table that means the numbered automaton. Assumes nothing.
use mathlib.Core.Path.{refl}
use mathlib.Core.List.{List, [], ◌∷◌, ◌++◌}
use Prim.Native.Nat.{ℕ, zero, suc, ◌≤◌, ◌<◌}
use native.Mathlib.Omega.{arith}
use lib.ListN.{length}
use Rattle.basics.proofs.Booleans.{ge_ltb, and_false_l}
use Rattle.automata.specs.System.{System, Decides, Edge, an_edge, Built, state_at, edges_to, edges_on, edges_of, edge_at, Exactly, numbered}
use Rattle.automata.proofs.Members.{prefix_length}
use Rattle.automata.proofs.Numbered.{listed_at, starts_first, numbered_leads}
use Rattle.layout.specs.Orderly.{Orderly, HasEdges}

-- SOURCES RISE from one number to another
data Rises : (low high : ℕ) → List Edge → Type 0 where
  none : {low high : ℕ} → low ≤ high → Rises low high []
  next : {low high : ℕ} {e : Edge} {es : List Edge} → low ≤ e.source → Rises e.source high es → Rises low high (e ∷ es)

rises_lower : {low mid high : ℕ} {es : List Edge} → low ≤ mid → Rises mid high es → Rises low high es
rises_lower {low} {mid} {high} l (none m) = let k : low ≤ high = omega arith in none k
rises_lower {low} l (next {e = e} m r) = let k : low ≤ e.source = omega arith in next k r

rises_higher : {low mid high : ℕ} {es : List Edge} → mid ≤ high → Rises low mid es → Rises low high es
rises_higher {low} {mid} {high} l (none m) = let k : low ≤ high = omega arith in none k
rises_higher l (next m r) = next m (rises_higher l r)

rises_append : {low mid high : ℕ} {es fs : List Edge} → Rises low mid es → Rises mid high fs → Rises low high (es ++ fs)
rises_append (none l) s = rises_lower l s
rises_append (next l r) s = next l (rises_append r s)

rises_at :
    {low high : ℕ} {es : List Edge} → Rises low high es → (e : ℕ) → suc e < length es →
    (edge_at es e).source ≤ (edge_at es (suc e)).source
unfolding edge_at
rises_at (none l) e m = absurd (omega arith)
rises_at (next l (none k)) e m = absurd (omega arith)
rises_at (next l (next k r)) zero m = k
rises_at (next l (next k r)) (suc e) m = rises_at (next k r) e (omega arith)

module _ {X : Type 0} (s : System X) (all : List X) where
  to_rises : (i c : ℕ) (ys : List X) → Rises i i (edges_to s.same all i c ys)
  unfolding edges_to an_edge
  to_rises i c [] = let l : i ≤ i = omega arith in none l
  to_rises i c (y ∷ ys) = let l : i ≤ i = omega arith in next l (to_rises i c ys)

  on_rises : (limit i : ℕ) (x : X) → Rises i i (edges_on s all limit i x)
  unfolding edges_on
  on_rises zero i x = let l : i ≤ i = omega arith in none l
  on_rises (suc c) i x = rises_append (on_rises c i x) (to_rises i c (s.nexts x c))

  of_rises : (limit : ℕ) → Rises 0 limit (edges_of s all limit)
  unfolding edges_of
  of_rises zero = let l : 0 ≤ 0 = omega arith in none l
  of_rises (suc i) =
      let l : i ≤ suc i = omega arith in
      rises_higher l (rises_append (of_rises i) (on_rises s.letters i (state_at s all i)))

module _ {X : Type 0} (s : System X) (decides : Decides s) (b : Built X) (exactly : Exactly s b) where
  ends :
      (e : ℕ) → e < length b.edges →
      ((edge_at b.edges e).source < length b.states) × ((edge_at b.edges e).letter < s.letters)
      × ((edge_at b.edges e).target < length b.states)
  unfolding numbered
  ends e l =
      let f = edge_at b.edges e in
      let (i, c, j, m) = numbered_leads s decides b exactly f.source f.letter f.target (listed_at b.edges e l) in
      (i, c, j)

  pub numbered_orderly : Orderly (numbered s b) b.edges
  unfolding numbered
  numbered_orderly =
      record {
        rise = rw exactly.edges (rises_at (of_rises s b.states (length b.states)));
        source = λ e l. (ends e l).0;
        letter = λ e l. (ends e l).1;
        target = λ e l. (ends e l).2;
      }

  pub numbered_lists : HasEdges (numbered s b) b.edges
  unfolding numbered
  numbered_lists =
      record {
        initial =
            λ q l.
            let g = prefix_length (starts_first s decides b exactly) in
            let far : length s.starts ≤ q = omega arith in ge_ltb far;
        accepting = λ q l. and_false_l (s.accepting (state_at s b.states q)) (ge_ltb l);
        edge = λ i c j. refl;
      }
