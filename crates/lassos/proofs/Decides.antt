-- The lasso decision: the search begins with white nodes, what it finds is what the automaton takes, and the answer is the
-- definition's. Assumes nothing.
use mathlib.Core.Path.{◌≡◌, refl, sym, ◌∙◌}
use mathlib.Core.Bool.{Bool, true, false}
use mathlib.Core.List.{List, ◌++◌}
use Prim.Native.Nat.{ℕ, zero, suc, ◌+◌, ◌*◌, ◌/◌, ◌≤◌, ◌<◌}
use native.Mathlib.Omega.{arith}
use native.Mathlib.Nat.{div-mul-le_self, le-div_iff_mul-le, mul-le-mul, mul_comm, mul_assoc}
use lib.ListN.{length, take, drop}
use lib.Seq.{length_front}
use Rattle.std.specs.Prelude.{Ok}
use Rattle.basics.specs.Buffers.{zeros}
use Rattle.basics.specs.Refusals.{number}
use Rattle.basics.specs.declared.Refusal.{Refusal}
use Rattle.basics.proofs.Booleans.{not_both}
use Rattle.basics.proofs.Clears.{zeros_length, front_cleared}
use Rattle.basics.proofs.Packed.{packed_zero}
use Rattle.basics.proofs.Refusals.{numbered}
use Rattle.automata.specs.Decision.{takes?}
use Rattle.automata.specs.Lasso.{positions}
use Rattle.automata.proofs.Decision.{takes_found}
use Rattle.tables.specs.Table.{Limits, n_of, k_of, meaning, table_refusal}
use Rattle.tables.proofs.Laws.{Valid, valid, meaning_closed}
use Rattle.lasso_search.specs.Product.{product_graph}
use Rattle.lasso_search.specs.Search.{colour, Search}
use Rattle.lasso_search.specs.Steps.{Searched, found, nothing}
use Rattle.lasso_search.specs.Width.{Width, colours, word_colours, WidthFits, Few}
use Rattle.lasso_search.proofs.Given.{size_is}
use Rattle.lasso_search.proofs.Outer.{fresh}
use Rattle.lasso_search.proofs.ProductGraph.{found_cycle}
use Rattle.lasso_search.proofs.Width.{colour_word}
use Rattle.lassos.specs.Decision.{Refused, decided, as_decision, decision, TakesAsks}
use Rattle.lassos.specs.Refusals.{longest_part, parts_refusal, lasso_refusal}
use Rattle.lassos.proofs.Parts.{Accepted, accepted, table_first, parts_then}

-- A TABLE AND A LASSO that are not refused
module _ {wd : Width} (fits : WidthFits wd) {t u v w : List ℕ} (a : TakesAsks wd.range t u v w) where
  pub not_refused : Accepted wd.range t u v (length w)
  not_refused = accepted wd.range t u v (length w) a.accepted

  sound : Valid wd.range t
  sound = valid wd.range t not_refused.valid

  enough : 4 * (product_graph t u v).size ≤ length w
  unfolding positions
  enough =
      let s = size_is t u v in
      let p = mul_assoc 4 (n_of t) (length u + length v) in
      let q = mul_comm (n_of t) (length u + length v) in
      let r = not_refused.room in omega arith

  -- no product has more nodes than the widest
  pub takes_small : Few wd.work_bits (positions u v * n_of t)
  unfolding positions
  takes_small =
      let p : length u + length v ≤ 2 * longest_part =
      (let i = not_refused.prefix_short in let j = not_refused.loop_short in omega arith) in
      let q : n_of t ≤ wd.range.states = (let k = sound.states_to in omega arith) in
      let m : (length u + length v) * n_of t ≤ 2 * longest_part * wd.range.states = mul-le-mul p q in
      let k = fits.work in omega arith

  module _ {size : ℕ} (is_size : size ≡ (product_graph t u v).size) where
    -- the words of the colours are among the work words
    pub colours_inside : size / word_colours wd + 1 ≤ length w
    unfolding positions
    colours_inside =
        let p : 1 ≤ length u + length v = (let o = not_refused.lasso.endless in omega arith) in
        let some : 1 ≤ (length u + length v) * n_of t = mul-le-mul p sound.states_from in
        let s = size_is t u v in
        let d : size / word_colours wd < size + 1 = colour_word wd (omega arith) in
        let k = enough in omega arith

    pub takes_explore :
        {cleared : List ℕ} → cleared ≡ zeros (take (size / word_colours wd + 1) w) →
        Search wd (product_graph t u v) (cleared ++ drop (size / word_colours wd + 1) w) 0
    unfolding colour
    takes_explore {cleared} clear =
        let k = size / word_colours wd + 1 in
        let w1 = cleared ++ drop k w in
        let same : length w1 ≡ length w = length_front w cleared k (rw clear (zeros_length (take k w))) in
        fresh wd (product_graph t u v) w1 (let k = enough in omega arith)
        (λ x l.
        let front : x / word_colours wd ≤ size / word_colours wd =
        (le-div_iff_mul-le fits.some).1 (let m = div-mul-le_self x (word_colours wd) in omega arith) in
        packed_zero colours (omega arith) (word_colours wd) w1 x
        (front_cleared k w cleared colours_inside clear (x / word_colours wd) (omega arith)))

  -- what the search finds is what the automaton takes
  pub takes_end : {r : Bool} → Searched (product_graph t u v) r → r ≡ takes? (meaning t) u v
  takes_end (found f) =
      let o = not_refused.lasso.endless in
      let closed = meaning_closed sound in
      sym ((takes_found (meaning t) u v closed o).1 ((found_cycle sound u v o).0 f))
  takes_end (nothing n) =
      let o = not_refused.lasso.endless in
      let closed = meaning_closed sound in
      sym (not_both (takes? (meaning t) u v) (λ e. n ((found_cycle sound u v o).1 ((takes_found (meaning t) u v closed o).0 e))))

-- THE ANSWERS by number
pub as_refused : (r : ℕ) (b : Bool) → (r ≡ 0 → ⊥) → Refused r ≡ as_decision r b
unfolding as_decision
as_refused zero b ne = absurd (ne refl)
as_refused (suc r) b ne = refl

as_found : (r : ℕ) (b : Bool) → r ≡ 0 → decided (Ok b) ≡ as_decision r b
unfolding as_decision
as_found r true z = rw z
as_found r false z = rw z

-- A REFUSAL'S NUMBER that is the definition's, and whether the lasso is taken: the answer
module _ (range : Limits) (t u v : List ℕ) (work : ℕ) {x : ℕ} (is_refusal : x ≡ lasso_refusal range t u v work) where
  pub decided_refused : (x ≡ 0 → ⊥) → Refused x ≡ decision range t u v work
  unfolding decision
  decided_refused ne = rw (← is_refusal) (as_refused x (takes? (meaning t) u v) ne)

  pub decided_found : x ≡ 0 → {b : Bool} → b ≡ takes? (meaning t) u v → decided (Ok b) ≡ decision range t u v work
  unfolding decision
  decided_found z e = rw e (as_found (lasso_refusal range t u v work) (takes? (meaning t) u v) (sym is_refusal ∙ z))

-- a call's refusal as the decision that it is
module _ (range : Limits) (t u v : List ℕ) (work : ℕ) (r : Refusal) where
  pub refusal_decides : number r ≡ lasso_refusal range t u v work → Refused (number r) ≡ decision range t u v work
  refusal_decides e = decided_refused range t u v work e (λ z. let some = numbered r in omega arith)

  pub table_decides : number r ≡ table_refusal range t → Refused (number r) ≡ decision range t u v work
  table_decides e = refusal_decides (table_first range t u v work e (λ z. let some = numbered r in omega arith))

  pub parts_decide :
      {n k : ℕ} → table_refusal range t ≡ 0 → n ≡ n_of t → k ≡ k_of t → number r ≡ parts_refusal n k u v work →
      Refused (number r) ≡ decision range t u v work
  parts_decide valid n_is k_is e = refusal_decides (parts_then range t u v work valid n_is k_is e)
