-- The product graph of a valid table and a lasso: its edges stay inside, and an accepting node that is reached and lies on a
-- cycle is an accepting cycle of the table's automaton over the lasso, and back. Assumes nothing.
use mathlib.Core.Path.{◌≡◌, refl, sym, ◌∙◌, ap}
use mathlib.Core.Bool.{true, ◌&&◌}
use mathlib.Core.List.{List}
use mathlib.Core.Logic.{◌⊎◌, inl, inr, ◌↔◌}
use Prim.Native.Nat.{ℕ, zero, suc, ◌+◌, ◌*◌, ◌/◌, ◌%◌, ◌≤◌, ◌<◌}
use native.Mathlib.Nat.{mod-lt, div-lt_iff_lt-mul}
use lib.Arith.{digits_div, digits_mod}
use lib.Dec.{ltb, eqb}
use lib.ListN.{length}
use Rattle.basics.proofs.Booleans.{and_l, and_r, and_make, or_l, or_r, eqb_self, eq_eqb, ltb_lt, lt_ltb, clash}
use Rattle.automata.specs.Lasso.{positions, position_letter, next_position, AcceptingCycle}
use Rattle.automata.proofs.Positions.{next_below}
use Rattle.automata.proofs.Product.{AcceptingNode, start_below, product_cycle}
use Rattle.tables.specs.Table.{Limits, n_of, m_of, head_of, letter_of, target_of, next_of, is_initial, chain_has, edge, meaning}
use Rattle.tables.proofs.Laws.{Valid, chain_step, chain_cases, meaning_closed}
use Rattle.lasso_search.specs.Graph.{Arc, Bounded, Found}
use Rattle.lasso_search.specs.Product.{ChainTo, here, later, node_letter, node_base, product_graph}

-- CHAINS: a record's own edge, or one of the chain from the next record on
pub chain_parts : {t : List ℕ} {c b y r : ℕ} → ChainTo t c b y r → ((letter_of t r ≡ c) × (b + target_of t r ≡ y)) ⊎ ChainTo t c b y (next_of t r)
chain_parts (here o p q) = inl (p, q)
chain_parts (later o h) = inr h

module _ {l : Limits} {t : List ℕ} (v : Valid l t) where
  -- what a chain leads to is an edge of the table
  pub chain_edge :
      {c b y r : ℕ} → ChainTo t c b y r → r ≤ m_of t →
      (q : ℕ) × (q < n_of t) × (b + q ≡ y) × (chain_has (m_of t) t r c q ≡ true)
  chain_edge {c} {b} {y} {r} (here o p q) s = (
    target_of t r,
    v.target r o s,
    q,
    chain_step v r c (target_of t r) o s ∙ or_l (chain_has (m_of t) t (next_of t r) c (target_of t r)) (and_make (eq_eqb p) (eqb_self (target_of t r))),
  )
  chain_edge {c} {b} {y} {r} (later o h) s =
      let w = chain_edge h (v.next r o s) in (
        w.0,
        w.1,
        w.2,
        chain_step v r c w.0 o s ∙ or_r (eqb (letter_of t r) c && eqb (target_of t r) w.0) w.3,
      )

-- and back
pub edge_chain : (f : ℕ) (t : List ℕ) (r c b q : ℕ) → chain_has f t r c q ≡ true → ChainTo t c b (b + q) r
unfolding chain_has
edge_chain zero t r c b q h = absurd (clash h refl)
edge_chain (suc f) t r c b q h =
    let (o, parts) = chain_cases f t r c q h in
    elim parts [
      | inl (p, e) ↦ here o p (ap (λ (z : ℕ). b + z) e)
      | inr e ↦ later o (edge_chain f t (next_of t r) c b q e)
    ]

module _ {l : Limits} {t : List ℕ} (valid : Valid l t) (u v : List ℕ) (o : 1 ≤ length v) where
  -- EDGES of the product are edges of the table, from a position to the next
  leads_edge :
      (x y : ℕ) → Arc (product_graph t u v) x y →
      (y / n_of t ≡ next_position u v (x / n_of t)) ×
      ((meaning t).edge (x % n_of t) (position_letter u v (x / n_of t)) (y % n_of t) ≡ true)
  unfolding product_graph node_letter node_base meaning edge
  leads_edge x y h =
      let small : x % n_of t < n_of t = mod-lt x valid.states_from in
      let w = chain_edge valid h (valid.head (x % n_of t) small) in
      let b = next_position u v (x / n_of t) in
      let q = w.0 in
      let at : b * n_of t + q ≡ y = w.2 in
      let state : y % n_of t ≡ q = ap (λ (z : ℕ). z % n_of t) (sym at) ∙ digits_mod b w.1 in
      let position : y / n_of t ≡ b = ap (λ (z : ℕ). z / n_of t) (sym at) ∙ digits_div b w.1 in
      (position, rw state (and_make (and_make (lt_ltb small) (lt_ltb w.1)) w.3))

  -- and back
  edge_leads :
      (i p q : ℕ) → i < positions u v → (meaning t).edge p (position_letter u v i) q ≡ true →
      Arc (product_graph t u v) (i * n_of t + p) (next_position u v i * n_of t + q)
  unfolding product_graph node_letter node_base meaning edge
  edge_leads i p q _ h =
      let ends = and_l (chain_has (m_of t) t (head_of t p) (position_letter u v i) q) h in
      let l = ltb_lt p (n_of t) (and_l (ltb q (n_of t)) ends) in
      rw (digits_div i l, digits_mod i l)
      (edge_chain (m_of t) t (head_of t p) (position_letter u v i) (next_position u v i * n_of t) q (and_r (ltb p (n_of t) && ltb q (n_of t)) h))

  -- every edge and every start stays inside
  edge_inside : (x y : ℕ) → Arc (product_graph t u v) x y → y < (product_graph t u v).size
  unfolding product_graph
  edge_inside x y h =
      (div-lt_iff_lt-mul valid.states_from).0 (rw (leads_edge x y h).0 (next_below u v o (x / n_of t)))

  start_inside : (x : ℕ) → (product_graph t u v).starts x ≡ true → x < (product_graph t u v).size
  unfolding product_graph
  start_inside x h = start_below u v o (ltb_lt x (n_of t) (and_l (is_initial t x) h))

  pub product_bounded : Bounded (product_graph t u v)
  product_bounded = record { edge = λ x y b h. edge_inside x y h; start = start_inside }

  -- an accepting node that is reached and lies on a cycle, in the words of the graph and of the automaton
  found_node : Found (product_graph t u v) ↔ AcceptingNode (meaning t) (Arc (product_graph t u v))
  unfolding product_graph meaning
  found_node = (
    (λ f.
        record {
          start = f.reached.start;
          node = f.node;
          behind = f.cycle.behind;
          begins = f.reached.begins;
          reached = f.reached.way;
          accepts = and_make (lt_ltb (mod-lt f.node valid.states_from)) f.accepts;
          leaves = f.cycle.leaves;
          returns = f.cycle.returns;
        }),
    (λ f.
        record {
          node = f.node;
          reached = record { start = f.start; begins = f.begins; way = f.reached };
          accepts = and_r (ltb (f.node % n_of t) (n_of t)) f.accepts;
          cycle = record { behind = f.behind; leaves = f.leaves; returns = f.returns };
        }),
  )

  -- there is one exactly if the automaton has an accepting cycle
  pub found_cycle : Found (product_graph t u v) ↔ AcceptingCycle (meaning t) u v
  unfolding meaning
  found_cycle =
      let (out, back) = product_cycle (meaning_closed valid) u v o (Arc (product_graph t u v)) leads_edge edge_leads in
      ((λ f. out (found_node.0 f)), (λ c. found_node.1 (back c)))
