-- The computing decision is right: it answers true exactly if the automaton takes the lasso. Assumes nothing.
use mathlib.Core.Path.{◌≡◌, sym, ◌∙◌}
use mathlib.Core.Bool.{Bool, true, false, ◌&&◌}
use mathlib.Core.List.{List, []}
use mathlib.Core.Logic.{◌⊎◌, inl, inr, ◌↔◌}
use Prim.Native.Nat.{ℕ, ◌+◌, ◌*◌, ◌/◌, ◌%◌, ◌≤◌, ◌<◌}
use native.Mathlib.Nat.{mod-eq_of_lt, div-eq_of_lt, div-add-mod', zero-add, zero-mul}
use lib.Arith.{digits_lt, digits_div, digits_mod}
use lib.Dec.{eqb}
use lib.ListN.{length}
use Rattle.basics.specs.Tabulate.{tabulate}
use Rattle.basics.proofs.Booleans.{either, clash, and_l, and_r, and_make, eqb_eq, eqb_self}
use Rattle.basics.proofs.Bounded.{any_find, any_make}
use Rattle.basics.proofs.Tabulate.{tabulate_at}
use Rattle.automata.specs.Automaton.{Automaton, Takes, Closed}
use Rattle.automata.specs.Lasso.{letter_at, position_letter, next_position, positions, AcceptingCycle}
use Rattle.automata.specs.Decision.{marked, row, grown_nodes, nodes, leads, product, starts, on_cycle, takes?}
use Rattle.automata.proofs.Positions.{next_below}
use Rattle.automata.proofs.Graphs.{tabulate_marked, Joined, grown_right}
use Rattle.automata.proofs.Product.{AcceptingNode, start_below, product_cycle}
use Rattle.automata.proofs.Cycles.{takes_cycle, cycle_takes}

-- THE PRODUCT as a graph
module _ (a : Automaton) (u v : List ℕ) where
  -- an edge of it
  abbrev Leads : (x y : ℕ) → Type 0
  Leads = Joined (nodes a u v) (product a u v)

  -- the rows of the product, and its starts
  product_marked : (x y : ℕ) → x < nodes a u v → y < nodes a u v → marked (row (product a u v) x) y ≡ leads a u v x y
  unfolding row product
  product_marked x y k l =
      rw (tabulate_at (nodes a u v) (λ x. tabulate (nodes a u v) (λ y. leads a u v x y)) x [] k)
      (tabulate_marked (nodes a u v) (λ y. leads a u v x y) y l)

  starts_marked : (x : ℕ) → x < nodes a u v → marked (starts a u v) x ≡ (eqb (x / a.states) 0 && a.initial (x % a.states))
  unfolding starts
  starts_marked x l = tabulate_marked (nodes a u v) (λ x. eqb (x / a.states) 0 && a.initial (x % a.states)) x l

  -- an edge of the product is an edge of the automaton, to the next position
  leads_out :
      (x y : ℕ) → Leads x y →
      (y / a.states ≡ next_position u v (x / a.states))
      × (a.edge (x % a.states) (position_letter u v (x / a.states)) (y % a.states) ≡ true)
  unfolding leads
  leads_out x y (k, l, e) =
      let edge = a.edge (x % a.states) (position_letter u v (x / a.states)) (y % a.states) in
      let same = eqb (y / a.states) (next_position u v (x / a.states)) in
      let h : (same && edge) ≡ true = sym (product_marked x y k l) ∙ e in
      (eqb_eq (y / a.states) (next_position u v (x / a.states)) (and_l edge h), and_r same h)

  -- a node of the starts is an initial state
  starts_initial : (x : ℕ) → x < nodes a u v → marked (starts a u v) x ≡ true → a.initial x ≡ true
  starts_initial x l e =
      let h = rw (starts_marked x l) at e in
      let first = eqb_eq (x / a.states) 0 (and_l (a.initial (x % a.states)) h) in
      let same = rw (first, zero-mul, zero-add) at (div-add-mod' x a.states) in
      rw same at (and_r (eqb (x / a.states) 0) h)

  module _ (closed : Closed a) (o : 1 ≤ length v) where
    -- and each edge of the automaton is one of the product
    edge_leads :
        (i p q : ℕ) → i < positions u v → a.edge p (position_letter u v i) q ≡ true →
        Leads (i * a.states + p) (next_position u v i * a.states + q)
    unfolding nodes leads
    edge_leads i p q m e =
        let j = next_position u v i in
        let (lp, _, lq) = closed.edge p (position_letter u v i) q e in
        let k = digits_lt m lp in
        let l = digits_lt (next_below u v o i) lq in (
          k,
          l,
          rw (product_marked (i * a.states + p) (j * a.states + q) k l, digits_div i lp, digits_mod i lp, digits_div j lq, digits_mod j lq)
              (and_make (eqb_self j) e),
        )

    -- and each initial state is a node of the starts
    initial_starts : (p : ℕ) → a.initial p ≡ true → (p < nodes a u v) × (marked (starts a u v) p ≡ true)
    unfolding nodes
    initial_starts p e =
        let l = closed.initial p e in
        let inside = start_below u v o l in
        (inside, rw (starts_marked p inside, div-eq_of_lt l, mod-eq_of_lt l) e)

  -- the nodes that are reached from a start
  reached : List Bool
  reached = grown_nodes (nodes a u v) (nodes a u v) (product a u v) (starts a u v)

  -- what is asked of a node
  asked : ℕ → Bool
  asked x = (a.accepting (x % a.states) && marked reached x) && on_cycle (nodes a u v) (product a u v) x

  -- the search finds an accepting node on a cycle exactly where there is one
  found_node : takes? a u v ≡ true → AcceptingNode a Leads
  unfolding takes? asked reached on_cycle
  found_node h =
      let (n, g) : ℕ × List (List Bool) = (nodes a u v, product a u v) in
      let (x, l, e) = any_find n asked h in
      let both = and_l (on_cycle n g x) e in
      let (s, m, f, there) = (grown_right n g (starts a u v) x).0 (l, and_r (a.accepting (x % a.states)) both) in
      let (y, k, d, again) = (grown_right n g (row g x) x).0 (l, and_r (a.accepting (x % a.states) && marked reached x) e) in
      record {
        start = s;
        node = x;
        behind = y;
        begins = starts_initial s m f;
        reached = there;
        accepts = and_l (marked reached x) both;
        leaves = (l, k, d);
        returns = again;
      }

  node_found : Closed a → 1 ≤ length v → AcceptingNode a Leads → takes? a u v ≡ true
  unfolding takes? asked reached on_cycle
  node_found closed o f =
      let (n, g, x) : ℕ × List (List Bool) × ℕ = (nodes a u v, product a u v, f.node) in
      let (m, e) = initial_starts closed o f.start f.begins in
      let (l, there) = (grown_right n g (starts a u v) x).1 (f.start, m, e, f.reached) in
      let (_, k, d) = f.leaves in
      let (_, again) = (grown_right n g (row g x) x).1 (f.behind, k, d, f.returns) in
      any_make n asked x l (and_make (and_make f.accepts there) again)

  -- so it finds an accepting cycle exactly where there is one
  pub takes_found : Closed a → 1 ≤ length v → (takes? a u v ≡ true) ↔ AcceptingCycle a u v
  takes_found closed o =
      let (out, back) = product_cycle closed u v o Leads leads_out (edge_leads closed o) in
      ((λ h. out (found_node h)), (λ c. node_found closed o (back c)))

  -- the decision answers true exactly if the automaton has an accepting run over the lasso
  pub takes_right : Closed a → 1 ≤ length v → (takes? a u v ≡ true) ↔ Takes a (letter_at u v)
  takes_right closed o = ((λ h. cycle_takes closed o ((takes_found closed o).0 h)), (λ t. (takes_found closed o).1 (takes_cycle o t)))

  pub takes_not : Closed a → 1 ≤ length v → takes? a u v ≡ false → Takes a (letter_at u v) → ⊥
  takes_not closed o h t = clash ((takes_right closed o).1 t) h

  -- so it is decided whether it has one
  pub takes_or_not : Closed a → 1 ≤ length v → Takes a (letter_at u v) ⊎ (Takes a (letter_at u v) → ⊥)
  takes_or_not closed o =
      elim (either (takes? a u v)) [
        | inl h ↦ inl ((takes_right closed o).0 h)
        | inr h ↦ inr (λ t. takes_not closed o h t)
      ]
