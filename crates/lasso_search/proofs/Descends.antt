-- Laws of one step of the outer search: a white target of the stack's top enters, and the top's cursor moves on. Assumes nothing.
use mathlib.Core.Path.{◌≡◌, refl, sym, ◌∙◌, ap}
use mathlib.Core.Bool.{true, false}
use mathlib.Core.List.{List}
use mathlib.Core.Logic.{◌⊎◌, inl, inr}
use Prim.Native.Nat.{ℕ, suc, ◌+◌, ◌*◌, ◌-◌, ◌^◌, ◌≤◌, ◌<◌}
use native.Mathlib.Omega.{arith}
use lib.ListN.{get_or, set}
use Rattle.std.specs.Prelude.{Option, Some, None}
use Rattle.basics.specs.Star.{onward}
use Rattle.tables.specs.Table.{n_of, m_of, head_of}
use Rattle.lasso_search.specs.Graph.{Arc, Bounded, NodeReached}
use Rattle.lasso_search.specs.Product.{product_graph}
use Rattle.lasso_search.specs.Search.{colour, stacked, cursor, risen, entered, advanced, StackPlace, Search}
use Rattle.lasso_search.specs.Steps.{Given, EnterAsks, TopAsks, Descended, deeper, all_visited}
use Rattle.lasso_search.specs.Walks.{graph, EdgesOf, AheadOf, NextWhite, WhiteAt, no_white, white_at}
use Rattle.lasso_search.specs.Width.{Width, width_16, white, grey}
use Rattle.lasso_search.specs.declared.edges.Edges.{Edges}
use Rattle.lasso_search.specs.declared.product.Product.{Product}
use Rattle.lasso_search.proofs.Colours.{coloured_one, grows_grows, grows_whites}
use Rattle.lasso_search.proofs.Given.{given_bounded, given_head, given_first}
use Rattle.lasso_search.proofs.Outer.{enter_grows, enter_whites, enter_keeps, advance_grows, advance_keeps}
use Rattle.lasso_search.proofs.Stores.{Enters, enters, Advances, advances}
use Rattle.lasso_search.proofs.Walks.{to_graph, from_graph}

-- ENTERING, as it is written
module _ {wd : Width} {w : List ℕ} {n x r d : ℕ} (a : EnterAsks wd w n x r d) where
  pub entered_is : {w1 : List ℕ} → w1 ≡ risen wd w x (grey - white) → set (set w1 (n + d) x) (2 * n + d) r ≡ entered wd n w x r d
  unfolding entered
  entered_is up = rw up

-- a white target that was found
pub white_some :
    {wd : Width} {w : List ℕ} {e e1 : Edges} {r : Option ℕ} {y : ℕ} → NextWhite wd w e e1 r → r ≡ Some y → WhiteAt wd w e y e1
white_some (no_white f) z = cc
white_some {y = y} (white_at {x = x} s) z = let is : y ≡ x = cc in rw is s

-- THE TOP of the stack
module _ {wd : Width} {t u v w : List ℕ} {states size x depth : ℕ} (g : Given wd t u v states size)
    (a : TopAsks wd (product_graph t u v) w x depth) where
  top_index : depth - 1 < depth
  top_index = let o = a.from_one in omega arith

  cursor_is : get_or w (2 * size + (depth - 1)) 0 ≡ cursor (product_graph t u v).size w (depth - 1)
  unfolding cursor
  cursor_is = rw g.sized

  -- its place: its node, and what its cursor holds
  top_place : StackPlace wd (product_graph t u v) w x (get_or w (2 * size + (depth - 1)) 0)
  top_place = rw (a.top, cursor_is) (a.search.stack.places (depth - 1) top_index)

  pub top_inside : x < (product_graph t u v).size
  top_inside = top_place.inside

  pub top_grey : colour wd w x ≡ grey
  top_grey = rw a.top (a.search.greys (depth - 1) top_index)

  top_fits : depth - 1 < (product_graph t u v).size
  top_fits = let k = a.search.room in let o = top_index in omega arith

  pub cursor_to : get_or w (2 * size + (depth - 1)) 0 ≤ m_of t
  unfolding product_graph
  cursor_to = top_place.number_to

bounded : (p : Product) → Bounded (graph p)
bounded p = given_bounded p.given

module _ (p : Product) {w : List ℕ} {x depth : ℕ} (a : TopAsks width_16 (graph p) w x depth) {e e1 : Edges}
    (h : EdgesOf p x (get_or w (2 * p.size + (depth - 1)) 0) e) where
  -- no white node is ahead: all targets are visited
  pub none_white : {r : Option ℕ} → NextWhite width_16 w e e1 r → r ≡ None → Descended width_16 (graph p) w w x depth false
  none_white (no_white f) z =
      all_visited refl
      (λ y k.
      elim ((top_place p.given a).ahead y k) [ inl o ↦ o | inr o ↦ f y (rw h.at (from_graph h y o)) ])
  none_white (white_at s) z = cc

  -- the next white target enters
  module _ {y : ℕ} (s : WhiteAt width_16 w e y e1) where
    to_edge : Arc (graph p) x y
    to_edge = (top_place p.given a).on_chain y (to_graph h y (rw h.at at s.step.ahead))

    to_inside : y < (graph p).size
    to_inside = (bounded p).edge x y (top_inside p.given a) to_edge

    pub to_size : y < p.size
    to_size = let k = to_inside in let q = p.given.sized in omega arith

    pub to_state : y - e1.base < p.table.states
    to_state =
        let b = s.step.goes_on.base in
        let f = s.step.from_base in
        let t = s.step.to_state in
        let n : e.product.table.states ≡ p.table.states = ap (λ q. q.table.states) h.product in omega arith

    to_below : y - e1.base < n_of p.table.words.now
    to_below = let t = to_state in let c = p.table.counted in omega arith

    to_room : depth < (graph p).size
    to_room =
        let k = coloured_one width_16 white (graph p).size w y to_inside s.to_white in
        let j = a.search.room in omega arith

    pub to_asks : {first : ℕ} → first < 2 ^ width_16.work_bits → EnterAsks width_16 w p.size y first depth
    to_asks fits =
        let q = p.given.sized in
        record {
          is_white = s.to_white;
          first_fits = fits;
          inside = to_size;
          room = let k = to_room in omega arith;
          long = let k = a.search.long in omega arith;
        }

    -- and then the cursor moves on
    module _ {first : ℕ} (is_first : first ≡ head_of p.table.words.now (y - e1.base)) {w1 : List ℕ}
        (is_entered : w1 ≡ entered width_16 p.size w y first depth) where
      to_first : first ≡ (graph p).first y
      to_first =
          let b = s.step.goes_on.base in
          let f = s.step.from_base in
          let back : e.base + (y - e1.base) ≡ y = omega arith in
          rw (← back) (is_first ∙ sym (given_head p.given (top_inside p.given a) h.letter h.base to_below))

      to_enters : Enters width_16 (graph p).size w w1 y ((graph p).first y) depth
      to_enters =
          let up : w1 ≡ entered width_16 (graph p).size w y ((graph p).first y) depth = rw (p.given.sized, to_first) at is_entered in
          rw up
          (enters width_16 (graph p).size w y ((graph p).first y) depth a.search.long to_inside to_room s.to_white)

      to_reached : NodeReached (graph p) y
      to_reached =
          let from = a.search.reached x (top_inside p.given a) (let k = top_grey p.given a in omega arith) in
          record { start = from.start; begins = from.begins; way = onward y from.way to_edge }

      first_to : (graph p).first y ≤ (graph p).last
      unfolding product_graph
      first_to = given_first p.given to_inside (rw p.given.counted)

      to_linked : (i : ℕ) → suc i ≡ depth → Arc (graph p) (stacked (graph p).size w i) y
      to_linked i q =
          let top : depth - 1 ≡ i = omega arith in
          let k : x ≡ stacked (graph p).size w i = rw top at a.top in rw (← k) to_edge

      deeper_search : Search width_16 (graph p) w1 (suc depth)
      deeper_search = enter_keeps (bounded p) a.search to_inside s.to_white to_enters to_reached first_to to_linked

      -- the place of the top is what it was
      kept_top : stacked (graph p).size w1 (depth - 1) ≡ x
      kept_top = to_enters.below (depth - 1) (top_index p.given a) ∙ sym a.top

      kept_cursor : cursor (graph p).size w1 (depth - 1) ≡ get_or w (2 * p.size + (depth - 1)) 0
      kept_cursor = to_enters.cursors (depth - 1) (top_index p.given a) ∙ sym (cursor_is p.given a)

      next_advances : Advances width_16 (graph p).size w1 (set w1 (2 * p.size + (depth - 1)) e1.at) (depth - 1) e1.at
      unfolding advanced
      next_advances =
          rw p.given.sized (advances width_16 (graph p).size w1 (depth - 1) e1.at deeper_search.long (top_fits p.given a))

      next_to : e1.at ≤ (graph p).last
      unfolding product_graph
      next_to =
          let k = e1.number_to in
          let q : m_of e1.product.table.words.now ≡ m_of p.table.words.now = ap (λ q. m_of q.table.words.now) (s.step.goes_on.product ∙ h.product) in
          omega arith

      -- what is ahead of the cursor now
      ahead_now : (z : ℕ) → AheadOf e1 z → (graph p).Ahead x e1.at z
      ahead_now z k = to_graph h z (rw (s.step.goes_on.product, s.step.goes_on.letter, s.step.goes_on.base) at k)

      now_ahead : (z : ℕ) → (graph p).Ahead x e1.at z → AheadOf e1 z
      now_ahead z k = rw (s.step.goes_on.product, s.step.goes_on.letter, s.step.goes_on.base) (from_graph h z k)

      next_fewer : (z : ℕ) → (graph p).Ahead x e1.at z → (graph p).Ahead x (cursor (graph p).size w1 (depth - 1)) z
      next_fewer z k = rw kept_cursor (to_graph h z (rw h.at at (s.step.goes_on.was_ahead z (now_ahead z k))))

      next_passed :
          (z : ℕ) → (graph p).Ahead x (cursor (graph p).size w1 (depth - 1)) z →
          (grey ≤ colour width_16 w1 z) ⊎ (graph p).Ahead x e1.at z
      next_passed z k =
          let from : (graph p).Ahead x (get_or w (2 * p.size + (depth - 1)) 0) z = rw kept_cursor at k in
          elim (s.others z (rw h.at (from_graph h z from))) [
            | inl o ↦
                inl
                ((enter_grows (bounded p) a.search to_inside s.to_white to_enters).stays z
                ((bounded p).edge x z (top_inside p.given a) ((top_place p.given a).on_chain z from))
                o)
            | inr o ↦
                elim o [
                  | inl q ↦ inl (let c = to_enters.here in rw q (omega arith))
                  | inr q ↦ inr (ahead_now z q)
                ]
          ]

      pub next_deeper : Descended width_16 (graph p) w (set w1 (2 * p.size + (depth - 1)) e1.at) x depth true
      next_deeper =
          deeper (advance_keeps (bounded p) deeper_search next_advances kept_top next_to next_fewer next_passed)
          (grows_grows (enter_grows (bounded p) a.search to_inside s.to_white to_enters)
          (advance_grows (bounded p) deeper_search next_advances))
          (let f = enter_whites (bounded p) a.search to_inside s.to_white to_enters in
          let q = grows_whites (advance_grows (bounded p) deeper_search next_advances) in omega arith)
