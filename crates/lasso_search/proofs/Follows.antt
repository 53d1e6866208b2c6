-- Laws of the inner search's first two functions: one edge followed, and all edges of a node. Assumes nothing.
use mathlib.Core.Path.{◌≡◌, refl, sym, ◌∙◌}
use mathlib.Core.List.{List}
use mathlib.Core.Logic.{◌⊎◌, inl, inr}
use Prim.Native.Nat.{ℕ, ◌+◌, ◌*◌, ◌-◌, ◌≤◌, ◌<◌}
use native.Mathlib.Omega.{arith}
use native.Mathlib.Numerals.{add-one}
use lib.ListN.{length, set}
use Rattle.std.specs.Prelude.{Option, Some, None}
use Rattle.basics.proofs.Booleans.{same_or}
use Rattle.lasso_search.specs.Graph.{Graph, Arc, Bounded}
use Rattle.lasso_search.specs.Search.{colour, risen, reddened, SpreadOver, SpreadSays, met, spread}
use Rattle.lasso_search.specs.Steps.{FollowAsks, FollowSays, grey_met, black_met, other_met, SpreadAsks}
use Rattle.lasso_search.specs.Walks.{graph, first_at, EdgesOf, AheadOf, Stepped, NoneAhead}
use Rattle.lasso_search.specs.Width.{Width, white, grey, black, red}
use Rattle.lasso_search.specs.declared.edges.Edges.{Edges}
use Rattle.lasso_search.specs.declared.product.Product.{Product}
use Rattle.lasso_search.proofs.Colours.{colour_to, coloured_one, was_grey}
use Rattle.lasso_search.proofs.Inner.{spread_start, spread_skip, spread_push}
use Rattle.lasso_search.proofs.Stores.{reddens}
use Rattle.lasso_search.proofs.Walks.{to_graph, from_graph, node_arc, arc_node}

-- ONE EDGE, as it is followed
module _ {wd : Width} {w : List ℕ} {size y wait : ℕ} (a : FollowAsks wd size w y wait) where
  pub follow_room : colour wd w y ≡ black → wait < size
  follow_room e = let k = coloured_one wd black size w y a.inside e in let l = a.room in omega arith

-- a target by its colour
pub follow_grey : {wd : Width} {w w' : List ℕ} {size y wait : ℕ} → colour wd w y ≡ grey → FollowSays wd size y w w' wait None
follow_grey e = grey_met e

pub follow_other :
    {wd : Width} {w : List ℕ} {size y wait : ℕ} → (colour wd w y ≡ white) ⊎ (colour wd w y ≡ red) → FollowSays wd size y w w wait (Some wait)
follow_other (inl z) = other_met (λ e. omega arith) (λ e. omega arith) refl
follow_other (inr z) = other_met (λ e. omega arith) (λ e. omega arith) refl

pub follow_black :
    {wd : Width} {w w1 : List ℕ} {size y wait : ℕ} → colour wd w y ≡ black → w1 ≡ risen wd w y (red - black) →
    FollowSays wd size y w (set w1 (3 * size + wait) y) wait (Some (wait + 1))
unfolding reddened
follow_black e up = black_met e (rw up)

-- ALL EDGES OF A NODE: the invariant of the walk
pub record Spreading (wd : Width) (g : Graph) (w : List ℕ) (node wait : ℕ) (e : Edges) (w_now : List ℕ) (count : ℕ) : Type 0 where
  pub same : length w_now ≡ length w
  pub spread : SpreadOver wd g.size (Arc g node) (AheadOf e) w w_now wait count

-- the walk begins with all edges of the node
pub spreading_start :
    {wd : Width} {w : List ℕ} {node wait : ℕ} (p : Product) {e : Edges} → EdgesOf p node (first_at p node) e →
    Spreading wd (graph p) w node wait e w wait
spreading_start {node = node} p h =
    record {
      same = refl;
      spread =
          spread_start (λ y k. node_arc p node y (to_graph h y (rw h.at at k)))
          (λ y k. rw h.at (from_graph h y (arc_node p node y k)));
    }

module _ {wd : Width} {g : Graph} (closed : Bounded g) {w : List ℕ} {node wait : ℕ} (asks : SpreadAsks wd g w node wait) {e : Edges} {w1 : List ℕ}
    {count : ℕ} (h : Spreading wd g w node wait e w1 count) where
  below : (y : ℕ) → Arc g node y → y < g.size
  below y = closed.edge node y asks.inside

  -- the walk ends
  pub spreading_end : NoneAhead e → SpreadSays wd g.size (Arc g node) w w1 wait (Some count)
  spreading_end n =
      spread (spread_skip h.spread below (λ y l. elim l [ ]) (λ y l. absurd (n.none y l)))

  -- or it goes on
  module _ {e_now : Edges} {x : ℕ} (s : Stepped e x e_now) where
    target : Arc g node x
    target = h.spread.within x s.step.ahead

    pub spreading_follow : FollowAsks wd g.size w1 x count
    spreading_follow =
        record {
          inside = below x target;
          long = let k = h.same in let j = asks.long in omega arith;
          room = let k = h.spread.room in let j = asks.room in omega arith;
        }

    -- a grey node is met
    pub spreading_met :
        {w2 w3 : List ℕ} {r : Option ℕ} → FollowSays wd g.size x w1 w2 count r → r ≡ None → SpreadSays wd g.size (Arc g node) w w3 wait None
    spreading_met (grey_met c) z = met x target (below x target) (was_grey h.spread.redder x (below x target) c)
    spreading_met (black_met c up) z = cc
    spreading_met (other_met f k up) z = cc

    passed_by :
        ((y : ℕ) → AheadOf e y → AheadOf e_now y ⊎ ((colour wd w1 y ≡ white) ⊎ (colour wd w1 y ≡ red))) →
        Spreading wd g w node wait e_now w1 count
    passed_by rest =
        record { same = h.same; spread = spread_skip h.spread below s.step.goes_on.was_ahead rest }

    pub spreading_turn :
        {w2 : List ℕ} {r : Option ℕ} {k : ℕ} → length w2 ≡ length w1 → FollowSays wd g.size x w1 w2 count r → r ≡ Some k →
        Spreading wd g w node wait e_now w2 k
    spreading_turn same (grey_met c) z = cc
    spreading_turn {w2} {k = k} same (black_met c up) z =
        let is : count + 1 ≡ k = cc in
        let long : 4 * g.size ≤ length w1 = (let i = h.same in let j = asks.long in omega arith) in
        record {
          same = same ∙ h.same;
          spread =
              rw (sym is, add-one count)
              (spread_push h.spread below s.step.goes_on.was_ahead c target
              (rw up (reddens wd g.size w1 x count long (below x target) (follow_room spreading_follow c) c))
              (λ y l. elim (s.others y l) [ inl q ↦ inr q | inr q ↦ inl q ]));
        }
    spreading_turn {k = k} same (other_met f b up) z =
        let is : count ≡ k = cc in
        rw (up, sym is)
        (passed_by
        (λ y l.
        elim (s.others y l) [
          | inl q ↦
              let c = colour_to wd w1 x in
              elim (same_or (colour wd w1 x) white) [
                | inl z ↦ inr (inl (rw q z))
                | inr z ↦ inr (inr (rw q (omega arith)))
              ]
          | inr q ↦ inl q
        ]))
