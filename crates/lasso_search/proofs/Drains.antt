-- Laws of the inner search over the product: a node's edges followed, the waiting nodes emptied, and what a node meets.
-- Assumes nothing.
use mathlib.Core.Path.{◌≡◌}
use mathlib.Core.Bool.{Bool, true, false}
use mathlib.Core.List.{List}
use Prim.Native.Nat.{ℕ, suc, ◌+◌, ◌*◌, ◌-◌, ◌≤◌, ◌<◌}
use native.Mathlib.Omega.{arith}
use lib.ListN.{length, get_or}
use Rattle.std.specs.Prelude.{Option, Some, None}
use Rattle.basics.specs.Star.{stay}
use Rattle.lasso_search.specs.Graph.{Graph, Arc}
use Rattle.lasso_search.specs.Product.{product_graph}
use Rattle.lasso_search.specs.Search.{colour, waiting, blacks, InnerAsks, InnerSays, SpreadOver, NoneLeft, SpreadSays, Waiting, Since, Drained, met, none, spread}
use Rattle.lasso_search.specs.Steps.{Given, SpreadAsks}
use Rattle.lasso_search.specs.Width.{Width, grey, black}
use Rattle.lasso_search.proofs.Colours.{coloured_le}
use Rattle.lasso_search.proofs.Given.{given_bounded}
use Rattle.lasso_search.proofs.Inner.{waiting_start, waiting_step, waiting_less, waiting_none, since_start, since_step, drained_met, inner_says}

-- what following the edges of a node answers
module _ {wd : Width} {n : ℕ} {To : ℕ → Type 0} {w w' : List ℕ} {a : ℕ} where
  pub spread_some : {r : Option ℕ} → SpreadSays wd n To w w' a r → {to : ℕ} → r ≡ Some to → SpreadOver wd n To NoneLeft w w' a to
  spread_some (met y t l c) e = cc
  spread_some (spread {to = t} h) {to} e = let is : to ≡ t = cc in rw is h

  pub spread_none :
      {r : Option ℕ} → SpreadSays wd n To w w' a r → r ≡ None → (y : ℕ) × To y × (y < n) × (colour wd w y ≡ grey)
  spread_none (met y t l c) e = (y, t, l, c)
  spread_none (spread h) e = cc

-- THE WAITING NODES: the invariant of emptying them
pub record Draining (wd : Width) (g : Graph) (w : List ℕ) (wait : ℕ) (w_now : List ℕ) (count : ℕ) : Type 0 where
  pub waiting : Waiting wd g w_now count
  pub since : Since wd g w wait w_now count

pub draining_start : {wd : Width} {g : Graph} {w : List ℕ} {wait : ℕ} → Waiting wd g w wait → Draining wd g w wait w wait
draining_start a = record { waiting = a; since = since_start }

module _ {wd : Width} {t u v w : List ℕ} {states size wait : ℕ} (g : Given wd t u v states size) {w1 : List ℕ} {count : ℕ}
    (h : Draining wd (product_graph t u v) w wait w1 count) where
  -- the last waiting node
  module _ (o : 0 < count) where
    from_last : count ≡ suc (count - 1)
    from_last = omega arith

    waiting_last : Waiting wd (product_graph t u v) w1 (suc (count - 1))
    waiting_last = rw from_last at h.waiting

    since_last : Since wd (product_graph t u v) w wait w1 (suc (count - 1))
    since_last = rw from_last at h.since

    last_is : get_or w1 (3 * size + (count - 1)) 0 ≡ waiting (product_graph t u v).size w1 (count - 1)
    unfolding waiting
    last_is = rw g.sized

    pub last_asks : SpreadAsks wd (product_graph t u v) w1 (get_or w1 (3 * size + (count - 1)) 0) (count - 1)
    last_asks =
        rw last_is
        (record {
          inside = h.waiting.inside (count - 1) (omega arith);
          long = h.waiting.long;
          room = let k = h.waiting.room in omega arith;
        })

    module _ {w2 : List ℕ} {r : Option ℕ}
        (s : SpreadSays wd (product_graph t u v).size (Arc (product_graph t u v) (get_or w1 (3 * size + (count - 1)) 0)) w1 w2 (count - 1) r) where
      last_says : SpreadSays wd (product_graph t u v).size (Arc (product_graph t u v) (waiting (product_graph t u v).size w1 (count - 1))) w1 w2 (count - 1) r
      last_says = rw last_is at s

      -- one of its targets is grey
      pub draining_met : r ≡ None → {w3 : List ℕ} → Drained wd (product_graph t u v) w w3 wait true
      draining_met z = let m = spread_none last_says z in drained_met since_last m.0 m.1 m.2 m.3

      -- or the black ones wait now
      module _ {k : ℕ} (is : r ≡ Some k) (same : length w2 ≡ length w1) where
        last_spread : SpreadOver wd (product_graph t u v).size (Arc (product_graph t u v) (waiting (product_graph t u v).size w1 (count - 1))) NoneLeft w1 w2 (count - 1) k
        last_spread = spread_some last_says is

        pub draining_turn : Draining wd (product_graph t u v) w wait w2 k
        draining_turn =
            record {
              waiting = waiting_step (given_bounded g) waiting_last same last_spread;
              since = since_step (given_bounded g) waiting_last same last_spread since_last;
            }

        pub draining_less : 2 * blacks wd size w2 + k < 2 * blacks wd size w1 + count
        draining_less =
            let q = waiting_less (given_bounded g) waiting_last same last_spread in
            rw g.sized (omega arith)

  pub draining_end : count ≤ 0 → Drained wd (product_graph t u v) w w1 wait false
  draining_end z =
      let e : count ≡ 0 = omega arith in none h.since.redder (waiting_none (rw e at h.waiting))

-- WHAT A NODE MEETS
module _ {wd : Width} {t u v w : List ℕ} {states size x : ℕ} (g : Given wd t u v states size) (a : InnerAsks wd (product_graph t u v) x w) where
  pub meets_asks : SpreadAsks wd (product_graph t u v) w x 0
  meets_asks =
      record {
        inside = a.inside;
        long = a.long;
        room = let k = coloured_le wd black (product_graph t u v).size w in omega arith;
      }

  module _ {w1 : List ℕ} {r : Option ℕ} (s : SpreadSays wd (product_graph t u v).size (Arc (product_graph t u v) x) w w1 0 r) where
    pub meets_at_once : r ≡ None → {w2 : List ℕ} → InnerSays wd (product_graph t u v) x w w2 true
    meets_at_once z = let m = spread_none s z in met m.0 m.0 m.1 stay m.2 m.3

    module _ {k : ℕ} (is : r ≡ Some k) (same : length w1 ≡ length w) where
      first_spread : SpreadOver wd (product_graph t u v).size (Arc (product_graph t u v) x) NoneLeft w w1 0 k
      first_spread = spread_some s is

      pub meets_drain : Waiting wd (product_graph t u v) w1 k
      meets_drain = waiting_start (given_bounded g) a same first_spread

      pub meets_end : {w2 : List ℕ} {r : Bool} → Drained wd (product_graph t u v) w1 w2 k r → InnerSays wd (product_graph t u v) x w w2 r
      meets_end d = inner_says (given_bounded g) a same first_spread d
