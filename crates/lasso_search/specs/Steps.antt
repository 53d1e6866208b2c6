-- What the functions of the search ask and answer. Assumes nothing: these are definitions.
use Rattle.std.specs.Prelude.{◌≡◌, Bool, true, false, List, Option, Some, None, ℕ, suc, ◌+◌, ◌*◌, ◌-◌, ◌/◌, ◌^◌, ◌≤◌, ◌<◌, length}
use Rattle.tables.specs.Table.{n_of, m_of, table_refusal}
use Rattle.lasso_search.specs.Graph.{Graph, Arc, Found}
use Rattle.lasso_search.specs.Product.{product_graph}
use Rattle.lasso_search.specs.Search.{colour, stacked, whites, blacks, risen, reddened, Search, Grows, InnerSays}
use Rattle.lasso_search.specs.Width.{Width, machine_bits, white, grey, black, red, word_colours, Few}

-- A NODE TURNS from one colour into a later one
pub record TurnAsks (wd : Width) (w : List ℕ) (node from to : ℕ) : Type 0 where
  pub inside : node / word_colours wd < length w
  pub is_from : colour wd w node ≡ from
  pub rises : from ≤ to
  pub to_red : to ≤ red

-- ONE EDGE followed by the inner search, from so many waiting nodes on
pub record FollowAsks (wd : Width) (size : ℕ) (w : List ℕ) (target wait : ℕ) : Type 0 where
  pub inside : target < size
  pub long : 4 * size ≤ length w
  pub room : wait + blacks wd size w ≤ size

-- none where it is grey, else how many wait now: one more where it was black
pub data FollowSays (wd : Width) (size target : ℕ) (w w_now : List ℕ) (wait : ℕ) : (r : Option ℕ) → Type 0 where
  grey_met : colour wd w target ≡ grey → FollowSays wd size target w w_now wait None
  black_met :
      colour wd w target ≡ black → w_now ≡ reddened wd size w target wait → FollowSays wd size target w w_now wait (Some (wait + 1))
  other_met :
      (colour wd w target ≡ grey → ⊥) → (colour wd w target ≡ black → ⊥) → w_now ≡ w → FollowSays wd size target w w_now wait (Some wait)

-- ALL EDGES OF A NODE followed
pub record SpreadAsks (wd : Width) (g : Graph) (w : List ℕ) (node wait : ℕ) : Type 0 where
  pub inside : node < g.size
  pub long : 4 * g.size ≤ length w
  pub room : wait + blacks wd g.size w ≤ g.size

-- A TABLE AND A LASSO that were not refused
pub record Given (wd : Width) (t u v : List ℕ) (states size : ℕ) : Type 0 where
  pub valid : table_refusal wd.range t ≡ 0
  pub counted : states ≡ n_of t
  pub sized : size ≡ (product_graph t u v).size
  pub endless : 1 ≤ length v
  pub small : Few wd.work_bits size
  pub machine : Few machine_bits size
  pub records : m_of t < 2 ^ wd.work_bits

-- A WHITE NODE ENTERS
pub record EnterAsks (wd : Width) (w : List ℕ) (size node first depth : ℕ) : Type 0 where
  pub is_white : colour wd w node ≡ white
  pub first_fits : first < 2 ^ wd.work_bits
  pub inside : node < size
  pub room : depth < size
  pub long : 4 * size ≤ length w

-- THE TOP of the stack
pub record TopAsks (wd : Width) (g : Graph) (w : List ℕ) (node depth : ℕ) : Type 0 where
  pub search : Search wd g w depth
  pub from_one : 1 ≤ depth
  pub top : node ≡ stacked g.size w (depth - 1)

-- a white target of the top enters, or all its targets are visited
pub data Descended (wd : Width) (g : Graph) (w w_now : List ℕ) (node depth : ℕ) : (r : Bool) → Type 0 where
  deeper :
      Search wd g w_now (suc depth) → Grows wd g.size w w_now → whites wd g.size w_now < whites wd g.size w →
      Descended wd g w w_now node depth true
  all_visited : w_now ≡ w → ((y : ℕ) → Arc g node y → grey ≤ colour wd w y) → Descended wd g w w_now node depth false

-- a finished node turns black, or, if it accepts, red after an inner search that met no grey node
pub data Finished (wd : Width) (g : Graph) (node : ℕ) (w w_now : List ℕ) : (r : Bool) → Type 0 where
  closes : g.accepts node ≡ true → InnerSays wd g node w w_now true → Finished wd g node w w_now true
  turns_black : g.accepts node ≡ false → w_now ≡ risen wd w node (black - grey) → Finished wd g node w w_now false
  turns_red : (w_red : List ℕ) → length w_red ≡ length w → InnerSays wd g node w w_red false → w_now ≡ risen wd w_red node (red - grey) → Finished wd g node w w_now false

-- THE SEARCH from the nodes on the stack
pub data Explored (wd : Width) (g : Graph) (w w_now : List ℕ) : (r : Bool) → Type 0 where
  found : Found g → Explored wd g w w_now true
  exhausted : Search wd g w_now 0 → Grows wd g.size w w_now → Explored wd g w w_now false

-- and from one state at the first position, with an empty stack
pub record TryAsks (wd : Width) (g : Graph) (w : List ℕ) (states state : ℕ) : Type 0 where
  pub search : Search wd g w 0
  pub inside : state < states

-- its node is visited then, if it is initial
pub data TrySays (wd : Width) (g : Graph) (w w_now : List ℕ) (state : ℕ) : (r : Bool) → Type 0 where
  found : Found g → TrySays wd g w w_now state true
  tried :
      Search wd g w_now 0 → Grows wd g.size w w_now → (g.starts state ≡ true → grey ≤ colour wd w_now state) →
      TrySays wd g w w_now state false

-- and from all states
pub data Searched (g : Graph) : (r : Bool) → Type 0 where
  found : Found g → Searched g true
  nothing : (Found g → ⊥) → Searched g false
