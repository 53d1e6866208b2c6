-- The state of the search in the work words, and its invariant. Assumes nothing: these are definitions.
use Rattle.std.specs.Prelude.{◌≡◌, Bool, true, false, List, Option, Some, None, ◌⊎◌, ℕ, suc, ◌+◌, ◌*◌, ◌-◌, ◌≤◌, ◌<◌, eqb, length, get_or, set}
use Rattle.basics.specs.Bounded.{count}
use Rattle.basics.specs.Packed.{packed, raised}
use Rattle.lasso_search.specs.Graph.{Graph, Arc, Way, NodeReached, Cycle}
use Rattle.lasso_search.specs.Width.{Width, white, grey, black, red, colours, word_colours}

-- THE WORK WORDS are four blocks of `size` words.
-- Block 0: in its first words the colours of the nodes, as many to a word as it holds
unfoldable pub colour : Width → (words : List ℕ) → (node : ℕ) → ℕ
colour wd w x = packed colours (word_colours wd) w x

-- Block 1: the stack of grey nodes
unfoldable pub stacked : (size : ℕ) → (words : List ℕ) → (index : ℕ) → ℕ
stacked n w i = get_or w (n + i) 0

-- Block 2: for each place of the stack, the record of its node's chain to look at next
unfoldable pub cursor : (size : ℕ) → (words : List ℕ) → (index : ℕ) → ℕ
cursor n w i = get_or w (2 * n + i) 0

-- Block 3: red nodes whose edges the inner search has yet to follow
unfoldable pub waiting : (size : ℕ) → (words : List ℕ) → (index : ℕ) → ℕ
waiting n w i = get_or w (3 * n + i) 0

-- how many nodes have a colour
unfoldable pub coloured : Width → (colour size : ℕ) → (words : List ℕ) → ℕ
coloured wd c n w = count n (λ x. eqb (colour wd w x) c)

-- how many are white, and black
abbrev pub whites : Width → (size : ℕ) → (words : List ℕ) → ℕ
whites wd n w = coloured wd white n w

abbrev pub blacks : Width → (size : ℕ) → (words : List ℕ) → ℕ
blacks wd n w = coloured wd black n w

-- THE STORES
-- the colour of a node rises by so much
unfoldable pub risen : Width → (words : List ℕ) → (node by : ℕ) → List ℕ
risen wd w x c = raised colours (word_colours wd) w x c

-- a white node turns grey, lies on the stack, and its cursor stands at its first record
unfoldable pub entered : Width → (size : ℕ) → (words : List ℕ) → (node first depth : ℕ) → List ℕ
entered wd n w x r d = set (set (risen wd w x (grey - white)) (n + d) x) (2 * n + d) r

-- the cursor of a place moves on
unfoldable pub advanced : (size : ℕ) → (words : List ℕ) → (index number : ℕ) → List ℕ
advanced n w i r = set w (2 * n + i) r

-- a black node turns red and waits
unfoldable pub reddened : Width → (size : ℕ) → (words : List ℕ) → (node wait : ℕ) → List ℕ
reddened wd n w x i = set (risen wd w x (red - black)) (3 * n + i) x

-- a place of the stack: a node, and the record of its chain that its cursor stands at; its targets are visited or still ahead
pub record StackPlace (wd : Width) (g : Graph) (w : List ℕ) (node number : ℕ) : Type 0 where
  pub inside : node < g.size
  pub number_to : number ≤ g.last
  pub on_chain : (y : ℕ) → g.Ahead node number y → Arc g node y
  pub ahead : (y : ℕ) → Arc g node y → (grey ≤ colour wd w y) ⊎ g.Ahead node number y

-- the stack: so many places, their nodes distinct, each with an edge to the next
pub record Stack (wd : Width) (g : Graph) (w : List ℕ) (depth : ℕ) : Type 0 where
  pub places : (i : ℕ) → i < depth → StackPlace wd g w (stacked g.size w i) (cursor g.size w i)
  pub distinct : (i j : ℕ) → i < j → j < depth → stacked g.size w i ≡ stacked g.size w j → ⊥
  pub linked : (i : ℕ) → suc i < depth → Arc g (stacked g.size w i) (stacked g.size w (suc i))

-- all edges of red nodes lead to red nodes
pub record RedClosed (wd : Width) (g : Graph) (w : List ℕ) : Type 0 where
  pub edges : (x y : ℕ) → x < g.size → colour wd w x ≡ red → Arc g x y → colour wd w y ≡ red

-- THE INVARIANT of the outer search, depth first: so many nodes are on the stack
pub record Search (wd : Width) (g : Graph) (w : List ℕ) (depth : ℕ) : Type 0 where
  pub long : 4 * g.size ≤ length w
  pub room : depth + whites wd g.size w ≤ g.size
  -- the grey nodes are those of the stack
  pub stack : Stack wd g w depth
  pub greys : (i : ℕ) → i < depth → colour wd w (stacked g.size w i) ≡ grey
  pub on_stack : (x : ℕ) → x < g.size → colour wd w x ≡ grey → (i : ℕ) × (i < depth) × (stacked g.size w i ≡ x)
  -- visited nodes, which are grey or more, are reached
  pub reached : (x : ℕ) → x < g.size → grey ≤ colour wd w x → NodeReached g x
  -- finished nodes, black or more: their targets are visited, those of red ones red, and no accepting one lies on a cycle
  pub finished : (x y : ℕ) → x < g.size → black ≤ colour wd w x → Arc g x y → grey ≤ colour wd w y
  pub closed : RedClosed wd g w
  pub fruitless : (x : ℕ) → x < g.size → black ≤ colour wd w x → g.accepts x ≡ true → Cycle g x → ⊥

-- what was visited stays visited
pub record Grows (wd : Width) (size : ℕ) (w w_now : List ℕ) : Type 0 where
  pub stays : (x : ℕ) → x < size → grey ≤ colour wd w x → grey ≤ colour wd w_now x

-- THE INNER SEARCH turns black nodes red and touches neither stack nor cursors
pub record Redder (wd : Width) (size : ℕ) (w w_now : List ℕ) : Type 0 where
  pub turned :
      (x : ℕ) → x < size → (colour wd w_now x ≡ colour wd w x) ⊎ ((colour wd w x ≡ black) × (colour wd w_now x ≡ red))
  pub stack : (i : ℕ) → i < size → stacked size w_now i ≡ stacked size w i
  pub cursors : (i : ℕ) → i < size → cursor size w_now i ≡ cursor size w i

-- what the inner search asks: its node is grey, its targets are visited, and so are those of finished nodes
pub record InnerAsks (wd : Width) (g : Graph) (s : ℕ) (w : List ℕ) : Type 0 where
  pub long : 4 * g.size ≤ length w
  pub inside : s < g.size
  pub from_grey : colour wd w s ≡ grey
  pub begun : (y : ℕ) → Arc g s y → grey ≤ colour wd w y
  pub finished : (x y : ℕ) → x < g.size → black ≤ colour wd w x → Arc g x y → grey ≤ colour wd w y
  pub closed : RedClosed wd g w

-- what it answers: a way over at least one edge to a grey node, or all that is reached so is red
pub data InnerSays (wd : Width) (g : Graph) (s : ℕ) (w w_now : List ℕ) : (met : Bool) → Type 0 where
  met : (y z : ℕ) → Arc g s z → Way g z y → y < g.size → colour wd w y ≡ grey → InnerSays wd g s w w_now true
  none :
      Redder wd g.size w w_now → RedClosed wd g w_now → ((y : ℕ) → Arc g s y → colour wd w_now y ≡ red) →
      InnerSays wd g s w w_now false

-- the edges of one node, followed: black targets turn red and wait; `Left` is what is left of its targets `To`
pub record SpreadOver (wd : Width) (size : ℕ) (To Left : ℕ → Type 0) (w w_now : List ℕ) (from to : ℕ) : Type 0 where
  pub redder : Redder wd size w w_now
  pub rises : from ≤ to
  pub room : to + blacks wd size w_now ≤ from + blacks wd size w
  pub fewer : blacks wd size w_now ≤ blacks wd size w
  pub old : (i : ℕ) → i < from → waiting size w_now i ≡ waiting size w i
  pub inside : (i : ℕ) → from ≤ i → i < to → waiting size w_now i < size
  pub targets : (i : ℕ) → from ≤ i → i < to → To (waiting size w_now i)
  pub reds : (i : ℕ) → from ≤ i → i < to → colour wd w_now (waiting size w_now i) ≡ red
  pub waits :
      (x : ℕ) → x < size → colour wd w x ≡ black → colour wd w_now x ≡ red →
      (i : ℕ) × (from ≤ i) × (i < to) × (waiting size w_now i ≡ x)
  pub within : (y : ℕ) → Left y → To y
  pub passed : (y : ℕ) → To y → Left y ⊎ ((colour wd w y ≡ white) ⊎ (colour wd w_now y ≡ red))

-- no target is left
pub data NoneLeft (y : ℕ) : Type 0 where

-- none where a grey node was met, else how many nodes wait now
pub data SpreadSays (wd : Width) (size : ℕ) (To : ℕ → Type 0) (w w_now : List ℕ) (from : ℕ) : (r : Option ℕ) → Type 0 where
  met : (y : ℕ) → To y → y < size → colour wd w y ≡ grey → SpreadSays wd size To w w_now from None
  spread : {to : ℕ} → SpreadOver wd size To NoneLeft w w_now from to → SpreadSays wd size To w w_now from (Some to)

-- THE INVARIANT of the inner search: so many red nodes wait, and the edges of all other red nodes lead to red nodes
pub record Waiting (wd : Width) (g : Graph) (w : List ℕ) (wait : ℕ) : Type 0 where
  pub long : 4 * g.size ≤ length w
  pub room : wait + blacks wd g.size w ≤ g.size
  pub inside : (i : ℕ) → i < wait → waiting g.size w i < g.size
  pub reds : (i : ℕ) → i < wait → colour wd w (waiting g.size w i) ≡ red
  pub finished : (x y : ℕ) → x < g.size → black ≤ colour wd w x → Arc g x y → grey ≤ colour wd w y
  pub waits :
      (x : ℕ) → x < g.size → colour wd w x ≡ red →
      ((i : ℕ) × (i < wait) × (waiting g.size w i ≡ x)) ⊎ ((y : ℕ) → Arc g x y → colour wd w y ≡ red)

-- every waiting node is reached from one that waited at first
pub record Since (wd : Width) (g : Graph) (w : List ℕ) (wait : ℕ) (w_now : List ℕ) (wait_now : ℕ) : Type 0 where
  pub redder : Redder wd g.size w w_now
  pub origin :
      (i : ℕ) → i < wait_now → (j : ℕ) × (j < wait) × Way g (waiting g.size w j) (waiting g.size w_now i)

-- what emptying the waiting nodes answers
pub data Drained (wd : Width) (g : Graph) (w w_now : List ℕ) (wait : ℕ) : (met : Bool) → Type 0 where
  met : (i y : ℕ) → i < wait → Way g (waiting g.size w i) y → y < g.size → colour wd w y ≡ grey → Drained wd g w w_now wait true
  none : Redder wd g.size w w_now → RedClosed wd g w_now → Drained wd g w w_now wait false
