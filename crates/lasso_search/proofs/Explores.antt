-- Laws of the outer search as its functions see it: a node is finished, the stack is emptied, and all states are tried.
-- Assumes nothing.
use mathlib.Core.Path.{◌≡◌, refl, sym, ◌∙◌, ap}
use mathlib.Core.Bool.{Bool, true, false}
use mathlib.Core.List.{List}
use mathlib.Core.Logic.{inl, inr}
use Prim.Native.Nat.{ℕ, suc, ◌+◌, ◌*◌, ◌-◌, ◌/◌, ◌^◌, ◌≤◌, ◌<◌}
use native.Mathlib.Omega.{arith}
use native.Mathlib.Nat.{mod-eq_of_lt, zero-mul}
use native.Mathlib.Numerals.{add-one}
use lib.Arith.{digits_lt}
use lib.ListN.{length, get_or}
use Rattle.basics.specs.Star.{stay}
use Rattle.basics.proofs.Booleans.{clash, and_l, ltb_lt, same_or}
use Rattle.automata.specs.Lasso.{positions}
use Rattle.automata.proofs.Positions.{next_below}
use Rattle.tables.specs.Table.{n_of, head_of, is_initial}
use Rattle.lasso_search.specs.Graph.{Graph, Arc, Bounded}
use Rattle.lasso_search.specs.Product.{product_graph}
use Rattle.lasso_search.specs.Search.{colour, stacked, whites, risen, entered, Search, Grows, InnerAsks, InnerSays, met, none}
use Rattle.lasso_search.specs.Steps.{Given, TopAsks, Descended, deeper, all_visited, Finished, closes, turns_black, turns_red, EnterAsks, Explored, found, exhausted, TryAsks, TrySays, tried, Searched, nothing}
use Rattle.lasso_search.specs.Width.{Width, white, grey, black, red, word_colours}
use Rattle.lasso_search.proofs.Colours.{grows_grows, grows_same, grows_whites, stays_grey}
use Rattle.lasso_search.proofs.Descends.{top_inside, top_grey}
use Rattle.lasso_search.proofs.Given.{size_is, given_bounded, given_first}
use Rattle.lasso_search.proofs.Outer.{enter_grows, enter_keeps, none_found, LeftOff, black_leaves, red_leaves, grey_cycle}
use Rattle.lasso_search.proofs.Stores.{recolours, Enters, enters}
use Rattle.lasso_search.proofs.Width.{colour_word}

-- A FINISHED NODE
module _ {wd : Width} {g : Graph} {w : List ℕ} {x : ℕ} {b : Bool} (is : b ≡ g.accepts x) where
  pub finish_black : b ≡ false → {w1 : List ℕ} → w1 ≡ risen wd w x (black - grey) → Finished wd g x w w1 false
  finish_black e up = turns_black (sym is ∙ e) up

  pub finish_closes : b ≡ true → {w1 : List ℕ} {r : Bool} → InnerSays wd g x w w1 r → r ≡ true → Finished wd g x w w1 true
  finish_closes e h f = closes (sym is ∙ e) (rw f at h)

pub finish_red :
    {wd : Width} {g : Graph} {w w1 w2 : List ℕ} {x : ℕ} {r : Bool} → length w1 ≡ length w → InnerSays wd g x w w1 r → r ≡ false →
    w2 ≡ risen wd w1 x (red - grey) → Finished wd g x w w2 false
finish_red {w1 = w1} s h e up = turns_red w1 s (rw e at h) up

-- THE STACK IS EMPTIED: the invariant
pub record Exploring (wd : Width) (g : Graph) (w w_now : List ℕ) (depth : ℕ) : Type 0 where
  pub search : Search wd g w_now depth
  pub grows : Grows wd g.size w w_now

module _ {wd : Width} {t u v w : List ℕ} {states size : ℕ} (g : Given wd t u v states size) {w1 : List ℕ} {depth : ℕ}
    (h : Exploring wd (product_graph t u v) w w1 depth) where
  pub exploring_end : depth ≤ 0 → Explored wd (product_graph t u v) w w1 false
  exploring_end l = let e : depth ≡ 0 = omega arith in exhausted (rw e at h.search) h.grows

  module _ (o : 0 < depth) where
    top_is : get_or w1 (size + (depth - 1)) 0 ≡ stacked (product_graph t u v).size w1 (depth - 1)
    unfolding stacked
    top_is = rw g.sized

    pub exploring_top : TopAsks wd (product_graph t u v) w1 (get_or w1 (size + (depth - 1)) 0) depth
    exploring_top = record { search = h.search; from_one = o; top = top_is }

-- DEEPER
module _ {wd : Width} {t u v w : List ℕ} {states size : ℕ} (g : Given wd t u v states size) {w1 w2 : List ℕ} {depth : ℕ}
    (h : Exploring wd (product_graph t u v) w w1 depth) where
  pub exploring_deeper :
      {x : ℕ} {r : Bool} → Descended wd (product_graph t u v) w1 w2 x depth r → r ≡ true → Exploring wd (product_graph t u v) w w2 (depth + 1)
  exploring_deeper (deeper s k l) e =
      record {
        search = rw (add-one depth) s;
        grows = grows_grows h.grows k;
      }
  exploring_deeper (all_visited s f) e = absurd (clash e refl)

-- FINISHED: the top, all of whose targets are visited, in a search that has gone on since the words w
pub record Finishing (wd : Width) (g : Graph) (w w_now : List ℕ) (x depth : ℕ) : Type 0 where
  pub top : TopAsks wd g w_now x depth
  pub done : (y : ℕ) → Arc g x y → grey ≤ colour wd w_now y
  pub grows : Grows wd g.size w w_now

pub finishing_start :
    {wd : Width} {t u v w : List ℕ} {states size : ℕ} (g : Given wd t u v states size) {w1 w2 : List ℕ} {depth : ℕ} {r : Bool} →
    Exploring wd (product_graph t u v) w w1 depth → 0 < depth →
    Descended wd (product_graph t u v) w1 w2 (get_or w1 (size + (depth - 1)) 0) depth r → r ≡ false →
    Finishing wd (product_graph t u v) w w2 (get_or w1 (size + (depth - 1)) 0) depth
finishing_start g h o (deeper s k l) e = absurd (clash refl e)
finishing_start g h o (all_visited s f) e =
    rw s (record { top = exploring_top g h o; done = f; grows = h.grows })

pub finishing_same :
    {wd : Width} {g : Graph} {w1 w2 : List ℕ} {x depth : ℕ} {r : Bool} → Descended wd g w1 w2 x depth r → r ≡ false → w2 ≡ w1
finishing_same (deeper s g l) e = absurd (clash refl e)
finishing_same (all_visited s f) e = s

module _ {wd : Width} {t u v w : List ℕ} {states size : ℕ} (g : Given wd t u v states size) {w1 : List ℕ} {x depth : ℕ}
    (h : Finishing wd (product_graph t u v) w w1 x depth) where
  bounded : Bounded (product_graph t u v)
  bounded = given_bounded g

  -- the search, with its top told apart
  search_top : Search wd (product_graph t u v) w1 (suc (depth - 1))
  search_top =
      let above : depth ≡ suc (depth - 1) = (let o = h.top.from_one in omega arith) in rw above at h.top.search

  pub finishing_asks : InnerAsks wd (product_graph t u v) x w1
  finishing_asks =
      let s = h.top.search in
      record {
        long = s.long;
        inside = top_inside g h.top;
        from_grey = top_grey g h.top;
        begun = h.done;
        finished = s.finished;
        closed = s.closed;
      }

  -- the top closes a cycle
  pub finishing_found :
      {w2 : List ℕ} {r : Bool} → Finished wd (product_graph t u v) x w1 w2 r → r ≡ true → Explored wd (product_graph t u v) w w2 true
  finishing_found (closes a (met y z t p b c)) e =
      found (grey_cycle bounded search_top y z (rw h.top.top at t) p b c (rw h.top.top at a))
  finishing_found (turns_black a s) e = absurd (clash e refl)
  finishing_found (turns_red w' l i s) e = absurd (clash e refl)

  -- or it leaves the stack
  finishing_off : {w2 : List ℕ} {r : Bool} → Finished wd (product_graph t u v) x w1 w2 r → r ≡ false → LeftOff wd (product_graph t u v) w1 w2 (depth - 1)
  finishing_off (closes a i) e = absurd (clash refl e)
  finishing_off (turns_black a s) e =
      black_leaves bounded search_top h.top.top h.done a
      (rw s (recolours wd (product_graph t u v).size w1 x 1 search_top.long (top_inside g h.top) (top_grey g h.top) (omega arith)))
  finishing_off (turns_red w' l (none r c f) s) e =
      red_leaves bounded search_top h.top.top l r c f
      (rw s
      (recolours wd (product_graph t u v).size w' x 2 (let k = search_top.long in omega arith) (top_inside g h.top)
      (stays_grey r x (top_inside g h.top) (top_grey g h.top))
      (omega arith)))

  pub finishing_left :
      {w2 : List ℕ} {r : Bool} → Finished wd (product_graph t u v) x w1 w2 r → r ≡ false →
      Exploring wd (product_graph t u v) w w2 (depth - 1)
  finishing_left f e =
      let k = finishing_off f e in
      record {
        search = k.search;
        grows = grows_grows h.grows k.grows;
      }

  pub finishing_less :
      {w0 w2 : List ℕ} {r : Bool} → w1 ≡ w0 → Finished wd (product_graph t u v) x w1 w2 r → r ≡ false →
      2 * whites wd size w2 + (depth - 1) < 2 * whites wd size w0 + depth
  finishing_less s f e =
      let k = grows_whites (finishing_off f e).grows in
      let o = h.top.from_one in rw (g.sized, ← s) (omega arith)

-- ONE STATE at the first position
module _ {wd : Width} {t u v w : List ℕ} {states size q : ℕ} (g : Given wd t u v states size)
    (a : TryAsks wd (product_graph t u v) w states q) where
  try_below : q < n_of t
  try_below = let b = a.inside in let e = g.counted in omega arith

  -- its node is the state's own number
  try_inside : q < (product_graph t u v).size
  try_inside =
      let z : 0 < positions u v = (let b = next_below u v g.endless 0 in omega arith) in
      let k = digits_lt {q = 0} {r = q} z try_below in
      let s = size_is t u v in
      let o = zero-mul (n_of t) in omega arith

  pub try_word : q / word_colours wd < length w
  try_word = colour_word wd (let k = try_inside in let l = a.search.long in omega arith)

  pub not_initial : {b : Bool} → b ≡ (product_graph t u v).starts q → b ≡ false → TrySays wd (product_graph t u v) w w q false
  not_initial is e = tried a.search grows_same (λ s. absurd (clash s (sym is ∙ e)))

  pub not_white : {c : ℕ} → c ≡ colour wd w q → (c ≡ white → ⊥) → TrySays wd (product_graph t u v) w w q false
  not_white is ne = tried a.search grows_same (λ s. omega arith)

  module _ {c : ℕ} (is_colour : c ≡ colour wd w q) (is_white : c ≡ white) where
    try_white : colour wd w q ≡ white
    try_white = sym is_colour ∙ is_white

    pub try_enter : {first : ℕ} → first < 2 ^ wd.work_bits → EnterAsks wd w size q first 0
    try_enter fits =
        let s = g.sized in
        let b = try_inside in
        record {
          is_white = try_white;
          first_fits = fits;
          inside = omega arith;
          room = omega arith;
          long = let k = a.search.long in omega arith;
        }

    module _ {b : Bool} (is : b ≡ (product_graph t u v).starts q) (initial : b ≡ true) {first : ℕ} (is_first : first ≡ head_of t q)
        {w1 : List ℕ} (is_entered : w1 ≡ entered wd size w q first 0) where
      first_is : first ≡ (product_graph t u v).first q
      unfolding product_graph
      first_is = is_first ∙ sym (ap (head_of t) (mod-eq_of_lt try_below))

      try_enters : Enters wd (product_graph t u v).size w w1 q ((product_graph t u v).first q) 0
      try_enters =
          let e : w1 ≡ entered wd (product_graph t u v).size w q ((product_graph t u v).first q) 0 =
          rw (g.sized, first_is) at is_entered in
          rw e
          (enters wd (product_graph t u v).size w q ((product_graph t u v).first q) 0 a.search.long try_inside (let b = try_inside in omega arith) try_white)

      try_starts : (product_graph t u v).starts q ≡ true
      try_starts = sym is ∙ initial

      try_first : (product_graph t u v).first q ≤ (product_graph t u v).last
      unfolding product_graph
      try_first = given_first g try_inside (rw g.counted)

      pub try_search : Search wd (product_graph t u v) w1 1
      try_search =
          enter_keeps (given_bounded g) a.search try_inside try_white try_enters
          (record { start = q; begins = try_starts; way = stay }) try_first (λ i e. absurd (omega arith))

      pub try_end : {w2 : List ℕ} {r : Bool} → Explored wd (product_graph t u v) w1 w2 r → TrySays wd (product_graph t u v) w w2 q r
      try_end (found f) = found f
      try_end (exhausted s k) =
          tried s (grows_grows (enter_grows (given_bounded g) a.search try_inside try_white try_enters) k)
          (λ e. k.stays q try_inside (let m = try_enters.here in omega arith))

-- ALL STATES: the invariant
pub record Trying (wd : Width) (g : Graph) (w w_now : List ℕ) (q : ℕ) : Type 0 where
  pub search : Search wd g w_now 0
  pub tried : (p : ℕ) → p < q → g.starts p ≡ true → grey ≤ colour wd w_now p

module _ {wd : Width} {t u v w : List ℕ} {states size : ℕ} (g : Given wd t u v states size) {w1 : List ℕ} {q : ℕ}
    (h : Trying wd (product_graph t u v) w w1 q) where
  pub trying_found : {w2 : List ℕ} {r : Bool} → TrySays wd (product_graph t u v) w1 w2 q r → r ≡ true → Searched (product_graph t u v) true
  trying_found (found f) e = found f
  trying_found (tried s k f) e = absurd (clash e refl)

  pub trying_turn :
      {w2 : List ℕ} {r : Bool} → TrySays wd (product_graph t u v) w1 w2 q r → r ≡ false →
      Trying wd (product_graph t u v) w w2 (q + 1)
  trying_turn (found f) e = absurd (clash refl e)
  trying_turn (tried s k f) e =
      record {
        search = s;
        tried =
            λ p l b.
            elim (same_or p q) [
              | inl z ↦ rw z (f (rw z at b))
              | inr ne ↦ k.stays p ((given_bounded g).start p b) (h.tried p (omega arith) b)
            ];
      }

  starts_below : states ≤ q → (p : ℕ) → (product_graph t u v).starts p ≡ true → p < q
  unfolding product_graph
  starts_below l p b = let k = ltb_lt p (n_of t) (and_l (is_initial t p) b) in let e = g.counted in omega arith

  pub trying_end : states ≤ q → Searched (product_graph t u v) false
  trying_end l =
      nothing (none_found (given_bounded g) h.search (λ p b. h.tried p (starts_below l p b) b))
