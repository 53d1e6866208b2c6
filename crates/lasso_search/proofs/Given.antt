-- Laws of a table and a lasso that were not refused: the product is small, its nodes can be taken apart, and its edges read from
-- the table. Assumes nothing.
use mathlib.Core.Path.{◌≡◌, refl, ◌∙◌, ap}
use mathlib.Core.List.{List}
use Prim.Native.Nat.{ℕ, suc, ◌+◌, ◌*◌, ◌/◌, ◌%◌, ◌≤◌, ◌<◌}
use native.Mathlib.Omega.{arith}
use native.Mathlib.Nat.{mod-lt, mul-le-mul_right, suc-mul}
use lib.Arith.{digits_mod}
use lib.Dec.{eqb, leb}
use lib.ListN.{length}
use Rattle.basics.proofs.Booleans.{lt_ltb}
use Rattle.automata.specs.Lasso.{positions, next_position}
use Rattle.automata.proofs.Positions.{next_below}
use Rattle.tables.specs.Table.{wide_range, n_of, m_of, flags_of, head_of, is_initial, is_accepting, table_refusal}
use Rattle.tables.proofs.Laws.{Valid, valid}
use Rattle.lasso_search.specs.Graph.{Bounded}
use Rattle.lasso_search.specs.Product.{node_letter, node_base, product_graph}
use Rattle.lasso_search.specs.Steps.{Given}
use Rattle.lasso_search.specs.Width.{Width, width_16, Few}
use Rattle.lasso_search.proofs.Places.{position_inside}
use Rattle.lasso_search.proofs.ProductGraph.{product_bounded}
use Rattle.lasso_search.proofs.Width.{width_16_fits}

pub size_is : (t u v : List ℕ) → (product_graph t u v).size ≡ positions u v * n_of t
unfolding product_graph
size_is t u v = refl

module _ {wd : Width} {t u v : List ℕ} {states size : ℕ} (g : Given wd t u v states size) where
  pub given_valid : Valid wd.range t
  given_valid = valid wd.range t g.valid

  pub given_bounded : Bounded (product_graph t u v)
  given_bounded = product_bounded given_valid u v g.endless

  pub given_some : 1 ≤ n_of t
  given_some = given_valid.states_from

  -- nodes can be taken apart: there is a state, and their positions are those of the lasso
  pub given_states : 1 ≤ states
  given_states = let k = given_some in let e = g.counted in omega arith

  size_states : size ≡ positions u v * states
  size_states = rw g.counted (g.sized ∙ size_is t u v)

  pub given_position : {x : ℕ} → x < size → x / states < length u + length v
  given_position l = position_inside u v given_states (rw size_states at l)

  -- what the flags of a state say
  pub given_starts : {q f : ℕ} → q < states → f ≡ flags_of t q → eqb (f % 2) 1 ≡ (product_graph t u v).starts q
  unfolding product_graph is_initial
  given_starts {q} l is = let b : q < n_of t = (let e = g.counted in omega arith) in rw (is, lt_ltb b)

  pub given_accepts : (x : ℕ) {f : ℕ} → f ≡ flags_of t (x % states) → leb 2 f ≡ (product_graph t u v).accepts x
  unfolding product_graph is_accepting
  given_accepts x is = rw (is, g.counted)

  module _ {x : ℕ} (l : x < (product_graph t u v).size) where
    -- the next position
    module _ {letter base : ℕ} (is_letter : letter ≡ node_letter states u v x) (is_base : base ≡ node_base states u v x) where
      pub base_fits : base + states ≤ size
      unfolding node_base
      base_fits =
          let p = next_position u v (x / n_of t) in
          let k : suc p * n_of t ≤ positions u v * n_of t = mul-le-mul_right (n_of t) (next_below u v g.endless (x / n_of t)) in
          let e : base ≡ p * n_of t = rw g.counted at is_base in
          let z = suc-mul p (n_of t) in
          let s = size_is t u v in
          let q = g.sized in
          let c = g.counted in omega arith

      -- the first record of a node at the next position is that of its state
      pub given_head : {q : ℕ} → q < n_of t → (product_graph t u v).first (base + q) ≡ head_of t q
      unfolding product_graph node_base
      given_head b =
          let p = next_position u v (x / n_of t) in
          let e : base ≡ p * n_of t = rw g.counted at is_base in rw e (ap (head_of t) (digits_mod p b))

    pub given_first : {first : ℕ} → first ≡ head_of t (x % states) → first ≤ m_of t
    given_first e =
        let b : head_of t (x % states) ≤ m_of t = given_valid.head (x % states) (rw g.counted (mod-lt x given_some)) in omega arith

-- THE PRODUCT of a wide table that passed its check, where it is small enough
pub new_small :
    (t u v : List ℕ) → Few width_16.work_bits (positions u v * n_of t) → {states : ℕ} → states ≡ n_of t →
    Few width_16.work_bits ((length u + length v) * states)
unfolding positions
new_small t u v small e = rw e small

pub new_given :
    {t u v : List ℕ} → table_refusal wide_range t ≡ 0 → 1 ≤ length v → Few width_16.work_bits (positions u v * n_of t) → {states : ℕ} →
    states ≡ n_of t → Given width_16 t u v states ((length u + length v) * states)
unfolding positions product_graph
new_given {t} {u} {v} passed endless small e =
    let k = new_small t u v small e in
    record {
      valid = passed;
      counted = e;
      sized = rw e;
      endless = endless;
      small = k;
      machine = omega arith;
      records =
          let m = (valid wide_range t passed).records_to in let f = width_16_fits.records in omega arith;
    }
