-- Laws of walks along a node's edges: they end, their targets are nodes, and what the outer search passes by. Assumes nothing.
use mathlib.Core.Path.{◌≡◌, refl, sym, ◌∙◌, ap}
use mathlib.Core.List.{List}
use mathlib.Core.Logic.{◌⊎◌, inl, inr}
use Rattle.std.specs.Prelude.{None}
use Prim.Native.Nat.{ℕ, zero, suc, ◌+◌, ◌≤◌, ◌<◌}
use native.Mathlib.Omega.{arith}
use Rattle.tables.specs.Table.{m_of, letter_of, target_of, next_of, wide_range}
use Rattle.tables.proofs.Laws.{Valid}
use Rattle.lasso_search.specs.Graph.{Arc}
use Rattle.lasso_search.specs.Product.{ChainTo, here, later, product_graph}
use Rattle.lasso_search.specs.Walks.{graph, first_at, EdgesOf, AheadOf, GoesOn, Stepped, NoneAhead, from_record, records_ahead, WhiteAt, NextWhite, no_white}
use Rattle.lasso_search.specs.Search.{colour}
use Rattle.lasso_search.specs.Width.{Width, white, grey}
use Rattle.lasso_search.specs.declared.edges.Edges.{Edges}
use Rattle.lasso_search.specs.declared.product.Product.{Product}
use Rattle.lasso_search.proofs.Given.{given_valid}
use Rattle.lasso_search.proofs.ProductGraph.{chain_parts}

-- less with each record
from_less : (m x next : ℕ) → (x ≡ 0 → ⊥) → x ≤ m → (next ≡ 0) ⊎ (x < next) → from_record m next < from_record m x
from_less m zero next some l f = absurd (some refl)
from_less m (suc x) zero some l f = omega arith
from_less m (suc x) (suc y) some l (inl e) = absurd (omega arith)
from_less m (suc x) (suc y) some l (inr b) = omega arith

-- A NODE'S EDGES are the product's
module _ {p : Product} {x r : ℕ} {e : Edges} (h : EdgesOf p x r e) where
  pub to_graph : {q : ℕ} (y : ℕ) → ChainTo e.product.table.words.now e.letter e.base y q → (graph p).Ahead x q y
  unfolding product_graph
  to_graph y k = rw (h.product, h.letter, h.base, p.given.counted) at k

  pub from_graph : {q : ℕ} (y : ℕ) → (graph p).Ahead x q y → ChainTo e.product.table.words.now e.letter e.base y q
  unfolding product_graph
  from_graph y k = rw (h.product, h.letter, h.base, p.given.counted) k

-- and all of them hang on its first record
module _ (p : Product) (x y : ℕ) where
  pub node_arc : (graph p).Ahead x (first_at p x) y → Arc (graph p) x y
  unfolding product_graph
  node_arc k = rw p.given.counted at k

  pub arc_node : Arc (graph p) x y → (graph p).Ahead x (first_at p x) y
  unfolding product_graph
  arc_node k = rw p.given.counted k

-- A WALK that passed no target by
pub record Skipping (e e_now : Edges) : Type 0 where
  pub goes_on : GoesOn e e_now
  pub fewer : records_ahead e_now ≤ records_ahead e
  pub others : (y : ℕ) → AheadOf e y → AheadOf e_now y

-- to the next record
pub record NextRecord (e e_now : Edges) : Type 0 where
  pub product : e_now.product ≡ e.product
  pub letter : e_now.letter ≡ e.letter
  pub base : e_now.base ≡ e.base
  pub at : e_now.at ≡ next_of e.product.table.words.now e.at

module _ (e : Edges) (some : e.at ≡ 0 → ⊥) where
  sound : Valid wide_range e.product.table.words.now
  sound = given_valid e.product.given

  pub next_to : {next : ℕ} → next ≡ next_of e.product.table.words.now e.at → next ≤ m_of e.product.table.words.now
  next_to is = let k = sound.next e.at (omega arith) e.number_to in omega arith

  target_below : {q : ℕ} → q ≡ target_of e.product.table.words.now e.at → q < e.product.table.states
  target_below is =
      let k = sound.target e.at (omega arith) e.number_to in
      let c = e.product.given.counted in omega arith

  pub next_less :
      {next : ℕ} → next ≡ next_of e.product.table.words.now e.at → from_record (m_of e.product.table.words.now) next < records_ahead e
  next_less is =
      rw is
      (from_less (m_of e.product.table.words.now) e.at (next_of e.product.table.words.now e.at) some e.number_to (sound.rises e.at (omega arith) e.number_to))

pub skip_less :
    {e e1 : Edges} → Skipping e e1 → (e1.at ≡ 0 → ⊥) → {next : ℕ} → next ≡ next_of e1.product.table.words.now e1.at →
    from_record (m_of e1.product.table.words.now) next < records_ahead e
skip_less {e1 = e1} h some is = let k = next_less e1 some is in let f = h.fewer in omega arith

module _ {e e1 e2 : Edges} (h : Skipping e e1) (some : e1.at ≡ 0 → ⊥) (n : NextRecord e1 e2) where
  from_next : (y : ℕ) → AheadOf e2 y → ChainTo e1.product.table.words.now e1.letter e1.base y (next_of e1.product.table.words.now e1.at)
  from_next y k = rw (n.product, n.letter, n.base, n.at) at k

  to_next : (y : ℕ) → ChainTo e1.product.table.words.now e1.letter e1.base y (next_of e1.product.table.words.now e1.at) → AheadOf e2 y
  to_next y k = rw (n.product, n.letter, n.base, n.at) k

  skip_goes_on : GoesOn e e2
  skip_goes_on =
      record {
        product = n.product ∙ h.goes_on.product;
        letter = n.letter ∙ h.goes_on.letter;
        base = n.base ∙ h.goes_on.base;
        was_ahead = λ y k. h.goes_on.was_ahead y (later (omega arith) (from_next y k));
      }

  module _ {x : ℕ} (is : x ≡ letter_of e1.product.table.words.now e1.at) where
    -- a record on another letter is passed by
    pub skip_turn : (x ≡ e1.letter → ⊥) → Skipping e e2
    skip_turn ne =
        record {
          goes_on = skip_goes_on;
          fewer = let k = skip_less h some n.at in rw n.product (omega arith);
          others =
              λ y k.
              elim (chain_parts (h.others y k)) [ inl p ↦ absurd (ne (is ∙ p.0)) | inr p ↦ to_next y p ];
        }

    -- and one on the letter leads to a target
    pub skip_step : x ≡ e1.letter → {q : ℕ} → q ≡ target_of e1.product.table.words.now e1.at → Stepped e (e1.base + q) e2
    skip_step same {q} to =
        let b = h.goes_on.base in
        let l = target_below e1 some to in
        let s : e1.product.table.states ≡ e.product.table.states = ap (λ p. p.table.states) h.goes_on.product in
        record {
          step =
              record {
                goes_on = skip_goes_on;
                from_base = omega arith;
                to_state = omega arith;
                ahead = h.goes_on.was_ahead (e1.base + q) (here (omega arith) (sym is ∙ same) (rw to));
              };
          others =
              λ y k.
              elim (chain_parts (h.others y k)) [ inl p ↦ inl (sym p.1 ∙ rw to) | inr p ↦ inr (to_next y p) ];
        }

-- THE OUTER SEARCH along a node's edges: what was passed by is visited
pub record Passing (wd : Width) (w : List ℕ) (e e_now : Edges) : Type 0 where
  pub goes_on : GoesOn e e_now
  pub others : (y : ℕ) → AheadOf e y → (grey ≤ colour wd w y) ⊎ AheadOf e_now y

goes_on_on : {e e1 e2 : Edges} → GoesOn e e1 → GoesOn e1 e2 → GoesOn e e2
goes_on_on g h =
    record {
      product = h.product ∙ g.product;
      letter = h.letter ∙ g.letter;
      base = h.base ∙ g.base;
      was_ahead = λ y k. g.was_ahead y (h.was_ahead y k);
    }

module _ {wd : Width} {w : List ℕ} {e e1 e2 : Edges} (h : Passing wd w e e1) {x : ℕ} (s : Stepped e1 x e2) where
  pass_others : (y : ℕ) → AheadOf e y → (grey ≤ colour wd w y) ⊎ ((y ≡ x) ⊎ AheadOf e2 y)
  pass_others y k = elim (h.others y k) [ inl v ↦ inl v | inr v ↦ inr (s.others y v) ]

  -- a white one
  pub pass_white : {c : ℕ} → c ≡ colour wd w x → c ≡ white → WhiteAt wd w e x e2
  pass_white is z =
      let b = h.goes_on.base in
      let f = s.step.from_base in
      let l = s.step.to_state in
      let n : e1.product.table.states ≡ e.product.table.states = ap (λ p. p.table.states) h.goes_on.product in
      record {
        step =
            record {
              goes_on = goes_on_on h.goes_on s.step.goes_on;
              from_base = omega arith;
              to_state = omega arith;
              ahead = h.goes_on.was_ahead x s.step.ahead;
            };
        to_white = sym is ∙ z;
        others = pass_others;
      }

pub pass_end : {wd : Width} {w : List ℕ} {e e1 e2 : Edges} → Passing wd w e e1 → NoneAhead e1 → NextWhite wd w e e2 None
pass_end h n = no_white (λ y k. elim (h.others y k) [ inl v ↦ v | inr v ↦ absurd (n.none y v) ])
