-- Laws of the inner search: following a node's edges turns its black targets red and lets them wait; the waiting nodes are
-- emptied until all red nodes lead to red nodes only, or a grey one is met. Assumes nothing.
use mathlib.Core.Path.{◌≡◌, refl, sym, ◌∙◌}
use mathlib.Core.Bool.{Bool, true, false}
use mathlib.Core.List.{List}
use mathlib.Core.Logic.{◌⊎◌, inl, inr}
use Prim.Native.Nat.{ℕ, suc, ◌+◌, ◌*◌, ◌≤◌, ◌<◌}
use native.Mathlib.Omega.{arith}
use lib.ListN.{length}
use Rattle.basics.specs.Star.{stay, onward}
use Rattle.basics.proofs.Booleans.{same_or, below_or}
use Rattle.basics.proofs.Bounded.{one_entry_more}
use Rattle.lasso_search.specs.Graph.{Graph, Arc, Bounded, Way}
use Rattle.lasso_search.specs.Search.{colour, waiting, blacks, Redder, RedClosed, InnerAsks, InnerSays, SpreadOver, NoneLeft, Waiting, Since, Drained, met, none}
use Rattle.lasso_search.specs.Width.{Width, white, grey, black, red}
use Rattle.lasso_search.proofs.Colours.{coloured_le, coloured_less, redder_same, redder_redder, stays_red, was_grey, was_white, was_black, was_finished, stays_visited, red_or_new}
use Rattle.lasso_search.proofs.Stores.{Reddens}

-- ONE NODE'S EDGES
pub spread_start :
    {wd : Width} {n : ℕ} {To Left : ℕ → Type 0} {w : List ℕ} {a : ℕ} → ((y : ℕ) → Left y → To y) → ((y : ℕ) → To y → Left y) →
    SpreadOver wd n To Left w w a a
spread_start within all =
    record {
      redder = redder_same;
      rises = omega arith;
      room = omega arith;
      fewer = omega arith;
      old = λ i l. refl;
      inside = λ i l m. absurd (omega arith);
      targets = λ i l m. absurd (omega arith);
      reds = λ i l m. absurd (omega arith);
      waits = λ x l p q. absurd (omega arith);
      within = within;
      passed = λ y t. inl (all y t);
    }

module _ {wd : Width} {n : ℕ} {To Left Left' : ℕ → Type 0} {w w1 : List ℕ} {a b : ℕ} (h : SpreadOver wd n To Left w w1 a b)
    (below : (y : ℕ) → To y → y < n) (fewer : (y : ℕ) → Left' y → Left y) where
  -- targets that are white or red are passed by
  pub spread_skip :
      ((y : ℕ) → Left y → Left' y ⊎ ((colour wd w1 y ≡ white) ⊎ (colour wd w1 y ≡ red))) → SpreadOver wd n To Left' w w1 a b
  spread_skip rest =
      record {
        redder = h.redder;
        rises = h.rises;
        room = h.room;
        fewer = h.fewer;
        old = h.old;
        inside = h.inside;
        targets = h.targets;
        reds = h.reds;
        waits = h.waits;
        within = λ y l. h.within y (fewer y l);
        passed =
            λ y t.
            elim (h.passed y t) [
              | inl l ↦
                  elim (rest y l) [
                    | inl m ↦ inl m
                    | inr m ↦ elim m [ inl z ↦ inr (inl (was_white h.redder y (below y t) z)) | inr z ↦ inr (inr z) ]
                  ]
              | inr l ↦ inr l
            ];
      }

  -- a black target turns red and waits
  module _ {w2 : List ℕ} {y : ℕ} (is_black : colour wd w1 y ≡ black) (target : To y) (e : Reddens wd n w1 w2 y b)
      (rest : (z : ℕ) → Left z → Left' z ⊎ (z ≡ y)) where
    push_redder : Redder wd n w1 w2
    push_redder =
        record {
          turned =
              λ x l.
              elim (same_or x y) [ inl s ↦ inr (rw s is_black, rw s e.here) | inr ne ↦ inl (e.others x l ne) ];
          stack = e.stack;
          cursors = e.cursors;
        }

    pub push_blacks : blacks wd n w2 < blacks wd n w1
    push_blacks =
        coloured_less wd black n w1 w2 (was_black push_redder) y (below y target) is_black (λ z. let k = e.here in omega arith)

    push_place : (i : ℕ) → i < suc b → ((i ≡ b) × (waiting n w2 i ≡ y)) ⊎ ((i < b) × (waiting n w2 i ≡ waiting n w1 i))
    push_place = one_entry_more e.last e.before

    pub spread_push : SpreadOver wd n To Left' w w2 a (suc b)
    spread_push =
        record {
          redder = redder_redder h.redder push_redder;
          rises = let k = h.rises in omega arith;
          room = let k = h.room in let j = push_blacks in omega arith;
          fewer = let k = h.fewer in let j = push_blacks in omega arith;
          old = λ i l. e.before i (let k = h.rises in omega arith) ∙ h.old i l;
          inside =
              λ i l m.
              elim (push_place i m) [ inl s ↦ rw s.1 (below y target) | inr s ↦ rw s.1 (h.inside i l s.0) ];
          targets =
              λ i l m. elim (push_place i m) [ inl s ↦ rw s.1 target | inr s ↦ rw s.1 (h.targets i l s.0) ];
          reds =
              λ i l m.
              elim (push_place i m) [
                | inl s ↦ rw s.1 e.here
                | inr s ↦ rw s.1 (stays_red push_redder (waiting n w1 i) (h.inside i l s.0) (h.reds i l s.0))
              ];
          waits =
              λ x l p q.
              elim (same_or x y) [
                | inl s ↦ (b, h.rises, (omega arith), e.last ∙ sym s)
                | inr ne ↦
                    let r = h.waits x l p (sym (e.others x l ne) ∙ q) in
                    (r.0, r.1, (let z = r.2 in omega arith), e.before r.0 r.2 ∙ r.3)
              ];
          within = λ z l. h.within z (fewer z l);
          passed =
              λ z t.
              elim (h.passed z t) [
                | inl l ↦
                    elim (rest z l) [ inl m ↦ inl m | inr s ↦ inr (inr (rw s e.here)) ]
                | inr l ↦
                    elim l [ inl m ↦ inr (inl m) | inr m ↦ inr (inr (stays_red push_redder z (below z t) m)) ]
              ];
        }

-- THE WAITING NODES
module _ {wd : Width} {g : Graph} (closed : Bounded g) where
  -- once its edges were followed, all targets of a node are red
  spread_reds :
      {To : ℕ → Type 0} {w w1 : List ℕ} {a b : ℕ} → SpreadOver wd g.size To NoneLeft w w1 a b → ((y : ℕ) → To y → grey ≤ colour wd w y) →
      (y : ℕ) → To y → colour wd w1 y ≡ red
  spread_reds {w = w} {w1 = w1} h visited y t =
      elim (h.passed y t) [
        | inl l ↦ elim l [ ]
        | inr l ↦ elim l [ inl z ↦ absurd (let k = visited y t in omega arith) | inr z ↦ z ]
      ]

  -- what the inner search begins with
  module _ {s : ℕ} {w w1 : List ℕ} {b : ℕ} (asks : InnerAsks wd g s w) (same : length w1 ≡ length w)
      (h : SpreadOver wd g.size (Arc g s) NoneLeft w w1 0 b) where
    pub waiting_start : Waiting wd g w1 b
    waiting_start =
        record {
          long = let k = asks.long in omega arith;
          room = let k = h.room in let j = coloured_le wd black g.size w in omega arith;
          inside = λ i l. h.inside i (omega arith) l;
          reds = λ i l. h.reds i (omega arith) l;
          finished =
              λ x y l o t.
              stays_visited h.redder y (closed.edge x y l t) (asks.finished x y l (was_finished h.redder x l o) t);
          waits =
              λ x l k.
              elim (red_or_new h.redder x l k) [
                | inl r ↦ inr (λ y t. stays_red h.redder y (closed.edge x y l t) (asks.closed.edges x y l r t))
                | inr r ↦ let q = h.waits x l r k in inl (q.0, q.2, q.3)
              ];
        }

    pub inner_none :
        {w2 : List ℕ} → Redder wd g.size w1 w2 → RedClosed wd g w2 → InnerSays wd g s w w2 false
    inner_none r c =
        none (redder_redder h.redder r) c
        (λ y t. stays_red r y (closed.edge s y asks.inside t) (spread_reds h asks.begun y t))

    pub inner_met :
        {w2 : List ℕ} (i y : ℕ) → i < b → Way g (waiting g.size w1 i) y → y < g.size → colour wd w1 y ≡ grey →
        InnerSays wd g s w w2 true
    inner_met i y l p m k =
        met y (waiting g.size w1 i) (h.targets i (omega arith) l) p m (was_grey h.redder y m k)

    pub inner_says : {w2 : List ℕ} {r : Bool} → Drained wd g w1 w2 b r → InnerSays wd g s w w2 r
    inner_says (met i y l p m k) = inner_met i y l p m k
    inner_says (none r c) = inner_none r c

  -- one waiting node less, and its black targets more
  module _ {w w1 : List ℕ} {k b : ℕ} (q : Waiting wd g w (suc k)) (same : length w1 ≡ length w)
      (h : SpreadOver wd g.size (Arc g (waiting g.size w k)) NoneLeft w w1 k b) where
    red_again :
        (x : ℕ) → x < g.size → colour wd w x ≡ red →
        ((i : ℕ) × (i < b) × (waiting g.size w1 i ≡ x)) ⊎ ((y : ℕ) → Arc g x y → colour wd w1 y ≡ red)
    red_again x l c =
        elim (q.waits x l c) [
          | inl r ↦
              elim (same_or r.0 k) [
                | inl s ↦
                    let x_is : waiting g.size w k ≡ x = rw s at r.2 in
                    inr
                    (λ y t.
                    spread_reds h
                    (λ z u. q.finished (waiting g.size w k) z (q.inside k (omega arith)) (let j = q.reds k (omega arith) in omega arith) u)
                    y (rw x_is t))
                | inr ne ↦
                    let lt : r.0 < k = (let z = r.1 in omega arith) in
                    inl (r.0, (let j = h.rises in omega arith), h.old r.0 lt ∙ r.2)
              ]
          | inr r ↦ inr (λ y t. stays_red h.redder y (closed.edge x y l t) (r y t))
        ]

    pub waiting_step : Waiting wd g w1 b
    waiting_step =
        record {
          long = let j = q.long in omega arith;
          room = let i = h.room in let j = q.room in omega arith;
          inside =
              λ i l.
              elim (below_or i k) [
                | inl lt ↦ rw (h.old i lt) (q.inside i (omega arith))
                | inr ge ↦ h.inside i ge l
              ];
          reds =
              λ i l.
              elim (below_or i k) [
                | inl lt ↦ rw (h.old i lt) (stays_red h.redder (waiting g.size w i) (q.inside i (omega arith)) (q.reds i (omega arith)))
                | inr ge ↦ h.reds i ge l
              ];
          finished =
              λ x y l o t.
              stays_visited h.redder y (closed.edge x y l t) (q.finished x y l (was_finished h.redder x l o) t);
          waits =
              λ x l c.
              elim (red_or_new h.redder x l c) [
                | inl r ↦ red_again x l r
                | inr r ↦ let p = h.waits x l r c in inl (p.0, p.2, p.3)
              ];
        }

    -- the measure of the inner search falls
    pub waiting_less : 2 * blacks wd g.size w1 + b < 2 * blacks wd g.size w + suc k
    waiting_less = let i = h.room in let j = h.fewer in omega arith

    pub since_step : {w0 : List ℕ} {b0 : ℕ} → Since wd g w0 b0 w (suc k) → Since wd g w0 b0 w1 b
    since_step {w0} {b0} s =
        record {
          redder = redder_redder s.redder h.redder;
          origin =
              λ i l.
              elim (below_or i k) [
                | inl lt ↦ rw (h.old i lt) (s.origin i (omega arith))
                | inr ge ↦
                    let o = s.origin k (omega arith) in
                    (o.0, o.1, onward (waiting g.size w1 i) o.2 (h.targets i ge l))
              ];
        }

pub since_start : {wd : Width} {g : Graph} {w : List ℕ} {b : ℕ} → Since wd g w b w b
since_start = record { redder = redder_same; origin = λ i l. (i, l, stay) }

-- a grey node that the last waiting node leads to
pub drained_met :
    {wd : Width} {g : Graph} {w0 w w1 : List ℕ} {b0 k : ℕ} → Since wd g w0 b0 w (suc k) → (y : ℕ) → Arc g (waiting g.size w k) y →
    y < g.size → colour wd w y ≡ grey → Drained wd g w0 w1 b0 true
drained_met {k = k} s y t l c =
    let o = s.origin k (omega arith) in met o.0 y o.1 (onward y o.2 t) l (was_grey s.redder y l c)

-- no node waits: red nodes lead to red nodes
pub waiting_none : {wd : Width} {g : Graph} {w : List ℕ} → Waiting wd g w 0 → RedClosed wd g w
waiting_none q =
    record {
      edges =
          λ x y l c t.
          elim (q.waits x l c) [ inl r ↦ absurd (let z = r.1 in omega arith) | inr r ↦ r y t ];
    }
