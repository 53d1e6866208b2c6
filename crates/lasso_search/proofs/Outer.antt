-- Laws of the outer search: it begins with white nodes and an empty stack; each of its steps keeps the invariant; a grey node that
-- the inner search meets closes a cycle; and where the stack is empty and every start is visited, no accepting node that is reached
-- lies on a cycle. Assumes nothing.
use mathlib.Core.Path.{◌≡◌, sym, ◌∙◌, ap}
use mathlib.Core.Bool.{true, false}
use mathlib.Core.List.{List}
use mathlib.Core.Logic.{◌⊎◌, inl, inr}
use Prim.Native.Nat.{ℕ, suc, ◌*◌, ◌≤◌, ◌<◌}
use native.Mathlib.Omega.{arith}
use lib.ListN.{length}
use Rattle.basics.specs.Star.{stay, onward}
use Rattle.basics.proofs.Booleans.{clash, same_or}
use Rattle.basics.proofs.Bounded.{one_entry_more}
use Rattle.basics.proofs.Star.{star_keeps, star_star}
use Rattle.basics.proofs.Upward.{upward}
use Rattle.lasso_search.specs.Graph.{Graph, Arc, Bounded, Way, NodeReached, Cycle, Found}
use Rattle.lasso_search.specs.Search.{colour, stacked, cursor, whites, StackPlace, Stack, RedClosed, Search, Grows, Redder}
use Rattle.lasso_search.specs.Width.{Width, white, grey, black, red}
use Rattle.lasso_search.proofs.Colours.{coloured_le, coloured_less, grows_grows, grows_whites, stays_visited, stays_grey, was_grey, was_visited, was_finished}
use Rattle.lasso_search.proofs.Stores.{Recolours, Enters, Advances}

-- THE BEGINNING: all nodes are white, and the stack is empty
pub fresh : (wd : Width) (g : Graph) (w : List ℕ) → 4 * g.size ≤ length w → ((x : ℕ) → x < g.size → colour wd w x ≡ white) → Search wd g w 0
fresh wd g w long unseen =
    let unmet : (x : ℕ) → x < g.size → grey ≤ colour wd w x → ⊥ = λ x l o. (let k = unseen x l in omega arith) in
    record {
      long = long;
      room = let k = coloured_le wd white g.size w in omega arith;
      stack =
          record {
            places = λ i l. absurd (omega arith);
            distinct = λ i j l m. absurd (omega arith);
            linked = λ i l. absurd (omega arith);
          };
      greys = λ i l. absurd (omega arith);
      on_stack = λ x l k. absurd (unmet x l (omega arith));
      reached = λ x l o. absurd (unmet x l o);
      finished = λ x y l o. absurd (unmet x l (omega arith));
      closed = record { edges = λ x y l o. absurd (unmet x l (omega arith)) };
      fruitless = λ x l o. absurd (unmet x l (omega arith));
    }

-- what every edge hands on, every way does
way_keeps :
    {g : Graph} → Bounded g → (P : ℕ → Type 0) → ((x y : ℕ) → x < g.size → P x → Arc g x y → P y) → {x y : ℕ} → x < g.size → P x →
    Way g x y → (y < g.size) × P y
way_keeps {g} closed P f l k p =
    star_keeps (λ y. (y < g.size) × P y) (λ y z t (m, h). (closed.edge y z m t, f y z m h t)) (l, k) p

-- one node less on the stack
pub record LeftOff (wd : Width) (g : Graph) (w w' : List ℕ) (d : ℕ) : Type 0 where
  pub search : Search wd g w' d
  pub grows : Grows wd g.size w w'

-- THE STACK, or the lower part of it: the same nodes, each at a place again
stack_same :
    {wd : Width} {g : Graph} {w w' : List ℕ} {d d' : ℕ} → Stack wd g w d → d' ≤ d → ((i : ℕ) → i < d' → stacked g.size w' i ≡ stacked g.size w i) →
    ((i : ℕ) → i < d' → StackPlace wd g w' (stacked g.size w i) (cursor g.size w' i)) → Stack wd g w' d'
stack_same h l same place =
    record {
      places = λ i b. rw (same i b) (place i b);
      distinct = λ i j lt b s. h.distinct i j lt (omega arith) (sym (same i (omega arith)) ∙ s ∙ same j b);
      linked = λ i b. rw (same i (omega arith), same (suc i) b) (h.linked i (omega arith));
    }

module _ {wd : Width} {g : Graph} (closed : Bounded g) where
  -- a place stays one where visited nodes stay visited
  place_grows : {w w' : List ℕ} {x r : ℕ} → Grows wd g.size w w' → StackPlace wd g w x r → StackPlace wd g w' x r
  place_grows {x = x} e p =
      record {
        inside = p.inside;
        number_to = p.number_to;
        on_chain = p.on_chain;
        ahead =
            λ y t. elim (p.ahead y t) [ inl v ↦ inl (e.stays y (closed.edge x y p.inside t) v) | inr v ↦ inr v ];
      }

  -- A NODE ENTERS: a white node that is reached, with an edge from the top of the stack
  module _ {w w' : List ℕ} {d x : ℕ} (h : Search wd g w d) (l : x < g.size) (is_white : colour wd w x ≡ white) (e : Enters wd g.size w w' x (g.first x) d) where
    enter_colour : (y : ℕ) → y < g.size → (y ≡ x) ⊎ (colour wd w' y ≡ colour wd w y)
    enter_colour y b = elim (same_or y x) [ inl s ↦ inl s | inr ne ↦ inr (e.others y b ne) ]

    pub enter_grows : Grows wd g.size w w'
    enter_grows =
        record {
          stays =
              λ y b o.
              elim (enter_colour y b) [ inl s ↦ (let k = e.here in rw s (omega arith)) | inr s ↦ omega arith ];
        }

    pub enter_whites : whites wd g.size w' < whites wd g.size w
    enter_whites =
        coloured_less wd white g.size w w'
        (λ y b z. elim (enter_colour y b) [ inl s ↦ rw s is_white | inr s ↦ sym s ∙ z ])
        x l is_white (λ z. let k = e.here in omega arith)

    module _ (found : NodeReached g x) (small : g.first x ≤ g.last)
        (link : (i : ℕ) → suc i ≡ d → Arc g (stacked g.size w i) x) where
      -- nodes of the stack are grey, so that they are others
      other_stacked : (i : ℕ) → i < d → stacked g.size w i ≡ x → ⊥
      other_stacked i b s = let k = h.greys i b in let z : colour wd w x ≡ grey = rw s at k in omega arith

      kept_colour : (i : ℕ) → i < d → colour wd w' (stacked g.size w i) ≡ grey
      kept_colour i b = e.others (stacked g.size w i) (h.stack.places i b).inside (other_stacked i b) ∙ h.greys i b

      enter_place : (i : ℕ) → i < suc d → ((i ≡ d) × (stacked g.size w' i ≡ x)) ⊎ ((i < d) × (stacked g.size w' i ≡ stacked g.size w i))
      enter_place = one_entry_more e.top e.below

      enter_stack : Stack wd g w' (suc d)
      enter_stack =
          record {
            places =
                λ i b.
                elim (enter_place i b) [
                  | inl s ↦
                      let first : cursor g.size w' i ≡ g.first x = rw s.0 e.at_first in
                      rw (s.1, first) (record { inside = l; number_to = small; on_chain = λ y t. t; ahead = λ y t. inr t })
                  | inr s ↦ rw (s.1, e.cursors i s.0) (place_grows enter_grows (h.stack.places i s.0))
                ];
            distinct =
                λ i j lt b s.
                let li : i < d = omega arith in
                let below = e.below i li in
                elim (enter_place j b) [
                  | inl t ↦ other_stacked i li (sym below ∙ s ∙ t.1)
                  | inr t ↦ h.stack.distinct i j lt t.0 (sym below ∙ s ∙ t.1)
                ];
            linked =
                λ i b.
                let lt : i < d = omega arith in
                elim (enter_place (suc i) b) [
                  | inl s ↦ rw (s.1, e.below i lt) (link i s.0)
                  | inr s ↦ rw (s.1, e.below i lt) (h.stack.linked i s.0)
                ];
          }

      enter_found : (y : ℕ) → y < g.size → colour wd w' y ≡ grey → (i : ℕ) × (i < suc d) × (stacked g.size w' i ≡ y)
      enter_found y b k =
          elim (enter_colour y b) [
            | inl s ↦ (d, (omega arith), e.top ∙ sym s)
            | inr s ↦ let r = h.on_stack y b (sym s ∙ k) in (r.0, (let t = r.1 in omega arith), e.below r.0 r.1 ∙ r.2)
          ]

      enter_old : (y : ℕ) → y < g.size → black ≤ colour wd w' y → colour wd w' y ≡ colour wd w y
      enter_old y b o = e.others y b (λ s. let k = e.here in let z : black ≤ colour wd w' x = rw s at o in omega arith)

      enter_red : (y z : ℕ) → y < g.size → colour wd w' y ≡ red → Arc g y z → colour wd w' z ≡ red
      enter_red y z b o t =
          let k = h.closed.edges y z b (sym (enter_old y b (omega arith)) ∙ o) t in
          e.others z (closed.edge y z b t) (λ s. let q : colour wd w x ≡ red = rw s at k in omega arith) ∙ k

      pub enter_keeps : Search wd g w' (suc d)
      enter_keeps =
          record {
            long = let k = e.size in let j = h.long in omega arith;
            room = let k = h.room in let j = enter_whites in omega arith;
            stack = enter_stack;
            greys = λ i b. elim (enter_place i b) [ inl s ↦ rw s.1 e.here | inr s ↦ rw s.1 (kept_colour i s.0) ];
            on_stack = enter_found;
            reached =
                λ y b o. elim (enter_colour y b) [ inl s ↦ rw s found | inr s ↦ h.reached y b (omega arith) ];
            finished =
                λ y z b o t.
                enter_grows.stays z (closed.edge y z b t) (h.finished y z b (let k = enter_old y b o in omega arith) t);
            closed = record { edges = enter_red };
            fruitless = λ y b o. h.fruitless y b (let k = enter_old y b o in omega arith);
          }

  -- THE CURSOR MOVES ON: past records whose targets are visited
  module _ {w w' : List ℕ} {d p r : ℕ} (h : Search wd g w d) (e : Advances wd g.size w w' p r) where
    pub advance_grows : Grows wd g.size w w'
    advance_grows = record { stays = λ y b o. let k = e.colours y b in omega arith }

    pub advance_keeps :
        {x : ℕ} → stacked g.size w p ≡ x → r ≤ g.last →
        ((y : ℕ) → g.Ahead x r y → g.Ahead x (cursor g.size w p) y) →
        ((y : ℕ) → g.Ahead x (cursor g.size w p) y → (grey ≤ colour wd w y) ⊎ g.Ahead x r y) → Search wd g w' d
    advance_keeps {x} at_x small fewer passed =
        let fits : d ≤ g.size = (let k = h.room in omega arith) in
        let moved : StackPlace wd g w x (cursor g.size w p) → StackPlace wd g w x r =
        λ q.
        (record {
          inside = q.inside;
          number_to = small;
          on_chain = λ y k. q.on_chain y (fewer y k);
          ahead = λ y t. elim (q.ahead y t) [ inl v ↦ inl v | inr v ↦ passed y v ];
        }) in
        record {
          long = let k = e.size in let j = h.long in omega arith;
          room = let k = h.room in let j = grows_whites advance_grows in omega arith;
          stack =
              stack_same h.stack (omega arith) (λ i b. e.stack i (omega arith))
              (λ i b.
              let q = h.stack.places i b in
              place_grows advance_grows
              (elim (same_or i p) [
                | inl s ↦ rw (s, at_x, e.here) (moved (rw (s, at_x) at q))
                | inr ne ↦ rw (e.others i ne) q
              ]));
          greys = λ i b. rw (e.stack i (omega arith)) (e.colours (stacked g.size w i) (h.stack.places i b).inside ∙ h.greys i b);
          on_stack =
              λ y b k.
              let s = h.on_stack y b (sym (e.colours y b) ∙ k) in
              (s.0, s.1, e.stack s.0 (let t = s.1 in omega arith) ∙ s.2);
          reached = λ y b o. h.reached y b (let k = e.colours y b in omega arith);
          finished =
              λ y z b o t.
              advance_grows.stays z (closed.edge y z b t) (h.finished y z b (let k = e.colours y b in omega arith) t);
          closed =
              record {
                edges = λ y z b o t. e.colours z (closed.edge y z b t) ∙ h.closed.edges y z b (sym (e.colours y b) ∙ o) t;
              };
          fruitless = λ y b o. h.fruitless y b (let k = e.colours y b in omega arith);
        }

  -- THE TOP LEAVES the stack, black or red
  module _ {w w' : List ℕ} {d c : ℕ} (h : Search wd g w (suc d)) (e : Recolours wd g.size w w' (stacked g.size w d) c)
      (low : black ≤ c) where
    leave_colour : (y : ℕ) → (y ≡ stacked g.size w d) ⊎ (colour wd w' y ≡ colour wd w y)
    leave_colour y = elim (same_or y (stacked g.size w d)) [ inl s ↦ inl s | inr ne ↦ inr (e.others y ne) ]

    pub leave_grows : Grows wd g.size w w'
    leave_grows =
        record {
          stays =
              λ y b o. elim (leave_colour y) [ inl s ↦ (let k = e.here in rw s (omega arith)) | inr s ↦ omega arith ];
        }

    leave_other : (i : ℕ) → i < d → stacked g.size w i ≡ stacked g.size w d → ⊥
    leave_other i b = h.stack.distinct i d b (omega arith)

    module _ (done : (y : ℕ) → Arc g (stacked g.size w d) y → grey ≤ colour wd w y)
        (reds : c ≡ red → (y : ℕ) → Arc g (stacked g.size w d) y → colour wd w y ≡ red)
        (fruitless : g.accepts (stacked g.size w d) ≡ true → Cycle g (stacked g.size w d) → ⊥) where
      leave_found : (y : ℕ) → y < g.size → colour wd w' y ≡ grey → (i : ℕ) × (i < d) × (stacked g.size w' i ≡ y)
      leave_found y b k =
          let ne : (y ≡ stacked g.size w d → ⊥) =
          λ s. (let q = e.here in let z : colour wd w' (stacked g.size w d) ≡ grey = rw s at k in omega arith) in
          let r = h.on_stack y b (sym (e.others y ne) ∙ k) in
          let top : (r.0 ≡ d → ⊥) = λ s. ne (sym r.2 ∙ ap (stacked g.size w) s) in
          let lt : r.0 < d = (let t = r.1 in omega arith) in
          (r.0, lt, e.stack r.0 (let k = h.room in omega arith) ∙ r.2)

      leave_red : (y z : ℕ) → y < g.size → colour wd w' y ≡ red → Arc g y z → colour wd w' z ≡ red
      leave_red y z b o t =
          let was = h.greys d (omega arith) in
          let keep : colour wd w z ≡ red → colour wd w' z ≡ red =
          λ k. e.others z (λ s. let q : colour wd w (stacked g.size w d) ≡ red = rw s at k in omega arith) ∙ k in
          elim (leave_colour y) [
            | inl s ↦ keep (reds (sym e.here ∙ rw s at o) z (rw s at t))
            | inr s ↦ keep (h.closed.edges y z b (sym s ∙ o) t)
          ]

      pub leave_keeps : Search wd g w' d
      leave_keeps =
          let fits : suc d ≤ g.size = (let k = h.room in omega arith) in
          record {
            long = let k = e.size in let j = h.long in omega arith;
            room = let k = h.room in let j = grows_whites leave_grows in omega arith;
            stack =
                stack_same h.stack (omega arith) (λ i b. e.stack i (omega arith))
                (λ i b. rw (e.cursors i (omega arith)) (place_grows leave_grows (h.stack.places i (omega arith))));
            greys =
                λ i b. rw (e.stack i (omega arith)) (e.others (stacked g.size w i) (leave_other i b) ∙ h.greys i (omega arith));
            on_stack = leave_found;
            reached =
                λ y b o.
                elim (leave_colour y) [
                  | inl s ↦ rw s (h.reached (stacked g.size w d) (h.stack.places d (omega arith)).inside (let k = h.greys d (omega arith) in omega arith))
                  | inr s ↦ h.reached y b (omega arith)
                ];
            finished =
                λ y z b o t.
                leave_grows.stays z (closed.edge y z b t)
                (elim (leave_colour y) [ inl s ↦ done z (rw s at t) | inr s ↦ h.finished y z b (omega arith) t ]);
            closed = record { edges = leave_red };
            fruitless =
                λ y b o a q.
                elim (leave_colour y) [
                  | inl s ↦ fruitless (rw s at a) (rw s at q)
                  | inr s ↦ h.fruitless y b (omega arith) a q
                ];
          }

  -- THE INNER SEARCH in between keeps everything
  module _ {w w' : List ℕ} {d : ℕ} (h : Search wd g w d) (r : Redder wd g.size w w') where
    pub redder_grows : Grows wd g.size w w'
    redder_grows = record { stays = stays_visited r }

    pub redder_keeps : length w' ≡ length w → RedClosed wd g w' → Search wd g w' d
    redder_keeps same reds =
        let fits : d ≤ g.size = (let k = h.room in omega arith) in
        record {
          long = let j = h.long in omega arith;
          room = let k = h.room in let j = grows_whites redder_grows in omega arith;
          stack =
              stack_same h.stack (omega arith) (λ i b. r.stack i (omega arith))
              (λ i b. rw (r.cursors i (omega arith)) (place_grows redder_grows (h.stack.places i b)));
          greys = λ i b. rw (r.stack i (omega arith)) (stays_grey r (stacked g.size w i) (h.stack.places i b).inside (h.greys i b));
          on_stack =
              λ y b k.
              let s = h.on_stack y b (was_grey r y b k) in
              (s.0, s.1, r.stack s.0 (let t = s.1 in omega arith) ∙ s.2);
          reached = λ y b o. h.reached y b (was_visited r y b o);
          finished =
              λ y z b o t. redder_grows.stays z (closed.edge y z b t) (h.finished y z b (was_finished r y b o) t);
          closed = reds;
          fruitless = λ y b o. h.fruitless y b (was_finished r y b o);
        }

  -- a way from a red node leads to red nodes, so a node that is not red, and whose targets are red, lies on no cycle
  pub red_no_cycle :
      {w : List ℕ} {x : ℕ} → RedClosed wd g w → x < g.size → colour wd w x ≡ grey → ((y : ℕ) → Arc g x y → colour wd w y ≡ red) →
      Cycle g x → ⊥
  red_no_cycle {w} {x} c l k reds q =
      let s =
      way_keeps closed (λ y. colour wd w y ≡ red) c.edges (closed.edge x q.behind l q.leaves) (reds q.behind q.leaves) q.returns in
      let z = s.1 in omega arith

  -- THE TOP, FINISHED: black where it does not accept
  pub black_leaves :
      {w w' : List ℕ} {d x : ℕ} → Search wd g w (suc d) → x ≡ stacked g.size w d → ((y : ℕ) → Arc g x y → grey ≤ colour wd w y) →
      g.accepts x ≡ false → Recolours wd g.size w w' x black → LeftOff wd g w w' d
  black_leaves {w} {w'} {d} {x} h top done rejects e =
      let e' : Recolours wd g.size w w' (stacked g.size w d) black = rw top at e in
      record {
        search =
            leave_keeps h e' (omega arith) (rw top at done) (λ z. absurd (omega arith))
            (λ accepts cycle. clash accepts (rw top at rejects));
        grows = leave_grows h e' (omega arith);
      }

  -- red after an inner search that met no grey node: then all its targets are red, and it lies on no cycle
  pub red_leaves :
      {w w1 w' : List ℕ} {d x : ℕ} → Search wd g w (suc d) → x ≡ stacked g.size w d → length w1 ≡ length w → Redder wd g.size w w1 → RedClosed wd g w1 →
      ((y : ℕ) → Arc g x y → colour wd w1 y ≡ red) → Recolours wd g.size w1 w' x red → LeftOff wd g w w' d
  red_leaves {w} {w1} {w'} {d} {x} h top same r c reds e =
      let fits : d < g.size = (let k = h.room in omega arith) in
      let top1 : x ≡ stacked g.size w1 d = top ∙ sym (r.stack d fits) in
      let h1 = redder_keeps h r same c in
      let e' : Recolours wd g.size w1 w' (stacked g.size w1 d) red = rw top1 at e in
      let still : colour wd w1 x ≡ grey = rw top1 (h1.greys d (omega arith)) in
      let inside : x < g.size = rw top1 (h1.stack.places d (omega arith)).inside in
      let no_cycle : Cycle g x → ⊥ = red_no_cycle c inside still reds in
      let visited : (y : ℕ) → Arc g x y → grey ≤ colour wd w1 y = λ y t. (let k = reds y t in omega arith) in
      record {
        search =
            leave_keeps h1 e' (omega arith) (rw top1 at visited) (λ z. rw top1 at reds)
            (λ accepts. rw top1 at no_cycle);
        grows = grows_grows (redder_grows h r) (leave_grows h1 e' (omega arith));
      }

  -- A GREY NODE that the inner search meets: from it the stack leads on to the top
  stack_way : {w : List ℕ} {d : ℕ} → Search wd g w d → (i j : ℕ) → i ≤ j → j < d → Way g (stacked g.size w i) (stacked g.size w j)
  stack_way {w} {d} h i =
      upward (λ j. j < d → Way g (stacked g.size w i) (stacked g.size w j)) i (λ b. stay)
      (λ j l p b. onward (stacked g.size w (suc j)) (p (omega arith)) (h.stack.linked j b))

  pub grey_cycle :
      {w : List ℕ} {d : ℕ} → Search wd g w (suc d) → (y z : ℕ) → Arc g (stacked g.size w d) z → Way g z y → y < g.size →
      colour wd w y ≡ grey → g.accepts (stacked g.size w d) ≡ true → Found g
  grey_cycle {w} {d} h y z t p b k a =
      let s = h.on_stack y b k in
      let back : Way g y (stacked g.size w d) =
      rw s.2 at (stack_way h s.0 d (let m = s.1 in omega arith) (omega arith)) in
      record {
        node = stacked g.size w d;
        reached = h.reached (stacked g.size w d) (h.stack.places d (omega arith)).inside (let j = h.greys d (omega arith) in omega arith);
        accepts = a;
        cycle = record { behind = z; leaves = t; returns = star_star p back };
      }

  -- THE END: the stack is empty, so that every visited node is finished
  module _ {w : List ℕ} (h : Search wd g w 0) (all : (x : ℕ) → g.starts x ≡ true → grey ≤ colour wd w x) where
    not_grey : (x : ℕ) → x < g.size → grey ≤ colour wd w x → black ≤ colour wd w x
    not_grey x l o =
        elim (same_or (colour wd w x) grey) [
          | inl k ↦ absurd (let s = h.on_stack x l k in let z = s.1 in omega arith)
          | inr ne ↦ omega arith
        ]

    -- no accepting node that is reached lies on a cycle
    pub none_found : Found g → ⊥
    none_found f =
        let s = f.reached in
        let q =
        way_keeps closed (λ x. grey ≤ colour wd w x) (λ x y l o. h.finished x y l (not_grey x l o)) (closed.start s.start s.begins)
        (all s.start s.begins) s.way in
        h.fruitless f.node q.0 (not_grey f.node q.0 q.1) f.accepts f.cycle
