-- From sources to heads and nexts, an edge at a time. Assumes nothing.
use mathlib.Core.Path.{◌≡◌, refl, sym, ◌∙◌}
use mathlib.Core.Bool.{Bool, true, false, cond}
use mathlib.Core.List.{List}
use mathlib.Core.Logic.{inl, inr}
use Prim.Native.Nat.{ℕ, suc, ◌+◌, ◌*◌, ◌/◌, ◌≤◌, ◌<◌}
use native.Mathlib.Numerals.{add-one}
use native.Mathlib.Omega.{arith}
use lib.Dec.{ltb, eqb}
use lib.ListN.{length, get_or, set}
use lib.Seq.{get_or-set_same, get_or-set_other}
use Rattle.basics.specs.Least.{least}
use Rattle.basics.specs.Tabulate.{tabulate}
use Rattle.basics.proofs.Booleans.{either, eqb_eq, eqb_ne, ltb_lt, ltb_ge, lt_ltb, ge_ltb, same_or}
use Rattle.basics.proofs.Tabulate.{tabulate_length, tabulate_at, tabulate_snoc}
use Rattle.automata.specs.System.{an_edge, edge_at}
use Rattle.layout.specs.Chained.{first_record, next_record}
use Rattle.layout.specs.Steps.{edges_in, behind, LinkAsks, Linked}
use Rattle.layout.proofs.Firsts.{first_snoc}

-- EDGES IN WORDS
edges_length : (e : List ℕ) (m : ℕ) → length (edges_in e m) ≡ m
unfolding edges_in
edges_length e m = tabulate_length m _

edges_source : (e : List ℕ) (m r : ℕ) → r < m → (edge_at (edges_in e m) r).source ≡ get_or e (3 * r + 2) 0
unfolding edges_in an_edge edge_at
edges_source e m r l =
    let at : 2 + 3 * r ≡ 3 * r + 2 = omega arith in
    rw (tabulate_at m _ r (an_edge 0 0 0) l, at)

-- one edge more: its source gets it as its head, if it has none
edges_first :
    (e : List ℕ) (r q : ℕ) →
    first_record q (edges_in e (suc r)) ≡
    cond (eqb (first_record q (edges_in e r)) 0) (cond (eqb (get_or e (3 * r + 2) 0) q) (suc r) 0) (first_record q (edges_in e r))
unfolding edges_in an_edge
edges_first e r q =
    let at : 2 + 3 * r ≡ 3 * r + 2 = omega arith in
    let long = edges_length e r in
    let number : 1 + length (edges_in e r) ≡ suc r = omega arith in
    rw (tabulate_snoc r _) (first_snoc q (edges_in e r) _ ∙ cc (at, number))

-- a head that is not zero stays, and a zero gets what another state's turn gives: nothing
stays : (x y : ℕ) {b : Bool} → b ≡ false → x ≡ cond (eqb x 0) (cond b y 0) x
stays x y {b} e =
    elim (either (eqb x 0)) [ inl z ↦ let o = eqb_eq x 0 z in rw (z, e) o | inr z ↦ rw z ]

-- no edge yet: no state has a head
pub linked_none : {bits : ℕ} {s e : List ℕ} → LinkAsks bits s e → Linked 0 s e s e
unfolding edges_in tabulate first_record least
linked_none asks =
    record {
      heads = asks.empty;
      nexts = λ r l. absurd (omega arith);
      flags = λ i a. refl;
      others = λ i a. refl;
    }

-- EVERY EDGE IN TURN: s and e are the words before the first, v and u those before this one
module _
    {bits r : ℕ} {s e v u : List ℕ} (asks : LinkAsks bits s e) (long : length u ≡ length e) (wide : length v ≡ length s) (h : Linked r s e v u)
    (l : r < length e / 3) where
  -- sources not yet reached are as they were
  waits : (j : ℕ) → r ≤ j → get_or u (3 * j + 2) 0 ≡ get_or e (3 * j + 2) 0
  waits j i = h.others (3 * j + 2) (λ d a b. omega arith)

  -- and name a state
  head_inside : 2 * get_or u (3 * r + 2) 0 + 1 < length v
  head_inside = let at = waits r (omega arith) in let state = asks.source r l in omega arith

  behind_next : behind r u ≡ next_record (edges_in e (length e / 3)) r
  unfolding behind next_record
  behind_next =
      let whole = asks.whole in
      let many = edges_length e (length e / 3) in
      let this : (edge_at (edges_in e (length e / 3)) r).source ≡ get_or u (3 * r + 2) 0 =
      edges_source e (length e / 3) r l ∙ sym (waits r (omega arith)) in
      elim (either (ltb (suc r) (length e / 3))) [
        | inl y ↦
            let more = ltb_lt (suc r) (length e / 3) y in
            let at : 3 * suc r + 2 ≡ 3 * r + 5 = omega arith in
            let that : (edge_at (edges_in e (length e / 3)) (suc r)).source ≡ get_or u (3 * r + 5) 0 =
            rw (← at) (edges_source e (length e / 3) (suc r) more ∙ sym (waits (suc r) (omega arith))) in
            let inside : ltb (3 * r + 5) (length u) ≡ true = lt_ltb (omega arith) in
            rw (many, this, that, y, inside)
        | inr y ↦
            let last = ltb_ge (suc r) (length e / 3) y in
            let outside : ltb (3 * r + 5) (length u) ≡ false = ge_ltb (omega arith) in
            rw (many, y, outside)
      ]

  abbrev source : ℕ
  source = get_or u (3 * r + 2) 0

  module _ {next number : ℕ} (to : next ≡ behind r u)
      (head : number ≡ cond (eqb (get_or v (2 * source + 1) 0) 0) (r + 1) (get_or v (2 * source + 1) 0)) where
    turn_heads : (q : ℕ) → 2 * q + 1 < length s → get_or (set v (2 * source + 1) number) (2 * q + 1) 0 ≡ first_record q (edges_in e (suc r))
    turn_heads q a =
        let same : source ≡ get_or e (3 * r + 2) 0 = waits r (omega arith) in
        let before = h.heads q a in
        elim (either (eqb (get_or e (3 * r + 2) 0) q)) [
          | inl y ↦
              let this : source ≡ q = same ∙ eqb_eq (get_or e (3 * r + 2) 0) q y in
              rw (head, this, get_or-set_same v (2 * q + 1) _ 0 (omega arith), before, edges_first e r q, y, add-one r)
          | inr y ↦
              let ne = eqb_ne (get_or e (3 * r + 2) 0) q y in
              get_or-set_other v (2 * source + 1) (2 * q + 1) number 0 (omega arith)
              ∙ before
              ∙ rw (edges_first e r q) (stays (first_record q (edges_in e r)) (suc r) y)
        ]

    turn_nexts : (j : ℕ) → j < suc r → get_or (set u (3 * r + 2) next) (3 * j + 2) 0 ≡ next_record (edges_in e (length e / 3)) j
    turn_nexts j a =
        elim (same_or j r) [
          | inl q ↦ rw (q, get_or-set_same u (3 * r + 2) next 0 (omega arith)) (to ∙ behind_next)
          | inr ne ↦ get_or-set_other u (3 * r + 2) (3 * j + 2) next 0 (omega arith) ∙ h.nexts j (omega arith)
        ]

    pub link_turn : Linked (r + 1) s e (set v (2 * source + 1) number) (set u (3 * r + 2) next)
    link_turn =
        rw (add-one r)
        (record {
          heads = turn_heads;
          nexts = turn_nexts;
          flags = λ i a. get_or-set_other v (2 * source + 1) i number 0 (a source) ∙ h.flags i a;
          others = λ i a. get_or-set_other u (3 * r + 2) i next 0 (a r (omega arith)) ∙ h.others i (λ j c. a j (omega arith));
        })
