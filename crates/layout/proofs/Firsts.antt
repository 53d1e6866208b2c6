-- What the first record of a source and the record behind a record are; in edges with rising sources each record is named exactly once, as the
-- first of its source or behind the one before. Assumes nothing.
use mathlib.Core.Path.{◌≡◌, refl, sym, ◌∙◌}
use mathlib.Core.Bool.{Bool, true, false, ◌&&◌, cond}
use mathlib.Core.List.{List, [], ◌∷◌, ◌++◌}
use mathlib.Core.Logic.{◌⊎◌, inl, inr}
use Prim.Native.Nat.{ℕ, zero, suc, ◌+◌, ◌≤◌, ◌<◌}
use native.Mathlib.Omega.{arith}
use lib.Dec.{ltb, eqb}
use lib.ListN.{length, length-append}
use Rattle.basics.specs.Bounded.{count}
use Rattle.basics.specs.Least.{least}
use Rattle.basics.proofs.Booleans.{either, clash, and_l, and_r, and_make, and_false_r, eqb_eq, eq_eqb, eqb_ne, ne_eqb, ltb_lt, ltb_ge, lt_ltb, ge_ltb, below_or}
use Rattle.basics.proofs.Counting.{count_only}
use Rattle.basics.proofs.Least.{least_holds, least_none}
use Rattle.basics.proofs.Upward.{upward}
use Rattle.automata.specs.Automaton.{Automaton}
use Rattle.automata.specs.System.{Edge, edge_at}
use Rattle.automata.proofs.Explore.{edge_kept, edge_last}
use Rattle.layout.specs.Chained.{first_record, next_record}
use Rattle.layout.specs.Orderly.{Orderly}

-- x is the number of the first record with source i; or zero, and there is none
pub data First (i : ℕ) (es : List Edge) (x : ℕ) : Type 0 where
  absent : x ≡ 0 → ((e : ℕ) → e < length es → (edge_at es e).source ≡ i → ⊥) → First i es x
  first_at :
      (e : ℕ) → x ≡ suc e → e < length es → (edge_at es e).source ≡ i →
      ((d : ℕ) → d < e → (edge_at es d).source ≡ i → ⊥) → First i es x

-- by the place of its edge
module _ (i : ℕ) (es : List Edge) where
  abbrev has_source : (e : ℕ) → Bool
  has_source e = eqb (edge_at es e).source i

  abbrev place : ℕ
  place = least (length es) has_source

  pub first_is : First i es (first_record i es)
  unfolding first_record
  first_is =
      elim (either (ltb place (length es))) [
        | inl e ↦
            let inside = ltb_lt place (length es) e in
            first_at place (rw e refl) inside (eqb_eq (edge_at es place).source i (least_holds (length es) has_source inside))
            (λ d l q. clash (eq_eqb q) (least_none (length es) has_source d l))
        | inr e ↦
            let past = ltb_ge place (length es) e in
            absent (rw e refl) (λ d l q. clash (eq_eqb q) (least_none (length es) has_source d (omega arith)))
      ]

-- one number alone is so
pub first_only : {i : ℕ} {es : List Edge} {x y : ℕ} → First i es x → First i es y → x ≡ y
first_only (absent p before) (absent q after) = p ∙ sym q
first_only (absent p before) (first_at e q l h after) = absurd (before e l h)
first_only (first_at e q l h after) (absent p before) = absurd (before e l h)
first_only (first_at e p l h before) (first_at d q m k after) =
    elim (below_or e d) [
      | inl b ↦ absurd (after e b h)
      | inr b ↦ elim (below_or d e) [ inl c ↦ absurd (before d c k) | inr c ↦ omega arith ]
    ]

-- an edge is the first of its source if no edge before has it
pub first_new :
    (es : List Edge) (r : ℕ) → r < length es → ((d : ℕ) → d < r → (edge_at es d).source ≡ (edge_at es r).source → ⊥) →
    first_record (edge_at es r).source es ≡ suc r
first_new es r l new = first_only (first_is (edge_at es r).source es) (first_at r refl l refl new)

-- one edge more: it is the first of its source if there was none before
pub first_snoc :
    (i : ℕ) (es : List Edge) (f : Edge) →
    first_record i (es ++ (f ∷ [])) ≡
    cond (eqb (first_record i es) 0) (cond (eqb f.source i) (suc (length es)) 0) (first_record i es)
first_snoc i es f =
    let now = first_is i (es ++ (f ∷ [])) in
    let long : length (es ++ (f ∷ [])) ≡ suc (length es) = rw length-append (omega arith) in
    elim (first_is i es) [
      | absent z none ↦
          elim (either (eqb f.source i)) [
            | inl e ↦
                let here : (edge_at (es ++ (f ∷ [])) (length es)).source ≡ i = rw (edge_last es f) (eqb_eq f.source i e) in
                first_only now (first_at (length es) refl (omega arith) here (λ d l q. none d l (rw (edge_kept es (f ∷ []) d l) at q)))
                ∙ rw (z, e) refl
            | inr e ↦
                first_only now
                (absent refl
                (λ d l q.
                elim (below_or d (length es)) [
                  | inl m ↦ none d m (rw (edge_kept es (f ∷ []) d m) at q)
                  | inr m ↦
                      let last : d ≡ length es = omega arith in
                      eqb_ne f.source i e (rw (edge_last es f) at (rw last at q))
                ]))
                ∙ rw (z, e) refl
          ]
      | first_at e z l h before ↦
          let some : eqb (suc e) 0 ≡ false = ne_eqb (suc e) 0 (λ y. omega arith) in
          first_only now
          (first_at e refl (omega arith) (rw (edge_kept es (f ∷ []) e l) h)
          (λ d m q. before d m (rw (edge_kept es (f ∷ []) d (omega arith)) at q)))
          ∙ rw (z, some) refl
    ]

-- x is the number of the record behind record r + 1; or zero, and the edge behind edge r has another source or there is none
pub data Next (es : List Edge) (r x : ℕ) : Type 0 where
  ends : x ≡ 0 → (suc r < length es → (edge_at es (suc r)).source ≡ (edge_at es r).source → ⊥) → Next es r x
  goes_on : x ≡ suc (suc r) → suc r < length es → (edge_at es (suc r)).source ≡ (edge_at es r).source → Next es r x

pub next_is : (es : List Edge) (r : ℕ) → Next es r (next_record es r)
unfolding next_record
next_is es r = go (either (ltb (suc r) (length es) && same))
  where
    same : Bool
    same = eqb (edge_at es (suc r)).source (edge_at es r).source

    go :
        ((ltb (suc r) (length es) && same) ≡ true) ⊎ ((ltb (suc r) (length es) && same) ≡ false) →
        Next es r (cond (ltb (suc r) (length es) && same) (suc (suc r)) 0)
    go (inl q) =
        goes_on (rw q) (ltb_lt (suc r) (length es) (and_l same q))
        (eqb_eq (edge_at es (suc r)).source (edge_at es r).source (and_r (ltb (suc r) (length es)) q))
    go (inr q) = ends (rw q) (λ l e. clash (and_make (lt_ltb l) (eq_eqb e)) q)

module _ {a : Automaton} {es : List Edge} (o : Orderly a es) where
  -- sources rise from any edge to any later one
  pub rising : (d e : ℕ) → d ≤ e → e < length es → (edge_at es d).source ≤ (edge_at es e).source
  rising d e l =
      upward (λ e. e < length es → (edge_at es d).source ≤ (edge_at es e).source) d (λ m. omega arith)
      (λ e _ before m. let h = before (omega arith) in let step = o.rise e m in omega arith) e l

  -- record r + 1 is a head of its source's chain alone, and next of the record before it alone
  heads_of :
      (r : ℕ) → r < length es →
      count a.states (λ q. eqb (first_record q es) (suc r)) ≡
      cond (ltb (edge_at es r).source a.states && eqb (first_record (edge_at es r).source es) (suc r)) 1 0
  heads_of r l =
      count_only a.states (λ q. eqb (first_record q es) (suc r)) (edge_at es r).source
      (λ q m ne. ne_eqb (first_record q es) (suc r) (λ e. other q ne e (first_is q es)))
    where
      other : (q : ℕ) → (q ≡ (edge_at es r).source → ⊥) → first_record q es ≡ suc r → First q es (first_record q es) → ⊥
      other q ne e (absent z before) = omega arith
      other q ne e (first_at d z m h before) = let at : d ≡ r = omega arith in ne (sym (rw at at h))

  nexts_of :
      (p : ℕ) →
      count (length es) (λ i. eqb (next_record es i) (suc (suc p))) ≡
      cond (ltb p (length es) && eqb (next_record es p) (suc (suc p))) 1 0
  nexts_of p =
      count_only (length es) (λ i. eqb (next_record es i) (suc (suc p))) p
      (λ i m ne. ne_eqb (next_record es i) (suc (suc p)) (λ e. other i ne e (next_is es i)))
    where
      other : (i : ℕ) → (i ≡ p → ⊥) → next_record es i ≡ suc (suc p) → Next es i (next_record es i) → ⊥
      other i ne e (ends z stop) = omega arith
      other i ne e (goes_on z m h) = ne (omega arith)

  -- record r + 1 has a head or a record before it, and not both
  no_next : count (length es) (λ i. eqb (next_record es i) 1) ≡ 0
  no_next =
      count_only (length es) (λ i. eqb (next_record es i) 1) (length es)
      (λ i m ne. ne_eqb (next_record es i) 1 (λ e. other i e (next_is es i)))
      ∙ (let out : ltb (length es) (length es) ≡ false = ge_ltb {m = length es} {n = length es} (omega arith) in cc)
    where
      other : (i : ℕ) → next_record es i ≡ 1 → Next es i (next_record es i) → ⊥
      other i e (ends z stop) = omega arith
      other i e (goes_on z m h) = omega arith

  begins_chain :
      (r : ℕ) → r < length es → ((d : ℕ) → d < r → (edge_at es d).source ≡ (edge_at es r).source → ⊥) →
      count a.states (λ q. eqb (first_record q es) (suc r)) ≡ 1
  begins_chain r l new =
      let state : ltb (edge_at es r).source a.states ≡ true = lt_ltb (o.source r l) in
      let head : eqb (first_record (edge_at es r).source es) (suc r) ≡ true = eq_eqb (first_new es r l new) in
      heads_of r l ∙ cc

  in_chain :
      (p : ℕ) → suc p < length es → (edge_at es p).source ≡ (edge_at es (suc p)).source →
      count a.states (λ q. eqb (first_record q es) (suc (suc p))) ≡ 0
  in_chain p l same =
      let head : eqb (first_record (edge_at es (suc p)).source es) (suc (suc p)) ≡ false =
      ne_eqb (first_record (edge_at es (suc p)).source es) (suc (suc p))
      (λ e. other e (first_is (edge_at es (suc p)).source es)) in
      heads_of (suc p) l ∙ (let none = and_false_r (ltb (edge_at es (suc p)).source a.states) head in cc)
    where
      other :
          first_record (edge_at es (suc p)).source es ≡ suc (suc p) →
          First (edge_at es (suc p)).source es (first_record (edge_at es (suc p)).source es) → ⊥
      other e (absent z before) = omega arith
      other e (first_at d z m h before) = before p (omega arith) same

  pub named_once :
      (r : ℕ) → r < length es →
      count a.states (λ q. eqb (first_record q es) (suc r))
      + count (length es) (λ i. eqb (next_record es i) (suc r)) ≡ 1
  named_once zero l = rw (begins_chain 0 l (λ d m. absurd (omega arith)), no_next) (omega arith)
  named_once (suc p) l = go (next_is es p)
    where
      earlier : ltb p (length es) ≡ true
      earlier = lt_ltb {m = p} {n = length es} (omega arith)

      go :
          Next es p (next_record es p) →
          count a.states (λ q. eqb (first_record q es) (suc (suc p)))
          + count (length es) (λ i. eqb (next_record es i) (suc (suc p))) ≡ 1
      go (ends z stop) =
          let link : eqb (next_record es p) (suc (suc p)) ≡ false =
          ne_eqb (next_record es p) (suc (suc p)) (λ e. omega arith) in
          let none : count (length es) (λ i. eqb (next_record es i) (suc (suc p))) ≡ 0 =
          nexts_of p ∙ (let f = and_false_r (ltb p (length es)) link in cc) in
          rw (
            begins_chain (suc p) l
                (λ d m e.
                let up = rising d p (omega arith) (omega arith) in
                let step = o.rise p l in stop l (omega arith)),
            none,
          )
          (omega arith)
      go (goes_on z m h) =
          let link : eqb (next_record es p) (suc (suc p)) ≡ true = eq_eqb z in
          let one : count (length es) (λ i. eqb (next_record es i) (suc (suc p))) ≡ 1 = nexts_of p ∙ cc earlier in
          rw (in_chain p l (sym h), one) (omega arith)
