-- Laws of the sources of records in a table whose chains run through consecutive records. Assumes nothing.
use mathlib.Core.Path.{◌≡◌, refl, sym, ◌∙◌}
use mathlib.Core.Bool.{true, false, cond}
use mathlib.Core.List.{List}
use mathlib.Core.Logic.{inl, inr}
use Prim.Native.Nat.{ℕ, zero, suc, ◌+◌, ◌≤◌, ◌<◌}
use native.Mathlib.Numerals.{add-one}
use native.Mathlib.Omega.{arith}
use lib.Dec.{eqb}
use Rattle.std.specs.Prelude.{Option, None, Some}
use lib.ListN.{length}
use Rattle.basics.specs.Least.{least_from}
use Rattle.basics.proofs.Booleans.{eq_eqb, ne_eqb, below_or}
use Rattle.basics.proofs.Least.{least_from_is, least_here, least_later, least_past}
use Rattle.automata.specs.Automaton.{Automaton}
use Rattle.automata.specs.System.{Edge, edge_at}
use Rattle.tables.specs.Table.{n_of, head_of, next_of}
use Rattle.layout.specs.Chained.{next_record}
use Rattle.layout.specs.Orderly.{Orderly}
use Rattle.layout.proofs.Firsts.{first_is, absent, first_at, Next, next_is, ends, goes_on, rising}
use Rattle.layout.proofs.Indexed.{Indexed, indexed_n, indexed_head, indexed_next}
use Rattle.listing_text.specs.Built.{IsSource, has_chain, first_source, source_behind, source_of}

-- a state has a chain exactly if its head is not zero
has_one : (w : List ℕ) (q : ℕ) → (head_of w q ≡ 0 → ⊥) → has_chain w q ≡ true
unfolding has_chain
has_one w q h = let e = ne_eqb (head_of w q) 0 h in rw e

has_none : (w : List ℕ) (q : ℕ) → head_of w q ≡ 0 → has_chain w q ≡ false
unfolding has_chain
has_none w q h = let e = eq_eqb h in rw e

-- THE LOOP OF `first_source`: what is looked for lies from `state` on
module _ (w : List ℕ) (from : ℕ) where
  pub source_found :
      {i x : ℕ} → i < n_of w → x ≡ head_of w i → (x ≡ 0 → ⊥) → least_from (n_of w) i (has_chain w) ≡ first_source w from →
      IsSource w (Some i) (first_source w from)
  source_found {i} l e h p =
      let is : i ≡ first_source w from = sym (least_here (n_of w) i (has_chain w) l (has_one w i (λ q. h (e ∙ q)))) ∙ p in
      (omega arith, is)

  pub source_turn :
      {i x : ℕ} → i < n_of w → x ≡ head_of w i → x ≡ 0 → least_from (n_of w) i (has_chain w) ≡ first_source w from →
      least_from (n_of w) (i + 1) (has_chain w) ≡ first_source w from
  source_turn {i} l e h p =
      rw add-one (sym (least_later (n_of w) i (has_chain w) l (has_none w i (sym e ∙ h))) ∙ p)

  pub source_none :
      {i : ℕ} → n_of w ≤ i → least_from (n_of w) i (has_chain w) ≡ first_source w from → IsSource w None (first_source w from)
  source_none {i} l p = λ small. let is = sym (least_past (n_of w) i (has_chain w) l) ∙ p in omega arith

-- EACH WAY OF `source_behind`
pub behind_same :
    (w : List ℕ) (i r : ℕ) {x : ℕ} → i < n_of w → x ≡ next_of w r → (x ≡ 0 → ⊥) → IsSource w (Some i) (source_behind w i r)
unfolding source_behind
behind_same w i r l e h = let t = ne_eqb (next_of w r) 0 (λ q. h (e ∙ q)) in rw t (l, refl)

pub behind_next :
    (w : List ℕ) (i r : ℕ) {x : ℕ} (source : Option ℕ) → x ≡ next_of w r → x ≡ 0 → IsSource w source (first_source w (i + 1)) →
    IsSource w source (source_behind w i r)
unfolding source_behind
behind_next w i r source e h p =
    let t : eqb (next_of w r) 0 ≡ true = eq_eqb (sym e ∙ h) in rw t (rw add-one at p)

-- THE SOURCES OF ORDERLY EDGES
module _ {a : Automaton} {es : List Edge} (o : Orderly a es) {w : List ℕ} (x : Indexed a es w) where
  -- a state without edges has no chain, and one with edges has
  no_chain : (q : ℕ) → q < a.states → ((e : ℕ) → e < length es → (edge_at es e).source ≡ q → ⊥) → head_of w q ≡ 0
  no_chain q l h =
      elim (first_is q es) [ absent z before ↦ indexed_head x q l ∙ z | first_at e z m s before ↦ absurd (h e m s) ]

  a_chain : (r : ℕ) → r < length es → head_of w (edge_at es r).source ≡ 0 → ⊥
  a_chain r l h =
      let p = indexed_head x (edge_at es r).source (o.source r l) in
      elim (first_is (edge_at es r).source es) [ absent z before ↦ before r l refl | first_at e z m s before ↦ omega arith ]

  -- the first state from i on with a chain is the source of record r + 1, if the sources before it are smaller than i
  record_source :
      (i r : ℕ) → r < length es → i ≤ (edge_at es r).source → ((e : ℕ) → e < r → (edge_at es e).source < i) →
      first_source w i ≡ (edge_at es r).source
  unfolding first_source
  record_source i r l m small =
      let n = indexed_n x in
      let s = o.source r l in
      least_from_is (n_of w) i (has_chain w) (edge_at es r).source m (omega arith) (has_one w (edge_at es r).source (a_chain r l))
      (λ q p u.
      has_none w q
      (no_chain q (omega arith)
      (λ e k f.
      elim (below_or e r) [
        | inl c ↦ let y = small e c in omega arith
        | inr c ↦ let y = rising o r e c k in omega arith
      ])))

  pub source_right : (r : ℕ) → r < length es → source_of w r ≡ (edge_at es r).source
  unfolding source_of source_behind
  source_right zero l = record_source 0 0 l (omega arith) (λ e k. absurd (omega arith))
  source_right (suc r) l = go (source_right r (omega arith)) (next_is es r)
    where
      go : source_of w r ≡ (edge_at es r).source → Next es r (next_record es r) → cond (eqb (next_of w (suc r)) 0) (first_source w (suc (source_of w r))) (source_of w r) ≡ (edge_at es (suc r)).source
      go before (ends z other) =
          let e : eqb (next_of w (suc r)) 0 ≡ true = eq_eqb (indexed_next x r (omega arith) ∙ z) in
          let up = o.rise r l in
          let ne = other l in
          let m : suc (edge_at es r).source ≤ (edge_at es (suc r)).source = omega arith in
          rw (e, before) (record_source (suc (edge_at es r).source) (suc r) l m (λ d k. let y = rising o d r (omega arith) (omega arith) in omega arith))
      go before (goes_on z m same) =
          let e : eqb (next_of w (suc r)) 0 ≡ false = ne_eqb (next_of w (suc r)) 0 (λ q. let p = indexed_next x r (omega arith) in omega arith) in
          rw (e, before) (sym same)
