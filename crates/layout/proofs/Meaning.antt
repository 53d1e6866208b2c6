-- The chained words of an automaton mean that automaton: the chain of a state visits exactly the records with that source. Assumes nothing.
use mathlib.Core.Path.{◌≡◌, refl, sym, ◌∙◌}
use mathlib.Core.Bool.{Bool, true, false, ◌&&◌}
use mathlib.Core.List.{List}
use mathlib.Core.Logic.{inl, inr}
use Prim.Native.Nat.{ℕ, zero, suc, ◌-◌, ◌≤◌, ◌<◌}
use native.Mathlib.Omega.{arith}
use lib.Dec.{ltb, eqb}
use lib.ListN.{length}
use Rattle.basics.proofs.Booleans.{either, ltb_ge, clash, and_l, and_r, and_make, or_l, or_r, same_truth, not_both, not_false, eq_eqb, ne_eqb, ltb_lt, lt_ltb, same_or}
use Rattle.automata.specs.Automaton.{Automaton, Same}
use Rattle.automata.specs.System.{Edge, edge_at, listed}
use Rattle.automata.proofs.Numbered.{listed_at, listed_find}
use Rattle.tables.specs.Table.{letter_of, target_of, next_of, is_initial, is_accepting, chain_has, edge, meaning}
use Rattle.tables.proofs.Flags.{flags_initial, flags_accepting}
use Rattle.tables.proofs.Laws.{chain_ends, chain_cases}
use Rattle.layout.specs.Chained.{first_record, next_record, flags_word, chained_words}
use Rattle.layout.specs.Orderly.{Orderly, HasEdges}
use Rattle.layout.proofs.Firsts.{First, absent, first_at, first_is, Next, ends, goes_on, next_is, rising}
use Rattle.layout.proofs.Indexed.{Indexed, indexed_n, indexed_k, indexed_m, indexed_flags, indexed_head, indexed_letter, indexed_target, indexed_next, chained_indexed}

-- a test that is false from n on
below_only : (n q : ℕ) (x y : Bool) → (q < n → x ≡ y) → (n ≤ q → y ≡ false) → (ltb q n && x) ≡ y
below_only n q x y h none =
    elim (either (ltb q n)) [
      | inl e ↦ let s = h (ltb_lt q n e) in cc
      | inr e ↦ let s = none (ltb_ge q n e) in cc
    ]

module _ (a : Automaton) (es : List Edge) where
  laid : Indexed a es (chained_words a es)
  laid = chained_indexed a es

  pub chained_initial : (i : ℕ) → i < a.states → is_initial (chained_words a es) i ≡ a.initial i
  unfolding is_initial flags_word
  chained_initial i l = rw (indexed_flags laid i l) (flags_initial (a.initial i) (a.accepting i))

  pub chained_accepting : (i : ℕ) → i < a.states → is_accepting (chained_words a es) i ≡ a.accepting i
  unfolding is_accepting flags_word
  chained_accepting i l = rw (indexed_flags laid i l) (flags_accepting (a.initial i) (a.accepting i))

  -- what a chain has is listed with the source of its records
  chain_listed :
      (f r c q : ℕ) → r < length es → chain_has f (chained_words a es) (suc r) c q ≡ true →
      listed (edge_at es r).source c q es ≡ true
  unfolding chain_has
  chain_listed zero r c q l h = absurd (clash h refl)
  chain_listed (suc f) r c q l h =
      elim (chain_cases f (chained_words a es) (suc r) c q h).1 [
        | inl (x, y) ↦
            let x' : (edge_at es r).letter ≡ c = sym (indexed_letter laid r l) ∙ x in
            let y' : (edge_at es r).target ≡ q = sym (indexed_target laid r l) ∙ y in rw (x', y') at (listed_at es r l)
        | inr e ↦ later f r c q (chain_listed f (suc r) c q) (rw (indexed_next laid r l) at e) (next_is es r)
      ]
    where
      later :
          (f r c q : ℕ) →
          (suc r < length es → chain_has f (chained_words a es) (suc (suc r)) c q ≡ true →
          listed (edge_at es (suc r)).source c q es ≡ true) →
          chain_has f (chained_words a es) (next_record es r) c q ≡ true → Next es r (next_record es r) →
          listed (edge_at es r).source c q es ≡ true
      later f r c q on h (ends z stop) = absurd (clash (rw z at h) (chain_ends f (chained_words a es) c q))
      later f r c q on h (goes_on z m same) = rw same at (on m (rw z at h))

  -- the record behind one with the same source
  goes_behind :
      (d : ℕ) → suc d < length es → (edge_at es (suc d)).source ≡ (edge_at es d).source →
      next_of (chained_words a es) (suc d) ≡ suc (suc d)
  goes_behind d l same = indexed_next laid d (omega arith) ∙ go (next_is es d)
    where
      go : Next es d (next_record es d) → next_record es d ≡ suc (suc d)
      go (ends z stop) = absurd (stop l same)
      go (goes_on z m h) = z

  -- edges d to e have one source, and the chain from the one has the other
  chain_reaches :
      (f d e : ℕ) → d ≤ e → e < length es → e - d < f →
      ((x : ℕ) → d ≤ x → x ≤ e → (edge_at es x).source ≡ (edge_at es e).source) →
      chain_has f (chained_words a es) (suc d) (edge_at es e).letter (edge_at es e).target ≡ true
  unfolding chain_has
  chain_reaches zero d e l m n same = absurd (omega arith)
  chain_reaches (suc f) d e l m n same =
      let t = chained_words a es in
      let c = (edge_at es e).letter in
      let q = (edge_at es e).target in
      let this = (eqb (letter_of t (suc d)) c && eqb (target_of t (suc d)) q) in
      and_make (not_false (ne_eqb (suc d) 0 (λ z. omega arith)))
      (elim (same_or d e) [
        | inl at ↦
            let x : letter_of t (suc d) ≡ c = rw at (indexed_letter laid e m) in
            let y : target_of t (suc d) ≡ q = rw at (indexed_target laid e m) in
            or_l (chain_has f t (next_of t (suc d)) c q) (and_make (eq_eqb x) (eq_eqb y))
        | inr ne ↦
            let behind = goes_behind d (omega arith) (same (suc d) (omega arith) (omega arith) ∙ sym (same d (omega arith) l)) in
            or_r this
            (rw behind (chain_reaches f (suc d) e (omega arith) m (omega arith) (λ x i. same x (omega arith))))
      ])

  module _ (o : Orderly a es) where
    chain_finds :
        (d e c q : ℕ) → d ≤ e → e < length es → (edge_at es d).source ≡ (edge_at es e).source → (edge_at es e).letter ≡ c →
        (edge_at es e).target ≡ q → chain_has (length es) (chained_words a es) (suc d) c q ≡ true
    chain_finds d e c q l m same x y =
        rw (x, y)
        at
        (chain_reaches (length es) d e l m (omega arith)
        (λ k i j. let u = rising o d k i (omega arith) in let v = rising o k e j m in omega arith))

    pub chained_edge : (i c j : ℕ) → i < a.states → edge (chained_words a es) i c j ≡ listed i c j es
    unfolding edge
    chained_edge i c j l = rw (indexed_m laid, indexed_head laid i l) (go (first_is i es))
      where
        go :
            First i es (first_record i es) →
            chain_has (length es) (chained_words a es) (first_record i es) c j ≡ listed i c j es
        go (absent z before) =
            let out : listed i c j es ≡ false =
            not_both (listed i c j es) (λ h. let w = listed_find i c j es h in before w.0 w.1 w.2) in
            rw z (chain_ends (length es) (chained_words a es) c j ∙ sym out)
        go (first_at d z m h before) =
            let at : first_record i es ≡ suc d = omega arith in
            rw at
            (same_truth (chain_has (length es) (chained_words a es) (suc d) c j) (listed i c j es)
            (λ p. rw h at (chain_listed (length es) d c j m p))
            (λ p.
            let w = listed_find i c j es p in
            let late : w.0 < d → ⊥ = λ k. before w.0 k w.2 in
            chain_finds d w.0 c j (omega arith) w.1 (h ∙ sym w.2) w.3 w.4))

    -- THE WORDS MEAN THE AUTOMATON
    pub chained_meaning : HasEdges a es → Same (meaning (chained_words a es)) a
    unfolding meaning
    chained_meaning h =
        record {
          states = indexed_n laid;
          letters = indexed_k laid;
          initial =
              λ q.
              rw (indexed_n laid)
              (below_only a.states q (is_initial (chained_words a es) q) (a.initial q) (chained_initial q) (h.initial q));
          accepting =
              λ q.
              rw (indexed_n laid)
              (below_only a.states q (is_accepting (chained_words a es) q) (a.accepting q) (chained_accepting q)
              (h.accepting q));
          edge =
              λ p c q.
              rw (indexed_n laid, h.edge p c q)
              (same_truth ((ltb p a.states && ltb q a.states) && edge (chained_words a es) p c q) (listed p c q es)
              (λ e.
              let l = ltb_lt p a.states (and_l (ltb q a.states) (and_l (edge (chained_words a es) p c q) e)) in
              sym (chained_edge p c q l) ∙ and_r (ltb p a.states && ltb q a.states) e)
              (λ e.
              let w = listed_find p c q es e in
              let x : p < a.states = rw w.2 at (o.source w.0 w.1) in
              let y : q < a.states = rw w.4 at (o.target w.0 w.1) in
              and_make (and_make (lt_ltb x) (lt_ltb y)) (chained_edge p c q x ∙ e)));
        }
