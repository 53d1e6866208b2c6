-- Stores into a buffer that begins with given words and is zero beyond: words are appended one by one, edges whole. Assumes nothing.
use mathlib.Core.Path.{◌≡◌, refl, sym, ◌∙◌}
use mathlib.Core.List.{List, [], ◌∷◌, ◌++◌, append-nil}
use mathlib.Core.Logic.{inl, inr}
use Prim.Native.Nat.{ℕ, suc, ◌+◌, ◌*◌, ◌≤◌, ◌<◌}
use native.Mathlib.Numerals.{add-one, add-two}
use native.Mathlib.Omega.{arith}
use lib.Dec.{eqb, ltb}
use lib.ListN.{length, replicate, get_or, set, length-append, length-set, get_or-append, get_or-eq_default}
use lib.Seq.{sets, get_or-set_same, get_or-set_other, get_or-append_seam, append_snoc, ext_get_or}
use Rattle.basics.specs.Buffers.{filled}
use Rattle.basics.proofs.Booleans.{either, eqb_eq, eqb_ne, ltb_lt, ltb_ge, lt_ltb}
use Rattle.basics.proofs.Clears.{zeros_at}
use Rattle.basics.proofs.Filled.{filled_length, filled_at}
use Rattle.automata.specs.System.{an_edge}
use Rattle.tables.specs.Table.{Limits}
use Rattle.complement.specs.Found.{Begins, triple, edge_room, counted_to, with_edge, one_more}

-- a word behind those that a buffer begins with
pub begins_word : {new w : List ℕ} (v : ℕ) → length new < length w → Begins new w → Begins (new ++ (v ∷ [])) (set w (length new) v)
begins_word {new} {w} v l h = record { at = go }
  where
    go : (i : ℕ) → get_or (set w (length new) v) i 0 ≡ get_or (new ++ (v ∷ [])) i 0
    go i =
        elim (either (eqb i (length new))) [
          | inl q ↦ rw (eqb_eq i (length new) q, get_or-append_seam new v [] 0) (get_or-set_same w (length new) v 0 l)
          | inr q ↦
              let ne = eqb_ne i (length new) q in
              get_or-set_other w (length new) i v 0 ne ∙ h.at i
              ∙ elim (either (ltb i (length new))) [
                | inl m ↦ sym (get_or-append new (v ∷ []) 0 i (ltb_lt i (length new) m))
                | inr m ↦
                    let ge = ltb_ge i (length new) m in
                    let out : length (new ++ (v ∷ [])) ≤ i = rw length-append (omega arith) in
                    get_or-eq_default new 0 ge ∙ sym (get_or-eq_default (new ++ (v ∷ [])) 0 out)
              ]
        ]

-- several words
pub begins_words :
    {new w : List ℕ} (vs : List ℕ) → length new + length vs ≤ length w → Begins new w → Begins (new ++ vs) (sets w (length new) vs)
begins_words {new} [] l h = rw append-nil h
begins_words {new} {w} (v ∷ vs) l h =
    let first : length new < length w = omega arith in
    let more : length (new ++ (v ∷ [])) ≡ suc (length new) = rw (length-append, add-one) refl in
    let rest : length (new ++ (v ∷ [])) + length vs ≤ length (set w (length new) v) = rw (more, length-set) (omega arith) in
    rw (← append_snoc new v vs, ← more) (begins_words vs rest (begins_word v first h))

-- the whole buffer, where the words fit
pub begins_filled : {new w : List ℕ} → length new ≤ length w → Begins new w → w ≡ filled new w
begins_filled {new} {w} l h =
    ext_get_or 0 w (filled new w) (sym (filled_length new w l)) (λ i m. h.at i ∙ sym (filled_at new w i))

pub begins_zeros : (w : List ℕ) → Begins [] (replicate (length w) 0)
begins_zeros w = record { at = zeros_at (length w) }

-- EDGES behind so many others
module _ (limits : Limits) (w : List ℕ) (m : ℕ) where
  pub edge_stored :
      (i c j : ℕ) → m < limits.records → 3 + 3 * m + 3 ≤ length w →
      set (set (set w (3 + 3 * m) c) (3 + 3 * m + 1) j) (3 + 3 * m + 2) i ≡ with_edge limits w m (an_edge i c j)
  unfolding with_edge edge_room triple an_edge
  edge_stored i c j l fits =
      let inside : m < edge_room limits w = omega arith in rw (lt_ltb inside, add-one (3 + 3 * m), add-two (3 + 3 * m)) refl

pub count_more : (limits : Limits) (m : ℕ) → m < limits.records → m + 1 ≡ one_more limits m
unfolding one_more counted_to
count_more limits m l = omega arith
