-- Storing the initial quadruples by rising choice. Assumes nothing.
use mathlib.Core.Path.{◌≡◌, refl, sym, ◌∙◌, ap}
use mathlib.Core.List.{List, [], ◌∷◌, ◌++◌, flat_map}
use Prim.Native.Nat.{ℕ, suc, ◌+◌, ◌^◌, ◌≤◌, ◌<◌}
use native.Mathlib.Numerals.{add-one}
use native.Mathlib.Omega.{arith}
use lib.Bits.{bit_and}
use lib.ListN.{length, get_or, take}
use lib.Seq.{take-suc, take_all, take-nil}
use Rattle.basics.proofs.Clears.{zeros_at}
use Rattle.sets.specs.Sets.{set_states, without, size}
use Rattle.automata.specs.System.{built}
use Rattle.tables.specs.Table.{Limits}
use Rattle.ncsb.specs.Array.{from_array, nth_initial}
use Rattle.ncsb.specs.Successors.{quadruple, initial_free, initials}
use Rattle.ncsb.specs.declared.Quadruple.{Quadruple}
use Rattle.ncsb.proofs.Choices.{choices_fit, initials_count, choice_initial}
use Rattle.ncsb.specs.declared.Shape.{Shape}
use Rattle.record_words.specs.Record.{full_records, with_quadruple}
use Rattle.complement.specs.Build.{Lent}
use Rattle.complement.specs.Records.{capacity}
use Rattle.complement.specs.Found.{Begins, quadruples, StatesKept, triples, edge_room, Shows, start_moves}
use Rattle.complement.proofs.Kept.{capacity_full, capacity_kept, kept_more}

module _ (shape : Shape) where
  start_free : initial_free (start_moves shape) ≡ without (bit_and shape.starts shape.inner) shape.marks
  unfolding initial_free start_moves from_array
  start_free = refl

  -- their number is that of the parts of what is free
  pub start_counted :
      {free choices : ℕ} → free ≡ without (bit_and shape.starts shape.inner) shape.marks → choices ≡ 2 ^ size set_states free →
      choices ≡ length (initials (start_moves shape))
  unfolding start_moves
  start_counted freed counted =
      sym
      (initials_count shape.starts shape.marks shape.inner
      ∙ ap (λ (f : ℕ). 2 ^ size set_states f) (start_free ∙ sym freed) ∙ sym counted)

  start_few : length (initials (start_moves shape)) ≤ 2 ^ 32
  unfolding start_moves
  start_few =
      rw (initials_count shape.starts shape.marks shape.inner)
      (choices_fit (initial_free (from_array [] shape.starts shape.marks shape.inner)))

module _ (limits : Limits) (shape : Shape) where
  -- so many of the initial quadruples are stored
  pub record Storing (s₀ s : List ℕ) (count : ℕ) : Type 0 where
    pub size : length s ≡ length s₀
    pub some : count ≤ length (initials (start_moves shape))
    pub kept : StatesKept (quadruples limits) (take count (initials (start_moves shape))) s count

  module _ {choices : ℕ} (counted : choices ≡ length (initials (start_moves shape))) where
    pub start_fits : (j : ℕ) → j < choices → j < 2 ^ 32
    start_fits j l = let h = start_few shape in let e = counted in omega arith

    -- they do not fit
    pub start_full :
        (s : List ℕ) {room : ℕ} → room ≡ capacity limits s → room < choices → capacity limits s < length (initials (start_moves shape))
    start_full s e l = let n = counted in omega arith

    pub store_start : {s : List ℕ} → Begins [] s → Storing s s 0
    unfolding flat_map
    store_start h =
        record {
          size = refl;
          some = omega arith;
          kept = record { counted = refl; fits = omega arith; begins = h };
        }

    module _ {s₀ s : List ℕ} {k room : ℕ} (h : Storing s₀ s k) (l : k < choices) (roomy : room ≡ capacity limits s₀) (most : choices ≤ room) where
      below : k < capacity limits s
      below = let e = capacity_kept limits s₀ s h.size in omega arith

      pub store_asks : k < full_records s
      store_asks = let b = below in capacity_full limits s (suc k) (omega arith)

      pub store_turn :
          {x : Quadruple} {s' : List ℕ} → x ≡ nth_initial (from_array [] shape.starts shape.marks shape.inner) k →
          s' ≡ with_quadruple s k x → length s' ≡ length s → Storing s₀ s' (k + 1)
      unfolding start_moves
      store_turn {x} {s'} e e' kept =
          let xs = initials (start_moves shape) in
          let count = counted in
          let parts = initials_count shape.starts shape.marks shape.inner in
          let at : x ≡ get_or xs k (quadruple 0 0 0 0) =
          e ∙ choice_initial shape.starts shape.marks shape.inner k (omega arith) in
          let more : take (k + 1) xs ≡ take k xs ++ (x ∷ []) =
          rw add-one
          (take-suc xs k (quadruple 0 0 0 0) (omega arith)
          ∙ ap (λ (y : Quadruple). take k xs ++ (y ∷ [])) (sym at)) in
          record {
            size = kept ∙ h.size;
            some = omega arith;
            kept = rw (more, e') (kept_more x h.kept below);
          }

    pub store_end :
        {s₀ s : List ℕ} {k : ℕ} → Storing s₀ s k → k ≡ choices →
        StatesKept (quadruples limits) (initials (start_moves shape)) s choices
    store_end {s} {k} h e =
        let xs = initials (start_moves shape) in
        let count = counted in rw (← e) (rw (take_all k xs (omega arith)) at h.kept)

-- no edge is kept in words that are zero
no_edges : (limits : Limits) (w : List ℕ) → Begins [] w → Begins (0 ∷ 0 ∷ 0 ∷ triples (take (edge_room limits w) [])) w
unfolding flat_map
no_edges limits w h = rw (take-nil (edge_room limits w)) (record { at = λ i. h.at i ∙ sym (zeros_at 3 i) })

-- what is kept of the initial states is kept of the beginning
pub started_shows :
    {limits : Limits} (shape : Shape) {l : Lent} {n : ℕ} → Begins [] l.words →
    StatesKept (quadruples limits) (initials (start_moves shape)) l.sets n →
    Shows (quadruples limits) (built (initials (start_moves shape)) []) l (record { states = n; edges = 0 })
unfolding built
started_shows {limits} shape {l} h kept =
    record { states = kept; edges = record { counted = omega arith; begins = no_edges limits l.words h } }
