-- The successors of a quadruple on one letter, met one by one within the room. Assumes nothing.
use mathlib.Core.Path.{◌≡◌, sym, ◌∙◌}
use mathlib.Core.Bool.{Bool, true, false}
use mathlib.Core.List.{List}
use Rattle.std.proofs.Common.{Some, None}
use Prim.Native.Nat.{ℕ, suc, ◌^◌, ◌<◌}
use native.Mathlib.Omega.{arith}
use lib.ListN.{length, get_or}
use Rattle.basics.specs.Tabulate.{tabulate}
use Rattle.basics.proofs.Tabulate.{tabulate_same, tabulate_items}
use Rattle.automata.specs.System.{add_edge, add_all}
use Rattle.automata.proofs.Exploring.{add_all_more, grows_more}
use Rattle.sets.specs.Sets.{set_states, size}
use Rattle.tables.specs.Table.{Limits}
use Rattle.ncsb.specs.Array.{from_array, nth_successor}
use Rattle.ncsb.specs.Successors.{quadruple, same, asks, blocked_by, blocked, successors}
use Rattle.ncsb.specs.declared.Asked.{Asked}
use Rattle.ncsb.specs.declared.Quadruple.{Quadruple}
use Rattle.ncsb.proofs.Choices.{blocked_same, choices_count, choice_successor}
use Rattle.ncsb.proofs.Successors.{successors_none}
use Rattle.ncsb.specs.declared.Shape.{Shape}
use Rattle.complement.specs.Found.{quadruples, Turns, array_moves}
use Rattle.complement.specs.declared.explore.Growth.{Growth}
use Rattle.complement.proofs.Reaching.{same_self, Reaching, reach_full, reach_end}

module _
    (limits : Limits) (m : List (List ℕ)) (shape : Shape) (x : Quadruple) (i c : ℕ) {asked : Asked} {stopped : Bool}
    (asking : asked ≡ asks (from_array m 0 shape.marks shape.inner) x c)
    (stopping : stopped ≡ blocked_by (from_array m 0 shape.marks 0) x c asked) where
  stops : stopped ≡ blocked (array_moves m shape) x c
  unfolding array_moves
  stops = stopping ∙ blocked_same m shape.marks shape.inner x c asking

  -- a blocked step has no successor
  pub letter_blocked :
      {g : Growth} → stopped ≡ true →
      Turns (quadruples limits) (add_all same i c (successors (array_moves m shape) x c)) g g (Some tt)
  unfolding add_all array_moves
  letter_blocked e =
      record {
        same = same_self;
        from = λ b shows. rw (successors_none (from_array m 0 shape.marks shape.inner) x c (sym stops ∙ e)) shows;
      }

  module _ (goes : stopped ≡ false) {choices : ℕ} (counted : choices ≡ 2 ^ size set_states asked.free) where
    open_blocked : blocked (array_moves m shape) x c ≡ false
    open_blocked = sym stops ∙ goes

    all_choices : length (successors (array_moves m shape) x c) ≡ choices
    unfolding array_moves
    all_choices = choices_count m shape.marks shape.inner x c asking open_blocked ∙ sym counted

    -- the choices by number are the successors
    each_choice : tabulate choices (nth_successor x asked) ≡ successors (array_moves m shape) x c
    unfolding array_moves
    each_choice =
        let ys = successors (array_moves m shape) x c in
        tabulate_same choices (nth_successor x asked) (λ j. get_or ys j (quadruple 0 0 0 0))
        (λ j l. choice_successor m shape.marks shape.inner x c asking open_blocked j (let e = counted in omega arith))
        ∙ rw (← all_choices) (tabulate_items ys (quadruple 0 0 0 0))

    -- so many choices were met: one more does not fit, or it was the last
    module _
        {g₀ g : Growth} {k : ℕ}
        (h : Reaching (quadruples limits) (λ n. add_all same i c (tabulate n (nth_successor x asked))) g₀ g k) where
      pub letter_full :
          {g' : Growth} {z : Quadruple} → z ≡ nth_successor x asked k →
          Turns (quadruples limits) (add_edge same i c z) g g' None → k < choices →
          Turns (quadruples limits) (add_all same i c (successors (array_moves m shape) x c)) g₀ g' None
      letter_full e turn more =
          rw each_choice at
          (reach_full h (add_all_more same (nth_successor x asked) i c k) (rw e at turn) choices
          (λ b. grows_more same (nth_successor x asked) i c (suc k) choices b more))

      pub letter_end :
          k ≡ choices → Turns (quadruples limits) (add_all same i c (successors (array_moves m shape) x c)) g₀ g (Some tt)
      letter_end e = rw each_choice at (reach_end h choices e)
