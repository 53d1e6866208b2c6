use Rattle.std.proofs.Common.{◌≡◌, List, ℕ, not, ap, sym, ◌∙◌}
use Rattle.basics.proofs.Booleans.{eq_eqb, ne_eqb}
use Rattle.sets.specs.Sets.{set_states, without}
use Rattle.sets.proofs.Walk.{clear_lt, some_member, member_hit, member_turn, member_none}
use Rattle.ncsb.specs.Array.{from_array}
use Rattle.ncsb.specs.Lines.{no_dead_end}
use Rattle.ncsb.specs.declared.Quadruple.{Quadruple}
use Rattle.ncsb.proofs.lines.no_dead_end.Invariants.{idle}
use Rattle.ncsb.proofs.lines.no_dead_end.Goals as goal

none_idle :
    (moves : List (List ℕ)) (marks letter : ℕ) (x : Quadruple) {left : ℕ} → left ≡ without x.C marks →
    no_dead_end (from_array moves 0 marks 0) x letter ≡ not (some_member set_states left (idle moves letter))
unfolding no_dead_end from_array some_member
none_idle moves marks letter x e = rw e

pub returns-then-targets_of-eq0 : goal.returns-then-targets_of-eq0
returns-then-targets_of-eq0 c =
    let at = c.loop-left in
    let args = c.args in
    let e = c.targets_of.ensures in
    let hit =
    member_hit set_states at.left (idle args.moves.now args.letter) at.invariant.0 c.loop-left-test.true
    (eq_eqb (rw e at c.if-targets_of-eq0.true)) in
    sym
    (none_idle args.moves.now args.shape.marks args.letter args.x c.without-left.ensures
    ∙ ap not (sym at.invariant.1 ∙ hit))

pub loop-left-preserved : goal.loop-left-preserved
loop-left-preserved c =
    let at = c.loop-left in
    let args = c.args in
    let e = c.targets_of.ensures in (
      clear_lt set_states at.left at.invariant.0,
      member_turn set_states at.left (idle args.moves.now args.letter) at.invariant.0 c.loop-left-test.true
          (ne_eqb _ 0 (rw e at c.if-targets_of-eq0.false))
          ∙ at.invariant.1,
    )

pub returns : goal.returns
returns c =
    let at = c.loop-left in
    let args = c.args in
    let none =
    member_none set_states at.left (idle args.moves.now args.letter) at.invariant.0 c.loop-left-test.false in
    sym
    (none_idle args.moves.now args.shape.marks args.letter args.x c.without-left.ensures
    ∙ ap not (sym at.invariant.1 ∙ none))
