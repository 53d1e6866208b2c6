-- `Quadruple::on_letter` meets its contract: its sets are those that the letter asks. Assumes nothing.
use Rattle.std.proofs.Common.{◌≡◌, ℕ, ◌∙◌}
use Rattle.std.specs.Int.Bits.{bit_or}
use Rattle.sets.specs.Sets.{without}
use Rattle.ncsb.specs.Array.{from_array}
use Rattle.ncsb.specs.Lines.{followed, not_leaving, reachable_CS, safe_stays, targets}
use Rattle.ncsb.specs.Moves.{Moves}
use Rattle.ncsb.specs.Successors.{asks, free}
use Rattle.ncsb.specs.declared.Asked.{Asked}
use Rattle.ncsb.specs.declared.Quadruple.{Quadruple}
use Rattle.ncsb.proofs.Free.{free_of_tracked}
use Rattle.ncsb.proofs.Quadruple.on_letter.Goals as goal

-- what is free is what F and the sets of lines 3 and 4 leave of what is tracked
left_free :
    (d : Moves) (x : Quadruple) (c : ℕ) {t s r w : ℕ} →
    t ≡ reachable_CS d x c → s ≡ safe_stays d x c → r ≡ not_leaving d x c →
    w ≡ without t (bit_or d.marks (bit_or s r)) → w ≡ free d x c
left_free d x c t s r w = w ∙ rw (t, s, r) (free_of_tracked d x c)

same_asked :
    {a b : Asked} → a.outer ≡ b.outer → a.tracked ≡ b.tracked → a.safe ≡ b.safe → a.staying ≡ b.staying →
    a.free ≡ b.free → a.followed ≡ b.followed → a ≡ b
same_asked n t s r f b =
    λ i. record { outer = n i; tracked = t i; safe = s i; staying = r i; free = f i; followed = b i }

pub returns : goal.returns
unfolding asks from_array followed targets
returns c =
    let args = c.args in
    let d = from_array args.moves.now 0 args.shape.marks args.shape.inner in
    let line = c.reachable-reachable.ensures in
    same_asked line.N line.CS line.safe line.staying
    (left_free d args.self args.letter line.CS line.safe line.staying c.without.ensures) c.followed.ensures
