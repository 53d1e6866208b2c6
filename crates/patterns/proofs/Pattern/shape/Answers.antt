-- `Pattern::shape` meets its contract: its parts are those of the shape. Assumes nothing.
use Rattle.patterns.proofs.Shapes.{shape_right}
use Rattle.patterns.proofs.Pattern.shape.Goals as goal

pub returns : goal.returns
returns c =
    shape_right _ c.args.self.passed _ c.requires _ _ _ _ _
    c.args.self.table.counted
    c.letters-letters.ensures.is
    c.flagged-flagged.ensures.initial
    c.flagged-flagged.ensures.accepting
    c.closure-inner.ensures
