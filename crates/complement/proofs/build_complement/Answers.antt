-- `build_complement` answers and leaves what the definitions say: an accepted try as it is, and after a refused one nothing. Assumes nothing.
use Rattle.std.proofs.Common.{ℕ, replicate, sym, ◌∙◌, ap}
use Rattle.complement.proofs.Answers.{says_tried, says_cleared}
use Rattle.complement.proofs.build_complement.Goals as goal

pub returns-then-is_err : goal.returns-then-is_err
returns-then-is_err c =
    says_cleared _ c.try_build-built.ensures (sym c.is_err.ensures.value ∙ c.if-is_err.true)
    (c.fill.ensures ∙ ap (λ (n : ℕ). replicate n 0) c.try_build-built.auto.words)
    (c.fill-then-is_err.ensures ∙ ap (λ (n : ℕ). replicate n 0) c.try_build-built.auto.sets)

pub returns-else-is_err : goal.returns-else-is_err
returns-else-is_err c = says_tried _ c.try_build-built.ensures (sym c.is_err.ensures.value ∙ c.if-is_err.false)
