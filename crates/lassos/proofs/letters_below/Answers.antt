-- `letters_below` meets its contract: what `all` answers over the letters, as the test of each place. Assumes nothing.
use mathlib.Core.Path.{◌∙◌}
use lib.Dec.{ltb}
use Rattle.std.proofs.Common.{rules, tests}
use Rattle.std.proofs.lemmas.Iterator.{YieldsList-from_slice}
use Rattle.std.proofs.lemmas.Iterator.Search.{all_from_yields_List}
use Rattle.lassos.proofs.Parts.{letters_all}
use Rattle.lassos.proofs.letters_below.Goals as goal

pub returns : goal.returns
returns c =
    all_from_yields_List (λ x. ltb x c.args.k) _ _ _ c.all.ensures.ran (YieldsList-from_slice c.args.part.now cc)
    (λ x b q k. search (rules, tests))
    ∙ letters_all c.args.k c.args.part.now
