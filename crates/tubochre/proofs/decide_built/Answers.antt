-- `decide_built` meets its contract: what was built is the used part of the words. Assumes nothing.
use mathlib.Core.Path.{refl}
use Rattle.complement.specs.Build.{used}
use Rattle.tubochre.proofs.decide_built.Goals as goal

pub returns : goal.returns
unfolding used
returns c =
    let says = c.decide_lasso.ensures in
    rw c.in_ok-size.was
    (record {
      built = λ z. rw c.table_words-end.ensures at says.answer;
      unbuilt = λ n. absurd (n refl);
      work = λ z. says.work;
      kept = λ n. absurd (n refl);
    })
