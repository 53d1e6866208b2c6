-- `records::find_in_words` searches as much of the run as holds records that the words make. Assumes nothing.
use Rattle.std.proofs.Common.{◌≡◌, List, length, min, ◌∙◌, ap, arith}
use Rattle.automata.specs.System.{number_of}
use Rattle.ncsb.specs.Successors.{same}
use Rattle.ncsb.specs.declared.Quadruple.{Quadruple}
use Rattle.records.specs.Records.{records_in}
use Rattle.records.proofs.First.{held_first}
use Rattle.records.proofs.Words.{records_length}
use Rattle.records.proofs.find_in_words.Goals as goal

pub returns : goal.returns
returns c =
    let all = records_length c.args.sets.now in
    let held : c.min-held.result ≡ min (length (records_in c.args.sets.now)) 4 = omega arith in
    let found = rw c.fill.ensures at c.find.ensures in
    found ∙ ap (λ (ys : List Quadruple). number_of same c.args.x ys) (held_first c.min-held.result 4 (records_in c.args.sets.now) held)
