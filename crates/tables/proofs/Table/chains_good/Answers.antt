use Rattle.std.proofs.Common.{arith}
use Rattle.tables.specs.Marks.{mark_words}
use Rattle.tables.proofs.Marking.{names_few, heads_fail, nexts_fail, chains_answer}
use Rattle.tables.proofs.Table.chains_good.Goals as goal

pub returns-in_default : goal.returns-in_default
returns-in_default c = heads_fail c.args.self.words.now mark_words mark_words c.in_default.ensures

pub returns-in_default-name_nexts : goal.returns-in_default-name_nexts
returns-in_default-name_nexts c =
    nexts_fail c.args.self.words.now mark_words mark_words c.in-Some.ensures c.in_default-name_nexts.ensures

pub overflow_add-result : goal.overflow_add-result
overflow_add-result c =
    let heads = names_few c.in-Some.ensures in
    let nexts = names_few c.in-Some-name_nexts.ensures in omega arith

pub returns : goal.returns
returns c =
    chains_answer c.args.self.words.now mark_words mark_words c.records.ensures.is c.in-Some.ensures
    c.in-Some-name_nexts.ensures
