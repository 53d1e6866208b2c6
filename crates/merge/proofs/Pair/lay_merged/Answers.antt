-- `Pair::lay_merged` meets its contract: the counts, then the states and the records of both tables, each part behind the one before
-- (Laid). Assumes nothing.
use native.Mathlib.Omega.{arith}
use Rattle.patterns.proofs.Passed.{checked_table}
use Rattle.merge.proofs.Laid.{both_fit, counts_asked, laid_out}
use Rattle.merge.proofs.Refusals.{paired}
use Rattle.merge.proofs.Words.{merged_length}
use Rattle.merge.proofs.Pair.lay_merged.Goals as goal

pub write_counts-requires : goal.write_counts-requires
write_counts-requires c =
    counts_asked (paired c.args.self.first_passed c.args.self.second_passed c.requires) c.args.self.first.counted c.args.self.second.counted
    c.letters.ensures.is
    c.records-records.ensures.is
    c.records.ensures.is

pub invariant_of-before : goal.invariant_of-before
invariant_of-before c =
    let fits = both_fit (paired c.args.self.first_passed c.args.self.second_passed c.requires) in
    record { valid = checked_table _ c.args.self.first_passed; targets_fit = omega arith; links_fit = omega arith }

pub invariant_of-behind : goal.invariant_of-behind
invariant_of-behind c =
    let fits = both_fit (paired c.args.self.first_passed c.args.self.second_passed c.requires) in
    record { valid = checked_table _ c.args.self.second_passed; targets_fit = omega arith; links_fit = omega arith }

pub lay_states-end-requires : goal.lay_states-end-requires
lay_states-end-requires c = let room = (paired c.args.self.first_passed c.args.self.second_passed c.requires).room in omega arith

pub lay_states-end-requires-2 : goal.lay_states-end-requires-2
lay_states-end-requires-2 c = let room = (paired c.args.self.first_passed c.args.self.second_passed c.requires).room in omega arith

pub lay_records-end-requires : goal.lay_records-end-requires
lay_records-end-requires c = let room = (paired c.args.self.first_passed c.args.self.second_passed c.requires).room in omega arith

pub lay_records-requires : goal.lay_records-requires
lay_records-requires c = let room = (paired c.args.self.first_passed c.args.self.second_passed c.requires).room in omega arith

pub returns-clause-end : goal.returns-clause-end
returns-clause-end c = omega (arith, merged_length c.args.self.first.words.now c.args.self.second.words.now)

pub returns-clause-inside : goal.returns-clause-inside
returns-clause-inside c = let room = (paired c.args.self.first_passed c.args.self.second_passed c.requires).room in omega arith

pub returns-clause-laid : goal.returns-clause-laid
returns-clause-laid c =
    laid_out _ _ c.args.words.now (paired c.args.self.first_passed c.args.self.second_passed c.requires) c.args.self.first.counted
    c.args.self.second.counted
    c.letters.ensures.is
    c.records-records.ensures.is
    c.records.ensures.is
    c.write_counts.ensures
    c.lay_states-end.ensures.laid
    c.lay_states-end.ensures.end
    c.lay_states-end-2.ensures.laid
    c.lay_states-end-2.ensures.end
    c.lay_records-end.ensures.laid
    c.lay_records-end.ensures.end
    c.lay_records.ensures.laid
