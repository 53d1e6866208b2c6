-- `build_pattern` is a try of whatever pattern masks and shape are read off: 11 where exploring found more states than fit, 12 where the
-- table is too long, or the complement's table and sets. Assumes nothing.
use Rattle.std.proofs.Common.{◌∙◌, arith}
use Rattle.tables.specs.Table.{wide_range}
use Rattle.tables.proofs.Laws.{wide_fits}
use Rattle.complement.specs.Build.{lent}
use Rattle.complement.proofs.Answers.{refused_states, refused_edges}
use Rattle.complement.proofs.Finishing.{built_asks, built_counts, built_flags, built_tried}
use Rattle.complement.proofs.Kept.{shows_limit}
use Rattle.complement.proofs.Reaching.{SameSizes}
use Rattle.complement.proofs.Stored.{begins_zeros}
use Rattle.complement.proofs.build_pattern.Goals as goal
use Rattle.complement.proofs.build_pattern.Goals.{After-explore}

-- exploring has ended: the buffers are as long as they were
module _ (c : After-explore) where
  sizes : SameSizes (lent c.explore.new.words c.explore.new.sets) (lent c.args.words.now c.args.sets.now)
  sizes =
      record {
        words = c.explore.auto.words ∙ c.fill.auto.items;
        sets = c.explore.auto.sets ∙ c.fill-2.auto.items;
      }

pub explore-requires : goal.explore-requires
explore-requires c =
    record {
      of_pattern = c.requires;
      words_clear = rw c.fill.ensures (begins_zeros c.args.words.now);
      sets_clear = rw c.fill-2.ensures (begins_zeros c.args.sets.now);
    }

pub returns-in_default : goal.returns-in_default
returns-in_default c =
    record {
      says = λ t read.
          refused_states wide_range t read.passed (sizes (goal.at.returns-in_default c).After-explore) (c.in_default.ensures.ends t read);
    }

pub too_long-requires : goal.too_long-requires
too_long-requires c = let of = c.requires in shows_limit (c.in-Some.ensures.ends of.table of.read_off)

pub returns-then-too_long : goal.returns-then-too_long
returns-then-too_long c =
    record {
      says = λ t read.
          refused_edges wide_range t read.passed (sizes (goal.at.returns-then-too_long c).After-explore) (c.in-Some.ensures.ends t read)
          c.too_long.ensures c.if-too_long.true;
    }

pub lay_out-requires : goal.lay_out-requires
lay_out-requires c =
    let of = c.requires in
    built_asks of.read_off (c.in-Some.ensures.ends of.table of.read_off) c.too_long.ensures c.if-too_long.false wide_fits

pub set_flags-requires : goal.set_flags-requires
set_flags-requires c =
    let of = c.requires in
    built_flags of.read_off (c.in-Some.ensures.ends of.table of.read_off) c.too_long.ensures c.if-too_long.false c.lay_out.ensures
    c.lay_out.auto.words

pub overflow_cast-result : goal.overflow_cast-result
unfolding wide_range
overflow_cast-result c =
    let of = c.requires in let most = shows_limit (c.in-Some.ensures.ends of.table of.read_off) in omega arith

pub overflow_cast-result-2 : goal.overflow_cast-result-2
unfolding wide_range
overflow_cast-result-2 c =
    let of = c.requires in
    let edges = (built_counts of.read_off (c.in-Some.ensures.ends of.table of.read_off) c.too_long.ensures c.if-too_long.false).1 in
    omega arith

pub returns : goal.returns
returns c =
    record {
      says = λ t read.
          built_tried read (c.in-Some.ensures.ends t read) c.too_long.ensures c.if-too_long.false c.lay_out.ensures
          c.lay_out.auto.words (lent c.args.words.now c.args.sets.now) (sizes (goal.at.returns c).After-explore)
          c.initial_count.ensures c.set_flags.ensures;
    }
