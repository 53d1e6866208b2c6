-- `Reading::ended` stores the number under way behind the others, if one is. Assumes nothing.
use Rattle.decimal.proofs.Scanning.{none_under_way, ended_none, one_stored}
use Rattle.decimal.proofs.reading.Reading.ended.Goals as goal

pub returns-in_default : goal.returns-in_default
returns-in_default c = ended_none c.requires (none_under_way c.args.self.state c.in_default.not-Within)

pub returns : goal.returns
returns c = one_stored c.in-Within.value c.requires c.in-Within.is
