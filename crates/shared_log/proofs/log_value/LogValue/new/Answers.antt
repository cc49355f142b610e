-- a log with nothing queued
use Rattle.std.proofs.Common.{rules, refl}
use Rattle.shared_log.proofs.StandLemmas.{opens}
use Rattle.shared_log.proofs.log_value.LogValue.new.Goals as goal

pub returns-clause-stands : goal.returns-clause-stands
returns-clause-stands g c = opens _ _ c.args.log c.args.at.commits c.args.at.moment _ c.of-shown.ensures (search rules) c.requires refl
