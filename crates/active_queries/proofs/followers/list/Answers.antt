use Rattle.active_queries.proofs.ListedLemmas.{listed-alike, same-bools}
use Rattle.active_queries.proofs.followers.list.Goals as goal

pub returns-then-was-is : goal.returns-then-was-is
returns-then-was-is c = listed-alike c.args.key c.args.listed.now.keys c.args.was c.args.is c.requires.was (same-bools c.args.was c.args.is c.if-was-is.true)
