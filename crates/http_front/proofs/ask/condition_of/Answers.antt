use Rattle.http_front.proofs.AskLemmas.{write_free}
use Rattle.http_front.proofs.ask.condition_of.Goals as goal

pub returns-then-not-has_condition : goal.returns-then-not-has_condition
returns-then-not-has_condition c = write_free c.args.request.now (cc)
