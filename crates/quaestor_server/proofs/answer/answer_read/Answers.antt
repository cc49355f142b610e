-- the desk is made ready, and then answers
use Rattle.quaestor_server.proofs.AnswerLemmas.{answered_then}
use Rattle.quaestor_server.proofs.answer.answer_read.Goals as goal

pub returns-in-Ok-ready-clause-answer : goal.returns-in-Ok-ready-clause-answer
returns-in-Ok-ready-clause-answer g c = λ early asked is_read known.
    answered_then _ _ _ _ _ _ _ _ _ c.args.moment early c.args.read c.in-Ok.asked asked _ _ c.in-Ok.is known c.in-Ok-ready.ensures.setting c.in-Ok-ready.ensures.none c.make.ensures.answer
