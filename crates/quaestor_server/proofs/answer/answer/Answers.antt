-- the desk answers, and to wait for what is kept changes nothing of it
use Rattle.std.proofs.Common.{sym}
use Rattle.quaestor_server.proofs.AnswerLemmas.{shown_of}
use Rattle.quaestor_server.proofs.answer.answer.Goals as goal

pub returns-clause-answer : goal.returns-clause-answer
returns-clause-answer g c = λ early asked is_read known.
    shown_of _ _ _ _ _ _ _ _ _ c.args.moment early asked _ _ _ (sym c.answer_read-told.ensures.setting) c.kept.ensures.seen c.kept.ensures.mine (c.answer_read-told.ensures.answer early asked is_read known) c.kept.ensures.shown
