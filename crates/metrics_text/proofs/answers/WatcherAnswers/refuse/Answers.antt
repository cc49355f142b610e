-- the text begins with the line of a bad request
use Rattle.std.proofs.Common.{refl}
use Rattle.metrics_text.proofs.answers.WatcherAnswers.refuse.Goals as goal

pub returns-clause-reply : goal.returns-clause-reply
returns-clause-reply g c = λ expected. (_, (_, refl), c.give_both.ensures)
