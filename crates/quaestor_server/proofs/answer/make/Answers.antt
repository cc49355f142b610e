-- what was matched, dropped or told by one entry is served
use Rattle.std.proofs.Common.{Ok, ap, ◌∙◌}
use Rattle.quaestor_server.proofs.AnswerLemmas.{lacked_write, made_match, made_drop, made_purges}
use Rattle.quaestor_server.proofs.answer.make.Goals as goal

-- a write that is accepted, or recorded, may find no memory
pub returns-in-Err-write-clause-answer : goal.returns-in-Err-write-clause-answer
returns-in-Err-write-clause-answer g c = lacked_write _ _ _ _ _ _ _ _ _ _ (c.in-Ok-Write.is ∙ ap Ok c.in-Ok-Write.field-0-is) c.in-Err-write.ensures.accepted c.in-Err-write.ensures.memory

pub returns-in-Ok-match_all-clause-answer : goal.returns-in-Ok-match_all-clause-answer
returns-in-Ok-match_all-clause-answer g c = made_match _ _ _ _ _ _ _ _ _ (c.in-Ok-MatchAll.is ∙ ap Ok c.in-Ok-MatchAll.field-0-is) c.in-Ok-match_all.ensures.made

pub returns-in-Ok-Horizon-clause-answer : goal.returns-in-Ok-Horizon-clause-answer
returns-in-Ok-Horizon-clause-answer g c = made_drop c.all_is_dropped_up_to_the_front.ensures _ _ _ _ _ _ _ _ _ (c.in-Ok-Horizon.is ∙ ap Ok c.in-Ok-Horizon.field-0-is) c.drop_old.ensures.made

pub returns-in-Ok-purges-clause-answer : goal.returns-in-Ok-purges-clause-answer
returns-in-Ok-purges-clause-answer g c = made_purges _ _ _ _ _ _ _ _ _ _ _ (c.in-Ok-Purges.is ∙ ap Ok c.in-Ok-Purges.field-0-is) c.in-Ok-purges.ensures.made
