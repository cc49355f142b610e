-- the option was given, or not
use Rattle.command_line.proofs.WordLemmas.{shown, not_shown, number_some, number_none, number_is}
use Rattle.command_line.proofs.words.number_of.Goals as goal

pub returns-in-Some-number_within-clause-ok : goal.returns-in-Some-number_within-clause-ok
returns-in-Some-number_within-clause-ok c = let number = c.in-Some-number_within.ensures.some in
    (number_some _ _ _ _ (shown _ _ _ c.value_of.ensures c.in-Some.is) number.0, number.1, number.2)

pub returns-in-None-number_within-clause-err : goal.returns-in-None-number_within-clause-err
returns-in-None-number_within-clause-err c = λ n is. c.in-None-number_within.ensures.none n (number_is _ _ _ _ (shown _ _ _ c.value_of.ensures c.in-Some.is) is.0) is.1 is.2

pub returns-in-None-clause-ok : goal.returns-in-None-clause-ok
returns-in-None-clause-ok c = (number_none _ _ (not_shown _ _ c.value_of.ensures c.in-None.is), c.requires.default.0, c.requires.default.1)
