-- the option was given, or not
use Rattle.command_line.proofs.WordLemmas.{shown, not_shown, count_some, count_none, count_is}
use Rattle.command_line.proofs.words.serve.connections_of.Goals as goal

pub returns-in-Some-number_within-clause-ok : goal.returns-in-Some-number_within-clause-ok
returns-in-Some-number_within-clause-ok c = count_some _ _ _ (shown _ _ _ c.value_of.ensures c.in-Some.is) c.in-Some-number_within.ensures.some

pub returns-in-None-number_within-clause-err : goal.returns-in-None-number_within-clause-err
returns-in-None-number_within-clause-err c = λ n is. let number = count_is _ _ n (shown _ _ _ c.value_of.ensures c.in-Some.is) is in
    c.in-None-number_within.ensures.none n number.0 number.1 number.2

pub returns-in-None-clause-ok : goal.returns-in-None-clause-ok
returns-in-None-clause-ok c = count_none _ (not_shown _ _ c.value_of.ensures c.in-None.is)
