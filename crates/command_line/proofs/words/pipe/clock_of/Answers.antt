-- the option was given, or not
use Rattle.command_line.proofs.WordLemmas.{shown, not_shown, clock_some, clock_none, clock_is}
use Rattle.command_line.proofs.words.pipe.clock_of.Goals as goal

pub returns-in-Some-read_number-clause-ok : goal.returns-in-Some-read_number-clause-ok
returns-in-Some-read_number-clause-ok c = let number = c.in-Some-read_number.ensures.some in
    clock_some _ _ _ (shown _ _ _ c.value_of.ensures c.in-Some.is) number.0 number.1

pub returns-in-None-read_number-clause-err : goal.returns-in-None-read_number-clause-err
returns-in-None-read_number-clause-err c = λ at is. let number = clock_is _ _ at (shown _ _ _ c.value_of.ensures c.in-Some.is) is in
    c.in-None-read_number.ensures.none number.0 number.2 number.3

pub returns-in-None-clause-ok : goal.returns-in-None-clause-ok
returns-in-None-clause-ok c = clock_none _ (not_shown _ _ c.value_of.ensures c.in-None.is)
