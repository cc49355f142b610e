-- the option was given, or not
use Rattle.std.proofs.Common.{arith}
use Rattle.command_line.proofs.WordLemmas.{shown, not_shown, trim_some, trim_none, trim_is}
use Rattle.command_line.proofs.trim.trim_of.Goals as goal

pub returns-in-Some-number_within-clause-ok : goal.returns-in-Some-number_within-clause-ok
returns-in-Some-number_within-clause-ok c = trim_some _ _ _ (shown _ _ _ c.value_of.ensures c.in-Some.is) c.in-Some-number_within.ensures.some

pub returns-in-None-number_within-clause-err : goal.returns-in-None-number_within-clause-err
returns-in-None-number_within-clause-err c = λ trim is. let number = trim_is _ _ trim (shown _ _ _ c.value_of.ensures c.in-Some.is) is in
    c.in-None-number_within.ensures.none number.0 number.2 (omega arith) number.3

pub returns-in-None-clause-ok : goal.returns-in-None-clause-ok
returns-in-None-clause-ok c = trim_none _ (not_shown _ _ c.value_of.ensures c.in-None.is)
