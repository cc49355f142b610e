-- the form of a log is given without one; and what all of them ask for
use Rattle.std.proofs.Common.{◌≡◌, false, true, refl, sym, ◌∙◌}
use Rattle.command_line.proofs.WordLemmas.{not_alone}
use Rattle.command_line.proofs.watching.watching_of.Goals as goal

pub returns-then-is_alone-clause-err : goal.returns-then-is_alone-clause-err
returns-then-is_alone-clause-err c = λ w is. let alone = c.if-is_alone.ensures.0 refl in
    not_alone _ w (sym c.is_given-json.ensures ∙ alone.0) (sym c.value_of-log.ensures ∙ alone.1) is

pub returns-then-is_alone-clause-value : goal.returns-then-is_alone-clause-value
returns-then-is_alone-clause-value c = let alone = c.if-is_alone.ensures.0 refl in
    (sym c.is_given-json.ensures ∙ alone.0, sym c.value_of-log.ensures ∙ alone.1)

pub returns-else-is_alone-clause-ok : goal.returns-else-is_alone-clause-ok
returns-else-is_alone-clause-ok c = record {
  metrics = c.value_of-metrics.ensures;
  log = c.value_of-log.ensures;
  json = c.is_given-json.ensures;
  of_log = λ given none. let bad : false ≡ true = c.if-is_alone.ensures.1 (given, none) in absurd cc;
}
