-- the lines of the run, and then its numbers
use Rattle.std.proofs.lemmas.Result.{IfOk-weaker}
use Rattle.world_core.proofs.TextLemmas.{told_of_lines}
use Rattle.world_core.proofs.text.run_text.Goals as goal

pub returns : goal.returns
returns g c = IfOk-weaker c.text_of.result _ _ (λ text e. record {
  lines = c.in_ok-lines.lines.items;
  run = c.in_ok-lines.ensures;
  text_is = told_of_lines _ _ _ _ _ _ c.deref.ensures.value e;
}) c.text_of.ensures
