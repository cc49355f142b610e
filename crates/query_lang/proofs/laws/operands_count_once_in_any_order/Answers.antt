-- Texts tell the operands apart, so these come in one order.
use Rattle.query_lang.proofs.OneNormalForm.{one_normal_form}
use Rattle.query_lang.proofs.laws.operands_count_once_in_any_order.Goals as goal

pub returns : goal.returns
returns c = one_normal_form
