use Rattle.query_normal.proofs.OrderForms.{window_same}
use Rattle.query_normal.proofs.laws.normal_forms_keep_their_windows.Goals as goal

pub returns : goal.returns
returns c = window_same
