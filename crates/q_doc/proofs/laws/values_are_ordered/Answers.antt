use Rattle.std.proofs.Common.{refl}
use Rattle.q_doc.specs.OrderLaws.{tree_cmp_total, value_cmp_total, value_same}
use Rattle.q_doc.proofs.laws.values_are_ordered.Goals as goal

pub returns : goal.returns
returns c = record {
  total = value_cmp_total;
  present_total = tree_cmp_total;
  absent_first = λ t. refl;
  same = value_same;
}
