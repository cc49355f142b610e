use Rattle.issued_expiries.specs.Copies.{is_between}
use Rattle.issued_expiries.proofs.LawLemmas.{active_alike, count_alike}
use Rattle.issued_expiries.proofs.laws.same_copies_answer_alike.Goals as goal

pub returns : goal.returns
returns c = record {
  active = active_alike;
  count = count_alike;
  latest = λ some others key from below same. same key (is_between from below);
}
