use Rattle.std.proofs.Common.{eqb, ℕ}
use Rattle.issued_expiries.proofs.LawLemmas.{same_by_commit}
use Rattle.issued_expiries.proofs.laws.same_copies_by_commit.Goals as goal

pub returns : goal.returns
returns c = λ some others. (λ same key commit. same key (λ (other : ℕ). eqb other commit), same_by_commit some others)
