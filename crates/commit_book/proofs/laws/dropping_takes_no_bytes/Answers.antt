use Rattle.std.proofs.Common.{◌≡◌, ◌≤◌, ◌+◌, ◌-◌, ℕ, arith, subst}
use Rattle.commit_book.specs.Journal.{kept}
use Rattle.commit_book.proofs.KeptLemmas.{kept_falls}
use Rattle.commit_book.proofs.laws.dropping_takes_no_bytes.Goals as goal

-- row by row
pub returns : goal.returns
returns c = λ journal horizon to forward within.
    let same : to - horizon + horizon ≡ to = omega arith in
    subst (λ (n : ℕ). kept journal n ≤ kept journal horizon) same (kept_falls journal horizon (to - horizon) (omega arith))
