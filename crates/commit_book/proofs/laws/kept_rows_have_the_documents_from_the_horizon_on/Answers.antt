use Rattle.std.proofs.Common.{◌≡◌, ◌+◌, ◌-◌, ℕ, option_map, ap, ◌∙◌, arith}
use Rattle.commit_book.specs.Journal.{document_at}
use Rattle.commit_book.proofs.KeptDocuments.{documents-kept}
use Rattle.commit_book.proofs.laws.kept_rows_have_the_documents_from_the_horizon_on.Goals as goal

-- row by row above the horizon
pub returns : goal.returns
returns c = λ journal horizon n collection id low high.
    let same : n - horizon + horizon ≡ n = omega arith in
    documents-kept journal horizon collection id (n - horizon) (omega arith) ∙ ap (λ (k : ℕ). option_map (λ d. d.1) (document_at journal k collection id)) same
