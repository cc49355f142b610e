use Rattle.commit_book.proofs.KeptLemmas.{any_kept}
use Rattle.commit_book.proofs.laws.kept_rows_are_of_the_records_that_matter.Goals as goal

-- of the kept rows up to the horizon each record has that of its document there
pub returns : goal.returns
returns c = λ journal horizon collection id. any_kept journal collection id horizon
