-- a result depends on the changes up to its commit, which both journals have
use Rattle.durable_book.proofs.AcrossLemmas.{right_across}
use Rattle.durable_book.proofs.laws.replies_are_right_across_openings.Goals as goal

pub returns : goal.returns
returns c = right_across c.beginnings_are_legal.ensures c.one_entry_more.ensures.legal c.copies_are_of_reads.ensures c.longer_histories_are_later.ensures c.result_of_prefix.ensures
