-- all commits of before are matched when the store is opened
use Rattle.durable_book.proofs.AcrossLemmas.{later_fresh}
use Rattle.durable_book.proofs.laws.later_replies_are_fresh.Goals as goal

pub returns : goal.returns
returns c = later_fresh c.beginnings_are_legal.ensures c.longer_histories_are_later.ensures c.front_is_within.ensures
