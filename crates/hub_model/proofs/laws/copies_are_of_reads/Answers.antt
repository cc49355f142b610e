use Rattle.hub_model.proofs.CopiesOfReads.{read-from, from-read}
use Rattle.hub_model.proofs.laws.copies_are_of_reads.Goals as goal

-- a read alone adds a copy, and no entry removes one
pub returns : goal.returns
returns c = λ g history key at clock ttl absent. (from-read g key at clock ttl absent history, read-from g key at clock ttl absent history)
