-- row by row
use Rattle.store_base.proofs.GivenLemmas.{gives_first, gives_end, rows_in}
use Rattle.store_base.proofs.laws.a_reader_gives_what_a_base_stands_for.Goals as goal

pub returns-clause-text : goal.returns-clause-text
returns-clause-text c = rows_in

pub returns-clause-given : goal.returns-clause-given
returns-clause-given c = gives_first

pub returns-clause-ends : goal.returns-clause-ends
returns-clause-ends c = gives_end
