-- the history that was known is still a prefix
use Rattle.quaestor_server.proofs.WellLemmas.{well_stays}
use Rattle.quaestor_server.proofs.laws.well_served_stays.Goals as goal

pub returns : goal.returns
returns c = well_stays
