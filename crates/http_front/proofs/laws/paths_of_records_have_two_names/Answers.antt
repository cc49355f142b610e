use Rattle.http_front.proofs.PathLemmas.{record_route, route_record}
use Rattle.http_front.proofs.laws.paths_of_records_have_two_names.Goals as goal

pub returns : goal.returns
returns c = λ path low. (record_route path low, λ both. route_record path low both.0 both.1)
