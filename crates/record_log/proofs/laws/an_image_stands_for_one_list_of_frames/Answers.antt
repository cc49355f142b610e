use Rattle.record_log.proofs.LawLemmas.{stands_once}
use Rattle.record_log.proofs.laws.an_image_stands_for_one_list_of_frames.Goals as goal

pub returns : goal.returns
returns c = stands_once
