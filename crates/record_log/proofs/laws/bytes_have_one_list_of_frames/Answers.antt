use Rattle.record_log.proofs.LawLemmas.{one_front}
use Rattle.record_log.proofs.laws.bytes_have_one_list_of_frames.Goals as goal

-- frame by frame
pub returns : goal.returns
returns c = one_front
