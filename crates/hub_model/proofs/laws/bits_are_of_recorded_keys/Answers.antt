use Rattle.hub_model.proofs.Bits.{bit-from, bit-to, bit-within, bit-early}
use Rattle.hub_model.proofs.laws.bits_are_of_recorded_keys.Goals as goal

-- a count is above 0 where something is counted
pub returns-clause-recorded : goal.returns-clause-recorded
returns-clause-recorded c = λ g s j late. (bit-from g s j late, λ h. bit-to g s j h.0 h.1 h.2)

-- each of the page's bits is set
pub returns-clause-guarded : goal.returns-clause-guarded
returns-clause-guarded c = λ g s j early. (bit-within g s j, bit-early g s j early)
