use Rattle.std.proofs.Common.{refl}
use Rattle.client_core.proofs.TableLemmas.{unlisted_past}
use Rattle.client_core.proofs.floors.Floors.new_page.Goals as goal

-- no row is whitelisted, and nothing else of the rows has changed
pub returns-in-None : goal.returns-in-None
returns-in-None c = λ past had.
    unlisted_past c.args.rows.now c.unlist.new.rows c.unlist.ensures.length c.unlist.ensures.rows c.args.self.now _ past had refl refl refl refl refl
