use Rattle.std.proofs.Common.{◌≤◌, ℕ, sym, subst, ◌∙◌}
use Rattle.client_core.specs.declared.level.Level.TheVariants.{Causal}
use Rattle.client_core.specs.Floor.{floor_of, same_mark}
use Rattle.client_core.proofs.TableLemmas.{floor_least, floor_most, floor_exact}
use Rattle.client_core.proofs.floors.Floors.floor.Goals as goal

-- the reads of a key are covered by its row and the common floor
pub returns-clause-least : goal.returns-clause-least
returns-clause-least c = λ past had.
    subst (λ (n : ℕ). floor_of same_mark c.args.level past c.args.mark ≤ n) (sym c.floor_from.ensures)
    (floor_least c.args.self.now c.args.rows.now past c.args.level c.args.mark c.commit_of-held.result had c.commit_of-held.ensures)

-- both are of reads
pub returns-clause-most : goal.returns-clause-most
returns-clause-most c = λ past had.
    subst (λ (n : ℕ). n ≤ floor_of same_mark Causal past c.args.mark) (sym c.floor_from.ensures)
    (floor_most c.args.self.now c.args.rows.now past c.args.level c.args.mark c.commit_of-held.result had c.commit_of-held.ensures)

-- the common floor is 0 while no row was given away
pub returns-clause-exact : goal.returns-clause-exact
returns-clause-exact c = λ past had none.
    c.floor_from.ensures ∙ floor_exact c.args.self.now c.args.rows.now past c.args.level c.args.mark c.commit_of-held.result had c.commit_of-held.ensures none

-- where the table has room for the past, no row was given away
pub returns-clause-fits : goal.returns-clause-fits
returns-clause-fits c = λ past had room.
    c.floor_from.ensures ∙ floor_exact c.args.self.now c.args.rows.now past c.args.level c.args.mark c.commit_of-held.result had c.commit_of-held.ensures (had.fits room)
