use Rattle.std.proofs.Common.{refl, ap, ◌∙◌}
use Rattle.std.proofs.lemmas.List.{get_or_default}
use Rattle.client_core.specs.declared.floors.FloorRow.{FloorRow}
use Rattle.client_core.specs.Table.{blank, joined}
use Rattle.client_core.proofs.TableLemmas.{found_past, given_past, given_space, given_least}
use Rattle.client_core.proofs.floors.Floors.put.Goals as goal

-- the mark's row takes in what is new
pub returns-in-Some-clause-past : goal.returns-in-Some-clause-past
returns-in-Some-clause-past c = λ past more had adds low taken.
    found_past c.args.self.now _ c.args.rows.now past more c.in-Some.i c.args.row c.join.result had adds low c.in-Some.ensures
    (c.join.ensures ∙ ap (λ (q : FloorRow). joined q c.args.row) (get_or_default c.args.rows.now c.in-Some.i _ blank c.in-Some.ensures.within))
    (record { writes = refl; reads = c.max-self.ensures; pages = refl }) refl refl

-- a mark without a row is given one
pub returns-in-None-clause-past : goal.returns-in-None-clause-past
returns-in-None-clause-past c = λ past more had adds low taken.
    given_past c.args.self.now c.give.new.self c.args.rows.now c.give.new.rows past more c.args.row had adds low taken c.in-None.ensures c.give.ensures

pub returns-in-None-clause-space : goal.returns-in-None-clause-space
returns-in-None-clause-space c = given_space c.args.self.now c.give.new.self c.args.rows.now c.give.new.rows c.args.row c.in-None.ensures c.give.ensures

pub returns-in-None-clause-least : goal.returns-in-None-clause-least
returns-in-None-clause-least c = given_least c.args.self.now c.give.new.self c.args.rows.now c.give.new.rows c.args.row c.give.ensures
