-- the match, or the tick in its place, is the next entry
use Rattle.world_core.proofs.StoreLemmas.{learnt_grown, match_grown, match_store, prepared}
use Rattle.world_core.proofs.store.match_from.Goals as goal

pub returns-in_err-prepare-clause-grown : goal.returns-in_err-prepare-clause-grown
returns-in_err-prepare-clause-grown c = prepared c.args.desk.now c.prepare.new.desk c.args.moment c.prepare.ensures.entries c.prepare.ensures.setting

pub returns-in_err-match_all-clause-grown : goal.returns-in_err-match_all-clause-grown
returns-in_err-match_all-clause-grown c =
    learnt_grown c.args.desk.now c.prepare.new.desk c.match_all.new.self c.args.moment c.prepare.ensures.entries c.prepare.ensures.setting c.match_all.ensures.setting
    c.in_err-match_all.ensures.memory

pub returns-clause-ok : goal.returns-clause-ok
returns-clause-ok c =
    match_store c.args.desk.now c.prepare.new.desk c.match_all.new.self c.args.moment c.prepare.ensures.entries c.prepare.ensures.setting c.match_all.ensures.setting
    _ c.in_ok-match_all.ensures.made

pub returns-clause-grown : goal.returns-clause-grown
returns-clause-grown c =
    match_grown c.args.desk.now c.prepare.new.desk c.match_all.new.self c.args.moment c.prepare.ensures.entries c.prepare.ensures.setting c.match_all.ensures.setting
    _ c.in_ok-match_all.ensures.made
