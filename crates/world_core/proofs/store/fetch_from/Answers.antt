-- the fetch is the next entry
use Rattle.std.proofs.Common.{ap, subst, sym}
use Rattle.hub_core.specs.PageRoom.{IsRoomFor}
use Rattle.hub_model.specs.Setting.{Setting}
use Rattle.world_core.proofs.StoreLemmas.{page_grown, page_said, page_store, prepared}
use Rattle.world_core.proofs.store.fetch_from.Goals as goal

pub fetch-requires-clause-room : goal.fetch-requires-clause-room
fetch-requires-clause-room c = subst (λ (g : Setting). IsRoomFor g c.args.room.now) (sym c.prepare.ensures.setting) c.requires

pub returns-in_err-prepare-clause-grown : goal.returns-in_err-prepare-clause-grown
returns-in_err-prepare-clause-grown c = prepared c.args.desk.now c.prepare.new.desk c.args.moment c.prepare.ensures.entries c.prepare.ensures.setting

pub returns-clause-page : goal.returns-clause-page
returns-clause-page c =
    page_said c.args.desk.now c.prepare.new.desk c.fetch.new.self c.args.moment c.prepare.ensures.entries c.prepare.ensures.setting c.fetch.ensures.setting
    c.fetch.new.room c.fetch.ensures.made

pub returns-clause-ok : goal.returns-clause-ok
returns-clause-ok c =
    page_store c.args.desk.now c.prepare.new.desk c.fetch.new.self c.args.moment c.prepare.ensures.entries c.prepare.ensures.setting c.fetch.ensures.setting
    c.fetch.new.room c.fetch.ensures.made

pub returns-clause-grown : goal.returns-clause-grown
returns-clause-grown c =
    page_grown c.args.desk.now c.prepare.new.desk c.fetch.new.self c.args.moment c.prepare.ensures.entries c.prepare.ensures.setting c.fetch.ensures.setting
    c.fetch.new.room c.fetch.ensures.made

pub returns-clause-room : goal.returns-clause-room
returns-clause-room c = subst (λ (g : Setting). IsRoomFor g c.fetch.new.room) c.prepare.ensures.setting c.fetch.ensures.room
