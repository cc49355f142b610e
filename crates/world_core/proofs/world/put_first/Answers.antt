-- the write made a record, so the journal gained it
use Rattle.std.specs.Prelude.{is_some}
use Rattle.std.proofs.lemmas.Result.{on_ok_weaker}
use Rattle.world_core.proofs.WorldLemmas.{created}
use Rattle.world_core.proofs.world.put_first.Goals as goal

pub returns : goal.returns
returns c =
    on_ok_weaker c.created.result (λ e. created c.more_entries.ensures.state c.args.index c.args.store.now c.write.new.self c.in_ok-change.change (is_some c.in_ok-change.change.document) c.in_ok-reply.reply
    c.in_ok-change.ensures c.in_ok-reply.ensures.told c.in_ok-reply.ensures.ok e) c.created.ensures
