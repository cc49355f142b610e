use Rattle.std.proofs.Common.{subst}
use Rattle.wire_law.specs.Printed.{ReplyIsRead}
use Rattle.wire_law.proofs.ToldLemmas.{told_read}
use Rattle.wire_law.proofs.laws.told_is_read.Goals as goal

pub returns : goal.returns
returns c =
    told_read c.args.shape.now c.args.told.now c.args.length c.args.close
    (subst ReplyIsRead c.of.ensures c.reply_is_read.ensures)
