use Rattle.std.proofs.Common.{sym, false}
use Rattle.http_front.proofs.TagLemmas.{prefixed-nil}
use Rattle.http_front.proofs.tags.cut_member.Goals as goal

pub loop-index-init : goal.loop-index-init
loop-index-init c = sym (prefixed-nil false c.args.list.now)
