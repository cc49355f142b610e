use Rattle.std.proofs.Common.{◌∙◌, ap, drop}
use Rattle.http_message.proofs.InputLemmas.{range_skip}
use Rattle.http_message.proofs.input.Input.skip.Goals as goal

pub returns-else-self-count : goal.returns-else-self-count
returns-else-self-count c =
    range_skip c.self.inside.buffer.items c.self.inside.start c.self.inside.end c.args.count
    ∙ ap (drop c.args.count) c.self.view_is
