use Rattle.std.proofs.Common.{sym, arith, ◌∙◌}
use Rattle.std.proofs.lemmas.List.{length-take-le, take_all}
use Rattle.http_message.proofs.BeginningLemmas.{window_is}
use Rattle.http_message.specs.Limits.{head_limit}
use Rattle.http_message.proofs.find.window.Goals as goal

pub slice_bounds-result-end : goal.slice_bounds-result-end
slice_bounds-result-end c = sym (length-take-le head_limit c.args.bytes.now (omega arith))

pub returns-then-bytes-gt-HEAD_LIMIT : goal.returns-then-bytes-gt-HEAD_LIMIT
returns-then-bytes-gt-HEAD_LIMIT c = sym (window_is c.args.bytes.now)

pub returns : goal.returns
returns c = sym (window_is c.args.bytes.now ∙ take_all head_limit c.args.bytes.now (omega arith))
