-- A text in quotes ends with a quote.
use Rattle.std.proofs.Common.{ap, ◌∙◌, arith}
use Rattle.query_lang.specs.Quoted.{scan}
use Rattle.query_lang.proofs.QuotedLemmas.{closing_quote}
use Rattle.query_lang.proofs.lexer.quoted.Goals as goal

pub cut-requires-clause-there : goal.cut-requires-clause-there
cut-requires-clause-there c = rw (closing_quote c.args.from.now _ (c.in-Closed.ensures ∙ ap (scan 0) c.skip.ensures.rest)) (omega arith)

pub cut-requires-clause-ascii : goal.cut-requires-clause-ascii
cut-requires-clause-ascii c = rw (closing_quote c.args.from.now _ (c.in-Closed.ensures ∙ ap (scan 0) c.skip.ensures.rest)) (omega arith)
