-- the parts of a text between spaces
use Rattle.std.proofs.Common.{lit<, rules, tests}
use Rattle.std.proofs.lemmas.Iterator.Search.{all_from_yields_List}
use Rattle.std.proofs.lemmas.Iterator.Splits.{YieldsList-from_str_split}
use Rattle.command_line.specs.Words.{are_web_origins, is_web_origin}
use Rattle.command_line.proofs.names.are_web_origins.Goals as goal

pub returns : goal.returns
unfolding are_web_origins
returns c = all_from_yields_List is_web_origin _ _ _ c.all.ensures.ran (YieldsList-from_str_split 32 c.args.text.now (lit< tt) c.split.ensures.text c.split.ensures.has_more c.split.ensures.pattern) (λ x b q k. search (rules, tests))
