-- the parts of a text between spaces
use Rattle.std.proofs.Common.{lit<, rules, tests}
use Rattle.std.proofs.lemmas.Iterator.Search.{all_from_yields_List}
use Rattle.std.proofs.lemmas.Iterator.Splits.{YieldsList-from_str_split}
use Rattle.command_line.specs.Words.{are_hosts, is_host_name}
use Rattle.command_line.proofs.names.are_hosts.Goals as goal

pub returns : goal.returns
unfolding are_hosts
returns c = all_from_yields_List is_host_name _ _ _ c.all.ensures.ran (YieldsList-from_str_split 32 c.args.text.now (lit< tt) c.split.ensures.text c.split.ensures.has_more c.split.ensures.pattern) (λ x b q k. search (rules, tests))
