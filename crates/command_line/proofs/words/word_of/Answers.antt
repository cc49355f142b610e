-- clap has found the word
use Rattle.std.proofs.Common.{◌≡◌, false, true, is_some, sym, ap, ◌∙◌}
use Rattle.command_line.proofs.WordLemmas.{shown, not_shown}
use Rattle.command_line.proofs.words.word_of.Goals as goal

pub returns : goal.returns
returns c = shown _ _ _ c.value_of.ensures c.in-Some.is

pub unreachable-requires : goal.unreachable-requires
unreachable-requires c =
    let bad : false ≡ true = sym (ap is_some (not_shown _ _ c.value_of.ensures c.in-None.is)) ∙ c.requires in
    absurd cc
