-- The text is read token by token, and its offsets are those of the rules.
use Rattle.std.proofs.Common.{suc, length, Err, refl, sym, ap, ◌∙◌, arith}
use Rattle.query_lang.specs.FilterReading.{read_filter, filter_rules, seen}
use Rattle.query_lang.specs.declared.refusal.QueryRefusal.TheVariants.{Syntax}
use Rattle.query_lang.specs.declared.token.Beginning.TheVariants.{Text}
use Rattle.query_lang.specs.Reading.{tokens, run, tokens_in}
use Rattle.query_lang.proofs.ReadingLemmas.{run_unfinished, run_bad_text}
use Rattle.query_lang.proofs.AllowedLemmas.{allowed}
use Rattle.query_lang.proofs.reading.read_filter.Goals as goal

pub tokens-init : goal.tokens-init
unfolding read_filter tokens
tokens-init c =
    let text = c.args.text.now in
    (c.utf8.text, refl, (suc (length text), omega arith, ap (λ s. run filter_rules (length text) s (tokens_in (suc (length text)) text)) (sym c.new-reader.ensures)))

pub returns-in-Unfinished : goal.returns-in-Unfinished
returns-in-Unfinished c =
    let (m, below, read) = c.tokens.invariant.2 in
    let x = c.in-Unfinished in
    read ∙ run_unfinished filter_rules _ (seen c.tokens.reader) m _ _ _ _ below x.ensures.value (c.is_allowed.ensures ∙ allowed (seen c.tokens.reader) x.what) ∙ ap (λ place. Err (Syntax 102 place)) (sym c.place_of-place.ensures)

pub returns-in-BadText : goal.returns-in-BadText
returns-in-BadText c =
    let (m, below, read) = c.tokens.invariant.2 in
    let x = c.in-BadText in
    read ∙ run_bad_text filter_rules _ (seen c.tokens.reader) m _ _ _ _ below x.ensures.value (c.is_allowed-allowed.ensures ∙ allowed (seen c.tokens.reader) Text) ∙ ap (λ place. Err (Syntax 102 place)) (sym c.place_of-place-in-BadText.ensures)
