-- the refusal is that of the reading of the fields' texts
use Rattle.std.proofs.Common.{◌∙◌, ap, sym}
use Rattle.std.proofs.lemmas.Bool.{true≢false}
use Rattle.std.specs.Prelude.{Err}
use Rattle.http_front.specs.declared.refused.Refused.TheVariants.{BadFilter}
use Rattle.http_front.proofs.FilterLemmas.{refused_as, texts_are}
use Rattle.http_front.proofs.filter.query_in.Goals as goal

pub returns-in_ok-filter_refusal-in-Err-clause-read : goal.returns-in_ok-filter_refusal-in-Err-clause-read
returns-in_ok-filter_refusal-in-Err-clause-read c =
    ap (λ refusal. Err (BadFilter refusal)) c.in_ok-filter_refusal-in-Err.ensures.refusal
    ∙ refused_as c.in-Err.refused _ (λ memory. true≢false (sym (c.in_ok-filter_refusal-in-Err.ensures.memory.1 memory))) c.in-Err.ensures.exact
    ∙ texts_are c.args.collection c.args.fields.now _ _ _ _ _ c.value_of.ensures c.value_of-2.ensures c.value_of-3.ensures c.value_of-4.ensures c.value_of-5.ensures
