-- A text is UTF-8, so that the number alone is tested.
use Rattle.std.proofs.Common.{◌∙◌, ap}
use Rattle.http_front.specs.Numbers.{number_of}
use Rattle.http_front.specs.Query.{is_start}
use Rattle.http_front.proofs.QueryLemmas.{text_of_others, text_of_start}
use Rattle.http_front.proofs.query.is_value.Goals as goal

pub returns-in-From : goal.returns-in-From
returns-in-From c =
    c.is_start.ensures ∙ ap is_start (c.number_of.ensures ∙ ap number_of c.as_bytes.ensures.value)
    ∙ text_of_start c.args.field c.args.value.now c.utf8.value c.in-From.is

pub returns-in_default : goal.returns-in_default
returns-in_default c = text_of_others c.args.field c.args.value.now c.utf8.value c.in_default.not-From
