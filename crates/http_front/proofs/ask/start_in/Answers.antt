-- The empty text is no number.
use Rattle.std.proofs.Common.{◌∙◌, ap, sym}
use Rattle.std.specs.Prelude.{unwrap_or}
use Rattle.query_lang.specs.Queries.{bytes_of}
use Rattle.http_front.specs.Numbers.{number_of}
use Rattle.http_front.proofs.ask.start_in.Goals as goal

pub returns-in_default : goal.returns-in_default
unfolding number_of
returns-in_default c = sym (ap (λ text. unwrap_or (number_of text) 1) (sym c.value_of.ensures ∙ ap bytes_of c.in_default.is))
