use Rattle.std.proofs.Common.{◌∙◌, ap}
use Rattle.std.specs.Prelude.{Ok}
use Rattle.hub_model.specs.declared.entry.Tags.TheVariants.{Listed}
use Rattle.http_front.proofs.AskLemmas.{read_free}
use Rattle.http_front.proofs.ask.known_of.Goals as goal

pub returns-then-not-has_condition : goal.returns-then-not-has_condition
returns-then-not-has_condition c = ap (λ commits. Ok (Listed commits)) c.new.ensures ∙ read_free c.args.request.now (cc)
