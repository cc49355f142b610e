use Rattle.std.proofs.Common.{sym, ◌∙◌, ap}
use Rattle.std.specs.Prelude.{Ok}
use Rattle.http_front.proofs.TagLemmas.{adds_full}
use Rattle.http_front.proofs.tags.add_member.Goals as goal

pub returns-then-is_full : goal.returns-then-is_full
returns-then-is_full c =
    adds_full c.args.comparison c.args.member.now c.args.commits.now c.in-Some.commit
    (sym c.is_empty.ensures ∙ c.if-is_empty.false) (sym c.is_full.ensures ∙ c.if-is_full.true) c.requires
    (sym (c.in_ok-commit.was ∙ ap (λ o. Ok o) c.in-Some.is) ∙ c.commit_in.ensures)
