use Rattle.std.proofs.Common.{length, drop, sym, ◌∙◌, ap, arith}
use Rattle.std.proofs.lemmas.Slice.{between_to_end}
use Rattle.std.specs.List.{position_or_len}
use Rattle.http_front.specs.Target.{ends_authority}
use Rattle.http_front.proofs.RouteLemmas.{local_slash, local_server, local_none}
use Rattle.http_front.proofs.target.local_part.Goals as goal

pub returns-then-starts_with : goal.returns-then-starts_with
returns-then-starts_with c = local_slash c.args.target.now (sym c.starts_with.ensures.value ∙ c.if-starts_with.true)

pub returns-then-starts_with-2 : goal.returns-then-starts_with-2
returns-then-starts_with-2 c =
    let target = c.args.target.now in
    let rest = between_to_end target 7 (length target) (omega arith) in
    local_server target c.behind_authority.result.now (sym c.starts_with.ensures.value ∙ c.if-starts_with.false)
    (sym c.starts_with-2.ensures.value ∙ c.if-starts_with-2.true)
    (c.behind_authority.ensures ∙ ap (λ ys. drop (position_or_len ends_authority ys) ys) rest)

pub returns : goal.returns
returns c =
    local_none c.args.target.now (sym c.starts_with.ensures.value ∙ c.if-starts_with.false)
    (sym c.starts_with-2.ensures.value ∙ c.if-starts_with-2.false)
