use Rattle.std.proofs.Common.{length, drop, ap, ◌∙◌, sym, arith}
use Rattle.std.proofs.lemmas.List.{drop_all}
use Rattle.std.proofs.lemmas.Slice.{between_to_end}
use Rattle.std.specs.List.{position_or_len}
use Rattle.http_front.specs.Target.{ends_authority}
use Rattle.http_front.proofs.CutLemmas.{offset_is, no_offset}
use Rattle.http_front.proofs.target.behind_authority.Goals as goal

pub returns-in-Some : goal.returns-in-Some
returns-in-Some c =
    let rest = c.args.rest.now in
    let found = offset_is ends_authority rest c.in-Some.offset (sym c.authority_end.ensures ∙ c.in-Some.is) in
    between_to_end rest c.in-Some.offset (length rest) (omega arith) ∙ ap (λ k. drop k rest) (sym found.1)

pub returns-in-None : goal.returns-in-None
returns-in-None c =
    let rest = c.args.rest.now in
    sym (drop_all (position_or_len ends_authority rest) rest (no_offset ends_authority rest (sym c.authority_end.ensures ∙ c.in-None.is)))
