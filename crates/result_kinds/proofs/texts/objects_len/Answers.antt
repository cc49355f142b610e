use Rattle.std.proofs.Common.{List, ◌++◌, length, codes, ap, ◌∙◌, arith}
use Rattle.std.specs.List.{flat_map}
use Rattle.std.proofs.lemmas.List.{drop_all}
use Rattle.result_kinds.specs.declared.rows.PrintedRow.{PrintedRow}
use Rattle.result_kinds.specs.Results.{object_text, objects_text}
use Rattle.result_kinds.proofs.SizeLemmas.{list_length}
use Rattle.result_kinds.proofs.texts.objects_len.Goals as goal

-- nothing is left, and the brackets were counted
pub returns : goal.returns
returns c =
    let rest = c.in-Some.rest.now in
    let whole = ap (λ (all : List PrintedRow). length (objects_text all)) c.in-Some.ensures.cases.0 ∙ list_length object_text c.in-Some.first.now rest in
    let left = ap (λ (some : List PrintedRow). length (flat_map (λ y. codes "," ++ object_text y) some)) (drop_all c.loop-row.row-index rest (omega arith)) in
    omega (arith, whole, left, c.loop-row.invariant.same, c.loop-row.invariant.fits, c.object_len.ensures, c.saturating_add-len.ensures)
