use Rattle.std.proofs.Common.{ℕ, List, ◌++◌, length, codes, ap, ◌∙◌, arith}
use Rattle.std.specs.List.{flat_map}
use Rattle.std.proofs.lemmas.List.{drop_all}
use Rattle.result_kinds.specs.Results.{id_text, ids_text}
use Rattle.result_kinds.proofs.SizeLemmas.{list_length}
use Rattle.result_kinds.proofs.texts.ids_len.Goals as goal

-- nothing is left, and the brackets were counted
pub returns : goal.returns
returns c =
    let rest = c.in-Some.rest.now in
    let whole = ap (λ (all : List (List ℕ)). length (ids_text all)) c.in-Some.ensures.cases.0 ∙ list_length id_text c.in-Some.first.now rest in
    let left = ap (λ (some : List (List ℕ)). length (flat_map (λ y. codes "," ++ id_text y) some)) (drop_all c.loop-id.id-index rest (omega arith)) in
    omega (arith, whole, left, c.loop-id.invariant.same, c.loop-id.invariant.fits, c.id_len.ensures, c.saturating_add-len.ensures)
