use Rattle.std.proofs.Common.{◌++◌, List, ℕ, ap, ◌∙◌, codes}
use Rattle.query_normal.proofs.key.long_text.Goals as goal

-- the pieces in turn are the text
pub returns : goal.returns
returns c =
    let one = c.in_ok-extend_from_slice.ensures.items ∙ ap (λ (xs : List ℕ). xs ++ codes "r/") c.in_ok-text.ensures.items in
    let two = c.in_ok-extend_from_slice-2.ensures.items ∙ ap (λ (xs : List ℕ). xs ++ c.args.collection.now) one in
    let three = c.in_ok-extend_from_slice-3.ensures.items ∙ ap (λ (xs : List ℕ). xs ++ codes "/") two in
    c.long.ensures ∙ c.in_ok-extend_from_slice-4.ensures.items ∙ ap (λ (xs : List ℕ). xs ++ c.args.id.now) three
