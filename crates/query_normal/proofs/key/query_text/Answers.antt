use Rattle.std.proofs.Common.{◌++◌, List, ℕ, ap, ◌∙◌, codes}
use Rattle.query_core.specs.Print.{print_query}
use Rattle.query_normal.specs.Keys.{key_text}
use Rattle.query_normal.proofs.key.query_text.Goals as goal

-- the pieces in turn are the text
pub returns : goal.returns
unfolding key_text
returns c =
    let one = c.in_ok-extend_from_slice.ensures.items ∙ ap (λ (xs : List ℕ). xs ++ codes "q/") c.in_ok-text.ensures.items in
    let two = c.in_ok-extend_from_slice-2.ensures.items ∙ ap (λ (xs : List ℕ). xs ++ c.as_slice-name.result.now) one in
    let three = c.in_ok-push.ensures.items ∙ ap (λ (xs : List ℕ). xs ++ codes "/") two in
    let four = c.in_ok-extend_from_slice-3.ensures.items ∙ ap (λ (xs : List ℕ). xs ++ c.kind_text-kind.result.now) three in
    let five = c.in_ok-push-2.ensures.items ∙ ap (λ (xs : List ℕ). xs ++ codes "/") four in
    let six = c.in_ok-extend_from_slice-4.ensures.items ∙ ap (λ (xs : List ℕ). xs ++ c.as_slice-printed.result.now) five in
    let query = c.query-query.ensures.query in
    let name : List ℕ = c.as_slice-name.result.now in
    let of_name = c.as_slice-name.ensures.same ∙ ap (λ q. q.collection) query in
    let of_printed = c.as_slice-printed.ensures ∙ c.in_ok-printed.ensures ∙ ap print_query query in
    six ∙ (λ i. ((((codes "q/" ++ of_name i) ++ codes "/") ++ c.kind_text-kind.ensures i) ++ codes "/") ++ of_printed i)
