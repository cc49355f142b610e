-- The test of equal changes decides equality.
use Rattle.std.proofs.Common.{◌≡◌, true, Option, Some, None, refl, ap}
use Rattle.std.proofs.lemmas.Bool.{and_parts}
use Rattle.std.proofs.lemmas.Slice.Eq.{bytes_eq-Decides}
use Rattle.q_doc.specs.Tree.{Tree}
use Rattle.q_doc.specs.OrderLaws.{tree_eq-Decides}
use Rattle.commit_book.specs.declared.change.Change.{Change}
use Rattle.commit_book.specs.Same.{same_document, same_change}

document_same : (d e : Option Tree) → same_document d e ≡ true → d ≡ e
document_same (Some t) (Some u) h = ap Some ((tree_eq-Decides t u).0 h)
document_same None None h = refl
document_same (Some t) None h = absurd (cc)
document_same None (Some u) h = absurd (cc)

document_itself : (d : Option Tree) → same_document d d ≡ true
document_itself (Some t) = (tree_eq-Decides t t).1 refl
document_itself None = refl

pub same_is : (a b : Change) → same_change a b ≡ true → a ≡ b
same_is a b h =
    let ids = and_parts _ _ h in
    let rest = and_parts _ _ ids.1 in
    let id = (bytes_eq-Decides a.id b.id).0 ids.0 in
    let collection = (bytes_eq-Decides a.collection b.collection).0 rest.0 in
    let document = document_same a.document b.document rest.1 in
    λ j. record { collection = collection j; id = id j; document = document j }

pub same_itself : (a : Change) → same_change a a ≡ true
same_itself a =
    let id = (bytes_eq-Decides a.id a.id).1 refl in
    let collection = (bytes_eq-Decides a.collection a.collection).1 refl in
    let document = document_itself a.document in
    rw (id, collection, document) refl
