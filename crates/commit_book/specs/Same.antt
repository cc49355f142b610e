-- Internal. Whether two changes are one.
use Rattle.std.specs.Prelude.{Bool, true, false, ◌&&◌, Option, Some, None, bytes_eq}
use Rattle.std.specs.Ordering.{eq_by_cmp}
use Rattle.q_doc.specs.Tree.{Tree}
use Rattle.q_doc.specs.Order.{tree_cmp}
use Rattle.commit_book.specs.declared.change.Change.{Change}

-- the documents are equal, or there is none
abbrev pub same_document : Option Tree → Option Tree → Bool
same_document (Some t) (Some u) = eq_by_cmp tree_cmp t u
same_document None None = true
same_document (Some t) None = false
same_document None (Some u) = false

-- the names and the documents are equal
abbrev pub same_change : Change → Change → Bool
same_change a b = bytes_eq a.id b.id && (bytes_eq a.collection b.collection && same_document a.document b.document)
