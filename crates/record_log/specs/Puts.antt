-- Internal. The changes that are read again once they are written.
use Rattle.std.specs.Prelude.{◌≡◌, ◌≤◌, true, length, Option, Ok}
use Rattle.std.specs.declared.option.Option.TheVariants.{None, Some}
use Rattle.q_base.specs.Name.{IsName}
use Rattle.q_doc.specs.Tree.{Tree, is_object}
use Rattle.q_doc.specs.Judged.{judged}
use Rattle.q_doc.specs.Printed.{printed}
use Rattle.commit_book.specs.declared.change.Change.{Change}

-- A document's printed text is read as that document, and is not too long.
pub record IsAgain (t : Tree) : Type 0 where
  pub object : is_object t ≡ true
  pub reads_back : judged (printed t) ≡ Ok t
  pub short : length (printed t) ≤ 65536

-- there is no document, or it is read again
abbrev pub IsPut : Option Tree → Type 0
IsPut None = Unit {0}
IsPut (Some t) = IsAgain t

-- The names are names, and the document is read again.
pub record CanPut (c : Change) : Type 0 where
  pub collection : IsName c.collection
  pub id : IsName c.id
  pub document : IsPut c.document
