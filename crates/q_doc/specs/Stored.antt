-- Internal. What holds of each document and the length of the text that it was read from.
use Rattle.std.specs.Prelude.{ℕ, ◌≤◌, length}
use Rattle.q_doc.specs.Tree.{Tree}
use Rattle.q_doc.specs.Document.{IsPlainDocument, HasTexts}
use Rattle.q_doc.specs.Limits.{longest_document}
use Rattle.q_doc.specs.Printed.{printed}

-- a document of texts in UTF-8, no longer, printed, than the text that it was read from
pub record IsStored (t : Tree) (read : ℕ) : Type 0 where
  pub document : IsPlainDocument t
  pub texts : HasTexts t
  pub fits : length (printed t) ≤ read
  pub short : read ≤ longest_document
