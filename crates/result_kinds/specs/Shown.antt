-- Internal. The text of what is shown.
use Rattle.std.specs.Prelude.{ℕ, List}
use Rattle.result_kinds.specs.declared.texts.Shown.{Shown}
use Rattle.result_kinds.specs.declared.texts.Shown.TheVariants.{Document, Objects, Ids}
use Rattle.result_kinds.specs.Results.{objects_text, ids_text}

-- the document, the list of the objects, or that of the ids
abbrev pub shown_text : Shown → List ℕ
shown_text (Document text) = text
shown_text (Objects rows) = objects_text rows.items
shown_text (Ids ids) = ids_text ids.items
