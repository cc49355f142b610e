use Rattle.std.proofs.Common.{◌≡◌, take}
use Rattle.std.specs.List.{filter_map}
use Rattle.std.specs.Map.{keys_of}
use Rattle.commit_book.specs.Documents.{row_of}
use Rattle.commit_book.specs.Index.{document_under}
use Rattle.commit_book.proofs.documents.documents_under.Given as goal

abbrev pub invariant-loop-index : goal.invariant-loop-index
invariant-loop-index l = l.found.items ≡ filter_map (λ id. row_of id (document_under l.horizon l.rows.items l.records l.commit id)) (take l.index (keys_of l.records.entries))
