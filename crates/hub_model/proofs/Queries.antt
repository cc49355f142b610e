-- Results of queries.
use Rattle.std.proofs.Common.{◌≡◌, ℕ, List}
use Rattle.std.specs.List.{Contains}
use Rattle.std.proofs.lemmas.Bool.Decides.{same_from_decides}
use Rattle.std.proofs.lemmas.List.Elements.{All-contains, All-contains_itself, All-from_recursion, recursion_from_All}
use Rattle.query_core.specs.declared.query.Kind.{Kind}
use Rattle.query_core.specs.declared.query.Query.{Query as AQuery}
use Rattle.query_core.specs.Window.{Row, window}
use Rattle.query_core.proofs.WindowLemmas.{window_all}
use Rattle.query_normal.specs.declared.key.KeyShape.TheVariants.{Query}
use Rattle.result_kinds.specs.Results.{result_of}
use Rattle.result_kinds.specs.Same.{same_result, AreOfOneStore}
use Rattle.result_kinds.proofs.SameLemmas.{results_told}
use Rattle.commit_book.specs.declared.change.Change.{Change}
use Rattle.commit_book.specs.Documents.{docs}
use Rattle.commit_book.proofs.VersionLemmas.{one_document}
use Rattle.hub_model.specs.Journal.{result_at, same_queried, same_finding}
use Rattle.hub_model.proofs.Results.{same_queried-Decides}

-- a row of a window is a document of its collection
row_there : (normal : AQuery) (rows : List Row) (x : Row) → Contains (window normal rows) x → Contains rows x
row_there normal rows x there =
    All-contains (Contains rows) (window normal rows) x
    (All-from_recursion (Contains rows) (window normal rows) (window_all (Contains rows) normal rows (recursion_from_All (Contains rows) rows (All-contains_itself rows)))) there

-- so the windows of one query at two commits are of one store
one_store : (normal : AQuery) (journal : List Change) (n m : ℕ) → AreOfOneStore (window normal (docs journal n normal.collection)) (window normal (docs journal m normal.collection))
one_store normal journal n m x y in_x in_y same_id same_version =
    one_document journal n m normal.collection x y (row_there normal (docs journal n normal.collection) x in_x) (row_there normal (docs journal m normal.collection) y in_y) same_version

-- the versions of the rows, or their ids, tell whether two commits have one result
pub told_by_versions : (kind : Kind) (normal : AQuery) (journal : List Change) (n m : ℕ) →
    same_finding (result_at (Query kind normal) journal n) (result_at (Query kind normal) journal m) ≡ same_result kind (window normal (docs journal n normal.collection)) (window normal (docs journal m normal.collection))
told_by_versions kind normal journal n m =
    let a = window normal (docs journal n normal.collection) in
    let b = window normal (docs journal m normal.collection) in
    same_from_decides (same_queried (result_of kind a) (result_of kind b)) (same_result kind a b)
    (same_queried-Decides (result_of kind a) (result_of kind b)) (results_told kind a b (one_store normal journal n m))
