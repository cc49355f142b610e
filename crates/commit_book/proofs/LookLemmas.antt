-- What a look-up finds in a sound book.
use Rattle.std.proofs.Common.{◌≡◌, ◌≤◌, ◌+◌, ℕ, List, length, Option, ap, arith}
use Rattle.std.proofs.lemmas.List.{length-drop}
use Rattle.indexmap.specs.IndexMap.{IndexMap}
use Rattle.commit_book.specs.declared.change.Change.{Change}
use Rattle.commit_book.specs.declared.index.Record.{Record}
use Rattle.commit_book.specs.declared.row.Reserved.{Reserved}
use Rattle.commit_book.specs.Index.{Rows, IsSound, base_in, commits_in, document_in, AreCommits}
use Rattle.commit_book.specs.Journal.{document_at}
use Rattle.commit_book.proofs.IndexLemmas.{are_commits_of, document_found}

module _ {S T : Type 0} (capacity bytes live horizon : ℕ) (rows : Rows) (journal : List Change) (collections : IndexMap (List ℕ) (IndexMap (List ℕ) Record S) T) (reserved : Option Reserved)
    (sound : IsSound capacity bytes live horizon rows journal collections reserved) where
  -- the rows and the dropped ones are all
  pub rows-count : length rows.items + horizon ≡ length journal
  rows-count =
      let rest = length-drop horizon journal in
      let size = ap length sound.above in
      omega (arith, rest, size, sound.within)

  module _ (collection id : List ℕ) where
    -- the commits of a record are numbers of its rows
    pub are-commits : AreCommits horizon rows.items (commits_in collections collection id)
    are-commits = are_commits_of horizon rows.items (commits_in collections collection id) collection id (sound.index.commits collection id)

    -- what is kept of a record gives its document
    pub look-up : (n : ℕ) → horizon ≤ n → n ≤ length journal → document_in horizon rows.items (base_in collections collection id) (commits_in collections collection id) n ≡ document_at journal n collection id
    look-up n low high =
        let all = rows-count in
        document_found horizon rows.items collection id journal sound.above n (base_in collections collection id) (commits_in collections collection id) (sound.index.bases collection id) (sound.index.commits collection id) low (omega (arith, all, high))
