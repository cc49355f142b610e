-- Internal. The buckets of a collection.
use Rattle.std.specs.Prelude.{◌≡◌, ℕ, ◌+◌, ◌*◌, ◌%◌, ◌==◌, if◌then◌else◌, List, Option, None, Some, length, fold, slice_get, bytes_eq}
use Rattle.q_doc.specs.Tree.{Tree}
use Rattle.commit_book.specs.Documents.{HasDocuments}
use Rattle.query_core.specs.Window.{Row}

-- how many buckets a collection has
abbrev pub bucket_count : ℕ
bucket_count = 256

-- what a further byte makes of the sum of an id
abbrev pub add_byte : ℕ → ℕ → ℕ
add_byte sum byte = (sum * 31 + byte) % 65521

-- the bucket of an id: its bytes as digits, modulo a prime
unfoldable pub bucket_of : List ℕ → ℕ
bucket_of id = fold add_byte 0 id % bucket_count

-- documents by their ids, each with the commit that put it
abbrev pub Found : Type 0
Found = List ℕ → Option (ℕ × Tree)

-- the documents that belong into one bucket
abbrev pub in_bucket : Found → ℕ → Found
in_bucket found index id = if bucket_of id == index then found id else None

-- each bucket has the documents that belong into it, and no others
pub record HasBuckets (found : Found) (buckets : List (List Row)) : Type 0 where
  pub count : length buckets ≡ bucket_count
  pub each : (index : ℕ) (rows : List Row) → slice_get buckets index ≡ Some rows → HasDocuments (in_bucket found index) rows

-- the documents with that of one id in place of what it had
abbrev pub with_document : List ℕ → Option (ℕ × Tree) → Found → Found
with_document own document found id = if bytes_eq own id then document else found id
