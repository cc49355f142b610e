-- Internal. The bytes of a key's text, which are stored inline or on the heap.
use Rattle.std.specs.Prelude.{ℕ, ◌≤◌, List, take, ⊤}
use Rattle.query_normal.specs.declared.text.Storage.{Storage}
use Rattle.query_normal.specs.declared.text.Storage.TheVariants.{Short, Long}
use Rattle.query_normal.specs.declared.text.TheConstants.{MAX_INLINE}

-- the bytes of the text
abbrev pub stored_bytes : Storage → List ℕ
stored_bytes (Short len bytes) = take len bytes
stored_bytes (Long bytes) = bytes.items

-- a text that is stored inline fits there
abbrev pub IsStored : Storage → Type 0
IsStored (Short len bytes) = len ≤ MAX_INLINE
IsStored (Long bytes) = ⊤
