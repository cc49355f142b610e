-- Believed. The limits of documents and of paths.
use Rattle.std.specs.Prelude.{ℕ}

-- the greatest length of a document's text, in bytes
abbrev pub longest_document : ℕ
longest_document = 65536

-- the greatest depth of a document; an object of scalars has depth 1
abbrev pub deepest_document : ℕ
deepest_document = 32

-- the greatest number of segments of a path
abbrev pub most_segments : ℕ
most_segments = 8
