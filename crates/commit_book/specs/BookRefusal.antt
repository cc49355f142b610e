-- Internal. The words of each refusal.
use Rattle.std.specs.Prelude.{ℕ, List, ◌++◌, codes, decimal}
use Rattle.commit_book.specs.declared.refusal.BookRefusal.{BookRefusal}
use Rattle.commit_book.specs.declared.refusal.BookRefusal.TheVariants.{Full, Memory}

-- the refusal as a sentence
abbrev pub sentence : BookRefusal → List ℕ
sentence (Full bytes) = decimal bytes ++ codes " bytes are above the capacity of the book"
sentence Memory = codes "out of memory"
