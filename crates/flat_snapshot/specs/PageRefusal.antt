-- Internal. The sentence of each reason why bytes are not a page.
use Rattle.std.specs.Prelude.{ℕ, List, ◌++◌, codes, decimal}
use Rattle.flat_snapshot.specs.declared.read.PageRefusal.{PageRefusal}
use Rattle.flat_snapshot.specs.declared.read.PageRefusal.TheVariants.{BadSize, BadMark, BadField, Memory}

-- the refusal as a sentence
abbrev pub sentence : PageRefusal → List ℕ
sentence (BadSize want found) =
    codes "a page of " ++ (decimal want ++ (codes " bytes is wanted, and there are " ++ decimal found))
sentence BadMark = codes "a page begins with QSF1"
sentence (BadField place) = codes "the field of a page at byte " ++ decimal place ++ codes " is outside its limits"
sentence Memory = codes "out of memory"
