-- Internal. The sentence of each reason why bytes are not a name.
use Rattle.std.specs.Prelude.{ℕ, List, ◌++◌, codes, decimal}
use Rattle.q_base.specs.declared.name.NameRefusal.{NameRefusal}
use Rattle.q_base.specs.declared.name.NameRefusal.TheVariants.{Empty, TooLong, BadByte, Memory}

-- the refusal as a sentence
abbrev pub sentence : NameRefusal → List ℕ
sentence Empty = codes "a name has at least one byte"
sentence (TooLong length) = codes "a name has at most 64 bytes, and this has " ++ decimal length
sentence (BadByte place) =
    codes "a name has a to z, 0 to 9, _ and - alone, and byte " ++ decimal place ++ codes " is none"
sentence Memory = codes "out of memory"
