-- Internal. The refusals of queries and of keys in words.
use Rattle.std.specs.Prelude.{ℕ, List, ◌++◌, codes}
use Rattle.std.specs.Fmt.{decimal}
use lib.Utf8.{encode}
use Rattle.query_lang.specs.declared.refusal.QueryRefusal.{QueryRefusal}
use Rattle.query_lang.specs.declared.refusal.QueryRefusal.TheVariants.{Syntax, BadNumber, TooManyPaths, TooMany, TooNested, TooDeep, Memory}
use Rattle.query_lang.specs.declared.key_reader.KeyRefusal.{KeyRefusal}
use Rattle.query_lang.specs.declared.key_reader.KeyRefusal.TheVariants.{BadKey, Memory as NoMemory}

-- a sentence that names the field and the offset, or the limit and the number above it
abbrev pub sentence : QueryRefusal → List ℕ
sentence (Syntax field place) = codes "field " ++ (encode field ++ (codes " cannot be read from byte " ++ (decimal place ++ codes " on")))
sentence (BadNumber field place) = codes "the number at byte " ++ (decimal place ++ (codes " of field " ++ (encode field ++ codes " is not allowed")))
sentence (TooManyPaths place) = codes "an order has at most 4 paths, and a fifth begins at byte " ++ decimal place
sentence (TooMany leaves) = codes "a filter has at most 256 atoms and listed values, and this has " ++ decimal leaves
sentence (TooNested place) = codes "at most 64 parentheses are open, and another opens at byte " ++ decimal place
sentence (TooDeep depth) = codes "a filter has a height of at most 32, and this has " ++ decimal depth
sentence Memory = codes "out of memory"

-- a sentence that names the offset
abbrev pub key_sentence : KeyRefusal → List ℕ
key_sentence (BadKey place) = codes "byte " ++ (decimal place ++ codes " is not as in the text of a key")
key_sentence NoMemory = codes "out of memory"
