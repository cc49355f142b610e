-- Internal. The word and the sentence of each refusal.
use Rattle.std.specs.Prelude.{ℕ, List, ◌++◌, codes, decimal}
use Rattle.q_doc.specs.declared.refusal.DocRefusal.{DocRefusal}
use Rattle.q_doc.specs.declared.refusal.DocRefusal.TheVariants.{TooLong, NotJson, NotObject, TooDeep, NotWhole, Memory}

-- the refusal's name in lower case
abbrev pub word : DocRefusal → List ℕ
word (TooLong length) = codes "too_long"
word NotJson = codes "not_json"
word NotObject = codes "not_object"
word (TooDeep depth) = codes "too_deep"
word NotWhole = codes "not_whole"
word Memory = codes "memory"

-- the refusal as a sentence
abbrev pub sentence : DocRefusal → List ℕ
sentence (TooLong length) =
    codes "the text has " ++ decimal length ++ codes " bytes, more than 65536"
sentence NotJson = codes "the text is not JSON"
sentence NotObject = codes "the value is not an object"
sentence (TooDeep depth) = codes "the value nests " ++ decimal depth ++ codes " deep, more than 32"
sentence NotWhole = codes "a number is not a whole number of 64 bits"
sentence Memory = codes "there is no memory left"
