-- Believed. The result of reading a text: a document, or the first reason why it is none.
use Rattle.std.specs.Prelude.{◌≡◌, ◌⊎◌, ℕ, length, List, Option, Some, None, Result, Ok, Err, nat_lt, if◌then◌else◌}
use Rattle.serde_json.specs.Data as json
use Rattle.q_doc.specs.Tree.{Tree}
use Rattle.q_doc.specs.Found.{found, whole}
use Rattle.q_doc.specs.Limits.{longest_document, deepest_document}
use Rattle.q_doc.specs.declared.refusal.DocRefusal.{DocRefusal}
use Rattle.q_doc.specs.declared.refusal.DocRefusal.TheVariants.{TooLong, NotJson, NotObject, TooDeep, NotWhole, Memory}

-- the document, unless some number is not whole
abbrev pub or_not_whole : Option Tree → Result Tree DocRefusal
or_not_whole None = Err NotWhole
or_not_whole (Some t) = Ok t

-- an object, unless it nests too deep
abbrev pub judged_object : json.Members → Result Tree DocRefusal
judged_object ms =
    if nat_lt deepest_document (json.depth (json.object ms))
    then Err (TooDeep (json.depth (json.object ms)))
    else or_not_whole (whole (json.object ms))

-- a JSON value: only objects are documents
abbrev pub judged_data : json.Data → Result Tree DocRefusal
judged_data json.null = Err NotObject
judged_data (json.boolean b) = Err NotObject
judged_data (json.number n) = Err NotObject
judged_data (json.string s) = Err NotObject
judged_data (json.array ds) = Err NotObject
judged_data (json.object ms) = judged_object ms

-- the JSON value that was found, if any
abbrev pub judged_found : Option json.Data → Result Tree DocRefusal
judged_found None = Err NotJson
judged_found (Some d) = judged_data d

-- the result for a text, unless memory runs out
abbrev pub judged : List ℕ → Result Tree DocRefusal
judged bytes =
    if nat_lt longest_document (length bytes)
    then Err (TooLong (length bytes))
    else judged_found (found bytes)

-- a conversion fails where memory ran out, or where some number has no value
abbrev pub FailsToConvert : {A : Type 0} → Option A → DocRefusal → Type 0
FailsToConvert converted refusal =
    (refusal ≡ Memory) ⊎ ((refusal ≡ NotWhole) × (converted ≡ None))

-- parsing fails where memory ran out, or where the text is not JSON
abbrev pub FailsToParse : List ℕ → DocRefusal → Type 0
FailsToParse bytes refusal =
    (refusal ≡ Memory) ⊎ ((refusal ≡ NotJson) × (found bytes ≡ None))
