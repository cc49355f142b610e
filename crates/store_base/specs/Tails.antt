-- Internal. The tail that bytes begin with.
use Rattle.std.specs.Prelude.{ℕ, ◌&&◌, Bool, false, nat_eq, if◌then◌else◌, List, [], ◌∷◌, drop, Option, Some, None}
use Rattle.record_log.specs.Records.{named}
use Rattle.store_base.specs.declared.base.RecordName.{RecordName}

-- bytes begin with two lengths of 0
abbrev pub has_no_tail : List ℕ → Bool
has_no_tail [] = false
has_no_tail (first ∷ []) = false
has_no_tail (first ∷ second ∷ rest) = nat_eq first 0 && nat_eq second 0

-- the record of this collection, with an id that was read and the bytes behind it
abbrev pub with_id : List ℕ → Option (List ℕ × List ℕ) → Option (Option RecordName × List ℕ)
with_id collection None = None
with_id collection (Some id) = Some (Some (record { collection = collection; id = id.0 }), id.1)

-- the record, with a collection that was read and the bytes behind it
abbrev pub with_collection : Option (List ℕ × List ℕ) → Option (Option RecordName × List ℕ)
with_collection None = None
with_collection (Some collection) = with_id collection.0 (named collection.1)

-- no record, or that of two names, and the bytes behind it
abbrev pub tail_in : List ℕ → Option (Option RecordName × List ℕ)
tail_in bytes = if has_no_tail bytes then Some (None, drop 2 bytes) else with_collection (named bytes)
