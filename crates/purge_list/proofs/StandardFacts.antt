-- Worked cases of purges, computed from the definitions.
use Rattle.std.proofs.Common.{◌≡◌, true, false, [], ◌∷◌, codes, refl}
use Rattle.std.specs.Ordering.{is_lt}
use Rattle.query_core.specs.Filters.{constant}
use Rattle.query_core.specs.declared.query.Query.{Query}
use Rattle.query_core.specs.declared.query.Kind.TheVariants.{Objects}
use Rattle.query_normal.specs.declared.key.KeyShape.{KeyShape}
use Rattle.query_normal.specs.declared.key.KeyShape.TheVariants.{Record}
use Rattle.query_normal.specs.declared.key.KeyShape.TheVariants as TheVariants
use Rattle.query_normal.specs.Keys.{key_text}
use Rattle.purge_list.specs.LastChanges.{change_of, is_known}
use Rattle.purge_list.specs.Purged.{texts_from, text_cmp}

-- the first two of the shop by `a`
abbrev first_two : Query
first_two = record { collection = codes "shop"; filter = constant true; order = ((codes "a" ∷ []), false) ∷ []; skip = 0; take = 2 }

abbrev key : KeyShape
key = TheVariants.Query Objects first_two

-- an empty list has no text from number 1 on
no_texts : texts_from 1 1000 [] ≡ []
no_texts = refl

-- the first text has number 1, and number 0 counts as 1
worked_numbers : (texts_from 0 1000 (codes "a" ∷ codes "b" ∷ []) ≡ codes "a" ∷ codes "b" ∷ []) × (texts_from 1 1 (codes "a" ∷ codes "b" ∷ []) ≡ codes "a" ∷ []) × (texts_from 2 1000 (codes "a" ∷ codes "b" ∷ []) ≡ codes "b" ∷ []) × (texts_from 3 1000 (codes "a" ∷ codes "b" ∷ []) ≡ [])
worked_numbers = (refl, refl, refl, refl)

-- keys are in the byte order of their texts: those of queries come before those of records
text_order : is_lt (text_cmp key (Record (codes "shop") (codes "p1"))) ≡ true
unfolding key_text
text_order = refl

-- a key whose result was changed last by commit 4, and one that has no entry
worked_changes : (change_of ((key, 4) ∷ []) key ≡ 4) × (change_of ((key, 4) ∷ []) (Record (codes "shop") (codes "p1")) ≡ 0) × (is_known ((key, 4) ∷ []) (Record (codes "shop") (codes "p1")) ≡ false)
worked_changes = (refl, refl, refl)
