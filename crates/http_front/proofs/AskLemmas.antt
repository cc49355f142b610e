-- Answers one after the other.
use Rattle.std.proofs.Common.{◌≡◌, ℕ, List, [], ◌∷◌, length, false, refl, ap, arith, codes}
use Rattle.std.proofs.lemmas.Bool.{ltb-false, or_parts}
use Rattle.std.specs.Prelude.{None, Ok, nat_lt}
use Rattle.hub_model.specs.declared.entry.Condition.TheVariants.{Always}
use Rattle.hub_model.specs.declared.entry.Tags.TheVariants.{Listed}
use Rattle.http_message.specs.Fields.{values}
use Rattle.http_message.specs.Message.{Message}
use Rattle.http_front.specs.Asks.{condition_of, differs, has_condition, known_of, matches, tags_or_not}
use Rattle.http_front.specs.Tags.{tags_in}
use Rattle.http_front.specs.declared.tags.Comparison.{Comparison}
use Rattle.http_front.specs.declared.tags.Comparison.TheVariants.{Strong, Weak}

no_value : (values : List (List ℕ)) → nat_lt 0 (length values) ≡ false → values ≡ []
no_value [] e = refl
no_value (value ∷ others) e = absurd (omega (arith, ltb-false 0 (length (value ∷ others)) e))

no_tags : (comparison : Comparison) (values : List (List ℕ)) → nat_lt 0 (length values) ≡ false → tags_in comparison values ≡ Ok None
unfolding tags_in
no_tags comparison values e = rw (no_value values e) refl

-- without fields of a condition there are no tags
no_matches : (m : Message) → has_condition m ≡ false → matches m ≡ Ok None
no_matches m e = ap tags_or_not (no_tags Strong (values (codes "if-match") m.fields) (or_parts _ _ e).0)

no_differs : (m : Message) → has_condition m ≡ false → differs m ≡ Ok None
no_differs m e = ap tags_or_not (no_tags Weak (values (codes "if-none-match") m.fields) (or_parts _ _ e).1)

pub read_free : (m : Message) → has_condition m ≡ false → Ok (Listed []) ≡ known_of m
read_free m e = rw (no_matches m e, no_differs m e) refl

pub write_free : (m : Message) → has_condition m ≡ false → Ok Always ≡ condition_of m
write_free m e = rw (no_matches m e, no_differs m e) refl
