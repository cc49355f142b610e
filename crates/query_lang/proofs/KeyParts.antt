-- The key of the parts of a text, by what they are read as.
use Rattle.std.proofs.Common.{◌≡◌, ℕ, List, [], Option, Some, None, Result, Ok, Err, refl, sym, ap, ◌∙◌}
use Rattle.query_core.specs.declared.query.Kind.{Kind}
use Rattle.query_core.specs.declared.query.Query.{Query as AQuery}
use Rattle.query_normal.specs.declared.key.KeyShape.{KeyShape}
use Rattle.query_normal.specs.declared.key.KeyShape.TheVariants.{Query}
use Rattle.query_normal.specs.Normal.{normal_query}
use Rattle.query_lang.specs.KeyTexts.{accepted, ◌>>=◌, name_of, query_of_parts, seen_parts}
use Rattle.query_lang.specs.Queries.{read_texts, read_query}
use Rattle.query_lang.specs.declared.key_parts.QueryParts.{QueryParts}
use Rattle.query_lang.specs.declared.query.Fields.{Fields}
use Rattle.query_lang.specs.Refusals.{Gives}
use Rattle.query_lang.specs.declared.refusal.QueryRefusal.{QueryRefusal}
use Rattle.query_lang.specs.declared.refusal.QueryRefusal.TheVariants.{Syntax, BadNumber, TooManyPaths, TooMany, TooNested, TooDeep, Memory}

-- the fields that the parts are
abbrev pub given : QueryParts → Fields
given p = record { f = Some p.f; o = Some p.o; s = Some p.s; n = Some p.n; k = None }

-- the key of what is read
abbrev pub key_of : Kind → Result (AQuery × Kind) QueryRefusal → Option KeyShape
key_of kind read = accepted read >>= (λ found. Some (Query kind (normal_query found.0)))

module _ (p : QueryParts) (c : List ℕ) (name : name_of p.collection.now ≡ Some c) where
  of_name : query_of_parts (seen_parts p) ≡ key_of p.kind (read_query c (given p))
  unfolding query_of_parts read_query
  of_name = ap (λ (x : Option (List ℕ)). x >>= (λ collection. key_of p.kind (read_texts collection p.f.now p.o.now p.s.now p.n.now []))) name

  pub parts_key : (q : AQuery) (k : Kind) (normal : AQuery) (key : KeyShape) → read_query c (given p) ≡ Ok (q, k) → normal ≡ normal_query q → key ≡ Query p.kind normal
      → Some key ≡ query_of_parts (seen_parts p)
  parts_key q k normal key read is made = ap Some (made ∙ ap (Query p.kind) is) ∙ sym (of_name ∙ ap (key_of p.kind) read)

  pub parts_none : (e : QueryRefusal) → ¬ (e ≡ Memory) → Gives {B = AQuery × Kind} (λ (read : AQuery × Kind). read) (Err e) (read_query c (given p)) → None ≡ query_of_parts (seen_parts p)
  parts_none (Syntax field place) other read = sym (of_name ∙ ap (key_of p.kind) read)
  parts_none (BadNumber field place) other read = sym (of_name ∙ ap (key_of p.kind) read)
  parts_none (TooManyPaths place) other read = sym (of_name ∙ ap (key_of p.kind) read)
  parts_none (TooMany leaves) other read = sym (of_name ∙ ap (key_of p.kind) read)
  parts_none (TooNested place) other read = sym (of_name ∙ ap (key_of p.kind) read)
  parts_none (TooDeep depth) other read = sym (of_name ∙ ap (key_of p.kind) read)
  parts_none Memory other read = absurd (other refl)
