-- The query that fields are, by their texts.
use Rattle.std.proofs.Common.{◌≡◌, ℕ, List, refl, sym, ap}
use Rattle.std.specs.Borrow.{Bor}
use Rattle.std.specs.Prelude.{Option, Result, Err}
use Rattle.query_core.specs.declared.query.Kind.{Kind}
use Rattle.query_core.specs.declared.query.Query.{Query}
use Rattle.query_lang.specs.Queries.{bytes_of, read_query}
use Rattle.query_lang.specs.Refusals.{Gives}
use Rattle.query_lang.specs.declared.refusal.QueryRefusal.{QueryRefusal}
use Rattle.query_lang.specs.declared.refusal.QueryRefusal.TheVariants.{Syntax, BadNumber, TooManyPaths, TooMany, TooNested, TooDeep, Memory}
use Rattle.http_front.specs.Filters.{filter_refusal, query_in, query_or_not, text_in}
use Rattle.http_front.specs.Query.{NamedValue}
use Rattle.http_front.specs.declared.refused.Refused.TheVariants.{BadFilter}

-- a refusal of the code is the one that is wanted, unless memory ran out
pub refused_as : (refused : QueryRefusal) (wanted : Result (Query × Kind) QueryRefusal) → ¬ (refused ≡ Memory)
    → Gives {A = Query × Kind} (λ read. read) (Err refused) wanted → Err (BadFilter (filter_refusal refused)) ≡ query_or_not wanted
refused_as (Syntax letter place) wanted other is = ap query_or_not (sym is)
refused_as (BadNumber letter place) wanted other is = ap query_or_not (sym is)
refused_as (TooManyPaths place) wanted other is = ap query_or_not (sym is)
refused_as (TooMany leaves) wanted other is = ap query_or_not (sym is)
refused_as (TooNested place) wanted other is = ap query_or_not (sym is)
refused_as (TooDeep depth) wanted other is = ap query_or_not (sym is)
refused_as Memory wanted other is = absurd (other refl)

-- what is read of the texts of the fields
pub texts_are : (collection : List ℕ) (fields : List NamedValue) (f o s n k : Option (Bor (List ℕ)))
    → bytes_of f ≡ text_in 102 fields → bytes_of o ≡ text_in 111 fields → bytes_of s ≡ text_in 115 fields
    → bytes_of n ≡ text_in 110 fields → bytes_of k ≡ text_in 107 fields
    → query_or_not (read_query collection (record { f = f; o = o; s = s; n = n; k = k })) ≡ query_in collection fields
unfolding query_in read_query
texts_are collection fields f o s n k one two three four five = rw (one, two, three, four, five) refl
