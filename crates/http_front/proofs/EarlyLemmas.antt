-- From what is answered to how far the request was read: answers that take no memory.
use Rattle.std.proofs.Common.{◌≡◌, ℕ, Bool, true, false, not, List, [], codes, refl, sym, ◌∙◌, ap, inl, inr}
use Rattle.std.proofs.lemmas.Bool.{cases_Bool, or_parts, true≢false}
use Rattle.std.specs.Prelude.{◌&&◌, ◌||◌, is_ok, Option, Some, None, Result, Ok, Err}
use Rattle.hub_model.specs.declared.entry.Condition.{Condition}
use Rattle.hub_model.specs.declared.entry.Condition.TheVariants.{Always, Present, Absent, Unchanged}
use Rattle.hub_model.specs.declared.entry.Tags.{Tags}
use Rattle.hub_model.specs.declared.entry.Tags.TheVariants.{Any, Listed}
use Rattle.query_normal.specs.declared.key.KeyShape.TheVariants as key
use Rattle.query_core.specs.declared.query.Kind.{Kind}
use Rattle.query_core.specs.declared.query.Query.{Query as AQuery}
use Rattle.query_normal.specs.Normal.{normal_query}
use Rattle.query_lang.specs.declared.refusal.QueryRefusal.{QueryRefusal}
use Rattle.query_lang.specs.Queries.{read_texts}
use Rattle.http_message.specs.Fields.{values}
use Rattle.http_message.specs.Message.{Message}
use Rattle.q_base.specs.Name.{read_name}
use Rattle.q_base.specs.declared.name.NameRefusal.{NameRefusal}
use Rattle.q_doc.specs.Judged.{judged}
use Rattle.q_doc.specs.Tree.{Tree}
use Rattle.q_doc.specs.declared.refusal.DocRefusal.{DocRefusal}
use Rattle.q_doc.specs.declared.refusal.DocRefusal.TheVariants as doc
use Rattle.percent_encoding.specs.Percent.{percent_decode}
use Rattle.http_front.specs.Answered.{and_then}
use Rattle.http_front.specs.Asks.{ask_at, ask_by, ask_of, condition_by, document_by, document_in, fields_or_not, has_host, has_length, known_by, known_of, has_no_coding, is_head_request, method_by, method_in, name_in, name_or_not, put_of, record_by, tags_or_not, write}
use Rattle.http_front.specs.Early.{decodes_at, is_early, is_early_answer}
use Rattle.http_front.specs.Filters.{query_in, query_or_not, text_in}
use Rattle.http_front.specs.Free.{is_bare, is_bare_call, is_free_at, is_free_call, is_free_with}
use Rattle.http_front.specs.Query.{NamedValue, fields_in, fields_of, pieces_of, takes_fields}
use Rattle.http_front.specs.Routes.{route_of, served_of, collection_in, id_in, queried_in, method_of, allows, methods_of}
use Rattle.http_front.specs.Target.{local_part, path_of, query_of}
use Rattle.http_front.proofs.QueryLemmas.{no_fields_in}
use Rattle.http_front.specs.declared.ask.Ask.{Ask}
use Rattle.http_front.specs.declared.ask.Ask.TheVariants.{Read}
use Rattle.http_front.specs.declared.refused.Allow.{Allow}
use Rattle.http_front.specs.declared.refused.Allow.TheVariants as allow
use Rattle.http_front.specs.declared.refused.Refused.{Refused}
use Rattle.http_front.specs.declared.refused.Refused.TheVariants.{BadMethod, BadTarget}
use Rattle.http_front.specs.declared.routes.Method.{Method}
use Rattle.http_front.specs.declared.routes.Method.TheVariants.{Get, Head, Post, Put, Delete}
use Rattle.http_front.specs.declared.routes.Route.{Route}
use Rattle.http_front.specs.declared.routes.Route.TheVariants.{Record, Query, Filter, Purges, Match, Horizon, Stats}
use Rattle.http_front.specs.declared.routes.Served.{Served}
use Rattle.http_front.specs.Tags.{tags_in}
use Rattle.http_front.specs.declared.tags.Comparison.TheVariants.{Strong, Weak}
use Rattle.http_front.specs.declared.tags.TagRefusal.{TagRefusal}

-- a name that is none is a bad target
pub bad_name : {A : Type 0} (one : Result (List ℕ) NameRefusal) (next : List ℕ → Result A Refused) → is_ok (name_or_not one) ≡ false
    → Err BadTarget ≡ and_then (name_or_not one) next
bad_name (Err refusal) next bad = refl
bad_name (Ok name) next bad = absurd (true≢false bad)

pub bad_names : {A : Type 0} (one two : Result (List ℕ) NameRefusal) (next : List ℕ → List ℕ → Result A Refused)
    → (is_ok (name_or_not one) && is_ok (name_or_not two)) ≡ false
    → Err BadTarget ≡ and_then (name_or_not one) (λ collection. and_then (name_or_not two) (λ id. next collection id))
bad_names (Err refusal) two next bad = refl
bad_names (Ok collection) (Err refusal) next bad = refl
bad_names (Ok collection) (Ok id) next bad = absurd (true≢false bad)

-- a read of the query that was read, or the refusal of a field
abbrev read_by : Result (AQuery × Kind) Refused → Tags → Bool → Result Ask Refused
read_by read known head = and_then read (λ found. Ok (Read (key.Query found.1 (normal_query found.0)) known head))

-- the tags of a request
abbrev if_match : Message → Result (Option Tags) TagRefusal
if_match m = tags_in Strong (values (codes "if-match") m.fields)

abbrev if_none_match : Message → Result (Option Tags) TagRefusal
if_none_match m = tags_in Weak (values (codes "if-none-match") m.fields)

-- Conditions and documents are read after the refusals that take no memory.
module _ (decodes : Bool) where
  late_read : (one two : Result (Option Tags) TagRefusal) (next : Tags → Result Ask Refused)
      → ((known : Tags) → is_early_answer decodes (next known) ≡ false)
      → is_early_answer decodes (and_then (and_then (tags_or_not one) (λ tags. and_then (tags_or_not two) (λ others. Ok (known_by others)))) next) ≡ false
  late_read (Err refusal) two next late = refl
  late_read (Ok tags) (Err refusal) next late = refl
  late_read (Ok tags) (Ok others) next late = late (known_by others)

  late_condition : (tags others : Option Tags) (next : Condition → Result Ask Refused)
      → ((condition : Condition) → is_early_answer decodes (next condition) ≡ false)
      → is_early_answer decodes (and_then (condition_by tags others) next) ≡ false
  late_condition None None next late = late Always
  late_condition (Some Any) None next late = late Present
  late_condition (Some (Listed commits)) None next late = late (Unchanged (Listed commits))
  late_condition None (Some Any) next late = late Absent
  late_condition None (Some (Listed commits)) next late = refl
  late_condition (Some Any) (Some others) next late = refl
  late_condition (Some (Listed commits)) (Some others) next late = refl

  late_write : (one two : Result (Option Tags) TagRefusal) (next : Condition → Result Ask Refused)
      → ((condition : Condition) → is_early_answer decodes (next condition) ≡ false)
      → is_early_answer decodes (and_then (and_then (tags_or_not one) (λ tags. and_then (tags_or_not two) (λ others. condition_by tags others))) next) ≡ false
  late_write (Err refusal) two next late = refl
  late_write (Ok tags) (Err refusal) next late = refl
  late_write (Ok tags) (Ok others) next late = late_condition tags others next late

  late_document : (read : Result Tree DocRefusal) (next : Tree → Result Ask Refused)
      → ((document : Tree) → is_early_answer decodes (next document) ≡ false)
      → is_early_answer decodes (and_then (document_by read) next) ≡ false
  late_document (Ok document) next late = late document
  late_document (Err (doc.TooLong size)) next late = refl
  late_document (Err doc.NotJson) next late = refl
  late_document (Err doc.NotObject) next late = refl
  late_document (Err (doc.TooDeep depth)) next late = refl
  late_document (Err doc.NotWhole) next late = refl
  late_document (Err doc.Memory) next late = refl

  late_put : (m : Message) (collection id : List ℕ) → is_bare m ≡ false → is_early_answer decodes (put_of m collection id) ≡ false
  unfolding is_bare document_in
  late_put m collection id other =
      let parts = or_parts (not (has_length m)) (not (has_no_coding m)) other in
      rw (parts.0, parts.1)
      (late_write (if_match m) (if_none_match m)
      (λ condition. and_then (document_by (judged m.body)) (λ document. Ok (write collection id (Some document) condition)))
      (λ condition. late_document (judged m.body) (λ document. Ok (write collection id (Some document) condition)) (λ document. refl)))

  late_record : (m : Message) (collection id : List ℕ) (method : Method) → allows allow.Record method ≡ true
      → is_bare_call m method ≡ false → is_early_answer decodes (record_by m collection id method) ≡ false
  late_record m collection id Get allowed other =
      late_read (if_match m) (if_none_match m) (λ known. Ok (Read (key.Record collection id) known false)) (λ known. refl)
  late_record m collection id Head allowed other =
      late_read (if_match m) (if_none_match m) (λ known. Ok (Read (key.Record collection id) known true)) (λ known. refl)
  late_record m collection id Put allowed other = late_put m collection id other
  late_record m collection id Delete allowed other =
      late_write (if_match m) (if_none_match m) (λ condition. Ok (write collection id None condition)) (λ condition. refl)
  late_record m collection id Post allowed other = absurd (true≢false (sym allowed))

  -- so is a query, once its name is good
  late_fields : (read : Result (AQuery × Kind) QueryRefusal) (known : Tags) (head : Bool)
      → is_early_answer decodes (read_by (query_or_not read) known head) ≡ false
  late_fields (Ok found) known head = refl
  late_fields (Err refused) known head = refl

  late_query : (m : Message) (collection : List ℕ) (fields : List NamedValue) (head : Bool)
      → is_early_answer decodes (and_then (known_of m) (λ known. read_by (query_in collection fields) known head)) ≡ false
  unfolding query_in
  late_query m collection fields head =
      late_read (if_match m) (if_none_match m) (λ known. read_by (query_in collection fields) known head)
      (λ known. late_fields (read_texts collection (text_in 102 fields) (text_in 111 fields) (text_in 115 fields) (text_in 110 fields) (text_in 107 fields)) known head)

  free_record : (m : Message) (method : Method) (one two : Result (List ℕ) Refused) → allows allow.Record method ≡ true
      → is_early_answer decodes (and_then one (λ collection. and_then two (λ id. record_by m collection id method))) ≡ true
      → (not (is_ok one && is_ok two) || is_bare_call m method) ≡ true
  free_record m method (Err refused) two allowed early = refl
  free_record m method (Ok collection) (Err refused) allowed early = refl
  free_record m method (Ok collection) (Ok id) allowed early =
      elim (cases_Bool (is_bare_call m method)) [
        | inl bare ↦ bare
        | inr other ↦ absurd (true≢false (sym early ∙ late_record m collection id method allowed other))
      ]

free_query : (m : Message) (name : Result (List ℕ) Refused) (fields : List NamedValue) (head : Bool)
    → is_early_answer false (and_then name (λ collection. and_then (known_of m) (λ known. read_by (query_in collection fields) known head))) ≡ true
    → not (is_ok name) ≡ true
free_query m (Err refused) fields head early = refl
free_query m (Ok collection) fields head early = absurd (true≢false (sym early ∙ late_query false m collection fields head))

-- a query by its name, once the fields are decoded
late_named : (m : Message) (name : Result (List ℕ) NameRefusal) (fields : List NamedValue) (head : Bool)
    → is_early_answer true (and_then (name_or_not name) (λ collection. and_then (known_of m) (λ known. read_by (query_in collection fields) known head))) ≡ false
late_named m (Err refusal) fields head = refl
late_named m (Ok collection) fields head = late_query true m collection fields head

not_true : (b : Bool) → not b ≡ true → b ≡ false
not_true true is = absurd (true≢false (sym is))
not_true false is = refl

module _ (m : Message) (path : List ℕ) (method : Method) where
  -- a request without a query
  free_call : (found : Route) → allows (methods_of found) method ≡ true
      → is_early_answer false (ask_by m path method found []) ≡ true → is_free_call m path found method ≡ true
  free_call Record allowed early = free_record false m method (name_in (collection_in path)) (name_in (id_in path)) allowed early
  free_call Query allowed early = free_query m (name_in (queried_in path)) [] (is_head_request method) early
  free_call Filter allowed early = refl
  free_call Purges allowed early = refl
  free_call Match allowed early = refl
  free_call Horizon allowed early = refl
  free_call Stats allowed early = refl

  -- one of a route that takes fields, once these are decoded
  late_queried : (values : Option (List NamedValue))
      → is_early_answer true (and_then (fields_or_not values) (λ fields. ask_by m path method Query fields)) ≡ false
  unfolding name_in
  late_queried None = refl
  late_queried (Some values) = late_named m (read_name (percent_decode (queried_in path))) values (is_head_request method)

  late_purges : (values : Option (List NamedValue))
      → is_early_answer true (and_then (fields_or_not values) (λ fields. ask_by m path method Purges fields)) ≡ false
  late_purges None = refl
  late_purges (Some values) = refl

  free_fields : (query : List ℕ) (found : Route)
      → is_early_answer (takes_fields found) (and_then (fields_or_not (fields_of found (pieces_of query))) (λ values. ask_by m path method found values)) ≡ true
      → not (takes_fields found) ≡ true
  free_fields query Record early = refl
  free_fields query Query early = absurd (true≢false (sym early ∙ late_queried (fields_of Query (pieces_of query))))
  free_fields query Filter early = refl
  free_fields query Purges early = absurd (true≢false (sym early ∙ late_purges (fields_of Purges (pieces_of query))))
  free_fields query Match early = refl
  free_fields query Horizon early = refl
  free_fields query Stats early = refl

  -- fields that were decoded are of a route that takes them, or there is no query
  pub free_values : (query : Option (List ℕ)) (found : Route) (values : List NamedValue) → Some values ≡ fields_in found query
      → method_in m found ≡ Ok method → is_free_at m path query (Some found) ≡ true → is_free_call m path found method ≡ true
  free_values query found values is method_is free =
      let known : is_free_with m path query found (Ok method) ≡ true = ap (is_free_with m path query found) (sym method_is) ∙ free in
      by query is known
    where
      by : (query : Option (List ℕ)) → Some values ≡ fields_in found query → is_free_with m path query found (Ok method) ≡ true
          → is_free_call m path found method ≡ true
      by None is known = known
      by (Some text) is known =
          let none = no_fields_in found (Some text) text refl (not_true (takes_fields found) known) in
          absurd (let clash : ◌≡◌ {A = Option (List NamedValue)} (Some values) None = is ∙ none in cc)

free_with : (m : Message) (path : List ℕ) (query : Option (List ℕ)) (found : Route) (r : Result Method Refused)
    → ((method : Method) → r ≡ Ok method → allows (methods_of found) method ≡ true)
    → is_early_answer (decodes_at (Some found) query)
    (and_then r (λ method. and_then (fields_or_not (fields_in found query)) (λ values. ask_by m path method found values))) ≡ true
    → is_free_with m path query found r ≡ true
unfolding fields_in
free_with m path None found (Err refused) allowed early = refl
free_with m path (Some query) found (Err refused) allowed early = refl
free_with m path None found (Ok method) allowed early = free_call m path method found (allowed method refl) early
free_with m path (Some query) found (Ok method) allowed early = free_fields m path method query found early

allowed_by : (methods : Allow) (found : Option Method) (method : Method) → method_by methods found ≡ Ok method → allows methods method ≡ true
allowed_by methods None method is = absurd (cc)
allowed_by methods (Some found) method is =
    elim (cases_Bool (allows methods found)) [
      | inl allowed ↦ let same : ◌≡◌ {A = Result Method Refused} (Ok found) (Ok method) = rw allowed at is in cc
      | inr other ↦ absurd (let refused : ◌≡◌ {A = Result Method Refused} (Err (BadMethod methods)) (Ok method) = rw other at is in cc)
    ]

free_at : (m : Message) (path : List ℕ) (query : Option (List ℕ)) (found : Option Route)
    → is_early_answer (decodes_at found query) (ask_at m path query found) ≡ true → is_free_at m path query found ≡ true
free_at m path query None early = refl
free_at m path query (Some found) early =
    free_with m path query found (method_in m found) (λ method is. allowed_by (methods_of found) (method_of m.method) method is) early

-- what takes no memory is answered as far as the request is read without
pub early_free : (s : Served) (m : Message) (local : List ℕ) → has_host m ≡ true → local_part m.target ≡ Some local
    → is_early s m ≡ true → is_free_at m (path_of local) (query_of local) (served_of s (route_of (path_of local))) ≡ true
unfolding ask_of
early_free s m local hosted local_is early =
    free_at m (path_of local) (query_of local) (served_of s (route_of (path_of local))) (rw (hosted, local_is) at early)
