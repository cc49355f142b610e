-- Believed. What a request asks of the store, or the first reason why it is refused.
use Rattle.std.specs.Prelude.{ℕ, Bool, true, false, not, ◌&&◌, ◌||◌, ◌==◌, nat_le, nat_lt, if◌then◌else◌, bytes_eq, List, [], length, Option, Some, None, unwrap_or, Result, Ok, Err, codes}
use Rattle.std.specs.List.{list_all}
use Rattle.std.specs.Str.{str_eq_ignore_ascii_case}
use Rattle.percent_encoding.specs.Percent.{percent_decode}
use Rattle.q_base.specs.Name.{read_name}
use Rattle.q_base.specs.declared.name.NameRefusal.{NameRefusal}
use Rattle.q_doc.specs.Tree.{Tree}
use Rattle.q_doc.specs.Judged.{judged}
use Rattle.q_doc.specs.declared.refusal.DocRefusal.{DocRefusal}
use Rattle.q_doc.specs.declared.refusal.DocRefusal.TheVariants as doc
use Rattle.query_normal.specs.Normal.{normal_query}
use Rattle.query_normal.specs.declared.key.KeyShape.TheVariants as key
use Rattle.hub_model.specs.declared.entry.Condition.{Condition}
use Rattle.hub_model.specs.declared.entry.Condition.TheVariants.{Always, Present, Absent, Unchanged}
use Rattle.hub_model.specs.declared.entry.Tags.{Tags}
use Rattle.hub_model.specs.declared.entry.Tags.TheVariants.{Any, Listed}
use Rattle.http_message.specs.Fields.{values}
use Rattle.http_message.specs.Message.{Message}
use Rattle.http_front.specs.declared.refused.Allow.{Allow}
use Rattle.http_front.specs.declared.refused.DocumentReason.TheVariants.{NotJson, NotObject, TooDeep, NotWhole}
use Rattle.http_message.specs.declared.refusal.FramingRefusal.TheVariants.{BodyTooLarge}
use Rattle.http_front.specs.declared.refused.QueryField.TheVariants as field
use Rattle.http_front.specs.declared.refused.Refused.{Refused}
use Rattle.http_front.specs.declared.refused.Refused.TheVariants.{Framing, BadHost, BadTarget, NoRoute, BadMethod, NoLength, BadEncoding, BadTag, BadDocument}
use Rattle.http_front.specs.Answered.{and_then, unless}
use Rattle.http_front.specs.Filters.{letter_of, query_in, text_in}
use Rattle.http_front.specs.Numbers.{number_of}
use Rattle.http_front.specs.Origins.{leave_of, names_some, page_of}
use Rattle.http_front.specs.Query.{NamedValue, fields_in}
use Rattle.http_front.specs.Routes.{route_of, served_of, collection_in, id_in, queried_in, method_of, allows, methods_of}
use Rattle.http_front.specs.Tags.{tags_in}
use Rattle.http_front.specs.Target.{local_part, path_of, query_of}
use Rattle.http_front.specs.declared.ask.Ask.{Ask}
use Rattle.http_front.specs.declared.ask.Ask.TheVariants.{Write, Read, Purges, MatchAll, Horizon, Fetch, Stats}
use Rattle.http_front.specs.declared.routes.Served.{Served}
use Rattle.http_front.specs.declared.routes.Route.{Route}
use Rattle.http_front.specs.declared.routes.Route.TheVariants as route
use Rattle.http_front.specs.declared.routes.Method.{Method}
use Rattle.http_front.specs.declared.routes.Method.TheVariants.{Get, Head, Post, Put, Delete}
use Rattle.http_front.specs.declared.shape.Shape.{Shape}
use Rattle.http_front.specs.declared.tags.Comparison.TheVariants.{Strong, Weak}
use Rattle.http_front.specs.declared.tags.TagRefusal.{TagRefusal}

-- HTTP/1.1 asks for one field of Host, and HTTP/1.0 takes none too (RFC 9112, section 3.2)
unfoldable pub has_host : Message → Bool
has_host m =
    if m.minor == 0 then nat_le (length (values (codes "host") m.fields)) 1
    else length (values (codes "host") m.fields) == 1

-- the length of the body is given (RFC 9112, section 6)
unfoldable pub has_length : Message → Bool
has_length m =
    nat_lt 0 (length (values (codes "content-length") m.fields))
    || nat_lt 0 (length (values (codes "transfer-encoding") m.fields))

-- the request has a condition
abbrev pub has_condition : Message → Bool
has_condition m =
    nat_lt 0 (length (values (codes "if-match") m.fields))
    || nat_lt 0 (length (values (codes "if-none-match") m.fields))

-- the content has no coding but `identity`
unfoldable pub has_no_coding : Message → Bool
has_no_coding m =
    list_all (λ value. str_eq_ignore_ascii_case value (codes "identity")) (values (codes "content-encoding") m.fields)

-- tags, or a list that is none
abbrev pub tags_or_not : Result (Option Tags) TagRefusal → Result (Option Tags) Refused
tags_or_not (Ok tags) = Ok tags
tags_or_not (Err refusal) = Err BadTag

-- the tags of If-Match, which are compared strongly
abbrev pub matches : Message → Result (Option Tags) Refused
matches m = tags_or_not (tags_in Strong (values (codes "if-match") m.fields))

-- the tags of If-None-Match, which are not
abbrev pub differs : Message → Result (Option Tags) Refused
differs m = tags_or_not (tags_in Weak (values (codes "if-none-match") m.fields))

-- a name, or a target that has none
abbrev pub name_or_not : Result (List ℕ) NameRefusal → Result (List ℕ) Refused
name_or_not (Ok name) = Ok name
name_or_not (Err refusal) = Err BadTarget

-- the name that bytes are once their escapes are decoded
unfoldable pub name_in : List ℕ → Result (List ℕ) Refused
name_in text = name_or_not (read_name (percent_decode text))

-- a condition, of the tags of If-Match and of If-None-Match
abbrev pub condition_by : Option Tags → Option Tags → Result Condition Refused
condition_by None None = Ok Always
condition_by (Some Any) None = Ok Present
condition_by (Some (Listed commits)) None = Ok (Unchanged (Listed commits))
condition_by None (Some Any) = Ok Absent
condition_by None (Some (Listed commits)) = Err BadTag
condition_by (Some tags) (Some others) = Err BadTag

-- the condition of a write
abbrev pub condition_of : Message → Result Condition Refused
condition_of m = and_then (matches m) (λ tags. and_then (differs m) (λ others. condition_by tags others))

-- the results that a reader knows, of the tags of If-None-Match: none without these
abbrev pub known_by : Option Tags → Tags
known_by None = Listed []
known_by (Some tags) = tags

-- the results that the reader of a request knows; the tags of If-Match are read and have no effect
abbrev pub known_of : Message → Result Tags Refused
known_of m = and_then (matches m) (λ tags. and_then (differs m) (λ others. Ok (known_by others)))

-- how a body that is no document is refused; a definition of documents refuses none for being out of memory
abbrev pub refused_for : DocRefusal → Refused
refused_for (doc.TooLong length) = Framing BodyTooLarge
refused_for doc.NotJson = BadDocument NotJson
refused_for doc.NotObject = BadDocument NotObject
refused_for (doc.TooDeep depth) = BadDocument TooDeep
refused_for doc.NotWhole = BadDocument NotWhole
refused_for doc.Memory = BadDocument NotJson

-- a document, or why there is none
abbrev pub document_by : Result Tree DocRefusal → Result Tree Refused
document_by (Ok document) = Ok document
document_by (Err refusal) = Err (refused_for refusal)

-- the document that a body is
unfoldable pub document_in : List ℕ → Result Tree Refused
document_in body = document_by (judged body)

-- a write of a record
abbrev pub write : List ℕ → List ℕ → Option Tree → Condition → Ask
write collection id document condition =
    Write (record { collection = collection; id = id; document = document }) condition

-- a PUT of a record's document
abbrev pub put_of : Message → List ℕ → List ℕ → Result Ask Refused
put_of m collection id =
    unless (not (has_length m)) NoLength
    (unless (not (has_no_coding m)) BadEncoding
    (and_then (condition_of m) (λ condition.
    and_then (document_in m.body) (λ document.
    Ok (write collection id (Some document) condition)))))

-- a DELETE of it
abbrev pub delete_of : Message → List ℕ → List ℕ → Result Ask Refused
delete_of m collection id = and_then (condition_of m) (λ condition. Ok (write collection id None condition))

-- a GET or a HEAD of it
abbrev pub read_of : Message → List ℕ → List ℕ → Bool → Result Ask Refused
read_of m collection id head =
    and_then (known_of m) (λ known. Ok (Read (key.Record collection id) known head))

-- by the method
abbrev pub record_by : Message → List ℕ → List ℕ → Method → Result Ask Refused
record_by m collection id Get = read_of m collection id false
record_by m collection id Head = read_of m collection id true
record_by m collection id Put = put_of m collection id
record_by m collection id Delete = delete_of m collection id
record_by m collection id Post = Err (BadMethod (methods_of route.Record))

-- a GET or a HEAD of a query
abbrev pub query_by : Message → List ℕ → List NamedValue → Bool → Result Ask Refused
query_by m text fields head =
    and_then (name_in text) (λ collection.
    and_then (known_of m) (λ known.
    and_then (query_in collection fields) (λ read. Ok (Read (key.Query read.1 (normal_query read.0)) known head))))

-- the number from which on purges are asked for: that of the field `from`, and 1 where there is none
abbrev pub start_in : List NamedValue → ℕ
start_in values = unwrap_or (number_of (text_in (letter_of field.From) values)) 1

-- the method is HEAD
abbrev pub is_head_request : Method → Bool
is_head_request Head = true
is_head_request Get = false
is_head_request Post = false
is_head_request Put = false
is_head_request Delete = false

-- a request of a route that has its method, with the fields of its query
abbrev pub ask_by : Message → List ℕ → Method → Route → List NamedValue → Result Ask Refused
ask_by m path method route.Record values =
    and_then (name_in (collection_in path)) (λ collection.
    and_then (name_in (id_in path)) (λ id. record_by m collection id method))
ask_by m path method route.Query values = query_by m (queried_in path) values (is_head_request method)
ask_by m path method route.Filter values = Ok (Fetch (is_head_request method))
ask_by m path method route.Purges values = Ok (Purges (start_in values) (is_head_request method))
ask_by m path method route.Match values = Ok MatchAll
ask_by m path method route.Horizon values = Ok Horizon
ask_by m path method route.Stats values = Ok (Stats (is_head_request method))

-- a method, where it is one of these
abbrev pub method_by : Allow → Option Method → Result Method Refused
method_by methods None = Err (BadMethod methods)
method_by methods (Some method) = if allows methods method then Ok method else Err (BadMethod methods)

-- the method of a request, where the route has it
abbrev pub method_in : Message → Route → Result Method Refused
method_in m found = method_by (methods_of found) (method_of m.method)

-- the fields of a query, or a target that has none
abbrev pub fields_or_not : Option (List NamedValue) → Result (List NamedValue) Refused
fields_or_not (Some values) = Ok values
fields_or_not None = Err BadTarget

-- a request of a path
abbrev pub ask_at : Message → List ℕ → Option (List ℕ) → Option Route → Result Ask Refused
ask_at m path query None = Err NoRoute
ask_at m path query (Some found) =
    and_then (method_in m found) (λ method.
    and_then (fields_or_not (fields_in found query)) (λ values. ask_by m path method found values))

-- a request of a target
abbrev pub ask_in : Served → Message → Option (List ℕ) → Result Ask Refused
ask_in s m None = Err BadTarget
ask_in s m (Some local) = ask_at m (path_of local) (query_of local) (served_of s (route_of (path_of local)))

-- what a request asks where these routes are served, or the first reason in this order: its Host, its
-- target, its route, its method, its names and fields, and then those of its call
unfoldable pub ask_of : Served → Message → Result Ask Refused
ask_of s m = unless (not (has_host m)) BadHost (ask_in s m (local_part m.target))

-- what the reply to a request looks like, where a text names these origins
abbrev pub shape_of : List ℕ → Message → Shape
shape_of origins m = record {
  put = bytes_eq m.method (codes "PUT");
  head = bytes_eq m.method (codes "HEAD");
  asks = names_some origins && bytes_eq m.method (codes "OPTIONS");
  leave = leave_of origins (page_of m);
}

-- what the reply to bytes that cannot be framed looks like: no field of theirs is known
abbrev pub unframed_shape : List ℕ → Bool → Shape
unframed_shape origins head = record { put = false; head = head; asks = false; leave = leave_of origins None }
