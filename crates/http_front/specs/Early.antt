-- Believed. Answers that take no memory.
use Rattle.std.specs.Prelude.{ℕ, Bool, true, false, not, List, Option, Some, None, Result, Ok, Err}
use Rattle.http_message.specs.Message.{Message}
use Rattle.http_front.specs.Asks.{ask_of}
use Rattle.http_front.specs.Query.{takes_fields}
use Rattle.http_front.specs.Routes.{route_of, served_of}
use Rattle.http_front.specs.Target.{local_part, path_of, query_of}
use Rattle.http_front.specs.declared.ask.Ask.{Ask}
use Rattle.http_front.specs.declared.ask.Ask.TheVariants.{Write, Read, Purges, MatchAll, Horizon, Fetch, Stats}
use Rattle.http_front.specs.declared.refused.Refused.{Refused}
use Rattle.http_front.specs.declared.refused.Refused.TheVariants.{Framing, BadHost, Misdirected, BadTarget, NoRoute, BadMethod, NoLength, BadEncoding, BadTag, BadFilter, BadDocument}
use Rattle.http_front.specs.declared.routes.Route.{Route}
use Rattle.http_front.specs.declared.routes.Served.{Served}

-- a target with a query, whose route takes fields: they are decoded before the target is known to be good
abbrev pub decodes_at : Option Route → Option (List ℕ) → Bool
decodes_at None query = false
decodes_at (Some found) None = false
decodes_at (Some found) (Some query) = takes_fields found

-- the same, of a target
abbrev pub decodes_in : Served → Option (List ℕ) → Bool
decodes_in s None = false
decodes_in s (Some local) = decodes_at (served_of s (route_of (path_of local))) (query_of local)

-- a refusal for the Host, the target, the route, the method, the length or the coding; where fields of a query are decoded, the target is not among them
abbrev pub is_early_refusal : Bool → Refused → Bool
is_early_refusal decodes BadHost = true
is_early_refusal decodes Misdirected = true
is_early_refusal decodes BadTarget = not decodes
is_early_refusal decodes NoRoute = true
is_early_refusal decodes (BadMethod methods) = true
is_early_refusal decodes NoLength = true
is_early_refusal decodes BadEncoding = true
is_early_refusal decodes (Framing refused) = false
is_early_refusal decodes BadTag = false
is_early_refusal decodes (BadFilter refusal) = false
is_early_refusal decodes (BadDocument reason) = false

-- such a refusal, or a match, a drop of old changes, a page or the numbers of the store; and the list of purges, where no fields are decoded
abbrev pub is_early_answer : Bool → Result Ask Refused → Bool
is_early_answer decodes (Ok (Write change condition)) = false
is_early_answer decodes (Ok (Read key tags head)) = false
is_early_answer decodes (Ok (Purges from head)) = not decodes
is_early_answer decodes (Ok MatchAll) = true
is_early_answer decodes (Ok Horizon) = true
is_early_answer decodes (Ok (Fetch head)) = true
is_early_answer decodes (Ok (Stats head)) = true
is_early_answer decodes (Err refused) = is_early_refusal decodes refused

-- the request is refused for its Host, target, route, method, length or coding, or asks for a match, a drop of old changes, a page, the numbers of the store or all purges
abbrev pub is_early : Served → Message → Bool
is_early s m = is_early_answer (decodes_in s (local_part m.target)) (ask_of s m)
