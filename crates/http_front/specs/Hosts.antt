-- Believed. Which hosts a server answers for, where it is told (RFC 9110, sections 7.2 and 15.5.20).
use Rattle.std.specs.Prelude.{ℕ, Bool, true, false, not, ◌&&◌, ◌==◌, List, [], ◌∷◌, length, take, drop, Option, Some, None, Result, codes}
use Rattle.std.specs.Char.{is_ascii_digit}
use Rattle.std.specs.List.{list_all, list_any}
use Rattle.std.specs.Str.{str_eq_ignore_ascii_case}
use Rattle.http_message.specs.Fields.{values}
use Rattle.http_message.specs.Message.{Message}
use Rattle.http_front.specs.Answered.{unless}
use Rattle.http_front.specs.Asks.{ask_of, has_host}
use Rattle.http_front.specs.Early.{decodes_in, is_early_answer}
use Rattle.http_front.specs.Origins.{names_some, only_of, origins_in}
use Rattle.http_front.specs.Target.{local_part}
use Rattle.http_front.specs.declared.ask.Ask.{Ask}
use Rattle.http_front.specs.declared.refused.Refused.{Refused}
use Rattle.http_front.specs.declared.refused.Refused.TheVariants.{Misdirected}
use Rattle.http_front.specs.declared.routes.Served.{Served}

-- what may follow a host: nothing, or a colon and a port of any digits (RFC 3986, section 3.2.3)
abbrev pub is_port : List ℕ → Bool
is_port [] = true
is_port (colon ∷ port) = colon == 58 && list_all is_ascii_digit port

-- the value of a field of Host is this name, without regard to ASCII case, with a port behind it or without
abbrev pub is_host : List ℕ → List ℕ → Bool
is_host value name = str_eq_ignore_ascii_case (take (length name) value) name && is_port (drop (length name) value)

-- the value of a request's only field of Host
abbrev pub host_of : Message → Option (List ℕ)
host_of m = only_of (values (codes "host") m.fields)

-- that of a request is one of these names; one without Host is for none of them
abbrev pub is_one_of : List (List ℕ) → Option (List ℕ) → Bool
is_one_of names None = false
is_one_of names (Some value) = list_any (is_host value) names

-- a text names hosts, with a space between two, and the request is for none of them
unfoldable pub is_misdirected : List ℕ → Message → Bool
is_misdirected hosts m =
    names_some hosts && (has_host m && not (is_one_of (origins_in hosts) (host_of m)))

-- what a request asks of the hosts that a text names, where these routes are served
abbrev pub ask_to : List ℕ → Served → Message → Result Ask Refused
ask_to hosts s m = unless (is_misdirected hosts m) Misdirected (ask_of s m)

-- that answer takes no memory
abbrev pub is_early_to : List ℕ → Served → Message → Bool
is_early_to hosts s m = is_early_answer (decodes_in s (local_part m.target)) (ask_to hosts s m)
