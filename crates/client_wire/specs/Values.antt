-- Internal. The value of a field as the code answers it, and the directives for caches as they are read in turn.
use Rattle.std.specs.Prelude.{◌≡◌, ℕ, false, ◌||◌, List, [], ◌∷◌, map, if◌then◌else◌, Option, Some, None, codes}
use Rattle.std.specs.Borrow.{Bor}
use Rattle.httparse.specs.Grammar.{trim_ows}
use Rattle.http_message.specs.Fields.{Pair, is_named, pieces_between}
use Rattle.client_wire.specs.ReplyFields.{is_no_store, or_else, seconds_in}
use Rattle.client_wire.specs.declared.lifetime.Directives.{Directives}

-- the value that is answered
abbrev pub IsValue : Option (List ℕ) → Option (Bor (List ℕ)) → Type 0
IsValue found None = found ≡ None
IsValue found (Some value) = found ≡ Some value.now

-- no directive was read
abbrev pub no_directives : Directives
no_directives = record { no_store = false; seconds = None }

-- one more directive
abbrev pub with_one : Directives → List ℕ → Directives
with_one found directive = record {
  no_store = found.no_store || is_no_store directive;
  seconds = or_else found.seconds (seconds_in directive);
}

-- some more in turn
abbrev pub with_all : Directives → List (List ℕ) → Directives
with_all found [] = found
with_all found (directive ∷ others) = with_all (with_one found directive) others

-- those of a field, where it has some
abbrev pub with_field : Directives → Pair → Directives
with_field found pair =
    if is_named (codes "cache-control") pair then with_all found (map trim_ows (pieces_between 44 pair.1)) else found
