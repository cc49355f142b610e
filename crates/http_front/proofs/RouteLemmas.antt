-- The route that a router of the table finds.
use Rattle.std.proofs.Common.{◌≡◌, ℕ, true, false, List, sym, ◌∙◌, ap, ap₂}
use Rattle.std.proofs.lemmas.Bool.{cond-true, cond-false}
use Rattle.std.specs.Prelude.{nat_eq, codes, Some, None, option_map, drop}
use Rattle.std.specs.List.{starts_with, position_or_len}
use Rattle.std.specs.Str.{IsUtf8}
use Rattle.matchit.specs.Router.{RouteOf}
use Rattle.matchit.specs.Seek.{first}
use Rattle.http_front.specs.Routes.{IsTable, Table, route_of}
use Rattle.http_front.specs.Target.{ends_authority, local_part}
use Rattle.http_front.specs.declared.routes.Route.{Route}
use Rattle.http_front.proofs.QueryLemmas.{utf8_no, utf8_yes}

-- the route that was found
pub route_found : (rows : Table) (path text : List ℕ) (row : RouteOf Route) → IsTable rows → IsUtf8 path → text ≡ path
    → first rows text ≡ Some row → Some row.value ≡ route_of path
unfolding route_of
route_found rows path text row whole valid is found =
    sym (cond-true _ _ _ (utf8_yes path valid)
    ∙ ap (option_map (λ (r : RouteOf Route). r.value)) (ap₂ first (sym whole.is) (sym is) ∙ found))

-- none was
pub route_missing : (rows : Table) (path text : List ℕ) → IsTable rows → IsUtf8 path → text ≡ path
    → first rows text ≡ None → None ≡ route_of path
unfolding route_of
route_missing rows path text whole valid is found =
    sym (cond-true _ _ _ (utf8_yes path valid)
    ∙ ap (option_map (λ (r : RouteOf Route). r.value)) (ap₂ first (sym whole.is) (sym is) ∙ found))

-- a path that is no text
pub route_of_bytes : (path : List ℕ) → (IsUtf8 path → ⊥) → None ≡ route_of path
unfolding route_of
route_of_bytes path never = sym (cond-false _ _ _ (utf8_no path never))

-- a target that begins with a slash
pub local_slash : (target : List ℕ) → starts_with nat_eq target (codes "/") ≡ true → Some target ≡ local_part target
unfolding local_part
local_slash target e = sym (cond-true _ _ _ e)

-- one that names a server
pub local_server : (target rest : List ℕ) → starts_with nat_eq target (codes "/") ≡ false
    → starts_with nat_eq target (codes "http://") ≡ true
    → rest ≡ drop (position_or_len ends_authority (drop 7 target)) (drop 7 target) → Some rest ≡ local_part target
unfolding local_part
local_server target rest e f is = sym (cond-false _ _ _ e ∙ cond-true _ _ _ f ∙ ap (λ r. Some r) (sym is))

-- another
pub local_none : (target : List ℕ) → starts_with nat_eq target (codes "/") ≡ false
    → starts_with nat_eq target (codes "http://") ≡ false → None ≡ local_part target
unfolding local_part
local_none target e f = sym (cond-false _ _ _ e ∙ cond-false _ _ _ f)
