-- Hosts, and which of them a request is for.
use Rattle.std.proofs.Common.{◌≡◌, ℕ, Bool, true, false, ◌&&◌, List, length, take, drop, min, refl, ap, ap₂, ◌∙◌}
use Rattle.std.proofs.lemmas.List.{take_min, drop_min}
use Rattle.std.specs.List.{list_any}
use Rattle.std.specs.Prelude.{Option, Some, None}
use Rattle.std.specs.Str.{str_eq_ignore_ascii_case}
use Rattle.http_front.specs.Hosts.{is_host, is_port}
use Rattle.http_front.specs.Origins.{origins_in}
use Rattle.http_front.specs.Target.{ahead_of, behind}
use Rattle.http_front.proofs.CutLemmas.{parted, whole}

first_by : (host rest : List ℕ) (o : Option (List ℕ)) → behind 32 rest ≡ o → is_host host (ahead_of 32 rest) ≡ true
    → list_any (is_host host) (origins_in rest) ≡ true
first_by host rest None e same = rw (whole 32 rest e, same) refl
first_by host rest (Some others) e same = rw ((parted 32 rest others e).split, same) refl

-- the first is that of the request
pub named_first : (host rest : List ℕ) → is_host host (ahead_of 32 rest) ≡ true → list_any (is_host host) (origins_in rest) ≡ true
named_first host rest same = first_by host rest (behind 32 rest) refl same

-- it is not, and it is the last
pub named_last : (host rest : List ℕ) → behind 32 rest ≡ None → is_host host (ahead_of 32 rest) ≡ false → list_any (is_host host) (origins_in rest) ≡ false
named_last host rest e other = rw (whole 32 rest e, other) refl

-- it is not, and there are others
pub named_next : (host rest others : List ℕ) → behind 32 rest ≡ Some others → is_host host (ahead_of 32 rest) ≡ false
    → list_any (is_host host) (origins_in rest) ≡ list_any (is_host host) (origins_in others)
named_next host rest others e other = rw ((parted 32 rest others e).split, other) refl

-- a host is parted behind as many bytes as the name has, or at its end where it is shorter
pub host_by : (host name : List ℕ) (count : ℕ) (same port : Bool) → count ≡ min (length name) (length host)
    → same ≡ str_eq_ignore_ascii_case (take count host) name → port ≡ is_port (drop count host) → (same && port) ≡ is_host host name
host_by host name count same port is p q =
    ap₂ (λ x y. x && y) (p ∙ ap (λ n. str_eq_ignore_ascii_case (take n host) name) is ∙ ap (λ t. str_eq_ignore_ascii_case t name) (take_min (length name) host))
    (q ∙ ap (λ n. is_port (drop n host)) is ∙ ap is_port (drop_min (length name) host))
