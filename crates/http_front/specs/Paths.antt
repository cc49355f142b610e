-- Internal. The paths of records.
use Rattle.std.specs.Prelude.{◌≡◌, ◌≢◌, ◌↔◌, ◌<◌, ℕ, List, ◌∷◌, ◌++◌, length, All, Some, codes}
use Rattle.std.specs.Str.{IsUtf8}
use Rattle.http_front.specs.Routes.{route_of}
use Rattle.http_front.specs.declared.routes.Route.TheVariants.{Record}

-- a part of a path between slashes: some bytes, and none is a slash
pub record IsPart (text : List ℕ) : Type 0 where
  pub some : 0 < length text
  pub whole : All (λ byte. byte ≢ 47) text

-- the path is `/v1/d/`, a part, a slash, and a part
pub record IsRecordPath (path : List ℕ) : Type 0 where
  pub collection : List ℕ
  pub id : List ℕ
  pub is : path ≡ codes "/v1/d/" ++ (collection ++ 47 ∷ id)
  pub collection_is : IsPart collection
  pub id_is : IsPart id

-- a path of bytes has the route of a record exactly where it is UTF-8 and of that form
abbrev pub PathsOfRecordsHaveTwoNames : Type 0
PathsOfRecordsHaveTwoNames =
    (path : List ℕ) → All (λ byte. byte < 256) path → (route_of path ≡ Some Record) ↔ (IsUtf8 path × IsRecordPath path)
