-- Internal. Whether two results of a query are equal, told by versions or by ids.
use Rattle.std.specs.Prelude.{◌≡◌, ◌==◌, ◌&&◌, Bool, List, Contains}
use Rattle.std.specs.Str.{bytes_eq}
use Rattle.std.specs.Cmp.Lexicographic.{pointwise}
use Rattle.query_core.specs.declared.query.Kind.{Kind}
use Rattle.query_core.specs.declared.query.Kind.TheVariants.{Objects, Ids}
use Rattle.query_core.specs.Window.{Row}

-- rows of one id
abbrev pub same_id : Row → Row → Bool
same_id a b = bytes_eq a.0 b.0

-- rows of one version of one id
abbrev pub same_version : Row → Row → Bool
same_version a b = a.1 == b.1 && bytes_eq a.0 b.0

-- whether a kind shows the same of two windows: the same versions or the same ids, in the same order
abbrev pub same_result : Kind → List Row → List Row → Bool
same_result Objects a b = pointwise same_version a b
same_result Ids a b = pointwise same_id a b

-- rows of one store: an id has one document in each version
abbrev pub AreOfOneStore : List Row → List Row → Type 0
AreOfOneStore a b = (x y : Row) → Contains a x → Contains b y → x.0 ≡ y.0 → x.1 ≡ y.1 → x ≡ y
