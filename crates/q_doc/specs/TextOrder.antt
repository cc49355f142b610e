-- Internal. The order of texts by their bytes, and of paths by their segments.
use Rattle.std.specs.Prelude.{◌≡◌, ℕ, List, Bool}
use Rattle.std.proofs.Common.{sym}
use Rattle.std.specs.Str.{bytes_eq}
use Rattle.std.specs.Ordering.{nat_cmp, eq_by_cmp}
use Rattle.std.specs.declared.cmp.Ordering.{Ordering}
use Rattle.std.specs.Cmp.{IsTotalOrder, IsEquivalence}
use Rattle.std.specs.Cmp.Lexicographic.{slice_cmp, pointwise, lists_total, lists_equiv, lists_ties}
use Rattle.std.proofs.lemmas.Cmp.{nat_list_cmp_total, nat_list_eq_equiv}
use Rattle.std.proofs.lemmas.Map.Text.{is_eq-slice_cmp}

-- two texts, by their bytes
abbrev pub text_cmp : List ℕ → List ℕ → Ordering
text_cmp = slice_cmp nat_cmp

-- two paths, by their segments, a prefix before a longer path
abbrev pub path_cmp : List (List ℕ) → List (List ℕ) → Ordering
path_cmp = slice_cmp text_cmp

-- whether two paths have the same segments
abbrev pub path_eq : List (List ℕ) → List (List ℕ) → Bool
path_eq = pointwise bytes_eq

pub text_cmp_total : IsTotalOrder text_cmp
text_cmp_total = nat_list_cmp_total

pub text_eq_equiv : IsEquivalence bytes_eq
text_eq_equiv = nat_list_eq_equiv

-- texts are equal where they tie
pub text_eq-tie : (a b : List ℕ) → bytes_eq a b ≡ eq_by_cmp text_cmp a b
text_eq-tie a b = sym (is_eq-slice_cmp a b)

pub path_cmp_total : IsTotalOrder path_cmp
path_cmp_total = lists_total text_cmp_total

pub path_eq_equiv : IsEquivalence path_eq
path_eq_equiv = lists_equiv text_eq_equiv

-- so are paths
pub path_eq-tie : (a b : List (List ℕ)) → path_eq a b ≡ eq_by_cmp path_cmp a b
path_eq-tie = lists_ties text_cmp text_eq-tie
