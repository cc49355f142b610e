-- The texts of purged keys, and their order.
use Rattle.std.proofs.Common.{◌≡◌, ℕ, Bor, Bool, List, take, drop, map, sym, ap, ◌∙◌}
use Rattle.std.specs.Cmp.{IsStrictWeakOrder}
use Rattle.std.specs.Fn.{Called}
use Rattle.std.specs.List.Sorted.{IsSorted, IsSortedByClosure}
use Rattle.std.specs.Ordering.{is_lt}
use Rattle.std.specs.declared.cmp.Ordering.{Ordering}
use Rattle.std.proofs.lemmas.Cmp.{nat_list_cmp_total}
use Rattle.std.proofs.lemmas.Fn.{always_returns_same}
use Rattle.std.proofs.lemmas.List.{take-map, drop-map}
use Rattle.std.proofs.lemmas.List.Sorted.{ranks_by}
use denote.Param.Members.{Mut}
use Rattle.query_normal.specs.declared.key.KeyShape.{KeyShape}
use Rattle.query_normal.specs.Keys.{key_text}
use Rattle.purge_list.specs.Purged.{text_cmp}

-- the texts of some keys behind others are as many texts behind as many others
pub texts_of_some : (skipped count : ℕ) (keys : List KeyShape) → map key_text (take count (drop skipped keys)) ≡ take count (drop skipped (map key_text keys))
texts_of_some skipped count keys = sym (take-map key_text count (drop skipped keys)) ∙ ap (take count) (sym (drop-map key_text skipped keys))

-- ---- the order of texts

abbrev less : KeyShape → KeyShape → Bool
less a b = is_lt (text_cmp a b)

ranks : IsStrictWeakOrder less
ranks = ranks_by nat_list_cmp_total key_text

-- a sort by a closure that compares the texts sorts by them
pub sorted_by_text : {F : Type 0} {g : Mut F (Bor KeyShape × (Bor KeyShape × Unit {0})) Ordering} {f : F} (keys : List KeyShape)
    → IsSortedByClosure g f keys
    → ((a : Bor KeyShape × (Bor KeyShape × Unit {0})) (r : Ordering) (f' : F) → Called g f a r f' → (r ≡ text_cmp a.0.now a.1.0.now) × (f' ≡ f)) → IsSorted text_cmp keys
sorted_by_text {g = g} {f = f} keys up h =
    let answers = always_returns_same g (λ a r. is_lt r ≡ less a.0.now a.1.0.now) f (λ a r f' k. (ap is_lt (h a r f' k).0, (h a r f' k).1)) in
    up less ranks answers
