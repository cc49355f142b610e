-- Texts tell the filters of the language apart, so those of the same operands have one normal form.
use Rattle.std.proofs.Common.{◌≡◌, ℕ, ◌≤◌, Bool, true, false, List, [], ◌∷◌, Ordering, refl, sym, ap, ◌∙◌, subst, arith}
use Rattle.std.specs.Cmp.Lexicographic.{slice_cmp, texts_ties}
use Rattle.std.specs.List.{AllByRecursion}
use Rattle.std.specs.Ordering.{nat_cmp, is_lt, is_eq, ordering_reverse}
use Rattle.std.specs.declared.cmp.Ordering.TheVariants.{Less, Equal, Greater}
use Rattle.std.proofs.lemmas.Cmp.{nat_list_cmp_total}
use Rattle.std.proofs.lemmas.Slice.Eq.{bytes_eq-Decides}
use Rattle.query_core.specs.Filters.{Filter}
use Rattle.query_core.specs.Limits.{leaves, IsFilter}
use Rattle.query_core.specs.Print.{filter_text}
use Rattle.query_normal.specs.Forms.{SameItems, forms, IsWithin}
use Rattle.query_normal.specs.Normal.{text_cmp, parts_of, normal_filter}
use Rattle.query_normal.proofs.OneForm.{one_form}
use Rattle.query_normal.proofs.SizeForms.{total, AreLow, parts_leaves, parts_low, parts_filters, normal_leaves, normal_low, normal_is_filter}
use Rattle.query_lang.specs.FilterText.{IsFilterText}
use Rattle.query_lang.proofs.PrintedReading.{printed_filter}
use Rattle.query_lang.proofs.QueryTextReading.{one_filter}

-- what is neither less nor greater is equal
level : (o r : Ordering) → r ≡ ordering_reverse o → is_lt o ≡ false → is_lt r ≡ false → is_eq o ≡ true
level Less r e a b = absurd (cc)
level Equal r e a b = refl
level Greater r e a b = absurd (let less : is_lt r ≡ true = ap is_lt e in cc)

same_text : (xs ys : List ℕ) → is_lt (slice_cmp nat_cmp xs ys) ≡ false → is_lt (slice_cmp nat_cmp ys xs) ≡ false → xs ≡ ys
same_text xs ys a b = (bytes_eq-Decides xs ys).0 (texts_ties xs ys ∙ level (slice_cmp nat_cmp xs ys) (slice_cmp nat_cmp ys xs) (nat_list_cmp_total.antisymm ys xs) a b)

texts_tell : (f g : Filter) → IsWithin f → IsWithin g → is_lt (text_cmp f g) ≡ false → is_lt (text_cmp g f) ≡ false → f ≡ g
texts_tell f g p q a b =
    let same : filter_text g ≡ filter_text f = sym (same_text (filter_text f) (filter_text g) a b) in
    one_filter (filter_text f) f g (printed_filter f p.0 p.2) (subst (λ x. IsFilterText x g) same (printed_filter g q.0 q.2)) p.1 p.2

-- each is within the limits
within_each : (n : ℕ) (fs : List Filter) → AllByRecursion IsFilter fs → AreLow 32 fs → total leaves fs ≤ n → n ≤ 256 → AllByRecursion IsWithin fs
within_each n [] is low few small = tt
within_each n (f ∷ fs) is low few small = ((is.0, omega (arith, few, small), low.0), within_each n fs is.1 low.1 (omega (arith, few)) small)

-- so are the parts of the normal form of such a filter
parts_within : (b : Bool) (f : Filter) → IsWithin f → AllByRecursion IsWithin (parts_of b (normal_filter false f))
parts_within b f is =
    let form = normal_filter false f in
    let fewer = normal_leaves false f is.0 in
    let lower = normal_low false f in
    let few = is.1 in
    let low = is.2 in
    let sum = parts_leaves b form in
    within_each 256 (parts_of b form) (parts_filters b form (normal_is_filter false f is.0)) (parts_low b 32 form (omega (arith, lower, low))) (omega (arith, sum, fewer, few)) (omega arith)

pub one_normal_form : (b : Bool) (f g : Filter) → IsWithin f → IsWithin g → SameItems (forms b f) (forms b g) → normal_filter false f ≡ normal_filter false g
one_normal_form b f g p q = one_form IsWithin texts_tell b f g (parts_within b f p) (parts_within b g q)
