-- Which keys a match purges: whichever list of them, each once and in byte order of their texts, has the texts that are numbered.
use Rattle.std.proofs.Common.{◌≡◌, ℕ, suc, ◌+◌, ◌≤◌, Bool, true, false, cond, not, ◌&&◌, List, [], ◌∷◌, length, map, filter, sum_by, refl, sym, ap, ◌∙◌, arith}
use Rattle.std.specs.Prelude.{replicate}
use Rattle.std.specs.Cmp.{IsTotalOrder}
use Rattle.std.specs.Cmp.Lexicographic.{slice_cmp, nat_list_cmp_total}
use Rattle.std.specs.Ordering.{nat_cmp, is_lt, ordering_reverse}
use Rattle.std.specs.declared.cmp.Ordering.{Ordering}
use Rattle.std.specs.declared.cmp.Ordering.TheVariants.{Less, Equal, Greater}
use Rattle.std.specs.List.{list_any, AllByRecursion, IsDistinct}
use Rattle.std.specs.List.Sorted.{IsPermutation, IsSorted}
use Rattle.std.proofs.lemmas.Bool.{and_parts, not-true}
use Rattle.std.proofs.lemmas.Cmp.{on_total}
use Rattle.std.proofs.lemmas.List.Sorted.{sum_by-IsPermutation, sum_by_pushed, IsPermutation-map, IsPermutation-refl}
use Rattle.std.proofs.lemmas.Map.Lookups.{exact_bytes}
use Rattle.query_core.specs.Window.{in_order}
use Rattle.query_core.proofs.Rising.{tied, in_order_alike, sort_is_in_order, map-in_order}
use Rattle.query_normal.specs.declared.key.KeyShape.{KeyShape}
use Rattle.query_normal.specs.Keys.{key_text, same_key}
use Rattle.commit_book.specs.declared.change.Change.{Change}
use Rattle.hub_model.specs.Copies.{active_keys, is_active, live}
use Rattle.hub_model.specs.Later.{IsLater}
use Rattle.hub_model.specs.Outdated.{is_outdated}
use Rattle.hub_model.specs.Purge.{is_newly_outdated, is_purged, purged_keys, purged_texts}
use Rattle.hub_model.specs.Setting.{Setting}
use Rattle.hub_model.specs.State.{IssuedCopy, State}
use Rattle.hub_model.specs.Step.{has_matched}
use Rattle.hub_model.proofs.Copies.{copy-parts, live-parts}
use Rattle.hub_model.proofs.KeySets.{among-filter, distinct-filter, same_keys-permute}
use Rattle.hub_model.proofs.Covered.{is_outdated-later}
use Rattle.hub_model.proofs.Recorded.{among-active, distinct-active, is_outdated-append, test-from_active}

-- ---- texts in byte order

abbrev text_cmp : List ℕ → List ℕ → Ordering
text_cmp = slice_cmp nat_cmp

equal_from : (o p : Ordering) → p ≡ ordering_reverse o → is_lt o ≡ false → is_lt p ≡ false → o ≡ Equal
equal_from Less p e h k = absurd (cc)
equal_from Equal p e h k = refl
equal_from Greater p e h k = absurd (let m : is_lt p ≡ true = ap is_lt e in cc)

-- texts that tie are equal
tied_same : (a b : List ℕ) → tied text_cmp nat_list_cmp_total a b ≡ true → a ≡ b
tied_same a b h =
    let parts = and_parts (not (is_lt (text_cmp a b))) (not (is_lt (text_cmp b a))) h in
    exact_bytes a b (equal_from (text_cmp a b) (text_cmp b a) (nat_list_cmp_total.antisymm b a) (not-true (is_lt (text_cmp a b)) parts.0) (not-true (is_lt (text_cmp b a)) parts.1))

-- whether a text is in a list at a place, as a number
abbrev times : List ℕ → List ℕ → ℕ
times z x = cond (tied text_cmp nat_list_cmp_total z x) 1 0

ties-repeat : (z : List ℕ) (xs : List (List ℕ)) → filter (tied text_cmp nat_list_cmp_total z) xs ≡ replicate (sum_by (times z) xs) z
ties-repeat z [] = refl
ties-repeat z (x ∷ xs) = by (tied text_cmp nat_list_cmp_total z x) refl (ties-repeat z xs) ∙ ap (λ (n : ℕ). replicate n z) (sym (sum_by_pushed (times z) x xs (x ∷ xs) (IsPermutation-refl (x ∷ xs))))
  where
    by : (b : Bool) → tied text_cmp nat_list_cmp_total z x ≡ b → filter (tied text_cmp nat_list_cmp_total z) xs ≡ replicate (sum_by (times z) xs) z
        → cond b (x ∷ filter (tied text_cmp nat_list_cmp_total z) xs) (filter (tied text_cmp nat_list_cmp_total z) xs) ≡ replicate (cond b 1 0 + sum_by (times z) xs) z
    by true same rest = ap (λ (l : List (List ℕ)). x ∷ l) rest ∙ ap (λ (t : List ℕ). t ∷ replicate (sum_by (times z) xs) z) (sym (tied_same z x same)) ∙ (let size : suc (sum_by (times z) xs) ≡ 1 + sum_by (times z) xs = omega arith in ap (λ (n : ℕ). replicate n z) size)
    by false other rest = rest ∙ (let size : sum_by (times z) xs ≡ 0 + sum_by (times z) xs = omega arith in ap (λ (n : ℕ). replicate n z) size)

-- a permutation of texts comes to the same order
texts-alike : (xs ys : List (List ℕ)) → IsPermutation xs ys → in_order text_cmp xs ≡ in_order text_cmp ys
texts-alike xs ys p = in_order_alike text_cmp nat_list_cmp_total xs ys (λ z. ties-repeat z xs ∙ ap (λ (n : ℕ). replicate n z) (sym (sum_by-IsPermutation (times z) xs ys p)) ∙ sym (ties-repeat z ys))

-- ---- keys by their texts

abbrev key_cmp : KeyShape → KeyShape → Ordering
key_cmp a b = text_cmp (key_text a) (key_text b)

key_total : IsTotalOrder key_cmp
key_total = on_total key_text nat_list_cmp_total

-- keys in byte order of their texts have these in order
sorted-texts : (keys : List KeyShape) → IsSorted key_cmp keys → map key_text keys ≡ in_order text_cmp (map key_text keys)
sorted-texts keys up =
    ap (map key_text) (sort_is_in_order key_cmp key_total keys keys up (λ z. refl))
    ∙ map-in_order key_text key_cmp text_cmp (λ key. Unit {0}) (λ a b p q. refl) keys (all keys)
  where
    all : (ks : List KeyShape) → AllByRecursion (λ key. Unit {0}) ks
    all [] = tt
    all (k ∷ ks) = (tt, all ks)

-- ---- the purged keys

-- a purged key is active
pub purged-active : (s : State) (to : ℕ) (key : KeyShape) → is_purged s to key ≡ true → is_active s key ≡ true
purged-active s to key h =
    let f = copy-parts key (is_newly_outdated s to) (live s) h in
    let l = live-parts s f.0 f.1 in
    test-from_active s key (record { copy = f.0; among = l.0; key_is = f.2; issued = l.1; unexpired = l.2 })

both_by : (a b : Bool) → (b ≡ true → a ≡ true) → (a && b) ≡ b
both_by true b h = refl
both_by false true h = h refl
both_by false false h = refl

pub among-purged : (s : State) (to : ℕ) (key : KeyShape) → list_any (same_key key) (purged_keys s to) ≡ is_purged s to key
among-purged s to key = among-filter (is_purged s to) (active_keys s) key ∙ ap (λ (b : Bool). b && is_purged s to key) (among-active s key) ∙ both_by (is_active s key) (is_purged s to key) (purged-active s to key)

distinct-purged : (s : State) (to : ℕ) → IsDistinct same_key (purged_keys s to)
distinct-purged s to = distinct-filter (is_purged s to) (active_keys s) (distinct-active s)

-- any list of them, each once and in byte order of the texts, has these texts
pub purged-texts : (s : State) (to : ℕ) (keys : List KeyShape) → IsDistinct same_key keys → ((key : KeyShape) → list_any (same_key key) keys ≡ is_purged s to key) → IsSorted key_cmp keys → map key_text keys ≡ purged_texts s to
purged-texts s to keys once each up =
    sorted-texts keys up
    ∙ texts-alike (map key_text keys) (map key_text (purged_keys s to))
    (IsPermutation-map key_text keys (purged_keys s to) (same_keys-permute keys (purged_keys s to) once (distinct-purged s to) (λ key. each key ∙ sym (among-purged s to key))))

-- a copy that a match outdates is so at each later front
pub purged-once : (g : Setting) (s t : State) (to later : ℕ) (r : IssuedCopy) → to ≤ length s.journal → IsLater (has_matched g to s) t → is_newly_outdated s to r ≡ true → is_newly_outdated t later r ≡ false
purged-once g s t to later r within is h =
    let was : is_outdated r.key r.at s.journal to ≡ true = (and_parts (not (is_outdated r.key r.at s.journal s.front)) (is_outdated r.key r.at s.journal to) h).1 in
    let there : is_outdated r.key r.at t.journal to ≡ true = ap (λ (l : List Change). is_outdated r.key r.at l to) is.journal ∙ is_outdated-append r.key r.at s.journal is.commits to within ∙ was in
    let now : is_outdated r.key r.at t.journal t.front ≡ true = is_outdated-later r.key r.at t.journal to t.front is.front there in
    ap (λ (b : Bool). not b && is_outdated r.key r.at t.journal later) now
