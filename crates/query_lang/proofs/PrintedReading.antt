-- A printed query is read again.
use Rattle.std.proofs.Common.{◌≡◌, ℕ, suc, ◌<◌, ◌≤◌, Bool, true, false, if◌then◌else◌, List, [], ◌∷◌, ◌++◌, length, map, Some, None, Ok, refl, sym, ap, ◌∙◌, subst, arith, codes, append_assoc, append-nil}
use Rattle.std.proofs.lemmas.List.{length-map}
use Rattle.std.proofs.lemmas.List.Elements.{recursion_from_All}
use Rattle.std.specs.List.{flat_map, AllByRecursion}
use Rattle.query_core.specs.Filters.{Filter, height}
use Rattle.query_core.specs.Limits.{IsQuery, IsUtf8Path, IsFilter}
use Rattle.query_core.specs.Print.{path_text, filter_text, order_item_text, order_text}
use Rattle.query_core.specs.Window.{Order}
use Rattle.query_core.specs.declared.query.Query.{Query}
use Rattle.query_core.specs.declared.query.Kind.{Kind}
use Rattle.query_lang.specs.declared.query.Fields.{Fields}
use Rattle.query_lang.specs.FilterText.{IsFilterText}
use Rattle.query_lang.specs.Grammar.{filter_tokens, path_tokens, Item, item_tokens, more_items, order_tokens, item_meaning, order_meaning, ItemsFit}
use Rattle.query_lang.specs.OrderText.{IsOrderText}
use Rattle.query_lang.specs.Printed.{IsPrinted}
use Rattle.query_lang.specs.Queries.{read_query}
use Rattle.query_lang.specs.QueryText.{IsFilterField, filter_text as field_filter, number_text}
use Rattle.query_lang.specs.Spelling.{Tokenizes}
use Rattle.query_lang.specs.Tokens.{Token, word, sign}
use Rattle.query_lang.specs.declared.token.Reserved.TheVariants.{Desc}
use Rattle.query_lang.specs.declared.token.Sign.TheVariants.{Comma}
use Rattle.query_lang.proofs.PrintedSpelling.{Stops, stops_before, stops_at, spell, space, Writes, regrouped, segment_of, path_writes, path_same, built, filter_right}
use Rattle.query_lang.proofs.QueryTextReading.{query_only}

-- a printed filter is a text of the grammar that means it
pub printed_filter : (f : Filter) → IsFilter f → height f ≤ 32 → IsFilterText (filter_text f) f
printed_filter f is low =
    let right = filter_right f is in
    record {
      tree = (built f).as_filter;
      tokenizes = subst (λ x. Tokenizes x (filter_tokens (built f).as_filter [])) (append-nil (filter_text f)) (right.whole_writes [] [] (record { no_word = refl; no_equals = refl }) refl);
      fits = right.whole_fits 0 (omega arith);
      means = right.whole_means;
    }

-- the item of a path and its direction; an ascending one has no word
abbrev item_of : List (List ℕ) → Bool → Item
item_of [] down = record { first = segment_of []; others = []; direction = None }
item_of (k ∷ ks) down = record { first = segment_of k; others = map segment_of ks; direction = if down then Some true else None }

abbrev items_of : Order → List Item
items_of [] = []
items_of (p ∷ ps) = item_of p.0 p.1 ∷ items_of ps

item_writes : (k : List ℕ) (ks : List (List ℕ)) (down : Bool) → Writes (order_item_text (k ∷ ks, down)) (item_tokens (item_of (k ∷ ks) down))
item_writes k ks true rest ts stops more =
    let same : (path_text (k ∷ ks) ++ codes " desc") ++ rest ≡ path_text (k ∷ ks) ++ (32 ∷ (codes "desc" ++ rest)) = append_assoc (path_text (k ∷ ks)) (codes " desc") rest in
    regrouped _ _ (path_tokens (segment_of k) (map segment_of ks) (word Desc ∷ ts)) same
    (path_writes k ks (32 ∷ (codes "desc" ++ rest)) (word Desc ∷ ts) (stops_at 32 _ refl refl)
    (space (codes "desc" ++ rest) (word Desc ∷ ts) (spell (word Desc) rest ts tt (stops_before (word Desc) rest stops) more)))
item_writes k ks false rest ts stops more =
    regrouped ((path_text (k ∷ ks) ++ []) ++ rest) (path_text (k ∷ ks) ++ rest) (path_tokens (segment_of k) (map segment_of ks) ts) (ap (λ x. x ++ rest) (append-nil (path_text (k ∷ ks))))
    (path_writes k ks rest ts stops more)

-- paths of an order
abbrev ArePaths : Order → Type 0
ArePaths = AllByRecursion (λ p. IsUtf8Path p.0)

one_item : (p : List (List ℕ)) (down : Bool) → IsUtf8Path p → Writes (order_item_text (p, down)) (item_tokens (item_of p down))
one_item [] down is = absurd (omega (arith, is.length_fits.0))
one_item (k ∷ ks) down is = item_writes k ks down

items_write : (ps : Order) → ArePaths ps → (rest : List ℕ) (ts : List Token) → Stops rest → Tokenizes rest ts
    → Tokenizes (flat_map (λ y. codes "," ++ order_item_text y) ps ++ rest) (more_items (items_of ps) ts) × Stops (flat_map (λ y. codes "," ++ order_item_text y) ps ++ rest)
items_write [] all rest ts stops more = (more, stops)
items_write (p ∷ ps) all rest ts stops more =
    let (tail, tail_stops) = items_write ps all.1 rest ts stops more in
    let after = flat_map (λ y. codes "," ++ order_item_text y) ps ++ rest in
    let tokens = more_items (items_of ps) ts in
    let same : (codes "," ++ order_item_text p ++ flat_map (λ y. codes "," ++ order_item_text y) ps) ++ rest ≡ 44 ∷ (order_item_text p ++ after) =
    ap (λ x. 44 ∷ x) (append_assoc (order_item_text p) (flat_map (λ y. codes "," ++ order_item_text y) ps) rest) in (
      regrouped _ _ (sign Comma ∷ item_tokens (item_of p.0 p.1) tokens) same
          (spell (sign Comma) (order_item_text p ++ after) (item_tokens (item_of p.0 p.1) tokens) tt refl (one_item p.0 p.1 all.0 after tokens tail_stops tail)),
      stops_at 44 _ refl refl,
    )

order_writes : (ps : Order) → ArePaths ps → Tokenizes (order_text ps) (order_tokens (items_of ps) [])
order_writes [] all = refl
order_writes (p ∷ ps) all =
    let (tail, stops) = items_write ps all.1 [] [] (record { no_word = refl; no_equals = refl }) refl in
    let rest = flat_map (λ y. codes "," ++ order_item_text y) ps in
    regrouped (order_item_text p ++ rest) (order_item_text p ++ (rest ++ [])) (item_tokens (item_of p.0 p.1) (more_items (items_of ps) [])) (ap (λ x. order_item_text p ++ x) (sym (append-nil rest)))
    (one_item p.0 p.1 all.0 (rest ++ []) (more_items (items_of ps) []) stops tail)

item_means : (p : List (List ℕ)) (down : Bool) → IsUtf8Path p → item_meaning (item_of p down) ≡ (p, down)
item_means [] down is = absurd (omega (arith, is.length_fits.0))
item_means (k ∷ ks) true is = ap (λ x. (x, true)) (path_same k ks)
item_means (k ∷ ks) false is = ap (λ x. (x, false)) (path_same k ks)

items_mean : (ps : Order) → ArePaths ps → order_meaning (items_of ps) ≡ ps
items_mean [] all = refl
items_mean (p ∷ ps) all = ap (λ x. x ∷ order_meaning (items_of ps)) (item_means p.0 p.1 all.0) ∙ ap (λ xs. p ∷ xs) (items_mean ps all.1)

fit : (p : List (List ℕ)) (down : Bool) → IsUtf8Path p → length (item_of p down).others < 8
fit [] down is = absurd (omega (arith, is.length_fits.0))
fit (k ∷ ks) down is = omega (arith, is.length_fits.1, length-map ks segment_of)

items_fit : (ps : Order) → ArePaths ps → ItemsFit (items_of ps)
items_fit [] all = tt
items_fit (p ∷ ps) all = (fit p.0 p.1 all.0, items_fit ps all.1)

items_len : (ps : Order) → length (items_of ps) ≡ length ps
items_len [] = refl
items_len (p ∷ ps) = ap suc (items_len ps)

-- a printed order is a text of the grammar that means it
pub printed_order : (ps : Order) → AllByRecursion (λ p. IsUtf8Path p.0) ps → length ps ≤ 4 → IsOrderText (order_text ps) ps
printed_order ps all few = record {
  items = items_of ps;
  tokenizes = order_writes ps all;
  few = omega (arith, items_len ps);
  fits = items_fit ps all;
  means = items_mean ps all;
}

-- the fields of a printed query are that query
pub printed_query : (q : Query) (k : Kind) (fields : Fields) → IsQuery q → IsPrinted fields q k → read_query q.collection fields ≡ Ok (q, k)
printed_query q k fields is printed = query_only q.collection fields q k (record {
  of_collection = refl;
  filter = subst (λ x. IsFilterField x q.filter) (sym printed.filter) (field_filter (printed_filter q.filter is.filter_is is.low) is.few_leaves is.low);
  order = subst (λ x. IsOrderText x q.order) (sym printed.order) (printed_order q.order (recursion_from_All (λ p. IsUtf8Path p.0) q.order is.paths) is.few_paths);
  skip = number_text printed.skip (omega arith) is.skip_limit;
  take = number_text printed.take is.take_some is.take_limit;
  kind = printed.kind;
})
