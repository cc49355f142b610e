-- The directives that the pieces of a list are.
use Rattle.std.proofs.Common.{◌≡◌, ℕ, List, [], ◌∷◌, ◌++◌, ◌||◌, map, filter, true, false, refl, sym, ◌∙◌, ap, inl, inr}
use Rattle.std.proofs.lemmas.Bool.{cases_Bool}
use Rattle.std.proofs.lemmas.List.{map-append}
use Rattle.std.specs.List.{flat_map, list_any}
use Rattle.std.specs.Prelude.{Option, Some, None, codes}
use Rattle.httparse.specs.Grammar.{trim_ows}
use Rattle.http_message.specs.Fields.{Pair, is_named, pieces_between, values}
use Rattle.client_wire.specs.ReplyFields.{directives, first_seconds, is_no_store, lifetime_by, or_else, seconds_in}
use Rattle.client_wire.specs.Values.{no_directives, with_one, with_all, with_field}
use Rattle.client_wire.specs.declared.lifetime.Directives.{Directives}

-- the directives of a list are read from the first on
pub list_first : (found : Directives) (bytes piece others : List ℕ)
    → pieces_between 44 bytes ≡ piece ∷ pieces_between 44 others
    → with_all found (map trim_ows (pieces_between 44 bytes))
    ≡ with_all (with_one found (trim_ows piece)) (map trim_ows (pieces_between 44 others))
list_first found bytes piece others parted = ap (λ ps. with_all found (map trim_ows ps)) parted

pub list_only : (found : Directives) (bytes : List ℕ) → pieces_between 44 bytes ≡ bytes ∷ []
    → with_all found (map trim_ows (pieces_between 44 bytes)) ≡ with_one found (trim_ows bytes)
list_only found bytes parted = ap (λ ps. with_all found (map trim_ows ps)) parted

-- more directives after some
with_more : (found : Directives) (first others : List (List ℕ))
    → with_all found (first ++ others) ≡ with_all (with_all found first) others
with_more found [] others = refl
with_more found (d ∷ first) others = with_more (with_one found d) first others

-- a field more
pub field_read : (found : Directives) (pair : Pair) (pairs : List Pair)
    → with_all found (directives (pair ∷ pairs)) ≡ with_all (with_field found pair) (directives pairs)
unfolding directives values
field_read found pair pairs =
    let rest : List (List ℕ) = map (λ (p : Pair). p.1) (filter (is_named (codes "cache-control")) pairs) in
    elim (cases_Bool (is_named (codes "cache-control") pair)) [
      | inl named ↦
          rw named
          (ap (with_all found) (map-append trim_ows (pieces_between 44 pair.1) (flat_map (pieces_between 44) rest))
          ∙ with_more found (map trim_ows (pieces_between 44 pair.1)) (map trim_ows (flat_map (pieces_between 44) rest)))
      | inr other ↦ rw other refl
    ]

pub no_field : (found : Directives) → with_all found (directives []) ≡ found
unfolding directives values
no_field found = refl

-- what was read of all of them
read_stores : (found : Directives) (ds : List (List ℕ))
    → (with_all found ds).no_store ≡ (found.no_store || list_any is_no_store ds)
read_stores found [] = elim (cases_Bool found.no_store) [ inl e ↦ rw e refl | inr e ↦ rw e refl ]
read_stores found (d ∷ ds) =
    read_stores (with_one found d) ds
    ∙ (elim (cases_Bool found.no_store) [
      | inl e ↦ rw e refl
      | inr e ↦ rw e (elim (cases_Bool (is_no_store d)) [ inl s ↦ rw s refl | inr s ↦ rw s refl ])
    ])

or_else_none : (o : Option ℕ) → or_else o None ≡ o
or_else_none None = refl
or_else_none (Some n) = refl

or_else_both : (a b c : Option ℕ) → or_else (or_else a b) c ≡ or_else a (or_else b c)
or_else_both None b c = refl
or_else_both (Some n) b c = refl

read_seconds : (found : Directives) (ds : List (List ℕ)) → (with_all found ds).seconds ≡ or_else found.seconds (first_seconds ds)
read_seconds found [] = sym (or_else_none found.seconds)
read_seconds found (d ∷ ds) = read_seconds (with_one found d) ds ∙ or_else_both found.seconds (seconds_in d) (first_seconds ds)

-- the lifetime by what was read
pub lifetime_none : (all : Directives) (ds : List (List ℕ)) → with_all no_directives ds ≡ all → all.no_store ≡ true → lifetime_by ds ≡ None
lifetime_none all ds read stores =
    let e : list_any is_no_store ds ≡ true =
    sym (read_stores no_directives ds) ∙ ap (λ (d : Directives). d.no_store) read ∙ stores in
    rw e refl

pub lifetime_some : (all : Directives) (ds : List (List ℕ)) → with_all no_directives ds ≡ all → all.no_store ≡ false
    → lifetime_by ds ≡ all.seconds
lifetime_some all ds read stores =
    let e : list_any is_no_store ds ≡ false =
    sym (read_stores no_directives ds) ∙ ap (λ (d : Directives). d.no_store) read ∙ stores in
    rw e (sym (read_seconds no_directives ds) ∙ ap (λ (d : Directives). d.seconds) read)
