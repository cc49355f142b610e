-- A key is read from its text, and what is read has this text.
use Rattle.std.proofs.Common.{◌≡◌, ◌⊎◌, inl, inr, ℕ, ◌+◌, true, false, ◌==◌, nat_eq, nat_lt, List, [], ◌∷◌, ◌++◌, length, drop, Option, Some, None, Result, Ok, Err, IfOk, IsUtf8, refl, sym, ap, ap₂, ◌∙◌, arith, codes, append_assoc, length-append, take_at, drop_at}
use Rattle.std.proofs.lemmas.Bool.{ne_eqb, lt-ltb, le-ltb}
use Rattle.std.proofs.lemmas.List.Elements.{recursion_from_All}
use Rattle.std.proofs.lemmas.Slice.Eq.{bytes_eq-Decides}
use Rattle.std.proofs.lemmas.Str.{is_utf8-from_IsUtf8}
use Rattle.std.specs.Fmt.{decimal}
use Rattle.std.specs.List.{list_all, starts_with}
use Rattle.std.specs.Str.{bytes_eq, is_utf8}
use Rattle.q_base.specs.Name.{IsName, name_unless}
use Rattle.query_core.specs.declared.query.Query.{Query as AQuery}
use Rattle.query_core.specs.declared.query.Kind.{Kind}
use Rattle.query_core.specs.declared.query.Kind.TheVariants.{Objects, Ids}
use Rattle.query_core.specs.Limits.{IsQuery, IsUtf8Path}
use Rattle.query_core.specs.Print.{filter_text, order_text, print_query}
use Rattle.query_normal.specs.declared.key.KeyShape.{KeyShape}
use Rattle.query_normal.specs.declared.key.KeyShape.TheVariants.{Record, Query}
use Rattle.query_normal.specs.Keys.{key_text, kind_text, IsKey}
use Rattle.query_normal.specs.Normal.{normal_query}
use Rattle.query_normal.proofs.KeyTexts.{NoSlash, no_slash}
use Rattle.query_lang.specs.KeyTexts.{is_no_slash, parted, at_slash, at_semicolon, utf8_text, kind_of, accepted, ◌>>=◌, name_of, field_text, query_parts, query_of_parts, record_of_text, key_of_text, as_printed, read_key}
use Rattle.query_lang.specs.Queries.{read_texts, read_query}
use Rattle.query_lang.specs.QueryText.{no_kind}
use Rattle.query_lang.specs.declared.key_parts.Quoting.TheVariants.{Outside}
use Rattle.query_lang.specs.declared.query.Fields.{Fields}
use Rattle.query_lang.specs.declared.key_reader.KeyRefusal.{KeyRefusal}
use Rattle.query_lang.specs.declared.key_reader.KeyRefusal.TheVariants.{Memory}
use Rattle.query_lang.proofs.KeyPieces.{passes, part_len-ends, IsPiece, plain, piece-append, decimal_piece, filter_piece, order_piece}
use Rattle.query_lang.proofs.PrintedReading.{printed_query}
use Rattle.query_lang.proofs.Utf8Lemmas.{tested}
use Rattle.query_lang.proofs.WordSpelling.{prefix_len-run}

-- ---- parts of a text

parted_at : (xs rest : List ℕ) (b : ℕ) → parted (xs ++ b ∷ rest) (length xs) ≡ Some (xs, rest)
parted_at xs rest b =
    let within : nat_lt (length xs) (length (xs ++ b ∷ rest)) ≡ true = lt-ltb (length xs) (length (xs ++ b ∷ rest)) (omega (arith, length-append xs (b ∷ rest))) in
    let after : drop (length xs + 1) (xs ++ b ∷ rest) ≡ rest =
    ap (drop (length xs + 1)) (sym (append_assoc xs (b ∷ []) rest)) ∙ drop_at (xs ++ b ∷ []) rest (length xs + 1) (length-append xs (b ∷ [])) in
    rw within (ap₂ (λ (x y : List ℕ). Some (x, y)) (take_at xs (b ∷ rest) (length xs) refl) after)

no_slashes : (xs : List ℕ) → NoSlash xs → list_all is_no_slash xs ≡ true
no_slashes [] none = refl
no_slashes (x ∷ xs) none = let other = ne_eqb x 47 none.0 in rw other (no_slashes xs none.1)

slash_found : (xs rest : List ℕ) → list_all is_no_slash xs ≡ true → at_slash (xs ++ 47 ∷ rest) ≡ Some (xs, rest)
slash_found xs rest none = ap (parted (xs ++ 47 ∷ rest)) (prefix_len-run is_no_slash xs (47 ∷ rest) none refl) ∙ parted_at xs rest 47

semicolon_found : (xs rest : List ℕ) → passes Outside xs ≡ Some Outside → at_semicolon (xs ++ 59 ∷ rest) ≡ Some (xs, rest)
semicolon_found xs rest closed = ap (parted (xs ++ 59 ∷ rest)) (part_len-ends Outside xs rest closed) ∙ parted_at xs rest 59

name_found : (c : List ℕ) → IsName c → name_of c ≡ Some c
name_found c is =
    let zero : (length c == 0) ≡ false = let some = is.some in ne_eqb (length c) 0 (λ e. omega arith) in
    let few : nat_lt 64 (length c) ≡ false = let few = is.few in le-ltb 64 (length c) few in
    let good : name_unless c _ ≡ Ok c = ap (name_unless c) is.good in
    rw (zero, few) (ap accepted good)

-- what follows the sign of a field
field_found : (sign text : List ℕ) → starts_with nat_eq (sign ++ text) sign ≡ true → drop 2 (sign ++ text) ≡ text → IsUtf8 text → field_text sign (sign ++ text) ≡ Some text
field_found sign text begins after utf8 =
    let is : is_utf8 text ≡ true = is_utf8-from_IsUtf8 text utf8 in
    let found : utf8_text text ≡ Some text = rw is refl in
    rw begins (ap utf8_text after ∙ found)

-- continues with what was found
found_then : {A B : Type 0} (o : Option A) (a : A) (f : A → Option B) → o ≡ Some a → (o >>= f) ≡ f a
found_then {A = A} o a f e = ap (λ (x : Option A). x >>= f) e

-- ---- keys of queries

kind_found : (k : Kind) → kind_of (kind_text k) ≡ Some k
kind_found Objects = refl
kind_found Ids = refl

kind_no_slash : (k : Kind) → list_all is_no_slash (kind_text k) ≡ true
kind_no_slash Objects = refl
kind_no_slash Ids = refl

-- the four fields of a printed query, with the `;` between them
abbrev fields_text : List ℕ → List ℕ → List ℕ → List ℕ → List ℕ
fields_text f o s n = (codes "f=" ++ f) ++ 59 ∷ ((codes "o=" ++ o) ++ 59 ∷ ((codes "s=" ++ s) ++ 59 ∷ (codes "n=" ++ n)))

signed_closed : (sign text : List ℕ) → IsPiece sign → IsPiece text → passes Outside (sign ++ text) ≡ Some Outside
signed_closed sign text is piece = (piece-append sign text is piece).closed

parts_found : (c : List ℕ) (k : Kind) (f o s n : List ℕ) → list_all is_no_slash c ≡ true → IsPiece f → IsPiece o → IsPiece s → IsPiece n
    → query_parts (c ++ 47 ∷ (kind_text k ++ 47 ∷ fields_text f o s n)) ≡ Some (record { collection = c; kind = k; filter = f; order = o; skip = s; take_text = n })
unfolding query_parts
parts_found c k f o s n none pf po ps pn =
    let numbers = (codes "s=" ++ s) ++ 59 ∷ (codes "n=" ++ n) in
    let ordered = (codes "o=" ++ o) ++ 59 ∷ numbers in
    found_then _ _ _ (slash_found c (kind_text k ++ 47 ∷ fields_text f o s n) none)
    ∙ found_then _ _ _ (slash_found (kind_text k) (fields_text f o s n) (kind_no_slash k))
    ∙ found_then _ _ _ (kind_found k)
    ∙ found_then _ _ _ (semicolon_found (codes "f=" ++ f) ordered (signed_closed (codes "f=") f (plain (codes "f=") refl) pf))
    ∙ found_then _ _ _ (semicolon_found (codes "o=" ++ o) numbers (signed_closed (codes "o=") o (plain (codes "o=") refl) po))
    ∙ found_then _ _ _ (semicolon_found (codes "s=" ++ s) (codes "n=" ++ n) (signed_closed (codes "s=") s (plain (codes "s=") refl) ps))
    ∙ found_then _ _ _ (field_found (codes "f=") f refl refl pf.utf8)
    ∙ found_then _ _ _ (field_found (codes "o=") o refl refl po.utf8)
    ∙ found_then _ _ _ (field_found (codes "s=") s refl refl ps.utf8)
    ∙ found_then _ _ _ (field_found (codes "n=") n refl refl pn.utf8)

-- the texts of a printed query are read as it
texts_read : (q : AQuery) → IsQuery q → read_texts q.collection (filter_text q.filter) (order_text q.order) (decimal q.skip) (decimal q.take) [] ≡ Ok (q, Objects)
unfolding read_query
texts_read q is =
    let fields : Fields = record {
      f = Some (record { ref_ptr = (0, 0); now = filter_text q.filter });
      o = Some (record { ref_ptr = (0, 0); now = order_text q.order });
      s = Some (record { ref_ptr = (0, 0); now = decimal q.skip });
      n = Some (record { ref_ptr = (0, 0); now = decimal q.take });
      k = None;
    } in
    printed_query q Objects fields is (record { filter = refl; order = refl; skip = refl; take = refl; kind = no_kind refl })

-- the parts of a printed query are its key
query_found : (k : Kind) (q : AQuery) → IsName q.collection → IsQuery q
    → query_of_parts (record { collection = q.collection; kind = k; filter = filter_text q.filter; order = order_text q.order; skip = decimal q.skip; take_text = decimal q.take })
    ≡ Some (Query k (normal_query q))
unfolding query_of_parts
query_found k q name is =
    found_then _ _ _ (name_found q.collection name)
    ∙ found_then _ _ _ (ap accepted (texts_read q is))

-- ---- keys

-- a key that is printed so
printed_so : (key : KeyShape) → as_printed (key_text key) (Some key) ≡ Ok key
printed_so key = let same = (bytes_eq-Decides (key_text key) (key_text key)).1 refl in rw same refl

query_key : (k : Kind) (q : AQuery) → IsName q.collection → IsQuery q → key_of_text (key_text (Query k q)) ≡ Some (Query k (normal_query q))
unfolding key_of_text key_text
query_key k q name is =
    let fields = fields_text (filter_text q.filter) (order_text q.order) (decimal q.skip) (decimal q.take) in
    let printed : print_query q ≡ fields = simp append_assoc in
    let text = q.collection ++ codes "/" ++ kind_text k ++ codes "/" ++ print_query q in
    let grouped : text ≡ q.collection ++ 47 ∷ (kind_text k ++ 47 ∷ fields) =
    append_assoc ((q.collection ++ 47 ∷ []) ++ kind_text k) (47 ∷ []) (print_query q)
    ∙ append_assoc (q.collection ++ 47 ∷ []) (kind_text k) (47 ∷ print_query q)
    ∙ append_assoc q.collection (47 ∷ []) (kind_text k ++ 47 ∷ print_query q)
    ∙ ap (λ (x : List ℕ). q.collection ++ 47 ∷ (kind_text k ++ 47 ∷ x)) printed in
    let orders = recursion_from_All (λ p. IsUtf8Path p.0) q.order is.paths in
    let skip_small = is.skip_limit in
    let take_small = is.take_limit in
    ap (λ (x : List ℕ). query_parts x >>= query_of_parts) grouped
    ∙ found_then _ _ _ (parts_found q.collection k (filter_text q.filter) (order_text q.order) (decimal q.skip) (decimal q.take) (no_slashes q.collection (no_slash q.collection name))
    (filter_piece q.filter is.filter_is) (order_piece q.order orders) (decimal_piece q.skip (omega (arith, skip_small))) (decimal_piece q.take (omega (arith, take_small))))
    ∙ query_found k q name is

record_key : (c i : List ℕ) → IsName c → IsName i → key_of_text (key_text (Record c i)) ≡ Some (Record c i)
unfolding key_of_text key_text record_of_text
record_key c i collection id =
    ap (λ (x : List ℕ). record_of_text x) (append_assoc c (47 ∷ []) i)
    ∙ found_then _ _ _ (slash_found c i (no_slashes c (no_slash c collection)))
    ∙ found_then _ _ _ (name_found c collection)
    ∙ found_then _ _ _ (name_found i id)

-- a key is found in its text
key_found : (key : KeyShape) → IsKey key → key_of_text (key_text key) ≡ Some key
key_found (Record c i) is = record_key c i is.0 is.1
key_found (Query k q) is = query_key k q is.0 is.1.is_query ∙ ap (λ (r : AQuery). Some (Query k r)) is.1.itself

pub key_read : (key : KeyShape) → IsKey key → read_key (key_text key) ≡ Ok key
unfolding read_key
key_read key is = ap (as_printed (key_text key)) (key_found key is) ∙ printed_so key

printed_found : (text : List ℕ) (found : Option KeyShape) (key : KeyShape) → as_printed text found ≡ Ok key → key_text key ≡ text
printed_found text None key e = absurd (cc)
printed_found text (Some k) key e =
    elim (tested (bytes_eq (key_text k) text)) [
      | inl same ↦ (
          let ok : ◌≡◌ {A = Result KeyShape KeyRefusal} (Ok k) (Ok key) = rw same at e in
          let is : k ≡ key = cc in
          ap key_text (sym is) ∙ (bytes_eq-Decides (key_text k) text).0 same)
      | inr other ↦ absurd (let no = rw other at e in cc)
    ]

pub read_has_text : (text : List ℕ) (key : KeyShape) → read_key text ≡ Ok key → key_text key ≡ text
unfolding read_key
read_has_text text key e = printed_found text (key_of_text text) key e

pub texts_tell : (a b : KeyShape) → IsKey a → IsKey b → key_text a ≡ key_text b → a ≡ b
texts_tell a b p q e =
    let both : ◌≡◌ {A = Result KeyShape KeyRefusal} (Ok a) (Ok b) = sym (key_read a p) ∙ ap read_key e ∙ key_read b q in
    let same : a ≡ b = cc in same

-- ---- an answer of the code

abbrev Answers : List ℕ → Result KeyShape KeyRefusal → Type 0
Answers text r = (r ≡ Err Memory) ⊎ (r ≡ read_key text)

pub answer_has_text : (text : List ℕ) (r : Result KeyShape KeyRefusal) → Answers text r → IfOk r (λ key. key_text key ≡ text)
answer_has_text text (Ok key) (inl e) = absurd (cc)
answer_has_text text (Ok key) (inr e) = read_has_text text key (sym e)
answer_has_text text (Err e) a = tt

pub answer_only : (text : List ℕ) (r : Result KeyShape KeyRefusal) → Answers text r → (key : KeyShape) → IsKey key → key_text key ≡ text → (r ≡ Err Memory) ⊎ (r ≡ Ok key)
answer_only text r (inl e) key is same = inl e
answer_only text r (inr e) key is same = inr (e ∙ ap read_key (sym same) ∙ key_read key is)
