-- The members of a list, and the commits that they add.
use Rattle.std.proofs.Common.{◌≡◌, ℕ, ◌+◌, ◌<◌, ◌≤◌, zero, suc, Bool, true, false, List, [], ◌∷◌, ◌++◌, length, take, drop, get_or, map, filter, refl, sym, ◌∙◌, ap, arith, inl, inr, append_assoc, length-take}
use Rattle.std.proofs.lemmas.Bool.{lt-ltb, eqb-false, leb-true}
use Rattle.std.proofs.lemmas.List.{append-nil, take_more, drop_more, take_all, drop_all, take-append-le}
use Rattle.std.proofs.lemmas.List.Elements.{filter-append, filter_map-append}
use Rattle.std.proofs.lemmas.Grind.{flat_map-append}
use Rattle.std.specs.List.{onto_first, filter_map, flat_map}
use Rattle.std.specs.Prelude.{◌==◌, ◌&&◌, not, nat_lt, nat_le, Option, Some, None, Result, Ok, Err}
use Rattle.httparse.specs.Grammar.{trim_ows}
use Rattle.http_front.specs.declared.tags.TagRefusal.{TagRefusal}
use Rattle.http_message.specs.Fields.{values}
use Rattle.http_front.specs.Added.{Adds, pieces_behind}
use Rattle.http_front.specs.Answered.{Answers}
use Rattle.http_front.specs.Tags.{Tag, tag_of, tags_of, with_tag, commit_of, commit_by, commits_by, commits_in, members_of, pieces_from, parted_by, quotes}
use Rattle.http_front.specs.declared.tags.Comparison.{Comparison}
use Rattle.http_front.proofs.FieldLemmas.{values-nil}

-- the pieces with these bytes before them
abbrev pub prefixed : List ℕ → List (List ℕ) → List (List ℕ)
prefixed prefix [] = prefix ∷ []
prefixed prefix (piece ∷ pieces) = (prefix ++ piece) ∷ pieces

nil_onto : (byte : ℕ) (pieces : List (List ℕ)) → prefixed [] (onto_first byte pieces) ≡ onto_first byte pieces
nil_onto byte [] = refl
nil_onto byte (piece ∷ pieces) = refl

nil_parted : (separator : Bool) (byte : ℕ) (pieces : List (List ℕ)) → prefixed [] (parted_by separator byte pieces) ≡ parted_by separator byte pieces
nil_parted true byte pieces = refl
nil_parted false byte pieces = nil_onto byte pieces

-- nothing before pieces, of which there is one at least
pub prefixed-nil : (quoted : Bool) (bytes : List ℕ) → prefixed [] (pieces_from quoted bytes) ≡ pieces_from quoted bytes
prefixed-nil quoted [] = refl
prefixed-nil quoted (byte ∷ bytes) =
    nil_parted (not quoted && byte == 44) byte (pieces_from (quotes quoted byte) bytes)

-- one byte more before them
prefixed_onto : (prefix : List ℕ) (byte : ℕ) (pieces : List (List ℕ))
    → prefixed prefix (onto_first byte pieces) ≡ prefixed (prefix ++ byte ∷ []) pieces
prefixed_onto prefix byte [] = refl
prefixed_onto prefix byte (piece ∷ pieces) = ap (λ ys. ys ∷ pieces) (sym (append_assoc prefix (byte ∷ []) piece))

-- a byte that parts no pieces
pub passed : (list : List ℕ) (i byte : ℕ) (quoted : Bool) → i < length list → byte ≡ get_or list i 0
    → (not quoted && byte == 44) ≡ false
    → pieces_from false list ≡ prefixed (take i list) (pieces_from quoted (drop i list))
    → pieces_from false list ≡ prefixed (take (i + 1) list) (pieces_from (quotes quoted byte) (drop (i + 1) list))
passed list i byte quoted below is inside so_far =
    let here = drop_more list i 0 below in
    let prefix : take (i + 1) list ≡ take i list ++ byte ∷ [] = rw is (take_more list i 0 below) in
    so_far
    ∙ ap (λ ys. prefixed (take i list) (pieces_from quoted ys)) here
    ∙ rw (← is, inside, prefix) (prefixed_onto (take i list) byte (pieces_from (quotes quoted byte) (drop (i + 1) list)))

-- a comma that does
pub parted_here : (list : List ℕ) (i byte : ℕ) (quoted : Bool) → i < length list → byte ≡ get_or list i 0
    → byte ≡ 44 → quoted ≡ false
    → pieces_from false list ≡ prefixed (take i list) (pieces_from quoted (drop i list))
    → pieces_from false list ≡ take i list ∷ pieces_from false (drop (i + 1) list)
parted_here list i byte quoted below is comma out so_far =
    let here = drop_more list i 0 below in
    let code : get_or list i 0 ≡ 44 = sym is ∙ comma in
    so_far
    ∙ ap (λ ys. prefixed (take i list) (pieces_from quoted ys)) here
    ∙ rw (out, code) (ap (λ ys. ys ∷ pieces_from false (drop (i + 1) list)) (append-nil (take i list)))

-- the end of the list
pub parted_last : (list : List ℕ) (i : ℕ) (quoted : Bool) → length list ≤ i
    → pieces_from false list ≡ prefixed (take i list) (pieces_from quoted (drop i list))
    → pieces_from false list ≡ list ∷ []
parted_last list i quoted past so_far =
    so_far ∙ rw (take_all i list past, drop_all i list past) (ap (λ ys. ys ∷ []) (append-nil list))

-- the members of a list, of its first piece and the others
pub members_more : (list member : List ℕ) (behind : Option (List ℕ)) (others : List ℕ)
    → pieces_from false list ≡ member ∷ pieces_behind behind → behind ≡ Some others
    → members_of list ≡ filter (λ m. nat_lt 0 (length m)) (trim_ows member ∷ []) ++ members_of others
unfolding members_of
members_more list member behind others pieces is =
    rw (pieces, is) (filter-append (λ (m : List ℕ). nat_lt 0 (length m)) (trim_ows member ∷ []) (map trim_ows (pieces_from false others)))

pub members_last : (list member : List ℕ) (behind : Option (List ℕ))
    → pieces_from false list ≡ member ∷ pieces_behind behind → behind ≡ None
    → members_of list ≡ filter (λ m. nat_lt 0 (length m)) (trim_ows member ∷ [])
unfolding members_of
members_last list member behind pieces is = rw (pieces, is) refl

-- the tags of two lists of members
abbrev both : Option (List Tag) → Option (List Tag) → Option (List Tag)
both None tags = None
both (Some tags) None = None
both (Some tags) (Some others) = Some (tags ++ others)

both_nil : (tags : Option (List Tag)) → both (Some []) tags ≡ tags
both_nil None = refl
both_nil (Some tags) = refl

both_with : (tag : Option Tag) (tags others : Option (List Tag)) → with_tag tag (both tags others) ≡ both (with_tag tag tags) others
both_with None tags others = refl
both_with (Some tag) None others = refl
both_with (Some tag) (Some tags) None = refl
both_with (Some tag) (Some tags) (Some others) = refl

tags_of-append : (xs ys : List (List ℕ)) → tags_of (xs ++ ys) ≡ both (tags_of xs) (tags_of ys)
tags_of-append [] ys = sym (both_nil (tags_of ys))
tags_of-append (x ∷ xs) ys = ap (with_tag (tag_of x)) (tags_of-append xs ys) ∙ both_with (tag_of x) (tags_of xs) (tags_of ys)

-- what was taken of a list is taken of more
take_of_taken : (n : ℕ) (xs ys : List ℕ) → take n (take n xs ++ ys) ≡ take n (xs ++ ys)
take_of_taken zero xs ys = refl
take_of_taken (suc n) [] ys = refl
take_of_taken (suc n) (x ∷ xs) ys = ap (λ zs. x ∷ zs) (take_of_taken n xs ys)

one_value : (value : List ℕ) → flat_map members_of (value ∷ []) ≡ members_of value
one_value value = append-nil (members_of value)

-- Tags that are compared in one way.
module _ (comparison : Comparison) where
  adds_both : (tags others : Option (List Tag)) (old mid new : List ℕ) (result : Result (Unit {0}) TagRefusal)
      → Adds comparison tags old mid (Ok tt) → Adds comparison others mid new result → Adds comparison (both tags others) old new result
  adds_both None others old mid new result (inl e) second = absurd (cc)
  adds_both None others old mid new result (inr e) second = absurd (cc)
  adds_both (Some tags) others old mid new result (inl e) second = absurd (cc)
  adds_both (Some tags) None old mid new result (inr first) second = second
  adds_both (Some tags) (Some others) old mid new result (inr first) (inl e) = inl e
  adds_both (Some tags) (Some others) old mid new result (inr first) (inr second) =
      inr (second.0, second.1 ∙ rw (first.1, filter_map-append (commit_of comparison) tags others, ← append_assoc) (take_of_taken 16 (old ++ filter_map (commit_of comparison) tags) (filter_map (commit_of comparison) others)))

  -- first the commits of some members, and then those of others
  pub adds_more : (xs ys : List (List ℕ)) (old mid new : List ℕ) (result : Result (Unit {0}) TagRefusal)
      → Adds comparison (tags_of xs) old mid (Ok tt) → Adds comparison (tags_of ys) mid new result
      → Adds comparison (tags_of (xs ++ ys)) old new result
  adds_more xs ys old mid new result first second =
      rw (tags_of-append xs ys) (adds_both (tags_of xs) (tags_of ys) old mid new result first second)

  fails_both : (tags others : Option (List Tag)) (old mid : List ℕ) (refused : TagRefusal)
      → Adds comparison tags old mid (Err refused) → Adds comparison (both tags others) old mid (Err refused)
  fails_both None others old mid refused first = first
  fails_both (Some tags) None old mid refused (inl e) = inl e
  fails_both (Some tags) (Some others) old mid refused (inl e) = inl e
  fails_both (Some tags) others old mid refused (inr e) = absurd (cc)

  -- some members fail, and so do all
  pub fails_more : (xs ys : List (List ℕ)) (old mid : List ℕ) (refused : TagRefusal)
      → Adds comparison (tags_of xs) old mid (Err refused) → Adds comparison (tags_of (xs ++ ys)) old mid (Err refused)
  fails_more xs ys old mid refused first =
      rw (tags_of-append xs ys) (fails_both (tags_of xs) (tags_of ys) old mid refused first)

  -- no more than 16 are added
  pub adds_few : (tags : Option (List Tag)) (old new : List ℕ) → Adds comparison tags old new (Ok tt)
      → length new ≤ 16
  adds_few None old new (inl e) = absurd (cc)
  adds_few None old new (inr e) = absurd (cc)
  adds_few (Some tags) old new (inl e) = absurd (cc)
  adds_few (Some tags) old new (inr done) =
      rw done.1 (omega (arith, length-take 16 (old ++ filter_map (commit_of comparison) tags)))

  full_by : (tag : Option Tag) (commits : List ℕ) (commit : ℕ) → length commits ≡ 16
      → Ok (Some commit) ≡ commit_by comparison tag → Adds comparison (with_tag tag (Some [])) commits commits (Ok tt)
  full_by None commits commit full is = absurd (cc)
  full_by (Some tag) commits commit full is =
      inr (
        refl,
        sym (take-append-le 16 commits (filter_map (commit_of comparison) (tag ∷ [])) (omega arith)
            ∙ take_all 16 commits (omega arith)),
      )

  -- a commit beyond the 16th
  pub adds_full : (member commits : List ℕ) (commit : ℕ) → (length member == 0) ≡ false
      → nat_le 16 (length commits) ≡ true → length commits ≤ 16 → Ok (Some commit) ≡ commit_by comparison (tag_of member)
      → Adds comparison (tags_of (filter (λ m. nat_lt 0 (length m)) (member ∷ []))) commits commits (Ok tt)
  adds_full member commits commit some full few is =
      let long : nat_lt 0 (length member) ≡ true = lt-ltb 0 (length member) (omega (arith, eqb-false (length member) 0 some)) in
      let buffer : length commits ≡ 16 = omega (arith, leb-true 16 (length commits) full) in
      rw long (full_by (tag_of member) commits commit buffer is)

  -- the first member fails
  pub fails_list : (list member trimmed : List ℕ) (rest : Option (List ℕ)) (old new : List ℕ) (refused : TagRefusal)
      → pieces_from false list ≡ member ∷ pieces_behind rest → trimmed ≡ trim_ows member
      → Adds comparison (tags_of (filter (λ m. nat_lt 0 (length m)) (trimmed ∷ []))) old new (Err refused)
      → Adds comparison (tags_of (members_of list)) old new (Err refused)
  fails_list list member trimmed None old new refused pieces is fails =
      rw (members_last list member None pieces refl, ← is) fails
  fails_list list member trimmed (Some others) old new refused pieces is fails =
      rw (members_more list member (Some others) others pieces refl, ← is)
      (fails_more (filter (λ m. nat_lt 0 (length m)) (trimmed ∷ [])) (members_of others) old new refused fails)

  -- the last one is added
  pub adds_last : (list member trimmed : List ℕ) (rest : Option (List ℕ)) (old new : List ℕ)
      → pieces_from false list ≡ member ∷ pieces_behind rest → rest ≡ None → trimmed ≡ trim_ows member
      → Adds comparison (tags_of (filter (λ m. nat_lt 0 (length m)) (trimmed ∷ []))) old new (Ok tt)
      → Adds comparison (tags_of (members_of list)) old new (Ok tt)
  adds_last list member trimmed rest old new pieces none is adds =
      rw (members_last list member rest pieces none, ← is) adds

  -- one is added, and then the others
  pub adds_next : (list member trimmed others : List ℕ) (rest : Option (List ℕ)) (old mid new : List ℕ) (result : Result (Unit {0}) TagRefusal)
      → pieces_from false list ≡ member ∷ pieces_behind rest → rest ≡ Some others → trimmed ≡ trim_ows member
      → Adds comparison (tags_of (filter (λ m. nat_lt 0 (length m)) (trimmed ∷ []))) old mid (Ok tt)
      → Adds comparison (tags_of (members_of others)) mid new result
      → Adds comparison (tags_of (members_of list)) old new result
  adds_next list member trimmed others rest old mid new result pieces some is first second =
      rw (members_more list member rest others pieces some, ← is)
      (adds_more (filter (λ m. nat_lt 0 (length m)) (trimmed ∷ [])) (members_of others) old mid new result first second)

  -- no value
  pub adds_none : (name commits : List ℕ) → commits ≡ []
      → Adds comparison (tags_of (flat_map members_of (values name []))) [] commits (Ok tt)
  adds_none name commits is = rw (values-nil name) (inr (refl, is))

  -- one value more
  pub adds_value : (prefix more : List (List ℕ)) (value mid new : List ℕ) (result : Result (Unit {0}) TagRefusal)
      → more ≡ prefix ++ value ∷ []
      → Adds comparison (tags_of (flat_map members_of prefix)) [] mid (Ok tt)
      → Adds comparison (tags_of (members_of value)) mid new result
      → Adds comparison (tags_of (flat_map members_of more)) [] new result
  adds_value prefix more value mid new result is first second =
      rw (is, flat_map-append members_of prefix (value ∷ []), one_value value)
      (adds_more (flat_map members_of prefix) (members_of value) [] mid new result first second)

  -- no value more
  pub adds_same : (prefix more : List (List ℕ)) (commits : List ℕ) → more ≡ prefix ++ []
      → Adds comparison (tags_of (flat_map members_of prefix)) [] commits (Ok tt)
      → Adds comparison (tags_of (flat_map members_of more)) [] commits (Ok tt)
  adds_same prefix more commits is adds = rw (is ∙ append-nil prefix) adds

  answers_fails : (tags : Option (List Tag)) (new : List ℕ) (refused : TagRefusal)
      → Adds comparison tags [] new (Err refused) → Answers (commits_by comparison tags) (Err refused)
  answers_fails None new refused (inl e) = inl (cc)
  answers_fails None new refused (inr e) = inr (cc)
  answers_fails (Some tags) new refused (inl e) = inl (cc)
  answers_fails (Some tags) new refused (inr done) = absurd (cc)

  -- the values fail with the first ones
  pub fails_values : (prefix more all others : List (List ℕ)) (value mid new : List ℕ) (refused : TagRefusal)
      → more ≡ prefix ++ value ∷ [] → all ≡ more ++ others
      → Adds comparison (tags_of (flat_map members_of prefix)) [] mid (Ok tt)
      → Adds comparison (tags_of (members_of value)) mid new (Err refused)
      → Answers (commits_in comparison all) (Err refused)
  unfolding commits_in
  fails_values prefix more all others value mid new refused is whole first second =
      rw (whole, flat_map-append members_of more others)
      (answers_fails (tags_of (flat_map members_of more ++ flat_map members_of others)) new refused
      (fails_more (flat_map members_of more) (flat_map members_of others) [] new refused
      (adds_value prefix more value mid new (Err refused) is first second)))

  answers_done : (tags : Option (List Tag)) (commits : List ℕ)
      → Adds comparison tags [] commits (Ok tt) → Answers (commits_by comparison tags) (Ok commits)
  answers_done None commits (inl e) = absurd (cc)
  answers_done None commits (inr e) = absurd (cc)
  answers_done (Some tags) commits (inl e) = absurd (cc)
  answers_done (Some tags) commits (inr done) = inr (ap (λ c. Ok c) done.1)

  -- all values are added
  pub adds_all : (first all : List (List ℕ)) (commits : List ℕ) → first ≡ all
      → Adds comparison (tags_of (flat_map members_of first)) [] commits (Ok tt) → Answers (commits_in comparison all) (Ok commits)
  unfolding commits_in
  adds_all first all commits is adds =
      rw (← is) (answers_done (tags_of (flat_map members_of first)) commits adds)
