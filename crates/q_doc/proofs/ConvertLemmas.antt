-- A conversion that goes on from what it has: one more element, a refused one, and the end.
use Rattle.std.proofs.Common.{◌≡◌, ℕ, inl, inr, List, [], ◌∷◌, ◌++◌, Option, Some, None, option_map, option_and_then, refl, ap, ◌∙◌}
use Rattle.std.specs.Str.{IsUtf8}
use Rattle.serde_json.specs.Data as json
use Rattle.q_doc.specs.Tree.{Tree, Items, no_items, item, Members, no_members, member, items_of, members_of}
use Rattle.q_doc.specs.Document.{HasTexts, ItemsHaveTexts, MembersHaveTexts}
use Rattle.q_doc.specs.Found.{whole}
use Rattle.q_doc.specs.Judged.{FailsToConvert}
use Rattle.q_doc.specs.declared.refusal.DocRefusal.{DocRefusal}

-- ---- elements

-- these elements, and then the others
abbrev pub items_before : List Tree → Items → Items
items_before [] rest = rest
items_before (t ∷ ts) rest = item t (items_before ts rest)

items_before-no_items : (ts : List Tree) → items_before ts no_items ≡ items_of ts
items_before-no_items [] = refl
items_before-no_items (t ∷ ts) = ap (item t) (items_before-no_items ts)

items_before-item : (ts : List Tree) (t : Tree) (rest : Items) → items_before ts (item t rest) ≡ items_before (ts ++ t ∷ []) rest
items_before-item [] t rest = refl
items_before-item (u ∷ ts) t rest = ap (item u) (items_before-item ts t rest)

pub one_more_item : (ts : List Tree) (t : Tree) (d : json.Data) (rest : Option Items) → whole d ≡ Some t
    → option_map (items_before ts) (option_and_then (λ u. option_map (item u) rest) (whole d)) ≡ option_map (items_before (ts ++ t ∷ [])) rest
one_more_item ts t d None e = rw e
one_more_item ts t d (Some us) e = rw e (ap Some (items_before-item ts t us))

pub items_done : (ts : List Tree) (o : Option Items) → o ≡ option_map (items_before ts) (Some no_items) → o ≡ Some (items_of ts)
items_done ts o e = e ∙ ap Some (items_before-no_items ts)

pub ItemsHaveTexts-push : (ts : List Tree) (t : Tree) → ItemsHaveTexts (items_of ts) → HasTexts t → ItemsHaveTexts (items_of (ts ++ t ∷ []))
ItemsHaveTexts-push [] t h g = (g, tt)
ItemsHaveTexts-push (u ∷ ts) t h g = (h.0, ItemsHaveTexts-push ts t h.1 g)

-- ---- members

-- these members, and then the others
abbrev pub members_before : List (List ℕ × Tree) → Members → Members
members_before [] rest = rest
members_before (m ∷ ms) rest = member m.0 m.1 (members_before ms rest)

members_before-no_members : (ms : List (List ℕ × Tree)) → members_before ms no_members ≡ members_of ms
members_before-no_members [] = refl
members_before-no_members (m ∷ ms) = ap (member m.0 m.1) (members_before-no_members ms)

members_before-member : (ms : List (List ℕ × Tree)) (k : List ℕ) (t : Tree) (rest : Members) → members_before ms (member k t rest) ≡ members_before (ms ++ (k, t) ∷ []) rest
members_before-member [] k t rest = refl
members_before-member (m ∷ ms) k t rest = ap (member m.0 m.1) (members_before-member ms k t rest)

pub one_more_member : (ms : List (List ℕ × Tree)) (k : List ℕ) (t : Tree) (d : json.Data) (rest : Option Members) → whole d ≡ Some t
    → option_map (members_before ms) (option_and_then (λ u. option_map (member k u) rest) (whole d)) ≡ option_map (members_before (ms ++ (k, t) ∷ [])) rest
one_more_member ms k t d None e = rw e
one_more_member ms k t d (Some us) e = rw e (ap Some (members_before-member ms k t us))

pub members_done : (ms : List (List ℕ × Tree)) (o : Option Members) → o ≡ option_map (members_before ms) (Some no_members) → o ≡ Some (members_of ms)
members_done ms o e = e ∙ ap Some (members_before-no_members ms)

pub MembersHaveTexts-push : (ms : List (List ℕ × Tree)) (k : List ℕ) (t : Tree) → MembersHaveTexts (members_of ms) → IsUtf8 k → HasTexts t
    → MembersHaveTexts (members_of (ms ++ (k, t) ∷ []))
MembersHaveTexts-push [] k t h u g = (u, g, tt)
MembersHaveTexts-push (m ∷ ms) k t h u g = (h.0, h.1, MembersHaveTexts-push ms k t h.2 u g)

-- ---- a part that is refused refuses the whole

pub refused_part : {A B : Type 0} (d : json.Data) (o : Option B) (f : A → B) (g : Tree → Option A) (refusal : DocRefusal) → o ≡ option_map f (option_and_then g (whole d))
    → FailsToConvert (whole d) refusal → FailsToConvert o refusal
refused_part d o f g refusal e (inl memory) = inl memory
refused_part d o f g refusal e (inr none) = inr (none.0, e ∙ ap (λ r. option_map f (option_and_then g r)) none.1)
