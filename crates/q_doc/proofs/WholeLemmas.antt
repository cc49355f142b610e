-- A tree and its JSON value: each gives the other, with the same depth, order of keys and bounds of numbers.
use Rattle.std.proofs.Common.{◌≡◌, ℕ, suc, max, ◌^◌, ◌≤◌, ℤ, pos, negsuc, List, Bool, true, false, cond, nat_lt, Some, None, option_map, option_and_then, refl, sym, ap, ap₂, ◌∙◌, subst, arith, ltb-true, lt-ltb}
use Rattle.std.specs.Prelude.{unwrap_or, is_some}
use Rattle.serde_json.specs.Data as json
use Rattle.serde_json.specs.Data.{Num, unsigned, negative, float}
use Rattle.serde_json.specs.Find.{as_i64, as_object, of_integer}
use Rattle.q_doc.specs.Tree.{Tree, null, boolean, number, text, array, object, Items, no_items, item, Members, no_members, member, is_object, depth, items_depth, members_depth}
use Rattle.q_doc.specs.Document.{FitsI64, PrecedesMembers, IsValue, AreValues, AreMembers, IsPlainDocument}
use Rattle.q_doc.specs.Found.{whole, whole_items, whole_members}
use Rattle.q_doc.specs.Printed.{data_of, items_data, members_data}
use Rattle.q_doc.specs.Limits.{deepest_document}
use Rattle.q_doc.proofs.ReadData.{of_option_map, of_and_then, NumberFits, Precedes, IsRead, ItemsAreRead, MembersAreRead}

-- ---- from a JSON value to its tree

whole_number : (n : ℕ) (z : ℤ) (b : Bool) → nat_lt n (2 ^ 63) ≡ b → cond b (Some (pos n)) None ≡ Some z → FitsI64 z
whole_number n z true test e = let same : pos n ≡ z = cc in subst FitsI64 same (ltb-true _ _ test)
whole_number n z false test e = absurd (cc)

number_value : (n : Num) (z : ℤ) → NumberFits n → as_i64 n ≡ Some z → FitsI64 z
number_value (unsigned n) z h e = whole_number n z _ refl e
number_value (negative y) z h e = subst FitsI64 (ap (λ o. unwrap_or o z) e) h
number_value (float x) z h e = absurd (cc)

precedes_whole : (k : List ℕ) (ms : json.Members) (ts : Members) → whole_members ms ≡ Some ts → Precedes k ms → PrecedesMembers k ts
precedes_whole k json.no_members ts e h = subst (PrecedesMembers k) (ap (λ o. unwrap_or o ts) e) tt
precedes_whole k (json.member l d ms) ts e h =
    let first = of_and_then (λ t. option_map (member l t) (whole_members ms)) (whole d) ts e in
    let rest = of_option_map (member l first.0) (whole_members ms) ts first.2 in
    subst (PrecedesMembers k) rest.2 h

mutual
  pub value_whole : (d : json.Data) (t : Tree) → IsRead d → whole d ≡ Some t → IsValue t
  value_whole json.null t h e = subst IsValue (ap (λ o. unwrap_or o t) e) tt
  value_whole (json.boolean b) t h e = subst IsValue (ap (λ o. unwrap_or o t) e) tt
  value_whole (json.number n) t h e = let z = of_option_map number (as_i64 n) t e in subst IsValue z.2 (number_value n z.0 h z.1)
  value_whole (json.string s) t h e = subst IsValue (ap (λ o. unwrap_or o t) e) tt
  value_whole (json.array ds) t h e = let ts = of_option_map array (whole_items ds) t e in subst IsValue ts.2 (values_whole ds ts.0 h ts.1)
  value_whole (json.object ms) t h e = let ts = of_option_map object (whole_members ms) t e in subst IsValue ts.2 (members_whole ms ts.0 h ts.1)

  values_whole : (ds : json.Items) (ts : Items) → ItemsAreRead ds → whole_items ds ≡ Some ts → AreValues ts
  values_whole json.no_items ts h e = subst AreValues (ap (λ o. unwrap_or o ts) e) tt
  values_whole (json.item d ds) ts h e =
      let first = of_and_then (λ t. option_map (item t) (whole_items ds)) (whole d) ts e in
      let rest = of_option_map (item first.0) (whole_items ds) ts first.2 in
      subst AreValues rest.2 (value_whole d first.0 h.0 first.1, values_whole ds rest.0 h.1 rest.1)

  pub members_whole : (ms : json.Members) (ts : Members) → MembersAreRead ms → whole_members ms ≡ Some ts → AreMembers ts
  members_whole json.no_members ts h e = subst AreMembers (ap (λ o. unwrap_or o ts) e) tt
  members_whole (json.member k d ms) ts h e =
      let first = of_and_then (λ t. option_map (member k t) (whole_members ms)) (whole d) ts e in
      let rest = of_option_map (member k first.0) (whole_members ms) ts first.2 in
      subst AreMembers rest.2 (precedes_whole k ms rest.0 rest.1 h.0, value_whole d first.0 h.1 first.1, members_whole ms rest.0 h.2 rest.1)

mutual
  pub depth_whole : (d : json.Data) (t : Tree) → whole d ≡ Some t → json.depth d ≡ depth t
  depth_whole json.null t e = ap (λ o. depth (unwrap_or o t)) e
  depth_whole (json.boolean b) t e = ap (λ o. depth (unwrap_or o t)) e
  depth_whole (json.number n) t e = let z = of_option_map number (as_i64 n) t e in ap depth z.2
  depth_whole (json.string s) t e = ap (λ o. depth (unwrap_or o t)) e
  depth_whole (json.array ds) t e = let ts = of_option_map array (whole_items ds) t e in ap suc (items_depth_whole ds ts.0 ts.1) ∙ ap depth ts.2
  depth_whole (json.object ms) t e = let ts = of_option_map object (whole_members ms) t e in ap suc (members_depth_whole ms ts.0 ts.1) ∙ ap depth ts.2

  items_depth_whole : (ds : json.Items) (ts : Items) → whole_items ds ≡ Some ts → json.items_depth ds ≡ items_depth ts
  items_depth_whole json.no_items ts e = ap (λ o. items_depth (unwrap_or o ts)) e
  items_depth_whole (json.item d ds) ts e =
      let first = of_and_then (λ t. option_map (item t) (whole_items ds)) (whole d) ts e in
      let rest = of_option_map (item first.0) (whole_items ds) ts first.2 in
      ap₂ max (depth_whole d first.0 first.1) (items_depth_whole ds rest.0 rest.1) ∙ ap items_depth rest.2

  members_depth_whole : (ms : json.Members) (ts : Members) → whole_members ms ≡ Some ts → json.members_depth ms ≡ members_depth ts
  members_depth_whole json.no_members ts e = ap (λ o. members_depth (unwrap_or o ts)) e
  members_depth_whole (json.member k d ms) ts e =
      let first = of_and_then (λ t. option_map (member k t) (whole_members ms)) (whole d) ts e in
      let rest = of_option_map (member k first.0) (whole_members ms) ts first.2 in
      ap₂ max (depth_whole d first.0 first.1) (members_depth_whole ms rest.0 rest.1) ∙ ap members_depth rest.2

object_whole : (d : json.Data) (t : Tree) → is_some (as_object d) ≡ true → whole d ≡ Some t → is_object t ≡ true
object_whole json.null t h e = absurd (cc)
object_whole (json.boolean b) t h e = absurd (cc)
object_whole (json.number n) t h e = absurd (cc)
object_whole (json.string s) t h e = absurd (cc)
object_whole (json.array ds) t h e = absurd (cc)
object_whole (json.object ms) t h e = let ts = of_option_map object (whole_members ms) t e in ap is_object (sym ts.2)

-- an object that was read, is not too deep and has whole numbers is a document
pub document_whole : (d : json.Data) (t : Tree) → IsRead d → whole d ≡ Some t → is_some (as_object d) ≡ true → json.depth d ≤ deepest_document → IsPlainDocument t
document_whole d t h e is_an_object shallow = record {
  object = object_whole d t is_an_object e;
  depth = omega (arith, depth_whole d t e);
  value = value_whole d t h e;
}

-- ---- from a tree to its JSON value, and back

as_i64-of_integer : (z : ℤ) → FitsI64 z → as_i64 (of_integer z) ≡ Some z
as_i64-of_integer (pos n) h = rw (lt-ltb _ _ h)
as_i64-of_integer (negsuc n) h = refl

mutual
  -- the tree of a tree's JSON value is the tree
  pub whole-data_of : (t : Tree) → IsValue t → whole (data_of t) ≡ Some t
  whole-data_of null h = refl
  whole-data_of (boolean b) h = refl
  whole-data_of (number z) h = ap (option_map number) (as_i64-of_integer z h)
  whole-data_of (text s) h = refl
  whole-data_of (array ts) h = ap (option_map array) (whole-items_data ts h)
  whole-data_of (object ms) h = ap (option_map object) (whole-members_data ms h)

  whole-items_data : (ts : Items) → AreValues ts → whole_items (items_data ts) ≡ Some ts
  whole-items_data no_items h = refl
  whole-items_data (item t ts) h =
      ap (option_and_then (λ u. option_map (item u) (whole_items (items_data ts)))) (whole-data_of t h.0) ∙ ap (option_map (item t)) (whole-items_data ts h.1)

  whole-members_data : (ms : Members) → AreMembers ms → whole_members (members_data ms) ≡ Some ms
  whole-members_data no_members h = refl
  whole-members_data (member k t ms) h =
      ap (option_and_then (λ u. option_map (member k u) (whole_members (members_data ms)))) (whole-data_of t h.1) ∙ ap (option_map (member k t)) (whole-members_data ms h.2)

mutual
  -- a tree's JSON value is as deep as the tree
  pub depth-data_of : (t : Tree) → json.depth (data_of t) ≡ depth t
  depth-data_of null = refl
  depth-data_of (boolean b) = refl
  depth-data_of (number z) = refl
  depth-data_of (text s) = refl
  depth-data_of (array ts) = ap suc (depth-items_data ts)
  depth-data_of (object ms) = ap suc (depth-members_data ms)

  depth-items_data : (ts : Items) → json.items_depth (items_data ts) ≡ items_depth ts
  depth-items_data no_items = refl
  depth-items_data (item t ts) = ap₂ max (depth-data_of t) (depth-items_data ts)

  depth-members_data : (ms : Members) → json.members_depth (members_data ms) ≡ members_depth ms
  depth-members_data no_members = refl
  depth-members_data (member k t ms) = ap₂ max (depth-data_of t) (depth-members_data ms)
