-- Items and their ends; lists of exchanges that grow by one.
use Rattle.std.proofs.Common.{◌≡◌, ◌⊎◌, ℕ, suc, ◌+◌, ◌<◌, ◌++◌, Bool, true, false, not, ◌&&◌, ◌||◌, List, [], ◌∷◌, length, map, All, Option, Some, None, refl, sym, ap, ◌∙◌, subst, inl, inr, arith, append-nil, append_assoc, length-append}
use Rattle.std.specs.List.{flat_map}
use Rattle.std.specs.Option.{is_some}
use Rattle.std.proofs.lemmas.Bool.{cases_Bool}
use Rattle.std.proofs.lemmas.Grind.{flat_map-append}
use Rattle.std.proofs.lemmas.List.{append_cancel_left}
use Rattle.std.proofs.lemmas.List.Elements.{All-head, All-tail}
use Rattle.std.proofs.lemmas.List.Folds.{list_all-append}
use Rattle.http_message.specs.Item.{Item, request, unframed, IsItem, closes}
use Rattle.http_message.specs.Laws.{OneItemFirst}
use Rattle.http_message.specs.Message.{asks_to_close}
use Rattle.q_outside.specs.declared.served.Why.{Why}
use Rattle.q_outside.specs.declared.served.Why.TheVariants.{BadFraming, CloseAsked, Stopped}
use Rattle.dialogue.specs.Dialogue.{Exchange, pieces, texts, text_of, none_closes, end_by, is_ending}

-- an item ends the connection where it closes, or the server does
pub end-closes : (offset : ℕ) (item : Item) (stops : Bool) → is_some (end_by offset item stops) ≡ (closes item || stops)
end-closes offset (request m) true = elim (cases_Bool (asks_to_close m)) [ inl asks ↦ rw asks refl | inr stays ↦ rw stays refl ]
end-closes offset (request m) false = elim (cases_Bool (asks_to_close m)) [ inl asks ↦ rw asks refl | inr stays ↦ rw stays refl ]
end-closes offset (unframed refused expected head) stops = refl

-- what does not end it does neither
pub none_by : (offset : ℕ) (x : Exchange) → end_by offset x.item x.stops ≡ None → is_ending x ≡ false
none_by offset x h = sym (end-closes offset x.item x.stops) ∙ ap is_some h

-- an item that ends it closes
pub some_by : (offset : ℕ) (item : Item) (why : Why) → end_by offset item false ≡ Some why → closes item ≡ true
some_by offset (request m) why h = elim (cases_Bool (asks_to_close m)) [ inl asks ↦ asks | inr stays ↦ absurd (let same : end_by offset (request m) false ≡ None = rw stays refl in cc) ]
some_by offset (unframed refused expected head) why h = refl

-- one that does not close does not end it
pub open_by : (offset : ℕ) (item : Item) → closes item ≡ false → end_by offset item false ≡ None
open_by offset (request m) h = rw h refl
open_by offset (unframed refused expected head) h = absurd (cc)

-- it is asked for, the item's end cannot be determined, or the server is ending
pub end_is : (offset : ℕ) (item : Item) (stops : Bool) (why : Why) → end_by offset item stops ≡ Some why → (why ≡ CloseAsked) ⊎ ((why ≡ BadFraming offset) ⊎ ((why ≡ Stopped) × (stops ≡ true)))
end_is offset (request m) true why h = elim (cases_Bool (asks_to_close m)) [
  | inl asks ↦ inl (let same : end_by offset (request m) true ≡ Some CloseAsked = rw asks refl in let both : Some why ≡ Some CloseAsked = sym h ∙ same in cc)
  | inr stays ↦ inr (inr (let same : end_by offset (request m) true ≡ Some Stopped = rw stays refl in let both : Some why ≡ Some Stopped = sym h ∙ same in cc, refl))
]
end_is offset (request m) false why h = elim (cases_Bool (asks_to_close m)) [
  | inl asks ↦ inl (let same : end_by offset (request m) false ≡ Some CloseAsked = rw asks refl in let both : Some why ≡ Some CloseAsked = sym h ∙ same in cc)
  | inr stays ↦ absurd (let same : end_by offset (request m) false ≡ None = rw stays refl in cc)
]
end_is offset (unframed refused expected head) stops why h = inr (inl (let both : Some why ≡ Some (BadFraming offset) = sym h in cc))

-- what the last exchange has comes last
pub last_of : {A : Type 0} (f : Exchange → List A) (xs : List Exchange) (x : Exchange) → flat_map f (xs ++ x ∷ []) ≡ flat_map f xs ++ f x
last_of f xs x =
    let both : flat_map f (xs ++ x ∷ []) ≡ flat_map f xs ++ flat_map f (x ∷ []) = flat_map-append f xs (x ∷ []) in
    let one : f x ++ [] ≡ f x = append-nil (f x) in
    both ∙ ap (λ l. flat_map f xs ++ l) one

-- the list grows by one
pub length-more : (xs : List Exchange) (x : Exchange) → length (xs ++ x ∷ []) ≡ length xs + 1
length-more xs x = length-append xs (x ∷ [])

-- the texts grow by the last
pub text-more : (xs : List Exchange) (x : Exchange) → texts (xs ++ x ∷ []) ≡ texts xs ++ text_of x
text-more xs x = last_of text_of xs x

-- so do the pieces
pub piece-more : (xs : List Exchange) (x : Exchange) → pieces (xs ++ x ∷ []) ≡ pieces xs ++ x.piece
piece-more xs x = last_of (λ y. y.piece) xs x

-- one exchange that doesn't end the connection leaves none that does
pub none-more : (xs : List Exchange) (x : Exchange) → none_closes xs ≡ true → is_ending x ≡ false → none_closes (xs ++ x ∷ []) ≡ true
none-more xs x none opens =
    let both : none_closes (xs ++ x ∷ []) ≡ (none_closes xs && none_closes (x ∷ [])) = list_all-append (λ y. not (is_ending y)) xs (x ∷ []) in
    both ∙ (rw (none, opens) refl)

-- each of a list's items is one
abbrev pub AreItems : List Exchange → Type 0
AreItems xs = All (λ (x : Exchange). IsItem x.piece x.item) xs

-- the first is one, and so are the others
pub items_head : (x : Exchange) (xs : List Exchange) → AreItems (x ∷ xs) → IsItem x.piece x.item
items_head x xs p = All-head (λ (y : Exchange). IsItem y.piece y.item) x xs p

pub items_tail : (x : Exchange) (xs : List Exchange) → AreItems (x ∷ xs) → AreItems xs
items_tail x xs p = All-tail (λ (y : Exchange). IsItem y.piece y.item) x xs p

-- only a source that shows no bytes ends the connection behind these
abbrev pub AreHidden : Option (List ℕ) → List Exchange → Type 0
AreHidden shown xs = All (λ (x : Exchange). x.stops ≡ true → shown ≡ None) xs

-- behind one that shows its bytes the last does not
pub last_stays : (bytes : List ℕ) (shown : Option (List ℕ)) (xs : List Exchange) (x : Exchange) → shown ≡ Some bytes → AreHidden shown (xs ++ x ∷ []) → x.stops ≡ false
last_stays bytes shown [] x is h =
    let none : x.stops ≡ true → shown ≡ None = All-head (λ (y : Exchange). y.stops ≡ true → shown ≡ None) x [] h in
    elim (cases_Bool x.stops) [ inl stops ↦ absurd (let e : shown ≡ None = none stops in cc) | inr stays ↦ stays ]
last_stays bytes shown (y ∷ ys) x is h = last_stays bytes shown ys x is (All-tail (λ (z : Exchange). z.stops ≡ true → shown ≡ None) y (ys ++ x ∷ []) h)

-- what two lists of exchanges share
pub record Shared (xs ys : List Exchange) (rest left : List ℕ) : Type 0 where
  pub pieces_are : map (λ (x : Exchange). x.piece) xs ≡ map (λ (y : Exchange). y.piece) ys
  pub items_are : map (λ (x : Exchange). x.item) xs ≡ map (λ (y : Exchange). y.item) ys
  pub rest_is : rest ≡ left

-- the same bytes begin with the same items
pub same_items : OneItemFirst → (xs ys : List Exchange) (rest left : List ℕ) → AreItems xs → AreItems ys → length xs ≡ length ys → pieces xs ++ rest ≡ pieces ys ++ left → Shared xs ys rest left
same_items one [] [] rest left p q count same = record { pieces_are = refl; items_are = refl; rest_is = same }
same_items one [] (y ∷ ys) rest left p q count same = absurd (omega (arith, count))
same_items one (x ∷ xs) [] rest left p q count same = absurd (omega (arith, count))
same_items one (x ∷ xs) (y ∷ ys) rest left p q count same =
    let here : x.piece ++ (pieces xs ++ rest) ≡ y.piece ++ (pieces ys ++ left) = sym (append_assoc x.piece (pieces xs) rest) ∙ same ∙ append_assoc y.piece (pieces ys) left in
    let first = one x.piece y.piece (pieces xs ++ rest) (pieces ys ++ left) x.item y.item (items_head x xs p) (items_head y ys q) here in
    let piece_is : x.piece ≡ y.piece = first.0 in
    let item_is : x.item ≡ y.item = first.1 in
    let behind : pieces xs ++ rest ≡ pieces ys ++ left = append_cancel_left x.piece (pieces xs ++ rest) (pieces ys ++ left) (here ∙ ap (λ (l : List ℕ). l ++ (pieces ys ++ left)) (sym piece_is)) in
    let others : Shared xs ys rest left = same_items one xs ys rest left (items_tail x xs p) (items_tail y ys q) (omega (arith, count)) behind in
    let some : map (λ (x : Exchange). x.piece) xs ≡ map (λ (y : Exchange). y.piece) ys = others.pieces_are in
    let more : map (λ (x : Exchange). x.item) xs ≡ map (λ (y : Exchange). y.item) ys = others.items_are in
    record { pieces_are = cc; items_are = cc; rest_is = others.rest_is }
