-- Pieces that were given one behind the other.
use Rattle.std.proofs.Common.{◌≡◌, ℕ, ◌+◌, ◌<◌, ◌≤◌, List, [], ◌∷◌, ◌++◌, Result, Ok, Err, length, length-append, take, drop, get_or, sym, subst, ap, ◌∙◌, arith}
use Rattle.std.proofs.lemmas.Grind.{flat_map-append}
use Rattle.std.proofs.lemmas.List.{append-nil, take_more, take-append-drop, take-append-le, take_all}
use Rattle.q_outside.specs.Ends.{End, Gives, GaveBytes, GavePart, Gave}
use Rattle.http_front.specs.Pieces.{parts_text}
use Rattle.q_outside.proofs.Chain.{gave_both, part_behind}

-- a first piece whole, and then what came of a second
pub gave_behind : {T E : Type 0} (before mid after : End) (first second : List ℕ) (result : Result T E) → GaveBytes before mid first → Gave mid after second result → Gave before after (first ++ second) result
gave_behind before mid after first second (Ok x) g h = gave_both before mid after first second g h
gave_behind before mid after first second (Err e) g h = part_behind before mid after first second g h

-- the first parts and one more
one_more : (parts : List (List ℕ)) (i : ℕ) (d : List ℕ) → i < length parts
    → parts_text (take (i + 1) parts) ≡ parts_text (take i parts) ++ get_or parts i d
one_more parts i d inside =
    ap parts_text (take_more parts i d inside)
    ∙ flat_map-append (λ p. p) (take i parts) (get_or parts i d ∷ [])
    ∙ ap (λ t. parts_text (take i parts) ++ t) (append-nil (get_or parts i d))

-- one more part was given
pub given_more : (before mid after : End) (parts : List (List ℕ)) (i : ℕ) (part : List ℕ) → i < length parts → part ≡ get_or parts i part
    → GaveBytes before mid (parts_text (take i parts)) → GaveBytes mid after part
    → GaveBytes before after (parts_text (take (i + 1) parts))
given_more before mid after parts i part inside is p q =
    subst (λ t. GaveBytes before after t) (ap (λ t. parts_text (take i parts) ++ t) is ∙ sym (one_more parts i part inside))
    (gave_both before mid after (parts_text (take i parts)) part p q)

-- the beginning of a beginning
pub part_of : (before after : End) (prefix more : List ℕ) → GavePart before after prefix → GavePart before after (prefix ++ more)
part_of before after prefix more p = record {
  size = p.size;
  part = omega (arith, p.part, length-append prefix more);
  given = subst (λ t. Gives before.bytes after.bytes t) (sym (take-append-le p.size prefix more p.part)) p.given;
  rises = p.rises;
}

-- the sink failed inside a part
pub failed_inside : (before mid after : End) (parts : List (List ℕ)) (i : ℕ) (part : List ℕ) → i < length parts → part ≡ get_or parts i part
    → GaveBytes before mid (parts_text (take i parts)) → GavePart mid after part
    → GavePart before after (parts_text parts)
failed_inside before mid after parts i part inside is p q =
    let whole : parts_text (take i parts) ++ part ++ parts_text (drop (i + 1) parts) ≡ parts_text parts =
    ap (λ t. (parts_text (take i parts) ++ t) ++ parts_text (drop (i + 1) parts)) is
    ∙ ap (λ t. t ++ parts_text (drop (i + 1) parts)) (sym (one_more parts i part inside))
    ∙ sym (flat_map-append (λ p. p) (take (i + 1) parts) (drop (i + 1) parts))
    ∙ ap parts_text (take-append-drop (i + 1) parts) in
    subst (λ t. GavePart before after t) whole
    (part_of before after (parts_text (take i parts) ++ part) (parts_text (drop (i + 1) parts))
    (part_behind before mid after (parts_text (take i parts)) part p q))

-- all parts were given
pub all_given : (before after : End) (parts : List (List ℕ)) (i : ℕ) → length parts ≤ i
    → GaveBytes before after (parts_text (take i parts)) → GaveBytes before after (parts_text parts)
all_given before after parts i past p = subst (λ t. GaveBytes before after (parts_text t)) (take_all i parts past) p
