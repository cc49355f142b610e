-- Status lines.
use Rattle.std.proofs.Common.{◌≡◌, ℕ, zero, suc, ◌<◌, ◌≤◌, Bool, true, ◌&&◌, ◌++◌, List, length, Option, Some, codes, refl, sym, ap, ◌∙◌}
use Rattle.std.proofs.lemmas.List.{append_assoc}
use Rattle.std.proofs.lemmas.Bool.{and_parts, leb-true}
use Rattle.std.proofs.lemmas.Bool.Decides.{Decides-below_and}
use Rattle.std.specs.Fmt.{digits}
use Rattle.std.specs.List.{list_all}
use Rattle.std.specs.Prelude.{None, decimal, is_none, nat_le, option_map, unwrap_or}
use Rattle.std.specs.Borrow.{Bor}
use Rattle.http.specs.StatusCode.{reason_phrase}
use Rattle.httparse.specs.Grammar.{is_value_byte}
use Rattle.http_front.specs.Reply.{phrase_of, status_line}

pub line_200 : status_line 200 ≡ codes "HTTP/1.1 200 OK\r\n"
unfolding status_line digits
line_200 = refl

pub line_201 : status_line 201 ≡ codes "HTTP/1.1 201 Created\r\n"
unfolding status_line digits
line_201 = refl

pub line_304 : status_line 304 ≡ codes "HTTP/1.1 304 Not Modified\r\n"
unfolding status_line digits
line_304 = refl

pub line_404 : status_line 404 ≡ codes "HTTP/1.1 404 Not Found\r\n"
unfolding status_line digits
line_404 = refl

pub ruleset known_lines = (line_200, line_201, line_304, line_404)

-- the pieces of a line
pub status_pieces : (n : ℕ)
    → status_line n ≡ codes "HTTP/1.1 " ++ decimal n ++ codes " " ++ phrase_of n ++ codes "\r\n"
unfolding status_line phrase_of
status_pieces n =
    ap (λ t. codes "HTTP/1.1 " ++ t) (append_assoc (decimal n ++ codes " ") (phrase_of n) (codes "\r\n"))
    ∙ ap (λ t. codes "HTTP/1.1 " ++ t) (append_assoc (decimal n) (codes " ") (phrase_of n ++ codes "\r\n"))
    ∙ sym (append_assoc (codes "HTTP/1.1 ") (decimal n) (codes " " ++ (phrase_of n ++ codes "\r\n")))
    ∙ sym (append_assoc (codes "HTTP/1.1 " ++ decimal n) (codes " ") (phrase_of n ++ codes "\r\n"))
    ∙ sym (append_assoc (codes "HTTP/1.1 " ++ decimal n ++ codes " ") (phrase_of n) (codes "\r\n"))

-- a phrase is short, and a value of a field may have its bytes
abbrev is_good : ℕ → Bool
is_good n = nat_le (length (phrase_of n)) 31 && list_all is_value_byte (phrase_of n)

abbrev good_below : ℕ → Bool
good_below zero = true
good_below (suc n) = is_good n && good_below n

good : (n : ℕ) → n < 1000 → is_good n ≡ true
unfolding phrase_of
good n h =
    (Decides-below_and is_good (λ k. is_good k ≡ true) good_below (λ k. (λ x. x, λ x. x)) refl (λ _. refl) 1000).0 refl n h

pub phrase_is_short : (n : ℕ) → n < 1000 → length (phrase_of n) ≤ 31
phrase_is_short n h = leb-true (length (phrase_of n)) 31 (and_parts _ (list_all is_value_byte (phrase_of n)) (good n h)).0

pub phrase_is_value : (n : ℕ) → n < 1000 → list_all is_value_byte (phrase_of n) ≡ true
phrase_is_value n h = (and_parts (nat_le (length (phrase_of n)) 31) _ (good n h)).1

-- the phrase that was found
pub found_phrase : (n : ℕ) (o : Option (Bor (List ℕ))) (text : Bor (List ℕ)) → option_map (λ s. s.now) o ≡ reason_phrase n
    → o ≡ Some text → text.now ≡ phrase_of n
unfolding phrase_of
found_phrase n o text found is =
    ap (λ r. unwrap_or r (codes "<unknown status code>")) (ap (option_map (λ (s : Bor (List ℕ)). s.now)) (sym is) ∙ found)

-- none was
pub no_phrase : (n : ℕ) (o : Option (Bor (List ℕ))) → option_map (λ s. s.now) o ≡ reason_phrase n → is_none o ≡ true
    → codes "<unknown status code>" ≡ phrase_of n
unfolding phrase_of
no_phrase n None found is = ap (λ r. unwrap_or r (codes "<unknown status code>")) found
no_phrase n (Some text) found is = absurd (cc)
