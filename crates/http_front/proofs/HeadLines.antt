-- The lines of a head, as they are written one behind the other.
use Rattle.std.proofs.Common.{◌≡◌, ℕ, zero, suc, ◌<◌, Bool, true, false, not, ◌&&◌, List, [], ◌++◌, Option, Some, None, codes, refl, sym, ap, ap₂, ◌∙◌, arith}
use Rattle.std.proofs.lemmas.List.{append_assoc, append-nil}
use Rattle.std.proofs.lemmas.Grind.{flat_map-append}
use Rattle.std.specs.Prelude.{decimal, is_none}
use Rattle.http1.specs.Fields.{Header}
use Rattle.http1.specs.Head.{print_header, print_headers}
use Rattle.http_front.specs.Lines.{number_line}
use Rattle.http_front.specs.Reply.{status_line, head_text, head_fields, number_field, date_field, media_field, tag_field, lifetime_field, methods_text, allow_field, origin_fields, vary_field, calls_fields, pages_fields, close_field}
use Rattle.http_front.specs.Origins.{LeaveTold}
use Rattle.http_front.specs.declared.head.Head.{Head}
use Rattle.http_front.specs.declared.refused.Allow.{Allow}

-- the date between its name and the end of its line
pub date_line : (date : List ℕ) → print_headers (date_field true date) ≡ (codes "Date: " ++ date) ++ codes "\r\n"
date_line date = append-nil _

-- a number likewise
number_lines : (name : List ℕ) (o : Option ℕ)
    → print_headers (number_field name o) ≡ number_line (name ++ codes ": ") o (codes "\r\n")
number_lines name None = refl
number_lines name (Some n) =
    append-nil _ ∙ ap (λ t. t ++ codes "\r\n") (sym (append_assoc name (codes ": ") (decimal n)))

-- a tag
tag_line : (o : Option ℕ) → print_headers (tag_field o) ≡ number_line (codes "ETag: \"") o (codes "\"\r\n")
tag_line None = refl
tag_line (Some n) =
    append-nil _
    ∙ ap (λ t. t ++ codes "\r\n") (sym (append_assoc (codes "ETag: \"") (decimal n) (codes "\"")))
    ∙ append_assoc (codes "ETag: \"" ++ decimal n) (codes "\"") (codes "\r\n")

-- a lifetime above 0
pub lifetime_line : (ttl number : ℕ) → (ttl ≡ 0 → ⊥) → number ≡ ttl
    → number_line (codes "Cache-Control: max-age=") (Some number) (codes "\r\n") ≡ print_headers (lifetime_field ttl 0)
lifetime_line zero number some same = absurd (some refl)
lifetime_line (suc n) number some same =
    ap (λ k. number_line (codes "Cache-Control: max-age=") (Some k) (codes "\r\n")) same ∙ sym (append-nil _)

-- one for a shared cache too
pub shared_line : (ttl shared number other : ℕ) → 0 < ttl → 0 < shared → number ≡ ttl → other ≡ shared
    → number_line (codes "Cache-Control: public, max-age=") (Some number) (codes ", ") ++ number_line (codes "s-maxage=") (Some other) (codes "\r\n")
    ≡ print_headers (lifetime_field ttl shared)
shared_line zero shared number other some more same alike = absurd (omega (arith, some))
shared_line (suc n) zero number other some more same alike = absurd (omega (arith, more))
shared_line (suc n) (suc m) number other some more same alike =
    ap₂ (λ j k. number_line (codes "Cache-Control: public, max-age=") (Some j) (codes ", ") ++ number_line (codes "s-maxage=") (Some k) (codes "\r\n")) same alike
    ∙ sym (append_assoc ((codes "Cache-Control: public, max-age=" ++ decimal (suc n)) ++ codes ", ") (codes "s-maxage=" ++ decimal (suc m)) (codes "\r\n"))
    ∙ sym (append-nil _)

-- two pieces behind a text
pub two_pieces : (start one all first second tail : List ℕ) → one ≡ start ++ first → all ≡ one ++ second → first ++ second ≡ tail → all ≡ start ++ tail
two_pieces start one all first second tail p q is =
    q ∙ ap (λ t. t ++ second) p ∙ append_assoc start first second ∙ ap (λ t. start ++ t) is

-- three pieces behind a text
pub three_pieces : (start one two all first second middle third tail : List ℕ) → one ≡ start ++ first → two ≡ one ++ second → second ≡ middle
    → all ≡ two ++ third → tail ≡ (first ++ middle) ++ third → all ≡ start ++ tail
three_pieces start one two all first second middle third tail p q same r is =
    r ∙ ap (λ t. t ++ third) (q ∙ ap (λ t. one ++ t) same ∙ ap (λ t. t ++ middle) p ∙ append_assoc start first middle)
    ∙ append_assoc start (first ++ middle) third ∙ ap (λ t. start ++ t) (sym is)

-- an origin, and what its pages may read
pub origin_lines : (origin : List ℕ) → print_headers (origin_fields (Some origin))
    ≡ (codes "Access-Control-Allow-Origin: " ++ origin)
    ++ codes "\r\nAccess-Control-Expose-Headers: Date, ETag, Quaestor-Commit, Quaestor-Until, Quaestor-Version\r\n"
origin_lines origin =
    append_assoc (codes "Access-Control-Allow-Origin: " ++ origin) (codes "\r\n")
    (codes "Access-Control-Expose-Headers: Date, ETag, Quaestor-Commit, Quaestor-Until, Quaestor-Version\r\n")

-- what a page may send
pub calls_lines : (allow : Allow) → print_headers (calls_fields (Some allow))
    ≡ (codes "Access-Control-Allow-Methods: " ++ methods_text allow)
    ++ codes "\r\nAccess-Control-Allow-Headers: Cache-Control, Content-Type, If-Match, If-None-Match\r\nAccess-Control-Max-Age: 600\r\n"
calls_lines allow =
    append_assoc (codes "Access-Control-Allow-Methods: " ++ methods_text allow) (codes "\r\n")
    (codes "Access-Control-Allow-Headers: Cache-Control, Content-Type, If-Match, If-None-Match\r\nAccess-Control-Max-Age: 600\r\n")

-- the lines of fields one behind the other
lines-append : (xs ys : List Header) → print_headers (xs ++ ys) ≡ print_headers xs ++ print_headers ys
lines-append xs ys = flat_map-append print_header xs ys

-- what is said to pages
pub pages_lines : (leave : LeaveTold) (calls : Option Allow) → print_headers (pages_fields leave calls)
    ≡ print_headers (origin_fields leave.allow) ++ print_headers (vary_field leave.varies) ++ print_headers (calls_fields calls)
pages_lines leave calls =
    lines-append (origin_fields leave.allow) (vary_field leave.varies ++ calls_fields calls)
    ∙ ap (λ t. print_headers (origin_fields leave.allow) ++ t) (lines-append (vary_field leave.varies) (calls_fields calls))
    ∙ sym (append_assoc (print_headers (origin_fields leave.allow)) (print_headers (vary_field leave.varies)) (print_headers (calls_fields calls)))

silent_by : (allow : Option (List ℕ)) (varies : Bool) (calls : Option Allow) → (is_none allow && not varies) ≡ true → is_none calls ≡ true
    → pages_fields (record { allow = allow; varies = varies }) calls ≡ []
silent_by None false None nothing none = refl
silent_by None true calls nothing none = absurd (cc)
silent_by (Some origin) varies calls nothing none = absurd (cc)
silent_by None false (Some allow) nothing none = absurd (cc)

-- nothing is said to them
pub silent : (leave : LeaveTold) (calls : Option Allow) → (is_none leave.allow && not leave.varies) ≡ true → is_none calls ≡ true
    → pages_fields leave calls ≡ []
silent leave calls nothing none = silent_by leave.allow leave.varies calls nothing none

-- one more piece in front
one_more : (prefix : List ℕ) (xs ys : List Header) (end text : List ℕ) → print_headers xs ≡ text
    → prefix ++ (print_headers (xs ++ ys) ++ end) ≡ (prefix ++ text) ++ (print_headers ys ++ end)
one_more prefix xs ys end text same =
    ap (λ t. prefix ++ (t ++ end)) (lines-append xs ys ∙ ap (λ t. t ++ print_headers ys) same)
    ∙ ap (λ t. prefix ++ t) (append_assoc text (print_headers ys) end)
    ∙ sym (append_assoc prefix text (print_headers ys ++ end))

-- the pieces of a head
pub head_pieces : (h : Head) (date : List ℕ) → head_text h.status (head_fields h date)
    ≡ status_line h.status ++ print_headers (date_field h.dated date) ++ print_headers (media_field h.media)
    ++ number_line (codes "Content-Length: ") h.length (codes "\r\n")
    ++ number_line (codes "ETag: \"") h.tag (codes "\"\r\n") ++ print_headers (lifetime_field h.ttl h.shared)
    ++ print_headers (allow_field h.allow)
    ++ number_line (codes "Quaestor-Commit: ") h.commit (codes "\r\n")
    ++ number_line (codes "Quaestor-Version: ") h.version (codes "\r\n")
    ++ number_line (codes "Quaestor-Until: ") h.until (codes "\r\n") ++ print_headers (pages_fields h.leave h.calls)
    ++ print_headers (close_field h.close) ++ codes "\r\n"
unfolding head_text head_fields
head_pieces h date =
    one_more _ (date_field h.dated date) _ _ _ refl
    ∙ one_more _ (media_field h.media) _ _ _ refl
    ∙ one_more _ (number_field (codes "Content-Length") h.length) _ _ _ (number_lines (codes "Content-Length") h.length)
    ∙ one_more _ (tag_field h.tag) _ _ _ (tag_line h.tag)
    ∙ one_more _ (lifetime_field h.ttl h.shared) _ _ _ refl
    ∙ one_more _ (allow_field h.allow) _ _ _ refl
    ∙ one_more _ (number_field (codes "Quaestor-Commit") h.commit) _ _ _ (number_lines (codes "Quaestor-Commit") h.commit)
    ∙ one_more _ (number_field (codes "Quaestor-Version") h.version) _ _ _ (number_lines (codes "Quaestor-Version") h.version)
    ∙ one_more _ (number_field (codes "Quaestor-Until") h.until) _ _ _ (number_lines (codes "Quaestor-Until") h.until)
    ∙ one_more _ (pages_fields h.leave h.calls) _ _ _ refl
    ∙ sym (append_assoc _ (print_headers (close_field h.close)) (codes "\r\n"))
