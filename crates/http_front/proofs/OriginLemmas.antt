-- Origins, and which of them is told.
use Rattle.std.proofs.Common.{◌≡◌, ℕ, ◌≤◌, Bool, true, false, ◌&&◌, List, [], ◌∷◌, length, nat_lt, refl, sym, ap, ◌∙◌}
use Rattle.std.proofs.lemmas.Bool.{and_parts, leb-true}
use Rattle.std.proofs.lemmas.Slice.Eq.{bytes_eq-Decides}
use Rattle.std.specs.Borrow.{Bor}
use Rattle.std.specs.List.{list_all, list_any}
use Rattle.std.specs.Prelude.{Option, Some, None, IfSome, bytes_eq, codes, nat_le, ◌==◌}
use Rattle.http_message.specs.Message.{Message}
use Rattle.http_front.specs.Asks.{shape_of}
use Rattle.http_front.specs.Origins.{LeaveTold, if_origin, is_origin, is_visible, leave_by, leave_of, names_some, no_leave, only_of, page_of, origins_in, told_of, told_to}
use Rattle.http_front.specs.Target.{ahead_of, behind}
use Rattle.http_front.specs.declared.shape.Shape.{Shape}
use Rattle.http_front.proofs.CutLemmas.{parted, whole}
use Rattle.http_front.proofs.VisibleLemmas.{AreVisible}

-- an origin is visible
pub origin_visible : (origin : List ℕ) → is_origin origin ≡ true → AreVisible origin
unfolding is_origin
origin_visible origin is =
    record { all = (and_parts (nat_le (length origin) 255) (list_all is_visible origin) (and_parts (nat_lt 0 (length origin)) _ is).1).1 }

-- and short
pub origin_short : (origin : List ℕ) → is_origin origin ≡ true → length origin ≤ 255
unfolding is_origin
origin_short origin is =
    leb-true (length origin) 255 (and_parts (nat_le (length origin) 255) (list_all is_visible origin) (and_parts (nat_lt 0 (length origin)) _ is).1).0

-- so is what is told
pub told_short : (allow : Option (List ℕ)) → IfSome allow (λ origin. is_origin origin ≡ true) → IfSome allow (λ origin. length origin ≤ 255)
told_short None is = is
told_short (Some origin) is = origin_short origin is

if_by : (b : Bool) (text : List ℕ) → is_origin text ≡ b → IfSome (if_origin text) (λ origin. is_origin origin ≡ true)
if_by true text is = rw is is
if_by false text is = rw is tt

-- what may be told is an origin
pub if_origin_is : (text : List ℕ) → IfSome (if_origin text) (λ origin. is_origin origin ≡ true)
if_origin_is text = if_by (is_origin text) text refl

to_by : (b : Bool) (origins : List (List ℕ)) (page : List ℕ) → list_any (bytes_eq page) origins ≡ b
    → IfSome (told_to origins page) (λ origin. is_origin origin ≡ true)
to_by true origins page among = rw among (if_origin_is page)
to_by false origins page among = rw among tt

pub told_to_is : (origins : List (List ℕ)) (page : List ℕ) → IfSome (told_to origins page) (λ origin. is_origin origin ≡ true)
told_to_is origins page = to_by (list_any (bytes_eq page) origins) origins page refl

pub told_of_is : (origins : List (List ℕ)) (page : Option (List ℕ)) → IfSome (told_of origins page) (λ origin. is_origin origin ≡ true)
told_of_is origins None = tt
told_of_is origins (Some page) = told_to_is origins page

first_by : (page rest : List ℕ) (o : Option (List ℕ)) → behind 32 rest ≡ o → bytes_eq page (ahead_of 32 rest) ≡ true
    → told_to (origins_in rest) page ≡ if_origin page
first_by page rest None e same = rw (whole 32 rest e, same) refl
first_by page rest (Some others) e same = rw ((parted 32 rest others e).split, same) refl

-- the first origin is that of the page
pub told_first : (page rest : List ℕ) → bytes_eq page (ahead_of 32 rest) ≡ true → told_to (origins_in rest) page ≡ if_origin page
told_first page rest same = first_by page rest (behind 32 rest) refl same

-- it is not, and it is the last
pub told_last : (page rest : List ℕ) → behind 32 rest ≡ None → bytes_eq page (ahead_of 32 rest) ≡ false → told_to (origins_in rest) page ≡ None
told_last page rest e other = rw (whole 32 rest e, other) refl

-- it is not, and there are others
pub told_next : (page rest others : List ℕ) → behind 32 rest ≡ Some others → bytes_eq page (ahead_of 32 rest) ≡ false
    → told_to (origins_in rest) page ≡ told_to (origins_in others) page
told_next page rest others e other = rw ((parted 32 rest others e).split, other) refl

-- what is said of an origin
abbrev pub leave_with : Option (List ℕ) → Bool → LeaveTold
leave_with allow varies = record { allow = allow; varies = varies }

-- no text names none
pub no_names : (origins : List ℕ) (page : Option (List ℕ)) → (length origins == 0) ≡ true → leave_of origins page ≡ no_leave
unfolding leave_of
no_names origins page none = rw none refl

-- another one names some
some_names : (origins : List ℕ) (page : Option (List ℕ)) → (length origins == 0) ≡ false → leave_of origins page ≡ leave_by (origins_in origins) page
unfolding leave_of
some_names origins page some = rw some refl

-- one that names one origin
pub one_leave : (origins : List ℕ) (page : Option (List ℕ)) → (length origins == 0) ≡ false → behind 32 origins ≡ None
    → leave_of origins page ≡ leave_with (if_origin (ahead_of 32 origins)) false
one_leave origins page some e = some_names origins page some ∙ rw (whole 32 origins e) refl

more_by : (one : List ℕ) (others : List ℕ) (o : Option (List ℕ)) (page : Option (List ℕ)) → behind 32 others ≡ o
    → leave_by (one ∷ origins_in others) page ≡ leave_with (told_of (one ∷ origins_in others) page) true
more_by one others None page e = rw (whole 32 others e) refl
more_by one others (Some rest) page e = rw ((parted 32 others rest e).split) refl

-- one that names several
pub more_leave : (origins others : List ℕ) (page : Option (List ℕ)) → (length origins == 0) ≡ false → behind 32 origins ≡ Some others
    → leave_of origins page ≡ leave_with (told_of (origins_in origins) page) true
more_leave origins others page some e =
    some_names origins page some
    ∙ rw ((parted 32 origins others e).split) (more_by (ahead_of 32 origins) others (behind 32 others) page refl)

-- texts that pass the test are equal
pub same_origin : (page origin : List ℕ) → bytes_eq page origin ≡ true → if_origin page ≡ if_origin origin
same_origin page origin same = ap if_origin ((bytes_eq-Decides page origin).0 same)

-- the one value of a field
pub only_page : (found : List (List ℕ)) (value : Bor (List ℕ)) → found ≡ value.now ∷ [] → Some value.now ≡ only_of found
only_page found value is = rw is refl

pub no_page : (found : List (List ℕ)) → found ≡ [] → None ≡ only_of found
no_page found is = rw is refl

pub more_pages : (found : List (List ℕ)) (first second : List ℕ) (others : List (List ℕ)) → found ≡ first ∷ second ∷ others → None ≡ only_of found
more_pages found first second others is = rw is refl

abbrev shape_with : Bool → Bool → Bool → LeaveTold → Shape
shape_with put head asks leave = record { put = put; head = head; asks = asks; leave = leave }

-- the looks of a reply where no origin is named
pub no_shape : (origins : List ℕ) (m : Message) (put head : Bool) (leave : LeaveTold)
    → put ≡ bytes_eq m.method (codes "PUT") → head ≡ bytes_eq m.method (codes "HEAD") → (length origins == 0) ≡ true → leave ≡ no_leave
    → shape_with put head false leave ≡ shape_of origins m
no_shape origins m put head leave p q none is =
    let asks : false ≡ (names_some origins && bytes_eq m.method (codes "OPTIONS")) = rw none refl in
    let said : leave ≡ leave_of origins (page_of m) = is ∙ sym (no_names origins (page_of m) none) in
    ap (λ (b : Bool). shape_with b head false leave) p
    ∙ ap (λ (b : Bool). shape_with (bytes_eq m.method (codes "PUT")) b false leave) q
    ∙ ap (λ (b : Bool). shape_with (bytes_eq m.method (codes "PUT")) (bytes_eq m.method (codes "HEAD")) b leave) asks
    ∙ ap (λ (l : LeaveTold). shape_with (bytes_eq m.method (codes "PUT")) (bytes_eq m.method (codes "HEAD")) (names_some origins && bytes_eq m.method (codes "OPTIONS")) l) said
