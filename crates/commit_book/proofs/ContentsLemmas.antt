-- What an addition answers and leaves.
use Rattle.std.proofs.Common.{◌≡◌, ℕ, List, ◌+◌, ◌≤◌, Bool, true, false, IsErr, if◌then◌else◌, [], ◌∷◌, ◌++◌, Option, Some, None, IfSome, option_map, length, nat_le, ap, ◌∙◌, subst, arith}
use Rattle.std.specs.Option.{option_map_or}
use Rattle.std.specs.declared.result.Result.{Result}
use Rattle.std.specs.declared.result.Result.TheVariants.{Ok, Err}
use Rattle.std.proofs.lemmas.Bool.{le-leb}
use Rattle.commit_book.specs.declared.change.Change.{Change}
use Rattle.commit_book.specs.declared.refusal.BookRefusal.{BookRefusal}
use Rattle.commit_book.specs.declared.refusal.BookRefusal.TheVariants.{Full}
use Rattle.commit_book.specs.Contents.{Contents, added, judged, is_reserved, with_commit}
use Rattle.commit_book.specs.Names.{Names}
use Rattle.commit_book.specs.declared.row.Reserved.{Reserved}
use Rattle.commit_book.specs.Journal.{cost_of, kept, kept_with}
use Rattle.commit_book.specs.Same.{same_change}
use Rattle.commit_book.proofs.GrowLemmas.{kept_more}
use Rattle.commit_book.proofs.SameLemmas.{same_is, same_itself}

-- what holds of the item that is there
pub holds_there : {X : Type 0} (P : X → Type 0) (o : Option X) (x : X) → Some x ≡ o → IfSome o P → P x
holds_there P None x e h = absurd (cc)
holds_there P (Some y) x e h = let same : y ≡ x = cc in subst P same h

-- a reserved change is the one that was reserved
pub reserved_is : (book : Contents) (change : Change) → is_reserved book change ≡ true → book.reserved ≡ Some change
reserved_is book change h = by book.reserved h
  where
    by : (o : Option Change) → option_map_or (λ (r : Change). same_change r change) o false ≡ true → o ≡ Some change
    by None e = absurd (cc)
    by (Some r) e = ap Some (same_is r change e)

pub is_reserved_from : (book : Contents) (change : Change) → book.reserved ≡ Some change → is_reserved book change ≡ true
is_reserved_from book change h = ap (λ (o : Option Change). option_map_or (λ (r : Change). same_change r change) o false) h ∙ same_itself change

-- a change that was added had its slot
pub told_added : (old new : Contents) (change : Change) (commit : ℕ) → old.horizon ≤ length old.journal → new ≡ with_commit old change new.names → kept new.journal new.horizon ≤ new.capacity → commit ≡ length old.journal + 1 → Ok commit ≡ added old change
told_added old new change commit low after fits number =
    let within : kept (old.journal ++ change ∷ []) old.horizon ≤ old.capacity = subst (λ (b : Contents). kept b.journal b.horizon ≤ b.capacity) after fits in
    let sum = kept_more old.journal old.horizon change low in
    let below : nat_le (kept old.journal old.horizon + cost_of change) old.capacity ≡ true = le-leb (kept old.journal old.horizon + cost_of change) old.capacity (omega (arith, within, sum)) in
    rw below (ap Ok number)

-- what is seen of a book when its reserved change was added
pub seen_added : (capacity horizon : ℕ) (journal past : List Change) (reserved left : Option Reserved) (were names : Names) (old : Contents) (r : Reserved) (change : Change) →
    record { capacity = capacity; journal = journal; horizon = horizon; reserved = option_map (λ (x : Reserved). x.row) reserved; names = were } ≡ old → Some r ≡ reserved → left ≡ None → past ≡ journal ++ r.row ∷ [] → old.reserved ≡ Some change →
    record { capacity = capacity; journal = past; horizon = horizon; reserved = option_map (λ (x : Reserved). x.row) left; names = names } ≡ with_commit old change names
seen_added capacity horizon journal past reserved left were names old r change view there gone more is =
    let same : Some r.row ≡ Some change = ap (option_map (λ (x : Reserved). x.row)) there ∙ ap (λ (b : Contents). b.reserved) view ∙ is in
    let row : r.row ≡ change = cc in
    let limit : capacity ≡ old.capacity = ap (λ (b : Contents). b.capacity) view in
    let low : horizon ≡ old.horizon = ap (λ (b : Contents). b.horizon) view in
    let longer : past ≡ old.journal ++ change ∷ [] = more ∙ ap (λ (b : Contents). b.journal ++ r.row ∷ []) view ∙ ap (λ (c : Change). old.journal ++ c ∷ []) row in
    let none : option_map (λ (x : Reserved). x.row) left ≡ None = ap (option_map (λ (x : Reserved). x.row)) gone in
    λ i. record { capacity = limit i; journal = longer i; horizon = low i; reserved = none i; names = names }

-- a change that can be reserved is not refused
abbrev no_answer : Result (Unit {0}) BookRefusal
no_answer = Ok tt

-- a change that is above the capacity is refused so by an addition where it is by a reservation
pub full_added : (book : Contents) (change : Change) (e : BookRefusal) → IsErr (added book change) → (IsErr (judged book change) → Err e ≡ judged book change) → Err e ≡ added book change
full_added book change e err told = by (nat_le (kept_with book.journal book.horizon change) book.capacity) err told
  where
    by : (b : Bool) → IsErr (if b then Ok (length book.journal + 1) else Err (Full (kept_with book.journal book.horizon change))) → (IsErr (if b then no_answer else Err (Full (kept_with book.journal book.horizon change))) → Err e ≡ (if b then no_answer else Err (Full (kept_with book.journal book.horizon change)))) →
        Err e ≡ (if b then Ok (length book.journal + 1) else Err (Full (kept_with book.journal book.horizon change)))
    by true err told = absurd (let h = err in cc)
    by false err told = (let is = told err in let same : e ≡ Full (kept_with book.journal book.horizon change) = cc in ap Err same)
