-- Believed. What passed through a connection, whoever answers its items.
use Rattle.std.specs.Prelude.{◌≡◌, ◌⊎◌, ℕ, ◌+◌, ◌<◌, ◌≤◌, ◌==◌, ◌++◌, Bool, true, false, not, ◌||◌, List, [], ◌∷◌, length, take, All, Option, Some, None, if◌then◌else◌}
use Rattle.std.specs.List.{flat_map, list_all}
use Rattle.http_message.specs.Item.{Item, request, unframed, IsItem, IsOpen, ExpectsContinue, continues, closes}
use Rattle.http_message.specs.Message.{asks_to_close}
use Rattle.http_message.specs.Taken.{continue_text, continue_where}
use Rattle.http_message.specs.Text.{is_blank}
use Rattle.q_outside.specs.Ends.{End, IsEnded, Gives, TookBytes, GaveBytes}
use Rattle.q_outside.specs.declared.served.Served.{Served}
use Rattle.q_outside.specs.declared.served.Why.{Why}
use Rattle.q_outside.specs.declared.served.Why.TheVariants.{InputEnd, Truncated, BadFraming, CloseAsked, RequestLimit, Stopped, ReadFault, WriteFault}

-- the greatest number of requests that are answered on one connection
abbrev pub request_limit : ℕ
request_limit = 10000

-- What the source and the sink of a connection show at one moment.
pub record Sides : Type 0 where
  pub source : End
  pub sink : End

-- One item, and how it was answered.
pub record Exchange : Type 0 where
  -- its bytes, whole and no more
  pub piece : List ℕ
  -- what they are
  pub item : Item
  -- the text of its reply
  pub answer : List ℕ
  -- its reply says that the connection ends, because the server does
  pub stops : Bool

-- the connection ends after it: the item asks for it or has no end, or the server is ending
abbrev pub is_ending : Exchange → Bool
is_ending x = closes x.item || x.stops

-- its text: the reply, and `100 Continue` before that where the item expects it
abbrev pub text_of : Exchange → List ℕ
text_of x = continue_where (continues x.item) ++ x.answer

-- the bytes of the items, one after another
abbrev pub pieces : List Exchange → List ℕ
pieces xs = flat_map (λ x. x.piece) xs

-- their texts, one after another
abbrev pub texts : List Exchange → List ℕ
texts xs = flat_map text_of xs

-- no item asks for the end of the connection, each has an end, and the server was not ending
abbrev pub none_closes : List Exchange → Bool
none_closes xs = list_all (λ x. not (is_ending x)) xs

-- how the connection ends after an item whose first byte is at this offset, where the item ends it (RFC 9112, section 9.6),
-- or where the server stops
abbrev pub end_by : ℕ → Item → (stops : Bool) → Option Why
end_by offset (request m) stops = if asks_to_close m then Some CloseAsked else (if stops then Some Stopped else None)
end_by offset (unframed refused expected head) stops = Some (BadFraming offset)

-- the connection ends after this exchange, the one after `count` others: its reply says so
abbrev pub is_last : ℕ → Exchange → Bool
is_last count x = is_ending x || (count + 1 == request_limit)

-- from one state of who answers to another, each item was answered by its text; `count` items were answered before the first of them
abbrev pub Answered : {A : Type 0} → (A → Item → Bool → List ℕ → A → Type 0) → ℕ → A → List Exchange → A → Type 0
Answered answers count first [] last = first ≡ last
Answered {A} answers count first (x ∷ xs) last =
    (next : A) × answers first x.item (is_last count x) x.answer next × Answered answers (count + 1) next xs last

-- From one moment to another these items were taken, and then the bytes `rest`. Only behind a source that shows no bytes does the server end.
pub record Progress (a b : Sides) (xs : List Exchange) (rest : List ℕ) : Type 0 where
  pub taken : TookBytes a.source b.source (pieces xs ++ rest)
  pub items : All (λ x. IsItem x.piece x.item) xs
  pub hidden : All (λ x. x.stops ≡ true → a.source.bytes ≡ None) xs

-- Nothing ended the connection yet, and one more item may be answered.
pub record GoesOn (xs : List Exchange) : Type 0 where
  pub none : none_closes xs ≡ true
  pub few : length xs < request_limit

-- A text was given, and then the beginning of another, inside which the sink failed.
pub record FailsInside (before after : End) (text broken : List ℕ) : Type 0 where
  pub size : ℕ
  pub part : size ≤ length broken
  pub given : Gives before.bytes after.bytes (text ++ take size broken)
  pub rises : before.faults < after.faults

-- The next item is not whole. Each text was given, and what begins the text of that item.
pub record EndsIncomplete (a b : Sides) (xs : List Exchange) (rest : List ℕ) : Type 0 where
  pub on : GoesOn xs
  pub expected : Bool
  pub is_open : IsOpen rest expected
  pub given : GaveBytes a.sink b.sink (texts xs ++ continue_where expected)

-- The last item ended the connection so, or the server did behind it, and each text was given.
pub record IsClosed (a b : Sides) (xs : List Exchange) (why : Why) : Type 0 where
  pub others : List Exchange
  pub last : Exchange
  pub are : xs ≡ others ++ last ∷ []
  pub on : GoesOn others
  pub closing : end_by (length (pieces others)) last.item last.stops ≡ Some why
  pub given : GaveBytes a.sink b.sink (texts xs)

-- The greatest number of items was answered, none of them ended the connection, and each text was given.
pub record IsFull (a b : Sides) (xs : List Exchange) : Type 0 where
  pub none : none_closes xs ≡ true
  pub all : length xs ≡ request_limit
  pub given : GaveBytes a.sink b.sink (texts xs)

-- The sink failed inside the reply to the last item, after the whole of its `100 Continue`.
pub record FailsInReply (a b : Sides) (xs : List Exchange) : Type 0 where
  pub others : List Exchange
  pub last : Exchange
  pub are : xs ≡ others ++ last ∷ []
  pub on : GoesOn others
  pub fails : FailsInside a.sink b.sink (texts others ++ continue_where (continues last.item)) last.answer

-- The sink failed inside the `100 Continue` of the next item, which was not answered.
pub record FailsInContinue (a b : Sides) (xs : List Exchange) (rest : List ℕ) : Type 0 where
  pub on : GoesOn xs
  pub is_expected : ExpectsContinue rest
  pub fails : FailsInside a.sink b.sink (texts xs) continue_text

-- what is true at the end that is answered
abbrev pub Ends : Why → Sides → Sides → List Exchange → List ℕ → Type 0
Ends InputEnd a b xs rest = EndsIncomplete a b xs rest × IsEnded b.source.bytes × (is_blank rest ≡ true)
Ends Truncated a b xs rest = EndsIncomplete a b xs rest × IsEnded b.source.bytes × (is_blank rest ≡ false)
Ends (BadFraming offset) a b xs rest = IsClosed a b xs (BadFraming offset)
Ends CloseAsked a b xs rest = IsClosed a b xs CloseAsked
Ends RequestLimit a b xs rest = IsFull a b xs
Ends Stopped a b xs rest = IsClosed a b xs Stopped
Ends ReadFault a b xs rest = EndsIncomplete a b xs rest × (a.source.faults < b.source.faults)
Ends WriteFault a b xs rest = FailsInReply a b xs ⊎ FailsInContinue a b xs rest

-- What passed through a connection: items with their replies, as many as `served` says, and why it ended.
pub record Passed (a b : Sides) (served : Served) : Type 0 where
  pub exchanges : List Exchange
  -- the bytes that were taken after those of the items
  pub rest : List ℕ
  pub progress : Progress a b exchanges rest
  pub count : length exchanges ≡ served.requests
  pub ends : Ends served.why a b exchanges rest

-- What passed through a connection, and how each item was answered.
pub record Dialogue {A : Type 0} (answers : A → Item → Bool → List ℕ → A → Type 0) (first last : A) (a b : Sides) (served : Served) : Type 0 where
  pub passed : Passed a b served
  pub answered : Answered answers 0 first passed.exchanges last
