-- What follows from the calls of a read.
use Rattle.std.proofs.Common.{◌≡◌, ℕ, ◌≤◌, max, Bool, true, false, List, [], ◌∷◌, ◌++◌, Option, Some, None, refl, sym, ap, ◌∙◌, subst, append_assoc, true≢false, arith}
use Rattle.std.specs.Prelude.{nat_lt, if◌then◌else◌, IfOk, IsTrue, Result, Ok, Err}
use Rattle.std.proofs.lemmas.Bool.{and_parts, and_from, le-leb, leb-true, ltb-false}
use Rattle.query_normal.specs.Keys.{key_text}
use Rattle.query_normal.specs.Pages.{Page}
use Rattle.query_normal.specs.declared.key.KeyShape.{KeyShape}
use Rattle.flat_snapshot.specs.declared.sight.Sight.{Sight}
use Rattle.flat_snapshot.specs.Sight.{sight_of}
use Rattle.client_core.specs.declared.choice.Why.{Why}
use Rattle.client_core.specs.declared.level.Level.{Level}
use Rattle.client_core.specs.Choice.{commit_with, is_accepted, why_before, why_with, why_of, first_why}
use Rattle.hub_model.specs.declared.entry.Entry.{Entry}
use Rattle.hub_model.specs.declared.entry.Entry.TheVariants.{Fetch}
use Rattle.hub_model.specs.Desk.{IsPrefix}
use Rattle.hub_model.specs.Journal.{Finding, absent, present, queried, result_at}
use Rattle.hub_model.specs.Legal.{IsLegal}
use Rattle.hub_model.specs.Setting.{Setting}
use Rattle.hub_model.specs.Step.{state_of}
use Rattle.client_model.specs.declared.reply.Reply.{Reply}
use Rattle.client_model.specs.Issued.{Has, IsIssued, IsFetched}
use Rattle.client_session.specs.declared.ask.ClientAsk.{ClientAsk}
use Rattle.client_session.specs.declared.ask.ClientAsk.TheVariants as ask
use Rattle.client_session.specs.declared.ask.LinkRefusal.{LinkRefusal}
use Rattle.client_session.specs.declared.read_out.ReadOut.{ReadOut}
use Rattle.client_session.specs.declared.read_out.Way.TheVariants as way
use Rattle.client_session.specs.declared.reading.Chosen.{Chosen}
use Rattle.client_session.specs.declared.reading.Chosen.TheVariants as chosen
use Rattle.client_session.specs.declared.reading.Position.{Position}
use Rattle.client_session.specs.declared.refusal.SessionRefusal.{SessionRefusal}
use Rattle.client_session.specs.Link.{Exchange, through, direct, LinkView, Went, Tells, IsTold, Calls, Passed, is_read_status}
use Rattle.client_session.specs.Read.{body_in, body_of, lowest, by_server, by_copy, unless_cause, IsChosenBy, IsReadBy, sight_by, HoldsIn, HoldsFor, Holds, IsResultIn, IsResult}

-- ---- the held page stays one of the history

prefix_on : (xs ys zs : List Entry) → IsPrefix xs ys → IsPrefix ys zs → IsPrefix xs zs
prefix_on xs ys zs a b = (a.0 ++ b.0, sym (append_assoc xs a.0 b.0) ∙ ap (λ (l : List Entry). l ++ b.0) a.1 ∙ b.1)

fetched_on : (g : Setting) (old longer : List Entry) (p : Page) → IsPrefix old longer → IsFetched g old p → IsFetched g longer p
fetched_on g old longer p grew f = record {
  before = f.before;
  moment = f.moment;
  begins = prefix_on (f.before ++ Fetch f.moment ∷ []) old longer f.begins grew;
  is = f.is;
}

holds_on : (g : Setting) (held : Option Page) (old longer : List Entry) (x : Exchange) → IsTold g old longer x → HoldsIn g held old → HoldsIn g held longer
holds_on g None old longer x told holds = told.legal holds
holds_on g (Some p) old longer x told holds = (told.legal holds.0, fetched_on g old longer p told.grew holds.1)

holds_told : (g : Setting) (held : Option Page) (old new : Option (List Entry)) (x : Exchange) → Tells g old new x → HoldsFor g held old → HoldsFor g held new
holds_told g held None new x told holds = subst (λ (h : Option (List Entry)). HoldsFor g held h) (sym told) tt
holds_told g held (Some old) new x told holds = subst (λ (h : Option (List Entry)). HoldsFor g held h) (sym told.1) (holds_on g held old told.0 x told.2 holds)

pub went_holds : (v w : LinkView) (x : Exchange) (held : Option Page) → Went v w x → Holds v held → Holds w held
went_holds v w x held went holds = subst (λ (g : Setting). HoldsFor g held w.history) (sym went.setting) (holds_told v.setting held v.history w.history x went.tells holds)

pub passed_holds : {L : Type 0} (at : L → LinkView) (answers : L → Exchange → L → Type 0) (first : L) (xs : List Exchange) (last : L) → Passed (Calls at answers) first xs last
    → (held : Option Page) → Holds (at first) held → Holds (at last) held
passed_holds at answers first [] last e held holds = subst (λ l. Holds (at l) held) e holds
passed_holds at answers first (x ∷ xs) last p held holds = passed_holds at answers p.0 xs last p.2 held (went_holds (at first) (at p.0) x held p.1.1 holds)

-- ---- no answer is below the front and the floor

-- an answer of the server is not below what is asked of it
if_server : (a b : Bool) (out : ReadOut) (e f : SessionRefusal) (Q : ReadOut → Type 0) → (b ≡ false → Q out) → IfOk (if a then (if b then Err e else Ok out) else Err f) Q
if_server true true out e f Q h = tt
if_server true false out e f Q h = h refl
if_server false b out e f Q h = tt

server_bounded : (p : Position) (cause : Why) (told : Result Reply LinkRefusal) → IfOk (by_server p cause told) (λ out. lowest p ≤ out.commit)
server_bounded p cause (Err refused) = tt
server_bounded p cause (Ok reply) =
    if_server (is_read_status reply.status) (nat_lt reply.commit (lowest p)) (record { body = body_in reply; commit = reply.commit; way = way.Direct cause }) _ _
    (λ (out : ReadOut). lowest p ≤ out.commit) (λ b. ltb-false reply.commit (lowest p) b)

-- what was answered, and whether the server is to be asked
answered_or : Result ReadOut SessionRefusal → Chosen → Result ReadOut SessionRefusal
answered_or r (chosen.Answered x) = x
answered_or r (chosen.Asks cause) = r

asks : Chosen → Bool
asks (chosen.Answered x) = false
asks (chosen.Asks cause) = true

abbrev copy_out : Position → Reply → ReadOut
copy_out p reply = record { body = body_in reply; commit = commit_with p.sight reply.commit; way = way.Cached }

if_copy : (a : Bool) (w : Option Why) (p : Position) (reply : Reply) (f : SessionRefusal) (result : Result ReadOut SessionRefusal) (Q : ReadOut → Type 0)
    → (if a then unless_cause p reply w else chosen.Answered (Err f)) ≡ chosen.Answered result → (w ≡ None → Q (copy_out p reply)) → IfOk result Q
unfolding answered_or asks
if_copy true None p reply f result Q e h = subst (λ (r : Result ReadOut SessionRefusal). IfOk r Q) (ap (answered_or result) e) (h refl)
if_copy true (Some cause) p reply f result Q e h = absurd (true≢false (ap asks e))
if_copy false w p reply f result Q e h = subst (λ (r : Result ReadOut SessionRefusal). IfOk r Q) (ap (answered_or result) e) tt

-- a copy without a cause to ask the server is accepted
abbrev pub Accepts : Type 0
Accepts = (l : Level) (sight : Option Sight) (listed : Bool) (commit until floor : ℕ) → why_of l sight listed commit until floor ≡ None → IsTrue (is_accepted sight commit until floor)

accepted : Accepts → (p : Position) (reply : Reply) → why_before p.level p.sight p.is_whitelisted ≡ None → why_with p.sight p.is_whitelisted reply.commit reply.until p.floor ≡ None
    → IsTrue (is_accepted p.sight reply.commit reply.until p.floor)
accepted law p reply before no_cause =
    law p.level p.sight p.is_whitelisted reply.commit reply.until p.floor (ap (λ (w : Option Why). first_why w (why_with p.sight p.is_whitelisted reply.commit reply.until p.floor)) before ∙ no_cause)

copy_bounded : Accepts → (p : Position) (told : Result Reply LinkRefusal) (result : Result ReadOut SessionRefusal) → why_before p.level p.sight p.is_whitelisted ≡ None
    → by_copy p told ≡ chosen.Answered result → IfOk result (λ out. lowest p ≤ out.commit)
unfolding answered_or
copy_bounded law p (Err refused) result before e = subst (λ (r : Result ReadOut SessionRefusal). IfOk r (λ out. lowest p ≤ out.commit)) (ap (answered_or result) e) tt
copy_bounded law p (Ok reply) result before e =
    if_copy (is_read_status reply.status) (why_with p.sight p.is_whitelisted reply.commit reply.until p.floor) p reply _ result (λ (out : ReadOut). lowest p ≤ out.commit) e (λ no_cause.
    let parts = and_parts _ _ (accepted law p reply before no_cause) in
    let high = leb-true p.floor (commit_with p.sight reply.commit) parts.1 in
    omega (arith, high))

-- of all shapes of the calls
pub bounded : Accepts → (p : Position) (first second : ClientAsk) (xs : List Exchange) (result : Result ReadOut SessionRefusal) → IsChosenBy p first second xs result
    → IfOk result (λ out. lowest p ≤ out.commit)
bounded law p first second [] result by = subst (λ (r : Result ReadOut SessionRefusal). IfOk r (λ out. lowest p ≤ out.commit)) (sym by) tt
bounded law p first second (direct asked told ∷ []) result by = subst (λ (r : Result ReadOut SessionRefusal). IfOk r (λ out. lowest p ≤ out.commit)) (sym by.3) (server_bounded p by.0 told)
bounded law p first second (through asked told ∷ []) result by = copy_bounded law p told result by.0 by.2
bounded law p first second (through asked told ∷ direct asked_then told_then ∷ []) result by =
    subst (λ (r : Result ReadOut SessionRefusal). IfOk r (λ out. lowest p ≤ out.commit)) (sym by.5) (server_bounded p by.0 told_then)
bounded law p first second xs result by = absurd by

-- ---- over a link that tells its history the answer is the result

issued_body : (f : Finding) (reply : Reply) → Has f reply → body_in reply ≡ body_of f
issued_body absent reply has = rw (has.status_is) refl
issued_body (present version tree) reply has = rw (has.status_is, has.version_is, has.body_is) refl
issued_body (queried result) reply has = rw (has.status_is, has.version_is, has.body_is) refl

-- the law of fresh replies
abbrev pub Fresh : Type 0
Fresh = (g : Setting) (history : List Entry) (p : Page) (key : KeyShape) (reply : Reply) → IsLegal g history → IsFetched g history p → IsIssued g history key reply
    → IsTrue (is_accepted (Some (sight_of p (key_text key))) reply.commit reply.until 0)
    → result_at key (state_of g history).journal reply.commit ≡ result_at key (state_of g history).journal (max reply.commit p.front)

-- accepted at a floor is accepted without one
free : (sight : Option Sight) (commit until floor : ℕ) → IsTrue (is_accepted sight commit until floor) → IsTrue (is_accepted sight commit until 0)
free sight commit until floor h = and_from _ _ (and_parts _ _ h).0 (le-leb 0 (commit_with sight commit) (omega arith))

-- the result at the copy's commit is that at the commit of the answer
same_result : Fresh → (g : Setting) (history : List Entry) (held : Option Page) (key : KeyShape) (reply : Reply) (floor : ℕ) → HoldsIn g held history → IsIssued g history key reply
    → IsTrue (is_accepted (sight_by held key) reply.commit reply.until floor)
    → result_at key (state_of g history).journal reply.commit ≡ result_at key (state_of g history).journal (commit_with (sight_by held key) reply.commit)
same_result law g history None key reply floor holds issued h =
    let e : reply.commit ≡ max reply.commit 0 = omega arith in ap (result_at key (state_of g history).journal) e
same_result law g history (Some p) key reply floor holds issued h =
    law g history p key reply holds.0 holds.1 issued (free (Some (sight_of p (key_text key))) reply.commit reply.until floor h)

-- what an answer is to be, in a history that is told
abbrev IsResultOf : Setting → List Entry → KeyShape → ReadOut → Type 0
IsResultOf g history key out = out.body ≡ body_of (result_at key (state_of g history).journal out.commit)

copy_result : Fresh → (g : Setting) (history : List Entry) (held : Option Page) (key : KeyShape) (reply : Reply) (p : Position) → p.sight ≡ sight_by held key → HoldsIn g held history
    → IsIssued g history key reply → IsTrue (is_accepted p.sight reply.commit reply.until p.floor) → IsResultOf g history key (copy_out p reply)
copy_result law g history held key reply p is holds issued h =
    issued_body (result_at key (state_of g history).journal reply.commit) reply issued.has
    ∙ ap body_of (same_result law g history held key reply p.floor holds issued (subst (λ (s : Option Sight). IsTrue (is_accepted s reply.commit reply.until p.floor)) is h)
    ∙ ap (λ (s : Option Sight). result_at key (state_of g history).journal (commit_with s reply.commit)) (sym is))

-- of each outcome where no history is told
untold : (g : Setting) (new : Option (List Entry)) (key : KeyShape) (result : Result ReadOut SessionRefusal) → new ≡ None → IfOk result (λ out. IsResultIn g new key out)
untold g new key (Ok out) e = subst (λ (h : Option (List Entry)). IsResultIn g h key out) (sym e) tt
untold g new key (Err refused) e = tt

told_in : (g : Setting) (new : Option (List Entry)) (history : List Entry) (key : KeyShape) (result : Result ReadOut SessionRefusal) → new ≡ Some history
    → IfOk result (λ out. IsResultOf g history key out) → IfOk result (λ out. IsResultIn g new key out)
told_in g new history key (Ok out) e h = subst (λ (o : Option (List Entry)). IsResultIn g o key out) (sym e) h
told_in g new history key (Err refused) e h = tt

server_result : (g : Setting) (old new : Option (List Entry)) (key : KeyShape) (no_cache : Bool) (p : Position) (cause : Why) (told : Result Reply LinkRefusal)
    → Tells g old new (direct (ask.Read key no_cache) told) → IfOk (by_server p cause told) (λ out. IsResultIn g new key out)
server_result g old new key no_cache p cause (Err refused) told = tt
server_result g None new key no_cache p cause (Ok reply) told = untold g new key (by_server p cause (Ok reply)) told
server_result g (Some old) new key no_cache p cause (Ok reply) told =
    told_in g new told.0 key (by_server p cause (Ok reply)) told.1
    (if_server (is_read_status reply.status) (nat_lt reply.commit (lowest p)) (record { body = body_in reply; commit = reply.commit; way = way.Direct cause }) _ _
    (λ (out : ReadOut). IsResultOf g told.0 key out) (λ b. issued_body (result_at key (state_of g told.0).journal reply.commit) reply told.2.of.has))

copy_fresh : Accepts → Fresh → (g : Setting) (old new : Option (List Entry)) (held : Option Page) (key : KeyShape) (no_cache : Bool) (p : Position) (told : Result Reply LinkRefusal)
    (result : Result ReadOut SessionRefusal) → p.sight ≡ sight_by held key → HoldsFor g held old → why_before p.level p.sight p.is_whitelisted ≡ None
    → Tells g old new (through (ask.Read key no_cache) told) → by_copy p told ≡ chosen.Answered result → IfOk result (λ out. IsResultIn g new key out)
unfolding answered_or
copy_fresh accepts law g old new held key no_cache p (Err refused) result is holds before tells e =
    subst (λ (r : Result ReadOut SessionRefusal). IfOk r (λ out. IsResultIn g new key out)) (ap (answered_or result) e) tt
copy_fresh accepts law g None new held key no_cache p (Ok reply) result is holds before tells e = untold g new key result tells
copy_fresh accepts law g (Some old) new held key no_cache p (Ok reply) result is holds before tells e =
    told_in g new tells.0 key result tells.1
    (if_copy (is_read_status reply.status) (why_with p.sight p.is_whitelisted reply.commit reply.until p.floor) p reply _ result (λ (out : ReadOut). IsResultOf g tells.0 key out) e (λ no_cause.
    copy_result law g tells.0 held key reply p is (holds_on g held old tells.0 (through (ask.Read key no_cache) (Ok reply)) tells.2 holds) tells.2.of (accepted accepts p reply before no_cause)))

-- the answer of a server that tells, as it is asked for the key
server_fresh : (v w : LinkView) (key : KeyShape) (asked : ClientAsk) (p : Position) (cause : Why) (told : Result Reply LinkRefusal) → asked ≡ ask.Read key true → Went v w (direct asked told)
    → IfOk (by_server p cause told) (λ out. IsResult w key out)
server_fresh v w key asked p cause told is went =
    subst (λ (g : Setting). IfOk (by_server p cause told) (λ out. IsResultIn g w.history key out)) (sym went.setting)
    (server_result v.setting v.history w.history key true p cause told (subst (λ (a : ClientAsk). Tells v.setting v.history w.history (direct a told)) is went.tells))

caches_fresh : Accepts → Fresh → (v w : LinkView) (held : Option Page) (key : KeyShape) (asked : ClientAsk) (p : Position) (told : Result Reply LinkRefusal) (result : Result ReadOut SessionRefusal)
    → p.sight ≡ sight_by held key → Holds v held → why_before p.level p.sight p.is_whitelisted ≡ None → asked ≡ ask.Read key false → Went v w (through asked told)
    → by_copy p told ≡ chosen.Answered result → IfOk result (λ out. IsResult w key out)
caches_fresh accepts law v w held key asked p told result sight holds before is went e =
    subst (λ (g : Setting). IfOk result (λ out. IsResultIn g w.history key out)) (sym went.setting)
    (copy_fresh accepts law v.setting v.history w.history held key false p told result sight holds before
    (subst (λ (a : ClientAsk). Tells v.setting v.history w.history (through a told)) is went.tells) e)

-- of all shapes of the calls
pub fresh : {L : Type 0} (at : L → LinkView) (answers : L → Exchange → L → Type 0) → Accepts → Fresh → (p : Position) (key : KeyShape) (held : Option Page) → p.sight ≡ sight_by held key
    → (first : L) (xs : List Exchange) (last : L) (result : Result ReadOut SessionRefusal) → Passed (Calls at answers) first xs last → IsReadBy p key xs result → Holds (at first) held
    → IfOk result (λ out. IsResult (at last) key out)
fresh at answers accepts law p key held sight first [] last result passed by holds = subst (λ (r : Result ReadOut SessionRefusal). IfOk r (λ out. IsResult (at last) key out)) (sym by) tt
fresh at answers accepts law p key held sight first (direct asked told ∷ []) last result passed by holds =
    subst (λ (r : Result ReadOut SessionRefusal). IfOk r (λ out. IsResult (at last) key out)) (sym by.3)
    (subst (λ l. IfOk (by_server p by.0 told) (λ out. IsResult (at l) key out)) passed.2 (server_fresh (at first) (at passed.0) key asked p by.0 told by.2 passed.1.1))
fresh at answers accepts law p key held sight first (through asked told ∷ []) last result passed by holds =
    subst (λ l. IfOk result (λ out. IsResult (at l) key out)) passed.2
    (caches_fresh accepts law (at first) (at passed.0) held key asked p told result sight holds by.0 by.1 passed.1.1 by.2)
fresh at answers accepts law p key held sight first (through asked told ∷ direct asked_then told_then ∷ []) last result passed by holds =
    subst (λ (r : Result ReadOut SessionRefusal). IfOk r (λ out. IsResult (at last) key out)) (sym by.5)
    (subst (λ l. IfOk (by_server p by.0 told_then) (λ out. IsResult (at l) key out)) passed.2.2
    (server_fresh (at passed.0) (at passed.2.0) key asked_then p by.0 told_then by.4 passed.2.1.1))
fresh at answers accepts law p key held sight first xs last result passed by holds = absurd by
