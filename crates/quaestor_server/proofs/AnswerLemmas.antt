-- A desk is made ready, and then answers.
use Rattle.std.proofs.Common.{◌≡◌, ℕ, ◌⊎◌, Bool, true, false, List, ◌++◌, length, nat_lt, Result, Ok, Err, IfOk, IsOk, refl, sym, ap, ◌∙◌, subst, inl, inr}
use Rattle.std.proofs.lemmas.Bool.{cases_Bool}
use Rattle.http_front.specs.Hosts.{ask_to, is_early_to}
use Rattle.http_front.specs.Routes.{all_routes}
use Rattle.http_front.specs.declared.ask.Ask.{Ask}
use Rattle.http_front.specs.declared.ask.Ask.TheVariants as asks
use Rattle.http_front.specs.declared.refused.Refused.{Refused}
use Rattle.http_front.specs.declared.routes.Served.{Served}
use Rattle.http_front.specs.declared.told.Told.{Told}
use Rattle.http_front.specs.declared.told.Told.TheVariants as answers
use Rattle.http_message.specs.Message.{Message}
use Rattle.hub_core.specs.PageRoom.{PageRoomView, IsRoomFor}
use Rattle.hub_desk.specs.declared.trim.Trim.TheVariants.{All}
use Rattle.hub_desk.specs.Desk.{matching, MatchesAll, dropping_all, DropsOld, IsWholeDropOf}
use Rattle.commit_book.specs.declared.change.Change.{Change}
use Rattle.hub_model.specs.declared.entry.Condition.{Condition}
use Rattle.hub_model.specs.declared.entry.Dropped.{Dropped}
use Rattle.hub_model.specs.declared.entry.Entry.{Entry}
use Rattle.hub_model.specs.declared.entry.Entry.TheVariants.{Purges}
use Rattle.hub_model.specs.declared.entry.Matched.{Matched}
use Rattle.hub_model.specs.declared.entry.PurgeReply.{PurgeReply}
use Rattle.hub_model.specs.Desk.{Makes, Learns}
use Rattle.hub_model.specs.Legal.{IsLegal}
use Rattle.hub_model.specs.Reply.{purged, told_of}
use Rattle.hub_model.specs.Setting.{Setting}
use Rattle.hub_model.specs.State.{State}
use Rattle.hub_model.specs.Step.{is_accepted, state_of}
use Rattle.q_base.specs.declared.memory.Memory.{Memory as NoMemory}
use Rattle.quaestor_server.specs.Answer.{MayFail, unread, not_ready, ran_out, unrecorded, IsAnswer, IsShown, Shows, serves, fails}
use Rattle.quaestor_server.specs.Ask.{IsFresh}
use Rattle.quaestor_server.proofs.PrefixLemmas.{learns-makes, learns-learns, fresh_before}

-- a ready desk that has read what is asked may fail at the entry alone
entry_fails : (g : Setting) (unready : Bool) (known : List Entry) (early : Bool) (asked : Result Ask Refused) → MayFail g false known true asked → MayFail g unready known early asked
entry_fails g unready known early asked (unread never) = absurd (cc)
entry_fails g unready known early asked (not_ready never) = absurd (cc)
entry_fails g unready known early asked (ran_out may) = ran_out may
entry_fails g unready known early asked (unrecorded keeps write) = unrecorded keeps write

-- what a ready desk answered is answered
answered_ready : (g : Setting) (unready : Bool) (old mid new : List Entry) (mine mine_mid mine_new : List (ℕ × Entry)) (moment : ℕ) (early : Bool) (asked : Result Ask Refused) (told : Told) (page : List ℕ) → Learns g old mid mine mine_mid → IsAnswer g false mid new mine_mid mine_new moment true asked told page → IsAnswer g unready old new mine mine_new moment early asked told page
answered_ready g unready old mid new mine mine_mid mine_new moment early asked told page l (serves s) =
    serves (record {
      entry = s.entry;
      replied = s.replied;
      made = learns-makes g old mid new mine mine_mid mine_new s.entry s.replied l s.made;
      is_of = s.is_of;
      fresh = fresh_before g old mid s.entry l.grew s.fresh;
      told_is = s.told_is;
    })
answered_ready g unready old mid new mine mine_mid mine_new moment early asked told page l (fails why f) =
    fails (entry_fails g unready new early asked why) (record { learns = learns-learns g old mid new mine mine_mid mine_new l f.learns; told_is = f.told_is })

-- a desk that is made ready keeps its configuration, and then answers what was read
pub answered_then : (g g' : Setting) (unready : Bool) (old mid new : List Entry) (mine mine_mid mine_new : List (ℕ × Entry)) (moment : ℕ) (early : Bool) (read : Result (Result Ask Refused) NoMemory) (known asked : Result Ask Refused) (told : Told) (page : List ℕ) → read ≡ Ok known → IfOk read (λ k. k ≡ asked) → g' ≡ g → Learns g old mid mine mine_mid → IsAnswer g' false mid new mine_mid mine_new moment true known told page → IsAnswer g unready old new mine mine_new moment early asked told page
answered_then g g' unready old mid new mine mine_mid mine_new moment early read known asked told page read_is asks same l m =
    let known_is : known ≡ asked = subst (λ (r : Result (Result Ask Refused) NoMemory). IfOk r (λ k. k ≡ asked)) read_is asks in
    answered_ready g unready old mid new mine mine_mid mine_new moment early asked told page l
    (subst (λ (x : Setting). IsAnswer x false mid new mine_mid mine_new moment true asked told page) same
    (subst (λ (a : Result Ask Refused). IsAnswer g' false mid new mine_mid mine_new moment true a told page) known_is m))

-- what a desk answered is shown by one that has seen no more since
pub shown_of : (g g' : Setting) (unready : Bool) (old mid new : List Entry) (mine mine_mid mine_new : List (ℕ × Entry)) (moment : ℕ) (early : Bool) (asked : Result Ask Refused) (told shown : Told) (page : List ℕ) → g ≡ g' → new ≡ mid → mine_new ≡ mine_mid
    → IsAnswer g unready old mid mine mine_mid moment early asked told page → IsShown g' told shown → Shows g unready old new mine mine_new moment early asked shown page
shown_of g g' unready old mid new mine mine_mid mine_new moment early asked told shown page same seen_is mine_is answer shown_is = record {
  told = told;
  answer = subst (λ (l : List Entry). IsAnswer g unready old l mine mine_new moment early asked told page) (sym seen_is)
      (subst (λ (l : List (ℕ × Entry)). IsAnswer g unready old mid mine l moment early asked told page) (sym mine_is) answer);
  shown_is = subst (λ (x : Setting). IsShown x told shown) (sym same) shown_is;
}

-- what could not be read is not known early
pub not_early : (early : Bool) (read : Result (Result Ask Refused) NoMemory) (lacking : NoMemory) → read ≡ Err lacking → (early ≡ true → IsOk read) → early ≡ false
not_early true read lacking is is_read = let none : IsOk {T = Result Ask Refused} {E = NoMemory} (Err lacking) = subst (λ (r : Result (Result Ask Refused) NoMemory). IsOk r) is (is_read refl) in absurd (cc)
not_early false read lacking is is_read = refl

-- what is known early is read, by all routes and the hosts that are known
pub early_all : (routes : Served) (hosts known : List ℕ) (m : Message) (read : Result (Result Ask Refused) NoMemory) → routes ≡ all_routes → hosts ≡ known → (is_early_to hosts routes m ≡ true → IsOk read) → is_early_to known all_routes m ≡ true → IsOk read
early_all routes hosts known m read same alike is_read =
    subst (λ (r : Served). is_early_to known r m ≡ true → IsOk read) same
    (subst (λ (h : List ℕ). is_early_to h routes m ≡ true → IsOk read) alike is_read)

-- an answer leaves a legal history, and the page buffer as it was made
pub can_still : (g g' : Setting) (unready : Bool) (old new : List Entry) (mine mine_new : List (ℕ × Entry)) (moment : ℕ) (early : Bool) (asked : Result Ask Refused) (told : Told) (page : List ℕ) (room : PageRoomView) → g' ≡ g → IsLegal g old → IsAnswer g unready old new mine mine_new moment early asked told page → IsRoomFor g room → IsLegal g' new × IsRoomFor g' room
can_still g g' unready old new mine mine_new moment early asked told page room same legal answer fits =
    let left : IsLegal g new = elim answer [ serves s ↦ s.made.legal | fails why f ↦ f.learns.legal legal ] in
    subst (λ (x : Setting). IsLegal x new × IsRoomFor x room) (sym same) (left, fits)

-- the origins that are known are still those of the configuration
pub origins_still : (g g' : Setting) (origins : List ℕ) → g' ≡ g → origins ≡ g.origins → origins ≡ g'.origins
origins_still g g' origins same is = is ∙ ap (λ (x : Setting). x.origins) (sym same)

-- so are the hosts
pub hosts_still : (g g' : Setting) (hosts : List ℕ) → g' ≡ g → hosts ≡ g.hosts → hosts ≡ g'.hosts
hosts_still g g' hosts same is = is ∙ ap (λ (x : Setting). x.hosts) (sym same)

-- what was read by all routes and those hosts
pub read_all : (routes : Served) (hosts known : List ℕ) (m : Message) (read : Result (Result Ask Refused) NoMemory) → routes ≡ all_routes → hosts ≡ known → IfOk read (λ asked. asked ≡ ask_to hosts routes m) → IfOk read (λ asked. asked ≡ ask_to known all_routes m)
read_all routes hosts known m read same alike asks =
    subst (λ (r : Served). IfOk read (λ asked. asked ≡ ask_to known r m)) same
    (subst (λ (h : List ℕ). IfOk read (λ asked. asked ≡ ask_to h routes m)) alike asks)

-- a match of all commits reads nothing
fresh_matching : (g : Setting) (old : List Entry) (s : State) (moment : ℕ) (e : Entry) → e ≡ matching s moment → IsFresh g old e
fresh_matching g old s moment e is = subst (λ (x : Entry). IsFresh g old x) (sym is) (elim (cases_Bool (nat_lt s.front (length s.journal))) [
  | inl behind ↦ rw behind tt
  | inr there ↦ rw there tt
])

-- a desk that matched all commits served that ask
pub made_match : (g : Setting) (old new : List Entry) (mine mine_new : List (ℕ × Entry)) (moment : ℕ) (asked : Result Ask Refused) (match : Matched) (page : List ℕ) → asked ≡ Ok asks.MatchAll → MatchesAll g old new mine mine_new moment match → IsAnswer g false old new mine mine_new moment true asked (answers.Match match) page
made_match g old new mine mine_new moment asked match page asked_is m =
    subst (λ (a : Result Ask Refused). IsAnswer g false old new mine mine_new moment true a (answers.Match match) page) (sym asked_is) (serves (record {
      entry = m.entry;
      replied = m.replied;
      made = m.made;
      is_of = m.entry_is;
      fresh = fresh_matching g old (state_of g (m.made.before ++ m.made.helps)) moment m.entry m.entry_is;
      told_is = (match, m.told_is, refl);
    }))

-- a drop of all old changes reads nothing
fresh_dropping : (g : Setting) (old : List Entry) (s : State) (moment : ℕ) (e : Entry) → e ≡ dropping_all s moment → IsFresh g old e
fresh_dropping g old s moment e is = subst (λ (x : Entry). IsFresh g old x) (sym is) (elim (cases_Bool (nat_lt s.horizon s.front)) [
  | inl above ↦ rw above tt
  | inr there ↦ rw there tt
])

-- a desk that dropped all old changes served that ask, by the law that a tick of it tells the front
pub made_drop : ((g : Setting) (old new : List Entry) (mine_old mine_new : List (ℕ × Entry)) (moment : ℕ) (told : Dropped) → (d : DropsOld g old new mine_old mine_new moment All told) → IsWholeDropOf d.replied told)
    → (g : Setting) (old new : List Entry) (mine mine_new : List (ℕ × Entry)) (moment : ℕ) (asked : Result Ask Refused) (drop : Dropped) (page : List ℕ) → asked ≡ Ok asks.Horizon → DropsOld g old new mine mine_new moment All drop → IsAnswer g false old new mine mine_new moment true asked (answers.Dropped drop) page
made_drop law g old new mine mine_new moment asked drop page asked_is d =
    subst (λ (a : Result Ask Refused). IsAnswer g false old new mine mine_new moment true a (answers.Dropped drop) page) (sym asked_is) (serves (record {
      entry = d.entry;
      replied = d.replied;
      made = d.made;
      is_of = d.entry_is;
      fresh = fresh_dropping g old (state_of g (d.made.before ++ d.made.helps)) moment d.entry d.entry_is;
      told_is = (drop, law g old new mine mine_new moment drop d, refl);
    }))

-- a desk that told purges served that ask
pub made_purges : (g : Setting) (old new : List Entry) (mine mine_new : List (ℕ × Entry)) (moment from : ℕ) (head : Bool) (asked : Result Ask Refused) (reply : PurgeReply) (page : List ℕ) → asked ≡ Ok (asks.Purges from head) → Makes g old new mine mine_new (Purges moment from) (purged (told_of reply)) → IsAnswer g false old new mine mine_new moment true asked (answers.Purges reply) page
made_purges g old new mine mine_new moment from head asked reply page asked_is m =
    subst (λ (a : Result Ask Refused). IsAnswer g false old new mine mine_new moment true a (answers.Purges reply) page) (sym asked_is) (serves (record {
      entry = Purges moment from;
      replied = purged (told_of reply);
      made = m;
      is_of = refl;
      fresh = tt;
      told_is = (reply, refl, refl);
    }))

-- a desk that had no memory for a write that it would accept, or for the record of one, answered so
pub lacked_write : (g : Setting) (old new : List Entry) (mine mine_new : List (ℕ × Entry)) (moment : ℕ) (change : Change) (condition : Condition) (asked : Result Ask Refused) (page : List ℕ) → asked ≡ Ok (asks.Write change condition)
    → (g.keeps ≡ true) ⊎ (is_accepted g (state_of g new) change condition ≡ true) → Learns g old new mine mine_new → IsAnswer g false old new mine mine_new moment true asked answers.Memory page
lacked_write g old new mine mine_new moment change condition asked page asked_is why l =
    let lacks : MayFail g false new true (Ok (asks.Write change condition)) = elim why [ inl keeps ↦ unrecorded keeps tt | inr accepted ↦ ran_out accepted ] in
    subst (λ (a : Result Ask Refused). IsAnswer g false old new mine mine_new moment true a answers.Memory page) (sym asked_is) (fails lacks (record { learns = l; told_is = refl }))
